use Rattle.std.proofs.Common.{inl, inr, arith}
use Rattle.rv_machine.proofs.DoesLaws.{does_as, no_char}
use Rattle.rv_machine.proofs.machine.Machine.write.Goals.{in_default-via-then-register-lt57344, in_default-via-else-register-lt57344+else-this-lt1114112}
use Rattle.rv_machine.proofs.machine.Machine.write.Goals as goal

pub returns-in_default : goal.returns-in_default
returns-in_default c = λ input.
    does_as (c.trap.ensures input) (λ output. rw (← c.register.ensures) (no_char c.register.result _
    (elim c.in_default.branch [ in_default-via-then-register-lt57344 w ↦ omega arith | in_default-via-else-register-lt57344+else-this-lt1114112 w ↦ omega arith ])
    (elim c.in_default.branch [ in_default-via-then-register-lt57344 w ↦ inl (omega arith) | in_default-via-else-register-lt57344+else-this-lt1114112 w ↦ inr (omega arith) ])))
