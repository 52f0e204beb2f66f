use Rattle.std.proofs.Common.{inl, inr, arith}
use Rattle.rv_machine.proofs.DoesLaws.{does_as, no_kind, fails_with}
use Rattle.rv_machine.specs.View.{state}
use Rattle.rv_machine.proofs.machine.Machine.fail.Goals.{in_default-via-then-register-lt1, in_default-via-else-register-lt1+else-this-lt11}
use Rattle.rv_machine.proofs.machine.Machine.fail.Goals as goal

pub returns-in-1-to-10 : goal.returns-in-1-to-10
returns-in-1-to-10 c = λ input.
    does_as (c.end.ensures input) (λ output.
    rw (← c.register.ensures) (fails_with c.register.result _ _ _ (state output input c.args.self.now) (omega arith) (omega arith) c.register-in-1-to-10.ensures c.register-in-1-to-10-2.ensures c.register-in-1-to-10-3.ensures))

pub returns-in_default : goal.returns-in_default
returns-in_default c = λ input.
    does_as (c.trap.ensures input) (λ output. rw (← c.register.ensures) (no_kind c.register.result (state output input c.args.self.now)
    (elim c.in_default.branch [ in_default-via-then-register-lt1 w ↦ inl (omega arith) | in_default-via-else-register-lt1+else-this-lt11 w ↦ inr (omega arith) ])))
