use Rattle.std.proofs.Common.{ℕ, sym, ap, ◌∙◌, arith}
use Rattle.rv_machine.proofs.DoesLaws.{does_as, no_call}
use Rattle.rv_machine.specs.View.{state}
use Rattle.rv_isa.specs.Machine.{calls, ended}
use Rattle.rv_isa.specs.declared.ending.Ending.TheVariants as ending
use Rattle.rv_machine.proofs.machine.Machine.call.Goals as goal

pub returns-in-1 : goal.returns-in-1
returns-in-1 c =
    does_as (c.write.ensures c.args.input.now) (λ output.
    ap (λ (n : ℕ). calls n (state output c.args.input.now c.args.self.now)) (sym c.in-1.is ∙ c.register.ensures))

pub returns-in-4 : goal.returns-in-4
returns-in-4 c =
    does_as (c.fail.ensures c.args.input.now) (λ output.
    ap (λ (n : ℕ). calls n (state output c.args.input.now c.args.self.now)) (sym c.in-4.is ∙ c.register.ensures))

pub returns-in-3 : goal.returns-in-3
returns-in-3 c =
    does_as (c.end.ensures c.args.input.now) (λ output.
    let m = state output c.args.input.now c.args.self.now in
    ap (λ (a : ℕ). ended (ending.Value a) m) c.register-in-3.ensures ∙ ap (λ (n : ℕ). calls n m) (sym c.in-3.is ∙ c.register.ensures))

pub returns-in-5 : goal.returns-in-5
returns-in-5 c =
    does_as (c.end-in-5.ensures c.args.input.now) (λ output.
    ap (λ (n : ℕ). calls n (state output c.args.input.now c.args.self.now)) (sym c.in-5.is ∙ c.register.ensures))

pub returns-in-6 : goal.returns-in-6
returns-in-6 c =
    does_as (c.end-in-6.ensures c.args.input.now) (λ output.
    ap (λ (n : ℕ). calls n (state output c.args.input.now c.args.self.now)) (sym c.in-6.is ∙ c.register.ensures))

pub returns-in_default : goal.returns-in_default
returns-in_default c =
    does_as (c.trap.ensures c.args.input.now) (λ output.
    let h = c.in_default in
    rw (← c.register.ensures) (no_call c.register.result (state output c.args.input.now c.args.self.now) (omega arith) (omega arith) (omega arith) (omega arith) (omega arith) (omega arith)))
