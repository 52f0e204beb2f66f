use Rattle.std.proofs.Common.{ℕ, sym, ap, ◌∙◌}
use Rattle.rv_machine.proofs.DoesLaws.{does_as, loads_some, loads_none}
use Rattle.rv_isa.specs.Machine.{sets}
use Rattle.rv_machine.specs.Steps.{bytes_at}
use Rattle.rv_machine.specs.View.{space, state}
use Rattle.rv_machine.proofs.machine.Machine.load_bytes.Goals as goal

pub returns-in-Some : goal.returns-in-Some
returns-in-Some c = λ input.
    does_as (c.set.ensures input) (λ output.
    let old = c.args.self.now in
    let m = state output input old in
    ap (λ (v : ℕ). sets c.args.rd v m) c.load_value.ensures ∙ loads_some (space old) m c.args.op c.args.rd c.args.address c.in-Some.number (ap (λ (k : ℕ). bytes_at (space old) m.memory c.args.address k) (sym c.load_bytes.ensures.count) ∙ sym c.bytes.ensures.value ∙ c.in-Some.is))

pub returns-in-None : goal.returns-in-None
returns-in-None c = λ input.
    does_as (c.trap.ensures input) (λ output.
    let old = c.args.self.now in
    let m = state output input old in
    loads_none (space old) m c.args.op c.args.rd c.args.address (ap (λ (k : ℕ). bytes_at (space old) m.memory c.args.address k) (sym c.load_bytes.ensures.count) ∙ sym c.bytes.ensures.value ∙ c.in-None.is))
