use Rattle.std.proofs.Common.{arith, ◌≤◌}
use Rattle.core_form.specs.Facts.{greatest_symbol}
use Rattle.form_facts.proofs.SampleLaws.{least_symbol}
use Rattle.form_facts.proofs.named.greatest_symbol.Goals as goal

pub loop-item-init : goal.loop-item-init
loop-item-init c =
    let h : 1 ≤ greatest_symbol c.args.items.now = least_symbol c.args.items.now in
    record { all = omega arith; least = omega arith }
