use Rattle.std.proofs.Common.{◌≡◌, drop}
use Rattle.expansion.specs.Forms.{are_items}
use Rattle.form_expander.proofs.plans_of_control.are_items.Given as goal

abbrev pub invariant-loop-value : goal.invariant-loop-value
invariant-loop-value l = are_items l.heap (drop l.value-index l.values) ≡ are_items l.heap l.values
