use Rattle.std.proofs.Common.{◌≡◌, drop}
use Rattle.expansion.specs.Expanding.{with_tags}
use Rattle.form_expander.specs.Reading.{scope_of}
use Rattle.form_expander.proofs.scope.Scope.add_tags.Given as goal

abbrev pub invariant-loop-item : goal.invariant-loop-item
invariant-loop-item l = with_tags l.number (drop l.item-index l.items) (scope_of l.self) ≡ with_tags l.fn.number l.items (scope_of l.fn.self)
