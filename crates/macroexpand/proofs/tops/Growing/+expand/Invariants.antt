use Rattle.std.proofs.Common.{◌≡◌, drop, map}
use Rattle.std.specs.List.{All}
use Rattle.form_expander.specs.Keeping.{Keeps}
use Rattle.form_expander.specs.Reading.{scope_of, world_of}
use Rattle.file_expansion.specs.Tops.{pending}
use Rattle.file_expansion.specs.Laws.{Grows, IsThere, IsTopScope}
use Rattle.macroexpand.specs.Going.{IsGoing, Leads, form_pending, prelude_of, trees_of}
use Rattle.macroexpand.proofs.tops.Growing.+expand.Given as goal

abbrev pub decreases-expand : goal.decreases-expand
decreases-expand l = l.chain

abbrev pub invariant-loop-part : goal.invariant-loop-part
invariant-loop-part l = record {
  leads : Leads (prelude_of l.fn.self) (world_of l.fn.expander.world) (trees_of l.fn.self) (form_pending (scope_of l.fn.expander.scope) l.fn.has_policy l.fn.chain l.fn.form) (world_of l.expander.world) (trees_of l.self) (map (pending (scope_of l.expander.scope) l.has_own l.left) (drop l.part-index l.part-items));
  going : IsGoing l.self (world_of l.expander.world);
  grows : Grows (world_of l.fn.expander.world) (world_of l.expander.world);
  prelude : l.self.prelude ≡ l.fn.self.prelude;
  scope : scope_of l.expander.scope ≡ scope_of l.initial.expander.scope;
  top : IsTopScope (world_of l.expander.world) (scope_of l.expander.scope);
  there : All (IsThere (world_of l.expander.world)) l.part-items;
  keeps : Keeps l.fn.expander.world l.expander.world;
}
