use Rattle.std.proofs.Common.{◌≡◌, drop, map}
use Rattle.std.specs.List.{All}
use Rattle.form_expander.specs.Keeping.{Keeps}
use Rattle.form_expander.specs.Reading.{world_of}
use Rattle.file_expansion.specs.Files.{file_form}
use Rattle.file_expansion.specs.Laws.{IsThere}
use Rattle.macroexpand.specs.Going.{IsGoing, Leads, prelude_of, trees_of}
use Rattle.macroexpand.proofs.tops.Growing.expand_forms.Given as goal

abbrev pub invariant-loop-read : goal.invariant-loop-read
invariant-loop-read l = record {
  leads : Leads (prelude_of l.initial.self) (world_of l.initial.expander.world) (trees_of l.initial.self) (map file_form l.forms) (world_of l.expander.world) (trees_of l.self) (map file_form (drop l.read-index l.forms));
  going : IsGoing l.self (world_of l.expander.world);
  prelude : l.self.prelude ≡ l.initial.self.prelude;
  there : All (λ f. IsThere (world_of l.expander.world) f.form) l.forms;
  keeps : Keeps l.initial.expander.world l.expander.world;
}
