use Rattle.std.proofs.Common.{◌≡◌, [], drop}
use Rattle.std.specs.List.{All}
use Rattle.form_expander.specs.Keeping.{Keeps}
use Rattle.form_expander.specs.Reading.{world_of}
use Rattle.file_expansion.specs.Files.{helpers}
use Rattle.file_expansion.specs.Laws.{IsThere}
use Rattle.macroexpand.specs.Going.{helpers_from}
use Rattle.macroexpand.specs.Preludes.{IsSoundPrelude}
use Rattle.macroexpand.proofs.preludes.expand_helpers.Given as goal

abbrev pub invariant-loop-read : goal.invariant-loop-read
invariant-loop-read l = record {
  follows : helpers (helpers_from l.prelude.items) (drop l.read-index l.forms) (world_of l.expander.world) ≡ helpers [] l.forms (world_of l.initial.expander.world);
  sound : IsSoundPrelude (world_of l.initial.expander.world) (world_of l.expander.world) l.prelude.items;
  there : All (λ f. IsThere (world_of l.expander.world) f.form) l.forms;
  keeps : Keeps l.initial.expander.world l.expander.world;
}
