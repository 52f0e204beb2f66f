use Rattle.std.proofs.Common.{◌≡◌, ◌≤◌, drop, length}
use Rattle.declarations.specs.Declarations.{declared_of}
use Rattle.expansion.specs.Bindings.{nested}
use Rattle.form_expander.specs.Reading.{sketch_of}
use Rattle.form_expander.proofs.bindings.nested.Given as goal

abbrev pub invariant-loop-index : goal.invariant-loop-index
invariant-loop-index l = record {
  so_far : sketch_of l.made ≡ nested (declared_of l.declared) (drop l.index l.bindings) (sketch_of l.initial.made);
  within : l.index ≤ length l.bindings;
}
