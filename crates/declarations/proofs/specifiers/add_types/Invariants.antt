use Rattle.std.proofs.Common.{◌≡◌, drop}
use Rattle.lisp_base.specs.Reading.{spec_of}
use Rattle.declarations.specs.Declarations.{AreLawful, add_type, declared_of, read_each}
use Rattle.declarations.proofs.specifiers.add_types.Given as goal

abbrev pub invariant-loop-variable : goal.invariant-loop-variable
invariant-loop-variable l =
    (read_each (add_type (spec_of l.spec)) (declared_of l.declared) (drop l.variable-index l.variables) ≡ read_each (add_type (spec_of l.spec)) (declared_of l.initial.declared) l.variables) × AreLawful l.symbols (declared_of l.declared)
