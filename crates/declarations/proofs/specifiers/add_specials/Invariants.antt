use Rattle.std.proofs.Common.{◌≡◌, drop}
use Rattle.declarations.specs.Declarations.{add_special, declared_of, read_each}
use Rattle.declarations.proofs.specifiers.add_specials.Given as goal

abbrev pub invariant-loop-variable : goal.invariant-loop-variable
invariant-loop-variable l =
    (read_each add_special (declared_of l.declared) (drop l.variable-index l.variables) ≡ read_each add_special (declared_of l.initial.declared) l.variables) × (l.declared.types ≡ l.initial.declared.types)
