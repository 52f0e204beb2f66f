use Rattle.std.proofs.Common.{◌≡◌, drop}
use Rattle.declarations.specs.Declarations.{AreLawful, declared_of, read_each, read_specifier}
use Rattle.declarations.proofs.reading.read_all.Given as goal

abbrev pub invariant-loop-specifier : goal.invariant-loop-specifier
invariant-loop-specifier l =
    (read_each (read_specifier l.heap l.symbols) (declared_of l.declared) (drop l.specifier-index l.specifiers) ≡ read_each (read_specifier l.heap l.symbols) (declared_of l.initial.declared) l.specifiers) × AreLawful l.symbols (declared_of l.declared)
