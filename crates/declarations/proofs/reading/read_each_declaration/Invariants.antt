use Rattle.std.proofs.Common.{◌≡◌, drop}
use Rattle.declarations.specs.Declarations.{AreLawful, declared_of, read_each, read_declaration}
use Rattle.declarations.proofs.reading.read_each_declaration.Given as goal

abbrev pub invariant-loop-declaration : goal.invariant-loop-declaration
invariant-loop-declaration l =
    (read_each (read_declaration l.heap l.symbols) (declared_of l.declared) (drop l.declaration-index l.declarations) ≡ read_each (read_declaration l.heap l.symbols) (declared_of l.initial.declared) l.declarations) × AreLawful l.symbols (declared_of l.declared)
