use Rattle.std.proofs.Common.{◌≡◌, drop}
use Rattle.declarations.specs.Declarations.{set_quality, declared_of, read_each}
use Rattle.declarations.proofs.specifiers.set_qualities.Given as goal

abbrev pub invariant-loop-quality : goal.invariant-loop-quality
invariant-loop-quality l =
    (read_each (set_quality l.heap) (declared_of l.declared) (drop l.quality-index l.qualities) ≡ read_each (set_quality l.heap) (declared_of l.initial.declared) l.qualities) × (l.declared.types ≡ l.initial.declared.types)
