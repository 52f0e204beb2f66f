use Rattle.std.proofs.Common.{◌∙◌, ap, ℤ, List, not}
use Rattle.type_lattice.specs.Borders.{is_within}
use Rattle.type_lattice.proofs.Passing.{opposite_is}
use Rattle.type_lattice.proofs.ranges.Ranges.opposite.Goals as goal

pub returns-clause-set : goal.returns-clause-set
returns-clause-set c = λ z.
    let s = c.args.self.now in
    ap (λ (x : List ℤ). is_within (not s.below) x z) (c.in_ok-borders.ensures.items ∙ c.deref.ensures.value) ∙ opposite_is s.below s.borders.items z
