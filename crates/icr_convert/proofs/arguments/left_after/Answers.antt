use Rattle.std.proofs.Common.{◌≡◌, ℕ, List, [], ◌∷◌, length, refl, arith}
use Rattle.core_form.specs.declared.tree.Core.{Core}
use Rattle.core_form.specs.Reading.{cores_list}
use Rattle.form_graphs.specs.Standing.{left_after}
use Rattle.icr_convert.proofs.arguments.left_after.Goals as goal

nothing_left : (es : List Core) (n : ℕ) → (length es ≡ 0 → ⊥) → 0 ≡ left_after (cores_list es) n
nothing_left [] n some = absurd (some refl)
nothing_left (e ∷ es) n some = refl

pub returns-else-is_empty : goal.returns-else-is_empty
returns-else-is_empty c = nothing_left c.args.parts.now c.args.cost (λ none. grind (arith, none))
