use Rattle.std.proofs.Common.{◌≡◌, false, sym, ◌∙◌}
use Rattle.std.proofs.lemmas.Bool.{OnFalse_at, OnFalse_from}
use Rattle.type_lattice.specs.Members.{HasMore}
use Rattle.type_lattice.proofs.Witness.{more_integers, more_characters, more_symbols, more_keywords, more_kinds}
use Rattle.type_lattice.proofs.ty.Ty.sub.Goals as goal
use Rattle.type_lattice.proofs.ty.Ty.sub.Goals.{then-is_subset, else-is_subset, then-is_subset-2, else-is_subset-2, then-is_subset-3, else-is_subset-3}

pub returns-then-is_subset-4-clause-not_within : goal.returns-then-is_subset-4-clause-not_within
returns-then-is_subset-4-clause-not_within c =
    OnFalse_from _ _ (λ h. more_kinds c.args.self.now c.args.other.now (sym c.is_subset-then-is_subset-4.ensures ∙ h))

pub returns-else-is_subset-4-clause-not_within : goal.returns-else-is_subset-4-clause-not_within
returns-else-is_subset-4-clause-not_within c =
    let a = c.args.self.now in
    let b = c.args.other.now in
    let first : c.if-is_subset.value ≡ false → HasMore a b = λ h. elim c.if-is_subset.branch [
      | then-is_subset w ↦ more_characters a b (OnFalse_at (sym w.value-is ∙ h) w.is_subset-then-is_subset.ensures.fails)
      | else-is_subset w ↦ more_integers a b (OnFalse_at w.if-is_subset.false c.is_subset.ensures.fails)
    ] in
    let second : c.if-is_subset-2.value ≡ false → HasMore a b = λ h. elim c.if-is_subset-2.branch [
      | then-is_subset-2 w ↦ more_symbols a b (OnFalse_at (sym w.value-is ∙ h) w.is_subset-then-is_subset-2.ensures.fails)
      | else-is_subset-2 w ↦ first w.if-is_subset-2.false
    ] in
    OnFalse_from _ _ (λ h. elim c.if-is_subset-3.branch [
      | then-is_subset-3 w ↦ more_keywords a b (OnFalse_at (sym w.value-is ∙ h) w.is_subset-then-is_subset-3.ensures.fails)
      | else-is_subset-3 w ↦ second w.if-is_subset-3.false
    ])
