-- Lists of what stands under numbers, made longer and written to. (This project's own.)
use Rattle.std.proofs.Common.{◌≡◌, ℕ, suc, zero, ◌<◌, List, [], ◌∷◌, ◌++◌, Option, None, length, get_or, set, refl, inl, inr, eq-eqb, ne_eqb}
use Rattle.std.proofs.Math.Path.{fun_ext}
use Rattle.std.proofs.lemmas.Bool.{cases_eq}
use Rattle.std.proofs.lemmas.List.{get_or-set_same, get_or-set_other}
use Rattle.ir_ids.specs.Entries.{map_of, with_entry}

longer_at : {T : Type 0} → (slots : List (Option T)) (n : ℕ) → get_or (slots ++ None ∷ []) n None ≡ get_or slots n None
longer_at [] zero = refl
longer_at [] (suc n) = refl
longer_at (x ∷ xs) zero = refl
longer_at (x ∷ xs) (suc n) = longer_at xs n

-- a slot more is empty
pub longer : {T : Type 0} → (slots : List (Option T)) → map_of (slots ++ None ∷ []) ≡ map_of slots
longer slots = fun_ext (λ n. longer_at slots n)

-- one slot is written
pub written : {T : Type 0} → (slots : List (Option T)) (at : ℕ) (entry : Option T) → at < length slots → map_of (set slots at entry) ≡ with_entry (map_of slots) at entry
written slots at entry within =
    fun_ext (λ number.
    elim (cases_eq number at) [
      | inl same ↦ rw (same, eq-eqb at at refl) (get_or-set_same slots at entry None within)
      | inr other ↦ rw (ne_eqb number at other) (get_or-set_other slots at number entry None other)
    ])
