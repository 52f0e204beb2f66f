-- What a write to a slot does to the map that an arena holds. This project's own.
use Rattle.std.proofs.Common.{◌≡◌, ℕ, ◌<◌, List, Option, Some, None, length, set, refl, inl, inr, arith, eq-eqb, ne_eqb}
use Rattle.std.proofs.Math.Path.{fun_ext}
use Rattle.std.proofs.lemmas.Bool.{cases_eq}
use Rattle.std.proofs.lemmas.List.{get_or-set_same, get_or-set_other, get_or_past}
use Rattle.ir_ids.specs.Entries.{map_of, with_entry}

-- a number with a value has a slot
pub live_within : {T : Type 0} → (slots : List (Option T)) (at : ℕ) (value : T) → map_of slots at ≡ Some value → at < length slots
live_within slots at value live = grind (arith, get_or_past)

-- one slot is written
pub set_entry : {T : Type 0} → (slots : List (Option T)) (at : ℕ) (entry : Option T) (before : T) → map_of slots at ≡ Some before → map_of (set slots at entry) ≡ with_entry (map_of slots) at entry
set_entry slots at entry before live =
    fun_ext (λ number.
    elim (cases_eq number at) [
      | inl same ↦ rw (same, eq-eqb at at refl) (get_or-set_same slots at entry None (live_within slots at before live))
      | inr other ↦ rw (ne_eqb number at other) (get_or-set_other slots at number entry None other)
    ])
