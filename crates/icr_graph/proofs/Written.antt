-- What a map is after a write of one slot.
use Rattle.std.proofs.Common.{◌≡◌, ◌≢◌, ◌⊎◌, ℕ, List, Option, Some, None, set, refl, sym, ◌∙◌, inl, inr, eq-eqb, ne_eqb}
use Rattle.std.proofs.Math.Path.{fun_ext}
use Rattle.std.proofs.lemmas.Bool.{cases_eq}
use Rattle.ir_ids.specs.Entries.{map_of, with_entry}
use Rattle.ir_ids.specs.Laws.{set_entry}
use Rattle.icr_graph.specs.Lists.{changed}

module _ {A : Type 0} where
  -- an entry that is written is a changed one
  pub entry_changed : (f : A → A) (m : ℕ → Option A) (at : ℕ) (v : A) → m at ≡ Some v → with_entry m at (Some (f v)) ≡ changed f at m
  entry_changed f m at v live = fun_ext (λ n. by_case n (cases_eq n at))
    where
      by_case : (n : ℕ) → (n ≡ at) ⊎ (n ≢ at) → with_entry m at (Some (f v)) n ≡ changed f at m n
      by_case n (inl same) = rw (same, eq-eqb at at refl, live) refl
      by_case n (inr other) = rw (ne_eqb n at other) refl

  -- the slot of a live number is written
  pub set_changed : (f : A → A) (slots : List (Option A)) (at : ℕ) (v w : A) → map_of slots at ≡ Some v → w ≡ f v → map_of (set slots at (Some w)) ≡ changed f at (map_of slots)
  set_changed f slots at v w live is = rw is (set_entry slots at (Some (f v)) v live ∙ entry_changed f (map_of slots) at v live)

  -- nothing is there that could change
  pub not_changed : (f : A → A) (m : ℕ → Option A) (at : ℕ) → m at ≡ None → m ≡ changed f at m
  not_changed f m at absent = fun_ext (λ n. by_case n (cases_eq n at))
    where
      by_case : (n : ℕ) → (n ≡ at) ⊎ (n ≢ at) → m n ≡ changed f at m n
      by_case n (inl same) = rw (same, eq-eqb at at refl, absent) refl
      by_case n (inr other) = rw (ne_eqb n at other) refl

  -- the same value is written
  pub set_same : (slots : List (Option A)) (at : ℕ) (v : A) → map_of slots at ≡ Some v → map_of (set slots at (Some v)) ≡ map_of slots
  set_same slots at v live = set_entry slots at (Some v) v live ∙ fun_ext (λ n. by_case n (cases_eq n at))
    where
      by_case : (n : ℕ) → (n ≡ at) ⊎ (n ≢ at) → with_entry (map_of slots) at (Some v) n ≡ map_of slots n
      by_case n (inl same) = rw (same, eq-eqb at at refl) (sym live)
      by_case n (inr other) = rw (ne_eqb n at other) refl
