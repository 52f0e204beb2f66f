-- Two codes that go along with each other and show the same: each keeps the meaning of the other.
use Rattle.std.proofs.Common.{◌≡◌, ℕ, zero, suc, ◌<◌, ◌≤◌, ◌⊎◌, inl, inr, sym, subst, arith}
use Rattle.layers.specs.Input.{Input}
use Rattle.layers.specs.Shown.{Seen, IsFull, Covers, ComesTo}
use Rattle.layers.specs.Layer.{Steps, after, layer_of, IsNeverFull}
use Rattle.layers.specs.Keeping.{Keeps}
use Rattle.layers.proofs.SeenLemmas.{covers_itself, comes_to_itself}

-- From related states a step of each leads to related states, or a step of the first alone does, while a measure falls.
pub record GoesAlong {S T : Type 0} (a : Steps S) (b : Steps T) (measure : S → ℕ) (R : S → T → Type 0) : Type 0 where
  pub starts : (i : Input) → R (a.first i) (b.first i)
  pub shows : (s : S) (t : T) → R s t → a.seen s ≡ b.seen t
  pub goes : (s : S) (t : T) → R s t → R (a.step s) (b.step t) ⊎ (R (a.step s) t × (measure (a.step s) < measure s))

module _ {S T : Type 0} (a : Steps S) (b : Steps T) (measure : S → ℕ) (R : S → T → Type 0) (along : GoesAlong a b measure R) (i : Input) where
  abbrev left : ℕ → S
  left j = after a.step j (a.first i)

  abbrev right : ℕ → T
  right k = after b.step k (b.first i)

  -- where b is after one more step of a
  moves : (j k : ℕ) → R (left (suc j)) (right (suc k)) ⊎ (R (left (suc j)) (right k) × (measure (left (suc j)) < measure (left j))) → (x : ℕ) × R (left (suc j)) (right x)
  moves j k (inl r) = (suc k, r)
  moves j k (inr f) = (k, f.0)

  pub forth : (j : ℕ) → (k : ℕ) × R (left j) (right k)
  forth zero = (0, along.starts i)
  forth (suc j) = let p = forth j in moves j p.0 (along.goes (left j) (right p.0) p.1)

  -- a comes to where b is after one more step
  turn : (j k : ℕ) → (R (left (suc j)) (right k) → measure (left (suc j)) < measure (left j) → (x : ℕ) × R (left x) (right (suc k))) →
      R (left (suc j)) (right (suc k)) ⊎ (R (left (suc j)) (right k) × (measure (left (suc j)) < measure (left j))) → (x : ℕ) × R (left x) (right (suc k))
  turn j k later (inl r) = (suc j, r)
  turn j k later (inr f) = later f.0 f.1

  catch_up : (m j k : ℕ) → measure (left j) ≤ m → R (left j) (right k) → (x : ℕ) × R (left x) (right (suc k))
  catch_up zero j k small r = turn j k (λ r' falls. absurd (omega (arith, small, falls))) (along.goes (left j) (right k) r)
  catch_up (suc m) j k small r = turn j k (λ r' falls. catch_up m (suc j) k (omega (arith, small, falls)) r') (along.goes (left j) (right k) r)

  pub back : (k : ℕ) → (j : ℕ) × R (left j) (right k)
  back zero = (0, along.starts i)
  back (suc k) = let p = back k in catch_up (measure (left p.0)) p.0 k (omega arith) p.1

covers_same : (heap stack : ℕ) (x y : Seen) → ¬ IsFull x → x ≡ y → Covers heap stack x y
covers_same heap stack x y free same = subst (λ (z : Seen). Covers heap stack x z) same (covers_itself heap stack x free)

comes_same : (x y : Seen) → x ≡ y → ComesTo x y
comes_same x y same = subst (λ (z : Seen). ComesTo x z) same (comes_to_itself x)

module _ {S T : Type 0} (a : Steps S) (b : Steps T) (measure : S → ℕ) (R : S → T → Type 0) (along : GoesAlong a b measure R) (heap stack : ℕ) where
  same_seen : (i : Input) (j k : ℕ) → R (after a.step j (a.first i)) (after b.step k (b.first i)) → layer_of a i j ≡ layer_of b i k
  same_seen i j k r = along.shows (after a.step j (a.first i)) (after b.step k (b.first i)) r

  pub keeps_along : IsNeverFull (layer_of a) → Keeps heap stack (layer_of a) (layer_of b)
  keeps_along free = record {
    back = λ i k.
        let p = back a b measure R along i k in
        (p.0, covers_same heap stack (layer_of a i p.0) (layer_of b i k) (free i p.0) (same_seen i p.0 k p.1));
    forth = λ i j.
        let p = forth a b measure R along i j in
        (p.0, comes_same (layer_of a i j) (layer_of b i p.0) (same_seen i j p.0 p.1));
  }

  pub kept_along : IsNeverFull (layer_of b) → Keeps heap stack (layer_of b) (layer_of a)
  kept_along free = record {
    back = λ i j.
        let p = forth a b measure R along i j in
        (p.0, covers_same heap stack (layer_of b i p.0) (layer_of a i j) (free i p.0) (sym (same_seen i j p.0 p.1)));
    forth = λ i k.
        let p = back a b measure R along i k in
        (p.0, comes_same (layer_of b i k) (layer_of a i p.0) (sym (same_seen i p.0 k p.1)));
  }
