-- A lawful layer from one moment to any later one.
use Rattle.std.proofs.Common.{◌≡◌, ◌≢◌, ℕ, zero, suc, ◌<◌, ◌≤◌, ◌⊎◌, inl, inr, ap, sym, subst, ◌∙◌, arith}
use Rattle.layers.specs.Input.{Input}
use Rattle.std.proofs.lemmas.Bool.{cases_lt}
use Rattle.layers.specs.Shown.{Seen, Runs, IsLater}
use Rattle.layers.specs.Layer.{Layer, IsLawful}
use Rattle.layers.proofs.SeenLemmas.{later_itself, later_on}

module _ (a : Layer) (lawful : IsLawful a) (i : Input) where
  -- one step more than n, from a moment that is at most that
  step_later : (k n : ℕ) → k ≤ suc n → (k ≤ n → IsLater (a i k) (a i n)) → (n < k) ⊎ (k ≤ n) → IsLater (a i k) (a i (suc n))
  step_later k n le before (inl past) = let e : k ≡ suc n = omega arith in subst (λ (m : ℕ). IsLater (a i k) (a i m)) e (later_itself (a i k))
  step_later k n le before (inr there) = later_on (before there) (lawful.later i n)

  pub later_to : (k n : ℕ) → k ≤ n → IsLater (a i k) (a i n)
  later_to k zero le = let e : k ≡ zero = omega arith in subst (λ (m : ℕ). IsLater (a i k) (a i m)) e (later_itself (a i k))
  later_to k (suc n) le = step_later k n le (later_to k n) (cases_lt n k)

  step_stays : (k n : ℕ) → k ≤ suc n → (a i k).status ≢ Runs → (k ≤ n → a i n ≡ a i k) → (n < k) ⊎ (k ≤ n) → a i (suc n) ≡ a i k
  step_stays k n le over before (inl past) = let e : suc n ≡ k = omega arith in ap (λ (m : ℕ). a i m) e
  step_stays k n le over before (inr there) =
      let e = before there in
      lawful.stays i n (λ h. over (ap (λ (s : Seen). s.status) (sym e) ∙ h)) ∙ e

  -- a run that is over stays as it is
  pub stays_to : (k n : ℕ) → k ≤ n → (a i k).status ≢ Runs → a i n ≡ a i k
  stays_to k zero le over = let e : zero ≡ k = omega arith in ap (λ (m : ℕ). a i m) e
  stays_to k (suc n) le over = step_stays k n le over (λ h. stays_to k n h over) (cases_lt n k)
