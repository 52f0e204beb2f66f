-- Two lists side by side, one more of each at a time.
use Rattle.std.proofs.Common.{◌≡◌, ◌≤◌, ◌+◌, ◌⊎◌, inl, inr, ap, ◌∙◌, ℕ, List, [], ◌∷◌, length, drop, map, arith}
use Rattle.std.specs.Prelude.{min}
use Rattle.std.proofs.lemmas.List.{drop_all}
use Rattle.form_expander.specs.Besides.{matched}
use Rattle.form_expander.proofs.Matching.{none_matched}

past_one : (m n k : ℕ) → k ≡ min m n → (m ≤ k) ⊎ (n ≤ k)
past_one m n k h = grind (arith, h)

module _ {R S A B C : Type 0} (f : A → B → C) (left : R → A) (right : S → B) (bs : List R) (xs : List S) where
  pub matched_front : (i : ℕ) (b : R) (x : S) → drop i bs ≡ b ∷ drop (i + 1) bs → drop i xs ≡ x ∷ drop (i + 1) xs
      → matched f (map left (drop i bs)) (map right (drop i xs)) ≡ f (left b) (right x) ∷ matched f (map left (drop (i + 1) bs)) (map right (drop (i + 1) xs))
  matched_front i b x h k =
      ap (λ (l : List R). matched f (map left l) (map right (drop i xs))) h ∙ ap (λ (l : List S). matched f (left b ∷ map left (drop (i + 1) bs)) (map right l)) k

  by_side : (i : ℕ) → (length bs ≤ i) ⊎ (length xs ≤ i) → matched f (map left (drop i bs)) (map right (drop i xs)) ≡ []
  by_side i (inl h) = ap (λ (l : List R). matched f (map left l) (map right (drop i xs))) (drop_all i bs h)
  by_side i (inr h) = ap (λ (l : List S). matched f (map left (drop i bs)) (map right l)) (drop_all i xs h) ∙ none_matched f (map left (drop i bs))

  pub matched_end : (i : ℕ) → i ≡ min (length bs) (length xs) → matched f (map left (drop i bs)) (map right (drop i xs)) ≡ []
  matched_end i h = by_side i (past_one (length bs) (length xs) i h)
