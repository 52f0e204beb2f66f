-- Sums over those of a list whose numbers pass a test.
use Rattle.std.specs.Prelude.{◌≡◌, refl, ℕ, zero, suc, ◌+◌, ◌≤◌, Bool, true, false, cond, List, [], ◌∷◌, ◌++◌, length, filter, sum_by, Some, slice_get}
use Rattle.std.specs.List.{enumerate_from}
use Rattle.std.proofs.Common.{arith, sym, ap, ◌∙◌}
use Rattle.std.proofs.lemmas.List.Sums.{sum_by-cons}

-- the sum over the elements whose numbers, from n on, pass t
abbrev pub total : {A : Type 0} → (ℕ → Bool) → (A → ℕ) → ℕ → List A → ℕ
total t w n xs = sum_by (λ e. w e.1) (filter (λ e. t e.0) (enumerate_from n xs))

-- an element that both or neither has
part_same : {B : Type 0} (f : B → ℕ) (a b : Bool) (x : B) (r s : List B) → a ≡ b → sum_by f r ≡ sum_by f s →
    sum_by f (cond a (x ∷ r) r) ≡ sum_by f (cond b (x ∷ s) s)
part_same f true true x r s e h = sum_by-cons f x r ∙ (ap (λ k. f x + k) h ∙ sym (sum_by-cons f x s))
part_same f true false x r s e h = cc
part_same f false true x r s e h = cc
part_same f false false x r s e h = h

pub total_same : {A : Type 0} (t u : ℕ → Bool) (w : A → ℕ) (n : ℕ) (xs : List A) → ((q : ℕ) → n ≤ q → t q ≡ u q) → total t w n xs ≡ total u w n xs
total_same t u w n [] h = refl
total_same t u w n (x ∷ xs) h =
    part_same (λ e. w e.1) (t n) (u n) (n, x) (filter (λ e. t e.0) (enumerate_from (n + 1) xs)) (filter (λ e. u e.0) (enumerate_from (n + 1) xs)) (h n (omega arith))
    (total_same t u w (n + 1) xs (λ q le. h q (omega arith)))

part_more : {B : Type 0} (f : B → ℕ) (a b : Bool) (x : B) (r s : List B) (k : ℕ) → a ≡ b → sum_by f r ≡ sum_by f s + k →
    sum_by f (cond a (x ∷ r) r) ≡ sum_by f (cond b (x ∷ s) s) + k
part_more f true true x r s k e h = let p = sum_by-cons f x r in let q = sum_by-cons f x s in omega (arith, p, q, h)
part_more f true false x r s k e h = cc
part_more f false true x r s k e h = cc
part_more f false false x r s k e h = h

part_new : {B : Type 0} (f : B → ℕ) (a b : Bool) (x : B) (r s : List B) → a ≡ true → b ≡ false → sum_by f r ≡ sum_by f s →
    sum_by f (cond a (x ∷ r) r) ≡ sum_by f (cond b (x ∷ s) s) + f x
part_new f true false x r s e g h = let p = sum_by-cons f x r in omega (arith, p, h)
part_new f true true x r s e g h = cc
part_new f false b x r s e g h = cc

-- one more number passes
pub total_more : {A : Type 0} (t u : ℕ → Bool) (w : A → ℕ) (o n k : ℕ) (x : A) (xs : List A) → o ≡ n + k → slice_get xs k ≡ Some x →
    t o ≡ false → u o ≡ true → ((q : ℕ) → (q ≡ o → ⊥) → u q ≡ t q) → total u w n xs ≡ total t w n xs + w x
total_more t u w o n k x [] e is off on rest = cc
total_more t u w o n zero x (y ∷ ys) e is off on rest =
    let here : o ≡ n = omega (arith, e) in
    let same : y ≡ x = cc in
    part_new (λ p. w p.1) (u n) (t n) (n, y) (filter (λ p. u p.0) (enumerate_from (n + 1) ys)) (filter (λ p. t p.0) (enumerate_from (n + 1) ys))
    (ap u (sym here) ∙ on) (ap t (sym here) ∙ off) (total_same u t w (n + 1) ys (λ q le. rest q (λ h. omega (arith, h, le, here))))
    ∙ ap (λ z. total t w n (y ∷ ys) + w z) same
total_more t u w o n (suc k) x (y ∷ ys) e is off on rest =
    part_more (λ p. w p.1) (u n) (t n) (n, y) (filter (λ p. u p.0) (enumerate_from (n + 1) ys)) (filter (λ p. t p.0) (enumerate_from (n + 1) ys)) (w x)
    (rest n (λ h. omega (arith, h, e)))
    (total_more t u w o (n + 1) k x ys (omega (arith, e)) is off on rest)

part_by : {A : Type 0} (w : A → ℕ) (a b : Bool) (e : ℕ × A) (x : A) (r : List (ℕ × A)) (s : List A) → e.1 ≡ x → a ≡ b →
    sum_by (λ p. w p.1) r ≡ sum_by w s → sum_by (λ p. w p.1) (cond a (e ∷ r) r) ≡ sum_by w (cond b (x ∷ s) s)
part_by w true true e x r s is h k = sum_by-cons (λ p. w p.1) e r ∙ ((ap (λ z. w e.1 + z) k ∙ ap (λ z. w z + sum_by w s) is) ∙ sym (sum_by-cons w x s))
part_by w true false e x r s is h k = cc
part_by w false true e x r s is h k = cc
part_by w false false e x r s is h k = k

-- where a test of the numbers is one of the elements
pub total_by : {A : Type 0} (t : ℕ → Bool) (p : A → Bool) (w : A → ℕ) (n : ℕ) (xs : List A) →
    ((k : ℕ) (x : A) → slice_get xs k ≡ Some x → t (n + k) ≡ p x) → total t w n xs ≡ sum_by w (filter p xs)
total_by t p w n [] h = refl
total_by t p w n (x ∷ xs) h =
    part_by w (t n) (p x) (n, x) x (filter (λ e. t e.0) (enumerate_from (n + 1) xs)) (filter p xs) refl
    (ap t (let e : n ≡ n + 0 = omega arith in e) ∙ h 0 x refl)
    (total_by t p w (n + 1) xs (λ k y is. ap t (let e : n + 1 + k ≡ n + suc k = omega arith in e) ∙ h (suc k) y is))

pub total_none : {A : Type 0} (t : ℕ → Bool) (w : A → ℕ) (n : ℕ) (xs : List A) → ((q : ℕ) → n ≤ q → t q ≡ false) → total t w n xs ≡ 0
total_none t w n [] h = refl
total_none t w n (x ∷ xs) h =
    skipped (λ e. w e.1) (t n) (n, x) (filter (λ e. t e.0) (enumerate_from (n + 1) xs)) (h n (omega arith)) (total_none t w (n + 1) xs (λ q le. h q (omega (arith, le))))
  where
    skipped : {B : Type 0} (f : B → ℕ) (b : Bool) (x : B) (r : List B) → b ≡ false → sum_by f r ≡ 0 → sum_by f (cond b (x ∷ r) r) ≡ 0
    skipped f true x r e k = cc
    skipped f false x r e k = k

-- where no number past a list passes, what stands behind it adds nothing
pub total_append : {A : Type 0} (t : ℕ → Bool) (w : A → ℕ) (n : ℕ) (xs ys : List A) → ((q : ℕ) → n + length xs ≤ q → t q ≡ false) →
    total t w n (xs ++ ys) ≡ total t w n xs
total_append t w n [] ys h = total_none t w n ys (λ q le. h q (omega (arith, le)))
total_append t w n (x ∷ xs) ys h =
    part_same (λ e. w e.1) (t n) (t n) (n, x) (filter (λ e. t e.0) (enumerate_from (n + 1) (xs ++ ys))) (filter (λ e. t e.0) (enumerate_from (n + 1) xs)) refl
    (total_append t w (n + 1) xs ys (λ q le. h q (omega (arith, le))))
