-- What a map or a set has after a number is put into it.
use Rattle.std.specs.Prelude.{◌≡◌, refl, ℕ, nat_eq, Bool, true, false, cond, ◌||◌, if◌then◌else◌, ◌==◌, List, ◌∷◌, Option, Some, None}
use Rattle.std.specs.Option.{option_or, is_some}
use Rattle.std.specs.List.{list_any}
use Rattle.std.specs.Map.{lookup as found}
use Rattle.std.specs.Cmp.{nat_eq_equiv}
use Rattle.std.proofs.Common.{ap, sym, ◌∙◌, arith}
use Rattle.std.proofs.lemmas.Bool.Decides.{nat_tests}
use Rattle.core_form.specs.Facts.{has_number, lookup}
use Rattle.form_names.proofs.Found.{found_same, has_same}

same : (n m : ℕ) → (n == m) ≡ true → n ≡ m
same n m h = grind (arith, nat_tests)

-- ---- a map

is_there : {A : Type 0} (o : Option A) (v : A) (b : Bool) → (b ≡ true → is_some o ≡ true) → o ≡ option_or o (if b then Some v else None)
is_there None v true h = let k : false ≡ true = h refl in cc
is_there None v false h = refl
is_there (Some x) v b h = refl

-- a number that is there stays as it is
pub kept : {A : Type 0} (es : List (ℕ × A)) (n : ℕ) (v : A) → is_some (found (nat_eq n) es) ≡ true → (q : ℕ) → lookup q es ≡ option_or (lookup q es) (if q == n then Some v else None)
kept es n v h q =
    is_there (lookup q es) v (q == n) (λ e. ap (λ (k : ℕ). is_some (lookup k es)) (same q n e) ∙ ap (λ o. is_some o) (found_same n es) ∙ h)

is_new : {A : Type 0} (o : Option A) (v : A) (b : Bool) → (b ≡ true → is_some o ≡ false) → cond b (Some v) o ≡ option_or o (if b then Some v else None)
is_new None v true h = refl
is_new None v false h = refl
is_new (Some x) v true h = let k : true ≡ false = h refl in cc
is_new (Some x) v false h = refl

-- a number that isn't there gets a value
pub put : {A : Type 0} (es fs : List (ℕ × A)) (n : ℕ) (v : A) → is_some (found (nat_eq n) es) ≡ false → ((q : ℕ) → found (nat_eq q) fs ≡ cond (nat_eq n q) (Some v) (found (nat_eq q) es)) →
    (q : ℕ) → lookup q fs ≡ option_or (lookup q es) (if q == n then Some v else None)
put es fs n v h updates q =
    found_same q fs ∙ updates q ∙ ap (λ o. cond (nat_eq n q) (Some v) o) (sym (found_same q es)) ∙ ap (λ b. cond b (Some v) (lookup q es)) (nat_eq_equiv.symm n q)
    ∙ is_new (lookup q es) v (q == n) (λ e. ap (λ (k : ℕ). is_some (lookup k es)) (same q n e) ∙ ap (λ o. is_some o) (found_same n es) ∙ h)

-- ---- a set

has_or : (b old rest : Bool) → (cond b true old || rest) ≡ (old || (b || rest))
has_or true true rest = refl
has_or true false rest = refl
has_or false true rest = refl
has_or false false rest = refl

pub set_put : (ms ns : List ℕ) (m : ℕ) (rest : List ℕ) → ((q : ℕ) → list_any (nat_eq q) ns ≡ cond (nat_eq m q) true (list_any (nat_eq q) ms)) →
    (q : ℕ) → (has_number q ns || has_number q rest) ≡ (has_number q ms || has_number q (m ∷ rest))
set_put ms ns m rest updates q =
    ap (λ b. b || has_number q rest) (has_same q ns ∙ updates q ∙ ap (λ b. cond (nat_eq m q) true b) (sym (has_same q ms)) ∙ ap (λ b. cond b true (has_number q ms)) (nat_eq_equiv.symm m q))
    ∙ has_or (q == m) (has_number q ms) (has_number q rest)
