-- Numbers that are among others, and what is bound round a node with more bound round it.
use Rattle.std.specs.Prelude.{◌≡◌, ℕ, suc, Bool, true, false, ◌&&◌, ◌||◌, ◌==◌, nat_le, List, [], ◌∷◌, ◌++◌}
use Rattle.std.proofs.Common.{refl, arith}
use Rattle.std.proofs.lemmas.Bool.Decides.{nat_tests}
use Rattle.core_form.specs.Facts.{has_number}
use Rattle.core_form.specs.Checked.{Scope, with_variables, with_functions, with_block, with_tags}

pub same_number : (n : ℕ) → (n == n) ≡ true
same_number n = grind (arith, nat_tests)

pub less_one : (n m : ℕ) → nat_le (suc n) m ≡ true → nat_le n m ≡ true
less_one n m h = grind (arith, nat_tests)

pub least : (n : ℕ) → nat_le 0 n ≡ true
least n = grind (arith, nat_tests)

pub and_both : (a b : Bool) → a ≡ true → b ≡ true → (a && b) ≡ true
and_both true b h k = k
and_both false b h k = absurd (cc)

or_left : (a b : Bool) → a ≡ true → (a || b) ≡ true
or_left true b h = refl
or_left false b h = absurd (cc)

or_right : (a b : Bool) → b ≡ true → (a || b) ≡ true
or_right true b h = refl
or_right false b h = h

either : {P : Type 0} (a b : Bool) → (a || b) ≡ true → (a ≡ true → P) → (b ≡ true → P) → P
either true b h f g = f refl
either false b h f g = g h

-- ---- numbers

pub first_there : (n : ℕ) (xs : List ℕ) → has_number n (n ∷ xs) ≡ true
first_there n xs = or_left (n == n) (has_number n xs) (same_number n)

pub later_there : (n m : ℕ) (xs : List ℕ) → has_number n xs ≡ true → has_number n (m ∷ xs) ≡ true
later_there n m xs h = or_right (n == m) (has_number n xs) h

abbrev pub Among : List ℕ → List ℕ → Type 0
Among xs ys = (n : ℕ) → has_number n xs ≡ true → has_number n ys ≡ true

pub among_left : (xs ys : List ℕ) → Among xs (xs ++ ys)
among_left [] ys n h = absurd (cc)
among_left (x ∷ xs) ys n h =
    either (n == x) (has_number n xs) h (λ is. or_left (n == x) (has_number n (xs ++ ys)) is) (λ there. or_right (n == x) (has_number n (xs ++ ys)) (among_left xs ys n there))

pub among_right : (xs ys : List ℕ) → Among ys (xs ++ ys)
among_right [] ys n h = h
among_right (x ∷ xs) ys n h = or_right (n == x) (has_number n (xs ++ ys)) (among_right xs ys n h)

pub among_both : (xs ys zs : List ℕ) → Among xs zs → Among ys zs → Among (xs ++ ys) zs
among_both [] ys zs f g n h = g n h
among_both (x ∷ xs) ys zs f g n h =
    either (n == x) (has_number n (xs ++ ys)) h (λ is. f n (or_left (n == x) (has_number n xs) is)) (λ there.
    among_both xs ys zs (λ m k. f m (or_right (m == x) (has_number m xs) k)) g n there)

pub among_tail : (x : ℕ) (xs zs : List ℕ) → Among (x ∷ xs) zs → Among xs zs
among_tail x xs zs f n h = f n (later_there n x xs h)

-- ---- what is bound round a node

-- the second has all numbers of the first
pub record Wider (a b : Scope) : Type 0 where
  pub variables : Among a.variables b.variables
  pub functions : Among a.functions b.functions
  pub blocks : Among a.blocks b.blocks
  pub tags : Among a.tags b.tags

pub wider_variables : (xs : List ℕ) (sc : Scope) → Wider sc (with_variables xs sc)
wider_variables xs sc = record { variables = among_right xs sc.variables; functions = λ n h. h; blocks = λ n h. h; tags = λ n h. h }

-- the same, but for the variables
pub wider_in : (xs ys : List ℕ) (sc : Scope) → Among xs (ys ++ sc.variables) → Wider (with_variables xs sc) (with_variables ys sc)
wider_in xs ys sc f = record {
  variables = among_both xs sc.variables (ys ++ sc.variables) f (among_right ys sc.variables);
  functions = λ n h. h;
  blocks = λ n h. h;
  tags = λ n h. h;
}

pub wider_functions : (fs : List ℕ) (sc : Scope) → Wider sc (with_functions fs sc)
wider_functions fs sc = record { variables = λ n h. h; functions = among_right fs sc.functions; blocks = λ n h. h; tags = λ n h. h }

pub wider_block : (b : ℕ) (sc : Scope) → Wider sc (with_block b sc)
wider_block b sc = record { variables = λ n h. h; functions = λ n h. h; blocks = λ n h. later_there n b sc.blocks h; tags = λ n h. h }

pub wider_tags : (ts : List ℕ) (sc : Scope) → Wider sc (with_tags ts sc)
wider_tags ts sc = record { variables = λ n h. h; functions = λ n h. h; blocks = λ n h. h; tags = among_right ts sc.tags }
