-- What a step did that gave a result.
use Rattle.std.specs.Prelude.{◌≡◌, ℕ, zero, suc, ◌+◌, ◌≤◌, Bool, true, false, nat_le, Option, Some, None, refl}
use Rattle.std.proofs.Common.{subst, arith}
use Rattle.std.proofs.lemmas.Bool.Decides.{nat_tests}
use Rattle.expansion.specs.declared.kind.ExpandKind.{ExpandKind}
use Rattle.expansion.specs.Scopes.{Scope}
use Rattle.expansion.specs.Steps.{World, Answer, gives, refused, Step, and_then, ◌>>=◌, ◌>>◌, pure, refuse, given_or, expect, look, begun, begin, most_nodes, take_numbers, take_function}
use Rattle.expansion_laws.specs.Made.{Fits, counted, numbered, one_function}

-- an answer that gives a result gives one result
pub over : {A : Type 0} (P : A → World → Type 0) (a b : A) (w u : World) → gives a w ≡ gives b u → P a w → P b u
over {A = A} P a b w u is p = subst holds is p
  where
    holds : Answer A → Type 0
    holds (gives x v) = P x v
    holds (refused kind place) = Unit {0}

pub ends : {A : Type 0} (P : A → World → Type 0) (a b : A) (w u : World) → pure a w ≡ gives b u → P a w → P b u
unfolding pure
ends P a b w u is p = over P a b w u is p

pub never_refused : {A : Type 0} (kind : ExpandKind) (sc : Scope) (w : World) (a : A) (after : World) → refuse kind sc w ≡ gives a after → ⊥
unfolding refuse
never_refused kind sc w a after is = cc

-- the two parts of a step of two parts
pub record Both {A B : Type 0} (m : Step A) (f : A → Step B) (w : World) (b : B) (after : World) : Type 0 where
  pub value : A
  pub between : World
  pub first : m w ≡ gives value between
  pub second : f value between ≡ gives b after

pub both : {A B : Type 0} (m : Step A) (f : A → Step B) (w : World) (b : B) (after : World) → (m >>= f) w ≡ gives b after → Both m f w b after
unfolding ◌>>=◌
both {A = A} {B = B} m f w b after is = by_answer (m w) refl is
  where
    by_answer : (a : Answer A) → m w ≡ a → and_then a f ≡ gives b after → Both m f w b after
    by_answer (gives a u) first second = record { value = a; between = u; first = first; second = second }
    by_answer (refused kind place) first second = absurd (cc)

-- what stands after a look
pub looked : {A B : Type 0} (g : World → A) (f : A → Step B) (w : World) (b : B) (after : World) →
    (look g >>= f) w ≡ gives b after → f (g w) w ≡ gives b after
unfolding ◌>>=◌ look
looked g f w b after is = is

-- what stands after something that was looked for and found
pub record Found {A B : Type 0} (found : Option A) (f : A → Step B) (w : World) (b : B) (after : World) : Type 0 where
  pub value : A
  pub there : found ≡ Some value
  pub second : f value w ≡ gives b after

pub found : {A B : Type 0} (sc : Scope) (g : World → Option A) (f : A → Step B) (w : World) (b : B) (after : World) →
    ((look g >>= expect sc) >>= f) w ≡ gives b after → Found (g w) f w b after
unfolding ◌>>=◌ look expect given_or pure refuse
found {A = A} {B = B} sc g f w b after is = by_option (g w) refl is
  where
    by_option : (o : Option A) → g w ≡ o → and_then (expect sc o w) f ≡ gives b after → Found (g w) f w b after
    by_option (Some a) there second = record { value = a; there = there; second = second }
    by_option None there second = absurd (cc)

-- ---- counting

pub record Began {A : Type 0} (count : ℕ) (k : Step A) (w : World) (a : A) (after : World) : Type 0 where
  pub fits : Fits count w
  pub rest : k (counted count w) ≡ gives a after

le_of_test : (m n : ℕ) → nat_le m n ≡ true → m ≤ n
le_of_test m n h = grind (arith, nat_tests)

pub began : {A : Type 0} (count levels : ℕ) (sc : Scope) (k : Step A) (w : World) (a : A) (after : World) →
    (begin count levels sc >> k) w ≡ gives a after → Began count k w a after
unfolding ◌>>=◌ ◌>>◌ begin begun
began {A = A} count levels sc k w a after is = by_test (nat_le (w.nodes + count) most_nodes) levels refl is
  where
    by_test : (b : Bool) (n : ℕ) → nat_le (w.nodes + count) most_nodes ≡ b →
        and_then (begun b n sc (counted count w)) (λ _. k) ≡ gives a after → Began count k w a after
    by_test false n test second = absurd (cc)
    by_test true zero test second = absurd (cc)
    by_test true (suc n) test second = record { fits = le_of_test (w.nodes + count) most_nodes test; rest = second }

-- a count and then the next numbers
pub began_numbers : {A : Type 0} (count levels : ℕ) (sc : Scope) (numbers : ℕ) (f : ℕ → Step A) (w : World) (a : A) (after : World) →
    ((begin count levels sc >> take_numbers numbers) >>= f) w ≡ gives a after → Began count (λ u. f w.next (numbered numbers u)) w a after
unfolding ◌>>=◌ ◌>>◌ take_numbers
began_numbers count levels sc numbers f w a after is =
    let s = both (begin count levels sc >> take_numbers numbers) f w a after is in
    let b = began count levels sc (take_numbers numbers) w s.value s.between s.first in
    record { fits = b.fits; rest = over (λ (n : ℕ) (u : World). f n u ≡ gives a after → f w.next (numbered numbers (counted count w)) ≡ gives a after) w.next s.value (numbered numbers (counted count w)) s.between b.rest (λ is. is) s.second }

pub took_function : {A : Type 0} (f : ℕ → Step A) (w : World) (a : A) (after : World) →
    (take_function >>= f) w ≡ gives a after → f w.functions (one_function w) ≡ gives a after
unfolding ◌>>=◌ take_function
took_function f w a after is = is
