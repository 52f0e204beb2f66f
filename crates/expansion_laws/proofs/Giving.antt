-- What holds of the results that a step gives.
use Rattle.std.specs.Prelude.{◌≡◌, Bool, true, false, Option, Some, None}
use Rattle.std.proofs.Common.{refl, subst}
use Rattle.expansion.specs.declared.kind.ExpandKind.{ExpandKind}
use Rattle.expansion.specs.Scopes.{Scope}
use Rattle.expansion.specs.Steps.{World, Answer, gives, refused, Step, and_then, ◌>>=◌, ◌>>◌, refuse, pure, given_or, only_if, look}

-- a result has this, with the world after it; a refusal owes nothing
abbrev pub OnGives : {A : Type 0} → (A → World → Type 0) → Answer A → Type 0
OnGives P (gives x w) = P x w
OnGives P (refused kind place) = Unit {0}

pub given_has : {A : Type 0} (P : A → World → Type 0) (a : Answer A) (x : A) (w : World) → OnGives P a → a ≡ gives x w → P x w
given_has {A = A} P a x w h is = subst (λ (b : Answer A). OnGives P b) is h

pub weaker : {A : Type 0} (P Q : A → World → Type 0) (a : Answer A) → OnGives P a → ((x : A) (w : World) → P x w → Q x w) → OnGives Q a
weaker P Q (gives x w) h f = f x w h
weaker P Q (refused kind place) h f = tt

module _ {A B : Type 0} (Q : B → World → Type 0) where
  -- one step and then another
  pub then_gives : (P : A → World → Type 0) (a : Answer A) (k : A → Step B) → OnGives P a → ((x : A) (w : World) → P x w → OnGives Q (k x w)) → OnGives Q (and_then a k)
  then_gives P (gives x w) k h f = f x w h
  then_gives P (refused kind place) k h f = tt

  -- what is looked for, where it is there
  pub found_gives : (kind : ExpandKind) (sc : Scope) (found : Option A) (w : World) (k : A → Step B) → ((x : A) → found ≡ Some x → OnGives Q (k x w)) → OnGives Q (and_then (given_or kind sc found w) k)
  unfolding given_or refuse pure
  found_gives kind sc None w k f = tt
  found_gives kind sc (Some x) w k f = f x refl

-- three steps, however they are bracketed
pub nested_gives : {A B C : Type 0} (Q : C → World → Type 0) (a : Answer A) (f : A → Step B) (k : B → Step C) → OnGives Q (and_then a (λ x w. and_then (f x w) k)) → OnGives Q (and_then (and_then a f) k)
nested_gives Q (gives x w) f k h = h
nested_gives Q (refused kind place) f k h = tt

pub test_gives : {B : Type 0} (Q : B → World → Type 0) (sc : Scope) (b : Bool) (w : World) (k : Step B) → (b ≡ true → OnGives Q (k w)) → OnGives Q (and_then (only_if sc b w) (λ _. k))
unfolding only_if refuse pure
test_gives Q sc true w k f = f refl
test_gives Q sc false w k f = tt

-- ---- whatever the world is

-- each result has this
abbrev pub Has : {A : Type 0} → (A → Type 0) → Step A → Type 0
Has P m = (w : World) → OnGives (λ x u. P x) (m w)

pub anything : {A : Type 0} (a : Answer A) → OnGives (λ (x : A) (u : World). Unit {0}) a
anything (gives x w) = tt
anything (refused kind place) = tt

pub given_both : {A : Type 0} (P Q : A → Type 0) (a : Answer A) → OnGives (λ (x : A) (u : World). P x) a → OnGives (λ (x : A) (u : World). Q x) a → OnGives (λ (x : A) (u : World). P x × Q x) a
given_both P Q (gives x w) h k = (h, k)
given_both P Q (refused kind place) h k = tt

module _ {A B : Type 0} (P : A → Type 0) (Q : B → Type 0) where
  pub then_has : (m : Step A) (k : A → Step B) → Has P m → ((x : A) → P x → Has Q (k x)) → Has Q (m >>= k)
  unfolding ◌>>=◌
  then_has m k h f w = then_gives (λ (x : B) (u : World). Q x) (λ (x : A) (u : World). P x) (m w) k (h w) (λ x u p. f x p u)

-- whatever a first step gives
pub after_has : {A B : Type 0} (Q : B → Type 0) (m : Step A) (k : A → Step B) → ((x : A) → Has Q (k x)) → Has Q (m >>= k)
unfolding ◌>>=◌
after_has {A = A} {B = B} Q m k f w = then_gives (λ (x : B) (u : World). Q x) (λ (x : A) (u : World). Unit {0}) (m w) k (anything (m w)) (λ x u p. f x u)

pub skip_has : {A B : Type 0} (Q : B → Type 0) (m : Step A) (k : Step B) → Has Q k → Has Q (m >> k)
unfolding ◌>>◌
skip_has Q m k h = after_has Q m (λ _. k) (λ _. h)

pub pure_has : {A : Type 0} (P : A → Type 0) (x : A) → P x → Has P (pure x)
unfolding pure
pure_has P x h w = h

pub look_has : {A : Type 0} (P : A → Type 0) (f : World → A) → ((w : World) → P (f w)) → Has P (look f)
unfolding look
look_has P f h w = h w

pub refuse_has : {A : Type 0} (P : A → Type 0) (kind : ExpandKind) (sc : Scope) → Has P (refuse kind sc)
unfolding refuse
refuse_has P kind sc w = tt
