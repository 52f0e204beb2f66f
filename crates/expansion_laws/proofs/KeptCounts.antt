-- Steps that count nothing.
use Rattle.std.specs.Prelude.{◌≡◌, Bool, true, false, Option, Some, None, refl}
use Rattle.std.proofs.Common.{◌∙◌, subst}
use Rattle.expansion.specs.declared.kind.ExpandKind.{ExpandKind}
use Rattle.expansion.specs.declared.kind.ExpandKind.TheVariants.{BadForm}
use Rattle.expansion.specs.Scopes.{Scope}
use Rattle.expansion.specs.Steps.{World, Answer, gives, refused, Step, and_then, ◌>>=◌, ◌>>◌, pure, refuse, given_or, expect, only_if, look, change}

-- what is counted is the same in both worlds
pub record SameCounts (w u : World) : Type 0 where
  pub next : u.next ≡ w.next
  pub functions : u.functions ≡ w.functions
  pub nodes : u.nodes ≡ w.nodes

pub same : {w : World} → SameCounts w w
same = record { next = refl; functions = refl; nodes = refl }

then_same : {w u v : World} → SameCounts w u → SameCounts u v → SameCounts w v
then_same h k = record { next = k.next ∙ h.next; functions = k.functions ∙ h.functions; nodes = k.nodes ∙ h.nodes }

abbrev pub Kept : {A : Type 0} → World → Answer A → Type 0
Kept w (gives a u) = SameCounts w u
Kept w (refused kind place) = Unit {0}

pub record KeepsCounts {A : Type 0} (m : Step A) : Type 0 where
  pub keeps : (w : World) → Kept w (m w)

pub kept : {A : Type 0} {m : Step A} → KeepsCounts m → (w : World) (a : A) (u : World) → m w ≡ gives a u → SameCounts w u
kept {A = A} {m = m} h w a u is = subst (λ (x : Answer A). Kept w x) is (h.keeps w)

-- ---- one lemma for each kind of step

pub keeps_pure : {A : Type 0} (a : A) → KeepsCounts (pure a)
unfolding pure
keeps_pure a = record { keeps = λ w. same }

pub keeps_refuse : {A : Type 0} (kind : ExpandKind) (sc : Scope) → KeepsCounts (refuse {A = A} kind sc)
unfolding refuse
keeps_refuse kind sc = record { keeps = λ w. tt }

pub keeps_look : {A : Type 0} (f : World → A) → KeepsCounts (look f)
unfolding look
keeps_look f = record { keeps = λ w. same }

pub keeps_change : {f : World → World} → ((w : World) → SameCounts w (f w)) → KeepsCounts (change f)
unfolding change
keeps_change h = record { keeps = h }

pub keeps_given : {A : Type 0} (kind : ExpandKind) (sc : Scope) (o : Option A) → KeepsCounts (given_or kind sc o)
unfolding given_or
keeps_given kind sc None = keeps_refuse kind sc
keeps_given kind sc (Some a) = keeps_pure a

pub keeps_expect : {A : Type 0} (sc : Scope) (o : Option A) → KeepsCounts (expect sc o)
unfolding expect
keeps_expect sc o = keeps_given BadForm sc o

pub keeps_only : (sc : Scope) (b : Bool) → KeepsCounts (only_if sc b)
unfolding only_if
keeps_only sc true = keeps_pure tt
keeps_only sc false = keeps_refuse BadForm sc

pub keeps_bind : {A B : Type 0} {m : Step A} {f : A → Step B} → KeepsCounts m → ((a : A) → KeepsCounts (f a)) → KeepsCounts (m >>= f)
unfolding ◌>>=◌
keeps_bind {A = A} {B = B} {m = m} {f = f} h k = record { keeps = λ w. by_answer w (m w) (h.keeps w) }
  where
    after : {w u : World} → SameCounts w u → (b : Answer B) → Kept u b → Kept w b
    after s (gives b v) t = then_same s t
    after s (refused kind place) t = tt

    by_answer : (w : World) (a : Answer A) → Kept w a → Kept w (and_then a f)
    by_answer w (gives a u) s = after s (f a u) ((k a).keeps u)
    by_answer w (refused kind place) s = tt

pub keeps_then : {A B : Type 0} {m : Step A} {k : Step B} → KeepsCounts m → KeepsCounts k → KeepsCounts (m >> k)
unfolding ◌>>◌
keeps_then h k = keeps_bind h (λ a. k)

-- what the world says, and then a step on that
pub keeps_looked : {A B : Type 0} (f : World → A) {k : A → Step B} → ((a : A) → KeepsCounts (k a)) → KeepsCounts (look f >>= k)
keeps_looked f h = keeps_bind (keeps_look f) h
