-- What holds of the results of steps, where types may be proclaimed.
use Rattle.std.specs.Prelude.{◌≡◌, ℕ, zero, suc, ◌+◌, Bool, true, false, List, ◌++◌, filter, map, Contains, Option, Some, None}
use Rattle.std.proofs.Common.{refl, sym, ap, subst, ◌∙◌}
use Rattle.std.proofs.lemmas.List.{map-append}
use Rattle.std.proofs.lemmas.List.Elements.{Contains-append_left, filter-append}
use Rattle.lisp_base.specs.declared.values.SymId.{SymId}
use Rattle.lisp_base.specs.Spec.{Spec}
use Rattle.declarations.specs.Declarations.{Typed}
use Rattle.expansion.specs.declared.kind.ExpandKind.{ExpandKind}
use Rattle.expansion.specs.Scopes.{Scope, same_symbol}
use Rattle.expansion.specs.Steps.{World, Answer, gives, refused, Step, ◌>>=◌, ◌>>◌, pure, refuse, expect, given_or, look, begun, begin, with_nodes, take_numbers, take_function}
use Rattle.expansion.specs.Bindings.{types_of}
use Rattle.expansion_laws.proofs.Giving.{OnGives, weaker, then_gives, Has}

-- ---- what has been proclaimed

types_append : (s : SymId) (ds es : List Typed) → types_of s (ds ++ es) ≡ types_of s ds ++ types_of s es
types_append s ds es =
    ap (λ (xs : List Typed). map (λ (d : Typed). d.spec) xs) (filter-append (λ (d : Typed). same_symbol s d.variable) ds es) ∙
    map-append (λ (d : Typed). d.spec) (filter (λ (d : Typed). same_symbol s d.variable) ds) (filter (λ (d : Typed). same_symbol s d.variable) es)

-- what is proclaimed of each variable in the first list is so in the second
abbrev pub Grown : List Typed → List Typed → Type 0
Grown ds es = (s : SymId) (t : Spec) → Contains (types_of s ds) t → Contains (types_of s es) t

pub grown_same : (ds : List Typed) → Grown ds ds
grown_same ds s t h = h

pub grown_on : (ds es fs : List Typed) → Grown ds es → Grown es fs → Grown ds fs
grown_on ds es fs g h s t there = h s t (g s t there)

pub grown_more : (ds more : List Typed) → Grown ds (ds ++ more)
grown_more ds more s t there = subst (λ (ts : List Spec). Contains ts t) (sym (types_append s ds more)) (Contains-append_left (types_of s ds) (types_of s more) t there)

-- ---- steps

-- from a world with this, each result has that, and the world after it a third
abbrev pub Does : {A : Type 0} → (List Typed → Type 0) → (List Typed → Type 0) → (A → Type 0) → Step A → Type 0
Does I J P m = (w : World) → I w.declaimed → OnGives (λ x u. P x × J u.declaimed) (m w)

-- nothing is proclaimed in a step
abbrev pub Keeps : {A : Type 0} → (A → Type 0) → Step A → Type 0
Keeps P m = (w : World) → OnGives (λ x u. P x × (u.declaimed ≡ w.declaimed)) (m w)

abbrev pub Anything : {A : Type 0} → A → Type 0
Anything x = Unit {0}

pub pure_does : {A : Type 0} (I : List Typed → Type 0) (P : A → Type 0) (x : A) → P x → Does I I P (pure x)
unfolding pure
pure_does I P x h w i = (h, i)

pub refuse_does : {A : Type 0} (I J : List Typed → Type 0) (P : A → Type 0) (kind : ExpandKind) (sc : Scope) → Does I J P (refuse kind sc)
unfolding refuse
refuse_does I J P kind sc w i = tt

pub look_does : {A : Type 0} (I : List Typed → Type 0) (P : A → Type 0) (f : World → A) → ((w : World) → I w.declaimed → P (f w)) → Does I I P (look f)
unfolding look
look_does I P f h w i = (h w i, i)

pub keeps_does : {A : Type 0} (I : List Typed → Type 0) (P : A → Type 0) (m : Step A) → Keeps P m → Does I I P m
keeps_does I P m h w i =
    weaker (λ x u. P x × (u.declaimed ≡ w.declaimed)) (λ x u. P x × I u.declaimed) (m w) (h w) (λ x u k. (k.0, subst I (sym k.1) i))

pub then_does : {A B : Type 0} (I J K : List Typed → Type 0) (P : A → Type 0) (Q : B → Type 0) (m : Step A) (k : A → Step B) → Does I J P m → ((x : A) → P x → Does J K Q (k x)) → Does I K Q (m >>= k)
unfolding ◌>>=◌
then_does {A = A} {B = B} I J K P Q m k h f w i = then_gives (λ (x : B) (u : World). Q x × K u.declaimed) (λ (x : A) (u : World). P x × J u.declaimed) (m w) k (h w i) (λ x u p. f x p.0 u p.1)

-- after a step that keeps what is proclaimed
pub after_does : {A B : Type 0} (I K : List Typed → Type 0) (Q : B → Type 0) (m : Step A) (k : A → Step B) → Keeps Anything m → ((x : A) → Does I K Q (k x)) → Does I K Q (m >>= k)
after_does {A = A} {B = B} I K Q m k h f = then_does I I K Anything Q m k (keeps_does I Anything m h) (λ x _. f x)

pub skip_does : {A B : Type 0} (I K : List Typed → Type 0) (Q : B → Type 0) (m : Step A) (k : Step B) → Keeps Anything m → Does I K Q k → Does I K Q (m >> k)
unfolding ◌>>◌
skip_does I K Q m k h g = after_does I K Q m (λ _. k) h (λ x. g)

pub keeps_then : {A B : Type 0} (m : Step A) (k : A → Step B) → Keeps Anything m → ((x : A) → Keeps Anything (k x)) → Keeps Anything (m >>= k)
unfolding ◌>>=◌
keeps_then {A = A} {B = B} m k h f w =
    then_gives (λ (y : B) (u : World). Unit {0} × (u.declaimed ≡ w.declaimed)) (λ (x : A) (u : World). Unit {0} × (u.declaimed ≡ w.declaimed)) (m w) k (h w) (λ x u p.
    weaker (λ (y : B) (v : World). Unit {0} × (v.declaimed ≡ u.declaimed)) (λ (y : B) (v : World). Unit {0} × (v.declaimed ≡ w.declaimed)) (k x u) (f x u) (λ y v q. (tt, q.1 ∙ p.1)))

-- both of two, the one whatever the world is
pub both_do : {A : Type 0} (I J : List Typed → Type 0) (P Q : A → Type 0) (m : Step A) → Does I J P m → Has Q m → Does I J (λ x. P x × Q x) m
both_do {A = A} I J P Q m h k w i = join (m w) (h w i) (k w)
  where
    join : (a : Answer A) → OnGives (λ x u. P x × J u.declaimed) a → OnGives (λ (x : A) (u : World). Q x) a → OnGives (λ (x : A) (u : World). (P x × Q x) × J u.declaimed) a
    join (gives x u) p q = ((p.0, q), p.1)
    join (refused kind place) p q = tt

-- ---- what is proclaimed at the least

abbrev pub Since : {A : Type 0} → List Typed → (A → Type 0) → Step A → Type 0
Since ds P m = Does (Grown ds) (Grown ds) P m

-- what is proclaimed is just this
abbrev pub Exactly : List Typed → List Typed → Type 0
Exactly ds es = es ≡ ds

pub since_exactly : {A : Type 0} (ds : List Typed) (P : A → Type 0) (m : Step A) → ((es : List Typed) → Grown ds es → Does (Exactly es) (Grown es) P m) → Since ds P m
since_exactly ds P m h w g =
    weaker (λ x u. P x × Grown w.declaimed u.declaimed) (λ x u. P x × Grown ds u.declaimed) (m w) (h w.declaimed g w refl) (λ x u k. (k.0, grown_on ds w.declaimed u.declaimed g k.1))

pub exactly_since : {A : Type 0} (ds : List Typed) (P : A → Type 0) (m : Step A) → Since ds P m → Does (Exactly ds) (Grown ds) P m
exactly_since ds P m h w is = h w (subst (λ (es : List Typed). Grown ds es) (sym is) (grown_same ds))

-- ---- steps that are often taken

begun_keeps : (b : Bool) (levels : ℕ) (sc : Scope) (w : World) → OnGives (λ (x : Unit {0}) (u : World). Unit {0} × (u.declaimed ≡ w.declaimed)) (begun b levels sc w)
unfolding begun
begun_keeps false levels sc w = tt
begun_keeps true zero sc w = tt
begun_keeps true (suc n) sc w = (tt, refl)

pub begin_keeps : (count levels : ℕ) (sc : Scope) → Keeps Anything (begin count levels sc)
unfolding begin
begin_keeps count levels sc w = begun_keeps _ levels sc (with_nodes (w.nodes + count) w)

pub numbers_keep : (count : ℕ) → Keeps Anything (take_numbers count)
unfolding take_numbers
numbers_keep count w = (tt, refl)

pub function_keeps : Keeps Anything take_function
unfolding take_function
function_keeps w = (tt, refl)

pub look_keeps : {A : Type 0} (f : World → A) → Keeps Anything (look f)
unfolding look
look_keeps f w = (tt, refl)

pub expect_keeps : {A : Type 0} (sc : Scope) (found : Option A) → Keeps Anything (expect sc found)
unfolding expect given_or refuse pure
expect_keeps sc None w = tt
expect_keeps sc (Some x) w = (tt, refl)
