-- Steps from a sound world: what is so of their results, and the world after them is sound and holds what it held.
use Rattle.std.specs.Prelude.{ℕ, zero, suc, Bool, true, false, List, Option, Some, None}
use Rattle.lisp_base.specs.declared.values.Place.{Place}
use Rattle.lisp_base.specs.declared.values.SymId.{SymId}
use Rattle.declarations.specs.Declarations.{Typed}
use Rattle.expansion.specs.declared.kind.ExpandKind.{ExpandKind}
use Rattle.expansion.specs.Scopes.{Scope}
use Rattle.expansion.specs.Steps.{World, Answer, gives, refused, Step, and_then, ◌>>=◌, ◌>>◌, pure, refuse, given_or, expect, only_if, look, begun, begin, take_numbers, take_function}
use Rattle.expansion_laws.specs.There.{Stores, stores_of, SymbolIsThere, AreSound, Grown, TypedIsThere}
use Rattle.expansion_laws.proofs.ThereLists.{Each, Where, found_there}
use Rattle.expansion_laws.proofs.ThereStores.{grown_same, grown_on}

-- sound stores, and what has been proclaimed in the file is there
pub record AreInOrder (s : Stores) (proclaimed : List SymId) (declaimed : List Typed) : Type 0 where
  pub sound : AreSound s
  pub specials : Each (SymbolIsThere s) proclaimed
  pub types : Each (TypedIsThere s) declaimed

abbrev pub IsInOrder : World → Type 0
IsInOrder w = AreInOrder (stores_of w) w.specials w.declaimed

-- a sound world that holds what an earlier one held
pub record Later (w u : World) : Type 0 where
  pub order : IsInOrder u
  pub grown : Grown (stores_of w) (stores_of u)

pub later_same : {w : World} → IsInOrder w → Later w w
later_same {w} h = record { order = h; grown = grown_same (stores_of w) }

pub later_on : {w u x : World} → Later w u → Later u x → Later w x
later_on h k = record { order = k.order; grown = grown_on h.grown k.grown }

-- a result of which P holds, in a later world; or none
pub data Safe (w : World) {A : Type 0} (P : Stores → A → Type 0) : Answer A → Type 0 where
  stops : {kind : ExpandKind} {place : Place} → Safe w P (refused kind place)
  goes : {a : A} {u : World} → Later w u → P (stores_of u) a → Safe w P (gives a u)

abbrev pub Nothing : Stores → Unit {0} → Type 0
Nothing s x = Unit {0}

module _ {A : Type 0} {P : Stores → A → Type 0} where
  pub safe_from : {w u : World} {r : Answer A} → Later w u → Safe u P r → Safe w P r
  safe_from l stops = stops
  safe_from l (goes m h) = goes (later_on l m) h

  pub safe_result : {w u : World} {a : A} → Safe w P (gives a u) → Later w u × P (stores_of u) a
  safe_result (goes l h) = (l, h)

  pub pure_safe : {w : World} (a : A) → IsInOrder w → P (stores_of w) a → Safe w P (pure a w)
  unfolding pure
  pure_safe a h p = goes (later_same h) p

  pub look_safe : {w : World} (f : World → A) → IsInOrder w → P (stores_of w) (f w) → Safe w P (look f w)
  unfolding look
  look_safe f h p = goes (later_same h) p

  pub refuse_safe : {w : World} (kind : ExpandKind) (sc : Scope) → Safe w P (refuse kind sc w)
  unfolding refuse
  refuse_safe kind sc = stops

  pub given_safe : {w : World} (kind : ExpandKind) (sc : Scope) (m : Option A) → IsInOrder w → Where (P (stores_of w)) m → Safe w P (given_or kind sc m w)
  unfolding given_or
  given_safe kind sc None h p = refuse_safe kind sc
  given_safe kind sc (Some a) h (found_there p) = pure_safe a h p

  pub expect_safe : {w : World} (sc : Scope) (m : Option A) → IsInOrder w → Where (P (stores_of w)) m → Safe w P (expect sc m w)
  unfolding expect
  expect_safe sc m h p = given_safe _ sc m h p

pub only_safe : {w : World} (sc : Scope) (b : Bool) → IsInOrder w → Safe w Nothing (only_if sc b w)
unfolding only_if
only_safe sc true h = pure_safe tt h tt
only_safe sc false h = refuse_safe _ sc

module _ {A B : Type 0} {P : Stores → A → Type 0} {Q : Stores → B → Type 0} where
  answer_then : {w : World} {r : Answer A} (f : A → Step B) → Safe w P r → ((a : A) (u : World) → Later w u → P (stores_of u) a → Safe u Q (f a u)) → Safe w Q (and_then r f)
  answer_then f stops k = stops
  answer_then f (goes {a = a} {u = u} l h) k = safe_from l (k a u l h)

  pub then_safe : {w : World} (m : Step A) (f : A → Step B) → Safe w P (m w) → ((a : A) (u : World) → Later w u → P (stores_of u) a → Safe u Q (f a u)) → Safe w Q ((m >>= f) w)
  unfolding ◌>>=◌
  then_safe m f h k = answer_then f h k

  pub next_safe : {w : World} (m : Step A) (f : Step B) → Safe w P (m w) → ((a : A) (u : World) → Later w u → P (stores_of u) a → Safe u Q (f u)) → Safe w Q ((m >> f) w)
  unfolding ◌>>◌
  next_safe m f h k = then_safe m (λ _. f) h k

-- ---- counting

begun_safe : {w : World} (b : Bool) (levels : ℕ) (sc : Scope) (u : World) → Later w u → Safe w Nothing (begun b levels sc u)
unfolding begun
begun_safe false levels sc u l = stops
begun_safe true zero sc u l = stops
begun_safe true (suc n) sc u l = goes l tt

pub begin_safe : {w : World} (count levels : ℕ) (sc : Scope) → IsInOrder w → Safe w Nothing (begin count levels sc w)
unfolding begin
begin_safe {w} count levels sc h = begun_safe _ levels sc _ (record { order = h; grown = grown_same (stores_of w) })

abbrev pub Number : Stores → ℕ → Type 0
Number s n = Unit {0}

pub numbers_safe : {w : World} (count : ℕ) → IsInOrder w → Safe w Number (take_numbers count w)
unfolding take_numbers
numbers_safe {w} count h = goes (record { order = h; grown = grown_same (stores_of w) }) tt

pub function_number_safe : {w : World} → IsInOrder w → Safe w Number (take_function w)
unfolding take_function
function_number_safe {w} h = goes (record { order = h; grown = grown_same (stores_of w) }) tt
