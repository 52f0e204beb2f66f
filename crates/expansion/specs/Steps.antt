-- What an expansion knows and counts, what stands around a form, and steps that may be refused (this project's own).
use Rattle.std.specs.Prelude.{ℕ, zero, suc, ◌+◌, nat_le, Bool, true, false, List, Option, Some, None}
use Rattle.lisp_base.specs.declared.values.Place.{Place}
use Rattle.lisp_base.specs.declared.values.SymId.{SymId}
use Rattle.lisp_base.specs.Tables.{Table, Object}
use Rattle.declarations.specs.declared.policy.Policy.{Policy}
use Rattle.declarations.specs.Declarations.{Typed}
use Rattle.expansion.specs.declared.kind.ExpandKind.{ExpandKind}
use Rattle.expansion.specs.declared.kind.ExpandKind.TheVariants.{BadForm, TooManyNodes, TooNested}
use Rattle.expansion.specs.Scopes.{Scope}

-- What is known: symbols, objects, and what has been proclaimed of variables in the file. What is counted in a top-level form: the number of
-- the next variable, local function, block or tag, the functions and the nodes so far.
pub record World : Type 0 where
  pub table : Table
  pub heap : List Object
  pub specials : List SymId
  pub declaimed : List Typed
  pub policy : Policy
  pub next : ℕ
  pub functions : ℕ
  pub nodes : ℕ

-- a result with the world after it, or why and where the file is refused
pub data Answer (A : Type 0) : Type 0 where
  gives : A → World → Answer A
  refused : ExpandKind → Place → Answer A

abbrev pub Step : Type 0 → Type 0
Step A = World → Answer A

abbrev pub and_then : {A B : Type 0} → Answer A → (A → Step B) → Answer B
and_then (gives a w) f = f a w
and_then (refused kind place) f = refused kind place

infixl 10 ◌>>=◌
unfoldable pub ◌>>=◌ : {A B : Type 0} → Step A → (A → Step B) → Step B
m >>= f = λ w. and_then (m w) f

infixl 10 ◌>>◌
unfoldable pub ◌>>◌ : {A B : Type 0} → Step A → Step B → Step B
m >> k = m >>= (λ _. k)

unfoldable pub pure : {A : Type 0} → A → Step A
pure a = λ w. gives a w

-- the file is refused at the form that is being expanded
unfoldable pub refuse : {A : Type 0} → ExpandKind → Scope → Step A
refuse kind sc = λ w. refused kind sc.place

-- what a test finds, or a form that breaks its operator's syntax
unfoldable pub given_or : {A : Type 0} → ExpandKind → Scope → Option A → Step A
given_or kind sc None = refuse kind sc
given_or kind sc (Some a) = pure a

unfoldable pub expect : {A : Type 0} → Scope → Option A → Step A
expect sc found = given_or BadForm sc found

unfoldable pub only_if : Scope → Bool → Step (Unit {0})
only_if sc true = pure tt
only_if sc false = refuse BadForm sc

-- what the world says
unfoldable pub look : {A : Type 0} → (World → A) → Step A
look f = λ w. gives (f w) w

unfoldable pub change : (World → World) → Step (Unit {0})
change f = λ w. gives tt (f w)

-- ---- counting

unfoldable pub most_nodes : ℕ
most_nodes = 4000

-- how deep nodes may stand
unfoldable pub most_levels : ℕ
most_levels = 1000

-- how many forms without a node may follow one another
unfoldable pub most_chain : ℕ
most_chain = 1000

unfoldable pub begun : Bool → ℕ → Scope → World → Answer (Unit {0})
begun false levels sc w = refused TooManyNodes sc.place
begun true zero sc w = refused TooNested sc.place
begun true (suc n) sc w = gives tt w

abbrev pub with_nodes : ℕ → World → World
with_nodes n w = record w { nodes = n }

-- a node that counts so much begins, where so many levels are left
unfoldable pub begin : (count levels : ℕ) → Scope → Step (Unit {0})
begin count levels sc = λ w. begun (nat_le (w.nodes + count) most_nodes) levels sc (with_nodes (w.nodes + count) w)

-- the levels that are left inside a node
abbrev pub inside : ℕ → ℕ
inside zero = zero
inside (suc n) = n

-- the next number of a variable, local function, block or tag
unfoldable pub take_numbers : ℕ → Step ℕ
take_numbers count = λ w. gives w.next (record w { next = w.next + count })

-- the number of the next function
unfoldable pub take_function : Step ℕ
take_function = λ w. gives w.functions (record w { functions = suc w.functions })
