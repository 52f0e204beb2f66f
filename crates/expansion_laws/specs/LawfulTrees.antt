-- The tree of a form at the top is lawful in the program of the world after it, and stays so as more is added. (This project's own.)
use Rattle.std.specs.Prelude.{◌≡◌, ℕ, ◌≤◌, Bool, List, [], All}
use Rattle.lisp_base.specs.declared.values.Place.{Place}
use Rattle.lisp_base.specs.declared.values.Val.{Val}
use Rattle.lisp_base.specs.Tables.{Object}
use Rattle.lisp_forms.specs.Conses.{place_at}
use Rattle.core_form.specs.Tree.{Core, Top}
use Rattle.core_form.specs.Checked as checked
use Rattle.core_form.specs.Checked.{no_scope, TopIsBuilt}
use Rattle.core_form.specs.Eval.{Program}
use Rattle.core_form.specs.Lawful.{parts_of, meant, place_symbols, Reaches, TopIsLawful}
use Rattle.declarations.specs.declared.policy.Policy.{Policy}
use Rattle.declarations.specs.Declarations.{Declared}
use Rattle.expansion.specs.Scopes.{Scope, empty_scope, at_form, declared_in, with_policy}
use Rattle.expansion.specs.Steps.{World, gives, most_nodes}
use Rattle.expansion.specs.Expanding.{expand}
use Rattle.expansion_laws.specs.CheckedTrees.{Holds as NamesAreBound}
use Rattle.expansion_laws.specs.There.{Stores, stores_of, Grown, SymbolIsThere, PlaceIsThere, PlaceMayBe, IsThere, IsSoundWorld, IsSoundScope, Holds}
use Rattle.expansion_laws.specs.Tested.{HasNoLexical}

-- ---- the top of a file

-- a top-level form of this tree, with the nodes that have been counted
abbrev pub top_of : Place → Core → World → Top
top_of place e after = record { place = place; core = e; nodes = after.nodes }

-- the objects and symbols of a heap and a table, as the meaning of a program sees them
abbrev pub program_of : Stores → Program
program_of s = meant (parts_of [] [] s.heap s.table.symbols)

-- variables, functions and nodes are counted in each form at the top anew
pub record IsCountedAnew (w : World) : Type 0 where
  pub next : w.next ≡ 1
  pub functions : w.functions ≡ 0
  pub nodes : w.nodes ≡ 0

-- at the top no name means a lexical variable, and there is no local function, block or tag
pub record IsAtTop (sc : Scope) : Type 0 where
  pub variables : HasNoLexical sc
  pub functions : sc.functions ≡ []
  pub blocks : sc.blocks ≡ []
  pub tags : sc.tags ≡ []

-- ---- the law of trees

-- A form at the top has been expanded lawfully: its tree is lawful in each program that holds the objects and symbols of the world after it, which
-- is sound and holds what the world before it held.
pub record IsLawfullyMade (before after : World) (t : Top) : Type 0 where
  pub sound : IsSoundWorld after
  pub grown : Grown (stores_of before) (stores_of after)
  pub built : TopIsBuilt t
  pub few : t.nodes ≤ most_nodes
  pub lawful : (p : Program) → Holds p (stores_of after) → TopIsLawful p t

-- a form that is there, at the top of a sound world that counts anew, gives a lawful tree
abbrev pub TreesAreLawful : Type 0
TreesAreLawful =
    (fuel levels chain : ℕ) (sc : Scope) (v : Val) (w after : World) (e : Core) (place : Place) → expand fuel levels chain sc v w ≡ gives e after →
    IsCountedAnew w → IsSoundWorld w → IsSoundScope (stores_of w) sc → IsAtTop sc → IsThere (stores_of w) v → PlaceIsThere (stores_of w) place →
    IsLawfullyMade w after (top_of place e after)

-- a lawful tree is lawful in each later program, which holds more objects and symbols
abbrev pub LawfulTreesStay : Type 0
LawfulTreesStay = (old new : Stores) (p q : Program) (t : Top) → Grown old new → Holds p old → Holds q new → TopIsLawful p t → TopIsLawful q t

-- the program of a heap and a table holds their objects and symbols
abbrev pub ProgramsHold : Type 0
ProgramsHold = (s : Stores) → Holds (program_of s) s

-- ---- scopes of the top

abbrev pub TopsAreEmpty : Type 0
TopsAreEmpty = (place : Place) (is_fixed : Bool) (policy : Policy) → IsAtTop (empty_scope place is_fixed policy)

-- an empty scope is sound where its place is there
abbrev pub TopsAreSound : Type 0
TopsAreSound =
    (s : Stores) (place : Place) (is_fixed : Bool) (policy : Policy) → PlaceIsThere s place → IsSoundScope s (empty_scope place is_fixed policy)

-- the scope of a form at the top, the scope within declarations there, and one with another policy
abbrev pub FormsStayAtTop : Type 0
FormsStayAtTop = (heap : List Object) (v : Val) (sc : Scope) → IsAtTop sc → IsAtTop (at_form heap v sc)

abbrev pub DeclarationsStayAtTop : Type 0
DeclarationsStayAtTop = (d : Declared) (sc : Scope) → IsAtTop sc → IsAtTop (declared_in d sc)

abbrev pub PoliciesStayAtTop : Type 0
PoliciesStayAtTop = (policy : Policy) (sc : Scope) → IsAtTop sc → IsAtTop (with_policy policy sc)

-- what names mean there is bound round any node
abbrev pub TopsAreBound : Type 0
TopsAreBound = (sc : Scope) (round : checked.Scope) → IsAtTop sc → NamesAreBound sc round

-- ---- places

-- a place whose symbols are there is there
abbrev pub PlacesHaveSymbols : Type 0
PlacesHaveSymbols = (s : Stores) (place : Place) → All (SymbolIsThere s) (place_symbols place) → PlaceIsThere s place

abbrev pub SymbolsHavePlaces : Type 0
SymbolsHavePlaces = (s : Stores) (place : Place) → PlaceIsThere s place → All (SymbolIsThere s) (place_symbols place)

-- the places of all that a value reaches, where it is there
abbrev pub ReachedPlacesAreThere : Type 0
ReachedPlacesAreThere = (p : Program) (s : Stores) (v u : Val) → Holds p s → IsThere s v → Reaches p v u → PlaceMayBe s (place_at s.heap u)
