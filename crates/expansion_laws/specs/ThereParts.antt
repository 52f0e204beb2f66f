-- What is read of a form that is there, and what is made of it, is there; and scopes in which all is there. (This project's own.)
use Rattle.std.specs.Prelude.{◌≡◌, List, All, Some}
use Rattle.lisp_base.specs.declared.values.Val.{Val}
use Rattle.lisp_base.specs.Spec.{Spec}
use Rattle.lisp_base.specs.Lawful.{IsLawful}
use Rattle.lisp_base.specs.Tables.{Table, Object}
use Rattle.lisp_forms.specs.Conses.{cons_at, place_at, elements}
use Rattle.type_spec.specs.Parsing.{specifier}
use Rattle.declarations.specs.Declarations.{Declared}
use Rattle.std_macros.specs.Expanding.{gives as makes_form, expanded_form}
use Rattle.core_form.specs.Eval.{Program}
use Rattle.core_form.specs.Lawful.{IsDatum, Reaches}
use Rattle.expansion.specs.Scopes.{Scope, at_form, declared_in}
use Rattle.expansion.specs.Steps.{World, gives}
use Rattle.expansion.specs.Bindings.{Contents, contents_of}
use Rattle.expansion_laws.specs.There.{Stores, stores, stores_of, AreSound, Grown, SymbolIsThere, PlaceMayBe, IsThere, TypedIsThere, IsSoundWorld, IsSoundScope, Holds}

-- ---- parts

-- the CAR and the CDR of a cons, and the elements of a list
abbrev pub PairsAreThere : Type 0
PairsAreThere = (s : Stores) (v : Val) (p : Val × Val) → IsThere s v → cons_at s.heap v ≡ Some p → IsThere s p.0 × IsThere s p.1

abbrev pub ElementsAreThere : Type 0
ElementsAreThere = (s : Stores) (v : Val) (vs : List Val) → IsThere s v → elements s.heap v ≡ Some vs → All (IsThere s) vs

-- what declarations say
pub record DeclaredIsThere (s : Stores) (d : Declared) : Type 0 where
  pub types : All (TypedIsThere s) d.types
  pub specials : All (SymbolIsThere s) d.specials

-- the declarations and the forms of a body; nothing of the world changes as they are read
pub record AreContents (w after : World) (c : Contents) : Type 0 where
  pub same : after ≡ w
  pub declared : DeclaredIsThere (stores_of w) c.declared
  pub forms : All (IsThere (stores_of w)) c.forms

abbrev pub BodiesAreThere : Type 0
BodiesAreThere =
    (sc : Scope) (vs : List Val) (w after : World) (c : Contents) → contents_of sc vs w ≡ gives c after → IsSoundWorld w → All (IsThere (stores_of w)) vs →
    AreContents w after c

-- whatever form writes a type
abbrev pub TypesAreLawful : Type 0
TypesAreLawful = (heap : List Object) (table : Table) (v : Val) (t : Spec) → specifier heap table v ≡ Some t → IsLawful table t

-- ---- forms of macros

pub record IsMadeForm (s : Stores) (v : Val) (after : Stores) : Type 0 where
  pub sound : AreSound after
  pub grown : Grown s after
  pub there : IsThere after v

-- the form that a macro form gives, in a table and a heap that hold what was there
abbrev pub MacrosAreThere : Type 0
MacrosAreThere =
    (table new_table : Table) (heap new_heap : List Object) (v made : Val) → expanded_form table heap v ≡ makes_form made new_table new_heap →
    AreSound (stores table heap) → IsThere (stores table heap) v → IsMadeForm (stores table heap) made (stores new_table new_heap)

-- ---- scopes

-- the scope of a form
abbrev pub FormsHaveScopes : Type 0
FormsHaveScopes = (s : Stores) (v : Val) (sc : Scope) → IsThere s v → IsSoundScope s sc → IsSoundScope s (at_form s.heap v sc)

-- the scope within declarations
abbrev pub DeclarationsHaveScopes : Type 0
DeclarationsHaveScopes = (s : Stores) (d : Declared) (sc : Scope) → DeclaredIsThere s d → IsSoundScope s sc → IsSoundScope s (declared_in d sc)

abbrev pub ScopesStay : Type 0
ScopesStay = (old new : Stores) (sc : Scope) → Grown old new → IsSoundScope old sc → IsSoundScope new sc

abbrev pub DeclarationsStay : Type 0
DeclarationsStay = (old new : Stores) (d : Declared) → Grown old new → DeclaredIsThere old d → DeclaredIsThere new d

-- ---- data

-- a value that reaches data alone, the symbols of whose places are in the table, is there
abbrev pub DataAreValues : Type 0
DataAreValues =
    (p : Program) (s : Stores) (v : Val) → Holds p s → ((u : Val) → Reaches p v u → IsDatum p u) → ((u : Val) → Reaches p v u → PlaceMayBe s (place_at s.heap u)) →
    IsThere s v
