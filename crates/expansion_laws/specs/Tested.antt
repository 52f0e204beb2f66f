-- Expansion tests the types that are declared of variables. (This project's own.)
use Rattle.std.specs.Prelude.{◌≡◌, ℕ, Bool, All}
use Rattle.lisp_base.specs.declared.values.Place.{Place}
use Rattle.lisp_base.specs.declared.values.SymId.{SymId}
use Rattle.lisp_base.specs.declared.values.Val.{Val}
use Rattle.core_form.specs.Tree.{Core}
use Rattle.core_form.specs.Lawful.{CountFrom, bound_in, DeclaredAreTested}
use Rattle.declarations.specs.declared.policy.Policy.{Policy}
use Rattle.declarations.specs.Declarations.{Declared}
use Rattle.expansion.specs.declared.heads.Target.{Target}
use Rattle.expansion.specs.declared.heads.Target.TheVariants.{Lexical, Global}
use Rattle.expansion.specs.Scopes.{Scope, empty_scope, declared_in}
use Rattle.expansion.specs.Steps.{World, gives}
use Rattle.expansion.specs.Expanding.{expand}

-- the value of a symbol
abbrev pub IsGlobal : Target → Type 0
IsGlobal (Lexical n) = ⊥
IsGlobal (Global s) = Unit {0}

-- no name means a lexical variable, as at the top of a file
abbrev pub HasNoLexical : Scope → Type 0
HasNoLexical sc = All (λ (p : SymId × Target). IsGlobal p.1) sc.variables

-- In the tree of a form at the top, whose bound numbers count up, each value that a variable takes is tested for each of the types that are
-- declared of it.
abbrev pub TypesAreTested : Type 0
TypesAreTested = (fuel levels chain : ℕ) (sc : Scope) (v : Val) (w after : World) (e : Core) (first : ℕ) →
    HasNoLexical sc → CountFrom first (bound_in e) → expand fuel levels chain sc v w ≡ gives e after → DeclaredAreTested e

-- the scope at the top of a file has no lexical variable
abbrev pub TopHasNoLexical : Type 0
TopHasNoLexical = (place : Place) (is_fixed : Bool) (policy : Policy) → HasNoLexical (empty_scope place is_fixed policy)

-- nor do declarations at the top bind one
abbrev pub DeclarationsBindNoLexical : Type 0
DeclarationsBindNoLexical = (d : Declared) (sc : Scope) → HasNoLexical sc → HasNoLexical (declared_in d sc)
