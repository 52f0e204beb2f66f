-- The forms of the prelude: a DEFUN in the scope of its own name gives the definition of that function (this project's own).
use Rattle.std.specs.Prelude.{◌≡◌, ℕ, Bool, true, false, ◌||◌, if◌then◌else◌, List, [], ◌∷◌, Option, Some, None}
use Rattle.std.specs.Option.{option_and_then}
use Rattle.lisp_base.specs.declared.base_symbols.TheConstants as at
use Rattle.lisp_base.specs.declared.values.Place.TheVariants as places
use Rattle.lisp_base.specs.declared.values.SymId.{SymId}
use Rattle.lisp_base.specs.declared.values.Val.{Val}
use Rattle.lisp_base.specs.Membership.{is_symbol_number}
use Rattle.lisp_base.specs.Sort.{number_of}
use Rattle.lisp_base.specs.Tables.{Object}
use Rattle.lisp_forms.specs.Conses.{cons_at}
use Rattle.core_form.specs.Tree.{Core, Top}
use Rattle.core_form.specs.Facts.{function_given}
use Rattle.core_form.specs.Lawful.{IsDefinition}
use Rattle.declarations.specs.declared.policy.Policy.{Policy}
use Rattle.expansion.specs.Scopes.{Scope, empty_scope, same_symbol}
use Rattle.expansion.specs.Steps.{World, gives}
use Rattle.expansion.specs.Forms.{symbol_in}
use Rattle.expansion.specs.Expanding.{expand}

-- the name in a list of DEFUN and more
abbrev pub name_after : List Object → Val × Val → Option SymId
name_after heap p =
    if is_symbol_number (number_of at.DEFUN) p.0 then option_and_then (λ (r : Val × Val). symbol_in r.0) (cons_at heap p.1) else None

abbrev pub name_defined : List Object → Val → Option SymId
name_defined heap v = option_and_then (name_after heap) (cons_at heap v)

-- The form that refuses other keys calls (LAMBDA ()) by FUNCALL. A function of one of these names would be called instead, within its own body.
abbrev pub refuses_keys : SymId → Bool
refuses_keys s = same_symbol at.FUNCALL s || (same_symbol at.LAMBDA s || same_symbol at.FUNCTION s)

-- all places are the function's name, and nothing is bound
abbrev pub scope_of : SymId → Policy → Scope
scope_of s policy = empty_scope (places.Prelude s) true policy

abbrev pub top_of : SymId → Core → ℕ → Top
top_of s e nodes = record { place = places.Prelude s; core = e; nodes = nodes }

-- the definition of the function of this name, which alone is given a function
pub record Defines (s : SymId) (t : Top) : Type 0 where
  pub definition : IsDefinition t
  pub named : definition.name ≡ s
  pub given : function_given t.core ≡ s ∷ []

abbrev pub FormsDefine : Type 0
FormsDefine =
    (fuel levels chain : ℕ) (s : SymId) (policy : Policy) (v : Val) (w after : World) (e : Core) (nodes : ℕ) → name_defined w.heap v ≡ Some s →
    refuses_keys s ≡ false → expand fuel levels chain (scope_of s policy) v w ≡ gives e after → Defines s (top_of s e nodes)
