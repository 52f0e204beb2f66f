-- The declarations and the forms of a body (ANSI Common Lisp 3.3.4, 3.4.11).
use Rattle.std.specs.Prelude.{Bool, false, List, [], ◌∷◌, Option, Some, None, if◌then◌else◌}
use Rattle.lisp_base.specs.declared.values.Val.{Val}
use Rattle.lisp_base.specs.declared.base_symbols.TheConstants as at
use Rattle.lisp_base.specs.Sort.{StringObject, number_of}
use Rattle.lisp_base.specs.Membership.{is_symbol_number, is_object}
use Rattle.lisp_base.specs.Kinds.{kinds_of}
use Rattle.lisp_base.specs.Tables.{Object}
use Rattle.lisp_forms.specs.Conses.{cons_at}

abbrev pub is_string : List Object → Val → Bool
is_string heap v = is_object StringObject (kinds_of heap) v

abbrev pub begins_with_declare : Option (Val × Val) → Bool
begins_with_declare None = false
begins_with_declare (Some p) = is_symbol_number (number_of at.DECLARE) p.0

-- a list that begins with DECLARE
abbrev pub is_declaration : List Object → Val → Bool
is_declaration heap v = begins_with_declare (cons_at heap v)

-- a string that stands first is dropped where more follows it
abbrev pub undocumented : List Object → List Val → List Val
undocumented heap [] = []
undocumented heap (v ∷ []) = v ∷ []
undocumented heap (v ∷ x ∷ xs) = if is_string heap v then x ∷ xs else v ∷ x ∷ xs

-- the declarations at the front, and the forms after them
pub record Body : Type 0 where
  pub declarations : List Val
  pub forms : List Val

abbrev pub make_body : List Val → List Val → Body
make_body ds forms = record { declarations = ds; forms = forms }

abbrev pub with_declaration : Val → Body → Body
with_declaration d b = make_body (d ∷ b.declarations) b.forms

abbrev pub parted : List Object → List Val → Body
parted heap [] = make_body [] []
parted heap (v ∷ vs) = if is_declaration heap v then with_declaration v (parted heap vs) else make_body [] (v ∷ vs)

abbrev pub body_of : List Object → List Val → Body
body_of heap vs = parted heap (undocumented heap vs)
