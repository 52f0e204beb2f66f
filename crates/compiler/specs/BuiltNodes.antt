-- Which nodes of a program are built so far, and the place of the first one that isn't.
use Rattle.std.specs.Prelude.{◌≡◌, Bool, true, false, ◌&&◌, List, [], ◌∷◌, Option, Some, None}
use Rattle.std.specs.Option.{option_or}
use Rattle.lisp_base.specs.declared.values.Place.{Place}
use Rattle.lisp_base.specs.declared.primitives.Primitive.{Primitive as Operation}
use Rattle.lisp_base.specs.declared.primitives.Primitive.TheVariants as op
use Rattle.core_form.specs.Tree.{Core, Quote, If, Progn, Primitive, The, Cores, no_core, core, place_of, Top}
use Rattle.core_form.specs.Eval.{Program}
use Rattle.core_form.specs.Lawful.{IsLawful}
use Rattle.macroexpand.specs.Small.{IsSmall}
use Rattle.compiler.specs.Code.{is_constant, is_file, is_character_type, are_nil_forms, is_one}
use Rattle.compiler.specs.Parts.{image_of_forms}
use Rattle.compiler.specs.Compiled.{AreServed}
use Rattle.compiler.specs.Meets.{Meets}

-- READ-CHAR with three quoted NILs, and WRITE-CHAR with one argument, which signals its error at a place of the file
abbrev pub is_built_call : Place → Operation → Cores → Bool
is_built_call p op.ReadChar es = are_nil_forms 3 es
is_built_call p op.WriteChar es = is_file p && is_one es
is_built_call p _ es = false

-- Whether a node itself is built, whatever its parts are: a constant that is NIL, T or a character; IF; PROGN; one of the
-- two calls; THE with the type CHARACTER, which signals its error at a place of the file.
abbrev pub is_built : Core → Bool
is_built (Quote p v) = is_constant v
is_built (If p a b c) = true
is_built (Progn p es) = true
is_built (Primitive p q es) = is_built_call p q es
is_built (The p t e) = is_file p && is_character_type t
is_built _ = false

abbrev pub unless_built : Bool → Place → Option Place → Option Place
unless_built true p inside = inside
unless_built false p inside = Some p

-- the place of the first node of a form that isn't built, each node before its parts, the parts from left to right
abbrev mutual
  pub first_in : Core → Option Place
  first_in (Quote p v) = unless_built (is_built (Quote p v)) p None
  first_in (If p a b c) = option_or (first_in a) (option_or (first_in b) (first_in c))
  first_in (Progn p es) = first_among es
  first_in (Primitive p q es) = unless_built (is_built (Primitive p q es)) p (first_among es)
  first_in (The p t e) = unless_built (is_built (The p t e)) p (first_in e)
  first_in e = Some (place_of e)

  pub first_among : Cores → Option Place
  first_among no_core = None
  first_among (core e es) = option_or (first_in e) (first_among es)

abbrev pub first_of_forms : List Top → Option Place
first_of_forms [] = None
first_of_forms (t ∷ ts) = option_or (first_in t.core) (first_of_forms ts)

-- that of a program: the forms of the prelude come before those of the file
abbrev pub first_unbuilt : Program → Option Place
first_unbuilt p = option_or (first_of_forms p.prelude) (first_of_forms p.forms)

-- ---- what follows where there is none

-- A program all of whose nodes are built holds no function of the prelude, and the image of its forms does what it does.
pub record IsBuilt (p : Program) : Type 0 where
  pub alone : p.prelude ≡ []
  pub served : AreServed p.forms
  pub meets : Meets p (image_of_forms p.forms)

abbrev pub BuiltProgramsMeet : Type 0
BuiltProgramsMeet = (p : Program) → IsLawful p → IsSmall p → first_unbuilt p ≡ None → IsBuilt p
