-- The code of a form: its instructions wherever they stand, since all jumps in it are relative.
use Rattle.std.specs.Prelude.{ℕ, zero, suc, ◌==◌, Bool, true, false, ◌&&◌, nat_lt, List, [], ◌∷◌, ◌++◌}
use Rattle.lisp_base.specs.declared.values.Val.{Val}
use Rattle.lisp_base.specs.declared.values.Val.TheVariants.{Int, Char, Sym, Ref}
use Rattle.lisp_base.specs.declared.values.Place.{Place}
use Rattle.lisp_base.specs.declared.values.Place.TheVariants as places
use Rattle.lisp_base.specs.declared.primitives.Primitive.{Primitive as Operation}
use Rattle.lisp_base.specs.declared.primitives.Primitive.TheVariants as op
use Rattle.lisp_base.specs.declared.types.TypeName.TheVariants as name
use Rattle.lisp_base.specs.declared.types.TypeName.{TypeName}
use Rattle.lisp_base.specs.Spec.{Spec, Named, Integer, Signed, Unsigned, Mod, Member, Eql, And, Or, Not}
use Rattle.lisp_base.specs.Sort.{number_of}
use Rattle.core_form.specs.Tree.{Core, Quote, If, Progn, Primitive, The, Cores, no_core, core, Top}
use Rattle.rv_isa.specs.Machine.{is_char}
use Rattle.compiler.specs.declared.slot.Slot.{Slot}
use Rattle.compiler.specs.Words.{symbol_word}
use Rattle.object_model.specs.Words.{character_word}
use Rattle.compiler.specs.Templates.{nil_slots, word_slots, read_slots, check_slots, write_slots, if_slots, end_slots}

abbrev pub symbol_slots : ℕ → List Slot
symbol_slots zero = nil_slots
symbol_slots (suc n) = word_slots (symbol_word (suc n))

abbrev pub constant_slots : Val → List Slot
constant_slots (Int z) = []
constant_slots (Char c) = word_slots (character_word c)
constant_slots (Sym s) = symbol_slots (number_of s)
constant_slots (Ref o) = []

-- a primitive whose arguments become this code
abbrev pub operation_slots : Place → Operation → List Slot → List Slot
operation_slots p op.ReadChar code = read_slots
operation_slots p op.WriteChar code = code ++ (check_slots p ++ write_slots)
operation_slots p _ code = []

-- one part after another, where there is a further part
abbrev pub after : Cores → List Slot → List Slot → List Slot
after no_core first rest = first
after (core e es) first rest = first ++ rest

abbrev mutual
  pub code_of : Core → List Slot
  code_of (Quote p v) = constant_slots v
  code_of (If p a b c) = if_slots (code_of a) (code_of b) (code_of c)
  code_of (Progn p es) = sequence_of es
  code_of (Primitive p q es) = operation_slots p q (codes_of es)
  code_of (The p t e) = code_of e ++ check_slots p
  code_of _ = []

  pub sequence_of : Cores → List Slot
  sequence_of no_core = nil_slots
  sequence_of (core e es) = after es (code_of e) (sequence_of es)

  pub codes_of : Cores → List Slot
  codes_of no_core = []
  codes_of (core e es) = after es (code_of e) (codes_of es)

abbrev pub forms_code : List Top → List Slot
forms_code [] = []
forms_code (t ∷ ts) = code_of t.core ++ forms_code ts

-- the whole code of a program: NIL first, then its forms, then the end of the run with the value of the last
abbrev pub program_code : List Top → List Slot
program_code forms = nil_slots ++ (forms_code forms ++ end_slots)

-- ---- the forms that this pass serves

-- NIL, T and characters
abbrev pub is_constant : Val → Bool
is_constant (Int z) = false
is_constant (Char c) = is_char c
is_constant (Sym s) = nat_lt (number_of s) 2
is_constant (Ref o) = false

abbrev pub is_nil : Val → Bool
is_nil (Int z) = false
is_nil (Char c) = false
is_nil (Sym s) = number_of s == 0
is_nil (Ref o) = false

abbrev pub is_nil_form : Core → Bool
is_nil_form (Quote p v) = is_nil v
is_nil_form _ = false

-- so many quoted NILs
abbrev pub are_nil_forms : ℕ → Cores → Bool
are_nil_forms zero no_core = true
are_nil_forms zero (core e es) = false
are_nil_forms (suc n) no_core = false
are_nil_forms (suc n) (core e es) = is_nil_form e && are_nil_forms n es

abbrev pub is_one : Cores → Bool
is_one no_core = false
is_one (core e no_core) = true
is_one (core e (core f es)) = false

abbrev pub is_character_name : TypeName → Bool
is_character_name name.Character = true
is_character_name _ = false

abbrev pub is_character_type : Spec → Bool
is_character_type (Named n) = is_character_name n
is_character_type (Integer lo hi) = false
is_character_type (Signed bits) = false
is_character_type (Unsigned bits) = false
is_character_type (Mod n) = false
is_character_type (Member items) = false
is_character_type (Eql item) = false
is_character_type (And ts) = false
is_character_type (Or ts) = false
is_character_type (Not t) = false

-- a place of the file
abbrev pub is_file : Place → Bool
is_file (places.File offset tail) = true
is_file (places.Prelude name) = false

-- READ-CHAR of three NILs, and WRITE-CHAR of one form that is served
abbrev pub is_served_call : Place → Operation → Cores → Bool → Bool
is_served_call p op.ReadChar es served = are_nil_forms 3 es
is_served_call p op.WriteChar es served = is_file p && (is_one es && served)
is_served_call p _ es served = false

abbrev mutual
  pub is_served : Core → Bool
  is_served (Quote p v) = is_constant v
  is_served (If p a b c) = is_served a && (is_served b && is_served c)
  is_served (Progn p es) = are_served es
  is_served (Primitive p q es) = is_served_call p q es (are_served es)
  is_served (The p t e) = is_file p && (is_character_type t && is_served e)
  is_served _ = false

  pub are_served : Cores → Bool
  are_served no_core = true
  are_served (core e es) = is_served e && are_served es

abbrev pub forms_served : List Top → Bool
forms_served [] = true
forms_served (t ∷ ts) = is_served t.core && forms_served ts
