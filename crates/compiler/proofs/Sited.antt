-- The sites in a program's code are those of forms of the file.
use Rattle.std.specs.Prelude.{◌≡◌, ℕ, zero, suc, true, false, ◌&&◌, List, [], ◌∷◌, ◌++◌, length, Option, Some, None}
use Rattle.lisp_base.specs.declared.values.Val.{Val}
use Rattle.lisp_base.specs.declared.values.Val.TheVariants.{Int, Char, Sym, Ref}
use Rattle.lisp_base.specs.declared.values.Place.{Place}
use Rattle.lisp_base.specs.declared.primitives.Primitive.TheVariants as op
use Rattle.lisp_base.specs.Sort.{number_of}
use Rattle.core_form.specs.Tree.{Core, Quote, If, Progn, Primitive, The, Cores, no_core, core, Top}
use Rattle.compiler.specs.declared.slot.Slot.{Slot}
use Rattle.compiler.specs.Templates.{check_slots, write_slots, test_slots, skip, end_slots}
use Rattle.compiler.specs.Code.{code_of, sequence_of, constant_slots, symbol_slots, forms_code, program_code, is_served, are_served, is_character_type, is_file, forms_served}
use Rattle.compiler.proofs.Nodes.{and_left, and_right}

abbrev pub InFile : Option Place → Type 0
InFile None = Unit {0}
InFile (Some p) = is_file p ≡ true

abbrev pub AllInFile : List Slot → Type 0
AllInFile [] = Unit {0}
AllInFile (x ∷ xs) = InFile x.site × AllInFile xs

all_of : (xs ys : List Slot) → AllInFile xs → AllInFile ys → AllInFile (xs ++ ys)
all_of [] ys a b = b
all_of (x ∷ xs) ys a b = (a.0, all_of xs ys a.1 b)

check_in_file : (p : Place) → is_file p ≡ true → AllInFile (check_slots p)
check_in_file p h = (tt, (tt, (tt, (tt, (tt, (h, tt))))))

symbol_in_file : (n : ℕ) → AllInFile (symbol_slots n)
symbol_in_file zero = (tt, tt)
symbol_in_file (suc n) = (tt, (tt, tt))

constant_in_file : (v : Val) → AllInFile (constant_slots v)
constant_in_file (Int z) = tt
constant_in_file (Char c) = (tt, (tt, tt))
constant_in_file (Sym s) = symbol_in_file (number_of s)
constant_in_file (Ref o) = tt

mutual
  code_in_file : (e : Core) → is_served e ≡ true → AllInFile (code_of e)
  code_in_file (Quote p v) h = constant_in_file v
  code_in_file (If p a b c) h =
      let h' = and_right (is_served a) (is_served b && is_served c) h in
      let rest = skip (length (code_of c)) ∷ code_of c in
      all_of (code_of a) (test_slots (length (code_of b)) ++ (code_of b ++ rest)) (code_in_file a (and_left (is_served a) (is_served b && is_served c) h))
      (tt, (tt, all_of (code_of b) rest (code_in_file b (and_left (is_served b) (is_served c) h')) (tt, code_in_file c (and_right (is_served b) (is_served c) h'))))
  code_in_file (Progn p es) h = sequence_in_file es h
  code_in_file (Primitive p op.ReadChar es) h = (tt, (tt, (tt, (tt, (tt, (tt, (tt, (tt, tt))))))))
  code_in_file (Primitive p op.WriteChar no_core) h =
      let h' = and_right (is_file p) false h in absurd (cc)
  code_in_file (Primitive p op.WriteChar (core e no_core)) h =
      all_of (code_of e) (check_slots p ++ write_slots) (code_in_file e (and_left (is_served e) true (and_right (is_file p) (is_served e && true) h)))
      (all_of (check_slots p) write_slots (check_in_file p (and_left (is_file p) (is_served e && true) h)) (tt, (tt, (tt, tt))))
  code_in_file (Primitive p op.WriteChar (core e (core f es))) h =
      let h' = and_right (is_file p) false h in absurd (cc)
  code_in_file (Primitive p q es) h = tt
  code_in_file (The p t e) h =
      let h' = and_right (is_file p) (is_character_type t && is_served e) h in
      all_of (code_of e) (check_slots p) (code_in_file e (and_right (is_character_type t) (is_served e) h'))
      (check_in_file p (and_left (is_file p) (is_character_type t && is_served e) h))
  code_in_file _ h = absurd (cc)

  sequence_in_file : (es : Cores) → are_served es ≡ true → AllInFile (sequence_of es)
  sequence_in_file no_core h = (tt, tt)
  sequence_in_file (core e no_core) h = code_in_file e (and_left (is_served e) true h)
  sequence_in_file (core e (core f es)) h =
      all_of (code_of e) (sequence_of (core f es)) (code_in_file e (and_left (is_served e) (are_served (core f es)) h))
      (sequence_in_file (core f es) (and_right (is_served e) (are_served (core f es)) h))

forms_in_file : (ts : List Top) → forms_served ts ≡ true → AllInFile (forms_code ts)
forms_in_file [] h = tt
forms_in_file (t ∷ ts) h =
    all_of (code_of t.core) (forms_code ts) (code_in_file t.core (and_left (is_served t.core) (forms_served ts) h))
    (forms_in_file ts (and_right (is_served t.core) (forms_served ts) h))

pub program_in_file : (ts : List Top) → forms_served ts ≡ true → AllInFile (program_code ts)
program_in_file ts h = (tt, all_of (forms_code ts) end_slots (forms_in_file ts h) (tt, (tt, tt)))
