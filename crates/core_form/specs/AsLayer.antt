-- A program as a layer: its moments are amounts of fuel, and what is seen of an ended value is its tree to each depth. (This
-- project's own.)
use Rattle.std.specs.Prelude.{ℕ, List, [], map, take, drop, slice_get, encode_utf8, Option, Some, None}
use Rattle.std.specs.List.{flat_map}
use Rattle.lisp_base.specs.declared.values.Val.{Val}
use Rattle.lisp_base.specs.declared.values.SymId.{SymId}
use Rattle.lisp_base.specs.declared.values.Place.{Place}
use Rattle.lisp_base.specs.declared.values.Place.TheVariants.{File, Prelude}
use Rattle.lisp_base.specs.Sort.{number_of}
use Rattle.lisp_base.specs.Tables.{Table, make_table, make_symbol}
use Rattle.type_spec.specs.Texts.{spec_text}
use Rattle.layers.specs.Shown.{Look, ErrorKind, FormPlace, InFile, InPrelude, End, Status, Runs, Ended, Seen}
use Rattle.layers.specs.Shown as shown
use Rattle.layers.specs.Layer.{Layer}
use Rattle.layers.specs.Among.{Together}
use Rattle.core_form.specs.Tree.{Top}
use Rattle.core_form.specs.State.{Symbol, Object, Fault, TypeError, Index, Overflow, ZeroDivide, Unbound, Undefined, Arguments, Control, EndOfFile, Simple, data_of, work, heap_need, stack_need}
use Rattle.core_form.specs.Run.{Outcome, Gives, Leaves, Fails, NotYet}
use Rattle.core_form.specs.Seen.{tree_of}
use Rattle.core_form.specs.Eval.{Program, evaluate, output_of, counts_of, taken_of}

-- ---- texts, in UTF-8

abbrev pub in_utf8 : List ℕ → List ℕ
in_utf8 letters = flat_map encode_utf8 letters

-- the symbols by which the text of a type names what it holds
abbrev pub table_of_symbols : List Symbol → Table
table_of_symbols symbols = make_table (map (λ s. make_symbol (in_utf8 s.name) s.kind) symbols) 0

abbrev pub letters_of : Option Symbol → List ℕ
letters_of None = []
letters_of (Some s) = s.name

abbrev pub symbol_text : List Symbol → SymId → List ℕ
symbol_text symbols s = in_utf8 (letters_of (slice_get symbols (number_of s)))

-- ---- errors

abbrev pub kind_of_fault : Fault → ErrorKind
kind_of_fault (TypeError v t) = shown.TypeError
kind_of_fault (Index v n) = shown.Index
kind_of_fault (Overflow op a b) = shown.Overflow
kind_of_fault (ZeroDivide op a b) = shown.ZeroDivide
kind_of_fault (Unbound s) = shown.Unbound
kind_of_fault (Undefined s) = shown.Undefined
kind_of_fault (Arguments f n) = shown.Arguments
kind_of_fault (Control v) = shown.Control
kind_of_fault EndOfFile = shown.EndOfFile
kind_of_fault (Simple a b) = shown.Simple

-- the expected type of a TYPE-ERROR, and the operation of an arithmetic error
abbrev pub text_of_fault : List Symbol → Fault → Option (List ℕ)
text_of_fault symbols (TypeError v t) = Some (spec_text (table_of_symbols symbols) t)
text_of_fault symbols (Index v n) = None
text_of_fault symbols (Overflow op a b) = Some (symbol_text symbols op)
text_of_fault symbols (ZeroDivide op a b) = Some (symbol_text symbols op)
text_of_fault symbols (Unbound s) = None
text_of_fault symbols (Undefined s) = None
text_of_fault symbols (Arguments f n) = None
text_of_fault symbols (Control v) = None
text_of_fault symbols EndOfFile = None
text_of_fault symbols (Simple a b) = None

abbrev pub place_shown : List Symbol → Place → FormPlace
place_shown symbols (File offset tail) = InFile offset tail
place_shown symbols (Prelude s) = InPrelude (symbol_text symbols s)

-- ---- what is seen

abbrev pub look_of : List Symbol → List Object → Val → Look
look_of symbols store v = λ depth. tree_of symbols store depth v

abbrev pub status_of : List Symbol → Outcome Val → Status
status_of symbols (Gives v s) = Ended (shown.Value (look_of symbols s.store v))
status_of symbols (Leaves e s) = Ended shown.Astray
status_of symbols (Fails x p s) =
    Ended (shown.Error (kind_of_fault x) (map (look_of symbols s.store) (data_of x)) (text_of_fault symbols x) (place_shown symbols p))
status_of symbols (NotYet s) = Runs

abbrev pub seen_of : List Symbol → Outcome Val → Seen
seen_of symbols o = record {
  output = output_of o;
  status = status_of symbols o;
  fuel = taken_of o;
  work = work (counts_of o);
  heap = heap_need (counts_of o);
  stack = stack_need (counts_of o);
}

-- what a program shows on an input when it is given so much fuel
abbrev pub program_layer : Program → Layer
program_layer p input fuel = seen_of p.symbols (evaluate p input.letters fuel)

-- ---- forms together

-- a program of these forms, of which the first are those of the prelude
abbrev pub program_of_forms : List Object → List Symbol → (prelude : ℕ) → List Top → Program
program_of_forms heap symbols prelude forms =
    record { prelude = take prelude forms; forms = drop prelude forms; heap = heap; symbols = symbols }

-- what top-level forms mean together, with the objects of their constants and all symbols
abbrev pub forms_together : List Object → List Symbol → Together Top
forms_together heap symbols prelude forms = program_layer (program_of_forms heap symbols prelude forms)
