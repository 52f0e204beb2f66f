-- The form that a macro form gives, or why it gives none (ANSI Common Lisp 3.1.2.1.2.2; the forms are this project's own).
use Rattle.std.specs.Prelude.{◌≡◌, ℕ, zero, suc, List, [], ◌∷◌, ◌++◌, Option, Some, None}
use Rattle.std.specs.Option.{option_map, option_and_then}
use Rattle.lisp_base.specs.declared.values.Val.{Val}
use Rattle.lisp_base.specs.declared.values.Val.TheVariants.{Int, Char, Sym, Ref}
use Rattle.lisp_base.specs.declared.values.Place.{Place}
use Rattle.lisp_base.specs.Sort.{nil, number_of}
use Rattle.lisp_base.specs.Tables.{Table, Symbol, Object, made_fresh}
use Rattle.lisp_forms.specs.Conses.{cons_at, place_at, elements}
use Rattle.lisp_forms.specs.Trees.{Tree}
use Rattle.lisp_forms.specs.Building.{built}
use Rattle.std_macros.specs.declared.macros.Macro.{Macro}
use Rattle.std_macros.specs.declared.macros.Macro.TheVariants as m
use Rattle.std_macros.specs.declared.cases.Choice.TheVariants.{ByKey, ByType}
use Rattle.std_macros.specs.declared.loops.Order.TheVariants.{Together, InOrder}
use Rattle.std_macros.specs.declared.words.Word.TheVariants as w
use Rattle.std_macros.specs.Macros.{macro_at}
use Rattle.std_macros.specs.Rules.{Expansion}
use Rattle.std_macros.specs.Conditionals.{and_row, or_row, cond_row, when_row, unless_row}
use Rattle.std_macros.specs.Cases.{case_row, exhaustive_row}
use Rattle.std_macros.specs.Loops.{loop_row, do_row, dotimes_row, dolist_row}
use Rattle.std_macros.specs.Bindings.{return_row, prog_row, prog1_row, prog2_row, psetq_row}
use Rattle.std_macros.specs.Places.{setf_row, change_row, push_row, pop_row}
use Rattle.std_macros.specs.ManyValues.{bind_values_row, list_values_row, set_values_row, nth_value_row, lambda_row}
use Rattle.std_macros.specs.Quasiquotes.{quasiquote_row}

-- ---- the macro of a form

abbrev pub macro_of_symbol : Val → Option Macro
macro_of_symbol (Int z) = None
macro_of_symbol (Char c) = None
macro_of_symbol (Sym s) = macro_at (number_of s)
macro_of_symbol (Ref o) = None

-- the macro that a form's operator names
abbrev pub macro_of_form : List Object → Val → Option Macro
macro_of_form heap v = option_and_then (λ p. macro_of_symbol p.0) (cons_at heap v)

-- ---- the table of macros

-- what a macro makes of its arguments, none where they are outside its syntax. `rest` is the list of all but the first
abbrev pub row : Macro → List Object → (rest : Val) → List Val → Option Expansion
row m.And heap rest xs = and_row rest xs
row m.Or heap rest xs = or_row rest xs
row m.Cond heap rest xs = cond_row heap rest xs
row m.When heap rest xs = when_row xs
row m.Unless heap rest xs = unless_row xs
row m.Case heap rest xs = case_row ByKey heap xs
row m.Ecase heap rest xs = exhaustive_row ByKey heap xs
row m.Typecase heap rest xs = case_row ByType heap xs
row m.Etypecase heap rest xs = exhaustive_row ByType heap xs
row m.Loop heap rest xs = loop_row heap xs
row m.Do heap rest xs = do_row Together heap xs
row m.DoInOrder heap rest xs = do_row InOrder heap xs
row m.Dotimes heap rest xs = dotimes_row heap xs
row m.Dolist heap rest xs = dolist_row heap xs
row m.Return heap rest xs = return_row xs
row m.Prog heap rest xs = prog_row Together heap xs
row m.ProgInOrder heap rest xs = prog_row InOrder heap xs
row m.Prog1 heap rest xs = prog1_row xs
row m.Prog2 heap rest xs = prog2_row xs
row m.Psetq heap rest xs = psetq_row xs
row m.Setf heap rest xs = setf_row heap xs
row m.Incf heap rest xs = change_row w.Add heap xs
row m.Decf heap rest xs = change_row w.Subtract heap xs
row m.Push heap rest xs = push_row heap xs
row m.Pop heap rest xs = pop_row heap xs
row m.MultipleValueBind heap rest xs = bind_values_row heap xs
row m.MultipleValueList heap rest xs = list_values_row xs
row m.MultipleValueSetq heap rest xs = set_values_row heap xs
row m.NthValue heap rest xs = nth_value_row xs
row m.Lambda heap rest xs = lambda_row xs
row m.Quasiquote heap rest xs = quasiquote_row heap xs

-- all but the first element of a list, as a list of the heap
abbrev pub rest_by : Option (Val × Val) → Val
rest_by None = nil
rest_by (Some p) = p.1

abbrev pub rest_of : List Object → Val → Val
rest_of heap v = rest_by (cons_at heap v)

-- of a form's arguments, which are a proper list
unfoldable pub arguments_row : Macro → List Object → Val → Option Expansion
arguments_row macro heap v = option_and_then (row macro heap (rest_of heap v)) (elements heap v)

-- ---- fresh symbols, and the form

-- so many fresh symbols, and the table after them; none where there is no room for them
unfoldable pub fresh_symbols : ℕ → Table → Option (List Val × Table)
fresh_symbols zero table = Some ([], table)
fresh_symbols (suc n) table =
    option_and_then (λ made. option_map (λ others. (Sym made.0 ∷ others.0, others.1)) (fresh_symbols n made.1)) (made_fresh table)

-- the forms around a form
unfoldable pub built_around : List Val → List Tree → Val × List Object → Val × List Object
built_around symbols [] inner = inner
built_around symbols (x ∷ xs) inner = built_around symbols xs (built symbols inner.0 x inner.1)

-- the form with the symbol table and the heap after it; a form outside its macro's syntax, with its place; no room for a fresh symbol
pub data Expanded : Type 0 where
  gives : Val → Table → List Object → Expanded
  bad : Option Place → Expanded
  full : Expanded

abbrev pub with_heap : Table → Val × List Object → Expanded
with_heap table made = gives made.0 table made.1

abbrev pub with_symbols : Expansion → List Object → Option (List Val × Table) → Expanded
with_symbols x heap None = full
with_symbols x heap (Some found) = with_heap found.1 (built_around found.0 x.around (built found.0 nil x.first heap))

abbrev pub expanded_by : Option Expansion → Option Place → Table → List Object → Expanded
expanded_by None place table heap = bad place
expanded_by (Some x) place table heap = with_symbols x heap (fresh_symbols x.count table)

-- the list of a form's arguments
abbrev pub arguments_of : List Object → Val → Val
arguments_of heap v = rest_of heap v

-- the form that a form of this macro gives
unfoldable pub expanded : Macro → Table → List Object → Val → Expanded
expanded macro table heap v = expanded_by (arguments_row macro heap (arguments_of heap v)) (place_at heap v) table heap

abbrev pub expanded_as : Option Macro → Table → List Object → Val → Expanded
expanded_as None table heap v = bad (place_at heap v)
expanded_as (Some macro) table heap v = expanded macro table heap v

-- the form that a macro form gives
unfoldable pub expanded_form : Table → List Object → Val → Expanded
expanded_form table heap v = expanded_as (macro_of_form heap v) table heap v

-- a table that holds the symbols of another, unchanged, and maybe more
abbrev pub KeepsSymbols : Table → Table → Type 0
KeepsSymbols old new = (more : List Symbol) × (new.symbols ≡ old.symbols ++ more)
