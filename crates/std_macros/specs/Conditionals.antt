-- Macros that choose by tests: AND, OR, COND, WHEN, UNLESS (ANSI Common Lisp 5.3).
use Rattle.std.specs.Prelude.{List, [], ◌∷◌, Option, Some, None}
use Rattle.std.specs.Option.{option_and_then}
use Rattle.lisp_base.specs.declared.values.Val.{Val}
use Rattle.lisp_base.specs.Tables.{Object}
use Rattle.lisp_forms.specs.Conses.{elements}
use Rattle.lisp_forms.specs.Trees.{form, fresh, list_before}
use Rattle.std_macros.specs.declared.words.Word.TheVariants as w
use Rattle.std_macros.specs.Rules.{Expansion, plain, word, nil_form, call, two, three, kept}

-- (AND A R*) with at least one form R: (IF A (AND R*) NIL). `rest` is the list of all arguments but the first
abbrev pub and_row : (rest : Val) → List Val → Option Expansion
and_row rest [] = Some (plain 0 (word w.T))
and_row rest (a ∷ []) = Some (plain 0 (form a))
and_row rest (a ∷ b ∷ others) = Some (plain 0 (three w.If (form a) (list_before (word w.And ∷ []) rest) nil_form))

-- (OR A R*): (LET ((G A)) (IF G G (OR R*)))
abbrev pub or_row : (rest : Val) → List Val → Option Expansion
or_row rest [] = Some (plain 0 nil_form)
or_row rest (a ∷ []) = Some (plain 0 (form a))
or_row rest (a ∷ b ∷ others) =
    Some (plain 1 (kept a (three w.If (fresh 0) (fresh 0) (list_before (word w.Or ∷ []) rest) ∷ [])))

-- a first clause (A): (OR A (COND C*)); a first clause (A E*): (IF A (PROGN E*) (COND C*))
abbrev pub clause_row : (rest : Val) → List Val → Option Expansion
clause_row rest [] = None
clause_row rest (a ∷ []) = Some (plain 0 (two w.Or (form a) (list_before (word w.Cond ∷ []) rest)))
clause_row rest (a ∷ e ∷ es) = Some (plain 0 (three w.If (form a) (call w.Progn (e ∷ es)) (list_before (word w.Cond ∷ []) rest)))

abbrev pub cond_row : List Object → (rest : Val) → List Val → Option Expansion
cond_row heap rest [] = Some (plain 0 nil_form)
cond_row heap rest (c ∷ others) = option_and_then (clause_row rest) (elements heap c)

abbrev pub when_row : List Val → Option Expansion
when_row [] = None
when_row (a ∷ es) = Some (plain 0 (three w.If (form a) (call w.Progn es) nil_form))

abbrev pub unless_row : List Val → Option Expansion
unless_row [] = None
unless_row (a ∷ es) = Some (plain 0 (three w.If (form a) nil_form (call w.Progn es)))
