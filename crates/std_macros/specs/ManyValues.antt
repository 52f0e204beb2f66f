-- Macros for several values and for functions: MULTIPLE-VALUE-BIND, -LIST, -SETQ, NTH-VALUE, LAMBDA (ANSI Common Lisp 3.1.3, 5.3).
use Rattle.std.specs.Prelude.{◌+◌, List, [], ◌∷◌, ◌++◌, Option, Some, None, if◌then◌else◌, length}
use Rattle.std.specs.Option.{option_and_then}
use Rattle.lisp_base.specs.declared.values.Val.{Val}
use Rattle.lisp_base.specs.Tables.{Object}
use Rattle.lisp_forms.specs.Conses.{elements}
use Rattle.lisp_forms.specs.Trees.{Tree, form, fresh, list}
use Rattle.std_macros.specs.declared.words.Word.TheVariants as w
use Rattle.std_macros.specs.Rules.{Expansion, plain, word, forms, call, one, two, fresh_from, fresh_sets}
use Rattle.std_macros.specs.Syntax.{all_symbols}

-- (MULTIPLE-VALUE-CALL (LAMBDA (&OPTIONAL V* &REST G) FORM*) E)
abbrev pub receive_form : List Tree → Tree → List Tree → Val → Tree
receive_form variables rest body e =
    two w.MultipleValueCall (list (word w.Lambda ∷ list (word w.Optional ∷ variables ++ word w.RestOf ∷ rest ∷ []) ∷ body)) (form e)

abbrev pub bind_values : Val → List Val → List Val → Option Expansion
bind_values e body vs = if all_symbols vs then Some (plain 1 (receive_form (forms vs) (fresh 0) (forms body) e)) else None

-- (MULTIPLE-VALUE-BIND (V*) E D* BODY*)
abbrev pub bind_values_row : List Object → List Val → Option Expansion
bind_values_row heap [] = None
bind_values_row heap (vs ∷ []) = None
bind_values_row heap (vs ∷ e ∷ body) = option_and_then (bind_values e body) (elements heap vs)

-- (MULTIPLE-VALUE-CALL (FUNCTION LIST) E)
abbrev pub list_values_row : List Val → Option Expansion
list_values_row [] = None
list_values_row (e ∷ []) = Some (plain 0 (two w.MultipleValueCall (one w.Function (word w.List)) (form e)))
list_values_row (e ∷ x ∷ xs) = None

-- (PROG1 E) without variables; the function's body is (PROGN (SETQ V G)*) and the first G
abbrev pub set_form : Val → List Val → Tree
set_form e vs = receive_form (fresh_from 0 (length vs)) (fresh (length vs)) (list (word w.Progn ∷ fresh_sets 0 vs) ∷ fresh 0 ∷ []) e

abbrev pub set_values : Val → List Val → Option Expansion
set_values e [] = Some (plain 0 (one w.Prog1 (form e)))
set_values e (v ∷ vs) =
    if all_symbols (v ∷ vs)
    then Some (plain (length (v ∷ vs) + 1) (set_form e (v ∷ vs)))
    else None

-- (MULTIPLE-VALUE-SETQ (V*) E)
abbrev pub set_values_row : List Object → List Val → Option Expansion
set_values_row heap [] = None
set_values_row heap (vs ∷ []) = None
set_values_row heap (vs ∷ e ∷ []) = option_and_then (set_values e) (elements heap vs)
set_values_row heap (vs ∷ e ∷ x ∷ xs) = None

-- (NTH N (MULTIPLE-VALUE-LIST E))
abbrev pub nth_value_row : List Val → Option Expansion
nth_value_row [] = None
nth_value_row (n ∷ []) = None
nth_value_row (n ∷ e ∷ []) = Some (plain 0 (two w.Nth (form n) (one w.MultipleValueList (form e))))
nth_value_row (n ∷ e ∷ x ∷ xs) = None

-- (FUNCTION (LAMBDA LAMBDA-LIST D* E*))
abbrev pub lambda_row : List Val → Option Expansion
lambda_row [] = None
lambda_row (parameters ∷ body) = Some (plain 0 (one w.Function (call w.Lambda (parameters ∷ body))))
