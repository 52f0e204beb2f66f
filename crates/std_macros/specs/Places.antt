-- Macros that change places: SETF, INCF, DECF, PUSH, POP (ANSI Common Lisp 5.1; the writers are this project's own).
use Rattle.std.specs.Prelude.{ℕ, ◌+◌, List, [], ◌∷◌, ◌++◌, Option, Some, None, if◌then◌else◌, length, find, pos}
use Rattle.std.specs.Option.{option_map, option_and_then}
use Rattle.lisp_base.specs.declared.values.Val.{Val}
use Rattle.lisp_base.specs.declared.values.Val.TheVariants.{Int}
use Rattle.lisp_base.specs.Membership.{is_symbol}
use Rattle.lisp_base.specs.Tables.{Object}
use Rattle.lisp_forms.specs.Conses.{elements}
use Rattle.lisp_forms.specs.Trees.{Tree, form, fresh, list}
use Rattle.std_macros.specs.declared.places.Target as rust
use Rattle.std_macros.specs.declared.places.Target.TheVariants as t
use Rattle.std_macros.specs.declared.words.Word.{Word}
use Rattle.std_macros.specs.declared.words.Word.TheVariants as w
use Rattle.std_macros.specs.Rules.{Expansion, plain, word, nil_form, one, two, binding, let_form, kept, fresh_from, fresh_bindings}
use Rattle.std_macros.specs.Syntax.{is_word}

-- a variable, or a place (OP A*) with the writer of its operator
pub data Target : Type 0 where
  variable : Val → Target
  access : (operator : Val) (writer : Word) (arguments : List Val) → Target

abbrev pub target_of : rust.Target → Target
target_of (t.Variable v) = variable v
target_of (t.Access op writer arguments) = access op writer arguments.items

-- the operators of places, and their writers
abbrev pub writers : List (Word × Word)
writers =
    (w.Car, w.Rplaca) ∷ (w.First, w.Rplaca) ∷ (w.Cdr, w.Rplacd) ∷ (w.Rest, w.Rplacd) ∷ (w.Nth, w.SetNth) ∷ (w.Svref, w.SetSvref) ∷
    (w.Aref, w.SetAref) ∷ (w.Schar, w.SetSchar) ∷ (w.Char, w.SetSchar) ∷ (w.SymbolValue, w.SetValue) ∷ []

abbrev pub writer_of : Val → Option Word
writer_of op = option_map (λ p. p.1) (find (λ p. is_word p.0 op) writers)

abbrev pub target_from : List Val → Option Target
target_from [] = None
target_from (op ∷ arguments) = option_map (λ writer. access op writer arguments) (writer_of op)

abbrev pub target_at : List Object → Val → Option Target
target_at heap v = if is_symbol v then Some (variable v) else option_and_then target_from (elements heap v)

-- ---- the parts of their forms: G are n fresh symbols from the kth on

-- (OP G*), with a value H also (WRITER G* H)
abbrev pub read_form : Val → ℕ → ℕ → Tree
read_form op k n = list (form op ∷ fresh_from k n)

abbrev pub write_form : Word → ℕ → ℕ → Tree → Tree
write_form writer k n h = list (word writer ∷ fresh_from k n ++ h ∷ [])

-- (LET ((H NEW)) (WRITER G* H) H)
abbrev pub store_form : Word → ℕ → ℕ → ℕ → Tree → Tree
store_form writer k n h new = let_form (binding (fresh h) new ∷ []) (write_form writer k n (fresh h) ∷ fresh h ∷ [])

-- ---- the rows

-- (SETQ V E); (LET ((G A)* (H E)) (WRITER G* H) H)
abbrev pub setf_target : Val → Target → Expansion
setf_target e (variable v) = plain 0 (two w.Setq (form v) (form e))
setf_target e (access op writer args) =
    plain (length args + 1) (let_form (fresh_bindings 0 args ++ binding (fresh (length args)) (form e) ∷ []) (write_form writer 0 (length args) (fresh (length args)) ∷ fresh (length args) ∷ []))

-- (SETF P E) of each two
abbrev pub setf_forms : List Val → Option (List Tree)
setf_forms [] = Some []
setf_forms (p ∷ []) = None
setf_forms (p ∷ e ∷ others) = option_map (λ xs. two w.Setf (form p) (form e) ∷ xs) (setf_forms others)

-- (PROGN (SETF P E)*)
abbrev pub setf_each : List Tree → Expansion
setf_each xs = plain 0 (list (word w.Progn ∷ xs))

abbrev pub setf_row : List Object → List Val → Option Expansion
setf_row heap [] = Some (plain 0 nil_form)
setf_row heap (p ∷ []) = None
setf_row heap (p ∷ e ∷ []) = option_map (setf_target e) (target_at heap p)
setf_row heap (p ∷ e ∷ x ∷ xs) = option_map setf_each (setf_forms (p ∷ e ∷ x ∷ xs))

-- (SETQ V (+ V D)); (LET ((G A)* (K D)) (LET ((H (+ (OP G*) K))) (WRITER G* H) H))
abbrev pub change_target : Word → Val → Target → Expansion
change_target sum d (variable v) = plain 0 (two w.Setq (form v) (two sum (form v) (form d)))
change_target sum d (access op writer args) =
    plain (length args + 2) (let_form (fresh_bindings 0 args ++ binding (fresh (length args)) (form d) ∷ [])
    (store_form writer 0 (length args) (length args + 1) (two sum (read_form op 0 (length args)) (fresh (length args))) ∷ []))

-- INCF with + and DECF with -; a missing number is 1
abbrev pub change_row : Word → List Object → List Val → Option Expansion
change_row sum heap [] = None
change_row sum heap (p ∷ []) = option_map (change_target sum (Int (pos 1))) (target_at heap p)
change_row sum heap (p ∷ d ∷ []) = option_map (change_target sum d) (target_at heap p)
change_row sum heap (p ∷ d ∷ x ∷ xs) = None

-- (SETQ V (CONS X V)); (LET ((K X) (G A)*) (LET ((H (CONS K (OP G*)))) (WRITER G* H) H))
abbrev pub push_target : Val → Target → Expansion
push_target x (variable v) = plain 0 (two w.Setq (form v) (two w.Cons (form x) (form v)))
push_target x (access op writer args) =
    plain (length args + 2) (let_form (binding (fresh 0) (form x) ∷ fresh_bindings 1 args)
    (store_form writer 1 (length args) (length args + 1) (two w.Cons (fresh 0) (read_form op 1 (length args))) ∷ []))

abbrev pub push_row : List Object → List Val → Option Expansion
push_row heap [] = None
push_row heap (x ∷ []) = None
push_row heap (x ∷ p ∷ []) = option_map (push_target x) (target_at heap p)
push_row heap (x ∷ p ∷ y ∷ ys) = None

-- (LET ((G V)) (SETQ V (CDR G)) (CAR G)); (LET ((G A)*) (LET ((H (OP G*))) (WRITER G* (CDR H)) (CAR H)))
abbrev pub popped_form : Val → Word → ℕ → Tree
popped_form op writer n =
    let_form (binding (fresh n) (read_form op 0 n) ∷ []) (write_form writer 0 n (one w.Cdr (fresh n)) ∷ one w.Car (fresh n) ∷ [])

abbrev pub pop_target : Target → Expansion
pop_target (variable v) =
    plain 1 (kept v (two w.Setq (form v) (one w.Cdr (fresh 0)) ∷ one w.Car (fresh 0) ∷ []))
pop_target (access op writer args) =
    plain (length args + 1) (let_form (fresh_bindings 0 args)
    (popped_form op writer (length args) ∷ []))

abbrev pub pop_row : List Object → List Val → Option Expansion
pop_row heap [] = None
pop_row heap (p ∷ []) = option_map pop_target (target_at heap p)
pop_row heap (p ∷ x ∷ xs) = None
