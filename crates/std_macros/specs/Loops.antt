-- Macros that repeat: LOOP, DO, DO*, DOTIMES, DOLIST (ANSI Common Lisp 6).
use Rattle.std.specs.Prelude.{ℕ, List, [], ◌∷◌, ◌++◌, Option, Some, None, if◌then◌else◌, map, pos}
use Rattle.std.specs.Option.{option_map, option_and_then, is_some}
use Rattle.std.specs.List.{list_all, flat_map}
use Rattle.lisp_base.specs.declared.values.Val.{Val}
use Rattle.lisp_base.specs.declared.values.Val.TheVariants.{Int}
use Rattle.lisp_base.specs.Sort.{nil}
use Rattle.lisp_base.specs.Membership.{is_symbol}
use Rattle.lisp_base.specs.Tables.{Object}
use Rattle.lisp_forms.specs.Conses.{cons_at, elements}
use Rattle.lisp_forms.specs.Trees.{Tree, form, fresh, list}
use Rattle.std_macros.specs.declared.loops.Order.{Order}
use Rattle.std_macros.specs.declared.loops.Order.TheVariants.{Together, InOrder}
use Rattle.std_macros.specs.declared.loops.Step.{Step}
use Rattle.std_macros.specs.declared.loops.Repeat.{Repeat}
use Rattle.std_macros.specs.declared.words.Word.{Word}
use Rattle.std_macros.specs.declared.words.Word.TheVariants as w
use Rattle.std_macros.specs.Rules.{Expansion, plain, word, nil_form, forms, call, one, two, three, binding, let_form, nil_block}
use Rattle.std_macros.specs.Syntax.{each, Parts, body_parts}

-- (GO G)
abbrev pub go_to : Tree → Tree
go_to g = one w.Go g

-- (LOOP E*), each a cons: (BLOCK NIL (TAGBODY G E* (GO G)))
abbrev pub loop_row : List Object → List Val → Option Expansion
loop_row heap es =
    if list_all (λ e. is_some (cons_at heap e)) es
    then Some (plain 1 (nil_block (list (word w.Tagbody ∷ fresh 0 ∷ forms es ++ go_to (fresh 0) ∷ []))))
    else None

-- ---- DO and DO*

-- V, (V), (V E) or (V E S): a variable, its first value, and its next value where it has one
abbrev pub step : Val → Val → Option Val → Option Step
step v first next = if is_symbol v then Some (record { variable = v; first = first; next = next }) else None

abbrev pub step_from : List Val → Option Step
step_from [] = None
step_from (v ∷ []) = step v nil None
step_from (v ∷ e ∷ []) = step v e None
step_from (v ∷ e ∷ s ∷ []) = step v e (Some s)
step_from (v ∷ e ∷ s ∷ x ∷ xs) = None

abbrev pub step_at : List Object → Val → Option Step
step_at heap v = if is_symbol v then step v nil None else option_and_then step_from (elements heap v)

abbrev pub step_binding : Step → Tree
step_binding s = binding (form s.variable) (form s.first)

abbrev pub next_value : Val → Option Val → List Tree
next_value v None = []
next_value v (Some s) = form v ∷ form s ∷ []

abbrev pub step_sets : Step → List Tree
step_sets s = next_value s.variable s.next

abbrev pub binder : Order → Word
binder Together = w.Let
binder InOrder = w.LetInOrder

abbrev pub setter : Order → Word
setter Together = w.Psetq
setter InOrder = w.Setq

-- (IF END (RETURN (PROGN R*)) NIL)
abbrev pub end_test : Val → List Val → Tree
end_test end results = three w.If (form end) (one w.Return (call w.Progn results)) nil_form

-- (TAGBODY G END-TEST BODY* (PSETQ V S ..) (GO G))
abbrev pub do_round : Order → List Step → Tree → List Val → Tree
do_round order steps test body =
    list (word w.Tagbody ∷ fresh 0 ∷ test ∷ forms body ++ list (word (setter order) ∷ flat_map step_sets steps) ∷ go_to (fresh 0) ∷ [])

-- (BLOCK NIL (LET BINDS D* (TAGBODY ..)))
abbrev pub do_form : Order → List Step → Tree → Parts → Tree
do_form order steps test body =
    nil_block (list (word (binder order) ∷ list (map step_binding steps) ∷ forms body.declarations ++ do_round order steps test body.rest ∷ []))

abbrev pub do_with : Order → List Object → List Val → List Step → List Val → Option Expansion
do_with order heap body steps [] = None
do_with order heap body steps (end ∷ results) = Some (plain 1 (do_form order steps (end_test end results) (body_parts heap body)))

-- (DO (BINDING*) (END R*) D* BODY*)
abbrev pub do_row : Order → List Object → List Val → Option Expansion
do_row order heap [] = None
do_row order heap (bindings ∷ []) = None
do_row order heap (bindings ∷ ending ∷ body) =
    option_and_then (λ steps. option_and_then (do_with order heap body steps) (elements heap ending))
    (option_and_then (each (step_at heap)) (elements heap bindings))

-- ---- DOTIMES and DOLIST

-- (V E) or (V E R): a variable, a form and the result, NIL where it is missing
abbrev pub repeat : Val → Val → Val → Option Repeat
repeat v e r = if is_symbol v then Some (record { variable = v; over = e; result = r }) else None

abbrev pub repeat_from : List Val → Option Repeat
repeat_from [] = None
repeat_from (v ∷ []) = None
repeat_from (v ∷ e ∷ []) = repeat v e nil
repeat_from (v ∷ e ∷ r ∷ []) = repeat v e r
repeat_from (v ∷ e ∷ r ∷ x ∷ xs) = None

-- with this number in place of a form
abbrev pub number : ℕ → Tree
number n = form (Int (pos n))

-- (TAGBODY H (IF (>= V G) (RETURN R) NIL) BODY* (SETQ V (+ V 1)) (GO H))
abbrev pub count_round : Repeat → List Val → Tree
count_round r body =
    list (word w.Tagbody ∷ fresh 1 ∷ three w.If (two w.NotLess (form r.variable) (fresh 0)) (one w.Return (form r.result)) nil_form ∷ forms body
    ++ two w.Setq (form r.variable) (two w.Add (form r.variable) (number 1)) ∷ go_to (fresh 1) ∷ [])

-- (BLOCK NIL (LET ((V 0) (G (THE INTEGER N))) D* (TAGBODY ..)))
abbrev pub dotimes_bindings : Repeat → List Tree
dotimes_bindings r = binding (form r.variable) (number 0) ∷ binding (fresh 0) (two w.The (word w.Integer) (form r.over)) ∷ []

abbrev pub dotimes_form : Repeat → Parts → Tree
dotimes_form r body = nil_block (let_form (dotimes_bindings r) (forms body.declarations ++ count_round r body.rest ∷ []))

abbrev pub dotimes_row : List Object → List Val → Option Expansion
dotimes_row heap [] = None
dotimes_row heap (head ∷ body) = option_map (λ r. plain 2 (dotimes_form r (body_parts heap body))) (option_and_then repeat_from (elements heap head))

-- (THE LIST E)
abbrev pub the_list : Tree → Tree
the_list e = two w.The (word w.List) e

-- (IF G NIL (RETURN (LET ((V NIL)) R)))
abbrev pub list_test : Repeat → Tree
list_test r = three w.If (fresh 0) nil_form (one w.Return (let_form (binding (form r.variable) nil_form ∷ []) (form r.result ∷ [])))

-- (LET ((V (CAR G))) D* (TAGBODY BODY*))
abbrev pub list_body : Repeat → Parts → Tree
list_body r body = let_form (binding (form r.variable) (one w.Car (fresh 0)) ∷ []) (forms body.declarations ++ call w.Tagbody body.rest ∷ [])

-- (TAGBODY H TEST BODY (SETQ G (THE LIST (CDR G))) (GO H))
abbrev pub list_round : Repeat → Parts → Tree
list_round r body =
    list (word w.Tagbody ∷ fresh 1 ∷ list_test r ∷ list_body r body ∷ two w.Setq (fresh 0) (the_list (one w.Cdr (fresh 0))) ∷ go_to (fresh 1) ∷ [])

-- (BLOCK NIL (LET ((G (THE LIST L))) (TAGBODY ..)))
abbrev pub dolist_form : Repeat → Parts → Tree
dolist_form r body = nil_block (let_form (binding (fresh 0) (the_list (form r.over)) ∷ []) (list_round r body ∷ []))

abbrev pub dolist_row : List Object → List Val → Option Expansion
dolist_row heap [] = None
dolist_row heap (head ∷ body) = option_map (λ r. plain 2 (dolist_form r (body_parts heap body))) (option_and_then repeat_from (elements heap head))
