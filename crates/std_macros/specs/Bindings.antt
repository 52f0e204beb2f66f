-- Macros that bind, keep a value or leave a block: RETURN, PROG, PROG*, PROG1, PROG2, PSETQ (ANSI Common Lisp 5.3, 6).
use Rattle.std.specs.Prelude.{List, [], ◌∷◌, ◌++◌, Option, Some, None, if◌then◌else◌, length}
use Rattle.std.specs.Option.{option_and_then}
use Rattle.lisp_base.specs.declared.values.Val.{Val}
use Rattle.lisp_base.specs.Tables.{Object}
use Rattle.lisp_forms.specs.Trees.{Tree, form, fresh, list}
use Rattle.std_macros.specs.declared.loops.Order.{Order}
use Rattle.std_macros.specs.declared.words.Word.TheVariants as w
use Rattle.std_macros.specs.Rules.{Expansion, plain, word, nil_form, forms, call, two, let_form, kept, nil_block, fresh_bindings, fresh_sets}
use Rattle.std_macros.specs.Syntax.{Parts, body_parts, pairs, all_symbols}
use Rattle.std_macros.specs.Loops.{binder}

-- (RETURN-FROM NIL E), a missing form being NIL
abbrev pub return_row : List Val → Option Expansion
return_row [] = Some (plain 0 (two w.ReturnFrom nil_form nil_form))
return_row (e ∷ []) = Some (plain 0 (two w.ReturnFrom nil_form (form e)))
return_row (e ∷ x ∷ xs) = None

-- (BLOCK NIL (LET BINDS D* (TAGBODY BODY*)))
abbrev pub prog_form : Order → Val → Parts → Tree
prog_form order bindings body = nil_block (list (word (binder order) ∷ form bindings ∷ forms body.declarations ++ call w.Tagbody body.rest ∷ []))

abbrev pub prog_row : Order → List Object → List Val → Option Expansion
prog_row order heap [] = None
prog_row order heap (bindings ∷ body) = Some (plain 0 (prog_form order bindings (body_parts heap body)))

-- (LET ((G A)) (PROGN E*) G)
abbrev pub kept_form : Val → List Val → Tree
kept_form a es = kept a (call w.Progn es ∷ fresh 0 ∷ [])

abbrev pub prog1_row : List Val → Option Expansion
prog1_row [] = None
prog1_row (a ∷ es) = Some (plain 1 (kept_form a es))

-- (PROGN A (LET ((G B)) (PROGN E*) G))
abbrev pub prog2_row : List Val → Option Expansion
prog2_row [] = None
prog2_row (a ∷ []) = None
prog2_row (a ∷ b ∷ es) = Some (plain 1 (two w.Progn (form a) (kept_form b es)))

-- (LET ((G E)*) (PROGN (SETQ V G)*) NIL)
abbrev pub psetq_form : List Val → List Val → Tree
psetq_form variables values = let_form (fresh_bindings 0 values) (list (word w.Progn ∷ fresh_sets 0 variables) ∷ nil_form ∷ [])

abbrev pub psetq_with : List Val × List Val → Option Expansion
psetq_with ps = if all_symbols ps.0 then Some (plain (length ps.0) (psetq_form ps.0 ps.1)) else None

abbrev pub psetq_row : List Val → Option Expansion
psetq_row vs = option_and_then psetq_with (pairs vs)
