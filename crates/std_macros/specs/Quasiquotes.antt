-- The macro of the backquote, one step of it: QUASIQUOTE (ANSI Common Lisp 2.4.6).
use Rattle.std.specs.Prelude.{List, [], ◌∷◌, Option, Some, None}
use Rattle.lisp_base.specs.declared.values.Val.{Val}
use Rattle.lisp_base.specs.Tables.{Object}
use Rattle.lisp_forms.specs.Conses.{cons_at}
use Rattle.lisp_forms.specs.Trees.{Tree, form}
use Rattle.std_macros.specs.declared.words.Word.TheVariants as w
use Rattle.std_macros.specs.Rules.{Expansion, plain, one, two}
use Rattle.std_macros.specs.Syntax.{marked}

-- (QUASIQUOTE X)
abbrev pub under : Val → Tree
under x = one w.Quasiquote (form x)

-- (%APPEND E REST) for an element (UNQUOTE-SPLICING E), else (CONS FIRST REST), first and rest under QUASIQUOTE
abbrev pub joined : Option Val → Val → Val → Tree
joined (Some e) first rest = two w.Append (form e) (under rest)
joined None first rest = two w.Cons (under first) (under rest)

-- 'X for an atom
abbrev pub quasi_parts : List Object → Val → Option (Val × Val) → Tree
quasi_parts heap x None = one w.Quote (form x)
quasi_parts heap x (Some p) = joined (marked w.UnquoteSplicing heap p.0) p.0 p.1

-- E for (UNQUOTE E)
abbrev pub quasi_form : List Object → Val → Option Val → Tree
quasi_form heap x (Some e) = form e
quasi_form heap x None = quasi_parts heap x (cons_at heap x)

abbrev pub quasiquote_row : List Object → List Val → Option Expansion
quasiquote_row heap [] = None
quasiquote_row heap (x ∷ []) = Some (plain 0 (quasi_form heap x (marked w.Unquote heap x)))
quasiquote_row heap (x ∷ y ∷ ys) = None
