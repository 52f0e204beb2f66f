-- What a macro makes of its arguments: how many fresh symbols, and the trees of forms (this project's own).
use Rattle.std.specs.Prelude.{ℕ, zero, suc, ◌+◌, List, [], ◌∷◌, map}
use Rattle.lisp_base.specs.declared.values.Val.{Val}
use Rattle.lisp_base.specs.declared.values.Val.TheVariants.{Sym}
use Rattle.lisp_forms.specs.Trees.{Tree, form, fresh, list, tree_of}
use Rattle.std_macros.specs.declared.words.Word.{Word}
use Rattle.std_macros.specs.declared.words.Word.TheVariants as w
use Rattle.std_macros.specs.declared.rule.Rule.{Rule}
use Rattle.std_macros.specs.Words.{word_symbol}

-- so many fresh symbols, numbered from 0; a first form; and the forms that are put around it, each around the one before
pub record Expansion : Type 0 where
  pub count : ℕ
  pub first : Tree
  pub around : List Tree

abbrev pub expansion : ℕ → Tree → List Tree → Expansion
expansion n x xs = record { count = n; first = x; around = xs }

abbrev pub plain : ℕ → Tree → Expansion
plain n x = expansion n x []

abbrev pub expansion_of : Rule → Expansion
expansion_of r = expansion r.fresh (tree_of r.first) (map tree_of r.around.items)

-- ---- trees of words and forms

abbrev pub word : Word → Tree
word x = form (Sym (word_symbol x))

abbrev pub nil_form : Tree
nil_form = word w.Nil

abbrev pub forms : List Val → List Tree
forms vs = map form vs

-- a word, and these forms after it
abbrev pub call : Word → List Val → Tree
call x vs = list (word x ∷ forms vs)

-- (X A), (X A B), (X A B C)
abbrev pub one : Word → Tree → Tree
one x a = list (word x ∷ a ∷ [])

abbrev pub two : Word → Tree → Tree → Tree
two x a b = list (word x ∷ a ∷ b ∷ [])

abbrev pub three : Word → Tree → Tree → Tree → Tree
three x a b c = list (word x ∷ a ∷ b ∷ c ∷ [])

-- (V E), a binding
abbrev pub binding : Tree → Tree → Tree
binding v e = list (v ∷ e ∷ [])

-- (LET (BINDING*) FORM*)
abbrev pub let_form : List Tree → List Tree → Tree
let_form bindings body = list (word w.Let ∷ list bindings ∷ body)

-- (LET ((G A)) FORM*), G being the first fresh symbol
abbrev pub kept : Val → List Tree → Tree
kept a body = let_form (binding (fresh 0) (form a) ∷ []) body

-- (BLOCK NIL FORM)
abbrev pub nil_block : Tree → Tree
nil_block x = two w.Block nil_form x

-- ---- fresh symbols in a row

-- so many fresh symbols from the nth on
abbrev pub fresh_from : ℕ → ℕ → List Tree
fresh_from n zero = []
fresh_from n (suc count) = fresh n ∷ fresh_from (n + 1) count

-- (G E) for each form, G being the fresh symbols from the nth on
abbrev pub fresh_bindings : ℕ → List Val → List Tree
fresh_bindings n [] = []
fresh_bindings n (e ∷ es) = binding (fresh n) (form e) ∷ fresh_bindings (n + 1) es

-- (SETQ V G) for each variable
abbrev pub fresh_sets : ℕ → List Val → List Tree
fresh_sets n [] = []
fresh_sets n (v ∷ vs) = two w.Setq (form v) (fresh n) ∷ fresh_sets (n + 1) vs
