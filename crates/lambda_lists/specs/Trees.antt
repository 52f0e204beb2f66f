-- The trees of the forms that &KEY parameters stand for (this project's own).
use Rattle.std.specs.Prelude.{List, [], ◌∷◌, map}
use Rattle.lisp_base.specs.declared.values.SymId.{SymId}
use Rattle.lisp_base.specs.declared.values.Val.{Val}
use Rattle.lisp_base.specs.declared.values.Val.TheVariants.{Sym}
use Rattle.lisp_base.specs.declared.base_symbols.TheConstants as at
use Rattle.lisp_base.specs.Sort.{nil, truth}
use Rattle.lisp_forms.specs.Trees.{Tree, form, list}

abbrev pub word : SymId → Tree
word s = form (Sym s)

abbrev pub call : SymId → List Tree → Tree
call f xs = list (word f ∷ xs)

-- 'X
abbrev pub quoted : Tree → Tree
quoted x = call at.QUOTE (x ∷ [])

-- (%KEY G 'K), the tail of the arguments after the keyword
abbrev pub found : SymId → SymId → Tree
found g k = call at.HELPER_KEY (word g ∷ quoted (word k) ∷ [])

-- (%KEYP G '(K*)), whether the arguments are keywords of these with a value each
abbrev pub test_tree : SymId → List SymId → Tree
test_tree g ks = call at.HELPER_KEYP (word g ∷ quoted (list (map word ks)) ∷ [])

-- (IF (%KEY G 'K) (CAR (%KEY G 'K)) E)
abbrev pub value_tree : SymId → SymId → Val → Tree
value_tree g k e = call at.IF (found g k ∷ call at.CAR (found g k ∷ []) ∷ form e ∷ [])

-- (IF (%KEY G 'K) T NIL)
abbrev pub supplied_tree : SymId → SymId → Tree
supplied_tree g k = call at.IF (found g k ∷ form truth ∷ form nil ∷ [])

-- (FUNCALL (LAMBDA ()) G)
abbrev pub refusal_tree : SymId → Tree
refusal_tree g = call at.FUNCALL (call at.LAMBDA (form nil ∷ []) ∷ word g ∷ [])
