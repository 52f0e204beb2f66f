-- Macros that choose by keys or types: CASE, ECASE, TYPECASE, ETYPECASE (ANSI Common Lisp 5.3).
use Rattle.std.specs.Prelude.{Bool, ◌||◌, not, List, [], ◌∷◌, ◌++◌, Option, Some, None, if◌then◌else◌, reverse, map}
use Rattle.std.specs.Option.{option_map, option_and_then}
use Rattle.std.specs.List.{list_all}
use Rattle.lisp_base.specs.declared.values.Val.{Val}
use Rattle.lisp_base.specs.Tables.{Object}
use Rattle.lisp_forms.specs.Conses.{is_nil, cons_at, elements}
use Rattle.lisp_forms.specs.Trees.{Tree, form, fresh, inner, list}
use Rattle.std_macros.specs.declared.words.Word.{Word}
use Rattle.std_macros.specs.declared.words.Word.TheVariants as w
use Rattle.std_macros.specs.declared.cases.Choice.{Choice}
use Rattle.std_macros.specs.declared.cases.Choice.TheVariants.{ByKey, ByType}
use Rattle.std_macros.specs.declared.cases.Clause as rust
use Rattle.std_macros.specs.Rules.{Expansion, expansion, word, nil_form, forms, call, one, two, three, kept}
use Rattle.std_macros.specs.Syntax.{is_word, each}

-- what a clause begins with, what it tests, and its forms
pub record Clause : Type 0 where
  pub head : Val
  pub tests : List Val
  pub body : List Val

abbrev pub clause : Val → List Val → List Val → Clause
clause head tests body = record { head = head; tests = tests; body = body }

abbrev pub clause_of : rust.Clause → Clause
clause_of c = clause c.head c.tests.items c.body.items

-- the keys of a clause: a list, or one atom other than NIL
abbrev pub keys_by : Option (Val × Val) → List Object → Val → Option (List Val)
keys_by (Some p) heap v = elements heap v
keys_by None heap v = if is_nil v then Some [] else Some (v ∷ [])

abbrev pub tests_at : Choice → List Object → Val → Option (List Val)
tests_at ByKey heap v = keys_by (cons_at heap v) heap v
tests_at ByType heap v = Some (v ∷ [])

abbrev pub clause_with : Choice → List Object → List Val → Option Clause
clause_with by heap [] = None
clause_with by heap (head ∷ body) = option_map (λ tests. clause head tests body) (tests_at by heap head)

abbrev pub clause_at : Choice → List Object → Val → Option Clause
clause_at by heap v = option_and_then (clause_with by heap) (elements heap v)

-- T or OTHERWISE, which stands for all that is left
abbrev pub is_default : Val → Bool
is_default v = is_word w.T v || is_word w.Otherwise v

-- '(MEMBER KEY*) or 'TYPE
abbrev pub test_type : Choice → List Val → Tree
test_type ByKey tests = call w.Member tests
test_type ByType [] = nil_form
test_type ByType (type ∷ others) = form type

-- (IF (TYPEP G 'TYPE) (PROGN E*) REST), around the rest
abbrev pub clause_form : Choice → Clause → Tree
clause_form by c = three w.If (two w.Typep (fresh 0) (one w.Quote (test_type by c.tests))) (call w.Progn c.body) inner

-- the clauses, the last first, around what is at the end, and (LET ((G A)) REST) around them
abbrev pub choice : Choice → Val → Tree → List Clause → Expansion
choice by a end clauses = expansion 1 end (reverse (map (clause_form by) clauses) ++ kept a (inner ∷ []) ∷ [])

-- the clauses before a last one for all that is left, and the form at the end
abbrev pub before_default : List Clause → List Clause × Tree
before_default [] = ([], nil_form)
before_default (c ∷ []) = if is_default c.head then ([], call w.Progn c.body) else (c ∷ [], nil_form)
before_default (c ∷ d ∷ ds) = (c ∷ (before_default (d ∷ ds)).0, (before_default (d ∷ ds)).1)

-- of the others none may stand for all that is left
abbrev pub open_choice : Choice → Val → List Clause × Tree → Option Expansion
open_choice by a split = if list_all (λ c. not (is_default c.head)) split.0 then Some (choice by a split.1 split.0) else None

-- CASE and TYPECASE
abbrev pub case_row : Choice → List Object → List Val → Option Expansion
case_row by heap [] = None
case_row by heap (a ∷ cs) = option_and_then (λ clauses. open_choice by a (before_default clauses)) (each (clause_at by heap) cs)

abbrev pub tests_of : List Clause → List Tree
tests_of [] = []
tests_of (c ∷ cs) = forms c.tests ++ tests_of cs

abbrev pub gathered : Choice → Word
gathered ByKey = w.Member
gathered ByType = w.Or

-- (MEMBER KEY*) of all keys, (OR TYPE*) of all types
abbrev pub all_tests : Choice → List Clause → Tree
all_tests by clauses = list (word (gathered by) ∷ tests_of clauses)

-- ECASE and ETYPECASE
abbrev pub exhaustive_row : Choice → List Object → List Val → Option Expansion
exhaustive_row by heap [] = None
exhaustive_row by heap (a ∷ cs) = option_map (λ clauses. choice by a (two w.The (all_tests by clauses) (fresh 0)) clauses) (each (clause_at by heap) cs)
