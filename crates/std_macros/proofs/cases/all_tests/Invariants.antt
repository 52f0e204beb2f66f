use Rattle.std.proofs.Common.{◌≡◌, ◌++◌, ◌∷◌, map, drop}
use Rattle.lisp_forms.specs.Trees.{tree_of}
use Rattle.std_macros.specs.Rules.{word}
use Rattle.std_macros.specs.Cases.{tests_of, gathered, clause_of}
use Rattle.std_macros.proofs.cases.all_tests.Given as goal

abbrev pub invariant-loop-clause : goal.invariant-loop-clause
invariant-loop-clause l = map tree_of l.elements.items ++ tests_of (map clause_of (drop l.clause-index l.clauses)) ≡ word (gathered l.fn.by) ∷ tests_of (map clause_of l.clauses)
