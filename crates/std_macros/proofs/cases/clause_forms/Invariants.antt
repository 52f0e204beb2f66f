use Rattle.std.proofs.Common.{◌≡◌, ◌++◌, map, drop}
use Rattle.lisp_forms.specs.Trees.{tree_of}
use Rattle.std_macros.specs.Cases.{clause_form, clause_of}
use Rattle.std_macros.proofs.cases.clause_forms.Given as goal

abbrev pub invariant-loop-clause : goal.invariant-loop-clause
invariant-loop-clause l = map tree_of l.made.items ++ map (clause_form l.by) (map clause_of (drop l.clause-index l.clauses)) ≡ map (clause_form l.by) (map clause_of l.clauses)
