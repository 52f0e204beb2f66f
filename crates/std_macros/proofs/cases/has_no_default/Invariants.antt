use Rattle.std.proofs.Common.{◌≡◌, map, drop, not}
use Rattle.std.specs.List.{list_all}
use Rattle.std_macros.specs.Cases.{is_default, clause_of}
use Rattle.std_macros.proofs.cases.has_no_default.Given as goal

abbrev pub invariant-loop-clause : goal.invariant-loop-clause
invariant-loop-clause l = list_all (λ c. not (is_default c.head)) (map clause_of (drop l.clause-index l.clauses)) ≡ list_all (λ c. not (is_default c.head)) (map clause_of l.clauses)
