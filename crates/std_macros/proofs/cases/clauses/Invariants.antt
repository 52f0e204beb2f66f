use Rattle.std.proofs.Common.{◌≡◌, ◌++◌, map, drop}
use Rattle.std.specs.Option.{option_map}
use Rattle.std_macros.specs.Syntax.{each}
use Rattle.std_macros.specs.Cases.{clause_at, clause_of}
use Rattle.std_macros.proofs.cases.clauses.Given as goal

abbrev pub invariant-loop-form : goal.invariant-loop-form
invariant-loop-form l = option_map (λ ys. map clause_of l.clauses.items ++ ys) (each (clause_at l.by l.heap) (drop l.form-index l.forms)) ≡ each (clause_at l.by l.heap) l.forms
