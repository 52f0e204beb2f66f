use Rattle.std.proofs.Common.{◌≡◌, [], drop, fold, map}
use Rattle.lisp_base.specs.Reading.{spec_of}
use Rattle.expansion.specs.Scopes.{and_set}
use Rattle.form_expander.specs.Reading.{check_of}
use Rattle.form_expander.proofs.scope.Scope.types_set.Given as goal

abbrev pub invariant-loop-check : goal.invariant-loop-check
invariant-loop-check l =
    fold (and_set l.target) (map spec_of l.types.items) (map check_of (drop l.check-index l.self.checks.items)) ≡ fold (and_set l.target) [] (map check_of l.self.checks.items)
