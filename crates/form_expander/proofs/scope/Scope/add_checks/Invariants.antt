use Rattle.std.proofs.Common.{◌≡◌, drop, map}
use Rattle.lisp_base.specs.Reading.{spec_of}
use Rattle.expansion.specs.Expanding.{checks_for}
use Rattle.form_expander.specs.Marks.{with_checks}
use Rattle.form_expander.specs.Reading.{scope_of}
use Rattle.form_expander.proofs.scope.Scope.add_checks.Given as goal

abbrev pub invariant-loop-spec : goal.invariant-loop-spec
invariant-loop-spec l =
    with_checks (checks_for l.target (map spec_of (drop l.spec-index l.types))) (scope_of l.self) ≡ with_checks (checks_for l.target (map spec_of l.types)) (scope_of l.initial.self)
