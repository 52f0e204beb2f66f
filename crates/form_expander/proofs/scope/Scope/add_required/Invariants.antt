use Rattle.std.proofs.Common.{◌≡◌, drop, map, length}
use Rattle.core_form.specs.Reading.{parameter_of}
use Rattle.expansion.specs.Expanding.{with_all}
use Rattle.form_expander.specs.Besides.{beside}
use Rattle.form_expander.specs.Reading.{binder_of, scope_of}
use Rattle.form_expander.proofs.scope.Scope.add_required.Given as goal

abbrev pub invariant-loop-binder : goal.invariant-loop-binder
invariant-loop-binder l =
    with_all (scope_of l.self) (beside (map binder_of (drop (length l.yielded) l.binders)) (map parameter_of (drop (length l.yielded) l.parameters)))
    ≡ with_all (scope_of l.fn.self) (beside (map binder_of l.binders) (map parameter_of l.parameters))
