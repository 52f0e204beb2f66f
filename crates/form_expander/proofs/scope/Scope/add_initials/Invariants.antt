use Rattle.std.proofs.Common.{◌≡◌, drop, map, length}
use Rattle.core_form.specs.Reading.{parameter_of}
use Rattle.expansion.specs.Expanding.{with_all, bounds_of}
use Rattle.form_expander.specs.Besides.{initials_beside}
use Rattle.form_expander.specs.Reading.{initial_of, scope_of}
use Rattle.form_expander.proofs.scope.Scope.add_initials.Given as goal

abbrev pub invariant-loop-binding : goal.invariant-loop-binding
invariant-loop-binding l =
    with_all (scope_of l.self) (bounds_of (initials_beside (map initial_of (drop (length l.yielded) l.bindings)) (map parameter_of (drop (length l.yielded) l.parameters))))
    ≡ with_all (scope_of l.fn.self) (bounds_of (initials_beside (map initial_of l.bindings) (map parameter_of l.parameters)))
