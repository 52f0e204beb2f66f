use Rattle.std.proofs.Common.{◌≡◌, drop, map}
use Rattle.core_form.specs.Counting.{with_types}
use Rattle.lisp_base.specs.Reading.{spec_of}
use Rattle.core_form.proofs.counting.add_types.Given as goal

abbrev pub invariant-loop-spec : goal.invariant-loop-spec
invariant-loop-spec l =
    with_types l.total (map spec_of (drop l.spec-index l.types)) ≡ with_types l.fn.total (map spec_of l.types)
