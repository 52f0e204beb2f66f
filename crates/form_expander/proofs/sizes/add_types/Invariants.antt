use Rattle.std.proofs.Common.{◌≡◌, ◌+◌, drop, map}
use Rattle.lisp_base.specs.Reading.{spec_of}
use Rattle.core_form.specs.Tree.{types_size}
use Rattle.form_expander.proofs.sizes.add_types.Given as goal

abbrev pub invariant-loop-spec : goal.invariant-loop-spec
invariant-loop-spec l = l.total + types_size (map spec_of (drop l.spec-index l.types)) ≡ l.fn.total + types_size (map spec_of l.types)
