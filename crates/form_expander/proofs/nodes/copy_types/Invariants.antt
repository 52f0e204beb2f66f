use Rattle.std.proofs.Common.{◌≡◌, ◌++◌, drop, map}
use Rattle.lisp_base.specs.Reading.{spec_of}
use Rattle.form_expander.proofs.nodes.copy_types.Given as goal

abbrev pub invariant-loop-spec : goal.invariant-loop-spec
invariant-loop-spec l = map spec_of l.copies.items ++ map spec_of (drop l.spec-index l.types) ≡ map spec_of l.types
