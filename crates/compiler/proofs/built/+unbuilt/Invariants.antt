use Rattle.std.proofs.Common.{◌≡◌, drop}
use Rattle.core_form.specs.Reading.{cores_list}
use Rattle.compiler.specs.BuiltNodes.{first_among}
use Rattle.compiler.proofs.built.+unbuilt.Given as goal

abbrev pub invariant-first_among-loop-part : goal.invariant-first_among-loop-part
invariant-first_among-loop-part l = first_among (cores_list (drop l.part-index l.parts)) ≡ first_among (cores_list l.parts)
