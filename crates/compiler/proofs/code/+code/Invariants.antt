use Rattle.std.proofs.Common.{◌≡◌, ◌++◌, drop}
use Rattle.core_form.specs.Reading.{cores_list}
use Rattle.compiler.specs.Code.{codes_of}
use Rattle.compiler.proofs.code.+code.Given as goal

abbrev pub invariant-part_codes-loop-part : goal.invariant-part_codes-loop-part
invariant-part_codes-loop-part l =
    l.code.items ++ codes_of (cores_list (drop l.part-index l.parts)) ≡ codes_of (cores_list l.parts)
