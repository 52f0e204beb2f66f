use Rattle.std.proofs.Common.{◌≡◌, ◌++◌, drop}
use Rattle.std.specs.Prelude.{flat_map}
use Rattle.form_facts.specs.Parts.{bound_by}
use Rattle.form_facts.specs.Read.{parts_list, those_parameters}
use Rattle.form_facts.proofs.parameters.parameters_in.Given as goal

abbrev pub invariant-loop-part : goal.invariant-loop-part
invariant-loop-part l =
    those_parameters l.noted.items ++ flat_map bound_by (parts_list (drop l.part-index l.parts)) ≡ flat_map bound_by (parts_list l.parts)
