use Rattle.std.proofs.Common.{◌≡◌, ◌++◌, drop}
use Rattle.std.specs.Prelude.{flat_map}
use Rattle.form_facts.specs.Parts.{read_by}
use Rattle.form_facts.specs.Read.{parts_list}
use Rattle.form_facts.proofs.words.reads_in.Given as goal

abbrev pub invariant-loop-part : goal.invariant-loop-part
invariant-loop-part l =
    l.numbers.items ++ flat_map read_by (parts_list (drop l.part-index l.parts)) ≡ flat_map read_by (parts_list l.parts)
