use Rattle.std.proofs.Common.{◌≡◌, ◌++◌, drop}
use Rattle.form_facts.specs.Read.{parts_list}
use Rattle.form_facts.specs.Words.{taken_in}
use Rattle.form_facts.proofs.words.taken_in.Given as goal

abbrev pub invariant-loop-part : goal.invariant-loop-part
invariant-loop-part l =
    l.numbers.items ++ taken_in l.words (parts_list (drop l.part-index l.parts)) ≡ taken_in l.words (parts_list l.parts)
