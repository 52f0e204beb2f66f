use Rattle.std.proofs.Common.{take}
use Rattle.form_facts.specs.Read.{parts_list}
use Rattle.form_facts.specs.Given.{TellsGiven}
use Rattle.form_facts.proofs.given.given_in.Given as goal

abbrev pub invariant-loop-part : goal.invariant-loop-part
invariant-loop-part l = TellsGiven (parts_list (take l.part-index l.parts)) l.given
