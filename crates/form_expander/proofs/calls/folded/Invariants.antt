use Rattle.std.specs.Prelude.{◌≡◌, drop}
use Rattle.expansion.specs.Calls.{folded}
use Rattle.form_expander.specs.Reading.{sketch_of}
use Rattle.form_expander.proofs.calls.folded.Given as goal

abbrev pub invariant-loop-value : goal.invariant-loop-value
invariant-loop-value l = folded l.operation (sketch_of l.made) (drop l.value-index l.others) ≡ folded l.operation (sketch_of l.fn.first) l.others
