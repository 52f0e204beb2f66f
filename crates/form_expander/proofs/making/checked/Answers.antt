use Rattle.std.proofs.Common.{ap, ◌∙◌, sym}
use Rattle.lisp_base.specs.Reading.{spec_of}
use Rattle.expansion.specs.Sketches.{one, Checking}
use Rattle.form_expander.specs.Reading.{sketch_of}
use Rattle.form_expander.proofs.SketchLists.{checked_more}
use Rattle.form_expander.proofs.making.checked.Goals as goal

pub loop-expected-preserved : goal.loop-expected-preserved
loop-expected-preserved c =
    c.in_ok-made.ensures
    ∙ ap (one (Checking (spec_of c.in-Some.expected))) c.loop-expected.invariant
    ∙ sym (checked_more c.loop-expected.yielded c.in-Some.expected (sketch_of c.args.part))
