use Rattle.std.proofs.Common.{ap, ◌∙◌}
use Rattle.expansion.specs.Sketches.{calling}
use Rattle.form_expander.specs.declared.sketch.Sketch.{Sketch}
use Rattle.form_expander.specs.Reading.{sketch_of, sketches_list}
use Rattle.form_expander.proofs.SketchReading.{reads_calling}
use Rattle.form_expander.proofs.making.calling.Goals as goal

pub returns : goal.returns
returns c =
    reads_calling c.args.node c.in_ok-new.field-0 c.args.parts
    ∙ ap (λ (x : Sketch). calling c.args.node (sketch_of x) (sketches_list c.args.parts.items)) c.in_ok-new.ensures.ok
