use Rattle.form_expander.proofs.SketchReading.{reads_many}
use Rattle.form_expander.proofs.making.many.Goals as goal

pub returns : goal.returns
returns c = reads_many c.args.node c.args.parts
