use Rattle.core_form.proofs.ReadingLemmas.{reads_progn}
use Rattle.core_form.proofs.build.sequence.Goals as goal

pub returns : goal.returns
returns c = reads_progn c.args.place c.args.parts
