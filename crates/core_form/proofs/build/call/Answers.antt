use Rattle.core_form.proofs.ReadingLemmas.{reads_primitive}
use Rattle.core_form.proofs.build.call.Goals as goal

pub returns : goal.returns
returns c = reads_primitive c.args.place c.args.operation c.args.arguments
