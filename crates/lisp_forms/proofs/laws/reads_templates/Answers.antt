use Rattle.lisp_forms.proofs.Readings.{reads_list}
use Rattle.lisp_forms.proofs.laws.reads_templates.Goals as goal

pub returns : goal.returns
returns c = reads_list
