use Rattle.form_graphs.proofs.Following.{graphs_keep_forms}
use Rattle.form_graphs.proofs.laws.graphs_keep_forms.Goals as goal

pub returns : goal.returns
returns c = graphs_keep_forms
