use Rattle.std.proofs.Common.{◌∙◌}
use Rattle.form_expander.proofs.nodes.tagbody_node.Goals as goal

pub returns : goal.returns
returns c = c.at.ensures ∙ c.reads_nodes.ensures.items c.args.place c.args.items
