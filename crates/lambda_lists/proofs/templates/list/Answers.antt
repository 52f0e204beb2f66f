use Rattle.lambda_lists.proofs.templates.list.Goals as goal

pub returns : goal.returns
returns c = c.reads_templates.ensures c.args.elements _
