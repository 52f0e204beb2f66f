use Rattle.std.proofs.Common.{ap, ◌∙◌}
use Rattle.core_form.specs.declared.tree.Core.{Core as Core'}
use Rattle.core_form.specs.ListReading.{bindings_list}
use Rattle.core_form.specs.Reading.{core_of}
use Rattle.core_form.specs.Tree as tree
use Rattle.form_expander.proofs.nodes.binding_node.Goals as goal

pub returns : goal.returns
returns c =
    c.at.ensures
    ∙ (c.reads_nodes.ensures.bindings c.args.place c.args.bindings c.in_ok-body.body ∙ ap (λ (e : Core'). tree.Let c.args.place (bindings_list c.args.bindings.items) (core_of e)) c.in_ok-body.ensures.ok)
