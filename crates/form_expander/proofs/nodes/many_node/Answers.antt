use Rattle.std.proofs.Common.{ap, sym, ◌∙◌}
use Rattle.core_form.specs.Reading.{cores_list}
use Rattle.expansion.specs.declared.heads.Many.{Many}
use Rattle.expansion.specs.Sketches.{many_node}
use Rattle.form_expander.proofs.nodes.many_node.Goals as goal

pub returns-in-Sequence : goal.returns-in-Sequence
returns-in-Sequence c =
    c.at.ensures
    ∙ (c.reads_lists.ensures.sequence c.args.place c.args.parts ∙ ap (λ (n : Many). many_node n c.args.place (cores_list c.args.parts.items)) (sym c.in-Sequence.is))

pub returns-in-CallingLocal : goal.returns-in-CallingLocal
returns-in-CallingLocal c =
    c.at-in-CallingLocal.ensures
    ∙ (c.reads_nodes.ensures.local c.args.place c.in-CallingLocal.number c.args.parts ∙ ap (λ (n : Many). many_node n c.args.place (cores_list c.args.parts.items)) (sym c.in-CallingLocal.is))

pub returns-in-CallingGlobal : goal.returns-in-CallingGlobal
returns-in-CallingGlobal c =
    c.at-in-CallingGlobal.ensures
    ∙ (c.reads_nodes.ensures.global c.args.place c.in-CallingGlobal.name c.args.parts ∙ ap (λ (n : Many). many_node n c.args.place (cores_list c.args.parts.items)) (sym c.in-CallingGlobal.is))

pub returns-in-Operating : goal.returns-in-Operating
returns-in-Operating c =
    c.at-in-Operating.ensures
    ∙ (c.reads_lists.ensures.call c.args.place c.in-Operating.operation c.args.parts ∙ ap (λ (n : Many). many_node n c.args.place (cores_list c.args.parts.items)) (sym c.in-Operating.is))

pub returns-in-GivingValues : goal.returns-in-GivingValues
returns-in-GivingValues c =
    c.at-in-GivingValues.ensures ∙ (c.reads_nodes.ensures.values c.args.place c.args.parts ∙ ap (λ (n : Many). many_node n c.args.place (cores_list c.args.parts.items)) (sym c.in-GivingValues.is))
