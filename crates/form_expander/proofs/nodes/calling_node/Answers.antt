use Rattle.std.proofs.Common.{ap, sym, ◌∙◌}
use Rattle.core_form.specs.declared.tree.Core.{Core as Core'}
use Rattle.core_form.specs.Reading.{core_of, cores_list}
use Rattle.core_form.specs.Tree as tree
use Rattle.expansion.specs.declared.heads.Calling.{Calling}
use Rattle.expansion.specs.Sketches.{calling_node}
use Rattle.form_expander.proofs.nodes.calling_node.Goals as goal

pub returns-in-Funcalling : goal.returns-in-Funcalling
returns-in-Funcalling c =
    c.at.ensures
    ∙ (c.reads_nodes.ensures.funcall c.args.place c.in_ok-function.function c.args.parts
    ∙ (ap (λ (e : Core'). tree.Funcall c.args.place (core_of e) (cores_list c.args.parts.items)) c.in_ok-function.ensures.ok
    ∙ ap (λ (n : Calling). calling_node n c.args.place (core_of c.args.function) (cores_list c.args.parts.items)) (sym c.in-Funcalling.is)))

pub returns-in-Applying : goal.returns-in-Applying
returns-in-Applying c =
    c.at-in-Applying.ensures
    ∙ (c.reads_nodes.ensures.apply c.args.place c.in_ok-function.function c.args.parts
    ∙ (ap (λ (e : Core'). tree.Apply c.args.place (core_of e) (cores_list c.args.parts.items)) c.in_ok-function.ensures.ok
    ∙ ap (λ (n : Calling). calling_node n c.args.place (core_of c.args.function) (cores_list c.args.parts.items)) (sym c.in-Applying.is)))

pub returns-in-CallingWithValues : goal.returns-in-CallingWithValues
returns-in-CallingWithValues c =
    c.at-in-CallingWithValues.ensures
    ∙ (c.reads_nodes.ensures.with_values c.args.place c.in_ok-function.function c.args.parts
    ∙ (ap (λ (e : Core'). tree.MvCall c.args.place (core_of e) (cores_list c.args.parts.items)) c.in_ok-function.ensures.ok
    ∙ ap (λ (n : Calling). calling_node n c.args.place (core_of c.args.function) (cores_list c.args.parts.items)) (sym c.in-CallingWithValues.is)))
