use Rattle.std.proofs.Common.{None, sym, subst}
use Rattle.std.proofs.lemmas.Result.{IfOk-weaker}
use Rattle.core_form.specs.declared.tree.Variable.{Variable}
use Rattle.icr_graph.specs.declared.nodes.NodeKind.TheVariants as kind
use Rattle.graph_building.specs.Built.{NewNode}
use Rattle.icr_convert.specs.Converting.{Binds, cost_alone}
use Rattle.icr_convert.proofs.Letting.{lexical_bound}
use Rattle.icr_convert.proofs.converter.Converter.bind.Goals as goal

pub returns-in_ok-variable-in-Lexical : goal.returns-in_ok-variable-in-Lexical
returns-in_ok-variable-in-Lexical c =
    let old = c.args.self.now.built in
    let new = c.plain.new.self.built in
    IfOk-weaker c.plain.result (NewNode (kind.Bind c.in_ok-variable-in-Lexical.variable c.args.value) None c.args.place (cost_alone 0) old new) (λ n. Binds c.args.names.now c.args.place c.args.variable c.args.value old new)
    (λ n node. subst (λ (x : Variable). Binds c.args.names.now c.args.place x c.args.value old new) (sym c.in-Lexical.is) (lexical_bound c.args.place c.in-Lexical.number c.in-Lexical.name c.in_ok-variable-in-Lexical.ensures node))
    c.plain.ensures
