use Rattle.std.proofs.Common.{List, ◌+◌, take, sym, subst}
use Rattle.icr_graph.specs.Plain.{Slots}
use Rattle.icr_convert.specs.Programs.{AddsGraphs}
use Rattle.icr_convert.proofs.WholePrograms.{none_added, one_added}
use Rattle.icr_convert.proofs.programs.add_graphs.Goals as goal

pub loop-form-init : goal.loop-form-init
loop-form-init c = none_added c.args.program.now c.args.graphs.now.items

pub loop-form-preserved : goal.loop-form-preserved
loop-form-preserved c =
    let p = c.args.program.now in
    let fs = c.args.forms.now in
    let i = c.loop-form.form-index in
    let made = c.in_ok-convert_form.ensures in
    subst (λ (hs : List Slots). AddsGraphs p (take (i + 1) fs) c.args.graphs.now.items hs) (sym c.in_ok-push.ensures.items)
    (one_added p fs i c.form-item.result c.args.graphs.now.items c.loop-form.graphs.items c.in_ok-convert_form.field-0 c.loop-form-test.true (sym c.form-item.is) c.loop-form.invariant (made.graph, made.made))
