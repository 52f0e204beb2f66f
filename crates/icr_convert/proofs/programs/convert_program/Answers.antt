use Rattle.std.proofs.Common.{List, sym, subst}
use Rattle.core_form.specs.declared.tree.TopForm.{TopForm}
use Rattle.icr_graph.specs.Plain.{Slots}
use Rattle.icr_convert.specs.Programs.{AddsGraphs, AreFormsOf}
use Rattle.icr_convert.proofs.WholePrograms.{all_added, file_forms, program_kept}
use Rattle.icr_convert.proofs.programs.convert_program.Goals as goal

pub add_graphs-requires-2 : goal.add_graphs-requires-2
add_graphs-requires-2 c =
    let p = c.args.program.now in
    subst (λ (fs : List TopForm). AreFormsOf p fs) (sym c.forms.ensures.forms) (file_forms p)

pub returns-clause-graphs : goal.returns-clause-graphs
returns-clause-graphs c =
    let p = c.args.program.now in
    let early = c.add_graphs.new.graphs.items in
    let all = c.add_graphs-2.new.graphs.items in
    all_added p early all
    (subst (λ (gs : List Slots). AddsGraphs p p.prelude gs early) c.new-graphs.ensures.items
    (subst (λ (fs : List TopForm). AddsGraphs p fs c.new-graphs.result.items early) c.prelude.ensures.forms c.in_ok-add_graphs.ensures))
    (subst (λ (fs : List TopForm). AddsGraphs p fs early all) c.forms.ensures.forms c.in_ok-add_graphs-2.ensures)

pub returns-clause-keeps : goal.returns-clause-keeps
returns-clause-keeps c =
    program_kept c.args.program.now c.add_graphs-2.new.graphs.items c.forms_are_layers.ensures.program c.graphs_keep_forms.ensures (returns-clause-graphs c)
