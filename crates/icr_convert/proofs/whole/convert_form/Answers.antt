use Rattle.std.proofs.Common.{◌≡◌, sym, ap, ◌∙◌, subst, map, length, List, ℕ}
use Rattle.std.proofs.lemmas.List.{length-map}
use Rattle.std.proofs.lemmas.Result.{IfOk-weaker}
use Rattle.core_form.specs.Facts.{FunctionText, functions_in}
use Rattle.core_form.specs.Reading.{core_of, top_of}
use Rattle.icr_graph.specs.Plain.{Slots, graph_of}
use Rattle.form_graphs.specs.Functions.{IsGraphOf}
use Rattle.form_names.specs.Read.{text_of}
use Rattle.icr_convert.specs.Whole.{CodesAll, GraphKeeps, symbols_of}
use Rattle.icr_convert.proofs.WholeForms.{form_lawful, graph_of_form, keeps, well_made}
use Rattle.icr_convert.proofs.whole.convert_form.Goals as goal

pub returns-clause-graph : goal.returns-clause-graph
returns-clause-graph c =
    let form = c.args.form.now in
    let program = c.args.program.now in
    let names = c.in_ok-names.names in
    let before = c.own_code.new.self.built in
    let after = c.codes.new.self.built in
    let all = c.deref-2.result.now in
    let listed : map text_of c.deref.result.now ≡ functions_in (core_of form.core) = ap (map text_of) c.deref.ensures.value ∙ c.in_ok-texts.ensures in
    let coded : map text_of all ≡ functions_in (core_of form.core) = ap (map text_of) c.deref-2.ensures.value ∙ c.in_ok-texts.ensures in
    let codes : CodesAll names (functions_in (core_of form.core)) (length (functions_in (core_of form.core))) before after =
    subst (λ (ts : List FunctionText). CodesAll names ts (length ts) before after) coded
    (subst (λ (n : ℕ). CodesAll names (map text_of all) n before after) (sym (length-map all text_of)) c.in_ok-codes.ensures) in
    IfOk-weaker c.finish.result (λ g. g ≡ after.slots) (λ g. IsGraphOf (symbols_of program) (top_of form) (graph_of g))
    (λ g is. subst (λ (s : Slots). IsGraphOf (symbols_of program) (top_of form) (graph_of s)) (sym is)
    (graph_of_form c.numbered_functions.ensures.numbered c.numbered_functions.ensures.local (form_lawful program form c.prelude.ensures.lawful c.requires).functions
    c.in_ok-converter.ensures (c.in_ok-names.ensures listed) c.in_ok-own_code.ensures codes))
    c.finish.ensures.graph

pub returns-clause-keeps : goal.returns-clause-keeps
returns-clause-keeps c =
    IfOk-weaker c.finish.result (λ g. IsGraphOf (symbols_of c.args.program.now) (top_of c.args.form.now) (graph_of g)) (λ g. GraphKeeps c.args.program.now c.args.form.now (graph_of g))
    (λ g is. keeps c.args.program.now c.args.form.now (graph_of g) c.graphs_keep_forms.ensures is) (returns-clause-graph c)

pub returns-clause-made : goal.returns-clause-made
returns-clause-made c = well_made c.finish.result c.finish.ensures.checked c.finish.ensures.few c.finish.ensures.functions
