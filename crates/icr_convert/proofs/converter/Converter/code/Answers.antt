use Rattle.std.proofs.Common.{List, subst, sym, ap, ◌∙◌}
use Rattle.std.specs.Prelude.{option_map}
use Rattle.core_form.specs.declared.tree.Core.{Core}
use Rattle.core_form.specs.declared.tree.Lambda.{out-Lambda}
use Rattle.core_form.specs.Tree.{Lambda}
use Rattle.core_form.specs.Facts.{parameters_of}
use Rattle.core_form.specs.ListReading.{parameters_list, optionals_list}
use Rattle.core_form.specs.Reading.{core_of, parameter_of}
use Rattle.icr_convert.specs.declared.parameters.Bound.{Bound}
use Rattle.icr_convert.specs.Coding.{Codes, TakesBody, TakesParameters, UnbindsThese, are_lexical}
use Rattle.icr_convert.proofs.FunctionCode.{code_placed}
use Rattle.icr_convert.proofs.ParameterLists.{bound_in, variables_of}
use Rattle.icr_convert.proofs.converter.Converter.code.Goals as goal

pub returns : goal.returns
returns c =
    let o = out-Lambda c.args.lambda.now in
    let reads = c.reads_nodes.ensures.lambda c.args.lambda.now in
    let names = c.args.names.now in
    let pl = c.args.place in
    let t = c.all_lexical.result in
    let k = c.in_ok-value.value in
    let vs = bound_in c.in_ok-bound.bound.items in
    let b = c.begin.new.self in
    let d = c.parameters.new.self.built in
    let e = c.body.new.self.built in
    let f = c.unbind_these.new.self.built in
    let parameters = subst (λ (l : Lambda). TakesParameters names pl l b d) reads c.in_ok-bound.ensures.stands in
    let body = subst (λ (x : Core). TakesBody names t (core_of x) d e k) c.deref.ensures c.in_ok-value.ensures in
    let lexical = c.all_lexical.ensures ∙ ap (λ (bs : List Bound). are_lexical (bound_in bs)) c.as_slice.ensures.value in
    let same = c.in_ok-bound.ensures.bound ∙ ap (λ (l : Lambda). variables_of (parameters_of l)) reads in
    let unbinds = subst (λ (bs : List Bound). UnbindsThese pl (bound_in bs) e f) c.as_slice-2.ensures.value c.in_ok-unbind_these.ensures in
    subst (λ (l : Lambda). Codes names pl l c.args.block c.args.self.now.built c.plain.new.self.built) (sym reads)
    (code_placed names pl o.number (parameters_list o.required.items) (optionals_list o.optional.items) (option_map parameter_of o.rest) (core_of o.body.value) c.args.block k c.in_ok-plain.field-0 t vs
    c.args.self.now.built b d e f c.plain.new.self.built c.in_ok-begin.ensures parameters body lexical same unbinds c.in_ok-plain.ensures)
