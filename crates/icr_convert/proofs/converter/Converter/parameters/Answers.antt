use Rattle.std.proofs.Common.{◌≡◌, ◌+◌, List, ◌++◌, length, subst, sym, ap, ◌∙◌, arith}
use Rattle.std.specs.Prelude.{option_map}
use Rattle.core_form.specs.declared.tree.Lambda.{out-Lambda}
use Rattle.core_form.specs.declared.tree.Optional.{Optional}
use Rattle.core_form.specs.declared.tree.Parameter.{Parameter}
use Rattle.core_form.specs.Tree.{Lambda}
use Rattle.core_form.specs.Facts.{parameters_of, optional_parameters}
use Rattle.core_form.specs.ListReading.{parameters_list, optionals_list}
use Rattle.core_form.specs.Reading.{core_of, parameter_of}
use Rattle.icr_convert.specs.declared.parameters.Bound.{Bound}
use Rattle.icr_convert.specs.Coding.{TakesRequired, TakesOptionals, TakesParameters}
use Rattle.icr_convert.proofs.FunctionCode.{parameters_counted, all_bound}
use Rattle.icr_convert.proofs.ParameterLists.{bound_in, variables_of}
use Rattle.icr_convert.proofs.converter.Converter.parameters.Goals as goal

pub returns-clause-stands : goal.returns-clause-stands
returns-clause-stands c =
    let o = out-Lambda c.args.lambda.now in
    let names = c.args.names.now in
    let pl = c.args.place in
    let a = c.args.self.now.built in
    let b = c.required.new.self.built in
    let d = c.optionals.new.self.built in
    let e = c.if_given.new.self.built in
    let required = subst (λ (ps : List Parameter). TakesRequired names pl 0 (parameters_list ps) a b) c.deref.ensures.value c.in_ok-required.ensures.stands in
    let optionals = subst (λ (os : List Optional). TakesOptionals names pl c.in_ok-required-2.required (optionals_list os) b d) c.deref-2.ensures.value c.in_ok-optionals.ensures.stands in
    let counted : c.in_ok-required-2.required ≡ length o.required.items = omega (arith, c.in_ok-required-2.ensures, c.len.ensures, o.required.ok.0) in
    let fixed : c.in_ok-fixed.fixed ≡ length o.required.items + length o.optional.items = omega (arith, c.in_ok-fixed.ensures, c.len-2.ensures, c.len-3.ensures, o.required.ok.0, o.optional.ok.0) in
    subst (λ (l : Lambda). TakesParameters names pl l a e) (sym (c.reads_nodes.ensures.lambda c.args.lambda.now))
    (parameters_counted names pl o.number o.required.items o.optional.items (option_map parameter_of o.rest) (core_of o.body.value) c.in_ok-required-2.required c.in_ok-fixed.fixed a b d e required counted optionals
    fixed c.in_ok-if_given.ensures.stands)

pub returns-clause-bound : goal.returns-clause-bound
returns-clause-bound c =
    let o = out-Lambda c.args.lambda.now in
    let one = bound_in c.required.new.bound.items in
    let two = bound_in c.optionals.new.bound.items in
    let first = c.in_ok-required.ensures.bound ∙ (ap (λ (bs : List Bound). bound_in bs ++ variables_of (parameters_list c.deref.result.now)) c.new-bound.ensures.items ∙ ap (λ (ps : List Parameter). variables_of (parameters_list ps)) c.deref.ensures.value) in
    let second = c.in_ok-optionals.ensures.bound ∙ ap (λ (os : List Optional). one ++ variables_of (optional_parameters (optionals_list os))) c.deref-2.ensures.value in
    all_bound (bound_in c.if_given.new.bound.items) two one (parameters_list o.required.items) (optionals_list o.optional.items) (option_map parameter_of o.rest) first second c.in_ok-if_given.ensures.bound
    ∙ sym (ap (λ (l : Lambda). variables_of (parameters_of l)) (c.reads_nodes.ensures.lambda c.args.lambda.now))
