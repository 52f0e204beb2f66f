use Rattle.std.proofs.Common.{◌+◌, drop, refl, ap, ◌∙◌, ◌++◌, ◌∷◌, [], append-nil, sym, List}
use Rattle.std.proofs.lemmas.List.{drop_all}
use Rattle.core_form.specs.ListReading.{parameters_list}
use Rattle.core_form.specs.declared.tree.Variable.{Variable}
use Rattle.core_form.specs.declared.tree.Parameter.{Parameter}
use Rattle.icr_convert.proofs.ParameterLists.{next_required, all_required, bound_in, variables_of, bound_more, bound_next, next_parameter}
use Rattle.icr_convert.proofs.converter.Converter.required.Goals as goal

pub loop-parameter-init : goal.loop-parameter-init
loop-parameter-init c = (λ b h. h, refl)

pub loop-parameter-preserved : goal.loop-parameter-preserved
loop-parameter-preserved c =
    let l = c.loop-parameter in
    let ps = c.args.parameters.now in
    let x = c.parameter-item.result in
    let rest = variables_of (parameters_list (drop (l.parameter-index + 1) ps)) in (
      λ b more. l.invariant.0 b
          (next_required c.args.names.now c.args.place ps l.parameter-index l.number c.in_ok-number.number x l.self.built c.argument.new.self.built b c.loop-parameter-test.true c.parameter-item.is c.in_ok-number.ensures c.in_ok-argument.ensures.stands more),
      bound_next (bound_in c.push.new.self.items) (bound_in l.bound.items) (bound_in c.args.bound.now.items) (x.variable ∷ []) rest (variables_of (parameters_list ps))
          (bound_more l.bound.items c.push.new.self.items c.in_ok-argument.field-0 x.variable c.in_ok-push.ensures.items c.in_ok-argument.ensures.variable)
          (ap (λ (vs : List Variable). bound_in l.bound.items ++ vs) (sym (next_parameter ps l.parameter-index x c.loop-parameter-test.true c.parameter-item.is)) ∙ l.invariant.1),
    )

pub returns-clause-stands : goal.returns-clause-stands
returns-clause-stands c =
    let l = c.loop-parameter in
    l.invariant.0 l.self.built (all_required c.args.names.now c.args.place c.args.parameters.now l.parameter-index l.number l.self.built c.loop-parameter-test.false)

pub returns-clause-bound : goal.returns-clause-bound
returns-clause-bound c =
    let l = c.loop-parameter in
    sym (append-nil (bound_in l.bound.items))
    ∙ (ap (λ (xs : List Parameter). bound_in l.bound.items ++ variables_of (parameters_list xs)) (sym (drop_all l.parameter-index c.args.parameters.now c.loop-parameter-test.false)) ∙ l.invariant.1)
