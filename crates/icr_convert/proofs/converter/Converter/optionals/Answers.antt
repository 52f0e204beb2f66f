use Rattle.std.proofs.Common.{◌+◌, drop, refl, ap, ◌∙◌, ◌++◌, ◌∷◌, append-nil, sym, List}
use Rattle.std.specs.Prelude.{option_map}
use Rattle.std.proofs.lemmas.List.{drop_all}
use Rattle.core_form.specs.Facts.{if_given, optional_parameters}
use Rattle.core_form.specs.ListReading.{optionals_list}
use Rattle.core_form.specs.Reading.{parameter_of}
use Rattle.core_form.specs.declared.tree.Optional.{Optional}
use Rattle.core_form.specs.declared.tree.Variable.{Variable}
use Rattle.icr_convert.proofs.ParameterLists.{next_optional, all_optional, bound_in, variables_of, bound_next, next_optional_bound}
use Rattle.icr_convert.proofs.converter.Converter.optionals.Goals as goal

pub loop-optional-init : goal.loop-optional-init
loop-optional-init c = (λ b h. h, refl)

pub loop-optional-preserved : goal.loop-optional-preserved
loop-optional-preserved c =
    let l = c.loop-optional in
    let os = c.args.optionals.now in
    let o = c.optional-item.result in
    let here = variables_of (parameter_of o.parameter ∷ if_given (option_map parameter_of o.supplied)) in
    let rest = variables_of (optional_parameters (optionals_list (drop (l.optional-index + 1) os))) in (
      λ b more. l.invariant.0 b
          (next_optional c.args.names.now c.args.place os l.optional-index l.argument c.in_ok-argument.argument o l.self.built c.optional.new.self.built b c.loop-optional-test.true c.optional-item.is c.in_ok-argument.ensures c.in_ok-optional.ensures.stands more),
      bound_next (bound_in c.optional.new.bound.items) (bound_in l.bound.items) (bound_in c.args.bound.now.items) here rest (variables_of (optional_parameters (optionals_list os))) c.in_ok-optional.ensures.bound
          (ap (λ (vs : List Variable). bound_in l.bound.items ++ vs) (sym (next_optional_bound os l.optional-index o c.loop-optional-test.true c.optional-item.is)) ∙ l.invariant.1),
    )

pub returns-clause-stands : goal.returns-clause-stands
returns-clause-stands c =
    let l = c.loop-optional in
    l.invariant.0 l.self.built (all_optional c.args.names.now c.args.place c.args.optionals.now l.optional-index l.argument l.self.built c.loop-optional-test.false)

pub returns-clause-bound : goal.returns-clause-bound
returns-clause-bound c =
    let l = c.loop-optional in
    sym (append-nil (bound_in l.bound.items))
    ∙ (ap (λ (xs : List Optional). bound_in l.bound.items ++ variables_of (optional_parameters (optionals_list xs))) (sym (drop_all l.optional-index c.args.optionals.now c.loop-optional-test.false)) ∙ l.invariant.1)
