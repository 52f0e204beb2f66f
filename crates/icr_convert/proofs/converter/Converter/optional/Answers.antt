use Rattle.std.proofs.Common.{◌∷◌, []}
use Rattle.std.specs.Prelude.{option_map}
use Rattle.core_form.specs.Facts.{if_given}
use Rattle.core_form.specs.Reading.{parameter_of}
use Rattle.icr_convert.proofs.Entering.{on_ok, optional_taken}
use Rattle.icr_convert.proofs.ParameterLists.{bound_in, variables_of, bound_more, bound_then}
use Rattle.icr_convert.proofs.converter.Converter.optional.Goals as goal

pub returns-clause-stands : goal.returns-clause-stands
returns-clause-stands c =
    on_ok c.if_given.result
    (λ given. optional_taken c.args.names.now c.args.place c.args.argument c.args.optional.now c.in_ok-value.value c.args.self.now.built c.argument_or_default.new.self.built c.parameter.new.self.built c.if_given.new.self.built
    c.in_ok-value.ensures c.in_ok-parameter.ensures.stands given)
    c.if_given.ensures.stands

pub returns-clause-bound : goal.returns-clause-bound
returns-clause-bound c =
    let o = c.args.optional.now in
    on_ok c.if_given.result
    (bound_then (bound_in c.if_given.new.bound.items) (bound_in c.push.new.self.items) (bound_in c.args.bound.now.items) (o.parameter.variable ∷ []) (variables_of (if_given (option_map parameter_of o.supplied)))
    (bound_more c.args.bound.now.items c.push.new.self.items c.in_ok-parameter.field-0 o.parameter.variable c.in_ok-push.ensures.items c.in_ok-parameter.ensures.variable))
    c.if_given.ensures.bound
