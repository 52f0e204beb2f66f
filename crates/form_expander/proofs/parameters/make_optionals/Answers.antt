use Rattle.std.proofs.Common.{length, map, refl, ap, ◌∙◌, Option}
use Rattle.std.proofs.lemmas.Result.{err_from_is_err_and}
use Rattle.core_form.specs.Tree.{Parameter}
use Rattle.core_form.specs.Reading.{parameter_of}
use Rattle.form_expander.specs.Besides.{optional_as, optional_pair, pair_of}
use Rattle.form_expander.specs.Outcomes.{Refuses}
use Rattle.form_expander.specs.declared.parameters.OptionalParameter.{OptionalParameter}
use Rattle.form_expander.specs.Reading.{optional_of, world_of}
use Rattle.form_expander.proofs.Rows.{each_of, at_end, refused_there, refuses_along}
use Rattle.form_expander.proofs.Matching.{made_more, made_none, seen_more, seen_none, counted}
use Rattle.form_expander.proofs.Bound.{bound_optional_by, optional_gives, optional_refused, supplied_refused, each_optional}
use Rattle.form_expander.proofs.parameters.make_optionals.Goals as goal

pub loop-optional-init : goal.loop-optional-init
loop-optional-init c = record {
  follows = made_none optional_of pair_of optional_as bound_optional_by c.args.optionals.now c.new-made.result.items (world_of c.args.world.now) c.new-made.ensures.items;
  all = seen_none optional_of pair_of optional_as optional_pair c.args.optionals.now c.new-made.result.items c.new-made.ensures.items;
  count = ap length c.new-made.ensures.items;
  symbols = refl;
}

pub loop-optional-preserved : goal.loop-optional-preserved
loop-optional-preserved c =
    let pair : OptionalParameter = record { parameter = c.in_ok-parameter.parameter; supplied = c.in_ok-supplied.supplied } in
    record {
      follows =
          made_more optional_of pair_of optional_as bound_optional_by c.args.optionals.now c.loop-optional.optional-index c.optional-item.result c.loop-optional.made.items c.push.new.self.items pair (world_of c.loop-optional.world) (world_of c.make_some.new.world) _ c.loop-optional-test.true c.optional-item.is c.loop-optional.invariant.count c.in_ok-push.ensures.items
          (optional_gives (optional_of c.optional-item.result) (world_of c.loop-optional.world) (world_of c.make_parameter.new.world) (world_of c.make_some.new.world) (parameter_of c.in_ok-parameter.parameter) _ c.in_ok-parameter.ensures.follows c.in_ok-supplied.ensures.follows) c.loop-optional.invariant.follows;
      all = seen_more optional_of pair_of optional_as optional_pair c.args.optionals.now c.loop-optional.optional-index c.optional-item.result c.loop-optional.made.items c.push.new.self.items pair c.loop-optional-test.true c.optional-item.is c.loop-optional.invariant.count c.in_ok-push.ensures.items (ap (λ (s : Option Parameter). (parameter_of c.in_ok-parameter.parameter, s)) c.in_ok-supplied.ensures.all) c.loop-optional.invariant.all;
      count = counted c.loop-optional.made.items c.push.new.self.items pair c.loop-optional.optional-index c.loop-optional.invariant.count c.in_ok-push.ensures.items;
      symbols = c.in_ok-supplied.ensures.symbols ∙ c.in_ok-parameter.ensures.symbols ∙ c.loop-optional.invariant.symbols;
    }

pub returns-clause-follows : goal.returns-clause-follows
returns-clause-follows c =
    each_optional _ (world_of c.args.world.now) ∙ at_end optional_of bound_optional_by c.args.optionals.now c.loop-optional.optional-index _ (world_of c.loop-optional.world) _ c.loop-optional-test.false c.loop-optional.invariant.follows

pub returns-clause-all : goal.returns-clause-all
returns-clause-all c = c.loop-optional.invariant.all

pub returns-in_err-parameter-clause-follows : goal.returns-in_err-parameter-clause-follows
returns-in_err-parameter-clause-follows c =
    let p = err_from_is_err_and c.from_residual.result c.from_residual.ensures.1 in
    let there : Refuses (each_of bound_optional_by (map optional_of c.args.optionals.now) (world_of c.args.world.now)) c.in_err-parameter.field-0.0 =
    refused_there optional_of bound_optional_by c.args.optionals.now c.loop-optional.optional-index c.optional-item.result _ (world_of c.loop-optional.world) _ c.in_err-parameter.field-0.0 c.loop-optional-test.true c.optional-item.is
    (optional_refused (optional_of c.optional-item.result) (world_of c.loop-optional.world) c.in_err-parameter.field-0.0 c.in_err-parameter.ensures.follows) c.loop-optional.invariant.follows in
    rw (p.1, p.2) (refuses_along _ _ c.in_err-parameter.field-0.0 (each_optional (map optional_of c.args.optionals.now) (world_of c.args.world.now)) there)

pub returns-in_err-supplied-clause-follows : goal.returns-in_err-supplied-clause-follows
returns-in_err-supplied-clause-follows c =
    let p = err_from_is_err_and c.from_residual-in_err-supplied.result c.from_residual-in_err-supplied.ensures.1 in
    let there : Refuses (each_of bound_optional_by (map optional_of c.args.optionals.now) (world_of c.args.world.now)) c.in_err-supplied.field-0.0 =
    refused_there optional_of bound_optional_by c.args.optionals.now c.loop-optional.optional-index c.optional-item.result _ (world_of c.loop-optional.world) _ c.in_err-supplied.field-0.0 c.loop-optional-test.true c.optional-item.is
    (supplied_refused (optional_of c.optional-item.result) (world_of c.loop-optional.world) (world_of c.make_parameter.new.world) (parameter_of c.in_ok-parameter.parameter) c.in_err-supplied.field-0.0 c.in_ok-parameter.ensures.follows c.in_err-supplied.ensures.follows) c.loop-optional.invariant.follows in
    rw (p.1, p.2) (refuses_along _ _ c.in_err-supplied.field-0.0 (each_optional (map optional_of c.args.optionals.now) (world_of c.args.world.now)) there)
