use Rattle.std.proofs.Common.{length, map, refl, ap, ◌∙◌}
use Rattle.std.proofs.lemmas.Result.{err_from_is_err_and}
use Rattle.core_form.specs.Reading.{parameter_of}
use Rattle.expansion.specs.Expanding.{Bound, bound}
use Rattle.form_expander.specs.Besides.{bound_as}
use Rattle.form_expander.specs.Outcomes.{Refuses}
use Rattle.form_expander.specs.Reading.{binder_of, world_of}
use Rattle.form_expander.proofs.Rows.{each_of, at_end, refused_there, refuses_along}
use Rattle.form_expander.proofs.Matching.{made_more, made_none, seen_more, seen_none, counted}
use Rattle.form_expander.proofs.Bound.{bound_gives, bound_refused, each_bound}
use Rattle.form_expander.proofs.parameters.make_parameters.Goals as goal

pub loop-binder-init : goal.loop-binder-init
loop-binder-init c = record {
  follows = made_none binder_of parameter_of bound_as bound c.args.binders.now c.new-made.result.items (world_of c.args.world.now) c.new-made.ensures.items;
  all = seen_none binder_of parameter_of bound_as (λ (b : Bound). b.1) c.args.binders.now c.new-made.result.items c.new-made.ensures.items;
  count = ap length c.new-made.ensures.items;
  symbols = refl;
}

pub loop-binder-preserved : goal.loop-binder-preserved
loop-binder-preserved c =
    record {
      follows =
          made_more binder_of parameter_of bound_as bound c.args.binders.now c.loop-binder.binder-index c.binder-item.result c.loop-binder.made.items c.push.new.self.items c.in_ok-parameter.parameter (world_of c.loop-binder.world) (world_of c.make_parameter.new.world) _ c.loop-binder-test.true c.binder-item.is c.loop-binder.invariant.count c.in_ok-push.ensures.items
          (bound_gives (binder_of c.binder-item.result) (world_of c.loop-binder.world) (world_of c.make_parameter.new.world) (parameter_of c.in_ok-parameter.parameter) c.in_ok-parameter.ensures.follows) c.loop-binder.invariant.follows;
      all = seen_more binder_of parameter_of bound_as (λ (b : Bound). b.1) c.args.binders.now c.loop-binder.binder-index c.binder-item.result c.loop-binder.made.items c.push.new.self.items c.in_ok-parameter.parameter c.loop-binder-test.true c.binder-item.is c.loop-binder.invariant.count c.in_ok-push.ensures.items refl c.loop-binder.invariant.all;
      count = counted c.loop-binder.made.items c.push.new.self.items c.in_ok-parameter.parameter c.loop-binder.binder-index c.loop-binder.invariant.count c.in_ok-push.ensures.items;
      symbols = c.in_ok-parameter.ensures.symbols ∙ c.loop-binder.invariant.symbols;
    }

pub returns-clause-follows : goal.returns-clause-follows
returns-clause-follows c =
    each_bound _ (world_of c.args.world.now) ∙ at_end binder_of bound c.args.binders.now c.loop-binder.binder-index _ (world_of c.loop-binder.world) _ c.loop-binder-test.false c.loop-binder.invariant.follows

pub returns-clause-all : goal.returns-clause-all
returns-clause-all c = c.loop-binder.invariant.all

pub returns-in_err-parameter-clause-follows : goal.returns-in_err-parameter-clause-follows
returns-in_err-parameter-clause-follows c =
    let p = err_from_is_err_and c.from_residual.result c.from_residual.ensures.1 in
    let there : Refuses (each_of bound (map binder_of c.args.binders.now) (world_of c.args.world.now)) c.in_err-parameter.field-0.0 =
    refused_there binder_of bound c.args.binders.now c.loop-binder.binder-index c.binder-item.result _ (world_of c.loop-binder.world) _ c.in_err-parameter.field-0.0 c.loop-binder-test.true c.binder-item.is
    (bound_refused (binder_of c.binder-item.result) (world_of c.loop-binder.world) c.in_err-parameter.field-0.0 c.in_err-parameter.ensures.follows) c.loop-binder.invariant.follows in
    rw (p.1, p.2) (refuses_along _ _ c.in_err-parameter.field-0.0 (each_bound (map binder_of c.args.binders.now) (world_of c.args.world.now)) there)
