use Rattle.std.proofs.Common.{length, map, refl, ap, ◌∙◌}
use Rattle.std.proofs.lemmas.Result.{err_from_is_err_and}
use Rattle.lisp_base.specs.declared.values.Val.{Val}
use Rattle.core_form.specs.Reading.{parameter_of}
use Rattle.expansion.specs.Expanding.{Bound}
use Rattle.form_expander.specs.Besides.{initial_as}
use Rattle.form_expander.specs.Outcomes.{Refuses}
use Rattle.form_expander.specs.Reading.{initial_of, world_of}
use Rattle.form_expander.proofs.Rows.{each_of, at_end, refused_there, refuses_along}
use Rattle.form_expander.proofs.Matching.{made_more, made_none, seen_more, seen_none, counted}
use Rattle.form_expander.proofs.Bound.{bound_initial, initial_gives, initial_refused, each_initial}
use Rattle.form_expander.proofs.parameters.make_initials.Goals as goal

pub loop-binding-init : goal.loop-binding-init
loop-binding-init c = record {
  follows = made_none initial_of parameter_of initial_as bound_initial c.args.initials.now c.new-made.result.items (world_of c.args.world.now) c.new-made.ensures.items;
  all = seen_none initial_of parameter_of initial_as (λ (p : Bound × Val). p.0.1) c.args.initials.now c.new-made.result.items c.new-made.ensures.items;
  count = ap length c.new-made.ensures.items;
  symbols = refl;
}

pub loop-binding-preserved : goal.loop-binding-preserved
loop-binding-preserved c =
    record {
      follows =
          made_more initial_of parameter_of initial_as bound_initial c.args.initials.now c.loop-binding.binding-index c.binding-item.result c.loop-binding.made.items c.push.new.self.items c.in_ok-parameter.parameter (world_of c.loop-binding.world) (world_of c.make_parameter.new.world) _ c.loop-binding-test.true c.binding-item.is c.loop-binding.invariant.count c.in_ok-push.ensures.items
          (initial_gives (initial_of c.binding-item.result) (world_of c.loop-binding.world) (world_of c.make_parameter.new.world) (parameter_of c.in_ok-parameter.parameter) c.in_ok-parameter.ensures.follows) c.loop-binding.invariant.follows;
      all = seen_more initial_of parameter_of initial_as (λ (p : Bound × Val). p.0.1) c.args.initials.now c.loop-binding.binding-index c.binding-item.result c.loop-binding.made.items c.push.new.self.items c.in_ok-parameter.parameter c.loop-binding-test.true c.binding-item.is c.loop-binding.invariant.count c.in_ok-push.ensures.items refl c.loop-binding.invariant.all;
      count = counted c.loop-binding.made.items c.push.new.self.items c.in_ok-parameter.parameter c.loop-binding.binding-index c.loop-binding.invariant.count c.in_ok-push.ensures.items;
      symbols = c.in_ok-parameter.ensures.symbols ∙ c.loop-binding.invariant.symbols;
    }

pub returns-clause-follows : goal.returns-clause-follows
returns-clause-follows c =
    each_initial _ (world_of c.args.world.now) ∙ at_end initial_of bound_initial c.args.initials.now c.loop-binding.binding-index _ (world_of c.loop-binding.world) _ c.loop-binding-test.false c.loop-binding.invariant.follows

pub returns-clause-all : goal.returns-clause-all
returns-clause-all c = c.loop-binding.invariant.all

pub returns-in_err-parameter-clause-follows : goal.returns-in_err-parameter-clause-follows
returns-in_err-parameter-clause-follows c =
    let p = err_from_is_err_and c.from_residual.result c.from_residual.ensures.1 in
    let there : Refuses (each_of bound_initial (map initial_of c.args.initials.now) (world_of c.args.world.now)) c.in_err-parameter.field-0.0 =
    refused_there initial_of bound_initial c.args.initials.now c.loop-binding.binding-index c.binding-item.result _ (world_of c.loop-binding.world) _ c.in_err-parameter.field-0.0 c.loop-binding-test.true c.binding-item.is
    (initial_refused (initial_of c.binding-item.result) (world_of c.loop-binding.world) c.in_err-parameter.field-0.0 c.in_err-parameter.ensures.follows) c.loop-binding.invariant.follows in
    rw (p.1, p.2) (refuses_along _ _ c.in_err-parameter.field-0.0 (each_initial (map initial_of c.args.initials.now) (world_of c.args.world.now)) there)
