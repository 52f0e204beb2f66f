use Rattle.std.proofs.Common.{refl, ap, sym, ◌∙◌, arith, ◌≡◌, ◌<◌}
use Rattle.std.proofs.lemmas.Result.{err_from_is_err_and}
use Rattle.expansion.specs.Steps.{gives}
use Rattle.form_expander.specs.declared.chains.Next.{Next as Next'}
use Rattle.form_expander.specs.Chains.{leads, on, there, stepped, next_from}
use Rattle.form_expander.specs.Reading.{scope_of, sketch_of, world_of}
use Rattle.form_expander.proofs.Within.{stays, further}
use Rattle.form_expander.proofs.Following.{refused_same}
use Rattle.form_expander.proofs.Keeping.{keeps_same, keeps_on}
use Rattle.form_expander.proofs.ChainSteps.{no_fuel, led_there, led_on, led_past, led_refused, step_extends}
use Rattle.form_expander.proofs.expander.Expander.lead.Goals as goal

pub loop-fuel-init : goal.loop-fuel-init
loop-fuel-init c = record { follows = refl; extends = stays _; within = omega arith; keeps = keeps_same c.args.self.now.world }

pub loop-fuel-preserved : goal.loop-fuel-preserved
loop-fuel-preserved c =
    let before = scope_of c.loop-fuel.self.scope in
    let own = scope_of c.next.new.self.scope in
    let w = world_of c.loop-fuel.self.world in
    let u = world_of c.next.new.self.world in
    let some : 0 < c.loop-fuel.chain = omega arith in
    let e : stepped before c.loop-fuel.form w ≡ gives (on own c.in-Form.next) u = c.in_ok-sketch.ensures.follows ∙ ap (λ (n : Next'). gives (next_from own n) u) c.in-Form.is in
    record {
      follows = sym (led_on c.loop-fuel.fuel c.loop-fuel.chain before own c.loop-fuel.form c.in-Form.next w u c.loop-fuel-test.true some e) ∙ c.loop-fuel.invariant.follows;
      extends = further _ _ _ c.loop-fuel.invariant.extends (step_extends before c.loop-fuel.form (on own c.in-Form.next) w u e);
      within = omega (arith, c.loop-fuel.invariant.within);
      keeps = keeps_on c.args.self.now.world c.loop-fuel.self.world c.next.new.self.world c.loop-fuel.invariant.keeps c.in_ok-sketch.ensures.keeps;
    }

pub returns-in-Sketch-clause-follows : goal.returns-in-Sketch-clause-follows
returns-in-Sketch-clause-follows c =
    let before = scope_of c.loop-fuel.self.scope in
    let own = scope_of c.next.new.self.scope in
    let w = world_of c.loop-fuel.self.world in
    let u = world_of c.next.new.self.world in
    let x = sketch_of c.in-Sketch.sketch in
    let e : stepped before c.loop-fuel.form w ≡ gives (there own x) u = c.in_ok-sketch.ensures.follows ∙ ap (λ (n : Next'). gives (next_from own n) u) c.in-Sketch.is in
    sym c.loop-fuel.invariant.follows ∙ led_there c.loop-fuel.fuel c.loop-fuel.chain before own c.loop-fuel.form x w u c.loop-fuel-test.true e

pub returns-in-Sketch-clause-extends : goal.returns-in-Sketch-clause-extends
returns-in-Sketch-clause-extends c =
    let before = scope_of c.loop-fuel.self.scope in
    let own = scope_of c.next.new.self.scope in
    let w = world_of c.loop-fuel.self.world in
    let u = world_of c.next.new.self.world in
    let x = sketch_of c.in-Sketch.sketch in
    let e : stepped before c.loop-fuel.form w ≡ gives (there own x) u = c.in_ok-sketch.ensures.follows ∙ ap (λ (n : Next'). gives (next_from own n) u) c.in-Sketch.is in
    further _ _ _ c.loop-fuel.invariant.extends (step_extends before c.loop-fuel.form (there own x) w u e)

pub returns-in_err-sketch-clause-follows : goal.returns-in_err-sketch-clause-follows
returns-in_err-sketch-clause-follows c =
    let p = err_from_is_err_and c.from_residual.result c.from_residual.ensures.1 in
    let before = scope_of c.loop-fuel.self.scope in
    let w = world_of c.loop-fuel.self.world in
    rw (p.1, p.2)
    (refused_same (leads c.loop-fuel.fuel c.loop-fuel.chain before c.loop-fuel.form w) _ c.in_err-sketch.field-0.0 (sym c.loop-fuel.invariant.follows)
    (led_refused c.loop-fuel.fuel c.loop-fuel.chain before c.loop-fuel.form w c.in_err-sketch.field-0.0 c.loop-fuel-test.true c.in_err-sketch.ensures.follows))

pub returns-then-chain-eq0-clause-follows : goal.returns-then-chain-eq0-clause-follows
returns-then-chain-eq0-clause-follows c =
    let before = scope_of c.loop-fuel.self.scope in
    let own = scope_of c.next.new.self.scope in
    let w = world_of c.loop-fuel.self.world in
    let u = world_of c.next.new.self.world in
    let e : stepped before c.loop-fuel.form w ≡ gives (on own c.in-Form.next) u = c.in_ok-sketch.ensures.follows ∙ ap (λ (n : Next'). gives (next_from own n) u) c.in-Form.is in
    rw c.refusal.ensures (sym c.loop-fuel.invariant.follows ∙ led_past c.loop-fuel.fuel c.loop-fuel.chain before own c.loop-fuel.form c.in-Form.next w u c.loop-fuel-test.true c.if-chain-eq0.true e)

pub returns-clause-follows : goal.returns-clause-follows
returns-clause-follows c =
    rw c.refusal-2.ensures
    (sym c.loop-fuel.invariant.follows ∙ no_fuel c.loop-fuel.fuel c.loop-fuel.chain (scope_of c.loop-fuel.self.scope) c.loop-fuel.form (world_of c.loop-fuel.self.world) c.loop-fuel-test.false)

pub returns-in-Sketch-clause-keeps : goal.returns-in-Sketch-clause-keeps
returns-in-Sketch-clause-keeps c = keeps_on c.args.self.now.world c.loop-fuel.self.world c.next.new.self.world c.loop-fuel.invariant.keeps c.in_ok-sketch.ensures.keeps

pub returns-in_err-sketch-clause-keeps : goal.returns-in_err-sketch-clause-keeps
returns-in_err-sketch-clause-keeps c = keeps_on c.args.self.now.world c.loop-fuel.self.world c.next.new.self.world c.loop-fuel.invariant.keeps c.in_err-sketch.ensures.keeps

pub returns-then-chain-eq0-clause-keeps : goal.returns-then-chain-eq0-clause-keeps
returns-then-chain-eq0-clause-keeps c = keeps_on c.args.self.now.world c.loop-fuel.self.world c.next.new.self.world c.loop-fuel.invariant.keeps c.in_ok-sketch.ensures.keeps
