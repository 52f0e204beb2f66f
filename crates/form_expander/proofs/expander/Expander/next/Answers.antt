use Rattle.std.proofs.Common.{ap, sym, ◌∙◌}
use Rattle.std.proofs.lemmas.Result.{err_from_is_err_and}
use Rattle.declarations.specs.Declarations.{declared_of}
use Rattle.expansion.specs.Scopes.{Scope}
use Rattle.expansion.specs.Steps.{gives}
use Rattle.expansion.specs.Sketches.{instead, declared_around, makes}
use Rattle.form_expander.specs.declared.sketch.Plan.{Plan as Plan'}
use Rattle.form_expander.specs.Chains.{on}
use Rattle.form_expander.specs.Reading.{plan_from, scope_of, sketch_of, world_of}
use Rattle.form_expander.proofs.ChainSteps.{step_gives, step_refused}
use Rattle.form_expander.proofs.expander.Expander.next.Goals as goal

pub returns-in_err-next-clause-follows : goal.returns-in_err-next-clause-follows
returns-in_err-next-clause-follows c =
    let p = err_from_is_err_and c.from_residual.result c.from_residual.ensures.1 in
    rw (p.1, p.2) (step_refused (scope_of c.args.self.now.scope) c.args.form (world_of c.args.self.now.world) c.in_err-next.field-0.0 c.in_err-next.ensures.follows)

pub returns-in-Instead-clause-follows : goal.returns-in-Instead-clause-follows
returns-in-Instead-clause-follows c =
    step_gives (scope_of c.args.self.now.scope) (scope_of c.plan.new.self.scope) c.args.form (instead c.in-Instead.next) (world_of c.args.self.now.world) (world_of c.plan.new.self.world) c.plan.ensures.scope
    (c.in_ok-next.ensures.follows ∙ ap (λ (p : Plan'). gives (plan_from p) (world_of c.plan.new.self.world)) c.in-Instead.is)

pub returns-in_ok-add_declared-in-DeclaredAround-clause-follows :
    goal.returns-in_ok-add_declared-in-DeclaredAround-clause-follows
returns-in_ok-add_declared-in-DeclaredAround-clause-follows c =
    step_gives (scope_of c.args.self.now.scope) (scope_of c.plan.new.self.scope) c.args.form (declared_around (declared_of c.in-DeclaredAround.declared) c.in-DeclaredAround.next) (world_of c.args.self.now.world) (world_of c.plan.new.self.world) c.plan.ensures.scope
    (c.in_ok-next.ensures.follows ∙ ap (λ (p : Plan'). gives (plan_from p) (world_of c.plan.new.self.world)) c.in-DeclaredAround.is)
    ∙ ap (λ (s : Scope). gives (on s c.in-DeclaredAround.next) (world_of c.plan.new.self.world)) (sym c.in_ok-add_declared-in-DeclaredAround.ensures)

pub returns-in-Makes-clause-follows : goal.returns-in-Makes-clause-follows
returns-in-Makes-clause-follows c =
    step_gives (scope_of c.args.self.now.scope) (scope_of c.plan.new.self.scope) c.args.form (makes (sketch_of c.in-Makes.sketch)) (world_of c.args.self.now.world) (world_of c.plan.new.self.world) c.plan.ensures.scope
    (c.in_ok-next.ensures.follows ∙ ap (λ (p : Plan'). gives (plan_from p) (world_of c.plan.new.self.world)) c.in-Makes.is)
