use Rattle.std.proofs.lemmas.Result.{err_from_is_err_and}
use Rattle.core_form.specs.Reading.{core_of}
use Rattle.form_expander.specs.Reading.{scope_of, sketch_of, world_of}
use Rattle.form_expander.proofs.SketchWays.{top_gives, top_made, top_refused}
use Rattle.form_expander.proofs.Within.{left}
use Rattle.form_expander.proofs.expander.Expander.tree_of.Goals as goal

pub returns-in_err-led-clause-follows : goal.returns-in_err-led-clause-follows
returns-in_err-led-clause-follows c =
    let p = err_from_is_err_and c.from_residual.result c.from_residual.ensures.1 in
    rw (p.1, p.2) (top_refused c.args.chain (scope_of c.args.self.now.scope) c.args.form (world_of c.args.self.now.world) c.in_err-led.field-0.0 c.in_err-led.ensures.follows)

pub returns-in_err-core-clause-follows : goal.returns-in_err-core-clause-follows
returns-in_err-core-clause-follows c =
    let p = err_from_is_err_and c.from_residual-in_err-core.result c.from_residual-in_err-core.ensures.1 in
    rw (p.1, p.2)
    (top_made c.args.chain (scope_of c.args.self.now.scope) c.args.form (world_of c.args.self.now.world) c.in_ok-led.led.fuel (scope_of c.lead.new.self.scope) (sketch_of c.in_ok-led.led.sketch) (world_of c.lead.new.self.world) c.in_ok-led.ensures.follows c.in_err-core.field-0.0 c.in_err-core.ensures.follows)

pub returns-clause-follows : goal.returns-clause-follows
returns-clause-follows c =
    top_gives c.args.chain (scope_of c.args.self.now.scope) c.args.form (world_of c.args.self.now.world) c.in_ok-led.led.fuel (scope_of c.lead.new.self.scope) (sketch_of c.in_ok-led.led.sketch) (world_of c.lead.new.self.world) c.in_ok-led.ensures.follows (core_of c.in_ok-core.core) (world_of c.make.new.self.world) c.in_ok-core.ensures.follows

pub returns-clause-scope : goal.returns-clause-scope
returns-clause-scope c =
    left (scope_of c.args.self.now.scope) (scope_of c.lead.new.self.scope) (scope_of c.make.new.self.scope) (scope_of c.leave.new.self) c.mark-mark.result c.mark-mark.ensures c.in_ok-led.ensures.extends c.in_ok-core.ensures.scope c.leave.ensures
