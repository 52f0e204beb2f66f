use Rattle.std.proofs.Common.{sym, subst}
use Rattle.std.proofs.lemmas.Result.{err_from_is_err_and}
use Rattle.form_expander.specs.Extending.{Extends}
use Rattle.form_expander.specs.Reading.{scope_of, world_of}
use Rattle.file_expansion.specs.Laws.{IsTopScope}
use Rattle.macroexpand.specs.Going.{at_top_from, shape_from}
use Rattle.macroexpand.proofs.Sound.{own_top, own_extends}
use Rattle.macroexpand.proofs.Within.{further}
use Rattle.macroexpand.proofs.Steps.{top_refused, top_follows, on_ok}
use Rattle.macroexpand.proofs.shapes.at_top.Goals as goal

pub returns-in_err-shape-clause-follows : goal.returns-in_err-shape-clause-follows
returns-in_err-shape-clause-follows c =
    let p = err_from_is_err_and c.from_residual.result c.from_residual.ensures.1 in
    rw (p.1, p.2)
    (top_refused (scope_of c.args.expander.now.scope) c.args.has_policy c.args.chain c.args.form (world_of c.args.expander.now.world) (scope_of c.enter.new.scope) c.enter.ensures c.in_err-shape.field-0.0 c.in_err-shape.ensures.follows)

pub shaped-requires-clause-scope : goal.shaped-requires-clause-scope
shaped-requires-clause-scope c =
    subst (IsTopScope (world_of c.args.expander.now.world)) (sym c.enter.ensures)
    (own_top (world_of c.args.expander.now.world) (scope_of c.args.expander.now.scope) c.args.has_policy c.args.chain c.args.form c.requires.there c.requires.scope)

pub returns-clause-follows : goal.returns-clause-follows
returns-clause-follows c =
    top_follows (scope_of c.args.expander.now.scope) c.args.has_policy c.args.chain c.args.form (world_of c.args.expander.now.world) (scope_of c.enter.new.scope) c.enter.ensures (at_top_from (scope_of c.shaped.new.expander.scope)) (shape_from c.in_ok-shape.shape) c.shaped.result (world_of c.shaped.new.expander.world) c.in_ok-shape.ensures.follows c.shaped.ensures.follows

pub returns-clause-extends : goal.returns-clause-extends
returns-clause-extends c =
    on_ok c.shaped.result
    (λ h. further (scope_of c.args.expander.now.scope) (scope_of c.enter.new.scope) (scope_of c.shaped.new.expander.scope)
    (subst (Extends (scope_of c.args.expander.now.scope)) (sym c.enter.ensures) (own_extends (world_of c.args.expander.now.world) (scope_of c.args.expander.now.scope) c.args.has_policy c.args.chain c.args.form)) h)
    c.shaped.ensures.extends
