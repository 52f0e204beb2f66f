use Rattle.std.proofs.Common.{◌∙◌}
use Rattle.std.proofs.lemmas.Result.{err_from_is_err_and}
use Rattle.declarations.specs.Declarations.{declared_of}
use Rattle.form_expander.specs.Reading.{scope_of, world_of}
use Rattle.form_expander.proofs.ContentsRead.{contents_given, contents_refused}
use Rattle.form_expander.proofs.bodies.contents_of.Goals as goal

pub returns-in_err-declared : goal.returns-in_err-declared
returns-in_err-declared c =
    let p = err_from_is_err_and c.from_residual.result c.from_residual.ensures.1 in
    rw (p.1, p.2)
    (contents_refused (scope_of c.args.scope.now) c.args.body.now c.body_of-body.result.declarations.now (world_of c.args.world.now) c.body_of-body.ensures.declarations
    c.in_err-declared.field-0.0 c.in_err-declared.ensures)

pub returns : goal.returns
returns c =
    contents_given (scope_of c.args.scope.now) c.args.body.now c.body_of-body.result.declarations.now (world_of c.args.world.now) c.body_of-body.ensures.declarations
    c.in_ok-forms.forms.items (declared_of c.in_ok-declared.declared) (c.in_ok-forms.ensures.items ∙ c.body_of-body.ensures.forms) c.in_ok-declared.ensures
