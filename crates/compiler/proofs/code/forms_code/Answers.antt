use Rattle.std.proofs.Common.{◌≡◌, ◌<◌, length, true, sym, subst}
use Rattle.core_form.specs.declared.tree.TopForm.{TopForm}
use Rattle.core_form.specs.Reading.{core_of}
use Rattle.compiler.specs.Code.{code_of, is_served}
use Rattle.compiler.proofs.Parted.{form_served, form_near}
use Rattle.compiler.proofs.code.forms_code.Goals as goal

pub node_code-requires-clause-served : goal.node_code-requires-clause-served
node_code-requires-clause-served c =
    subst (λ (f : TopForm). is_served (core_of f.core) ≡ true) (sym c.form-item.is)
    (form_served c.args.forms.now c.loop-form.form-index c.form-item.result c.loop-form-test.true c.requires.served)

pub node_code-requires-clause-near : goal.node_code-requires-clause-near
node_code-requires-clause-near c =
    subst (λ (f : TopForm). length (code_of (core_of f.core)) < 262144) (sym c.form-item.is)
    (form_near c.args.forms.now c.loop-form.form-index c.form-item.result c.loop-form-test.true c.requires.near)
