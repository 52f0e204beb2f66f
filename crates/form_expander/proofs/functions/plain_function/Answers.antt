use Rattle.std.specs.Prelude.{◌≡◌, IfOk, List, ◌++◌}
use Rattle.std.proofs.Common.{ap, sym, subst, ◌∙◌}
use Rattle.lisp_base.specs.declared.values.SymId.{SymId}
use Rattle.lisp_base.specs.declared.values.Val.{Val}
use Rattle.lambda_lists.specs.Readings.{bindings_of, list_of}
use Rattle.expansion.specs.Sketches.{Function}
use Rattle.expansion.specs.Bindings.{names, parameter_names}
use Rattle.form_expander.specs.Contained.{contents_from}
use Rattle.form_expander.specs.Reading.{function_from, sketch_of}
use Rattle.form_expander.proofs.Sketching.{plain_made}
use Rattle.form_expander.proofs.functions.plain_function.Goals as goal

pub returns : goal.returns
returns c =
    subst (λ (f : Function). IfOk c.parameters_round.result (λ made. function_from made ≡ f))
    (plain_made (list_of c.args.list.now) c.args.name (contents_from c.args.contents.now) c.deref-5.result.now c.deref-6.result.now c.deref-4.result.now (sketch_of c.in_ok-inner.inner) (sketch_of c.in_ok-inner-2.inner)
    (c.deref-6.ensures.value ∙ (c.in_ok-later.ensures ∙ ap names (c.deref-2.ensures.value ∙ sym c.deref-5.ensures.value)))
    (c.deref-5.ensures.value
    ∙ (c.in_ok-add_pairs.ensures
    ∙ (ap (λ (ps : List (SymId × Val)). ps ++ bindings_of c.deref.result.now) c.new-bindings.ensures.items ∙ ap bindings_of c.deref.ensures.value)))
    (c.deref-4.ensures.value
    ∙ (c.in_ok-bound.ensures ∙ ap (λ (ss : List SymId). parameter_names (list_of c.args.list.now) c.args.list.now.rest ++ ss) (c.deref-3.ensures.value ∙ sym c.deref-6.ensures.value)))
    c.in_ok-inner.ensures c.in_ok-inner-2.ensures)
    c.parameters_round.ensures
