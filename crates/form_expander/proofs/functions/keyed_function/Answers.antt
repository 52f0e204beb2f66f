use Rattle.std.specs.Prelude.{◌≡◌, IfOk, List, ◌++◌, Some}
use Rattle.std.proofs.Common.{ap, sym, subst, ◌∙◌}
use Rattle.lisp_base.specs.declared.values.SymId.{SymId}
use Rattle.lisp_base.specs.declared.values.Val.{Val}
use Rattle.lambda_lists.specs.declared.lists.Binding.{Binding}
use Rattle.lambda_lists.specs.Readings.{bindings_of, forms_of, list_of}
use Rattle.expansion.specs.Sketches.{Function, Sketch}
use Rattle.expansion.specs.Bindings.{names, parameter_names, parameters_round}
use Rattle.form_expander.specs.Contained.{contents_from}
use Rattle.form_expander.specs.Reading.{function_from, sketch_of}
use Rattle.form_expander.proofs.Sketching.{keyed_made}
use Rattle.form_expander.proofs.functions.keyed_function.Goals as goal

pub returns : goal.returns
returns c =
    subst (λ (f : Function). IfOk c.parameters_round.result (λ made. function_from made ≡ f))
    (ap (λ (x : Sketch). parameters_round (list_of c.args.list.now) (Some c.args.rest) c.deref-7.result.now (contents_from c.args.contents.now).declared x) c.in_ok-chosen.ensures
    ∙ keyed_made (list_of c.args.list.now) c.args.name (contents_from c.args.contents.now) c.deref-6.result.now c.deref-7.result.now c.deref-5.result.now (sketch_of c.in_ok-inner.inner) (sketch_of c.in_ok-given.given)
    (c.deref-7.ensures.value ∙ (c.in_ok-later.ensures ∙ ap names (c.deref-3.ensures.value ∙ sym c.deref-6.ensures.value)))
    c.args.rest (forms_of c.args.keys.now)
    (c.deref-6.ensures.value
    ∙ (c.in_ok-add_pairs-2.ensures
    ∙ (ap (λ (ps : List (SymId × Val)). ps ++ bindings_of c.deref-2.result.now)
    (c.in_ok-add_pairs.ensures
    ∙ (ap (λ (ps : List (SymId × Val)). ps ++ bindings_of c.deref.result.now) c.new-bindings.ensures.items ∙ ap bindings_of c.deref.ensures.value))
    ∙ ap (λ (bs : List Binding). (forms_of c.args.keys.now).bindings ++ bindings_of bs) c.deref-2.ensures.value)))
    (c.deref-5.ensures.value
    ∙ (c.in_ok-bound.ensures ∙ ap (λ (ss : List SymId). parameter_names (list_of c.args.list.now) (Some c.args.rest) ++ ss) (c.deref-4.ensures.value ∙ sym c.deref-7.ensures.value)))
    c.in_ok-inner.ensures c.in_ok-given.ensures)
    c.parameters_round.ensures
