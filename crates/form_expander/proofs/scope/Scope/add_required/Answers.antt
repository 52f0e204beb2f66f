use Rattle.std.proofs.Common.{◌≡◌, List, ap, length, refl, sym, ◌∙◌}
use Rattle.std.specs.Prelude.{min}
use Rattle.std.specs.Iterator.Adapters.{zip_first, zip_second}
use Rattle.std.specs.Slice.Iter.{iter_rest}
use Rattle.std.proofs.lemmas.Slice.Zip.{zip_end}
use Rattle.core_form.specs.Reading.{parameter_of}
use Rattle.core_form.specs.Tree.{Parameter}
use Rattle.expansion.specs.Expanding.{with_all}
use Rattle.expansion.specs.Sketches.{Binder}
use Rattle.form_expander.specs.Besides.{bound_as}
use Rattle.form_expander.specs.Reading.{binder_of, scope_of}
use Rattle.form_expander.proofs.Zipped.{matched_end}
use Rattle.form_expander.proofs.scope.Scope.add_required.Goals as goal

pub returns : goal.returns
returns c =
    let start = c.into_iter-binder-iterator.result in
    let first : iter_rest (zip_first start) ≡ c.args.binders.now = rw (c.into_iter-binder-iterator.ensures.into_iter_gives, c.zip-binder-items.ensures.first, c.iter.ensures.rest) refl in
    let second : iter_rest (zip_second start) ≡ c.args.parameters.now = rw (c.into_iter-binder-iterator.ensures.into_iter_gives, c.zip-binder-items.ensures.second, c.iter-2.ensures.rest) refl in
    let count : length c.loop-binder.yielded ≡ min (length c.args.binders.now) (length c.args.parameters.now) = zip_end _ _ _ _ _ c.next.new.self _ first second c.loop-binder.yielded_by c.in-None.is c.next.ensures.steps in
    sym (ap (λ (ps : List (Binder × Parameter)). with_all (scope_of c.loop-binder.self) ps) (matched_end bound_as binder_of parameter_of c.args.binders.now c.args.parameters.now (length c.loop-binder.yielded) count))
    ∙ c.loop-binder.invariant
