use Rattle.std.proofs.Common.{◌≡◌, List, ap, length, refl, sym, ◌∙◌}
use Rattle.std.specs.Prelude.{min}
use Rattle.std.specs.Iterator.Adapters.{zip_first, zip_second}
use Rattle.std.specs.Slice.Iter.{iter_rest}
use Rattle.std.proofs.lemmas.Slice.Zip.{zip_end}
use Rattle.lisp_base.specs.declared.values.Val.{Val}
use Rattle.core_form.specs.Reading.{parameter_of}
use Rattle.core_form.specs.Tree.{Parameter}
use Rattle.expansion.specs.Expanding.{bounds_of, with_all}
use Rattle.expansion.specs.Sketches.{Binder}
use Rattle.form_expander.specs.Besides.{initial_as}
use Rattle.form_expander.specs.Reading.{initial_of, scope_of}
use Rattle.form_expander.proofs.Zipped.{matched_end}
use Rattle.form_expander.proofs.scope.Scope.add_initials.Goals as goal

pub returns : goal.returns
returns c =
    let start = c.into_iter-binding-iterator.result in
    let first : iter_rest (zip_first start) ≡ c.args.bindings.now = rw (c.into_iter-binding-iterator.ensures.into_iter_gives, c.zip-binding-items.ensures.first, c.iter.ensures.rest) refl in
    let second : iter_rest (zip_second start) ≡ c.args.parameters.now = rw (c.into_iter-binding-iterator.ensures.into_iter_gives, c.zip-binding-items.ensures.second, c.iter-2.ensures.rest) refl in
    let count : length c.loop-binding.yielded ≡ min (length c.args.bindings.now) (length c.args.parameters.now) = zip_end _ _ _ _ _ c.next.new.self _ first second c.loop-binding.yielded_by c.in-None.is c.next.ensures.steps in
    sym (ap (λ (ps : List ((Binder × Parameter) × Val)). with_all (scope_of c.loop-binding.self) (bounds_of ps)) (matched_end initial_as initial_of parameter_of c.args.bindings.now c.args.parameters.now (length c.loop-binding.yielded) count))
    ∙ c.loop-binding.invariant
