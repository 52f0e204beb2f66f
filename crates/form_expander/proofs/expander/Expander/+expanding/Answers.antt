use Rattle.std.proofs.Common.{◌≡◌, ◌∙◌, ℕ, suc, refl, ap, sym, subst, arith, List, Option, length, map, drop, get_or, option_map, pos}
use Rattle.std.specs.Prelude.{min}
use Rattle.std.specs.Iterator.Adapters.{zip_first, zip_second}
use Rattle.std.specs.Slice.Iter.{iter_rest}
use Rattle.std.proofs.lemmas.List.{drop_more, get_or_default, length_push}
use Rattle.std.proofs.lemmas.Result.{err_from_is_err_and}
use Rattle.std.proofs.lemmas.Slice.Zip.{zip_end, zip_turn}
use Rattle.lisp_base.specs.declared.values.Val.TheVariants.{Int}
use Rattle.declarations.specs.Declarations.{declared_of}
use Rattle.core_form.specs.declared.tree.Core.{Core as Core'}
use Rattle.core_form.specs.declared.tree.Definition.{Definition as Definition', rolls-Definition'}
use Rattle.core_form.specs.declared.tree.Parameter.{Parameter as Parameter'}
use Rattle.core_form.specs.ListReading.{bindings_list, definitions_list, items_list, optionals_list}
use Rattle.core_form.specs.Reading.{core_of, lambda_of, parameter_of}
use Rattle.core_form.specs.Tree as tree
use Rattle.core_form.specs.Tree.{Core, Parameter, define, lambda, no_definition}
use Rattle.expansion.specs.Expanding.{around_definitions, bounds_of, defaults, definitions, function_tree, items, make, parameter_some, parameters, values_bound, with_all, with_some, with_tags}
use Rattle.expansion.specs.Scopes.{Scope, with_block, with_function}
use Rattle.expansion.specs.Sketches.{assign, bind, block, calling, choice, form, function, functions, leaf, many, one, recursive, tagbody, two, within}
use Rattle.expansion.specs.Steps.{begin, gives, inside}
use Rattle.form_expander.specs.declared.sketch.Sketch.{Sketch as Sketch'}
use Rattle.form_expander.specs.Beginnings.{beginning_from, definition_from, with_names, with_optional}
use Rattle.form_expander.specs.Besides.{initials_beside, optionals_beside, pair_of}
use Rattle.form_expander.specs.Outcomes.{Refuses}
use Rattle.form_expander.specs.Reading.{binder_of, function_from, initial_of, optional_of, scope_of, sketch_of, sketches_list, unary_of, world_of}
use Rattle.form_expander.proofs.BindWays.{bind_body_refused, bind_gives, bind_refused, bind_values_refused, block_body_refused, block_gives, block_refused, tagbody_gives, tagbody_items_refused, tagbody_refused}
use Rattle.form_expander.proofs.FunctionWays.{definition_function, definition_gives, definition_refused, function_body, function_defaults, function_gives, function_refused}
use Rattle.form_expander.proofs.Keeping.{keeps_on, keeps_same}
use Rattle.form_expander.proofs.Kept.{extends_on}
use Rattle.form_expander.proofs.LocalWays.{around_body, functions_body, functions_definitions, functions_give, functions_refused, recursive_function, recursive_gives, recursive_nested, recursive_refused}
use Rattle.form_expander.proofs.PartLists.{before_bindings, before_optionals, cores_end, definitions_end}
use Rattle.form_expander.proofs.PartLoops.{bindings_start, cores_start, defaults_done, defaults_fails, defaults_on, definitions_fails, definitions_on, definitions_start, each_fails, each_on, items_done, items_fails, items_start, items_stepped, items_tagged, optionals_start, values_done, values_fails, values_on, with_optional_extends}
use Rattle.form_expander.proofs.SketchReading.{reads_calling, reads_many}
use Rattle.form_expander.proofs.SketchWays.{assign_is, bind_is, block_is, form_follows, form_refused, functions_are, leaf_is, make_gives, make_none, make_refused, recursive_is, sketch_as, tagbody_is, value_gives, value_refused, within_extends, within_is}
use Rattle.form_expander.proofs.Within.{further, left, stays, with_all_extends, with_block_extends, with_function_extends, with_names_extends, with_some_extends, with_tags_extends}
use Rattle.form_expander.proofs.expander.Expander.+expanding.Goals as goal

pub make_each-loop-part-init : goal.make_each-loop-part-init
make_each-loop-part-init t c =
    record { follows = cores_start c.new-made.result.items _ c.new-made.ensures.items; scope = refl; keeps = keeps_same c.args.self.now.world }

pub make_each-loop-part-preserved : goal.make_each-loop-part-preserved
make_each-loop-part-preserved t c =
    record {
      follows = each_on c.args.fuel c.args.levels (scope_of c.args.self.now.scope) (scope_of c.loop-part.self.scope) c.loop-part.invariant.scope c.args.parts.now c.loop-part.part-index c.part-item.result c.loop-part.made.items (world_of c.loop-part.self.world) _ c.loop-part-test.true c.part-item.is c.loop-part.invariant.follows c.push.new.self.items c.in_ok-make.field-0 (world_of c.make.new.self.world) c.in_ok-push.ensures.items c.in_ok-make.ensures.follows;
      scope = c.in_ok-make.ensures.scope ∙ c.loop-part.invariant.scope;
      keeps = keeps_on c.args.self.now.world c.loop-part.self.world c.make.new.self.world c.loop-part.invariant.keeps c.in_ok-make.ensures.keeps;
    }

pub make_each-returns-in_err-make-clause-follows : goal.make_each-returns-in_err-make-clause-follows
make_each-returns-in_err-make-clause-follows t c =
    let p = err_from_is_err_and c.from_residual.result c.from_residual.ensures.1 in
    rw (p.1, p.2) (each_fails c.args.fuel c.args.levels (scope_of c.args.self.now.scope) (scope_of c.loop-part.self.scope) c.loop-part.invariant.scope c.args.parts.now c.loop-part.part-index c.part-item.result c.loop-part.made.items (world_of c.loop-part.self.world) _ c.loop-part-test.true c.part-item.is c.loop-part.invariant.follows c.in_err-make.field-0.0 c.in_err-make.ensures.follows)

pub make_each-returns-clause-follows : goal.make_each-returns-clause-follows
make_each-returns-clause-follows t c =
    cores_end (make c.args.fuel c.args.levels (scope_of c.args.self.now.scope)) c.args.parts.now c.loop-part.part-index c.loop-part.made.items (world_of c.loop-part.self.world) _ c.loop-part-test.false c.loop-part.invariant.follows

pub make_values-loop-binding-init : goal.make_values-loop-binding-init
make_values-loop-binding-init t c =
    record { follows = bindings_start c.new-made.result.items _ c.new-made.ensures.items; scope = refl; keeps = keeps_same c.args.self.now.world }

pub make_values-loop-binding-preserved : goal.make_values-loop-binding-preserved
make_values-loop-binding-preserved t c =
    let start = c.into_iter-binding-iterator.result in
    let first : iter_rest (zip_first start) ≡ c.args.bindings.now = rw (c.into_iter-binding-iterator.ensures.into_iter_gives, c.zip-binding-items.ensures.first, c.iter.ensures.rest) refl in
    let second : iter_rest (zip_second start) ≡ c.args.parameters.now = rw (c.into_iter-binding-iterator.ensures.into_iter_gives, c.zip-binding-items.ensures.second, c.iter-2.ensures.rest) refl in
    let turn = zip_turn c.args.bindings.now c.args.parameters.now c.loop-binding.yielded start c.loop-binding.binding-iterator c.next.new.self c.next.result first second c.loop-binding.yielded_by _ c.in-Some.is c.next.ensures.steps in
    let u = world_of c.make-value.new.self.world in
    record {
      follows =
          ap (λ (n : ℕ). before_bindings c.push.new.self.items (values_bound (make c.args.fuel c.args.levels (scope_of c.args.self.now.scope)) (initials_beside (map initial_of (drop n c.args.bindings.now)) (map parameter_of (drop n c.args.parameters.now))) u)) (length_push c.loop-binding.yielded _)
          ∙ values_on c.args.fuel c.args.levels (scope_of c.args.self.now.scope) (scope_of c.loop-binding.self.scope) c.loop-binding.invariant.scope c.args.bindings.now c.args.parameters.now (length c.loop-binding.yielded) c.in-Some.binding.now c.in-Some.parameter.now c.loop-binding.made.items (world_of c.loop-binding.self.world) _ turn.0 turn.1 (turn.2 _) (turn.3 _) c.loop-binding.invariant.follows c.push.new.self.items _ (sketch_of c.in_ok-form.form) u c.in_ok-push.ensures.items c.in_ok-parameter.ensures (rw (c.in_ok-form.ensures, c.deref.ensures.value) refl) c.in_ok-value.ensures.follows;
      scope = c.in_ok-value.ensures.scope ∙ c.loop-binding.invariant.scope;
      keeps = keeps_on c.args.self.now.world c.loop-binding.self.world c.make-value.new.self.world c.loop-binding.invariant.keeps c.in_ok-value.ensures.keeps;
    }

pub make_values-returns-in_err-value-clause-follows : goal.make_values-returns-in_err-value-clause-follows
make_values-returns-in_err-value-clause-follows t c =
    let start = c.into_iter-binding-iterator.result in
    let first : iter_rest (zip_first start) ≡ c.args.bindings.now = rw (c.into_iter-binding-iterator.ensures.into_iter_gives, c.zip-binding-items.ensures.first, c.iter.ensures.rest) refl in
    let second : iter_rest (zip_second start) ≡ c.args.parameters.now = rw (c.into_iter-binding-iterator.ensures.into_iter_gives, c.zip-binding-items.ensures.second, c.iter-2.ensures.rest) refl in
    let turn = zip_turn c.args.bindings.now c.args.parameters.now c.loop-binding.yielded start c.loop-binding.binding-iterator c.next.new.self c.next.result first second c.loop-binding.yielded_by _ c.in-Some.is c.next.ensures.steps in
    let p = err_from_is_err_and c.from_residual-in_err-value.result c.from_residual-in_err-value.ensures.1 in
    rw (p.1, p.2) (values_fails c.args.fuel c.args.levels (scope_of c.args.self.now.scope) (scope_of c.loop-binding.self.scope) c.loop-binding.invariant.scope c.args.bindings.now c.args.parameters.now (length c.loop-binding.yielded) c.in-Some.binding.now c.in-Some.parameter.now c.loop-binding.made.items (world_of c.loop-binding.self.world) _ turn.0 turn.1 (turn.2 _) (turn.3 _) c.loop-binding.invariant.follows (sketch_of c.in_ok-form.form) c.in_err-value.field-0.0 (rw (c.in_ok-form.ensures, c.deref.ensures.value) refl) c.in_err-value.ensures.follows)

pub make_values-returns-clause-follows : goal.make_values-returns-clause-follows
make_values-returns-clause-follows t c =
    let start = c.into_iter-binding-iterator.result in
    let first : iter_rest (zip_first start) ≡ c.args.bindings.now = rw (c.into_iter-binding-iterator.ensures.into_iter_gives, c.zip-binding-items.ensures.first, c.iter.ensures.rest) refl in
    let second : iter_rest (zip_second start) ≡ c.args.parameters.now = rw (c.into_iter-binding-iterator.ensures.into_iter_gives, c.zip-binding-items.ensures.second, c.iter-2.ensures.rest) refl in
    let count : length c.loop-binding.yielded ≡ min (length c.args.bindings.now) (length c.args.parameters.now) = zip_end _ _ _ _ _ c.next.new.self _ first second c.loop-binding.yielded_by c.in-None.is c.next.ensures.steps in
    values_done c.args.fuel c.args.levels (scope_of c.args.self.now.scope) c.args.bindings.now c.args.parameters.now (length c.loop-binding.yielded) c.loop-binding.made.items (world_of c.loop-binding.self.world) _ count c.loop-binding.invariant.follows

pub make_defaults-loop-optional-init : goal.make_defaults-loop-optional-init
make_defaults-loop-optional-init t c =
    record { follows = optionals_start c.new-made.result.items _ c.new-made.ensures.items; extends = stays (scope_of c.args.self.now.scope); keeps = keeps_same c.args.self.now.world }

pub make_defaults-loop-optional-preserved : goal.make_defaults-loop-optional-preserved
make_defaults-loop-optional-preserved t c =
    let start = c.into_iter-optional-iterator.result in
    let first : iter_rest (zip_first start) ≡ c.args.optionals.now = rw (c.into_iter-optional-iterator.ensures.into_iter_gives, c.zip-optional-items.ensures.first, c.iter.ensures.rest) refl in
    let second : iter_rest (zip_second start) ≡ c.args.parameters.now = rw (c.into_iter-optional-iterator.ensures.into_iter_gives, c.zip-optional-items.ensures.second, c.iter-2.ensures.rest) refl in
    let turn = zip_turn c.args.optionals.now c.args.parameters.now c.loop-optional.yielded start c.loop-optional.optional-iterator c.next.new.self c.next.result first second c.loop-optional.yielded_by _ c.in-Some.is c.next.ensures.steps in
    let u = world_of c.make.new.self.world in
    let next = scope_of c.add_optional.new.self in
    record {
      follows =
          ap (λ (n : ℕ). before_optionals c.push.new.self.items (defaults (make c.args.fuel c.args.levels) next (optionals_beside (map optional_of (drop n c.args.optionals.now)) (map pair_of (drop n c.args.parameters.now))) u)) (length_push c.loop-optional.yielded _)
          ∙ defaults_on c.args.fuel c.args.levels (scope_of c.loop-optional.self.scope) c.args.optionals.now c.args.parameters.now (length c.loop-optional.yielded) c.in-Some.optional.now c.in-Some.parameter.now c.loop-optional.made.items (world_of c.loop-optional.self.world) _ turn.0 turn.1 (turn.2 _) (turn.3 _) c.loop-optional.invariant.follows c.push.new.self.items _ u next c.in_ok-push.ensures.items c.in_ok-optional_part.ensures.parameter c.in_ok-optional_part.ensures.supplied
          (c.in_ok-default.ensures.follows ∙ ap (λ (e : Core'). gives (core_of e) u) (sym c.in_ok-optional_part.ensures.default))
          (c.in_ok-add_optional.ensures ∙ ap (λ (s : Scope). with_optional s (optional_of c.in-Some.optional.now) (pair_of c.in-Some.parameter.now)) c.in_ok-default.ensures.scope);
      extends = further (scope_of c.args.self.now.scope) (scope_of c.loop-optional.self.scope) next c.loop-optional.invariant.extends (extends_on (scope_of c.loop-optional.self.scope) (with_optional (scope_of c.loop-optional.self.scope) (optional_of c.in-Some.optional.now) (pair_of c.in-Some.parameter.now)) next (with_optional_extends (scope_of c.loop-optional.self.scope) (optional_of c.in-Some.optional.now) (pair_of c.in-Some.parameter.now)) (c.in_ok-add_optional.ensures ∙ ap (λ (s : Scope). with_optional s (optional_of c.in-Some.optional.now) (pair_of c.in-Some.parameter.now)) c.in_ok-default.ensures.scope));
      keeps = keeps_on c.args.self.now.world c.loop-optional.self.world c.make.new.self.world c.loop-optional.invariant.keeps c.in_ok-default.ensures.keeps;
    }

pub make_defaults-returns-in_err-default-clause-follows : goal.make_defaults-returns-in_err-default-clause-follows
make_defaults-returns-in_err-default-clause-follows t c =
    let start = c.into_iter-optional-iterator.result in
    let first : iter_rest (zip_first start) ≡ c.args.optionals.now = rw (c.into_iter-optional-iterator.ensures.into_iter_gives, c.zip-optional-items.ensures.first, c.iter.ensures.rest) refl in
    let second : iter_rest (zip_second start) ≡ c.args.parameters.now = rw (c.into_iter-optional-iterator.ensures.into_iter_gives, c.zip-optional-items.ensures.second, c.iter-2.ensures.rest) refl in
    let turn = zip_turn c.args.optionals.now c.args.parameters.now c.loop-optional.yielded start c.loop-optional.optional-iterator c.next.new.self c.next.result first second c.loop-optional.yielded_by _ c.in-Some.is c.next.ensures.steps in
    let p = err_from_is_err_and c.from_residual.result c.from_residual.ensures.1 in
    rw (p.1, p.2) (defaults_fails c.args.fuel c.args.levels (scope_of c.loop-optional.self.scope) c.args.optionals.now c.args.parameters.now (length c.loop-optional.yielded) c.in-Some.optional.now c.in-Some.parameter.now c.loop-optional.made.items (world_of c.loop-optional.self.world) _ turn.0 turn.1 (turn.2 _) (turn.3 _) c.loop-optional.invariant.follows c.in_err-default.field-0.0 c.in_err-default.ensures.follows)

pub make_defaults-returns-clause-follows : goal.make_defaults-returns-clause-follows
make_defaults-returns-clause-follows t c =
    let start = c.into_iter-optional-iterator.result in
    let first : iter_rest (zip_first start) ≡ c.args.optionals.now = rw (c.into_iter-optional-iterator.ensures.into_iter_gives, c.zip-optional-items.ensures.first, c.iter.ensures.rest) refl in
    let second : iter_rest (zip_second start) ≡ c.args.parameters.now = rw (c.into_iter-optional-iterator.ensures.into_iter_gives, c.zip-optional-items.ensures.second, c.iter-2.ensures.rest) refl in
    let count : length c.loop-optional.yielded ≡ min (length c.args.optionals.now) (length c.args.parameters.now) = zip_end _ _ _ _ _ c.next.new.self _ first second c.loop-optional.yielded_by c.in-None.is c.next.ensures.steps in
    defaults_done c.args.fuel c.args.levels (scope_of c.loop-optional.self.scope) c.args.optionals.now c.args.parameters.now (length c.loop-optional.yielded) c.loop-optional.made.items (world_of c.loop-optional.self.world) _ count c.loop-optional.invariant.follows

pub make_function-returns-in_err-begun-clause-follows : goal.make_function-returns-in_err-begun-clause-follows
make_function-returns-in_err-begun-clause-follows t c =
    let p = err_from_is_err_and c.from_residual.result c.from_residual.ensures.1 in
    rw (p.1, p.2) (function_refused c.args.levels (make c.args.fuel) (scope_of c.args.self.now.scope) (sketch_of c.args.function.now.body.value) (map binder_of c.args.function.now.required.items) (map optional_of c.args.function.now.optional.items) (option_map binder_of c.args.function.now.rest) (world_of c.args.self.now.world) c.in_err-begun.field-0.0 c.in_err-begun.ensures.follows)

pub make_function-returns-in_err-optional-clause-follows : goal.make_function-returns-in_err-optional-clause-follows
make_function-returns-in_err-optional-clause-follows t c =
    let b = beginning_from (function_from c.args.function.now) c.in_ok-begun.begun in
    let own = scope_of c.add_required.new.self in
    let is : own ≡ with_all (scope_of c.args.self.now.scope) b.required = rw (c.in_ok-add_required.ensures, c.deref.ensures.value, c.deref-2.ensures.value) refl in
    let os = optionals_beside (map optional_of c.deref-3.result.now) (map pair_of c.deref-4.result.now) in
    let those : os ≡ b.optional = rw (c.deref-3.ensures.value, c.deref-4.ensures.value) refl in
    let p = err_from_is_err_and c.from_residual-in_err-optional.result c.from_residual-in_err-optional.ensures.1 in
    rw (p.1, p.2) (function_defaults c.args.levels (make c.args.fuel) (scope_of c.args.self.now.scope) (sketch_of c.args.function.now.body.value) (map binder_of c.args.function.now.required.items) (map optional_of c.args.function.now.optional.items) (option_map binder_of c.args.function.now.rest) (world_of c.args.self.now.world) b (world_of c.begin_function.new.self) own os c.in_ok-begun.ensures.follows is those c.in_err-optional.field-0.0 (subst (λ (n : ℕ). Refuses (defaults (make c.args.fuel n) own os (world_of c.begin_function.new.self)) c.in_err-optional.field-0.0) c.inside-levels.ensures c.in_err-optional.ensures.follows))

pub make_function-returns-in_err-body-clause-follows : goal.make_function-returns-in_err-body-clause-follows
make_function-returns-in_err-body-clause-follows t c =
    let b = beginning_from (function_from c.args.function.now) c.in_ok-begun.begun in
    let own = scope_of c.add_required.new.self in
    let is : own ≡ with_all (scope_of c.args.self.now.scope) b.required = rw (c.in_ok-add_required.ensures, c.deref.ensures.value, c.deref-2.ensures.value) refl in
    let os = optionals_beside (map optional_of c.deref-3.result.now) (map pair_of c.deref-4.result.now) in
    let those : os ≡ b.optional = rw (c.deref-3.ensures.value, c.deref-4.ensures.value) refl in
    let last = scope_of c.make_defaults.new.self.scope in
    let within = scope_of c.add_some.new.self in
    let made = optionals_list c.in_ok-optional.optional.items in
    let v = world_of c.make_defaults.new.self.world in
    let defaulted : defaults (make c.args.fuel (inside c.args.levels)) own os (world_of c.begin_function.new.self) ≡ gives (made, last) v =
    subst (λ (n : ℕ). defaults (make c.args.fuel n) own os (world_of c.begin_function.new.self) ≡ gives (made, last) v) c.inside-levels.ensures c.in_ok-optional.ensures.follows in
    let p = err_from_is_err_and c.from_residual-in_err-body.result c.from_residual-in_err-body.ensures.1 in
    rw (p.1, p.2) (function_body c.args.levels (make c.args.fuel) (scope_of c.args.self.now.scope) (sketch_of c.args.function.now.body.value) (map binder_of c.args.function.now.required.items) (map optional_of c.args.function.now.optional.items) (option_map binder_of c.args.function.now.rest) (world_of c.args.self.now.world) b (world_of c.begin_function.new.self) own os c.in_ok-begun.ensures.follows is those made last within v defaulted c.in_ok-add_some.ensures c.in_err-body.field-0.0 (subst (λ (n : ℕ). Refuses (make c.args.fuel n within (sketch_of c.args.function.now.body.value) v) c.in_err-body.field-0.0) c.inside-levels.ensures (subst (λ (x : Sketch'). Refuses (make c.args.fuel c.inside-levels.result within (sketch_of x) v) c.in_err-body.field-0.0) c.deref-5.ensures c.in_err-body.ensures.follows)))

pub make_function-returns-clause-follows : goal.make_function-returns-clause-follows
make_function-returns-clause-follows t c =
    let b = beginning_from (function_from c.args.function.now) c.in_ok-begun.begun in
    let own = scope_of c.add_required.new.self in
    let is : own ≡ with_all (scope_of c.args.self.now.scope) b.required = rw (c.in_ok-add_required.ensures, c.deref.ensures.value, c.deref-2.ensures.value) refl in
    let os = optionals_beside (map optional_of c.deref-3.result.now) (map pair_of c.deref-4.result.now) in
    let those : os ≡ b.optional = rw (c.deref-3.ensures.value, c.deref-4.ensures.value) refl in
    let last = scope_of c.make_defaults.new.self.scope in
    let within = scope_of c.add_some.new.self in
    let made = optionals_list c.in_ok-optional.optional.items in
    let v = world_of c.make_defaults.new.self.world in
    let defaulted : defaults (make c.args.fuel (inside c.args.levels)) own os (world_of c.begin_function.new.self) ≡ gives (made, last) v =
    subst (λ (n : ℕ). defaults (make c.args.fuel n) own os (world_of c.begin_function.new.self) ≡ gives (made, last) v) c.inside-levels.ensures c.in_ok-optional.ensures.follows in
    let z = world_of c.make.new.self.world in
    let read : lambda_of c.in_ok-complete.field-0 ≡ lambda b.number (parameters b.required) made (parameter_some b.rest) (core_of c.in_ok-body.body) =
    c.in_ok-complete.ensures
    ∙ (ap (λ (ps : List Parameter). lambda b.number ps made (option_map parameter_of c.in_ok-begun.begun.rest) (core_of c.in_ok-body.body)) (sym c.in_ok-begun.ensures.required)
    ∙ ap (λ (q : Option Parameter). lambda b.number (parameters b.required) made q (core_of c.in_ok-body.body)) (sym c.in_ok-begun.ensures.rest)) in
    function_gives c.args.levels (make c.args.fuel) (scope_of c.args.self.now.scope) (sketch_of c.args.function.now.body.value) (map binder_of c.args.function.now.required.items) (map optional_of c.args.function.now.optional.items) (option_map binder_of c.args.function.now.rest) (world_of c.args.self.now.world) b (world_of c.begin_function.new.self) own os c.in_ok-begun.ensures.follows is those made last within v defaulted c.in_ok-add_some.ensures (core_of c.in_ok-body.body) z (lambda_of c.in_ok-complete.field-0) (subst (λ (n : ℕ). make c.args.fuel n within (sketch_of c.args.function.now.body.value) v ≡ gives (core_of c.in_ok-body.body) z) c.inside-levels.ensures (subst (λ (x : Sketch'). make c.args.fuel c.inside-levels.result within (sketch_of x) v ≡ gives (core_of c.in_ok-body.body) z) c.deref-5.ensures c.in_ok-body.ensures.follows)) read

pub make_function-returns-clause-scope : goal.make_function-returns-clause-scope
make_function-returns-clause-scope t c =
    let b = beginning_from (function_from c.args.function.now) c.in_ok-begun.begun in
    let own = scope_of c.add_required.new.self in
    let is : own ≡ with_all (scope_of c.args.self.now.scope) b.required = rw (c.in_ok-add_required.ensures, c.deref.ensures.value, c.deref-2.ensures.value) refl in
    let os = optionals_beside (map optional_of c.deref-3.result.now) (map pair_of c.deref-4.result.now) in
    let those : os ≡ b.optional = rw (c.deref-3.ensures.value, c.deref-4.ensures.value) refl in
    let last = scope_of c.make_defaults.new.self.scope in
    let within = scope_of c.add_some.new.self in
    let first = extends_on (scope_of c.args.self.now.scope) (with_all (scope_of c.args.self.now.scope) b.required) own (with_all_extends (scope_of c.args.self.now.scope) b.required) is in
    let second = further (scope_of c.args.self.now.scope) own last first c.in_ok-optional.ensures.scope in
    let third = further (scope_of c.args.self.now.scope) last within second (extends_on last (with_some last b.rest) within (with_some_extends last b.rest) c.in_ok-add_some.ensures) in
    extends_on (scope_of c.args.self.now.scope) within (scope_of c.make.new.self.scope) third c.in_ok-body.ensures.scope

pub make_definition-returns-in_err-name-clause-follows : goal.make_definition-returns-in_err-name-clause-follows
make_definition-returns-in_err-name-clause-follows t c =
    let p = err_from_is_err_and c.from_residual.result c.from_residual.ensures.1 in
    rw (p.1, p.2) (definition_refused c.args.levels (make c.args.fuel) (scope_of c.args.self.now.scope) c.args.number c.args.value (world_of c.args.self.now.world) c.in_err-name.field-0.0 c.in_err-name.ensures.follows)

pub make_definition-returns-in_err-lambda-clause-follows : goal.make_definition-returns-in_err-lambda-clause-follows
make_definition-returns-in_err-lambda-clause-follows t c =
    let p = err_from_is_err_and c.from_residual-in_err-lambda.result c.from_residual-in_err-lambda.ensures.1 in
    rw (p.1, p.2) (definition_function c.args.levels (make c.args.fuel) (scope_of c.args.self.now.scope) c.args.number c.args.value (world_of c.args.self.now.world) c.in_ok-name.name (function_from c.in_ok-name.function) (scope_of c.read_definition.new.self.scope) (world_of c.read_definition.new.self.world) c.in_ok-name.ensures.follows c.in_err-lambda.field-0.0 c.in_err-lambda.ensures.follows)

pub make_definition-returns-clause-follows : goal.make_definition-returns-clause-follows
make_definition-returns-clause-follows t c =
    definition_gives c.args.levels (make c.args.fuel) (scope_of c.args.self.now.scope) c.args.number c.args.value (world_of c.args.self.now.world) c.in_ok-name.name (function_from c.in_ok-name.function) (scope_of c.read_definition.new.self.scope) (world_of c.read_definition.new.self.world) c.in_ok-name.ensures.follows (lambda_of c.in_ok-lambda.lambda) (world_of c.make_function.new.self.world) c.in_ok-lambda.ensures.follows
    ∙ ap (λ (d : Definition'). gives (definition_from d) (world_of c.make_function.new.self.world)) (sym (rolls-Definition' (record { place = c.read_definition.new.self.scope.place; number = c.args.number; name = c.in_ok-name.name; lambda = c.in_ok-lambda.lambda })))

pub make_definition-returns-clause-scope : goal.make_definition-returns-clause-scope
make_definition-returns-clause-scope t c =
    left (scope_of c.args.self.now.scope) (scope_of c.make_function.new.self.scope) (scope_of c.make_function.new.self.scope) (scope_of c.leave.new.self) c.mark-mark.result c.mark-mark.ensures
    (further (scope_of c.args.self.now.scope) (scope_of c.read_definition.new.self.scope) (scope_of c.make_function.new.self.scope) c.in_ok-name.ensures.extends c.in_ok-lambda.ensures.scope) refl c.leave.ensures

pub make_definitions-loop-value-init : goal.make_definitions-loop-value-init
make_definitions-loop-value-init t c =
    record { follows = definitions_start c.new-made.result.items _ c.new-made.ensures.items; scope = refl; keeps = keeps_same c.args.self.now.world }

pub make_definitions-loop-value-preserved : goal.make_definitions-loop-value-preserved
make_definitions-loop-value-preserved t c =
    record {
      follows = definitions_on c.args.fuel c.args.levels (scope_of c.args.self.now.scope) (scope_of c.loop-value.self.scope) c.loop-value.invariant.scope c.args.values.now c.loop-value.value-index (get_or c.args.values.now c.loop-value.value-index (Int (pos 0))) c.loop-value.number c.loop-value.made.items (world_of c.loop-value.self.world) _ c.loop-value-test.true (get_or_default c.args.values.now c.loop-value.value-index (Int (pos 0)) (get_or c.args.values.now c.loop-value.value-index (Int (pos 0))) c.loop-value-test.true) c.loop-value.invariant.follows c.push.new.self.items c.in_ok-make_definition.field-0 (world_of c.make_definition.new.self.world) c.in_ok-number.number c.in_ok-push.ensures.items c.in_ok-number.ensures c.in_ok-make_definition.ensures.follows;
      scope = c.in_ok-make_definition.ensures.scope ∙ c.loop-value.invariant.scope;
      keeps = keeps_on c.args.self.now.world c.loop-value.self.world c.make_definition.new.self.world c.loop-value.invariant.keeps c.in_ok-make_definition.ensures.keeps;
    }

pub make_definitions-returns-in_err-make_definition-clause-follows : goal.make_definitions-returns-in_err-make_definition-clause-follows
make_definitions-returns-in_err-make_definition-clause-follows t c =
    let p = err_from_is_err_and c.from_residual.result c.from_residual.ensures.1 in
    rw (p.1, p.2) (definitions_fails c.args.fuel c.args.levels (scope_of c.args.self.now.scope) (scope_of c.loop-value.self.scope) c.loop-value.invariant.scope c.args.values.now c.loop-value.value-index (get_or c.args.values.now c.loop-value.value-index (Int (pos 0))) c.loop-value.number c.loop-value.made.items (world_of c.loop-value.self.world) _ c.loop-value-test.true (get_or_default c.args.values.now c.loop-value.value-index (Int (pos 0)) (get_or c.args.values.now c.loop-value.value-index (Int (pos 0))) c.loop-value-test.true) c.loop-value.invariant.follows c.in_err-make_definition.field-0.0 c.in_err-make_definition.ensures.follows)

pub make_definitions-returns-clause-follows : goal.make_definitions-returns-clause-follows
make_definitions-returns-clause-follows t c =
    definitions_end c.args.levels (make c.args.fuel) (scope_of c.args.self.now.scope) c.loop-value.number c.args.values.now c.loop-value.value-index c.loop-value.made.items (world_of c.loop-value.self.world) _ c.loop-value-test.false c.loop-value.invariant.follows

pub make_items-loop-value-init : goal.make_items-loop-value-init
make_items-loop-value-init t c =
    record { follows = items_start c.new-made.result.items _ c.new-made.ensures.items; scope = refl; keeps = keeps_same c.args.self.now.world }

pub make_items-loop-value-preserved-then-is_tag : goal.make_items-loop-value-preserved-then-is_tag
make_items-loop-value-preserved-then-is_tag t c =
    record {
      follows = items_tagged c.args.fuel c.args.levels (scope_of c.args.self.now.scope) (scope_of c.loop-value.self.scope) c.loop-value.invariant.scope c.args.values.now c.loop-value.value-index _ c.loop-value.number c.loop-value.made.items (world_of c.loop-value.self.world) _ (drop_more _ _ _ c.loop-value-test.true) c.loop-value.invariant.follows c.push.new.self.items c.in_ok-number.number (sym c.is_tag.ensures ∙ c.if-is_tag.true) c.in_ok-push.ensures.items c.in_ok-number.ensures;
      scope = c.loop-value.invariant.scope;
      keeps = c.loop-value.invariant.keeps;
    }

pub make_items-loop-value-preserved : goal.make_items-loop-value-preserved
make_items-loop-value-preserved t c =
    record {
      follows = items_stepped c.args.fuel c.args.levels (scope_of c.args.self.now.scope) (scope_of c.loop-value.self.scope) c.loop-value.invariant.scope c.args.values.now c.loop-value.value-index _ c.loop-value.number c.loop-value.made.items (world_of c.loop-value.self.world) _ (drop_more _ _ _ c.loop-value-test.true) c.loop-value.invariant.follows c.push-in-loop-value.new.self.items _ c.in_ok-make.field-0 (world_of c.make.new.self.world) (sym c.is_tag.ensures ∙ c.if-is_tag.false) c.in_ok-push-2.ensures.items (λ rest. refl) c.in_ok-make.ensures.follows;
      scope = c.in_ok-make.ensures.scope ∙ c.loop-value.invariant.scope;
      keeps = keeps_on c.args.self.now.world c.loop-value.self.world c.make.new.self.world c.loop-value.invariant.keeps c.in_ok-make.ensures.keeps;
    }

pub make_items-returns-in_err-make-clause-follows : goal.make_items-returns-in_err-make-clause-follows
make_items-returns-in_err-make-clause-follows t c =
    let p = err_from_is_err_and c.from_residual-in_err-make.result c.from_residual-in_err-make.ensures.1 in
    rw (p.1, p.2) (items_fails c.args.fuel c.args.levels (scope_of c.args.self.now.scope) (scope_of c.loop-value.self.scope) c.loop-value.invariant.scope c.args.values.now c.loop-value.value-index _ c.loop-value.number c.loop-value.made.items (world_of c.loop-value.self.world) _ (drop_more _ _ _ c.loop-value-test.true) c.loop-value.invariant.follows c.in_err-make.field-0.0 (sym c.is_tag.ensures ∙ c.if-is_tag.false) c.in_err-make.ensures.follows)

pub make_items-returns-clause-follows : goal.make_items-returns-clause-follows
make_items-returns-clause-follows t c =
    items_done c.args.fuel c.args.levels (scope_of c.args.self.now.scope) c.args.values.now c.loop-value.value-index c.loop-value.number c.loop-value.made.items (world_of c.loop-value.self.world) _ c.loop-value-test.false c.loop-value.invariant.follows

pub make_functions-returns-in_err-number-clause-follows : goal.make_functions-returns-in_err-number-clause-follows
make_functions-returns-in_err-number-clause-follows t c =
    let p = err_from_is_err_and c.from_residual.result c.from_residual.ensures.1 in
    rw (p.1, p.2) (functions_refused c.args.levels (make c.args.fuel) (scope_of c.args.self.now.scope) c.args.reach c.args.definitions.now (sketch_of c.args.body.now) (world_of c.args.self.now.world) c.in_err-number.field-0.0 c.in_err-number.ensures.follows)

pub make_functions-returns-in_err-made-clause-follows : goal.make_functions-returns-in_err-made-clause-follows
make_functions-returns-in_err-made-clause-follows t c =
    let names = c.in_ok-number.names.items in
    let before = scope_of c.add_before.new.self in
    let is : before ≡ around_definitions c.args.reach (scope_of c.args.self.now.scope) (with_names names (scope_of c.args.self.now.scope)) = rw (c.in_ok-add_before.ensures, c.deref.ensures.value) refl in
    let u = world_of c.begin_functions.new.self in
    let p = err_from_is_err_and c.from_residual-in_err-made.result c.from_residual-in_err-made.ensures.1 in
    rw (p.1, p.2) (functions_definitions c.args.levels (make c.args.fuel) (scope_of c.args.self.now.scope) c.args.reach c.args.definitions.now (sketch_of c.args.body.now) (world_of c.args.self.now.world) c.in_ok-number.number names u before c.in_ok-number.ensures.follows is c.in_err-made.field-0.0 (subst (λ (n : ℕ). Refuses (definitions n (make c.args.fuel) before c.in_ok-number.number c.args.definitions.now u) c.in_err-made.field-0.0) c.inside-levels.ensures c.in_err-made.ensures.follows))

pub make_functions-returns-in_err-body-clause-follows : goal.make_functions-returns-in_err-body-clause-follows
make_functions-returns-in_err-body-clause-follows t c =
    let names = c.in_ok-number.names.items in
    let before = scope_of c.add_before.new.self in
    let is : before ≡ around_definitions c.args.reach (scope_of c.args.self.now.scope) (with_names names (scope_of c.args.self.now.scope)) = rw (c.in_ok-add_before.ensures, c.deref.ensures.value) refl in
    let u = world_of c.begin_functions.new.self in
    let ds = definitions_list c.in_ok-made.made.items in
    let v = world_of c.make_definitions.new.self.world in
    let within = scope_of c.add_after.new.self in
    let made : definitions (inside c.args.levels) (make c.args.fuel) before c.in_ok-number.number c.args.definitions.now u ≡ gives ds v =
    subst (λ (n : ℕ). definitions n (make c.args.fuel) before c.in_ok-number.number c.args.definitions.now u ≡ gives ds v) c.inside-levels.ensures c.in_ok-made.ensures.follows in
    let around : within ≡ with_names names (scope_of c.args.self.now.scope) =
    around_body c.args.reach names (scope_of c.args.self.now.scope) before (scope_of c.make_definitions.new.self.scope) within is c.in_ok-made.ensures.scope (rw (c.in_ok-add_after.ensures, c.deref-2.ensures.value) refl) in
    let p = err_from_is_err_and c.from_residual-in_err-body.result c.from_residual-in_err-body.ensures.1 in
    rw (p.1, p.2) (functions_body c.args.levels (make c.args.fuel) (scope_of c.args.self.now.scope) c.args.reach c.args.definitions.now (sketch_of c.args.body.now) (world_of c.args.self.now.world) c.in_ok-number.number names u before c.in_ok-number.ensures.follows is ds v within made around c.in_err-body.field-0.0 (subst (λ (n : ℕ). Refuses (make c.args.fuel n within (sketch_of c.args.body.now) v) c.in_err-body.field-0.0) c.inside-levels.ensures c.in_err-body.ensures.follows))

pub make_functions-returns-clause-follows : goal.make_functions-returns-clause-follows
make_functions-returns-clause-follows t c =
    let names = c.in_ok-number.names.items in
    let before = scope_of c.add_before.new.self in
    let is : before ≡ around_definitions c.args.reach (scope_of c.args.self.now.scope) (with_names names (scope_of c.args.self.now.scope)) = rw (c.in_ok-add_before.ensures, c.deref.ensures.value) refl in
    let u = world_of c.begin_functions.new.self in
    let ds = definitions_list c.in_ok-made.made.items in
    let v = world_of c.make_definitions.new.self.world in
    let within = scope_of c.add_after.new.self in
    let made : definitions (inside c.args.levels) (make c.args.fuel) before c.in_ok-number.number c.args.definitions.now u ≡ gives ds v =
    subst (λ (n : ℕ). definitions n (make c.args.fuel) before c.in_ok-number.number c.args.definitions.now u ≡ gives ds v) c.inside-levels.ensures c.in_ok-made.ensures.follows in
    let around : within ≡ with_names names (scope_of c.args.self.now.scope) =
    around_body c.args.reach names (scope_of c.args.self.now.scope) before (scope_of c.make_definitions.new.self.scope) within is c.in_ok-made.ensures.scope (rw (c.in_ok-add_after.ensures, c.deref-2.ensures.value) refl) in
    let z = world_of c.make.new.self.world in
    functions_give c.args.levels (make c.args.fuel) (scope_of c.args.self.now.scope) c.args.reach c.args.definitions.now (sketch_of c.args.body.now) (world_of c.args.self.now.world) c.in_ok-number.number names u before c.in_ok-number.ensures.follows is ds v within made around (core_of c.in_ok-body.body) z (core_of c.in_ok-functions_node.field-0) (subst (λ (n : ℕ). make c.args.fuel n within (sketch_of c.args.body.now) v ≡ gives (core_of c.in_ok-body.body) z) c.inside-levels.ensures c.in_ok-body.ensures.follows) c.in_ok-functions_node.ensures

pub make_functions-returns-clause-scope : goal.make_functions-returns-clause-scope
make_functions-returns-clause-scope t c =
    let names = c.in_ok-number.names.items in
    let before = scope_of c.add_before.new.self in
    let is : before ≡ around_definitions c.args.reach (scope_of c.args.self.now.scope) (with_names names (scope_of c.args.self.now.scope)) = rw (c.in_ok-add_before.ensures, c.deref.ensures.value) refl in
    let u = world_of c.begin_functions.new.self in
    let ds = definitions_list c.in_ok-made.made.items in
    let v = world_of c.make_definitions.new.self.world in
    let within = scope_of c.add_after.new.self in
    let made : definitions (inside c.args.levels) (make c.args.fuel) before c.in_ok-number.number c.args.definitions.now u ≡ gives ds v =
    subst (λ (n : ℕ). definitions n (make c.args.fuel) before c.in_ok-number.number c.args.definitions.now u ≡ gives ds v) c.inside-levels.ensures c.in_ok-made.ensures.follows in
    let around : within ≡ with_names names (scope_of c.args.self.now.scope) =
    around_body c.args.reach names (scope_of c.args.self.now.scope) before (scope_of c.make_definitions.new.self.scope) within is c.in_ok-made.ensures.scope (rw (c.in_ok-add_after.ensures, c.deref-2.ensures.value) refl) in
    extends_on (scope_of c.args.self.now.scope) (with_names names (scope_of c.args.self.now.scope)) (scope_of c.make.new.self.scope) (with_names_extends names (scope_of c.args.self.now.scope)) (c.in_ok-body.ensures.scope ∙ around)

pub make_recursive-returns-in_err-number-clause-follows : goal.make_recursive-returns-in_err-number-clause-follows
make_recursive-returns-in_err-number-clause-follows t c =
    let p = err_from_is_err_and c.from_residual.result c.from_residual.ensures.1 in
    rw (p.1, p.2) (recursive_refused c.args.levels (make c.args.fuel) (scope_of c.args.self.now.scope) c.args.name (function_from c.args.function.now) (world_of c.args.self.now.world) c.in_err-number.field-0.0 c.in_err-number.ensures.follows)

pub make_recursive-returns-in_err-lambda-clause-follows : goal.make_recursive-returns-in_err-lambda-clause-follows
make_recursive-returns-in_err-lambda-clause-follows t c =
    let p = err_from_is_err_and c.from_residual-in_err-lambda.result c.from_residual-in_err-lambda.ensures.1 in
    rw (p.1, p.2) (recursive_function c.args.levels (make c.args.fuel) (scope_of c.args.self.now.scope) c.args.name (function_from c.args.function.now) (world_of c.args.self.now.world) c.in_ok-number.number (world_of c.begin_numbers.new.self) (scope_of c.add_function.new.self) c.in_ok-number.ensures.follows c.in_ok-add_function.ensures c.in_err-lambda.field-0.0 (subst (λ (n : ℕ). Refuses (function_tree n (make c.args.fuel) (scope_of c.add_function.new.self) (function_from c.args.function.now) (world_of c.begin_numbers.new.self)) c.in_err-lambda.field-0.0) c.inside.ensures c.in_err-lambda.ensures.follows))

pub make_recursive-returns-in_err-begin-clause-follows : goal.make_recursive-returns-in_err-begin-clause-follows
make_recursive-returns-in_err-begin-clause-follows t c =
    let l = lambda_of c.in_ok-lambda.lambda in
    let v = world_of c.make_function.new.self.world in
    let back = scope_of c.leave.new.self in
    let last = scope_of c.make_function.new.self.scope in
    let made = subst (λ (n : ℕ). function_tree n (make c.args.fuel) (scope_of c.add_function.new.self) (function_from c.args.function.now) (world_of c.begin_numbers.new.self) ≡ gives l v) c.inside.ensures c.in_ok-lambda.ensures.follows in
    let same : back ≡ (scope_of c.args.self.now.scope) = left (scope_of c.args.self.now.scope) last last back c.mark-mark.result c.mark-mark.ensures
    (further (scope_of c.args.self.now.scope) (scope_of c.add_function.new.self) last (extends_on (scope_of c.args.self.now.scope) (with_function c.args.name c.in_ok-number.number (scope_of c.args.self.now.scope)) (scope_of c.add_function.new.self) (with_function_extends c.args.name c.in_ok-number.number (scope_of c.args.self.now.scope)) c.in_ok-add_function.ensures) c.in_ok-lambda.ensures.scope) refl c.leave.ensures in
    let p = err_from_is_err_and c.from_residual-in_err-begin.result c.from_residual-in_err-begin.ensures.1 in
    rw (p.1, p.2) (recursive_nested c.args.levels (make c.args.fuel) (scope_of c.args.self.now.scope) c.args.name (function_from c.args.function.now) (world_of c.args.self.now.world) c.in_ok-number.number (world_of c.begin_numbers.new.self) (scope_of c.add_function.new.self) c.in_ok-number.ensures.follows c.in_ok-add_function.ensures l v back made same c.in_err-begin.field-0.0 (subst (λ (n : ℕ). Refuses (begin 1 n back v) c.in_err-begin.field-0.0) c.inside-2.ensures c.in_err-begin.ensures.follows))

pub make_recursive-returns-clause-follows : goal.make_recursive-returns-clause-follows
make_recursive-returns-clause-follows t c =
    let l = lambda_of c.in_ok-lambda.lambda in
    let v = world_of c.make_function.new.self.world in
    let back = scope_of c.leave.new.self in
    let last = scope_of c.make_function.new.self.scope in
    let made = subst (λ (n : ℕ). function_tree n (make c.args.fuel) (scope_of c.add_function.new.self) (function_from c.args.function.now) (world_of c.begin_numbers.new.self) ≡ gives l v) c.inside.ensures c.in_ok-lambda.ensures.follows in
    let same : back ≡ (scope_of c.args.self.now.scope) = left (scope_of c.args.self.now.scope) last last back c.mark-mark.result c.mark-mark.ensures
    (further (scope_of c.args.self.now.scope) (scope_of c.add_function.new.self) last (extends_on (scope_of c.args.self.now.scope) (with_function c.args.name c.in_ok-number.number (scope_of c.args.self.now.scope)) (scope_of c.add_function.new.self) (with_function_extends c.args.name c.in_ok-number.number (scope_of c.args.self.now.scope)) c.in_ok-add_function.ensures) c.in_ok-lambda.ensures.scope) refl c.leave.ensures in
    let z = world_of c.begin.new.self in
    recursive_gives c.args.levels (make c.args.fuel) (scope_of c.args.self.now.scope) c.args.name (function_from c.args.function.now) (world_of c.args.self.now.world) c.in_ok-number.number (world_of c.begin_numbers.new.self) (scope_of c.add_function.new.self) c.in_ok-number.ensures.follows c.in_ok-add_function.ensures l v back made same z (subst (λ (n : ℕ). begin 1 n back v ≡ gives tt z) c.inside-2.ensures c.in_ok-begin.ensures.follows)
    ∙ ap (λ (e : Core). gives e z) (sym (c.in_ok-recursive_node.ensures ∙ ap (λ (s : Scope). tree.Labels s.place (define s.place c.in_ok-number.number c.args.name l no_definition) (tree.FunLocal s.place c.in_ok-number.number)) same))

pub make_recursive-returns-clause-scope : goal.make_recursive-returns-clause-scope
make_recursive-returns-clause-scope t c =
    let l = lambda_of c.in_ok-lambda.lambda in
    let v = world_of c.make_function.new.self.world in
    let back = scope_of c.leave.new.self in
    let last = scope_of c.make_function.new.self.scope in
    let made = subst (λ (n : ℕ). function_tree n (make c.args.fuel) (scope_of c.add_function.new.self) (function_from c.args.function.now) (world_of c.begin_numbers.new.self) ≡ gives l v) c.inside.ensures c.in_ok-lambda.ensures.follows in
    let same : back ≡ (scope_of c.args.self.now.scope) = left (scope_of c.args.self.now.scope) last last back c.mark-mark.result c.mark-mark.ensures
    (further (scope_of c.args.self.now.scope) (scope_of c.add_function.new.self) last (extends_on (scope_of c.args.self.now.scope) (with_function c.args.name c.in_ok-number.number (scope_of c.args.self.now.scope)) (scope_of c.add_function.new.self) (with_function_extends c.args.name c.in_ok-number.number (scope_of c.args.self.now.scope)) c.in_ok-add_function.ensures) c.in_ok-lambda.ensures.scope) refl c.leave.ensures in
    same

pub make_bind-returns-in_err-parameters-clause-follows : goal.make_bind-returns-in_err-parameters-clause-follows
make_bind-returns-in_err-parameters-clause-follows t c =
    let p = err_from_is_err_and c.from_residual.result c.from_residual.ensures.1 in
    rw (p.1, p.2) (bind_refused c.args.levels (make c.args.fuel) (scope_of c.args.self.now.scope) (map initial_of c.args.bindings.now) (sketch_of c.args.body.now) (world_of c.args.self.now.world) c.in_err-parameters.field-0.0 c.in_err-parameters.ensures.follows)

pub make_bind-returns-in_err-values-clause-follows : goal.make_bind-returns-in_err-values-clause-follows
make_bind-returns-in_err-values-clause-follows t c =
    let ps = initials_beside (map initial_of c.args.bindings.now) (map parameter_of c.in_ok-parameters.parameters.items) in
    let u = world_of c.begin_bindings.new.self in
    let p = err_from_is_err_and c.from_residual-in_err-values.result c.from_residual-in_err-values.ensures.1 in
    rw (p.1, p.2) (bind_values_refused c.args.levels (make c.args.fuel) (scope_of c.args.self.now.scope) (map initial_of c.args.bindings.now) (sketch_of c.args.body.now) (world_of c.args.self.now.world) ps u c.in_ok-parameters.ensures.follows c.in_err-values.field-0.0 (subst (λ (n : ℕ). Refuses (values_bound (make c.args.fuel n (scope_of c.args.self.now.scope)) (initials_beside (map initial_of c.args.bindings.now) (map parameter_of c.in_ok-parameters.parameters.items)) u) c.in_err-values.field-0.0) c.inside.ensures (subst (λ (ps' : List Parameter'). Refuses (values_bound (make c.args.fuel c.inside.result (scope_of c.args.self.now.scope)) (initials_beside (map initial_of c.args.bindings.now) (map parameter_of ps')) u) c.in_err-values.field-0.0) c.deref.ensures.value c.in_err-values.ensures.follows)))

pub make_bind-returns-in_err-body-clause-follows : goal.make_bind-returns-in_err-body-clause-follows
make_bind-returns-in_err-body-clause-follows t c =
    let ps = initials_beside (map initial_of c.args.bindings.now) (map parameter_of c.in_ok-parameters.parameters.items) in
    let u = world_of c.begin_bindings.new.self in
    let values = bindings_list c.in_ok-values.values.items in
    let v = world_of c.make_values.new.self.world in
    let within = scope_of c.add_initials.new.self in
    let made = subst (λ (n : ℕ). values_bound (make c.args.fuel n (scope_of c.args.self.now.scope)) (initials_beside (map initial_of c.args.bindings.now) (map parameter_of c.in_ok-parameters.parameters.items)) u ≡ gives values v) c.inside.ensures (subst (λ (ps' : List Parameter'). values_bound (make c.args.fuel c.inside.result (scope_of c.args.self.now.scope)) (initials_beside (map initial_of c.args.bindings.now) (map parameter_of ps')) u ≡ gives values v) c.deref.ensures.value c.in_ok-values.ensures.follows) in
    let around : within ≡ with_all (scope_of c.args.self.now.scope) (bounds_of ps) =
    c.in_ok-add_initials.ensures
    ∙ (ap (λ (ps' : List Parameter'). with_all (scope_of c.make_values.new.self.scope) (bounds_of (initials_beside (map initial_of c.args.bindings.now) (map parameter_of ps')))) c.deref-2.ensures.value
    ∙ ap (λ (s : Scope). with_all s (bounds_of ps)) c.in_ok-values.ensures.scope) in
    let p = err_from_is_err_and c.from_residual-in_err-body.result c.from_residual-in_err-body.ensures.1 in
    rw (p.1, p.2) (bind_body_refused c.args.levels (make c.args.fuel) (scope_of c.args.self.now.scope) (map initial_of c.args.bindings.now) (sketch_of c.args.body.now) (world_of c.args.self.now.world) ps u c.in_ok-parameters.ensures.follows values v within made around c.in_err-body.field-0.0 (subst (λ (n : ℕ). Refuses (make c.args.fuel n within (sketch_of c.args.body.now) v) c.in_err-body.field-0.0) c.inside-2.ensures c.in_err-body.ensures.follows))

pub make_bind-returns-clause-follows : goal.make_bind-returns-clause-follows
make_bind-returns-clause-follows t c =
    let ps = initials_beside (map initial_of c.args.bindings.now) (map parameter_of c.in_ok-parameters.parameters.items) in
    let u = world_of c.begin_bindings.new.self in
    let values = bindings_list c.in_ok-values.values.items in
    let v = world_of c.make_values.new.self.world in
    let within = scope_of c.add_initials.new.self in
    let made = subst (λ (n : ℕ). values_bound (make c.args.fuel n (scope_of c.args.self.now.scope)) (initials_beside (map initial_of c.args.bindings.now) (map parameter_of c.in_ok-parameters.parameters.items)) u ≡ gives values v) c.inside.ensures (subst (λ (ps' : List Parameter'). values_bound (make c.args.fuel c.inside.result (scope_of c.args.self.now.scope)) (initials_beside (map initial_of c.args.bindings.now) (map parameter_of ps')) u ≡ gives values v) c.deref.ensures.value c.in_ok-values.ensures.follows) in
    let around : within ≡ with_all (scope_of c.args.self.now.scope) (bounds_of ps) =
    c.in_ok-add_initials.ensures
    ∙ (ap (λ (ps' : List Parameter'). with_all (scope_of c.make_values.new.self.scope) (bounds_of (initials_beside (map initial_of c.args.bindings.now) (map parameter_of ps')))) c.deref-2.ensures.value
    ∙ ap (λ (s : Scope). with_all s (bounds_of ps)) c.in_ok-values.ensures.scope) in
    let z = world_of c.make.new.self.world in
    bind_gives c.args.levels (make c.args.fuel) (scope_of c.args.self.now.scope) (map initial_of c.args.bindings.now) (sketch_of c.args.body.now) (world_of c.args.self.now.world) ps u c.in_ok-parameters.ensures.follows values v within made around (core_of c.in_ok-body.body) z (core_of c.in_ok-binding_node.field-0) (subst (λ (n : ℕ). make c.args.fuel n within (sketch_of c.args.body.now) v ≡ gives (core_of c.in_ok-body.body) z) c.inside-2.ensures c.in_ok-body.ensures.follows) c.in_ok-binding_node.ensures

pub make_bind-returns-clause-scope : goal.make_bind-returns-clause-scope
make_bind-returns-clause-scope t c =
    let ps = initials_beside (map initial_of c.args.bindings.now) (map parameter_of c.in_ok-parameters.parameters.items) in
    let u = world_of c.begin_bindings.new.self in
    let values = bindings_list c.in_ok-values.values.items in
    let v = world_of c.make_values.new.self.world in
    let within = scope_of c.add_initials.new.self in
    let made = subst (λ (n : ℕ). values_bound (make c.args.fuel n (scope_of c.args.self.now.scope)) (initials_beside (map initial_of c.args.bindings.now) (map parameter_of c.in_ok-parameters.parameters.items)) u ≡ gives values v) c.inside.ensures (subst (λ (ps' : List Parameter'). values_bound (make c.args.fuel c.inside.result (scope_of c.args.self.now.scope)) (initials_beside (map initial_of c.args.bindings.now) (map parameter_of ps')) u ≡ gives values v) c.deref.ensures.value c.in_ok-values.ensures.follows) in
    let around : within ≡ with_all (scope_of c.args.self.now.scope) (bounds_of ps) =
    c.in_ok-add_initials.ensures
    ∙ (ap (λ (ps' : List Parameter'). with_all (scope_of c.make_values.new.self.scope) (bounds_of (initials_beside (map initial_of c.args.bindings.now) (map parameter_of ps')))) c.deref-2.ensures.value
    ∙ ap (λ (s : Scope). with_all s (bounds_of ps)) c.in_ok-values.ensures.scope) in
    extends_on (scope_of c.args.self.now.scope) (with_all (scope_of c.args.self.now.scope) (bounds_of ps)) (scope_of c.make.new.self.scope) (with_all_extends (scope_of c.args.self.now.scope) (bounds_of ps)) (c.in_ok-body.ensures.scope ∙ around)

pub make_block-returns-in_err-number-clause-follows : goal.make_block-returns-in_err-number-clause-follows
make_block-returns-in_err-number-clause-follows t c =
    let p = err_from_is_err_and c.from_residual.result c.from_residual.ensures.1 in
    rw (p.1, p.2) (block_refused c.args.levels (make c.args.fuel) (scope_of c.args.self.now.scope) c.args.name (sketch_of c.args.body.now) (world_of c.args.self.now.world) c.in_err-number.field-0.0 c.in_err-number.ensures.follows)

pub make_block-returns-in_err-body-clause-follows : goal.make_block-returns-in_err-body-clause-follows
make_block-returns-in_err-body-clause-follows t c =
    let p = err_from_is_err_and c.from_residual-in_err-body.result c.from_residual-in_err-body.ensures.1 in
    rw (p.1, p.2) (block_body_refused c.args.levels (make c.args.fuel) (scope_of c.args.self.now.scope) c.args.name (sketch_of c.args.body.now) (world_of c.args.self.now.world) c.in_ok-number.number (world_of c.begin_numbers.new.self) (scope_of c.add_block.new.self) c.in_ok-number.ensures.follows c.in_ok-add_block.ensures c.in_err-body.field-0.0 (subst (λ (n : ℕ). Refuses (make c.args.fuel n (scope_of c.add_block.new.self) (sketch_of c.args.body.now) (world_of c.begin_numbers.new.self)) c.in_err-body.field-0.0) c.inside.ensures c.in_err-body.ensures.follows))

pub make_block-returns-clause-follows : goal.make_block-returns-clause-follows
make_block-returns-clause-follows t c =
    let z = world_of c.make.new.self.world in
    block_gives c.args.levels (make c.args.fuel) (scope_of c.args.self.now.scope) c.args.name (sketch_of c.args.body.now) (world_of c.args.self.now.world) c.in_ok-number.number (world_of c.begin_numbers.new.self) (scope_of c.add_block.new.self) c.in_ok-number.ensures.follows c.in_ok-add_block.ensures (core_of c.in_ok-body.body) z (core_of c.in_ok-block_node.field-0) (subst (λ (n : ℕ). make c.args.fuel n (scope_of c.add_block.new.self) (sketch_of c.args.body.now) (world_of c.begin_numbers.new.self) ≡ gives (core_of c.in_ok-body.body) z) c.inside.ensures c.in_ok-body.ensures.follows) c.in_ok-block_node.ensures

pub make_block-returns-clause-scope : goal.make_block-returns-clause-scope
make_block-returns-clause-scope t c =
    extends_on (scope_of c.args.self.now.scope) (with_block c.args.name c.in_ok-number.number (scope_of c.args.self.now.scope)) (scope_of c.make.new.self.scope) (with_block_extends c.args.name c.in_ok-number.number (scope_of c.args.self.now.scope)) (c.in_ok-body.ensures.scope ∙ c.in_ok-add_block.ensures)

pub make_tagbody-returns-in_err-number-clause-follows : goal.make_tagbody-returns-in_err-number-clause-follows
make_tagbody-returns-in_err-number-clause-follows t c =
    let p = err_from_is_err_and c.from_residual.result c.from_residual.ensures.1 in
    rw (p.1, p.2) (tagbody_refused c.args.levels (make c.args.fuel) (scope_of c.args.self.now.scope) c.args.values.now (world_of c.args.self.now.world) c.in_err-number.field-0.0 c.in_err-number.ensures.follows)

pub make_tagbody-returns-in_err-items-clause-follows : goal.make_tagbody-returns-in_err-items-clause-follows
make_tagbody-returns-in_err-items-clause-follows t c =
    let p = err_from_is_err_and c.from_residual-in_err-items.result c.from_residual-in_err-items.ensures.1 in
    rw (p.1, p.2) (tagbody_items_refused c.args.levels (make c.args.fuel) (scope_of c.args.self.now.scope) c.args.values.now (world_of c.args.self.now.world) c.in_ok-number.number (world_of c.begin_tags.new.self) (scope_of c.add_tags.new.self) c.in_ok-number.ensures.follows c.in_ok-add_tags.ensures c.in_err-items.field-0.0 (subst (λ (n : ℕ). Refuses (items (make c.args.fuel n (scope_of c.add_tags.new.self)) c.in_ok-number.number c.args.values.now (world_of c.begin_tags.new.self)) c.in_err-items.field-0.0) c.inside.ensures c.in_err-items.ensures.follows))

pub make_tagbody-returns-clause-follows : goal.make_tagbody-returns-clause-follows
make_tagbody-returns-clause-follows t c =
    let z = world_of c.make_items.new.self.world in
    tagbody_gives c.args.levels (make c.args.fuel) (scope_of c.args.self.now.scope) c.args.values.now (world_of c.args.self.now.world) c.in_ok-number.number (world_of c.begin_tags.new.self) (scope_of c.add_tags.new.self) c.in_ok-number.ensures.follows c.in_ok-add_tags.ensures (items_list c.in_ok-items.items.items) z (core_of c.tagbody_node.result) (subst (λ (n : ℕ). items (make c.args.fuel n (scope_of c.add_tags.new.self)) c.in_ok-number.number c.args.values.now (world_of c.begin_tags.new.self) ≡ gives (items_list c.in_ok-items.items.items) z) c.inside.ensures c.in_ok-items.ensures.follows) c.tagbody_node.ensures

pub make_tagbody-returns-clause-scope : goal.make_tagbody-returns-clause-scope
make_tagbody-returns-clause-scope t c =
    extends_on (scope_of c.args.self.now.scope) (with_tags c.in_ok-number.number c.args.values.now (scope_of c.args.self.now.scope)) (scope_of c.make_items.new.self.scope) (with_tags_extends c.in_ok-number.number c.args.values.now (scope_of c.args.self.now.scope)) (c.in_ok-items.ensures.scope ∙ c.in_ok-add_tags.ensures)

pub make_form-returns-in_err-led-clause-follows : goal.make_form-returns-in_err-led-clause-follows
make_form-returns-in_err-led-clause-follows t c =
    let p = err_from_is_err_and c.from_residual.result c.from_residual.ensures.1 in
    rw (p.1, p.2) (form_refused c.args.fuel c.args.levels (scope_of c.args.self.now.scope) c.args.form (world_of c.args.self.now.world) c.in_err-led.field-0.0 c.in_err-led.ensures.follows)

pub make_form-returns-clause-follows : goal.make_form-returns-clause-follows
make_form-returns-clause-follows t c =
    form_follows c.args.fuel c.args.levels (scope_of c.args.self.now.scope) c.args.form (world_of c.args.self.now.world) core_of c.in_ok-led.led.fuel (scope_of c.lead.new.self.scope) (sketch_of c.in_ok-led.led.sketch) (world_of c.lead.new.self.world) c.make.result (world_of c.make.new.self.world) c.in_ok-led.ensures.follows c.make.ensures.follows

pub make_assigned-returns-clause-follows : goal.make_assigned-returns-clause-follows
make_assigned-returns-clause-follows t c =
    sketch_as c.args.fuel c.args.levels (scope_of c.args.self.now.scope) (world_of c.args.self.now.world) (assign c.args.name c.args.value) c.make.result (world_of c.make.new.self.world) (assign c.args.name c.args.value) _
    refl
    (assign_is c.args.fuel c.args.levels (scope_of c.args.self.now.scope) (world_of c.args.self.now.world) c.args.name c.args.value (sketch_of c.in_ok-sketch.sketch) c.in_ok-sketch.ensures) c.make.ensures.follows

pub make_value-returns-in_err-lambda-clause-follows : goal.make_value-returns-in_err-lambda-clause-follows
make_value-returns-in_err-lambda-clause-follows t c =
    let p = err_from_is_err_and c.from_residual.result c.from_residual.ensures.1 in
    rw (p.1, p.2) (value_refused c.args.fuel c.args.levels (scope_of c.args.self.now.scope) (function_from c.args.function.now) (world_of c.args.self.now.world) c.in_err-lambda.field-0.0 c.in_err-lambda.ensures.follows)

pub make_value-returns-clause-follows : goal.make_value-returns-clause-follows
make_value-returns-clause-follows t c =
    value_gives c.args.fuel c.args.levels (scope_of c.args.self.now.scope) (function_from c.args.function.now) (world_of c.args.self.now.world) (lambda_of c.in_ok-lambda.lambda) (world_of c.make_function.new.self.world) c.in_ok-lambda.ensures.follows
    ∙ ap (λ (e : Core). gives e (world_of c.make_function.new.self.world)) (sym c.function_node.ensures)

pub make_sketch-returns-in-Form-clause-follows : goal.make_sketch-returns-in-Form-clause-follows
make_sketch-returns-in-Form-clause-follows t c =
    sketch_as c.args.fuel c.args.levels (scope_of c.args.self.now.scope) (world_of c.args.self.now.world) (sketch_of c.args.sketch.now) c.make_form.result (world_of c.make_form.new.self.world) (form c.in-Form.form) _
    (ap (λ (x : Sketch'). sketch_of x) c.in-Form.is)
    refl c.make_form.ensures.follows

pub make_sketch-returns-in-Leaf-clause-follows : goal.make_sketch-returns-in-Leaf-clause-follows
make_sketch-returns-in-Leaf-clause-follows t c =
    sketch_as c.args.fuel c.args.levels (scope_of c.args.self.now.scope) (world_of c.args.self.now.world) (sketch_of c.args.sketch.now) c.make_leaf.result (world_of c.make_leaf.new.self.world) (leaf c.in-Leaf.leaf) _
    (ap (λ (x : Sketch'). sketch_of x) c.in-Leaf.is)
    (leaf_is c.args.fuel c.args.levels (scope_of c.args.self.now.scope) (world_of c.args.self.now.world) c.in-Leaf.leaf) c.make_leaf.ensures.follows

pub make_sketch-returns-in-One-clause-follows : goal.make_sketch-returns-in-One-clause-follows
make_sketch-returns-in-One-clause-follows t c =
    sketch_as c.args.fuel c.args.levels (scope_of c.args.self.now.scope) (world_of c.args.self.now.world) (sketch_of c.args.sketch.now) c.make_one.result (world_of c.make_one.new.self.world) (one (unary_of c.in-One.node) (sketch_of c.deref.result.now)) _
    (rw (c.in-One.is, c.deref.ensures) refl)
    refl c.make_one.ensures.follows

pub make_sketch-returns-in-Two-clause-follows : goal.make_sketch-returns-in-Two-clause-follows
make_sketch-returns-in-Two-clause-follows t c =
    sketch_as c.args.fuel c.args.levels (scope_of c.args.self.now.scope) (world_of c.args.self.now.world) (sketch_of c.args.sketch.now) c.make_two.result (world_of c.make_two.new.self.world) (two c.in-Two.node (sketch_of c.deref-in-Two.result.now) (sketch_of c.deref-in-Two-2.result.now)) _
    (rw (c.in-Two.is, c.deref-in-Two.ensures, c.deref-in-Two-2.ensures) refl)
    refl c.make_two.ensures.follows

pub make_sketch-returns-in-Choice-clause-follows : goal.make_sketch-returns-in-Choice-clause-follows
make_sketch-returns-in-Choice-clause-follows t c =
    sketch_as c.args.fuel c.args.levels (scope_of c.args.self.now.scope) (world_of c.args.self.now.world) (sketch_of c.args.sketch.now) c.make_choice.result (world_of c.make_choice.new.self.world) (choice (sketch_of c.deref-in-Choice.result.now) (sketch_of c.deref-in-Choice-2.result.now) (sketch_of c.deref-in-Choice-3.result.now)) _
    (rw (c.in-Choice.is, c.deref-in-Choice.ensures, c.deref-in-Choice-2.ensures, c.deref-in-Choice-3.ensures) refl)
    refl c.make_choice.ensures.follows

pub make_sketch-returns-in-Many-clause-follows : goal.make_sketch-returns-in-Many-clause-follows
make_sketch-returns-in-Many-clause-follows t c =
    sketch_as c.args.fuel c.args.levels (scope_of c.args.self.now.scope) (world_of c.args.self.now.world) (sketch_of c.args.sketch.now) c.make_many.result (world_of c.make_many.new.self.world) (many c.in-Many.node (sketches_list c.deref-in-Many.result.now)) _
    (ap (λ (x : Sketch'). sketch_of x) c.in-Many.is ∙ (reads_many c.in-Many.node c.in-Many.parts ∙ rw c.deref-in-Many.ensures.value refl))
    refl c.make_many.ensures.follows

pub make_sketch-returns-in-Calling-clause-follows : goal.make_sketch-returns-in-Calling-clause-follows
make_sketch-returns-in-Calling-clause-follows t c =
    sketch_as c.args.fuel c.args.levels (scope_of c.args.self.now.scope) (world_of c.args.self.now.world) (sketch_of c.args.sketch.now) c.make_calling.result (world_of c.make_calling.new.self.world) (calling c.in-Calling.node (sketch_of c.deref-in-Calling.result.now) (sketches_list c.deref-in-Calling-2.result.now)) _
    (ap (λ (x : Sketch'). sketch_of x) c.in-Calling.is ∙ (reads_calling c.in-Calling.node c.in-Calling.function c.in-Calling.parts ∙ rw (c.deref-in-Calling.ensures, c.deref-in-Calling-2.ensures.value) refl))
    refl c.make_calling.ensures.follows

pub make_sketch-returns-in-Bind-clause-follows : goal.make_sketch-returns-in-Bind-clause-follows
make_sketch-returns-in-Bind-clause-follows t c =
    sketch_as c.args.fuel c.args.levels (scope_of c.args.self.now.scope) (world_of c.args.self.now.world) (sketch_of c.args.sketch.now) c.make_bind.result (world_of c.make_bind.new.self.world) (bind (map initial_of c.deref-in-Bind.result.now) (sketch_of c.deref-in-Bind-2.result.now)) _
    (rw (c.in-Bind.is, c.deref-in-Bind.ensures.value, c.deref-in-Bind-2.ensures) refl)
    (bind_is c.args.fuel c.args.levels (scope_of c.args.self.now.scope) (world_of c.args.self.now.world) _ _) c.make_bind.ensures.follows

pub make_sketch-returns-in-Functions-clause-follows : goal.make_sketch-returns-in-Functions-clause-follows
make_sketch-returns-in-Functions-clause-follows t c =
    sketch_as c.args.fuel c.args.levels (scope_of c.args.self.now.scope) (world_of c.args.self.now.world) (sketch_of c.args.sketch.now) c.make_functions.result (world_of c.make_functions.new.self.world) (functions c.in-Functions.reach c.deref-in-Functions.result.now (sketch_of c.deref-in-Functions-2.result.now)) _
    (rw (c.in-Functions.is, c.deref-in-Functions.ensures.value, c.deref-in-Functions-2.ensures) refl)
    (functions_are c.args.fuel c.args.levels (scope_of c.args.self.now.scope) (world_of c.args.self.now.world) _ _ _) c.make_functions.ensures.follows

pub make_sketch-returns-in-Recursive-clause-follows : goal.make_sketch-returns-in-Recursive-clause-follows
make_sketch-returns-in-Recursive-clause-follows t c =
    sketch_as c.args.fuel c.args.levels (scope_of c.args.self.now.scope) (world_of c.args.self.now.world) (sketch_of c.args.sketch.now) c.make_recursive.result (world_of c.make_recursive.new.self.world) (recursive c.in-Recursive.name (function_from c.in-Recursive.function)) _
    (ap (λ (x : Sketch'). sketch_of x) c.in-Recursive.is)
    (recursive_is c.args.fuel c.args.levels (scope_of c.args.self.now.scope) (world_of c.args.self.now.world) c.in-Recursive.name (function_from c.in-Recursive.function)) c.make_recursive.ensures.follows

pub make_sketch-returns-in-Block-clause-follows : goal.make_sketch-returns-in-Block-clause-follows
make_sketch-returns-in-Block-clause-follows t c =
    sketch_as c.args.fuel c.args.levels (scope_of c.args.self.now.scope) (world_of c.args.self.now.world) (sketch_of c.args.sketch.now) c.make_block.result (world_of c.make_block.new.self.world) (block c.in-Block.name (sketch_of c.deref-in-Block.result.now)) _
    (rw (c.in-Block.is, c.deref-in-Block.ensures) refl)
    (block_is c.args.fuel c.args.levels (scope_of c.args.self.now.scope) (world_of c.args.self.now.world) _ _) c.make_block.ensures.follows

pub make_sketch-returns-in-Tagbody-clause-follows : goal.make_sketch-returns-in-Tagbody-clause-follows
make_sketch-returns-in-Tagbody-clause-follows t c =
    sketch_as c.args.fuel c.args.levels (scope_of c.args.self.now.scope) (world_of c.args.self.now.world) (sketch_of c.args.sketch.now) c.make_tagbody.result (world_of c.make_tagbody.new.self.world) (tagbody c.deref-in-Tagbody.result.now) _
    (rw (c.in-Tagbody.is, c.deref-in-Tagbody.ensures.value) refl)
    (tagbody_is c.args.fuel c.args.levels (scope_of c.args.self.now.scope) (world_of c.args.self.now.world) _) c.make_tagbody.ensures.follows

pub make_sketch-returns-in_ok-add_declared-in-Within-clause-follows : goal.make_sketch-returns-in_ok-add_declared-in-Within-clause-follows
make_sketch-returns-in_ok-add_declared-in-Within-clause-follows t c =
    sketch_as c.args.fuel c.args.levels (scope_of c.args.self.now.scope) (world_of c.args.self.now.world) (sketch_of c.args.sketch.now) c.make.result (world_of c.make.new.self.world) (within (declared_of c.in-Within.declared) (sketch_of c.deref-in-Within.result.now)) _
    (rw (c.in-Within.is, c.deref-in-Within.ensures) refl)
    (within_is c.args.fuel c.args.levels (scope_of c.args.self.now.scope) (world_of c.args.self.now.world) _ _ (scope_of c.add_declared.new.self) c.in_ok-add_declared-in-Within.ensures) c.make.ensures.follows

pub make_sketch-returns-in_ok-add_declared-in-Within-clause-scope : goal.make_sketch-returns-in_ok-add_declared-in-Within-clause-scope
make_sketch-returns-in_ok-add_declared-in-Within-clause-scope t c =
    within_extends (declared_of c.in-Within.declared) (scope_of c.args.self.now.scope) (scope_of c.add_declared.new.self) (scope_of c.make.new.self.scope) c.make.result c.in_ok-add_declared-in-Within.ensures c.make.ensures.scope

pub make_sketch-returns-in-Assign-clause-follows : goal.make_sketch-returns-in-Assign-clause-follows
make_sketch-returns-in-Assign-clause-follows t c =
    sketch_as c.args.fuel c.args.levels (scope_of c.args.self.now.scope) (world_of c.args.self.now.world) (sketch_of c.args.sketch.now) c.make_assigned.result (world_of c.make_assigned.new.self.world) (assign c.in-Assign.name c.in-Assign.value) _
    (rw c.in-Assign.is refl)
    refl c.make_assigned.ensures.follows

pub make_sketch-returns-in-Function-clause-follows : goal.make_sketch-returns-in-Function-clause-follows
make_sketch-returns-in-Function-clause-follows t c =
    sketch_as c.args.fuel c.args.levels (scope_of c.args.self.now.scope) (world_of c.args.self.now.world) (sketch_of c.args.sketch.now) c.make_value.result (world_of c.make_value.new.self.world) (function (function_from c.in-Function.function)) _
    (ap (λ (x : Sketch'). sketch_of x) c.in-Function.is)
    refl c.make_value.ensures.follows

pub make-returns-in_default-clause-follows : goal.make-returns-in_default-clause-follows
make-returns-in_default-clause-follows t c =
    let e : c.args.fuel ≡ 0 = grind arith in
    rw c.refusal.ensures (make_none c.args.levels (scope_of c.args.self.now.scope) (sketch_of c.args.sketch.now) (world_of c.args.self.now.world) c.args.fuel e)

pub make-returns-in_err-core-clause-follows : goal.make-returns-in_err-core-clause-follows
make-returns-in_err-core-clause-follows t c =
    let e : c.args.fuel ≡ suc c.in-Some.fuel = grind arith in
    let p = err_from_is_err_and c.from_residual.result c.from_residual.ensures.1 in
    rw (p.1, p.2) (make_refused c.args.levels (scope_of c.args.self.now.scope) (sketch_of c.args.sketch.now) (world_of c.args.self.now.world) c.args.fuel c.in-Some.fuel c.in_err-core.field-0.0 e c.in_err-core.ensures.follows)

pub make-returns-clause-follows : goal.make-returns-clause-follows
make-returns-clause-follows t c =
    let e : c.args.fuel ≡ suc c.in-Some.fuel = grind arith in
    make_gives c.args.levels (scope_of c.args.self.now.scope) (sketch_of c.args.sketch.now) (world_of c.args.self.now.world) c.args.fuel c.in-Some.fuel (core_of c.in_ok-core.core) (world_of c.make_sketch.new.self.world) e c.in_ok-core.ensures.follows

pub make-returns-clause-scope : goal.make-returns-clause-scope
make-returns-clause-scope t c =
    left (scope_of c.args.self.now.scope) (scope_of c.make_sketch.new.self.scope) (scope_of c.make_sketch.new.self.scope) (scope_of c.leave.new.self) c.mark-mark.result c.mark-mark.ensures c.in_ok-core.ensures.scope refl c.leave.ensures
