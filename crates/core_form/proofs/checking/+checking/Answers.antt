use Rattle.std.specs.Prelude.{[], nat_le, Option, Some, None, option_map}
use Rattle.core_form.specs.declared.tree.Parameter.{Parameter as Parameter'}
use Rattle.core_form.specs.declared.tree.Lambda.{out-Lambda}
use Rattle.std.proofs.Common.{ap, ◌∙◌}
use Rattle.core_form.specs.Reading.{parameter_of, cores_list, core_of}
use Rattle.core_form.specs.Primitives.{most_values}
use Rattle.core_form.specs.Tree.{lambda, cores_length}
use Rattle.core_form.specs.Facts.{binding_parameters}
use Rattle.core_form.specs.Checked.{with_variables, with_functions, with_tags, parameter_numbers, function_numbers, tag_numbers, are_checked, few_enough, values_checked, definitions_checked, items_checked, is_checked, optionals_checked, in_body, operation_takes}
use Rattle.core_form.specs.ListReading.{parameters_list, bindings_list, optionals_list, definitions_list, items_list}
use Rattle.core_form.specs.Checking.{scope_of}
use Rattle.core_form.proofs.ReadingLemmas.{reads_progn, reads_primitive}
use Rattle.core_form.proofs.NodeReading.{reads_let, reads_labels, reads_call_local, reads_call_global, reads_funcall, reads_apply, reads_mv_call, reads_tagbody, reads_values, reads_lambda}
use Rattle.core_form.proofs.NodeChecks.{by_form, by_forms, by_lambda, by_list, by_both, by_three, then_both, not_both, false_both, optional_passed}
use Rattle.core_form.proofs.checking.+checking.Goals as goal

pub is_checked-returns-in-Progn : goal.is_checked-returns-in-Progn
is_checked-returns-in-Progn t c =
    let sc = scope_of c.args.scope.now in
    by_form sc c.args.core.now _ _ _ c.in-Progn.is (reads_progn _ c.in-Progn.parts)
    (by_list (λ xs. are_checked sc (cores_list xs)) _ _ _ c.deref-in-Progn.ensures.value c.are_checked.ensures)

pub is_checked-returns-then-are_few_values : goal.is_checked-returns-then-are_few_values
is_checked-returns-then-are_few_values t c =
    let sc = scope_of c.args.scope.now in
    by_form sc c.args.core.now _ _ _ c.in-Values.is (reads_values _ c.in-Values.parts)
    (then_both _ _ _ _ (by_list (λ xs. nat_le (cores_length (cores_list xs)) most_values) _ _ _ c.deref-in-Values.ensures.value c.are_few_values.ensures) c.if-are_few_values.true
    (by_list (λ xs. are_checked sc (cores_list xs)) _ _ _ c.deref-then-are_few_values.ensures.value c.are_checked-then-are_few_values.ensures))

pub is_checked-returns-else-are_few_values : goal.is_checked-returns-else-are_few_values
is_checked-returns-else-are_few_values t c =
    let sc = scope_of c.args.scope.now in
    by_form sc c.args.core.now _ _ _ c.in-Values.is (reads_values _ c.in-Values.parts)
    (not_both _ _ (are_checked sc (cores_list c.in-Values.parts.items)) (by_list (λ xs. nat_le (cores_length (cores_list xs)) most_values) _ _ _ c.deref-in-Values.ensures.value c.are_few_values.ensures) c.if-are_few_values.false)

pub is_checked-returns-then-are_few : goal.is_checked-returns-then-are_few
is_checked-returns-then-are_few t c =
    let sc = scope_of c.args.scope.now in
    by_form sc c.args.core.now _ _ _ c.in-CallGlobal.is (reads_call_global _ c.in-CallGlobal.field-0 c.in-CallGlobal.parts)
    (then_both _ _ _ _ (by_list (λ xs. few_enough (cores_list xs)) _ _ _ c.deref-in-CallGlobal.ensures.value c.are_few.ensures) c.if-are_few.true
    (by_list (λ xs. are_checked sc (cores_list xs)) _ _ _ c.deref-then-are_few.ensures.value c.are_checked-then-are_few.ensures))

pub is_checked-returns-else-are_few : goal.is_checked-returns-else-are_few
is_checked-returns-else-are_few t c =
    let sc = scope_of c.args.scope.now in
    by_form sc c.args.core.now _ _ _ c.in-CallGlobal.is (reads_call_global _ c.in-CallGlobal.field-0 c.in-CallGlobal.parts)
    (not_both _ _ (are_checked sc (cores_list c.in-CallGlobal.parts.items)) (by_list (λ xs. few_enough (cores_list xs)) _ _ _ c.deref-in-CallGlobal.ensures.value c.are_few.ensures) c.if-are_few.false)

pub is_checked-returns-then-is_checked-3 : goal.is_checked-returns-then-is_checked-3
is_checked-returns-then-is_checked-3 t c =
    let sc = scope_of c.args.scope.now in
    by_form sc c.args.core.now _ _ _ c.in-MvCall.is (reads_mv_call _ c.in-MvCall.function c.in-MvCall.parts)
    (then_both _ _ _ _ (c.is_checked-in-MvCall.ensures ∙ ap (λ x. is_checked sc (core_of x)) c.deref-in-MvCall.ensures) c.if-is_checked-3.true
    (by_list (λ xs. are_checked sc (cores_list xs)) _ _ _ c.deref-then-is_checked-3.ensures.value c.are_checked-then-is_checked-3.ensures))

pub is_checked-returns-then-takes : goal.is_checked-returns-then-takes
is_checked-returns-then-takes t c =
    let sc = scope_of c.args.scope.now in
    by_form sc c.args.core.now _ _ _ c.in-Primitive.is (reads_primitive _ c.in-Primitive.operation c.in-Primitive.parts)
    (then_both _ _ _ _ (by_list (λ xs. operation_takes c.in-Primitive.operation (cores_length (cores_list xs))) _ _ _ c.deref-in-Primitive.ensures.value c.takes.ensures) c.if-takes.true
    (by_list (λ xs. are_checked sc (cores_list xs)) _ _ _ c.deref-then-takes.ensures.value c.are_checked-then-takes.ensures))

pub is_checked-returns-else-takes : goal.is_checked-returns-else-takes
is_checked-returns-else-takes t c =
    let sc = scope_of c.args.scope.now in
    by_form sc c.args.core.now _ _ _ c.in-Primitive.is (reads_primitive _ c.in-Primitive.operation c.in-Primitive.parts)
    (not_both _ _ (are_checked sc (cores_list c.in-Primitive.parts.items)) (by_list (λ xs. operation_takes c.in-Primitive.operation (cores_length (cores_list xs))) _ _ _ c.deref-in-Primitive.ensures.value c.takes.ensures) c.if-takes.false)

pub is_checked-returns-then-are_few-2 : goal.is_checked-returns-then-are_few-2
is_checked-returns-then-are_few-2 t c =
    let sc = scope_of c.args.scope.now in
    by_form sc c.args.core.now _ _ _ c.in-CallLocal.is (reads_call_local _ c.in-CallLocal.function c.in-CallLocal.parts)
    (then_both _ _ _ _ c.has_function-in-CallLocal.ensures c.if-has_function.true
    (then_both _ _ _ _ (by_list (λ xs. few_enough (cores_list xs)) _ _ _ c.deref-then-has_function.ensures.value c.are_few-then-has_function.ensures) c.if-are_few-2.true
    (by_list (λ xs. are_checked sc (cores_list xs)) _ _ _ c.deref-then-are_few-2.ensures.value c.are_checked-then-are_few-2.ensures)))

pub is_checked-returns-else-are_few-2 : goal.is_checked-returns-else-are_few-2
is_checked-returns-else-are_few-2 t c =
    let sc = scope_of c.args.scope.now in
    by_form sc c.args.core.now _ _ _ c.in-CallLocal.is (reads_call_local _ c.in-CallLocal.function c.in-CallLocal.parts)
    (then_both _ _ _ _ c.has_function-in-CallLocal.ensures c.if-has_function.true
    (not_both _ _ (are_checked sc (cores_list c.in-CallLocal.parts.items)) (by_list (λ xs. few_enough (cores_list xs)) _ _ _ c.deref-then-has_function.ensures.value c.are_few-then-has_function.ensures) c.if-are_few-2.false))

pub is_checked-returns-then-are_few-3 : goal.is_checked-returns-then-are_few-3
is_checked-returns-then-are_few-3 t c =
    let sc = scope_of c.args.scope.now in
    let called = c.is_checked-in-Funcall.ensures ∙ ap (λ x. is_checked sc (core_of x)) c.deref-in-Funcall.ensures in
    let few = by_list (λ xs. few_enough (cores_list xs)) _ _ _ c.deref-then-is_checked-4.ensures.value c.are_few-then-is_checked-4.ensures in
    let all = by_list (λ xs. are_checked sc (cores_list xs)) _ _ _ c.deref-then-are_few-3.ensures.value c.are_checked-then-are_few-3.ensures in
    let both = then_both _ _ _ _ called c.if-is_checked-4.true (then_both _ _ _ _ few c.if-are_few-3.true all) in
    by_forms sc c.args.core.now _ _ _ _ _ c.in-Funcall.is (reads_funcall _ c.in-Funcall.function c.in-Funcall.parts) (reads_apply _ c.in-Funcall.function c.in-Funcall.parts) both both

pub is_checked-returns-else-are_few-3 : goal.is_checked-returns-else-are_few-3
is_checked-returns-else-are_few-3 t c =
    let sc = scope_of c.args.scope.now in
    let called = c.is_checked-in-Funcall.ensures ∙ ap (λ x. is_checked sc (core_of x)) c.deref-in-Funcall.ensures in
    let few = by_list (λ xs. few_enough (cores_list xs)) _ _ _ c.deref-then-is_checked-4.ensures.value c.are_few-then-is_checked-4.ensures in
    let both = then_both _ _ _ _ called c.if-is_checked-4.true (not_both _ _ (are_checked sc (cores_list c.in-Funcall.parts.items)) few c.if-are_few-3.false) in
    by_forms sc c.args.core.now _ _ _ _ _ c.in-Funcall.is (reads_funcall _ c.in-Funcall.function c.in-Funcall.parts) (reads_apply _ c.in-Funcall.function c.in-Funcall.parts) both both

pub is_checked-returns-then-are_values_checked : goal.is_checked-returns-then-are_values_checked
is_checked-returns-then-are_values_checked t c =
    let sc = scope_of c.args.scope.now in
    by_form sc c.args.core.now _ _ _ c.in-Let.is (reads_let _ c.in-Let.bindings c.in-Let.body)
    (then_both _ _ _ _ (by_list (λ xs. values_checked sc (bindings_list xs)) _ _ _ c.deref-in-Let.ensures.value c.are_values_checked.ensures) c.if-are_values_checked.true
    (by_both (λ bs e. is_checked (with_variables (parameter_numbers (binding_parameters (bindings_list bs))) sc) (core_of e)) _ _ _ _ _
    c.deref-then-are_values_checked-2.ensures.value c.deref-then-are_values_checked.ensures c.is_checked-then-are_values_checked.ensures))

pub is_checked-returns-else-are_values_checked : goal.is_checked-returns-else-are_values_checked
is_checked-returns-else-are_values_checked t c =
    let sc = scope_of c.args.scope.now in
    by_form sc c.args.core.now _ _ _ c.in-Let.is (reads_let _ c.in-Let.bindings c.in-Let.body)
    (not_both _ _ _ (by_list (λ xs. values_checked sc (bindings_list xs)) _ _ _ c.deref-in-Let.ensures.value c.are_values_checked.ensures) c.if-are_values_checked.false)

pub is_checked-returns-then-are_definitions_checked : goal.is_checked-returns-then-are_definitions_checked
is_checked-returns-then-are_definitions_checked t c =
    let sc = scope_of c.args.scope.now in
    by_form sc c.args.core.now _ _ _ c.in-Labels.is (reads_labels _ c.in-Labels.definitions c.in-Labels.body)
    (then_both _ _ _ _
    (by_both (λ fs ds. definitions_checked (with_functions (function_numbers (definitions_list fs)) sc) (definitions_list ds)) _ _ _ _ _
    c.deref-in-Labels.ensures.value c.deref-in-Labels-2.ensures.value c.are_definitions_checked.ensures) c.if-are_definitions_checked.true
    (by_both (λ fs e. is_checked (with_functions (function_numbers (definitions_list fs)) sc) (core_of e)) _ _ _ _ _
    c.deref-in-Labels.ensures.value c.deref-then-are_definitions_checked.ensures c.is_checked-then-are_definitions_checked.ensures))

pub is_checked-returns-else-are_definitions_checked : goal.is_checked-returns-else-are_definitions_checked
is_checked-returns-else-are_definitions_checked t c =
    let sc = scope_of c.args.scope.now in
    by_form sc c.args.core.now _ _ _ c.in-Labels.is (reads_labels _ c.in-Labels.definitions c.in-Labels.body)
    (not_both _ _ _
    (by_both (λ fs ds. definitions_checked (with_functions (function_numbers (definitions_list fs)) sc) (definitions_list ds)) _ _ _ _ _
    c.deref-in-Labels.ensures.value c.deref-in-Labels-2.ensures.value c.are_definitions_checked.ensures) c.if-are_definitions_checked.false)

pub is_checked-returns-in-Tagbody : goal.is_checked-returns-in-Tagbody
is_checked-returns-in-Tagbody t c =
    let sc = scope_of c.args.scope.now in
    by_form sc c.args.core.now _ _ _ c.in-Tagbody.is (reads_tagbody _ c.in-Tagbody.items)
    (by_both (λ xs ys. items_checked (with_tags (tag_numbers (items_list ys)) sc) (items_list xs)) _ _ _ _ _
    c.deref-in-Tagbody.ensures.value c.deref-in-Tagbody-2.ensures.value c.are_items_checked.ensures)

pub are_optionals_checked-loop-i-preserved : goal.are_optionals_checked-loop-i-preserved
are_optionals_checked-loop-i-preserved t c =
    optional_passed (scope_of c.args.scope.now) c.args.optionals.now c.loop-i.i c.index-optionals-i.result c.is_checked.result c.loop-i-test.true c.index-optionals-i.is
    c.if-not-is_checked.false c.is_checked.ensures c.loop-i.invariant

pub is_lambda_checked-returns-then-not-are_optionals_checked : goal.is_lambda_checked-returns-then-not-are_optionals_checked
is_lambda_checked-returns-then-not-are_optionals_checked t c =
    let sc = scope_of c.args.scope.now in
    by_lambda sc c.args.lambda.now _ _ (reads_lambda c.args.lambda.now)
    (false_both _ _ _
    (by_both (λ xs os. optionals_checked (with_variables (parameter_numbers (parameters_list xs)) sc) [] (optionals_list os)) _ _ _ _ _
    c.deref.ensures.value c.deref-3.ensures.value c.are_optionals_checked.ensures) c.if-not-are_optionals_checked.true)

pub is_lambda_checked-returns-in-Some : goal.is_lambda_checked-returns-in-Some
is_lambda_checked-returns-in-Some t c =
    let sc = scope_of c.args.scope.now in
    let o = out-Lambda c.args.lambda.now in
    let read = reads_lambda c.args.lambda.now ∙ ap (λ (r : Option Parameter'). lambda o.number (parameters_list o.required.items) (optionals_list o.optional.items) (option_map parameter_of r) (core_of o.body.value)) c.in-Some.is in
    by_lambda sc c.args.lambda.now _ _ read
    (then_both _ _ _ _
    (by_both (λ xs os. optionals_checked (with_variables (parameter_numbers (parameters_list xs)) sc) [] (optionals_list os)) _ _ _ _ _
    c.deref.ensures.value c.deref-3.ensures.value c.are_optionals_checked.ensures) c.if-not-are_optionals_checked.false
    (by_three (λ xs os e. is_checked (in_body (parameters_list xs) (optionals_list os) (Some (parameter_of c.in-Some.rest)) sc) (core_of e)) _ _ _ _ _ _ _
    c.deref.ensures.value c.deref-2.ensures.value c.deref-in-Some.ensures c.is_checked.ensures))

pub is_lambda_checked-returns-in-None : goal.is_lambda_checked-returns-in-None
is_lambda_checked-returns-in-None t c =
    let sc = scope_of c.args.scope.now in
    let o = out-Lambda c.args.lambda.now in
    let read = reads_lambda c.args.lambda.now ∙ ap (λ (r : Option Parameter'). lambda o.number (parameters_list o.required.items) (optionals_list o.optional.items) (option_map parameter_of r) (core_of o.body.value)) c.in-None.is in
    by_lambda sc c.args.lambda.now _ _ read
    (then_both _ _ _ _
    (by_both (λ xs os. optionals_checked (with_variables (parameter_numbers (parameters_list xs)) sc) [] (optionals_list os)) _ _ _ _ _
    c.deref.ensures.value c.deref-3.ensures.value c.are_optionals_checked.ensures) c.if-not-are_optionals_checked.false
    (by_three (λ xs os e. is_checked (in_body (parameters_list xs) (optionals_list os) None sc) (core_of e)) _ _ _ _ _ _ _
    c.deref.ensures.value c.deref-2.ensures.value c.deref-in-None.ensures c.is_checked-in-None.ensures))
