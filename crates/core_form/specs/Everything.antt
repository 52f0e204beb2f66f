-- One name that opens all that a run computes with: `unfolding everything`. (This project's own.)
use Rattle.lisp_base.specs.Rows.{greatest_code}
use Rattle.lisp_base.specs.Shown.{most_elements}
use Rattle.core_form.specs.Facts.{gather, gather_all, gather_bindings, gather_optionals, gather_lambda, gather_definitions, gather_items, closed_to, word_variables, facts_of, function_table}
use Rattle.core_form.specs.Effect.{◌>>=◌, pure, change, read, leave, fail, counting, spend, allot, boxes_more, deliver_more, look_at, walk_over, stack_at, hold, begin, box_all, add, put, bind_to, new_entry, write}
use Rattle.core_form.specs.Force.{make_list, signal, stop_at, go_to_catch, after_signal, raise, pass, expect, check, check_all, one}
use Rattle.core_form.specs.Primitives.{check_rest, check_row, fitting, one_integer, if_fitting, dividing, quotient, put_at, valid_index, valid_length, new_vector, new_string, element, letter, set_element, set_letter, set_car, set_cdr, list_end, elements, most_values, most_arguments, next_char, bound_value, global_value, defined_function, global_function, set_global, act, primitive}
use Rattle.core_form.specs.Step.{deliver, box_in, place_in, new_variable, change_in, set_variable, capture, make_function, make_local, named_function, function_of, designated, set_function, spread, not_too_many, enter_extent, exit_to, return_from, go_on_at, go_to, throw_to, throw}
use Rattle.core_form.specs.Run.{◌>>=◌ as ◌>>=ʳ◌, perform, pure as run_pure, stop, take_left, take_fuel, first, visit, passed, land, block_round, catch_round, astray, jump, tagbody_round, restoring, guarded, framed, in_frame}
use Rattle.core_form.specs.Eval.{call_object, call_value, funcall, call_symbol, apply, call_with_values, call_local, known_or, with_special, with_variable, with_bindings, with_parameter, with_required, with_supplied, with_rest, eval, args, gathered, progn, values_of, steps, steps_from, with_optionals, function_body, enter, call_code, no_code, no_call, call_to, run_form, run_forms, evaluate}

unfoldable pub everything : Unit {0}
unfolding gather gather_all gather_bindings gather_optionals gather_lambda gather_definitions gather_items closed_to word_variables facts_of function_table ◌>>=◌ pure change read leave fail counting spend allot boxes_more deliver_more look_at walk_over stack_at hold begin box_all add put bind_to new_entry write make_list signal stop_at go_to_catch after_signal raise pass expect check check_all one most_elements greatest_code check_rest check_row fitting one_integer if_fitting dividing quotient put_at valid_index valid_length new_vector new_string element letter set_element set_letter set_car set_cdr list_end elements most_values most_arguments next_char bound_value global_value defined_function global_function set_global act primitive deliver box_in place_in new_variable change_in set_variable capture make_function make_local named_function function_of designated set_function spread not_too_many enter_extent exit_to return_from go_on_at go_to throw_to throw ◌>>=ʳ◌ perform run_pure stop take_left take_fuel first visit passed land block_round catch_round astray jump tagbody_round restoring guarded framed in_frame call_object call_value funcall call_symbol apply call_with_values call_local known_or with_special with_variable with_bindings with_parameter with_required with_supplied with_rest eval args gathered progn values_of steps steps_from with_optionals function_body enter call_code no_code no_call call_to run_form run_forms evaluate
everything = tt
