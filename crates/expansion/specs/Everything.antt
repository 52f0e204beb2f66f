-- One name that opens all that an expansion computes with: `unfolding everything`. (This project's own.)
use Rattle.lisp_base.specs.BaseNames.{lambda_list_names, left_out_names, helper_names, base_names}
use Rattle.lisp_base.specs.Tables.{most_symbols}
use Rattle.lisp_base.specs.Lawful.{least_integer, greatest_integer, is_character_value, most_parts}
use Rattle.lisp_forms.specs.Conses.{elements}
use Rattle.lisp_forms.specs.Building.{built, built_each}
use Rattle.type_spec.specs.Forms.{operator_of as type_operator_of, number_type_of, atom_type_of, object_type_of}
use Rattle.type_spec.specs.Parsing.{parsed, all_parsed, specifier}
use Rattle.core_form.specs.Primitives.{most_values, most_arguments}
use Rattle.std_macros.specs.Expanding.{arguments_row, fresh_symbols, built_around, expanded, expanded_form}
use Rattle.declarations.specs.Policies.{quality_named}
use Rattle.declarations.specs.Declarations.{subject_named, read_specifier, read_list}
use Rattle.lambda_lists.specs.LambdaLists.{lambda_list, made_forms, key_forms}
use Rattle.expansion.specs.Operators.{operator_of, direct_of, is_left_out, is_reserved}
use Rattle.expansion.specs.Scopes.{at_form, function_at, block_at, tag_at, variable_at, types_set, types_used, declared_in}
use Rattle.expansion.specs.Steps.{◌>>=◌, ◌>>◌, pure, refuse, given_or, expect, only_if, look, change, most_nodes, most_levels, most_chain, begun, begin, take_numbers, take_function}
use Rattle.expansion.specs.Calls.{direct_sketch, global_call, few}
use Rattle.expansion.specs.Bindings.{declared_or, read_body, contents_of, let_sketch, let_in_order, plain_function, keyed_function, fresh_by, fresh_symbol, rest_or_fresh, keys_by, make_keys, with_keys, function_with, function_from, function_sketch}
use Rattle.expansion.specs.Forms.{makes_node, set_variable, quote_plan, lambda_plan, function_plan, setq_plan, if_plan, progn_plan, bindings_in, let_plan, let_in_order_plan, functions_plan, locally_forms, locally_plan, type_in, the_plan, block_plan, return_plan, return_from_plan, tagbody_plan, go_plan, catch_plan, throw_plan, unwind_plan, values_call_plan, keeping_plan, values_plan, funcall_plan, apply_plan, typep_plan, definition, defun_plan, global_set, unless_bound, defvar_plan, defparameter_plan, declaim_plan, in_package_plan, operator_plan, operated, expansion_or, macro_plan, called, global_plan, named_plan, lambda_bindings, lambda_call, lambda_plan_of, symbol_plan, list_plan, plan_of}
use Rattle.expansion.specs.Expanding.{parameter, with_bound, bound, bound_each, bound_some, each, bound_initials, values_bound, binding_node, bound_optionals, defaults, function_tree, definition_at, definitions, functions_tree, functions_node, recursive_node, block_node, items, tagbody_node, go_on, followed, planned, expand, make, most_fuel, tree_of}

unfoldable pub everything : Unit {0}
unfolding lambda_list_names left_out_names helper_names base_names most_symbols least_integer greatest_integer is_character_value most_parts elements built built_each type_operator_of number_type_of atom_type_of object_type_of parsed all_parsed specifier most_values most_arguments arguments_row fresh_symbols built_around expanded expanded_form quality_named subject_named read_specifier read_list lambda_list made_forms key_forms operator_of direct_of is_left_out is_reserved at_form function_at block_at tag_at variable_at types_set types_used declared_in ◌>>=◌ ◌>>◌ pure refuse given_or expect only_if look change most_nodes most_levels most_chain begun begin take_numbers take_function direct_sketch global_call few declared_or read_body contents_of let_sketch let_in_order plain_function keyed_function fresh_by fresh_symbol rest_or_fresh keys_by make_keys with_keys function_with function_from function_sketch makes_node set_variable quote_plan lambda_plan function_plan setq_plan if_plan progn_plan bindings_in let_plan let_in_order_plan functions_plan locally_forms locally_plan type_in the_plan block_plan return_plan return_from_plan tagbody_plan go_plan catch_plan throw_plan unwind_plan values_call_plan keeping_plan values_plan funcall_plan apply_plan typep_plan definition defun_plan global_set unless_bound defvar_plan defparameter_plan declaim_plan in_package_plan operator_plan operated expansion_or macro_plan called global_plan named_plan lambda_bindings lambda_call lambda_plan_of symbol_plan list_plan plan_of parameter with_bound bound bound_each bound_some each bound_initials values_bound binding_node bound_optionals defaults function_tree definition_at definitions functions_tree functions_node recursive_node block_node items tagbody_node go_on followed planned expand make most_fuel tree_of
everything = tt
