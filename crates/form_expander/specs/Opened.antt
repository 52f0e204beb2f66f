-- One name that opens all plans: `unfolding plans` (this project's own).
use Rattle.expansion.specs.Steps.{◌>>=◌, ◌>>◌, pure, refuse, given_or, expect, only_if, look, change}
use Rattle.expansion.specs.Bindings.{declared_or}
use Rattle.expansion.specs.Calls.{few}
use Rattle.expansion.specs.Forms.{makes_node, quote_plan, lambda_plan, function_plan, setq_plan, if_plan, progn_plan, let_plan, let_in_order_plan, functions_plan, locally_forms, locally_plan, type_in, the_plan, block_plan, return_plan, return_from_plan, tagbody_plan, go_plan, catch_plan, throw_plan, unwind_plan, values_call_plan, keeping_plan, values_plan, funcall_plan, apply_plan, typep_plan, defun_plan, defvar_plan, defparameter_plan, declaim_plan, in_package_plan, operated, expansion_or, macro_plan, called, global_plan, named_plan, lambda_call, lambda_plan_of, symbol_plan, list_plan, plan_of}

unfoldable pub plans : Unit {0}
unfolding ◌>>=◌ ◌>>◌ pure refuse given_or expect only_if look change declared_or few makes_node quote_plan lambda_plan function_plan setq_plan if_plan progn_plan let_plan let_in_order_plan functions_plan locally_forms locally_plan type_in the_plan block_plan return_plan return_from_plan tagbody_plan go_plan catch_plan throw_plan unwind_plan values_call_plan keeping_plan values_plan funcall_plan apply_plan typep_plan defun_plan defvar_plan defparameter_plan declaim_plan in_package_plan operated expansion_or macro_plan called global_plan named_plan lambda_call lambda_plan_of symbol_plan list_plan plan_of
plans = tt
