-- Further examples, computed.
use Rattle.std.specs.Prelude.{refl}
use Rattle.expansion.specs.Everything.{everything}
use Rattle.expansion.specs.FurtherExamples.{Declarations, Parameters, FurtherMacros, FurtherPlaces, FurtherRefusals, Limits, Worlds, FurtherExamples}

declarations : Declarations
unfolding everything
declarations = record {
  two_types = refl;
  of_outer = refl;
  other_variable = refl;
  other_binding = refl;
  inner_variable = refl;
  special_outer = refl;
  special_beside = refl;
  special_around = refl;
  special_in_order = refl;
  special_after = refl;
  declaimed = refl;
  declaimed_defvar = refl;
  policy_goes_on = refl;
  without_value = refl;
  flet_around = refl;
  string_dropped = refl;
  string_alone = refl;
}

parameters : Parameters
unfolding everything
parameters = record {
  all_before = refl;
  in_order = refl;
  declared = refl;
  declared_outer = refl;
  declared_auxiliary = refl;
  declared_key = refl;
  key_in_block = refl;
  key_of_none = refl;
  key_and_auxiliary = refl;
  call_of_no_parameter = refl;
  numbers_of_functions = refl;
  call_binds = refl;
  call_of_none = refl;
  call_with_auxiliary = refl;
  variable_twice = refl;
  function_twice = refl;
  tag_twice = refl;
}

macros : FurtherMacros
unfolding everything
macros = record {
  and_none = refl;
  or_none = refl;
  and_two = refl;
  or_two = refl;
  unless = refl;
  cond_two = refl;
  case_none = refl;
  ecase = refl;
  typecase = refl;
  etypecase = refl;
  loop_return = refl;
  do_once = refl;
  dolist = refl;
  prog = refl;
  prog1 = refl;
  prog2 = refl;
  set_no_values = refl;
  psetq = refl;
  setf_none = refl;
  setf_two = refl;
  incf = refl;
  decf = refl;
  incf_place = refl;
  pop = refl;
  list_values = refl;
  nth_value = refl;
  set_values = refl;
  quasiquote = refl;
  splicing = refl;
}

places : FurtherPlaces
unfolding everything
places = record {
  of_use = refl;
  of_setq = refl;
  of_defun = refl;
  of_function = refl;
  of_lambda = refl;
  of_lambda_call = refl;
  of_macros = refl;
  of_clauses = refl;
  of_prelude = refl;
  in_prelude = refl;
}

refusals : FurtherRefusals
unfolding everything
refusals = record {
  circular = refl;
  circular_body = refl;
  first_one = refl;
  outer_one = refl;
  shape_first = refl;
  if_of_four = refl;
  quote_of_none = refl;
  setq_of_one = refl;
  the_of_one = refl;
  long_binding = refl;
  not_quoted = refl;
  not_type = refl;
  values_of_20 = refl;
  values_of_21 = refl;
  call_of_1025 = refl;
  funcall_of_1024 = refl;
  funcall_of_1025 = refl;
  not_item = refl;
  not_name = refl;
  throw_of_one = refl;
  constant_defined = refl;
  not_string = refl;
  other_package = refl;
  declare_alone = refl;
  no_safety = refl;
  atom_defined = refl;
  without_parameters = refl;
  rest_of_none = refl;
  constant_parameter = refl;
  not_lambda = refl;
  not_function = refl;
  not_clause = refl;
  psetq_of_constant = refl;
  assert = refl;
}

limits : Limits
unfolding everything
limits = record {
  four_nodes = refl;
  three_nodes = refl;
  two_levels = refl;
  one_level = refl;
  chain_of_two = refl;
  chain_of_one = refl;
  type_counts = refl;
  type_counted = refl;
}

worlds : Worlds
unfolding everything
worlds = record {
  of_if = refl;
  of_let = refl;
  of_defun = refl;
  of_lambda = refl;
  of_tagbody = refl;
  defvar = refl;
  declaim = refl;
  optimize = refl;
  locally = refl;
}

pub further_examples : FurtherExamples
further_examples = record { declarations = declarations; parameters = parameters; macros = macros; places = places; refusals = refusals; limits = limits; worlds = worlds }
