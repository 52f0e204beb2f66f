-- What small forms expand to, computed.
use Rattle.std.specs.Prelude.{refl}
use Rattle.expansion.specs.Everything.{everything}
use Rattle.expansion.specs.Examples.{Simple, Binding, Functions, Definitions, Calls, Exits, Macros, Places, Refusals, Examples}

simple : Simple
unfolding everything
simple = record {
  symbols = refl;
  free = refl;
  constant = refl;
  quote = refl;
  if_then = refl;
  if_else = refl;
  progn_of_none = refl;
  progn_of_one = refl;
  progn_of_two = refl;
  setq_of_none = refl;
  setq = refl;
  setq_of_two = refl;
  the = refl;
  typep = refl;
  values = refl;
}

bindings : Binding
unfolding everything
bindings = record {
  let_one = refl;
  let_none = refl;
  let_pair = refl;
  let_in_let = refl;
  let_in_order = refl;
  let_twice = refl;
  setq_declared = refl;
  locally = refl;
  let_around = refl;
  special = refl;
  optimize = refl;
}

functions : Functions
unfolding everything
functions = record {
  global_function = refl;
  global_call = refl;
  flet = refl;
  labels_see_all = refl;
  defun = refl;
  optional_parameter = refl;
  auxiliary = refl;
  lambda_macro = refl;
  key_parameter = refl;
  lambda_call = refl;
  rest_call = refl;
  funcall_form = refl;
  apply = refl;
}

definitions : Definitions
unfolding everything
definitions = record {
  defvar = refl;
  defvar_alone = refl;
  defparameter = refl;
  declaim = refl;
  in_package = refl;
}

calls : Calls
unfolding everything
calls = record {
  add_none = refl;
  add_one = refl;
  add_three = refl;
  negate = refl;
  subtract = refl;
  logand_none = refl;
  increment = refl;
  truncate_one = refl;
  floor_two = refl;
  not_call = refl;
  consp = refl;
  eql = refl;
  read_char = refl;
  error = refl;
  car = refl;
  car_of_two = refl;
}

exits : Exits
unfolding everything
exits = record {
  block_exit = refl;
  return_from_function = refl;
  tags = refl;
  catch = refl;
  throw = refl;
  unwind = refl;
  keep_values = refl;
}

macros : Macros
unfolding everything
macros = record {
  when = refl;
  when_two = refl;
  cond = refl;
  push = refl;
  push_place = refl;
  setf = refl;
  case_keys = refl;
  dotimes = refl;
  bind_values = refl;
}

places : Places
unfolding everything
places = record {
  of_form = refl;
  of_atom = refl;
  of_check = refl;
  of_definition = refl;
  of_macro = refl;
}

refusals : Refusals
unfolding everything
refusals = record {
  if_of_none = refl;
  unknown_type = refl;
  unknown_declaration = refl;
  left_out = refl;
  constant_bound = refl;
  constant_set = refl;
  no_block = refl;
  no_tag = refl;
  late_declaration = refl;
  without_safety = refl;
  reserved = refl;
  reserved_local = refl;
  key_alone = refl;
  no_operator = refl;
  improper = refl;
  macro_syntax = refl;
}

pub examples : Examples
examples = record { simple = simple; bindings = bindings; functions = functions; definitions = definitions; calls = calls; exits = exits; macros = macros; places = places; refusals = refusals }
