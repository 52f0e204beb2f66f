use Rattle.std.proofs.Common.{refl}
use Rattle.lisp_base.specs.BaseNames.{base_names, helper_names, lambda_list_names, left_out_names}
use Rattle.lisp_base.specs.Constants.{symbol_constants}
use Rattle.lisp_base.proofs.laws.constants_are_base_symbols.Goals as goal

pub returns : goal.returns
unfolding base_names helper_names lambda_list_names left_out_names symbol_constants
returns c = refl
