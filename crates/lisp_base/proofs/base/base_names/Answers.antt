use Rattle.std.proofs.Common.{refl}
use Rattle.lisp_base.specs.BaseNames.{base_names, helper_names, lambda_list_names, left_out_names}
use Rattle.lisp_base.proofs.base.base_names.Goals as goal

pub returns-clause-names : goal.returns-clause-names
unfolding base_names helper_names lambda_list_names left_out_names
returns-clause-names c = refl
