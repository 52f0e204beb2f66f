use Rattle.std.proofs.Common.{refl}
use Rattle.lisp_base.specs.BaseNames.{primitive_names, direct_names, prelude_names, helper_names}
use Rattle.prelude.specs.Names.{function_names}
use Rattle.prelude.proofs.names.prelude_names.Goals as goal

pub returns : goal.returns
unfolding function_names primitive_names direct_names prelude_names helper_names
returns c = refl
