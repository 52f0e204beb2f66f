use Rattle.icr_convert.proofs.Atoms.{local_function_converts}
use Rattle.icr_convert.proofs.converter.Converter.local_function.Goals as goal

pub returns : goal.returns
returns c =
    local_function_converts c.args.names.now c.args.setting c.args.number c.in_ok-made.made c.in_ok-made.ensures c.in_ok-one_more.ensures c.in_ok-leaf.ensures
