use Rattle.icr_convert.proofs.Atoms.{global_function_converts}
use Rattle.icr_convert.proofs.converter.Converter.global_function.Goals as goal

pub returns : goal.returns
returns c =
    global_function_converts c.args.names.now c.args.setting c.in_ok-one_more.ensures c.in_ok-leaf.ensures
