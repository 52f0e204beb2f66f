use Rattle.icr_convert.proofs.Atoms.{local_converts}
use Rattle.icr_convert.proofs.converter.Converter.local.Goals as goal

pub returns : goal.returns
returns c =
    local_converts c.args.names.now c.args.setting c.args.number c.in_ok-variable.ensures c.in_ok-one_more.ensures c.in_ok-leaf.ensures
