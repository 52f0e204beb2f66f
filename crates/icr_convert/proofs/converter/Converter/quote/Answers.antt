use Rattle.icr_convert.proofs.Atoms.{quote_converts}
use Rattle.icr_convert.proofs.converter.Converter.quote.Goals as goal

pub returns : goal.returns
returns c =
    quote_converts c.args.names.now c.args.setting c.in_ok-one_more.ensures c.in_ok-leaf.ensures
