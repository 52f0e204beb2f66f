use Rattle.std.proofs.Common.{sym, ◌∙◌}
use Rattle.std.proofs.lemmas.Result.{on_ok_weaker}
use Rattle.icr_convert.proofs.Leaving.{go_converts}
use Rattle.icr_convert.proofs.converter.Converter.go.Goals as goal

pub returns : goal.returns
returns c =
    on_ok_weaker c.exit.result (go_converts c.args.setting c.args.place c.args.tag (sym c.tag.ensures ∙ c.in-Some.is) c.in_ok-entry.ensures c.in_ok-one_more.ensures c.charge-charges.ensures) c.exit.ensures
