use Rattle.std.proofs.Common.{ap, Some, sym, ◌∙◌}
use Rattle.std.proofs.lemmas.Bool.{eqb-true}
use Rattle.icr_convert.proofs.Leaving.{opened_leaves}
use Rattle.icr_convert.proofs.converter.Converter.entry_of.Goals as goal

pub returns-in-Some : goal.returns-in-Some
returns-in-Some c =
    let same = eqb-true c.in-Some.opened c.in_ok-variable.variable (sym c.eq.ensures ∙ c.if-eq.true) in
    opened_leaves c.args.self.now.built c.in_ok-variable.ensures (c.extent_variable.ensures c.in_ok-variable.variable (c.in-Some.is ∙ ap Some same))
