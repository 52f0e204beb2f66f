use Rattle.std.proofs.Common.{sym, ap, ◌∙◌}
use Rattle.std.specs.Option.{option_map}
use Rattle.debug_info.specs.Places.{site_of}
use Rattle.debug_info.proofs.Lookup.{last_here, last_earlier}
use Rattle.debug_info.proofs.tables.place_in.Goals as goal

pub returns-then-row-pc : goal.returns-then-row-pc
returns-then-row-pc c =
    let h = last_here c.args.pc c.loop-row.rest.now c.in-Some.before.now c.in-Some.row.now c.in-Some.ensures.cases.0 c.if-row-pc.true in
    ap (option_map site_of) (sym h ∙ c.loop-row.invariant)

pub loop-row-preserved : goal.loop-row-preserved
loop-row-preserved c =
    sym (last_earlier c.args.pc c.loop-row.rest.now c.in-Some.before.now c.in-Some.row.now c.in-Some.ensures.cases.0 c.if-row-pc.false)
    ∙ c.loop-row.invariant
