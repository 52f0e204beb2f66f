use Rattle.std.proofs.Common.{ap, ◌∙◌}
use Rattle.std.proofs.lemmas.Slice.Eq.{slice_eq-Decides}
use Rattle.std.specs.Cmp.{booleans_Decides}
use Rattle.closed_copies.specs.Walked.{entries_list}
use Rattle.closed_copies.specs.Marks.{one_round}
use Rattle.closed_copies.proofs.Rounds.{round_passed, no_change}
use Rattle.closed_copies.proofs.marks.settle.Goals as goal

pub returns-then-eq : goal.returns-then-eq
returns-then-eq c =
    let same = slice_eq-Decides booleans_Decides c.in_ok-next.next.items c.loop-round.marks.items c.eq.result c.eq.ensures in
    no_change c.args.rounds c.loop-round._round c.args.variable (entries_list c.args.table.now) c.loop-round.marks.items c.in_ok-next.next.items _ c.loop-round.invariant (c.in_ok-next.ensures ∙ ap (one_round c.args.variable (entries_list c.args.table.now)) c.deref.ensures.value) (same.0 c.if-eq.true)

pub loop-round-preserved : goal.loop-round-preserved
loop-round-preserved c =
    round_passed c.args.rounds c.loop-round._round c.args.variable (entries_list c.args.table.now) c.loop-round.marks.items c.in_ok-next.next.items _ c.loop-round-test.true c.loop-round.invariant (c.in_ok-next.ensures ∙ ap (one_round c.args.variable (entries_list c.args.table.now)) c.deref.ensures.value)
