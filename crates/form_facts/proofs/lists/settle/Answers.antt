use Rattle.std.proofs.Common.{ap, sym, ◌∙◌}
use Rattle.closed_copies.specs.Walked.{entries_list}
use Rattle.form_facts.specs.View.{lists_of}
use Rattle.form_facts.specs.Lists.{one_round}
use Rattle.form_facts.proofs.Closed.{round_passed, no_change}
use Rattle.form_facts.proofs.lists.settle.Goals as goal

pub returns-then-are_same : goal.returns-then-are_same
returns-then-are_same c =
    let table = entries_list c.args.table.now in
    let same =
    sym (ap lists_of c.deref-in-loop-round.ensures.value) ∙ c.are_same.ensures c.if-are_same.true ∙ ap lists_of c.deref-in-loop-round-2.ensures.value in
    no_change c.args.rounds c.loop-round._round table (lists_of c.loop-round.lists.items) (lists_of c.in_ok-next.next.items) _ c.loop-round.invariant
    (c.in_ok-next.ensures ∙ ap (λ ls. one_round table (lists_of ls)) c.deref.ensures.value) same

pub loop-round-preserved : goal.loop-round-preserved
loop-round-preserved c =
    let table = entries_list c.args.table.now in
    round_passed c.args.rounds c.loop-round._round table (lists_of c.loop-round.lists.items) (lists_of c.in_ok-next.next.items) _ c.loop-round-test.true c.loop-round.invariant
    (c.in_ok-next.ensures ∙ ap (λ ls. one_round table (lists_of ls)) c.deref.ensures.value)
