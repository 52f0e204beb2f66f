use Rattle.std.proofs.Common.{◌≡◌, ◌==◌, List, ℕ, refl, ap, ◌∙◌, arith}
use Rattle.core_form.specs.Facts.{times_in}
use Rattle.form_facts.specs.Read.{parts_list}
use Rattle.form_facts.specs.Words.{taken_in, next_words}
use Rattle.form_facts.specs.Given.{at_number, given_to_all, lost_next}
use Rattle.form_facts.proofs.LostWords.{first_round, next_round, all_rounds, told}
use Rattle.form_facts.proofs.words.lose_further.Goals as goal

pub loop-round-init : goal.loop-round-init
loop-round-init c = λ reads taken.
    let ps = parts_list c.args.parts.now in
    let words = c.args.declared.now in
    first_round (λ x. times_in x reads == times_in x (taken_in words ps)) words c.args.first.now c.in_ok-just.just c.in_ok-lost.lost (next_words reads ps) refl taken c.in_ok-just.ensures c.in_ok-lost.ensures

pub loop-round-preserved : goal.loop-round-preserved
loop-round-preserved c = λ reads taken.
    let ps = parts_list c.args.parts.now in
    let words = c.args.declared.now in
    let just = c.loop-round.just in
    next_round reads words c.loop-round.lost just c.in_ok-just-2.just c.lose.new.lost ps c.loop-round._round (c.loop-round.invariant reads taken)
    (c.in_ok-just-2.ensures.next
    ∙ ap (λ (ys : List ℕ). lost_next ys c.in_ok-all.all c.loop-round.lost) (told ps (at_number c.in_ok-given.given) just c.in_ok-given.ensures)
    ∙ ap (λ (ys : List ℕ). lost_next (given_to_all ps just) ys c.loop-round.lost) c.in_ok-all.ensures)
    c.in_ok-just-2.ensures.noted

pub returns : goal.returns
returns c = λ reads taken some.
    let last : c.loop-round._round ≡ c.args.rounds = omega (arith, c.loop-round-test.false, c.loop-round.auto._round-end, some) in
    all_rounds (c.loop-round.invariant reads taken) last
