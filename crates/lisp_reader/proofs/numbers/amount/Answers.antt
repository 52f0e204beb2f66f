use Rattle.std.proofs.Common.{◌≡◌, ◌+◌, ◌*◌, ℕ, take, arith, get_or, sym, ap, ◌∙◌}
use Rattle.std.proofs.lemmas.List.Sums.{fold_more}
use Rattle.lisp_reader.specs.Tokens.{amount, digit, integers_end}
use Rattle.lisp_reader.proofs.DigitSums.{amount_above}
use Rattle.lisp_reader.proofs.numbers.amount.Goals as goal

pub returns-then-total-gt-INTEGERS_END : goal.returns-then-total-gt-INTEGERS_END
unfolding integers_end
returns-then-total-gt-INTEGERS_END c =
    let base : c.args.base ≡ c.from.result = sym c.from.ensures in
    let before : amount c.args.base (take c.loop-letter.letter-index c.args.word.now) ≡ c.loop-letter.total = sym c.loop-letter.invariant.so_far in
    let last : digit (get_or c.args.word.now c.loop-letter.letter-index c.letter-item.result) ≡ c.from-in-loop-letter.result =
    ap digit (sym c.letter-item.is) ∙ (sym c.digit.ensures ∙ sym c.from-in-loop-letter.ensures) in
    let step : amount c.args.base (take (c.loop-letter.letter-index + 1) c.args.word.now) ≡ c.from.result * c.loop-letter.total + c.from-in-loop-letter.result =
    fold_more (λ (n : ℕ) (d : ℕ). c.args.base * n + digit d) 0 c.args.word.now c.loop-letter.letter-index c.letter-item.result (omega arith)
    ∙ (λ i. base i * before i + last i) in
    let whole = amount_above c.args.base c.args.word.now (c.loop-letter.letter-index + 1) c.requires.low in
    omega (arith, whole, step, c.if-total-gt-INTEGERS_END.true)
