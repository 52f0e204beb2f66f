use Rattle.std.proofs.Common.{◌≡◌, ◌+◌, ◌-◌, ◌<◌, ℕ, List, length, sym, ap, ◌∙◌, arith, length-drop}
use Rattle.lisp_reader.specs.Tokens.{string_size, more}
use Rattle.lisp_reader.proofs.Strings.{more_more, more_zero, string_keeps, string_goes}
use Rattle.lisp_reader.proofs.pieces.string_size.Goals as goal

pub loop-rest-init : goal.loop-rest-init
loop-rest-init c = record { rest = more_zero _; whole = λ _. omega arith; bound = omega arith }

pub loop-rest-preserved-then-begins-2 : goal.loop-rest-preserved-then-begins-2
loop-rest-preserved-then-begins-2 c =
    let xs : List ℕ = c.loop-rest.rest.now in
    let size : ℕ = c.loop-rest.size in
    let long : length c.without-rest.result.now ≡ length xs - 2 = ap length c.without-rest.ensures ∙ length-drop 2 xs in
    let keeps = string_keeps xs (sym c.begins.ensures ∙ c.if-begins.false) (sym c.begins-in-loop-rest.ensures ∙ c.if-begins-2.true) in
    let some : 0 < length xs = grind arith in
    let whole : size + length xs ≡ length c.args.text.now = c.loop-rest.invariant.whole some in
    record {
      rest = c.loop-rest.invariant.rest ∙ (ap (more size) keeps ∙ (more_more size 2 _ ∙ ap (λ (ys : List ℕ). more (size + 2) (string_size ys)) (sym c.without-rest.ensures)));
      whole = λ some. omega arith;
      bound = omega arith;
    }

pub loop-rest-preserved : goal.loop-rest-preserved
loop-rest-preserved c =
    let xs : List ℕ = c.loop-rest.rest.now in
    let size : ℕ = c.loop-rest.size in
    let long : length c.without-rest-in-loop-rest.result.now ≡ length xs - 1 = ap length c.without-rest-in-loop-rest.ensures ∙ length-drop 1 xs in
    let some : 0 < length xs = grind arith in
    let goes = string_goes xs some (sym c.begins.ensures ∙ c.if-begins.false) (sym c.begins-in-loop-rest.ensures ∙ c.if-begins-2.false) in
    let whole : size + length xs ≡ length c.args.text.now = c.loop-rest.invariant.whole some in
    record {
      rest = c.loop-rest.invariant.rest ∙ (ap (more size) goes ∙ (more_more size 1 _ ∙ ap (λ (ys : List ℕ). more (size + 1) (string_size ys)) (sym c.without-rest-in-loop-rest.ensures)));
      whole = λ some. omega arith;
      bound = omega arith;
    }
