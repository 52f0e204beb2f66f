use Rattle.std.proofs.Common.{◌≡◌, ◌+◌, ◌-◌, ◌<◌, ℕ, true, false, ◌==◌, List, Some, if◌then◌else◌, drop, length, sym, ap, ◌∙◌, arith, length-drop}
use Rattle.lisp_reader.specs.Tokens.{comment_size, more, is_pair}
use Rattle.lisp_reader.proofs.Strings.{more_more, comment_closes, comment_opens, comment_goes, pair_long}
use Rattle.lisp_reader.proofs.pieces.comment_size.Goals as goal

pub loop-rest-preserved-then-is_pair : goal.loop-rest-preserved-then-is_pair
loop-rest-preserved-then-is_pair c =
    let xs : List ℕ = c.loop-rest.rest.now in
    let size : ℕ = c.loop-rest.size in
    let depth : ℕ = c.loop-rest.depth in
    let long : length c.without-rest.result.now ≡ length xs - 2 = ap length c.without-rest.ensures ∙ length-drop 2 xs in
    let pair : is_pair 124 35 xs ≡ true = sym c.is_pair.ensures ∙ c.if-is_pair.true in
    let two = pair_long 124 35 xs pair in
    let deeper : (depth == 1) ≡ false = grind (arith, c.if-depth-eq1.false) in
    let closes = comment_closes depth xs pair ∙ ap (λ b. if b then Some 2 else more 2 (comment_size (depth - 1) (drop 2 xs))) deeper in
    record {
      rest = c.loop-rest.invariant.rest ∙ (ap (more size) closes ∙ (more_more size 2 _ ∙ ap (λ (ys : List ℕ). more (size + 2) (comment_size (depth - 1) ys)) (sym c.without-rest.ensures)));
      whole = omega arith;
      open_ones = omega arith;
      few = omega arith;
    }

pub loop-rest-preserved-then-is_pair-2 : goal.loop-rest-preserved-then-is_pair-2
loop-rest-preserved-then-is_pair-2 c =
    let xs : List ℕ = c.loop-rest.rest.now in
    let size : ℕ = c.loop-rest.size in
    let depth : ℕ = c.loop-rest.depth in
    let long : length c.without-rest-then-is_pair-2.result.now ≡ length xs - 2 = ap length c.without-rest-then-is_pair-2.ensures ∙ length-drop 2 xs in
    let pair : is_pair 35 124 xs ≡ true = sym c.is_pair-in-loop-rest.ensures ∙ c.if-is_pair-2.true in
    let two = pair_long 35 124 xs pair in
    let opens = comment_opens depth xs (sym c.is_pair.ensures ∙ c.if-is_pair.false) pair in
    record {
      rest = c.loop-rest.invariant.rest ∙ (ap (more size) opens ∙ (more_more size 2 _ ∙ ap (λ (ys : List ℕ). more (size + 2) (comment_size (depth + 1) ys)) (sym c.without-rest-then-is_pair-2.ensures)));
      whole = omega arith;
      open_ones = omega arith;
      few = omega arith;
    }

pub loop-rest-preserved : goal.loop-rest-preserved
loop-rest-preserved c =
    let xs : List ℕ = c.loop-rest.rest.now in
    let size : ℕ = c.loop-rest.size in
    let depth : ℕ = c.loop-rest.depth in
    let long : length c.without-rest-in-loop-rest.result.now ≡ length xs - 1 = ap length c.without-rest-in-loop-rest.ensures ∙ length-drop 1 xs in
    let some : 0 < length xs = grind arith in
    let goes = comment_goes depth xs some (sym c.is_pair.ensures ∙ c.if-is_pair.false) (sym c.is_pair-in-loop-rest.ensures ∙ c.if-is_pair-2.false) in
    record {
      rest = c.loop-rest.invariant.rest ∙ (ap (more size) goes ∙ (more_more size 1 _ ∙ ap (λ (ys : List ℕ). more (size + 1) (comment_size depth ys)) (sym c.without-rest-in-loop-rest.ensures)));
      whole = omega arith;
      open_ones = omega arith;
      few = omega arith;
    }
