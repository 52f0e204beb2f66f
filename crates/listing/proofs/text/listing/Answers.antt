-- The loop goes over the whole words.
use Rattle.std.proofs.Common.{ℕ, ◌≡◌, ◌+◌, ◌*◌, ◌++◌, List, string_bytes, arith, subst}
use Rattle.listing.specs.Text.{line_of}
use Rattle.listing.proofs.Words.{Listed, Listed-more, Listed-end}
use Rattle.listing.proofs.text.listing.Goals as goal

pub loop-k-preserved : goal.loop-k-preserved
loop-k-preserved c =
    let text = string_bytes c.loop-k.text in
    let line : text ++ line_of (0x00010000 + 4 * c.loop-k.k) c.word_at.result ≡ string_bytes c.add_line.new.out = cc (c.in_ok-add_line.ensures) in
    subst (λ (bytes : List ℕ). Listed c.args.code.now bytes (c.loop-k.k + 1)) line
    (Listed-more c.args.code.now text c.loop-k.k c.word_at.result (omega arith) c.word_at.ensures c.loop-k.invariant)

pub returns : goal.returns
returns c = Listed-end c.args.code.now (string_bytes c.loop-k.text) c.loop-k.k (omega arith) c.loop-k.invariant
