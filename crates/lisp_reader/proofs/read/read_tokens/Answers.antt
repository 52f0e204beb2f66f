use Rattle.std.proofs.Common.{◌≡◌, ◌+◌, ◌<◌, ℕ, List, [], length, take, drop, sym, ap, ◌∙◌, arith, length-take-le}
use Rattle.std.proofs.lemmas.Result.{err_from_is_err_and}
use Rattle.lisp_reader.specs.Tokens.{tokens, utf8_length}
use Rattle.lisp_reader.specs.Spelled.{piece_of}
use Rattle.lisp_reader.specs.Held.{levels_of, fault_of}
use Rattle.lisp_reader.specs.Seen.{world_of}
use Rattle.lisp_reader.specs.Machine.{run, World}
use Rattle.lisp_reader.proofs.Steps.{tokens_piece, length-utf8, utf8_split, if_some_weaker, none_left}
use Rattle.lisp_reader.proofs.Shorts.{higher}
use Rattle.lisp_reader.proofs.Chains.{all_on}
use Rattle.lisp_reader.proofs.read.read_tokens.Goals as goal

pub first_piece-piece-requires-clause-short : goal.first_piece-piece-requires-clause-short
first_piece-piece-requires-clause-short c = let long = length-utf8 c.loop-rest.rest.now in omega (arith, long, c.loop-rest.invariant.fits, c.requires.small)

pub utf8_length-requires : goal.utf8_length-requires
utf8_length-requires c =
    let long = length-utf8 c.loop-rest.rest.now in
    let short = length-take-le c.first_piece-piece.result.size c.loop-rest.rest.now c.first_piece-piece.ensures.within.1 in
    omega (arith, long, short, c.first_piece-piece.ensures.within.1, c.loop-rest.invariant.fits, c.requires.small)

pub returns-clause-ok : goal.returns-clause-ok
unfolding run
returns-clause-ok c =
    let none : c.loop-rest.rest.now ≡ [] = none_left c.loop-rest.rest.now (grind arith) in
    c.loop-rest.invariant.same ∙ ap (λ (text : List ℕ). run (world_of c.loop-rest.progress c.loop-rest.symbols c.loop-rest.heap) c.args.end (tokens 0 c.loop-rest.at text)) none

pub returns-in_err-read_piece-clause-refused : goal.returns-in_err-read_piece-clause-refused
returns-in_err-read_piece-clause-refused c =
    let p = err_from_is_err_and c.from_residual.result c.from_residual.ensures.1 in
    let w : World = world_of c.loop-rest.progress c.loop-rest.symbols c.loop-rest.heap in
    let some : 0 < length c.loop-rest.rest.now = grind arith in
    let first = tokens_piece c.loop-rest.rest.now c.loop-rest.at (piece_of c.first_piece-piece.result) some c.first_piece-piece.ensures.piece c.first_piece-piece.ensures.within in
    rw (p.1, p.2) (if_some_weaker (fault_of c.in_err-read_piece.field-0.0) _ _ (λ r stops. c.loop-rest.invariant.same ∙ (ap (run w c.args.end) first ∙ stops _)) c.in_err-read_piece.ensures.refused)

pub loop-rest-preserved : goal.loop-rest-preserved
loop-rest-preserved c =
    let text : List ℕ = c.loop-rest.rest.now in
    let n : ℕ = c.first_piece-piece.result.size in
    let w : World = world_of c.loop-rest.progress c.loop-rest.symbols c.loop-rest.heap in
    let v : World = world_of c.read_piece.new.progress c.read_piece.new.symbols c.read_piece.new.heap in
    let some : 0 < length text = grind arith in
    let first = tokens_piece text c.loop-rest.at (piece_of c.first_piece-piece.result) some c.first_piece-piece.ensures.piece c.first_piece-piece.ensures.within in
    let bytes : c.utf8_length.result ≡ utf8_length (take n text) = c.utf8_length.ensures in
    let rest : c.without-rest.result.now ≡ drop n text = c.without-rest.ensures in
    let split = utf8_split text n in
    let long = length-utf8 (take n text) in
    let count = length-take-le n text c.first_piece-piece.ensures.within.1 in
    let left : utf8_length c.without-rest.result.now ≡ utf8_length (drop n text) = ap utf8_length rest in
    record {
      same = c.loop-rest.invariant.same ∙ (ap (run w c.args.end) first ∙ (c.in_ok-read_piece.ensures.ok (tokens 0 (c.loop-rest.at + utf8_length (take n text)) (drop n text))
          ∙ (λ i. run v c.args.end (tokens 0 (c.loop-rest.at + sym bytes i) (sym rest i)))));
      kept = all_on _ _ _ _ _ _ c.loop-rest.invariant.kept c.in_ok-read_piece.ensures.kept;
      fits = omega (arith, bytes, split, left, c.loop-rest.invariant.fits);
      short = higher (c.loop-rest.at + 1) (c.loop-rest.at + c.utf8_length.result) (levels_of c.read_piece.new.progress.levels) (omega (arith, bytes, long, count, c.first_piece-piece.ensures.within.0)) c.in_ok-read_piece.ensures.short;
    }
