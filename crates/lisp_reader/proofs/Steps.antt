-- The tokens of a text piece by piece, and the machine token by token.
use Rattle.std.proofs.Common.{◌≡◌, ◌+◌, ◌-◌, ◌<◌, ◌≤◌, ℕ, zero, suc, List, [], ◌∷◌, take, drop, length, refl, sym, ap, ◌∙◌, arith, Option, Some, None, Result, Ok, Err, IfSome, IfErr}
use Rattle.std.proofs.lemmas.List.Sums.{sum_by-cons, sum_by-take-drop}
use Rattle.std.proofs.lemmas.Str.{len_utf8_bounds}
use Rattle.std.specs.Char.{len_utf8}
use Rattle.lisp_reader.specs.Tokens.{Piece, Placed, placed_before, Token, tokens, first_piece, utf8_length}
use Rattle.lisp_reader.specs.Reading.{Refusal}
use Rattle.lisp_reader.specs.Machine.{World, run, step, then_do}

pub utf8_cons : (c : ℕ) (cs : List ℕ) → utf8_length (c ∷ cs) ≡ len_utf8 c + utf8_length cs
utf8_cons c cs = sum_by-cons len_utf8 c cs

-- characters that belong to what came before are passed
pub tokens_skip : (text : List ℕ) (k at : ℕ) → k ≤ length text → tokens k at text ≡ tokens 0 (at + utf8_length (take k text)) (drop k text)
tokens_skip [] zero at h = refl
tokens_skip [] (suc k) at h = absurd (omega arith)
tokens_skip (c ∷ text) zero at h = ap (λ (n : ℕ). tokens 0 n (c ∷ text)) (omega arith)
tokens_skip (c ∷ text) (suc k) at h =
    tokens_skip text k (at + len_utf8 c) (omega arith)
    ∙ ap (λ (n : ℕ). tokens 0 n (drop k text)) (let e = utf8_cons c (take k text) in omega (arith, e))

pub tokens_first : (text : List ℕ) (at n : ℕ) → 0 < length text → n ≡ (first_piece text).size → 0 < n → n ≤ length text → tokens 0 at text ≡ placed_before at (first_piece text).token (tokens 0 (at + utf8_length (take n text)) (drop n text))
tokens_first [] at n some is low high = absurd (omega arith)
tokens_first (c ∷ text) at zero some is low high = absurd (omega arith)
tokens_first (c ∷ text) at (suc k) some is low high =
    ap (λ (m : ℕ). placed_before at (first_piece (c ∷ text)).token (tokens (m - 1) (at + len_utf8 c) text)) (sym is)
    ∙ (ap (λ (m : ℕ). placed_before at (first_piece (c ∷ text)).token (tokens m (at + len_utf8 c) text)) (omega arith)
    ∙ (ap (placed_before at (first_piece (c ∷ text)).token) (tokens_skip text k (at + len_utf8 c) (omega arith))
    ∙ ap (λ (m : ℕ). placed_before at (first_piece (c ∷ text)).token (tokens 0 m (drop k text))) (let e = utf8_cons c (take k text) in omega (arith, e))))

pub run_goes : (w v : World) (end : ℕ) (p : Placed) (ps : List Placed) → step w end p ≡ Ok v → run w end (p ∷ ps) ≡ run v end ps
unfolding run
run_goes w v end p ps e = ap (λ (r : Result World Refusal). then_do r (λ u. run u end ps)) e

pub run_stops : (w : World) (end : ℕ) (p : Placed) (ps : List Placed) (r : Refusal) → step w end p ≡ Err r → run w end (p ∷ ps) ≡ Err r
unfolding run
run_stops w end p ps r e = ap (λ (s : Result World Refusal). then_do s (λ u. run u end ps)) e

pub length-utf8 : (cs : List ℕ) → length cs ≤ utf8_length cs
length-utf8 [] = omega arith
length-utf8 (c ∷ cs) = let e = utf8_cons c cs in let b = len_utf8_bounds c in let r = length-utf8 cs in omega (arith, e, b.0, r)

pub utf8_split : (cs : List ℕ) (n : ℕ) → utf8_length (take n cs) + utf8_length (drop n cs) ≡ utf8_length cs
utf8_split cs n = sum_by-take-drop len_utf8 cs n

-- the same, with the piece that the code found
pub tokens_piece : (text : List ℕ) (at : ℕ) (q : Piece) → 0 < length text → q ≡ first_piece text → (0 < q.size) × (q.size ≤ length text) → tokens 0 at text ≡ placed_before at q.token (tokens 0 (at + utf8_length (take q.size text)) (drop q.size text))
tokens_piece text at q some is within =
    tokens_first text at q.size some (ap (λ (r : Piece). r.size) is) within.0 within.1
    ∙ ap (λ (o : Option Token). placed_before at o (tokens 0 (at + utf8_length (take q.size text)) (drop q.size text))) (sym (ap (λ (r : Piece). r.token) is))

pub if_some_weaker : {X : Type 0} (o : Option X) (P Q : X → Type 0) → ((x : X) → P x → Q x) → IfSome o P → IfSome o Q
if_some_weaker None P Q f h = h
if_some_weaker (Some x) P Q f h = f x h

pub none_left : (xs : List ℕ) → length xs ≡ 0 → xs ≡ []
none_left [] h = refl
none_left (x ∷ xs) h = absurd (omega arith)

pub if_err_weaker : {X Y : Type 0} (r : Result X Y) (P Q : Y → Type 0) → ((y : Y) → P y → Q y) → IfErr r P → IfErr r Q
if_err_weaker (Ok x) P Q f h = h
if_err_weaker (Err y) P Q f h = f y h
