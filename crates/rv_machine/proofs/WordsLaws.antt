-- Words read from bytes, one by one.
use Rattle.std.proofs.Common.{◌≡◌, ℕ, ◌<◌, ◌≤◌, ◌*◌, ◌%◌, List, [], ◌∷◌, ◌++◌, length, take, drop, refl, sym, ap, ◌∙◌, arith, append_assoc}
use Rattle.std.proofs.lemmas.List.{append-nil}
use Rattle.std.specs.Int.{w32, w64, from_le_bytes}
use Rattle.rv_isa.specs.Start.{words32, words64}

-- the bytes of the next word
abbrev pub next32 : List ℕ → List ℕ
next32 bs = take 4 bs

words32_next : (bs : List ℕ) → 4 ≤ length bs → words32 bs ≡ from_le_bytes w32 (next32 bs) ∷ words32 (drop 4 bs)
words32_next [] h = absurd (omega arith)
words32_next (x0 ∷ []) h = absurd (omega arith)
words32_next (x0 ∷ x1 ∷ []) h = absurd (omega arith)
words32_next (x0 ∷ x1 ∷ x2 ∷ []) h = absurd (omega arith)
words32_next (x0 ∷ x1 ∷ x2 ∷ x3 ∷ xs) h = refl

words32_none : (bs : List ℕ) → length bs < 4 → words32 bs ≡ []
words32_none [] h = refl
words32_none (x0 ∷ []) h = refl
words32_none (x0 ∷ x1 ∷ []) h = refl
words32_none (x0 ∷ x1 ∷ x2 ∷ []) h = refl
words32_none (x0 ∷ x1 ∷ x2 ∷ x3 ∷ xs) h = absurd (omega arith)

-- one more word is read
pub words32_more : (ws bs all : List ℕ) (x : ℕ) → 4 ≤ length bs → ws ++ words32 bs ≡ words32 all → x ≡ from_le_bytes w32 (next32 bs) → (ws ++ x ∷ []) ++ words32 (drop 4 bs) ≡ words32 all
words32_more ws bs all x enough so_far is =
    append_assoc ws (x ∷ []) (words32 (drop 4 bs)) ∙ ap (λ (y : ℕ). ws ++ (y ∷ words32 (drop 4 bs))) is ∙ ap (λ (r : List ℕ). ws ++ r) (sym (words32_next bs enough)) ∙ so_far

-- all are read
pub words32_all : (ws bs all : List ℕ) → length bs < 4 → ws ++ words32 bs ≡ words32 all → ws ≡ words32 all
words32_all ws bs all few so_far = sym (append-nil ws) ∙ ap (λ (r : List ℕ). ws ++ r) (sym (words32_none bs few)) ∙ so_far

-- the bytes of the next word
abbrev pub next64 : List ℕ → List ℕ
next64 bs = take 8 bs

words64_next : (bs : List ℕ) → 8 ≤ length bs → words64 bs ≡ from_le_bytes w64 (next64 bs) ∷ words64 (drop 8 bs)
words64_next [] h = absurd (omega arith)
words64_next (x0 ∷ []) h = absurd (omega arith)
words64_next (x0 ∷ x1 ∷ []) h = absurd (omega arith)
words64_next (x0 ∷ x1 ∷ x2 ∷ []) h = absurd (omega arith)
words64_next (x0 ∷ x1 ∷ x2 ∷ x3 ∷ []) h = absurd (omega arith)
words64_next (x0 ∷ x1 ∷ x2 ∷ x3 ∷ x4 ∷ []) h = absurd (omega arith)
words64_next (x0 ∷ x1 ∷ x2 ∷ x3 ∷ x4 ∷ x5 ∷ []) h = absurd (omega arith)
words64_next (x0 ∷ x1 ∷ x2 ∷ x3 ∷ x4 ∷ x5 ∷ x6 ∷ []) h = absurd (omega arith)
words64_next (x0 ∷ x1 ∷ x2 ∷ x3 ∷ x4 ∷ x5 ∷ x6 ∷ x7 ∷ xs) h = refl

words64_none : (bs : List ℕ) → length bs < 8 → words64 bs ≡ []
words64_none [] h = refl
words64_none (x0 ∷ []) h = refl
words64_none (x0 ∷ x1 ∷ []) h = refl
words64_none (x0 ∷ x1 ∷ x2 ∷ []) h = refl
words64_none (x0 ∷ x1 ∷ x2 ∷ x3 ∷ []) h = refl
words64_none (x0 ∷ x1 ∷ x2 ∷ x3 ∷ x4 ∷ []) h = refl
words64_none (x0 ∷ x1 ∷ x2 ∷ x3 ∷ x4 ∷ x5 ∷ []) h = refl
words64_none (x0 ∷ x1 ∷ x2 ∷ x3 ∷ x4 ∷ x5 ∷ x6 ∷ []) h = refl
words64_none (x0 ∷ x1 ∷ x2 ∷ x3 ∷ x4 ∷ x5 ∷ x6 ∷ x7 ∷ xs) h = absurd (omega arith)

-- one more word is read
pub words64_more : (ws bs all : List ℕ) (x : ℕ) → 8 ≤ length bs → ws ++ words64 bs ≡ words64 all → x ≡ from_le_bytes w64 (next64 bs) → (ws ++ x ∷ []) ++ words64 (drop 8 bs) ≡ words64 all
words64_more ws bs all x enough so_far is =
    append_assoc ws (x ∷ []) (words64 (drop 8 bs)) ∙ ap (λ (y : ℕ). ws ++ (y ∷ words64 (drop 8 bs))) is ∙ ap (λ (r : List ℕ). ws ++ r) (sym (words64_next bs enough)) ∙ so_far

-- all are read
pub words64_all : (ws bs all : List ℕ) → length bs < 8 → ws ++ words64 bs ≡ words64 all → ws ≡ words64 all
words64_all ws bs all few so_far = sym (append-nil ws) ∙ ap (λ (r : List ℕ). ws ++ r) (sym (words64_none bs few)) ∙ so_far

-- as many words as fit into whole bytes
pub words32_length : (bs : List ℕ) → length bs % 4 ≡ 0 → 4 * length (words32 bs) ≡ length bs
words32_length [] h = refl
words32_length (x0 ∷ []) h = absurd (omega arith)
words32_length (x0 ∷ x1 ∷ []) h = absurd (omega arith)
words32_length (x0 ∷ x1 ∷ x2 ∷ []) h = absurd (omega arith)
words32_length (x0 ∷ x1 ∷ x2 ∷ x3 ∷ xs) h = let rest = words32_length xs (omega arith) in omega (arith, rest)

-- as many words as fit into whole bytes
pub words64_length : (bs : List ℕ) → length bs % 8 ≡ 0 → 8 * length (words64 bs) ≡ length bs
words64_length [] h = refl
words64_length (x0 ∷ []) h = absurd (omega arith)
words64_length (x0 ∷ x1 ∷ []) h = absurd (omega arith)
words64_length (x0 ∷ x1 ∷ x2 ∷ []) h = absurd (omega arith)
words64_length (x0 ∷ x1 ∷ x2 ∷ x3 ∷ []) h = absurd (omega arith)
words64_length (x0 ∷ x1 ∷ x2 ∷ x3 ∷ x4 ∷ []) h = absurd (omega arith)
words64_length (x0 ∷ x1 ∷ x2 ∷ x3 ∷ x4 ∷ x5 ∷ []) h = absurd (omega arith)
words64_length (x0 ∷ x1 ∷ x2 ∷ x3 ∷ x4 ∷ x5 ∷ x6 ∷ []) h = absurd (omega arith)
words64_length (x0 ∷ x1 ∷ x2 ∷ x3 ∷ x4 ∷ x5 ∷ x6 ∷ x7 ∷ xs) h = let rest = words64_length xs (omega arith) in omega (arith, rest)
