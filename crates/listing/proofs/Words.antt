-- How the words of code go on.
use Rattle.std.proofs.Common.{ℕ, ◌≡◌, ◌+◌, ◌*◌, ◌/◌, ◌<◌, ◌≤◌, List, [], ◌∷◌, ◌++◌, length, drop, get_or, refl, sym, ◌∙◌, ap, arith}
use Rattle.std.proofs.lemmas.List.{drop_more, append_assoc, append-nil, length-drop}
use Rattle.std.specs.Int.{w32, from_le_bytes}
use Rattle.rv_isa.specs.Start.{words32}
use Rattle.listing.specs.Text.{bytes_at, line_of, lines_from, listing_of}

step : (code : List ℕ) (at n : ℕ) → at + 1 ≡ n → at < length code → drop at code ≡ get_or code at 0 ∷ drop n code
step code at n e within = drop_more code at 0 within ∙ ap (λ (m : ℕ). get_or code at 0 ∷ drop m code) e

drop_word : (code : List ℕ) (at : ℕ) → at + 4 ≤ length code → drop at code ≡ bytes_at code at ++ drop (at + 4) code
drop_word code at within =
    step code at (at + 1) refl (omega arith)
    ∙ ap (λ (r : List ℕ). get_or code at 0 ∷ r) (step code (at + 1) (at + 2) (omega arith) (omega arith)
    ∙ ap (λ (r : List ℕ). get_or code (at + 1) 0 ∷ r) (step code (at + 2) (at + 3) (omega arith) (omega arith)
    ∙ ap (λ (r : List ℕ). get_or code (at + 2) 0 ∷ r) (step code (at + 3) (at + 4) (omega arith) (omega arith))))

words32-short : (bytes : List ℕ) → length bytes < 4 → words32 bytes ≡ []
words32-short [] short = refl
words32-short (a ∷ []) short = refl
words32-short (a ∷ b ∷ []) short = refl
words32-short (a ∷ b ∷ c ∷ []) short = refl
words32-short (a ∷ b ∷ c ∷ d ∷ bytes) short = absurd (omega arith)

-- the text so far, and the lines of the words from k on
pub record Listed (code text : List ℕ) (k : ℕ) : Type 0 where
  pub all : listing_of code ≡ text ++ lines_from (0x00010000 + 4 * k) (words32 (drop (4 * k) code))

pub Listed-start : (code : List ℕ) → Listed code [] 0
Listed-start code = record { all = refl }

pub Listed-more : (code text : List ℕ) (k word : ℕ) → 4 * k + 4 ≤ length code → word ≡ from_le_bytes w32 (bytes_at code (4 * k)) → Listed code text k → Listed code (text ++ line_of (0x00010000 + 4 * k) word) (k + 1)
Listed-more code text k word within is listed =
    let next : 4 * k + 4 ≡ 4 * (k + 1) = omega arith in
    let place : 0x00010000 + 4 * k + 4 ≡ 0x00010000 + 4 * (k + 1) = omega arith in
    record {
      all = listed.all
          ∙ ap (λ (bytes : List ℕ). text ++ lines_from (0x00010000 + 4 * k) (words32 bytes)) (drop_word code (4 * k) within)
          ∙ ap (λ (w : ℕ). text ++ (line_of (0x00010000 + 4 * k) w ++ lines_from (0x00010000 + 4 * k + 4) (words32 (drop (4 * k + 4) code)))) (sym is)
          ∙ ap (λ (n : ℕ). text ++ (line_of (0x00010000 + 4 * k) word ++ lines_from (0x00010000 + 4 * k + 4) (words32 (drop n code)))) next
          ∙ ap (λ (n : ℕ). text ++ (line_of (0x00010000 + 4 * k) word ++ lines_from n (words32 (drop (4 * (k + 1)) code)))) place
          ∙ sym (append_assoc text (line_of (0x00010000 + 4 * k) word) _);
    }

pub Listed-end : (code text : List ℕ) (k : ℕ) → length code / 4 ≤ k → Listed code text k → text ≡ listing_of code
Listed-end code text k past listed =
    sym (listed.all ∙ ap (λ (ws : List ℕ). text ++ lines_from (0x00010000 + 4 * k) ws) (words32-short (drop (4 * k) code) (simp length-drop (omega arith))) ∙ append-nil text)
