-- Strings and comments, a character or two at a time.
use Rattle.std.proofs.Common.{◌≡◌, ◌+◌, ◌-◌, ◌<◌, ◌≤◌, ℕ, true, false, ◌&&◌, ◌==◌, List, [], ◌∷◌, Option, Some, None, if◌then◌else◌, drop, length, refl, ap, ◌∙◌, arith}
use Rattle.std.proofs.lemmas.Bool.{false≢true}
use Rattle.lisp_reader.specs.Tokens.{string_size, comment_size, more, begins, is_pair}

pub more_more : (a b : ℕ) (o : Option ℕ) → more a (more b o) ≡ more (a + b) o
more_more a b None = refl
more_more a b (Some n) = ap (λ (k : ℕ). Some k) (omega arith)

pub more_zero : (o : Option ℕ) → o ≡ more 0 o
more_zero None = refl
more_zero (Some n) = ap (λ (k : ℕ). Some k) (omega arith)

pub string_ends : (xs : List ℕ) → begins 34 xs ≡ true → string_size xs ≡ Some 1
string_ends [] h = absurd (false≢true h)
string_ends (c ∷ []) h = ap (λ b. if b then Some 1 else None) h
string_ends (c ∷ d ∷ xs) h = ap (λ b. if b then Some 1 else if c == 92 then more 2 (string_size xs) else more 1 (string_size (d ∷ xs))) h

pub string_keeps : (xs : List ℕ) → begins 34 xs ≡ false → begins 92 xs ≡ true → string_size xs ≡ more 2 (string_size (drop 2 xs))
string_keeps [] g h = absurd (false≢true h)
string_keeps (c ∷ []) g h = ap (λ b. if b then Some 1 else None) g
string_keeps (c ∷ d ∷ xs) g h = ap (λ b. if b then Some 1 else if c == 92 then more 2 (string_size xs) else more 1 (string_size (d ∷ xs))) g
    ∙ ap (λ b. if b then more 2 (string_size xs) else more 1 (string_size (d ∷ xs))) h

pub string_goes : (xs : List ℕ) → 0 < length xs → begins 34 xs ≡ false → begins 92 xs ≡ false → string_size xs ≡ more 1 (string_size (drop 1 xs))
string_goes [] l g h = absurd (omega arith)
string_goes (c ∷ []) l g h = ap (λ b. if b then Some 1 else None) g
string_goes (c ∷ d ∷ xs) l g h = ap (λ b. if b then Some 1 else if c == 92 then more 2 (string_size xs) else more 1 (string_size (d ∷ xs))) g
    ∙ ap (λ b. if b then more 2 (string_size xs) else more 1 (string_size (d ∷ xs))) h

pub comment_closes : (depth : ℕ) (xs : List ℕ) → is_pair 124 35 xs ≡ true → comment_size depth xs ≡ (if depth == 1 then Some 2 else more 2 (comment_size (depth - 1) (drop 2 xs)))
comment_closes depth [] h = absurd (false≢true h)
comment_closes depth (c ∷ []) h = absurd (grind arith)
comment_closes depth (c ∷ d ∷ xs) h = ap (λ b. if b then (if depth == 1 then Some 2 else more 2 (comment_size (depth - 1) xs)) else if c == 35 && d == 124 then more 2 (comment_size (depth + 1) xs) else more 1 (comment_size depth (d ∷ xs))) h

pub comment_opens : (depth : ℕ) (xs : List ℕ) → is_pair 124 35 xs ≡ false → is_pair 35 124 xs ≡ true → comment_size depth xs ≡ more 2 (comment_size (depth + 1) (drop 2 xs))
comment_opens depth [] g h = absurd (false≢true h)
comment_opens depth (c ∷ []) g h = absurd (grind arith)
comment_opens depth (c ∷ d ∷ xs) g h = ap (λ b. if b then (if depth == 1 then Some 2 else more 2 (comment_size (depth - 1) xs)) else if c == 35 && d == 124 then more 2 (comment_size (depth + 1) xs) else more 1 (comment_size depth (d ∷ xs))) g
    ∙ ap (λ b. if b then more 2 (comment_size (depth + 1) xs) else more 1 (comment_size depth (d ∷ xs))) h

pub comment_goes : (depth : ℕ) (xs : List ℕ) → 0 < length xs → is_pair 124 35 xs ≡ false → is_pair 35 124 xs ≡ false → comment_size depth xs ≡ more 1 (comment_size depth (drop 1 xs))
comment_goes depth [] l g h = absurd (omega arith)
comment_goes depth (c ∷ []) l g h = refl
comment_goes depth (c ∷ d ∷ xs) l g h = ap (λ b. if b then (if depth == 1 then Some 2 else more 2 (comment_size (depth - 1) xs)) else if c == 35 && d == 124 then more 2 (comment_size (depth + 1) xs) else more 1 (comment_size depth (d ∷ xs))) g
    ∙ ap (λ b. if b then more 2 (comment_size (depth + 1) xs) else more 1 (comment_size depth (d ∷ xs))) h

pub pair_long : (a b : ℕ) (xs : List ℕ) → is_pair a b xs ≡ true → 2 ≤ length xs
pair_long a b [] h = absurd (false≢true h)
pair_long a b (c ∷ []) h = absurd (grind arith)
pair_long a b (c ∷ d ∷ xs) h = omega arith
