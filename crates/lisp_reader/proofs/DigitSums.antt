-- Numbers of digits grow with each digit.
use Rattle.std.proofs.Common.{◌≡◌, ◌≤◌, ◌<◌, ◌+◌, ◌*◌, ℕ, List, [], ◌∷◌, ◌++◌, fold, arith, take, drop, get_or, length, ap}
use Rattle.std.proofs.lemmas.List.{take-append-drop}
use Rattle.std.proofs.lemmas.List.Sums.{fold_more, fold-append}
use Rattle.std.proofs.Math.Nat.{mul-le-mul_right}
use Rattle.lisp_reader.specs.Tokens.{digit, amount}

-- a number is not below that of its first digits
grows : (base : ℕ) → 0 < base → (w : List ℕ) (n : ℕ) → n ≤ fold (λ n c. base * n + digit c) n w
grows base h [] n = omega arith
grows base h (c ∷ w) n =
    let wide : 1 * n ≤ base * n = mul-le-mul_right n h in
    let here : n ≤ base * n + digit c = omega arith in
    let rest = grows base h w (base * n + digit c) in
    omega arith

pub amount_more : (base : ℕ) (w : List ℕ) (i : ℕ) → i < length w → amount base (take (i + 1) w) ≡ base * amount base (take i w) + digit (get_or w i 0)
amount_more base w i h = fold_more (λ n c. base * n + digit c) 0 w i 0 h

pub amount_above : (base : ℕ) (w : List ℕ) (i : ℕ) → 0 < base → amount base (take i w) ≤ amount base w
amount_above base w i h =
    let split : amount base (take i w ++ drop i w) ≡ fold (λ n c. base * n + digit c) (amount base (take i w)) (drop i w) = fold-append (λ n c. base * n + digit c) 0 (take i w) (drop i w) in
    let whole : amount base (take i w ++ drop i w) ≡ amount base w = ap (amount base) (take-append-drop i w) in
    let more = grows base h (drop i w) (amount base (take i w)) in
    omega arith
