-- Replacing some of the bits of a word.
use Rattle.std.proofs.Common.{◌≡◌, ℕ, ◌+◌, ◌-◌, ◌*◌, ◌/◌, ◌%◌, ◌^◌, ◌<◌, ◌≤◌, refl, sym, ap, subst, ◌∙◌, arith}
use Rattle.std.proofs.lemmas.Nat.{shr_split, shr-shr, shl_whole, one_shl, shr_below, row_fits, pow-add, mod_below, pow_pos, mul-add-lt}

-- a word is what lies above some of its bits, these bits, and what lies below them
pub split_bits : (w k j : ℕ) → (w / 2 ^ (k + j) * 2 ^ j + w / 2 ^ k % 2 ^ j) * 2 ^ k + w % 2 ^ k ≡ w
split_bits w k j = rw (← shr-shr w k j, shr_split (w / 2 ^ k) j, shr_split w k) refl

-- bits that are put in their place in a word stay within it
pub shifted_bits : (v k j : ℕ) → k + j ≤ 64 → v < 2 ^ j → v * 2 ^ k % 2 ^ 64 ≡ v * 2 ^ k
shifted_bits v k j inside h = shl_whole v j k 64 h (omega arith)

distribute : (q a v b : ℕ) → (q * a + v) * b ≡ q * (b * a) + v * b
distribute q a v b = grind arith

-- a word with other bits there is a word
pub bits_fit : (w k j v : ℕ) → w < 2 ^ 64 → k + j ≤ 64 → v < 2 ^ j → (w / 2 ^ (k + j) * 2 ^ j + v) * 2 ^ k + w % 2 ^ k < 2 ^ 64
bits_fit w k j v fits inside h =
    let d = 64 - (k + j) in
    let q = w / 2 ^ (k + j) in
    let whole : d + (k + j) ≡ 64 = omega arith in
    let high : q < 2 ^ d = shr_below w d (k + j) (subst (λ (n : ℕ). w < 2 ^ n) (sym whole) fits) in
    let row : q * 2 ^ (k + j) + 2 ^ (k + j) ≤ 2 ^ d * 2 ^ (k + j) = row_fits q (2 ^ (k + j)) (2 ^ d) (2 ^ (k + j)) high (omega arith) in
    let size : 2 ^ d * 2 ^ (k + j) ≡ 2 ^ 64 = sym (pow-add 2 d (k + j)) ∙ ap (λ (n : ℕ). 2 ^ n) whole in
    let parts : 2 ^ (k + j) ≡ 2 ^ k * 2 ^ j = pow-add 2 k j in
    let low : v * 2 ^ k + w % 2 ^ k < 2 ^ k * 2 ^ j = mul-add-lt v (2 ^ k) (w % 2 ^ k) (2 ^ j) h (mod_below w (2 ^ k) (pow_pos k)) in
    let apart : (q * 2 ^ j + v) * 2 ^ k ≡ q * 2 ^ (k + j) + v * 2 ^ k = distribute q (2 ^ j) v (2 ^ k) ∙ ap (λ (n : ℕ). q * n + v * 2 ^ k) (sym parts) in
    omega (arith, row, size, parts, low, apart)

-- other bits put in the place of some
pub bits_put : (w k j v : ℕ) → w - w / 2 ^ k % 2 ^ j * 2 ^ k + v * 2 ^ k ≡ (w / 2 ^ (k + j) * 2 ^ j + v) * 2 ^ k + w % 2 ^ k
bits_put w k j v =
    let q = w / 2 ^ (k + j) in
    let r = w / 2 ^ k % 2 ^ j in
    let whole = split_bits w k j in
    let old : (q * 2 ^ j + r) * 2 ^ k ≡ q * (2 ^ k * 2 ^ j) + r * 2 ^ k = distribute q (2 ^ j) r (2 ^ k) in
    let new : (q * 2 ^ j + v) * 2 ^ k ≡ q * (2 ^ k * 2 ^ j) + v * 2 ^ k = distribute q (2 ^ j) v (2 ^ k) in
    omega (arith, whole, old, new)

-- the same, as shifts of words have it
pub shifts_put : (w k j v : ℕ) → k < 64 → j < 64 → k + j ≤ 64 →
    w - (w / 2 ^ k % (1 * 2 ^ j % 2 ^ 64)) * 2 ^ k % 2 ^ 64 + (v % (1 * 2 ^ j % 2 ^ 64)) * 2 ^ k % 2 ^ 64 ≡ (w / 2 ^ (k + j) * 2 ^ j + v % 2 ^ j) * 2 ^ k + w % 2 ^ k
shifts_put w k j v from bits inside =
    let limit : 1 * 2 ^ j % 2 ^ 64 ≡ 2 ^ j = one_shl j 64 bits in
    rw (limit, shifted_bits (w / 2 ^ k % 2 ^ j) k j inside (mod_below (w / 2 ^ k) (2 ^ j) (pow_pos j)), shifted_bits (v % 2 ^ j) k j inside (mod_below v (2 ^ j) (pow_pos j))) (bits_put w k j (v % 2 ^ j))
