-- A front of a list that was copied to a buffer.
use Rattle.std.proofs.Common.{◌≡◌, ℕ, ◌+◌, List, ◌++◌, take, drop, Some, ap, sym, Bool, false, ◌<◌, arith, ◌∙◌}
use Rattle.std.specs.Prelude.{◌==◌}
use Rattle.std.proofs.lemmas.List.{take-append-drop, drop-drop}

-- what was left is what was copied, and then what is left behind it
pub put_back : (n taken : ℕ) (bytes left buffer : List ℕ) → drop taken bytes ≡ left → take n buffer ≡ take n (drop taken bytes) → Some left ≡ Some (take n buffer ++ drop (taken + n) bytes)
put_back n taken bytes left buffer is_left copied =
    let whole : take n buffer ++ drop (taken + n) bytes ≡ drop taken bytes =
    rw (copied, ← drop-drop n taken bytes) (take-append-drop n (drop taken bytes)) in
    ap Some (sym is_left ∙ sym whole)

-- what isn't empty has an element
pub some_there : (n : ℕ) (b : Bool) → b ≡ (n == 0) → b ≡ false → 0 < n
some_there n b is empty = grind arith
