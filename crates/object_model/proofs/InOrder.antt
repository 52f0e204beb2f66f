-- Words that are read one after another.
use Rattle.std.proofs.Common.{◌≡◌, ℕ, zero, suc, ◌+◌, ◌-◌, ◌*◌, ◌<◌, false, None, refl, arith, add-suc, add-zero}
use Rattle.std.proofs.Math.Bool.{and-false}
use Rattle.object_model.specs.Memory.{Memory, can_read, reach}

unread_after : (memory : Memory) (address i more : ℕ) → reach memory (address + 8 * i) ≡ None → can_read memory address (suc i + more) ≡ false
unread_after memory address i zero here =
    rw (add-zero (suc i), here) (and-false (can_read memory address i))
unread_after memory address i (suc more) here =
    rw (add-suc (suc i) more, unread_after memory address i more here) refl

-- one word that can't be read
pub unread : (memory : Memory) (address i count : ℕ) → reach memory (address + 8 * i) ≡ None → i < count → can_read memory address count ≡ false
unread memory address i count here lt =
    let e : count ≡ suc i + (count - suc i) = omega arith in
    rw e (unread_after memory address i (count - suc i) here)
