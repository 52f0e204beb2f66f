-- The offsets lead to their places.
use Rattle.std.proofs.Common.{ℕ, ◌≡◌, ◌+◌, ◌-◌, ◌*◌, ◌/◌, ◌%◌, ◌^◌, ◌<◌, ◌≤◌, ◌∙◌, ap, arith, ⊎_elim, IsTrue}
use Rattle.std.proofs.lemmas.Bool.{cases_lt}
use Rattle.std.proofs.lemmas.Bool.Decides.{nat_tests}
use Rattle.rv_isa.specs.Operations.{plus, extended, upper_value, imm_value}
use Rattle.rv_isa.specs.declared.instr.Upper.TheVariants as upper
use Rattle.rv_isa.specs.declared.instr.ImmOp.TheVariants as imm
use Rattle.rv_asm.specs.Reach.{in_branch, in_jump, branch_half, jump_half, high_part, low_part}
use Rattle.rv_asm.specs.Landing.{ArePlaces, Lands}

-- a sum with an offset, by its sign
forward : (base from to : ℕ) → from ≤ to → base + to < 2 ^ 64 → plus (base + from) (to - from) ≡ base + to
forward base from to order below = omega arith

backward : (base from to : ℕ) → to ≤ from → from ≤ 2 ^ 30 → base + to < 2 ^ 64 → plus (base + from) (2 ^ 64 - (from - to)) ≡ base + to
backward base from to order short below = omega arith

branch_forward : (from to : ℕ) → from % 4 ≡ 0 → to % 4 ≡ 0 → from ≤ to → to ≤ from + 4094 → extended 13 (branch_half from to * 2) ≡ to - from
branch_forward from to whole whole' order near = grind (arith, nat_tests)

branch_backward : (from to : ℕ) → from % 4 ≡ 0 → to % 4 ≡ 0 → to < from → from ≤ to + 4096 → extended 13 (branch_half from to * 2) ≡ 2 ^ 64 - (from - to)
branch_backward from to whole whole' order near = grind (arith, nat_tests)

jump_forward : (from to : ℕ) → from % 4 ≡ 0 → to % 4 ≡ 0 → from ≤ to → to ≤ from + 1048574 → extended 21 (jump_half from to * 2) ≡ to - from
jump_forward from to whole whole' order near = grind (arith, nat_tests)

jump_backward : (from to : ℕ) → from % 4 ≡ 0 → to % 4 ≡ 0 → to < from → from ≤ to + 1048576 → extended 21 (jump_half from to * 2) ≡ 2 ^ 64 - (from - to)
jump_backward from to whole whole' order near = grind (arith, nat_tests)

branch_near : (from to : ℕ) → IsTrue (in_branch from to) → (from ≤ to + 4096) × (to ≤ from + 4094)
branch_near from to near = grind (arith, nat_tests)

jump_near : (from to : ℕ) → IsTrue (in_jump from to) → (from ≤ to + 1048576) × (to ≤ from + 1048574)
jump_near from to near = grind (arith, nat_tests)

branch_lands : (base from to : ℕ) → ArePlaces base from to → IsTrue (in_branch from to) → plus (base + from) (extended 13 (branch_half from to * 2)) ≡ base + to
branch_lands base from to places near =
    let reach = branch_near from to near in
    ⊎_elim (λ (back : to < from). ap (plus (base + from)) (branch_backward from to places.from_whole places.to_whole back reach.0) ∙ backward base from to (omega arith) places.from_short places.below)
    (λ (ahead : from ≤ to). ap (plus (base + from)) (branch_forward from to places.from_whole places.to_whole ahead reach.1) ∙ forward base from to ahead places.below)
    (cases_lt to from)

jump_lands : (base from to : ℕ) → ArePlaces base from to → IsTrue (in_jump from to) → plus (base + from) (extended 21 (jump_half from to * 2)) ≡ base + to
jump_lands base from to places near =
    let reach = jump_near from to near in
    ⊎_elim (λ (back : to < from). ap (plus (base + from)) (jump_backward from to places.from_whole places.to_whole back reach.0) ∙ backward base from to (omega arith) places.from_short places.below)
    (λ (ahead : from ≤ to). ap (plus (base + from)) (jump_forward from to places.from_whole places.to_whole ahead reach.1) ∙ forward base from to ahead places.below)
    (cases_lt to from)

-- an offset, which has 2^32 added, without its low bits
rounded : ℕ → ℕ
rounded d = (d + 2 ^ 11) / 2 ^ 12 * 2 ^ 12

rounded-le : (d : ℕ) → rounded d ≤ d + 2 ^ 11
unfolding rounded
rounded-le d = omega arith

high_ahead : (d : ℕ) → 2 ^ 32 ≤ d + 2 ^ 11 → d ≤ 2 ^ 32 + 2 ^ 30 → (extended 32 ((d + 2 ^ 11) / 2 ^ 12 % 2 ^ 20 * 2 ^ 12) + 2 ^ 32 ≡ rounded d)
unfolding rounded
high_ahead d ahead short = grind (arith, nat_tests)

high_back : (d : ℕ) → d + 2 ^ 11 < 2 ^ 32 → 2 ^ 32 ≤ d + 2 ^ 30 → extended 32 ((d + 2 ^ 11) / 2 ^ 12 % 2 ^ 20 * 2 ^ 12) ≡ rounded d + (2 ^ 64 - 2 ^ 32)
unfolding rounded
high_back d back short = grind (arith, nat_tests)

low_ahead : (d : ℕ) → d % 2 ^ 12 < 2 ^ 11 → rounded d + extended 12 (d % 2 ^ 12) ≡ d
unfolding rounded
low_ahead d ahead = grind (arith, nat_tests)

low_back : (d : ℕ) → 2 ^ 11 ≤ d % 2 ^ 12 → rounded d + extended 12 (d % 2 ^ 12) ≡ d + 2 ^ 64
unfolding rounded
low_back d back = grind (arith, nat_tests)

-- the high bits give the rounded offset, and the low ones the rest
high_gives : (d : ℕ) → d ≤ 2 ^ 32 + 2 ^ 30 → 2 ^ 32 ≤ d + 2 ^ 30 → plus (2 ^ 32) (extended 32 ((d + 2 ^ 11) / 2 ^ 12 % 2 ^ 20 * 2 ^ 12)) ≡ rounded d
high_gives d above below =
    ⊎_elim (λ (back : d + 2 ^ 11 < 2 ^ 32). let e = high_back d back below in omega (arith, rounded-le d))
    (λ (ahead : 2 ^ 32 ≤ d + 2 ^ 11). let e = high_ahead d ahead above in omega (arith, rounded-le d))
    (cases_lt (d + 2 ^ 11) (2 ^ 32))

low_gives : (d : ℕ) → d < 2 ^ 64 → plus (rounded d) (extended 12 (d % 2 ^ 12)) ≡ d
low_gives d small =
    ⊎_elim (λ (ahead : d % 2 ^ 12 < 2 ^ 11). let e = low_ahead d ahead in omega arith)
    (λ (back : 2 ^ 11 ≤ d % 2 ^ 12). let e = low_back d back in omega arith)
    (cases_lt (d % 2 ^ 12) (2 ^ 11))

-- what two numbers give from 2^32 on, they give from elsewhere
elsewhere : (a high low r d b : ℕ) → plus (2 ^ 32) high ≡ r → plus r low ≡ d → b + 2 ^ 32 ≡ a + d → b < 2 ^ 64 → plus (plus a high) low ≡ b
elsewhere a high low r d b first second same small = omega arith

high_part-offset : (from to : ℕ) → from ≤ 2 ^ 30 → high_part from to ≡ (to + 2 ^ 32 - from + 2 ^ 11) / 2 ^ 12 % 2 ^ 20
high_part-offset from to short =
    let e : to + 2 ^ 32 + 2 ^ 11 - from ≡ to + 2 ^ 32 - from + 2 ^ 11 = omega arith in
    ap (λ (n : ℕ). n / 2 ^ 12 % 2 ^ 20) e

address_lands : (base from to : ℕ) → ArePlaces base from to → imm_value imm.Addi (upper_value upper.Auipc (base + from) (high_part from to)) (extended 12 (low_part from to)) ≡ base + to
address_lands base from to places =
    let d = to + 2 ^ 32 - from in
    let high : plus (2 ^ 32) (extended 32 (high_part from to * 2 ^ 12)) ≡ rounded d =
    ap (λ (n : ℕ). plus (2 ^ 32) (extended 32 (n * 2 ^ 12))) (high_part-offset from to places.from_short) ∙ high_gives d (omega arith) (omega arith) in
    elsewhere (base + from) (extended 32 (high_part from to * 2 ^ 12)) (extended 12 (low_part from to)) (rounded d) d (base + to)
    high (low_gives d (omega arith)) (omega arith) places.below

pub lands : Lands
lands = record { branch = branch_lands; jump = jump_lands; address = address_lands }
