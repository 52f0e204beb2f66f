-- Reading the memory after a write.
use Rattle.std.proofs.Common.{◌≡◌, ℕ, ◌+◌, ◌<◌, ◌≤◌, List, length, set, arith}
use Rattle.std.proofs.Math.Path.{fun_ext}
use Rattle.std.proofs.lemmas.Bool.Decides.{nat_tests}
use Rattle.std.proofs.lemmas.List.{get_or-set_other}
use Rattle.std.proofs.lemmas.Grind.{get_or-set_at}
use Rattle.std.proofs.lemmas.List.{get_or_past}
use Rattle.rv_isa.specs.Start.{statics_memory}
use Rattle.rv_machine.proofs.Zeros.{zeros, zeros_read}
use Rattle.rv_isa.specs.Machine.{put}
use Rattle.rv_machine.specs.Memory.{word_among}

pub put_statics : (s h c n : List ℕ) (i v : ℕ) → i < length s → length s ≤ 0x04000000 → word_among (set s i v) h c n ≡ put (0x04000000 + i) v (word_among s h c n)
put_statics s h c n i v below fits = fun_ext (λ k. grind (arith, nat_tests, get_or-set_at {X = ℕ}, get_or-set_other {A = ℕ}))

pub put_heap : (s h c n : List ℕ) (i v : ℕ) → i < length h → length h ≤ 0x04000000 → word_among s (set h i v) c n ≡ put (0x08000000 + i) v (word_among s h c n)
put_heap s h c n i v below fits = fun_ext (λ k. grind (arith, nat_tests, get_or-set_at {X = ℕ}, get_or-set_other {A = ℕ}))

pub put_control : (s h c n : List ℕ) (i v : ℕ) → i < length c → length c ≤ 0x02000000 → word_among s h (set c i v) n ≡ put (0x0c000000 + i) v (word_among s h c n)
put_control s h c n i v below fits = fun_ext (λ k. grind (arith, nat_tests, get_or-set_at {X = ℕ}, get_or-set_other {A = ℕ}))

pub put_number : (s h c n : List ℕ) (i v : ℕ) → i < length n → word_among s h c (set n i v) ≡ put (0x0e000000 + i) v (word_among s h c n)
put_number s h c n i v below = fun_ext (λ k. grind (arith, nat_tests, get_or-set_at {X = ℕ}, get_or-set_other {A = ℕ}))

-- the statics with zeros behind them
pub memory_first : (s : List ℕ) (h c n : ℕ) → length s ≤ 0x04000000 → word_among s (zeros h) (zeros c) (zeros n) ≡ statics_memory s
memory_first s h c n fits = fun_ext (λ k. grind (arith, nat_tests, zeros_read, get_or_past {X = ℕ}))
