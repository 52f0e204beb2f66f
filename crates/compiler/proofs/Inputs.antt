-- What the instructions of READ-CHAR do.
use Rattle.std.proofs.Common.{refl, ap, arith}
use Rattle.std.proofs.lemmas.Bool.Decides.{nat_tests}
use Rattle.std.specs.Prelude.{◌≡◌, ℕ, ◌+◌, ◌-◌, ◌*◌, ◌%◌, ◌^◌, ◌<◌, Bool, false, ◌==◌, IsTrue, List, [], ◌∷◌, Option}
use Rattle.lisp_base.specs.declared.values.Val.TheVariants.{Char}
use Rattle.lisp_base.specs.declared.values.Place.{Place}
use Rattle.lisp_base.specs.Sort.{nil}
use Rattle.rv_isa.specs.declared.instr.Instr.TheVariants as i
use Rattle.rv_isa.specs.declared.instr.Branch.TheVariants as branch
use Rattle.rv_isa.specs.declared.instr.Shift.TheVariants as shift
use Rattle.rv_isa.specs.declared.instr.ImmOp.TheVariants as imm
use Rattle.rv_isa.specs.Machine.{Space, State, executed, is_char, reads, branches}
use Rattle.rv_isa.specs.Operations.{plus}
use Rattle.compiler.specs.Words.{word_of_value}
use Rattle.compiler.specs.Templates.{read_slots}
use Rattle.compiler.proofs.Paths.{Path, Stand, goes, goes_to}
use Rattle.compiler.proofs.Calm.{Good, Comes, valued, others}

pub char_bound : (c : ℕ) → IsTrue (is_char c) → c < 0x110000
char_bound c h = grind (arith, nat_tests)

near : (pc k : ℕ) → pc < 2 ^ 32 → k < 2 ^ 20 → plus pc k ≡ pc + k
near pc k h l = omega arith

-- at the end of the input
pub read_ends : (space : Space) (places : ℕ → Option Place) (m0 : ℕ → ℕ) (s : State) → Good m0 s → s.pc < 2 ^ 31 → s.input ≡ [] →
    Stand space places s.pc read_slots → Comes space m0 5 s (s.pc + 32) nil s.output []
unfolding executed
read_ends space places m0 s h low none st =
    let i1 = i.Imm imm.Addi 17 0 2 in
    let s1 = executed space i1 s in
    let s2 = reads [] s1 in
    let i3 = i.Imm imm.Addi 5 0 4095 in
    let s3 = executed space i3 s2 in
    let i4 = i.Branch branch.Beq 16 5 8 in
    let s4 = record s3 { pc = s.pc + 4 + 4 + 4 + 4 + 4 + 4 + 4 } in
    let i8 = i.Imm imm.Addi 10 19 0 in
    let t = executed space i8 s4 in
    let read : executed space i.Ecall s1 ≡ s2 = ap (λ (x : List ℕ). reads x s1) none in
    let far : plus (s.pc + 4 + 4 + 4) 16 ≡ s.pc + 4 + 4 + 4 + 4 + 4 + 4 + 4 = omega arith in
    let jump : executed space i4 s3 ≡ s4 = ap (λ (n : ℕ). record s3 { pc = n }) far in
    let e : t.registers 10 ≡ word_of_value nil = ap (λ (n : ℕ). plus n 0) h.nil_is in
    let p8 : Path space (Good m0) 1 s4 t = goes space (Good m0) 0 s4 t i8 h h.going st.2.2.2.2.2.2.2.0 refl in
    let p4 : Path space (Good m0) 2 s3 t = goes_to space (Good m0) 1 s3 s4 t i4 h h.going st.2.2.2.0 jump p8 in
    let p3 : Path space (Good m0) 3 s2 t = goes space (Good m0) 2 s2 t i3 h h.going st.2.2.0 p4 in
    let p2 : Path space (Good m0) 4 s1 t = goes_to space (Good m0) 3 s1 s2 t i.Ecall h h.going st.2.0 read p3 in
    record {
      t = t;
      path = goes space (Good m0) 4 s t i1 h h.going st.0 p2;
      good = valued m0 (s.registers 3) (s.registers 8) (s.registers 10) (s.registers 19) (others s.registers) s.memory s.ending (t.registers 10) nil h (omega arith) e;
      pc_is = (let k : s.pc + 4 + 4 + 4 + 4 + 4 + 4 + 4 + 4 ≡ s.pc + 32 = omega arith in k);
      a0_is = e;
      legal = omega arith;
      output_is = refl;
      input_is = none;
    }

-- a character
pub read_gives : (space : Space) (places : ℕ → Option Place) (m0 : ℕ → ℕ) (s : State) (c : ℕ) (cs : List ℕ) → Good m0 s → s.pc < 2 ^ 31 → s.input ≡ c ∷ cs → IsTrue (is_char c) →
    Stand space places s.pc read_slots → Comes space m0 7 s (s.pc + 32) (Char c) s.output cs
unfolding executed
read_gives space places m0 s c cs h low some char st =
    let bound : c < 0x110000 = char_bound c char in
    let i1 = i.Imm imm.Addi 17 0 2 in
    let s1 = executed space i1 s in
    let s2 = reads (c ∷ cs) s1 in
    let i3 = i.Imm imm.Addi 5 0 4095 in
    let s3 = executed space i3 s2 in
    let i4 = i.Branch branch.Beq 16 5 8 in
    let s4 = record s3 { pc = s.pc + 4 + 4 + 4 + 4 } in
    let i5 = i.Shift shift.Sll 16 16 8 in
    let s5 = executed space i5 s4 in
    let i6 = i.Imm imm.Addi 10 16 2 in
    let s6 = executed space i6 s5 in
    let i7 = i.Jal 0 4 in
    let t = record s6 { pc = s.pc + 32 } in
    let read : executed space i.Ecall s1 ≡ s2 = ap (λ (x : List ℕ). reads x s1) some in
    let other : (c == (2 ^ 64 - 1)) ≡ false = grind (arith, nat_tests) in
    let on : executed space i4 s3 ≡ s4 = ap (λ (b : Bool). branches b (plus s3.pc 16) s3) other in
    let far : plus (s.pc + 4 + 4 + 4 + 4 + 4 + 4) 8 ≡ s.pc + 32 = omega arith in
    let jump : executed space i7 s6 ≡ t = ap (λ (n : ℕ). record s6 { pc = n }) far in
    let e : t.registers 10 ≡ word_of_value (Char c) = (let k : plus (c * 2 ^ 8 % 2 ^ 64) 2 ≡ c * 256 + 2 = omega arith in k) in
    let good : Good m0 t = valued m0 (s.registers 3) (s.registers 8) (s.registers 10) (s.registers 19) (others s.registers) s.memory s.ending (t.registers 10) (Char c) h char e in
    let p7 : Path space (Good m0) 1 s6 t = goes_to space (Good m0) 0 s6 t t i7 good h.going st.2.2.2.2.2.2.0 jump refl in
    let p6 : Path space (Good m0) 2 s5 t = goes space (Good m0) 1 s5 t i6 h h.going st.2.2.2.2.2.0 p7 in
    let p5 : Path space (Good m0) 3 s4 t = goes space (Good m0) 2 s4 t i5 h h.going st.2.2.2.2.0 p6 in
    let p4 : Path space (Good m0) 4 s3 t = goes_to space (Good m0) 3 s3 s4 t i4 h h.going st.2.2.2.0 on p5 in
    let p3 : Path space (Good m0) 5 s2 t = goes space (Good m0) 4 s2 t i3 h h.going st.2.2.0 p4 in
    let p2 : Path space (Good m0) 6 s1 t = goes_to space (Good m0) 5 s1 s2 t i.Ecall h h.going st.2.0 read p3 in
    record {
      t = t;
      path = goes space (Good m0) 6 s t i1 h h.going st.0 p2;
      good = good;
      pc_is = refl;
      a0_is = e;
      legal = char;
      output_is = refl;
      input_is = refl;
    }
