-- What the instructions of a constant do.
use Rattle.std.proofs.Common.{refl, ap, arith}
use Rattle.std.specs.Prelude.{◌≡◌, ℕ, ◌+◌, ◌*◌, ◌^◌, ◌<◌, Option}
use Rattle.std.proofs.lemmas.Bool.Decides.{nat_tests}
use Rattle.lisp_base.specs.declared.values.Val.{Val}
use Rattle.lisp_base.specs.declared.values.Place.{Place}
use Rattle.lisp_base.specs.Sort.{nil}
use Rattle.rv_isa.specs.declared.instr.Instr.TheVariants as i
use Rattle.rv_isa.specs.declared.instr.Upper.TheVariants as upper
use Rattle.rv_isa.specs.declared.instr.ImmOp.TheVariants as imm
use Rattle.rv_isa.specs.Machine.{Space, State, executed}
use Rattle.rv_isa.specs.Operations.{plus, extended}
use Rattle.compiler.specs.Words.{word_of_value}
use Rattle.compiler.specs.Templates.{nil_slots, word_slots, upper_part, lower_part}
use Rattle.compiler.proofs.Paths.{Stand, goes}
use Rattle.compiler.proofs.Calm.{Good, Legal, Comes, valued, others}

pub nil_comes : (space : Space) (places : ℕ → Option Place) (m0 : ℕ → ℕ) (s : State) → Good m0 s → Stand space places s.pc nil_slots →
    Comes space m0 1 s (s.pc + 4) nil s.output s.input
unfolding executed
nil_comes space places m0 s h st =
    let t = executed space (i.Imm imm.Addi 10 19 0) s in
    let e : t.registers 10 ≡ word_of_value nil = ap (λ (n : ℕ). plus n 0) h.nil_is in
    record {
      t = t;
      path = goes space (Good m0) 0 s t (i.Imm imm.Addi 10 19 0) h h.going st.0 refl;
      good = valued m0 (s.registers 3) (s.registers 8) (s.registers 10) (s.registers 19) (others s.registers) s.memory s.ending (t.registers 10) nil h (omega arith) e;
      pc_is = refl;
      a0_is = e;
      legal = omega arith;
      output_is = refl;
      input_is = refl;
    }

-- the two parts of a word give the word
parts_give : (w : ℕ) → w < 2 ^ 30 → plus (extended 32 (upper_part w * 2 ^ 12)) (extended 12 (lower_part w)) ≡ w
parts_give w h = grind (arith, nat_tests)

pub word_comes : (space : Space) (places : ℕ → Option Place) (m0 : ℕ → ℕ) (s : State) (v : Val) → Good m0 s → Legal v → word_of_value v < 2 ^ 30 →
    Stand space places s.pc (word_slots (word_of_value v)) → Comes space m0 2 s (s.pc + 8) v s.output s.input
unfolding executed
word_comes space places m0 s v h l small st =
    let w = word_of_value v in
    let i1 = i.Upper upper.Lui 5 (upper_part w) in
    let i2 = i.Imm imm.Addi 10 5 (lower_part w) in
    let s1 = executed space i1 s in
    let t = executed space i2 s1 in
    let e : t.registers 10 ≡ w = parts_give w small in
    record {
      t = t;
      path = goes space (Good m0) 1 s t i1 h h.going st.0 (goes space (Good m0) 0 s1 t i2 h h.going st.2.0 refl);
      good = valued m0 (s.registers 3) (s.registers 8) (s.registers 10) (s.registers 19) (others s.registers) s.memory s.ending (t.registers 10) v h l e;
      pc_is = (let k : s.pc + 4 + 4 ≡ s.pc + 8 = omega arith in k);
      a0_is = e;
      legal = l;
      output_is = refl;
      input_is = refl;
    }
