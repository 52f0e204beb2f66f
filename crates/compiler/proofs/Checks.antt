-- What the instructions of a check for a character, and of WRITE-CHAR, do.
use Rattle.std.proofs.Common.{refl, ap, subst, ◌∙◌, arith}
use Rattle.std.proofs.lemmas.Bool.{eq-eqb}
use Rattle.std.proofs.lemmas.Nat.{and_mask}
use Rattle.std.specs.Prelude.{◌≡◌, ℕ, zero, suc, ◌+◌, ◌/◌, ◌%◌, ◌^◌, ◌<◌, Bool, true, false, ◌==◌, if◌then◌else◌, bit_and, IsTrue, [], ◌∷◌, ◌++◌, Option, Some}
use Rattle.lisp_base.specs.declared.values.Val.{Val}
use Rattle.lisp_base.specs.declared.values.Val.TheVariants.{Int, Char, Sym, Ref}
use Rattle.lisp_base.specs.declared.values.Place.{Place}
use Rattle.lisp_base.specs.Sort.{number_of}
use Rattle.lisp_base.specs.Membership.{is_character}
use Rattle.rv_isa.specs.declared.instr.Instr.TheVariants as i
use Rattle.rv_isa.specs.declared.instr.Branch.TheVariants as branch
use Rattle.rv_isa.specs.declared.instr.Shift.TheVariants as shift
use Rattle.rv_isa.specs.declared.instr.ImmOp.TheVariants as imm
use Rattle.rv_isa.specs.declared.ending.Ending.TheVariants as ending
use Rattle.rv_isa.specs.Machine.{Space, State, executed, is_char, writes, branches}
use Rattle.rv_isa.specs.Operations.{plus}
use Rattle.object_model.specs.Words.{character_word}
use Rattle.compiler.specs.Words.{word_of_value, symbol_word}
use Rattle.compiler.specs.Templates.{check_slots, write_slots, end_slots}
use Rattle.compiler.proofs.Paths.{Path, Stand, goes, goes_to}
use Rattle.compiler.proofs.Calm.{Good, Legal, Comes, Halts}

low_of_char : (c : ℕ) → (bit_and (character_word c) 255 == 2) ≡ true
low_of_char c =
    let e : bit_and (character_word c) 255 ≡ character_word c % 256 = and_mask (character_word c) 8 in
    let k : character_word c % 256 ≡ 2 = omega arith in
    eq-eqb (bit_and (character_word c) 255) 2 (e ∙ k)

low_of_symbol : (n : ℕ) → (bit_and (symbol_word n) 255 == 2) ≡ false
low_of_symbol zero = refl
low_of_symbol (suc n) = refl

low_of_other : (v : Val) → Legal v → is_character v ≡ false → (bit_and (word_of_value v) 255 == 2) ≡ false
low_of_other (Int z) l h = refl
low_of_other (Char c) l h = absurd (cc)
low_of_other (Sym s) l h = low_of_symbol (number_of s)
low_of_other (Ref o) l h = absurd l

-- a character passes
pub check_passes : (space : Space) (places : ℕ → Option Place) (m0 : ℕ → ℕ) (s : State) (c : ℕ) (p : Place) → Good m0 s → s.pc < 2 ^ 31 → s.registers 10 ≡ character_word c → IsTrue (is_char c) →
    Stand space places s.pc (check_slots p) → Comes space m0 3 s (s.pc + 24) (Char c) s.output s.input
unfolding executed
check_passes space places m0 s c p h low a0 char st =
    let i1 = i.Imm imm.Andi 5 10 255 in
    let s1 = executed space i1 s in
    let i2 = i.Imm imm.Addi 16 0 2 in
    let s2 = executed space i2 s1 in
    let i3 = i.Branch branch.Beq 5 16 8 in
    let t = record s2 { pc = s.pc + 24 } in
    let same : (bit_and (s.registers 10) 255 == 2) ≡ true = ap (λ (n : ℕ). bit_and n 255 == 2) a0 ∙ low_of_char c in
    let far : plus (s.pc + 4 + 4) 16 ≡ s.pc + 24 = omega arith in
    let jump : executed space i3 s2 ≡ t =
    ap (λ (b : Bool). branches b (plus s2.pc 16) s2) same ∙ ap (λ (n : ℕ). record s2 { pc = n }) far in
    let p3 : Path space (Good m0) 1 s2 t = goes_to space (Good m0) 0 s2 t t i3 h h.going st.2.2.0 jump refl in
    let p2 : Path space (Good m0) 2 s1 t = goes space (Good m0) 1 s1 t i2 h h.going st.2.0 p3 in
    record {
      t = t;
      path = goes space (Good m0) 2 s t i1 h h.going st.0 p2;
      good = h;
      pc_is = refl;
      a0_is = a0;
      legal = char;
      output_is = refl;
      input_is = refl;
    }

-- another value ends the run
pub check_fails : (space : Space) (places : ℕ → Option Place) (m0 : ℕ → ℕ) (s : State) (v : Val) (p : Place) → Good m0 s → s.registers 10 ≡ word_of_value v → Legal v → is_character v ≡ false →
    Stand space places s.pc (check_slots p) → Halts space m0 6 s (ending.Error 1 (s.registers 10) (s.registers 11) (s.registers 12) (s.pc + 20)) s.output
unfolding executed
check_fails space places m0 s v p h a0 l other st =
    let i1 = i.Imm imm.Andi 5 10 255 in
    let s1 = executed space i1 s in
    let i2 = i.Imm imm.Addi 16 0 2 in
    let s2 = executed space i2 s1 in
    let i3 = i.Branch branch.Beq 5 16 8 in
    let s3 = record s2 { pc = s.pc + 4 + 4 + 4 } in
    let i4 = i.Imm imm.Addi 17 0 4 in
    let s4 = executed space i4 s3 in
    let i5 = i.Imm imm.Addi 16 0 1 in
    let s5 = executed space i5 s4 in
    let e = ending.Error 1 (s.registers 10) (s.registers 11) (s.registers 12) (s.pc + 20) in
    let t = record s5 { ending = Some e } in
    let same : (bit_and (s.registers 10) 255 == 2) ≡ false = ap (λ (n : ℕ). bit_and n 255 == 2) a0 ∙ low_of_other v l other in
    let on : executed space i3 s2 ≡ s3 = ap (λ (b : Bool). branches b (plus s2.pc 16) s2) same in
    let at : s.pc + 4 + 4 + 4 + 4 + 4 ≡ s.pc + 20 = omega arith in
    let stop : executed space i.Ecall s5 ≡ t =
    ap (λ (n : ℕ). record s5 { ending = Some (ending.Error 1 (s.registers 10) (s.registers 11) (s.registers 12) n) }) at in
    let p6 : Path space (Good m0) 1 s5 t = goes_to space (Good m0) 0 s5 t t i.Ecall h h.going st.2.2.2.2.2.0 stop refl in
    let p5 : Path space (Good m0) 2 s4 t = goes space (Good m0) 1 s4 t i5 h h.going st.2.2.2.2.0 p6 in
    let p4 : Path space (Good m0) 3 s3 t = goes space (Good m0) 2 s3 t i4 h h.going st.2.2.2.0 p5 in
    let p3 : Path space (Good m0) 4 s2 t = goes_to space (Good m0) 3 s2 s3 t i3 h h.going st.2.2.0 on p4 in
    let p2 : Path space (Good m0) 5 s1 t = goes space (Good m0) 4 s1 t i2 h h.going st.2.0 p3 in
    record {
      t = t;
      last = s5;
      path = goes space (Good m0) 5 s t i1 h h.going st.0 p2;
      good = h;
      differs = refl;
      output_is = refl;
    }

-- where the error's place is
pub check_sited : (space : Space) (places : ℕ → Option Place) (pc : ℕ) (p : Place) → Stand space places pc (check_slots p) → places (pc + 20) ≡ Some p
check_sited space places pc p st =
    let at : pc + 4 + 4 + 4 + 4 + 4 ≡ pc + 20 = omega arith in
    subst (λ (n : ℕ). places n ≡ Some p) at st.2.2.2.2.2.1

pub write_comes : (space : Space) (places : ℕ → Option Place) (m0 : ℕ → ℕ) (s : State) (c : ℕ) → Good m0 s → s.registers 10 ≡ character_word c → IsTrue (is_char c) →
    Stand space places s.pc write_slots → Comes space m0 3 s (s.pc + 12) (Char c) (s.output ++ c ∷ []) s.input
unfolding executed
write_comes space places m0 s c h a0 char st =
    let i1 = i.Shift shift.Srl 16 10 8 in
    let s1 = executed space i1 s in
    let i2 = i.Imm imm.Addi 17 0 1 in
    let s2 = executed space i2 s1 in
    let t = record s2 { output = s.output ++ c ∷ []; pc = s.pc + 12 } in
    let back : character_word c / 2 ^ 8 ≡ c = omega arith in
    let code : s.registers 10 / 2 ^ 8 ≡ c = ap (λ (n : ℕ). n / 2 ^ 8) a0 ∙ back in
    let is : is_char c ≡ true = char in
    let at : s.pc + 4 + 4 + 4 ≡ s.pc + 12 = omega arith in
    let put : executed space i.Ecall s2 ≡ t =
    (ap (λ (n : ℕ). writes n s2) code ∙
    ap (λ (b : Bool). if b then record s2 { output = s2.output ++ c ∷ []; pc = s2.pc + 4 } else writes 0xD800 s2) is) ∙
    ap (λ (n : ℕ). record s2 { output = s.output ++ c ∷ []; pc = n }) at in
    let p3 : Path space (Good m0) 1 s2 t = goes_to space (Good m0) 0 s2 t t i.Ecall h h.going st.2.2.0 put refl in
    let p2 : Path space (Good m0) 2 s1 t = goes space (Good m0) 1 s1 t i2 h h.going st.2.0 p3 in
    record {
      t = t;
      path = goes space (Good m0) 2 s t i1 h h.going st.0 p2;
      good = h;
      pc_is = refl;
      a0_is = a0;
      legal = char;
      output_is = refl;
      input_is = refl;
    }

pub end_halts : (space : Space) (places : ℕ → Option Place) (m0 : ℕ → ℕ) (s : State) → Good m0 s →
    Stand space places s.pc end_slots → Halts space m0 2 s (ending.Value (s.registers 10)) s.output
unfolding executed
end_halts space places m0 s h st =
    let i1 = i.Imm imm.Addi 17 0 3 in
    let s1 = executed space i1 s in
    let t = executed space i.Ecall s1 in
    let p2 : Path space (Good m0) 1 s1 t = goes space (Good m0) 0 s1 t i.Ecall h h.going st.2.0 refl in
    record {
      t = t;
      last = s1;
      path = goes space (Good m0) 1 s t i1 h h.going st.0 p2;
      good = h;
      differs = refl;
      output_is = refl;
    }
