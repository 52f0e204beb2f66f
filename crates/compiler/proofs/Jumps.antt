-- What the jumps between the parts of an IF do.
use Rattle.std.proofs.Common.{refl, sym, ap, ◌∙◌, arith}
use Rattle.std.proofs.lemmas.Bool.Decides.{nat_tests}
use Rattle.std.proofs.Math.Dec.{eqb-suc-zero}
use Rattle.std.specs.Prelude.{◌≡◌, ℕ, zero, suc, ◌+◌, ◌*◌, ◌^◌, ◌<◌, Bool, true, false, not, ◌==◌, [], ◌∷◌, Option}
use Rattle.lisp_base.specs.declared.values.Val.{Val}
use Rattle.lisp_base.specs.declared.values.Val.TheVariants.{Int, Char, Sym, Ref}
use Rattle.lisp_base.specs.declared.values.Place.{Place}
use Rattle.lisp_base.specs.Sort.{nil, number_of, same}
use Rattle.rv_isa.specs.declared.instr.Instr.TheVariants as i
use Rattle.rv_isa.specs.declared.instr.Branch.TheVariants as branch
use Rattle.rv_isa.specs.Machine.{Space, State, executed, branches}
use Rattle.rv_isa.specs.Operations.{plus, extended}
use Rattle.object_model.specs.Words.{character_word}
use Rattle.compiler.specs.Words.{word_of_value, symbol_word, nil_word}
use Rattle.compiler.specs.Templates.{skip, test_slots}
use Rattle.compiler.proofs.Paths.{Stand, goes_to}
use Rattle.compiler.proofs.Calm.{Good, Legal, Comes}

char_is_not : (c : ℕ) → (character_word c == nil_word) ≡ false
char_is_not c = grind (arith, nat_tests)

symbol_is : (n : ℕ) (b : Bool) → (n == 0) ≡ b → (symbol_word n == nil_word) ≡ b
symbol_is zero b h = h
symbol_is (suc n) b h = sym (eqb-suc-zero n) ∙ h

-- the word of NIL is that of no other value
pub same_word : (v : Val) (b : Bool) → Legal v → same v nil ≡ b → (word_of_value v == nil_word) ≡ b
same_word (Int z) b l h = h
same_word (Char c) b l h = char_is_not c ∙ h
same_word (Sym s) b l h = symbol_is (number_of s) b h
same_word (Ref o) b l h = absurd l

reach : (pc n : ℕ) → pc < 2 ^ 31 → 4 * (n + 1) < 2 ^ 20 → plus pc (extended 21 (2 * (n + 1) * 2)) ≡ pc + 4 * (n + 1)
reach pc n h l =
    let e : 2 * (n + 1) * 2 ≡ 4 * (n + 1) = omega arith in
    let k : plus pc (extended 21 (4 * (n + 1))) ≡ pc + 4 * (n + 1) = grind (arith, nat_tests) in
    ap (λ (x : ℕ). plus pc (extended 21 x)) e ∙ k

pub skip_comes : (space : Space) (places : ℕ → Option Place) (m0 : ℕ → ℕ) (s : State) (v : Val) (n : ℕ) → Good m0 s → s.registers 10 ≡ word_of_value v → Legal v → s.pc < 2 ^ 31 → 4 * (n + 1) < 2 ^ 20 →
    Stand space places s.pc (skip n ∷ []) → Comes space m0 1 s (s.pc + 4 * (n + 1)) v s.output s.input
unfolding executed
skip_comes space places m0 s v n h a0 l low near st =
    let i1 = i.Jal 0 (2 * (n + 1)) in
    let t = record s { pc = s.pc + 4 * (n + 1) } in
    let jump : executed space i1 s ≡ t = ap (λ (x : ℕ). record s { pc = x }) (reach s.pc n low near) in
    record {
      t = t;
      path = goes_to space (Good m0) 0 s t t i1 h h.going st.0 jump refl;
      good = h;
      pc_is = refl;
      a0_is = a0;
      legal = l;
      output_is = refl;
      input_is = refl;
    }

-- the value is not NIL
pub test_passes : (space : Space) (places : ℕ → Option Place) (m0 : ℕ → ℕ) (s : State) (v : Val) (n : ℕ) → Good m0 s → s.registers 10 ≡ word_of_value v → Legal v → s.pc < 2 ^ 31 → same v nil ≡ false →
    Stand space places s.pc (test_slots n) → Comes space m0 1 s (s.pc + 8) v s.output s.input
unfolding executed
test_passes space places m0 s v n h a0 l low other st =
    let i1 = i.Branch branch.Bne 10 19 4 in
    let t = record s { pc = s.pc + 8 } in
    let test : not (s.registers 10 == s.registers 19) ≡ true =
    (ap (λ (x : ℕ). not (x == s.registers 19)) a0 ∙ ap (λ (x : ℕ). not (word_of_value v == x)) h.nil_is) ∙ ap not (same_word v false l other) in
    let far : plus s.pc 8 ≡ s.pc + 8 = omega arith in
    let jump : executed space i1 s ≡ t =
    ap (λ (b : Bool). branches b (plus s.pc 8) s) test ∙ ap (λ (x : ℕ). record s { pc = x }) far in
    record {
      t = t;
      path = goes_to space (Good m0) 0 s t t i1 h h.going st.0 jump refl;
      good = h;
      pc_is = refl;
      a0_is = a0;
      legal = l;
      output_is = refl;
      input_is = refl;
    }

-- the value is NIL
pub test_fails : (space : Space) (places : ℕ → Option Place) (m0 : ℕ → ℕ) (s : State) (v : Val) (n : ℕ) → Good m0 s → s.registers 10 ≡ word_of_value v → Legal v → s.pc < 2 ^ 30 → 4 * (n + 2) < 2 ^ 20 → same v nil ≡ true →
    Stand space places s.pc (test_slots n) → Comes space m0 2 s (s.pc + (8 + 4 * (n + 1))) v s.output s.input
unfolding executed
test_fails space places m0 s v n h a0 l low near alike st =
    let i1 = i.Branch branch.Bne 10 19 4 in
    let s1 = record s { pc = s.pc + 4 } in
    let test : not (s.registers 10 == s.registers 19) ≡ false =
    (ap (λ (x : ℕ). not (x == s.registers 19)) a0 ∙ ap (λ (x : ℕ). not (word_of_value v == x)) h.nil_is) ∙ ap not (same_word v true l alike) in
    let on : executed space i1 s ≡ s1 = ap (λ (b : Bool). branches b (plus s.pc 8) s) test in
    let r = skip_comes space places m0 s1 v (n + 1) h a0 l (omega arith) (omega arith) (st.2.0, tt, tt) in
    record {
      t = r.t;
      path = goes_to space (Good m0) 1 s s1 r.t i1 h h.going st.0 on r.path;
      good = r.good;
      pc_is = (let k : s.pc + 4 + 4 * (n + 1 + 1) ≡ s.pc + (8 + 4 * (n + 1)) = omega arith in r.pc_is ∙ k);
      a0_is = r.a0_is;
      legal = l;
      output_is = r.output_is;
      input_is = r.input_is;
    }
