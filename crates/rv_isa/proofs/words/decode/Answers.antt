-- What the fields of the word give is an instruction with these fields, and an instruction with this word has these fields.
use Rattle.std.proofs.Common.{◌≡◌, ℕ, ◌<◌, ◌^◌, ap, refl, sym, subst, ◌∙◌, arith, Option, Some, None}
use Rattle.std.specs.Option.{IfSome, IsNone}
use Rattle.rv_isa.specs.declared.instr.Instr.{Instr}
use Rattle.rv_isa.specs.Encoding.{encoding, decoded, instr_of}
use Rattle.rv_isa.specs.Valid.{IsInstr, IsWord}
use Rattle.rv_isa.proofs.Laws.{encoding-decoded, decoded-encoding}
use Rattle.rv_isa.proofs.words.decode.Goals as goal

read : (o : Option Instr) (w : ℕ) → w < 2 ^ 32 → o ≡ decoded w → IfSome o (λ i. IsInstr i × (encoding i ≡ w))
read None w k e = tt
read (Some x) w k e = encoding-decoded w k x (sym e)

none_given : (o : Option Instr) (w : ℕ) → o ≡ decoded w → IsNone o → IsWord w → ⊥
none_given None w e n s = let h = subst (λ (v : ℕ). decoded v ≡ Some s.0) s.2 (decoded-encoding s.0 s.1) in cc
none_given (Some x) w e n s = absurd (cc)

none_where : (o : Option Instr) (w : ℕ) → w < 2 ^ 32 → o ≡ decoded w → ¬ IsWord w → IsNone o
none_where None w k e n = refl
none_where (Some x) w k e n = let h = encoding-decoded w k x (sym e) in absurd (n (x, h.0, h.1))

pub returns-clause-back : goal.returns-clause-back
unfolding decoded
returns-clause-back c = read c.instr.result c.args.word (omega arith) (c.instr.ensures ∙ ap instr_of c.of_word.ensures)

pub returns-clause-none : goal.returns-clause-none
unfolding decoded
returns-clause-none c =
    let e : c.instr.result ≡ decoded c.args.word = c.instr.ensures ∙ ap instr_of c.of_word.ensures in
    (none_given c.instr.result c.args.word e, none_where c.instr.result c.args.word (omega arith) e)
