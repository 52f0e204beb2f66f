-- What is read from the fields of a word has these fields.
use Rattle.std.proofs.Common.{◌≡◌, ℕ, ◌+◌, ◌*◌, ◌/◌, ◌%◌, ◌^◌, ◌<◌, ◌==◌, ◌&&◌, ◌||◌, Bool, true, false, refl, ap, sym, subst, ◌∙◌, arith, Option, Some, None, List, [], ◌∷◌, if◌then◌else◌}
use Rattle.std.specs.List.{find}
use Rattle.std.specs.Option.{option_map}
use Rattle.std.proofs.lemmas.Bool.{eqb-true}
use Rattle.rv_isa.specs.declared.fields.Fields.{Fields}
use Rattle.rv_isa.specs.declared.instr.Instr.{Instr}
use Rattle.rv_isa.specs.declared.instr.Instr.TheVariants as i
use Rattle.rv_isa.specs.declared.instr.Upper.TheVariants as upper
use Rattle.std.proofs.lemmas.Bool.Decides.{nat_tests}
use Rattle.rv_isa.specs.declared.instr.Upper.{Upper}
use Rattle.rv_isa.specs.Word.{AreFields, i_imm, s_imm, b_half, u_imm, j_half, jump_bits, jump_half}
use Rattle.rv_isa.specs.Encoding.{upper_opcode, branches, loads, stores, imms, shifts, ops, word_ops, fields, branch_code, branch_of, load_code, load_of, store_code, store_of, imm_code, imm_of, is_code, shift_code, shift_of, op_code, op_of, word_op_code, word_op_of, imm_instr_of, word_imm_instr_of, jalr_of, system_instr_of, instr_of}
use Rattle.rv_isa.specs.Valid.{IsInstr}
use Rattle.rv_isa.proofs.RoundTrip.{same_fields}

-- an instruction with these fields, if there is one
pub record ReadsBack (f : Fields) (o : Option Instr) : Type 0 where
  pub back : (x : Instr) → o ≡ Some x → (fields x ≡ f) × IsInstr x

none : (f : Fields) → ReadsBack f None
none f = record { back = λ x e. cc }

some : (f : Fields) (x : Instr) → fields x ≡ f → IsInstr x → ReadsBack f (Some x)
some f x same valid = record { back = λ y e. let p : x ≡ y = cc in subst (λ (z : Instr). (fields z ≡ f) × IsInstr z) p (same, valid) }

-- by a test of two numbers
test : {f : Fields} (a b : ℕ) {o p : Option Instr} → (a ≡ b → ReadsBack f o) → ReadsBack f p → ReadsBack f (if a == b then o else p)
test {f = f} a b {o = o} {p = p} yes_ no_ =
    let go : (c : Bool) → (c ≡ true → ReadsBack f o) → ReadsBack f (if c then o else p) = λ c. elim c as (λ (c : Bool). (c ≡ true → ReadsBack f o) → ReadsBack f (if c then o else p)) [ true ↦ (λ h. h refl) | false ↦ (λ h. no_) ] in
    go (a == b) (λ e. yes_ (eqb-true a b e))

map_of : {f : Fields} {A : Type 0} (g : A → Instr) (o : Option A) → ((x : A) → o ≡ Some x → ReadsBack f (Some (g x))) → ReadsBack f (option_map g o)
map_of g None h = record { back = λ x e. cc }
map_of g (Some y) h = h y refl

-- what is found passes the test
found : {A : Type 0} (p : A → Bool) (xs : List A) (x : A) → find p xs ≡ Some x → p x ≡ true
found p [] x e = cc
found p (y ∷ ys) x e =
    let go : (c : Bool) → c ≡ p y → (if c then Some y else find p ys) ≡ Some x → p x ≡ true = λ c. elim c as (λ (c : Bool). c ≡ p y → (if c then Some y else find p ys) ≡ Some x → p x ≡ true) [ true ↦ (λ q h. let same : y ≡ x = cc in sym (subst (λ z. true ≡ p z) same q)) | false ↦ (λ q h. found p ys x h) ] in
    go (p y) refl e

-- by a test of another kind
choice : {f : Fields} (c : Bool) {o p : Option Instr} → ReadsBack f o → ReadsBack f p → ReadsBack f (if c then o else p)
choice true a b = a
choice false a b = b

holds : {f : Fields} (c : Bool) {o : Option Instr} → (c ≡ true → ReadsBack f o) → ReadsBack f (if c then o else None)
holds true h = h refl
holds {f = f} false h = none f

-- two numbers that pass the tests of an operation's codes
is_code-true : (code : ℕ × ℕ) (m n : ℕ) → is_code code m n ≡ true → (code.0 ≡ m) × (code.1 ≡ n)
is_code-true code m n e =
    let go : (a b : Bool) → (a ≡ true → code.0 ≡ m) → (b ≡ true → code.1 ≡ n) → (a && b) ≡ true → (code.0 ≡ m) × (code.1 ≡ n) =
    λ a b. elim a as (λ (a : Bool). (a ≡ true → code.0 ≡ m) → (b ≡ true → code.1 ≡ n) → (a && b) ≡ true → (code.0 ≡ m) × (code.1 ≡ n)) [ true ↦ (λ p q h. (p refl, q h)) | false ↦ (λ p q h. cc) ] in
    go (code.0 == m) (code.1 == n) (eqb-true code.0 m) (eqb-true code.1 n) e

j_back : (n : ℕ) → n < 2 ^ 20 → jump_bits (jump_half n) ≡ n
j_back n h = omega arith

upper_reads : (f : Fields) → AreFields f → (u : Upper) → upper_opcode u ≡ f.opcode → ReadsBack f (Some (i.Upper u f.rd (u_imm f)))
upper_reads f k u e = some f _ (same_fields _ f e refl (omega arith) (omega arith) (omega arith) (omega arith)) (k.rd, omega arith)

jal_reads : (f : Fields) → AreFields f → f.opcode ≡ 0b1101111 → ReadsBack f (Some (i.Jal f.rd (j_half f)))
jal_reads f k e =
    let b : jump_bits (jump_half (u_imm f)) ≡ u_imm f = j_back (u_imm f) (omega arith) in
    some f _ (same_fields _ f (sym e) refl
    (ap (λ (n : ℕ). n % 2 ^ 3) b ∙ omega arith)
    (ap (λ (n : ℕ). n / 2 ^ 3 % 2 ^ 5) b ∙ omega arith)
    (ap (λ (n : ℕ). n / 2 ^ 8 % 2 ^ 5) b ∙ omega arith)
    (ap (λ (n : ℕ). n / 2 ^ 13) b ∙ omega arith)) (k.rd, omega arith)

jalr_reads : (f : Fields) → AreFields f → f.opcode ≡ 0b1100111 → ReadsBack f (jalr_of f)
jalr_reads f k e =
    test f.funct3 0 (λ z. some f _ (same_fields _ f (sym e) refl (sym z) refl (omega arith) (omega arith)) (k.rd, k.rs1, omega arith)) (none f)

branch_reads : (f : Fields) → AreFields f → f.opcode ≡ 0b1100011 → ReadsBack f (option_map (λ b. i.Branch b f.rs1 f.rs2 (b_half f)) (branch_of f.funct3))
branch_reads f k e =
    map_of (λ b. i.Branch b f.rs1 f.rs2 (b_half f)) (branch_of f.funct3) (λ b is.
    let c : branch_code b ≡ f.funct3 = eqb-true _ _ (found (λ b. branch_code b == f.funct3) branches b is) in
    some f _ (same_fields _ f (sym e) (omega arith) c refl refl (omega arith)) (k.rs1, k.rs2, omega arith))

load_reads : (f : Fields) → AreFields f → f.opcode ≡ 0b0000011 → ReadsBack f (option_map (λ l. i.Load l f.rd f.rs1 (i_imm f)) (load_of f.funct3))
load_reads f k e =
    map_of (λ l. i.Load l f.rd f.rs1 (i_imm f)) (load_of f.funct3) (λ l is.
    let c : load_code l ≡ f.funct3 = eqb-true _ _ (found (λ l. load_code l == f.funct3) loads l is) in
    some f _ (same_fields _ f (sym e) refl c refl (omega arith) (omega arith)) (k.rd, k.rs1, omega arith))

store_reads : (f : Fields) → AreFields f → f.opcode ≡ 0b0100011 → ReadsBack f (option_map (λ s. i.Store s f.rs1 f.rs2 (s_imm f)) (store_of f.funct3))
store_reads f k e =
    map_of (λ s. i.Store s f.rs1 f.rs2 (s_imm f)) (store_of f.funct3) (λ s is.
    let c : store_code s ≡ f.funct3 = eqb-true _ _ (found (λ s. store_code s == f.funct3) stores s is) in
    some f _ (same_fields _ f (sym e) (omega arith) c refl refl (omega arith)) (k.rs1, k.rs2, omega arith))

-- the high part of funct7 of a shift by six bits
shift_high : (code : ℕ × ℕ) (funct7 : ℕ) → code.1 ≡ funct7 / 2 * 2 → (rs2 : ℕ) → rs2 < 2 ^ 5 → funct7 < 2 ^ 7 → code.1 + (funct7 % 2 * 2 ^ 5 + rs2) / 2 ^ 5 ≡ funct7
shift_high code funct7 e rs2 h k = omega arith

imm_reads : (f : Fields) → AreFields f → f.opcode ≡ 0b0010011 → ReadsBack f (option_map (λ o. i.Imm o f.rd f.rs1 (i_imm f)) (imm_of f.funct3))
imm_reads f k e =
    map_of (λ o. i.Imm o f.rd f.rs1 (i_imm f)) (imm_of f.funct3) (λ o is.
    let c : imm_code o ≡ f.funct3 = eqb-true _ _ (found (λ o. imm_code o == f.funct3) imms o is) in
    some f _ (same_fields _ f (sym e) refl c refl (omega arith) (omega arith)) (k.rd, k.rs1, omega arith))

shift_reads : (f : Fields) → AreFields f → f.opcode ≡ 0b0010011 → ReadsBack f (option_map (λ s. i.Shift s f.rd f.rs1 (f.funct7 % 2 * 2 ^ 5 + f.rs2)) (shift_of f.funct3 (f.funct7 / 2 * 2)))
shift_reads f k e =
    map_of (λ s. i.Shift s f.rd f.rs1 (f.funct7 % 2 * 2 ^ 5 + f.rs2)) (shift_of f.funct3 (f.funct7 / 2 * 2)) (λ s is.
    let c : ((shift_code s).0 ≡ f.funct3) × ((shift_code s).1 ≡ f.funct7 / 2 * 2) = is_code-true _ _ _ (found (λ s. is_code (shift_code s) f.funct3 (f.funct7 / 2 * 2)) shifts s is) in
    some f _ (same_fields _ f (sym e) refl c.0 refl (omega arith) (shift_high (shift_code s) f.funct7 c.1 f.rs2 k.rs2 k.funct7)) (k.rd, k.rs1, omega arith))

imm_instr_reads : (f : Fields) → AreFields f → f.opcode ≡ 0b0010011 → ReadsBack f (imm_instr_of f)
unfolding imm_instr_of
imm_instr_reads f k e = choice ((f.funct3 == 1) || (f.funct3 == 5)) (shift_reads f k e) (imm_reads f k e)

word_imm_instr_reads : (f : Fields) → AreFields f → f.opcode ≡ 0b0011011 → ReadsBack f (word_imm_instr_of f)
unfolding word_imm_instr_of
word_imm_instr_reads f k e =
    test f.funct3 0 (λ z. some f _ (same_fields _ f (sym e) refl (sym z) refl (omega arith) (omega arith)) (k.rd, k.rs1, omega arith))
    (map_of (λ s. i.ShiftWord s f.rd f.rs1 f.rs2) (shift_of f.funct3 f.funct7) (λ s is.
    let c : ((shift_code s).0 ≡ f.funct3) × ((shift_code s).1 ≡ f.funct7) = is_code-true _ _ _ (found (λ s. is_code (shift_code s) f.funct3 f.funct7) shifts s is) in
    some f _ (same_fields _ f (sym e) refl c.0 refl refl c.1) (k.rd, k.rs1, k.rs2)))

op_reads : (f : Fields) → AreFields f → f.opcode ≡ 0b0110011 → ReadsBack f (option_map (λ o. i.Op o f.rd f.rs1 f.rs2) (op_of f.funct3 f.funct7))
op_reads f k e =
    map_of (λ o. i.Op o f.rd f.rs1 f.rs2) (op_of f.funct3 f.funct7) (λ o is.
    let c : ((op_code o).0 ≡ f.funct3) × ((op_code o).1 ≡ f.funct7) = is_code-true _ _ _ (found (λ o. is_code (op_code o) f.funct3 f.funct7) ops o is) in
    some f _ (same_fields _ f (sym e) refl c.0 refl refl c.1) (k.rd, k.rs1, k.rs2))

word_op_reads : (f : Fields) → AreFields f → f.opcode ≡ 0b0111011 → ReadsBack f (option_map (λ o. i.WordOp o f.rd f.rs1 f.rs2) (word_op_of f.funct3 f.funct7))
word_op_reads f k e =
    map_of (λ o. i.WordOp o f.rd f.rs1 f.rs2) (word_op_of f.funct3 f.funct7) (λ o is.
    let c : ((word_op_code o).0 ≡ f.funct3) × ((word_op_code o).1 ≡ f.funct7) = is_code-true _ _ _ (found (λ o. is_code (word_op_code o) f.funct3 f.funct7) word_ops o is) in
    some f _ (same_fields _ f (sym e) refl c.0 refl refl c.1) (k.rd, k.rs1, k.rs2))

all_zero : (a b c d e : ℕ) → ((a == 0) && ((b == 0) && ((c == 0) && ((d == 0) && (e == 0))))) ≡ true → (a ≡ 0) × (b ≡ 0) × (c ≡ 0) × (d ≡ 0) × (e ≡ 0)
all_zero a b c d e h = grind (arith, nat_tests)

system_reads : (f : Fields) → AreFields f → f.opcode ≡ 0b1110011 → ReadsBack f (system_instr_of f)
system_reads f k e =
    holds ((f.rd == 0) && ((f.funct3 == 0) && ((f.rs1 == 0) && ((f.rs2 == 0) && (f.funct7 == 0))))) (λ h.
    let z : (f.rd ≡ 0) × (f.funct3 ≡ 0) × (f.rs1 ≡ 0) × (f.rs2 ≡ 0) × (f.funct7 ≡ 0) = all_zero _ _ _ _ _ h in
    some f _ (same_fields _ f (sym e) (sym z.0) (sym z.1) (sym z.2) (sym z.3) (sym z.4)) tt)

pub reads_back : (f : Fields) → AreFields f → ReadsBack f (instr_of f)
unfolding instr_of
reads_back f k =
    test f.opcode 0b0110111 (λ e. upper_reads f k upper.Lui (sym e)) (
    test f.opcode 0b0010111 (λ e. upper_reads f k upper.Auipc (sym e)) (
    test f.opcode 0b1101111 (λ e. jal_reads f k e) (
    test f.opcode 0b1100111 (λ e. jalr_reads f k e) (
    test f.opcode 0b1100011 (λ e. branch_reads f k e) (
    test f.opcode 0b0000011 (λ e. load_reads f k e) (
    test f.opcode 0b0100011 (λ e. store_reads f k e) (
    test f.opcode 0b0010011 (λ e. imm_instr_reads f k e) (
    test f.opcode 0b0011011 (λ e. word_imm_instr_reads f k e) (
    test f.opcode 0b0110011 (λ e. op_reads f k e) (
    test f.opcode 0b0111011 (λ e. word_op_reads f k e) (
    test f.opcode 0b1110011 (λ e. system_reads f k e) (none f))))))))))))
