-- The machine after one number of steps and another, and that what it wrote stays written.
use Rattle.std.proofs.Common.{◌≡◌, ℕ, zero, suc, ◌+◌, ◌/◌, List, [], ◌∷◌, ◌++◌, Option, None, Some, Bool, true, false, refl, ap, ◌∙◌, arith, append_assoc, zero-add, rules}
use Rattle.std.specs.Prelude.{if◌then◌else◌, ◌==◌, ◌&&◌, nat_le}
use Rattle.rv_isa.specs.declared.instr.Instr.{Instr}
use Rattle.rv_isa.specs.declared.instr.Instr.TheVariants as i
use Rattle.rv_isa.specs.declared.instr.Load.{Load}
use Rattle.rv_isa.specs.declared.instr.Store.{Store}
use Rattle.rv_isa.specs.declared.ending.Ending.{Ending}
use Rattle.rv_isa.specs.declared.ending.Ending.TheVariants as ending
use Rattle.rv_isa.specs.Operations.{plus, extended, load_bytes, load_value, store_bytes}
use Rattle.rv_isa.specs.Machine.{Space, State, step, step_from, steps, executed, executed_if, fetched, reads, writes, fails, calls, loads, stores, sets, trapped, ended, put, reg, with_bytes, bytes_of, word_at, is_readable, is_writable, is_char}

-- one state has written what another has, and perhaps more
pub record Grows (a b : State) : Type 0 where
  pub more : List ℕ
  pub is : b.output ≡ a.output ++ more

pub append_none : (xs : List ℕ) → xs ≡ xs ++ []
append_none xs = search rules

same : (a b : State) → b.output ≡ a.output → Grows a b
same a b is = record { more = []; is = is ∙ append_none a.output }

chosen : (b : Bool) (m x y : State) → Grows m x → Grows m y → Grows m (if b then x else y)
chosen true m x y p q = p
chosen false m x y p q = q

loads_grow : (space : Space) (l : Load) (rd address : ℕ) (m : State) → Grows m (loads space l rd address m)
loads_grow space l rd address m =
    chosen (is_readable space address (load_bytes l)) m (sets rd (load_value l (bytes_of (word_at space m.memory address) address (load_bytes l))) m) (trapped m)
    (same m _ refl) (same m _ refl)

stores_grow : (space : Space) (s : Store) (address v : ℕ) (m : State) → Grows m (stores space s address v m)
stores_grow space s address v m =
    chosen (is_writable space address (store_bytes s)) m (record m { memory = put (address / 8) (with_bytes (m.memory (address / 8)) address (store_bytes s) v) m.memory; pc = m.pc + 4 }) (trapped m)
    (same m _ refl) (same m _ refl)

writes_grow : (c : ℕ) (m : State) → Grows m (writes c m)
writes_grow c m =
    chosen (is_char c) m (record m { output = m.output ++ c ∷ []; pc = m.pc + 4 }) (trapped m)
    (record { more = c ∷ []; is = refl }) (same m _ refl)

reads_grow : (input : List ℕ) (m : State) → Grows m (reads input m)
reads_grow [] m = same m _ refl
reads_grow (c ∷ cs) m = same m _ refl

fails_grow : (kind : ℕ) (m : State) → Grows m (fails kind m)
fails_grow kind m =
    chosen (nat_le 1 kind && nat_le kind 10) m (ended (ending.Error kind (reg m.registers 10) (reg m.registers 11) (reg m.registers 12) m.pc) m) (trapped m)
    (same m _ refl) (same m _ refl)

-- the environment calls from a number on
abbrev from_6 : ℕ → State → State
from_6 n m = if n == 6 then ended ending.Stack m else trapped m

abbrev from_5 : ℕ → State → State
from_5 n m = if n == 5 then ended ending.Heap m else from_6 n m

abbrev from_4 : ℕ → State → State
from_4 n m = if n == 4 then fails (reg m.registers 16) m else from_5 n m

abbrev from_3 : ℕ → State → State
from_3 n m = if n == 3 then ended (ending.Value (reg m.registers 10)) m else from_4 n m

abbrev from_2 : ℕ → State → State
from_2 n m = if n == 2 then reads m.input m else from_3 n m

calls_grow : (n : ℕ) (m : State) → Grows m (calls n m)
calls_grow n m =
    chosen (n == 1) m (writes (reg m.registers 16) m) (from_2 n m) (writes_grow (reg m.registers 16) m) (
    chosen (n == 2) m (reads m.input m) (from_3 n m) (reads_grow m.input m) (
    chosen (n == 3) m (ended (ending.Value (reg m.registers 10)) m) (from_4 n m) (same m _ refl) (
    chosen (n == 4) m (fails (reg m.registers 16) m) (from_5 n m) (fails_grow (reg m.registers 16) m) (
    chosen (n == 5) m (ended ending.Heap m) (from_6 n m) (same m _ refl) (
    chosen (n == 6) m (ended ending.Stack m) (trapped m) (same m _ refl) (same m _ refl))))))

executed_grows : (space : Space) (instr : Instr) (m : State) → Grows m (executed space instr m)
unfolding executed
executed_grows space (i.Upper u rd n) m = same m _ refl
executed_grows space (i.Jal rd half) m = same m _ refl
executed_grows space (i.Jalr rd rs1 n) m = same m _ refl
executed_grows space (i.Branch b rs1 rs2 half) m = same m _ refl
executed_grows space (i.Load l rd rs1 n) m = loads_grow space l rd (plus (reg m.registers rs1) (extended 12 n)) m
executed_grows space (i.Store s rs1 rs2 n) m = stores_grow space s (plus (reg m.registers rs1) (extended 12 n)) (reg m.registers rs2) m
executed_grows space (i.Imm o rd rs1 n) m = same m _ refl
executed_grows space (i.Shift s rd rs1 n) m = same m _ refl
executed_grows space (i.Addiw rd rs1 n) m = same m _ refl
executed_grows space (i.ShiftWord s rd rs1 n) m = same m _ refl
executed_grows space (i.Op o rd rs1 rs2) m = same m _ refl
executed_grows space (i.WordOp o rd rs1 rs2) m = same m _ refl
executed_grows space i.Ecall m = calls_grow (reg m.registers 17) m

executed_if_grows : (space : Space) (instr : Option Instr) (m : State) → Grows m (executed_if space instr m)
executed_if_grows space None m = same m _ refl
executed_if_grows space (Some instr) m = executed_grows space instr m

from_grows : (e : Option Ending) (space : Space) (m : State) → Grows m (step_from e space m)
from_grows None space m = executed_if_grows space (fetched space m.pc) m
from_grows (Some e) space m = same m m refl

step_grows : (space : Space) (m : State) → Grows m (step space m)
unfolding step
step_grows space m = from_grows m.ending space m

-- what was written after some steps is written after more
pub steps_grow : (space : Space) (k : ℕ) (m : State) → Grows m (steps space k m)
steps_grow space zero m = same m m refl
steps_grow space (suc k) m =
    let before = steps_grow space k m in
    let now = step_grows space (steps space k m) in
    record { more = before.more ++ now.more; is = now.is ∙ ap (λ (o : List ℕ). o ++ now.more) before.is ∙ append_assoc m.output before.more now.more }

-- some steps, and then some more
pub steps_add : (space : Space) (k j : ℕ) (m : State) → steps space (k + j) m ≡ steps space k (steps space j m)
steps_add space zero j m = ap (λ (n : ℕ). steps space n m) (zero-add j)
steps_add space (suc k) j m =
    let one : suc k + j ≡ suc (k + j) = omega arith in
    ap (λ (n : ℕ). steps space n m) one ∙ ap (λ (s : State). step space s) (steps_add space k j m)

step_stays : (space : Space) (m : State) (e : Ending) → m.ending ≡ Some e → step space m ≡ m
unfolding step
step_stays space m e ended = ap (λ (o : Option Ending). step_from o space m) ended

-- a state that has ended stays
pub steps_stay : (space : Space) (k : ℕ) (m : State) (e : Ending) → m.ending ≡ Some e → steps space k m ≡ m
steps_stay space zero m e ended = refl
steps_stay space (suc k) m e ended = ap (λ (s : State). step space s) (steps_stay space k m e ended) ∙ step_stays space m e ended
