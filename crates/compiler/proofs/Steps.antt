-- Runs of the machine: what is written stays written, an ended machine stays, and a path is such a run.
use Rattle.std.proofs.Common.{refl, sym, ap, subst, ◌∙◌, arith, append_assoc}
use Rattle.std.specs.Prelude.{◌≡◌, ℕ, zero, suc, ◌+◌, ◌<◌, ◌==◌, Bool, true, false, if◌then◌else◌, ◌&&◌, nat_le, List, [], ◌∷◌, ◌++◌, Option, Some, None}
use Rattle.rv_isa.specs.declared.instr.Instr.{Instr}
use Rattle.rv_isa.specs.declared.instr.Instr.TheVariants as i
use Rattle.rv_isa.specs.declared.ending.Ending.{Ending}
use Rattle.rv_isa.specs.Machine.{Space, State, step, steps, step_from, executed, executed_if, fetched, reads, calls, is_char, reg}
use Rattle.compiler.specs.Meets.{IsPrefix}
use Rattle.compiler.proofs.Paths.{Path}

append_nil : (xs : List ℕ) → xs ≡ xs ++ []
append_nil [] = refl
append_nil (x ∷ xs) = ap (λ (ys : List ℕ). x ∷ ys) (append_nil xs)

pub prefix_self : (xs : List ℕ) → IsPrefix xs xs
prefix_self xs = ([], append_nil xs)

pub prefix_then : (a b c : List ℕ) → IsPrefix a b → IsPrefix b c → IsPrefix a c
prefix_then a b c p q = (p.0 ++ q.0, q.1 ∙ (ap (λ (x : List ℕ). x ++ q.0) p.1 ∙ append_assoc a p.0 q.0))

-- ---- what is written stays

abbrev Grows : State → State → Type 0
Grows m n = IsPrefix m.output n.output

pick_grows : (m a b : State) (x : Bool) → Grows m a → Grows m b → Grows m (if x then a else b)
pick_grows m a b true p q = p
pick_grows m a b false p q = q

read_grows : (m : State) (cs : List ℕ) → Grows m (reads cs m)
read_grows m [] = prefix_self m.output
read_grows m (c ∷ cs) = prefix_self m.output

calls_grow : (m : State) (n : ℕ) → Grows m (calls n m)
calls_grow m n =
    let same = prefix_self m.output in
    let c = reg m.registers 16 in
    pick_grows m _ _ (n == 1) (pick_grows m _ _ (is_char c) (c ∷ [], refl) same)
    (pick_grows m _ _ (n == 2) (read_grows m m.input)
    (pick_grows m _ _ (n == 3) same
    (pick_grows m _ _ (n == 4) (pick_grows m _ _ (nat_le 1 c && nat_le c 10) same same)
    (pick_grows m _ _ (n == 5) same (pick_grows m _ _ (n == 6) same same)))))

executed_grows : (space : Space) (x : Instr) (m : State) → Grows m (executed space x m)
unfolding executed
executed_grows space (i.Upper u rd n) m = prefix_self m.output
executed_grows space (i.Jal rd half) m = prefix_self m.output
executed_grows space (i.Jalr rd rs1 n) m = prefix_self m.output
executed_grows space (i.Branch b rs1 rs2 half) m = prefix_self m.output
executed_grows space (i.Load l rd rs1 n) m = pick_grows m _ _ _ (prefix_self m.output) (prefix_self m.output)
executed_grows space (i.Store s rs1 rs2 n) m = pick_grows m _ _ _ (prefix_self m.output) (prefix_self m.output)
executed_grows space (i.Imm o rd rs1 n) m = prefix_self m.output
executed_grows space (i.Shift s rd rs1 n) m = prefix_self m.output
executed_grows space (i.Addiw rd rs1 n) m = prefix_self m.output
executed_grows space (i.ShiftWord s rd rs1 n) m = prefix_self m.output
executed_grows space (i.Op o rd rs1 rs2) m = prefix_self m.output
executed_grows space (i.WordOp o rd rs1 rs2) m = prefix_self m.output
executed_grows space i.Ecall m = calls_grow m (reg m.registers 17)

fetched_grows : (space : Space) (x : Option Instr) (m : State) → Grows m (executed_if space x m)
fetched_grows space None m = prefix_self m.output
fetched_grows space (Some x) m = executed_grows space x m

from_grows : (space : Space) (e : Option Ending) (m : State) → Grows m (step_from e space m)
from_grows space None m = fetched_grows space (fetched space m.pc) m
from_grows space (Some e) m = prefix_self m.output

step_grows : (space : Space) (m : State) → Grows m (step space m)
unfolding step
step_grows space m = from_grows space m.ending m

-- so many more steps
pub steps_grow : (space : Space) (k d : ℕ) (m : State) → IsPrefix (steps space k m).output (steps space (d + k) m).output
steps_grow space k zero m =
    let e : k ≡ 0 + k = omega arith in
    subst (λ (n : ℕ). IsPrefix (steps space k m).output (steps space n m).output) e (prefix_self (steps space k m).output)
steps_grow space k (suc d) m =
    let e : suc (d + k) ≡ suc d + k = omega arith in
    subst (λ (n : ℕ). IsPrefix (steps space k m).output (steps space n m).output) e
    (prefix_then _ _ _ (steps_grow space k d m) (step_grows space (steps space (d + k) m)))

-- ---- an ended machine stays

step_stays : (space : Space) (m : State) (e : Ending) → m.ending ≡ Some e → step space m ≡ m
unfolding step
step_stays space m e is = ap (λ (x : Option Ending). step_from x space m) is

pub steps_stay : (space : Space) (k d : ℕ) (m : State) (e : Ending) → (steps space k m).ending ≡ Some e → steps space (d + k) m ≡ steps space k m
steps_stay space k zero m e is = (let z : 0 + k ≡ k = omega arith in ap (λ (n : ℕ). steps space n m) z)
steps_stay space k (suc d) m e is =
    let same = steps_stay space k d m e is in
    let z : suc d + k ≡ suc (d + k) = omega arith in
    ap (λ (n : ℕ). steps space n m) z ∙ (ap (λ (s : State). step space s) same ∙ step_stays space (steps space k m) e is)

-- ---- paths

steps_front : (space : Space) (k : ℕ) (m : State) → steps space (suc k) m ≡ steps space k (step space m)
steps_front space zero m = refl
steps_front space (suc k) m = ap (λ (s : State). step space s) (steps_front space k m)

pub path_end : (space : Space) (P : State → Type 0) (j : ℕ) (s t : State) → Path space P j s t → steps space j s ≡ t
path_end space P zero s t p = p
path_end space P (suc j) s t p = steps_front space j s ∙ path_end space P j (step space s) t p.1

pub path_at : (space : Space) (P : State → Type 0) (j : ℕ) (s t : State) → Path space P j s t → (k : ℕ) → k < j → P (steps space k s)
path_at space P zero s t p k h = absurd (omega arith)
path_at space P (suc j) s t p zero h = p.0
path_at space P (suc j) s t p (suc k) h =
    subst P (sym (steps_front space k s)) (path_at space P j (step space s) t p.1 k (omega arith))
