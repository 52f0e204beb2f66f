-- Instructions that stand in the code, and the states on the way from one state to another.
use Rattle.std.proofs.Common.{sym, ap, subst, ◌∙◌, arith}
use Rattle.std.specs.Prelude.{◌≡◌, ℕ, zero, suc, ◌+◌, ◌*◌, List, [], ◌∷◌, ◌++◌, length, Option, Some, None}
use Rattle.lisp_base.specs.declared.values.Place.{Place}
use Rattle.rv_isa.specs.declared.instr.Instr.{Instr}
use Rattle.rv_isa.specs.declared.ending.Ending.{Ending}
use Rattle.rv_isa.specs.Machine.{Space, State, fetched, step, step_from, executed, executed_if}
use Rattle.compiler.specs.declared.slot.Slot.{Slot}

-- where a place is stated, it is this one
abbrev pub Sited : Option Place → Option Place → Type 0
Sited None found = Unit {0}
Sited (Some p) found = found ≡ Some p

-- these instructions, with these places, stand from this address on
abbrev pub Stand : Space → (ℕ → Option Place) → ℕ → List Slot → Type 0
Stand space place_at pc [] = Unit {0}
Stand space place_at pc (x ∷ xs) = (fetched space pc ≡ Some x.instr) × Sited x.site (place_at pc) × Stand space place_at (pc + 4) xs

-- j instructions lead from s to t, and each state before t has P
abbrev pub Path : Space → (State → Type 0) → ℕ → State → State → Type 0
Path space P zero s t = s ≡ t
Path space P (suc j) s t = P s × Path space P j (step space s) t

step_is : (space : Space) (m : State) (i : Instr) → m.ending ≡ None → fetched space m.pc ≡ Some i → step space m ≡ executed space i m
unfolding step
step_is space m i e f =
    ap (λ (x : Option Ending). step_from x space m) e ∙ ap (λ (x : Option Instr). executed_if space x m) f

-- one instruction, then a path
pub goes : (space : Space) (P : State → Type 0) (j : ℕ) (m t : State) (i : Instr) → P m → m.ending ≡ None → fetched space m.pc ≡ Some i →
    Path space P j (executed space i m) t → Path space P (suc j) m t
goes space P j m t i p e f rest = (p, subst (λ (x : State). Path space P j x t) (sym (step_is space m i e f)) rest)

-- one instruction, whose effect is a given state, then a path
pub goes_to : (space : Space) (P : State → Type 0) (j : ℕ) (m n t : State) (i : Instr) → P m → m.ending ≡ None → fetched space m.pc ≡ Some i →
    executed space i m ≡ n → Path space P j n t → Path space P (suc j) m t
goes_to space P j m n t i p e f is rest =
    goes space P j m t i p e f (subst (λ (x : State). Path space P j x t) (sym is) rest)

-- a path, and another from where it ends
pub joined : (space : Space) (P : State → Type 0) (j k : ℕ) (s t u : State) → Path space P j s t → Path space P k t u → Path space P (j + k) s u
joined space P zero k s t u p q =
    let e : k ≡ 0 + k = omega arith in
    subst (λ (n : ℕ). Path space P n s u) e (subst (λ (x : State). Path space P k x u) (sym p) q)
joined space P (suc j) k s t u p q =
    let e : suc (j + k) ≡ suc j + k = omega arith in
    subst (λ (n : ℕ). Path space P n s u) e (p.0, joined space P j k (step space s) t u p.1 q)

-- the parts of what stands one after another
pub stands_first : (space : Space) (place_at : ℕ → Option Place) (pc : ℕ) (xs ys : List Slot) → Stand space place_at pc (xs ++ ys) → Stand space place_at pc xs
stands_first space place_at pc [] ys h = tt
stands_first space place_at pc (x ∷ xs) ys h = (h.0, h.1, stands_first space place_at (pc + 4) xs ys h.2)

pub stands_then : (space : Space) (place_at : ℕ → Option Place) (pc : ℕ) (xs ys : List Slot) → Stand space place_at pc (xs ++ ys) → Stand space place_at (pc + 4 * length xs) ys
stands_then space place_at pc [] ys h =
    let e : pc ≡ pc + 4 * 0 = omega arith in subst (λ (n : ℕ). Stand space place_at n ys) e h
stands_then space place_at pc (x ∷ xs) ys h =
    let e : pc + 4 + 4 * length xs ≡ pc + 4 * length (x ∷ xs) = omega arith in
    subst (λ (n : ℕ). Stand space place_at n ys) e (stands_then space place_at (pc + 4) xs ys h.2)
