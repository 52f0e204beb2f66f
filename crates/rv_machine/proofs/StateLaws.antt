-- Equal parts make equal states.
use Rattle.std.proofs.Common.{◌≡◌, ℕ, List, Option, ap, ◌∙◌}
use Rattle.rv_isa.specs.declared.ending.Ending.{Ending}
use Rattle.rv_isa.specs.Machine.{Space, State, put_reg}

-- one register more is set, at a known number
pub put_known : {f base g : ℕ → ℕ} {r : ℕ} (n v : ℕ) → f ≡ put_reg r v base → r ≡ n → base ≡ g → f ≡ put_reg n v g
put_known {f} {base} {g} {r} n v set number before = set ∙ ap (λ (k : ℕ). put_reg k v base) number ∙ ap (λ (h : ℕ → ℕ). put_reg n v h) before

pub same_states : (f g m n : ℕ → ℕ) (pc : ℕ) (output input : List ℕ) (ending : Option Ending) → f ≡ g → m ≡ n →
    (let a : State = record { registers = f; pc = pc; memory = m; output = output; input = input; ending = ending } in
    let b : State = record { registers = g; pc = pc; memory = n; output = output; input = input; ending = ending } in
    a ≡ b)
same_states f g m n pc output input ending p q =
    λ i. record { registers = p i; pc = pc; memory = q i; output = output; input = input; ending = ending }

pub same_spaces : {c d : List ℕ} {s t h i k l : ℕ} → c ≡ d → s ≡ t → h ≡ i → k ≡ l →
    (let a : Space = record { code = c; statics = s; heap = h; stack = k } in
    let b : Space = record { code = d; statics = t; heap = i; stack = l } in
    a ≡ b)
same_spaces p q r s = λ i. record { code = p i; statics = q i; heap = r i; stack = s i }
