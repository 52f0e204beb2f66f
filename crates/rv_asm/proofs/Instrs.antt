-- The instructions of items, one item after another.
use Rattle.std.proofs.Common.{ℕ, ◌≡◌, ◌+◌, ◌<◌, ◌≤◌, List, [], ◌++◌, length, drop, get_or, Result, Ok, Err, refl, sym, ◌∙◌, ap, inl, inr, arith}
use Rattle.std.proofs.lemmas.List.{append_assoc, append-nil}
use Rattle.std.proofs.Math.ListN.{drop_of_length-le}
use Rattle.rv_isa.specs.declared.instr.Instr.{Instr}
use Rattle.rv_asm.specs.declared.item.Item.{Item}
use Rattle.rv_asm.specs.declared.assembled.Mark.{Mark}
use Rattle.rv_asm.specs.declared.fault.AsmFault.{AsmFault}
use Rattle.rv_asm.specs.Places.{item_size}
use Rattle.rv_asm.specs.Assembly.{followed_by, instrs_at, instrs_from, IsFault}
use Rattle.rv_asm.specs.Code.{Written, GrewMade, HoldsMade}
use Rattle.rv_asm.proofs.Marks.{drop_item}
use Rattle.rv_asm.proofs.Growth.{Holds-from_written}

followed_by-again : (xs ys : List Instr) (r : Result (List Instr) AsmFault) → followed_by (Ok xs) (followed_by (Ok ys) r) ≡ followed_by (Ok (xs ++ ys)) r
followed_by-again xs ys (Ok zs) = ap Ok (sym (append_assoc xs ys zs))
followed_by-again xs ys (Err e) = refl

-- The code has the instructions of the items so far, and those of the items from k on stand at its end.
pub record Made (labels : List Mark) (items : List Item) (code : List ℕ) (xs : List Instr) (at k : ℕ) : Type 0 where
  pub written : Written code xs
  pub all : instrs_from labels 0 items ≡ followed_by (Ok xs) (instrs_from labels at (drop k items))

abbrev pub IsMade : List Mark → List Item → List ℕ → ℕ → ℕ → Type 0
IsMade labels items code at k = (xs : List Instr) × Made labels items code xs at k

followed_by-nil : (r : Result (List Instr) AsmFault) → r ≡ followed_by (Ok []) r
followed_by-nil (Ok zs) = refl
followed_by-nil (Err e) = refl

pub IsMade-start : (labels : List Mark) (items : List Item) → IsMade labels items [] 0 0
IsMade-start labels items = (
  [],
  record {
    written = record { bytes = refl; lawful = λ k d within. absurd (omega arith) };
    all = followed_by-nil _;
  },
)

instrs_from-item : (labels : List Mark) (items : List Item) (at k : ℕ) (x : Item) → k < length items → x ≡ get_or items k x → instrs_from labels at (drop k items) ≡ followed_by (instrs_at labels at x) (instrs_from labels (at + item_size x) (drop (k + 1) items))
instrs_from-item labels items at k x within is = ap (instrs_from labels at) (drop_item items k x within is)

pub IsMade-more : (labels : List Mark) (items : List Item) (old new : List ℕ) (at k : ℕ) (x : Item) → k < length items → x ≡ get_or items k x → GrewMade old new (instrs_at labels at x) → IsMade labels items old at k → IsMade labels items new (at + item_size x) (k + 1)
IsMade-more labels items old new at k x within is (ys, e, grew) (xs, made) = (
  xs ++ ys,
  record {
    written = grew xs made.written;
    all = made.all
        ∙ ap (λ (r : Result (List Instr) AsmFault). followed_by (Ok xs) r) (instrs_from-item labels items at k x within is)
        ∙ ap (λ (r : Result (List Instr) AsmFault). followed_by (Ok xs) (followed_by r (instrs_from labels (at + item_size x) (drop (k + 1) items)))) e
        ∙ followed_by-again xs ys _;
  },
)

pub IsMade-fault : (labels : List Mark) (items : List Item) (code : List ℕ) (at k : ℕ) (x : Item) (e : AsmFault) → k < length items → x ≡ get_or items k x → IsFault e (instrs_at labels at x) → IsMade labels items code at k → IsFault e (instrs_from labels 0 items)
IsMade-fault labels items code at k x e within is (inl memory) made = inl memory
IsMade-fault labels items code at k x e within is (inr fails) (xs, made) =
    inr (made.all
    ∙ ap (λ (r : Result (List Instr) AsmFault). followed_by (Ok xs) r) (instrs_from-item labels items at k x within is)
    ∙ ap (λ (r : Result (List Instr) AsmFault). followed_by (Ok xs) (followed_by r (instrs_from labels (at + item_size x) (drop (k + 1) items)))) fails)

pub IsMade-end : (labels : List Mark) (items : List Item) (code : List ℕ) (at k : ℕ) → length items ≤ k → IsMade labels items code at k → HoldsMade code (instrs_from labels 0 items)
IsMade-end labels items code at k past (xs, made) = (
  xs,
  made.all
      ∙ ap (λ (r : List Item). followed_by (Ok xs) (instrs_from labels at r)) (drop_of_length-le items past)
      ∙ ap Ok (append-nil xs),
  Holds-from_written code xs made.written,
)
