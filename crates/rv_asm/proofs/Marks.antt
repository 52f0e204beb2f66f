-- How loops over items go on: sizes, marks, and the search for a label that stands twice.
use Rattle.std.proofs.Common.{ℕ, ◌≡◌, ◌+◌, ◌*◌, ◌<◌, ◌≤◌, List, [], ◌∷◌, ◌++◌, length, drop, get_or, Option, Some, None, refl, sym, ◌∙◌, ap, arith}
use Rattle.std.proofs.Math.ListN.{drop_of_length-le}
use Rattle.std.proofs.lemmas.List.{drop_more, append_assoc, append-nil}
use Rattle.std.specs.Prelude.{Err}
use Rattle.rv_asm.specs.declared.item.Item.{Item}
use Rattle.rv_asm.specs.declared.item.Item.TheVariants as item
use Rattle.rv_asm.specs.declared.assembled.Mark.{Mark}
use Rattle.rv_asm.specs.declared.fault.AsmFault.{AsmFault}
use Rattle.rv_asm.specs.declared.fault.AsmFault.TheVariants as fault
use Rattle.rv_asm.specs.Places.{item_size, code_size, marks_from, label_marks, labels_of, doubled_after, first_double}
use Rattle.rv_asm.specs.Placing.{Adds, IsDoubleNext}
use Rattle.rv_asm.specs.Assembly.{instrs_from, instrs_of, unless_double}

-- the items from k on begin with x
pub drop_item : (items : List Item) (k : ℕ) (x : Item) → k < length items → x ≡ get_or items k x → drop k items ≡ x ∷ drop (k + 1) items
drop_item items k x within is = drop_more items k x within ∙ ap (λ (y : Item). y ∷ drop (k + 1) items) (sym is)

-- the items from k on stand at this place
pub record Stands (items : List Item) (at k : ℕ) : Type 0 where
  pub size : at + code_size (drop k items) ≡ code_size items

pub Stands-start : (items : List Item) → Stands items 0 0
Stands-start items = record { size = omega arith }

pub Stands-more : (items : List Item) (at k : ℕ) (x : Item) → k < length items → x ≡ get_or items k x → Stands items at k → Stands items (at + item_size x) (k + 1)
Stands-more items at k x within is stands =
    let e : code_size (drop k items) ≡ item_size x + code_size (drop (k + 1) items) = ap code_size (drop_item items k x within is) in
    record { size = omega (arith, stands.size) }

pub Stands-within : (items : List Item) (at k : ℕ) → Stands items at k → at ≤ code_size items
Stands-within items at k stands = omega (arith, stands.size)

-- the marks so far, and those of the items from k on
pub record Marked (marks : ℕ → Item → List Mark) (items : List Item) (done : List Mark) (at k : ℕ) : Type 0 where
  pub all : marks_from marks 0 items ≡ done ++ marks_from marks at (drop k items)

pub Marked-start : (marks : ℕ → Item → List Mark) (items : List Item) → Marked marks items [] 0 0
Marked-start marks items = record { all = refl }

marks_from-item : (marks : ℕ → Item → List Mark) (items : List Item) (at k : ℕ) (x : Item) → k < length items → x ≡ get_or items k x → marks_from marks at (drop k items) ≡ marks at x ++ marks_from marks (at + item_size x) (drop (k + 1) items)
marks_from-item marks items at k x within is = ap (marks_from marks at) (drop_item items k x within is)

pub Marked-more : (marks : ℕ → Item → List Mark) (items : List Item) (done : List Mark) (at k : ℕ) (x : Item) → k < length items → x ≡ get_or items k x → Marked marks items done at k → Marked marks items (done ++ marks at x) (at + item_size x) (k + 1)
Marked-more marks items done at k x within is marked = record {
  all = marked.all ∙ ap (λ (r : List Mark). done ++ r) (marks_from-item marks items at k x within is) ∙ sym (append_assoc done (marks at x) _);
}

pub Marked-end : (marks : ℕ → Item → List Mark) (items : List Item) (done : List Mark) (at k : ℕ) → length items ≤ k → Marked marks items done at k → marks_from marks 0 items ≡ done
Marked-end marks items done at k past marked =
    marked.all ∙ ap (λ (r : List Item). done ++ marks_from marks at r) (drop_of_length-le items past) ∙ append-nil done

-- no label stands twice so far
pub record Single (items : List Item) (done : List Mark) (at k : ℕ) : Type 0 where
  pub rest : first_double (labels_of items) ≡ doubled_after done (marks_from label_marks at (drop k items))

pub Single-start : (items : List Item) → Single items [] 0 0
Single-start items = record { rest = refl }

pub Single-more : (items : List Item) (done new : List Mark) (at k : ℕ) (x : Item) → k < length items → x ≡ get_or items k x → Adds done (label_marks at x) new → Single items done at k → Single items new (at + item_size x) (k + 1)
Single-more items done new at k x within is adds single = record {
  rest = single.rest ∙ ap (doubled_after done) (marks_from-item label_marks items at k x within is) ∙ adds _;
}

pub Single-end : (items : List Item) (done : List Mark) (at k : ℕ) → length items ≤ k → Single items done at k → first_double (labels_of items) ≡ None
Single-end items done at k past single =
    single.rest ∙ ap (λ (r : List Item). doubled_after done (marks_from label_marks at r)) (drop_of_length-le items past)

double_fault : (items : List Item) (l : ℕ) → first_double (labels_of items) ≡ Some l → instrs_of items ≡ Err (fault.DoubleLabel l)
double_fault items l e = ap (λ (d : Option ℕ). unless_double d (instrs_from (labels_of items) 0 items)) e

-- the next label stands twice
pub Single-fault : (items : List Item) (done : List Mark) (at k : ℕ) (x : Item) (e : AsmFault) → k < length items → x ≡ get_or items k x → IsDoubleNext done (label_marks at x) e → Single items done at k → instrs_of items ≡ Err e
Single-fault items done at k x (fault.DoubleLabel l) within is double single =
    double_fault items l (single.rest ∙ ap (doubled_after done) (marks_from-item label_marks items at k x within is) ∙ double _)
Single-fault items done at k x (fault.UnknownLabel l) within is double single = absurd double
Single-fault items done at k x (fault.FarBranch from to) within is double single = absurd double
Single-fault items done at k x fault.Memory within is double single = absurd double

size_le : (x : Item) → item_size x ≤ 8
size_le (item.Plain x) = omega arith
size_le (item.Label l) = omega arith
size_le (item.BranchTo t a b l) = omega arith
size_le (item.JumpTo r l) = omega arith
size_le (item.AddressOf r l) = omega arith
size_le (item.Site n) = omega arith

-- no item gives more than eight bytes
pub code_size_le : (items : List Item) → code_size items ≤ 8 * length items
code_size_le [] = omega arith
code_size_le (x ∷ xs) = omega (arith, size_le x, code_size_le xs)
