-- What is printed leaves at most as many objects as before, and an object one less.
use Rattle.std.proofs.Common.{ℕ, suc, ◌-◌, ◌≤◌, ◌==◌, Bool, true, false, List, [], if◌then◌else◌, arith}
use Rattle.std.specs.Prelude.{nat_le, codes}
use Rattle.std.specs.Fmt.{signed_decimal}
use Rattle.lisp_base.specs.Seen.{Tree, Deep, Bad, Number, Letter, Name, Text, Function, Both, Row, Trees, no_tree, tree}
use Rattle.lisp_print.specs.declared.printing.Limits.{Limits}
use Rattle.lisp_print.specs.Texts.{character_text, name_text, string_text, is_nil}
use Rattle.lisp_print.specs.Printing.{Written, written, followed, between, plain, group, element, dotted, object, list, elements}

-- of two texts that leave at most so many, the one that is chosen does
chosen : (b : Bool) (p q : Written) (n : ℕ) → p.left ≤ n → q.left ≤ n → (if b then p else q).left ≤ n
chosen true p q n a b = a
chosen false p q n a b = b

plain_left : (left : ℕ) (text : List ℕ) → (plain left text).left ≤ left - 1
plain_left left text = chosen (left == 0) (written (codes "...") 0) (written text (left - 1)) (left - 1) (omega arith) (omega arith)

group_left : (limits : Limits) (inside left : ℕ) (opening : List ℕ) (parts : ℕ → Written) → (parts (left - 1)).left ≤ left - 1
    → (group limits inside left opening parts).left ≤ left - 1
group_left limits inside left opening parts le =
    chosen (left == 0) (written (codes "...") 0) (if nat_le limits.level inside then written (codes "#") (left - 1) else between opening (parts (left - 1)) (codes ")")) (left - 1)
    (omega arith)
    (chosen (nat_le limits.level inside) (written (codes "#") (left - 1)) (between opening (parts (left - 1)) (codes ")")) (left - 1) (omega arith) le)

element_left : (limits : Limits) (done left : ℕ) (parts : Written) → parts.left ≤ left → (element limits done left parts).left ≤ left
element_left limits done left parts le =
    chosen (nat_le limits.length done) (written (codes " ...") left) (if done == 0 then parts else between (codes " ") parts []) left
    (omega arith)
    (chosen (done == 0) parts (between (codes " ") parts []) left le le)

mutual
  pub object_left : (limits : Limits) (inside left : ℕ) (t : Tree) → (object limits inside left t).left ≤ left - 1
  object_left limits inside left Deep = plain_left left []
  object_left limits inside left Bad = plain_left left (codes "#<BAD>")
  object_left limits inside left (Number z) = plain_left left (signed_decimal z)
  object_left limits inside left (Letter c) = plain_left left (character_text c)
  object_left limits inside left (Name letters kind) = plain_left left (name_text letters kind)
  object_left limits inside left (Text letters) = plain_left left (string_text letters)
  object_left limits inside left Function = plain_left left (codes "#<FUNCTION>")
  object_left limits inside left (Both car cdr) =
      let first : (object limits (suc inside) (left - 1) car).left ≤ left - 1 - 1 = object_left limits (suc inside) (left - 1) car in
      let m = (object limits (suc inside) (left - 1) car).left in
      let rest : (list limits (suc inside) 1 m cdr).left ≤ m = list_left limits (suc inside) 1 m cdr in
      group_left limits inside left (codes "(") (λ n. element limits 0 n
      (followed (object limits (suc inside) n car) (λ m. list limits (suc inside) 1 m cdr)))
      (element_left limits 0 (left - 1) (followed (object limits (suc inside) (left - 1) car) (λ m. list limits (suc inside) 1 m cdr)) (omega arith))
  object_left limits inside left (Row parts) =
      group_left limits inside left (codes "#(") (λ n. elements limits (suc inside) 0 n parts) (elements_left limits (suc inside) 0 (left - 1) parts)

  pub list_left : (limits : Limits) (inside done left : ℕ) (t : Tree) → (list limits inside done left t).left ≤ left
  list_left limits inside done left Deep = let h : (plain left []).left ≤ left - 1 = plain_left left [] in omega arith
  list_left limits inside done left Bad = let h : (plain left (codes "#<BAD>")).left ≤ left - 1 = plain_left left (codes "#<BAD>") in omega arith
  list_left limits inside done left (Number z) = let h : (plain left (signed_decimal z)).left ≤ left - 1 = plain_left left (signed_decimal z) in omega arith
  list_left limits inside done left (Letter c) = let h : (plain left (character_text c)).left ≤ left - 1 = plain_left left (character_text c) in omega arith
  list_left limits inside done left (Name letters kind) =
      let h : (plain left (name_text letters kind)).left ≤ left - 1 = plain_left left (name_text letters kind) in
      chosen (is_nil letters kind) (written [] left) (dotted (plain left (name_text letters kind))) left (omega arith) (omega arith)
  list_left limits inside done left (Text letters) = let h : (plain left (string_text letters)).left ≤ left - 1 = plain_left left (string_text letters) in omega arith
  list_left limits inside done left Function = let h : (plain left (codes "#<FUNCTION>")).left ≤ left - 1 = plain_left left (codes "#<FUNCTION>") in omega arith
  list_left limits inside done left (Both car cdr) =
      let first : (object limits inside left car).left ≤ left - 1 = object_left limits inside left car in
      let m = (object limits inside left car).left in
      let rest : (list limits inside (suc done) m cdr).left ≤ m = list_left limits inside (suc done) m cdr in
      element_left limits done left (followed (object limits inside left car) (λ m. list limits inside (suc done) m cdr)) (omega arith)
  list_left limits inside done left (Row parts) =
      let h : (group limits inside left (codes "#(") (λ n. elements limits (suc inside) 0 n parts)).left ≤ left - 1 =
      group_left limits inside left (codes "#(") (λ n. elements limits (suc inside) 0 n parts) (elements_left limits (suc inside) 0 (left - 1) parts) in
      omega arith

  pub elements_left : (limits : Limits) (inside done left : ℕ) (ts : Trees) → (elements limits inside done left ts).left ≤ left
  elements_left limits inside done left no_tree = omega arith
  elements_left limits inside done left (tree part parts) =
      let first : (object limits inside left part).left ≤ left - 1 = object_left limits inside left part in
      let m = (object limits inside left part).left in
      let rest : (elements limits inside (suc done) m parts).left ≤ m = elements_left limits inside (suc done) m parts in
      element_left limits done left (followed (object limits inside left part) (λ m. elements limits inside (suc done) m parts)) (omega arith)
