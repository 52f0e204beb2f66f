-- The text of a tree that is deep enough doesn't change where the tree is deeper.
use Rattle.std.proofs.Common.{◌≡◌, ℕ, zero, suc, ◌+◌, ◌-◌, ◌<◌, ◌≤◌, ◌==◌, ◌⊎◌, inl, inr, List, [], ◌∷◌, ◌++◌, map, if◌then◌else◌, refl, sym, ap, ◌∙◌, arith}
use Rattle.std.proofs.lemmas.Bool.Decides.{leb_tells}
use Rattle.std.specs.Prelude.{nat_le, codes}
use Rattle.lisp_base.specs.declared.shapes.Shape.{Shape}
use Rattle.lisp_base.specs.declared.shapes.Shape.TheVariants.{Int, Char, Sym, Cons, Vector, Str, Fun}
use Rattle.lisp_base.specs.declared.shapes.Shape.TheVariants as shape
use Rattle.lisp_base.specs.Seen.{Tree, Deep, Bad, Number, Letter, Name, Text, Function, Both, Row, trees}
use Rattle.lisp_base.specs.Shown.{Shown, in_order, shape_tree, tree_of}
use Rattle.lisp_print.specs.declared.printing.Limits.{Limits}
use Rattle.lisp_print.specs.Printing.{Written, written, followed, between, group, element, dotted, object, list, elements}
use Rattle.lisp_print.proofs.Lefts.{object_left}

-- ---- equal parts make equal texts

pub followed_same : (p q : Written) (f g : ℕ → Written) → p ≡ q → f q.left ≡ g q.left → followed p f ≡ followed q g
followed_same p q f g e h =
    ap (λ (x : Written). followed x f) e ∙ ap (λ (r : Written). written (q.text ++ r.text) r.left) h

pub group_same : (limits : Limits) (inside left : ℕ) (opening : List ℕ) (f g : ℕ → Written) → f (left - 1) ≡ g (left - 1)
    → group limits inside left opening f ≡ group limits inside left opening g
group_same limits inside left opening f g e =
    ap (λ (p : Written). if left == 0 then written (codes "...") 0 else (if nat_le limits.level inside then written (codes "#") (left - 1) else between opening p (codes ")"))) e

pub element_same : (limits : Limits) (done left : ℕ) (p q : Written) → p ≡ q → element limits done left p ≡ element limits done left q
element_same limits done left p q e = ap (λ (x : Written). element limits done left x) e

-- an object for which none is left
pub object_none : (limits : Limits) (inside : ℕ) (t : Tree) → object limits inside 0 t ≡ written (codes "...") 0
object_none limits inside Deep = refl
object_none limits inside Bad = refl
object_none limits inside (Number z) = refl
object_none limits inside (Letter c) = refl
object_none limits inside (Name letters kind) = refl
object_none limits inside (Text letters) = refl
object_none limits inside Function = refl
object_none limits inside (Both car cdr) = refl
object_none limits inside (Row parts) = refl

none_or_some : (n : ℕ) → (n ≡ 0) ⊎ (0 < n)
none_or_some zero = inl refl
none_or_some (suc n) = inr (omega arith)

module _ {W : Type 0} (limits : Limits) (shown : Shown W) where
  -- a depth is enough for an object, and for what follows so many elements of a list
  abbrev pub Enough : (j left : ℕ) → Type 0
  Enough j left = (left ≡ 0) ⊎ (left + limits.length + 2 ≤ j)

  abbrev pub EnoughList : (j done left : ℕ) → Type 0
  EnoughList j done left = ((left ≡ 0) × (limits.length - done < j)) ⊎ (left + limits.length + 3 ≤ j)

  abbrev pub ObjectStays : ℕ → Type 0
  ObjectStays j = (inside left : ℕ) (w : W) → Enough j left
      → object limits inside left (tree_of (suc j) shown w) ≡ object limits inside left (tree_of j shown w)

  abbrev pub ListStays : ℕ → Type 0
  ListStays j = (inside done left : ℕ) (w : W) → EnoughList j done left
      → list limits inside done left (tree_of (suc j) shown w) ≡ list limits inside done left (tree_of j shown w)

  abbrev ElementsStay : ℕ → Type 0
  ElementsStay j = (inside done left : ℕ) (ws : List W) → Enough j left
      → elements limits inside done left (trees (map (tree_of (suc j) shown) ws)) ≡ elements limits inside done left (trees (map (tree_of j shown) ws))

  -- what is left is less, and so the depth is still enough
  fewer : (j left m : ℕ) → m ≤ left - 1 → Enough j left → Enough j m
  fewer j left m le (inl none) = inl (omega arith)
  fewer j left m le (inr some) = inr (omega arith)

  elements_stay : (j : ℕ) → ObjectStays j → ElementsStay j
  elements_stay j stays inside done left [] enough = refl
  elements_stay j stays inside done left (w ∷ ws) enough =
      let first = object limits inside left (tree_of j shown w) in
      element_same limits done left
      (followed (object limits inside left (tree_of (suc j) shown w)) (λ m. elements limits inside (suc done) m (trees (map (tree_of (suc j) shown) ws))))
      (followed first (λ m. elements limits inside (suc done) m (trees (map (tree_of j shown) ws))))
      (followed_same (object limits inside left (tree_of (suc j) shown w)) first
      (λ m. elements limits inside (suc done) m (trees (map (tree_of (suc j) shown) ws)))
      (λ m. elements limits inside (suc done) m (trees (map (tree_of j shown) ws)))
      (stays inside left w enough)
      (elements_stay j stays inside (suc done) first.left ws
      (fewer j left first.left (object_left limits inside left (tree_of j shown w)) enough)))

  -- a list's rest, after the first of its objects
  rest_enough : (j left m : ℕ) → m ≤ left - 1 - 1 → 0 < left → left + limits.length + 2 ≤ suc j → EnoughList j 1 m
  rest_enough j left m le some enough =
      elim (none_or_some m) [ inl none ↦ inl (none, omega arith) | inr more ↦ inr (omega arith) ]

  object_shape : (j : ℕ) → ObjectStays j → ListStays j → (inside left : ℕ) (w : W) → 0 < left → left + limits.length + 2 ≤ suc j → (s : Shape W)
      → object limits inside left (shape_tree (tree_of (suc j) shown) shown w s) ≡ object limits inside left (shape_tree (tree_of j shown) shown w s)
  object_shape j stays lists inside left w some enough (Int z) = refl
  object_shape j stays lists inside left w some enough (Char c) = refl
  object_shape j stays lists inside left w some enough (Sym kind k) = refl
  object_shape j stays lists inside left w some enough (Cons car cdr) =
      let first = object limits (suc inside) (left - 1) (tree_of j shown car) in
      let e : followed (object limits (suc inside) (left - 1) (tree_of (suc j) shown car)) (λ m. list limits (suc inside) 1 m (tree_of (suc j) shown cdr))
      ≡ followed first (λ m. list limits (suc inside) 1 m (tree_of j shown cdr)) =
      followed_same (object limits (suc inside) (left - 1) (tree_of (suc j) shown car)) first
      (λ m. list limits (suc inside) 1 m (tree_of (suc j) shown cdr)) (λ m. list limits (suc inside) 1 m (tree_of j shown cdr))
      (stays (suc inside) (left - 1) car (inr (omega arith)))
      (lists (suc inside) 1 first.left cdr (rest_enough j left first.left (object_left limits (suc inside) (left - 1) (tree_of j shown car)) some enough)) in
      group_same limits inside left (codes "(")
      (λ n. element limits 0 n (followed (object limits (suc inside) n (tree_of (suc j) shown car)) (λ m. list limits (suc inside) 1 m (tree_of (suc j) shown cdr))))
      (λ n. element limits 0 n (followed (object limits (suc inside) n (tree_of j shown car)) (λ m. list limits (suc inside) 1 m (tree_of j shown cdr))))
      (ap (λ (p : Written). element limits 0 (left - 1) p) e)
  object_shape j stays lists inside left w some enough (Vector k) =
      group_same limits inside left (codes "#(")
      (λ n. elements limits (suc inside) 0 n (trees (map (tree_of (suc j) shown) (in_order (shown.element w) 0 k))))
      (λ n. elements limits (suc inside) 0 n (trees (map (tree_of j shown) (in_order (shown.element w) 0 k))))
      (elements_stay j stays (suc inside) 0 (left - 1) (in_order (shown.element w) 0 k) (inr (omega arith)))
  object_shape j stays lists inside left w some enough (Str k) = refl
  object_shape j stays lists inside left w some enough Fun = refl
  object_shape j stays lists inside left w some enough shape.Bad = refl

  object_stays_on : (j : ℕ) → ObjectStays j → ListStays j → ObjectStays (suc j)
  object_stays_on j stays lists inside left w enough =
      elim (none_or_some left) [
        | inl none ↦ rw none (object_none limits inside (tree_of (suc (suc j)) shown w) ∙ sym (object_none limits inside (tree_of (suc j) shown w)))
        | inr some ↦ object_shape j stays lists inside left w some (elim enough [ inl none ↦ absurd (omega arith) | inr deep ↦ deep ]) (shown.shape w)
      ]

  -- one element more, where the length allows it
  more_enough : (j done left m : ℕ) → m ≤ left - 1 → done < limits.length → EnoughList (suc j) done left → EnoughList j (suc done) m
  more_enough j done left m le below (inl none) =
      let a : left ≡ 0 = none.0 in
      let b : limits.length - done < suc j = none.1 in
      inl (omega arith, omega arith)
  more_enough j done left m le below (inr deep) =
      elim (none_or_some m) [ inl none ↦ inl (none, omega arith) | inr more ↦ inr (omega arith) ]

  of_list : (j done left : ℕ) → EnoughList (suc j) done left → Enough j left
  of_list j done left (inl none) = inl none.0
  of_list j done left (inr deep) = inr (omega arith)

  list_element : (j : ℕ) → ObjectStays j → ListStays j → (inside done left : ℕ) (car cdr : W) → EnoughList (suc j) done left
      → element limits done left (followed (object limits inside left (tree_of (suc j) shown car)) (λ m. list limits inside (suc done) m (tree_of (suc j) shown cdr)))
      ≡ element limits done left (followed (object limits inside left (tree_of j shown car)) (λ m. list limits inside (suc done) m (tree_of j shown cdr)))
  list_element j stays lists inside done left car cdr enough =
      let first = object limits inside left (tree_of j shown car) in
      elim (leb_tells limits.length done) [
        | inl cut ↦ rw cut.0 refl
        | inr more ↦ element_same limits done left
            (followed (object limits inside left (tree_of (suc j) shown car)) (λ m. list limits inside (suc done) m (tree_of (suc j) shown cdr)))
            (followed first (λ m. list limits inside (suc done) m (tree_of j shown cdr)))
            (followed_same (object limits inside left (tree_of (suc j) shown car)) first
            (λ m. list limits inside (suc done) m (tree_of (suc j) shown cdr)) (λ m. list limits inside (suc done) m (tree_of j shown cdr))
            (stays inside left car (of_list j done left enough))
            (lists inside (suc done) first.left cdr (more_enough j done left first.left (object_left limits inside left (tree_of j shown car)) more.1 enough)))
      ]

  list_vector : (j : ℕ) → ObjectStays j → (inside done left : ℕ) (w : W) (k : ℕ) → EnoughList (suc j) done left
      → list limits inside done left (Row (trees (map (tree_of (suc j) shown) (in_order (shown.element w) 0 k))))
      ≡ list limits inside done left (Row (trees (map (tree_of j shown) (in_order (shown.element w) 0 k))))
  list_vector j stays inside done left w k enough =
      ap (λ (p : Written). dotted p)
      (group_same limits inside left (codes "#(")
      (λ n. elements limits (suc inside) 0 n (trees (map (tree_of (suc j) shown) (in_order (shown.element w) 0 k))))
      (λ n. elements limits (suc inside) 0 n (trees (map (tree_of j shown) (in_order (shown.element w) 0 k))))
      (elements_stay j stays (suc inside) 0 (left - 1) (in_order (shown.element w) 0 k) (fewer j left (left - 1) (omega arith) (of_list j done left enough))))

  list_shape : (j : ℕ) → ObjectStays j → ListStays j → (inside done left : ℕ) (w : W) → EnoughList (suc j) done left → (s : Shape W)
      → list limits inside done left (shape_tree (tree_of (suc j) shown) shown w s) ≡ list limits inside done left (shape_tree (tree_of j shown) shown w s)
  list_shape j stays lists inside done left w enough (Int z) = refl
  list_shape j stays lists inside done left w enough (Char c) = refl
  list_shape j stays lists inside done left w enough (Sym kind k) = refl
  list_shape j stays lists inside done left w enough (Cons car cdr) = list_element j stays lists inside done left car cdr enough
  list_shape j stays lists inside done left w enough (Vector k) = list_vector j stays inside done left w k enough
  list_shape j stays lists inside done left w enough (Str k) = refl
  list_shape j stays lists inside done left w enough Fun = refl
  list_shape j stays lists inside done left w enough shape.Bad = refl

  mutual
    pub object_stays : (j : ℕ) → ObjectStays j
    object_stays zero inside left w (inl none) =
        rw none (object_none limits inside (tree_of 1 shown w) ∙ sym (object_none limits inside (tree_of 0 shown w)))
    object_stays zero inside left w (inr deep) = absurd (omega arith)
    object_stays (suc j) inside left w enough = object_stays_on j (object_stays j) (list_stays j) inside left w enough

    pub list_stays : (j : ℕ) → ListStays j
    list_stays zero inside done left w enough = absurd (elim enough [ inl none ↦ (let h : limits.length - done < 0 = none.1 in omega arith) | inr deep ↦ omega arith ])
    list_stays (suc j) inside done left w enough = list_shape j (object_stays j) (list_stays j) inside done left w enough (shown.shape w)
