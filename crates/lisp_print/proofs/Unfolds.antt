-- The text of a word, by the texts of the words right below it.
use Rattle.std.proofs.Common.{◌≡◌, ℕ, suc, zero, ◌+◌, ◌-◌, ◌<◌, ◌≤◌, inl, inr, List, [], map, if◌then◌else◌, refl, sym, ap, ◌∙◌, ◌++◌, length, append_assoc, arith, add-one, add-suc, add-zero}
use Rattle.std.proofs.lemmas.Bool.{le-leb, ne_eqb}
use Rattle.std.proofs.lemmas.List.{append-nil}
use Rattle.std.proofs.lemmas.Bool.Decides.{leb_tells}
use Rattle.std.specs.Prelude.{codes}
use Rattle.lisp_base.specs.declared.shapes.Shape.{Shape}
use Rattle.lisp_base.specs.declared.shapes.Shape.TheVariants.{Int, Char, Sym, Cons, Vector, Str, Fun}
use Rattle.lisp_base.specs.declared.shapes.Shape.TheVariants as shape
use Rattle.lisp_base.specs.Seen.{trees}
use Rattle.lisp_base.specs.Shown.{Shown, in_order, item_count, shape_tree, tree_of}
use Rattle.lisp_print.specs.declared.page.Open.{Open}
use Rattle.lisp_print.specs.declared.page.Open.TheVariants as open_part
use Rattle.lisp_print.specs.declared.printing.Limits.{Limits}
use Rattle.lisp_print.specs.Printing.{Written, written, followed, plain, group, element, dotted, object, list, elements, depth_of, tree_text, word_text}
use Rattle.lisp_print.specs.Progress.{atom_text, begun, ends_list, finish, last_text, object_at, list_at, elements_at, open_text}
use Rattle.lisp_print.proofs.Depth.{group_same, object_none, object_stays, list_stays}

plain_some : (left : ℕ) (text : List ℕ) → 0 < left → plain left text ≡ written text (left - 1)
plain_some left text some = rw (ne_eqb left 0 (omega arith)) refl

module _ {W : Type 0} (limits : Limits) (shown : Shown W) where
  abbrev pub object_of_shape : (inside left : ℕ) → W → Shape W → Written
  object_of_shape inside left w (Int z) = plain left (atom_text shown w (Int z))
  object_of_shape inside left w (Char c) = plain left (atom_text shown w (Char c))
  object_of_shape inside left w (Sym kind n) = plain left (atom_text shown w (Sym kind n))
  object_of_shape inside left w (Cons car cdr) = group limits inside left (codes "(") (λ n. list_at limits shown (suc inside) 0 n w)
  object_of_shape inside left w (Vector n) = group limits inside left (codes "#(") (λ n. elements_at limits shown (suc inside) 0 n w)
  object_of_shape inside left w (Str n) = plain left (atom_text shown w (Str n))
  object_of_shape inside left w Fun = plain left (atom_text shown w Fun)
  object_of_shape inside left w shape.Bad = plain left (atom_text shown w shape.Bad)

  -- the tree one deeper tells the same
  object_deeper : (inside left : ℕ) (w : W) → left ≤ limits.total
      → object_at limits shown inside left w ≡ object limits inside left (tree_of (suc (depth_of limits)) shown w)
  unfolding object_at
  object_deeper inside left w le = sym (object_stays limits shown (depth_of limits) inside left w (inr (omega arith)))

  list_deeper : (inside done left : ℕ) (w : W) → left ≤ limits.total
      → list_at limits shown inside done left w ≡ list limits inside done left (tree_of (suc (depth_of limits)) shown w)
  unfolding list_at
  list_deeper inside done left w le = sym (list_stays limits shown (depth_of limits) inside done left w (inr (omega arith)))

  -- a list by its cons
  list_cons : (inside done left : ℕ) (w car cdr : W) → left ≤ limits.total → shown.shape w ≡ Cons car cdr
      → list_at limits shown inside done left w
      ≡ element limits done left (followed (object_at limits shown inside left car) (λ m. list_at limits shown inside (suc done) m cdr))
  unfolding object_at list_at
  list_cons inside done left w car cdr le e =
      list_deeper inside done left w le
      ∙ ap (λ (s : Shape W). list limits inside done left (shape_tree (tree_of (depth_of limits) shown) shown w s)) e

  object_by_shape : (inside left : ℕ) (w : W) → left ≤ limits.total → (s : Shape W) → shown.shape w ≡ s
      → object limits inside left (shape_tree (tree_of (depth_of limits) shown) shown w s) ≡ object_of_shape inside left w s
  unfolding object_at list_at elements_at
  object_by_shape inside left w le (Int z) e = refl
  object_by_shape inside left w le (Char c) e = refl
  object_by_shape inside left w le (Sym kind n) e = refl
  object_by_shape inside left w le (Cons car cdr) e =
      group_same limits inside left (codes "(")
      (λ n. element limits 0 n (followed (object limits (suc inside) n (tree_of (depth_of limits) shown car)) (λ m. list limits (suc inside) 1 m (tree_of (depth_of limits) shown cdr))))
      (λ n. list_at limits shown (suc inside) 0 n w)
      (sym (list_cons (suc inside) 0 (left - 1) w car cdr (omega arith) e))
  object_by_shape inside left w le (Vector n) e =
      group_same limits inside left (codes "#(")
      (λ m. elements limits (suc inside) 0 m (trees (map (tree_of (depth_of limits) shown) (in_order (shown.element w) 0 n))))
      (λ m. elements_at limits shown (suc inside) 0 m w)
      (let count : item_count (shown.shape w) - 0 ≡ n = ap (λ (s : Shape W). item_count s - 0) e ∙ (omega arith) in
      ap (λ (k : ℕ). elements limits (suc inside) 0 (left - 1) (trees (map (tree_of (depth_of limits) shown) (in_order (shown.element w) 0 k)))) (sym count))
  object_by_shape inside left w le (Str n) e = refl
  object_by_shape inside left w le Fun e = refl
  object_by_shape inside left w le shape.Bad e = refl

  -- an object by its shape
  pub object_at_is : (inside left : ℕ) (w : W) → left ≤ limits.total → (s : Shape W) → shown.shape w ≡ s
      → object_at limits shown inside left w ≡ object_of_shape inside left w s
  object_at_is inside left w le s e =
      object_deeper inside left w le
      ∙ ap (λ (t : Shape W). object limits inside left (shape_tree (tree_of (depth_of limits) shown) shown w t)) e
      ∙ object_by_shape inside left w le s e

  abbrev pub list_of_shape : (inside done left : ℕ) → W → Shape W → Written
  list_of_shape inside done left w (Cons car cdr) =
      element limits done left (followed (object_at limits shown inside left car) (λ m. list_at limits shown inside (done + 1) m cdr))
  list_of_shape inside done left w (Int z) = last_text limits shown inside left w (Int z)
  list_of_shape inside done left w (Char c) = last_text limits shown inside left w (Char c)
  list_of_shape inside done left w (Sym kind n) = last_text limits shown inside left w (Sym kind n)
  list_of_shape inside done left w (Vector n) = last_text limits shown inside left w (Vector n)
  list_of_shape inside done left w (Str n) = last_text limits shown inside left w (Str n)
  list_of_shape inside done left w Fun = last_text limits shown inside left w Fun
  list_of_shape inside done left w shape.Bad = last_text limits shown inside left w shape.Bad

  list_by_shape : (inside done left : ℕ) (w : W) → left ≤ limits.total → (s : Shape W) → shown.shape w ≡ s
      → list limits inside done left (shape_tree (tree_of (depth_of limits) shown) shown w s) ≡ list_of_shape inside done left w s
  unfolding object_at list_at elements_at
  list_by_shape inside done left w le (Int z) e = ap (λ (p : Written). dotted p) (sym (object_at_is inside left w le (Int z) e))
  list_by_shape inside done left w le (Char c) e = ap (λ (p : Written). dotted p) (sym (object_at_is inside left w le (Char c) e))
  list_by_shape inside done left w le (Sym kind n) e =
      ap (λ (p : Written). if ends_list shown w (Sym kind n) then written [] left else dotted p) (sym (object_at_is inside left w le (Sym kind n) e))
  list_by_shape inside done left w le (Cons car cdr) e = rw (add-one done) refl
  list_by_shape inside done left w le (Vector n) e = ap (λ (p : Written). dotted p)
      (sym (object_deeper inside left w le ∙ ap (λ (t : Shape W). object limits inside left (shape_tree (tree_of (depth_of limits) shown) shown w t)) e))
  list_by_shape inside done left w le (Str n) e = ap (λ (p : Written). dotted p) (sym (object_at_is inside left w le (Str n) e))
  list_by_shape inside done left w le Fun e = ap (λ (p : Written). dotted p) (sym (object_at_is inside left w le Fun e))
  list_by_shape inside done left w le shape.Bad e = ap (λ (p : Written). dotted p) (sym (object_at_is inside left w le shape.Bad e))

  -- what follows in a list, by the shape of the CDR
  pub list_at_is : (inside done left : ℕ) (w : W) → left ≤ limits.total → (s : Shape W) → shown.shape w ≡ s
      → list_at limits shown inside done left w ≡ list_of_shape inside done left w s
  list_at_is inside done left w le s e =
      list_deeper inside done left w le
      ∙ ap (λ (t : Shape W). list limits inside done left (shape_tree (tree_of (depth_of limits) shown) shown w t)) e
      ∙ list_by_shape inside done left w le s e

  -- what follows in a vector, and its end
  pub elements_more : (inside done left : ℕ) (w : W) → done < item_count (shown.shape w)
      → elements_at limits shown inside done left w
      ≡ element limits done left (followed (object_at limits shown inside left (shown.element w done)) (λ m. elements_at limits shown inside (done + 1) m w))
  unfolding object_at elements_at
  elements_more inside done left w lt =
      let count : item_count (shown.shape w) - done ≡ suc (item_count (shown.shape w) - suc done) = omega arith in
      rw (add-one done, count) refl

  pub elements_end : (inside done left : ℕ) (w : W) → item_count (shown.shape w) ≤ done → elements_at limits shown inside done left w ≡ written [] left
  unfolding elements_at
  elements_end inside done left w le =
      let count : item_count (shown.shape w) - done ≡ 0 = omega arith in
      rw count refl

  -- an object without parts, where some are left, and where none is
  pub object_plain : (inside left : ℕ) (w : W) → left ≤ limits.total → 0 < left → (s : Shape W) → shown.shape w ≡ s
      → ((car cdr : W) → s ≡ Cons car cdr → ⊥) → ((n : ℕ) → s ≡ Vector n → ⊥)
      → object_at limits shown inside left w ≡ written (atom_text shown w s) (left - 1)
  object_plain inside left w le some s e no_cons no_vector =
      object_at_is inside left w le s e ∙ of_shape s no_cons no_vector
    where
      of_shape : (s : Shape W) → ((car cdr : W) → s ≡ Cons car cdr → ⊥) → ((n : ℕ) → s ≡ Vector n → ⊥)
          → object_of_shape inside left w s ≡ written (atom_text shown w s) (left - 1)
      of_shape (Int z) no_cons no_vector = plain_some left (atom_text shown w (Int z)) some
      of_shape (Char c) no_cons no_vector = plain_some left (atom_text shown w (Char c)) some
      of_shape (Sym kind n) no_cons no_vector = plain_some left (atom_text shown w (Sym kind n)) some
      of_shape (Cons car cdr) no_cons no_vector = absurd (no_cons car cdr refl)
      of_shape (Vector n) no_cons no_vector = absurd (no_vector n refl)
      of_shape (Str n) no_cons no_vector = plain_some left (atom_text shown w (Str n)) some
      of_shape Fun no_cons no_vector = plain_some left (atom_text shown w Fun) some
      of_shape shape.Bad no_cons no_vector = plain_some left (atom_text shown w shape.Bad) some

  pub object_at_none : (inside left : ℕ) (w : W) → left ≡ 0 → object_at limits shown inside left w ≡ written (codes "...") 0
  unfolding object_at
  object_at_none inside left w none = rw none (object_none limits inside (tree_of (depth_of limits) shown w))

  -- the last CDR of a list
  pub list_last : (inside done left : ℕ) (w : W) → left ≤ limits.total → (s : Shape W) → shown.shape w ≡ s
      → ((car cdr : W) → s ≡ Cons car cdr → ⊥)
      → list_at limits shown inside done left w ≡ last_text limits shown inside left w s
  list_last inside done left w le s e no_cons =
      list_at_is inside done left w le s e ∙ of_shape s no_cons
    where
      of_shape : (s : Shape W) → ((car cdr : W) → s ≡ Cons car cdr → ⊥) → list_of_shape inside done left w s ≡ last_text limits shown inside left w s
      of_shape (Int z) no_cons = refl
      of_shape (Char c) no_cons = refl
      of_shape (Sym kind n) no_cons = refl
      of_shape (Cons car cdr) no_cons = absurd (no_cons car cdr refl)
      of_shape (Vector n) no_cons = refl
      of_shape (Str n) no_cons = refl
      of_shape Fun no_cons = refl
      of_shape shape.Bad no_cons = refl

  -- a list or vector that is begun
  group_begun : (os : List (Open W)) (left : ℕ) (opening : List ℕ) (part : Open W) (f : ℕ → Written) → 0 < left
      → f (left - 1) ≡ open_text limits shown (suc (length os)) (left - 1) part
      → finish limits shown (group limits (length os) left opening f) os ≡ begun limits shown (left - 1) opening part os
  group_begun os left opening part f some e =
      elim (leb_tells limits.level (length os)) [
        | inl deep ↦ rw (ne_eqb left 0 (omega arith), deep.0) refl
        | inr shallow ↦ rw (ne_eqb left 0 (omega arith), shallow.0, e) (simp append_assoc)
      ]

  pub list_begun : (os : List (Open W)) (left : ℕ) (w car cdr : W) → left ≤ limits.total → 0 < left → shown.shape w ≡ Cons car cdr
      → finish limits shown (object_at limits shown (length os) left w) os ≡ begun limits shown (left - 1) (codes "(") (open_part.List w 0) os
  list_begun os left w car cdr le some e =
      ap (λ (p : Written). finish limits shown p os) (object_at_is (length os) left w le (Cons car cdr) e)
      ∙ group_begun os left (codes "(") (open_part.List w 0) (λ n. list_at limits shown (suc (length os)) 0 n w) some refl

  pub vector_begun : (os : List (Open W)) (left : ℕ) (w : W) (n : ℕ) → left ≤ limits.total → 0 < left → shown.shape w ≡ Vector n
      → finish limits shown (object_at limits shown (length os) left w) os ≡ begun limits shown (left - 1) (codes "#(") (open_part.Vector w 0) os
  vector_begun os left w n le some e =
      ap (λ (p : Written). finish limits shown p os) (object_at_is (length os) left w le (Vector n) e)
      ∙ group_begun os left (codes "#(") (open_part.Vector w 0) (λ m. elements_at limits shown (suc (length os)) 0 m w) some refl

  -- ---- what stands in a list or vector that is open

  pub element_cut : (done left : ℕ) (p : Written) → limits.length ≤ done → element limits done left p ≡ written (codes " ...") left
  element_cut done left p le = rw (le-leb limits.length done le) refl

  pub list_element : (inside done left : ℕ) (w car cdr : W) → left ≤ limits.total → shown.shape w ≡ Cons car cdr
      → list_at limits shown inside done left w
      ≡ element limits done left (followed (object_at limits shown inside left car) (λ m. list_at limits shown inside (done + 1) m cdr))
  list_element inside done left w car cdr le e = list_at_is inside done left w le (Cons car cdr) e

  pub list_cut : (inside done left : ℕ) (w car cdr : W) → left ≤ limits.total → shown.shape w ≡ Cons car cdr → limits.length ≤ done
      → list_at limits shown inside done left w ≡ written (codes " ...") left
  list_cut inside done left w car cdr le e cut =
      list_element inside done left w car cdr le e
      ∙ element_cut done left (followed (object_at limits shown inside left car) (λ m. list_at limits shown inside (done + 1) m cdr)) cut

  pub elements_cut : (inside done left : ℕ) (w : W) → done < item_count (shown.shape w) → limits.length ≤ done
      → elements_at limits shown inside done left w ≡ written (codes " ...") left
  elements_cut inside done left w lt cut =
      elements_more inside done left w lt
      ∙ element_cut done left (followed (object_at limits shown inside left (shown.element w done)) (λ m. elements_at limits shown inside (done + 1) m w)) cut

  -- ---- a whole value

  deep_enough : (more : ℕ) (w : W)
      → object limits 0 limits.total (tree_of (depth_of limits + more) shown w) ≡ object limits 0 limits.total (tree_of (depth_of limits) shown w)
  deep_enough zero w = rw (add-zero (depth_of limits)) refl
  deep_enough (suc more) w =
      rw (add-suc (depth_of limits) more)
      (object_stays limits shown (depth_of limits + more) 0 limits.total w (inr (omega arith)) ∙ deep_enough more w)

  pub at_any_depth : (w : W) (depth : ℕ) → depth_of limits ≤ depth → word_text limits shown w ≡ tree_text limits (tree_of depth shown w)
  unfolding word_text
  at_any_depth w depth le =
      let e : depth_of limits + (depth - depth_of limits) ≡ depth = omega arith in
      ap (λ (p : Written). p.text)
      (sym (deep_enough (depth - depth_of limits) w) ∙ ap (λ (j : ℕ). object limits 0 limits.total (tree_of j shown w)) e)

  -- nothing is printed, and nothing is open
  pub whole_begins : (text : List ℕ) (os : List (Open W)) (left : ℕ) (w : W) → text ≡ [] → os ≡ [] → left ≡ limits.total
      → text ++ finish limits shown (object_at limits shown (length os) left w) os ≡ word_text limits shown w
  unfolding word_text object_at
  whole_begins text os left w no_text none all = rw (no_text, none, all) (append-nil (object limits 0 limits.total (tree_of (depth_of limits) shown w)).text)
