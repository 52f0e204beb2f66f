-- Lists without a number, and kinds of nodes without a partner.
use Rattle.std.proofs.Common.{◌≡◌, ◌≢◌, refl, ap, sym, ◌∙◌, ℕ, zero, suc, ◌<◌, ◌≤◌, arith, Bool, true, false, not, ◌||◌, ◌==◌, eq-eqb, ne_eqb, List, [], ◌∷◌, Option, Some}
use Rattle.std.specs.Prelude.{slice_get}
use Rattle.std.proofs.lemmas.Bool.{eqb-true}
use Rattle.std.proofs.lemmas.Option.{same_Some}
use Rattle.core_form.specs.State.{State}
use Rattle.core_form.specs.Force.{Vals}
use Rattle.icr_graph.specs.declared.nodes.NodeKind.{NodeKind}
use Rattle.icr_graph.specs.declared.nodes.NodeKind.TheVariants as kind
use Rattle.icr_graph.specs.declared.nodes.Leaving.{Leaving as Way}
use Rattle.icr_graph.specs.declared.nodes.Leaving.TheVariants as way
use Rattle.icr_graph.specs.declared.nodes.Node.{Node}
use Rattle.icr_graph.specs.Lists.{has_number, are_distinct, without, other_than, behind}
use Rattle.icr_graph.specs.Kinds.{operands_of, apart_from}
use Rattle.icr_graph.specs.Plain.{FlowGraph}
use Rattle.icr_graph.proofs.Distinct.{both_hold, not_true}
use Rattle.icr_graph.proofs.Touched.{without_none}
use Rattle.graph_meaning.specs.Machine.{Delivered, Activation, Waiting}
use Rattle.graph_meaning.specs.Reading.{variable_of_entry, variable_left}
use Rattle.graph_meaning.specs.Effects.{box_before}
use Rattle.graph_meaning.specs.Extents.{leave_by}
use Rattle.graph_meaning.specs.Running.{acts}
use Rattle.graph_edits.proofs.Steps.{got_has}

-- ---- a list without a number that stands in it once

-- the first isn't the number that stands later
apart_later : (x : ℕ) (ys : List ℕ) (q n : ℕ) → are_distinct (x ∷ ys) ≡ true → slice_get ys q ≡ Some n → x ≢ n
apart_later x ys q n once got e = absurd_of (sym (not_true (has_number x ys) (both_hold (not (has_number x ys)) (are_distinct ys) once).0) ∙ (ap (λ (z : ℕ). has_number z ys) e ∙ got_has ys q n got))
  where
    absurd_of : false ≡ true → ⊥
    absurd_of q = cc

rest_distinct : (x : ℕ) (ys : List ℕ) → are_distinct (x ∷ ys) ≡ true → are_distinct ys ≡ true
rest_distinct x ys once = (both_hold (not (has_number x ys)) (are_distinct ys) once).1

-- without its first
without_first : (n x : ℕ) (ys : List ℕ) → x ≡ n → are_distinct (x ∷ ys) ≡ true → without n (x ∷ ys) ≡ ys
without_first n x ys e once =
    rw (eq-eqb x n e) (without_none n ys (ap (λ (z : ℕ). has_number z ys) (sym e) ∙ not_true (has_number x ys) (both_hold (not (has_number x ys)) (are_distinct ys) once).0))

without_later : (n x : ℕ) (ys : List ℕ) → x ≢ n → without n (x ∷ ys) ≡ x ∷ without n ys
without_later n x ys other = rw (ne_eqb x n other) refl

pub got_before : (n : ℕ) (xs : List ℕ) (p i : ℕ) → are_distinct xs ≡ true → slice_get xs p ≡ Some n → i < p → slice_get (without n xs) i ≡ slice_get xs i
got_before n [] p i once got less = cc
got_before n (x ∷ ys) zero i once got less = absurd (omega (arith, less))
got_before n (x ∷ ys) (suc q) zero once got less = ap (λ (zs : List ℕ). slice_get zs 0) (without_later n x ys (apart_later x ys q n once got))
got_before n (x ∷ ys) (suc q) (suc i) once got less =
    ap (λ (zs : List ℕ). slice_get zs (suc i)) (without_later n x ys (apart_later x ys q n once got)) ∙ got_before n ys q i (rest_distinct x ys once) got (omega (arith, less))

pub got_behind : (n : ℕ) (xs : List ℕ) (p i : ℕ) → are_distinct xs ≡ true → slice_get xs p ≡ Some n → p ≤ i → slice_get (without n xs) i ≡ slice_get xs (suc i)
got_behind n [] p i once got le = cc
got_behind n (x ∷ ys) zero i once got le = ap (λ (zs : List ℕ). slice_get zs i) (without_first n x ys (same_Some x n got) once)
got_behind n (x ∷ ys) (suc q) zero once got le = absurd (omega (arith, le))
got_behind n (x ∷ ys) (suc q) (suc i) once got le =
    ap (λ (zs : List ℕ). slice_get zs (suc i)) (without_later n x ys (apart_later x ys q n once got)) ∙ got_behind n ys q i (rest_distinct x ys once) got (omega (arith, le))

-- a number stands at one place alone
pub one_place : (n : ℕ) (xs : List ℕ) (p i : ℕ) → are_distinct xs ≡ true → slice_get xs p ≡ Some n → slice_get xs i ≡ Some n → i ≡ p
one_place n [] p i once got got' = cc
one_place n (x ∷ ys) zero zero once got got' = refl
one_place n (x ∷ ys) zero (suc i) once got got' = absurd (apart_later x ys i n once got' (same_Some x n got))
one_place n (x ∷ ys) (suc q) zero once got got' = absurd (apart_later x ys q n once got (same_Some x n got'))
one_place n (x ∷ ys) (suc q) (suc i) once got got' = ap suc (one_place n ys q i (rest_distinct x ys once) got got')

-- what stands behind it comes next
pub next_behind : (n : ℕ) (xs : List ℕ) (p : ℕ) → are_distinct xs ≡ true → slice_get xs p ≡ Some n → slice_get xs (suc p) ≡ slice_get (behind n xs) 0
next_behind n [] p once got = cc
next_behind n (x ∷ ys) zero once got = rw (eq-eqb x n (same_Some x n got)) refl
next_behind n (x ∷ ys) (suc q) once got = rw (ne_eqb x n (apart_later x ys q n once got)) (next_behind n ys q (rest_distinct x ys once) got)

pub has_got : (n : ℕ) (xs : List ℕ) → has_number n xs ≡ true → (p : ℕ) × (slice_get xs p ≡ Some n)
has_got n [] h = cc
has_got n (x ∷ ys) h = by_case (x == n) refl h (has_got n ys)
  where
    by_case : (t : Bool) → (x == n) ≡ t → (t || has_number n ys) ≡ true → (has_number n ys ≡ true → (p : ℕ) × (slice_get ys p ≡ Some n)) → (p : ℕ) × (slice_get (x ∷ ys) p ≡ Some n)
    by_case true is e ih = (0, ap Some (eqb-true x n is))
    by_case false is e ih = let r = ih e in (suc r.0, r.1)

-- ---- the kind of a node that loses a partner

module _ (n : ℕ) where
  pub same_operands : (k : NodeKind) → operands_of (apart_from n k) ≡ operands_of k
  same_operands (kind.Ref l) = refl
  same_operands (kind.Set x value) = refl
  same_operands (kind.If test) = refl
  same_operands (kind.Combination op ks) = refl
  same_operands (kind.MvCombination f ks tail) = refl
  same_operands (kind.Bind x value) = refl
  same_operands (kind.Return value) = refl
  same_operands (kind.Entry x exits) = refl
  same_operands (kind.Exit w entry) = refl

  pub same_boxes : (k : NodeKind) (vs : Vals) → box_before k vs ≡ box_before (apart_from n k) vs
  unfolding box_before
  same_boxes (kind.Ref l) vs = refl
  same_boxes (kind.Set x value) vs = refl
  same_boxes (kind.If test) vs = refl
  same_boxes (kind.Combination op ks) vs = refl
  same_boxes (kind.MvCombination f ks tail) vs = refl
  same_boxes (kind.Bind x value) vs = refl
  same_boxes (kind.Return value) vs = refl
  same_boxes (kind.Entry x exits) vs = refl
  same_boxes (kind.Exit w entry) vs = refl

  pub same_extent : (k : NodeKind) (nd : Node) → variable_of_entry (Some (record nd { kind = k })) ≡ variable_of_entry (Some (record nd { kind = apart_from n k }))
  same_extent (kind.Ref l) nd = refl
  same_extent (kind.Set x value) nd = refl
  same_extent (kind.If test) nd = refl
  same_extent (kind.Combination op ks) nd = refl
  same_extent (kind.MvCombination f ks tail) nd = refl
  same_extent (kind.Bind x value) nd = refl
  same_extent (kind.Return value) nd = refl
  same_extent (kind.Entry x exits) nd = refl
  same_extent (kind.Exit w entry) nd = refl

  -- an exit that names the node leaves nothing of the source, if its variable is gone
  pub acts_apart : (g : FlowGraph) → ((entry : Option ℕ) → variable_left g entry ≡ variable_left g (other_than n entry)) →
      (start : ℕ) (nd : Node) (d : Delivered) (a : Activation) (ws : List Waiting) (k : NodeKind) (s : State) → acts g start nd d a ws k s ≡ acts g start nd d a ws (apart_from n k) s
  acts_apart g left start nd d a ws (kind.Ref l) s = refl
  acts_apart g left start nd d a ws (kind.Set x value) s = refl
  acts_apart g left start nd d a ws (kind.If test) s = refl
  acts_apart g left start nd d a ws (kind.Combination op ks) s = refl
  acts_apart g left start nd d a ws (kind.MvCombination f ks tail) s = refl
  acts_apart g left start nd d a ws (kind.Bind x value) s = refl
  acts_apart g left start nd d a ws (kind.Return value) s = refl
  acts_apart g left start nd d a ws (kind.Entry x exits) s = refl
  acts_apart g left start nd d a ws (kind.Exit w entry) s = leaves w
    where
      leaves : (w : Way) → leave_by g nd d entry a ws w s ≡ leave_by g nd d (other_than n entry) a ws w s
      leaves way.Close = refl
      leaves (way.Guard values) = refl
      leaves way.Resume = refl
      leaves way.Release = refl
      leaves (way.ReturnFrom name values) = rw (left entry) refl
      leaves (way.Go tag name) = rw (left entry) refl
      leaves (way.Throw tag values) = refl
