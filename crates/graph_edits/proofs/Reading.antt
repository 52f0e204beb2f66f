-- What is read alike of a graph and of the edited one: elements of lists, tests, and the variables of extents.
use Rattle.std.proofs.Common.{◌≡◌, ◌≢◌, refl, ap, sym, subst, ◌∙◌, ℕ, zero, suc, ◌+◌, ◌-◌, ◌<◌, ◌≤◌, arith, Bool, true, false, ◌||◌, ◌&&◌, ◌==◌, eq-eqb, List, [], ◌∷◌, ◌++◌, drop, length, Option, Some, None}
use Rattle.std.specs.Prelude.{slice_get}
use Rattle.std.specs.List.{list_any, list_all}
use Rattle.std.proofs.lemmas.Bool.{eqb-true}
use Rattle.std.proofs.lemmas.Option.{same_Some}
use Rattle.core_form.specs.State.{State}
use Rattle.core_form.specs.Effect.{Effect, ◌>>◌}
use Rattle.core_form.specs.Force.{Force}
use Rattle.icr_graph.specs.declared.nodes.NodeKind.{NodeKind}
use Rattle.icr_graph.specs.declared.nodes.NodeKind.TheVariants as kind
use Rattle.icr_graph.specs.declared.nodes.Node.{Node}
use Rattle.icr_graph.specs.declared.parts.Cont.{Cont}
use Rattle.icr_graph.specs.declared.parts.Block.{Block}
use Rattle.icr_graph.specs.Lists.{has_number, listed, last_alone}
use Rattle.icr_graph.specs.Kinds.{arrivals_of, entry_left, is_if}
use Rattle.icr_graph.specs.Plain.{FlowGraph, nodes_in, blocks_after}
use Rattle.graph_meaning.specs.Machine.{Delivered, value_at, Activation, at_block, Waiting, going}
use Rattle.graph_meaning.specs.Reading.{assertions_on, named, variable_of_entry, variable_left}
use Rattle.graph_meaning.specs.Effects.{test_all, test_operands}
use Rattle.graph_meaning.specs.Running.{to_next}
use Rattle.graph_edits.proofs.Alike.{Edit, of_kind, with_others, AllArrive}
use Rattle.graph_edits.proofs.Nodes.{Chooses, behind_both, at_last, Fits}

-- ---- elements of lists by their index

pub got_front : {A : Type 0} (xs ys : List A) (i : ℕ) (x : A) → slice_get xs i ≡ Some x → slice_get (xs ++ ys) i ≡ Some x
got_front [] ys i x e = cc
got_front (y ∷ xs) ys zero x e = e
got_front (y ∷ xs) ys (suc i) x e = got_front xs ys i x e

pub got_back : {A : Type 0} (xs ys : List A) (i : ℕ) → slice_get (xs ++ ys) (length xs + i) ≡ slice_get ys i
got_back [] ys i = ap (slice_get ys) {x = 0 + i} (omega arith)
got_back (x ∷ xs) ys i = ap (slice_get (x ∷ (xs ++ ys))) {x = suc (length xs) + i} {y = suc (length xs + i)} (omega arith) ∙ got_back xs ys i

pub got_none : {A : Type 0} (xs : List A) (i : ℕ) → slice_get xs i ≡ None → length xs ≤ i
got_none [] i e = omega arith
got_none (x ∷ xs) zero e = cc
got_none (x ∷ xs) (suc i) e = omega (arith, got_none xs i e)

pub got_some : {A : Type 0} (xs : List A) (i : ℕ) (x : A) → slice_get xs i ≡ Some x → i < length xs
got_some [] i x e = cc
got_some (y ∷ xs) zero x e = omega arith
got_some (y ∷ xs) (suc i) x e = omega (arith, got_some xs i x e)

-- the last element alone
dropped : {A : Type 0} (xs : List A) (i : ℕ) (x : A) → slice_get xs i ≡ Some x → drop i xs ≡ x ∷ drop (suc i) xs
dropped [] i x e = cc
dropped (y ∷ ys) zero x e = ap (λ z. z ∷ ys) (same_Some y x e)
dropped (y ∷ ys) (suc i) x e = dropped ys i x e

pub last_passes : {A : Type 0} (test : A → Bool) (xs : List A) (i : ℕ) (x : A) → slice_get xs i ≡ Some x → suc i ≡ length xs → list_any test (last_alone xs) ≡ false → test x ≡ false
last_passes {A} test xs i x got last none =
    by_case (test x) (rw (dropped xs i x got) at (subst (λ (n : ℕ). list_any test (drop n xs) ≡ false) {x = length xs - 1} {y = i} (omega (arith, last)) none))
  where
    by_case : (t : Bool) → (t || list_any test (drop (suc i) xs)) ≡ false → t ≡ false
    by_case true e = cc
    by_case false e = refl

-- ---- numbers that aren't in a list

pub apart_first : (c b : ℕ) (bs : List ℕ) → has_number c (b ∷ bs) ≡ false → b ≢ c
apart_first c b bs h e = absurd_of (rw (eq-eqb b c e) at h)
  where
    absurd_of : true ≡ false → ⊥
    absurd_of q = cc

pub apart_rest : (c b : ℕ) (bs : List ℕ) → has_number c (b ∷ bs) ≡ false → has_number c bs ≡ false
apart_rest c b bs h = by_case (b == c) h
  where
    by_case : (t : Bool) → (t || has_number c bs) ≡ false → has_number c bs ≡ false
    by_case true e = cc
    by_case false e = e

pub apart_from_all : (c b : ℕ) (bs : List ℕ) → has_number c bs ≡ false → has_number b bs ≡ true → b ≢ c
apart_from_all c b bs absent has e = absurd_of (sym absent ∙ (ap (λ (n : ℕ). has_number n bs) (sym e) ∙ has))
  where
    absurd_of : false ≡ true → ⊥
    absurd_of q = cc

-- ---- the end of a block whose successors are all one

pub leads_to : (c : ℕ) (bs : List ℕ) → list_all (λ b. b == c) bs ≡ true → has_number c bs ≡ true → (a : Activation) (ws : List Waiting) (s : State) → to_next bs a ws s ≡ going (at_block c a) ws s
leads_to c [] all has a ws s = cc
leads_to c (b ∷ bs) all has a ws s = by_case (b == c) refl all
  where
    at_c : b ≡ c → list_all (λ x. x == c) bs ≡ true → to_next (b ∷ bs) a ws s ≡ going (at_block c a) ws s
    at_c e rest = rw (e, rest) refl

    by_case : (t : Bool) → (b == c) ≡ t → (t && list_all (λ x. x == c) bs) ≡ true → to_next (b ∷ bs) a ws s ≡ going (at_block c a) ws s
    by_case true is rest = at_c (eqb-true b c is) rest
    by_case false is rest = cc

-- ---- tests

-- the tests are those of the same continuations
pub tests_same : (h : FlowGraph) (ns : ℕ → Option Node) (bs : ℕ → Option Block) (f : Force) (d : Delivered) (ks : List ℕ) → test_operands h f d ks ≡ test_operands (with_others h ns h.cont bs) f d ks
unfolding test_operands
tests_same h ns bs f d [] = refl
tests_same h ns bs f d (k ∷ ks) = ap (λ (m : Effect (Unit {0})). test_all f (assertions_on (h.cont k)) (value_at d k) >> m) (tests_same h ns bs f d ks)

-- ---- the variables of extents

-- the entry of an extent names the same variable in another block
pub same_variable : (nd : Node) (x : ℕ) → variable_of_entry (Some nd) ≡ variable_of_entry (Some (of_kind nd.kind x nd))
same_variable nd x = refl

pub left_same : (h : FlowGraph) (ns : ℕ → Option Node) (cs : ℕ → Option Cont) (bs : ℕ → Option Block) →
    ((m : ℕ) (nd : Node) → h.node m ≡ Some nd → (x : ℕ) × (ns m ≡ Some (of_kind nd.kind x nd))) → ((m : ℕ) → h.node m ≡ None → ns m ≡ None) →
    (entry : Option ℕ) → variable_left h entry ≡ variable_left (with_others h ns cs bs) entry
left_same h ns cs bs kept gone None = refl
left_same h ns cs bs kept gone (Some m) = ap (λ (o : Option ℕ). named h.variable o) (by_case (h.node m) refl)
  where
    by_case : (o : Option Node) → h.node m ≡ o → variable_of_entry (h.node m) ≡ variable_of_entry (ns m)
    by_case None is = rw (is, gone m is) refl
    by_case (Some nd) is = let k = kept m nd is in rw (is, k.1) (same_variable nd k.0)

-- ---- what a kind names

pub fits_by : (E : Edit) (h h' : FlowGraph) (c b i b' i' : ℕ) (k : NodeKind) →
    (is_if k ≡ true → Chooses E c (slice_get (nodes_in h b) (suc i)) (slice_get (nodes_in h' b') (suc i')) (blocks_after h b) (blocks_after h' b')) →
    AllArrive E c (arrivals_of k) → ((entry : Option ℕ) → listed entry ≡ entry_left k → variable_left h entry ≡ variable_left h' entry) → Fits E h h' c b i b' i' k
fits_by E h h' c b i b' i' (kind.Ref l) chooses to left = tt
fits_by E h h' c b i b' i' (kind.Set y value) chooses to left = tt
fits_by E h h' c b i b' i' (kind.If test) chooses to left = chooses refl
fits_by E h h' c b i b' i' (kind.Combination op ks) chooses to left = tt
fits_by E h h' c b i b' i' (kind.MvCombination g ks tail) chooses to left = tt
fits_by E h h' c b i b' i' (kind.Bind y value) chooses to left = tt
fits_by E h h' c b i b' i' (kind.Return value) chooses to left = tt
fits_by E h h' c b i b' i' (kind.Entry y exits) chooses to left = to
fits_by E h h' c b i b' i' (kind.Exit y entry) chooses to left = left entry refl

pub fits_from : (E : Edit) (h h' : FlowGraph) (c b i b' i' : ℕ) (k : NodeKind) →
    (is_if k ≡ true → Chooses E c (slice_get (nodes_in h b) (suc i)) (slice_get (nodes_in h' b') (suc i')) (blocks_after h b) (blocks_after h' b')) →
    AllArrive E c (arrivals_of k) → ((entry : Option ℕ) → variable_left h entry ≡ variable_left h' entry) → Fits E h h' c b i b' i' k
fits_from E h h' c b i b' i' k chooses to left = fits_by E h h' c b i b' i' k chooses to (λ entry e. left entry)

-- an If that stands alike chooses alike
pub chooses_same : (E : Edit) (c : ℕ) (o : Option ℕ) (bs : List ℕ) → AllArrive E c bs → Chooses E c o o bs bs
chooses_same E c None bs to = at_last bs to
chooses_same E c (Some y) bs to = behind_both y y
