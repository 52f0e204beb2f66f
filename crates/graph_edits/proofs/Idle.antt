-- Which nodes have no effect.
use Rattle.std.proofs.Common.{◌≡◌, refl, ap, sym, subst, ◌∙◌, ℕ, ◌+◌, ◌-◌, ◌*◌, arith, Bool, true, false, not, List, [], ◌∷◌, length, Option, Some, None}
use Rattle.std.specs.List.{list_all}
use Rattle.std.proofs.lemmas.Bool.{and_parts}
use Rattle.std.proofs.lemmas.Option.{same_Some}
use Rattle.lisp_base.specs.declared.values.Val.{Val}
use Rattle.lisp_base.specs.declared.values.Place.{Place}
use Rattle.lisp_base.specs.Sort.{nil}
use Rattle.core_form.specs.State.{State, all_big}
use Rattle.core_form.specs.Effect.{Effect, Ended, Gave, ◌>>=◌, ◌>>◌, pure, read, change, counting, boxes_more, deliver_more, and_then}
use Rattle.core_form.specs.Force.{Vals, Force, one}
use Rattle.icr_graph.specs.declared.nodes.Charges.{Charges}
use Rattle.icr_graph.specs.declared.nodes.Leaf.{Leaf}
use Rattle.icr_graph.specs.declared.nodes.Leaf.TheVariants as leaf
use Rattle.icr_graph.specs.declared.nodes.Operation.{Operation}
use Rattle.icr_graph.specs.declared.nodes.Operation.TheVariants as operation
use Rattle.icr_graph.specs.declared.nodes.NodeKind.{NodeKind}
use Rattle.icr_graph.specs.declared.nodes.NodeKind.TheVariants as kind
use Rattle.icr_graph.specs.declared.nodes.Node.{Node}
use Rattle.icr_graph.specs.declared.parts.Assertion.{Assertion}
use Rattle.icr_graph.specs.declared.parts.Variable.{Variable}
use Rattle.icr_graph.specs.Kinds.{operands_of}
use Rattle.icr_graph.specs.Plain.{FlowGraph}
use Rattle.graph_meaning.specs.Machine.{Delivered, value_at, Activation, advanced, holding, taking, Waiting, Machine, going, after}
use Rattle.graph_meaning.specs.Reading.{assertions_on}
use Rattle.graph_meaning.specs.Effects.{delivered_by, test, test_all, test_operands, on_variable, leaf_values, box_before, operate}
use Rattle.graph_meaning.specs.Extents.{spent}
use Rattle.graph_meaning.specs.Running.{gives, first_values, all_values, acts, runs_node}
use Rattle.graph_edits.specs.Laws.{is_reading, is_plain, are_unchecked, IsIdle, IdleHaveNoEffect}

-- ---- nothing is counted

abbrev counted : (extra boxes apart : ℕ) → State → State
counted x b o s = record s { counts = record s.counts { extra = x; boxes = b; boxes_outside_words = o } }

no_more : (x m : ℕ) → x + 0 * m ≡ x
no_more x m = omega arith

nothing_counted : (vs : Vals) (s : State) → counted (s.counts.extra + 0 * (length vs - 1)) (s.counts.boxes + 0 * all_big vs) (s.counts.boxes_outside_words + 0 * all_big vs) s ≡ s
nothing_counted vs s =
    ap (λ (x : ℕ). counted x (s.counts.boxes + 0 * all_big vs) (s.counts.boxes_outside_words + 0 * all_big vs) s) (no_more s.counts.extra (length vs - 1))
    ∙ (ap (λ (b : ℕ). counted s.counts.extra b (s.counts.boxes_outside_words + 0 * all_big vs) s) (no_more s.counts.boxes (all_big vs))
    ∙ ap (λ (o : ℕ). counted s.counts.extra s.counts.boxes o s) (no_more s.counts.boxes_outside_words (all_big vs)))

delivers_alone : (c : Charges) → c.levels ≡ 0 → c.boxing ≡ 0 → (vs : Vals) (s : State) → delivered_by c vs s ≡ Gave vs s
unfolding delivered_by deliver_more boxes_more counting change pure ◌>>=◌
delivers_alone c levels boxing vs s = rw (levels, boxing) (ap (λ (t : State). Gave vs t) (nothing_counted vs s))

spends_nothing : (n : ℕ) → n ≡ 0 → (s : State) → spent n s ≡ s
spends_nothing n e s = ap (λ (x : ℕ). record s { counts = record s.counts { cost = x } }) {x = s.counts.cost + n} {y = s.counts.cost} (omega (arith, e))

-- ---- nothing is tested

quiet_all : (f : Force) (ts : List Assertion) (v : Val) → are_unchecked ts ≡ true → (s : State) → test_all f ts v s ≡ Gave tt s
unfolding test_all test pure ◌>>=◌
quiet_all f [] v h s = refl
quiet_all f (t ∷ ts) v h s =
    let parts = and_parts (not t.checked) (are_unchecked ts) h in
    by_flag t.checked refl parts.0 (quiet_all f ts v parts.1 s)
  where
    by_flag : (b : Bool) → t.checked ≡ b → not t.checked ≡ true → test_all f ts v s ≡ Gave tt s → test_all f (t ∷ ts) v s ≡ Gave tt s
    by_flag true is q ih = absurd_of (rw is at q)
      where
        absurd_of : false ≡ true → test_all f (t ∷ ts) v s ≡ Gave tt s
        absurd_of e = cc
    by_flag false is q ih = rw is ih

quiet_operands : (g : FlowGraph) (f : Force) (d : Delivered) (ks : List ℕ) → list_all (λ k. are_unchecked (assertions_on (g.cont k))) ks ≡ true → (s : State) → test_operands g f d ks s ≡ Gave tt s
unfolding test_operands pure ◌>>=◌
quiet_operands g f d [] h s = refl
quiet_operands g f d (k ∷ ks) h s =
    let parts = and_parts (are_unchecked (assertions_on (g.cont k))) (list_all (λ j. are_unchecked (assertions_on (g.cont j))) ks) h in
    ap (λ (o : Ended (Unit {0})). and_then o (λ u. test_operands g f d ks)) (quiet_all f (assertions_on (g.cont k)) (value_at d k) parts.0 s) ∙ quiet_operands g f d ks parts.1 s

-- ---- what plain nodes give

-- an effect that gives values alone
abbrev GivesAlone : Effect Vals → State → Type 0
GivesAlone m s = (vs : Vals) × (m s ≡ Gave vs s)

reads_alone : (o : Option Variable) (h : Variable → State → Val) (s : State) → GivesAlone (on_variable o nil (λ y. read (h y) >>= one)) s
unfolding read one pure ◌>>=◌
reads_alone None h s = (nil ∷ [], refl)
reads_alone (Some y) h s = (h y s ∷ [], refl)

leaf_alone : (g : FlowGraph) (start : ℕ) (a : Activation) (p : Place) (l : Leaf) → is_reading l ≡ true → (s : State) → GivesAlone (leaf_values g start a p l) s
unfolding leaf_values one pure
leaf_alone g start a p (leaf.Constant v) h s = (v ∷ [], refl)
leaf_alone g start a p (leaf.Variable x) h s = reads_alone (g.variable x) _ s
leaf_alone g start a p (leaf.Global y) h s = cc
leaf_alone g start a p (leaf.GlobalFunction y) h s = cc
leaf_alone g start a p (leaf.Functional y) h s = cc
leaf_alone g start a p (leaf.Closed y counted) h s = cc
leaf_alone g start a p (leaf.Argument i) h s = (_, refl)
leaf_alone g start a p (leaf.Supplied i) h s = (_, refl)
leaf_alone g start a p (leaf.RestFrom i) h s = cc

operates_alone : (f : Force) (p : Place) (op : Operation) (ks : List ℕ) → is_plain (kind.Combination op ks) ≡ true → (firsts all : Vals) (s : State) → GivesAlone (operate f p op firsts all) s
unfolding operate read one pure ◌>>=◌
operates_alone f p (operation.Primitive q) ks h firsts all s = cc
operates_alone f p (operation.Is t) ks h firsts all s = (_, refl)
operates_alone f p (operation.SetGlobal name) ks h firsts all s = cc
operates_alone f p (operation.SetFunction name) ks h firsts all s = cc
operates_alone f p operation.Values ks h firsts all s = (firsts, refl)
operates_alone f p operation.Pass ks h firsts all s = (all, refl)
operates_alone f p (operation.CallGlobal name tail) ks h firsts all s = cc
operates_alone f p (operation.Funcall tail) ks h firsts all s = cc
operates_alone f p (operation.Apply tail) ks h firsts all s = cc
operates_alone f p (operation.CallKnown g entry tail) ks h firsts all s = cc

-- plain nodes box nothing
boxes_nothing : (k : NodeKind) → is_plain k ≡ true → (vs : Vals) (s : State) → box_before k vs s ≡ Gave tt s
unfolding box_before pure
boxes_nothing (kind.Ref l) h vs s = refl
boxes_nothing (kind.Set x value) h vs s = cc
boxes_nothing (kind.If test) h vs s = cc
boxes_nothing (kind.Combination (operation.Primitive q) ks) h vs s = cc
boxes_nothing (kind.Combination (operation.Is t) ks) h vs s = refl
boxes_nothing (kind.Combination (operation.SetGlobal name) ks) h vs s = cc
boxes_nothing (kind.Combination (operation.SetFunction name) ks) h vs s = cc
boxes_nothing (kind.Combination operation.Values ks) h vs s = refl
boxes_nothing (kind.Combination operation.Pass ks) h vs s = refl
boxes_nothing (kind.Combination (operation.CallGlobal name tail) ks) h vs s = cc
boxes_nothing (kind.Combination (operation.Funcall tail) ks) h vs s = cc
boxes_nothing (kind.Combination (operation.Apply tail) ks) h vs s = cc
boxes_nothing (kind.Combination (operation.CallKnown g entry tail) ks) h vs s = cc
boxes_nothing (kind.MvCombination f ks tail) h vs s = cc
boxes_nothing (kind.Bind x value) h vs s = cc
boxes_nothing (kind.Return value) h vs s = cc
boxes_nothing (kind.Entry x exits) h vs s = cc
boxes_nothing (kind.Exit w entry) h vs s = cc

-- ---- what plain nodes do

module _ (g : FlowGraph) (start : ℕ) (nd : Node) (levels : nd.charges.levels ≡ 0) (boxing : nd.charges.boxing ≡ 0) (d : Delivered) (b : Activation) (ws : List Waiting) (s : State) where
  -- some values go to the continuation, and nothing else happens
  abbrev GoesOn : Machine → Type 0
  GoesOn m = (vs : Vals) × (m ≡ going (advanced (holding nd.cont vs b)) ws s)

  gives_alone : (m : Effect Vals) → GivesAlone m s → GoesOn (gives nd b ws m s)
  unfolding ◌>>=◌
  gives_alone m r = (
    r.0,
    ap (λ (o : Ended Vals). after b ws (λ vs. going (advanced (holding nd.cont vs b)) ws) o) (ap (λ (o : Ended Vals). and_then o (delivered_by nd.charges)) r.1 ∙ delivers_alone nd.charges levels boxing r.0 s),
  )

  combines_alone : (op : Operation) (ks : List ℕ) → is_plain (kind.Combination op ks) ≡ true → GoesOn (acts g start nd d b ws (kind.Combination op ks) s)
  combines_alone (operation.Primitive q) ks h = cc
  combines_alone (operation.Is t) ks h = gives_alone _ (operates_alone b.force nd.place (operation.Is t) ks h (first_values d ks) (all_values d ks) s)
  combines_alone (operation.SetGlobal name) ks h = cc
  combines_alone (operation.SetFunction name) ks h = cc
  combines_alone operation.Values ks h = gives_alone _ (operates_alone b.force nd.place operation.Values ks h (first_values d ks) (all_values d ks) s)
  combines_alone operation.Pass ks h = gives_alone _ (operates_alone b.force nd.place operation.Pass ks h (first_values d ks) (all_values d ks) s)
  combines_alone (operation.CallGlobal name tail) ks h = cc
  combines_alone (operation.Funcall tail) ks h = cc
  combines_alone (operation.Apply tail) ks h = cc
  combines_alone (operation.CallKnown f entry tail) ks h = cc

  acts_alone : (k : NodeKind) → is_plain k ≡ true → GoesOn (acts g start nd d b ws k s)
  acts_alone (kind.Ref l) h = gives_alone (leaf_values g start b nd.place l) (leaf_alone g start b nd.place l h s)
  acts_alone (kind.Set x value) h = cc
  acts_alone (kind.If test) h = cc
  acts_alone (kind.Combination op ks) h = combines_alone op ks h
  acts_alone (kind.MvCombination f ks tail) h = cc
  acts_alone (kind.Bind x value) h = cc
  acts_alone (kind.Return value) h = cc
  acts_alone (kind.Entry x exits) h = cc
  acts_alone (kind.Exit w entry) h = cc

-- its operands are quiet
quiet_before : (g : FlowGraph) (nd : Node) → IsIdle g nd → (f : Force) (d : Delivered) (s : State) →
    (box_before nd.kind (first_values d (operands_of nd.kind)) >> test_operands g f d (operands_of nd.kind)) (spent nd.charges.cost s) ≡ Gave tt s
unfolding ◌>>=◌
quiet_before g nd i f d s =
    ap (λ (t : State). and_then (box_before nd.kind (first_values d (operands_of nd.kind)) t) (λ u. test_operands g f d (operands_of nd.kind))) (spends_nothing nd.charges.cost i.cost s)
    ∙ (ap (λ (o : Ended (Unit {0})). and_then o (λ u. test_operands g f d (operands_of nd.kind))) (boxes_nothing nd.kind i.plain (first_values d (operands_of nd.kind)) s)
    ∙ quiet_operands g f d (operands_of nd.kind) i.unchecked s)

pub idle_have_no_effect : IdleHaveNoEffect
idle_have_no_effect g n nd is i nd' is' start a ws s at =
    let same : nd ≡ nd' = same_Some nd nd' (sym is ∙ is') in
    let b = taking (operands_of nd.kind) a in
    let r = acts_alone g start nd i.levels i.boxing a.delivered b ws s nd.kind i.plain in
    subst (λ (v : Node). (vs : Vals) × (runs_node g start v a ws s ≡ going (advanced (holding v.cont vs (taking (operands_of v.kind) a))) ws s)) same
    (r.0, ap (λ (o : Ended (Unit {0})). after b ws (λ u. acts g start nd a.delivered b ws nd.kind) o) (quiet_before g nd i a.force a.delivered s) ∙ r.1)
