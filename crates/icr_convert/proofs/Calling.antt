-- Calls of functions. (This project's own.)
use Rattle.std.proofs.Common.{◌≡◌, ◌≤◌, inl, inr, ℕ, ◌+◌, suc, true, false, List, [], ◌∷◌, Option, Some, None, length, refl, ap, subst, ◌∙◌, arith}
use Rattle.lisp_base.specs.declared.values.Place.{Place}
use Rattle.lisp_base.specs.declared.values.SymId.{SymId}
use Rattle.core_form.specs.declared.tree.Core.{Core as Core'}
use Rattle.core_form.specs.Reading.{cores_list}
use Rattle.core_form.specs.Tree as tree
use Rattle.core_form.specs.Tree.{Core, Cores, cores_length}
use Rattle.core_form.specs.Facts.{FunctionText}
use Rattle.core_form.specs.Eval.{known}
use Rattle.icr_graph.specs.declared.nodes.NodeKind.TheVariants as kind
use Rattle.icr_graph.specs.declared.nodes.Leaf.TheVariants as leaf
use Rattle.icr_graph.specs.declared.nodes.Operation.{Operation}
use Rattle.icr_graph.specs.declared.nodes.Operation.TheVariants as operation
use Rattle.icr_graph.specs.Plain.{FlowGraph}
use Rattle.form_graphs.specs.Spots.{Spot, next, through, Here, Unasserted}
use Rattle.form_graphs.specs.Standing.{OperandsStandAt, IsFunction, left_after}
use Rattle.graph_building.specs.Later.{Lasting}
use Rattle.graph_building.specs.Built.{Built, graph, spot, NewCont, FreeCont, NewNode}
use Rattle.icr_convert.specs.declared.names.Names.{Names}
use Rattle.icr_convert.specs.declared.names.Made.{Made}
use Rattle.icr_convert.specs.declared.setting.Setting.{Setting}
use Rattle.icr_convert.specs.Scene.{rank, Scene, IsLocal}
use Rattle.icr_convert.specs.Converting.{CallsOn, cost_alone, through_charges, setting_passes, Placed, Converts, Taken, ValueStands, Takes, TakesAll, Gathers, Releases, IsKnown, KnowsFunction, CallsKnown, CallsInPlace, CallsGiven}
use Rattle.icr_convert.proofs.Growing.{later_trans, grown_trans, ready_later}
use Rattle.icr_convert.proofs.Named.{made_function, local_made}
use Rattle.icr_convert.proofs.Steps.{seen, held, in_turn, node_placed, take_below}
use Rattle.icr_convert.proofs.Operands.{below_more, operands_then}

-- ---- a continuation, and what follows

pub cont_then : {P : ℕ → FlowGraph → Type 0} {Q : FlowGraph → ℕ → Spot → Spot → Type 0} {a b c : Built} {k : ℕ} → NewCont P a b k → Placed Q b c → Placed (λ h low p q. (low ≤ k) × P k h × Q h low p q) a c
cont_then {Q = Q} {b = b} {c = c} cont after =
    record {
      grown = grown_trans cont.beside.grown after.grown;
      stands = λ low above h later. (
        omega (arith, above, cont.above),
        cont.lasts h (later_trans (graph b) (graph c) h after.grown.later later),
        subst (λ (p : Spot). Q h low p (spot c)) cont.beside.same (after.stands low (omega (arith, above, cont.beside.grown.fresh)) h later),
      );
    }

-- the same, where what follows has continuations above
pub cont_below : {P : ℕ → FlowGraph → Type 0} {Q : FlowGraph → ℕ → Spot → Spot → Type 0} {a b c : Built} {k : ℕ} → NewCont P a b k → Placed Q b c → Placed (λ h low p q. (low ≤ k) × P k h × Q h (suc k) p q) a c
cont_below {Q = Q} {b = b} {c = c} {k = k} cont after =
    record {
      grown = grown_trans cont.beside.grown after.grown;
      stands = λ low above h later. (
        omega (arith, above, cont.above),
        cont.lasts h (later_trans (graph b) (graph c) h after.grown.later later),
        subst (λ (p : Spot). Q h (suc k) p (spot c)) cont.beside.same (after.stands (suc k) cont.below h later),
      );
    }

-- ---- local and global functions

pub call_local : (names : Names) (st : Setting) (pl : Place) (x : ℕ) (es : Cores) (cost left : ℕ) (made : Made) (ks all : List ℕ) {k n : ℕ} {a b c d e : Built} → cost ≡ st.cost + 1 → left ≡ left_after es cost →
    all ≡ k ∷ ks → IsLocal names x made → TakesAll names false pl None es cost a b ks → FreeCont b c k →
    NewNode (kind.Ref (leaf.Closed made.function false)) (Some k) pl (cost_alone left) c d n → CallsKnown made.function all pl st d e → Converts names st (tree.CallLocal pl x es) a e
call_local names st pl x es cost left made ks all {k} {n} {a} {b} {c} {d} {e} costs lefts given local operands cont node call s ready named =
    let text = local_made x ready local in
    let others = subst (λ (m : ℕ). TakesAll names false pl None es m a b ks) costs operands s ready named in
    let closed = subst (λ (m : ℕ). NewNode (kind.Ref (leaf.Closed made.function false)) (Some k) pl (cost_alone m) c d n) (lefts ∙ ap (left_after es) costs) node in
    let called = subst (λ (xs : List ℕ). CallsKnown made.function xs pl st d e) given call in
    let after = cont_then cont (in_turn (node_placed (λ l same. same) closed) (node_placed (λ l same. same) called.1)) in
    seen (λ h low p q t.
    let r = t.1.0 in
    let behind = t.1.2 in
    let last = behind.2 in (
      made.function,
      k,
      ks,
      r,
      (text.0, text.1, t.0),
      (behind.0, behind.1),
      t.1.1,
      below_more h s.facts ks b.fresh k cont.above (others.below h),
      last.1.0,
      subst (λ (u : Spot). Here h u (kind.Combination (operation.CallKnown made.function None st.tail) (k ∷ ks)) st.to pl 0 (through st.word (setting_passes st))) last.1.1 last.2.0,
      last.2.1 ∙ ap (λ (u : Spot). next u) last.1.1,
    ))
    (held (made_function text.2) (in_turn others.placed after))

pub call_global : (names : Names) (st : Setting) (pl : Place) (x : SymId) (es : Cores) (cost left : ℕ) (ks : List ℕ) {n : ℕ} {a b c : Built} → cost ≡ st.cost + 1 → left ≡ left_after es cost →
    TakesAll names false pl None es cost a b ks → NewNode (kind.Combination (operation.CallGlobal x st.tail) ks) st.to pl (through_charges st left) b c n → Converts names st (tree.CallGlobal pl x es) a c
call_global names st pl x es cost left ks costs lefts operands node s ready named =
    seen (λ h low p q t. (ks, t.0, t.1, t.2, t.3)) (operands_then names st false None (operation.CallGlobal x st.tail) pl es cost left ks costs lefts operands node s ready named)

-- ---- functions that forms give

pub call_on : (names : Names) (st : Setting) (pl : Place) (es : Cores) (f : Operation) (k : ℕ) (ks all : List ℕ) {n : ℕ} {b c d : Built} → all ≡ k ∷ ks →
    TakesAll names false pl None es 0 b c ks → NewNode (kind.Combination f all) st.to pl (through_charges st 0) c d n → CallsOn names pl k es f st b d
call_on names st pl es f k ks all {n} {b} {c} {d} given operands node s ready named =
    let called = subst (λ (xs : List ℕ). NewNode (kind.Combination f xs) st.to pl (through_charges st 0) c d n) given node in
    seen (λ h low p q t. (ks, t.0, t.1, t.2.0, t.2.1)) (in_turn (operands s ready named).placed (node_placed (λ l same. same) called))

pub call_given : (names : Names) (st : Setting) (pl : Place) (e : Core) (es : Cores) (f : Operation) (cost k : ℕ) {a b d : Built} → cost ≡ st.cost + 1 →
    Takes names false e cost a b k → CallsOn names pl k es f st b d → CallsGiven names pl e es f st a d
call_given names st pl e es f cost k {a} {b} {d} costs value call s ready named =
    let first = subst (λ (m : ℕ). Taken (λ (l : ℕ) (z : FlowGraph). Unasserted z l) (ValueStands s false e m) a b k) costs (value s ready named.0) in
    seen (λ h low p q t. (k, t.4.0, t.0, t.4.1, (t.1, t.2), t.3, t.4.2, t.4.3, t.4.4)) (take_below first (call s (ready_later ready first.placed.grown.later) named.1))

pub apply : (names : Names) (st : Setting) (pl : Place) (e : Core) (es : Cores) {a b : Built} → CallsGiven names pl e es (operation.Apply st.tail) st a b → Converts names st (tree.Apply pl e es) a b
apply names st pl e es call s ready named = seen (λ h low p q t. (t.0, t.1, t.2, t.3, t.4, t.5, t.6, t.7, t.8)) (call s ready named)

pub call_with_values : (names : Names) (st : Setting) (pl : Place) (e : Core) (es : Cores) (cost k : ℕ) (ks : List ℕ) {n : ℕ} {a b c d f : Built} → cost ≡ st.cost + 1 → Takes names false e cost a b k →
    Gathers names pl es b c → Releases pl es c d ks → NewNode (kind.MvCombination k ks st.tail) st.to pl (through_charges st 0) d f n → Converts names st (tree.MvCall pl e es) a f
call_with_values names st pl e es cost k ks {n} {a} {b} costs value gathers releases node s ready named =
    let first = subst (λ (m : ℕ). Taken (λ (l : ℕ) (z : FlowGraph). Unasserted z l) (ValueStands s false e m) a b k) costs (value s ready named.0) in
    let gathered = gathers s (ready_later ready first.placed.grown.later) named.1 in
    seen (λ h low p q t.
    let after = t.4.2 in
    (k, ks, t.0, t.4.0, after.0, (t.1, t.2), t.3, t.4.1, after.1.1, after.1.0, after.1.2, after.2.0, after.2.1))
    (take_below first (in_turn gathered (in_turn (releases s).placed (node_placed (λ l same. same) node))))

-- ---- functions that are named where they are called

pub call_in_place : (names : Names) (st : Setting) (pl : Place) (f : ℕ) (es : Cores) (cost k : ℕ) (ks all : List ℕ) {n : ℕ} {a b c d e : Built} → cost ≡ st.cost + 2 → all ≡ k ∷ ks → FreeCont a b k →
    NewNode (kind.Ref (leaf.Closed f true)) (Some k) pl (cost_alone cost) b c n → TakesAll names false pl None es 0 c d ks → CallsKnown f all pl st d e → CallsInPlace names pl f es st a e
call_in_place names st pl f es cost k ks all {n} {a} {b} {c} {d} {e} costs given cont node operands call s ready named =
    let closed = node_placed (λ l same. same) (subst (λ (m : ℕ). NewNode (kind.Ref (leaf.Closed f true)) (Some k) pl (cost_alone m) b c n) costs node) in
    let others = operands s (ready_later ready (grown_trans cont.beside.grown closed.grown).later) named in
    let called = subst (λ (xs : List ℕ). CallsKnown f xs pl st d e) given call in
    seen (λ h low p q t.
    let behind = t.2 in
    let last = behind.2 in
    (k, ks, last.0, (t.0, t.1), behind.1.0, subst (λ (u : Spot). OperandsStandAt h s.facts rank false pl es [] None 0 (suc k) ks u last.0) behind.1.1 last.1, last.2.0, last.2.1))
    (cont_below cont (in_turn closed (in_turn others.placed (node_placed (λ l same. same) called.1))))

-- how many forms there are
pub cores_count : (es : List Core') → length es ≡ cores_length (cores_list es)
cores_count [] = refl
cores_count (e ∷ es) = omega (arith, cores_count es)

known_text : (s : Scene) (o : Option FunctionText) (f : ℕ) (g : FlowGraph) → IsKnown s (Some f) o g → (t : FunctionText) × (o ≡ Some t) × Lasting (λ h. IsFunction h s.facts rank f t) g
known_text s None f g is = absurd is
known_text s (Some t) f g is = (t, refl, is)

unknown_text : (s : Scene) (o : Option FunctionText) (g : FlowGraph) → IsKnown s None o g → o ≡ None
unknown_text s None g is = refl
unknown_text s (Some t) g is = absurd is

pub funcall_known : (names : Names) (st : Setting) (pl : Place) (e : Core) (es : Cores) (f number : ℕ) {a b : Built} → number ≡ cores_length es → KnowsFunction names e number (Some f) →
    CallsInPlace names pl f es st a b → Converts names st (tree.Funcall pl e es) a b
funcall_known names st pl e es f number {a} all knows call s ready named =
    let text = known_text s (known s.facts (cores_length es) e) f (graph a) (subst (λ (m : ℕ). IsKnown s (Some f) (known s.facts m e) (graph a)) all (knows s (graph a) ready named.0)) in
    seen (λ h low p q t. inl (text.0, f, t.1.0, t.1.1, t.1.2, text.1, t.0, t.1.3, t.1.4, t.1.5, t.1.6, t.1.7)) (held text.2 (call s ready named.1))

pub funcall_any : (names : Names) (st : Setting) (pl : Place) (e : Core) (es : Cores) (number : ℕ) {a b : Built} → number ≡ cores_length es → KnowsFunction names e number None →
    CallsGiven names pl e es (operation.Funcall st.tail) st a b → Converts names st (tree.Funcall pl e es) a b
funcall_any names st pl e es number {a} all knows call s ready named =
    let is = unknown_text s (known s.facts (cores_length es) e) (graph a) (subst (λ (m : ℕ). IsKnown s None (known s.facts m e) (graph a)) all (knows s (graph a) ready named.0)) in
    seen (λ h low p q t. inr (t.0, t.1, t.2, t.3, is, t.4, t.5, t.6, t.7, t.8)) (call s ready named)
