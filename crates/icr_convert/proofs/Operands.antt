-- Operands, and values that are kept. (This project's own.)
use Rattle.std.proofs.Common.{◌≡◌, ◌<◌, ◌≤◌, ℕ, zero, ◌+◌, ◌-◌, suc, Bool, false, List, [], ◌∷◌, ◌++◌, get_or, drop, length, Option, Some, None, refl, sym, ap, subst, ◌∙◌, arith, append_assoc}
use Rattle.std.proofs.lemmas.List.{at_drop_more, drop_more, drop_all}
use Rattle.lisp_base.specs.declared.values.Place.{Place}
use Rattle.lisp_base.specs.declared.primitives.Primitive.{Primitive as Operation}
use Rattle.lisp_base.specs.Spec.{Spec}
use Rattle.core_form.specs.declared.tree.Core.{Core as Core'}
use Rattle.core_form.specs.Reading.{core_of, cores_list}
use Rattle.core_form.specs.Tree as tree
use Rattle.core_form.specs.Tree.{Core, Cores, no_core, core}
use Rattle.core_form.specs.Arithmetic.{arithmetic}
use Rattle.core_form.specs.Facts.{Facts}
use Rattle.icr_graph.specs.declared.nodes.NodeKind.TheVariants as kind
use Rattle.icr_graph.specs.declared.nodes.Operation.{Operation as Operation'}
use Rattle.icr_graph.specs.declared.nodes.Operation.TheVariants as operation
use Rattle.icr_graph.specs.declared.nodes.Extent.TheVariants as extent
use Rattle.icr_graph.specs.declared.nodes.Leaving.TheVariants as way
use Rattle.icr_graph.specs.declared.nodes.Charges.{Charges}
use Rattle.icr_graph.specs.Plain.{FlowGraph}
use Rattle.form_graphs.specs.Spots.{Spot, next, through, Here}
use Rattle.form_graphs.specs.Standing.{OperandsStandAt, GatheredStandAt, ReleaseAll, AllBelow, AllFree, left_after, next_type, other_types}
use Rattle.graph_building.specs.Later.{Later}
use Rattle.graph_building.specs.Built.{Built, graph, spot, FreeCont, NewNode, NewExit}
use Rattle.icr_convert.specs.declared.names.Names.{Names}
use Rattle.icr_convert.specs.declared.setting.Setting.{Setting}
use Rattle.icr_convert.specs.Scene.{rank, Scene, Ready, texts}
use Rattle.icr_convert.specs.Naming.{AllNamed}
use Rattle.icr_convert.specs.Converting.{cost_alone, through_charges, setting_passes, Placed, Converts, Takes, TakesTyped, types_of, rest_of, AllUnasserted, TakenAll, TakesAll, Gathers, Rising, NewConts, ReleasesTo, Releases}
use Rattle.icr_convert.proofs.Growing.{later_trans, grown_refl, grown_trans, lasts, ready_later, beside_trans}
use Rattle.icr_convert.proofs.Choosing.{cores_more, cores_end}
use Rattle.icr_convert.proofs.Steps.{seen, nothing, in_turn, node_placed, entry_placed, exit_placed, take_then, take_below}

-- ---- numbers

pub below_more : (g : FlowGraph) (facts : Facts) (ks : List ℕ) (n m : ℕ) → n ≤ m → AllBelow g facts rank ks n → AllBelow g facts rank ks m
below_more g facts [] n m le below = tt
below_more g facts (k ∷ ks) n m le below = (omega (arith, le, below.0), below_more g facts ks n m le below.1)

pub rising_more : (ks : List ℕ) (n m : ℕ) → n ≤ m → Rising m ks → Rising n ks
rising_more [] n m le rising = tt
rising_more (k ∷ ks) n m le rising = (omega (arith, le, rising.0), rising.1)

-- an element behind those that there were, and others
pub pushed : (xs ys : List ℕ) (k : ℕ) (ks : List ℕ) → ys ≡ xs ++ k ∷ [] → xs ++ (k ∷ ks) ≡ ys ++ ks
pushed xs ys k ks is = sym (append_assoc xs (k ∷ []) ks) ∙ ap (λ (zs : List ℕ). zs ++ ks) (sym is)

-- ---- operands

-- operands of these types, and of one for any further ones
abbrev pub TakesOperands : Names → (word : Bool) → Place → Cores → List Spec → Option Spec → (cost : ℕ) → Built → Built → List ℕ → Type 0
TakesOperands names w pl es ts rest n a b ks =
    (s : Scene) → Ready s names (graph a) → AllNamed (texts s) es → TakenAll s (λ h low p q. OperandsStandAt h s.facts rank w pl es ts rest n low ks p q) a b ks

pub no_operand : (names : Names) (w : Bool) (pl : Place) (ts : List Spec) (rest : Option Spec) (n : ℕ) (a : Built) → TakesOperands names w pl no_core ts rest n a a []
no_operand names w pl ts rest n a s ready named = record { placed = nothing a (λ h low p. (refl, refl)); below = λ h. tt }

pub one_operand : (names : Names) (w : Bool) (pl : Place) (e : Core) (es : Cores) (ts : List Spec) (rest : Option Spec) (n : ℕ) (k : ℕ) (ks : List ℕ) {a b c : Built} →
    TakesTyped names w pl (next_type ts rest) e n a b k → TakesOperands names w pl es (other_types ts) rest 0 b c ks → TakesOperands names w pl (core e es) ts rest n a c (k ∷ ks)
one_operand names w pl e es ts rest n k ks {a} {b} {c} value others s ready named =
    let first = value s ready named.0 in
    let further = others s (ready_later ready first.placed.grown.later) named.1 in
    record {
      placed = seen (λ h low p q t. (t.0, t.1, t.2, t.3, t.4)) (take_below first further.placed);
      below = λ h. (omega (arith, first.below, further.placed.grown.fresh), further.below h);
    }

pub types_further : (ts : List Spec) (n : ℕ) → other_types (drop n ts) ≡ drop (suc n) ts
types_further [] zero = refl
types_further (t ∷ ts) zero = refl
types_further [] (suc n) = refl
types_further (t ∷ ts) (suc n) = types_further ts n

-- the operand at an index, and those behind it
pub operands_more : (names : Names) (w : Bool) (pl : Place) (es : List Core') (i : ℕ) (e : Core') (ts : List Spec) (rest : Option Spec) (n k : ℕ) (ks : List ℕ) {a b c : Built} → i < length es → e ≡ get_or es i e →
    TakesTyped names w pl (next_type (drop i ts) rest) (core_of e) n a b k → TakesOperands names w pl (cores_list (drop (i + 1) es)) (drop (i + 1) ts) rest 0 b c ks →
    TakesOperands names w pl (cores_list (drop i es)) (drop i ts) rest n a c (k ∷ ks)
operands_more names w pl es i e ts rest n k ks {a} {b} {c} less is value others =
    let one_more : i + 1 ≡ suc i = omega arith in
    let types : drop (i + 1) ts ≡ other_types (drop i ts) = ap (λ (m : ℕ). drop m ts) one_more ∙ sym (types_further ts i) in
    let further = subst (λ (us : List Spec). TakesOperands names w pl (cores_list (drop (i + 1) es)) us rest 0 b c ks) types others in
    subst (λ (fs : Cores). TakesOperands names w pl fs (drop i ts) rest n a c (k ∷ ks)) (sym (cores_more es i e less is))
    (one_operand names w pl (core_of e) (cores_list (drop (i + 1) es)) (drop i ts) rest n k ks value further)

pub operands_end : (names : Names) (w : Bool) (pl : Place) (es : List Core') (i : ℕ) (ts : List Spec) (rest : Option Spec) (n : ℕ) (a : Built) → length es ≤ i →
    TakesOperands names w pl (cores_list (drop i es)) ts rest n a a []
operands_end names w pl es i ts rest n a all =
    subst (λ (fs : Cores). TakesOperands names w pl fs ts rest n a a []) (sym (cores_end es i all)) (no_operand names w pl ts rest n a)

-- operands, and an operation on their values
pub operands_then : (names : Names) (st : Setting) (w : Bool) (o : Option Operation) (f : Operation') (pl : Place) (es : Cores) (cost left : ℕ) (ks : List ℕ) {n : ℕ} {a b c : Built} → cost ≡ st.cost + 1 →
    left ≡ left_after es cost → TakesAll names w pl o es cost a b ks → NewNode (kind.Combination f ks) st.to pl (through_charges st left) b c n → (s : Scene) → Ready s names (graph a) → AllNamed (texts s) es →
    Placed (λ h low p q. (r : Spot) × OperandsStandAt h s.facts rank w pl es (types_of o) (rest_of o) (st.cost + 1) low ks p r × Here h r (kind.Combination f ks) st.to pl (left_after es (st.cost + 1)) (through st.word (setting_passes st)) × (q ≡ next r)) a c
operands_then names st w o f pl es cost left ks {n} {a} {b} {c} costs lefts operands node s ready named =
    let first = subst (λ (m : ℕ). TakesAll names w pl o es m a b ks) costs operands s ready named in
    let done = subst (λ (m : ℕ). NewNode (kind.Combination f ks) st.to pl (through_charges st m) b c n) (lefts ∙ ap (left_after es) costs) node in
    seen (λ h low p q t. (t.0, t.1, t.2.0, t.2.1)) (in_turn first.placed (node_placed (λ k same. same) done))

pub primitive : (names : Names) (st : Setting) (w : Bool) (o : Operation) (pl : Place) (es : Cores) (cost left : ℕ) (ks : List ℕ) {n : ℕ} {a b c : Built} → cost ≡ st.cost + 1 → w ≡ arithmetic o →
    left ≡ left_after es cost → TakesAll names w pl (Some o) es cost a b ks → NewNode (kind.Combination (operation.Primitive o) ks) st.to pl (through_charges st left) b c n →
    Converts names st (tree.Primitive pl o es) a c
primitive names st w o pl es cost left ks {a = a} {b = b} costs word lefts operands node s ready named =
    let words = subst (λ (x : Bool). TakesAll names x pl (Some o) es cost a b ks) word operands in
    seen (λ h low p q t. (ks, t.0, t.1, t.2, t.3)) (operands_then names st (arithmetic o) (Some o) (operation.Primitive o) pl es cost left ks costs lefts words node s ready named)

pub values : (names : Names) (st : Setting) (pl : Place) (es : Cores) (cost left : ℕ) (ks : List ℕ) {n : ℕ} {a b c : Built} → cost ≡ st.cost + 1 → left ≡ left_after es cost →
    TakesAll names false pl None es cost a b ks → NewNode (kind.Combination operation.Values ks) st.to pl (through_charges st left) b c n → Converts names st (tree.Values pl es) a c
values names st pl es cost left ks costs lefts operands node s ready named =
    seen (λ h low p q t. (ks, t.0, t.1, t.2, t.3)) (operands_then names st false None operation.Values pl es cost left ks costs lefts operands node s ready named)

-- ---- values that are kept

pub none_gathered : (names : Names) (pl : Place) (a : Built) → Gathers names pl no_core a a
none_gathered names pl a s ready named = nothing a (λ h low p. refl)

pub one_gathered : (names : Names) (pl : Place) (e : Core) (es : Cores) (k : ℕ) {n : ℕ} {a b c d : Built} → Takes names false e 0 a b k →
    NewNode (kind.Entry (extent.Keep k) []) None pl (cost_alone 0) b c n → Gathers names pl es c d → Gathers names pl (core e es) a d
one_gathered names pl e es k value node others s ready named =
    let first = value s ready named.0 in
    let kept = entry_placed node in
    let rest = others s (ready_later ready (grown_trans first.placed.grown kept.grown).later) named.1 in
    seen (λ h low p q t.
    let after = t.4 in
    (k, after.1.0, t.0, (t.1, t.2), t.3, after.1.1, subst (λ (u : Spot). GatheredStandAt h s.facts rank pl es low u q) after.1.2 after.2))
    (take_then first (in_turn kept rest))

-- the form at an index, and those behind it
pub gathers_more : (names : Names) (pl : Place) (es : List Core') (i : ℕ) (e : Core') (k : ℕ) (exits : List ℕ) {n : ℕ} {a b c d : Built} → exits ≡ [] → i < length es → e ≡ get_or es i e → Takes names false (core_of e) 0 a b k →
    NewNode (kind.Entry (extent.Keep k) exits) None pl (cost_alone 0) b c n → Gathers names pl (cores_list (drop (i + 1) es)) c d → Gathers names pl (cores_list (drop i es)) a d
gathers_more names pl es i e k exits {n} {a} {b} {c} {d} no_exit less is value node others =
    let entry = subst (λ (xs : List ℕ). NewNode (kind.Entry (extent.Keep k) xs) None pl (cost_alone 0) b c n) no_exit node in
    subst (λ (fs : Cores). Gathers names pl fs a d) (sym (cores_more es i e less is)) (one_gathered names pl (core_of e) (cores_list (drop (i + 1) es)) k value entry others)

pub gathers_end : (names : Names) (pl : Place) (es : List Core') (i : ℕ) (a : Built) → length es ≤ i → Gathers names pl (cores_list (drop i es)) a a
gathers_end names pl es i a all = subst (λ (fs : Cores). Gathers names pl fs a a) (sym (cores_end es i all)) (none_gathered names pl a)

-- ---- their release

pub no_cont : (a : Built) → NewConts no_core a a []
no_cont a = record { beside = record { grown = grown_refl a; same = refl }; same = tt; above = tt; below = λ s h. tt; free = tt }

pub one_cont : (e : Core) (es : Cores) (k : ℕ) (ks : List ℕ) {a b c : Built} → FreeCont a b k → NewConts es b c ks → NewConts (core e es) a c (k ∷ ks)
one_cont e es k ks {a} {b} {c} cont others =
    record {
      beside = beside_trans cont.beside others.beside;
      same = others.same;
      above = (cont.above, rising_more ks (suc k) b.fresh cont.below others.above);
      below = λ s h. (omega (arith, cont.below, others.beside.grown.fresh), others.below s h);
      free = (lasts {g = graph b} {h = graph c} cont.lasts others.beside.grown.later, others.free);
    }

-- the form at an index, and those behind it
pub conts_more : (es : List Core') (i : ℕ) (e : Core') (k : ℕ) (ks : List ℕ) {a b c : Built} → i < length es → FreeCont a b k → NewConts (cores_list (drop (i + 1) es)) b c ks →
    NewConts (cores_list (drop i es)) a c (k ∷ ks)
conts_more es i e k ks {a} {b} {c} less cont others =
    subst (λ (fs : Cores). NewConts fs a c (k ∷ ks)) (sym (at_drop_more cores_list es i e less)) (one_cont (core_of (get_or es i e)) (cores_list (drop (i + 1) es)) k ks cont others)

pub conts_end : (es : List Core') (i : ℕ) (a : Built) → length es ≤ i → NewConts (cores_list (drop i es)) a a []
conts_end es i a all = subst (λ (fs : Cores). NewConts fs a a []) (sym (cores_end es i all)) (no_cont a)

all_free : (ks : List ℕ) (s : Scene) (g h : FlowGraph) → AllUnasserted ks g → Later g h → AllFree h s.facts rank ks
all_free [] s g h free later = tt
all_free (k ∷ ks) s g h free later = (free.0 h later, all_free ks s g h free.1 later)

pub none_released : (pl : Place) (a : Built) → ReleasesTo pl [] a a
none_released pl a s = nothing a (λ h first p low rising. refl)

pub one_released : (pl : Place) (k : ℕ) (ks : List ℕ) (entry : Option ℕ) {a b c : Built} → ReleasesTo pl ks a b → NewExit way.Release entry (Some k) pl (cost_alone 0) b c → ReleasesTo pl (k ∷ ks) a c
one_released pl k ks entry others exit s =
    seen (λ h first p q t low rising. (t.0, entry, rising.0, t.1 (suc k) rising.1, t.2.0, t.2.1)) (in_turn (others s) (exit_placed exit))

-- the continuation before a place, those from there on having been released to
pub released_more : (pl : Place) (ks : List ℕ) (i k : ℕ) (ch : Charges) {entry : Option ℕ} {a b c : Built} → ch ≡ cost_alone 0 → 0 < i → i ≤ length ks → k ≡ get_or ks (i - 1) k → ReleasesTo pl (drop i ks) a b →
    NewExit way.Release entry (Some k) pl ch b c → ReleasesTo pl (drop (i - 1) ks) a c
released_more pl ks i k ch {entry} {a} {b} {c} charged some within is others exit =
    let split : drop (i - 1) ks ≡ k ∷ drop (i - 1 + 1) ks = drop_more ks (i - 1) k (omega (arith, some, within)) ∙ ap (λ (j : ℕ). j ∷ drop (i - 1 + 1) ks) (sym is) in
    let same : i ≡ i - 1 + 1 = omega (arith, some) in
    let rest = subst (λ (m : ℕ). ReleasesTo pl (drop m ks) a b) same others in
    let free = subst (λ (x : Charges). NewExit way.Release entry (Some k) pl x b c) charged exit in
    subst (λ (xs : List ℕ). ReleasesTo pl xs a c) (sym split) (one_released pl k (drop (i - 1 + 1) ks) entry rest free)

pub released_end : (pl : Place) (ks : List ℕ) (i : ℕ) (a : Built) → length ks ≤ i → ReleasesTo pl (drop i ks) a a
released_end pl ks i a all = subst (λ (xs : List ℕ). ReleasesTo pl xs a a) (sym (drop_all i ks all)) (none_released pl a)

pub all_released : (pl : Place) (es : Cores) (ks : List ℕ) {a b c : Built} → NewConts es a b ks → ReleasesTo pl ks b c → Releases pl es a c ks
all_released pl es ks {a} {b} {c} conts releases s =
    let released = releases s in
    record {
      placed = record {
        grown = grown_trans conts.beside.grown released.grown;
        stands = λ low above h later.
            let exits = released.stands 0 (omega arith) h later low (rising_more ks low a.fresh above conts.above) in (
              subst (λ (u : Spot). ReleaseAll h s.facts rank low pl ks u (spot c)) conts.beside.same exits,
              conts.same,
              all_free ks s (graph b) h conts.free (later_trans (graph b) (graph c) h released.grown.later later),
            );
      };
      below = λ h. below_more h s.facts ks b.fresh c.fresh released.grown.fresh (conts.below s h);
    }
