-- Constants, variables, global values and functions, type tests. (This project's own.)
use Rattle.std.proofs.Common.{◌≡◌, ℕ, ◌+◌, Bool, false, List, [], ◌∷◌, Some, None, slice_get, subst, ◌∙◌}
use Rattle.lisp_base.specs.declared.values.Place.{Place}
use Rattle.lisp_base.specs.declared.values.Val.{Val}
use Rattle.lisp_base.specs.declared.values.SymId.{SymId}
use Rattle.lisp_base.specs.declared.types.TypeSpec.{TypeSpec}
use Rattle.lisp_base.specs.Reading.{spec_of}
use Rattle.lisp_base.specs.Spec.{Spec, spec_size}
use Rattle.ir_ids.specs.Entries.{map_of}
use Rattle.core_form.specs.Tree as tree
use Rattle.core_form.specs.Tree.{Core, Lambda}
use Rattle.core_form.specs.Facts.{has_number}
use Rattle.icr_graph.specs.declared.nodes.NodeKind.{NodeKind}
use Rattle.icr_graph.specs.declared.nodes.NodeKind.TheVariants as kind
use Rattle.icr_graph.specs.declared.nodes.Leaf.{Leaf}
use Rattle.icr_graph.specs.declared.nodes.Leaf.TheVariants as leaf
use Rattle.icr_graph.specs.declared.nodes.Operation.{Operation}
use Rattle.icr_graph.specs.declared.nodes.Operation.TheVariants as operation
use Rattle.icr_graph.specs.Plain.{FlowGraph}
use Rattle.form_graphs.specs.Spots.{Spot, next, none, through, Here, Unasserted, Asserted}
use Rattle.form_graphs.specs.Standing.{StandsAt, IsFree, lambda_number}
use Rattle.graph_building.specs.Later.{SameKind}
use Rattle.graph_building.specs.Built.{Built, graph, NewNode}
use Rattle.icr_convert.specs.declared.names.Names.{Names}
use Rattle.icr_convert.specs.declared.names.Made.{Made}
use Rattle.icr_convert.specs.declared.setting.Setting.{Setting}
use Rattle.icr_convert.specs.Scene.{rank, Scene, texts, IsLocal, Ready}
use Rattle.icr_convert.specs.Naming.{Named}
use Rattle.icr_convert.specs.Converting.{Placed, Taken, ValueStands, Converts, Takes, TakesTyped, setting_passes, through_charges}
use Rattle.icr_convert.proofs.Steps.{seen, held, node_placed, take_then}
use Rattle.icr_convert.proofs.Named.{made_function, local_made}

-- ---- leaves

-- a leaf that gives a form's values, and is charged what the form is
pub leaf_placed : (st : Setting) {l : Leaf} {pl : Place} {n m : ℕ} {a b : Built} → n ≡ st.cost + 1 → NewNode (kind.Ref l) st.to pl (through_charges st n) a b m →
    Placed (λ h low p q. Here h p (kind.Ref l) st.to pl (st.cost + 1) (through st.word (setting_passes st)) × (q ≡ next p)) a b
leaf_placed st {l} {pl} {n} {m} {a} {b} cost node =
    subst (λ (k : ℕ). Placed (λ h low p q. Here h p (kind.Ref l) st.to pl k (through st.word (setting_passes st)) × (q ≡ next p)) a b) cost (node_placed (λ k e. e) node)

pub quote_converts : (names : Names) (st : Setting) {pl : Place} {v : Val} {n m : ℕ} {a b : Built} → n ≡ st.cost + 1 → NewNode (kind.Ref (leaf.Constant v)) st.to pl (through_charges st n) a b m →
    Converts names st (tree.Quote pl v) a b
quote_converts names st cost node s ready named = leaf_placed st cost node

pub global_converts : (names : Names) (st : Setting) {pl : Place} {x : SymId} {n m : ℕ} {a b : Built} → n ≡ st.cost + 1 → NewNode (kind.Ref (leaf.Global x)) st.to pl (through_charges st n) a b m →
    Converts names st (tree.Global pl x) a b
global_converts names st cost node s ready named = leaf_placed st cost node

pub global_function_converts : (names : Names) (st : Setting) {pl : Place} {x : SymId} {n m : ℕ} {a b : Built} → n ≡ st.cost + 1 →
    NewNode (kind.Ref (leaf.GlobalFunction x)) st.to pl (through_charges st n) a b m → Converts names st (tree.FunGlobal pl x) a b
global_function_converts names st cost node s ready named = leaf_placed st cost node

pub local_converts : (names : Names) (st : Setting) (x : ℕ) {pl : Place} {v n m : ℕ} {a b : Built} → map_of names.variables.items x ≡ Some v → n ≡ st.cost + 1 →
    NewNode (kind.Ref (leaf.Variable v)) st.to pl (through_charges st n) a b m → Converts names st (tree.Local pl x) a b
local_converts names st x {v = v} variable cost node s ready named =
    seen (λ h low p q f. (v, f.0, f.1.0, f.1.1)) (held (ready.variables x v variable) (leaf_placed st cost node))

pub function_converts : (names : Names) (st : Setting) (l : Lambda) (made : Made) {pl : Place} {n m : ℕ} {a b : Built} → slice_get names.functions.items (lambda_number l) ≡ Some made → n ≡ st.cost + 1 →
    NewNode (kind.Ref (leaf.Functional made.function)) st.to pl (through_charges st n) a b m → Converts names st (tree.Function pl l) a b
function_converts names st l made {pl} there cost node s ready named =
    let is = ready.functions (lambda_number l) made (record { name = None; place = pl; lambda = l }) there named in
    seen (λ h low p q f. (made.function, f.0, f.1.0, f.1.1)) (held (made_function is) (leaf_placed st cost node))

pub local_function_converts : (names : Names) (st : Setting) (x : ℕ) (made : Made) {pl : Place} {n m : ℕ} {a b : Built} → IsLocal names x made → n ≡ st.cost + 1 →
    NewNode (kind.Ref (leaf.Functional made.function)) st.to pl (through_charges st n) a b m → Converts names st (tree.FunLocal pl x) a b
local_function_converts names st x made local cost node s ready named =
    let text = local_made x ready local in
    seen (λ h low p q f. (made.function, (text.0, text.1, f.0), f.1.0, f.1.1)) (held (made_function text.2) (leaf_placed st cost node))

-- ---- one value, and what is done with it

-- a form's value, and the node that takes it
pub value_then : (names : Names) (st : Setting) (w : Bool) (e : Core) {k : NodeKind} {pl : Place} {cost : ℕ} (n : ℕ) {m : ℕ} {a b c : Built} (j : ℕ) → ((k' : NodeKind) → SameKind k k' → k' ≡ k) → cost ≡ st.cost + 1 →
    Takes names w e cost a b j → NewNode k st.to pl (through_charges st n) b c m → (s : Scene) → Ready s names (graph a) → Named (texts s) e →
    Placed (λ h low p q. (r : Spot) × IsFree h s.facts rank low j × StandsAt h s.facts rank false w e (st.cost + 1) none low (Some j) p r × Here h r k st.to pl n (through st.word (setting_passes st)) × (q ≡ next r)) a c
value_then names st w e n {a = a} {b = b} j same cost value node s ready named =
    let here = subst (λ (i : ℕ). Taken (λ (k : ℕ) (h : FlowGraph). Unasserted h k) (ValueStands s w e i) a b j) cost (value s ready named) in
    seen (λ h low p q f. (f.0, (f.1, f.2), f.3, f.4.0, f.4.1)) (take_then here (node_placed same node))

pub set_local_converts : (names : Names) (st : Setting) (w : Bool) (x : ℕ) (e : Core) {pl : Place} {v cost m j : ℕ} {a b c : Built} → map_of names.variables.items x ≡ Some v → w ≡ has_number x names.facts.words →
    cost ≡ st.cost + 1 → Takes names w e cost a b j → NewNode (kind.Set v j) st.to pl (through_charges st 0) b c m → Converts names st (tree.SetLocal pl x e) a c
set_local_converts names st w x e {v = v} {cost = cost} {j = j} {a = a} {b = b} variable word costs value node s ready named =
    let w' : Bool = has_number x s.facts.words in
    let here = subst (λ (i : Bool). Takes names i e cost a b j) (word ∙ ready.knows.words x) value in
    seen (λ h low p q f. (v, j, f.1.0, f.0, f.1.1, f.1.2, f.1.3, f.1.4)) (held (ready.variables x v variable) (value_then names st w' e 0 j (λ k same. same) costs here node s ready named))

-- a form's value, and the operation on it
pub value_used : (names : Names) (st : Setting) (w : Bool) (e : Core) (o : Operation) {pl : Place} {cost : ℕ} (n : ℕ) {m : ℕ} {a b c : Built} (j : ℕ) {ks : List ℕ} → ks ≡ j ∷ [] → cost ≡ st.cost + 1 →
    Takes names w e cost a b j → NewNode (kind.Combination o ks) st.to pl (through_charges st n) b c m → (s : Scene) → Ready s names (graph a) → Named (texts s) e →
    Placed (λ h low p q. (r : Spot) × IsFree h s.facts rank low j × StandsAt h s.facts rank false w e (st.cost + 1) none low (Some j) p r × Here h r (kind.Combination o (j ∷ [])) st.to pl n (through st.word (setting_passes st)) × (q ≡ next r)) a c
value_used names st w e o {pl} n {m} {b = b} {c = c} j one costs value node =
    value_then names st w e n j (λ k same. same) costs value (subst (λ (ks : List ℕ). NewNode (kind.Combination o ks) st.to pl (through_charges st n) b c m) one node)

pub set_global_converts : (names : Names) (st : Setting) (x : SymId) (e : Core) {pl : Place} {cost m j : ℕ} {a b c : Built} {ks : List ℕ} → ks ≡ j ∷ [] → cost ≡ st.cost + 1 → Takes names false e cost a b j →
    NewNode (kind.Combination (operation.SetGlobal x) ks) st.to pl (through_charges st 0) b c m → Converts names st (tree.SetGlobal pl x e) a c
set_global_converts names st x e {j = j} one costs value node s ready named =
    seen (λ h low p q f. (j, f.0, f.1, f.2, f.3, f.4)) (value_used names st false e (operation.SetGlobal x) 0 j one costs value node s ready named)

pub set_function_converts : (names : Names) (st : Setting) (x : SymId) (e : Core) {pl : Place} {cost m j : ℕ} {a b c : Built} {ks : List ℕ} → ks ≡ j ∷ [] → cost ≡ st.cost + 1 → Takes names false e cost a b j →
    NewNode (kind.Combination (operation.SetFunction x) ks) st.to pl (through_charges st 0) b c m → Converts names st (tree.SetFun pl x e) a c
set_function_converts names st x e {j = j} one costs value node s ready named =
    seen (λ h low p q f. (j, f.0, f.1, f.2, f.3, f.4)) (value_used names st false e (operation.SetFunction x) 0 j one costs value node s ready named)

pub is_converts : (names : Names) (st : Setting) (t : Spec) (written : TypeSpec) (e : Core) {pl : Place} (size : ℕ) {cost m j : ℕ} {a b c : Built} {ks : List ℕ} → size ≡ spec_size t → spec_of written ≡ t → ks ≡ j ∷ [] →
    cost ≡ st.cost + 1 → Takes names false e cost a b j → NewNode (kind.Combination (operation.Is written) ks) st.to pl (through_charges st size) b c m → Converts names st (tree.Is pl t e) a c
is_converts names st t written e {pl} size {m = m} {j = j} {b = b} {c = c} {ks = ks} sized copied one costs value node s ready named =
    let here = subst (λ (i : ℕ). NewNode (kind.Combination (operation.Is written) ks) st.to pl (through_charges st i) b c m) sized node in
    seen (λ h low p q f. (written, j, f.0, copied, f.1, f.2, f.3, f.4)) (value_used names st false e (operation.Is written) (spec_size t) j one costs value here s ready named)

-- a typed value, whose assertion is that of a copied type
typed_here : (names : Names) (w : Bool) (t u : Spec) (e : Core) (pl : Place) (n cost j : ℕ) (a b : Built) → u ≡ t → n ≡ cost → TakesTyped names w pl (Some u) e n a b j →
    (s : Scene) → Ready s names (graph a) → Named (texts s) e → Taken (λ k h. Asserted h k pl t) (ValueStands s w e cost) a b j
typed_here names w t u e pl n cost j a b copied costs value s ready named =
    subst (λ (i : ℕ). Taken (λ (k : ℕ) (h : FlowGraph). Asserted h k pl t) (ValueStands s w e i) a b j) costs
    (subst (λ (v : Spec). Taken (λ (k : ℕ) (h : FlowGraph). Asserted h k pl v) (ValueStands s w e n) a b j) copied (value s ready named))

pub the_converts : (names : Names) (st : Setting) (t : Spec) (written : TypeSpec) (e : Core) {pl : Place} (size : ℕ) {cost m j : ℕ} {a b c : Built} {ks : List ℕ} → size ≡ spec_size t → spec_of written ≡ t → ks ≡ j ∷ [] →
    cost ≡ st.cost + 1 → TakesTyped names st.word pl (Some (spec_of written)) e cost a b j → NewNode (kind.Combination operation.Pass ks) st.to pl (through_charges st size) b c m → Converts names st (tree.The pl t e) a c
the_converts names st t written e {pl} size {cost} {m} {j} {a} {b} {c} {ks} sized copied one costs value node s ready named =
    let here = subst (λ (i : ℕ). NewNode (kind.Combination operation.Pass ks) st.to pl (through_charges st i) b c m) sized node in
    let pass = subst (λ (ls : List ℕ). NewNode (kind.Combination operation.Pass ls) st.to pl (through_charges st (spec_size t)) b c m) one here in
    let typed = typed_here names st.word t (spec_of written) e pl cost (st.cost + 1) j a b copied costs value s ready named in
    seen (λ h low p q f. (j, f.0, f.1, f.2, f.3, f.4.0, f.4.1)) (take_then typed (node_placed (λ k same. same) pass))
