-- A node does in the edited graph what it did before.
use Rattle.std.proofs.Common.{◌≡◌, refl, subst, ℕ, suc, ◌+◌, Bool, true, false, List, [], ◌∷◌, length, map, Option, Some, None}
use Rattle.std.specs.Prelude.{slice_get}
use Rattle.lisp_base.specs.declared.values.Val.{Val}
use Rattle.lisp_base.specs.declared.values.Val.TheVariants.{Sym}
use Rattle.lisp_base.specs.Sort.{nil}
use Rattle.core_form.specs.State.{Object, Pair, Vector, Str, Fun, Cell, State, first_of_values}
use Rattle.core_form.specs.Effect.{Effect, ◌>>=◌, ◌>>◌, pure, new_entry, stack_at, hold}
use Rattle.core_form.specs.Force.{Vals, Force, is_true, deeper, object_at, one}
use Rattle.core_form.specs.Primitives.{give, global_function}
use Rattle.core_form.specs.Step.{with_catch, designated, not_too_many, spread, throw}
use Rattle.icr_graph.specs.declared.nodes.Leaf.{Leaf}
use Rattle.icr_graph.specs.declared.nodes.Leaf.TheVariants as leaf
use Rattle.icr_graph.specs.declared.nodes.Operation.{Operation}
use Rattle.icr_graph.specs.declared.nodes.Operation.TheVariants as operation
use Rattle.icr_graph.specs.declared.nodes.NodeKind.{NodeKind}
use Rattle.icr_graph.specs.declared.nodes.NodeKind.TheVariants as kind
use Rattle.icr_graph.specs.declared.nodes.Node.{Node}
use Rattle.icr_graph.specs.declared.nodes.Extent.{Extent}
use Rattle.icr_graph.specs.declared.nodes.Extent.TheVariants as extent
use Rattle.icr_graph.specs.declared.nodes.Leaving.{Leaving as Way}
use Rattle.icr_graph.specs.declared.nodes.Leaving.TheVariants as way
use Rattle.icr_graph.specs.declared.nodes.Tag.{Tag}
use Rattle.icr_graph.specs.declared.parts.Cont.{Cont}
use Rattle.icr_graph.specs.declared.parts.Block.{Block}
use Rattle.icr_graph.specs.Kinds.{extent_arrivals}
use Rattle.icr_graph.specs.Plain.{FlowGraph, nodes_in, blocks_after}
use Rattle.graph_meaning.specs.Machine.{Delivered, values_at, value_at, Activation, advanced, with_force, Waiting, Caller, Landing, Tagged, Guarding, Binding, Keeping, Giving, Going_on, Going, Calling, Returning, Leaving, going}
use Rattle.graph_meaning.specs.Reading.{lambda_of, variable_left}
use Rattle.graph_meaning.specs.Effects.{delivered_by, bind, assign, on_variable, leaf_values, operate}
use Rattle.graph_meaning.specs.Extents.{enter_by, rebind, open_extent, close, guard, give_kept, resume, release, take_one, leave_extent, leave_by}
use Rattle.graph_meaning.specs.Running.{gives, branches, first_values, all_values, calls_object, calls, calls_known, others, closed_at, operates, combines, acts}
use Rattle.graph_edits.proofs.Alike.{Edit, with_others, of_kind, activation_at, Pauses, AllArrive, TagsArrive, Waits, no_more, same, called, Alike, alike, call, stands, goes_on, next_to, forced, stands_forced, comes_at, after_alike}

-- ---- where an If goes

-- an If goes on to the node behind it, or chooses between the same blocks; one with only one block to choose goes on
pub data Chooses (E : Edit) (c : ℕ) : Option ℕ → Option ℕ → List ℕ → List ℕ → Type 0 where
  behind_both : (y y' : ℕ) {bs bs' : List ℕ} → Chooses E c (Some y) (Some y') bs bs'
  at_last : (bs : List ℕ) → AllArrive E c bs → Chooses E c None None bs bs
  only_one : (y : ℕ) (z : ℕ) {bs' : List ℕ} → Chooses E c None (Some y) (z ∷ []) bs'

-- what a node's kind names is alike in both graphs, where the node stands at these places of graphs of one number
abbrev pub Fits : (E : Edit) (h h' : FlowGraph) (c b i b' i' : ℕ) → NodeKind → Type 0
Fits E h h' c b i b' i' (kind.Ref l) = Unit {0}
Fits E h h' c b i b' i' (kind.Set y value) = Unit {0}
Fits E h h' c b i b' i' (kind.If test) = Chooses E c (slice_get (nodes_in h b) (suc i)) (slice_get (nodes_in h' b') (suc i')) (blocks_after h b) (blocks_after h' b')
Fits E h h' c b i b' i' (kind.Combination op ks) = Unit {0}
Fits E h h' c b i b' i' (kind.MvCombination g ks tail) = Unit {0}
Fits E h h' c b i b' i' (kind.Bind y value) = Unit {0}
Fits E h h' c b i b' i' (kind.Return value) = Unit {0}
Fits E h h' c b i b' i' (kind.Entry y exits) = AllArrive E c (extent_arrivals y)
Fits E h h' c b i b' i' (kind.Exit y entry) = variable_left h entry ≡ variable_left h' entry

-- ---- a node at these places

-- what an effect gives is delivered; a call, an extent, an exit and an end of either graph go along with the other's
module _ (E : Edit) (h : FlowGraph) (ns : ℕ → Option Node) (cs : ℕ → Option Cont) (bs : ℕ → Option Block) (start : ℕ) (nd : Node) (k : NodeKind) (x : ℕ) (d : Delivered) (c b i b' i' : ℕ) (e e' : Delivered) (us : Vals) (born : ℕ) (f : Force) where
  abbrev h' : FlowGraph
  h' = with_others h ns cs bs

  abbrev nd' : Node
  nd' = of_kind k x nd

  abbrev old : Activation
  old = activation_at c b i e us born f

  abbrev new : Activation
  new = activation_at c b' i' e' us born f

  module _ (p : Pauses E old new) {ws ws' : List Waiting} (w : Waits E c ws ws') where
    gives_alike : (m : Effect Vals) (s : State) → Alike E (gives nd old ws m s) (gives nd' new ws' m s)
    gives_alike m s = after_alike E _ _ ((m >>= delivered_by nd.charges) s) (stands E p) w (λ vs t. alike Going tt t (goes_on E p nd.cont vs) w)

    moves_on : (s : State) → Alike E (going (advanced old) ws s) (going (advanced new) ws' s)
    moves_on s = alike Going tt s (next_to E p) w

    branches_alike : (t : Bool) {o o' : Option ℕ} {xs xs' : List ℕ} → Chooses E c o o' xs xs' → (s : State) → Alike E (branches t o xs old ws s) (branches t o' xs' new ws' s)
    branches_alike t (behind_both y y') s = moves_on s
    branches_alike t (only_one y z) s = moves_on s
    branches_alike t (at_last [] to) s = moves_on s
    branches_alike t (at_last (y ∷ []) to) s = moves_on s
    branches_alike true (at_last (y ∷ z ∷ []) to) s = alike Going tt s (comes_at E (stands E p) y to.0) w
    branches_alike false (at_last (y ∷ z ∷ []) to) s = alike Going tt s (comes_at E (stands E p) z to.1.0) w
    branches_alike t (at_last (y ∷ z ∷ u ∷ ys) to) s = moves_on s

    -- ---- calls

    calling_alike : (tail : Bool) (n : ℕ) (closed vs : Vals) (entry : Option ℕ) (s : State) →
        Alike E (record { control = Calling tail n closed vs entry; here = old; waiting = Caller tail s.frame old ∷ ws; state = s }) (record { control = Calling tail n closed vs entry; here = new; waiting = Caller tail s.frame new ∷ ws'; state = s })
    calling_alike tail n closed vs entry s = call tail n closed vs entry s.frame s p w

    object_alike : (tail : Bool) (vs : Vals) (o : Option Object) (s : State) → Alike E (calls_object nd tail vs o old ws s) (calls_object nd' tail vs o new ws' s)
    object_alike tail vs (Some (Fun n closed)) s = calling_alike tail n closed vs None s
    object_alike tail vs (Some (Pair y z)) s = gives_alike (one nil) s
    object_alike tail vs (Some (Vector ys)) s = gives_alike (one nil) s
    object_alike tail vs (Some (Str ys)) s = gives_alike (one nil) s
    object_alike tail vs (Some (Cell v)) s = gives_alike (one nil) s
    object_alike tail vs None s = gives_alike (one nil) s

    calls_alike : (tail : Bool) (vs : Vals) (v : Val) (s : State) → Alike E (calls nd tail vs v old ws s) (calls nd' tail vs v new ws' s)
    calls_alike tail vs v s = object_alike tail vs (object_at v s) s

    known_alike : (tail : Bool) (o entry : Option ℕ) (closed vs : Vals) (s : State) → Alike E (calls_known nd tail start o entry closed vs old ws s) (calls_known nd' tail start o entry closed vs new ws' s)
    known_alike tail None entry closed vs s = gives_alike (one nil) s
    known_alike tail (Some n) entry closed vs s = calling_alike tail (start + n) closed vs entry s

    operates_alike : (ks : List ℕ) (op : Operation) (s : State) → Alike E (operates nd d ks old ws op s) (operates nd' d ks new ws' op s)
    operates_alike ks op s = gives_alike (operate f nd.place op (first_values d ks) (all_values d ks)) s

    combines_alike : (ks : List ℕ) (op : Operation) (s : State) → Alike E (combines h start nd d ks old ws op s) (combines h' start nd' d ks new ws' op s)
    combines_alike ks (operation.CallGlobal name tail) s =
        after_alike E _ _ (global_function f nd.place name s) (stands E p) w (λ v t. calls_alike tail (first_values d ks) (first_of_values v) t)
    combines_alike ks (operation.Funcall tail) s =
        after_alike E _ _ (designated f nd.place (first_of_values (first_values d ks)) s) (stands E p) w (λ v t. calls_alike tail (others (first_values d ks)) v t)
    combines_alike ks (operation.Apply tail) s =
        after_alike E _ _ (designated f nd.place (first_of_values (first_values d ks)) s) (stands E p) w
        (λ v t. after_alike E _ _ (spread f nd.place (others (first_values d ks)) t) (stands E p) w (λ vs u. calls_alike tail vs v u))
    combines_alike ks (operation.CallKnown g entry tail) s = known_alike tail (lambda_of (h.function g)) entry (closed_at d ks) (others (first_values d ks)) s
    combines_alike ks (operation.Primitive q) s = operates_alike ks (operation.Primitive q) s
    combines_alike ks (operation.Is t) s = operates_alike ks (operation.Is t) s
    combines_alike ks (operation.SetGlobal name) s = operates_alike ks (operation.SetGlobal name) s
    combines_alike ks (operation.SetFunction name) s = operates_alike ks (operation.SetFunction name) s
    combines_alike ks operation.Values s = operates_alike ks operation.Values s
    combines_alike ks operation.Pass s = operates_alike ks operation.Pass s

    -- ---- leaves

    leaf_same : (l : Leaf) → leaf_values h start old nd.place l ≡ leaf_values h' start new nd.place l
    unfolding leaf_values
    leaf_same (leaf.Constant v) = refl
    leaf_same (leaf.Variable y) = refl
    leaf_same (leaf.Global y) = refl
    leaf_same (leaf.GlobalFunction y) = refl
    leaf_same (leaf.Functional y) = refl
    leaf_same (leaf.Closed y counted) = refl
    leaf_same (leaf.Argument n) = refl
    leaf_same (leaf.Supplied n) = refl
    leaf_same (leaf.RestFrom n) = refl

    leaf_alike : (l : Leaf) (s : State) → Alike E (gives nd old ws (leaf_values h start old nd.place l) s) (gives nd' new ws' (leaf_values h' start new nd.place l) s)
    leaf_alike l s =
        subst (λ (m : Effect Vals). Alike E (gives nd old ws (leaf_values h start old nd.place l) s) (gives nd' new ws' m s)) (leaf_same l)
        (gives_alike (leaf_values h start old nd.place l) s)

    -- ---- extents

    tags_arrive : (tags : List Tag) → AllArrive E c (map (λ t. t.block) tags) → TagsArrive E c tags
    tags_arrive [] to = tt
    tags_arrive (t ∷ ts) to = (to.0, tags_arrive ts to.1)

    -- a new catch of a tag
    abbrev catching : Val → Effect (ℕ × Force)
    catching v = new_entry >>= (λ n. let g = with_catch v n f in stack_at g.words >> pure (n, g))

    opens_alike : (y : Extent) → AllArrive E c (extent_arrivals y) → (s : State) → Alike E (open_extent h nd d old ws y s) (open_extent h' nd' d new ws' y s)
    opens_alike (extent.Named y land) to s =
        after_alike E _ _ (enter_by (h.variable y) s) (stands E p) w (λ n t. alike Going tt t (next_to E (forced E p _)) (same _ to.0 w))
    opens_alike (extent.Tags y tags) to s =
        after_alike E _ _ (enter_by (h.variable y) s) (stands E p) w (λ n t. alike Going tt t (next_to E (forced E p _)) (same _ (tags_arrive tags to) w))
    opens_alike (extent.Catching tag land) to s =
        after_alike E _ _ (catching (value_at d tag) s) (stands E p) w (λ g t. alike Going tt t (next_to E (forced E p _)) (same _ to.0 w))
    opens_alike (extent.Guarded cleanup) to s =
        after_alike E _ _ (stack_at (deeper 8 f).words s) (stands E p) w (λ u t. alike Going tt t (next_to E (forced E p _)) (same _ to.0 w))
    opens_alike (extent.Special y value) to s =
        after_alike E _ _ (rebind (deeper 8 f) y (value_at d value) s) (stands E p) w (λ u t. alike Going tt t (next_to E (forced E p _)) (same _ tt w))
    opens_alike (extent.Keep values) to s =
        after_alike E _ _ (hold (f.kept + length (values_at d values)) s) (stands E p) w (λ u t. alike Going tt t (next_to E (forced E p _)) (same _ tt w))

  module _ (p : Pauses E old new) where
    -- ---- extents that end

    ends_alike : {ws ws' : List Waiting} → Waits E c ws ws' → (g : Force) (s : State) → Alike E (going (advanced (with_force g old)) ws s) (going (advanced (with_force g new)) ws' s)
    ends_alike w g s = alike Going tt s (next_to E (forced E p g)) w

    closes_alike : {ws ws' : List Waiting} → Waits E c ws ws' → (s : State) → Alike E (close old ws s) (close new ws' s)
    closes_alike no_more s = moves_on p no_more s
    closes_alike (called tail frame y y' q w) s = moves_on p (called tail frame y y' q w) s
    closes_alike (same (Caller tail frame y) l w) s = absurd l
    closes_alike (same (Landing n t at g) l w) s = ends_alike w g s
    closes_alike (same (Tagged n tags g) l w) s = ends_alike w g s
    closes_alike (same (Guarding cleanup g) l w) s = moves_on p (same (Guarding cleanup g) l w) s
    closes_alike (same (Binding y v g) l w) s = ends_alike w g (give y v s)
    closes_alike (same (Keeping vs g) l w) s = moves_on p (same (Keeping vs g) l w) s
    closes_alike (same (Giving vs g) l w) s = moves_on p (same (Giving vs g) l w) s
    closes_alike (same (Going_on y g) l w) s = moves_on p (same (Going_on y g) l w) s

    guards_alike : (vs : Vals) {ws ws' : List Waiting} → Waits E c ws ws' → (s : State) → Alike E (guard vs old ws s) (guard vs new ws' s)
    guards_alike vs no_more s = moves_on p no_more s
    guards_alike vs (called tail frame y y' q w) s = moves_on p (called tail frame y y' q w) s
    guards_alike vs (same (Caller tail frame y) l w) s = absurd l
    guards_alike vs (same (Landing n t at g) l w) s = moves_on p (same (Landing n t at g) l w) s
    guards_alike vs (same (Tagged n tags g) l w) s = moves_on p (same (Tagged n tags g) l w) s
    guards_alike vs (same (Guarding cleanup g) l w) s =
        after_alike E _ _ (hold (g.kept + length vs) s) (stands E p) w
        (λ u t. alike Going tt t (comes_at E (stands_forced E (stands E p) _) cleanup l) (same (Giving vs g) tt w))
    guards_alike vs (same (Binding y v g) l w) s = moves_on p (same (Binding y v g) l w) s
    guards_alike vs (same (Keeping ys g) l w) s = moves_on p (same (Keeping ys g) l w) s
    guards_alike vs (same (Giving ys g) l w) s = moves_on p (same (Giving ys g) l w) s
    guards_alike vs (same (Going_on y g) l w) s = moves_on p (same (Going_on y g) l w) s

    kept_alike : (vs : Vals) (g : Force) {ws ws' : List Waiting} → Waits E c ws ws' → (s : State) → Alike E (give_kept nd vs g old ws s) (give_kept nd' vs g new ws' s)
    kept_alike vs g w s = after_alike E _ _ (delivered_by nd.charges vs s) (stands E p) w (λ ys t. alike Going tt t (goes_on E (forced E p g) nd.cont ys) w)

    resumes_alike : {ws ws' : List Waiting} → Waits E c ws ws' → (s : State) → Alike E (resume nd old ws s) (resume nd' new ws' s)
    resumes_alike no_more s = moves_on p no_more s
    resumes_alike (called tail frame y y' q w) s = moves_on p (called tail frame y y' q w) s
    resumes_alike (same (Caller tail frame y) l w) s = absurd l
    resumes_alike (same (Landing n t at g) l w) s = moves_on p (same (Landing n t at g) l w) s
    resumes_alike (same (Tagged n tags g) l w) s = moves_on p (same (Tagged n tags g) l w) s
    resumes_alike (same (Guarding cleanup g) l w) s = moves_on p (same (Guarding cleanup g) l w) s
    resumes_alike (same (Binding y v g) l w) s = moves_on p (same (Binding y v g) l w) s
    resumes_alike (same (Keeping vs g) l w) s = moves_on p (same (Keeping vs g) l w) s
    resumes_alike (same (Giving vs g) l w) s = kept_alike vs g w s
    resumes_alike (same (Going_on y g) l w) s = alike (Leaving y) tt s (stands E (forced E p g)) w

    releases_alike : {ws ws' : List Waiting} → Waits E c ws ws' → (s : State) → Alike E (release nd old ws s) (release nd' new ws' s)
    releases_alike no_more s = moves_on p no_more s
    releases_alike (called tail frame y y' q w) s = moves_on p (called tail frame y y' q w) s
    releases_alike (same (Caller tail frame y) l w) s = absurd l
    releases_alike (same (Landing n t at g) l w) s = moves_on p (same (Landing n t at g) l w) s
    releases_alike (same (Tagged n tags g) l w) s = moves_on p (same (Tagged n tags g) l w) s
    releases_alike (same (Guarding cleanup g) l w) s = moves_on p (same (Guarding cleanup g) l w) s
    releases_alike (same (Binding y v g) l w) s = moves_on p (same (Binding y v g) l w) s
    releases_alike (same (Keeping vs g) l w) s = kept_alike vs g w s
    releases_alike (same (Giving vs g) l w) s = moves_on p (same (Giving vs g) l w) s
    releases_alike (same (Going_on y g) l w) s = moves_on p (same (Going_on y g) l w) s

    -- ---- leaving

    leaves_alike : (entry : Option ℕ) {ws ws' : List Waiting} → Waits E c ws ws' → variable_left h entry ≡ variable_left h' entry → (y : Way) (s : State) →
        Alike E (leave_by h nd d entry old ws y s) (leave_by h' nd' d entry new ws' y s)
    leaves_alike entry w left way.Close s = closes_alike w s
    leaves_alike entry w left (way.Guard values) s = guards_alike (values_at d values) w s
    leaves_alike entry w left way.Resume s = resumes_alike w s
    leaves_alike entry w left way.Release s = releases_alike w s
    leaves_alike entry w left (way.ReturnFrom name values) s =
        rw left (after_alike E _ _ (leave_extent f nd.place (Sym name) None (values_at d values) (variable_left h' entry) s) (stands E p) w (λ vs t. moves_on p w t))
    leaves_alike entry w left (way.Go tag name) s =
        rw left (after_alike E _ _ ((take_one >> leave_extent f nd.place name (Some tag) [] (variable_left h' entry)) s) (stands E p) w (λ vs t. moves_on p w t))
    leaves_alike entry w left (way.Throw tag values) s =
        after_alike E _ _ (throw f nd.place (value_at d tag) (values_at d values) s) (stands E p) w (λ vs t. moves_on p w t)

    -- ---- a node

    pub acts_alike : (y : NodeKind) → Fits E h h' c b i b' i' y → {ws ws' : List Waiting} → Waits E c ws ws' → (s : State) → Alike E (acts h start nd d old ws y s) (acts h' start nd' d new ws' y s)
    acts_alike (kind.Ref l) fits w s = leaf_alike p w l s
    acts_alike (kind.Set y value) fits w s = gives_alike p w (on_variable (h.variable y) (value_at d value) (λ z. assign z (value_at d value))) s
    acts_alike (kind.If test) fits w s = branches_alike p w (is_true (value_at d test)) fits s
    acts_alike (kind.Combination op ks) fits w s = combines_alike p w ks op s
    acts_alike (kind.MvCombination g ks tail) fits w s =
        after_alike E _ _ ((not_too_many f nd.place (all_values d ks) >> designated f nd.place (value_at d g)) s) (stands E p) w
        (λ v t. calls_alike p w tail (all_values d ks) v t)
    acts_alike (kind.Bind y value) fits w s = gives_alike p w (on_variable (h.variable y) (value_at d value) (λ z. bind z (value_at d value))) s
    acts_alike (kind.Return value) fits w s = alike (Returning (values_at d value)) tt s (stands E p) w
    acts_alike (kind.Entry y exits) fits w s = opens_alike p w y fits s
    acts_alike (kind.Exit y entry) fits w s = leaves_alike entry w fits y s
