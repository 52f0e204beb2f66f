-- A step of a run of graphs takes nothing back: no counter falls, no output is taken back, no fuel is given back.
use Rattle.std.proofs.Common.{refl, ℕ, suc, ◌+◌, Bool, true, false, if◌then◌else◌, ◌==◌, List, [], ◌∷◌, length, Option, Some, None}
use Rattle.std.specs.Prelude.{slice_get}
use Rattle.std.specs.List.{list_all}
use Rattle.lisp_base.specs.declared.values.SymId.{SymId}
use Rattle.lisp_base.specs.declared.values.Val.{Val}
use Rattle.lisp_base.specs.declared.values.Val.TheVariants.{Sym}
use Rattle.lisp_base.specs.declared.values.Place.{Place}
use Rattle.lisp_base.specs.Sort.{nil}
use Rattle.core_form.specs.State.{Symbol, Object, Pair, Vector, Str, Fun, Cell, Arguments, State, Exit, first_of_values}
use Rattle.core_form.specs.Effect.{Ended, Gave, Left, Failed, Effect, ◌>>=◌, ◌>>◌, pure, change, counting, new_entry, stack_at, hold, begin, spend, box_all}
use Rattle.core_form.specs.Force.{Vals, Force, in_force, is_true, deeper, raise, object_at}
use Rattle.core_form.specs.Primitives.{give, global_function}
use Rattle.core_form.specs.Step.{with_catch, designated, not_too_many, spread, throw}
use Rattle.core_form.specs.Growth.{Grows}
use Rattle.core_form.proofs.Lasting.{after as state_after, grows_same, grows_on, quiet_grows, then_grows, Leads, bind_leads, Lasts, bind_lasts, then_lasts, pure_lasts, read_lasts, quiet_lasts, spend_lasts, allot_lasts, boxes_lasts, deliver_more_lasts, stack_lasts, hold_lasts, begin_lasts, box_lasts, add_lasts, entry_lasts, either_lasts}
use Rattle.core_form.proofs.Acting.{one_lasts, make_list_lasts, raise_lasts, expect_lasts, global_value_lasts, global_function_lasts, set_global_lasts, act_lasts, place_lasts, change_in_lasts, designated_lasts, set_function_lasts, spread_lasts, not_too_many_lasts, exit_leads, throw_lasts}
use Rattle.core_form.proofs.Steady.{taken_grows, frame_grows}
use Rattle.icr_graph.specs.declared.nodes.Leaf.{Leaf}
use Rattle.icr_graph.specs.declared.nodes.Leaf.TheVariants as leaf
use Rattle.icr_graph.specs.declared.nodes.Operation.{Operation}
use Rattle.icr_graph.specs.declared.nodes.Operation.TheVariants as operation
use Rattle.icr_graph.specs.declared.nodes.NodeKind.{NodeKind}
use Rattle.icr_graph.specs.declared.nodes.NodeKind.TheVariants as kind
use Rattle.icr_graph.specs.declared.nodes.Node.{Node}
use Rattle.icr_graph.specs.declared.nodes.Extent.{Extent}
use Rattle.icr_graph.specs.declared.nodes.Extent.TheVariants as extent
use Rattle.icr_graph.specs.declared.nodes.Leaving.{Leaving as Way}
use Rattle.icr_graph.specs.declared.nodes.Leaving.TheVariants as way
use Rattle.icr_graph.specs.declared.nodes.Charges.{Charges}
use Rattle.icr_graph.specs.declared.nodes.Tag.{Tag}
use Rattle.icr_graph.specs.declared.parts.Assertion.{Assertion}
use Rattle.icr_graph.specs.declared.parts.Variable.{Variable}
use Rattle.icr_graph.specs.declared.parts.Function.{Function}
use Rattle.icr_graph.specs.Kinds.{operands_of}
use Rattle.icr_graph.specs.Plain.{FlowGraph, nodes_in, blocks_after}
use Rattle.graph_meaning.specs.Machine.{Delivered, values_at, value_at, Activation, taking, Arrival, Waiting, Caller, Landing, Tagged, Guarding, Binding, Keeping, Giving, Going_on, Control, Going, Calling, Returning, Leaving, Stopped, Next, Over, Machine, after}
use Rattle.graph_meaning.specs.Reading.{node_at, entry_of_code, Found, function_at, first_function, takes, lambda_of, variable_left, named}
use Rattle.graph_meaning.specs.Effects.{delivered_by, test, test_all, test_operands, box_for, bind, assign, on_variable, captured, new_function, closed_values, leaf_values, box_before, operate}
use Rattle.graph_meaning.specs.Extents.{enter_by, rebind, open_extent, close, clean_up, guard, give_kept, resume, release, take_one, leave_extent, leave_by, spent, block_for, at_tag, lands, leave_on}
use Rattle.graph_meaning.specs.Running.{gives, branches, first_values, all_values, calls_object, calls, calls_known, others, closed_at, operates, combines, acts, runs_node, to_next, runs_at, node_of, returns_to, activation, begins, at_entry, enters, returns, form_activation, begins_at, begins_form, runs_in, step_by, step}

-- ---- the effects of nodes last

pub delivered_lasts : {inn : ℕ → Bool} → (c : Charges) (vs : Vals) → Lasts inn (delivered_by c vs)
unfolding delivered_by
delivered_lasts c vs = then_lasts (then_lasts (deliver_more_lasts _) (boxes_lasts _ _)) (pure_lasts vs)

pub test_lasts : (f : Force) (t : Assertion) (v : Val) → Lasts (in_force f) (test f t v)
unfolding test
test_lasts f t v = either_lasts _ (expect_lasts f _ _ v) (pure_lasts tt)

pub test_all_lasts : (f : Force) (ts : List Assertion) (v : Val) → Lasts (in_force f) (test_all f ts v)
unfolding test_all
test_all_lasts f [] v = pure_lasts tt
test_all_lasts f (t ∷ ts) v = then_lasts (test_lasts f t v) (test_all_lasts f ts v)

pub test_operands_lasts : (g : FlowGraph) (f : Force) (d : Delivered) (ks : List ℕ) → Lasts (in_force f) (test_operands g f d ks)
unfolding test_operands
test_operands_lasts g f d [] = pure_lasts tt
test_operands_lasts g f d (k ∷ ks) = then_lasts (test_all_lasts f _ _) (test_operands_lasts g f d ks)

pub box_for_lasts : {inn : ℕ → Bool} → (x : Variable) (v : Val) → Lasts inn (box_for x v)
unfolding box_for
box_for_lasts x v = either_lasts _ (pure_lasts tt) (box_lasts _)

pub binding_lasts : {inn : ℕ → Bool} → (x : Variable) (v : Val) → Lasts inn (bind x v)
unfolding bind
binding_lasts x v = then_lasts (then_lasts (box_for_lasts x v) (place_lasts _ _ v)) (one_lasts v)

pub assign_lasts : {inn : ℕ → Bool} → (x : Variable) (v : Val) → Lasts inn (assign x v)
unfolding assign
assign_lasts x v = then_lasts (then_lasts (box_for_lasts x v) (change_in_lasts _ _ v)) (one_lasts v)

pub on_variable_lasts : {inn : ℕ → Bool} → (o : Option Variable) (v : Val) (m : Variable → Effect Vals) → ((x : Variable) → Lasts inn (m x)) → Lasts inn (on_variable o v m)
on_variable_lasts None v m h = one_lasts v
on_variable_lasts (Some x) v m h = h x

pub captured_lasts : {inn : ℕ → Bool} → (xs : List Variable) → Lasts inn (captured xs)
unfolding captured
captured_lasts xs = bind_lasts (read_lasts _) (λ n. then_lasts (boxes_lasts n n) (read_lasts _))

pub new_function_lasts : {inn : ℕ → Bool} → (start : ℕ) (o : Option ℕ) (xs : List Variable) → Lasts inn (new_function start o xs)
unfolding new_function
new_function_lasts start None xs = one_lasts nil
new_function_lasts start (Some k) xs = bind_lasts (captured_lasts xs) (λ vs. bind_lasts (then_lasts (allot_lasts _) (add_lasts _)) (λ r. one_lasts r))

pub closed_values_lasts : {inn : ℕ → Bool} → (counted : Bool) (xs : List Variable) → Lasts inn (closed_values counted xs)
unfolding closed_values
closed_values_lasts true xs = bind_lasts (captured_lasts xs) (λ vs. then_lasts (allot_lasts _) (pure_lasts vs))
closed_values_lasts false xs = captured_lasts xs

pub leaf_lasts : (g : FlowGraph) (start : ℕ) (a : Activation) (p : Place) (l : Leaf) → Lasts (in_force a.force) (leaf_values g start a p l)
unfolding leaf_values
leaf_lasts g start a p (leaf.Constant v) = one_lasts v
leaf_lasts g start a p (leaf.Variable x) = on_variable_lasts (g.variable x) nil _ (λ y. bind_lasts (read_lasts _) (λ v. one_lasts v))
leaf_lasts g start a p (leaf.Global s) = global_value_lasts a.force p s
leaf_lasts g start a p (leaf.GlobalFunction s) = global_function_lasts a.force p s
leaf_lasts g start a p (leaf.Functional f) = new_function_lasts start _ _
leaf_lasts g start a p (leaf.Closed f counted) = closed_values_lasts counted _
leaf_lasts g start a p (leaf.Argument i) = one_lasts _
leaf_lasts g start a p (leaf.Supplied i) = one_lasts _
leaf_lasts g start a p (leaf.RestFrom i) = bind_lasts (make_list_lasts _) (λ v. one_lasts v)

pub box_before_lasts : {inn : ℕ → Bool} → (k : NodeKind) (vs : Vals) → Lasts inn (box_before k vs)
unfolding box_before
box_before_lasts (kind.Combination (operation.Primitive q) os) vs = either_lasts _ (pure_lasts tt) (box_lasts vs)
box_before_lasts (kind.Combination (operation.Is t) os) vs = pure_lasts tt
box_before_lasts (kind.Combination (operation.SetGlobal s) os) vs = pure_lasts tt
box_before_lasts (kind.Combination (operation.SetFunction s) os) vs = pure_lasts tt
box_before_lasts (kind.Combination operation.Values os) vs = pure_lasts tt
box_before_lasts (kind.Combination operation.Pass os) vs = pure_lasts tt
box_before_lasts (kind.Combination (operation.CallGlobal name tail) os) vs = pure_lasts tt
box_before_lasts (kind.Combination (operation.Funcall tail) os) vs = pure_lasts tt
box_before_lasts (kind.Combination (operation.Apply tail) os) vs = pure_lasts tt
box_before_lasts (kind.Combination (operation.CallKnown f entry tail) os) vs = pure_lasts tt
box_before_lasts (kind.Ref l) vs = pure_lasts tt
box_before_lasts (kind.Set x value) vs = pure_lasts tt
box_before_lasts (kind.If test) vs = pure_lasts tt
box_before_lasts (kind.MvCombination f ks tail) vs = pure_lasts tt
box_before_lasts (kind.Bind x value) vs = pure_lasts tt
box_before_lasts (kind.Return value) vs = pure_lasts tt
box_before_lasts (kind.Entry x exits) vs = pure_lasts tt
box_before_lasts (kind.Exit way entry) vs = pure_lasts tt

pub operate_lasts : (f : Force) (p : Place) (o : Operation) (vs all : Vals) → Lasts (in_force f) (operate f p o vs all)
unfolding operate
operate_lasts f p (operation.Primitive q) vs all = act_lasts f p q vs
operate_lasts f p (operation.Is t) vs all = bind_lasts (read_lasts _) (λ b. one_lasts _)
operate_lasts f p (operation.SetGlobal s) vs all = set_global_lasts f p s _
operate_lasts f p (operation.SetFunction s) vs all = set_function_lasts s _
operate_lasts f p operation.Values vs all = pure_lasts vs
operate_lasts f p operation.Pass vs all = pure_lasts all
operate_lasts f p (operation.CallGlobal name tail) vs all = pure_lasts []
operate_lasts f p (operation.Funcall tail) vs all = pure_lasts []
operate_lasts f p (operation.Apply tail) vs all = pure_lasts []
operate_lasts f p (operation.CallKnown function entry tail) vs all = pure_lasts []

-- ---- the effects of extents

pub enter_by_lasts : {inn : ℕ → Bool} → (o : Option Variable) → Lasts inn (enter_by o)
unfolding enter_by
enter_by_lasts None = entry_lasts
enter_by_lasts (Some x) = bind_lasts entry_lasts (λ n. then_lasts (place_lasts _ _ _) (pure_lasts n))

pub rebind_lasts : {inn : ℕ → Bool} → (f : Force) (x : SymId) (v : Val) → Lasts inn (rebind f x v)
unfolding rebind
rebind_lasts f x v =
    bind_lasts (then_lasts (then_lasts (stack_lasts _) (box_lasts _)) (read_lasts _)) (λ old. then_lasts (quiet_lasts _ (λ s. (refl, refl, refl))) (pure_lasts old))

-- a new catch of a tag
abbrev catching : Val → Force → Effect (ℕ × Force)
catching v f = new_entry >>= (λ n. let g = with_catch v n f in stack_at g.words >> pure (n, g))

pub catching_lasts : {inn : ℕ → Bool} → (v : Val) (f : Force) → Lasts inn (catching v f)
catching_lasts v f = bind_lasts entry_lasts (λ n. then_lasts (stack_lasts _) (pure_lasts _))

pub leave_extent_leads : (f : Force) (p : Place) (name : Val) (tag : Option ℕ) (vs : Vals) (o : Option Variable) → Leads (in_force f) (leave_extent f p name tag vs o)
unfolding leave_extent
leave_extent_leads f p name tag vs None = (raise_lasts f _ p).leads
leave_extent_leads f p name tag vs (Some x) = bind_leads (read_lasts _).leads (λ n. exit_leads f p _ _)

-- ---- what grows

-- an effect that takes nothing back; it may take fuel
abbrev pub Rises : {A : Type 0} → Effect A → Type 0
Rises m = (s : State) → Grows s (state_after (m s))

-- of an effect that lasts, whatever may be left for
pub rises : {A : Type 0} (inn : ℕ → Bool) (m : Effect A) → Lasts inn m → Rises m
rises inn m h = h.leads.grows

abbrev pub anywhere : ℕ → Bool
anywhere e = true

pub bind_rises : {A B : Type 0} (m : Effect A) (k : A → Effect B) → Rises m → ((r : A) → Rises (k r)) → Rises (m >>= k)
unfolding ◌>>=◌
bind_rises m k h i s = grows_on (h s) (then_grows k i (m s))

pub take_one_rises : Rises take_one
unfolding take_one change
take_one_rises s = taken_grows s

pub spent_grows : (n : ℕ) (s : State) → Grows s (spent n s)
unfolding spend counting change
spent_grows n s = rises anywhere (spend n) (spend_lasts n) s

pub give_grows : (x : SymId) (v : Option Val) (s : State) → Grows s (give x v s)
give_grows x v s = quiet_grows s (give x v s) refl refl refl

pub by_end_grows : {A : Type 0} (s : State) (a : Activation) (ws : List Waiting) (next : A → State → Machine) (o : Ended A) →
    Grows s (state_after o) → ((r : A) (t : State) → Grows t (next r t).state) → Grows s (after a ws next o).state
by_end_grows s a ws next (Gave r t) g h = grows_on g (h r t)
by_end_grows s a ws next (Left e t) g h = g
by_end_grows s a ws next (Failed x p t) g h = g

-- what follows an effect
pub after_grows : {A : Type 0} (m : Effect A) (s : State) (a : Activation) (ws : List Waiting) (next : A → State → Machine) →
    Rises m → ((r : A) (t : State) → Grows t (next r t).state) → Grows s (after a ws next (m s)).state
after_grows m s a ws next g h = by_end_grows s a ws next (m s) (g s) h

pub either_grows : (s : State) (b : Bool) (m k : Machine) → Grows s m.state → Grows s k.state → Grows s (if b then m else k).state
either_grows s true m k g h = g
either_grows s false m k g h = h

-- ---- nodes that give values, go on at a block, or call

pub gives_grows : (nd : Node) (a : Activation) (ws : List Waiting) (m : Effect Vals) (s : State) → Rises m → Grows s (gives nd a ws m s).state
gives_grows nd a ws m s h =
    after_grows (m >>= delivered_by nd.charges) s a ws _ (bind_rises m (delivered_by nd.charges) h (λ vs. rises anywhere _ (delivered_lasts nd.charges vs))) (λ vs t. grows_same t)

pub branches_grow : (b : Bool) (behind : Option ℕ) (blocks : List ℕ) (a : Activation) (ws : List Waiting) (s : State) → Grows s (branches b behind blocks a ws s).state
branches_grow b None [] a ws s = grows_same s
branches_grow b None (x ∷ []) a ws s = grows_same s
branches_grow b None (x ∷ y ∷ []) a ws s = grows_same s
branches_grow b None (x ∷ y ∷ z ∷ zs) a ws s = grows_same s
branches_grow b (Some n) blocks a ws s = grows_same s

pub calls_object_grow : (nd : Node) (tail : Bool) (vs : Vals) (o : Option Object) (a : Activation) (ws : List Waiting) (s : State) → Grows s (calls_object nd tail vs o a ws s).state
calls_object_grow nd tail vs (Some (Fun k closed)) a ws s = grows_same s
calls_object_grow nd tail vs (Some (Pair x y)) a ws s = gives_grows nd a ws _ s (rises anywhere _ (one_lasts nil))
calls_object_grow nd tail vs (Some (Vector us)) a ws s = gives_grows nd a ws _ s (rises anywhere _ (one_lasts nil))
calls_object_grow nd tail vs (Some (Str cs)) a ws s = gives_grows nd a ws _ s (rises anywhere _ (one_lasts nil))
calls_object_grow nd tail vs (Some (Cell v)) a ws s = gives_grows nd a ws _ s (rises anywhere _ (one_lasts nil))
calls_object_grow nd tail vs None a ws s = gives_grows nd a ws _ s (rises anywhere _ (one_lasts nil))

pub calls_grow : (nd : Node) (tail : Bool) (vs : Vals) (v : Val) (a : Activation) (ws : List Waiting) (s : State) → Grows s (calls nd tail vs v a ws s).state
calls_grow nd tail vs v a ws s = calls_object_grow nd tail vs (object_at v s) a ws s

pub calls_known_grow : (nd : Node) (tail : Bool) (start : ℕ) (o entry : Option ℕ) (closed vs : Vals) (a : Activation) (ws : List Waiting) (s : State) → Grows s (calls_known nd tail start o entry closed vs a ws s).state
calls_known_grow nd tail start None entry closed vs a ws s = gives_grows nd a ws _ s (rises anywhere _ (one_lasts nil))
calls_known_grow nd tail start (Some k) entry closed vs a ws s = grows_same s

-- ---- combinations

module _ (nd : Node) (d : Delivered) (ks : List ℕ) (a : Activation) (ws : List Waiting) where
  pub operates_grow : (o : Operation) (s : State) → Grows s (operates nd d ks a ws o s).state
  operates_grow o s = gives_grows nd a ws _ s (rises (in_force a.force) _ (operate_lasts a.force nd.place o (first_values d ks) (all_values d ks)))

  pub combines_grow : (g : FlowGraph) (start : ℕ) (o : Operation) (s : State) → Grows s (combines g start nd d ks a ws o s).state
  combines_grow g start (operation.CallGlobal name tail) s =
      after_grows (global_function a.force nd.place name) s a ws _ (rises (in_force a.force) _ (global_function_lasts a.force nd.place name))
      (λ f t. calls_grow nd tail (first_values d ks) (first_of_values f) a ws t)
  combines_grow g start (operation.Funcall tail) s =
      after_grows (designated a.force nd.place (first_of_values (first_values d ks))) s a ws _
      (rises (in_force a.force) _ (designated_lasts a.force nd.place (first_of_values (first_values d ks))))
      (λ f t. calls_grow nd tail (others (first_values d ks)) f a ws t)
  combines_grow g start (operation.Apply tail) s =
      after_grows (designated a.force nd.place (first_of_values (first_values d ks))) s a ws _
      (rises (in_force a.force) _ (designated_lasts a.force nd.place (first_of_values (first_values d ks))))
      (λ f t. after_grows (spread a.force nd.place (others (first_values d ks))) t a ws _ (rises (in_force a.force) _ (spread_lasts a.force nd.place (others (first_values d ks)))) (λ us u. calls_grow nd tail us f a ws u))
  combines_grow g start (operation.CallKnown f entry tail) s =
      calls_known_grow nd tail start (lambda_of (g.function f)) entry (closed_at d ks) (others (first_values d ks)) a ws s
  combines_grow g start (operation.Primitive q) s = operates_grow (operation.Primitive q) s
  combines_grow g start (operation.Is t) s = operates_grow (operation.Is t) s
  combines_grow g start (operation.SetGlobal name) s = operates_grow (operation.SetGlobal name) s
  combines_grow g start (operation.SetFunction name) s = operates_grow (operation.SetFunction name) s
  combines_grow g start operation.Values s = operates_grow operation.Values s
  combines_grow g start operation.Pass s = operates_grow operation.Pass s

-- ---- extents that open

pub open_grows : (g : FlowGraph) (nd : Node) (d : Delivered) (a : Activation) (ws : List Waiting) (x : Extent) (s : State) → Grows s (open_extent g nd d a ws x s).state
open_grows g nd d a ws (extent.Named x land) s = after_grows (enter_by (g.variable x)) s a ws _ (rises anywhere _ (enter_by_lasts (g.variable x))) (λ n t. grows_same t)
open_grows g nd d a ws (extent.Tags x tags) s = after_grows (enter_by (g.variable x)) s a ws _ (rises anywhere _ (enter_by_lasts (g.variable x))) (λ n t. grows_same t)
open_grows g nd d a ws (extent.Catching tag land) s =
    after_grows (catching (value_at d tag) a.force) s a ws _ (rises anywhere _ (catching_lasts (value_at d tag) a.force)) (λ n t. grows_same t)
open_grows g nd d a ws (extent.Guarded cleanup) s = after_grows (stack_at (deeper 8 a.force).words) s a ws _ (rises anywhere _ (stack_lasts _)) (λ u t. grows_same t)
open_grows g nd d a ws (extent.Special x value) s =
    after_grows (rebind (deeper 8 a.force) x (value_at d value)) s a ws _ (rises anywhere _ (rebind_lasts (deeper 8 a.force) x (value_at d value))) (λ old t. grows_same t)
open_grows g nd d a ws (extent.Keep values) s =
    after_grows (hold (a.force.kept + length (values_at d values))) s a ws _ (rises anywhere _ (hold_lasts _)) (λ u t. grows_same t)

-- ---- extents that end

pub close_grows : (a : Activation) (ws : List Waiting) (s : State) → Grows s (close a ws s).state
close_grows a [] s = grows_same s
close_grows a (Caller t frame caller ∷ ws) s = grows_same s
close_grows a (Landing n c at f ∷ ws) s = grows_same s
close_grows a (Tagged n tags f ∷ ws) s = grows_same s
close_grows a (Guarding cleanup f ∷ ws) s = grows_same s
close_grows a (Binding x old f ∷ ws) s = give_grows x old s
close_grows a (Keeping vs f ∷ ws) s = grows_same s
close_grows a (Giving vs f ∷ ws) s = grows_same s
close_grows a (Going_on e f ∷ ws) s = grows_same s

pub clean_up_grows : (cleanup n : ℕ) (w : Waiting) (f : Force) (a : Activation) (ws : List Waiting) (s : State) → Grows s (clean_up cleanup n w f a ws s).state
clean_up_grows cleanup n w f a ws s = after_grows (hold (f.kept + n)) s a ws _ (rises anywhere _ (hold_lasts _)) (λ u t. grows_same t)

pub guard_grows : (vs : Vals) (a : Activation) (ws : List Waiting) (s : State) → Grows s (guard vs a ws s).state
guard_grows vs a [] s = grows_same s
guard_grows vs a (Caller t frame caller ∷ ws) s = grows_same s
guard_grows vs a (Landing n c at f ∷ ws) s = grows_same s
guard_grows vs a (Tagged n tags f ∷ ws) s = grows_same s
guard_grows vs a (Guarding cleanup f ∷ ws) s = clean_up_grows cleanup (length vs) (Giving vs f) f a ws s
guard_grows vs a (Binding x old f ∷ ws) s = grows_same s
guard_grows vs a (Keeping us f ∷ ws) s = grows_same s
guard_grows vs a (Giving us f ∷ ws) s = grows_same s
guard_grows vs a (Going_on e f ∷ ws) s = grows_same s

-- values that were kept are delivered
pub kept_grow : (nd : Node) (vs : Vals) (f : Force) (a : Activation) (ws : List Waiting) (s : State) → Grows s (give_kept nd vs f a ws s).state
kept_grow nd vs f a ws s = after_grows (delivered_by nd.charges vs) s a ws _ (rises anywhere _ (delivered_lasts nd.charges vs)) (λ us t. grows_same t)

pub resume_grows : (nd : Node) (a : Activation) (ws : List Waiting) (s : State) → Grows s (resume nd a ws s).state
resume_grows nd a [] s = grows_same s
resume_grows nd a (Caller t frame caller ∷ ws) s = grows_same s
resume_grows nd a (Landing n c at f ∷ ws) s = grows_same s
resume_grows nd a (Tagged n tags f ∷ ws) s = grows_same s
resume_grows nd a (Guarding cleanup f ∷ ws) s = grows_same s
resume_grows nd a (Binding x old f ∷ ws) s = grows_same s
resume_grows nd a (Keeping vs f ∷ ws) s = grows_same s
resume_grows nd a (Giving vs f ∷ ws) s = kept_grow nd vs f a ws s
resume_grows nd a (Going_on e f ∷ ws) s = grows_same s

pub release_grows : (nd : Node) (a : Activation) (ws : List Waiting) (s : State) → Grows s (release nd a ws s).state
release_grows nd a [] s = grows_same s
release_grows nd a (Caller t frame caller ∷ ws) s = grows_same s
release_grows nd a (Landing n c at f ∷ ws) s = grows_same s
release_grows nd a (Tagged n tags f ∷ ws) s = grows_same s
release_grows nd a (Guarding cleanup f ∷ ws) s = grows_same s
release_grows nd a (Binding x old f ∷ ws) s = grows_same s
release_grows nd a (Keeping vs f ∷ ws) s = kept_grow nd vs f a ws s
release_grows nd a (Giving vs f ∷ ws) s = grows_same s
release_grows nd a (Going_on e f ∷ ws) s = grows_same s

-- ---- leaving

pub leave_by_grows : (g : FlowGraph) (nd : Node) (d : Delivered) (entry : Option ℕ) (a : Activation) (ws : List Waiting) (w : Way) (s : State) → Grows s (leave_by g nd d entry a ws w s).state
leave_by_grows g nd d entry a ws way.Close s = close_grows a ws s
leave_by_grows g nd d entry a ws (way.Guard values) s = guard_grows (values_at d values) a ws s
leave_by_grows g nd d entry a ws way.Resume s = resume_grows nd a ws s
leave_by_grows g nd d entry a ws way.Release s = release_grows nd a ws s
leave_by_grows g nd d entry a ws (way.ReturnFrom name values) s =
    after_grows (leave_extent a.force nd.place (Sym name) None (values_at d values) (variable_left g entry)) s a ws _
    (leave_extent_leads a.force nd.place (Sym name) None (values_at d values) (variable_left g entry)).grows (λ vs t. grows_same t)
leave_by_grows g nd d entry a ws (way.Go tag name) s =
    after_grows (take_one >> leave_extent a.force nd.place name (Some tag) [] (variable_left g entry)) s a ws _
    (bind_rises take_one _ take_one_rises (λ u. (leave_extent_leads a.force nd.place name (Some tag) [] (variable_left g entry)).grows)) (λ vs t. grows_same t)
leave_by_grows g nd d entry a ws (way.Throw tag values) s =
    after_grows (throw a.force nd.place (value_at d tag) (values_at d values)) s a ws _
    (rises (in_force a.force) _ (throw_lasts a.force nd.place (value_at d tag) (values_at d values))) (λ vs t. grows_same t)

pub at_tag_grows : (e : Exit) (o : Option ℕ) (n : ℕ) (tags : List Tag) (f : Force) (a : Activation) (ws : List Waiting) (s : State) → Grows s (at_tag e o n tags f a ws s).state
at_tag_grows e None n tags f a ws s = grows_same s
at_tag_grows e (Some b) n tags f a ws s = grows_same s

pub lands_grows : (e : Exit) (at : Arrival) (f : Force) (a : Activation) (ws : List Waiting) (s : State) → Grows s (lands e at f a ws s).state
lands_grows e at f a ws s = after_grows (delivered_by at.charges e.values) s a ws _ (rises anywhere _ (delivered_lasts at.charges e.values)) (λ vs t. grows_same t)

-- an exit on its way
pub leave_on_grows : (e : Exit) (a : Activation) (ws : List Waiting) (s : State) → Grows s (leave_on e a ws s).state
leave_on_grows e a [] s = grows_same s
leave_on_grows e a (Caller tail frame caller ∷ ws) s = grows_on (frame_grows s frame) (spent_grows _ _)
leave_on_grows e a (Landing n c at f ∷ ws) s = either_grows s (e.entry == n) _ _ (lands_grows e at f a ws s) (spent_grows _ s)
leave_on_grows e a (Tagged n tags f ∷ ws) s = either_grows s (e.entry == n) _ _ (at_tag_grows e (block_for e.tag tags) n tags f a ws s) (grows_same s)
leave_on_grows e a (Guarding cleanup f ∷ ws) s = grows_on (spent_grows 1 s) (clean_up_grows cleanup (length e.values) (Going_on e f) f a ws (spent 1 s))
leave_on_grows e a (Binding x old f ∷ ws) s = grows_on (spent_grows 1 s) (give_grows x old (spent 1 s))
leave_on_grows e a (Keeping vs f ∷ ws) s = grows_same s
leave_on_grows e a (Giving vs f ∷ ws) s = grows_same s
leave_on_grows e a (Going_on e' f ∷ ws) s = grows_same s

-- ---- nodes

pub acts_grow : (g : FlowGraph) (start : ℕ) (nd : Node) (d : Delivered) (a : Activation) (ws : List Waiting) (k : NodeKind) (s : State) → Grows s (acts g start nd d a ws k s).state
acts_grow g start nd d a ws (kind.Ref l) s = gives_grows nd a ws _ s (rises (in_force a.force) _ (leaf_lasts g start a nd.place l))
acts_grow g start nd d a ws (kind.Set x value) s =
    gives_grows nd a ws _ s (rises anywhere _ (on_variable_lasts (g.variable x) (value_at d value) _ (λ y. assign_lasts y (value_at d value))))
acts_grow g start nd d a ws (kind.If test) s =
    branches_grow (is_true (value_at d test)) (slice_get (nodes_in g a.block) (suc a.index)) (blocks_after g a.block) a ws s
acts_grow g start nd d a ws (kind.Combination o ks) s = combines_grow nd d ks a ws g start o s
acts_grow g start nd d a ws (kind.MvCombination f ks tail) s =
    after_grows (not_too_many a.force nd.place (all_values d ks) >> designated a.force nd.place (value_at d f)) s a ws _
    (rises (in_force a.force) _ (then_lasts (not_too_many_lasts a.force nd.place (all_values d ks)) (designated_lasts a.force nd.place (value_at d f))))
    (λ v t. calls_grow nd tail (all_values d ks) v a ws t)
acts_grow g start nd d a ws (kind.Bind x value) s =
    gives_grows nd a ws _ s (rises anywhere _ (on_variable_lasts (g.variable x) (value_at d value) _ (λ y. binding_lasts y (value_at d value))))
acts_grow g start nd d a ws (kind.Return value) s = grows_same s
acts_grow g start nd d a ws (kind.Entry x exits) s = open_grows g nd d a ws x s
acts_grow g start nd d a ws (kind.Exit way entry) s = leave_by_grows g nd d entry a ws way s

pub node_grows : (g : FlowGraph) (start : ℕ) (nd : Node) (a : Activation) (ws : List Waiting) (s : State) → Grows s (runs_node g start nd a ws s).state
node_grows g start nd a ws s =
    let ks = operands_of nd.kind in
    let b = taking ks a in
    grows_on (spent_grows nd.charges.cost s) (after_grows (box_before nd.kind (first_values a.delivered ks) >> test_operands g a.force a.delivered ks) (spent nd.charges.cost s) b ws _
    (rises (in_force a.force) _ (then_lasts (box_before_lasts nd.kind (first_values a.delivered ks)) (test_operands_lasts g a.force a.delivered ks)))
    (λ u t. acts_grow g start nd a.delivered b ws nd.kind t))

pub to_next_grows : (bs : List ℕ) (a : Activation) (ws : List Waiting) (s : State) → Grows s (to_next bs a ws s).state
to_next_grows [] a ws s = grows_same s
to_next_grows (b ∷ bs) a ws s = either_grows s (list_all (λ c. c == b) bs) _ _ (grows_same s) (grows_same s)

pub at_node_grows : (g : FlowGraph) (start : ℕ) (o : Option Node) (a : Activation) (ws : List Waiting) (s : State) → Grows s (runs_at g start o a ws s).state
at_node_grows g start None a ws s = to_next_grows (blocks_after g a.block) a ws s
at_node_grows g start (Some nd) a ws s = node_grows g start nd a ws s

-- ---- functions

pub returns_to_grows : (o : Option Node) (tail : Bool) (vs : Vals) (a : Activation) (ws : List Waiting) (s : State) → Grows s (returns_to o tail vs a ws s).state
returns_to_grows None tail vs a ws s = grows_same s
returns_to_grows (Some nd) tail vs a ws s =
    gives_grows nd a ws _ s (rises anywhere _ (then_lasts (either_lasts tail (pure_lasts tt) (box_lasts vs)) (pure_lasts vs)))

pub begins_grows : (f : Function) (a : Activation) (ws : List Waiting) (s : State) → Grows s (begins f a ws s).state
begins_grows f a ws s = either_grows s (takes f (length a.arguments)) _ _ (grows_same s)
    (after_grows (raise {A = Unit {0}} a.force (Arguments f.name (length a.arguments)) f.place) s a ws _ (rises (in_force a.force) _ (raise_lasts a.force (Arguments f.name (length a.arguments)) f.place)) (λ u t. grows_same t))

pub call_rises : (words cost : ℕ) (vs : Vals) → Rises (take_one >> stack_at words >> spend cost >> box_all vs)
call_rises words cost vs =
    bind_rises _ _ (bind_rises _ _ (bind_rises take_one _ take_one_rises (λ u. rises anywhere _ (stack_lasts words))) (λ u. rises anywhere _ (spend_lasts cost))) (λ u. rises anywhere _ (box_lasts vs))

pub enters_grow : (graphs : List FlowGraph) (tail : Bool) (o : Option (Found × ℕ)) (closed vs : Vals) (a : Activation) (ws : List Waiting) (s : State) → Grows s (enters graphs tail o closed vs a ws s).state
enters_grow graphs tail (Some f) closed vs a ws s =
    let b = activation f.0 f.1 tail vs (suc s.taken) a.force in
    after_grows (take_one >> stack_at b.force.words >> spend (length vs + f.0.text.size) >> box_all vs) s b ws _ (call_rises b.force.words (length vs + f.0.text.size) vs) (λ u t. grows_on (frame_grows t _) (begins_grows f.0.function b ws _))
enters_grow graphs tail None closed vs a [] s = grows_same s
enters_grow graphs tail None closed vs a (Caller t frame caller ∷ ws) s =
    returns_to_grows (node_of (slice_get graphs caller.graph) caller) true (nil ∷ []) caller ws s
enters_grow graphs tail None closed vs a (Landing n c at f ∷ ws) s = grows_same s
enters_grow graphs tail None closed vs a (Tagged n tags f ∷ ws) s = grows_same s
enters_grow graphs tail None closed vs a (Guarding cleanup f ∷ ws) s = grows_same s
enters_grow graphs tail None closed vs a (Binding x old f ∷ ws) s = grows_same s
enters_grow graphs tail None closed vs a (Keeping us f ∷ ws) s = grows_same s
enters_grow graphs tail None closed vs a (Giving us f ∷ ws) s = grows_same s
enters_grow graphs tail None closed vs a (Going_on e f ∷ ws) s = grows_same s

pub returns_grow : (graphs : List FlowGraph) (vs : Vals) (a : Activation) (ws : List Waiting) (s : State) → Grows s (returns graphs vs a ws s).state
returns_grow graphs vs a [] s = after_grows (box_all vs) s a [] _ (rises anywhere _ (box_lasts vs)) (λ u t. frame_grows t [])
returns_grow graphs vs a (Caller tail frame caller ∷ ws) s =
    grows_on (frame_grows s frame) (returns_to_grows (node_of (slice_get graphs caller.graph) caller) tail vs caller ws _)
returns_grow graphs vs a (Landing n c at f ∷ ws) s = grows_same s
returns_grow graphs vs a (Tagged n tags f ∷ ws) s = grows_same s
returns_grow graphs vs a (Guarding cleanup f ∷ ws) s = grows_same s
returns_grow graphs vs a (Binding x old f ∷ ws) s = grows_same s
returns_grow graphs vs a (Keeping us f ∷ ws) s = grows_same s
returns_grow graphs vs a (Giving us f ∷ ws) s = grows_same s
returns_grow graphs vs a (Going_on e f ∷ ws) s = grows_same s

-- ---- forms

pub begins_at_grows : (symbols : List Symbol) (n nodes : ℕ) (o : Option ℕ) (a : Activation) (s : State) → Grows s (begins_at symbols n nodes o a s).state
begins_at_grows symbols n nodes None a s = grows_same s
begins_at_grows symbols n nodes (Some block) a s =
    let b = form_activation symbols n nodes block s.taken in
    after_grows (begin nodes >> stack_at b.force.words) s b [] _ (rises anywhere _ (then_lasts (begin_lasts nodes) (stack_lasts b.force.words))) (λ u t. frame_grows t [])

pub begins_form_grows : (symbols : List Symbol) (n : ℕ) (o : Option FlowGraph) (v : Val) (a : Activation) (s : State) → Grows s (begins_form symbols n o v a s).state
begins_form_grows symbols n None v a s = grows_same s
begins_form_grows symbols n (Some g) v a s = begins_at_grows symbols n g.size (entry_of_code (named g.function g.code)) a s

-- ---- steps

module _ (symbols : List Symbol) (graphs : List FlowGraph) where
  pub runs_in_grows : (o : Option FlowGraph) (a : Activation) (ws : List Waiting) (s : State) → Grows s (runs_in symbols graphs o a ws s).state
  runs_in_grows None a ws s = grows_same s
  runs_in_grows (Some g) a ws s = at_node_grows g (first_function graphs a.graph) (node_at g a.block a.index) a ws s

  pub step_by_grows : (c : Control) (a : Activation) (ws : List Waiting) (s : State) → Grows s (step_by symbols graphs c a ws s).state
  step_by_grows Going a ws s = runs_in_grows (slice_get graphs a.graph) a ws s
  step_by_grows (Calling tail k closed vs entry) a ws s = enters_grow graphs tail (at_entry (function_at 0 graphs k) entry) closed vs a ws s
  step_by_grows (Returning vs) a ws s = returns_grow graphs vs a ws s
  step_by_grows (Leaving e) a ws s = leave_on_grows e a ws s
  step_by_grows (Stopped x p) a ws s = grows_same s
  step_by_grows (Next n v) a ws s = begins_form_grows symbols n (slice_get graphs n) v a s
  step_by_grows (Over v) a ws s = grows_same s

-- after a step no less has been written, counted and taken
pub step_grows : (symbols : List Symbol) (graphs : List FlowGraph) (m : Machine) → Grows m.state (step symbols graphs m).state
step_grows symbols graphs m = step_by_grows symbols graphs m.control m.here m.waiting m.state
