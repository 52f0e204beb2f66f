-- A node does the same where its operands hold the same values, also under other continuations.
use Rattle.std.proofs.Common.{◌≡◌, ◌≢◌, ◌⊎◌, inl, inr, refl, ap, sym, ◌∙◌, ℕ, suc, ◌+◌, Bool, true, false, ◌||◌, ◌==◌, if◌then◌else◌, eq-eqb, ne_eqb, List, [], ◌∷◌, ◌++◌, length, map, Option, None}
use Rattle.std.specs.Prelude.{slice_get}
use Rattle.std.proofs.lemmas.Bool.{cases_eq}
use Rattle.lisp_base.specs.declared.values.Val.TheVariants.{Sym}
use Rattle.core_form.specs.State.{State, first_of_values}
use Rattle.core_form.specs.Effect.{Effect, ◌>>=◌, ◌>>◌, pure, new_entry, stack_at, hold}
use Rattle.core_form.specs.Force.{Vals, Force, is_true, deeper, keeping}
use Rattle.core_form.specs.Primitives.{global_function}
use Rattle.core_form.specs.Step.{with_catch, designated, not_too_many, spread, throw}
use Rattle.icr_graph.specs.declared.nodes.Operation.{Operation}
use Rattle.icr_graph.specs.declared.nodes.Operation.TheVariants as operation
use Rattle.icr_graph.specs.declared.nodes.NodeKind.{NodeKind}
use Rattle.icr_graph.specs.declared.nodes.NodeKind.TheVariants as kind
use Rattle.icr_graph.specs.declared.nodes.Node.{Node}
use Rattle.icr_graph.specs.declared.nodes.Extent.{Extent}
use Rattle.icr_graph.specs.declared.nodes.Extent.TheVariants as extent
use Rattle.icr_graph.specs.declared.nodes.Leaving.{Leaving as Way}
use Rattle.icr_graph.specs.declared.nodes.Leaving.TheVariants as way
use Rattle.icr_graph.specs.declared.parts.Assertion.{Assertion}
use Rattle.icr_graph.specs.Lists.{has_number, renumber, renumbered}
use Rattle.icr_graph.specs.Kinds.{operands_of, extent_operands, leaving_operands, taking as taking_operands, extent_taking, leaving_taking}
use Rattle.icr_graph.specs.Plain.{FlowGraph, nodes_in, blocks_after}
use Rattle.graph_meaning.specs.Machine.{Delivered, without_all, values_at, value_at, Activation, Waiting, Landing, Binding, Keeping, Returning, after}
use Rattle.graph_meaning.specs.Reading.{assertions_on, lambda_of, variable_left}
use Rattle.graph_meaning.specs.Effects.{test_all, test_operands, bind, assign, on_variable, box_before, operate}
use Rattle.graph_meaning.specs.Extents.{rebind, opened, open_extent, guard, leave_extent, goes_on, leave_by}
use Rattle.graph_meaning.specs.Running.{gives, branches, first_values, all_values, calls, calls_known, others, closed_at, operates, combines, acts}

-- these continuations hold the same values in both
abbrev pub Agrees : (d d' : Delivered) → List ℕ → Type 0
Agrees d d' ks = (j : ℕ) → has_number j ks ≡ true → values_at d j ≡ values_at d' j

or_true : (t : Bool) → (t || true) ≡ true
or_true true = refl
or_true false = refl

pub has_first : (k : ℕ) (ks : List ℕ) → has_number k (k ∷ ks) ≡ true
has_first k ks = rw (eq-eqb k k refl) refl

pub has_later : (j k : ℕ) (ks : List ℕ) → has_number j ks ≡ true → has_number j (k ∷ ks) ≡ true
has_later j k ks h = rw h (or_true (k == j))

module _ (d d' : Delivered) where
  pub first_agrees : (k : ℕ) (ks : List ℕ) → Agrees d d' (k ∷ ks) → values_at d k ≡ values_at d' k
  first_agrees k ks h = h k (has_first k ks)

  pub rest_agrees : (k : ℕ) (ks : List ℕ) → Agrees d d' (k ∷ ks) → Agrees d d' ks
  rest_agrees k ks h j has = h j (has_later j k ks has)

  pub first_same : (ks : List ℕ) → Agrees d d' ks → first_values d ks ≡ first_values d' ks
  first_same [] h = refl
  first_same (k ∷ ks) h =
      ap (λ (vs : Vals). first_of_values vs ∷ first_values d ks) (first_agrees k ks h) ∙ ap (λ (vs : Vals). value_at d' k ∷ vs) (first_same ks (rest_agrees k ks h))

  pub all_same : (ks : List ℕ) → Agrees d d' ks → all_values d ks ≡ all_values d' ks
  all_same [] h = refl
  all_same (k ∷ ks) h =
      ap (λ (vs : Vals). vs ++ all_values d ks) (first_agrees k ks h) ∙ ap (λ (vs : Vals). values_at d' k ++ vs) (all_same ks (rest_agrees k ks h))

  closed_same : (ks : List ℕ) → Agrees d d' ks → closed_at d ks ≡ closed_at d' ks
  closed_same [] h = refl
  closed_same (k ∷ ks) h = first_agrees k ks h

  module _ (g : FlowGraph) (start : ℕ) (nd : Node) (a : Activation) (ws : List Waiting) where
    operates_agree : (ks : List ℕ) → Agrees d d' ks → (op : Operation) (s : State) → operates nd d ks a ws op s ≡ operates nd d' ks a ws op s
    operates_agree ks h op s =
        ap (λ (vs : Vals). gives nd a ws (operate a.force nd.place op vs (all_values d ks)) s) (first_same ks h)
        ∙ ap (λ (vs : Vals). gives nd a ws (operate a.force nd.place op (first_values d' ks) vs) s) (all_same ks h)

    combines_agree : (ks : List ℕ) → Agrees d d' ks → (op : Operation) (s : State) → combines g start nd d ks a ws op s ≡ combines g start nd d' ks a ws op s
    combines_agree ks h (operation.CallGlobal name tail) s =
        ap (λ (vs : Vals). after a ws (λ f. calls nd tail vs (first_of_values f) a ws) (global_function a.force nd.place name s)) (first_same ks h)
    combines_agree ks h (operation.Funcall tail) s =
        ap (λ (vs : Vals). after a ws (λ f. calls nd tail (others vs) f a ws) (designated a.force nd.place (first_of_values vs) s)) (first_same ks h)
    combines_agree ks h (operation.Apply tail) s =
        ap (λ (vs : Vals). after a ws (λ f t. after a ws (λ us. calls nd tail us f a ws) (spread a.force nd.place (others vs) t)) (designated a.force nd.place (first_of_values vs) s)) (first_same ks h)
    combines_agree ks h (operation.CallKnown f entry tail) s =
        ap (λ (vs : Vals). calls_known nd tail start (lambda_of (g.function f)) entry vs (others (first_values d ks)) a ws s) (closed_same ks h)
        ∙ ap (λ (vs : Vals). calls_known nd tail start (lambda_of (g.function f)) entry (closed_at d' ks) (others vs) a ws s) (first_same ks h)
    combines_agree ks h (operation.Primitive q) s = operates_agree ks h (operation.Primitive q) s
    combines_agree ks h (operation.Is t) s = operates_agree ks h (operation.Is t) s
    combines_agree ks h (operation.SetGlobal name) s = operates_agree ks h (operation.SetGlobal name) s
    combines_agree ks h (operation.SetFunction name) s = operates_agree ks h (operation.SetFunction name) s
    combines_agree ks h operation.Values s = operates_agree ks h operation.Values s
    combines_agree ks h operation.Pass s = operates_agree ks h operation.Pass s

    opens_agree : (x : Extent) → Agrees d d' (extent_operands x) → (s : State) → open_extent g nd d a ws x s ≡ open_extent g nd d' a ws x s
    opens_agree (extent.Named x land) h s = refl
    opens_agree (extent.Tags x tags) h s = refl
    opens_agree (extent.Catching tag land) h s =
        ap (λ (vs : Vals). after a ws (λ (f : ℕ × Force). opened a ws f.1 (Landing f.0 true (record { block = land; cont = nd.cont; charges = nd.charges }) a.force)) ((new_entry >>= (λ n. let f = with_catch (first_of_values vs) n a.force in stack_at f.words >> pure (n, f))) s)) (first_agrees tag [] h)
    opens_agree (extent.Guarded cleanup) h s = refl
    opens_agree (extent.Special x value) h s =
        ap (λ (vs : Vals). after a ws (λ old. opened a ws (deeper 8 a.force) (Binding x old a.force)) (rebind (deeper 8 a.force) x (first_of_values vs) s)) (first_agrees value [] h)
    opens_agree (extent.Keep values) h s =
        ap (λ (vs : Vals). after a ws (λ u. opened a ws (keeping (length vs) a.force) (Keeping vs a.force)) (hold (a.force.kept + length vs) s)) (first_agrees values [] h)

    leaves_agree : (entry : Option ℕ) (w : Way) → Agrees d d' (leaving_operands w) → (s : State) → leave_by g nd d entry a ws w s ≡ leave_by g nd d' entry a ws w s
    leaves_agree entry way.Close h s = refl
    leaves_agree entry (way.Guard values) h s = ap (λ (vs : Vals). guard vs a ws s) (first_agrees values [] h)
    leaves_agree entry way.Resume h s = refl
    leaves_agree entry way.Release h s = refl
    leaves_agree entry (way.ReturnFrom name values) h s =
        ap (λ (vs : Vals). after a ws (goes_on a ws) (leave_extent a.force nd.place (Sym name) None vs (variable_left g entry) s)) (first_agrees values [] h)
    leaves_agree entry (way.Go tag name) h s = refl
    leaves_agree entry (way.Throw tag values) h s =
        ap (λ (vs : Vals). after a ws (goes_on a ws) (throw a.force nd.place (first_of_values vs) (values_at d values) s)) (first_agrees tag (values ∷ []) h)
        ∙ ap (λ (vs : Vals). after a ws (goes_on a ws) (throw a.force nd.place (value_at d' tag) vs s)) (first_agrees values [] (rest_agrees tag (values ∷ []) h))

    pub acts_agree : (k : NodeKind) → Agrees d d' (operands_of k) → (s : State) → acts g start nd d a ws k s ≡ acts g start nd d' a ws k s
    acts_agree (kind.Ref l) h s = refl
    acts_agree (kind.Set x value) h s =
        ap (λ (vs : Vals). gives nd a ws (on_variable (g.variable x) (first_of_values vs) (λ y. assign y (first_of_values vs))) s) (first_agrees value [] h)
    acts_agree (kind.If test) h s =
        ap (λ (vs : Vals). branches (is_true (first_of_values vs)) (slice_get (nodes_in g a.block) (suc a.index)) (blocks_after g a.block) a ws s) (first_agrees test [] h)
    acts_agree (kind.Combination op ks) h s = combines_agree ks h op s
    acts_agree (kind.MvCombination f ks tail) h s =
        ap (λ (us : Vals). after a ws (λ v. calls nd tail us v a ws) ((not_too_many a.force nd.place us >> designated a.force nd.place (value_at d f)) s)) (all_same ks (rest_agrees f ks h))
        ∙ ap (λ (vs : Vals). after a ws (λ v. calls nd tail (all_values d' ks) v a ws) ((not_too_many a.force nd.place (all_values d' ks) >> designated a.force nd.place (first_of_values vs)) s)) (first_agrees f ks h)
    acts_agree (kind.Bind x value) h s =
        ap (λ (vs : Vals). gives nd a ws (on_variable (g.variable x) (first_of_values vs) (λ y. bind y (first_of_values vs))) s) (first_agrees value [] h)
    acts_agree (kind.Return value) h s = ap (λ (vs : Vals). record { control = Returning vs; here = a; waiting = ws; state = s }) (first_agrees value [] h)
    acts_agree (kind.Entry x exits) h s = opens_agree x h s
    acts_agree (kind.Exit w entry) h s = leaves_agree entry w h s

-- ---- what is asserted

module _ (g g' : FlowGraph) (f : Force) (d d' : Delivered) (other : ℕ → ℕ) where
  -- each continuation has the assertions and the values of another
  abbrev pub Passes : List ℕ → Type 0
  Passes ks = (j : ℕ) → has_number j ks ≡ true → (assertions_on (g.cont j) ≡ assertions_on (g'.cont (other j))) × (values_at d j ≡ values_at d' (other j))

  pub tests_pass : (ks : List ℕ) → Passes ks → test_operands g f d ks ≡ test_operands g' f d' (map other ks)
  unfolding test_operands
  tests_pass [] h = refl
  tests_pass (k ∷ ks) h =
      let first = h k (has_first k ks) in
      ap (λ (ts : List Assertion). test_all f ts (value_at d k) >> test_operands g f d ks) first.0
      ∙ (ap (λ (vs : Vals). test_all f (assertions_on (g'.cont (other k))) (first_of_values vs) >> test_operands g f d ks) first.1
      ∙ ap (λ (m : Effect (Unit {0})). test_all f (assertions_on (g'.cont (other k))) (value_at d' (other k)) >> m) (tests_pass ks (λ j has. h j (has_later j k ks has))))

-- ---- a node that takes another continuation

module _ (old new : ℕ) (d : Delivered) where
  -- what the continuations hold, with the new one in the place of the old
  abbrev pub seen_through : Delivered
  seen_through j = d (renumber old new j)

  pub first_renamed : (ks : List ℕ) → first_values d (renumbered old new ks) ≡ first_values seen_through ks
  first_renamed [] = refl
  first_renamed (k ∷ ks) = ap (λ (vs : Vals). value_at d (renumber old new k) ∷ vs) (first_renamed ks)

  all_renamed : (ks : List ℕ) → all_values d (renumbered old new ks) ≡ all_values seen_through ks
  all_renamed [] = refl
  all_renamed (k ∷ ks) = ap (λ (vs : Vals). values_at d (renumber old new k) ++ vs) (all_renamed ks)

  closed_renamed : (ks : List ℕ) → closed_at d (renumbered old new ks) ≡ closed_at seen_through ks
  closed_renamed [] = refl
  closed_renamed (k ∷ ks) = refl

  module _ (g : FlowGraph) (start : ℕ) (nd : Node) (a : Activation) (ws : List Waiting) where
    operates_renamed : (ks : List ℕ) (op : Operation) (s : State) → operates nd d (renumbered old new ks) a ws op s ≡ operates nd seen_through ks a ws op s
    operates_renamed ks op s =
        ap (λ (vs : Vals). gives nd a ws (operate a.force nd.place op vs (all_values d (renumbered old new ks))) s) (first_renamed ks)
        ∙ ap (λ (vs : Vals). gives nd a ws (operate a.force nd.place op (first_values seen_through ks) vs) s) (all_renamed ks)

    combines_renamed : (ks : List ℕ) (op : Operation) (s : State) → combines g start nd d (renumbered old new ks) a ws op s ≡ combines g start nd seen_through ks a ws op s
    combines_renamed ks (operation.CallGlobal name tail) s =
        ap (λ (vs : Vals). after a ws (λ f. calls nd tail vs (first_of_values f) a ws) (global_function a.force nd.place name s)) (first_renamed ks)
    combines_renamed ks (operation.Funcall tail) s =
        ap (λ (vs : Vals). after a ws (λ f. calls nd tail (others vs) f a ws) (designated a.force nd.place (first_of_values vs) s)) (first_renamed ks)
    combines_renamed ks (operation.Apply tail) s =
        ap (λ (vs : Vals). after a ws (λ f t. after a ws (λ us. calls nd tail us f a ws) (spread a.force nd.place (others vs) t)) (designated a.force nd.place (first_of_values vs) s)) (first_renamed ks)
    combines_renamed ks (operation.CallKnown f entry tail) s =
        ap (λ (vs : Vals). calls_known nd tail start (lambda_of (g.function f)) entry vs (others (first_values d (renumbered old new ks))) a ws s) (closed_renamed ks)
        ∙ ap (λ (vs : Vals). calls_known nd tail start (lambda_of (g.function f)) entry (closed_at seen_through ks) (others vs) a ws s) (first_renamed ks)
    combines_renamed ks (operation.Primitive q) s = operates_renamed ks (operation.Primitive q) s
    combines_renamed ks (operation.Is t) s = operates_renamed ks (operation.Is t) s
    combines_renamed ks (operation.SetGlobal name) s = operates_renamed ks (operation.SetGlobal name) s
    combines_renamed ks (operation.SetFunction name) s = operates_renamed ks (operation.SetFunction name) s
    combines_renamed ks operation.Values s = operates_renamed ks operation.Values s
    combines_renamed ks operation.Pass s = operates_renamed ks operation.Pass s

    opens_renamed : (x : Extent) (s : State) → open_extent g nd d a ws (extent_taking old new x) s ≡ open_extent g nd seen_through a ws x s
    opens_renamed (extent.Named x land) s = refl
    opens_renamed (extent.Tags x tags) s = refl
    opens_renamed (extent.Catching tag land) s = refl
    opens_renamed (extent.Guarded cleanup) s = refl
    opens_renamed (extent.Special x value) s = refl
    opens_renamed (extent.Keep values) s = refl

    leaves_renamed : (entry : Option ℕ) (w : Way) (s : State) → leave_by g nd d entry a ws (leaving_taking old new w) s ≡ leave_by g nd seen_through entry a ws w s
    leaves_renamed entry way.Close s = refl
    leaves_renamed entry (way.Guard values) s = refl
    leaves_renamed entry way.Resume s = refl
    leaves_renamed entry way.Release s = refl
    leaves_renamed entry (way.ReturnFrom name values) s = refl
    leaves_renamed entry (way.Go tag name) s = refl
    leaves_renamed entry (way.Throw tag values) s = refl

    pub acts_renamed : (k : NodeKind) (s : State) → acts g start nd d a ws (taking_operands old new k) s ≡ acts g start nd seen_through a ws k s
    acts_renamed (kind.Ref l) s = refl
    acts_renamed (kind.Set x value) s = refl
    acts_renamed (kind.If test) s = refl
    acts_renamed (kind.Combination op ks) s = combines_renamed ks op s
    acts_renamed (kind.MvCombination f ks tail) s =
        ap (λ (us : Vals). after a ws (λ v. calls nd tail us v a ws) ((not_too_many a.force nd.place us >> designated a.force nd.place (value_at d (renumber old new f))) s)) (all_renamed ks)
    acts_renamed (kind.Bind x value) s = refl
    acts_renamed (kind.Return value) s = refl
    acts_renamed (kind.Entry x exits) s = opens_renamed x s
    acts_renamed (kind.Exit w entry) s = leaves_renamed entry w s

  -- what is boxed before the tests
  pub boxes_renamed : (k : NodeKind) (vs : Vals) → box_before k vs ≡ box_before (taking_operands old new k) vs
  unfolding box_before
  boxes_renamed (kind.Ref l) vs = refl
  boxes_renamed (kind.Set x value) vs = refl
  boxes_renamed (kind.If test) vs = refl
  boxes_renamed (kind.Combination (operation.Primitive q) ks) vs = refl
  boxes_renamed (kind.Combination (operation.Is t) ks) vs = refl
  boxes_renamed (kind.Combination (operation.SetGlobal name) ks) vs = refl
  boxes_renamed (kind.Combination (operation.SetFunction name) ks) vs = refl
  boxes_renamed (kind.Combination operation.Values ks) vs = refl
  boxes_renamed (kind.Combination operation.Pass ks) vs = refl
  boxes_renamed (kind.Combination (operation.CallGlobal name tail) ks) vs = refl
  boxes_renamed (kind.Combination (operation.Funcall tail) ks) vs = refl
  boxes_renamed (kind.Combination (operation.Apply tail) ks) vs = refl
  boxes_renamed (kind.Combination (operation.CallKnown f entry tail) ks) vs = refl
  boxes_renamed (kind.MvCombination f ks tail) vs = refl
  boxes_renamed (kind.Bind x value) vs = refl
  boxes_renamed (kind.Return value) vs = refl
  boxes_renamed (kind.Entry x exits) vs = refl
  boxes_renamed (kind.Exit w entry) vs = refl

-- ---- the kind of a node that takes another continuation

module _ (old new : ℕ) where
  pub operands_taking : (k : NodeKind) → operands_of (taking_operands old new k) ≡ renumbered old new (operands_of k)
  operands_taking (kind.Ref l) = refl
  operands_taking (kind.Set x value) = refl
  operands_taking (kind.If test) = refl
  operands_taking (kind.Combination op ks) = refl
  operands_taking (kind.MvCombination f ks tail) = refl
  operands_taking (kind.Bind x value) = refl
  operands_taking (kind.Return value) = refl
  operands_taking (kind.Entry x exits) = extent_operands_taking x
    where
      extent_operands_taking : (x : Extent) → extent_operands (extent_taking old new x) ≡ renumbered old new (extent_operands x)
      extent_operands_taking (extent.Named v land) = refl
      extent_operands_taking (extent.Tags v tags) = refl
      extent_operands_taking (extent.Catching tag land) = refl
      extent_operands_taking (extent.Guarded cleanup) = refl
      extent_operands_taking (extent.Special s value) = refl
      extent_operands_taking (extent.Keep values) = refl
  operands_taking (kind.Exit w entry) = leaving_operands_taking w
    where
      leaving_operands_taking : (w : Way) → leaving_operands (leaving_taking old new w) ≡ renumbered old new (leaving_operands w)
      leaving_operands_taking way.Close = refl
      leaving_operands_taking (way.Guard values) = refl
      leaving_operands_taking way.Resume = refl
      leaving_operands_taking way.Release = refl
      leaving_operands_taking (way.ReturnFrom name values) = refl
      leaving_operands_taking (way.Go tag name) = refl
      leaving_operands_taking (way.Throw tag values) = refl

-- ---- what is left once operands are taken

pub left_over : (ks : List ℕ) (d : Delivered) (j : ℕ) → without_all ks d j ≡ (if has_number j ks then None else d j)
left_over [] d j = refl
left_over (k ∷ ks) d j = by_case (cases_eq j k) (left_over ks d j)
  where
    by_case : (j ≡ k) ⊎ (j ≢ k) → without_all ks d j ≡ (if has_number j ks then None else d j) → without_all (k ∷ ks) d j ≡ (if has_number j (k ∷ ks) then None else d j)
    by_case (inl is) ih = rw (is, eq-eqb k k refl) refl
    by_case (inr other) ih = rw (ne_eqb j k other, ne_eqb k j (λ e. other (sym e))) ih
