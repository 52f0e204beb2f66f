-- What the two lists of graphs do between nodes: calls, returns, exits on their way and forms.
use Rattle.std.proofs.Common.{◌≡◌, ◌≢◌, ◌⊎◌, inl, inr, refl, ap, sym, subst, ◌∙◌, ℕ, zero, suc, ◌+◌, Bool, true, false, if◌then◌else◌, ◌==◌, ◌||◌, eq-eqb, List, [], ◌∷◌, length, Option, Some, None, option_map}
use Rattle.std.specs.Prelude.{slice_get}
use Rattle.std.proofs.lemmas.Bool.{cases_eq}
use Rattle.std.proofs.lemmas.Option.{same_Some}
use Rattle.lisp_base.specs.declared.values.Val.{Val}
use Rattle.lisp_base.specs.declared.values.Place.TheVariants.{File}
use Rattle.lisp_base.specs.Sort.{nil}
use Rattle.core_form.specs.State.{Symbol, Arguments, Control as No_exit, State, Exit}
use Rattle.core_form.specs.Effect.{◌>>=◌, ◌>>◌, pure, stack_at, hold, spend, begin, box_all}
use Rattle.core_form.specs.Force.{Vals, Force, raise}
use Rattle.icr_graph.specs.declared.nodes.Node.{Node}
use Rattle.icr_graph.specs.declared.nodes.Tag.{Tag}
use Rattle.icr_graph.specs.declared.parts.Function.{Function}
use Rattle.icr_graph.specs.Lists.{has_number}
use Rattle.icr_graph.specs.Plain.{FlowGraph}
use Rattle.graph_meaning.specs.Machine.{Activation, Arrival, Waiting, Caller, Landing, Tagged, Guarding, Binding, Keeping, Giving, Going_on, Going, Returning, Leaving, Stopped, Next, Over, Machine, after}
use Rattle.graph_meaning.specs.Reading.{entry_of, entry_number, entry_of_code, named, Found, function_at, first_function, takes}
use Rattle.graph_meaning.specs.Effects.{delivered_by}
use Rattle.graph_meaning.specs.Extents.{take_one, spent, block_of_tag, block_for, at_tag, lands, leave_on}
use Rattle.graph_meaning.specs.Running.{node_of, returns_to, force_within, activation, frame_of, begins, at_entry, enters, returns, form_activation, begins_at, begins_form}
use Rattle.graph_edits.proofs.Alike.{Edit, edited, of_kind, activation_at, Stands, elsewhere, within, Pauses, elsewhere_at, within_at, Arrives, TagsArrive, Waits, no_more, same, called, Alike, alike, rests, stands, goes_on, stands_forced, stands_holding, comes_at, after_alike, either_alike}

-- ---- two lists

-- a function that a call finds in both lists
pub data FoundAlike (E : Edit) : Option Found → Option Found → Type 0 where
  not_found : FoundAlike E None None
  found_elsewhere : (f : Found) → f.graph ≢ E.number → FoundAlike E (Some f) (Some f)
  found_within : (f : Function) (j : ℕ) → E.text.function j ≡ Some f →
      FoundAlike E (Some (record { graph = E.number; text = E.text; function = f })) (Some (record { graph = E.number; text = edited E; function = f }))

-- lists that differ in the edited graph alone
pub record Differ (E : Edit) (graphs graphs' : List FlowGraph) : Type 0 where
  pub before : slice_get graphs E.number ≡ Some E.text
  pub after : slice_get graphs' E.number ≡ Some (edited E)
  pub others : (c : ℕ) → c ≢ E.number → slice_get graphs c ≡ slice_get graphs' c
  pub starts : (c : ℕ) → first_function graphs c ≡ first_function graphs' c
  pub found : (k : ℕ) → FoundAlike E (function_at 0 graphs k) (function_at 0 graphs' k)

or_true : (t : Bool) → (t || true) ≡ true
or_true true = refl
or_true false = refl

-- an element of a list by its index is one of the list
pub got_has : (bs : List ℕ) (i b : ℕ) → slice_get bs i ≡ Some b → has_number b bs ≡ true
got_has [] i b e = cc
got_has (x ∷ xs) zero b e = first x b xs e
  where
    first : (x b : ℕ) (xs : List ℕ) → Some x ≡ Some b → has_number b (x ∷ xs) ≡ true
    first x b xs e = rw (eq-eqb x b (same_Some x b e)) refl
got_has (x ∷ xs) (suc i) b e = rest (x == b) (got_has xs i b e)
  where
    rest : (t : Bool) → has_number b xs ≡ true → (t || has_number b xs) ≡ true
    rest t h = rw h (or_true t)

module _ (E : Edit) where
  -- ---- exits

  tag_arrives : (c t : ℕ) (tags : List Tag) → TagsArrive E c tags → (b : ℕ) → block_of_tag t tags ≡ Some b → Arrives E c b
  tag_arrives c t [] to b e = cc
  tag_arrives c t (u ∷ us) to b e = by_case (t == u.number) e (tag_arrives c t us to.1 b)
    where
      by_case : (x : Bool) → (if x then Some u.block else block_of_tag t us) ≡ Some b → (block_of_tag t us ≡ Some b → Arrives E c b) → Arrives E c b
      by_case true q later = subst (λ (y : ℕ). Arrives E c y) (cc) to.0
      by_case false q later = later q

  block_arrives : (c : ℕ) (o : Option ℕ) (tags : List Tag) → TagsArrive E c tags → (b : ℕ) → block_for o tags ≡ Some b → Arrives E c b
  block_arrives c None tags to b e = cc
  block_arrives c (Some t) tags to b e = tag_arrives c t tags to b e

  module _ {a a' : Activation} (st : Stands E a a') where
    on_its_way : {ws ws' : List Waiting} → Waits E a.graph ws ws' → (e : Exit) (s : State) →
        Alike E (record { control = Leaving e; here = a; waiting = ws; state = s }) (record { control = Leaving e; here = a'; waiting = ws'; state = s })
    on_its_way w e s = alike (Leaving e) tt s st w

    lands_alike : {ws ws' : List Waiting} → Waits E a.graph ws ws' → (e : Exit) (at : Arrival) (f : Force) → Arrives E a.graph at.block → (s : State) →
        Alike E (lands e at f a ws s) (lands e at f a' ws' s)
    lands_alike w e at f to s =
        after_alike E _ _ (delivered_by at.charges e.values s) st w
        (λ vs t. alike Going tt t (stands_holding E (comes_at E (stands_forced E st f) at.block to) at.cont vs) w)

    tag_alike : {ws ws' : List Waiting} → Waits E a.graph ws ws' → (e : Exit) (o : Option ℕ) (n : ℕ) (tags : List Tag) (f : Force) → TagsArrive E a.graph tags →
        ((b : ℕ) → o ≡ Some b → Arrives E a.graph b) → (s : State) → Alike E (at_tag e o n tags f a ws s) (at_tag e o n tags f a' ws' s)
    tag_alike w e None n tags f lies to s = alike (Stopped (No_exit nil) (File 0 0)) tt s st w
    tag_alike w e (Some b) n tags f lies to s = alike Going tt s (comes_at E (stands_forced E st _) b (to b refl)) (same (Tagged n tags f) lies w)

    pub leave_on_alike : {ws ws' : List Waiting} → Waits E a.graph ws ws' → (e : Exit) (s : State) → Alike E (leave_on e a ws s) (leave_on e a' ws' s)
    leave_on_alike no_more e s = on_its_way no_more e s
    leave_on_alike (called tail frame y y' q w) e s = alike (Leaving e) tt _ (stands E q) w
    leave_on_alike (same (Caller tail frame y) l w) e s = absurd l
    leave_on_alike (same (Landing n c at f) l w) e s = either_alike E (e.entry == n) _ _ _ _ (lands_alike w e at f l s) (on_its_way w e _)
    leave_on_alike (same (Tagged n tags f) l w) e s =
        either_alike E (e.entry == n) _ _ _ _ (tag_alike w e (block_for e.tag tags) n tags f l (block_arrives a.graph e.tag tags l) s) (on_its_way w e s)
    leave_on_alike (same (Guarding cleanup f) l w) e s =
        after_alike E _ _ (hold (f.kept + length e.values) (spent 1 s)) st w
        (λ u t. alike Going tt t (comes_at E (stands_forced E st _) cleanup l) (same (Going_on e f) tt w))
    leave_on_alike (same (Binding y v f) l w) e s = on_its_way w e _
    leave_on_alike (same (Keeping vs f) l w) e s = on_its_way w e s
    leave_on_alike (same (Giving vs f) l w) e s = on_its_way w e s
    leave_on_alike (same (Going_on y f) l w) e s = on_its_way w e s

module _ (E : Edit) (graphs graphs' : List FlowGraph) (lists : Differ E graphs graphs') where
  -- ---- values that come back to a call

  at_same_node : (a : Activation) → a.graph ≢ E.number → {ws ws' : List Waiting} → Waits E a.graph ws ws' → (o : Option Node) (tail : Bool) (vs : Vals) (s : State) →
      Alike E (returns_to o tail vs a ws s) (returns_to o tail vs a ws' s)
  at_same_node a h w None tail vs s = alike Going tt s (elsewhere a h) w
  at_same_node a h w (Some nd) tail vs s =
      after_alike E _ _ ((((if tail then pure tt else box_all vs) >> pure vs) >>= delivered_by nd.charges) s) (elsewhere a h) w
      (λ us t. alike Going tt t (goes_on E (elsewhere_at a h) nd.cont us) w)

  at_node : {a a' : Activation} (p : Pauses E a a') {ws ws' : List Waiting} → Waits E a.graph ws ws' → (nd : Node) (k x : _) (tail : Bool) (vs : Vals) (s : State) →
      Alike E (returns_to (Some nd) tail vs a ws s) (returns_to (Some (of_kind k x nd)) tail vs a' ws' s)
  at_node p w nd k x tail vs s =
      after_alike E _ _ ((((if tail then pure tt else box_all vs) >> pure vs) >>= delivered_by nd.charges) s) (stands E p) w
      (λ us t. alike Going tt t (goes_on E p nd.cont us) w)

  pub comes_back : {a a' : Activation} (p : Pauses E a a') {ws ws' : List Waiting} → Waits E a.graph ws ws' → (tail : Bool) (vs : Vals) (s : State) →
      Alike E (returns_to (node_of (slice_get graphs a.graph) a) tail vs a ws s) (returns_to (node_of (slice_get graphs' a'.graph) a') tail vs a' ws' s)
  comes_back (elsewhere_at a h) {ws} {ws'} w tail vs s =
      subst (λ (o : Option FlowGraph). Alike E (returns_to (node_of (slice_get graphs a.graph) a) tail vs a ws s) (returns_to (node_of o a) tail vs a ws' s)) (lists.others a.graph h)
      (at_same_node a h w (node_of (slice_get graphs a.graph) a) tail vs s)
  comes_back (within_at {b} {i} {b'} {i'} {d} {d'} us born f nd k x at at' spot next held) {ws} {ws'} w tail vs s =
      let a = activation_at E.number b i d us born f in
      let a' = activation_at E.number b' i' d' us born f in
      let p : Pauses E a a' = within_at us born f nd k x at at' spot next held in
      let old : node_of (slice_get graphs E.number) a ≡ Some nd = ap (λ (o : Option FlowGraph). node_of o a) lists.before ∙ at in
      let new : node_of (slice_get graphs' E.number) a' ≡ Some (of_kind k x nd) = ap (λ (o : Option FlowGraph). node_of o a') lists.after ∙ at' in
      subst (λ (o : Option Node). Alike E (returns_to o tail vs a ws s) (returns_to (node_of (slice_get graphs' E.number) a') tail vs a' ws' s)) (sym old)
      (subst (λ (o : Option Node). Alike E (returns_to (Some nd) tail vs a ws s) (returns_to o tail vs a' ws' s)) (sym new) (at_node p w nd k x tail vs s))

  -- ---- calls

  begins_alike : (g : Function) {a : Activation} {a' : Activation} → Stands E a a' → {ws ws' : List Waiting} → Waits E a.graph ws ws' → (s : State) → Alike E (begins g a ws s) (begins g a' ws' s)
  begins_alike g (elsewhere a h) w s =
      either_alike E (takes g (length a.arguments)) _ _ _ _ (alike Going tt s (elsewhere a h) w)
      (after_alike E {A = Unit {0}} _ _ (raise a.force (Arguments g.name (length a.arguments)) g.place s) (elsewhere a h) w (λ u t. alike Going tt t (elsewhere a h) w))
  begins_alike g (within us born f spot held) w s =
      either_alike E (takes g (length us)) _ _ _ _ (alike Going tt s (within us born f spot held) w)
      (after_alike E {A = Unit {0}} _ _ (raise f (Arguments g.name (length us)) g.place s) (within us born f spot held) w (λ u t. alike Going tt t (within us born f spot held) w))

  -- a function begins, for a call from where this is in force
  abbrev begun : (tail : Bool) → (Found × ℕ) → (closed vs : Vals) → Force → List Waiting → State → Machine
  begun tail f closed vs fc ws s =
      let b = activation f.0 f.1 tail vs (suc s.taken) fc in
      after b ws (λ u t. begins f.0.function b ws (record t { frame = frame_of f.0 closed })) ((take_one >> stack_at b.force.words >> spend (length vs + f.0.text.size) >> box_all vs) s)

  same_force : {a a' : Activation} → Pauses E a a' → a.force ≡ a'.force
  same_force (elsewhere_at a h) = refl
  same_force (within_at us born f nd k x at at' spot next held) = refl

  module _ (tail : Bool) (closed vs : Vals) (frame : List (ℕ × Val)) {a a' : Activation} (p : Pauses E a a') {ws ws' : List Waiting} (w : Waits E a.graph ws ws') (s : State) where
    abbrev around : List Waiting
    around = Caller tail frame a ∷ ws

    abbrev around' : List Waiting
    around' = Caller tail frame a' ∷ ws'

    in_both : (c : ℕ) → Waits E c around around'
    in_both c = called tail frame a a' p w

    without_one : Alike E (enters graphs tail None closed vs a around s) (enters graphs' tail None closed vs a' around' s)
    without_one = comes_back p w true (nil ∷ []) s

    from_same : (f : Found × ℕ) → Alike E (begun tail f closed vs a.force around s) (begun tail f closed vs a.force around' s) → Alike E (enters graphs tail (Some f) closed vs a around s) (enters graphs' tail (Some f) closed vs a' around' s)
    from_same f h = subst (λ (fc : Force). Alike E (begun tail f closed vs a.force around s) (begun tail f closed vs fc around' s)) (same_force p) h

    -- of a function in another graph
    begun_elsewhere : (f : Found) (b : ℕ) → f.graph ≢ E.number → Alike E (begun tail (f, b) closed vs a.force around s) (begun tail (f, b) closed vs a.force around' s)
    begun_elsewhere f b h =
        let here : Stands E (activation f b tail vs (suc s.taken) a.force) (activation f b tail vs (suc s.taken) a.force) = elsewhere (activation f b tail vs (suc s.taken) a.force) h in
        after_alike E _ _ ((take_one >> stack_at (activation f b tail vs (suc s.taken) a.force).force.words >> spend (length vs + f.text.size) >> box_all vs) s) here (in_both f.graph)
        (λ u t. begins_alike f.function here (in_both f.graph) _)

    abbrev old_one : Function → Found
    old_one g = record { graph = E.number; text = E.text; function = g }

    abbrev new_one : Function → Found
    new_one g = record { graph = E.number; text = edited E; function = g }

    -- of a function in the edited graph
    begun_within : (g : Function) (b : ℕ) → E.Spot b 0 b 0 → Alike E (begun tail (old_one g, b) closed vs a.force around s) (begun tail (new_one g, b) closed vs a.force around' s)
    begun_within g b spot =
        let here : Stands E (activation (old_one g) b tail vs (suc s.taken) a.force) (activation (new_one g) b tail vs (suc s.taken) a.force) = within vs (suc s.taken) (force_within tail E.text.size (length vs) a.force) spot E.fresh in
        after_alike E _ _ ((take_one >> stack_at (activation (old_one g) b tail vs (suc s.taken) a.force).force.words >> spend (length vs + E.text.size) >> box_all vs) s) here (in_both E.number)
        (λ u t. begins_alike g here (in_both E.number) _)

    entry_elsewhere : (f : Found) → f.graph ≢ E.number → (o : Option ℕ) → Alike E (enters graphs tail (option_map (λ b. (f, b)) o) closed vs a around s) (enters graphs' tail (option_map (λ b. (f, b)) o) closed vs a' around' s)
    entry_elsewhere f h None = without_one
    entry_elsewhere f h (Some b) = from_same (f, b) (begun_elsewhere f b h)

    entry_within : (g : Function) (o : Option ℕ) → ((b : ℕ) → o ≡ Some b → E.Spot b 0 b 0) →
        Alike E (enters graphs tail (option_map (λ b. (old_one g, b)) o) closed vs a around s) (enters graphs' tail (option_map (λ b. (new_one g, b)) o) closed vs a' around' s)
    entry_within g None to = without_one
    entry_within g (Some b) to =
        subst (λ (fc : Force). Alike E (begun tail (old_one g, b) closed vs a.force around s) (begun tail (new_one g, b) closed vs fc around' s)) (same_force p) (begun_within g b (to b refl))

    pub enters_alike : {o o' : Option Found} → FoundAlike E o o' → (entry : Option ℕ) → Alike E (enters graphs tail (at_entry o entry) closed vs a around s) (enters graphs' tail (at_entry o' entry) closed vs a' around' s)
    enters_alike not_found entry = without_one
    enters_alike (found_elsewhere f h) entry = entry_elsewhere f h (entry_of f.function entry)
    enters_alike (found_within g j is) entry = entry_within g (entry_of g entry) (λ b e. E.entered j g is b (got_has g.entries (entry_number entry) b e))

  -- ---- the end of a function

  ended_alike : (vs : Vals) {a a' : Activation} → Stands E a a' → (s : State) → Alike E (returns graphs vs a [] s) (returns graphs' vs a' [] s)
  ended_alike vs (elsewhere a h) s = after_alike E _ _ (box_all vs s) (elsewhere a h) no_more (λ u t. rests _ a a _ tt)
  ended_alike vs (within us born f spot held) s = after_alike E _ _ (box_all vs s) (within us born f spot held) no_more (λ u t. rests _ _ _ _ tt)

  pub returns_alike : (vs : Vals) {a a' : Activation} → Stands E a a' → {ws ws' : List Waiting} → Waits E a.graph ws ws' → (s : State) → Alike E (returns graphs vs a ws s) (returns graphs' vs a' ws' s)
  returns_alike vs st no_more s = ended_alike vs st s
  returns_alike vs st (called tail frame y y' q w) s = comes_back q w tail vs _
  returns_alike vs st (same (Caller tail frame y) l w) s = absurd l
  returns_alike vs st (same (Landing n c at f) l w) s = alike (Returning vs) tt s st w
  returns_alike vs st (same (Tagged n tags f) l w) s = alike (Returning vs) tt s st w
  returns_alike vs st (same (Guarding cleanup f) l w) s = alike (Returning vs) tt s st w
  returns_alike vs st (same (Binding y v f) l w) s = alike (Returning vs) tt s st w
  returns_alike vs st (same (Keeping us f) l w) s = alike (Returning vs) tt s st w
  returns_alike vs st (same (Giving us f) l w) s = alike (Returning vs) tt s st w
  returns_alike vs st (same (Going_on y f) l w) s = alike (Returning vs) tt s st w

  -- ---- forms

  module _ (symbols : List Symbol) where
    -- the code of a form begins at a block
    code_alike : (n nodes : ℕ) (o : Option ℕ) → ((b : ℕ) → o ≡ Some b → Arrives E n b) → (a a' : Activation) (s : State) → Alike E (begins_at symbols n nodes o a s) (begins_at symbols n nodes o a' s)
    code_alike n nodes None to a a' s = rests (Next (suc n) nil) a a' s tt
    code_alike n nodes (Some b) to a a' s =
        let here = form_stands (cases_eq n E.number) in
        after_alike E _ _ ((begin nodes >> stack_at (form_activation symbols n nodes b s.taken).force.words) s) here no_more (λ u t. alike Going tt _ here no_more)
      where
        form_stands : (n ≡ E.number) ⊎ (n ≢ E.number) → Stands E (form_activation symbols n nodes b s.taken) (form_activation symbols n nodes b s.taken)
        form_stands (inl is) = subst (λ (m : ℕ). Stands E (form_activation symbols m nodes b s.taken) (form_activation symbols m nodes b s.taken)) (sym is) (within [] s.taken (form_activation symbols E.number nodes b s.taken).force (to b refl is) E.fresh)
        form_stands (inr other) = elsewhere (form_activation symbols n nodes b s.taken) other

    form_elsewhere : (n : ℕ) → n ≢ E.number → (o : Option FlowGraph) (v : Val) (a a' : Activation) (s : State) → Alike E (begins_form symbols n o v a s) (begins_form symbols n o v a' s)
    form_elsewhere n h None v a a' s = rests (Over v) a a' s tt
    form_elsewhere n h (Some g) v a a' s = code_alike n g.size (entry_of_code (named g.function g.code)) (λ b e is. absurd (h is)) a a' s

    code_arrives : (o : Option ℕ) (b : ℕ) → entry_of_code (named E.text.function o) ≡ Some b → E.Spot b 0 b 0
    code_arrives None b e = cc
    code_arrives (Some j) b e = by_case (E.text.function j) refl e
      where
        by_case : (o : Option Function) → E.text.function j ≡ o → entry_of_code o ≡ Some b → E.Spot b 0 b 0
        by_case None is h = cc
        by_case (Some f) is h = E.entered j f is b (got_has f.entries (entry_number None) b h)

    form_within : (v : Val) (a a' : Activation) (s : State) → Alike E (begins_form symbols E.number (Some E.text) v a s) (begins_form symbols E.number (Some (edited E)) v a' s)
    form_within v a a' s = code_alike E.number E.text.size (entry_of_code (named E.text.function E.text.code)) (λ b e is. code_arrives E.text.code b e) a a' s

    pub form_alike : (n : ℕ) (v : Val) (a a' : Activation) (s : State) → Alike E (begins_form symbols n (slice_get graphs n) v a s) (begins_form symbols n (slice_get graphs' n) v a' s)
    form_alike n v a a' s = by_case (cases_eq n E.number)
      where
        here : Alike E (begins_form symbols E.number (slice_get graphs E.number) v a s) (begins_form symbols E.number (slice_get graphs' E.number) v a' s)
        here = rw (lists.before, lists.after) (form_within v a a' s)

        by_case : (n ≡ E.number) ⊎ (n ≢ E.number) → Alike E (begins_form symbols n (slice_get graphs n) v a s) (begins_form symbols n (slice_get graphs' n) v a' s)
        by_case (inl is) = subst (λ (m : ℕ). Alike E (begins_form symbols m (slice_get graphs m) v a s) (begins_form symbols m (slice_get graphs' m) v a' s)) (sym is) here
        by_case (inr other) =
            subst (λ (o : Option FlowGraph). Alike E (begins_form symbols n (slice_get graphs n) v a s) (begins_form symbols n o v a' s)) (lists.others n other)
            (form_elsewhere n other (slice_get graphs n) v a a' s)
