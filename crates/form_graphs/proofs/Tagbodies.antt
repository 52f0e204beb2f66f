-- TAGBODY does in its graph what it does.
use Rattle.std.proofs.Common.{◌⊎◌, inl, inr, ◌≡◌, ℕ, zero, suc, ◌+◌, ◌≤◌, ◌<◌, ◌==◌, refl, sym, ap, subst, ◌∙◌, arith, Bool, true, false, List, [], ◌∷◌, Option, Some, None}
use Rattle.std.specs.Prelude.{slice_get}
use Rattle.lisp_base.specs.declared.values.Place.{Place}
use Rattle.lisp_base.specs.declared.values.Place.TheVariants.{File}
use Rattle.lisp_base.specs.Sort.{nil}
use Rattle.core_form.specs.Tree.{Tagbody, Items, no_item, tag, step as item}
use Rattle.core_form.specs.Facts.{Facts, tagbody_number}
use Rattle.core_form.specs.State.{Symbol, Control, State, Exit}
use Rattle.core_form.specs.Effect.{Gave, ◌>>=◌, pure, change, counting, spend, leave, fail}
use Rattle.core_form.specs.Force.{Vals, Force, in_force, one}
use Rattle.core_form.specs.Step.{deliver, enter_extent, with_entry}
use Rattle.core_form.specs.Run.{Outcome, Gives, Leaves, Fails, NotYet, Run, and_then, outcome, perform, visit, stop, astray, jump, jumps, tagbody_round, ◌>>=◌ as ◌>>=ʳ◌, pure as pure_run}
use Rattle.core_form.specs.Eval.{Call, eval, steps, steps_from}
use Rattle.core_form.proofs.Steady.{Later, IsJump}
use Rattle.icr_graph.specs.declared.nodes.NodeKind.TheVariants as kind
use Rattle.icr_graph.specs.declared.nodes.Leaf.TheVariants as leaf
use Rattle.icr_graph.specs.declared.nodes.Extent.TheVariants as extent
use Rattle.icr_graph.specs.declared.nodes.Leaving.TheVariants as way
use Rattle.icr_graph.specs.declared.nodes.Tag.{Tag}
use Rattle.icr_graph.specs.declared.parts.Variable.{Variable}
use Rattle.icr_graph.specs.Plain.{FlowGraph}
use Rattle.graph_meaning.specs.Machine.{Delivered, Activation, Waiting, Tagged, Leaving, Stopped, Machine, going, with_force}
use Rattle.graph_meaning.specs.Effects.{test_operands, box_before, leaf_values}
use Rattle.graph_meaning.specs.Extents.{spent, block_of_tag, block_for, leave_on}
use Rattle.graph_meaning.specs.Running.{step}
use Rattle.form_graphs.specs.Spots.{Spot, next, first_of, Passes, none, through, Here, Stands as VariableStands}
use Rattle.form_graphs.specs.Standing.{StandsAt, ItemsStandAt, ExitsAt}
use Rattle.form_graphs.specs.Landing.{at_spot, having, passed_on, Reaches, Keeps, Comes}
use Rattle.form_graphs.proofs.Coming.{stays, reaches_then, comes_after, comes_having, keeps_same, passes_none, spent_both, spent_none}
use Rattle.form_graphs.specs.Calling.{around}
use Rattle.form_graphs.proofs.Leaves.{runs_there, leaf_comes, Does}
use Rattle.form_graphs.proofs.Exits.{and_then_both}
use Rattle.form_graphs.proofs.Extents.{entered, enters_same, ends_there, closes_there}
use Rattle.form_graphs.proofs.Cleanups.{keeps_nowhere}
use Rattle.form_graphs.proofs.Timely.{IsTimely, steps_later, from_later}

module _ (symbols : List Symbol) (graphs : List FlowGraph) (number : ℕ) (g : FlowGraph) (facts : Facts) (rank : ℕ → ℕ) (there : slice_get graphs number ≡ Some g) where
  -- A part whose values go nowhere, and then what follows.
  pub comes_next : (m : Machine) (low : ℕ) (r q : Spot) (to : Option ℕ) (l : Passes) (a : Activation) (ws : List Waiting) (o : Outcome Vals) (following : Vals → Run Vals) →
      Comes symbols graphs rank m low None r none a ws o →
      ((vs : Vals) (s : State) (d : Delivered) → Comes symbols graphs rank (going (having d (at_spot r a)) ws s) low to q l (having d a) ws (following vs s)) →
      Comes symbols graphs rank m low to q l a ws (and_then o following)
  comes_next m low r q to l a ws (Gives vs s) following (d, kept, holds, way) follows =
      comes_having symbols graphs rank m low low to q l a d ws (following vs s) (omega arith) (keeps_nowhere rank low to a.delivered d kept)
      (comes_after symbols graphs rank m (going (having d (at_spot r a)) ws s) low to q l (having d a) ws (following vs s) (subst (λ (t : State). Reaches symbols graphs m (going (having d (at_spot r a)) ws t)) (passes_none vs s) way) (follows vs s d))
  comes_next m low r q to l a ws (Leaves e s) following (d, p, f, kept, way) follows = (d, p, f, keeps_nowhere rank low to a.delivered d kept, way)
  comes_next m low r q to l a ws (Fails x p s) following came follows = came
  comes_next m low r q to l a ws (NotYet s) following came follows = came

  module _ (call : Call) (limit : ℕ) (low : ℕ) where
    -- all forms of these items do what they do
    abbrev pub ItemsDo : Items → Type 0
    ItemsDo no_item = Unit {0}
    ItemsDo (tag t name is) = ItemsDo is
    ItemsDo (item e is) = ((p r : Spot) → StandsAt g facts rank false true e 0 none low None p r → Does symbols graphs number g facts rank there call limit false true e 0 none low None p r) × ItemsDo is

    items_comes : (is : Items) (tags : List Tag) (p r : Spot) (f : Force) (a : Activation) (ws : List Waiting) (s : State) → ItemsDo is → ItemsStandAt g facts rank is tags low p r → a.graph ≡ number → a.force ≡ f →
        Comes symbols graphs rank (going (at_spot p a) ws s) low None r none a ws (steps call limit (around facts false false f) is s)
    unfolding steps pure_run ◌>>=ʳ◌
    items_comes no_item tags p r f a ws s parts (no_tags, end) at force =
        subst (λ (y : Spot). Comes symbols graphs rank (going (at_spot p a) ws s) low None y none a ws (Gives [] s)) end
        (a.delivered, keeps_same rank low None a.delivered, tt, subst (λ (t : State). Reaches symbols graphs (going (at_spot p a) ws s) (going (at_spot p a) ws t)) (sym (passes_none [] s)) (stays symbols graphs _))
    items_comes (tag t name is) [] p r f a ws s parts stands at force = elim stands [ ]
    items_comes (tag t name is) (u ∷ tags) p r f a ws s parts (b, is_tag, ends, stands) at force =
        comes_after symbols graphs rank (going (at_spot p a) ws s) (going (at_spot (first_of b) a) ws s) low None r none a ws (steps call limit (around facts false false f) is s)
        (1, ends_there symbols graphs number g facts rank there p b a ws s at ends)
        (items_comes is tags (first_of b) r f a ws s parts stands at force)
    items_comes (item e is) tags p r f a ws s parts (x, first_stands, stands) at force =
        comes_next (going (at_spot p a) ws s) low x r None none a ws (eval call limit (around facts false true f) e s) (λ vs. steps call limit (around facts false false f) is)
        (subst (λ (u : State). Comes symbols graphs rank (going (at_spot p a) ws s) low None x none a ws (eval call limit (around facts false true f) e u)) (spent_none s) (parts.0 p x first_stands f a ws s at force))
        (λ vs t d. items_comes is tags x r f (having d a) ws t parts.1 stands at force)

    -- where the code of a tag begins, and what runs from there
    abbrev pub FromTag : ℕ → Items → List Tag → Spot → Type 0
    FromTag t is tags r =
        (b : ℕ) × (block_of_tag t tags ≡ Some b) × ((f : Force) (a : Activation) (ws : List Waiting) (s : State) → a.graph ≡ number → a.force ≡ f → Comes symbols graphs rank (going (at_spot (first_of b) a) ws s) low None r none a ws (steps_from call limit (around facts false false f) t is s))

    -- a tag that isn't there: it has no block, and a jump to it ends the run
    abbrev pub NoTag : ℕ → Items → List Tag → Type 0
    NoTag t is tags = (block_of_tag t tags ≡ None) × ((f : Force) (s : State) → steps_from call limit (around facts false false f) t is s ≡ astray s)

    -- each number is one or the other
    abbrev pub TagRuns : ℕ → Items → List Tag → Spot → Type 0
    TagRuns t is tags r = FromTag t is tags r ⊎ NoTag t is tags

    tag_runs : (t : ℕ) (is : Items) (tags : List Tag) (p r : Spot) → ItemsDo is → ItemsStandAt g facts rank is tags low p r → TagRuns t is tags r
    unfolding steps_from
    tag_runs t no_item tags p r parts (no_tags, end) = inr (rw no_tags refl, λ f s. refl)
    tag_runs t (tag u name is) [] p r parts stands = elim stands [ ]
    tag_runs t (tag u name is) (v ∷ tags) p r parts (b, (same, same_name, same_block), ends, stands) = by_tag (tag_runs t is tags (first_of b) r parts stands) (t == u) refl
      where
        skipped : (t == u) ≡ false → TagRuns t is tags r → TagRuns t (tag u name is) (v ∷ tags) r
        skipped other (inl (c, found, does)) = inl (c, rw (same, other) found, λ f a ws s at force. rw other (does f a ws s at force))
        skipped other (inr (lacks, strays)) = inr (rw (same, other) lacks, λ f s. rw other (strays f s))

        by_tag : TagRuns t is tags r → (c : Bool) → (t == u) ≡ c → TagRuns t (tag u name is) (v ∷ tags) r
        by_tag later true found = inl (b, rw (same, found, same_block) refl, λ f a ws s at force. rw found (items_comes is tags (first_of b) r f a ws s parts stands at force))
        by_tag later false other = skipped other later
    tag_runs t (item e is) tags p r parts (x, first_stands, stands) = tag_runs t is tags x r parts.1 stands

    -- A run that comes to the end of a tagbody, or to an exit from it: at most so many jumps more, each of which took fuel.
    module _ (m : ℕ) (is : Items) (tags : List Tag) (pl : Place) (p r : Spot) (f : Force) (ws : List Waiting) (parts : ItemsDo is) (stands : ItemsStandAt g facts rank is tags low p r) (closes : ExitsAt g facts rank r way.Close pl) (timely : IsTimely limit call) where
      abbrev from : ℕ → Run Vals
      from t = steps_from call limit (around facts false false (with_entry m f)) t is

      abbrev inside : Activation → Activation
      inside a = with_force (with_entry m a.force) a

      abbrev waits : Activation → List Waiting
      waits a = Tagged m tags a.force ∷ ws

      -- an exit arrives at its tag
      arrives : (a : Activation) (e : Exit) (s : State) (d : Delivered) (x : Spot) (h : Force) (t b : ℕ) → (e.entry == m) ≡ true → e.tag ≡ Some t → block_of_tag t tags ≡ Some b →
          leave_on e (with_force h (having d (at_spot x (inside a)))) (waits a) s ≡ going (at_spot (first_of b) (inside (having d a))) (waits a) s
      arrives a e s d x h t b here tagged found = rw (here, tagged, found) refl

      -- an exit without one of its tags ends the run
      strays : (a : Activation) (e : Exit) (s : State) (c : Activation) → (e.entry == m) ≡ true → block_for e.tag tags ≡ None →
          leave_on e c (waits a) s ≡ record { control = Stopped (Control nil) (File 0 0); here = c; waiting = ws; state = s }
      strays a e s c here lacks = rw (here, lacks) refl

      passes : (a : Activation) (e : Exit) (s : State) (c : Activation) → (e.entry == m) ≡ false → leave_on e c (waits a) s ≡ record { control = Leaving e; here = c; waiting = ws; state = s }
      passes a e s c other = rw other refl

      -- with so many jumps a run from inside comes to the end of the tagbody
      abbrev JumpsCome : ℕ → Type 0
      JumpsCome n = (a : Activation) (start : Machine) (u : State) (o : Outcome Vals) → a.graph ≡ number → a.force ≡ f → limit ≤ u.taken + n → Later limit (in_force (with_entry m f)) u.taken u o →
          Comes symbols graphs rank start low None r none (inside a) (waits a) o → Comes symbols graphs rank start low None (next r) none a ws (jumps n m from o)

      -- a jump: the run goes on at its tag
      jump_comes : (n : ℕ) (a : Activation) (start : Machine) (e : Exit) (s : State) (d : Delivered) (x : Spot) (h : Force) (t : ℕ) → JumpsCome n → a.graph ≡ number → a.force ≡ f → limit ≤ s.taken + n → (e.entry == m) ≡ true → e.tag ≡ Some t →
          FromTag t is tags r → Keeps rank low None a.delivered d →
          Reaches symbols graphs start (record { control = Leaving e; here = with_force h (having d (at_spot x (inside a))); waiting = waits a; state = s }) →
          Comes symbols graphs rank start low None (next r) none a ws (jumps n m from (from t s))
      jump_comes n a start e s d x h t again at force enough here tagged (b, found, does) kept way =
          comes_having symbols graphs rank start low low None (next r) none a d ws _ (omega arith) kept
          (comes_after symbols graphs rank start (going (at_spot (first_of b) (inside (having d a))) (waits a) s) low None (next r) none (having d a) ws _
          (reaches_then symbols graphs way (1, arrives a e s d x h t b here tagged found))
          (again (having d a) _ s (from t s) at force enough (from_later limit call timely (around facts false false (with_entry m f)) t is s) (does (with_entry m f) (inside (having d a)) (waits a) s at (ap (with_entry m) force))))

      -- a jump that has no tag to go on at
      stray_comes : (a : Activation) (start : Machine) (e : Exit) (s : State) (d : Delivered) (x : Spot) (h : Force) → (e.entry == m) ≡ true → block_for e.tag tags ≡ None →
          Reaches symbols graphs start (record { control = Leaving e; here = with_force h (having d (at_spot x (inside a))); waiting = waits a; state = s }) →
          Comes symbols graphs rank start low None (next r) none a ws (astray s)
      unfolding astray perform fail
      stray_comes a start e s d x h here lacks way = (with_force h (having d (at_spot x (inside a))), ws, reaches_then symbols graphs way (1, strays a e s _ here lacks))

      is_jump : (w : Option ℕ) (t : ℕ) → w ≡ Some t → IsJump w
      is_jump w t same = subst IsJump (sym same) tt

      none_left : (u s : ℕ) → limit ≤ u + 0 → u < s → ((n : ℕ) → limit ≤ n → u ≤ n → s ≤ n) → ⊥
      none_left u s enough more within = let le = within u (omega (arith, enough)) (omega arith) in omega (arith, more, le)

      one_less : (u s n : ℕ) → limit ≤ u + suc n → u < s → limit ≤ s + n
      one_less u s n enough more = omega (arith, enough, more)

      jumps_come : (n : ℕ) → JumpsCome n
      unfolding jump leave perform astray fail
      jumps_come n a start u (Gives vs s) at force enough later (d, kept, holds, way) =
          (d, kept, tt, reaches_then symbols graphs way (1, closes_there symbols graphs number g facts rank there r pl (having d (inside a)) (waits a) (passed_on none vs s) at closes))
      jumps_come zero a start u (Leaves e s) at force enough later (d, x, h, kept, way) = by_entry (e.entry == m) refl e.tag refl
        where
          by_entry : (c : Bool) → (e.entry == m) ≡ c → (wanted : Option ℕ) → e.tag ≡ wanted → Comes symbols graphs rank start low None (next r) none a ws (jump c wanted (λ t. stop) e s)
          by_entry true same (Some t) tagged = absurd (none_left u.taken s.taken enough (later.jumps (is_jump e.tag t tagged)) later.within)
          by_entry true same None tagged = stray_comes a start e s d x h same (ap (λ (o : Option ℕ). block_for o tags) tagged) way
          by_entry false same wanted tagged = (d, x, h, kept, reaches_then symbols graphs way (1, passes a e s _ same))
      jumps_come (suc n) a start u (Leaves e s) at force enough later (d, x, h, kept, way) = by_entry (jumps_come n) (e.entry == m) refl e.tag refl
        where
          by_runs : JumpsCome n → (e.entry == m) ≡ true → (t : ℕ) → e.tag ≡ Some t → TagRuns t is tags r → Comes symbols graphs rank start low None (next r) none a ws (jumps n m from (from t s))
          by_runs again same t tagged (inl runs) =
              jump_comes n a start e s d x h t again at force (one_less u.taken s.taken n enough (later.jumps (is_jump e.tag t tagged))) same tagged runs kept way
          by_runs again same t tagged (inr (lacks, strays_there)) =
              rw (strays_there (with_entry m f) s) (stray_comes a start e s d x h same (ap (λ (o : Option ℕ). block_for o tags) tagged ∙ lacks) way)

          by_entry : JumpsCome n → (c : Bool) → (e.entry == m) ≡ c → (wanted : Option ℕ) → e.tag ≡ wanted → Comes symbols graphs rank start low None (next r) none a ws (jump c wanted (λ t v. jumps n m from (from t v)) e s)
          by_entry again true same (Some t) tagged = by_runs again same t tagged (tag_runs t is tags p r parts stands)
          by_entry again true same None tagged = stray_comes a start e s d x h same (ap (λ (o : Option ℕ). block_for o tags) tagged) way
          by_entry again false same wanted tagged = (d, x, h, kept, reaches_then symbols graphs way (1, passes a e s _ same))
      jumps_come n a start u (Fails y pl' s) at force enough later came = came
      jumps_come n a start u (NotYet s) at force enough later came = came

    -- an entry node opens the extent of a tagbody
    opens_tags : (pl : Place) (v : ℕ) (tags : List Tag) (exits : List ℕ) (variable : Variable) (b c : ℕ) (p : Spot) (a : Activation) (ws : List Waiting) (s : State) (m : ℕ) (u : State) →
        a.graph ≡ number → g.variable v ≡ Some variable → VariableStands facts variable b → Here g p (kind.Entry (extent.Tags v tags) exits) None pl c none → enter_extent facts b (spent c s) ≡ Gave m u →
        step symbols graphs (going (at_spot p a) ws s) ≡ going (at_spot (next p) (with_force (with_entry m a.force) a)) (Tagged m tags a.force ∷ ws) u
    unfolding box_before test_operands pure ◌>>=◌
    opens_tags pl v tags exits variable b c p a ws s m u at is_there stands (number_of, here) enters =
        runs_there symbols graphs number g facts rank there p _ a ws s at here ∙ rw (is_there, enters_same facts variable b stands (spent c s), enters) refl

    -- and it gives NIL
    nil_comes : (w : Bool) (pl : Place) (l : Passes) (to : Option ℕ) (r : Spot) (a : Activation) (ws : List Waiting) (s : State) (d : Delivered) → a.graph ≡ number → Here g (next r) (kind.Ref (leaf.Constant nil)) to pl 0 (through w l) →
        Comes symbols graphs rank (going (having d (at_spot (next r) a)) ws s) low to (next (next r)) l (having d a) ws (and_then (outcome (one nil s)) (λ vs. perform (deliver w vs)))
    unfolding leaf_values
    nil_comes w pl l to r a ws s d at gives =
        subst (λ (u : State). Comes symbols graphs rank (going (having d (at_spot (next r) a)) ws s) low to (next (next r)) l (having d a) ws (and_then (outcome (one nil u)) (λ vs. perform (deliver w vs)))) (spent_none s)
        (leaf_comes symbols graphs number g facts rank there low to (next r) w 0 pl l (leaf.Constant nil) (having d a) ws s at gives)

    -- A TAGBODY does if its items do, and if calls keep the time.
    pub tagbody_does : (t w : Bool) (pl : Place) (is : Items) (n : ℕ) (l : Passes) (to : Option ℕ) (p q : Spot) → IsTimely limit call → ItemsDo is →
        StandsAt g facts rank t w (Tagbody pl is) n l low to p q → Does symbols graphs number g facts rank there call limit t w (Tagbody pl is) n l low to p q
    unfolding eval visit perform tagbody_round spend counting change ◌>>=ʳ◌
    tagbody_does t w pl is n l to p q timely parts (v, exits, tags, r, (variable, is_there, stands), here, items, closes, gives, end) f a ws s at force =
        subst (λ (x : Spot). Comes symbols graphs rank (going (at_spot p a) ws s) low to x l a ws (whole (spent 1 (spent n s)))) (sym end)
        (subst (λ (x : State). Comes symbols graphs rank (going (at_spot p a) ws s) low to (next (next r)) l a ws (whole x)) (sym (spent_both n 1 s))
        (opened_at (entered facts (tagbody_number is) (spent (n + 1) s))))
      where
        jumping : ℕ → Run Vals
        jumping m u = jumps limit m (λ t. steps_from call limit (around facts false false (with_entry m f)) t is) (steps call limit (around facts false false (with_entry m f)) is u)

        whole : State → Outcome Vals
        whole x = and_then (and_then (and_then (outcome (enter_extent facts (tagbody_number is) x)) jumping) (λ _. perform (one nil))) (λ vs. perform (deliver w vs))

        opened_at : (m : ℕ) × (u : State) × (enter_extent facts (tagbody_number is) (spent (n + 1) s) ≡ Gave m u) → Comes symbols graphs rank (going (at_spot p a) ws s) low to (next (next r)) l a ws (whole (spent (n + 1) s))
        opened_at (m, u, enters) =
            rw enters (subst (Comes symbols graphs rank (going (at_spot p a) ws s) low to (next (next r)) l a ws) (sym (and_then_both (jumping m u) _ _))
            (comes_after symbols graphs rank (going (at_spot p a) ws s) _ low to (next (next r)) l a ws _
            (1, opens_tags pl v tags exits variable (tagbody_number is) (n + 1) p a ws s m u at is_there stands here enters)
            (comes_next (going (at_spot (next p) (with_force (with_entry m a.force) a)) (Tagged m tags a.force ∷ ws) u) low (next r) (next (next r)) to l a ws (jumping m u) _
            (jumps_come m is tags pl (next p) r f ws parts items closes timely limit a _ u _ at force (omega arith) (steps_later limit call timely (around facts false false (with_entry m f)) is u)
            (items_comes is tags (next p) r (with_entry m f) (with_force (with_entry m a.force) a) (Tagged m tags a.force ∷ ws) u parts items at (ap (with_entry m) force)))
            (λ vs x d. nil_comes w pl l to r a ws x d at gives))))
