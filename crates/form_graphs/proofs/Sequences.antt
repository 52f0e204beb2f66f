-- Forms one after another, and LABELS, do in their graphs what they do.
use Rattle.std.proofs.Common.{◌≡◌, ◌≢◌, ℕ, ◌+◌, sym, subst, arith, Bool, true, false, List, [], ◌∷◌, Option, Some, None}
use Rattle.std.specs.Prelude.{slice_get}
use Rattle.lisp_base.specs.declared.values.Place.{Place}
use Rattle.lisp_base.specs.Sort.{nil}
use Rattle.core_form.specs.Tree.{Core, Progn, Labels, Cores, no_core, core, Definitions}
use Rattle.core_form.specs.Facts.{Facts}
use Rattle.core_form.specs.State.{Symbol, State}
use Rattle.core_form.specs.Effect.{pure, change, counting, deliver_more, boxes_more, ◌>>=◌}
use Rattle.core_form.specs.Force.{Vals, Force, one}
use Rattle.core_form.specs.Run.{Outcome, Gives, Leaves, Fails, NotYet, Run, and_then, perform, ◌>>=◌ as ◌>>=ʳ◌}
use Rattle.core_form.specs.Eval.{Call, eval, progn}
use Rattle.icr_graph.specs.declared.nodes.NodeKind.TheVariants as kind
use Rattle.icr_graph.specs.declared.nodes.Leaf.TheVariants as leaf
use Rattle.icr_graph.specs.Plain.{FlowGraph}
use Rattle.graph_meaning.specs.Machine.{Delivered, delivered_to, Activation, Waiting, Machine, going}
use Rattle.graph_meaning.specs.Effects.{delivered_by, test_operands, box_before, leaf_values}
use Rattle.graph_meaning.specs.Extents.{spent}
use Rattle.form_graphs.specs.Spots.{Spot, next, Passes, none, through, Here}
use Rattle.form_graphs.specs.Standing.{StandsAt, AllStandAt}
use Rattle.form_graphs.specs.Landing.{at_spot, having, Reaches, Keeps, Comes}
use Rattle.form_graphs.proofs.Coming.{comes_after, comes_having, delivered_keeps, delivered_holds, passes_none, spent_none}
use Rattle.form_graphs.specs.Calling.{around}
use Rattle.form_graphs.proofs.Leaves.{runs_there, Does}
use Rattle.form_graphs.proofs.Data.{visits}
use Rattle.form_graphs.proofs.Operands.{AlwaysDoes, AllDo}

-- no continuation is none
none_other : (j : ℕ) → None ≢ Some j
none_other j same = subst is_none same tt
  where
    is_none : Option ℕ → Type 0
    is_none None = Unit {0}
    is_none (Some n) = ⊥

-- what is kept where nothing is delivered is kept where something is
pub keeps_with : (rank : ℕ → ℕ) (low : ℕ) (to : Option ℕ) (d d' : Delivered) → Keeps rank low None d d' → Keeps rank low to d d'
keeps_with rank low to d d' kept j less other = kept j less (none_other j)

module _ (symbols : List Symbol) (graphs : List FlowGraph) (number : ℕ) (g : FlowGraph) (facts : Facts) (rank : ℕ → ℕ) (there : slice_get graphs number ≡ Some g) (call : Call) (limit : ℕ) where
  -- A part whose values go nowhere, and then what follows.
  pub comes_next : (m : Machine) (low : ℕ) (r q : Spot) (to : Option ℕ) (l : Passes) (a : Activation) (ws : List Waiting) (o : Outcome Vals) (follow : Run Vals) →
      Comes symbols graphs rank m low None r none a ws o →
      ((s : State) (d : Delivered) → Keeps rank low None a.delivered d → Comes symbols graphs rank (going (having d (at_spot r a)) ws s) low to q l (having d a) ws (follow s)) →
      Comes symbols graphs rank m low to q l a ws (and_then o (λ vs. follow))
  comes_next m low r q to l a ws (Gives vs s) follow (d, kept, holds, way) follows =
      comes_having symbols graphs rank m low low to q l a d ws (follow s) (omega arith) (keeps_with rank low to a.delivered d kept)
      (comes_after symbols graphs rank m (going (having d (at_spot r a)) ws s) low to q l (having d a) ws (follow s) (subst (λ (t : State). Reaches symbols graphs m (going (having d (at_spot r a)) ws t)) (passes_none vs s) way) (follows s d kept))
  comes_next m low r q to l a ws (Leaves e s) follow (d, p, f, kept, way) follows = (d, p, f, keeps_with rank low to a.delivered d kept, way)
  comes_next m low r q to l a ws (Fails x p s) follow came follows = came
  comes_next m low r q to l a ws (NotYet s) follow came follows = came

  -- NIL, which passes so many forms
  pub nil_comes : (low : ℕ) (to : Option ℕ) (p : Spot) (n : ℕ) (pl : Place) (l : Passes) (a : Activation) (ws : List Waiting) (s : State) → a.graph ≡ number → Here g p (kind.Ref (leaf.Constant nil)) to pl n l →
      Comes symbols graphs rank (going (at_spot p a) ws s) low to (next p) l a ws (Gives (nil ∷ []) (spent n s))
  unfolding leaf_values one delivered_by deliver_more boxes_more counting change ◌>>=◌ pure box_before test_operands
  nil_comes low to p n pl l a ws s at (b, here) = (
    delivered_to to (nil ∷ []) a.delivered,
    delivered_keeps rank low to (nil ∷ []) a.delivered,
    delivered_holds to (nil ∷ []) a.delivered,
    (1, runs_there symbols graphs number g facts rank there p _ a ws s at here),
  )

  -- forms one after another
  pub all_come : (es : Cores) (t w : Bool) (pl : Place) (n : ℕ) (l : Passes) (low : ℕ) (to : Option ℕ) (p q : Spot) (f : Force) (a : Activation) (ws : List Waiting) (s : State) →
      AllDo symbols graphs number g facts rank there call limit es → AllStandAt g facts rank t w pl es n l low to p q → a.graph ≡ number → a.force ≡ f →
      Comes symbols graphs rank (going (at_spot p a) ws s) low to q l a ws (progn call limit (around facts t w f) es (spent n s))
  unfolding progn perform one pure ◌>>=ʳ◌
  all_come no_core t w pl n l low to p q f a ws s all (here, end) at force =
      subst (λ (r : Spot). Comes symbols graphs rank (going (at_spot p a) ws s) low to r l a ws (Gives (nil ∷ []) (spent n s))) (sym end) (nil_comes low to p n pl l a ws s at here)
  all_come (core e no_core) t w pl n l low to p q f a ws s (does, all) stands at force = does t w n l low to p q stands f a ws s at force
  all_come (core e (core e' es)) t w pl n l low to p q f a ws s (does, all) (r, stands, stand) at force =
      comes_next (going (at_spot p a) ws s) low r q to l a ws (eval call limit (around facts false true f) e (spent n s)) (progn call limit (around facts t w f) (core e' es)) (does false true n none low None p r stands f a ws s at force)
      (λ u d kept. subst (λ (v : State). Comes symbols graphs rank (going (at_spot r (having d a)) ws u) low to q l (having d a) ws (progn call limit (around facts t w f) (core e' es) v)) (spent_none u)
      (all_come (core e' es) t w pl 0 l low to r q f (having d a) ws u all stand at force))

  -- PROGN
  pub progn_does : (t w : Bool) (pl : Place) (es : Cores) (n : ℕ) (l : Passes) (low : ℕ) (to : Option ℕ) (p q : Spot) → AllDo symbols graphs number g facts rank there call limit es →
      StandsAt g facts rank t w (Progn pl es) n l low to p q → Does symbols graphs number g facts rank there call limit t w (Progn pl es) n l low to p q
  unfolding eval
  progn_does t w pl es n l low to p q all stand f a ws s at force =
      visits symbols graphs number g facts rank there call limit low to p q t w n l f a ws s (progn call limit (around facts t w f) es)
      (all_come es t w pl (n + 1) (through w l) low to p q f a ws s all stand at force)

  -- LABELS
  pub labels_does : (t w : Bool) (pl : Place) (ds : Definitions) (e : Core) (n : ℕ) (l : Passes) (low : ℕ) (to : Option ℕ) (p q : Spot) → AlwaysDoes symbols graphs number g facts rank there call limit e →
      StandsAt g facts rank t w (Labels pl ds e) n l low to p q → Does symbols graphs number g facts rank there call limit t w (Labels pl ds e) n l low to p q
  unfolding eval
  labels_does t w pl ds e n l low to p q does stands f a ws s at force =
      visits symbols graphs number g facts rank there call limit low to p q t w n l f a ws s (eval call limit (around facts t w f) e)
      (does t w (n + 1) (through w l) low to p q stands f a ws s at force)
