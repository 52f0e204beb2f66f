-- Graphs together are a lawful layer, and never full.
use Rattle.std.proofs.Common.{◌≡◌, ◌≢◌, refl, sym, subst, ℕ, List, [], ◌∷◌}
use Rattle.lisp_base.specs.declared.values.Val.{Val}
use Rattle.layers.specs.Shown.{Runs, IsLater}
use Rattle.layers.specs.Layer.{after, IsLawfulCode}
use Rattle.layers.specs.Lemmas.{lawful_layer}
use Rattle.core_form.specs.State.{Symbol, Object, State}
use Rattle.core_form.specs.Run.{Outcome}
use Rattle.core_form.specs.Eval.{state_of}
use Rattle.core_form.specs.Growth.{Grows}
use Rattle.core_form.specs.AsLayer.{status_of, seen_of}
use Rattle.core_form.proofs.Fuel.{prefix}
use Rattle.core_form.proofs.Layered.{needs_grow, never_full}
use Rattle.icr_graph.specs.Plain.{FlowGraph}
use Rattle.graph_meaning.specs.Machine.{Activation, Waiting, Control, Going, Calling, Returning, Leaving, Stopped, Next, Over, Machine}
use Rattle.graph_meaning.specs.Running.{step_by, step}
use Rattle.graph_meaning.specs.AsLayer.{outcome_by, outcome_at, first_machine, graph_steps}
use Rattle.graph_meaning.specs.Laws.{GraphsAreLawful, GraphsAreNeverFull}
use Rattle.graph_meaning.proofs.Growing.{step_grows}

-- ---- what is seen grows as the state does

pub seen_later : (symbols : List Symbol) (o w : Outcome Val) → Grows (state_of o) (state_of w) → IsLater (seen_of symbols o) (seen_of symbols w)
seen_later symbols o w g = record {
  output = prefix (state_of o).output (state_of w).output g.output;
  fuel = g.taken;
  needs = needs_grow symbols o w g.counts;
}

-- the state that is seen is the machine's
pub seen_state : (c : Control) (ws : List Waiting) (s : State) → state_of (outcome_by c ws s) ≡ s
seen_state Going ws s = refl
seen_state (Calling tail k closed vs entry) ws s = refl
seen_state (Returning vs) ws s = refl
seen_state (Leaving e) [] s = refl
seen_state (Leaving e) (w ∷ ws) s = refl
seen_state (Stopped x p) ws s = refl
seen_state (Next n v) ws s = refl
seen_state (Over v) ws s = refl

pub outcome_grows : (m k : Machine) → Grows m.state k.state → Grows (state_of (outcome_at m)) (state_of (outcome_at k))
outcome_grows m k g =
    subst (λ (s : State). Grows s (state_of (outcome_at k))) (sym (seen_state m.control m.waiting m.state))
    (subst (λ (s : State). Grows m.state s) (sym (seen_state k.control k.waiting k.state)) g)

-- ---- what no longer runs stays

module _ (symbols : List Symbol) (graphs : List FlowGraph) where
  pub stays_by : (c : Control) (a : Activation) (ws : List Waiting) (s : State) → status_of symbols (outcome_by c ws s) ≢ Runs →
      step_by symbols graphs c a ws s ≡ record { control = c; here = a; waiting = ws; state = s }
  stays_by Going a ws s over = absurd (over refl)
  stays_by (Calling tail k closed vs entry) a ws s over = absurd (over refl)
  stays_by (Returning vs) a ws s over = absurd (over refl)
  stays_by (Leaving e) a [] s over = refl
  stays_by (Leaving e) a (w ∷ ws) s over = absurd (over refl)
  stays_by (Stopped x p) a ws s over = refl
  stays_by (Next n v) a ws s over = absurd (over refl)
  stays_by (Over v) a ws s over = refl

-- ---- the layer

pub graphs_lawful : (heap : List Object) (symbols : List Symbol) (prelude : ℕ) (graphs : List FlowGraph) → IsLawfulCode (graph_steps heap symbols prelude graphs)
graphs_lawful heap symbols prelude graphs = record {
  later = λ m. seen_later symbols (outcome_at m) (outcome_at (step symbols graphs m)) (outcome_grows m (step symbols graphs m) (step_grows symbols graphs m));
  stays = λ m over. stays_by symbols graphs m.control m.here m.waiting m.state over;
}

pub graphs_are_lawful : GraphsAreLawful
graphs_are_lawful heap symbols prelude graphs = lawful_layer (graph_steps heap symbols prelude graphs) (graphs_lawful heap symbols prelude graphs)

pub graphs_are_never_full : GraphsAreNeverFull
graphs_are_never_full heap symbols prelude graphs i k =
    never_full symbols (outcome_at (after (step symbols graphs) k (first_machine heap symbols prelude graphs i.letters)))
