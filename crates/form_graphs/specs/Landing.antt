-- That a run comes from one place of a graph to what a form gives. (This project's own.)
use Rattle.std.specs.Prelude.{◌≡◌, ◌≢◌, ℕ, suc, ◌+◌, ◌-◌, ◌*◌, ◌<◌, length, List, Option, Some, None}
use Rattle.core_form.specs.State.{Symbol, State, all_big}
use Rattle.core_form.specs.Force.{Vals, Force}
use Rattle.core_form.specs.Run.{Outcome, Gives, Leaves, Fails, NotYet}
use Rattle.core_form.specs.Growth.{CountsGrow}
use Rattle.layers.specs.Layer.{after}
use Rattle.icr_graph.specs.Plain.{FlowGraph}
use Rattle.graph_meaning.specs.Machine.{Delivered, Activation, Waiting, Leaving, Stopped, Machine, going, with_force}
use Rattle.graph_meaning.specs.Running.{step}
use Rattle.form_graphs.specs.Spots.{Spot, Passes}

-- an activation at another place
abbrev pub at_spot : Spot → Activation → Activation
at_spot p a = record a { block = p.block; index = p.index }

-- an activation with other values delivered
abbrev pub having : Delivered → Activation → Activation
having d a = record a { delivered = d }

-- the state when so many forms have passed values on
abbrev pub passed_on : Passes → Vals → State → State
passed_on l vs s =
    record s {
      counts = record s.counts {
        extra = s.counts.extra + l.levels * (length vs - 1);
        boxes = s.counts.boxes + l.levels * all_big vs;
        boxes_outside_words = s.counts.boxes_outside_words + l.boxing * all_big vs;
      };
    }

-- by ranks of continuations: those of a lower rank hold what they held, but this one
abbrev pub Keeps : (rank : ℕ → ℕ) → (low : ℕ) → Option ℕ → Delivered → Delivered → Type 0
Keeps rank low to d d' = (j : ℕ) → rank j < low → to ≢ Some j → d' j ≡ d j

-- a continuation holds these values
abbrev pub Holds : Option ℕ → Vals → Delivered → Type 0
Holds None vs d = Unit {0}
Holds (Some k) vs d = d k ≡ Some vs

module _ (symbols : List Symbol) (graphs : List FlowGraph) where
  -- one machine comes to another, in some steps
  abbrev pub Reaches : Machine → Machine → Type 0
  Reaches m m' = (k : ℕ) × (after (step symbols graphs) k m ≡ m')

  -- The run shows what was shown when the fuel ended: it goes on, and takes fuel with its next step.
  pub record RunsOut (s : State) (m : Machine) : Type 0 where
    pub output : m.state.output ≡ s.output
    pub taken : m.state.taken ≡ s.taken
    pub counts : CountsGrow m.state.counts s.counts
    pub next : (step symbols graphs m).state.taken ≡ suc m.state.taken

  -- What a run from machine m comes to where a form gives this: to spot q of activation a with the values delivered to a
  -- continuation and the state of their passing; to the same exit; to the same error; or to where the fuel ends.
  abbrev pub Comes : (rank : ℕ → ℕ) → Machine → (low : ℕ) → Option ℕ → Spot → Passes → Activation → List Waiting → Outcome Vals → Type 0
  Comes rank m low to q l a ws (Gives vs s) =
      (d : Delivered) × Keeps rank low to a.delivered d × Holds to vs d × Reaches m (going (having d (at_spot q a)) ws (passed_on l vs s))
  Comes rank m low to q l a ws (Leaves e s) =
      (d : Delivered) × (p : Spot) × (f : Force) × Keeps rank low to a.delivered d × Reaches m (record { control = Leaving e; here = with_force f (having d (at_spot p a)); waiting = ws; state = s })
  Comes rank m low to q l a ws (Fails x p s) =
      (here : Activation) × (waiting : List Waiting) × Reaches m (record { control = Stopped x p; here = here; waiting = waiting; state = s })
  Comes rank m low to q l a ws (NotYet s) = (m' : Machine) × Reaches m m' × RunsOut s m'
