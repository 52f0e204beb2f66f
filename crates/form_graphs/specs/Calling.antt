-- What calls do in the graphs of a program. (This project's own.)
use Rattle.std.specs.Prelude.{◌≡◌, ℕ, Bool, List, slice_get, Some, None}
use Rattle.core_form.specs.Facts.{Facts}
use Rattle.core_form.specs.State.{Symbol, State}
use Rattle.core_form.specs.Effect.{pure}
use Rattle.core_form.specs.Force.{Vals, Force}
use Rattle.core_form.specs.Step.{Around}
use Rattle.core_form.specs.Run.{Outcome, Gives, Leaves, Fails, NotYet}
use Rattle.core_form.specs.Eval.{Call}
use Rattle.icr_graph.specs.declared.nodes.Node.{Node}
use Rattle.icr_graph.specs.Plain.{FlowGraph}
use Rattle.graph_meaning.specs.Machine.{Activation, Waiting, Returning, Leaving, Stopped, Machine}
use Rattle.graph_meaning.specs.Running.{gives, calling, node_of}
use Rattle.form_graphs.specs.Landing.{Reaches, RunsOut}

-- the surroundings of a form
abbrev pub around : Facts → (tail word : Bool) → Force → Around
around facts t w f = record { text = record { facts = facts; tail = t; word = w }; force = f }

module _ (symbols : List Symbol) (graphs : List FlowGraph) where
  -- What a run from machine m, a call at node nd of activation b, comes to where the call gives this: the node gives the
  -- values; the exit is on its way from there; the same error; or the fuel ends.
  abbrev pub CallComes : Machine → Node → Activation → List Waiting → Outcome Vals → Type 0
  CallComes m nd b ws (Gives us s) = Reaches symbols graphs m (gives nd b ws (pure us) s)
  CallComes m nd b ws (Leaves e s) = Reaches symbols graphs m (record { control = Leaving e; here = b; waiting = ws; state = s })
  CallComes m nd b ws (Fails x p s) =
      (here : Activation) × (waiting : List Waiting) × Reaches symbols graphs m (record { control = Stopped x p; here = here; waiting = waiting; state = s })
  CallComes m nd b ws (NotYet s) = (m' : Machine) × Reaches symbols graphs m m' × RunsOut symbols graphs s m'

  -- What a run from machine m, somewhere in the code of a function or a form of graph n, comes to where that code gives this:
  -- the function returns the values, with nothing more waiting; the exit is on its way; the same error; or the fuel ends.
  abbrev pub CodeComes : (graph : ℕ) → Machine → List Waiting → Outcome Vals → Type 0
  CodeComes n m ws (Gives us s) =
      (here : Activation) × (here.graph ≡ n) × Reaches symbols graphs m (record { control = Returning us; here = here; waiting = ws; state = s })
  CodeComes n m ws (Leaves e s) =
      (here : Activation) × Reaches symbols graphs m (record { control = Leaving e; here = here; waiting = ws; state = s })
  CodeComes n m ws (Fails x p s) =
      (here : Activation) × (waiting : List Waiting) × Reaches symbols graphs m (record { control = Stopped x p; here = here; waiting = waiting; state = s })
  CodeComes n m ws (NotYet s) = (m' : Machine) × Reaches symbols graphs m m' × RunsOut symbols graphs s m'

  -- Every call from a node of the graphs does what it means.
  abbrev pub CallsDo : Call → Type 0
  CallsDo call =
      (facts : Facts) (t w : Bool) (f : Force) (k : ℕ) (closed vs : Vals) (b : Activation) (nd : Node) (ws : List Waiting) (s : State) → b.force ≡ f → node_of (slice_get graphs b.graph) b ≡ Some nd →
      CallComes (calling t k closed vs None b ws s) nd b ws (call (around facts t w f) k closed vs s)
