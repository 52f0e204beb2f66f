-- Graphs together as a layer, whose moments are numbers of steps. (This project's own.)
use Rattle.std.specs.Prelude.{ℕ, List, [], ◌++◌, length, map, take}
use Rattle.lisp_base.specs.declared.values.Val.{Val}
use Rattle.lisp_base.specs.Sort.{nil}
use Rattle.layers.specs.Layer.{Steps, layer_of}
use Rattle.layers.specs.Among.{Together}
use Rattle.core_form.specs.State.{Symbol, Object, Fun, State}
use Rattle.core_form.specs.Run.{Outcome, Gives, Leaves, Fails, NotYet}
use Rattle.core_form.specs.Eval.{no_counts, constants_from, functions_from}
use Rattle.core_form.specs.AsLayer.{seen_of}
use Rattle.icr_graph.specs.Plain.{FlowGraph}
use Rattle.graph_meaning.specs.Machine.{Waiting, Control, Leaving, Stopped, Next, Over, Machine}
use Rattle.graph_meaning.specs.Reading.{prelude_functions}
use Rattle.graph_meaning.specs.Running.{form_activation, step}

-- how a run stands at a moment, as that of a program
abbrev pub outcome_by : Control → List Waiting → State → Outcome Val
outcome_by (Over v) ws s = Gives v s
outcome_by (Stopped x p) ws s = Fails x p s
outcome_by (Leaving e) [] s = Leaves e s
outcome_by c ws s = NotYet s

abbrev pub outcome_at : Machine → Outcome Val
outcome_at m = outcome_by m.control m.waiting m.state

-- The first state: the prelude's functions are objects after those of the constants.
abbrev pub first_state : List Object → List Symbol → (prelude : List FlowGraph) → (input : List ℕ) → State
first_state heap symbols prelude input = record {
  taken = 0;
  store = heap ++ map (λ f. Fun f.1 []) (prelude_functions 0 prelude);
  frame = [];
  next_entry = 1;
  values = constants_from 0 symbols;
  functions = functions_from (length heap) (prelude_functions 0 prelude);
  input = input;
  output = [];
  counts = no_counts;
}

-- the first of these graphs are the prelude's, so many; the form of the next one begins
abbrev pub first_machine : List Object → List Symbol → (prelude : ℕ) → List FlowGraph → (input : List ℕ) → Machine
first_machine heap symbols prelude graphs input = record {
  control = Next prelude nil;
  here = form_activation symbols prelude 0 0 0;
  waiting = [];
  state = first_state heap symbols (take prelude graphs) input;
}

-- what graphs mean together, with the objects of their constants and all symbols
abbrev pub graph_steps : List Object → List Symbol → (prelude : ℕ) → List FlowGraph → Steps Machine
graph_steps heap symbols prelude graphs = record {
  first = λ input. first_machine heap symbols prelude graphs input.letters;
  step = step symbols graphs;
  seen = λ m. seen_of symbols (outcome_at m);
}

abbrev pub graphs_together : List Object → List Symbol → Together FlowGraph
graphs_together heap symbols prelude graphs = layer_of (graph_steps heap symbols prelude graphs)
