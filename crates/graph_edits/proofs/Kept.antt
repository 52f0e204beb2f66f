-- Graphs of which the places go along with each other mean the same, whatever graphs run around them.
use Rattle.std.proofs.Common.{◌≡◌, ℕ, List, ◌∷◌, ◌++◌, length}
use Rattle.layers.specs.Input.{Input}
use Rattle.layers.specs.Layer.{after as steps_after}
use Rattle.layers.specs.Keeping.{Keeps}
use Rattle.core_form.specs.State.{Symbol, Object}
use Rattle.icr_graph.specs.Plain.{FlowGraph}
use Rattle.graph_meaning.specs.Machine.{Machine}
use Rattle.graph_meaning.specs.Running.{step}
use Rattle.graph_meaning.specs.AsLayer.{graph_steps, first_machine, graphs_together}
use Rattle.graph_meaning.specs.Laws.{GraphsAreNeverFull}
use Rattle.graph_edits.proofs.Stepping.{GoesAlong, forth, keeps_along, kept_along}
use Rattle.graph_edits.proofs.Alike.{Edit, edited, Alike}
use Rattle.graph_edits.proofs.Lists.{differ, defined_same}
use Rattle.graph_edits.proofs.Along.{Turns, rank_of, Related, goes_along}

module _ (free : GraphsAreNeverFull) (heap : List Object) (symbols : List Symbol) (E : Edit) (rank : ℕ → ℕ → ℕ) (prelude : ℕ) (before after : List FlowGraph) (is : E.number ≡ length before) (Sure : Machine → Machine → Type 0) where
  abbrev old_graphs : List FlowGraph
  old_graphs = before ++ E.text ∷ after

  abbrev new_graphs : List FlowGraph
  new_graphs = before ++ edited E ∷ after

  module _ (turns : Turns E rank symbols old_graphs new_graphs (differ E after before is) Sure) (sure : (i : Input) → Sure (first_machine heap symbols prelude old_graphs i.letters) (first_machine heap symbols prelude new_graphs i.letters)) (bytes stack : ℕ) where
    abbrev measure : Machine → ℕ
    measure = rank_of E rank symbols old_graphs new_graphs (differ E after before is) Sure

    abbrev Relation : Machine → Machine → Type 0
    Relation = Related E rank symbols old_graphs new_graphs (differ E after before is) Sure turns

    along : GoesAlong (graph_steps heap symbols prelude old_graphs) (graph_steps heap symbols prelude new_graphs) measure Relation
    along = goes_along E rank symbols old_graphs new_graphs (differ E after before is) Sure turns heap prelude (defined_same E after before 0 prelude) sure

    -- at each moment of the first run the second comes to a machine that goes along
    pub each_alike : (i : Input) (k : ℕ) → (x : ℕ) × Alike E (steps_after (step symbols old_graphs) k (first_machine heap symbols prelude old_graphs i.letters)) (steps_after (step symbols new_graphs) x (first_machine heap symbols prelude new_graphs i.letters))
    each_alike i k =
        let r = forth (graph_steps heap symbols prelude old_graphs) (graph_steps heap symbols prelude new_graphs) measure Relation along i k in
        (r.0, r.1.0)

    -- each list of graphs keeps what the other means
    pub both_keep : Keeps bytes stack (graphs_together heap symbols prelude old_graphs) (graphs_together heap symbols prelude new_graphs) × Keeps bytes stack (graphs_together heap symbols prelude new_graphs) (graphs_together heap symbols prelude old_graphs)
    both_keep = (
      keeps_along (graph_steps heap symbols prelude old_graphs) (graph_steps heap symbols prelude new_graphs) measure Relation along bytes stack (free heap symbols prelude old_graphs),
      kept_along (graph_steps heap symbols prelude old_graphs) (graph_steps heap symbols prelude new_graphs) measure Relation along bytes stack (free heap symbols prelude new_graphs),
    )
