-- Laws of what graphs mean together, as the contracts of this crate state them. (This project's own.)
use Rattle.std.specs.Prelude.{ℕ, List}
use Rattle.layers.specs.Layer.{IsLawful}
use Rattle.layers.specs.Among.{AreNeverFull}
use Rattle.core_form.specs.State.{Symbol, Object}
use Rattle.icr_graph.specs.Plain.{FlowGraph}
use Rattle.graph_meaning.specs.AsLayer.{graphs_together}

-- any graphs together are a lawful layer: what is seen only grows, and stays once the run has ended
abbrev pub GraphsAreLawful : Type 0
GraphsAreLawful = (heap : List Object) (symbols : List Symbol) (prelude : ℕ) (graphs : List FlowGraph) → IsLawful (graphs_together heap symbols prelude graphs)

abbrev pub GraphsAreNeverFull : Type 0
GraphsAreNeverFull = (heap : List Object) (symbols : List Symbol) → AreNeverFull (graphs_together heap symbols)
