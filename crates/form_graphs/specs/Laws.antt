-- The law of graphs of forms, as the contract of this crate states it. (This project's own.)
use Rattle.std.specs.Prelude.{List}
use Rattle.layers.specs.Among.{AllKeep}
use Rattle.core_form.specs.State.{Symbol, Object}
use Rattle.core_form.specs.AsLayer.{forms_together}
use Rattle.graph_meaning.specs.AsLayer.{graphs_together}
use Rattle.form_graphs.specs.Functions.{IsGraphOf}

-- graphs together keep what the forms mean together of which each is the graph
abbrev pub GraphsKeepForms : Type 0
GraphsKeepForms = (heap : List Object) (symbols : List Symbol) → AllKeep (forms_together heap symbols) (graphs_together heap symbols) (IsGraphOf symbols)
