-- What the conversion of a whole program gives. (This project's own.)
use Rattle.std.specs.Prelude.{ℕ, List, ◌++◌, length, map}
use Rattle.std.specs.List.{Contains}
use Rattle.layers.specs.Among.{Each}
use Rattle.layers.specs.Keeping.{Keeps}
use Rattle.core_form.specs.declared.tree.TopForm.{TopForm}
use Rattle.core_form.specs.Reading.{tops_of}
use Rattle.core_form.specs.State.{Symbol}
use Rattle.core_form.specs.Tree.{Top}
use Rattle.core_form.specs.AsLayer.{program_layer}
use Rattle.core_form.specs.Lawful.{Parts, meant}
use Rattle.icr_graph.specs.Plain.{Slots, FlowGraph, graph_of}
use Rattle.graph_meaning.specs.AsLayer.{graphs_together}
use Rattle.form_graphs.specs.Functions.{IsGraphOf}
use Rattle.icr_convert.specs.Whole.{IsFormOf, IsWellMade, symbols_of}

-- the forms of a program, those of the prelude first
abbrev pub all_forms : Parts → List TopForm
all_forms p = p.prelude ++ p.forms

-- all of these are forms of a program
abbrev pub AreFormsOf : Parts → List TopForm → Type 0
AreFormsOf p fs = (f : TopForm) → Contains fs f → IsFormOf p f

-- the graph of a form, well made
abbrev pub IsMadeGraphOf : List Symbol → Top → FlowGraph → Type 0
IsMadeGraphOf symbols t g = IsGraphOf symbols t g × IsWellMade g

-- each form's graph, in their order
abbrev pub AreGraphsOf : Parts → List TopForm → List Slots → Type 0
AreGraphsOf p fs gs = Each (IsMadeGraphOf (symbols_of p)) (tops_of fs) (map graph_of gs)

-- behind the graphs of other forms come those of these
abbrev pub AddsGraphs : Parts → List TopForm → (before after : List Slots) → Type 0
AddsGraphs p fs gs hs = (done : List TopForm) → AreGraphsOf p done gs → AreGraphsOf p (done ++ fs) hs

-- The graphs together, with the objects and symbols of the program, keep what it means.
abbrev pub GraphsKeepProgram : Parts → List Slots → Type 0
GraphsKeepProgram p gs =
    (heap stack : ℕ) →
    Keeps heap stack (program_layer (meant p)) (graphs_together (meant p).heap (meant p).symbols (length (meant p).prelude) (map graph_of gs))
