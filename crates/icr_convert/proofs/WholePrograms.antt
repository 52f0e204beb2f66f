-- The graphs of all forms of a program. (This project's own.)
use Rattle.std.proofs.Common.{◌≡◌, ◌<◌, ℕ, ◌+◌, List, [], ◌∷◌, ◌++◌, length, map, take, sym, ap, subst, ◌∙◌, append-nil, append_assoc}
use Rattle.std.specs.Prelude.{get_or}
use Rattle.std.proofs.lemmas.List.{map-append, take_more}
use Rattle.std.proofs.lemmas.List.Elements.{Contains-append_left, Contains-append_right}
use Rattle.layers.specs.Among.{Each}
use Rattle.layers.specs.Layer.{Layer}
use Rattle.layers.specs.Keeping.{Keeps}
use Rattle.core_form.specs.declared.tree.TopForm.{TopForm}
use Rattle.core_form.specs.Tree.{Top}
use Rattle.core_form.specs.Reading.{top_of, tops_of}
use Rattle.core_form.specs.AsLayer.{forms_together}
use Rattle.core_form.specs.Laws.{ProgramIsItsForms}
use Rattle.core_form.specs.Lawful.{Parts, meant}
use Rattle.icr_graph.specs.Plain.{Slots, FlowGraph, graph_of}
use Rattle.graph_meaning.specs.AsLayer.{graphs_together}
use Rattle.form_graphs.specs.Functions.{IsGraphOf}
use Rattle.form_graphs.specs.Laws.{GraphsKeepForms}
use Rattle.icr_convert.specs.Whole.{IsWellMade, symbols_of}
use Rattle.icr_convert.specs.Programs.{all_forms, AreFormsOf, IsMadeGraphOf, AreGraphsOf, AddsGraphs, GraphsKeepProgram}

each_more : {C D : Type 0} (R : C → D → Type 0) (cs : List C) (ds : List D) (c : C) (d : D) → Each R cs ds → R c d → Each R (cs ++ c ∷ []) (ds ++ d ∷ [])
each_more R [] [] c d each one = (one, tt)
each_more R [] (y ∷ ds) c d each one = absurd each
each_more R (x ∷ cs) [] c d each one = absurd each
each_more R (x ∷ cs) (y ∷ ds) c d each one = (each.0, each_more R cs ds c d each.1 one)

each_first : {C D : Type 0} (R : C → D → Type 0) (Q : D → Type 0) (cs : List C) (ds : List D) → Each (λ c d. R c d × Q d) cs ds → Each R cs ds
each_first R Q [] [] each = tt
each_first R Q [] (y ∷ ds) each = absurd each
each_first R Q (x ∷ cs) [] each = absurd each
each_first R Q (x ∷ cs) (y ∷ ds) each = (each.0.0, each_first R Q cs ds each.1)

-- ---- graphs of forms one after another

pub none_added : (p : Parts) (gs : List Slots) → AddsGraphs p [] gs gs
none_added p gs done are = subst (λ (fs : List TopForm). AreGraphsOf p fs gs) (sym (append-nil done)) are

one_more : (p : Parts) (done : List TopForm) (gs : List Slots) (f : TopForm) (g : Slots) → AreGraphsOf p done gs → IsMadeGraphOf (symbols_of p) (top_of f) (graph_of g) → AreGraphsOf p (done ++ f ∷ []) (gs ++ g ∷ [])
one_more p done gs f g are is =
    subst (λ (ts : List Top). Each (IsMadeGraphOf (symbols_of p)) ts (map graph_of (gs ++ g ∷ []))) (sym (map-append top_of done (f ∷ [])))
    (subst (λ (hs : List FlowGraph). Each (IsMadeGraphOf (symbols_of p)) (tops_of done ++ top_of f ∷ []) hs) (sym (map-append graph_of gs (g ∷ [])))
    (each_more (IsMadeGraphOf (symbols_of p)) (tops_of done) (map graph_of gs) (top_of f) (graph_of g) are is))

-- the next of some forms
pub one_added : (p : Parts) (fs : List TopForm) (i : ℕ) (f : TopForm) (gs hs : List Slots) (g : Slots) → i < length fs → get_or fs i f ≡ f → AddsGraphs p (take i fs) gs hs →
    IsMadeGraphOf (symbols_of p) (top_of f) (graph_of g) → AddsGraphs p (take (i + 1) fs) gs (hs ++ g ∷ [])
one_added p fs i f gs hs g below at adds is done are =
    let next : done ++ take (i + 1) fs ≡ (done ++ take i fs) ++ f ∷ [] =
    ap (λ (xs : List TopForm). done ++ xs) (take_more fs i f below ∙ ap (λ (x : TopForm). take i fs ++ x ∷ []) at) ∙ sym (append_assoc done (take i fs) (f ∷ [])) in
    subst (λ (xs : List TopForm). AreGraphsOf p xs (hs ++ g ∷ [])) (sym next) (one_more p (done ++ take i fs) hs f g (adds done are) is)

-- ---- all forms of a program

pub prelude_forms : (p : Parts) → AreFormsOf p p.prelude
prelude_forms p f among = Contains-append_left p.prelude p.forms f among

pub file_forms : (p : Parts) → AreFormsOf p p.forms
file_forms p f among = Contains-append_right p.prelude p.forms f among

pub all_added : (p : Parts) (gs hs : List Slots) → AddsGraphs p p.prelude [] gs → AddsGraphs p p.forms gs hs → AreGraphsOf p (all_forms p) hs
all_added p gs hs first second = second p.prelude (first [] tt)

-- The graphs keep what the forms mean together, and these together are the program.
pub program_kept : (p : Parts) (gs : List Slots) → ProgramIsItsForms → GraphsKeepForms → AreGraphsOf p (all_forms p) gs → GraphsKeepProgram p gs
program_kept p gs program law are heap stack =
    let m = meant p in
    let graphs : Each (IsGraphOf (symbols_of p)) (tops_of (all_forms p)) (map graph_of gs) = each_first (IsGraphOf (symbols_of p)) IsWellMade (tops_of (all_forms p)) (map graph_of gs) are in
    let forms : tops_of (all_forms p) ≡ m.prelude ++ m.forms = map-append top_of p.prelude p.forms in
    let below : Layer = graphs_together m.heap m.symbols (length m.prelude) (map graph_of gs) in
    subst (λ (above : Layer). Keeps heap stack above below) (sym (program m))
    (subst (λ (ts : List Top). Keeps heap stack (forms_together m.heap m.symbols (length m.prelude) ts) below) forms
    (law m.heap m.symbols (length m.prelude) (tops_of (all_forms p)) (map graph_of gs) graphs heap stack))
