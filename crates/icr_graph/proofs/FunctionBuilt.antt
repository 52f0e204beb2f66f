-- A graph with a new function hangs together.
use Rattle.std.proofs.Common.{◌≡◌, ◌≢◌, ◌⊎◌, ℕ, Bool, true, false, ◌&&◌, List, [], ◌∷◌, Option, Some, None, is_some, if◌then◌else◌, refl, sym, ap, ◌∙◌, inl, inr, ne_eqb}
use Rattle.std.proofs.lemmas.Bool.{cases_eq}
use Rattle.ir_ids.specs.Entries.{with_entry}
use Rattle.icr_graph.specs.declared.parts.Function.{Function}
use Rattle.icr_graph.specs.declared.faults.EditFault.{EditFault}
use Rattle.icr_graph.specs.Lists.{has_number, listed, those_there, numbers_of}
use Rattle.icr_graph.specs.Plain.{FlowGraph, functions_at, entered_by}
use Rattle.icr_graph.specs.Whole.{IsWhole, are_variables}
use Rattle.icr_graph.specs.Building.{with_function}
use Rattle.icr_graph.specs.Faults.{function_fault}
use Rattle.icr_graph.proofs.Maps.{same_number}
use Rattle.icr_graph.proofs.Built.{fresh_kept, more_there}

allowed_parts : (a b : Bool) (fault : EditFault) → (if a && b then None else Some fault) ≡ None → (a ≡ true) × (b ≡ true)
allowed_parts true true fault h = (refl, refl)
allowed_parts true false fault h = cc
allowed_parts false b fault h = cc

pub function_built : (g : FlowGraph) (f : ℕ) (function : Function) → g.function f ≡ None → function.entries ≡ [] → function_fault g function ≡ None → IsWhole g → IsWhole (with_function f function g)
function_built g f function vacant none allowed w =
    let named = allowed_parts (are_variables g function.parameters) (are_variables g function.closed) _ allowed in
    record {
      edges = w.edges;
      places = w.places;
      distinct = w.distinct;
      uses = w.uses;
      operands = w.operands;
      arrivals = w.arrivals;
      exits = w.exits;
      entries = λ a b. ap (has_number b) (fresh_kept (λ (x : Function). x.entries) g.function f function vacant none a) ∙ w.entries a b;
      variables = w.variables;
      functions = λ n. more_there g.function f function (functions_at g n) (w.functions n);
      parameters = λ a. variables_there (λ x. x.parameters) named.0 a (w.parameters a);
      closed = λ a. variables_there (λ x. x.closed) named.1 a (w.closed a);
      lambdas = more_there g.function f function (those_there g.lambdas) w.lambdas;
      code = more_there g.function f function (listed g.code) w.code;
    }
  where
    variables_there : (p : Function → List ℕ) → are_variables g (p function) ≡ true → (a : ℕ) → are_variables g (numbers_of p (g.function a)) ≡ true → are_variables g (numbers_of p (with_entry g.function f (Some function) a)) ≡ true
    variables_there p new a old = by_case (cases_eq a f)
      where
        by_case : (a ≡ f) ⊎ (a ≢ f) → are_variables g (numbers_of p (with_entry g.function f (Some function) a)) ≡ true
        by_case (inl same) = rw (same, same_number f) new
        by_case (inr other) = rw (ne_eqb a f other) old
