-- A graph whose form names a function that is there hangs together.
use Rattle.std.proofs.Common.{◌≡◌, ℕ, Bool, true, false, ◌&&◌, [], ◌∷◌, Option, Some, None, is_some, if◌then◌else◌, refl, ap, ◌∙◌}
use Rattle.std.proofs.lemmas.List.Elements.{filter_map-append}
use Rattle.std.proofs.lemmas.List.Folds.{list_all-append}
use Rattle.icr_graph.specs.declared.faults.EditFault.{EditFault}
use Rattle.icr_graph.specs.Lists.{those_there}
use Rattle.icr_graph.specs.Plain.{FlowGraph}
use Rattle.icr_graph.specs.Whole.{IsWhole, are_functions}
use Rattle.icr_graph.specs.Building.{with_lambda, with_code}
use Rattle.icr_graph.specs.Faults.{is_function, named_function_fault}

named_there : (g : FlowGraph) (f : ℕ) → named_function_fault g f ≡ None → are_functions g (f ∷ []) ≡ true
named_there g f allowed = by_case (is_function g f) _ allowed
  where
    by_case : (b : Bool) (fault : EditFault) → (if b then None else Some fault) ≡ None → (b && true) ≡ true
    by_case true fault h = refl
    by_case false fault h = cc

pub lambda_named : (g : FlowGraph) (f : ℕ) → named_function_fault g f ≡ None → IsWhole g → IsWhole (with_lambda f g)
lambda_named g f allowed w =
    record {
      edges = w.edges;
      places = w.places;
      distinct = w.distinct;
      uses = w.uses;
      operands = w.operands;
      arrivals = w.arrivals;
      exits = w.exits;
      entries = w.entries;
      variables = w.variables;
      functions = w.functions;
      parameters = w.parameters;
      closed = w.closed;
      lambdas = ap (are_functions g) (filter_map-append (λ n. n) g.lambdas (Some f ∷ [])) ∙ (list_all-append (λ x. is_some (g.function x)) (those_there g.lambdas) (f ∷ []) ∙ rw w.lambdas (named_there g f allowed));
      code = w.code;
    }

pub code_named : (g : FlowGraph) (f : ℕ) → named_function_fault g f ≡ None → IsWhole g → IsWhole (with_code f g)
code_named g f allowed w =
    record {
      edges = w.edges;
      places = w.places;
      distinct = w.distinct;
      uses = w.uses;
      operands = w.operands;
      arrivals = w.arrivals;
      exits = w.exits;
      entries = w.entries;
      variables = w.variables;
      functions = w.functions;
      parameters = w.parameters;
      closed = w.closed;
      lambdas = w.lambdas;
      code = named_there g f allowed;
    }
