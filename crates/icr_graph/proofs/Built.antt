-- A graph with a new part hangs together.
use Rattle.std.proofs.Common.{◌≡◌, ◌≢◌, ◌⊎◌, ℕ, Bool, true, false, ◌&&◌, List, [], ◌∷◌, Option, Some, None, is_some, refl, sym, ap, ◌∙◌, inl, inr, ne_eqb}
use Rattle.std.specs.List.{list_all}
use Rattle.std.proofs.lemmas.Bool.{cases_eq}
use Rattle.ir_ids.specs.Entries.{with_entry}
use Rattle.icr_graph.specs.declared.parts.Variable.{Variable}
use Rattle.icr_graph.specs.Lists.{has_number, listed, numbers_of}
use Rattle.icr_graph.specs.Plain.{FlowGraph, variables_at, parameters_of, closed_of}
use Rattle.icr_graph.specs.Whole.{IsWhole}
use Rattle.icr_graph.specs.Building.{empty_block, empty_cont, with_block, with_cont, with_variable}
use Rattle.icr_graph.proofs.Maps.{same_number}
use Rattle.icr_graph.proofs.EdgesKept.{with_edges}

-- of a new part that names nothing, nothing is read
pub fresh_kept : {A : Type 0} (p : A → List ℕ) (m : ℕ → Option A) (at : ℕ) (e : A) → m at ≡ None → p e ≡ [] → (n : ℕ) → numbers_of p (with_entry m at (Some e) n) ≡ numbers_of p (m n)
fresh_kept {A} p m at e vacant none n = by_case (cases_eq n at)
  where
    by_case : (n ≡ at) ⊎ (n ≢ at) → numbers_of p (with_entry m at (Some e) n) ≡ numbers_of p (m n)
    by_case (inl same) = rw (same, same_number at, vacant) none
    by_case (inr other) = rw (ne_eqb n at other) refl

pub block_built : (g : FlowGraph) (b : ℕ) → g.block b ≡ None → IsWhole g → IsWhole (with_block b g)
block_built g b vacant w =
    with_edges g (with_entry g.block b (Some empty_block)) w
    (fresh_kept (λ x. x.nodes) g.block b empty_block vacant refl)
    (fresh_kept (λ x. x.arriving) g.block b empty_block vacant refl)
    (fresh_kept (λ x. listed x.entry_of) g.block b empty_block vacant refl)
    (λ a c. ap (has_number c) (fresh_kept (λ x. x.after) g.block b empty_block vacant refl a) ∙ (w.edges a c ∙ ap (has_number a) (sym (fresh_kept (λ x. x.before) g.block b empty_block vacant refl c))))

pub cont_built : (g : FlowGraph) (k : ℕ) → g.cont k ≡ None → IsWhole g → IsWhole (with_cont k g)
cont_built g k vacant w =
    record {
      edges = w.edges;
      places = w.places;
      distinct = w.distinct;
      uses = λ a c. w.uses a c ∙ ap (has_number a) (sym (fresh_kept (λ x. x.uses) g.cont k empty_cont vacant refl c));
      operands = λ a c. w.operands a c ∙ ap (has_number a) (sym (fresh_kept (λ x. listed x.dest) g.cont k empty_cont vacant refl c));
      arrivals = w.arrivals;
      exits = w.exits;
      entries = w.entries;
      variables = w.variables;
      functions = w.functions;
      parameters = w.parameters;
      closed = w.closed;
      lambdas = w.lambdas;
      code = w.code;
    }

-- what is there is still there
pub more_there : {A : Type 0} (m : ℕ → Option A) (at : ℕ) (e : A) (xs : List ℕ) → list_all (λ v. is_some (m v)) xs ≡ true → list_all (λ v. is_some (with_entry m at (Some e) v)) xs ≡ true
more_there m at e [] h = refl
more_there {A} m at e (x ∷ xs) h = by_case (cases_eq x at) (is_some (m x)) refl h (more_there m at e xs)
  where
    by_case : (x ≡ at) ⊎ (x ≢ at) → (b : Bool) → is_some (m x) ≡ b → (b && list_all (λ v. is_some (m v)) xs) ≡ true → (list_all (λ v. is_some (m v)) xs ≡ true → list_all (λ v. is_some (with_entry m at (Some e) v)) xs ≡ true) → (is_some (with_entry m at (Some e) x) && list_all (λ v. is_some (with_entry m at (Some e) v)) xs) ≡ true
    by_case z false is q ih = cc
    by_case (inl same) true is q ih = rw (same, same_number at) (ih q)
    by_case (inr other) true is q ih = rw (ne_eqb x at other, is) (ih q)

pub variable_built : (g : FlowGraph) (v : ℕ) (variable : Variable) → IsWhole g → IsWhole (with_variable v variable g)
variable_built g v variable w =
    record {
      edges = w.edges;
      places = w.places;
      distinct = w.distinct;
      uses = w.uses;
      operands = w.operands;
      arrivals = w.arrivals;
      exits = w.exits;
      entries = w.entries;
      variables = λ n. more_there g.variable v variable (variables_at g n) (w.variables n);
      functions = w.functions;
      parameters = λ f. more_there g.variable v variable (parameters_of g f) (w.parameters f);
      closed = λ f. more_there g.variable v variable (closed_of g f) (w.closed f);
      lambdas = w.lambdas;
      code = w.code;
    }
