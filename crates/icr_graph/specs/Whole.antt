-- Which graphs hang together: every link is mutual, and every number that is named is live. This project's own.
use Rattle.std.specs.Prelude.{◌≡◌, ℕ, Bool, true, List, is_some}
use Rattle.std.specs.List.{list_all}
use Rattle.icr_graph.specs.Lists.{has_number, are_distinct, listed, those_there}
use Rattle.icr_graph.specs.Plain.{FlowGraph, nodes_in, blocks_before, blocks_after, arriving_at, entered_by, block_of, cont_of, operands_at, arrivals_at, entry_left_at, exits_at, variables_at, functions_at, uses_of, dest_of, entries_of, parameters_of, closed_of}

-- b is named at a exactly where a is named at b
abbrev pub Mutual : (ℕ → List ℕ) → (ℕ → List ℕ) → Type 0
Mutual there back = (a b : ℕ) → has_number b (there a) ≡ has_number a (back b)

-- all of these are variables of the graph
abbrev pub are_variables : FlowGraph → List ℕ → Bool
are_variables g numbers = list_all (λ v. is_some (g.variable v)) numbers

-- all of these are functions of the graph
abbrev pub are_functions : FlowGraph → List ℕ → Bool
are_functions g numbers = list_all (λ f. is_some (g.function f)) numbers

pub record IsWhole (g : FlowGraph) : Type 0 where
  -- the blocks after a block, and those before it
  pub edges : Mutual (blocks_after g) (blocks_before g)
  -- the block of a node, and the nodes of a block
  pub places : Mutual (block_of g) (nodes_in g)
  -- a node stands in its block once
  pub distinct : (b : ℕ) → are_distinct (nodes_in g b) ≡ true
  -- where a node delivers to, and the uses of a continuation
  pub uses : Mutual (cont_of g) (uses_of g)
  -- the operands of a node, and the destination of a continuation
  pub operands : Mutual (operands_at g) (dest_of g)
  -- the non-local entries of an entry, and the entries that arrive at a block
  pub arrivals : Mutual (arrivals_at g) (arriving_at g)
  -- the entry of an exit, and the exits of an entry
  pub exits : Mutual (entry_left_at g) (exits_at g)
  -- the entries of a function, and the function of an entry
  pub entries : Mutual (entries_of g) (entered_by g)
  -- the variables and functions that are named
  pub variables : (n : ℕ) → are_variables g (variables_at g n) ≡ true
  pub functions : (n : ℕ) → are_functions g (functions_at g n) ≡ true
  pub parameters : (f : ℕ) → are_variables g (parameters_of g f) ≡ true
  pub closed : (f : ℕ) → are_variables g (closed_of g f) ≡ true
  -- the functions of the form's lambdas, and that of its own code
  pub lambdas : are_functions g (those_there g.lambdas) ≡ true
  pub code : are_functions g (listed g.code) ≡ true
