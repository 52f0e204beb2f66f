-- That functions and whole forms stand in a graph. (This project's own.)
use Rattle.std.specs.Prelude.{◌≡◌, ℕ, suc, ◌+◌, Bool, true, false, List, [], ◌∷◌, length, map, slice_get, Option, Some, None}
use Rattle.lisp_base.specs.declared.values.Place.{Place}
use Rattle.lisp_base.specs.Spec.{Spec, spec_size}
use Rattle.core_form.specs.Tree.{Parameter, Optionals, no_optional, optional, Lambda, lambda, Top}
use Rattle.core_form.specs.Facts.{FunctionText, Facts, parameters_of, facts_of, functions_in, function_given}
use Rattle.core_form.specs.State.{Symbol}
use Rattle.core_form.specs.Force.{symbol_kinds_of}
use Rattle.core_form.specs.Step.{all_lexical, optionals_length, has_rest}
use Rattle.icr_graph.specs.declared.nodes.NodeKind.TheVariants as kind
use Rattle.icr_graph.specs.declared.nodes.Leaf.TheVariants as leaf
use Rattle.icr_graph.specs.declared.nodes.Operation.TheVariants as operation
use Rattle.icr_graph.specs.declared.parts.Function.{Function as GraphFunction}
use Rattle.icr_graph.specs.Plain.{FlowGraph}
use Rattle.graph_meaning.specs.Reading.{named, defined_by}
use Rattle.form_graphs.specs.Spots.{Spot, next, first_of, none, Here, Ends, Forks, Unasserted, Asserted}
use Rattle.form_graphs.specs.Standing.{StandsAt, BoundAt, UnboundAt, IsFunction}

-- the parameters that a function requires, how many optional ones it has, and whether it takes further arguments
abbrev pub required_of : Lambda → List Parameter
required_of (lambda k xs os r e) = xs

abbrev pub optional_number : Lambda → ℕ
optional_number (lambda k xs os r e) = optionals_length os

abbrev pub takes_more : Lambda → Bool
takes_more (lambda k xs os r e) = has_rest r

module _ (g : FlowGraph) (facts : Facts) (rank : ℕ → ℕ) where
  -- ---- parameters

  -- The checks of a value, each a node: it stands in the first of these continuations, and when it is tested in the second.
  abbrev pub ChecksStandAt : Place → List Spec → (k j : ℕ) → Spot → Spot → Type 0
  ChecksStandAt pl [] k j p q = Unasserted g k × (k ≡ j) × (p ≡ q)
  ChecksStandAt pl (t ∷ ts) k j p q =
      (i : ℕ) × Asserted g k pl t × Here g p (kind.Combination operation.Pass (k ∷ [])) (Some i) pl (spec_size t) none × ChecksStandAt pl ts i j (next p) q

  -- a parameter, whose value stands in a continuation: its checks, then the variable
  abbrev pub ParameterStandsAt : Place → Parameter → ℕ → Spot → Spot → Type 0
  ParameterStandsAt pl x k p q =
      (j : ℕ) × (r : Spot) × ChecksStandAt pl x.types k j p r × BoundAt g facts rank pl x.variable j r × (q ≡ next r)

  -- those that take the arguments from this number on
  abbrev pub RequiredStandAt : Place → (argument : ℕ) → List Parameter → Spot → Spot → Type 0
  RequiredStandAt pl i [] p q = p ≡ q
  RequiredStandAt pl i (x ∷ xs) p q =
      (k : ℕ) × (r : Spot) × Here g p (kind.Ref (leaf.Argument i)) (Some k) pl 0 none × ParameterStandsAt pl x k (next p) r × RequiredStandAt pl (suc i) xs r q

  -- the variable that tells whether an argument was given
  abbrev pub SuppliedStandsAt : Place → (argument : ℕ) → Option Parameter → Spot → Spot → Type 0
  SuppliedStandsAt pl i None p q = p ≡ q
  SuppliedStandsAt pl i (Some x) p q =
      (k : ℕ) × Here g p (kind.Ref (leaf.Supplied i)) (Some k) pl 0 none × ParameterStandsAt pl x k (next p) q

  -- Optional parameters: each takes its argument where it was given, else the value of its form.
  abbrev pub OptionalsStandAt : Place → (argument : ℕ) → Optionals → Spot → Spot → Type 0
  OptionalsStandAt pl i no_optional p q = p ≡ q
  OptionalsStandAt pl i (optional x e s os) p q =
      (j : ℕ) × (k : ℕ) × (given : ℕ) × (missing : ℕ) × (y : Spot) × (join : ℕ) × (r : Spot) × (z : Spot) ×
      Here g p (kind.Ref (leaf.Supplied i)) (Some j) pl 0 none × Unasserted g j × Here g (next p) (kind.If j) None pl 0 none × Forks g (next p) given missing ×
      Here g (first_of given) (kind.Ref (leaf.Argument i)) (Some k) pl 0 none × Ends g (next (first_of given)) join ×
      StandsAt g facts rank false false e 0 none 0 (Some k) (first_of missing) y × Ends g y join ×
      ParameterStandsAt pl x k (first_of join) r × SuppliedStandsAt pl i s r z × OptionalsStandAt pl (suc i) os z q

  -- the parameter that takes a list of the further arguments
  abbrev pub RestStandsAt : Place → (argument : ℕ) → Option Parameter → Spot → Spot → Type 0
  RestStandsAt pl i None p q = p ≡ q
  RestStandsAt pl i (Some x) p q =
      (k : ℕ) × Here g p (kind.Ref (leaf.RestFrom i)) (Some k) pl 0 none × ParameterStandsAt pl x k (next p) q

  -- the extents of special parameters end, the last one's first
  abbrev pub UnboundAllAt : Place → List Parameter → Spot → Spot → Type 0
  UnboundAllAt pl [] p q = p ≡ q
  UnboundAllAt pl (x ∷ xs) p q = (r : Spot) × UnboundAllAt pl xs p r × UnboundAt g facts rank pl x.variable r q

  -- ---- functions

  -- A function's code begins at a block: its parameters, its body, and the return with the body's values.
  abbrev pub CodeStandsAt : Place → Lambda → ℕ → Type 0
  CodeStandsAt pl (lambda n xs os r e) b =
      (x : Spot) × (y : Spot) × (z : Spot) × (u : Spot) × (v : Spot) × (k : ℕ) × Unasserted g k ×
      RequiredStandAt pl 0 xs (first_of b) x × OptionalsStandAt pl (length xs) os x y × RestStandsAt pl (length xs + optionals_length os) r y z ×
      StandsAt g facts rank (all_lexical (parameters_of (lambda n xs os r e))) false e 0 none 0 (Some k) z u × UnboundAllAt pl (parameters_of (lambda n xs os r e)) u v ×
      Here g v (kind.Return k) None pl 0 none

  -- a function under this number is that of this text, and its code stands in the graph
  pub record FunctionStands (f : ℕ) (text : FunctionText) : Type 0 where
    pub is : IsFunction g facts rank f text
    pub name : is.function.name ≡ text.name
    pub place : is.function.place ≡ text.place
    pub required : is.function.required ≡ length (required_of text.lambda)
    pub optional : is.function.optional ≡ optional_number text.lambda
    pub rest : is.function.rest ≡ takes_more text.lambda
    pub block : ℕ
    pub begins : slice_get is.function.entries 0 ≡ Some block
    pub code : CodeStandsAt text.place text.lambda block

  abbrev pub FunctionsStand : List (Option ℕ) → List FunctionText → Type 0
  FunctionsStand [] [] = Unit {0}
  FunctionsStand [] (t ∷ ts) = ⊥
  FunctionsStand (f ∷ fs) [] = ⊥
  FunctionsStand (None ∷ fs) (t ∷ ts) = ⊥
  FunctionsStand (Some f ∷ fs) (t ∷ ts) = FunctionStands f t × FunctionsStand fs ts

  -- ---- forms

  -- the code of a form itself, whose values its return gives
  pub record FormStands (t : Top) : Type 0 where
    pub function : GraphFunction
    pub there : named g.function g.code ≡ Some function
    pub block : ℕ
    pub begins : slice_get function.entries 0 ≡ Some block
    pub cont : ℕ
    pub free : Unasserted g cont
    pub end : Spot
    pub stands : StandsAt g facts rank true false t.core 0 none 0 (Some cont) (first_of block) end
    pub place : Place
    pub returns : Here g end (kind.Return cont) None place 0 none

  -- a graph of a form with these facts
  pub record StandsWhole (t : Top) : Type 0 where
    pub size : g.size ≡ t.nodes
    pub defines : defined_by 0 g.defines [] ≡ map (λ s. (s, 0)) (function_given t.core)
    pub functions : FunctionsStand g.lambdas (functions_in t.core)
    pub form : FormStands t

-- A graph is that of a top-level form, wherever the form's functions begin among those of the program.
abbrev pub IsGraphOf : List Symbol → Top → FlowGraph → Type 0
IsGraphOf symbols t g =
    (rank : ℕ → ℕ) × ((start : ℕ) → StandsWhole g (facts_of (symbol_kinds_of symbols) start t) rank t)
