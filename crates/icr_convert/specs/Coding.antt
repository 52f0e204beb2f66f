-- What the conversion of a function's parameters and of its code adds to a graph. (This project's own.)
use Rattle.std.specs.Prelude.{◌≡◌, ℕ, ◌+◌, Bool, true, false, List, [], ◌∷◌, map, length, Option, Some, None, option_map}
use Rattle.lisp_base.specs.declared.values.Place.{Place}
use Rattle.lisp_base.specs.Spec.{Spec}
use Rattle.core_form.specs.declared.tree.Variable.{Variable}
use Rattle.core_form.specs.declared.tree.Variable.TheVariants.{Lexical, Special}
use Rattle.core_form.specs.Tree.{Core, Parameter, Optionals, no_optional, optional, Lambda, lambda}
use Rattle.lisp_base.specs.Reading.{spec_of}
use Rattle.core_form.specs.declared.tree.Optional.{Optional as Optional'}
use Rattle.core_form.specs.Reading.{parameter_of, core_of}
use Rattle.core_form.specs.Step.{optionals_length}
use Rattle.icr_graph.specs.declared.nodes.Leaf.TheVariants as leaf
use Rattle.icr_graph.specs.declared.nodes.NodeKind.TheVariants as kind
use Rattle.icr_graph.specs.declared.nodes.Leaf.{Leaf}
use Rattle.icr_graph.specs.Plain.{FlowGraph}
use Rattle.form_graphs.specs.Spots.{Spot, next, first_of, none, Here, Ends, Forks, Unasserted, Asserted}
use Rattle.form_graphs.specs.Standing.{StandsAt, UnboundAt}
use Rattle.form_graphs.specs.Functions.{ChecksStandAt, ParameterStandsAt, RequiredStandAt, OptionalsStandAt, RestStandsAt, CodeStandsAt}
use Rattle.graph_building.specs.Later.{Lasting}
use Rattle.graph_building.specs.Built.{Built, graph, Grown}
use Rattle.icr_convert.specs.declared.names.Names.{Names}
use Rattle.icr_convert.specs.Naming.{Named, OptionalsNamed, CodeNamed}
use Rattle.icr_convert.specs.Scene.{rank, Scene, texts, Ready}
use Rattle.icr_convert.specs.Converting.{Placed, Means, Taken}

-- the first of these types is asserted on a continuation, if there is one
abbrev pub FirstAsserted : Place → List Spec → ℕ → FlowGraph → Type 0
FirstAsserted pl [] k g = Unasserted g k
FirstAsserted pl (t ∷ ts) k g = Asserted g k pl t

-- the checks of a value, from one continuation to another
abbrev pub Checks : Place → List Spec → (k : ℕ) → Built → Built → (j : ℕ) → Type 0
Checks pl ts k a b j =
    (s : Scene) → Lasting (FirstAsserted pl ts k) (graph a) → Placed (λ h low p q. ChecksStandAt h s.facts rank pl ts k j p q) a b

-- a parameter, whose value stands in a continuation
abbrev pub TakesParameter : Names → Place → Parameter → (k : ℕ) → Built → Built → Type 0
TakesParameter names pl x k a b =
    (s : Scene) → Ready s names (graph a) → Lasting (FirstAsserted pl x.types k) (graph a) → Placed (λ h low p q. ParameterStandsAt h s.facts rank pl x k p q) a b

-- a parameter that takes what a leaf gives, if there is the parameter
abbrev pub GivenStandsAt : FlowGraph → Scene → Place → Leaf → Option Parameter → Spot → Spot → Type 0
GivenStandsAt g s pl l None p q = p ≡ q
GivenStandsAt g s pl l (Some x) p q = (k : ℕ) × Here g p (kind.Ref l) (Some k) pl 0 none × ParameterStandsAt g s.facts rank pl x k (next p) q

abbrev pub TakesGiven : Names → Place → Leaf → Option Parameter → Built → Built → Type 0
TakesGiven names pl l r a b = (s : Scene) → Ready s names (graph a) → Placed (λ h low p q. GivenStandsAt h s pl l r p q) a b

abbrev pub TakesLeaf : Names → Place → Leaf → Parameter → Built → Built → Type 0
TakesLeaf names pl l x = TakesGiven names pl l (Some x)

-- parameters that take the arguments from a number on
abbrev pub TakesRequired : Names → Place → (argument : ℕ) → List Parameter → Built → Built → Type 0
TakesRequired names pl i xs a b = (s : Scene) → Ready s names (graph a) → Placed (λ h low p q. RequiredStandAt h s.facts rank pl i xs p q) a b

abbrev pub TakesOptionals : Names → Place → (argument : ℕ) → Optionals → Built → Built → Type 0
TakesOptionals names pl i os =
    Means names (λ ts. OptionalsNamed ts os) (λ s h low p q. OptionalsStandAt h s.facts rank pl i os p q)

-- all parameters of a function
abbrev pub ParametersStandAt : FlowGraph → Scene → Place → Lambda → Spot → Spot → Type 0
ParametersStandAt g s pl (lambda n xs os r e) p q =
    (x : Spot) × (y : Spot) × RequiredStandAt g s.facts rank pl 0 xs p x × OptionalsStandAt g s.facts rank pl (length xs) os x y × RestStandsAt g s.facts rank pl (length xs + optionals_length os) r y q

abbrev pub TakesParameters : Names → Place → Lambda → Built → Built → Type 0
TakesParameters names pl l = Means names (λ ts. CodeNamed ts l) (λ s h low p q. ParametersStandAt h s pl l p q)

-- a function's body, whose values go to a new continuation
abbrev pub TakesBody : Names → (tail : Bool) → Core → Built → Built → ℕ → Type 0
TakesBody names t e a b k =
    (s : Scene) → Ready s names (graph a) → Named (texts s) e → Taken (λ j h. Unasserted h j) (λ j h low p q. StandsAt h s.facts rank t false e 0 none low (Some j) p q) a b k

-- no variable is special
abbrev pub are_lexical : List Variable → Bool
are_lexical [] = true
are_lexical (Lexical x n ∷ xs) = are_lexical xs
are_lexical (Special x ∷ xs) = false

-- the extents of these variables end, the last one's first
abbrev pub VariablesUnbound : FlowGraph → Scene → Place → List Variable → Spot → Spot → Type 0
VariablesUnbound g s pl [] p q = p ≡ q
VariablesUnbound g s pl (x ∷ xs) p q = (r : Spot) × VariablesUnbound g s pl xs p r × UnboundAt g s.facts rank pl x r q

abbrev pub UnbindsThese : Place → List Variable → Built → Built → Type 0
UnbindsThese pl xs a b = (s : Scene) → Placed (λ h low p q. VariablesUnbound h s pl xs p q) a b

-- a function's code stands from a block on
pub record CodePlaced (s : Scene) (pl : Place) (l : Lambda) (block : ℕ) (a b : Built) : Type 0 where
  pub grown : Grown a b
  pub stands : Lasting (λ h. CodeStandsAt h s.facts rank pl l block) (graph b)

abbrev pub Codes : Names → Place → Lambda → (block : ℕ) → Built → Built → Type 0
Codes names pl l block a b = (s : Scene) → Ready s names (graph a) → CodeNamed (texts s) l → CodePlaced s pl l block a b

-- an optional parameter alone
abbrev pub TakesOptional : Names → Place → (argument : ℕ) → Optional' → Built → Built → Type 0
TakesOptional names pl i o =
    TakesOptionals names pl i (optional (parameter_of o.parameter) (core_of o.default) (option_map parameter_of o.supplied) no_optional)

-- an argument, or the value of a form where it isn't given, is delivered to a continuation
abbrev pub DefaultStands : FlowGraph → Scene → Place → (argument : ℕ) → Core → (k : ℕ) → Spot → Spot → Type 0
DefaultStands g s pl i e k p q =
    (j : ℕ) × (given : ℕ) × (missing : ℕ) × (y : Spot) × (join : ℕ) ×
    Here g p (kind.Ref (leaf.Supplied i)) (Some j) pl 0 none × Unasserted g j × Here g (next p) (kind.If j) None pl 0 none × Forks g (next p) given missing ×
    Here g (first_of given) (kind.Ref (leaf.Argument i)) (Some k) pl 0 none × Ends g (next (first_of given)) join ×
    StandsAt g s.facts rank false false e 0 none 0 (Some k) (first_of missing) y × Ends g y join × (q ≡ first_of join)

pub record DefaultTaken (s : Scene) (pl : Place) (i : ℕ) (ts : List Spec) (e : Core) (a b : Built) (k : ℕ) : Type 0 where
  pub placed : Placed (λ h low p q. DefaultStands h s pl i e k p q) a b
  pub lasts : Lasting (FirstAsserted pl ts k) (graph b)

abbrev pub TakesOrDefault : Names → Place → (argument : ℕ) → Optional' → Built → Built → ℕ → Type 0
TakesOrDefault names pl i o a b k =
    (s : Scene) → Ready s names (graph a) → Named (texts s) (core_of o.default) → DefaultTaken s pl i (map spec_of o.parameter.types.items) (core_of o.default) a b k
