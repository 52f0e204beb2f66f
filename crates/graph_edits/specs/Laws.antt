-- That edits keep the meaning of a graph, as the contracts of this crate state it. (This project's own.)
use Rattle.std.specs.Prelude.{◌≡◌, ◌≢◌, ℕ, Bool, true, false, not, ◌==◌, List, ◌∷◌, ◌++◌, length, slice_get, Some, None}
use Rattle.std.specs.List.{list_any, list_all}
use Rattle.layers.specs.Input.{Input}
use Rattle.layers.specs.Layer.{after}
use Rattle.layers.specs.Among.{KeepsAmong}
use Rattle.core_form.specs.State.{Symbol, Object, State}
use Rattle.core_form.specs.Force.{Vals}
use Rattle.icr_graph.specs.Lists.{has_number}
use Rattle.icr_graph.specs.Plain.{FlowGraph, nodes_in, blocks_after, block_of, dest_of, arrivals_at, entry_left_at, entries_of}
use Rattle.icr_graph.specs.Whole.{IsWhole}
use Rattle.icr_graph.specs.declared.nodes.Leaf.{Leaf}
use Rattle.icr_graph.specs.declared.nodes.Leaf.TheVariants as leaf
use Rattle.icr_graph.specs.declared.nodes.Operation.TheVariants as operation
use Rattle.icr_graph.specs.declared.nodes.NodeKind.{NodeKind}
use Rattle.icr_graph.specs.declared.nodes.NodeKind.TheVariants as kind
use Rattle.icr_graph.specs.declared.nodes.Node.{Node}
use Rattle.icr_graph.specs.declared.parts.Assertion.{Assertion}
use Rattle.icr_graph.specs.Kinds.{operands_of}
use Rattle.icr_graph.specs.Edits.{joined, substituted_at, without_node, deleted}
use Rattle.icr_graph.specs.Faults.{substitute_fault, retire_fault, delete_fault}
use Rattle.icr_graph.specs.Splitting.{split_fault, split_behind, join_fault}
use Rattle.graph_meaning.specs.Machine.{values_at, Activation, advanced, holding, taking, Waiting, Going, Machine, going}
use Rattle.graph_meaning.specs.Reading.{assertions_on}
use Rattle.graph_meaning.specs.Running.{runs_node, step}
use Rattle.graph_meaning.specs.AsLayer.{first_machine, graphs_together}

-- at each moment of each run of graphs among which this one is, whatever the others are, this holds of its number and the machine
abbrev pub AtEachMoment : List Object → List Symbol → FlowGraph → (ℕ → Machine → Type 0) → Type 0
AtEachMoment heap symbols g P =
    (prelude : ℕ) (before behind : List FlowGraph) (input : Input) (k : ℕ) →
    P (length before) (after (step symbols (before ++ g ∷ behind)) k (first_machine heap symbols prelude (before ++ g ∷ behind) input.letters))

-- in every place among any other graphs, each of the two keeps what the other means
abbrev pub MeansTheSame : List Object → List Symbol → FlowGraph → FlowGraph → Type 0
MeansTheSame heap symbols g h = KeepsAmong (graphs_together heap symbols) g h × KeepsAmong (graphs_together heap symbols) h g

-- ---- blocks

-- a block that is split behind a node, into itself and a new block
abbrev pub SplitKept : Type 0
SplitKept =
    (heap : List Object) (symbols : List Symbol) (g : FlowGraph) (n new : ℕ) →
    IsWhole g → split_fault g n ≡ None → g.block new ≡ None → MeansTheSame heap symbols g (split_behind n (block_of g n) new g)

-- two blocks that are joined
abbrev pub JoinKept : Type 0
JoinKept =
    (heap : List Object) (symbols : List Symbol) (g : FlowGraph) (first second : ℕ) →
    IsWhole g → join_fault g first second ≡ None → MeansTheSame heap symbols g (joined first second g)

-- ---- a continuation that is taken in the place of another

-- where one of these nodes of the graph of this number comes next, the two continuations hold the same values
abbrev pub HoldTheSame : FlowGraph → (number : ℕ) → (takers : List ℕ) → (old new : ℕ) → Machine → Type 0
HoldTheSame g number takers old new m =
    m.control ≡ Going → m.here.graph ≡ number → (n : ℕ) → slice_get (nodes_in g m.here.block) m.here.index ≡ Some n → has_number n takers ≡ true →
    values_at m.here.delivered old ≡ values_at m.here.delivered new

-- so it is at each moment
abbrev pub TakesTheSame : List Object → List Symbol → FlowGraph → (takers : List ℕ) → (old new : ℕ) → Type 0
TakesTheSame heap symbols g takers old new = AtEachMoment heap symbols g (λ number m. HoldTheSame g number takers old new m)

-- The destination takes the new continuation in the place of the old, of which the same is asserted, and finds the same
-- values in both whenever it runs, before and after.
abbrev pub SubstitutionKept : Type 0
SubstitutionKept =
    (heap : List Object) (symbols : List Symbol) (g : FlowGraph) (old new : ℕ) →
    IsWhole g → substitute_fault g old new ≡ None → assertions_on (g.cont old) ≡ assertions_on (g.cont new) →
    TakesTheSame heap symbols g (dest_of g old) old new →
    TakesTheSame heap symbols (substituted_at (dest_of g old) old new g) (dest_of g old) old new →
    MeansTheSame heap symbols g (substituted_at (dest_of g old) old new g)

-- ---- a node that is retired

-- Wherever the node runs, it takes its operands, gives some values to its continuation, and nothing else happens: it has no
-- effect, doesn't fail, costs nothing and counts nothing.
abbrev pub HasNoEffect : FlowGraph → ℕ → Type 0
HasNoEffect g n =
    (nd : Node) → g.node n ≡ Some nd → (start : ℕ) (a : Activation) (ws : List Waiting) (s : State) → slice_get (nodes_in g a.block) a.index ≡ Some n →
    (vs : Vals) × (runs_node g start nd a ws s ≡ going (advanced (holding nd.cont vs (taking (operands_of nd.kind) a))) ws s)

-- a leaf that is only read: a constant, a variable, an argument, or whether there is one
abbrev pub is_reading : Leaf → Bool
is_reading (leaf.Constant v) = true
is_reading (leaf.Variable x) = true
is_reading (leaf.Argument i) = true
is_reading (leaf.Supplied i) = true
is_reading l = false

-- whether a node of this kind only reads, tests a type or passes values on
abbrev pub is_plain : NodeKind → Bool
is_plain (kind.Ref l) = is_reading l
is_plain (kind.Combination (operation.Is t) ks) = true
is_plain (kind.Combination operation.Values ks) = true
is_plain (kind.Combination operation.Pass ks) = true
is_plain k = false

-- whether none of these assertions is tested
abbrev pub are_unchecked : List Assertion → Bool
are_unchecked ts = list_all (λ t. not t.checked) ts

-- a plain node that costs nothing and counts nothing, of whose operands nothing is tested
pub record IsIdle (g : FlowGraph) (nd : Node) : Type 0 where
  pub plain : is_plain nd.kind ≡ true
  pub cost : nd.charges.cost ≡ 0
  pub levels : nd.charges.levels ≡ 0
  pub boxing : nd.charges.boxing ≡ 0
  pub unchecked : list_all (λ k. are_unchecked (assertions_on (g.cont k))) (operands_of nd.kind) ≡ true

abbrev pub IdleHaveNoEffect : Type 0
IdleHaveNoEffect = (g : FlowGraph) (n : ℕ) (nd : Node) → g.node n ≡ Some nd → IsIdle g nd → HasNoEffect g n

-- a node without an effect, whose values nobody takes, is gone
abbrev pub RetiringKept : Type 0
RetiringKept =
    (heap : List Object) (symbols : List Symbol) (g : FlowGraph) (n : ℕ) →
    IsWhole g → retire_fault g n ≡ None → HasNoEffect g n → MeansTheSame heap symbols g (without_node n g)

-- ---- a block that is deleted

-- These blocks of a graph are cut off: no other block leads to one, no node in another lets exits arrive at one, and no
-- function begins at one.
pub record AreCutOff (g : FlowGraph) (cut : ℕ → Bool) : Type 0 where
  pub edges : (b : ℕ) → cut b ≡ false → list_any cut (blocks_after g b) ≡ false
  pub arrivals : (b n : ℕ) → cut b ≡ false → has_number n (nodes_in g b) ≡ true → list_any cut (arrivals_at g n) ≡ false
  pub entries : (f : ℕ) → list_any cut (entries_of g f) ≡ false

-- where a run stands in the graph of this number, its block is not one of these
abbrev pub StandsElsewhere : (number : ℕ) → (cut : ℕ → Bool) → Machine → Type 0
StandsElsewhere number cut m = m.control ≡ Going → m.here.graph ≡ number → cut m.here.block ≡ false

-- no run ever stands in a block that is cut off
abbrev pub CutOffUnreached : Type 0
CutOffUnreached =
    (heap : List Object) (symbols : List Symbol) (g : FlowGraph) (cut : ℕ → Bool) →
    IsWhole g → AreCutOff g cut → AtEachMoment heap symbols g (λ number m. StandsElsewhere number cut m)

-- a block that may be deleted is cut off
abbrev pub DeletableCutOff : Type 0
DeletableCutOff = (g : FlowGraph) (b : ℕ) → IsWhole g → delete_fault g b ≡ None → AreCutOff g (λ c. c == b)

-- where an exit of the graph of this number comes next, it names none of these entries
abbrev pub LeavesNone : FlowGraph → (number : ℕ) → (entries : List ℕ) → Machine → Type 0
LeavesNone g number entries m =
    m.control ≡ Going → m.here.graph ≡ number → (n e : ℕ) → slice_get (nodes_in g m.here.block) m.here.index ≡ Some n →
    has_number e (entry_left_at g n) ≡ true → has_number e entries ≢ true

-- The block is gone with its nodes. No run comes to an exit that names an entry of the block: it would find no entry afterwards.
abbrev pub DeletionKept : Type 0
DeletionKept =
    (heap : List Object) (symbols : List Symbol) (g : FlowGraph) (b : ℕ) →
    IsWhole g → delete_fault g b ≡ None → AtEachMoment heap symbols g (λ number m. LeavesNone g number (nodes_in g b) m) →
    MeansTheSame heap symbols g (deleted b g)

-- every exit that names one of these entries stands in a block that is cut off
abbrev pub AreLeftInside : FlowGraph → (cut : ℕ → Bool) → (entries : List ℕ) → Type 0
AreLeftInside g cut entries =
    (b n e : ℕ) → has_number n (nodes_in g b) ≡ true → has_number e (entry_left_at g n) ≡ true → has_number e entries ≡ true → cut b ≡ true

-- so it is, by the shape of the graph, where such exits stand in blocks that are cut off
abbrev pub DeletionByShapeKept : Type 0
DeletionByShapeKept =
    (heap : List Object) (symbols : List Symbol) (g : FlowGraph) (b : ℕ) (cut : ℕ → Bool) →
    IsWhole g → delete_fault g b ≡ None → AreCutOff g cut → AreLeftInside g cut (nodes_in g b) → MeansTheSame heap symbols g (deleted b g)
