-- Runs of two lists of graphs that differ in one graph: which machines of the two go along with each other.
use Rattle.std.proofs.Common.{◌≡◌, ◌≢◌, refl, ℕ, suc, Bool, true, false, if◌then◌else◌, List, [], ◌∷◌, Option, Some, None}
use Rattle.lisp_base.specs.declared.values.Val.{Val}
use Rattle.core_form.specs.State.{State}
use Rattle.core_form.specs.Effect.{Ended, Gave, Left, Failed}
use Rattle.core_form.specs.Force.{Vals, Force}
use Rattle.icr_graph.specs.declared.nodes.Node.{Node}
use Rattle.icr_graph.specs.declared.nodes.NodeKind.{NodeKind}
use Rattle.icr_graph.specs.declared.nodes.Tag.{Tag}
use Rattle.icr_graph.specs.declared.parts.Cont.{Cont}
use Rattle.icr_graph.specs.declared.parts.Block.{Block}
use Rattle.icr_graph.specs.declared.parts.Function.{Function}
use Rattle.icr_graph.specs.Lists.{has_number}
use Rattle.icr_graph.specs.Plain.{FlowGraph}
use Rattle.graph_meaning.specs.Machine.{Delivered, nothing, delivered_to, Activation, advanced, at_block, with_force, holding, Waiting, Caller, Landing, Tagged, Guarding, Binding, Keeping, Giving, Going_on, Control, Going, Calling, Returning, Leaving, Stopped, Next, Over, Machine, after}
use Rattle.graph_meaning.specs.Reading.{node_at}

-- A graph, its number in the list, and the nodes, continuations and blocks that it has instead: the places of the two that
-- go along with each other, and what continuations hold in both.
pub record Edit : Type 1 where
  pub number : ℕ
  pub text : FlowGraph
  pub nodes : ℕ → Option Node
  pub conts : ℕ → Option Cont
  pub blocks : ℕ → Option Block
  pub Spot : (block index : ℕ) → (block' index' : ℕ) → Type 0
  pub Held : Delivered → Delivered → Type 0
  pub fresh : Held nothing nothing
  pub delivering : (k : Option ℕ) (vs : Vals) (d d' : Delivered) → Held d d' → Held (delivered_to k vs d) (delivered_to k vs d')
  pub entered : (j : ℕ) (f : Function) → text.function j ≡ Some f → (b : ℕ) → has_number b f.entries ≡ true → Spot b 0 b 0

-- a graph with other nodes, continuations and blocks
abbrev pub with_others : FlowGraph → (ℕ → Option Node) → (ℕ → Option Cont) → (ℕ → Option Block) → FlowGraph
with_others h ns cs bs = record h { node = ns; cont = cs; block = bs }

-- a node of another kind, in another block
abbrev pub of_kind : NodeKind → ℕ → Node → Node
of_kind k x nd = record nd { kind = k; block = x }

abbrev pub edited : Edit → FlowGraph
edited E = with_others E.text E.nodes E.conts E.blocks

abbrev pub activation_at : (graph block index : ℕ) → Delivered → Vals → (born : ℕ) → Force → Activation
activation_at c b i d vs born f = record { graph = c; block = b; index = i; delivered = d; arguments = vs; born = born; force = f }

-- ---- activations

-- activations of the two lists: in another graph they are the same
pub data Stands (E : Edit) : Activation → Activation → Type 0 where
  elsewhere : (a : Activation) → a.graph ≢ E.number → Stands E a a
  within : {b i b' i' : ℕ} {d d' : Delivered} (vs : Vals) (born : ℕ) (f : Force) → E.Spot b i b' i' → E.Held d d' →
      Stands E (activation_at E.number b i d vs born f) (activation_at E.number b' i' d' vs born f)

-- those that stand at nodes which deliver alike, so that the values of a call may come back
pub data Pauses (E : Edit) : Activation → Activation → Type 0 where
  elsewhere_at : (a : Activation) → a.graph ≢ E.number → Pauses E a a
  within_at : {b i b' i' : ℕ} {d d' : Delivered} (vs : Vals) (born : ℕ) (f : Force) (nd : Node) (k : NodeKind) (x : ℕ) →
      node_at E.text b i ≡ Some nd → node_at (edited E) b' i' ≡ Some (of_kind k x nd) →
      E.Spot b i b' i' → E.Spot b (suc i) b' (suc i') → E.Held d d' →
      Pauses E (activation_at E.number b i d vs born f) (activation_at E.number b' i' d' vs born f)

-- ---- what waits

-- an exit may arrive at this block of a graph
abbrev pub Arrives : Edit → (graph block : ℕ) → Type 0
Arrives E c b = c ≡ E.number → E.Spot b 0 b 0

abbrev pub AllArrive : Edit → ℕ → List ℕ → Type 0
AllArrive E c [] = Unit {0}
AllArrive E c (b ∷ bs) = Arrives E c b × AllArrive E c bs

abbrev pub TagsArrive : Edit → ℕ → List Tag → Type 0
TagsArrive E c [] = Unit {0}
TagsArrive E c (t ∷ ts) = Arrives E c t.block × TagsArrive E c ts

-- the blocks that an extent of a graph names
abbrev pub Lies : Edit → ℕ → Waiting → Type 0
Lies E c (Caller tail frame a) = ⊥
Lies E c (Landing e k at f) = Arrives E c at.block
Lies E c (Tagged e tags f) = TagsArrive E c tags
Lies E c (Guarding cleanup f) = Arrives E c cleanup
Lies E c (Binding x old f) = Unit {0}
Lies E c (Keeping vs f) = Unit {0}
Lies E c (Giving vs f) = Unit {0}
Lies E c (Going_on e f) = Unit {0}

-- what waits round an activation of a graph: the same, but for callers
pub data Waits (E : Edit) : ℕ → List Waiting → List Waiting → Type 0 where
  no_more : {c : ℕ} → Waits E c [] []
  same : {c : ℕ} {ws ws' : List Waiting} (w : Waiting) → Lies E c w → Waits E c ws ws' → Waits E c (w ∷ ws) (w ∷ ws')
  called : {c : ℕ} {ws ws' : List Waiting} (tail : Bool) (frame : List (ℕ × Val)) (a a' : Activation) → Pauses E a a' → Waits E a.graph ws ws' →
      Waits E c (Caller tail frame a ∷ ws) (Caller tail frame a' ∷ ws')

-- ---- machines

-- between two forms, and behind the last
abbrev pub Rests : Control → Type 0
Rests (Next n v) = Unit {0}
Rests (Over v) = Unit {0}
Rests Going = ⊥
Rests (Calling tail k closed vs entry) = ⊥
Rests (Returning vs) = ⊥
Rests (Leaving e) = ⊥
Rests (Stopped x p) = ⊥

-- within a function, and not at a call that has begun
abbrev pub IsAfoot : Control → Type 0
IsAfoot Going = Unit {0}
IsAfoot (Returning vs) = Unit {0}
IsAfoot (Leaving e) = Unit {0}
IsAfoot (Stopped x p) = Unit {0}
IsAfoot (Calling tail k closed vs entry) = ⊥
IsAfoot (Next n v) = ⊥
IsAfoot (Over v) = ⊥

-- machines that go along with each other: the same comes next, the states are equal
pub data Alike (E : Edit) : Machine → Machine → Type 0 where
  alike : (c : Control) → IsAfoot c → {a a' : Activation} {ws ws' : List Waiting} (s : State) → Stands E a a' → Waits E a.graph ws ws' →
      Alike E (record { control = c; here = a; waiting = ws; state = s }) (record { control = c; here = a'; waiting = ws'; state = s })
  call : (tail : Bool) (k : ℕ) (closed vs : Vals) (entry : Option ℕ) (frame : List (ℕ × Val)) {a a' : Activation} {ws ws' : List Waiting} (s : State) → Pauses E a a' → Waits E a.graph ws ws' →
      Alike E (record { control = Calling tail k closed vs entry; here = a; waiting = Caller tail frame a ∷ ws; state = s }) (record { control = Calling tail k closed vs entry; here = a'; waiting = Caller tail frame a' ∷ ws'; state = s })
  rests : (c : Control) (a a' : Activation) (s : State) → Rests c →
      Alike E (record { control = c; here = a; waiting = []; state = s }) (record { control = c; here = a'; waiting = []; state = s })

module _ (E : Edit) where
  -- ---- activations that go on

  pub stands : {a a' : Activation} → Pauses E a a' → Stands E a a'
  stands (elsewhere_at a h) = elsewhere a h
  stands (within_at vs born f nd k x at at' spot next held) = within vs born f spot held

  pub goes_on : {a a' : Activation} → Pauses E a a' → (k : Option ℕ) (vs : Vals) → Stands E (advanced (holding k vs a)) (advanced (holding k vs a'))
  goes_on (elsewhere_at a h) k vs = elsewhere (advanced (holding k vs a)) h
  goes_on (within_at us born f nd kd x at at' spot next held) k vs = within us born f next (E.delivering k vs _ _ held)

  pub next_to : {a a' : Activation} → Pauses E a a' → Stands E (advanced a) (advanced a')
  next_to p = goes_on p None []

  pub forced : {a a' : Activation} → Pauses E a a' → (f : Force) → Pauses E (with_force f a) (with_force f a')
  forced (elsewhere_at a h) f = elsewhere_at (with_force f a) h
  forced (within_at us born f' nd kd x at at' spot next held) f = within_at us born f nd kd x at at' spot next held

  pub stands_forced : {a a' : Activation} → Stands E a a' → (f : Force) → Stands E (with_force f a) (with_force f a')
  stands_forced (elsewhere a h) f = elsewhere (with_force f a) h
  stands_forced (within us born f' spot held) f = within us born f spot held

  pub comes_at : {a a' : Activation} → Stands E a a' → (b : ℕ) → Arrives E a.graph b → Stands E (at_block b a) (at_block b a')
  comes_at (elsewhere a h) b to = elsewhere (at_block b a) h
  comes_at (within us born f spot held) b to = within us born f (to refl) held

  pub stands_holding : {a a' : Activation} → Stands E a a' → (k : Option ℕ) (vs : Vals) → Stands E (holding k vs a) (holding k vs a')
  stands_holding (elsewhere a h) k vs = elsewhere (holding k vs a) h
  stands_holding (within us born f spot held) k vs = within us born f spot (E.delivering k vs _ _ held)

  -- ---- what follows an effect

  pub after_alike : {A : Type 0} {a a' : Activation} {ws ws' : List Waiting} (next next' : A → State → Machine) (o : Ended A) →
      Stands E a a' → Waits E a.graph ws ws' → ((r : A) (t : State) → Alike E (next r t) (next' r t)) → Alike E (after a ws next o) (after a' ws' next' o)
  after_alike next next' (Gave r s) st w h = h r s
  after_alike next next' (Left e s) st w h = alike (Leaving e) tt s st w
  after_alike next next' (Failed x p s) st w h = alike (Stopped x p) tt s st w

  pub either_alike : (t : Bool) (m k m' k' : Machine) → Alike E m m' → Alike E k k' → Alike E (if t then m else k) (if t then m' else k')
  either_alike true m k m' k' h l = h
  either_alike false m k m' k' h l = l
