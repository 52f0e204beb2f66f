-- Which graphs are well made, beyond that they hang together. (This project's own.)
use Rattle.std.specs.Prelude.{◌≡◌, ◌≢◌, ◌≤◌, ℕ, Bool, true, false, List, [], length, slice_get, Some}
use Rattle.std.specs.List.{list_all}
use Rattle.icr_graph.specs.Lists.{has_number, last_alone}
use Rattle.icr_graph.specs.Faults.{is_node}
use Rattle.icr_graph.specs.Splitting.{ends_with_if}
use Rattle.icr_graph.specs.Plain.{FlowGraph, nodes_in, blocks_after, block_of, entries_of, arrivals_at}
use Rattle.graph_meaning.specs.Reading.{assertions_on}

-- every assertion on every continuation is checked as the program runs
abbrev pub AllChecked : FlowGraph → Type 0
AllChecked g = (k : ℕ) → list_all (λ a. a.checked) (assertions_on (g.cont k)) ≡ true

-- two blocks follow a block whose last node is an If, and at most one follows another
pub record Few (g : FlowGraph) (b : ℕ) : Type 0 where
  pub forks : ends_with_if g b ≡ true → length (blocks_after g b) ≡ 2
  pub others : ends_with_if g b ≡ false → length (blocks_after g b) ≤ 1

abbrev pub FewSuccessors : FlowGraph → Type 0
FewSuccessors g = (b : ℕ) → Few g b

-- ---- functions

-- Each block belongs to one function: to that of which it is an entry, to that of the blocks before it, and to that of the
-- entries whose exits arrive there.
pub record OneFunction (g : FlowGraph) : Type 0 where
  pub owner : ℕ → ℕ
  pub entries : (f b : ℕ) → has_number b (entries_of g f) ≡ true → owner b ≡ f
  pub edges : (b c : ℕ) → has_number c (blocks_after g b) ≡ true → owner c ≡ owner b
  pub arrivals : (n b c : ℕ) → has_number b (block_of g n) ≡ true → has_number c (arrivals_at g n) ≡ true → owner c ≡ owner b

-- ---- while it is built

-- the last node of a block, if it has one, is there; and whether it is an If
pub record EndsWith (is_if : Bool) (g : FlowGraph) (b : ℕ) : Type 0 where
  pub there : list_all (is_node g) (last_alone (nodes_in g b)) ≡ true
  pub is : ends_with_if g b ≡ is_if

-- a block to which nothing more is added
pub record Settled (g : FlowGraph) (b : ℕ) : Type 0 where
  pub there : list_all (is_node g) (last_alone (nodes_in g b)) ≡ true
  pub few : Few g b

-- both blocks belong to a function of this list, which has those of the blocks by their numbers
abbrev pub SameOwner : List ℕ → ℕ → ℕ → Type 0
SameOwner owners b c = (f : ℕ) × (slice_get owners b ≡ Some f) × (slice_get owners c ≡ Some f)

-- so do all of these blocks and this one
abbrev pub AllOwned : List ℕ → ℕ → List ℕ → Type 0
AllOwned owners b cs = (c : ℕ) → has_number c cs ≡ true → SameOwner owners b c

-- the blocks have the owners that are listed, and each that needs one has one
pub record Owned (owners : List ℕ) (g : FlowGraph) : Type 0 where
  pub entries : (f b : ℕ) → has_number b (entries_of g f) ≡ true → slice_get owners b ≡ Some f
  pub edges : (b c : ℕ) → has_number c (blocks_after g b) ≡ true → SameOwner owners b c
  pub arrivals : (n b c : ℕ) → has_number b (block_of g n) ≡ true → has_number c (arrivals_at g n) ≡ true → SameOwner owners b c

-- further blocks may have got owners
abbrev pub MoreOwners : (old new : List ℕ) → Type 0
MoreOwners old new = (b f : ℕ) → slice_get old b ≡ Some f → slice_get new b ≡ Some f

-- No block follows that to which nodes are added, and every other is settled: but for one whose fork failed at its second edge.
pub record Sound (half_forked : Bool) (g : FlowGraph) (block : ℕ) : Type 0 where
  pub none : blocks_after g block ≡ []
  pub checked : AllChecked g
  pub settled : half_forked ≡ false → (b : ℕ) → b ≢ block → Settled g b

-- what holds of a graph that is built: where nodes are added to a block, and the blocks have these owners
pub record IsOrderly (half_forked : Bool) (owners : List ℕ) (g : FlowGraph) (block : ℕ) : Type 0 where
  pub sound : Sound half_forked g block
  pub owned : Owned owners g
