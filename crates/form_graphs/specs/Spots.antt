-- Places of a graph, and what stands there. (This project's own.)
use Rattle.std.specs.Prelude.{◌≡◌, ℕ, suc, Bool, true, if◌then◌else◌, [], ◌∷◌, slice_get, Option, Some, None}
use Rattle.lisp_base.specs.declared.values.Place.{Place}
use Rattle.lisp_base.specs.Reading.{spec_of}
use Rattle.lisp_base.specs.Spec.{Spec}
use Rattle.core_form.specs.Facts.{Facts, has_number}
use Rattle.icr_graph.specs.declared.nodes.NodeKind.{NodeKind}
use Rattle.icr_graph.specs.declared.parts.Assertion.{Assertion}
use Rattle.icr_graph.specs.declared.parts.Variable.{Variable}
use Rattle.icr_graph.specs.Plain.{FlowGraph, nodes_in, blocks_after}
use Rattle.graph_meaning.specs.Reading.{node_at, assertions_on, is_extent}

-- a place: a block and the number of a node in it
pub record Spot : Type 0 where
  pub block : ℕ
  pub index : ℕ

abbrev pub next : Spot → Spot
next p = record { block = p.block; index = suc p.index }

abbrev pub first_of : ℕ → Spot
first_of b = record { block = b; index = 0 }

-- how many forms pass on what a node delivers, and how many of these box it
pub record Passes : Type 0 where
  pub levels : ℕ
  pub boxing : ℕ

abbrev pub none : Passes
none = record { levels = 0; boxing = 0 }

-- one form more, at a word position or not
abbrev pub through : (word : Bool) → Passes → Passes
through word l = record { levels = suc l.levels; boxing = if word then l.boxing else suc l.boxing }

-- a variable of a graph stands for that of a number in the form, or for its block or tagbody
pub record Stands (facts : Facts) (variable : Variable) (x : ℕ) : Type 0 where
  pub number : variable.number ≡ x
  pub cell : variable.cell ≡ has_number x facts.cells
  pub word : variable.word ≡ has_number x facts.words
  pub extent : is_extent variable.name ≡ has_number x facts.extents

module _ (g : FlowGraph) where
  -- A node of this kind stands there. It delivers to this continuation; its form has this place; so much cost is charged on
  -- it, and its values pass so many forms.
  abbrev pub Here : Spot → NodeKind → Option ℕ → Place → (cost : ℕ) → Passes → Type 0
  Here p k to pl n l =
      (b : ℕ) × (node_at g p.block p.index ≡ Some (record { kind = k; cont = to; block = b; place = pl; charges = record { cost = n; levels = l.levels; boxing = l.boxing } }))

  -- a block ends there, and goes on at this one
  abbrev pub Ends : Spot → ℕ → Type 0
  Ends p b = (node_at g p.block p.index ≡ None) × (blocks_after g p.block ≡ b ∷ [])

  -- a block ends behind this node, and goes on at one of these
  abbrev pub Forks : Spot → (yes_block no_block : ℕ) → Type 0
  Forks p y n = (slice_get (nodes_in g p.block) (suc p.index) ≡ None) × (blocks_after g p.block ≡ y ∷ n ∷ [])

  -- what is asserted on a continuation: nothing; or a type, at a place, with the flag on
  abbrev pub Unasserted : ℕ → Type 0
  Unasserted k = assertions_on (g.cont k) ≡ []

  abbrev pub Asserted : ℕ → Place → Spec → Type 0
  Asserted k pl t =
      (a : Assertion) × (assertions_on (g.cont k) ≡ a ∷ []) × (spec_of a.spec ≡ t) × (a.place ≡ pl) × (a.checked ≡ true)

  -- a variable under this number is that of the form's number
  abbrev pub IsVariable : Facts → (v x : ℕ) → Type 0
  IsVariable facts v x = (variable : Variable) × (g.variable v ≡ Some variable) × Stands facts variable x
