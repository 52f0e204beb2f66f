-- What the nodes of a flow graph name. This project's own.
use Rattle.std.specs.Prelude.{ℕ, Bool, true, false, List, [], ◌∷◌, map}
use Rattle.icr_graph.specs.declared.nodes.Leaf.{Leaf}
use Rattle.icr_graph.specs.declared.nodes.Leaf.TheVariants as leaf
use Rattle.icr_graph.specs.declared.nodes.Operation.{Operation}
use Rattle.icr_graph.specs.declared.nodes.Operation.TheVariants as operation
use Rattle.icr_graph.specs.declared.nodes.Extent.{Extent}
use Rattle.icr_graph.specs.declared.nodes.Extent.TheVariants as extent
use Rattle.icr_graph.specs.declared.nodes.Leaving.{Leaving}
use Rattle.icr_graph.specs.declared.nodes.Leaving.TheVariants as leaving
use Rattle.icr_graph.specs.declared.nodes.NodeKind.{NodeKind}
use Rattle.icr_graph.specs.declared.nodes.NodeKind.TheVariants as kind
use Rattle.icr_graph.specs.Lists.{without, renumber, renumbered, other_than, listed}

-- ---- operands: the continuations of which a node is the destination

abbrev pub extent_operands : Extent → List ℕ
extent_operands (extent.Named v land) = []
extent_operands (extent.Tags v tags) = []
extent_operands (extent.Catching tag land) = tag ∷ []
extent_operands (extent.Guarded cleanup) = []
extent_operands (extent.Special s value) = value ∷ []
extent_operands (extent.Keep values) = values ∷ []

abbrev pub leaving_operands : Leaving → List ℕ
leaving_operands leaving.Close = []
leaving_operands (leaving.Guard values) = values ∷ []
leaving_operands leaving.Resume = []
leaving_operands leaving.Release = []
leaving_operands (leaving.ReturnFrom s values) = values ∷ []
leaving_operands (leaving.Go tag s) = []
leaving_operands (leaving.Throw tag values) = tag ∷ values ∷ []

abbrev pub operands_of : NodeKind → List ℕ
operands_of (kind.Ref l) = []
operands_of (kind.Set v value) = value ∷ []
operands_of (kind.If test) = test ∷ []
operands_of (kind.Combination op operands) = operands
operands_of (kind.MvCombination function operands tail) = function ∷ operands
operands_of (kind.Bind v value) = value ∷ []
operands_of (kind.Return value) = value ∷ []
operands_of (kind.Entry x exits) = extent_operands x
operands_of (kind.Exit l entry) = leaving_operands l

-- ---- the same with another continuation in the place of an operand

abbrev pub extent_taking : ℕ → ℕ → Extent → Extent
extent_taking old new (extent.Named v land) = extent.Named v land
extent_taking old new (extent.Tags v tags) = extent.Tags v tags
extent_taking old new (extent.Catching tag land) = extent.Catching (renumber old new tag) land
extent_taking old new (extent.Guarded cleanup) = extent.Guarded cleanup
extent_taking old new (extent.Special s value) = extent.Special s (renumber old new value)
extent_taking old new (extent.Keep values) = extent.Keep (renumber old new values)

abbrev pub leaving_taking : ℕ → ℕ → Leaving → Leaving
leaving_taking old new leaving.Close = leaving.Close
leaving_taking old new (leaving.Guard values) = leaving.Guard (renumber old new values)
leaving_taking old new leaving.Resume = leaving.Resume
leaving_taking old new leaving.Release = leaving.Release
leaving_taking old new (leaving.ReturnFrom s values) = leaving.ReturnFrom s (renumber old new values)
leaving_taking old new (leaving.Go tag s) = leaving.Go tag s
leaving_taking old new (leaving.Throw tag values) = leaving.Throw (renumber old new tag) (renumber old new values)

abbrev pub taking : ℕ → ℕ → NodeKind → NodeKind
taking old new (kind.Ref l) = kind.Ref l
taking old new (kind.Set v value) = kind.Set v (renumber old new value)
taking old new (kind.If test) = kind.If (renumber old new test)
taking old new (kind.Combination op operands) = kind.Combination op (renumbered old new operands)
taking old new (kind.MvCombination function operands tail) = kind.MvCombination (renumber old new function) (renumbered old new operands) tail
taking old new (kind.Bind v value) = kind.Bind v (renumber old new value)
taking old new (kind.Return value) = kind.Return (renumber old new value)
taking old new (kind.Entry x exits) = kind.Entry (extent_taking old new x) exits
taking old new (kind.Exit l entry) = kind.Exit (leaving_taking old new l) entry

-- ---- non-local entries: the blocks at which exits, throws and unwindings arrive

abbrev pub extent_arrivals : Extent → List ℕ
extent_arrivals (extent.Named v land) = land ∷ []
extent_arrivals (extent.Tags v tags) = map (λ t. t.block) tags
extent_arrivals (extent.Catching tag land) = land ∷ []
extent_arrivals (extent.Guarded cleanup) = cleanup ∷ []
extent_arrivals (extent.Special s value) = []
extent_arrivals (extent.Keep values) = []

abbrev pub arrivals_of : NodeKind → List ℕ
arrivals_of (kind.Entry x exits) = extent_arrivals x
arrivals_of k = []

-- ---- an entry and its exits

-- the entry that an exit names
abbrev pub entry_left : NodeKind → List ℕ
entry_left (kind.Exit l entry) = listed entry
entry_left k = []

-- the exits that an entry names
abbrev pub exits_of : NodeKind → List ℕ
exits_of (kind.Entry x exits) = exits
exits_of k = []

-- the entry of an exit, and the exits of an entry
abbrev pub partners_of : NodeKind → List ℕ
partners_of (kind.Entry x exits) = exits
partners_of (kind.Exit l entry) = listed entry
partners_of k = []

-- the same without a node, as its entry or among its exits
abbrev pub apart_from : ℕ → NodeKind → NodeKind
apart_from n (kind.Entry x exits) = kind.Entry x (without n exits)
apart_from n (kind.Exit l entry) = kind.Exit l (other_than n entry)
apart_from n k = k

-- ---- variables and functions

abbrev pub leaf_variables : Leaf → List ℕ
leaf_variables (leaf.Variable v) = v ∷ []
leaf_variables l = []

abbrev pub extent_variables : Extent → List ℕ
extent_variables (extent.Named v land) = v ∷ []
extent_variables (extent.Tags v tags) = v ∷ []
extent_variables x = []

abbrev pub variables_of : NodeKind → List ℕ
variables_of (kind.Ref l) = leaf_variables l
variables_of (kind.Set v value) = v ∷ []
variables_of (kind.Bind v value) = v ∷ []
variables_of (kind.Entry x exits) = extent_variables x
variables_of k = []

abbrev pub leaf_functions : Leaf → List ℕ
leaf_functions (leaf.Functional f) = f ∷ []
leaf_functions (leaf.Closed f counted) = f ∷ []
leaf_functions l = []

abbrev pub operation_functions : Operation → List ℕ
operation_functions (operation.CallKnown f entry tail) = f ∷ []
operation_functions op = []

abbrev pub functions_of : NodeKind → List ℕ
functions_of (kind.Ref l) = leaf_functions l
functions_of (kind.Combination op operands) = operation_functions op
functions_of k = []

-- whether a node chooses between the successors of its block
abbrev pub is_if : NodeKind → Bool
is_if (kind.If test) = true
is_if k = false

abbrev pub is_entry_kind : NodeKind → Bool
is_entry_kind (kind.Entry x exits) = true
is_entry_kind k = false

abbrev pub is_exit_kind : NodeKind → Bool
is_exit_kind (kind.Exit l entry) = true
is_exit_kind k = false
