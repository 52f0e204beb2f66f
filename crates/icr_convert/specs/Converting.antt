-- What the conversion of a form, and of its parts, adds to a graph. (This project's own.)
use Rattle.std.specs.Prelude.{◌≡◌, ℕ, suc, ◌+◌, ◌≤◌, drop, Bool, true, false, if◌then◌else◌, List, [], ◌∷◌, Option, Some, None}
use Rattle.lisp_base.specs.declared.values.Place.{Place}
use Rattle.lisp_base.specs.declared.primitives.Primitive.{Primitive as Operation}
use Rattle.lisp_base.specs.Spec.{Spec}
use Rattle.core_form.specs.Tree.{Core, Cores, no_core, core, Bindings, Items, no_item, tag, step}
use Rattle.core_form.specs.Primitives.{row_of}
use Rattle.icr_graph.specs.declared.nodes.Charges.{Charges}
use Rattle.icr_graph.specs.declared.nodes.Tag.{Tag}
use Rattle.icr_graph.specs.Plain.{FlowGraph}
use Rattle.form_graphs.specs.Spots.{Spot, next, Passes, none, through, Here, Unasserted}
use Rattle.form_graphs.specs.Standing.{StandsAt, AllStandAt, OperandsStandAt, InitialsStandAt, GatheredStandAt, ItemsStandAt, AssertedType, AllBelow, AllFree, SameLength, ReleaseAll, BindAll, UnbindAll, BoundAt, UnboundAt, LeavesExtent, IsFunction, IsFree, next_type}
use Rattle.graph_building.specs.Later.{Lasting}
use Rattle.graph_building.specs.Built.{Built, graph, spot, Grown, Beside, NewNode, FreeCont, AssertedCont}
use Rattle.lisp_base.specs.Sort.{nil}
use Rattle.icr_graph.specs.declared.nodes.NodeKind.TheVariants as kind
use Rattle.icr_graph.specs.declared.nodes.Leaf.TheVariants as leaf
use Rattle.icr_graph.specs.declared.nodes.Operation.{Operation as Operation'}
use Rattle.icr_graph.specs.declared.nodes.Operation.TheVariants as operation
use Rattle.core_form.specs.declared.tree.Variable.{Variable}
use Rattle.core_form.specs.Facts.{FunctionText}
use Rattle.core_form.specs.Eval.{known}
use Rattle.icr_convert.specs.declared.names.Names.{Names}
use Rattle.icr_convert.specs.declared.setting.Setting.{Setting}
use Rattle.icr_convert.specs.Naming.{Named, AllNamed, BindingsNamed, ItemsNamed}
use Rattle.icr_convert.specs.Scene.{rank, Scene, texts, Ready}

-- what is charged on the node that gives a form's values
abbrev pub through_charges : Setting → (cost : ℕ) → Charges
through_charges st n = record { cost = n; levels = suc st.levels; boxing = if st.word then st.boxing else suc st.boxing }

-- what is charged on a node that only costs
abbrev pub cost_alone : (cost : ℕ) → Charges
cost_alone n = record { cost = n; levels = 0; boxing = 0 }

abbrev pub setting_passes : Setting → Passes
setting_passes st = record { levels = st.levels; boxing = st.boxing }

-- From one moment of building to another more has been built, and there this stands: from any number on that isn't above
-- those of the continuations to come, from the spot of the one to that of the other, in this graph and all later ones.
pub record Placed (P : FlowGraph → ℕ → Spot → Spot → Type 0) (a b : Built) : Type 0 where
  pub grown : Grown a b
  pub stands : (low : ℕ) → low ≤ a.fresh → Lasting (λ h. P h low (spot a) (spot b)) (graph b)

-- the same for any facts that the names go by and that number the tree's functions
abbrev pub Means : Names → (List FunctionText → Type 0) → (Scene → FlowGraph → ℕ → Spot → Spot → Type 0) → Built → Built → Type 0
Means names Need P a b = (s : Scene) → Ready s names (graph a) → Need (texts s) → Placed (P s) a b

abbrev pub Converts : Names → Setting → Core → Built → Built → Type 0
Converts names st e =
    Means names (λ ts. Named ts e) (λ s h low p q. StandsAt h s.facts rank st.tail st.word e st.cost (setting_passes st) low st.to p q)

-- forms one after another
abbrev pub ConvertsAll : Names → Setting → Place → Cores → Built → Built → Type 0
ConvertsAll names st pl es =
    Means names (λ ts. AllNamed ts es) (λ s h low p q. AllStandAt h s.facts rank st.tail st.word pl es st.cost (setting_passes st) low st.to p q)

-- the items of a tagbody, whose tags these are
abbrev pub ConvertsItems : Names → Items → List Tag → Built → Built → Type 0
ConvertsItems names is tags =
    Means names (λ ts. ItemsNamed ts is) (λ s h low p q. ItemsStandAt h s.facts rank is tags low p q)

-- ---- forms whose values are taken

-- The same with a new continuation, of which a fact lasts. Its number is not below those to come before, and is below after.
pub record Taken (P : ℕ → FlowGraph → Type 0) (S : ℕ → FlowGraph → ℕ → Spot → Spot → Type 0) (a b : Built) (k : ℕ) : Type 0 where
  pub placed : Placed (S k) a b
  pub above : a.fresh ≤ k
  pub below : suc k ≤ b.fresh
  pub lasts : Lasting (P k) (graph b)

abbrev pub ValueStands : Scene → (word : Bool) → Core → (cost : ℕ) → ℕ → FlowGraph → ℕ → Spot → Spot → Type 0
ValueStands s w e n k h low p q = StandsAt h s.facts rank false w e n none low (Some k) p q

-- a form's values go to a new continuation of which nothing is asserted
abbrev pub Takes : Names → (word : Bool) → Core → (cost : ℕ) → Built → Built → ℕ → Type 0
Takes names w e n a b k =
    (s : Scene) → Ready s names (graph a) → Named (texts s) e → Taken (λ j h. Unasserted h j) (ValueStands s w e n) a b k

-- the same, and its type is asserted
abbrev pub TakesTyped : Names → (word : Bool) → Place → Option Spec → Core → (cost : ℕ) → Built → Built → ℕ → Type 0
TakesTyped names w pl t e n a b k =
    (s : Scene) → Ready s names (graph a) → Named (texts s) e → Taken (λ j h. AssertedType h s.facts rank j pl t) (ValueStands s w e n) a b k

-- a new continuation, of which a type is asserted, or nothing
abbrev pub TypedCont : Place → Option Spec → Built → Built → ℕ → Type 0
TypedCont pl None = FreeCont
TypedCont pl (Some t) = AssertedCont pl t

-- the types of the operands of a primitive; those of a call have none
abbrev pub types_of : Option Operation → List Spec
types_of None = []
types_of (Some o) = (row_of o).types

abbrev pub rest_of : Option Operation → Option Spec
rest_of None = None
rest_of (Some o) = (row_of o).rest

-- nothing is asserted of these
abbrev pub AllUnasserted : List ℕ → FlowGraph → Type 0
AllUnasserted [] g = Unit {0}
AllUnasserted (k ∷ ks) g = Lasting (λ h. Unasserted h k) g × AllUnasserted ks g

-- operands, and the values for the variables of a LET, to continuations with these numbers
pub record TakenAll (s : Scene) (S : FlowGraph → ℕ → Spot → Spot → Type 0) (a b : Built) (ks : List ℕ) : Type 0 where
  pub placed : Placed S a b
  pub below : (h : FlowGraph) → AllBelow h s.facts rank ks b.fresh

abbrev pub TakesAll : Names → (word : Bool) → Place → Option Operation → Cores → (cost : ℕ) → Built → Built → List ℕ → Type 0
TakesAll names w pl row es n a b ks =
    (s : Scene) → Ready s names (graph a) → AllNamed (texts s) es → TakenAll s (λ h low p q. OperandsStandAt h s.facts rank w pl es (types_of row) (rest_of row) n low ks p q) a b ks

pub record TakenInitials (S : FlowGraph → ℕ → Spot → Spot → Type 0) (a b : Built) (ks : List ℕ) : Type 0 where
  pub placed : Placed S a b
  pub free : AllUnasserted ks (graph b)

abbrev pub TakesInitials : Names → Bindings → (cost : ℕ) → Built → Built → List ℕ → Type 0
TakesInitials names bs n a b ks =
    (s : Scene) → Ready s names (graph a) → BindingsNamed (texts s) bs → TakenInitials (λ h low p q. InitialsStandAt h s.facts rank bs n low ks p q) a b ks

-- the forms of a call with all their values, which are kept
abbrev pub Gathers : Names → Place → Cores → Built → Built → Type 0
Gathers names pl es = Means names (λ ts. AllNamed ts es) (λ s h low p q. GatheredStandAt h s.facts rank pl es low p q)

-- ---- forms before others

-- a list of forms and one more
abbrev pub cores_and : Cores → Core → Cores
cores_and no_core f = core f no_core
cores_and (core e es) f = core e (cores_and es f)

-- Forms whose values nothing takes stand before a last form: where that form stands from there on, with what is still to be
-- charged, all stand one after another.
abbrev pub GoesBefore : Names → Cores → (cost : ℕ) → Built → Built → (left : ℕ) → Type 0
GoesBefore names es n a b left =
    Means names (λ ts. AllNamed ts es)
    (λ s h low p q. (t w : Bool) (pl : Place) (f : Core) (l : Passes) (to : Option ℕ) (r : Spot) →
    StandsAt h s.facts rank t w f left l low to q r → AllStandAt h s.facts rank t w pl (cores_and es f) n l low to p r) a b

-- NIL is given there
abbrev pub GivesNil : Setting → Place → Built → Built → Type 0
GivesNil st pl a b = (n : ℕ) × NewNode (kind.Ref (leaf.Constant nil)) st.to pl (record { cost = st.cost; levels = st.levels; boxing = st.boxing }) a b n

-- ---- variables of a LET, and extents

-- variables are bound to what these continuations hold
abbrev pub BindsAll : Names → Place → Bindings → List ℕ → Built → Built → Type 0
BindsAll names pl bs ks a b =
    (s : Scene) → Ready s names (graph a) → AllUnasserted ks (graph a) → Placed (λ h low p q. BindAll h s.facts rank pl bs ks p q) a b

-- and their extents end
abbrev pub UnbindsAll : Place → Bindings → Built → Built → Type 0
UnbindsAll pl bs a b = (s : Scene) → Placed (λ h low p q. UnbindAll h s.facts rank pl bs p q) a b

-- a variable is bound to what a continuation holds; its extent ends
abbrev pub Binds : Names → Place → Variable → (k : ℕ) → Built → Built → Type 0
Binds names pl x k a b =
    (s : Scene) → Ready s names (graph a) → Placed (λ h low p q. BoundAt h s.facts rank pl x k p × (q ≡ next p)) a b

abbrev pub Unbinds : Place → Variable → Built → Built → Type 0
Unbinds pl x a b = (s : Scene) → Placed (λ h low p q. UnboundAt h s.facts rank pl x p q) a b

-- the entry of an extent that was begun opens the block or tagbody of this number
abbrev pub Leaves : Names → (number : ℕ) → Built → (entry : ℕ) → Type 0
Leaves names x a n = (s : Scene) → Ready s names (graph a) → Lasting (λ h. LeavesExtent h s.facts rank (Some n) x) (graph a)

-- the tags of a tagbody, each with its number and name
abbrev pub AreTags : Items → List Tag → Type 0
AreTags no_item [] = Unit {0}
AreTags no_item (u ∷ us) = ⊥
AreTags (tag t name is) [] = ⊥
AreTags (tag t name is) (u ∷ us) = (u.number ≡ t) × (u.name ≡ name) × AreTags is us
AreTags (step e is) us = AreTags is us

-- ---- known functions

-- the function that a call names in place, and that it takes
abbrev pub IsKnown : Scene → Option ℕ → Option FunctionText → FlowGraph → Type 0
IsKnown s None None g = Unit {0}
IsKnown s None (Some t) g = ⊥
IsKnown s (Some f) None g = ⊥
IsKnown s (Some f) (Some t) g = Lasting (λ h. IsFunction h s.facts rank f t) g

abbrev pub KnowsFunction : Names → Core → (arguments : ℕ) → Option ℕ → Type 0
KnowsFunction names e n f =
    (s : Scene) (g : FlowGraph) → Ready s names g → Named (texts s) e → IsKnown s f (known s.facts n e) g

-- each is above those before it, from a number on
abbrev pub Rising : ℕ → List ℕ → Type 0
Rising low [] = Unit {0}
Rising low (k ∷ ks) = (low ≤ k) × Rising (suc k) ks

-- new continuations, one for each of these forms, of which nothing is asserted
pub record NewConts (es : Cores) (a b : Built) (ks : List ℕ) : Type 0 where
  pub beside : Beside a b
  pub same : SameLength es ks
  pub above : Rising a.fresh ks
  pub below : (s : Scene) (h : FlowGraph) → AllBelow h s.facts rank ks b.fresh
  pub free : AllUnasserted ks (graph b)

-- kept values are released to these continuations, the last one's first
abbrev pub ReleasesTo : Place → List ℕ → Built → Built → Type 0
ReleasesTo pl ks a b = (s : Scene) → Placed (λ h first p q. (low : ℕ) → Rising low ks → ReleaseAll h s.facts rank low pl ks p q) a b

-- kept values of so many forms are released, the last form's first, to these continuations
abbrev pub Releases : Place → Cores → Built → Built → List ℕ → Type 0
Releases pl es a b ks =
    (s : Scene) → TakenAll s (λ h low p q. ReleaseAll h s.facts rank low pl ks p q × SameLength es ks × AllFree h s.facts rank ks) a b ks

-- ---- calls

-- a call of a known function
abbrev pub CallsKnown : (f : ℕ) → List ℕ → Place → Setting → Built → Built → Type 0
CallsKnown f ks pl st a b =
    (n : ℕ) × NewNode (kind.Combination (operation.CallKnown f None st.tail) ks) st.to pl (through_charges st 0) a b n

-- a call of a function that is named in place
abbrev pub CallsInPlace : Names → Place → (f : ℕ) → Cores → Setting → Built → Built → Type 0
CallsInPlace names pl f es st =
    Means names (λ ts. AllNamed ts es)
    (λ s h low p q. (k : ℕ) × (ks : List ℕ) × (r : Spot) × IsFree h s.facts rank low k ×
    Here h p (kind.Ref (leaf.Closed f true)) (Some k) pl (st.cost + 2) none × OperandsStandAt h s.facts rank false pl es [] None 0 (suc k) ks (next p) r ×
    Here h r (kind.Combination (operation.CallKnown f None st.tail) (k ∷ ks)) st.to pl 0 (through st.word (setting_passes st)) × (q ≡ next r))

-- a call of what a continuation holds
abbrev pub CallsOn : Names → Place → (k : ℕ) → Cores → (operation : Operation') → Setting → Built → Built → Type 0
CallsOn names pl k es o st =
    Means names (λ ts. AllNamed ts es)
    (λ s h low p q. (ks : List ℕ) × (x : Spot) × OperandsStandAt h s.facts rank false pl es [] None 0 low ks p x ×
    Here h x (kind.Combination o (k ∷ ks)) st.to pl 0 (through st.word (setting_passes st)) × (q ≡ next x))

-- a call of what a form gives
abbrev pub CallsGiven : Names → Place → Core → Cores → (operation : Operation') → Setting → Built → Built → Type 0
CallsGiven names pl e es o st =
    Means names (λ ts. Named ts e × AllNamed ts es)
    (λ s h low p q. (k : ℕ) × (ks : List ℕ) × (r : Spot) × (x : Spot) × IsFree h s.facts rank low k × ValueStands s false e (st.cost + 1) k h low p r ×
    OperandsStandAt h s.facts rank false pl es [] None 0 (suc k) ks r x × Here h x (kind.Combination o (k ∷ ks)) st.to pl 0 (through st.word (setting_passes st)) × (q ≡ next x))

-- the type of the operand of a primitive at a place
abbrev pub type_at : Option Operation → ℕ → Option Spec
type_at o n = next_type (drop n (types_of o)) (rest_of o)
