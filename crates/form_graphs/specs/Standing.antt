-- That a form stands in a graph: from one place to another, its values going to a continuation. (This project's own.)
use Rattle.std.specs.Prelude.{◌≡◌, ℕ, suc, ◌+◌, ◌≤◌, ◌⊎◌, Bool, true, false, not, ◌&&◌, List, [], ◌∷◌, Option, Some, None}
use Rattle.lisp_base.specs.declared.values.SymId.{SymId}
use Rattle.lisp_base.specs.declared.values.Val.{Val}
use Rattle.lisp_base.specs.declared.values.Val.TheVariants.{Sym}
use Rattle.lisp_base.specs.declared.values.Place.{Place}
use Rattle.lisp_base.specs.declared.types.TypeSpec.{TypeSpec}
use Rattle.lisp_base.specs.Sort.{nil}
use Rattle.lisp_base.specs.Reading.{spec_of}
use Rattle.lisp_base.specs.Spec.{Spec, spec_size}
use Rattle.core_form.specs.declared.tree.Variable.{Variable}
use Rattle.core_form.specs.declared.tree.Variable.TheVariants.{Lexical, Special}
use Rattle.core_form.specs.Arithmetic.{arithmetic}
use Rattle.core_form.specs.Tree.{Core, Quote, Local, SetLocal, Global, SetGlobal, If, Progn, Let, Function, Labels, CallLocal, CallGlobal, Funcall, Apply, MvCall, FunLocal, FunGlobal, SetFun, Primitive, Is, The, Block, ReturnFrom, Tagbody, Go, Catch, Throw, Unwind, Values, MvProg1, Cores, no_core, core, cores_length, Bindings, no_binding, binding, Lambda, lambda, Items, no_item, tag, step}
use Rattle.core_form.specs.Facts.{FunctionText, TagText, Facts, has_number, lookup, binding_parameters, tagbody_number, closed_of}
use Rattle.core_form.specs.Primitives.{row_of}
use Rattle.core_form.specs.Step.{all_lexical}
use Rattle.core_form.specs.Eval.{known}
use Rattle.icr_graph.specs.declared.nodes.NodeKind.TheVariants as kind
use Rattle.icr_graph.specs.declared.nodes.Leaf.TheVariants as leaf
use Rattle.icr_graph.specs.declared.nodes.Operation.TheVariants as operation
use Rattle.icr_graph.specs.declared.nodes.Extent.TheVariants as extent
use Rattle.icr_graph.specs.declared.nodes.Leaving.{Leaving as Way}
use Rattle.icr_graph.specs.declared.nodes.Leaving.TheVariants as way
use Rattle.icr_graph.specs.declared.nodes.Tag.{Tag}
use Rattle.icr_graph.specs.declared.parts.Function.{Function as GraphFunction}
use Rattle.icr_graph.specs.declared.parts.Variable.{Variable as GraphVariable}
use Rattle.icr_graph.specs.Plain.{FlowGraph}
use Rattle.graph_meaning.specs.Reading.{variable_left, closed_by}
use Rattle.form_graphs.specs.Spots.{Spot, next, first_of, Passes, none, through, Stands as VariableStands, Here, Ends, Forks, Unasserted, Asserted, IsVariable}

-- ---- reading the form

-- the type of the next argument of a primitive, and those of the others
abbrev pub next_type : List Spec → Option Spec → Option Spec
next_type [] rest = rest
next_type (t ∷ ts) rest = Some t

abbrev pub other_types : List Spec → List Spec
other_types [] = []
other_types (t ∷ ts) = ts

-- a cost that is still to be charged after these parts, of which the first takes it
abbrev pub left_after : Cores → ℕ → ℕ
left_after no_core n = n
left_after (core e es) n = 0

abbrev pub left_after_bindings : Bindings → ℕ → ℕ
left_after_bindings no_binding n = n
left_after_bindings (binding x e bs) n = 0

abbrev pub is_word : Facts → Variable → Bool
is_word facts (Lexical x n) = has_number x facts.words
is_word facts (Special s) = false

-- the number of values that a special variable's closing wants: one extent each
abbrev pub is_special : Variable → Bool
is_special (Lexical x n) = false
is_special (Special s) = true

abbrev pub AllStand : Facts → List GraphVariable → List ℕ → Type 0
AllStand facts [] [] = Unit {0}
AllStand facts [] (n ∷ ns) = ⊥
AllStand facts (x ∷ xs) [] = ⊥
AllStand facts (x ∷ xs) (n ∷ ns) = VariableStands facts x n × AllStand facts xs ns

abbrev pub lambda_number : Lambda → ℕ
lambda_number (lambda k xs os r e) = k

abbrev pub SameLength : Cores → List ℕ → Type 0
SameLength no_core [] = Unit {0}
SameLength no_core (k ∷ ks) = ⊥
SameLength (core e es) [] = ⊥
SameLength (core e es) (k ∷ ks) = SameLength es ks

module _ (g : FlowGraph) (facts : Facts) (rank : ℕ → ℕ) where
  -- ---- functions and extents

  -- a function under this number is that of this text
  pub record IsFunction (f : ℕ) (text : FunctionText) : Type 0 where
    pub function : GraphFunction
    pub there : g.function f ≡ Some function
    pub lambda : function.lambda ≡ Some (lambda_number text.lambda)
    pub closed : AllStand facts (closed_by g (Some function)) (closed_of facts text)

  -- a function that the form names by a number
  abbrev pub IsLocalFunction : (f number : ℕ) → Type 0
  IsLocalFunction f number =
      (text : FunctionText) × (lookup number facts.names.functions ≡ Some text) × IsFunction f text

  -- the entry that an exit names opens a block or tagbody of this number
  abbrev pub LeavesExtent : Option ℕ → ℕ → Type 0
  LeavesExtent entry b = (variable : GraphVariable) × (variable_left g entry ≡ Some variable) × VariableStands facts variable b

  -- a continuation without assertions, from this rank on
  abbrev pub IsFree : ℕ → ℕ → Type 0
  IsFree low k = (low ≤ rank k) × Unasserted g k

  -- all of these have no assertions
  abbrev pub AllFree : List ℕ → Type 0
  AllFree [] = Unit {0}
  AllFree (k ∷ ks) = Unasserted g k × AllFree ks

  -- all of these have lower ranks
  abbrev pub AllBelow : List ℕ → ℕ → Type 0
  AllBelow [] n = Unit {0}
  AllBelow (k ∷ ks) n = (suc (rank k) ≤ n) × AllBelow ks n

  -- the continuation of an operand asserts its type
  abbrev pub AssertedType : ℕ → Place → Option Spec → Type 0
  AssertedType k pl None = Unasserted g k
  AssertedType k pl (Some t) = Asserted g k pl t

  -- an exit of a kind stands there
  abbrev pub ExitsAt : Spot → Way → Place → Type 0
  ExitsAt p w pl = (entry : Option ℕ) × Here g p (kind.Exit w entry) None pl 0 none

  -- ---- variables

  -- A variable is bound to what a continuation holds: a special one for an extent.
  abbrev pub BoundAt : Place → Variable → ℕ → Spot → Type 0
  BoundAt pl (Lexical x n) k p = (v : ℕ) × IsVariable g facts v x × Here g p (kind.Bind v k) None pl 0 none
  BoundAt pl (Special s) k p = (exits : List ℕ) × Here g p (kind.Entry (extent.Special s k) exits) None pl 0 none

  -- and its extent ends
  abbrev pub UnboundAt : Place → Variable → Spot → Spot → Type 0
  UnboundAt pl (Lexical x n) p q = p ≡ q
  UnboundAt pl (Special s) p q = ExitsAt p way.Close pl × (q ≡ next p)

  -- the variables of a LET, whose values these continuations hold; and the ends of their extents, the last one's first
  abbrev pub BindAll : Place → Bindings → List ℕ → Spot → Spot → Type 0
  BindAll pl no_binding [] p q = p ≡ q
  BindAll pl no_binding (k ∷ ks) p q = ⊥
  BindAll pl (binding x e bs) [] p q = ⊥
  BindAll pl (binding x e bs) (k ∷ ks) p q = Unasserted g k × BoundAt pl x.variable k p × BindAll pl bs ks (next p) q

  abbrev pub UnbindAll : Place → Bindings → Spot → Spot → Type 0
  UnbindAll pl no_binding p q = p ≡ q
  UnbindAll pl (binding x e bs) p q = (r : Spot) × UnbindAll pl bs p r × UnboundAt pl x.variable r q

  -- ---- the values that calls with values keep

  -- the kept values of so many forms are delivered, the last form's first
  abbrev pub ReleaseAll : (low : ℕ) → Place → List ℕ → Spot → Spot → Type 0
  ReleaseAll low pl [] p q = p ≡ q
  ReleaseAll low pl (k ∷ ks) p q =
      (r : Spot) × (entry : Option ℕ) × (low ≤ rank k) × ReleaseAll (suc (rank k)) pl ks p r × Here g r (kind.Exit way.Release entry) (Some k) pl 0 none × (q ≡ next r)

  -- a tag of a tagbody is that of the form, and where its code begins
  abbrev pub IsTag : Tag → ℕ → Val → ℕ → Type 0
  IsTag u t name b = (u.number ≡ t) × (u.name ≡ name) × (u.block ≡ b)

  abbrev mutual
    -- The form is in tail position or not, at a word position or not; so much cost is still to be charged; its values pass so
    -- many forms; its continuations have ranks from low on; its values go to a continuation or nowhere.
    pub StandsAt : (tail word : Bool) → Core → (cost : ℕ) → Passes → (low : ℕ) → Option ℕ → Spot → Spot → Type 0
    StandsAt t w (Quote pl v) n l low to p q = Here g p (kind.Ref (leaf.Constant v)) to pl (n + 1) (through w l) × (q ≡ next p)
    StandsAt t w (Local pl x) n l low to p q =
        (v : ℕ) × IsVariable g facts v x × Here g p (kind.Ref (leaf.Variable v)) to pl (n + 1) (through w l) × (q ≡ next p)
    StandsAt t w (SetLocal pl x e) n l low to p q =
        (v : ℕ) × (j : ℕ) × (r : Spot) × IsVariable g facts v x × IsFree low j × StandsAt false (has_number x facts.words) e (n + 1) none low (Some j) p r × Here g r (kind.Set v j) to pl 0 (through w l) × (q ≡ next r)
    StandsAt t w (Global pl s) n l low to p q = Here g p (kind.Ref (leaf.Global s)) to pl (n + 1) (through w l) × (q ≡ next p)
    StandsAt t w (SetGlobal pl s e) n l low to p q =
        (j : ℕ) × (r : Spot) × IsFree low j × StandsAt false false e (n + 1) none low (Some j) p r × Here g r (kind.Combination (operation.SetGlobal s) (j ∷ [])) to pl 0 (through w l) × (q ≡ next r)
    StandsAt t w (If pl a b c) n l low to p q =
        (j : ℕ) × (r : Spot) × (yes_block : ℕ) × (no_block : ℕ) × (y : Spot) × (z : Spot) × (join : ℕ) ×
        IsFree low j × StandsAt false false a (n + 1) none low (Some j) p r × Here g r (kind.If j) None pl 0 none × Forks g r yes_block no_block ×
        StandsAt t false b 0 (through w l) low to (first_of yes_block) y × Ends g y join ×
        StandsAt t false c 0 (through w l) low to (first_of no_block) z × Ends g z join × (q ≡ first_of join)
    StandsAt t w (Progn pl es) n l low to p q = AllStandAt t w pl es (n + 1) (through w l) low to p q
    StandsAt t w (Let pl bs e) n l low to p q =
        (ks : List ℕ) × (r : Spot) × (x : Spot) × (y : Spot) × InitialsStandAt bs (n + 1) low ks p r × BindAll pl bs ks r x ×
        StandsAt (all_lexical (binding_parameters bs) && t) w e (left_after_bindings bs (n + 1)) (through w l) low to x y × UnbindAll pl bs y q
    StandsAt t w (Function pl k) n l low to p q =
        (f : ℕ) × IsFunction f (record { name = None; place = pl; lambda = k }) × Here g p (kind.Ref (leaf.Functional f)) to pl (n + 1) (through w l) × (q ≡ next p)
    StandsAt t w (Labels pl ds e) n l low to p q = StandsAt t w e (n + 1) (through w l) low to p q
    StandsAt t w (CallLocal pl number es) n l low to p q =
        (f : ℕ) × (k : ℕ) × (ks : List ℕ) × (r : Spot) × IsLocalFunction f number × IsFree low k × OperandsStandAt false pl es [] None (n + 1) low ks p r × AllBelow ks (rank k) ×
        Here g r (kind.Ref (leaf.Closed f false)) (Some k) pl (left_after es (n + 1)) none ×
        Here g (next r) (kind.Combination (operation.CallKnown f None t) (k ∷ ks)) to pl 0 (through w l) × (q ≡ next (next r))
    StandsAt t w (CallGlobal pl s es) n l low to p q =
        (ks : List ℕ) × (r : Spot) × OperandsStandAt false pl es [] None (n + 1) low ks p r ×
        Here g r (kind.Combination (operation.CallGlobal s t) ks) to pl (left_after es (n + 1)) (through w l) × (q ≡ next r)
    StandsAt t w (Funcall pl e es) n l low to p q =
        ((text : FunctionText) × (f : ℕ) × (k : ℕ) × (ks : List ℕ) × (r : Spot) × (known facts (cores_length es) e ≡ Some text) × IsFunction f text × IsFree low k ×
        Here g p (kind.Ref (leaf.Closed f true)) (Some k) pl (n + 2) none × OperandsStandAt false pl es [] None 0 (suc (rank k)) ks (next p) r ×
        Here g r (kind.Combination (operation.CallKnown f None t) (k ∷ ks)) to pl 0 (through w l) × (q ≡ next r))
        ⊎ ((k : ℕ) × (ks : List ℕ) × (r : Spot) × (x : Spot) × (known facts (cores_length es) e ≡ None) × IsFree low k × StandsAt false false e (n + 1) none low (Some k) p r ×
        OperandsStandAt false pl es [] None 0 (suc (rank k)) ks r x × Here g x (kind.Combination (operation.Funcall t) (k ∷ ks)) to pl 0 (through w l) × (q ≡ next x))
    StandsAt t w (Apply pl e es) n l low to p q =
        (k : ℕ) × (ks : List ℕ) × (r : Spot) × (x : Spot) × IsFree low k × StandsAt false false e (n + 1) none low (Some k) p r ×
        OperandsStandAt false pl es [] None 0 (suc (rank k)) ks r x × Here g x (kind.Combination (operation.Apply t) (k ∷ ks)) to pl 0 (through w l) × (q ≡ next x)
    StandsAt t w (MvCall pl e es) n l low to p q =
        (k : ℕ) × (ks : List ℕ) × (r : Spot) × (x : Spot) × (y : Spot) × IsFree low k × StandsAt false false e (n + 1) none low (Some k) p r ×
        GatheredStandAt pl es (suc (rank k)) r x × SameLength es ks × ReleaseAll (suc (rank k)) pl ks x y × AllFree ks ×
        Here g y (kind.MvCombination k ks t) to pl 0 (through w l) × (q ≡ next y)
    StandsAt t w (FunLocal pl number) n l low to p q =
        (f : ℕ) × IsLocalFunction f number × Here g p (kind.Ref (leaf.Functional f)) to pl (n + 1) (through w l) × (q ≡ next p)
    StandsAt t w (FunGlobal pl s) n l low to p q =
        Here g p (kind.Ref (leaf.GlobalFunction s)) to pl (n + 1) (through w l) × (q ≡ next p)
    StandsAt t w (SetFun pl s e) n l low to p q =
        (j : ℕ) × (r : Spot) × IsFree low j × StandsAt false false e (n + 1) none low (Some j) p r × Here g r (kind.Combination (operation.SetFunction s) (j ∷ [])) to pl 0 (through w l) × (q ≡ next r)
    StandsAt t w (Primitive pl o es) n l low to p q =
        (ks : List ℕ) × (r : Spot) × OperandsStandAt (arithmetic o) pl es (row_of o).types (row_of o).rest (n + 1) low ks p r ×
        Here g r (kind.Combination (operation.Primitive o) ks) to pl (left_after es (n + 1)) (through w l) × (q ≡ next r)
    StandsAt t w (Is pl type e) n l low to p q =
        (written : TypeSpec) × (j : ℕ) × (r : Spot) × (spec_of written ≡ type) × IsFree low j × StandsAt false false e (n + 1) none low (Some j) p r ×
        Here g r (kind.Combination (operation.Is written) (j ∷ [])) to pl (spec_size type) (through w l) × (q ≡ next r)
    StandsAt t w (The pl type e) n l low to p q =
        (j : ℕ) × (r : Spot) × (low ≤ rank j) × Asserted g j pl type × StandsAt false w e (n + 1) none low (Some j) p r ×
        Here g r (kind.Combination operation.Pass (j ∷ [])) to pl (spec_size type) (through w l) × (q ≡ next r)
    StandsAt t w (Block pl b name e) n l low to p q =
        (v : ℕ) × (exits : List ℕ) × (r : Spot) × (land : ℕ) × IsVariable g facts v b × Here g p (kind.Entry (extent.Named v land) exits) to pl (n + 1) (through w l) ×
        StandsAt (not (has_number b facts.cells) && t) false e 0 (through w l) low to (next p) r × ExitsAt r way.Close pl × Ends g (next r) land × (q ≡ first_of land)
    StandsAt t w (ReturnFrom pl b e) n l low to p q =
        (j : ℕ) × (r : Spot) × (entry : Option ℕ) × (s : SymId) × IsFree low j × LeavesExtent entry b × (lookup b facts.blocks ≡ Some (Sym s)) ×
        StandsAt false false e (n + 1) none low (Some j) p r × Here g r (kind.Exit (way.ReturnFrom s j) entry) None pl 0 none
    StandsAt t w (Tagbody pl is) n l low to p q =
        (v : ℕ) × (exits : List ℕ) × (tags : List Tag) × (r : Spot) × IsVariable g facts v (tagbody_number is) × Here g p (kind.Entry (extent.Tags v tags) exits) None pl (n + 1) none ×
        ItemsStandAt is tags low (next p) r × ExitsAt r way.Close pl × Here g (next r) (kind.Ref (leaf.Constant nil)) to pl 0 (through w l) × (q ≡ next (next r))
    StandsAt t w (Go pl u) n l low to p q =
        (text : TagText) × (entry : Option ℕ) × (lookup u facts.names.tags ≡ Some text) × LeavesExtent entry text.tagbody ×
        Here g p (kind.Exit (way.Go u text.name) entry) None pl (n + 1) none
    StandsAt t w (Catch pl e c) n l low to p q =
        (j : ℕ) × (exits : List ℕ) × (r : Spot) × (x : Spot) × (land : ℕ) × IsFree low j × StandsAt false false e (n + 1) none low (Some j) p r ×
        Here g r (kind.Entry (extent.Catching j land) exits) to pl 0 (through w l) × StandsAt false false c 0 (through w l) low to (next r) x ×
        ExitsAt x way.Close pl × Ends g (next x) land × (q ≡ first_of land)
    StandsAt t w (Throw pl e c) n l low to p q =
        (j : ℕ) × (k : ℕ) × (r : Spot) × (x : Spot) × (entry : Option ℕ) × IsFree low j × IsFree (suc (rank j)) k × StandsAt false false e (n + 1) none low (Some j) p r ×
        StandsAt false false c 0 none (suc (rank j)) (Some k) r x × Here g x (kind.Exit (way.Throw j k) entry) None pl 0 none
    StandsAt t w (Unwind pl e c) n l low to p q =
        (exits : List ℕ) × (k : ℕ) × (r : Spot) × (cleanup : ℕ) × (x : Spot) × (entry : Option ℕ) × Here g p (kind.Entry (extent.Guarded cleanup) exits) None pl (n + 1) none ×
        IsFree low k × StandsAt false false e 0 none low (Some k) (next p) r × ExitsAt r (way.Guard k) pl ×
        StandsAt false true c 0 none low None (first_of cleanup) x × Here g x (kind.Exit way.Resume entry) to pl 0 (through w l) × (q ≡ next x)
    StandsAt t w (Values pl es) n l low to p q =
        (ks : List ℕ) × (r : Spot) × OperandsStandAt false pl es [] None (n + 1) low ks p r ×
        Here g r (kind.Combination operation.Values ks) to pl (left_after es (n + 1)) (through w l) × (q ≡ next r)
    StandsAt t w (MvProg1 pl e c) n l low to p q =
        (k : ℕ) × (exits : List ℕ) × (r : Spot) × (x : Spot) × (entry : Option ℕ) × IsFree low k × StandsAt false false e (n + 1) none low (Some k) p r ×
        Here g r (kind.Entry (extent.Keep k) exits) None pl 0 none × StandsAt false true c 0 none low None (next r) x ×
        Here g x (kind.Exit way.Release entry) to pl 0 (through w l) × (q ≡ next x)

    -- forms one after another, of which the last gives the values; without a form NIL
    pub AllStandAt : (tail word : Bool) → Place → Cores → (cost : ℕ) → Passes → (low : ℕ) → Option ℕ → Spot → Spot → Type 0
    AllStandAt t w pl no_core n l low to p q = Here g p (kind.Ref (leaf.Constant nil)) to pl n l × (q ≡ next p)
    AllStandAt t w pl (core e no_core) n l low to p q = StandsAt t w e n l low to p q
    AllStandAt t w pl (core e (core f es)) n l low to p q =
        (r : Spot) × StandsAt false true e n none low None p r × AllStandAt t w pl (core f es) 0 l low to r q

    -- Operands, each with the assertion of its type. The continuation of each has a lower rank than those of what follows.
    pub OperandsStandAt : (word : Bool) → Place → Cores → List Spec → Option Spec → (cost : ℕ) → (low : ℕ) → List ℕ → Spot → Spot → Type 0
    OperandsStandAt w pl no_core ts rest n low ks p q = (ks ≡ []) × (p ≡ q)
    OperandsStandAt w pl (core e es) ts rest n low [] p q = ⊥
    OperandsStandAt w pl (core e es) ts rest n low (k ∷ ks) p q =
        (r : Spot) × (low ≤ rank k) × AssertedType k pl (next_type ts rest) × StandsAt false w e n none low (Some k) p r × OperandsStandAt w pl es (other_types ts) rest 0 (suc (rank k)) ks r q

    -- the values for the variables of a LET
    pub InitialsStandAt : Bindings → (cost : ℕ) → (low : ℕ) → List ℕ → Spot → Spot → Type 0
    InitialsStandAt no_binding n low ks p q = (ks ≡ []) × (p ≡ q)
    InitialsStandAt (binding x e bs) n low [] p q = ⊥
    InitialsStandAt (binding x e bs) n low (k ∷ ks) p q =
        (r : Spot) × (low ≤ rank k) × StandsAt false (is_word facts x.variable) e n none low (Some k) p r × InitialsStandAt bs 0 (suc (rank k)) ks r q

    -- the forms of a call with all their values, which are kept
    pub GatheredStandAt : Place → Cores → (low : ℕ) → Spot → Spot → Type 0
    GatheredStandAt pl no_core low p q = p ≡ q
    GatheredStandAt pl (core e es) low p q =
        (k : ℕ) × (exits : List ℕ) × (r : Spot) × IsFree low k × StandsAt false false e 0 none low (Some k) p r ×
        Here g r (kind.Entry (extent.Keep k) exits) None pl 0 none × GatheredStandAt pl es low (next r) q

    -- the tags and forms of a tagbody: at a tag a block ends, and its own begins
    pub ItemsStandAt : Items → List Tag → (low : ℕ) → Spot → Spot → Type 0
    ItemsStandAt no_item tags low p q = (tags ≡ []) × (p ≡ q)
    ItemsStandAt (tag t name is) [] low p q = ⊥
    ItemsStandAt (tag t name is) (u ∷ tags) low p q = (b : ℕ) × IsTag u t name b × Ends g p b × ItemsStandAt is tags low (first_of b) q
    ItemsStandAt (step e is) tags low p q = (r : Spot) × StandsAt false true e 0 none low None p r × ItemsStandAt is tags low r q
