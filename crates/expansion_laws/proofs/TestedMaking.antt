-- Expansion tests the types that are declared of variables.
use Rattle.std.specs.Prelude.{◌≡◌, ℕ, zero, suc, List, [], ◌++◌, All, Contains}
use Rattle.std.proofs.Common.{sym, subst}
use Rattle.std.proofs.lemmas.List.Elements.{All-weaker, All-contains, All-contains_itself, Contains-append_left, Contains-append_right, Contains-append_cases}
use Rattle.lisp_base.specs.declared.values.SymId.{SymId}
use Rattle.lisp_base.specs.declared.values.Val.{Val}
use Rattle.lisp_base.specs.Spec.{Spec}
use Rattle.declarations.specs.Declarations.{Typed}
use Rattle.core_form.specs.Tree as tree
use Rattle.core_form.specs.Tree.{Parameter, Core}
use Rattle.core_form.specs.Facts.{at_nodes, parameter_number, parameters_in}
use Rattle.core_form.specs.Lawful.{types_round, values_bound, value_set}
use Rattle.expansion.specs.declared.heads.Binary.{Binary}
use Rattle.expansion.specs.declared.heads.Many.{Many}
use Rattle.expansion.specs.declared.heads.Calling.{Calling}
use Rattle.expansion.specs.declared.heads.Target.{Target}
use Rattle.expansion.specs.declared.heads.Target.TheVariants.{Lexical, Global}
use Rattle.expansion.specs.declared.kind.ExpandKind.TheVariants.{TooNested}
use Rattle.expansion.specs.Scopes.{Scope, types_set, variable_at, declared_in}
use Rattle.expansion.specs.Steps.{World, Step, inside, most_chain}
use Rattle.expansion.specs.Sketches.{Unary, SettingLocal, Sketches, Sketch, form, leaf, one, two, choice, many, calling, bind, assign, function, functions, recursive, block, tagbody, within, leaf_node, unary_node, unary_count, binary_node, many_node, calling_node, Function, Plan, instead, declared_around, makes, checked as tested_for}
use Rattle.expansion.specs.Bindings.{types_of}
use Rattle.expansion.specs.Forms.{proclaimed, set_target, set_variable}
use Rattle.expansion.specs.Expanding.{go_on, followed, planned, expand, make}
use Rattle.expansion_laws.specs.Tested.{TypesAreTested, DeclarationsBindNoLexical}
use Rattle.expansion_laws.proofs.Giving.{given_has}
use Rattle.expansion_laws.proofs.TestedOnce.{in_either, one_variable}
use Rattle.expansion_laws.proofs.TestedSteps.{Grown, grown_same, look_does, both_do, Since, begin_keeps}
use Rattle.expansion_laws.proofs.TestedNodes.{SetsNoLocal, Rounds, BoundTested, SetTested, Tests, leaf_sound, unary_sound, set_sound, binary_sound, choice_sound, many_sound, calling_sound, function_sound}
use Rattle.expansion_laws.proofs.TestedScopes.{Known, Entry, Holds, set_after, variable_known, holds_at, holds_declared, holds_top, declared_global}
use Rattle.expansion_laws.proofs.TestedRound.{checked_round}
use Rattle.expansion_laws.proofs.TestedSketches.{Plain, AllPlain, PlainFunction, PlainPlan, tested_plain, set_global_plain, plan_plain}
use Rattle.expansion_laws.proofs.TestedParts.{Good, GoodCores, GoodLambda, MakesGood, since_then, since_pure, since_refuse, since_skip, since_weaker, each_good, binding_node_good, function_tree_good, functions_node_good, recursive_node_good, block_node_good, tagbody_node_good}

-- a variable of this number, all of whose types are among these
record Covered (ps : List Parameter) (n : ℕ) (ts : List Spec) : Type 0 where
  pub variable : Parameter
  pub there : Contains ps variable
  pub number : Contains (parameter_number variable) n
  pub types : (t : Spec) → Contains variable.types t → Contains ts t

-- the sketch of a variable that is set
data Assigned (ps : List Parameter) (ds : List Typed) (sc : Scope) (v : Val) : Sketch → Type 0 where
  plainly : (x : Sketch) → Plain x → Assigned ps ds sc v x
  locally : (n : ℕ) (ts : List Spec) → (Holds ps ds sc → Covered ps n ts) → Assigned ps ds sc v (one (SettingLocal n) (tested_for ts (form v)))

module _ (ps : List Parameter) where
  -- ---- variables that are set

  covered : (ds : List Typed) (sc : Scope) (s : SymId) (n : ℕ) (w : World) → Grown ds w.declaimed → Known ps ds sc.checks s n → Covered ps n (proclaimed w.declaimed s ++ types_set sc (Lexical n))
  unfolding types_set
  covered ds sc s n w g k = record {
    variable = k.variable;
    there = k.there;
    number = k.number;
    types = λ t h. in_either (Contains-append_cases (types_of s ds) (set_after n [] sc.checks) t (k.types t h)) (λ l. Contains-append_left (types_of s w.declaimed) (set_after n [] sc.checks) t (g s t l)) (λ l.
        Contains-append_right (types_of s w.declaimed) (set_after n [] sc.checks) t l);
  }

  assigned : (ds : List Typed) (sc : Scope) (s : SymId) (v : Val) (w : World) → Grown ds w.declaimed → (t : Target) → (Holds ps ds sc → Entry ps ds sc.checks s t) → Assigned ps ds sc v (set_target sc t s (form v) w)
  assigned ds sc s v w g (Lexical n) known = locally n (proclaimed w.declaimed s ++ types_set sc (Lexical n)) (λ holds. covered ds sc s n w g (known holds))
  assigned ds sc s v w g (Global r) known = plainly (set_target sc (Global r) s (form v) w) (set_global_plain sc r s v w)

  variable_assigned : (ds : List Typed) (sc : Scope) (s : SymId) (v : Val) (w : World) → Grown ds w.declaimed → Assigned ps ds sc v (set_variable sc s v w)
  unfolding set_variable
  variable_assigned ds sc s v w g = assigned ds sc s v w g (variable_at sc s) (variable_known ps ds sc s)

  local_good : (fuel : ℕ) → MakesGood ps (make fuel) → (ds : List Typed) (levels : ℕ) (sc : Scope) (v : Val) (n : ℕ) (ts : List Spec) → (Holds ps ds sc → Covered ps n ts) → Since ds (Good ps ds sc) (make (suc fuel) levels sc (one (SettingLocal n) (tested_for ts (form v))))
  unfolding make expand
  local_good fuel makes_good ds levels sc v n ts cover =
      since_then ds (λ e. Good ps ds sc e × Rounds ts e) (Good ps ds sc) _ _
      (since_skip ds (λ e. Good ps ds sc e × Rounds ts e) _ _ (begin_keeps 1 levels sc)
      (both_do (Grown ds) (Grown ds) (Good ps ds sc) (Rounds ts) _ (makes_good ds (inside levels) sc (tested_for ts (form v)) (tested_plain ts (form v) tt)) (checked_round fuel (inside levels) sc ts v))) (λ e h.
      since_pure ds (Good ps ds sc) (tree.SetLocal sc.place n e) (λ holds.
      let c : Covered ps n ts = cover holds in
      let set : SetTested ps (n, e) = record { variable = c.variable; there = c.there; number = c.number; types = λ t k. h.1 t (c.types t k) } in
      set_sound ps n sc.place e set (h.0 holds)))

  -- what is one smaller makes tested trees
  abbrev Below : ℕ → Type 0
  Below zero = Unit {0}
  Below (suc fuel) = MakesGood ps (make fuel)

  set_good : (fuel : ℕ) → MakesGood ps (make fuel) → Below fuel → (ds : List Typed) (levels : ℕ) (sc : Scope) (v : Val) (x : Sketch) → Assigned ps ds sc v x → Since ds (Good ps ds sc) (make fuel levels sc x)
  unfolding make expand
  set_good fuel makes_good below ds levels sc v x (plainly _ plain) = makes_good ds levels sc x plain
  set_good zero makes_good below ds levels sc v x (locally n ts cover) = since_refuse ds (Good ps ds sc) TooNested sc
  set_good (suc fuel) makes_good below ds levels sc v x (locally n ts cover) = local_good fuel below ds levels sc v n ts cover

  -- ---- nodes

  module _ (fuel : ℕ) (makes_good : MakesGood ps (make fuel)) (ds : List Typed) (levels : ℕ) (sc : Scope) where
    inner_good : (x : Sketch) → Plain x → Since ds (Good ps ds sc) (make fuel (inside levels) sc x)
    inner_good x plain = makes_good ds (inside levels) sc x plain

    one_good : (u : Unary) (x : Sketch) → SetsNoLocal u → Plain x → Since ds (Good ps ds sc) (make (suc fuel) levels sc (one u x))
    unfolding make expand
    one_good u x here plain =
        since_then ds (Good ps ds sc) (Good ps ds sc) _ _ (since_skip ds (Good ps ds sc) _ _ (begin_keeps (unary_count u) levels sc) (inner_good x plain)) (λ e h.
        since_pure ds (Good ps ds sc) (unary_node u sc.place e) (λ holds. unary_sound ps u sc.place e here (h holds)))

    two_good : (b : Binary) (x y : Sketch) → Plain x → Plain y → Since ds (Good ps ds sc) (make (suc fuel) levels sc (two b x y))
    unfolding make expand
    two_good b x y h k =
        since_then ds (Good ps ds sc) (Good ps ds sc) _ _ (since_skip ds (Good ps ds sc) _ _ (begin_keeps 1 levels sc) (inner_good x h)) (λ e g.
        since_then ds (Good ps ds sc) (Good ps ds sc) _ _ (inner_good y k) (λ f i.
        since_pure ds (Good ps ds sc) (binary_node b sc.place e f) (λ holds. binary_sound ps b sc.place e f (g holds) (i holds))))

    three_good : (x y z : Sketch) → Plain x → Plain y → Plain z → Since ds (Good ps ds sc) (make (suc fuel) levels sc (choice x y z))
    unfolding make expand
    three_good x y z h k l =
        since_then ds (Good ps ds sc) (Good ps ds sc) _ _ (since_skip ds (Good ps ds sc) _ _ (begin_keeps 1 levels sc) (inner_good x h)) (λ a f.
        since_then ds (Good ps ds sc) (Good ps ds sc) _ _ (inner_good y k) (λ b g.
        since_then ds (Good ps ds sc) (Good ps ds sc) _ _ (inner_good z l) (λ c i.
        since_pure ds (Good ps ds sc) (tree.If sc.place a b c) (λ holds. choice_sound ps sc.place a b c (f holds) (g holds) (i holds)))))

    row_good : (m : Many) (xs : Sketches) → AllPlain xs → Since ds (Good ps ds sc) (make (suc fuel) levels sc (many m xs))
    unfolding make expand
    row_good m xs plain =
        since_then ds (GoodCores ps ds sc) (Good ps ds sc) _ _
        (since_skip ds (GoodCores ps ds sc) _ _ (begin_keeps 1 levels sc) (each_good ps ds sc (make fuel (inside levels) sc) inner_good xs plain)) (λ es h.
        since_pure ds (Good ps ds sc) (many_node m sc.place es) (λ holds. many_sound ps m sc.place es (h holds)))

    calls_good : (c : Calling) (x : Sketch) (xs : Sketches) → Plain x → AllPlain xs → Since ds (Good ps ds sc) (make (suc fuel) levels sc (calling c x xs))
    unfolding make expand
    calls_good c x xs plain each_plain =
        since_then ds (Good ps ds sc) (Good ps ds sc) _ _ (since_skip ds (Good ps ds sc) _ _ (begin_keeps 1 levels sc) (inner_good x plain)) (λ e h.
        since_then ds (GoodCores ps ds sc) (Good ps ds sc) _ _ (each_good ps ds sc (make fuel (inside levels) sc) inner_good xs each_plain) (λ es k.
        since_pure ds (Good ps ds sc) (calling_node c sc.place e es) (λ holds. calling_sound ps c sc.place e es (h holds) (k holds))))

    function_node_good : (f : Function) → PlainFunction f → Since ds (Good ps ds sc) (make (suc fuel) levels sc (function f))
    unfolding make expand
    function_node_good f plain =
        since_then ds (GoodLambda ps ds sc) (Good ps ds sc) _ _ (function_tree_good ps (make fuel) makes_good ds levels sc f plain) (λ l h.
        since_pure ds (Good ps ds sc) (tree.Function sc.place l) (λ holds. function_sound ps sc.place l (h holds)))

  -- ---- all forms and sketches

  -- what expands a form where so many more may follow one another gives tested trees
  abbrev ExpandsGood : (ℕ → Scope → Val → Step Core) → Type 0
  ExpandsGood expand = (ds : List Typed) (chain : ℕ) (sc : Scope) (v : Val) → Since ds (Good ps ds sc) (expand chain sc v)

  -- in a scope where as much is known
  known_good : (ds : List Typed) (sc own : Scope) (m : Step Core) → (Holds ps ds sc → Holds ps ds own) → Since ds (Good ps ds own) m → Since ds (Good ps ds sc) m
  known_good ds sc own m up h = since_weaker ds (Good ps ds own) (Good ps ds sc) m (λ e k holds. k (up holds)) h

  go_on_good : (expand : ℕ → Scope → Val → Step Core) → ExpandsGood expand → (ds : List Typed) (chain : ℕ) (sc own : Scope) (v : Val) → Since ds (Good ps ds own) (go_on expand chain sc own v)
  unfolding go_on
  go_on_good expand good ds zero sc own v = since_refuse ds (Good ps ds own) TooNested sc
  go_on_good expand good ds (suc chain) sc own v = good ds chain own v

  module _ (expand : ℕ → Scope → Val → Step Core) (make : Scope → Sketch → Step Core) (good : ExpandsGood expand) (makes_good : (ds : List Typed) (sc : Scope) (x : Sketch) → Plain x → Since ds (Good ps ds sc) (make sc x)) where
    followed_good : (ds : List Typed) (chain : ℕ) (sc : Scope) (p : Plan) → PlainPlan p → Since ds (Good ps ds sc) (followed expand make chain sc p)
    unfolding followed
    followed_good ds chain sc (instead v) plain = go_on_good expand good ds chain sc sc v
    followed_good ds chain sc (declared_around d v) plain =
        known_good ds sc (declared_in d sc) _ (holds_declared ps ds d sc) (go_on_good expand good ds chain sc (declared_in d sc) v)
    followed_good ds chain sc (makes x) plain = makes_good ds sc x plain

    planned_good : (ds : List Typed) (chain : ℕ) (sc : Scope) (v : Val) → Since ds (Good ps ds sc) (planned expand make chain sc v)
    unfolding planned
    planned_good ds chain sc v = since_then ds PlainPlan (Good ps ds sc) _ _ (plan_plain ds sc v) (λ p plain. followed_good ds chain sc p plain)

  mutual
    unfolding expand make

    expand_good : (fuel levels : ℕ) → ExpandsGood (expand fuel levels)
    expand_good zero levels ds chain sc v = since_refuse ds (Good ps ds sc) TooNested sc
    expand_good (suc fuel) levels ds chain sc v =
        since_then ds (λ (own : Scope). Holds ps ds sc → Holds ps ds own) (Good ps ds sc) _ _ (look_does (Grown ds) (λ (own : Scope). Holds ps ds sc → Holds ps ds own) _ (λ w g. holds_at ps ds w.heap v sc)) (λ own up.
        known_good ds sc own _ up
        (planned_good (expand fuel levels) (make fuel levels) (λ es c r x. expand_good fuel levels es c r x) (λ es r x plain. make_good fuel es levels r x plain) ds chain own v))

    make_good : (fuel : ℕ) → MakesGood ps (make fuel)
    make_good zero ds levels sc x plain = since_refuse ds (Good ps ds sc) TooNested sc
    make_good (suc fuel) ds levels sc (form v) plain = expand_good fuel levels ds most_chain sc v
    make_good (suc fuel) ds levels sc (leaf l) plain = since_skip ds (Good ps ds sc) _ _ (begin_keeps 1 levels sc) (since_pure ds (Good ps ds sc) (leaf_node l sc.place) (λ _. leaf_sound ps l sc.place))
    make_good (suc fuel) ds levels sc (one u x) plain = one_good fuel (λ es n r y p. make_good fuel es n r y p) ds levels sc u x plain.0 plain.1
    make_good (suc fuel) ds levels sc (two b x y) plain = two_good fuel (λ es n r z p. make_good fuel es n r z p) ds levels sc b x y plain.0 plain.1
    make_good (suc fuel) ds levels sc (choice x y z) plain = three_good fuel (λ es n r a p. make_good fuel es n r a p) ds levels sc x y z plain.0 plain.1.0 plain.1.1
    make_good (suc fuel) ds levels sc (many m xs) plain = row_good fuel (λ es n r y p. make_good fuel es n r y p) ds levels sc m xs plain
    make_good (suc fuel) ds levels sc (calling c x xs) plain = calls_good fuel (λ es n r y p. make_good fuel es n r y p) ds levels sc c x xs plain.0 plain.1
    make_good (suc fuel) ds levels sc (bind bs x) plain =
        binding_node_good ps (make fuel) (λ es n r y p. make_good fuel es n r y p) (λ n r ts v. checked_round fuel n r ts v) ds levels sc bs x plain
    make_good (suc fuel) ds levels sc (assign s v) plain =
        since_then ds (Assigned ps ds sc v) (Good ps ds sc) _ _ (look_does (Grown ds) (Assigned ps ds sc v) _ (λ w g. variable_assigned ds sc s v w g)) (λ x by.
        set_good fuel (λ es n r y p. make_good fuel es n r y p) (below_good fuel) ds levels sc v x by)
    make_good (suc fuel) ds levels sc (function f) plain = function_node_good fuel (λ es n r y p. make_good fuel es n r y p) ds levels sc f plain
    make_good (suc fuel) ds levels sc (functions reach vs x) plain = functions_node_good ps (make fuel) (λ es n r y p. make_good fuel es n r y p) ds levels sc reach vs x plain
    make_good (suc fuel) ds levels sc (recursive s f) plain = recursive_node_good ps (make fuel) (λ es n r y p. make_good fuel es n r y p) ds levels sc s f plain
    make_good (suc fuel) ds levels sc (block s x) plain = block_node_good ps (make fuel) (λ es n r y p. make_good fuel es n r y p) ds levels sc s x plain
    make_good (suc fuel) ds levels sc (tagbody vs) plain = tagbody_node_good ps (make fuel) (λ es n r y p. make_good fuel es n r y p) ds levels sc vs
    make_good (suc fuel) ds levels sc (within d x) plain = known_good ds sc (declared_in d sc) _ (holds_declared ps ds d sc) (make_good fuel ds levels (declared_in d sc) x plain)

    below_good : (fuel : ℕ) → Below fuel
    below_good zero = tt
    below_good (suc fuel) = λ es n r y p. make_good fuel es n r y p

-- ---- the laws

all_round : (ts : List Spec) (e : Core) → Rounds ts e → All (Contains (types_round e)) ts
all_round ts e h = All-weaker (Contains ts) (Contains (types_round e)) (λ t. h t) ts (All-contains_itself ts)

pub types_are_tested : TypesAreTested
types_are_tested fuel levels chain sc v w after e first none count is =
    let ps : List Parameter = parameters_in e in
    let ds : List Typed = w.declaimed in
    let good : Good ps ds sc e = (given_has (λ (f : Core) (u : World). Good ps ds sc f × Grown ds u.declaimed) (expand fuel levels chain sc v w) e after (expand_good ps fuel levels ds chain sc v w (grown_same ds)) is).0 in
    let tests : Tests ps (at_nodes values_bound e) (at_nodes value_set e) = good (holds_top ps ds sc none) (λ x there. there) in
    record {
      bound = λ x value there. all_round x.types value (All-contains BoundTested (at_nodes values_bound e) (x, value) tests.bound_tested there);
      set = λ x n value here number there.
          let set : SetTested ps (n, value) = All-contains (SetTested ps) (at_nodes value_set e) (n, value) tests.set_tested there in
          let same : x ≡ set.variable = one_variable first e count x set.variable n here set.there number set.number in
          subst (λ (y : Parameter). All (Contains (types_round value)) y.types) (sym same) (all_round set.variable.types value set.types);
    }

pub declarations_bind_no_lexical : DeclarationsBindNoLexical
declarations_bind_no_lexical d sc none = declared_global d sc none
