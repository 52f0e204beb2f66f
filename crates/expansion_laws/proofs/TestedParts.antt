-- The parts of nodes are tested where what makes a tree of a part gives tested trees.
use Rattle.std.specs.Prelude.{◌≡◌, ℕ, suc, ◌+◌, Bool, true, false, if◌then◌else◌, List, [], ◌∷◌, ◌++◌, length, All, Contains, Option, Some, None}
use Rattle.std.proofs.Common.{refl, ap, subst}
use Rattle.std.proofs.lemmas.List.Elements.{All-nil, All-cons, All-head, All-tail, Contains-append_left, Contains-push}
use Rattle.lisp_base.specs.declared.values.SymId.{SymId}
use Rattle.lisp_base.specs.declared.values.Val.{Val}
use Rattle.lisp_base.specs.Spec.{Spec}
use Rattle.declarations.specs.Declarations.{Typed}
use Rattle.core_form.specs.Tree as tree
use Rattle.core_form.specs.Tree.{Core, Cores, no_core, core, Bindings, no_binding, binding, Optionals, no_optional, optional, Lambda, lambda, Definitions, no_definition, define, Items, no_item, tag, step, Parameter}
use Rattle.core_form.specs.Facts.{binding_parameters, optional_parameters, if_given}
use Rattle.core_form.specs.Lawful.{values_of}
use Rattle.expansion.specs.declared.heads.Leaf.TheVariants.{LocalFunction}
use Rattle.expansion.specs.declared.heads.Reach.{Reach}
use Rattle.expansion.specs.declared.heads.Reach.TheVariants.{ForBody, ForAll}
use Rattle.expansion.specs.declared.kind.ExpandKind.{ExpandKind}
use Rattle.expansion.specs.Scopes.{Scope, with_function, with_block}
use Rattle.expansion.specs.Steps.{World, Step, ◌>>=◌, ◌>>◌, pure, refuse, inside, look, take_numbers}
use Rattle.expansion.specs.Sketches.{Binder, Initial, Optional', Sketch, form, Sketches, no_sketch, sketch, Function, function_of, checked as tested_for}
use Rattle.expansion.specs.Bindings.{types_of, function_sketch}
use Rattle.expansion.specs.Forms.{is_tag}
use Rattle.expansion.specs.Expanding.{Bound, parameter, bound, bound_each, bound_some, with_bound, with_all, with_some, parameters, parameter_some, Inner, each, bound_initials, values_bound, bounds_of, binding_node, BoundOptional, bound_optionals, defaults, function_size, function_tree, defined, definition_at, definitions, around_definitions, functions_tree, functions_node, recursive_node, block_node, tags_in, with_tags, items, tagbody_node}
use Rattle.expansion_laws.specs.Planned.{Sketched}
use Rattle.expansion_laws.proofs.Giving.{weaker, Has}
use Rattle.expansion_laws.proofs.FunctionPlans.{function_gives}
use Rattle.expansion_laws.proofs.Holding.{OnFound}
use Rattle.expansion_laws.proofs.TestedSteps.{Grown, Does, Keeps, Anything, pure_does, refuse_does, look_does, keeps_does, then_does, after_does, skip_does, keeps_then, both_do, Since, Exactly, since_exactly, exactly_since, begin_keeps, numbers_keep, function_keeps, look_keeps, expect_keeps}
use Rattle.expansion_laws.proofs.TestedNodes.{Rounds, BoundTested, Within, within_left, within_right, Sound, SoundCores, SoundBindings, SoundOptionals, SoundLambda, SoundDefinitions, SoundItems, no_core_sound, core_sound, no_binding_sound, binding_sound, no_optional_sound, optional_sound, no_definition_sound, define_sound, leaf_sound, no_item_sound, tag_sound, step_sound, let_sound, lambda_sound, labels_sound, block_sound, tagbody_sound}
use Rattle.expansion_laws.proofs.TestedScopes.{FineBound, Holds, holds_grown, holds_at, holds_bound, holds_all, holds_some, holds_definitions, holds_tags}
use Rattle.expansion_laws.proofs.TestedSketches.{Plain, AllPlain, PlainFunction, tested_plain, sketched_plain}

-- ---- steps in which the least that is proclaimed stays the same

pub since_then : {A B : Type 0} (ds : List Typed) (P : A → Type 0) (Q : B → Type 0) (m : Step A) (k : A → Step B) → Since ds P m → ((x : A) → P x → Since ds Q (k x)) → Since ds Q (m >>= k)
since_then ds P Q m k h f = then_does (Grown ds) (Grown ds) (Grown ds) P Q m k h f

pub since_pure : {A : Type 0} (ds : List Typed) (P : A → Type 0) (x : A) → P x → Since ds P (pure x)
since_pure ds P x h = pure_does (Grown ds) P x h

pub since_refuse : {A : Type 0} (ds : List Typed) (P : A → Type 0) (kind : ExpandKind) (sc : Scope) → Since ds P (refuse kind sc)
since_refuse ds P kind sc = refuse_does (Grown ds) (Grown ds) P kind sc

pub since_after : {A B : Type 0} (ds : List Typed) (Q : B → Type 0) (m : Step A) (k : A → Step B) → Keeps Anything m → ((x : A) → Since ds Q (k x)) → Since ds Q (m >>= k)
since_after ds Q m k h f = after_does (Grown ds) (Grown ds) Q m k h f

pub since_skip : {A B : Type 0} (ds : List Typed) (Q : B → Type 0) (m : Step A) (k : Step B) → Keeps Anything m → Since ds Q k → Since ds Q (m >> k)
since_skip ds Q m k h g = skip_does (Grown ds) (Grown ds) Q m k h g

pub since_weaker : {A : Type 0} (ds : List Typed) (P Q : A → Type 0) (m : Step A) → ((x : A) → P x → Q x) → Since ds P m → Since ds Q m
since_weaker ds P Q m f h w g = weaker (λ x u. P x × Grown ds u.declaimed) (λ x u. Q x × Grown ds u.declaimed) (m w) (h w g) (λ x u k. (f x k.0, k.1))

-- a step in which nothing is proclaimed
abbrev pub Still : {A : Type 0} → List Typed → (A → Type 0) → Step A → Type 0
Still ds P m = Does (Exactly ds) (Exactly ds) P m

still_then : {A B : Type 0} (ds : List Typed) (P : A → Type 0) (Q : B → Type 0) (m : Step A) (k : A → Step B) → Still ds P m → ((x : A) → P x → Still ds Q (k x)) → Still ds Q (m >>= k)
still_then ds P Q m k h f = then_does (Exactly ds) (Exactly ds) (Exactly ds) P Q m k h f

-- ---- variables

bound_fine : (ds : List Typed) (b : Binder) → Still ds (FineBound ds) (bound b)
unfolding bound parameter look take_numbers pure ◌>>=◌
bound_fine ds b w is = (λ t h. subst (λ (es : List Typed). Contains (types_of b.variable es ++ b.types) t) is h, is)

bound_each_fine : (ds : List Typed) (bs : List Binder) → Still ds (All (FineBound ds)) (bound_each bs)
unfolding bound_each
bound_each_fine ds [] = pure_does (Exactly ds) (All (FineBound ds)) [] (All-nil (FineBound ds))
bound_each_fine ds (b ∷ bs) =
    still_then ds (FineBound ds) (All (FineBound ds)) _ _ (bound_fine ds b) (λ x h.
    still_then ds (All (FineBound ds)) (All (FineBound ds)) _ _ (bound_each_fine ds bs) (λ xs k.
    pure_does (Exactly ds) (All (FineBound ds)) (x ∷ xs) (All-cons (FineBound ds) x xs h k)))

bound_some_fine : (ds : List Typed) (o : Option Binder) → Still ds (OnFound (FineBound ds)) (bound_some o)
unfolding bound_some
bound_some_fine ds None = pure_does (Exactly ds) (OnFound (FineBound ds)) None tt
bound_some_fine ds (Some b) = still_then ds (FineBound ds) (OnFound (FineBound ds)) _ _ (bound_fine ds b) (λ x h. pure_does (Exactly ds) (OnFound (FineBound ds)) (Some x) h)

abbrev FineInitials : List Typed → List (Bound × Val) → Type 0
FineInitials ds ps = All (FineBound ds) (bounds_of ps)

bound_initials_fine : (ds : List Typed) (bs : List Initial) → Still ds (FineInitials ds) (bound_initials bs)
unfolding bound_initials
bound_initials_fine ds [] = pure_does (Exactly ds) (FineInitials ds) [] (All-nil (FineBound ds))
bound_initials_fine ds (b ∷ bs) =
    still_then ds (FineBound ds) (FineInitials ds) _ _ (bound_fine ds b.binder) (λ x h.
    still_then ds (FineInitials ds) (FineInitials ds) _ _ (bound_initials_fine ds bs) (λ xs k.
    pure_does (Exactly ds) (FineInitials ds) ((x, b.value) ∷ xs) (All-cons (FineBound ds) x (bounds_of xs) h k)))

abbrev FineOptional : List Typed → BoundOptional → Type 0
FineOptional ds o = FineBound ds o.bound × OnFound (FineBound ds) o.supplied

bound_optionals_fine : (ds : List Typed) (os : List Optional') → Still ds (All (FineOptional ds)) (bound_optionals os)
unfolding bound_optionals
bound_optionals_fine ds [] = pure_does (Exactly ds) (All (FineOptional ds)) [] (All-nil (FineOptional ds))
bound_optionals_fine ds (o ∷ os) =
    still_then ds (FineBound ds) (All (FineOptional ds)) _ _ (bound_fine ds o.binder) (λ x h.
    still_then ds (OnFound (FineBound ds)) (All (FineOptional ds)) _ _ (bound_some_fine ds o.supplied) (λ s g.
    still_then ds (All (FineOptional ds)) (All (FineOptional ds)) _ _ (bound_optionals_fine ds os) (λ xs k.
    pure_does (Exactly ds) (All (FineOptional ds)) _ (All-cons (FineOptional ds) _ xs (h, g) k))))

-- ---- trees of parts

-- THE nodes stand round the tree of a checked value
abbrev pub MakesRound : Inner → Type 0
MakesRound inner = (levels : ℕ) (sc : Scope) (ts : List Spec) (v : Val) → Has (Rounds ts) (inner levels sc (tested_for ts (form v)))

module _ (ps : List Parameter) where
  -- a tree is tested where what names mean in its scope is known
  abbrev pub Good : List Typed → Scope → Core → Type 0
  Good ds sc e = Holds ps ds sc → Sound ps e

  abbrev pub GoodCores : List Typed → Scope → Cores → Type 0
  GoodCores ds sc es = Holds ps ds sc → SoundCores ps es

  abbrev pub GoodLambda : List Typed → Scope → Lambda → Type 0
  GoodLambda ds sc l = Holds ps ds sc → SoundLambda ps l

  abbrev GoodDefinitions : List Typed → Scope → Definitions → Type 0
  GoodDefinitions ds sc fs = Holds ps ds sc → SoundDefinitions ps fs

  abbrev GoodItems : List Typed → Scope → Items → Type 0
  GoodItems ds sc is = Holds ps ds sc → SoundItems ps is

  -- what makes a tree of a part gives tested trees
  abbrev pub MakesGood : Inner → Type 0
  MakesGood inner = (ds : List Typed) (levels : ℕ) (sc : Scope) (x : Sketch) → Plain x → Since ds (Good ds sc) (inner levels sc x)

  -- ---- parts in a row

  pub each_good : (ds : List Typed) (sc : Scope) (inner : Sketch → Step Core) → ((x : Sketch) → Plain x → Since ds (Good ds sc) (inner x)) → (xs : Sketches) → AllPlain xs → Since ds (GoodCores ds sc) (each inner xs)
  unfolding each
  each_good ds sc inner good no_sketch plain = since_pure ds (GoodCores ds sc) no_core (λ _. no_core_sound ps)
  each_good ds sc inner good (sketch x xs) plain =
      since_then ds (Good ds sc) (GoodCores ds sc) _ _ (good x plain.0) (λ e h.
      since_then ds (GoodCores ds sc) (GoodCores ds sc) _ _ (each_good ds sc inner good xs plain.1) (λ es k.
      since_pure ds (GoodCores ds sc) (core e es) (λ holds. core_sound ps e es (h holds) (k holds))))

  -- ---- bindings

  abbrev GoodValues : List Typed → Scope → List (Bound × Val) → Bindings → Type 0
  GoodValues ds sc qs bs = (Holds ps ds sc → SoundBindings ps bs) × (All BoundTested (values_of bs) × (binding_parameters bs ≡ parameters (bounds_of qs)))

  values_good : (ds : List Typed) (sc : Scope) (inner : Sketch → Step Core) → ((x : Sketch) → Plain x → Since ds (Good ds sc) (inner x)) → ((ts : List Spec) (v : Val) → Has (Rounds ts) (inner (tested_for ts (form v)))) → (qs : List (Bound × Val)) → Since ds (GoodValues ds sc qs) (values_bound inner qs)
  unfolding values_bound
  values_good ds sc inner good round [] = since_pure ds (GoodValues ds sc []) no_binding (λ _. no_binding_sound ps, (All-nil BoundTested, refl))
  values_good ds sc inner good round (q ∷ qs) =
      let ts : List Spec = q.0.1.types in
      since_then ds (λ e. Good ds sc e × Rounds ts e) (GoodValues ds sc (q ∷ qs)) _ _
      (both_do (Grown ds) (Grown ds) (Good ds sc) (Rounds ts) _ (good (tested_for ts (form q.1)) (tested_plain ts (form q.1) tt)) (round ts q.1)) (λ e h.
      since_then ds (GoodValues ds sc qs) (GoodValues ds sc (q ∷ qs)) _ _ (values_good ds sc inner good round qs) (λ bs k.
      since_pure ds (GoodValues ds sc (q ∷ qs)) (binding q.0.1 e bs) (
        λ holds. binding_sound ps q.0.1 e bs (h.0 holds) (k.0 holds),
        (All-cons BoundTested (q.0.1, e) (values_of bs) h.1 k.1.0, ap (λ (xs : List Parameter). q.0.1 ∷ xs) k.1.1),
      )))

  module _ (inner : Inner) (makes_good : MakesGood inner) where
    pub binding_node_good : MakesRound inner → (ds : List Typed) (levels : ℕ) (sc : Scope) (bs : List Initial) (x : Sketch) → Plain x → Since ds (Good ds sc) (binding_node levels inner sc bs x)
    unfolding binding_node
    binding_node_good round ds levels sc bs x plain =
        since_exactly ds (Good ds sc) _ (λ es g.
        then_does (Exactly es) (Exactly es) (Grown es) (FineInitials es) (Good ds sc) _ _
        (skip_does (Exactly es) (Exactly es) (FineInitials es) _ _ (begin_keeps (1 + length bs) levels sc) (bound_initials_fine es bs)) (λ qs fine.
        let own : Scope = with_all sc (bounds_of qs) in
        exactly_since es (Good ds sc) _
        (since_then es (GoodValues es sc qs) (Good ds sc) _ _ (values_good es sc (inner (inside levels) sc) (λ y p. makes_good es (inside levels) sc y p) (λ ts v. round (inside levels) sc ts v) qs) (λ values h.
        since_then es (Good es own) (Good ds sc) _ _ (makes_good es (inside levels) own x plain) (λ e k.
        since_pure es (Good ds sc) (tree.Let sc.place values e) (λ holds.
        let now : Holds ps es sc = holds_grown ps ds es sc g holds in
        let_sound ps sc.place values e h.1.0 (h.0 now) (λ within. k (holds_all ps es (bounds_of qs) sc fine (subst (Within ps) h.1.1 within) now))))))))

    -- ---- functions

    -- the forms for optional parameters, and the scope within all of them
    abbrev GoodDefaults : List Typed → Scope → Optionals × Scope → Type 0
    GoodDefaults ds sc found = Within ps (optional_parameters found.0) → Holds ps ds sc → SoundOptionals ps found.0 × Holds ps ds found.1

    defaults_good : (ds : List Typed) (levels : ℕ) (os : List BoundOptional) (sc : Scope) → All (FineOptional ds) os → Since ds (GoodDefaults ds sc) (defaults (inner levels) sc os)
    unfolding defaults
    defaults_good ds levels [] sc fine = since_pure ds (GoodDefaults ds sc) (no_optional, sc) (λ within holds. (no_optional_sound ps, holds))
    defaults_good ds levels (o ∷ os) sc fine =
        let one : FineOptional ds o = All-head (FineOptional ds) o os fine in
        let own : Scope = with_some (with_bound sc o.bound) o.supplied in
        let flag : List Parameter = if_given (parameter_some o.supplied) in
        since_then ds (Good ds sc) (GoodDefaults ds sc) _ _ (makes_good ds levels sc (form o.default) tt) (λ e h.
        since_then ds (GoodDefaults ds own) (GoodDefaults ds sc) _ _ (defaults_good ds levels os own (All-tail (FineOptional ds) o os fine)) (λ found k.
        let all : List Parameter = flag ++ optional_parameters found.0 in
        since_pure ds (GoodDefaults ds sc) (optional o.bound.1 e (parameter_some o.supplied) found.0, found.1) (λ within holds.
        let after : Within ps all = within_right ps (o.bound.1 ∷ []) all within in
        let here : Holds ps ds own =
        holds_some ps ds o.supplied (with_bound sc o.bound) one.1 (within_left ps flag (optional_parameters found.0) after)
        (holds_bound ps ds o.bound sc one.0 (within o.bound.1 (Contains-append_left (o.bound.1 ∷ []) all o.bound.1 (Contains-push [] o.bound.1))) holds) in
        let rest : SoundOptionals ps found.0 × Holds ps ds found.1 = k (within_right ps flag (optional_parameters found.0) after) here in
        (optional_sound ps o.bound.1 e (parameter_some o.supplied) found.0 (h holds) rest.0, rest.1))))

    -- a function, by its parameters, the forms for the optional ones, and its body
    lambda_good : (ds es : List Typed) (sc : Scope) (k : ℕ) (xs : List Bound) (found : Optionals × Scope) (r : Option Bound) (e : Core) → Grown ds es → All (FineBound es) xs → OnFound (FineBound es) r → GoodDefaults es (with_all sc xs) found → Good es (with_some found.1 r) e → GoodLambda ds sc (lambda k (parameters xs) found.0 (parameter_some r) e)
    lambda_good ds es sc k xs found r e g fine rest_fine h body holds =
        let first : List Parameter = parameters xs in
        let second : List Parameter = optional_parameters found.0 in
        let third : List Parameter = if_given (parameter_some r) in
        let given : Within ps ((first ++ second) ++ third) → SoundOptionals ps found.0 × Holds ps es found.1 =
        λ within. h (within_right ps first second (within_left ps (first ++ second) third within))
        (holds_all ps es xs sc fine (within_left ps first second (within_left ps (first ++ second) third within)) (holds_grown ps ds es sc g holds)) in
        lambda_sound ps k first found.0 (parameter_some r) e (λ within. (given within).0) (λ within.
        body (holds_some ps es r found.1 rest_fine (within_right ps (first ++ second) third within) (given within).1))

    pub function_tree_good : (ds : List Typed) (levels : ℕ) (sc : Scope) (f : Function) → PlainFunction f → Since ds (GoodLambda ds sc) (function_tree levels inner sc f)
    unfolding function_tree
    function_tree_good ds levels sc (function_of required optionals rest x) plain =
        since_exactly ds (GoodLambda ds sc) _ (λ es g.
        after_does (Exactly es) (Grown es) (GoodLambda ds sc) _ _ function_keeps (λ k.
        then_does (Exactly es) (Exactly es) (Grown es) (All (FineBound es)) (GoodLambda ds sc) _ _ (bound_each_fine es required) (λ xs fine.
        then_does (Exactly es) (Exactly es) (Grown es) (All (FineOptional es)) (GoodLambda ds sc) _ _ (bound_optionals_fine es optionals) (λ os each_fine.
        then_does (Exactly es) (Exactly es) (Grown es) (OnFound (FineBound es)) (GoodLambda ds sc) _ _ (bound_some_fine es rest) (λ r rest_fine.
        exactly_since es (GoodLambda ds sc) _
        (since_then es (GoodDefaults es (with_all sc xs)) (GoodLambda ds sc) _ _
        (since_skip es (GoodDefaults es (with_all sc xs)) _ _ (begin_keeps (function_size xs os r) levels sc) (defaults_good es (inside levels) os (with_all sc xs) each_fine)) (λ found h.
        since_then es (Good es (with_some found.1 r)) (GoodLambda ds sc) _ _ (makes_good es (inside levels) (with_some found.1 r) x plain) (λ e body.
        since_pure es (GoodLambda ds sc) (lambda k (parameters xs) found.0 (parameter_some r) e) (lambda_good ds es sc k xs found r e g fine rest_fine h body)))))))))

    -- ---- local functions

    -- what puts a definition before others
    abbrev GoodDefines : List Typed → Scope → (Definitions → Definitions) → Type 0
    GoodDefines ds sc d = Holds ps ds sc → (others : Definitions) → SoundDefinitions ps others → SoundDefinitions ps (d others)

    sketch_plain : (ds : List Typed) (sc : Scope) (name : Option SymId) (v : Val) → Since ds PlainFunction (function_sketch sc name v)
    sketch_plain ds sc name v =
        keeps_does (Grown ds) PlainFunction (function_sketch sc name v) (λ w.
        weaker (Sketched sc name w v) (λ (f : Function) (u : World). PlainFunction f × (u.declaimed ≡ w.declaimed)) (function_sketch sc name v w) (function_gives sc name w v) (λ f u by. sketched_plain sc name w v f u by))

    defined_good : (ds : List Typed) (levels : ℕ) (sc : Scope) (n : ℕ) (v : Val) (s : SymId) → Since ds (GoodDefines ds sc) (defined levels inner sc n v s)
    defined_good ds levels sc n v s =
        since_then ds (GoodLambda ds sc) (GoodDefines ds sc) _ _
        (since_then ds PlainFunction (GoodLambda ds sc) _ _ (since_after ds PlainFunction _ _ (look_keeps _) (λ list. sketch_plain ds sc (Some s) list)) (λ f plain.
        function_tree_good ds levels sc f plain)) (λ l h.
        since_pure ds (GoodDefines ds sc) (define sc.place n s l) (λ holds others k. define_sound ps sc.place n s l others (h holds) k))

    -- a scope in which as much is known
    abbrev pub Knows : List Typed → Scope → Scope → Type 0
    Knows ds sc own = Holds ps ds sc → Holds ps ds own

    definition_at_good : (ds : List Typed) (levels : ℕ) (sc : Scope) (n : ℕ) (v : Val) → Since ds (GoodDefines ds sc) (definition_at levels inner sc n v)
    unfolding definition_at
    definition_at_good ds levels sc n v =
        since_then ds (Knows ds sc) (GoodDefines ds sc) _ _ (look_does (Grown ds) (Knows ds sc) _ (λ w g. holds_at ps ds w.heap v sc)) (λ own up.
        since_after ds (GoodDefines ds sc) _ _ (keeps_then _ _ (look_keeps _) (λ found. expect_keeps own found)) (λ s.
        since_weaker ds (GoodDefines ds own) (GoodDefines ds sc) _ (λ d h holds others k. h (up holds) others k) (defined_good ds levels own n v s)))

    definitions_good : (ds : List Typed) (levels : ℕ) (sc : Scope) (n : ℕ) (vs : List Val) → Since ds (GoodDefinitions ds sc) (definitions levels inner sc n vs)
    unfolding definitions
    definitions_good ds levels sc n [] = since_pure ds (GoodDefinitions ds sc) no_definition (λ _. no_definition_sound ps)
    definitions_good ds levels sc n (v ∷ vs) =
        since_then ds (GoodDefines ds sc) (GoodDefinitions ds sc) _ _ (definition_at_good ds levels sc n v) (λ d h.
        since_then ds (GoodDefinitions ds sc) (GoodDefinitions ds sc) _ _ (definitions_good ds levels sc (suc n) vs) (λ fs k.
        since_pure ds (GoodDefinitions ds sc) (d fs) (λ holds. h holds fs (k holds))))

    holds_reach : (ds : List Typed) (reach : Reach) (outer own : Scope) → Knows ds outer own → Knows ds outer (around_definitions reach outer own)
    holds_reach ds ForBody outer own up h = h
    holds_reach ds ForAll outer own up h = up h

    functions_tree_good : (ds : List Typed) (levels : ℕ) (reach : Reach) (outer own : Scope) (n : ℕ) (vs : List Val) (x : Sketch) → Knows ds outer own → Plain x → Since ds (Good ds outer) (functions_tree levels inner reach outer own n vs x)
    unfolding functions_tree
    functions_tree_good ds levels reach outer own n vs x up plain =
        let round : Scope = around_definitions reach outer own in
        since_then ds (GoodDefinitions ds round) (Good ds outer) _ _ (definitions_good ds levels round n vs) (λ fs h.
        since_then ds (Good ds own) (Good ds outer) _ _ (makes_good ds levels own x plain) (λ e k.
        since_pure ds (Good ds outer) (tree.Labels outer.place fs e) (λ holds. labels_sound ps outer.place fs e (h (holds_reach ds reach outer own up holds)) (k (up holds)))))

    pub functions_node_good : (ds : List Typed) (levels : ℕ) (sc : Scope) (reach : Reach) (vs : List Val) (x : Sketch) → Plain x → Since ds (Good ds sc) (functions_node levels inner sc reach vs x)
    unfolding functions_node
    functions_node_good ds levels sc reach vs x plain =
        since_then ds Anything (Good ds sc) _ _ (since_skip ds Anything _ _ (begin_keeps 1 levels sc) (keeps_does (Grown ds) Anything _ (numbers_keep (length vs)))) (λ n _.
        since_then ds (Knows ds sc) (Good ds sc) _ _ (look_does (Grown ds) (Knows ds sc) _ (λ w g. holds_definitions ps ds w.heap n vs sc)) (λ own up.
        functions_tree_good ds (inside levels) reach sc own n vs x up plain))

    pub recursive_node_good : (ds : List Typed) (levels : ℕ) (sc : Scope) (s : SymId) (f : Function) → PlainFunction f → Since ds (Good ds sc) (recursive_node levels inner sc s f)
    unfolding recursive_node
    recursive_node_good ds levels sc s f plain =
        since_then ds Anything (Good ds sc) _ _ (since_skip ds Anything _ _ (begin_keeps 1 levels sc) (keeps_does (Grown ds) Anything _ (numbers_keep 1))) (λ n _.
        since_then ds (GoodLambda ds (with_function s n sc)) (Good ds sc) _ _ (function_tree_good ds (inside levels) (with_function s n sc) f plain) (λ l h.
        since_skip ds (Good ds sc) _ _ (begin_keeps 1 (inside levels) sc)
        (since_pure ds (Good ds sc) (tree.Labels sc.place (define sc.place n s l no_definition) (tree.FunLocal sc.place n)) (λ holds.
        labels_sound ps sc.place (define sc.place n s l no_definition) (tree.FunLocal sc.place n) (define_sound ps sc.place n s l no_definition (h holds) (no_definition_sound ps)) (leaf_sound ps (LocalFunction n) sc.place)))))

    -- ---- blocks and tags

    pub block_node_good : (ds : List Typed) (levels : ℕ) (sc : Scope) (s : SymId) (x : Sketch) → Plain x → Since ds (Good ds sc) (block_node levels inner sc s x)
    unfolding block_node
    block_node_good ds levels sc s x plain =
        since_then ds Anything (Good ds sc) _ _ (since_skip ds Anything _ _ (begin_keeps 1 levels sc) (keeps_does (Grown ds) Anything _ (numbers_keep 1))) (λ n _.
        since_then ds (Good ds (with_block s n sc)) (Good ds sc) _ _ (makes_good ds (inside levels) (with_block s n sc) x plain) (λ e h.
        since_pure ds (Good ds sc) (tree.Block sc.place n s e) (λ holds. block_sound ps sc.place n s e (h holds))))

  module _ (ds : List Typed) (sc : Scope) (inner : Sketch → Step Core) (good : (v : Val) → Since ds (Good ds sc) (inner (form v))) where
    item_good : (n : ℕ) (v : Val) (vs : List Val) (b : Bool) → ((m : ℕ) → Since ds (GoodItems ds sc) (items inner m vs)) → Since ds (GoodItems ds sc) (if b then (items inner (suc n) vs >>= λ is. pure (tag n v is)) else (inner (form v) >>= λ e. items inner n vs >>= λ is. pure (step e is)))
    item_good n v vs true rest =
        since_then ds (GoodItems ds sc) (GoodItems ds sc) _ _ (rest (suc n)) (λ is h. since_pure ds (GoodItems ds sc) (tag n v is) (λ holds. tag_sound ps n v is (h holds)))
    item_good n v vs false rest =
        since_then ds (Good ds sc) (GoodItems ds sc) _ _ (good v) (λ e h.
        since_then ds (GoodItems ds sc) (GoodItems ds sc) _ _ (rest n) (λ is k.
        since_pure ds (GoodItems ds sc) (step e is) (λ holds. step_sound ps e is (h holds) (k holds))))

    items_good : (n : ℕ) (vs : List Val) → Since ds (GoodItems ds sc) (items inner n vs)
    unfolding items
    items_good n [] = since_pure ds (GoodItems ds sc) no_item (λ _. no_item_sound ps)
    items_good n (v ∷ vs) = item_good n v vs (is_tag v) (λ m. items_good m vs)

  pub tagbody_node_good : (inner : Inner) → MakesGood inner → (ds : List Typed) (levels : ℕ) (sc : Scope) (vs : List Val) → Since ds (Good ds sc) (tagbody_node levels inner sc vs)
  unfolding tagbody_node
  tagbody_node_good inner makes_good ds levels sc vs =
      since_then ds Anything (Good ds sc) _ _ (since_skip ds Anything _ _ (begin_keeps 1 levels sc) (keeps_does (Grown ds) Anything _ (numbers_keep (tags_in vs)))) (λ n _.
      let own : Scope = with_tags n vs sc in
      since_then ds (GoodItems ds own) (Good ds sc) _ _ (items_good ds own (inner (inside levels) own) (λ v. makes_good ds (inside levels) own (form v) tt) n vs) (λ is h.
      since_pure ds (Good ds sc) (tree.Tagbody sc.place is) (λ holds. tagbody_sound ps sc.place is (h (holds_tags ps ds n vs sc holds)))))
