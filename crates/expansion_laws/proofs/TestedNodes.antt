-- Nodes in which the types that are declared of variables are tested.
use Rattle.std.specs.Prelude.{ℕ, List, [], ◌++◌, All, Contains, Option, None}
use Rattle.std.proofs.lemmas.List.Elements.{All-nil, All-cons, All-append, Contains-append_left, Contains-append_right}
use Rattle.lisp_base.specs.declared.values.Place.{Place}
use Rattle.lisp_base.specs.declared.values.Place.TheVariants.{File}
use Rattle.lisp_base.specs.declared.values.SymId.{SymId}
use Rattle.lisp_base.specs.declared.values.Val.{Val}
use Rattle.lisp_base.specs.Spec.{Spec}
use Rattle.core_form.specs.Tree as tree
use Rattle.core_form.specs.Tree.{Core, Cores, no_core, core, Bindings, no_binding, binding, Optionals, no_optional, optional, Lambda, lambda, Definitions, no_definition, define, Items, no_item, tag, step, Parameter}
use Rattle.core_form.specs.Facts.{gather, gather_all, gather_bindings, gather_optionals, gather_lambda, gather_definitions, gather_items, no_function, parameter_number, binding_parameters, parameters_of, let_parameters, function_parameters}
use Rattle.core_form.specs.Lawful.{types_round, values_of, values_bound, value_set}
use Rattle.expansion.specs.declared.heads.Leaf.{Leaf}
use Rattle.expansion.specs.declared.heads.Leaf.TheVariants.{Constant, LocalVariable, GlobalVariable, LocalFunction, GlobalFunction, GoTo}
use Rattle.expansion.specs.declared.heads.Binary.{Binary}
use Rattle.expansion.specs.declared.heads.Binary.TheVariants.{Catching, Throwing, Unwinding, KeepingValues}
use Rattle.expansion.specs.declared.heads.Many.{Many}
use Rattle.expansion.specs.declared.heads.Many.TheVariants.{Sequence, CallingLocal, CallingGlobal, Operating, GivingValues}
use Rattle.expansion.specs.declared.heads.Calling.{Calling}
use Rattle.expansion.specs.declared.heads.Calling.TheVariants.{Funcalling, Applying, CallingWithValues}
use Rattle.expansion.specs.Sketches.{leaf_node, Unary, SettingLocal, SettingGlobal, SettingFunction, Testing, Checking, Returning, unary_node, binary_node, many_node, calling_node}

-- a node of another head than the setting of a lexical variable
abbrev pub SetsNoLocal : Unary → Type 0
SetsNoLocal (SettingLocal n) = ⊥
SetsNoLocal (SettingGlobal s) = Unit {0}
SetsNoLocal (SettingFunction s) = Unit {0}
SetsNoLocal (Testing t) = Unit {0}
SetsNoLocal (Checking t) = Unit {0}
SetsNoLocal (Returning b) = Unit {0}

-- THE nodes for these types stand round a form
abbrev pub Rounds : List Spec → Core → Type 0
Rounds ts e = (t : Spec) → Contains ts t → Contains (types_round e) t

abbrev pub BoundTested : Parameter × Core → Type 0
BoundTested b = Rounds b.0.types b.1

-- the value that a variable of this number is set to is tested for the types of a variable of this number among some
pub record SetTested (ps : List Parameter) (set : ℕ × Core) : Type 0 where
  pub variable : Parameter
  pub there : Contains ps variable
  pub number : Contains (parameter_number variable) set.0
  pub types : Rounds variable.types set.1

pub record Tests (ps : List Parameter) (bound : List (Parameter × Core)) (set : List (ℕ × Core)) : Type 0 where
  pub bound_tested : All BoundTested bound
  pub set_tested : All (SetTested ps) set

-- these variables are among those
abbrev pub Within : List Parameter → List Parameter → Type 0
Within ps xs = (x : Parameter) → Contains xs x → Contains ps x

pub within_left : (ps xs ys : List Parameter) → Within ps (xs ++ ys) → Within ps xs
within_left ps xs ys h x there = h x (Contains-append_left xs ys x there)

pub within_right : (ps xs ys : List Parameter) → Within ps (xs ++ ys) → Within ps ys
within_right ps xs ys h x there = h x (Contains-append_right xs ys x there)

module _ (ps : List Parameter) where
  -- a part with these variables binds and sets so, where the variables are among those
  abbrev pub Part : List Parameter → List (Parameter × Core) → List (ℕ × Core) → Type 0
  Part xs bound set = Within ps xs → Tests ps bound set

  pub nothing : Part [] [] []
  nothing h = record { bound_tested = All-nil BoundTested; set_tested = All-nil (SetTested ps) }

  tests_both : (bs cs : List (Parameter × Core)) (ss ts : List (ℕ × Core)) → Tests ps bs ss → Tests ps cs ts → Tests ps (bs ++ cs) (ss ++ ts)
  tests_both bs cs ss ts h k = record { bound_tested = All-append BoundTested bs cs h.bound_tested k.bound_tested; set_tested = All-append (SetTested ps) ss ts h.set_tested k.set_tested }

  -- the second part, where the variables of the first are among those
  pub part_then : (xs ys : List Parameter) (bs cs : List (Parameter × Core)) (ss ts : List (ℕ × Core)) → Part xs bs ss → (Within ps xs → Part ys cs ts) → Part (xs ++ ys) (bs ++ cs) (ss ++ ts)
  part_then xs ys bs cs ss ts h k within = tests_both bs cs ss ts (h (within_left ps xs ys within)) (k (within_left ps xs ys within) (within_right ps xs ys within))

  pub part_both : (xs ys : List Parameter) (bs cs : List (Parameter × Core)) (ss ts : List (ℕ × Core)) → Part xs bs ss → Part ys cs ts → Part (xs ++ ys) (bs ++ cs) (ss ++ ts)
  part_both xs ys bs cs ss ts h k = part_then xs ys bs cs ss ts h (λ _. k)

  abbrev pub Sound : Core → Type 0
  Sound e = Part (gather let_parameters function_parameters e) (gather values_bound no_function e) (gather value_set no_function e)

  abbrev pub SoundCores : Cores → Type 0
  SoundCores es = Part (gather_all let_parameters function_parameters es) (gather_all values_bound no_function es) (gather_all value_set no_function es)

  abbrev pub SoundBindings : Bindings → Type 0
  SoundBindings bs = Part (gather_bindings let_parameters function_parameters bs) (gather_bindings values_bound no_function bs) (gather_bindings value_set no_function bs)

  abbrev pub SoundOptionals : Optionals → Type 0
  SoundOptionals os = Part (gather_optionals let_parameters function_parameters os) (gather_optionals values_bound no_function os) (gather_optionals value_set no_function os)

  abbrev pub SoundLambda : Lambda → Type 0
  SoundLambda l = Part (gather_lambda let_parameters function_parameters None (File 0 0) l) (gather_lambda values_bound no_function None (File 0 0) l) (gather_lambda value_set no_function None (File 0 0) l)

  abbrev pub SoundDefinitions : Definitions → Type 0
  SoundDefinitions ds = Part (gather_definitions let_parameters function_parameters ds) (gather_definitions values_bound no_function ds) (gather_definitions value_set no_function ds)

  abbrev pub SoundItems : Items → Type 0
  SoundItems is = Part (gather_items let_parameters function_parameters is) (gather_items values_bound no_function is) (gather_items value_set no_function is)

  -- ---- nodes by their heads

  pub leaf_sound : (l : Leaf) (p : Place) → Sound (leaf_node l p)
  unfolding gather
  leaf_sound (Constant v) p = nothing
  leaf_sound (LocalVariable n) p = nothing
  leaf_sound (GlobalVariable s) p = nothing
  leaf_sound (LocalFunction f) p = nothing
  leaf_sound (GlobalFunction s) p = nothing
  leaf_sound (GoTo t) p = nothing

  pub unary_sound : (u : Unary) (p : Place) (e : Core) → SetsNoLocal u → Sound e → Sound (unary_node u p e)
  unfolding gather
  unary_sound (SettingLocal n) p e h k = absurd h
  unary_sound (SettingGlobal s) p e h k = k
  unary_sound (SettingFunction s) p e h k = k
  unary_sound (Testing t) p e h k = k
  unary_sound (Checking t) p e h k = k
  unary_sound (Returning b) p e h k = k

  pub set_sound : (n : ℕ) (p : Place) (e : Core) → SetTested ps (n, e) → Sound e → Sound (tree.SetLocal p n e)
  unfolding gather
  set_sound n p e h k within =
      let t : Tests ps (gather values_bound no_function e) (gather value_set no_function e) = k within in
      record { bound_tested = t.bound_tested; set_tested = All-cons (SetTested ps) (n, e) (gather value_set no_function e) h t.set_tested }

  pub binary_sound : (b : Binary) (p : Place) (e f : Core) → Sound e → Sound f → Sound (binary_node b p e f)
  unfolding gather
  binary_sound Catching p e f h k = part_both _ _ _ _ _ _ h k
  binary_sound Throwing p e f h k = part_both _ _ _ _ _ _ h k
  binary_sound Unwinding p e f h k = part_both _ _ _ _ _ _ h k
  binary_sound KeepingValues p e f h k = part_both _ _ _ _ _ _ h k

  pub choice_sound : (p : Place) (a b c : Core) → Sound a → Sound b → Sound c → Sound (tree.If p a b c)
  unfolding gather
  choice_sound p a b c h k l = part_both _ _ _ _ _ _ (part_both _ _ _ _ _ _ h k) l

  pub many_sound : (m : Many) (p : Place) (es : Cores) → SoundCores es → Sound (many_node m p es)
  unfolding gather gather_all
  many_sound Sequence p es h = h
  many_sound (CallingLocal f) p es h = h
  many_sound (CallingGlobal s) p es h = h
  many_sound (Operating q) p es h = h
  many_sound GivingValues p es h = h

  pub calling_sound : (c : Calling) (p : Place) (e : Core) (es : Cores) → Sound e → SoundCores es → Sound (calling_node c p e es)
  unfolding gather gather_all
  calling_sound Funcalling p e es h k = part_both _ _ _ _ _ _ h k
  calling_sound Applying p e es h k = part_both _ _ _ _ _ _ h k
  calling_sound CallingWithValues p e es h k = part_both _ _ _ _ _ _ h k

  -- ---- parts

  pub no_core_sound : SoundCores no_core
  unfolding gather gather_all
  no_core_sound = nothing

  pub core_sound : (e : Core) (es : Cores) → Sound e → SoundCores es → SoundCores (core e es)
  unfolding gather gather_all
  core_sound e es h k = part_both _ _ _ _ _ _ h k

  pub no_binding_sound : SoundBindings no_binding
  unfolding gather gather_bindings
  no_binding_sound = nothing

  pub binding_sound : (x : Parameter) (e : Core) (bs : Bindings) → Sound e → SoundBindings bs → SoundBindings (binding x e bs)
  unfolding gather gather_bindings
  binding_sound x e bs h k = part_both _ _ _ _ _ _ h k

  pub no_optional_sound : SoundOptionals no_optional
  unfolding gather gather_optionals
  no_optional_sound = nothing

  pub optional_sound : (x : Parameter) (e : Core) (s : Option Parameter) (os : Optionals) → Sound e → SoundOptionals os → SoundOptionals (optional x e s os)
  unfolding gather gather_optionals
  optional_sound x e s os h k = part_both _ _ _ _ _ _ h k

  pub no_definition_sound : SoundDefinitions no_definition
  unfolding gather gather_definitions
  no_definition_sound = nothing

  pub define_sound : (p : Place) (n : ℕ) (s : SymId) (l : Lambda) (ds : Definitions) → SoundLambda l → SoundDefinitions ds → SoundDefinitions (define p n s l ds)
  unfolding gather gather_lambda gather_definitions
  define_sound p n s (lambda k xs os r e) ds h d = part_both _ _ _ _ _ _ h d

  pub no_item_sound : SoundItems no_item
  unfolding gather gather_items
  no_item_sound = nothing

  pub tag_sound : (n : ℕ) (v : Val) (is : Items) → SoundItems is → SoundItems (tag n v is)
  unfolding gather gather_items
  tag_sound n v is h = h

  pub step_sound : (e : Core) (is : Items) → Sound e → SoundItems is → SoundItems (step e is)
  unfolding gather gather_items
  step_sound e is h k = part_both _ _ _ _ _ _ h k

  -- ---- nodes that bind

  -- variables that a node binds, whose values these are
  binds : (xs : List Parameter) (bs : List (Parameter × Core)) → All BoundTested bs → Part xs bs []
  binds xs bs h within = record { bound_tested = h; set_tested = All-nil (SetTested ps) }

  pub let_sound : (p : Place) (bs : Bindings) (e : Core) → All BoundTested (values_of bs) → SoundBindings bs → (Within ps (binding_parameters bs) → Sound e) → Sound (tree.Let p bs e)
  unfolding gather gather_bindings
  let_sound p bs e tested h k =
      part_then (binding_parameters bs ++ gather_bindings let_parameters function_parameters bs) (gather let_parameters function_parameters e) _ _ _ _
      (part_both (binding_parameters bs) _ (values_of bs) _ [] _ (binds (binding_parameters bs) (values_of bs) tested) h) (λ within.
      k (within_left ps (binding_parameters bs) (gather_bindings let_parameters function_parameters bs) within))

  pub lambda_sound : (k : ℕ) (xs : List Parameter) (os : Optionals) (r : Option Parameter) (e : Core) → (Within ps (parameters_of (lambda k xs os r e)) → SoundOptionals os) → (Within ps (parameters_of (lambda k xs os r e)) → Sound e) → SoundLambda (lambda k xs os r e)
  unfolding gather gather_optionals gather_lambda
  lambda_sound k xs os r e h g =
      let ys : List Parameter = parameters_of (lambda k xs os r e) in
      part_then (ys ++ gather_optionals let_parameters function_parameters os) (gather let_parameters function_parameters e) _ _ _ _
      (part_then ys (gather_optionals let_parameters function_parameters os) [] _ [] _ (binds ys [] (All-nil BoundTested)) h) (λ within.
      g (within_left ps ys (gather_optionals let_parameters function_parameters os) within))

  pub function_sound : (p : Place) (l : Lambda) → SoundLambda l → Sound (tree.Function p l)
  unfolding gather gather_lambda
  function_sound p (lambda k xs os r e) h = h

  pub labels_sound : (p : Place) (ds : Definitions) (e : Core) → SoundDefinitions ds → Sound e → Sound (tree.Labels p ds e)
  unfolding gather gather_definitions
  labels_sound p ds e h k = part_both _ _ _ _ _ _ h k

  pub block_sound : (p : Place) (n : ℕ) (s : SymId) (e : Core) → Sound e → Sound (tree.Block p n s e)
  unfolding gather
  block_sound p n s e h = h

  pub tagbody_sound : (p : Place) (is : Items) → SoundItems is → Sound (tree.Tagbody p is)
  unfolding gather gather_items
  tagbody_sound p is h = h
