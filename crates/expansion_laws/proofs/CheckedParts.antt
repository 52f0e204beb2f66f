-- The parts of nodes are checked where what makes a tree of a part gives checked trees.
use Rattle.std.specs.Prelude.{◌≡◌, ℕ, suc, ◌+◌, Bool, true, false, if◌then◌else◌, List, [], ◌∷◌, ◌++◌, Option, Some}
use Rattle.std.proofs.Common.{refl, ap, subst}
use mathlib.Core.List.{append_assoc}
use Rattle.lisp_base.specs.declared.values.Place.{Place}
use Rattle.lisp_base.specs.declared.values.SymId.{SymId}
use Rattle.lisp_base.specs.declared.values.Val.{Val}
use Rattle.core_form.specs.Tree as tree
use Rattle.core_form.specs.Tree.{Core, Cores, no_core, core, cores_length, Bindings, no_binding, binding, Optionals, no_optional, optional, Lambda, lambda, Definitions, no_definition, define, Items, no_item, tag, step, Parameter}
use Rattle.core_form.specs.Facts.{parameter_number, binding_parameters, if_given}
use Rattle.core_form.specs.Checked as checked
use Rattle.core_form.specs.Checked.{parameter_numbers, function_numbers, tag_numbers, optional_numbers, optionals_numbers, in_body, with_variables, with_functions, with_block, with_tags as round_tags}
use Rattle.expansion.specs.declared.heads.Leaf.TheVariants.{LocalFunction}
use Rattle.expansion.specs.declared.heads.Reach.{Reach}
use Rattle.expansion.specs.declared.heads.Reach.TheVariants.{ForBody, ForAll}
use Rattle.expansion.specs.Scopes.{Scope, with_function, with_block as block_within}
use Rattle.expansion.specs.Steps.{World, Step, ◌>>=◌, pure, inside}
use Rattle.expansion.specs.Sketches.{Initial, Sketch, form, Sketches, no_sketch, sketch, Function, function_of, checked as tested_for}
use Rattle.expansion.specs.Bindings.{function_sketch}
use Rattle.expansion.specs.Forms.{is_tag}
use Rattle.expansion.specs.Expanding.{Bound, with_bound, with_all, with_some, parameters, parameter_some, Inner, each, values_bound, bounds_of, binding_node, BoundOptional, defaults, function_tree, defined, definition_at, definitions, around_definitions, functions_tree, functions_node, recursive_node, block_node, with_tags, items, tagbody_node}
use Rattle.expansion_laws.specs.Planned.{Sketched}
use Rattle.expansion_laws.specs.CheckedTrees.{Holds}
use Rattle.expansion_laws.proofs.Giving.{weaker, Has, then_has, after_has, skip_has, pure_has, look_has}
use Rattle.expansion_laws.proofs.FunctionPlans.{function_gives}
use Rattle.expansion_laws.proofs.Among.{Among, first_there, among_left, among_right, Wider, wider_variables, wider_in, wider_functions, wider_block, wider_tags}
use Rattle.expansion_laws.proofs.Holding.{holds_wider, holds_at, holds_bound, holds_all, holds_some, holds_function, holds_block, counted, holds_definitions, tags_counted, holds_tags}
use Rattle.expansion_laws.proofs.CheckedSketches.{sketches_length, Fine, FineAll, FineFunction, fine_wider, function_wider, tested_fine}
use Rattle.expansion_laws.proofs.CheckedPlans.{function_fine}
use Rattle.expansion_laws.proofs.CheckedNodes.{GoodCore, GoodCores, GoodValues, GoodLambda, GoodOptionals, GoodDefinitions, GoodItems, no_core_good, core_good, no_binding_good, binding_good, no_optional_good, no_definition_good, leaf_good, no_item_good, step_good, tag_good, define_good, optional_good, lambda_good, let_good, labels_good, block_good, tagbody_good}

-- what makes a tree of a part gives checked trees
abbrev pub MakesGood : Inner → Type 0
MakesGood inner = (levels : ℕ) (sc : Scope) (round : checked.Scope) (x : Sketch) → Holds sc round → Fine round x → Has (GoodCore round) (inner levels sc x)

-- ---- parts in a row

abbrev pub GoodRow : checked.Scope → ℕ → Cores → Type 0
GoodRow round n es = GoodCores round es × (cores_length es ≡ n)

pub each_good : (round : checked.Scope) (inner : Sketch → Step Core) → ((x : Sketch) → Fine round x → Has (GoodCore round) (inner x)) → (xs : Sketches) → FineAll round xs → Has (GoodRow round (sketches_length xs)) (each inner xs)
unfolding each
each_good round inner good no_sketch fine = pure_has (GoodRow round 0) no_core (no_core_good round, refl)
each_good round inner good (sketch x xs) fine =
    then_has (GoodCore round) (GoodRow round (1 + sketches_length xs)) _ _ (good x fine.0) (λ e h.
    then_has (GoodRow round (sketches_length xs)) (GoodRow round (1 + sketches_length xs)) _ _ (each_good round inner good xs fine.1) (λ es k.
    pure_has (GoodRow round (1 + sketches_length xs)) (core e es) (core_good round e es h k.0, ap (λ (n : ℕ). 1 + n) k.1)))

-- ---- bindings

abbrev GoodBound : checked.Scope → List (Bound × Val) → Bindings → Type 0
GoodBound round ps bs = GoodValues round bs × (binding_parameters bs ≡ parameters (bounds_of ps))

values_good : (round : checked.Scope) (inner : Sketch → Step Core) → ((x : Sketch) → Fine round x → Has (GoodCore round) (inner x)) → (ps : List (Bound × Val)) → Has (GoodBound round ps) (values_bound inner ps)
unfolding values_bound
values_good round inner good [] = pure_has (GoodBound round []) no_binding (no_binding_good round, refl)
values_good round inner good (p ∷ ps) =
    then_has (GoodCore round) (GoodBound round (p ∷ ps)) _ _ (good (tested_for p.0.1.types (form p.1)) (tested_fine round p.0.1.types (form p.1) tt)) (λ e h.
    then_has (GoodBound round ps) (GoodBound round (p ∷ ps)) _ _ (values_good round inner good ps) (λ bs k.
    pure_has (GoodBound round (p ∷ ps)) (binding p.0.1 e bs) (binding_good round p.0.1 e bs h k.0, ap (λ (xs : List Parameter). p.0.1 ∷ xs) k.1)))

-- a scope with bindings, in what has their variables bound round it
holds_bindings : (bs : List Bound) (sc : Scope) (round : checked.Scope) → Holds sc round → Holds (with_all sc bs) (with_variables (parameter_numbers (parameters bs)) round)
holds_bindings bs sc round h =
    let xs : List ℕ = parameter_numbers (parameters bs) in
    holds_all bs sc (with_variables xs round) (among_left xs round.variables) (holds_wider sc round (with_variables xs round) (wider_variables xs round) h)

module _ (inner : Inner) (makes_good : MakesGood inner) where
  pub binding_node_good : (levels : ℕ) (sc : Scope) (round : checked.Scope) (bs : List Initial) (x : Sketch) → Holds sc round → Fine round x → Has (GoodCore round) (binding_node levels inner sc bs x)
  unfolding binding_node
  binding_node_good levels sc round bs x holds fine =
      after_has (GoodCore round) _ _ (λ ps.
      let own : Scope = with_all sc (bounds_of ps) in
      let xs : List ℕ = parameter_numbers (parameters (bounds_of ps)) in
      then_has (GoodBound round ps) (GoodCore round) _ _ (values_good round (inner (inside levels) sc) (λ y f. makes_good (inside levels) sc round y holds f) ps) (λ values h.
      then_has (GoodCore (with_variables xs round)) (GoodCore round) _ _
      (makes_good (inside levels) own (with_variables xs round) x (holds_bindings (bounds_of ps) sc round holds) (fine_wider round (with_variables xs round) (wider_variables xs round) x fine)) (λ e k.
      pure_has (GoodCore round) (tree.Let sc.place values e) (let_good round sc.place values e (parameters (bounds_of ps)) h.1 h.0 k))))

-- ---- functions

-- the forms for optional parameters, after these variables, and the scope within all of them
abbrev GoodDefaults : checked.Scope → List ℕ → Optionals × Scope → Type 0
GoodDefaults round before found = GoodOptionals round before found.0 × Holds found.1 (with_variables (before ++ optionals_numbers found.0) round)

-- an optional parameter's variables, after those before it
holds_optional : (o : BoundOptional) (sc : Scope) (round : checked.Scope) (before : List ℕ) → Holds sc (with_variables before round) → Holds (with_some (with_bound sc o.bound) o.supplied) (with_variables (before ++ optional_numbers o.bound.1 (parameter_some o.supplied)) round)
holds_optional o sc round before h =
    let one : List ℕ = parameter_number o.bound.1 in
    let flag : List ℕ = parameter_numbers (if_given (parameter_some o.supplied)) in
    let all : List ℕ = before ++ (one ++ flag) in
    let here : Among (one ++ flag) (all ++ round.variables) = λ n there. among_left all round.variables n (among_right before (one ++ flag) n there) in
    holds_some o.supplied (with_bound sc o.bound) (with_variables all round) (λ n there. here n (among_right one flag n there))
    (holds_bound o.bound sc (with_variables all round) (λ n there. here n (among_left one flag n there))
    (holds_wider sc (with_variables before round) (with_variables all round) (wider_in before all round (λ n there. among_left all round.variables n (among_left before (one ++ flag) n there))) h))

defaults_good : (inner : Scope → Sketch → Step Core) → ((sc : Scope) (round : checked.Scope) (v : Val) → Holds sc round → Has (GoodCore round) (inner sc (form v))) → (os : List BoundOptional) (sc : Scope) (round : checked.Scope) (before : List ℕ) → Holds sc (with_variables before round) → Has (GoodDefaults round before) (defaults inner sc os)
unfolding defaults
defaults_good inner good [] sc round before holds =
    pure_has (GoodDefaults round before) (no_optional, sc) (no_optional_good round before, holds_wider sc (with_variables before round) (with_variables (before ++ []) round) (wider_in before (before ++ []) round (λ n there. among_left (before ++ []) round.variables n (among_left before [] n there))) holds)
defaults_good inner good (o ∷ os) sc round before holds =
    let more : List ℕ = before ++ optional_numbers o.bound.1 (parameter_some o.supplied) in
    then_has (GoodCore (with_variables before round)) (GoodDefaults round before) _ _ (good sc (with_variables before round) o.default holds) (λ e h.
    then_has (GoodDefaults round more) (GoodDefaults round before) _ _ (defaults_good inner good os (with_some (with_bound sc o.bound) o.supplied) round more (holds_optional o sc round before holds)) (λ found k.
    pure_has (GoodDefaults round before) (optional o.bound.1 e (parameter_some o.supplied) found.0, found.1) (
      optional_good round before o.bound.1 e (parameter_some o.supplied) found.0 h k.0,
      subst (λ (ns : List ℕ). Holds found.1 (with_variables ns round)) (append_assoc before (optional_numbers o.bound.1 (parameter_some o.supplied)) (optionals_numbers found.0)) k.1,
    )))

module _ (inner : Inner) (makes_good : MakesGood inner) where
  -- the body, within all parameters
  body_within : (levels : ℕ) (sc : Scope) (round : checked.Scope) (k : ℕ) (xs : List Bound) (r : Option Bound) (x : Sketch) → Fine round x → (os : Optionals) (own : Scope) → GoodDefaults (with_variables (parameter_numbers (parameters xs)) round) [] (os, own) → Has (GoodLambda round) (inner (inside levels) (with_some own r) x >>= λ e. pure (lambda k (parameters xs) os (parameter_some r) e))
  body_within levels sc round k xs r x fine os own h =
      let first : checked.Scope = with_variables (parameter_numbers (parameters xs)) round in
      let second : checked.Scope = with_variables (optionals_numbers os) first in
      let third : checked.Scope = in_body (parameters xs) os (parameter_some r) round in
      let rest : List ℕ = parameter_numbers (if_given (parameter_some r)) in
      then_has (GoodCore third) (GoodLambda round) _ _
      (makes_good (inside levels) (with_some own r) third x
      (holds_some r own third (among_left rest second.variables) (holds_wider own second third (wider_variables rest second) h.1))
      (fine_wider second third (wider_variables rest second) x (fine_wider first second (wider_variables (optionals_numbers os) first) x (fine_wider round first (wider_variables (parameter_numbers (parameters xs)) round) x fine)))) (λ e g.
      pure_has (GoodLambda round) (lambda k (parameters xs) os (parameter_some r) e) (lambda_good round k (parameters xs) os (parameter_some r) e h.0 g))

  pub function_tree_good : (levels : ℕ) (sc : Scope) (round : checked.Scope) (f : Function) → Holds sc round → FineFunction round f → Has (GoodLambda round) (function_tree levels inner sc f)
  unfolding function_tree
  function_tree_good levels sc round (function_of required optionals rest x) holds fine =
      after_has (GoodLambda round) _ _ (λ k. after_has (GoodLambda round) _ _ (λ xs. after_has (GoodLambda round) _ _ (λ os. after_has (GoodLambda round) _ _ (λ r.
      let first : checked.Scope = with_variables (parameter_numbers (parameters xs)) round in
      then_has (GoodDefaults first []) (GoodLambda round) _ _
      (skip_has (GoodDefaults first []) _ _ (defaults_good (inner (inside levels)) (λ own around v h. makes_good (inside levels) own around (form v) h tt) os (with_all sc xs) first [] (holds_bindings xs sc round holds))) (λ found h.
      body_within levels sc round k xs r x fine found.0 found.1 h)))))

  -- ---- local functions

  -- what puts a definition before others
  pub data Defines (round : checked.Scope) (n : ℕ) : (Definitions → Definitions) → Type 0 where
    defines : (p : Place) (s : SymId) (l : Lambda) → GoodLambda round l → Defines round n (define p n s l)

  defined_good : (levels : ℕ) (sc : Scope) (round : checked.Scope) (n : ℕ) (v : Val) (s : SymId) → Holds sc round → Has (Defines round n) (defined levels inner sc n v s)
  defined_good levels sc round n v s holds =
      then_has (GoodLambda round) (Defines round n) _ _
      (then_has (FineFunction round) (GoodLambda round) _ _
      (after_has (FineFunction round) _ _ (λ list w.
      weaker (Sketched sc (Some s) w list) (λ (f : Function) (u : World). FineFunction round f) (function_sketch sc (Some s) list w) (function_gives sc (Some s) w list) (λ f u by.
      function_fine round sc (Some s) w list f u by))) (λ f fine.
      function_tree_good levels sc round f holds fine)) (λ l h.
      pure_has (Defines round n) (define sc.place n s l) (defines sc.place s l h))

  definition_at_good : (levels : ℕ) (sc : Scope) (round : checked.Scope) (n : ℕ) (v : Val) → Holds sc round → Has (Defines round n) (definition_at levels inner sc n v)
  unfolding definition_at
  definition_at_good levels sc round n v holds =
      then_has (λ (own : Scope). Holds own round) (Defines round n) _ _ (look_has (λ (own : Scope). Holds own round) _ (λ w. holds_at w.heap v sc round holds)) (λ own h.
      after_has (Defines round n) _ _ (λ s. defined_good levels own round n v s h))

  abbrev GoodCounted : checked.Scope → List ℕ → Definitions → Type 0
  GoodCounted round ns ds = GoodDefinitions round ds × (function_numbers ds ≡ ns)

  defines_more : (round : checked.Scope) (n : ℕ) (ns : List ℕ) (d : Definitions → Definitions) (ds : Definitions) → Defines round n d → GoodCounted round ns ds → GoodCounted round (n ∷ ns) (d ds)
  defines_more round n ns d ds (defines p s l h) k = (define_good round p n s l ds h k.0, ap (λ (fs : List ℕ). n ∷ fs) k.1)

  definitions_good : (levels : ℕ) (sc : Scope) (round : checked.Scope) (n : ℕ) (vs : List Val) → Holds sc round → Has (GoodCounted round (counted n vs)) (definitions levels inner sc n vs)
  unfolding definitions
  definitions_good levels sc round n [] holds = pure_has (GoodCounted round []) no_definition (no_definition_good round, refl)
  definitions_good levels sc round n (v ∷ vs) holds =
      then_has (Defines round n) (GoodCounted round (n ∷ counted (suc n) vs)) _ _ (definition_at_good levels sc round n v holds) (λ d h.
      then_has (GoodCounted round (counted (suc n) vs)) (GoodCounted round (n ∷ counted (suc n) vs)) _ _ (definitions_good levels sc round (suc n) vs holds) (λ ds k.
      pure_has (GoodCounted round (n ∷ counted (suc n) vs)) (d ds) (defines_more round n (counted (suc n) vs) d ds h k)))

  holds_reach : (reach : Reach) (outer own : Scope) (round : checked.Scope) → Holds outer round → Holds own round → Holds (around_definitions reach outer own) round
  holds_reach ForBody outer own round h k = h
  holds_reach ForAll outer own round h k = k

  functions_tree_good : (levels : ℕ) (reach : Reach) (outer own : Scope) (round : checked.Scope) (n : ℕ) (vs : List Val) (x : Sketch) → Holds outer round → Holds own (with_functions (counted n vs) round) → Fine round x → Has (GoodCore round) (functions_tree levels inner reach outer own n vs x)
  unfolding functions_tree
  functions_tree_good levels reach outer own round n vs x holds inside_holds fine =
      let fs : List ℕ = counted n vs in
      let within : checked.Scope = with_functions fs round in
      let wider : Wider round within = wider_functions fs round in
      then_has (GoodCounted within fs) (GoodCore round) _ _ (definitions_good levels (around_definitions reach outer own) within n vs (holds_reach reach outer own within (holds_wider outer round within wider holds) inside_holds)) (λ ds h.
      then_has (GoodCore within) (GoodCore round) _ _ (makes_good levels own within x inside_holds (fine_wider round within wider x fine)) (λ e k.
      pure_has (GoodCore round) (tree.Labels outer.place ds e) (labels_good round outer.place ds e fs h.1 h.0 k)))

  pub functions_node_good : (levels : ℕ) (sc : Scope) (round : checked.Scope) (reach : Reach) (vs : List Val) (x : Sketch) → Holds sc round → Fine round x → Has (GoodCore round) (functions_node levels inner sc reach vs x)
  unfolding functions_node
  functions_node_good levels sc round reach vs x holds fine =
      after_has (GoodCore round) _ _ (λ n.
      let fs : List ℕ = counted n vs in
      let within : checked.Scope = with_functions fs round in
      then_has (λ (own : Scope). Holds own within) (GoodCore round) _ _
      (look_has (λ (own : Scope). Holds own within) _ (λ w. holds_definitions w.heap n vs sc within (among_left fs round.functions) (holds_wider sc round within (wider_functions fs round) holds))) (λ own h.
      functions_tree_good (inside levels) reach sc own round n vs x holds h fine))

  pub recursive_node_good : (levels : ℕ) (sc : Scope) (round : checked.Scope) (s : SymId) (f : Function) → Holds sc round → FineFunction round f → Has (GoodCore round) (recursive_node levels inner sc s f)
  unfolding recursive_node
  recursive_node_good levels sc round s f holds fine =
      after_has (GoodCore round) _ _ (λ n.
      let within : checked.Scope = with_functions (n ∷ []) round in
      let wider : Wider round within = wider_functions (n ∷ []) round in
      then_has (GoodLambda within) (GoodCore round) _ _
      (function_tree_good (inside levels) (with_function s n sc) within f (holds_function s n sc within (first_there n round.functions) (holds_wider sc round within wider holds)) (function_wider round within wider f fine)) (λ l h.
      skip_has (GoodCore round) _ _
      (pure_has (GoodCore round) (tree.Labels sc.place (define sc.place n s l no_definition) (tree.FunLocal sc.place n))
      (labels_good round sc.place (define sc.place n s l no_definition) (tree.FunLocal sc.place n) (n ∷ []) refl (define_good within sc.place n s l no_definition h (no_definition_good within)) (leaf_good within (LocalFunction n) sc.place (first_there n round.functions))))))

  -- ---- blocks and tags

  pub block_node_good : (levels : ℕ) (sc : Scope) (round : checked.Scope) (s : SymId) (x : Sketch) → Holds sc round → Fine round x → Has (GoodCore round) (block_node levels inner sc s x)
  unfolding block_node
  block_node_good levels sc round s x holds fine =
      after_has (GoodCore round) _ _ (λ n.
      let within : checked.Scope = with_block n round in
      then_has (GoodCore within) (GoodCore round) _ _
      (makes_good (inside levels) (block_within s n sc) within x (holds_block s n sc within (first_there n round.blocks) (holds_wider sc round within (wider_block n round) holds)) (fine_wider round within (wider_block n round) x fine)) (λ e h.
      pure_has (GoodCore round) (tree.Block sc.place n s e) (block_good round sc.place n s e h)))

abbrev GoodTags : checked.Scope → List ℕ → Items → Type 0
GoodTags round ts is = GoodItems round is × (tag_numbers is ≡ ts)

module _ (round : checked.Scope) (inner : Sketch → Step Core) (good : (v : Val) → Has (GoodCore round) (inner (form v))) where
  item_good : (n : ℕ) (v : Val) (vs : List Val) (b : Bool) → ((m : ℕ) → Has (GoodTags round (tags_counted m vs)) (items inner m vs)) → Has (GoodTags round (if b then n ∷ tags_counted (suc n) vs else tags_counted n vs)) (if b then (items inner (suc n) vs >>= λ is. pure (tag n v is)) else (inner (form v) >>= λ e. items inner n vs >>= λ is. pure (step e is)))
  item_good n v vs true rest =
      then_has (GoodTags round (tags_counted (suc n) vs)) (GoodTags round (n ∷ tags_counted (suc n) vs)) _ _ (rest (suc n)) (λ is h.
      pure_has (GoodTags round (n ∷ tags_counted (suc n) vs)) (tag n v is) (tag_good round n v is h.0, ap (λ (ts : List ℕ). n ∷ ts) h.1))
  item_good n v vs false rest =
      then_has (GoodCore round) (GoodTags round (tags_counted n vs)) _ _ (good v) (λ e h.
      then_has (GoodTags round (tags_counted n vs)) (GoodTags round (tags_counted n vs)) _ _ (rest n) (λ is k.
      pure_has (GoodTags round (tags_counted n vs)) (step e is) (step_good round e is h k.0, k.1)))

  items_good : (n : ℕ) (vs : List Val) → Has (GoodTags round (tags_counted n vs)) (items inner n vs)
  unfolding items
  items_good n [] = pure_has (GoodTags round []) no_item (no_item_good round, refl)
  items_good n (v ∷ vs) = item_good n v vs (is_tag v) (λ m. items_good m vs)

pub tagbody_node_good : (inner : Inner) → MakesGood inner → (levels : ℕ) (sc : Scope) (round : checked.Scope) (vs : List Val) → Holds sc round → Has (GoodCore round) (tagbody_node levels inner sc vs)
unfolding tagbody_node
tagbody_node_good inner makes_good levels sc round vs holds =
    after_has (GoodCore round) _ _ (λ n.
    let ts : List ℕ = tags_counted n vs in
    let within : checked.Scope = round_tags ts round in
    let own : Scope = with_tags n vs sc in
    then_has (GoodTags within ts) (GoodCore round) _ _
    (items_good within (inner (inside levels) own) (λ v. makes_good (inside levels) own within (form v) (holds_tags n vs sc within (among_left ts round.tags) (holds_wider sc round within (wider_tags ts round) holds)) tt) n vs) (λ is h.
    pure_has (GoodCore round) (tree.Tagbody sc.place is) (tagbody_good round sc.place is ts h.1 h.0)))
