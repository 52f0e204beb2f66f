-- Nodes of checked parts in which only functions are given to symbols.
use Rattle.std.specs.Prelude.{◌≡◌, ℕ, Bool, true, ◌&&◌, nat_le, List, [], ◌++◌, All, Option, None}
use Rattle.std.proofs.Common.{refl, sym, subst}
use Rattle.std.proofs.lemmas.List.Elements.{All-nil, All-cons, All-append}
use Rattle.lisp_base.specs.declared.values.Place.{Place}
use Rattle.lisp_base.specs.declared.values.Place.TheVariants.{File}
use Rattle.lisp_base.specs.declared.values.SymId.{SymId}
use Rattle.lisp_base.specs.declared.values.Val.{Val}
use Rattle.core_form.specs.Tree as tree
use Rattle.core_form.specs.Tree.{Core, Cores, no_core, core, cores_length, Bindings, no_binding, binding, Optionals, no_optional, optional, Lambda, lambda, Definitions, no_definition, define, Items, no_item, tag, step, Parameter}
use Rattle.core_form.specs.Facts.{gather, gather_all, gather_bindings, gather_optionals, gather_lambda, gather_definitions, gather_items, no_function, has_number, binding_parameters}
use Rattle.core_form.specs.Checked as checked
use Rattle.core_form.specs.Checked.{is_checked, are_checked, values_checked, lambda_checked, optionals_checked, definitions_checked, items_checked, operation_takes, parameter_numbers, function_numbers, tag_numbers, optional_numbers, in_body, with_variables, with_functions, with_block, with_tags}
use Rattle.core_form.specs.Primitives.{most_values, most_arguments}
use Rattle.core_form.specs.Lawful.{gives_function, function_set}
use Rattle.expansion.specs.declared.heads.Leaf.{Leaf}
use Rattle.expansion.specs.declared.heads.Leaf.TheVariants.{Constant, LocalVariable, GlobalVariable, LocalFunction, GlobalFunction, GoTo}
use Rattle.expansion.specs.declared.heads.Binary.{Binary}
use Rattle.expansion.specs.declared.heads.Binary.TheVariants.{Catching, Throwing, Unwinding, KeepingValues}
use Rattle.expansion.specs.declared.heads.Many.{Many}
use Rattle.expansion.specs.declared.heads.Many.TheVariants.{Sequence, CallingLocal, CallingGlobal, Operating, GivingValues}
use Rattle.expansion.specs.declared.heads.Calling.{Calling}
use Rattle.expansion.specs.declared.heads.Calling.TheVariants.{Funcalling, Applying, CallingWithValues}
use Rattle.expansion.specs.Sketches.{leaf_node, Unary, SettingLocal, SettingGlobal, SettingFunction, Testing, Checking, Returning, unary_node, binary_node, many_node, calling_node, Sketch}
use Rattle.expansion_laws.proofs.Among.{and_both}
use Rattle.expansion_laws.proofs.CheckedSketches.{FineLeaf, IsRecursive, FineUnary, FineMany, FineCalling}

-- a test that a part passes, and what is given to symbols in it
pub record Good (test : Bool) (set : List Core) : Type 0 where
  pub passed : test ≡ true
  pub given : All (λ f. gives_function f ≡ true) set

pub nothing_set : (a : Bool) → a ≡ true → Good a []
nothing_set a h = record { passed = h; given = All-nil (λ (f : Core). gives_function f ≡ true) }

-- a test before a part
pub tested : (a b : Bool) (xs : List Core) → a ≡ true → Good b xs → Good (a && b) xs
tested a b xs h k = record { passed = and_both a b h k.passed; given = k.given }

pub both : (a b : Bool) (xs ys : List Core) → Good a xs → Good b ys → Good (a && b) (xs ++ ys)
both a b xs ys h k = record { passed = and_both a b h.passed k.passed; given = All-append (λ (f : Core). gives_function f ≡ true) xs ys h.given k.given }

three : (a b c : Bool) (xs ys zs : List Core) → Good a xs → Good b ys → Good c zs → Good (a && (b && c)) (xs ++ ys ++ zs)
three a b c xs ys zs h k l = record {
  passed = and_both a (b && c) h.passed (and_both b c k.passed l.passed);
  given = All-append (λ (f : Core). gives_function f ≡ true) (xs ++ ys) zs (All-append (λ (f : Core). gives_function f ≡ true) xs ys h.given k.given) l.given;
}

abbrev set_in : Core → List Core
set_in e = gather function_set no_function e

module _ (round : checked.Scope) where
  abbrev pub GoodCore : Core → Type 0
  GoodCore e = Good (is_checked round e) (gather function_set no_function e)

  abbrev pub GoodCores : Cores → Type 0
  GoodCores es = Good (are_checked round es) (gather_all function_set no_function es)

  abbrev pub GoodValues : Bindings → Type 0
  GoodValues bs = Good (values_checked round bs) (gather_bindings function_set no_function bs)

  abbrev pub GoodLambda : Lambda → Type 0
  GoodLambda l = Good (lambda_checked round l) (gather_lambda function_set no_function None (File 0 0) l)

  abbrev pub GoodOptionals : List ℕ → Optionals → Type 0
  GoodOptionals before os = Good (optionals_checked round before os) (gather_optionals function_set no_function os)

  abbrev pub GoodDefinitions : Definitions → Type 0
  GoodDefinitions ds = Good (definitions_checked round ds) (gather_definitions function_set no_function ds)

  abbrev pub GoodItems : Items → Type 0
  GoodItems is = Good (items_checked round is) (gather_items function_set no_function is)

  -- ---- nodes by their heads

  pub leaf_good : (l : Leaf) (p : Place) → FineLeaf round l → GoodCore (leaf_node l p)
  unfolding gather
  leaf_good (Constant v) p h = nothing_set true refl
  leaf_good (LocalVariable n) p h = nothing_set (has_number n round.variables) h
  leaf_good (GlobalVariable s) p h = nothing_set true refl
  leaf_good (LocalFunction f) p h = nothing_set (has_number f round.functions) h
  leaf_good (GlobalFunction s) p h = nothing_set true refl
  leaf_good (GoTo t) p h = nothing_set (has_number t round.tags) h

  pub unary_good : (u : Unary) (x : Sketch) (p : Place) (e : Core) → FineUnary round u x → GoodCore e → (IsRecursive x → gives_function e ≡ true) → GoodCore (unary_node u p e)
  unfolding gather
  unary_good (SettingLocal n) x p e h k gives = tested (has_number n round.variables) (is_checked round e) (set_in e) h k
  unary_good (SettingGlobal s) x p e h k gives = k
  unary_good (SettingFunction s) x p e h k gives = record { passed = k.passed; given = All-cons (λ (f : Core). gives_function f ≡ true) e (set_in e) (gives h) k.given }
  unary_good (Testing t) x p e h k gives = k
  unary_good (Checking t) x p e h k gives = k
  unary_good (Returning b) x p e h k gives = tested (has_number b round.blocks) (is_checked round e) (set_in e) h k

  pub binary_good : (b : Binary) (p : Place) (e f : Core) → GoodCore e → GoodCore f → GoodCore (binary_node b p e f)
  unfolding gather
  binary_good Catching p e f h k = both (is_checked round e) (is_checked round f) (set_in e) (set_in f) h k
  binary_good Throwing p e f h k = both (is_checked round e) (is_checked round f) (set_in e) (set_in f) h k
  binary_good Unwinding p e f h k = both (is_checked round e) (is_checked round f) (set_in e) (set_in f) h k
  binary_good KeepingValues p e f h k = both (is_checked round e) (is_checked round f) (set_in e) (set_in f) h k

  pub choice_good : (p : Place) (a b c : Core) → GoodCore a → GoodCore b → GoodCore c → GoodCore (tree.If p a b c)
  unfolding gather
  choice_good p a b c h k l = three (is_checked round a) (is_checked round b) (is_checked round c) (set_in a) (set_in b) (set_in c) h k l

  pub many_good : (m : Many) (p : Place) (es : Cores) → FineMany round m (cores_length es) → GoodCores es → GoodCore (many_node m p es)
  unfolding gather gather_all
  many_good Sequence p es h k = k
  many_good (CallingLocal f) p es h k =
      tested (has_number f round.functions) (nat_le (cores_length es) most_arguments && are_checked round es) (gather_all function_set no_function es) h.0
      (tested (nat_le (cores_length es) most_arguments) (are_checked round es) (gather_all function_set no_function es) h.1 k)
  many_good (CallingGlobal s) p es h k = tested (nat_le (cores_length es) most_arguments) (are_checked round es) (gather_all function_set no_function es) h k
  many_good (Operating q) p es h k = tested (operation_takes q (cores_length es)) (are_checked round es) (gather_all function_set no_function es) h k
  many_good GivingValues p es h k = tested (nat_le (cores_length es) most_values) (are_checked round es) (gather_all function_set no_function es) h k

  few_good : (e : Core) (es : Cores) → nat_le (cores_length es) most_arguments ≡ true → GoodCore e → GoodCores es → Good (is_checked round e && (nat_le (cores_length es) most_arguments && are_checked round es)) (set_in e ++ gather_all function_set no_function es)
  few_good e es h k l =
      both (is_checked round e) (nat_le (cores_length es) most_arguments && are_checked round es) (set_in e) (gather_all function_set no_function es) k
      (tested (nat_le (cores_length es) most_arguments) (are_checked round es) (gather_all function_set no_function es) h l)

  pub calling_good : (c : Calling) (p : Place) (e : Core) (es : Cores) → FineCalling c (cores_length es) → GoodCore e → GoodCores es → GoodCore (calling_node c p e es)
  unfolding gather gather_all
  calling_good Funcalling p e es h k l = few_good e es h k l
  calling_good Applying p e es h k l = few_good e es h k l
  calling_good CallingWithValues p e es h k l = both (is_checked round e) (are_checked round es) (set_in e) (gather_all function_set no_function es) k l

  -- ---- parts

  pub no_core_good : GoodCores no_core
  unfolding gather gather_all
  no_core_good = nothing_set true refl

  pub core_good : (e : Core) (es : Cores) → GoodCore e → GoodCores es → GoodCores (core e es)
  unfolding gather gather_all
  core_good e es h k = both (is_checked round e) (are_checked round es) (set_in e) (gather_all function_set no_function es) h k

  pub no_binding_good : GoodValues no_binding
  unfolding gather gather_bindings
  no_binding_good = nothing_set true refl

  pub binding_good : (x : Parameter) (e : Core) (bs : Bindings) → GoodCore e → GoodValues bs → GoodValues (binding x e bs)
  unfolding gather gather_bindings
  binding_good x e bs h k = both (is_checked round e) (values_checked round bs) (set_in e) (gather_bindings function_set no_function bs) h k

  pub no_optional_good : (before : List ℕ) → GoodOptionals before no_optional
  unfolding gather gather_optionals
  no_optional_good before = nothing_set true refl

  pub no_definition_good : GoodDefinitions no_definition
  unfolding gather gather_definitions
  no_definition_good = nothing_set true refl

  pub no_item_good : GoodItems no_item
  unfolding gather gather_items
  no_item_good = nothing_set true refl

  pub step_good : (e : Core) (is : Items) → GoodCore e → GoodItems is → GoodItems (step e is)
  unfolding gather gather_items
  step_good e is h k = both (is_checked round e) (items_checked round is) (set_in e) (gather_items function_set no_function is) h k

  pub tag_good : (n : ℕ) (v : Val) (is : Items) → GoodItems is → GoodItems (tag n v is)
  unfolding gather gather_items
  tag_good n v is h = h

  pub define_good : (p : Place) (n : ℕ) (s : SymId) (l : Lambda) (ds : Definitions) → GoodLambda l → GoodDefinitions ds → GoodDefinitions (define p n s l ds)
  unfolding gather gather_lambda gather_definitions
  define_good p n s (lambda k xs os r e) ds h d =
      both (lambda_checked round (lambda k xs os r e)) (definitions_checked round ds) (gather_lambda function_set no_function None (File 0 0) (lambda k xs os r e)) (gather_definitions function_set no_function ds) h d

  pub function_good : (p : Place) (l : Lambda) → GoodLambda l → GoodCore (tree.Function p l)
  unfolding gather gather_lambda
  function_good p (lambda k xs os r e) h = h

-- ---- nodes that bind

module _ (round : checked.Scope) where
  pub optional_good : (before : List ℕ) (x : Parameter) (e : Core) (s : Option Parameter) (os : Optionals) → GoodCore (with_variables before round) e → GoodOptionals round (before ++ optional_numbers x s) os → GoodOptionals round before (optional x e s os)
  unfolding gather gather_optionals
  optional_good before x e s os h k =
      both (is_checked (with_variables before round) e) (optionals_checked round (before ++ optional_numbers x s) os) (set_in e) (gather_optionals function_set no_function os) h k

  pub lambda_good : (k : ℕ) (xs : List Parameter) (os : Optionals) (r : Option Parameter) (e : Core) → GoodOptionals (with_variables (parameter_numbers xs) round) [] os → GoodCore (in_body xs os r round) e → GoodLambda round (lambda k xs os r e)
  unfolding gather gather_optionals gather_lambda
  lambda_good k xs os r e h g =
      both (optionals_checked (with_variables (parameter_numbers xs) round) [] os) (is_checked (in_body xs os r round) e) (gather_optionals function_set no_function os) (set_in e) h g

  pub let_good : (p : Place) (bs : Bindings) (e : Core) (xs : List Parameter) → binding_parameters bs ≡ xs → GoodValues round bs → GoodCore (with_variables (parameter_numbers xs) round) e → GoodCore round (tree.Let p bs e)
  unfolding gather gather_bindings
  let_good p bs e xs is h k =
      let g : GoodCore (with_variables (parameter_numbers (binding_parameters bs)) round) e = subst (λ (ys : List Parameter). GoodCore (with_variables (parameter_numbers ys) round) e) (sym is) k in
      both (values_checked round bs) (is_checked (with_variables (parameter_numbers (binding_parameters bs)) round) e) (gather_bindings function_set no_function bs) (set_in e) h g

  pub labels_good : (p : Place) (ds : Definitions) (e : Core) (fs : List ℕ) → function_numbers ds ≡ fs → GoodDefinitions (with_functions fs round) ds → GoodCore (with_functions fs round) e → GoodCore round (tree.Labels p ds e)
  unfolding gather gather_definitions
  labels_good p ds e fs is h k =
      let g : GoodDefinitions (with_functions (function_numbers ds) round) ds = subst (λ (gs : List ℕ). GoodDefinitions (with_functions gs round) ds) (sym is) h in
      let l : GoodCore (with_functions (function_numbers ds) round) e = subst (λ (gs : List ℕ). GoodCore (with_functions gs round) e) (sym is) k in
      both (definitions_checked (with_functions (function_numbers ds) round) ds) (is_checked (with_functions (function_numbers ds) round) e) (gather_definitions function_set no_function ds) (set_in e) g l

  pub block_good : (p : Place) (n : ℕ) (s : SymId) (e : Core) → GoodCore (with_block n round) e → GoodCore round (tree.Block p n s e)
  unfolding gather
  block_good p n s e h = h

  pub tagbody_good : (p : Place) (is : Items) (ts : List ℕ) → tag_numbers is ≡ ts → GoodItems (with_tags ts round) is → GoodCore round (tree.Tagbody p is)
  unfolding gather gather_items
  tagbody_good p is ts same h = subst (λ (us : List ℕ). GoodItems (with_tags us round) is) (sym same) h
