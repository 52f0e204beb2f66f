-- The tree that a form expands to is there.
use Rattle.std.specs.Prelude.{◌≡◌, refl, ℕ, zero, suc, ◌+◌, Bool, true, false, List, [], ◌∷◌, length, Option, Some, None}
use Rattle.std.specs.Option.{option_and_then}
use Rattle.lisp_base.specs.declared.values.Place.{Place}
use Rattle.lisp_base.specs.declared.values.SymId.{SymId}
use Rattle.lisp_base.specs.declared.values.Val.{Val}
use Rattle.lisp_base.specs.declared.values.Val.TheVariants.{Int, Char, Sym, Ref}
use Rattle.lisp_forms.specs.Conses.{elements}
use Rattle.core_form.specs.Tree as tree
use Rattle.core_form.specs.Tree.{Core, Cores, no_core, core, Bindings, no_binding, binding, Optionals, no_optional, optional, Lambda, lambda, Definitions, no_definition, define, Items, no_item, tag, step, Parameter, place_of}
use Rattle.core_form.specs.Facts.{gather, gather_all, gather_bindings, gather_optionals, gather_lambda, gather_definitions, gather_items, let_parameters, binding_parameters, optional_parameters, if_given, tag_texts, item_tags, tagbody_number}
use Rattle.core_form.specs.Lawful.{own_symbols, definition_symbols, tag_symbols, value_symbols, types_here, quoted_here, variable_symbols, is_tag as is_lawful_tag}
use Rattle.expansion.specs.declared.kind.ExpandKind.TheVariants.{TooNested}
use Rattle.expansion.specs.declared.heads.Leaf.{Leaf}
use Rattle.expansion.specs.declared.heads.Leaf.TheVariants.{Constant, LocalVariable, GlobalVariable, LocalFunction, GlobalFunction, GoTo}
use Rattle.expansion.specs.declared.heads.Binary.{Binary}
use Rattle.expansion.specs.declared.heads.Binary.TheVariants.{Catching, Throwing, Unwinding, KeepingValues}
use Rattle.expansion.specs.declared.heads.Many.{Many}
use Rattle.expansion.specs.declared.heads.Many.TheVariants.{Sequence, CallingLocal, CallingGlobal, Operating, GivingValues}
use Rattle.expansion.specs.declared.heads.Calling.{Calling}
use Rattle.expansion.specs.declared.heads.Calling.TheVariants.{Funcalling, Applying, CallingWithValues}
use Rattle.expansion.specs.declared.heads.Reach.{Reach}
use Rattle.expansion.specs.declared.heads.Reach.TheVariants.{ForBody, ForAll}
use Rattle.expansion.specs.Scopes.{Scope, at_form, with_function, with_block, declared_in}
use Rattle.expansion.specs.Steps.{World, Step, ◌>>=◌, ◌>>◌, pure, begin, inside, most_chain}
use Rattle.expansion.specs.Sketches.{Unary, SettingLocal, SettingGlobal, SettingFunction, Testing, Checking, Returning, leaf_node, unary_node, unary_count, binary_node, many_node, calling_node, Binder, Initial, Optional', Sketch, form, leaf, one, two, choice, many, calling, bind, assign, function, functions, recursive, block, tagbody, within, Sketches, no_sketch, sketch, Function, function_of, Plan, instead, declared_around, makes}
use Rattle.expansion.specs.Forms.{tail_of, set_variable}
use Rattle.expansion.specs.Expanding.{is_special, variable_for, numbers_for, parameter_for, parameter, Bound, with_bound, with_all, with_some, bound, bound_each, bound_some, parameters, parameter_some, Inner, each, bound_initials, values_bound, bounds_of, binding_node, BoundOptional, bound_optionals, defaults, function_size, function_tree, with_definitions, defined, name_in, definition_at, definitions, around_definitions, functions_tree, functions_node, recursive_node, block_node, tags_in, with_tags, items, tagbody_node, go_on, followed, planned, expand, make}
use Rattle.expansion_laws.specs.There.{Stores, stores_of, SymbolIsThere, IsThere, PlaceIsThere, Grown, IsPresent, an_integer, itself}
use Rattle.expansion_laws.proofs.ThereLists.{Each, no_more, one_more, Where, nothing_there, found_there, where_then, where_each, each_map, each_append, each_mapped}
use Rattle.expansion_laws.proofs.ThereStores.{ValuesAreThere, grown_on, value_stays, values_stay, symbol_stays, place_stays, symbol_of_there, elements_there}
use Rattle.expansion_laws.proofs.ThereTrees.{ParameterIsThere, IsTagText, NodeIsThere, node_part, text_part, PartsAreThere, Whole, parameter_stays, parameters_stay, parts_stay, type_named, place_named}
use Rattle.expansion_laws.proofs.ThereSteps.{IsInOrder, Safe, pure_safe, look_safe, refuse_safe, then_safe, next_safe, begin_safe, numbers_safe, function_number_safe}
use Rattle.expansion_laws.proofs.ThereSketches.{LeafIsThere, UnaryIsThere, ManyIsThere, leaf_stays, unary_stays, many_stays, BinderIsThere, binder_stays, binders_stay, binder_may_stay, InitialIsThere, initial_stays, OptionalIsThere, optional_stays, SketchIsThere, a_form, a_leaf, a_unary, a_binary, a_choice, a_many, a_calling, a_bind, an_assign, a_function, the_functions, a_recursive, a_block, a_tagbody, a_within, SketchesAreThere, no_part, a_part, sketches_stay, FunctionIsThere, of_parts, sketch_stays, function_stays, a_checked, PlanIsThere, another_form, a_declared, a_sketch}
use Rattle.expansion_laws.proofs.ThereScopes.{ScopeIsThere, scope_stays, at_form_there, with_function_there, with_block_there, declared_in_there, BoundIsThere, with_bound_there, with_all_there, with_some_there, with_definitions_there, with_tags_there}
use Rattle.expansion_laws.proofs.ThereBindings.{found_safe, types_of_there, function_safe}
use Rattle.expansion_laws.proofs.ThereForms.{Here, here_on, set_variable_there}
use Rattle.expansion_laws.proofs.ThereDefinitions.{definable_there, tail_there, plan_safe}

-- ---- nodes

module _ (s : Stores) where
  -- a node that names, tests, quotes, binds and tags these
  a_bare : (e : Core) → PlaceIsThere s (place_of e) → own_symbols e ≡ [] → types_here e ≡ [] → quoted_here e ≡ [] → let_parameters e ≡ [] → tag_texts e ≡ [] → NodeIsThere s e
  a_bare e h a b c d f = record {
    place = h;
    names = rw a no_more;
    types = rw b no_more;
    values = rw c no_more;
    variables = rw d no_more;
    tags = rw f no_more;
  }

  leaf_there : (l : Leaf) (p : Place) → PlaceIsThere s p → LeafIsThere s l → NodeIsThere s (leaf_node l p)
  leaf_there (Constant (Int z)) p h k = record { place = h; names = no_more; types = no_more; values = one_more k no_more; variables = no_more; tags = no_more }
  leaf_there (Constant (Char c)) p h k = record { place = h; names = no_more; types = no_more; values = one_more k no_more; variables = no_more; tags = no_more }
  leaf_there (Constant (Sym x)) p h k = record { place = h; names = one_more (symbol_of_there x k) no_more; types = no_more; values = one_more k no_more; variables = no_more; tags = no_more }
  leaf_there (Constant (Ref o)) p h k = record { place = h; names = no_more; types = no_more; values = one_more k no_more; variables = no_more; tags = no_more }
  leaf_there (LocalVariable n) p h k = a_bare (tree.Local p n) h refl refl refl refl refl
  leaf_there (GlobalVariable x) p h k = record { place = h; names = one_more k no_more; types = no_more; values = no_more; variables = no_more; tags = no_more }
  leaf_there (LocalFunction f) p h k = a_bare (tree.FunLocal p f) h refl refl refl refl refl
  leaf_there (GlobalFunction x) p h k = record { place = h; names = one_more k no_more; types = no_more; values = no_more; variables = no_more; tags = no_more }
  leaf_there (GoTo t) p h k = a_bare (tree.Go p t) h refl refl refl refl refl

  leaf_whole : (l : Leaf) (p : Place) → PlaceIsThere s p → LeafIsThere s l → Whole s (leaf_node l p)
  unfolding gather
  leaf_whole (Constant v) p h k = one_more (leaf_there (Constant v) p h k) no_more
  leaf_whole (LocalVariable n) p h k = one_more (leaf_there (LocalVariable n) p h k) no_more
  leaf_whole (GlobalVariable x) p h k = one_more (leaf_there (GlobalVariable x) p h k) no_more
  leaf_whole (LocalFunction f) p h k = one_more (leaf_there (LocalFunction f) p h k) no_more
  leaf_whole (GlobalFunction x) p h k = one_more (leaf_there (GlobalFunction x) p h k) no_more
  leaf_whole (GoTo t) p h k = one_more (leaf_there (GoTo t) p h k) no_more

  unary_whole : (u : Unary) (p : Place) (e : Core) → PlaceIsThere s p → UnaryIsThere s u → Whole s e → Whole s (unary_node u p e)
  unfolding gather
  unary_whole (SettingLocal n) p e h k w = one_more (a_bare (tree.SetLocal p n e) h refl refl refl refl refl) w
  unary_whole (SettingGlobal x) p e h k w = one_more (record { place = h; names = one_more k no_more; types = no_more; values = no_more; variables = no_more; tags = no_more }) w
  unary_whole (SettingFunction x) p e h k w = one_more (record { place = h; names = one_more k no_more; types = no_more; values = no_more; variables = no_more; tags = no_more }) w
  unary_whole (Testing t) p e h k w = one_more (record { place = h; names = type_named s t k; types = one_more k no_more; values = no_more; variables = no_more; tags = no_more }) w
  unary_whole (Checking t) p e h k w = one_more (record { place = h; names = type_named s t k; types = one_more k no_more; values = no_more; variables = no_more; tags = no_more }) w
  unary_whole (Returning b) p e h k w = one_more (a_bare (tree.ReturnFrom p b e) h refl refl refl refl refl) w

  binary_whole : (b : Binary) (p : Place) (x y : Core) → PlaceIsThere s p → Whole s x → Whole s y → Whole s (binary_node b p x y)
  unfolding gather
  binary_whole Catching p x y h k l = one_more (a_bare (tree.Catch p x y) h refl refl refl refl refl) (each_append k l)
  binary_whole Throwing p x y h k l = one_more (a_bare (tree.Throw p x y) h refl refl refl refl refl) (each_append k l)
  binary_whole Unwinding p x y h k l = one_more (a_bare (tree.Unwind p x y) h refl refl refl refl refl) (each_append k l)
  binary_whole KeepingValues p x y h k l = one_more (a_bare (tree.MvProg1 p x y) h refl refl refl refl refl) (each_append k l)

  choice_whole : (p : Place) (x y z : Core) → PlaceIsThere s p → Whole s x → Whole s y → Whole s z → Whole s (tree.If p x y z)
  unfolding gather
  choice_whole p x y z h k l m = one_more (a_bare (tree.If p x y z) h refl refl refl refl refl) (each_append (each_append k l) m)

  abbrev Wholes : Cores → Type 0
  Wholes es = PartsAreThere s (gather_all node_part text_part es)

  many_whole : (m : Many) (p : Place) (es : Cores) → PlaceIsThere s p → ManyIsThere s m → Wholes es → Whole s (many_node m p es)
  unfolding gather
  many_whole Sequence p es h k w = one_more (a_bare (tree.Progn p es) h refl refl refl refl refl) w
  many_whole (CallingLocal f) p es h k w = one_more (a_bare (tree.CallLocal p f es) h refl refl refl refl refl) w
  many_whole (CallingGlobal x) p es h k w = one_more (record { place = h; names = one_more k no_more; types = no_more; values = no_more; variables = no_more; tags = no_more }) w
  many_whole (Operating q) p es h k w = one_more (a_bare (tree.Primitive p q es) h refl refl refl refl refl) w
  many_whole GivingValues p es h k w = one_more (a_bare (tree.Values p es) h refl refl refl refl refl) w

  calling_whole : (c : Calling) (p : Place) (x : Core) (es : Cores) → PlaceIsThere s p → Whole s x → Wholes es → Whole s (calling_node c p x es)
  unfolding gather
  calling_whole Funcalling p x es h k w = one_more (a_bare (tree.Funcall p x es) h refl refl refl refl refl) (each_append k w)
  calling_whole Applying p x es h k w = one_more (a_bare (tree.Apply p x es) h refl refl refl refl refl) (each_append k w)
  calling_whole CallingWithValues p x es h k w = one_more (a_bare (tree.MvCall p x es) h refl refl refl refl refl) (each_append k w)

-- ---- parts of nodes

pub record BindingsWhole (s : Stores) (bs : Bindings) : Type 0 where
  pub parts : PartsAreThere s (gather_bindings node_part text_part bs)
  pub variables : Each (ParameterIsThere s) (binding_parameters bs)

pub record OptionalsWhole (s : Stores) (os : Optionals) : Type 0 where
  pub parts : PartsAreThere s (gather_optionals node_part text_part os)
  pub variables : Each (ParameterIsThere s) (optional_parameters os)

pub record LambdaWhole (s : Stores) (l : Lambda) : Type 0 where
  pub parts : (name : Option SymId) (p : Place) → PartsAreThere s (gather_lambda node_part text_part name p l)

pub record DefinitionsWhole (s : Stores) (ds : Definitions) : Type 0 where
  pub parts : PartsAreThere s (gather_definitions node_part text_part ds)
  pub names : Each (SymbolIsThere s) (definition_symbols ds)

pub record ItemsWhole (s : Stores) (is : Items) : Type 0 where
  pub parts : PartsAreThere s (gather_items node_part text_part is)
  pub names : Each (SymbolIsThere s) (tag_symbols is)
  pub tags : (n : ℕ) → Each IsTagText (item_tags n is)

abbrev AllWhole : Stores → Cores → Type 0
AllWhole s es = PartsAreThere s (gather_all node_part text_part es)

module _ {s : Stores} where
  none_whole : AllWhole s no_core
  unfolding gather_all
  none_whole = no_more

  cores_whole : (e : Core) (es : Cores) → Whole s e → AllWhole s es → AllWhole s (core e es)
  unfolding gather_all
  cores_whole e es h hs = each_append h hs

  no_bindings_whole : BindingsWhole s no_binding
  unfolding gather_bindings
  no_bindings_whole = record { parts = no_more; variables = no_more }

  bindings_whole : {x : Parameter} {e : Core} {bs : Bindings} → ParameterIsThere s x → Whole s e → BindingsWhole s bs → BindingsWhole s (binding x e bs)
  unfolding gather_bindings
  bindings_whole h w k = record { parts = each_append w k.parts; variables = one_more h k.variables }

  let_whole : (p : Place) (bs : Bindings) (e : Core) → PlaceIsThere s p → BindingsWhole s bs → Whole s e → Whole s (tree.Let p bs e)
  unfolding gather
  let_whole p bs e h k w =
      one_more (record { place = h; names = no_more; types = no_more; values = no_more; variables = k.variables; tags = no_more }) (each_append k.parts w)

  no_optionals_whole : OptionalsWhole s no_optional
  unfolding gather_optionals
  no_optionals_whole = record { parts = no_more; variables = no_more }

  optionals_whole : {x : Parameter} {e : Core} {r : Option Parameter} {os : Optionals} → ParameterIsThere s x → Whole s e → Each (ParameterIsThere s) (if_given r) →
      OptionalsWhole s os → OptionalsWhole s (optional x e r os)
  unfolding gather_optionals
  optionals_whole h w r k = record { parts = each_append w k.parts; variables = one_more h (each_append r k.variables) }

  lambda_whole : (n : ℕ) {xs : List Parameter} {os : Optionals} {r : Option Parameter} {e : Core} → Each (ParameterIsThere s) xs → OptionalsWhole s os →
      Each (ParameterIsThere s) (if_given r) → Whole s e → LambdaWhole s (lambda n xs os r e)
  unfolding gather_lambda
  lambda_whole n h k r w = record { parts = λ name p. one_more (record { variables = each_append (each_append h k.variables) r }) (each_append k.parts w) }

  function_whole : (p : Place) (l : Lambda) → PlaceIsThere s p → LambdaWhole s l → Whole s (tree.Function p l)
  unfolding gather
  function_whole p l h k = one_more (a_bare s (tree.Function p l) h refl refl refl refl refl) (k.parts None p)

  no_definitions_whole : DefinitionsWhole s no_definition
  unfolding gather_definitions
  no_definitions_whole = record { parts = no_more; names = no_more }

  definitions_whole : (p : Place) (n : ℕ) (x : SymId) (l : Lambda) {ds : Definitions} → PlaceIsThere s p → SymbolIsThere s x → LambdaWhole s l →
      DefinitionsWhole s ds → DefinitionsWhole s (define p n x l ds)
  unfolding gather_definitions
  definitions_whole p n x l h i k ds = record { parts = each_append (k.parts (Some x) p) ds.parts; names = each_append (place_named s p h) (one_more i ds.names) }

  labels_whole : (p : Place) (ds : Definitions) (e : Core) → PlaceIsThere s p → DefinitionsWhole s ds → Whole s e → Whole s (tree.Labels p ds e)
  unfolding gather
  labels_whole p ds e h k w =
      one_more (record { place = h; names = k.names; types = no_more; values = no_more; variables = no_more; tags = no_more }) (each_append k.parts w)

  block_whole : (p : Place) (b : ℕ) (x : SymId) (e : Core) → PlaceIsThere s p → SymbolIsThere s x → Whole s e → Whole s (tree.Block p b x e)
  unfolding gather
  block_whole p b x e h k w = one_more (record { place = h; names = one_more k no_more; types = no_more; values = no_more; variables = no_more; tags = no_more }) w

  no_items_whole : ItemsWhole s no_item
  unfolding gather_items
  no_items_whole = record { parts = no_more; names = no_more; tags = λ n. no_more }

  tag_whole : (n : ℕ) (v : Val) {is : Items} → Each (SymbolIsThere s) (value_symbols v) → is_lawful_tag v ≡ true → ItemsWhole s is → ItemsWhole s (tag n v is)
  unfolding gather_items
  tag_whole n v h t k = record { parts = k.parts; names = each_append h k.names; tags = λ m. one_more t (k.tags m) }

  step_whole : {e : Core} {is : Items} → Whole s e → ItemsWhole s is → ItemsWhole s (step e is)
  unfolding gather_items
  step_whole w k = record { parts = each_append w k.parts; names = k.names; tags = k.tags }

  tagbody_whole : (p : Place) (is : Items) → PlaceIsThere s p → ItemsWhole s is → Whole s (tree.Tagbody p is)
  unfolding gather
  tagbody_whole p is h k =
      one_more (record { place = h; names = k.names; types = no_more; values = no_more; variables = no_more; tags = k.tags (tagbody_number is) }) k.parts

module _ {s t : Stores} (g : Grown s t) where
  bindings_stay : {bs : Bindings} → BindingsWhole s bs → BindingsWhole t bs
  bindings_stay h = record { parts = parts_stay g h.parts; variables = parameters_stay g h.variables }

  optionals_stay : {os : Optionals} → OptionalsWhole s os → OptionalsWhole t os
  optionals_stay h = record { parts = parts_stay g h.parts; variables = parameters_stay g h.variables }

  lambda_stays : {l : Lambda} → LambdaWhole s l → LambdaWhole t l
  lambda_stays h = record { parts = λ name p. parts_stay g (h.parts name p) }

  definitions_stay : {ds : Definitions} → DefinitionsWhole s ds → DefinitionsWhole t ds
  definitions_stay h = record { parts = parts_stay g h.parts; names = each_map (symbol_stays g) h.names }

-- ---- parameters

variable_there_for : (s : Stores) (b : Bool) (n : ℕ) (x : SymId) → SymbolIsThere s x → Each (SymbolIsThere s) (variable_symbols (variable_for b n x))
variable_there_for s true n x h = one_more h no_more
variable_there_for s false n x h = one_more h no_more

parameter_safe : (b : Binder) {w : World} → IsInOrder w → BinderIsThere (stores_of w) b → Safe w ParameterIsThere (parameter b w)
unfolding parameter
parameter_safe b o h =
    then_safe _ _ (look_safe {P = λ (s : Stores) (x : Bool). Unit {0}} (λ w. is_special w b) o tt) (λ special u l k.
    then_safe _ _ (numbers_safe (numbers_for special) l.order) (λ n x m i.
    look_safe {P = ParameterIsThere} (λ w. parameter_for w b n) m.order (there n x m.order (binder_stays (grown_on l.grown m.grown) b h))))
  where
    there : (n : ℕ) (x : World) → IsInOrder x → BinderIsThere (stores_of x) b → ParameterIsThere (stores_of x) (parameter_for x b n)
    there n x order k = record { names = variable_there_for (stores_of x) (is_special x b) n b.variable k.variable; types = each_append (types_of_there (stores_of x) b.variable order.types) k.types }

bound_stays : {s t : Stores} (g : Grown s t) (b : Bound) → BoundIsThere s b → BoundIsThere t b
bound_stays g b h = record { binder = binder_stays g b.0 h.binder; parameter = parameter_stays g b.1 h.parameter }

bound_safe : (b : Binder) {w : World} → IsInOrder w → BinderIsThere (stores_of w) b → Safe w BoundIsThere (bound b w)
unfolding bound
bound_safe b o h = then_safe _ _ (parameter_safe b o h) (λ x u l k. pure_safe _ l.order (record { binder = binder_stays l.grown b h; parameter = k }))

abbrev BoundList : Stores → List Bound → Type 0
BoundList s bs = Each (BoundIsThere s) bs

abbrev MaybeBound : Stores → Option Bound → Type 0
MaybeBound s b = Where (BoundIsThere s) b

each_bound_safe : (bs : List Binder) {w : World} → IsInOrder w → Each (BinderIsThere (stores_of w)) bs → Safe w BoundList (bound_each bs w)
unfolding bound_each
each_bound_safe [] o h = pure_safe [] o no_more
each_bound_safe (b ∷ bs) o (one_more h hs) =
    then_safe _ _ (bound_safe b o h) (λ x u l k. then_safe _ _ (each_bound_safe bs l.order (binders_stay l.grown hs)) (λ xs y m ks. pure_safe _ m.order (one_more (bound_stays m.grown x k) ks)))

some_bound_safe : (b : Option Binder) {w : World} → IsInOrder w → Where (BinderIsThere (stores_of w)) b → Safe w MaybeBound (bound_some b w)
unfolding bound_some
some_bound_safe None o h = pure_safe None o nothing_there
some_bound_safe (Some b) o (found_there h) = then_safe _ _ (bound_safe b o h) (λ x u l k. pure_safe _ l.order (found_there k))

-- a variable with the form for its value
abbrev ValueIsThere : Stores → Bound × Val → Type 0
ValueIsThere s p = BoundIsThere s p.0 × IsThere s p.1

abbrev ValueList : Stores → List (Bound × Val) → Type 0
ValueList s ps = Each (ValueIsThere s) ps

value_list_stays : {s t : Stores} (g : Grown s t) {ps : List (Bound × Val)} → ValueList s ps → ValueList t ps
value_list_stays g h = each_map (λ p k. (bound_stays g p.0 k.0, value_stays g p.1 k.1)) h

initials_safe : (bs : List Initial) {w : World} → IsInOrder w → Each (InitialIsThere (stores_of w)) bs → Safe w ValueList (bound_initials bs w)
unfolding bound_initials
initials_safe [] o h = pure_safe [] o no_more
initials_safe (b ∷ bs) o (one_more h hs) =
    then_safe _ _ (bound_safe b.binder o h.binder) (λ x u l k.
    then_safe _ _ (initials_safe bs l.order (each_map (initial_stays l.grown) hs)) (λ xs y m ks. pure_safe _ m.order (one_more (bound_stays m.grown x k, value_stays (grown_on l.grown m.grown) b.value h.value) ks)))

pub record OptionalBound (s : Stores) (o : BoundOptional) : Type 0 where
  pub bound : BoundIsThere s o.bound
  pub default : IsThere s o.default
  pub supplied : Where (BoundIsThere s) o.supplied

optional_bound_stays : {s t : Stores} (g : Grown s t) (o : BoundOptional) → OptionalBound s o → OptionalBound t o
optional_bound_stays g o h = record { bound = bound_stays g o.bound h.bound; default = value_stays g o.default h.default; supplied = where_each h.supplied (bound_stays g) }

abbrev OptionalList : Stores → List BoundOptional → Type 0
OptionalList s os = Each (OptionalBound s) os

optionals_safe : (os : List Optional') {w : World} → IsInOrder w → Each (OptionalIsThere (stores_of w)) os → Safe w OptionalList (bound_optionals os w)
unfolding bound_optionals
optionals_safe [] o h = pure_safe [] o no_more
optionals_safe (x ∷ xs) o (one_more h hs) =
    then_safe _ _ (bound_safe x.binder o h.binder) (λ b u l k.
    then_safe _ _ (some_bound_safe x.supplied l.order (binder_may_stay l.grown h.supplied)) (λ c y m i.
    then_safe _ _ (optionals_safe xs m.order (each_map (optional_stays (grown_on l.grown m.grown)) hs)) (λ bs z n ks.
    let g = grown_on m.grown n.grown in
    pure_safe _ n.order (one_more (record { bound = bound_stays g b k; default = value_stays (grown_on l.grown g) x.default h.default; supplied = where_each i (bound_stays n.grown) }) ks))))

parameters_there : {s : Stores} {bs : List Bound} → Each (BoundIsThere s) bs → Each (ParameterIsThere s) (parameters bs)
parameters_there h = each_mapped (λ (b : Bound). b.1) (λ b k. k.parameter) h

some_parameter_there : {s : Stores} (b : Option Bound) → Where (BoundIsThere s) b → Each (ParameterIsThere s) (if_given (parameter_some b))
some_parameter_there None h = no_more
some_parameter_there (Some b) (found_there h) = one_more h.parameter no_more

-- ---- the parts of a node, by what makes a tree of a part

-- what makes trees of sketches that are there
abbrev Makes : (Scope → Sketch → Step Core) → Type 0
Makes inner = (sc : Scope) (x : Sketch) (w : World) → Here w sc → SketchIsThere (stores_of w) x → Safe w Whole (inner sc x w)

abbrev MakesAt : Inner → Type 0
MakesAt inner = (levels : ℕ) → Makes (inner levels)

abbrev MakesIn : (Sketch → Step Core) → Scope → Type 0
MakesIn inner sc = (x : Sketch) (w : World) → Here w sc → SketchIsThere (stores_of w) x → Safe w Whole (inner x w)

each_safe : (inner : Sketch → Step Core) (sc : Scope) (xs : Sketches) → MakesIn inner sc → {w : World} → Here w sc → SketchesAreThere (stores_of w) xs →
    Safe w AllWhole (each inner xs w)
unfolding each
each_safe inner sc no_sketch k here no_part = pure_safe _ here.order (none_whole)
each_safe inner sc (sketch x xs) k here (a_part h hs) =
    then_safe _ _ (k x _ here h) (λ e u l i. then_safe _ _ (each_safe inner sc xs k (here_on l here) (sketches_stay l.grown hs)) (λ es y m j. pure_safe _ m.order (cores_whole e es (parts_stay m.grown i) j)))

-- ---- bindings

values_safe : (inner : Sketch → Step Core) (sc : Scope) (ps : List (Bound × Val)) → MakesIn inner sc → {w : World} → Here w sc → ValueList (stores_of w) ps →
    Safe w BindingsWhole (values_bound inner ps w)
unfolding values_bound
values_safe inner sc [] k here no_more = pure_safe _ here.order no_bindings_whole
values_safe inner sc (p ∷ ps) k here (one_more h hs) =
    then_safe _ _ (k _ _ here (a_checked p.0.1.types (form p.1) h.0.parameter.types (a_form h.1))) (λ e u l i.
    then_safe _ _ (values_safe inner sc ps k (here_on l here) (value_list_stays l.grown hs)) (λ bs y m j.
    pure_safe _ m.order (bindings_whole (parameter_stays (grown_on l.grown m.grown) p.0.1 h.0.parameter) (parts_stay m.grown i) j)))

bounds_there : {s : Stores} {ps : List (Bound × Val)} → ValueList s ps → BoundList s (bounds_of ps)
bounds_there h = each_mapped (λ (p : Bound × Val). p.0) (λ p k. k.0) h

binding_safe : (levels : ℕ) (inner : Inner) (sc : Scope) (bs : List Initial) (x : Sketch) → MakesAt inner → {w : World} → Here w sc →
    Each (InitialIsThere (stores_of w)) bs → SketchIsThere (stores_of w) x → Safe w Whole (binding_node levels inner sc bs x w)
unfolding binding_node
binding_safe levels inner sc bs x k here h i =
    then_safe _ _ (next_safe _ _ (begin_safe (1 + length bs) levels sc here.order) (λ a u l j. initials_safe bs l.order (each_map (initial_stays l.grown) h))) (λ ps u l j.
    then_safe _ _ (values_safe (inner (inside levels) sc) sc ps (k (inside levels) sc) (here_on l here) j) (λ values y m n.
    then_safe _ _ (k (inside levels) _ x _ (record { order = m.order; scope = with_all_there (stores_of y) sc _ (scope_stays (grown_on l.grown m.grown) sc here.scope) (bounds_there (value_list_stays m.grown j)) }) (sketch_stays (grown_on l.grown m.grown) i)) (λ e z o q.
    let g = grown_on (grown_on l.grown m.grown) o.grown in
    pure_safe _ o.order (let_whole sc.place values e (place_stays g sc.place here.scope.place) (bindings_stay o.grown n) q))))

-- ---- functions

abbrev DefaultsWhole : Stores → Optionals × Scope → Type 0
DefaultsWhole s p = OptionalsWhole s p.0 × ScopeIsThere s p.1

defaults_safe : (inner : Scope → Sketch → Step Core) (sc : Scope) (os : List BoundOptional) → Makes inner → {w : World} → Here w sc → OptionalList (stores_of w) os →
    Safe w DefaultsWhole (defaults inner sc os w)
unfolding defaults
defaults_safe inner sc [] k here h = pure_safe _ here.order (no_optionals_whole, here.scope)
defaults_safe inner sc (o ∷ os) k {w} here (one_more h hs) =
    then_safe _ _ (k sc (form o.default) _ here (a_form h.default)) (λ e u l i.
    let later = optional_bound_stays l.grown o h in
    then_safe _ _ (defaults_safe inner (with_some (with_bound sc o.bound) o.supplied) os k
    (record { order = l.order; scope = with_some_there (stores_of u) _ o.supplied (with_bound_there (stores_of u) sc o.bound (scope_stays l.grown sc here.scope) later.bound) later.supplied })
    (each_map (optional_bound_stays l.grown) hs)) (λ found y m j.
    pure_safe _ m.order (optionals_whole (parameter_stays m.grown o.bound.1 later.bound.parameter) (parts_stay m.grown i) (some_parameter_there o.supplied (where_each later.supplied (bound_stays m.grown))) j.0, j.1)))

body_tree_safe : (levels : ℕ) (inner : Inner) (sc : Scope) (n : ℕ) (xs : List Bound) (ys : List BoundOptional) (r : Option Bound) (x : Sketch) → MakesAt inner →
    {w : World} → Here w sc → BoundList (stores_of w) xs → OptionalList (stores_of w) ys → MaybeBound (stores_of w) r → SketchIsThere (stores_of w) x →
    Safe w LambdaWhole ((begin (function_size xs ys r) levels sc >> defaults (inner (inside levels)) (with_all sc xs) ys >>= λ found. inner (inside levels) (with_some found.1 r) x >>= λ e. pure (lambda n (parameters xs) found.0 (parameter_some r) e)) w)
body_tree_safe levels inner sc n xs ys r x k here h i j q =
    then_safe _ _ (next_safe _ _ (begin_safe (function_size xs ys r) levels sc here.order) (λ a u l b.
    defaults_safe (inner (inside levels)) (with_all sc xs) ys (k (inside levels)) (record { order = l.order; scope = with_all_there (stores_of u) sc xs (scope_stays l.grown sc here.scope) (each_map (bound_stays l.grown) h) }) (each_map (optional_bound_stays l.grown) i)))
    (λ found u l defaults_made.
    then_safe _ _ (k (inside levels) (with_some found.1 r) x _ (record { order = l.order; scope = with_some_there (stores_of u) found.1 r defaults_made.1 (where_each j (bound_stays l.grown)) }) (sketch_stays l.grown q)) (λ e y m w.
    let g = grown_on l.grown m.grown in
    pure_safe _ m.order (lambda_whole n (parameters_there (each_map (bound_stays g) h)) (optionals_stay m.grown defaults_made.0) (some_parameter_there r (where_each j (bound_stays g))) w)))

function_tree_safe : (levels : ℕ) (inner : Inner) (sc : Scope) (f : Function) → MakesAt inner → {w : World} → Here w sc → FunctionIsThere (stores_of w) f →
    Safe w LambdaWhole (function_tree levels inner sc f w)
unfolding function_tree
function_tree_safe levels inner sc (function_of required optionals rest x) k here (of_parts rs os r h) =
    then_safe _ _ (function_number_safe here.order) (λ n u a _.
    then_safe _ _ (each_bound_safe required a.order (binders_stay a.grown rs)) (λ xs y b xs_there.
    let ab = grown_on a.grown b.grown in
    then_safe _ _ (optionals_safe optionals b.order (each_map (optional_stays ab) os)) (λ ys z c ys_there.
    let abc = grown_on ab c.grown in
    then_safe _ _ (some_bound_safe rest c.order (binder_may_stay abc r)) (λ bound t d r_there.
    let abcd = grown_on abc d.grown in
    body_tree_safe levels inner sc n xs ys bound x k (record { order = d.order; scope = scope_stays abcd sc here.scope })
    (each_map (bound_stays (grown_on c.grown d.grown)) xs_there) (each_map (optional_bound_stays d.grown) ys_there) r_there (sketch_stays abcd h)))))

-- ---- local functions

abbrev DefinesWhole : Stores → (Definitions → Definitions) → Type 0
DefinesWhole s d = (t : Stores) → Grown s t → (ds : Definitions) → DefinitionsWhole t ds → DefinitionsWhole t (d ds)

defined_safe : (levels : ℕ) (inner : Inner) (sc : Scope) (n : ℕ) (v : Val) (x : SymId) → MakesAt inner → {w : World} → Here w sc → IsThere (stores_of w) v →
    SymbolIsThere (stores_of w) x → Safe w DefinesWhole (defined levels inner sc n v x w)
defined_safe levels inner sc n v x k {w} here h i =
    then_safe _ _
    (then_safe _ _
    (then_safe _ _ (look_safe {P = IsThere} (λ w. tail_of w.heap v) here.order (tail_there sc (stores_of w) v here.order.sound h)) (λ y u l j. function_safe sc (Some x) y l.order j (found_there (symbol_stays l.grown x i))))
    (λ f u l j. function_tree_safe levels inner sc f k (here_on l here) j))
    (λ l u m j. pure_safe _ m.order (λ t g ds q. definitions_whole sc.place n x l (place_stays g sc.place (place_stays m.grown sc.place here.scope.place)) (symbol_stays g x (symbol_stays m.grown x i)) (lambda_stays g j) q))

name_there : (s : Stores) (sc : Scope) (vs : List Val) → ValuesAreThere s vs → Where (SymbolIsThere s) (name_in sc vs)
name_there s sc [] h = nothing_there
name_there s sc (v ∷ vs) (one_more h hs) = definable_there sc s v h

definition_safe : (levels : ℕ) (inner : Inner) (sc : Scope) (n : ℕ) (v : Val) → MakesAt inner → {w : World} → Here w sc → IsThere (stores_of w) v →
    Safe w DefinesWhole (definition_at levels inner sc n v w)
unfolding definition_at
definition_safe levels inner sc n v k {w} here h =
    then_safe _ _ (look_safe {P = ScopeIsThere} (λ w. at_form w.heap v sc) here.order (at_form_there (stores_of w) v sc h here.scope)) (λ own u l i.
    then_safe _ _ (found_safe SymbolIsThere own (λ w. option_and_then (name_in own) (elements w.heap v)) l.order (where_then _ (elements_there (stores_of u) v (value_stays l.grown v h)) (λ vs j. name_there (stores_of u) own vs j))) (λ x y m j.
    defined_safe levels inner own n v x k (record { order = m.order; scope = scope_stays m.grown own i }) (value_stays (grown_on l.grown m.grown) v h) j))

definitions_safe : (levels : ℕ) (inner : Inner) (sc : Scope) (n : ℕ) (vs : List Val) → MakesAt inner → {w : World} → Here w sc → ValuesAreThere (stores_of w) vs →
    Safe w DefinitionsWhole (definitions levels inner sc n vs w)
unfolding definitions
definitions_safe levels inner sc n [] k here h = pure_safe _ here.order no_definitions_whole
definitions_safe levels inner sc n (v ∷ vs) k here (one_more h hs) =
    then_safe _ _ (definition_safe levels inner sc n v k here h) (λ d u l i.
    then_safe _ _ (definitions_safe levels inner sc (suc n) vs k (here_on l here) (values_stay l.grown hs)) (λ ds y m j. pure_safe _ m.order (i (stores_of y) m.grown ds j)))

around_there : {s : Stores} (reach : Reach) (outer own : Scope) → ScopeIsThere s outer → ScopeIsThere s own → ScopeIsThere s (around_definitions reach outer own)
around_there ForBody outer own h k = h
around_there ForAll outer own h k = k

functions_tree_safe : (levels : ℕ) (inner : Inner) (reach : Reach) (outer own : Scope) (n : ℕ) (vs : List Val) (x : Sketch) → MakesAt inner → {w : World} →
    Here w outer → ScopeIsThere (stores_of w) own → ValuesAreThere (stores_of w) vs → SketchIsThere (stores_of w) x →
    Safe w Whole (functions_tree levels inner reach outer own n vs x w)
unfolding functions_tree
functions_tree_safe levels inner reach outer own n vs x k here o h i =
    then_safe _ _ (definitions_safe levels inner _ n vs k (record { order = here.order; scope = around_there reach outer own here.scope o }) h) (λ ds u l j.
    then_safe _ _ (k levels own x _ (record { order = l.order; scope = scope_stays l.grown own o }) (sketch_stays l.grown i)) (λ e y m q.
    pure_safe _ m.order (labels_whole outer.place ds e (place_stays (grown_on l.grown m.grown) outer.place here.scope.place) (definitions_stay m.grown j) q)))

functions_safe : (levels : ℕ) (inner : Inner) (sc : Scope) (reach : Reach) (vs : List Val) (x : Sketch) → MakesAt inner → {w : World} → Here w sc →
    ValuesAreThere (stores_of w) vs → SketchIsThere (stores_of w) x → Safe w Whole (functions_node levels inner sc reach vs x w)
unfolding functions_node
functions_safe levels inner sc reach vs x k here h i =
    then_safe _ _ (next_safe _ _ (begin_safe 1 levels sc here.order) (λ a u l j. numbers_safe (length vs) l.order)) (λ n u l j.
    then_safe _ _ (look_safe {P = ScopeIsThere} (λ w. with_definitions w.heap n vs sc) l.order (with_definitions_there (stores_of u) u.heap n vs sc (scope_stays l.grown sc here.scope))) (λ own y m q.
    let g = grown_on l.grown m.grown in
    functions_tree_safe (inside levels) inner reach sc own n vs x k (record { order = m.order; scope = scope_stays g sc here.scope }) q (values_stay g h) (sketch_stays g i)))

recursive_safe : (levels : ℕ) (inner : Inner) (sc : Scope) (x : SymId) (f : Function) → MakesAt inner → {w : World} → Here w sc → SymbolIsThere (stores_of w) x →
    FunctionIsThere (stores_of w) f → Safe w Whole (recursive_node levels inner sc x f w)
unfolding recursive_node
recursive_safe levels inner sc x f k here h i =
    then_safe _ _ (next_safe _ _ (begin_safe 1 levels sc here.order) (λ a u l j. numbers_safe 1 l.order)) (λ n u l j.
    then_safe _ _ (function_tree_safe (inside levels) inner (with_function x n sc) f k (record { order = l.order; scope = with_function_there (stores_of u) x n sc (scope_stays l.grown sc here.scope) }) (function_stays l.grown i)) (λ t y m q.
    next_safe _ _ (begin_safe 1 (inside levels) sc m.order) (λ a z o r.
    let g = grown_on (grown_on l.grown m.grown) o.grown in
    let p = place_stays g sc.place here.scope.place in
    pure_safe _ o.order (labels_whole sc.place _ _ p (definitions_whole sc.place n x t p (symbol_stays g x h) (lambda_stays o.grown q) no_definitions_whole) (leaf_whole (stores_of z) (LocalFunction n) sc.place p tt)))))

-- ---- blocks and tags

block_safe : (levels : ℕ) (inner : Inner) (sc : Scope) (b : SymId) (x : Sketch) → MakesAt inner → {w : World} → Here w sc → SymbolIsThere (stores_of w) b →
    SketchIsThere (stores_of w) x → Safe w Whole (block_node levels inner sc b x w)
unfolding block_node
block_safe levels inner sc b x k here h i =
    then_safe _ _ (next_safe _ _ (begin_safe 1 levels sc here.order) (λ a u l j. numbers_safe 1 l.order)) (λ n u l j.
    then_safe _ _ (k (inside levels) (with_block b n sc) x _ (record { order = l.order; scope = with_block_there (stores_of u) b n sc (scope_stays l.grown sc here.scope) }) (sketch_stays l.grown i)) (λ e y m q.
    let g = grown_on l.grown m.grown in
    pure_safe _ m.order (block_whole sc.place n b e (place_stays g sc.place here.scope.place) (symbol_stays g b h) q)))

present_integer : {s : Stores} (z : _) → IsPresent s (Int z) → is_lawful_tag (Int z) ≡ true
present_integer z (an_integer h) = h

items_safe : (inner : Sketch → Step Core) (sc : Scope) (n : ℕ) (vs : List Val) → MakesIn inner sc → {w : World} → Here w sc → ValuesAreThere (stores_of w) vs →
    Safe w ItemsWhole (items inner n vs w)
unfolding items
items_safe inner sc n [] k here h = pure_safe _ here.order no_items_whole
items_safe inner sc n (Int z ∷ vs) k here (one_more h hs) =
    then_safe _ _ (items_safe inner sc (suc n) vs k here hs) (λ is u l i. pure_safe _ l.order (tag_whole n (Int z) no_more (present_integer z (h.reached (Int z) itself)) i))
items_safe inner sc n (Char c ∷ vs) k here (one_more h hs) =
    then_safe _ _ (k (form (Char c)) _ here (a_form h)) (λ e u l i. then_safe _ _ (items_safe inner sc n vs k (here_on l here) (values_stay l.grown hs)) (λ is y m j. pure_safe _ m.order (step_whole {e = e} (parts_stay m.grown i) j)))
items_safe inner sc n (Sym x ∷ vs) k here (one_more h hs) =
    then_safe _ _ (items_safe inner sc (suc n) vs k here hs) (λ is u l i. pure_safe _ l.order (tag_whole n (Sym x) (one_more (symbol_stays l.grown x (symbol_of_there x h)) no_more) refl i))
items_safe inner sc n (Ref o ∷ vs) k here (one_more h hs) =
    then_safe _ _ (k (form (Ref o)) _ here (a_form h)) (λ e u l i. then_safe _ _ (items_safe inner sc n vs k (here_on l here) (values_stay l.grown hs)) (λ is y m j. pure_safe _ m.order (step_whole {e = e} (parts_stay m.grown i) j)))

tagbody_safe : (levels : ℕ) (inner : Inner) (sc : Scope) (vs : List Val) → MakesAt inner → {w : World} → Here w sc → ValuesAreThere (stores_of w) vs →
    Safe w Whole (tagbody_node levels inner sc vs w)
unfolding tagbody_node
tagbody_safe levels inner sc vs k here h =
    then_safe _ _ (next_safe _ _ (begin_safe 1 levels sc here.order) (λ a u l j. numbers_safe (tags_in vs) l.order)) (λ n u l j.
    then_safe _ _ (items_safe (inner (inside levels) (with_tags n vs sc)) (with_tags n vs sc) n vs (λ x. k (inside levels) (with_tags n vs sc) x) (record { order = l.order; scope = with_tags_there (stores_of u) n vs sc (scope_stays l.grown sc here.scope) }) (values_stay l.grown h)) (λ is y m q.
    pure_safe _ m.order (tagbody_whole sc.place is (place_stays (grown_on l.grown m.grown) sc.place here.scope.place) q)))

-- ---- sketches and forms

abbrev Expands : (ℕ → Scope → Val → Step Core) → Type 0
Expands expand = (chain : ℕ) (sc : Scope) (v : Val) (w : World) → Here w sc → IsThere (stores_of w) v → Safe w Whole (expand chain sc v w)

go_on_safe : (expand : ℕ → Scope → Val → Step Core) (chain : ℕ) (sc own : Scope) (v : Val) → Expands expand → {w : World} → Here w own → IsThere (stores_of w) v →
    Safe w Whole (go_on expand chain sc own v w)
unfolding go_on
go_on_safe expand zero sc own v k here h = refuse_safe TooNested sc
go_on_safe expand (suc chain) sc own v k here h = k chain own v _ here h

followed_safe : (expand : ℕ → Scope → Val → Step Core) (make : Scope → Sketch → Step Core) (chain : ℕ) (sc : Scope) (p : Plan) → Expands expand → Makes make →
    {w : World} → Here w sc → PlanIsThere (stores_of w) p → Safe w Whole (followed expand make chain sc p w)
unfolding followed
followed_safe expand make chain sc (instead v) k m here (another_form h) = go_on_safe expand chain sc sc v k here h
followed_safe expand make chain sc (declared_around d v) k m {w} here (a_declared i h) = go_on_safe expand chain sc (declared_in d sc) v k (record { order = here.order; scope = declared_in_there (stores_of w) d sc i here.scope }) h
followed_safe expand make chain sc (makes x) k m here (a_sketch h) = m sc x _ here h

planned_safe : (expand : ℕ → Scope → Val → Step Core) (make : Scope → Sketch → Step Core) (chain : ℕ) (sc : Scope) (v : Val) → Expands expand → Makes make →
    {w : World} → Here w sc → IsThere (stores_of w) v → Safe w Whole (planned expand make chain sc v w)
unfolding planned
planned_safe expand make chain sc v k m here h = then_safe _ _ (plan_safe sc v here h) (λ p u l i. followed_safe expand make chain sc p k m (here_on l here) i)

mutual
  unfolding expand make

  pub expand_safe : (fuel levels chain : ℕ) (sc : Scope) (v : Val) {w : World} → Here w sc → IsThere (stores_of w) v → Safe w Whole (expand fuel levels chain sc v w)
  expand_safe zero levels chain sc v here h = refuse_safe TooNested sc
  expand_safe (suc fuel) levels chain sc v {w} here h =
      then_safe _ _ (look_safe {P = ScopeIsThere} (λ w. at_form w.heap v sc) here.order (at_form_there (stores_of w) v sc h here.scope)) (λ own u l i.
      planned_safe (expand fuel levels) (make fuel levels) chain own v (λ c s x y around fits. expand_safe fuel levels c s x around fits) (λ s x y around fits. make_safe fuel levels s x around fits) (record { order = l.order; scope = i }) (value_stays l.grown v h))

  make_safe : (fuel levels : ℕ) (sc : Scope) (x : Sketch) {w : World} → Here w sc → SketchIsThere (stores_of w) x → Safe w Whole (make fuel levels sc x w)
  make_safe zero levels sc x here h = refuse_safe TooNested sc
  make_safe (suc fuel) levels sc (form v) here (a_form h) = expand_safe fuel levels most_chain sc v here h
  make_safe (suc fuel) levels sc (leaf t) here (a_leaf h) =
      next_safe _ _ (begin_safe 1 levels sc here.order) (λ a u l i. pure_safe _ l.order (leaf_whole (stores_of u) t sc.place (place_stays l.grown sc.place here.scope.place) (leaf_stays l.grown t h)))
  make_safe (suc fuel) levels sc (one u x) here (a_unary h k) =
      then_safe _ _ (next_safe _ _ (begin_safe (unary_count u) levels sc here.order) (λ a y l i. make_safe fuel (inside levels) sc x (here_on l here) (sketch_stays l.grown k))) (λ e y l i.
      pure_safe _ l.order (unary_whole (stores_of y) u sc.place e (place_stays l.grown sc.place here.scope.place) (unary_stays l.grown u h) i))
  make_safe (suc fuel) levels sc (two b x y) here (a_binary h k) =
      then_safe _ _ (next_safe _ _ (begin_safe 1 levels sc here.order) (λ a u l i. make_safe fuel (inside levels) sc x (here_on l here) (sketch_stays l.grown h))) (λ e u l i.
      then_safe _ _ (make_safe fuel (inside levels) sc y (here_on l here) (sketch_stays l.grown k)) (λ f z m j.
      pure_safe _ m.order (binary_whole (stores_of z) b sc.place e f (place_stays (grown_on l.grown m.grown) sc.place here.scope.place) (parts_stay m.grown i) j)))
  make_safe (suc fuel) levels sc (choice x y z) here (a_choice h k n) =
      then_safe _ _ (next_safe _ _ (begin_safe 1 levels sc here.order) (λ a u l i. make_safe fuel (inside levels) sc x (here_on l here) (sketch_stays l.grown h))) (λ a u l i.
      then_safe _ _ (make_safe fuel (inside levels) sc y (here_on l here) (sketch_stays l.grown k)) (λ b v m j.
      let g = grown_on l.grown m.grown in
      then_safe _ _ (make_safe fuel (inside levels) sc z (here_on m (here_on l here)) (sketch_stays g n)) (λ c t o q.
      pure_safe _ o.order (choice_whole (stores_of t) sc.place a b c (place_stays (grown_on g o.grown) sc.place here.scope.place) (parts_stay (grown_on m.grown o.grown) i) (parts_stay o.grown j) q))))
  make_safe (suc fuel) levels sc (many m xs) here (a_many h hs) =
      then_safe _ _ (next_safe _ _ (begin_safe 1 levels sc here.order) (λ a u l i. each_safe (make fuel (inside levels) sc) sc xs (λ x y around fits. make_safe fuel (inside levels) sc x around fits) (here_on l here) (sketches_stay l.grown hs))) (λ es u l i.
      pure_safe _ l.order (many_whole (stores_of u) m sc.place es (place_stays l.grown sc.place here.scope.place) (many_stays l.grown m h) i))
  make_safe (suc fuel) levels sc (calling c x xs) here (a_calling h hs) =
      then_safe _ _ (next_safe _ _ (begin_safe 1 levels sc here.order) (λ a u l i. make_safe fuel (inside levels) sc x (here_on l here) (sketch_stays l.grown h))) (λ f u l i.
      then_safe _ _ (each_safe (make fuel (inside levels) sc) sc xs (λ x y around fits. make_safe fuel (inside levels) sc x around fits) (here_on l here) (sketches_stay l.grown hs)) (λ es y m j.
      pure_safe _ m.order (calling_whole (stores_of y) c sc.place f es (place_stays (grown_on l.grown m.grown) sc.place here.scope.place) (parts_stay m.grown i) j)))
  make_safe (suc fuel) levels sc (bind bs x) here (a_bind h k) = binding_safe levels (make fuel) sc bs x (λ n s y t around fits. make_safe fuel n s y around fits) here h k
  make_safe (suc fuel) levels sc (assign y v) {w} here (an_assign h k) =
      then_safe _ _ (look_safe {P = SketchIsThere} (set_variable sc y v) here.order (set_variable_there sc y v w here h k)) (λ x u l i. make_safe fuel levels sc x (here_on l here) i)
  make_safe (suc fuel) levels sc (function f) here (a_function h) =
      then_safe _ _ (function_tree_safe levels (make fuel) sc f (λ n s y t around fits. make_safe fuel n s y around fits) here h) (λ t u l i.
      pure_safe _ l.order (function_whole sc.place t (place_stays l.grown sc.place here.scope.place) i))
  make_safe (suc fuel) levels sc (functions reach vs x) here (the_functions h k) = functions_safe levels (make fuel) sc reach vs x (λ n s y t around fits. make_safe fuel n s y around fits) here h k
  make_safe (suc fuel) levels sc (recursive x f) here (a_recursive h k) = recursive_safe levels (make fuel) sc x f (λ n s y t around fits. make_safe fuel n s y around fits) here h k
  make_safe (suc fuel) levels sc (block b x) here (a_block h k) = block_safe levels (make fuel) sc b x (λ n s y t around fits. make_safe fuel n s y around fits) here h k
  make_safe (suc fuel) levels sc (tagbody vs) here (a_tagbody h) = tagbody_safe levels (make fuel) sc vs (λ n s y t around fits. make_safe fuel n s y around fits) here h
  make_safe (suc fuel) levels sc (within d x) {w} here (a_within h k) = make_safe fuel levels (declared_in d sc) x (record { order = here.order; scope = declared_in_there (stores_of w) d sc h here.scope }) k
