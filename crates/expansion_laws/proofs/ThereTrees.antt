-- Trees of which each node and each function names only what is there.
use Rattle.std.specs.Prelude.{◌≡◌, ℕ, true, List, [], ◌∷◌, ◌++◌, Option, Some, None}
use Rattle.std.specs.List.{list_all}
use Rattle.std.proofs.lemmas.Bool.{and_parts, ltb-true}
use Rattle.lisp_base.specs.declared.values.Place.{Place}
use Rattle.lisp_base.specs.declared.values.Place.TheVariants as places
use Rattle.lisp_base.specs.declared.values.SymId.{SymId}
use Rattle.lisp_base.specs.declared.values.Val.{Val}
use Rattle.lisp_base.specs.declared.values.Val.TheVariants.{Int, Char, Sym, Ref}
use Rattle.lisp_base.specs.Spec.{Spec, Named, Integer, Signed, Unsigned, Mod, Member, Eql, And, Or, Not, Specs, no_spec, spec}
use Rattle.lisp_base.specs.Lawful.{is_item, has_lawful_parts, all_lawful_parts}
use Rattle.core_form.specs.Tree.{Parameter, Core, Quote, Local, SetLocal, Global, SetGlobal, If, Progn, Let, Function, Labels, CallLocal, CallGlobal, Funcall, Apply, MvCall, FunLocal, FunGlobal, SetFun, Primitive, Is, The, Block, ReturnFrom, Tagbody, Go, Catch, Throw, Unwind, Values, MvProg1, Cores, no_core, core, Bindings, no_binding, binding, Optionals, no_optional, optional, Lambda, lambda, Definitions, no_definition, define, Items, no_item, tag, step, place_of}
use Rattle.core_form.specs.Facts.{FunctionText, gather, gather_all, gather_bindings, gather_optionals, gather_lambda, gather_definitions, gather_items, no_function, at_nodes, let_parameters, function_parameters, parameters_in, TagText, tag_texts}
use Rattle.core_form.specs.Lawful.{place_symbols, value_symbols, item_symbols, spec_symbols, specs_symbols, variable_symbols, types_symbols, parameter_symbols, own_symbols, node_symbols, types_here, quoted_here, is_tag}
use Rattle.expansion_laws.specs.There.{Stores, SymbolIsThere, IsThere, TypeIsThere, PlaceIsThere, Grown, TreeIsThere}
use Rattle.expansion_laws.proofs.ThereLists.{Each, no_more, one_more, each_map, each_append, each_head, each_tail, each_all, each_mapped, each_flat}
use Rattle.expansion_laws.proofs.ThereStores.{values_stay, symbols_stay, types_stay, place_stays}

-- ---- nodes and functions

pub record ParameterIsThere (s : Stores) (x : Parameter) : Type 0 where
  pub names : Each (SymbolIsThere s) (variable_symbols x.variable)
  pub types : Each (TypeIsThere s) x.types

abbrev pub IsTagText : ℕ × TagText → Type 0
IsTagText t = is_tag t.1.name ≡ true

pub record NodeIsThere (s : Stores) (e : Core) : Type 0 where
  pub place : PlaceIsThere s (place_of e)
  pub names : Each (SymbolIsThere s) (own_symbols e)
  pub types : Each (TypeIsThere s) (types_here e)
  pub values : Each (IsThere s) (quoted_here e)
  pub variables : Each (ParameterIsThere s) (let_parameters e)
  pub tags : Each IsTagText (tag_texts e)

pub record TextIsThere (s : Stores) (f : FunctionText) : Type 0 where
  pub variables : Each (ParameterIsThere s) (function_parameters f)

-- a node or a function of a tree
pub data Part : Type 0 where
  a_node : Core → Part
  a_text : FunctionText → Part

abbrev pub PartIsThere : Stores → Part → Type 0
PartIsThere s (a_node e) = NodeIsThere s e
PartIsThere s (a_text f) = TextIsThere s f

abbrev pub node_part : Core → List Part
node_part e = a_node e ∷ []

abbrev pub text_part : FunctionText → List Part
text_part f = a_text f ∷ []

abbrev pub PartsAreThere : Stores → List Part → Type 0
PartsAreThere s xs = Each (PartIsThere s) xs

-- each node and each function of a tree is there
abbrev pub Whole : Stores → Core → Type 0
Whole s e = PartsAreThere s (gather node_part text_part e)

-- ---- they stay

module _ {s t : Stores} (g : Grown s t) where
  pub parameter_stays : (x : Parameter) → ParameterIsThere s x → ParameterIsThere t x
  parameter_stays x h = record { names = symbols_stay g _ h.names; types = types_stay g _ h.types }

  pub parameters_stay : {xs : List Parameter} → Each (ParameterIsThere s) xs → Each (ParameterIsThere t) xs
  parameters_stay h = each_map parameter_stays h

  part_stays : (x : Part) → PartIsThere s x → PartIsThere t x
  part_stays (a_node e) h = record { place = place_stays g _ h.place; names = symbols_stay g _ h.names; types = types_stay g _ h.types; values = values_stay g h.values; variables = parameters_stay h.variables; tags = h.tags }
  part_stays (a_text f) h = record { variables = parameters_stay h.variables }

  pub parts_stay : {xs : List Part} → PartsAreThere s xs → PartsAreThere t xs
  parts_stay h = each_map part_stays h

-- ---- the symbols of types

module _ (s : Stores) where
  item_named : (v : Val) → is_item s.table v ≡ true → Each (SymbolIsThere s) (value_symbols v)
  item_named (Int z) h = no_more
  item_named (Char c) h = no_more
  item_named (Sym x) h = one_more (ltb-true _ _ h) no_more
  item_named (Ref o) h = no_more

  items_named : (vs : List Val) → list_all (is_item s.table) vs ≡ true → Each (SymbolIsThere s) (item_symbols vs)
  items_named [] h = no_more
  items_named (v ∷ vs) h = let k = and_parts _ _ h in each_append (item_named v k.0) (items_named vs k.1)

  mutual
    parts_named : (t : Spec) → has_lawful_parts s.table t ≡ true → Each (SymbolIsThere s) (spec_symbols t)
    parts_named (Named name) h = no_more
    parts_named (Integer lo hi) h = no_more
    parts_named (Signed bits) h = no_more
    parts_named (Unsigned bits) h = no_more
    parts_named (Mod n) h = no_more
    parts_named (Member items) h = items_named items h
    parts_named (Eql item) h = item_named item h
    parts_named (And ts) h = all_parts_named ts h
    parts_named (Or ts) h = all_parts_named ts h
    parts_named (Not t) h = parts_named t h

    all_parts_named : (ts : Specs) → all_lawful_parts s.table ts ≡ true → Each (SymbolIsThere s) (specs_symbols ts)
    all_parts_named no_spec h = no_more
    all_parts_named (spec t ts) h = let k = and_parts _ _ h in each_append (parts_named t k.0) (all_parts_named ts k.1)

  pub type_named : (t : Spec) → TypeIsThere s t → Each (SymbolIsThere s) (spec_symbols t)
  type_named t h = parts_named t h.parts

  types_named : (ts : List Spec) → Each (TypeIsThere s) ts → Each (SymbolIsThere s) (types_symbols ts)
  types_named [] no_more = no_more
  types_named (t ∷ ts) (one_more h hs) = each_append (type_named t h) (types_named ts hs)

  parameter_named : (x : Parameter) → ParameterIsThere s x → Each (SymbolIsThere s) (parameter_symbols x)
  parameter_named x h = each_append h.names (types_named x.types h.types)

  pub place_named : (p : Place) → PlaceIsThere s p → Each (SymbolIsThere s) (place_symbols p)
  place_named (places.File offset tail) h = no_more
  place_named (places.Prelude name) h = one_more h no_more

-- ---- what is gathered of a tree that is there

-- the two parts of a list
each_split : {A : Type 0} {P : A → Type 0} (xs : List A) {ys : List A} → Each P (xs ++ ys) → Each P xs × Each P ys
each_split [] h = (no_more, h)
each_split (x ∷ xs) (one_more h hs) = let k = each_split xs hs in (one_more h k.0, k.1)

module _ {A : Type 0} (s : Stores) (g : Core → List A) (h : FunctionText → List A) (P : A → Type 0)
    (nodes : (e : Core) → NodeIsThere s e → Each P (g e)) (texts : (f : FunctionText) → TextIsThere s f → Each P (h f)) where
  mutual
    unfolding gather gather_all gather_bindings gather_optionals gather_lambda gather_definitions gather_items

    pub gathered : (e : Core) → Whole s e → Each P (gather g h e)
    gathered (Quote p v) w = nodes _ (each_head w)
    gathered (Local p x) w = nodes _ (each_head w)
    gathered (SetLocal p x e) w = each_append (nodes _ (each_head w)) (gathered e (each_tail w))
    gathered (Global p x) w = nodes _ (each_head w)
    gathered (SetGlobal p x e) w = each_append (nodes _ (each_head w)) (gathered e (each_tail w))
    gathered (If p a b c) w =
        let k = each_split (gather node_part text_part a ++ gather node_part text_part b) (each_tail w) in
        let l = each_split (gather node_part text_part a) k.0 in
        each_append (each_append (each_append (nodes _ (each_head w)) (gathered a l.0)) (gathered b l.1)) (gathered c k.1)
    gathered (Progn p es) w = each_append (nodes _ (each_head w)) (all_gathered es (each_tail w))
    gathered (Let p bs e) w =
        let k = each_split (gather_bindings node_part text_part bs) (each_tail w) in
        each_append (each_append (nodes _ (each_head w)) (bindings_gathered bs k.0)) (gathered e k.1)
    gathered (Function p l) w = each_append (nodes _ (each_head w)) (lambda_gathered None p l (each_tail w))
    gathered (Labels p ds e) w =
        let k = each_split (gather_definitions node_part text_part ds) (each_tail w) in
        each_append (each_append (nodes _ (each_head w)) (definitions_gathered ds k.0)) (gathered e k.1)
    gathered (CallLocal p f es) w = each_append (nodes _ (each_head w)) (all_gathered es (each_tail w))
    gathered (CallGlobal p x es) w = each_append (nodes _ (each_head w)) (all_gathered es (each_tail w))
    gathered (Funcall p e es) w =
        let k = each_split (gather node_part text_part e) (each_tail w) in each_append (each_append (nodes _ (each_head w)) (gathered e k.0)) (all_gathered es k.1)
    gathered (Apply p e es) w =
        let k = each_split (gather node_part text_part e) (each_tail w) in each_append (each_append (nodes _ (each_head w)) (gathered e k.0)) (all_gathered es k.1)
    gathered (MvCall p e es) w =
        let k = each_split (gather node_part text_part e) (each_tail w) in each_append (each_append (nodes _ (each_head w)) (gathered e k.0)) (all_gathered es k.1)
    gathered (FunLocal p f) w = nodes _ (each_head w)
    gathered (FunGlobal p x) w = nodes _ (each_head w)
    gathered (SetFun p x e) w = each_append (nodes _ (each_head w)) (gathered e (each_tail w))
    gathered (Primitive p q es) w = each_append (nodes _ (each_head w)) (all_gathered es (each_tail w))
    gathered (Is p t e) w = each_append (nodes _ (each_head w)) (gathered e (each_tail w))
    gathered (The p t e) w = each_append (nodes _ (each_head w)) (gathered e (each_tail w))
    gathered (Block p b n e) w = each_append (nodes _ (each_head w)) (gathered e (each_tail w))
    gathered (ReturnFrom p b e) w = each_append (nodes _ (each_head w)) (gathered e (each_tail w))
    gathered (Tagbody p is) w = each_append (nodes _ (each_head w)) (items_gathered is (each_tail w))
    gathered (Go p t) w = nodes _ (each_head w)
    gathered (Catch p a b) w =
        let k = each_split (gather node_part text_part a) (each_tail w) in each_append (each_append (nodes _ (each_head w)) (gathered a k.0)) (gathered b k.1)
    gathered (Throw p a b) w =
        let k = each_split (gather node_part text_part a) (each_tail w) in each_append (each_append (nodes _ (each_head w)) (gathered a k.0)) (gathered b k.1)
    gathered (Unwind p a b) w =
        let k = each_split (gather node_part text_part a) (each_tail w) in each_append (each_append (nodes _ (each_head w)) (gathered a k.0)) (gathered b k.1)
    gathered (Values p es) w = each_append (nodes _ (each_head w)) (all_gathered es (each_tail w))
    gathered (MvProg1 p a b) w =
        let k = each_split (gather node_part text_part a) (each_tail w) in each_append (each_append (nodes _ (each_head w)) (gathered a k.0)) (gathered b k.1)

    all_gathered : (es : Cores) → PartsAreThere s (gather_all node_part text_part es) → Each P (gather_all g h es)
    all_gathered no_core w = no_more
    all_gathered (core e es) w = let k = each_split (gather node_part text_part e) w in each_append (gathered e k.0) (all_gathered es k.1)

    bindings_gathered : (bs : Bindings) → PartsAreThere s (gather_bindings node_part text_part bs) → Each P (gather_bindings g h bs)
    bindings_gathered no_binding w = no_more
    bindings_gathered (binding x e bs) w = let k = each_split (gather node_part text_part e) w in each_append (gathered e k.0) (bindings_gathered bs k.1)

    optionals_gathered : (os : Optionals) → PartsAreThere s (gather_optionals node_part text_part os) → Each P (gather_optionals g h os)
    optionals_gathered no_optional w = no_more
    optionals_gathered (optional x e r os) w = let k = each_split (gather node_part text_part e) w in each_append (gathered e k.0) (optionals_gathered os k.1)

    lambda_gathered : (name : Option SymId) (p : Place) (l : Lambda) → PartsAreThere s (gather_lambda node_part text_part name p l) → Each P (gather_lambda g h name p l)
    lambda_gathered name p (lambda n xs os r e) w =
        let k = each_split (gather_optionals node_part text_part os) (each_tail w) in
        each_append (each_append (texts _ (each_head w)) (optionals_gathered os k.0)) (gathered e k.1)

    definitions_gathered : (ds : Definitions) → PartsAreThere s (gather_definitions node_part text_part ds) → Each P (gather_definitions g h ds)
    definitions_gathered no_definition w = no_more
    definitions_gathered (define p f n l ds) w =
        let k = each_split (gather_lambda node_part text_part (Some n) p l) w in each_append (lambda_gathered (Some n) p l k.0) (definitions_gathered ds k.1)

    items_gathered : (is : Items) → PartsAreThere s (gather_items node_part text_part is) → Each P (gather_items g h is)
    items_gathered no_item w = no_more
    items_gathered (tag n v is) w = items_gathered is w
    items_gathered (step e is) w = let k = each_split (gather node_part text_part e) w in each_append (gathered e k.0) (items_gathered is k.1)

-- ---- the tree is there

module _ (s : Stores) where
  nothing_of_texts : {A : Type 0} (P : A → Type 0) (f : FunctionText) → TextIsThere s f → Each P (no_function f)
  nothing_of_texts P f h = no_more

  at_nodes_there : {A : Type 0} (g : Core → List A) (P : A → Type 0) → ((e : Core) → NodeIsThere s e → Each P (g e)) → (e : Core) → Whole s e → Each P (at_nodes g e)
  at_nodes_there g P k e w = gathered s g no_function P k (nothing_of_texts P) e w

  parameters_there : (e : Core) → Whole s e → Each (ParameterIsThere s) (parameters_in e)
  parameters_there e w = gathered s let_parameters function_parameters (ParameterIsThere s) (λ x h. h.variables) (λ f h. h.variables) e w

  pub tree_there : (e : Core) → Whole s e → TreeIsThere s e
  tree_there e w = record {
    symbols = each_all (each_append
        (at_nodes_there node_symbols (SymbolIsThere s) (λ x h. each_append (place_named s (place_of x) h.place) h.names) e w)
        (each_flat parameter_symbols (parameter_named s) (parameters_there e w)));
    types = each_all (each_append (at_nodes_there types_here (TypeIsThere s) (λ x h. h.types) e w) (each_flat (λ (x : Parameter). x.types) (λ x h. h.types) (parameters_there e w)));
    values = each_all (at_nodes_there quoted_here (IsThere s) (λ x h. h.values) e w);
    tags = each_all (each_mapped (λ (t : ℕ × TagText). t.1.name) (λ t h. h) (at_nodes_there tag_texts IsTagText (λ x h. h.tags) e w));
  }
