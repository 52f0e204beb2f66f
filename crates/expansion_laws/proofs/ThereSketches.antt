-- Sketches of what is there: their forms, symbols and types are there, and stay there.
use Rattle.std.specs.Prelude.{List, [], ◌∷◌, Option}
use Rattle.lisp_base.specs.declared.values.SymId.{SymId}
use Rattle.lisp_base.specs.declared.values.Val.{Val}
use Rattle.lisp_base.specs.declared.primitives.Primitive.{Primitive as Operation}
use Rattle.lisp_base.specs.Spec.{Spec}
use Rattle.declarations.specs.Declarations.{Declared}
use Rattle.expansion.specs.declared.heads.Leaf.{Leaf}
use Rattle.expansion.specs.declared.heads.Leaf.TheVariants.{Constant, LocalVariable, GlobalVariable, LocalFunction, GlobalFunction, GoTo}
use Rattle.expansion.specs.declared.heads.Binary.{Binary}
use Rattle.expansion.specs.declared.heads.Many.{Many}
use Rattle.expansion.specs.declared.heads.Many.TheVariants.{Sequence, CallingLocal, CallingGlobal, Operating, GivingValues}
use Rattle.expansion.specs.declared.heads.Calling.{Calling}
use Rattle.expansion.specs.declared.heads.Reach.{Reach}
use Rattle.expansion.specs.Sketches.{Unary, SettingLocal, SettingGlobal, SettingFunction, Testing, Checking, Returning, Binder, Initial, Optional', Sketch, form, leaf, one, two, choice, many, calling, bind, assign, function, functions, recursive, block, tagbody, within, Sketches, no_sketch, sketch, Function, function_of, sketches, forms, constant, progn, body, primitive, checked, Plan, instead, declared_around, makes}
use Rattle.expansion_laws.specs.There.{Stores, SymbolIsThere, IsThere, TypeIsThere, AreSound, Grown}
use Rattle.expansion_laws.proofs.ThereLists.{Each, no_more, one_more, Where, where_each, each_map, each_mapped}
use Rattle.expansion_laws.proofs.ThereStores.{ValuesAreThere, value_stays, values_stay, symbol_stays, type_stays, types_stay, nil_there}
use Rattle.expansion_laws.proofs.ThereReading.{DeclaredAreThere, declared_stay}

-- ---- heads of nodes

abbrev pub LeafIsThere : Stores → Leaf → Type 0
LeafIsThere s (Constant v) = IsThere s v
LeafIsThere s (LocalVariable n) = Unit {0}
LeafIsThere s (GlobalVariable x) = SymbolIsThere s x
LeafIsThere s (LocalFunction f) = Unit {0}
LeafIsThere s (GlobalFunction x) = SymbolIsThere s x
LeafIsThere s (GoTo t) = Unit {0}

abbrev pub UnaryIsThere : Stores → Unary → Type 0
UnaryIsThere s (SettingLocal n) = Unit {0}
UnaryIsThere s (SettingGlobal x) = SymbolIsThere s x
UnaryIsThere s (SettingFunction x) = SymbolIsThere s x
UnaryIsThere s (Testing t) = TypeIsThere s t
UnaryIsThere s (Checking t) = TypeIsThere s t
UnaryIsThere s (Returning b) = Unit {0}

abbrev pub ManyIsThere : Stores → Many → Type 0
ManyIsThere s Sequence = Unit {0}
ManyIsThere s (CallingLocal f) = Unit {0}
ManyIsThere s (CallingGlobal x) = SymbolIsThere s x
ManyIsThere s (Operating q) = Unit {0}
ManyIsThere s GivingValues = Unit {0}

-- ---- variables that a form binds

pub record BinderIsThere (s : Stores) (b : Binder) : Type 0 where
  pub variable : SymbolIsThere s b.variable
  pub types : Each (TypeIsThere s) b.types

pub record InitialIsThere (s : Stores) (b : Initial) : Type 0 where
  pub binder : BinderIsThere s b.binder
  pub value : IsThere s b.value

pub record OptionalIsThere (s : Stores) (o : Optional') : Type 0 where
  pub binder : BinderIsThere s o.binder
  pub default : IsThere s o.default
  pub supplied : Where (BinderIsThere s) o.supplied

-- ---- sketches

mutual
  pub data SketchIsThere (s : Stores) : Sketch → Type 0 where
    a_form : {v : Val} → IsThere s v → SketchIsThere s (form v)
    a_leaf : {l : Leaf} → LeafIsThere s l → SketchIsThere s (leaf l)
    a_unary : {u : Unary} {x : Sketch} → UnaryIsThere s u → SketchIsThere s x → SketchIsThere s (one u x)
    a_binary : {b : Binary} {x y : Sketch} → SketchIsThere s x → SketchIsThere s y → SketchIsThere s (two b x y)
    a_choice : {x y z : Sketch} → SketchIsThere s x → SketchIsThere s y → SketchIsThere s z → SketchIsThere s (choice x y z)
    a_many : {m : Many} {xs : Sketches} → ManyIsThere s m → SketchesAreThere s xs → SketchIsThere s (many m xs)
    a_calling : {c : Calling} {x : Sketch} {xs : Sketches} → SketchIsThere s x → SketchesAreThere s xs → SketchIsThere s (calling c x xs)
    a_bind : {bs : List Initial} {x : Sketch} → Each (InitialIsThere s) bs → SketchIsThere s x → SketchIsThere s (bind bs x)
    an_assign : {x : SymId} {v : Val} → SymbolIsThere s x → IsThere s v → SketchIsThere s (assign x v)
    a_function : {f : Function} → FunctionIsThere s f → SketchIsThere s (function f)
    the_functions : {reach : Reach} {vs : List Val} {x : Sketch} → ValuesAreThere s vs → SketchIsThere s x → SketchIsThere s (functions reach vs x)
    a_recursive : {x : SymId} {f : Function} → SymbolIsThere s x → FunctionIsThere s f → SketchIsThere s (recursive x f)
    a_block : {b : SymId} {x : Sketch} → SymbolIsThere s b → SketchIsThere s x → SketchIsThere s (block b x)
    a_tagbody : {vs : List Val} → ValuesAreThere s vs → SketchIsThere s (tagbody vs)
    a_within : {d : Declared} {x : Sketch} → DeclaredAreThere s d → SketchIsThere s x → SketchIsThere s (within d x)

  pub data SketchesAreThere (s : Stores) : Sketches → Type 0 where
    no_part : SketchesAreThere s no_sketch
    a_part : {x : Sketch} {xs : Sketches} → SketchIsThere s x → SketchesAreThere s xs → SketchesAreThere s (sketch x xs)

  pub data FunctionIsThere (s : Stores) : Function → Type 0 where
    of_parts : {required : List Binder} {optional : List Optional'} {rest : Option Binder} {x : Sketch} →
        Each (BinderIsThere s) required → Each (OptionalIsThere s) optional → Where (BinderIsThere s) rest → SketchIsThere s x →
        FunctionIsThere s (function_of required optional rest x)

-- ---- they stay

module _ {s t : Stores} (g : Grown s t) where
  pub leaf_stays : (l : Leaf) → LeafIsThere s l → LeafIsThere t l
  leaf_stays (Constant v) h = value_stays g v h
  leaf_stays (LocalVariable n) h = tt
  leaf_stays (GlobalVariable x) h = symbol_stays g x h
  leaf_stays (LocalFunction f) h = tt
  leaf_stays (GlobalFunction x) h = symbol_stays g x h
  leaf_stays (GoTo n) h = tt

  pub unary_stays : (u : Unary) → UnaryIsThere s u → UnaryIsThere t u
  unary_stays (SettingLocal n) h = tt
  unary_stays (SettingGlobal x) h = symbol_stays g x h
  unary_stays (SettingFunction x) h = symbol_stays g x h
  unary_stays (Testing x) h = type_stays g x h
  unary_stays (Checking x) h = type_stays g x h
  unary_stays (Returning b) h = tt

  pub many_stays : (m : Many) → ManyIsThere s m → ManyIsThere t m
  many_stays Sequence h = tt
  many_stays (CallingLocal f) h = tt
  many_stays (CallingGlobal x) h = symbol_stays g x h
  many_stays (Operating q) h = tt
  many_stays GivingValues h = tt

  pub binder_stays : (b : Binder) → BinderIsThere s b → BinderIsThere t b
  binder_stays b h = record { variable = symbol_stays g b.variable h.variable; types = types_stay g b.types h.types }

  pub binders_stay : {bs : List Binder} → Each (BinderIsThere s) bs → Each (BinderIsThere t) bs
  binders_stay h = each_map binder_stays h

  pub binder_may_stay : {b : Option Binder} → Where (BinderIsThere s) b → Where (BinderIsThere t) b
  binder_may_stay h = where_each h binder_stays

  pub initial_stays : (b : Initial) → InitialIsThere s b → InitialIsThere t b
  initial_stays b h = record { binder = binder_stays b.binder h.binder; value = value_stays g b.value h.value }

  pub optional_stays : (o : Optional') → OptionalIsThere s o → OptionalIsThere t o
  optional_stays o h = record { binder = binder_stays o.binder h.binder; default = value_stays g o.default h.default; supplied = binder_may_stay h.supplied }

  mutual
    pub sketch_stays : {x : Sketch} → SketchIsThere s x → SketchIsThere t x
    sketch_stays (a_form {v = v} h) = a_form (value_stays g v h)
    sketch_stays (a_leaf {l = l} h) = a_leaf (leaf_stays l h)
    sketch_stays (a_unary {u = u} h k) = a_unary (unary_stays u h) (sketch_stays k)
    sketch_stays (a_binary h k) = a_binary (sketch_stays h) (sketch_stays k)
    sketch_stays (a_choice h k l) = a_choice (sketch_stays h) (sketch_stays k) (sketch_stays l)
    sketch_stays (a_many {m = m} h k) = a_many (many_stays m h) (sketches_stay k)
    sketch_stays (a_calling h k) = a_calling (sketch_stays h) (sketches_stay k)
    sketch_stays (a_bind h k) = a_bind (each_map initial_stays h) (sketch_stays k)
    sketch_stays (an_assign {x = x} {v = v} h k) = an_assign (symbol_stays g x h) (value_stays g v k)
    sketch_stays (a_function h) = a_function (function_stays h)
    sketch_stays (the_functions h k) = the_functions (values_stay g h) (sketch_stays k)
    sketch_stays (a_recursive {x = x} h k) = a_recursive (symbol_stays g x h) (function_stays k)
    sketch_stays (a_block {b = b} h k) = a_block (symbol_stays g b h) (sketch_stays k)
    sketch_stays (a_tagbody h) = a_tagbody (values_stay g h)
    sketch_stays (a_within {d = d} h k) = a_within (declared_stay g d h) (sketch_stays k)

    pub sketches_stay : {xs : Sketches} → SketchesAreThere s xs → SketchesAreThere t xs
    sketches_stay no_part = no_part
    sketches_stay (a_part h hs) = a_part (sketch_stays h) (sketches_stay hs)

    pub function_stays : {f : Function} → FunctionIsThere s f → FunctionIsThere t f
    function_stays (of_parts rs os r h) = of_parts (binders_stay rs) (each_map optional_stays os) (binder_may_stay r) (sketch_stays h)

-- ---- sketches that are often needed

module _ {s : Stores} where
  pub the_sketches : {xs : List Sketch} → Each (SketchIsThere s) xs → SketchesAreThere s (sketches xs)
  the_sketches no_more = no_part
  the_sketches (one_more h hs) = a_part h (the_sketches hs)

  pub the_forms : {vs : List Val} → ValuesAreThere s vs → Each (SketchIsThere s) (forms vs)
  the_forms h = each_mapped form (λ v k. a_form k) h

  pub a_constant : {v : Val} → IsThere s v → SketchIsThere s (constant v)
  a_constant h = a_leaf h

  pub a_progn : (xs : List Sketch) → AreSound s → Each (SketchIsThere s) xs → SketchIsThere s (progn xs)
  a_progn [] sound h = a_leaf (nil_there sound)
  a_progn (x ∷ []) sound (one_more h hs) = h
  a_progn (x ∷ y ∷ xs) sound h = a_many tt (the_sketches h)

  pub a_body : (vs : List Val) → AreSound s → ValuesAreThere s vs → SketchIsThere s (body vs)
  a_body vs sound h = a_progn (forms vs) sound (the_forms h)

  pub a_primitive : (q : Operation) {xs : List Sketch} → Each (SketchIsThere s) xs → SketchIsThere s (primitive q xs)
  a_primitive q h = a_many tt (the_sketches h)

  pub a_checked : (ts : List Spec) (x : Sketch) → Each (TypeIsThere s) ts → SketchIsThere s x → SketchIsThere s (checked ts x)
  a_checked [] x no_more h = h
  a_checked (t ∷ ts) x (one_more k ks) h = a_checked ts (one (Checking t) x) ks (a_unary k h)

-- ---- plans

pub data PlanIsThere (s : Stores) : Plan → Type 0 where
  another_form : {v : Val} → IsThere s v → PlanIsThere s (instead v)
  a_declared : {d : Declared} {v : Val} → DeclaredAreThere s d → IsThere s v → PlanIsThere s (declared_around d v)
  a_sketch : {x : Sketch} → SketchIsThere s x → PlanIsThere s (makes x)
