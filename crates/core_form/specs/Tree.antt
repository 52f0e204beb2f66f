-- The tree of a program as its meaning sees it: no pointer, no shape. Its nodes are counted here. (This project's own.)
use Rattle.std.specs.Prelude.{ℕ, ◌+◌, List, [], ◌∷◌, Option, Some, None}
use Rattle.lisp_base.specs.declared.values.Place.{Place}
use Rattle.lisp_base.specs.declared.values.SymId.{SymId}
use Rattle.lisp_base.specs.declared.values.Val.{Val}
use Rattle.lisp_base.specs.declared.primitives.Primitive.{Primitive as Operation}
use Rattle.lisp_base.specs.Spec.{Spec, spec_size}
use Rattle.core_form.specs.declared.tree.Variable.{Variable}

-- a variable with the types that are declared of it
pub record Parameter : Type 0 where
  pub variable : Variable
  pub types : List Spec

mutual
  pub data Core : Type 0 where
    Quote : Place → Val → Core
    Local : Place → (variable : ℕ) → Core
    SetLocal : Place → (variable : ℕ) → Core → Core
    Global : Place → SymId → Core
    SetGlobal : Place → SymId → Core → Core
    If : Place → (test yes no : Core) → Core
    Progn : Place → Cores → Core
    Let : Place → Bindings → (body : Core) → Core
    Function : Place → Lambda → Core
    Labels : Place → Definitions → (body : Core) → Core
    CallLocal : Place → (function : ℕ) → Cores → Core
    CallGlobal : Place → SymId → Cores → Core
    Funcall : Place → (function : Core) → Cores → Core
    Apply : Place → (function : Core) → Cores → Core
    MvCall : Place → (function : Core) → Cores → Core
    FunLocal : Place → (function : ℕ) → Core
    FunGlobal : Place → SymId → Core
    SetFun : Place → SymId → Core → Core
    Primitive : Place → Operation → Cores → Core
    Is : Place → Spec → Core → Core
    The : Place → Spec → Core → Core
    Block : Place → (block : ℕ) → (name : SymId) → Core → Core
    ReturnFrom : Place → (block : ℕ) → Core → Core
    Tagbody : Place → Items → Core
    Go : Place → (tag : ℕ) → Core
    Catch : Place → (tag form : Core) → Core
    Throw : Place → (tag form : Core) → Core
    Unwind : Place → (form cleanup : Core) → Core
    Values : Place → Cores → Core
    MvProg1 : Place → (first then : Core) → Core

  pub data Cores : Type 0 where
    no_core : Cores
    core : Core → Cores → Cores

  pub data Bindings : Type 0 where
    no_binding : Bindings
    binding : Parameter → (value : Core) → Bindings → Bindings

  pub data Optionals : Type 0 where
    no_optional : Optionals
    optional : Parameter → (default : Core) → (supplied : Option Parameter) → Optionals → Optionals

  -- the number counts the functions of the top-level form from 0, each before those inside it
  pub data Lambda : Type 0 where
    lambda : (number : ℕ) → (required : List Parameter) → Optionals → (rest : Option Parameter) → (body : Core) → Lambda

  pub data Definitions : Type 0 where
    no_definition : Definitions
    define : Place → (function : ℕ) → (name : SymId) → Lambda → Definitions → Definitions

  pub data Items : Type 0 where
    no_item : Items
    tag : (number : ℕ) → (name : Val) → Items → Items
    step : Core → Items → Items

abbrev pub place_of : Core → Place
place_of (Quote p v) = p
place_of (Local p x) = p
place_of (SetLocal p x e) = p
place_of (Global p s) = p
place_of (SetGlobal p s e) = p
place_of (If p a b c) = p
place_of (Progn p es) = p
place_of (Let p bs e) = p
place_of (Function p l) = p
place_of (Labels p ds e) = p
place_of (CallLocal p f es) = p
place_of (CallGlobal p s es) = p
place_of (Funcall p e es) = p
place_of (Apply p e es) = p
place_of (MvCall p e es) = p
place_of (FunLocal p f) = p
place_of (FunGlobal p s) = p
place_of (SetFun p s e) = p
place_of (Primitive p q es) = p
place_of (Is p t e) = p
place_of (The p t e) = p
place_of (Block p b n e) = p
place_of (ReturnFrom p b e) = p
place_of (Tagbody p is) = p
place_of (Go p t) = p
place_of (Catch p t e) = p
place_of (Throw p t e) = p
place_of (Unwind p e c) = p
place_of (Values p es) = p
place_of (MvProg1 p e c) = p

-- ---- counting

abbrev pub cores_length : Cores → ℕ
cores_length no_core = 0
cores_length (core e es) = 1 + cores_length es

abbrev pub types_size : List Spec → ℕ
types_size [] = 0
types_size (t ∷ ts) = spec_size t + types_size ts

-- a parameter of a function counts 1, and the sizes of its checks
abbrev pub parameter_count : Parameter → ℕ
parameter_count x = 1 + types_size x.types

abbrev pub parameters_count : List Parameter → ℕ
parameters_count [] = 0
parameters_count (x ∷ xs) = parameter_count x + parameters_count xs

abbrev pub if_there : Option Parameter → ℕ
if_there None = 0
if_there (Some x) = parameter_count x

abbrev mutual
  -- A node counts 1, and 1 for each variable that it binds; a type and a check count their size besides.
  pub node_count : Core → ℕ
  node_count (Quote p v) = 1
  node_count (Local p x) = 1
  node_count (SetLocal p x e) = 1 + node_count e
  node_count (Global p s) = 1
  node_count (SetGlobal p s e) = 1 + node_count e
  node_count (If p a b c) = 1 + node_count a + node_count b + node_count c
  node_count (Progn p es) = 1 + node_counts es
  node_count (Let p bs e) = 1 + bindings_count bs + node_count e
  node_count (Function p l) = lambda_count l
  node_count (Labels p ds e) = 1 + definitions_count ds + node_count e
  node_count (CallLocal p f es) = 1 + node_counts es
  node_count (CallGlobal p s es) = 1 + node_counts es
  node_count (Funcall p e es) = 1 + node_count e + node_counts es
  node_count (Apply p e es) = 1 + node_count e + node_counts es
  node_count (MvCall p e es) = 1 + node_count e + node_counts es
  node_count (FunLocal p f) = 1
  node_count (FunGlobal p s) = 1
  node_count (SetFun p s e) = 1 + node_count e
  node_count (Primitive p q es) = 1 + node_counts es
  node_count (Is p t e) = 1 + spec_size t + node_count e
  node_count (The p t e) = 1 + spec_size t + node_count e
  node_count (Block p b n e) = 1 + node_count e
  node_count (ReturnFrom p b e) = 1 + node_count e
  node_count (Tagbody p is) = 1 + items_count is
  node_count (Go p t) = 1
  node_count (Catch p t e) = 1 + node_count t + node_count e
  node_count (Throw p t e) = 1 + node_count t + node_count e
  node_count (Unwind p e c) = 1 + node_count e + node_count c
  node_count (Values p es) = 1 + node_counts es
  node_count (MvProg1 p e c) = 1 + node_count e + node_count c

  pub node_counts : Cores → ℕ
  node_counts no_core = 0
  node_counts (core e es) = node_count e + node_counts es

  -- the checks of a variable of a Let are nodes of its form
  pub bindings_count : Bindings → ℕ
  bindings_count no_binding = 0
  bindings_count (binding x e bs) = 1 + node_count e + bindings_count bs

  pub optionals_count : Optionals → ℕ
  optionals_count no_optional = 0
  optionals_count (optional x e s os) = parameter_count x + node_count e + if_there s + optionals_count os

  pub lambda_count : Lambda → ℕ
  lambda_count (lambda k xs os r e) = 1 + parameters_count xs + optionals_count os + if_there r + node_count e

  pub definitions_count : Definitions → ℕ
  definitions_count no_definition = 0
  definitions_count (define p f n l ds) = lambda_count l + definitions_count ds

  pub items_count : Items → ℕ
  items_count no_item = 0
  items_count (tag t n is) = items_count is
  items_count (step e is) = node_count e + items_count is

-- a top-level form with its node count
pub record Top : Type 0 where
  pub place : Place
  pub core : Core
  pub nodes : ℕ
