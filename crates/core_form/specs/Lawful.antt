-- What is so of every program: checked trees whose binders are counted and whose declared types are tested, lawful types,
-- symbols and data that are there, functions given to symbols, and preludes of definitions. (This project's own.)
use Rattle.std.specs.Prelude.{◌≡◌, ◌≢◌, ℕ, suc, ◌<◌, ◌≤◌, Bool, true, false, ◌&&◌, ◌==◌, List, [], ◌∷◌, ◌++◌, length, map, flat_map, slice_get, chars, All, Contains, Option, Some, None}
use Rattle.std.specs.Char.{IsScalar}
use Rattle.std.specs.List.{AllPairs}
use Rattle.lisp_base.specs.declared.values.Place.{Place}
use Rattle.lisp_base.specs.declared.values.Place.TheVariants as places
use Rattle.lisp_base.specs.declared.values.ObjId.{ObjId}
use Rattle.lisp_base.specs.declared.values.SymId.{SymId}
use Rattle.lisp_base.specs.declared.values.Val.{Val}
use Rattle.lisp_base.specs.declared.values.Val.TheVariants.{Int, Char, Sym, Ref}
use Rattle.lisp_base.specs.Sort.{number_of, index_of}
use Rattle.lisp_base.specs.Spec.{Spec, Named, Integer, Signed, Unsigned, Mod, Member, Eql, And, Or, Not, Specs, no_spec, spec}
use Rattle.lisp_base.specs.Lawful.{IsLawful as IsLawfulType}
use Rattle.lisp_base.specs.Tables.{Table}
use Rattle.lisp_base.specs.Tables as table
use Rattle.core_form.specs.declared.tree.Variable.{Variable}
use Rattle.core_form.specs.declared.tree.Variable.TheVariants.{Lexical, Special}
use Rattle.core_form.specs.declared.tree.TopForm.{TopForm}
use Rattle.core_form.specs.Tree.{Parameter, Core, Quote, SetLocal, Global, SetGlobal, If, Progn, Let, Function, Labels, CallGlobal, Funcall, FunLocal, FunGlobal, SetFun, Is, The, Block, Tagbody, no_core, core, Bindings, no_binding, binding, no_optional, Lambda, lambda, Definitions, no_definition, define, Items, no_item, tag, step, Top, place_of}
use Rattle.core_form.specs.Reading.{tops_of}
use Rattle.core_form.specs.Facts.{FunctionText, gather, at_nodes, functions_in, function_given, tag_texts, parameter_number, binding_parameters, function_parameters, parameters_in}
use Rattle.core_form.specs.State.{Symbol, Object, Pair, Vector, Str, Fun, Cell}
use Rattle.core_form.specs.Primitives.{in_range, greatest_length}
use Rattle.core_form.specs.Eval.{Program}
use Rattle.core_form.specs.Checked.{function_numbers, tag_numbers, TopsAreBuilt}

-- ---- a program of the symbol table and the heap

-- a symbol by the characters of its name
abbrev pub symbol_of : table.Symbol → Symbol
symbol_of s = record { name = chars s.name; kind = s.kind }

abbrev pub reference : ObjId → Val
reference o = Ref o

-- an object without its place; a function would hold the cells of its variables
abbrev pub object_of : table.Object → Object
object_of (table.Cons a d place) = Pair a d
object_of (table.Vector vs) = Vector vs
object_of (table.Str cs) = Str cs
object_of (table.Fun k cells) = Fun k (map reference cells)
object_of (table.Cell v) = Cell v

-- the parts of a program: its forms, the objects of its heap and the symbols of its table
pub record Parts : Type 0 where
  pub prelude : List TopForm
  pub forms : List TopForm
  pub heap : List table.Object
  pub symbols : List table.Symbol

abbrev pub parts_of : (prelude forms : List TopForm) → List table.Object → List table.Symbol → Parts
parts_of prelude forms heap symbols = record { prelude = prelude; forms = forms; heap = heap; symbols = symbols }

-- the program that they are
abbrev pub meant : Parts → Program
meant p = record {
  prelude = tops_of p.prelude;
  forms = tops_of p.forms;
  heap = map object_of p.heap;
  symbols = map symbol_of p.symbols;
}

-- ---- the symbols of a tree

abbrev pub place_symbols : Place → List SymId
place_symbols (places.File offset tail) = []
place_symbols (places.Prelude s) = s ∷ []

abbrev pub value_symbols : Val → List SymId
value_symbols (Int z) = []
value_symbols (Char c) = []
value_symbols (Sym s) = s ∷ []
value_symbols (Ref o) = []

abbrev pub item_symbols : List Val → List SymId
item_symbols [] = []
item_symbols (v ∷ vs) = value_symbols v ++ item_symbols vs

abbrev mutual
  pub spec_symbols : Spec → List SymId
  spec_symbols (Named name) = []
  spec_symbols (Integer lo hi) = []
  spec_symbols (Signed bits) = []
  spec_symbols (Unsigned bits) = []
  spec_symbols (Mod n) = []
  spec_symbols (Member items) = item_symbols items
  spec_symbols (Eql item) = value_symbols item
  spec_symbols (And ts) = specs_symbols ts
  spec_symbols (Or ts) = specs_symbols ts
  spec_symbols (Not t) = spec_symbols t

  pub specs_symbols : Specs → List SymId
  specs_symbols no_spec = []
  specs_symbols (spec t ts) = spec_symbols t ++ specs_symbols ts

abbrev pub variable_symbols : Variable → List SymId
variable_symbols (Lexical x n) = n ∷ []
variable_symbols (Special s) = s ∷ []

abbrev pub types_symbols : List Spec → List SymId
types_symbols [] = []
types_symbols (t ∷ ts) = spec_symbols t ++ types_symbols ts

abbrev pub parameter_symbols : Parameter → List SymId
parameter_symbols x = variable_symbols x.variable ++ types_symbols x.types

abbrev pub definition_symbols : Definitions → List SymId
definition_symbols no_definition = []
definition_symbols (define p f n l ds) = place_symbols p ++ n ∷ definition_symbols ds

abbrev pub tag_symbols : Items → List SymId
tag_symbols no_item = []
tag_symbols (tag t n is) = value_symbols n ++ tag_symbols is
tag_symbols (step e is) = tag_symbols is

-- the symbols that a node itself names; its place is apart
abbrev pub own_symbols : Core → List SymId
own_symbols (Quote p v) = value_symbols v
own_symbols (Global p s) = s ∷ []
own_symbols (SetGlobal p s e) = s ∷ []
own_symbols (Labels p ds e) = definition_symbols ds
own_symbols (CallGlobal p s es) = s ∷ []
own_symbols (FunGlobal p s) = s ∷ []
own_symbols (SetFun p s e) = s ∷ []
own_symbols (Is p t e) = spec_symbols t
own_symbols (The p t e) = spec_symbols t
own_symbols (Block p b n e) = n ∷ []
own_symbols (Tagbody p is) = tag_symbols is
own_symbols _ = []

abbrev pub node_symbols : Core → List SymId
node_symbols e = place_symbols (place_of e) ++ own_symbols e

abbrev pub tree_symbols : Core → List SymId
tree_symbols e = at_nodes node_symbols e ++ flat_map parameter_symbols (parameters_in e)

abbrev pub top_symbols : Top → List SymId
top_symbols t = place_symbols t.place ++ tree_symbols t.core

-- ---- data

-- a value of the language other than a function
abbrev pub IsDatum : Program → Val → Type 0
IsDatum p (Int z) = in_range z ≡ true
IsDatum p (Char c) = IsScalar c
IsDatum p (Sym s) = number_of s < length p.symbols
IsDatum p (Ref o) = IsData (slice_get p.heap (index_of o))
  where
    IsData : Option Object → Type 0
    IsData None = ⊥
    IsData (Some (Pair a d)) = Unit {0}
    IsData (Some (Vector vs)) = length vs ≤ greatest_length
    IsData (Some (Str cs)) = All IsScalar cs × (length cs ≤ greatest_length)
    IsData (Some (Fun k closed)) = ⊥
    IsData (Some (Cell v)) = ⊥

-- the values in a cons or vector
abbrev pub values_within : Option Object → List Val
values_within None = []
values_within (Some (Pair a d)) = a ∷ d ∷ []
values_within (Some (Vector vs)) = vs
values_within (Some (Str cs)) = []
values_within (Some (Fun k closed)) = []
values_within (Some (Cell v)) = []

abbrev pub values_in : Program → Val → List Val
values_in p (Int z) = []
values_in p (Char c) = []
values_in p (Sym s) = []
values_in p (Ref o) = values_within (slice_get p.heap (index_of o))

-- what a value reaches through conses and vectors, itself included
pub data Reaches (p : Program) (v : Val) : Val → Type 0 where
  itself : Reaches p v v
  within : (u w : Val) → Reaches p v u → Contains (values_in p u) w → Reaches p v w

abbrev pub quoted_here : Core → List Val
quoted_here (Quote p v) = v ∷ []
quoted_here _ = []

abbrev pub quoted : Core → List Val
quoted e = at_nodes quoted_here e

-- ---- numbers

-- these numbers are n, n + 1, n + 2 and so on
abbrev pub CountFrom : ℕ → List ℕ → Type 0
CountFrom n [] = Unit {0}
CountFrom n (m ∷ ms) = (m ≡ n) × CountFrom (suc n) ms

abbrev pub function_number : FunctionText → ℕ
function_number f = number f.lambda
  where
    number : Lambda → ℕ
    number (lambda k xs os r e) = k

-- what a node binds: lexical variables, local functions, a block or tags, in the order of the text
abbrev pub bound_here : Core → List ℕ
bound_here (Let p bs e) = flat_map parameter_number (binding_parameters bs)
bound_here (Labels p ds e) = function_numbers ds
bound_here (Block p b n e) = b ∷ []
bound_here (Tagbody p is) = tag_numbers is
bound_here _ = []

-- the lexical variables of a function: those it requires, each optional one with its flag, that of the rest
abbrev pub bound_by : FunctionText → List ℕ
bound_by f = flat_map parameter_number (function_parameters f)

-- all that a form binds, what a node binds before what its parts bind
abbrev pub bound_in : Core → List ℕ
bound_in e = gather bound_here bound_by e

abbrev pub tags_in : Core → List Val
tags_in e = map (λ t. t.1.name) (at_nodes tag_texts e)

-- a tag is a symbol or an integer
abbrev pub is_tag : Val → Bool
is_tag (Int z) = in_range z
is_tag (Char c) = false
is_tag (Sym s) = true
is_tag (Ref o) = false

-- ---- types

abbrev pub types_here : Core → List Spec
types_here (Is p t e) = t ∷ []
types_here (The p t e) = t ∷ []
types_here _ = []

-- all types of a form: those that it tests, and those that are declared of its variables
abbrev pub types_in : Core → List Spec
types_in e = at_nodes types_here e ++ flat_map (λ x. x.types) (parameters_in e)

-- the types of the THE nodes that stand round a form
abbrev pub types_round : Core → List Spec
types_round (The p t e) = t ∷ types_round e
types_round _ = []

abbrev pub values_of : Bindings → List (Parameter × Core)
values_of no_binding = []
values_of (binding x e bs) = (x, e) ∷ values_of bs

-- the variables that a node binds with the forms that give their values
abbrev pub values_bound : Core → List (Parameter × Core)
values_bound (Let p bs e) = values_of bs
values_bound _ = []

-- the number of the variable that a node sets, with the form that gives its value
abbrev pub value_set : Core → List (ℕ × Core)
value_set (SetLocal p x e) = (x, e) ∷ []
value_set _ = []

-- Each value that a variable takes is tested for each of the types that are declared of it. A function tests its arguments
-- itself; else THE nodes stand round the form that gives the value.
pub record DeclaredAreTested (e : Core) : Type 0 where
  pub bound : (x : Parameter) (value : Core) → Contains (at_nodes values_bound e) (x, value) → All (Contains (types_round value)) x.types
  pub set : (x : Parameter) (n : ℕ) (value : Core) → Contains (parameters_in e) x → Contains (parameter_number x) n →
      Contains (at_nodes value_set e) (n, value) → All (Contains (types_round value)) x.types

-- ---- the functions of symbols

-- whether a form gives a function: that of a LAMBDA or a local one, also where the local functions are bound round it
abbrev pub gives_function : Core → Bool
gives_function (Function p l) = true
gives_function (FunLocal p f) = true
gives_function (Labels p ds e) = gives_function e
gives_function _ = false

-- the form whose value a node gives to a symbol as its function
abbrev pub function_set : Core → List Core
function_set (SetFun p s e) = e ∷ []
function_set _ = []

-- ---- definitions of global functions

-- a call, with one argument, of a function that takes none
abbrev pub is_refused_call : Core → Bool
is_refused_call (Funcall p (Function q (lambda k [] no_optional None e)) (core x no_core)) = true
is_refused_call _ = false

-- A function's body is the block of its name, within the bindings that &AUX and &KEY make and the test of the keys, which
-- refuses other keys by such a call.
abbrev pub is_body_of : (name : SymId) → Core → Bool
is_body_of name (Block p b n e) = number_of n == number_of name
is_body_of name (Let p bs e) = is_body_of name e
is_body_of name (If p a b c) = is_body_of name b && is_refused_call c
is_body_of name _ = false

abbrev pub body_of : Lambda → Core
body_of (lambda k xs os r e) = e

-- the places of all nodes and local functions of a form
abbrev pub places_in : Core → List Place
places_in e = gather (λ x. place_of x ∷ []) (λ f. f.place ∷ []) e

-- the definition of a global function: it is given to its name, which is the value
abbrev pub definition : (place : Place) → (name : SymId) → (function : ℕ) → Lambda → Core
definition p n k l = Progn p (core (SetFun p n (Labels p (define p k n l no_definition) (FunLocal p k))) (core (Quote p (Sym n)) no_core))

-- a form of a prelude is the definition of a global function, and its name is the place of all that stands in it
pub record IsDefinition (t : Top) : Type 0 where
  pub name : SymId
  pub function : ℕ
  pub does : Lambda
  pub body : is_body_of name (body_of does) ≡ true
  pub is : t.core ≡ definition (places.Prelude name) name function does
  pub place : t.place ≡ places.Prelude name
  pub everywhere : All (λ p. p ≡ places.Prelude name) (places_in t.core)

-- ---- programs

-- The lexical variables, local functions, blocks and tags of a form count from 1, its functions from 0. Whether a type is
-- lawful for a table depends on the number of its symbols alone.
pub record TopIsLawful (p : Program) (t : Top) : Type 0 where
  pub symbols : All (λ s. number_of s < length p.symbols) (top_symbols t)
  pub types : (table : Table) → length table.symbols ≡ length p.symbols → All (IsLawfulType table) (types_in t.core)
  pub data_there : (v w : Val) → Contains (quoted t.core) v → Reaches p v w → IsDatum p w
  pub tags : All (λ v. is_tag v ≡ true) (tags_in t.core)
  pub binders : CountFrom 1 (bound_in t.core)
  pub functions : CountFrom 0 (map function_number (functions_in t.core))
  pub tested : DeclaredAreTested t.core
  pub functions_set : All (λ e. gives_function e ≡ true) (at_nodes function_set t.core)

abbrev pub TopsAreLawful : Program → List Top → Type 0
TopsAreLawful p [] = Unit {0}
TopsAreLawful p (t ∷ ts) = TopIsLawful p t × TopsAreLawful p ts

abbrev pub AreDefinitions : List Top → Type 0
AreDefinitions [] = Unit {0}
AreDefinitions (t ∷ ts) = IsDefinition t × AreDefinitions ts

-- the symbols to which these forms give a function
abbrev pub names_given : List Top → List SymId
names_given ts = flat_map (λ t. function_given t.core) ts

-- the symbols of the base names come first, in their order
abbrev pub BeginWithNames : List Symbol → Type 0
BeginWithNames symbols = (others : List Symbol) × (symbols ≡ map symbol_of table.base_symbols ++ others)

pub record IsLawful (p : Program) : Type 0 where
  pub prelude_built : TopsAreBuilt p.prelude
  pub forms_built : TopsAreBuilt p.forms
  pub prelude_lawful : TopsAreLawful p p.prelude
  pub forms_lawful : TopsAreLawful p p.forms
  pub prelude_defines : AreDefinitions p.prelude
  -- no function of the prelude is defined twice
  pub prelude_once : AllPairs (λ x y. x ≢ y) (names_given p.prelude)
  pub begins : BeginWithNames p.symbols
