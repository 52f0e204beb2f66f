-- What can be read off a top-level form before it runs: its functions, closed variables, cells and word variables. (This project's own.)
use Rattle.std.specs.Prelude.{ℕ, zero, suc, ◌+◌, max, Bool, false, not, ◌||◌, if◌then◌else◌, ◌==◌, List, [], ◌∷◌, ◌++◌, length, filter, flat_map, map, Option, Some, None}
use Rattle.std.specs.List.{list_all}
use Rattle.lisp_base.specs.declared.values.Place.{Place}
use Rattle.lisp_base.specs.declared.values.SymId.{SymId}
use Rattle.lisp_base.specs.declared.values.SymKind.TheVariants as symbol_kinds
use Rattle.lisp_base.specs.declared.values.Val.{Val}
use Rattle.lisp_base.specs.declared.values.Val.TheVariants.{Int, Char, Sym, Ref}
use Rattle.lisp_base.specs.Sort.{ConsObject, VectorObject, StringObject, FunctionObject, number_of, symbol, object, nil, truth}
use Rattle.lisp_base.specs.Spec.{Spec, Named, Integer, Signed, Unsigned, Mod, Member, Eql, And, Or, Not, Specs, no_spec, spec}
use Rattle.lisp_base.specs.Membership.{KindAt, SymbolKind, has}
use Rattle.core_form.specs.declared.tree.Variable.{Variable}
use Rattle.core_form.specs.declared.tree.Variable.TheVariants.{Lexical, Special}
use Rattle.core_form.specs.Tree.{Parameter, Core, Quote, Local, SetLocal, Global, SetGlobal, If, Progn, Let, Function, Labels, CallLocal, CallGlobal, Funcall, Apply, MvCall, FunLocal, FunGlobal, SetFun, Primitive, Is, The, Block, ReturnFrom, Tagbody, Go, Catch, Throw, Unwind, Values, MvProg1, Cores, no_core, core, Bindings, no_binding, binding, Optionals, no_optional, optional, Lambda, lambda, Definitions, no_definition, define, Items, no_item, tag, step, Top}
use Rattle.core_form.specs.Arithmetic.{arithmetic}

abbrev pub has_number : ℕ → List ℕ → Bool
has_number n [] = false
has_number n (m ∷ ms) = n == m || has_number n ms

abbrev pub lookup : {A : Type 0} → ℕ → List (ℕ × A) → Option A
lookup n [] = None
lookup n (e ∷ es) = if n == e.0 then Some e.1 else lookup n es

-- ---- one walk over the tree

-- a function as the text has it: its name, where it has one; the place of its form; what it does
pub record FunctionText : Type 0 where
  pub name : Option SymId
  pub place : Place
  pub lambda : Lambda

-- What g gives at each node and h at each function, each before its parts, the parts from left to right.
module _ {A : Type 0} (g : Core → List A) (h : FunctionText → List A) where
  unfoldable mutual
    pub gather : Core → List A
    gather (Quote p v) = g (Quote p v)
    gather (Local p x) = g (Local p x)
    gather (SetLocal p x e) = g (SetLocal p x e) ++ gather e
    gather (Global p s) = g (Global p s)
    gather (SetGlobal p s e) = g (SetGlobal p s e) ++ gather e
    gather (If p a b c) = g (If p a b c) ++ gather a ++ gather b ++ gather c
    gather (Progn p es) = g (Progn p es) ++ gather_all es
    gather (Let p bs e) = g (Let p bs e) ++ gather_bindings bs ++ gather e
    gather (Function p l) = g (Function p l) ++ gather_lambda None p l
    gather (Labels p ds e) = g (Labels p ds e) ++ gather_definitions ds ++ gather e
    gather (CallLocal p f es) = g (CallLocal p f es) ++ gather_all es
    gather (CallGlobal p s es) = g (CallGlobal p s es) ++ gather_all es
    gather (Funcall p e es) = g (Funcall p e es) ++ gather e ++ gather_all es
    gather (Apply p e es) = g (Apply p e es) ++ gather e ++ gather_all es
    gather (MvCall p e es) = g (MvCall p e es) ++ gather e ++ gather_all es
    gather (FunLocal p f) = g (FunLocal p f)
    gather (FunGlobal p s) = g (FunGlobal p s)
    gather (SetFun p s e) = g (SetFun p s e) ++ gather e
    gather (Primitive p q es) = g (Primitive p q es) ++ gather_all es
    gather (Is p t e) = g (Is p t e) ++ gather e
    gather (The p t e) = g (The p t e) ++ gather e
    gather (Block p b n e) = g (Block p b n e) ++ gather e
    gather (ReturnFrom p b e) = g (ReturnFrom p b e) ++ gather e
    gather (Tagbody p is) = g (Tagbody p is) ++ gather_items is
    gather (Go p t) = g (Go p t)
    gather (Catch p t e) = g (Catch p t e) ++ gather t ++ gather e
    gather (Throw p t e) = g (Throw p t e) ++ gather t ++ gather e
    gather (Unwind p e c) = g (Unwind p e c) ++ gather e ++ gather c
    gather (Values p es) = g (Values p es) ++ gather_all es
    gather (MvProg1 p e c) = g (MvProg1 p e c) ++ gather e ++ gather c

    pub gather_all : Cores → List A
    gather_all no_core = []
    gather_all (core e es) = gather e ++ gather_all es

    pub gather_bindings : Bindings → List A
    gather_bindings no_binding = []
    gather_bindings (binding x e bs) = gather e ++ gather_bindings bs

    pub gather_optionals : Optionals → List A
    gather_optionals no_optional = []
    gather_optionals (optional x e s os) = gather e ++ gather_optionals os

    pub gather_lambda : Option SymId → Place → Lambda → List A
    gather_lambda name p (lambda k xs os r e) =
        h (record { name = name; place = p; lambda = lambda k xs os r e }) ++ gather_optionals os ++ gather e

    pub gather_definitions : Definitions → List A
    gather_definitions no_definition = []
    gather_definitions (define p f n l ds) = gather_lambda (Some n) p l ++ gather_definitions ds

    pub gather_items : Items → List A
    gather_items no_item = []
    gather_items (tag t n is) = gather_items is
    gather_items (step e is) = gather e ++ gather_items is

abbrev pub no_function : {A : Type 0} → FunctionText → List A
no_function f = []

abbrev pub no_node : {A : Type 0} → Core → List A
no_node e = []

abbrev pub one_function : FunctionText → List FunctionText
one_function f = f ∷ []

-- what g gives at the nodes of a form; the functions of a form
abbrev pub at_nodes : {A : Type 0} → (Core → List A) → Core → List A
at_nodes g e = gather g no_function e

abbrev pub functions_in : Core → List FunctionText
functions_in e = gather no_node one_function e

-- ---- what a node has, binds, refers to and leaves

abbrev pub definitions_of : Definitions → List (ℕ × FunctionText)
definitions_of no_definition = []
definitions_of (define p f n l ds) = (f, record { name = Some n; place = p; lambda = l }) ∷ definitions_of ds

abbrev pub local_functions : Core → List (ℕ × FunctionText)
local_functions (Labels p ds e) = definitions_of ds
local_functions _ = []

-- a tagbody has the number of its first tag, or 0
abbrev pub tagbody_number : Items → ℕ
tagbody_number no_item = 0
tagbody_number (tag t n is) = t
tagbody_number (step e is) = tagbody_number is

-- the name of a block
abbrev pub block_names : Core → List (ℕ × Val)
block_names (Block p b n e) = (b, Sym n) ∷ []
block_names _ = []

-- a tag: the number of its tagbody, and its name
pub record TagText : Type 0 where
  pub tagbody : ℕ
  pub name : Val

abbrev pub item_tags : (tagbody : ℕ) → Items → List (ℕ × TagText)
item_tags n no_item = []
item_tags n (tag t v is) = (t, record { tagbody = n; name = v }) ∷ item_tags n is
item_tags n (step e is) = item_tags n is

abbrev pub tag_texts : Core → List (ℕ × TagText)
tag_texts (Tagbody p is) = item_tags (tagbody_number is) is
tag_texts _ = []

abbrev pub lexical_number : Variable → List ℕ
lexical_number (Lexical x n) = x ∷ []
lexical_number (Special s) = []

abbrev pub parameter_number : Parameter → List ℕ
parameter_number x = lexical_number x.variable

abbrev pub if_given : Option Parameter → List Parameter
if_given None = []
if_given (Some x) = x ∷ []

abbrev pub binding_parameters : Bindings → List Parameter
binding_parameters no_binding = []
binding_parameters (binding x e bs) = x ∷ binding_parameters bs

abbrev pub optional_parameters : Optionals → List Parameter
optional_parameters no_optional = []
optional_parameters (optional x e s os) = x ∷ (if_given s ++ optional_parameters os)

abbrev pub parameters_of : Lambda → List Parameter
parameters_of (lambda k xs os r e) = xs ++ optional_parameters os ++ if_given r

abbrev pub function_parameters : FunctionText → List Parameter
function_parameters f = parameters_of f.lambda

abbrev pub let_parameters : Core → List Parameter
let_parameters (Let p bs e) = binding_parameters bs
let_parameters _ = []

-- all variables of a form
abbrev pub parameters_in : Core → List Parameter
parameters_in e = gather let_parameters function_parameters e

-- the block or tagbody that a node is
abbrev pub extents : Core → List ℕ
extents (Block p b n e) = b ∷ []
extents (Tagbody p is) = tagbody_number is ∷ []
extents _ = []

abbrev pub variables_set : Core → List ℕ
variables_set (SetLocal p x e) = x ∷ []
variables_set _ = []

abbrev pub variables_read : Core → List ℕ
variables_read (Local p x) = x ∷ []
variables_read _ = []

abbrev pub functions_used : Core → List ℕ
functions_used (CallLocal p f es) = f ∷ []
functions_used (FunLocal p f) = f ∷ []
functions_used _ = []

-- with the tagbody of each tag at hand: the block or tagbody that a node leaves
abbrev pub tagbody_left : Option TagText → List ℕ
tagbody_left None = []
tagbody_left (Some t) = t.tagbody ∷ []

abbrev pub extents_left : List (ℕ × TagText) → Core → List ℕ
extents_left tags (ReturnFrom p b e) = b ∷ []
extents_left tags (Go p t) = tagbody_left (lookup t tags)
extents_left tags _ = []

-- ---- closed variables

abbrev pub union : List ℕ → List ℕ → List ℕ
union xs [] = xs
union xs (y ∷ ys) = if has_number y xs then union xs ys else union (xs ++ y ∷ []) ys

abbrev pub without : List ℕ → List ℕ → List ℕ
without xs ys = filter (λ x. not (has_number x ys)) xs

-- the tags and the local functions of a form, in which its closed variables are read
pub record Names : Type 0 where
  pub tags : List (ℕ × TagText)
  pub functions : List (ℕ × FunctionText)

abbrev pub referred : Names → Core → List ℕ
referred ns e = variables_read e ++ variables_set e ++ extents_left ns.tags e

abbrev pub in_function : {A : Type 0} → (Core → List A) → FunctionText → List A
in_function g f = gather_lambda g no_function f.name f.place f.lambda

-- what stands inside a function and is bound there, its own parameters included
abbrev pub inner : FunctionText → List ℕ
inner f =
    flat_map parameter_number (gather_lambda let_parameters function_parameters f.name f.place f.lambda) ++ in_function extents f

abbrev pub on_local : {A : Type 0} → (FunctionText → List A) → Option FunctionText → List A
on_local g None = []
on_local g (Some f) = g f

-- The lexical variables bound outside a function to which it refers, and the blocks and tagbodies outside it that it leaves:
-- itself, through the functions inside it, and through the local functions to which it refers, to a depth.
unfoldable pub closed_to : ℕ → Names → FunctionText → List ℕ
closed_to zero ns f = []
closed_to (suc n) ns f =
    without (union (union [] (in_function (referred ns) f)) (flat_map (λ k. on_local (closed_to n ns) (lookup k ns.functions)) (in_function functions_used f))) (inner f)

-- no chain of local functions without a repetition is longer than their number
abbrev pub closed_in : Names → FunctionText → List ℕ
closed_in ns f = closed_to (length ns.functions + 1) ns f

-- ---- types within the integers

-- Two values of one kind that a type does not name are alike to it. So a type is within the integers where none of these
-- is in it: a cons, a vector, a string, a function, the characters and symbols that it names, NIL, T, and a character and a
-- symbol of each kind that it does not name.
abbrev pub greatest_letter : List Val → ℕ
greatest_letter [] = 0
greatest_letter (Int z ∷ vs) = greatest_letter vs
greatest_letter (Char c ∷ vs) = max c (greatest_letter vs)
greatest_letter (Sym s ∷ vs) = greatest_letter vs
greatest_letter (Ref o ∷ vs) = greatest_letter vs

abbrev pub greatest_symbol : List Val → ℕ
greatest_symbol [] = 1
greatest_symbol (Int z ∷ vs) = greatest_symbol vs
greatest_symbol (Char c ∷ vs) = greatest_symbol vs
greatest_symbol (Sym s ∷ vs) = max (number_of s) (greatest_symbol vs)
greatest_symbol (Ref o ∷ vs) = greatest_symbol vs

abbrev mutual
  pub items_named : Spec → List Val
  items_named (Named name) = []
  items_named (Integer lo hi) = []
  items_named (Signed bits) = []
  items_named (Unsigned bits) = []
  items_named (Mod n) = []
  items_named (Member items) = items
  items_named (Eql item) = item ∷ []
  items_named (And ts) = all_items_named ts
  items_named (Or ts) = all_items_named ts
  items_named (Not t) = items_named t

  pub all_items_named : Specs → List Val
  all_items_named no_spec = []
  all_items_named (spec t ts) = items_named t ++ all_items_named ts

abbrev pub not_integer : Val → List Val
not_integer (Int z) = []
not_integer (Char c) = Char c ∷ []
not_integer (Sym s) = Sym s ∷ []
not_integer (Ref o) = []

abbrev pub sample_objects : KindAt
sample_objects n =
    if n == 0 then Some ConsObject else if n == 1 then Some VectorObject else if n == 2 then Some StringObject else if n == 3 then Some FunctionObject else None

-- above the symbols that are named there are three more, one of each kind
abbrev pub sample_symbols : (greatest : ℕ) → SymbolKind → SymbolKind
sample_symbols g kinds n =
    if n == g + 1 then Some symbol_kinds.Plain else if n == g + 2 then Some symbol_kinds.Keyword else if n == g + 3 then Some symbol_kinds.Fresh else kinds n

abbrev pub samples : List Val → List Val
samples named =
    let g = greatest_symbol named in
    Ref (object 0) ∷ Ref (object 1) ∷ Ref (object 2) ∷ Ref (object 3) ∷ Char (greatest_letter named + 1) ∷ nil ∷ truth ∷ Sym (symbol (g + 1)) ∷ Sym (symbol (g + 2)) ∷ Sym (symbol (g + 3)) ∷ flat_map not_integer named

abbrev pub is_within_integers : SymbolKind → Spec → Bool
is_within_integers kinds t =
    let named = items_named t in
    list_all (λ v. not (has sample_objects (sample_symbols (greatest_symbol named) kinds) t v)) (samples named)

abbrev pub together : List Spec → Specs
together [] = no_spec
together (t ∷ ts) = spec t (together ts)

-- ---- word variables

-- The variables that are bound by this parameter and whose types, all together, are within the integers.
abbrev pub declared_integer : SymbolKind → Parameter → List ℕ
declared_integer kinds x = if is_within_integers kinds (And (together x.types)) then parameter_number x else []

-- the variable to which a form refers, under any number of THE
abbrev pub variable_under : Core → List ℕ
variable_under (Local p x) = x ∷ []
variable_under (The p t e) = variable_under e
variable_under _ = []

abbrev pub variables_under : Cores → List ℕ
variables_under no_core = []
variables_under (core e es) = variable_under e ++ variables_under es

-- the references that a node takes as words, where these are the word variables
abbrev pub taken_as_words : List ℕ → Core → List ℕ
taken_as_words words (Primitive p q es) = if arithmetic q then variables_under es else []
taken_as_words words (SetLocal p x e) = if has_number x words then variable_under e else []
taken_as_words words _ = []

abbrev pub times_in : ℕ → List ℕ → ℕ
times_in n ms = length (filter (λ m. n == m) ms)

-- those of these variables of which each reference is taken as a word
abbrev pub narrowed : Core → List ℕ → List ℕ
narrowed e words =
    filter (λ x. times_in x (at_nodes variables_read e) == times_in x (at_nodes (taken_as_words words) e)) words

abbrev pub repeat : {A : Type 0} → ℕ → (A → A) → A → A
repeat zero f a = a
repeat (suc n) f a = repeat n f (f a)

-- The largest set of lexical variables that are declared integers, that no function closes over, and of which each
-- reference is taken as a word: each narrowing that changes the set takes a variable away.
unfoldable pub word_variables : SymbolKind → (closed : List ℕ) → Core → List ℕ
word_variables kinds closed e =
    let declared = without (flat_map (declared_integer kinds) (parameters_in e)) closed in
    repeat (length declared) (narrowed e) declared

-- ---- the facts of a top-level form

pub record Facts : Type 0 where
  pub nodes : ℕ
  -- the number of its first function among those of the program
  pub start : ℕ
  pub names : Names
  pub blocks : List (ℕ × Val)
  -- its blocks and tagbodies
  pub extents : List ℕ
  -- Variables that are closed over and set, and blocks and tagbodies that an inner function leaves, have a cell.
  pub cells : List ℕ
  pub words : List ℕ

abbrev pub names_in : Core → Names
names_in e = record { tags = at_nodes tag_texts e; functions = at_nodes local_functions e }

abbrev pub closed_somewhere : Core → List ℕ
closed_somewhere e = union [] (flat_map (closed_in (names_in e)) (functions_in e))

abbrev pub changed_somewhere : Core → List ℕ
changed_somewhere e = at_nodes variables_set e ++ at_nodes (extents_left (at_nodes tag_texts e)) e

unfoldable pub facts_of : SymbolKind → (start : ℕ) → Top → Facts
facts_of kinds k t =
    let closed = closed_somewhere t.core in
    record {
      nodes = t.nodes;
      start = k;
      names = names_in t.core;
      blocks = at_nodes block_names t.core;
      extents = at_nodes extents t.core;
      cells = filter (λ x. has_number x (changed_somewhere t.core)) closed;
      words = word_variables kinds closed t.core;
    }

abbrev pub closed_of : Facts → FunctionText → List ℕ
closed_of facts f = closed_in facts.names f

-- ---- the functions of a program, by their numbers

-- a function with the facts of its top-level form
pub record Code : Type 0 where
  pub facts : Facts
  pub text : FunctionText

unfoldable pub function_table : SymbolKind → (start : ℕ) → List Top → List Code
function_table kinds k [] = []
function_table kinds k (t ∷ ts) =
    map (λ f. record { facts = facts_of kinds k t; text = f }) (functions_in t.core) ++ function_table kinds (k + length (functions_in t.core)) ts

abbrev pub functions_count : List Top → ℕ
functions_count [] = 0
functions_count (t ∷ ts) = length (functions_in t.core) + functions_count ts

-- the symbol to which a form of the prelude gives a function
abbrev pub function_given : Core → List SymId
function_given (SetFun p s e) = s ∷ []
function_given (Progn p (core (SetFun q s e) es)) = s ∷ []
function_given _ = []

-- the functions of the prelude: each symbol with the number of its function, the first of its form
abbrev pub prelude_functions : (start : ℕ) → List Top → List (SymId × ℕ)
prelude_functions k [] = []
prelude_functions k (t ∷ ts) = map (λ s. (s, k)) (function_given t.core) ++ prelude_functions (k + length (functions_in t.core)) ts
