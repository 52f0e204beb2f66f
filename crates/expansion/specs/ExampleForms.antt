-- Words for examples: a few symbols, forms as trees, and the nodes that they expand to (this project's own).
use Rattle.std.specs.Prelude.{◌≡◌, ℕ, suc, pos, Bool, false, true, List, [], ◌∷◌, ◌++◌, length, map, codes, Option, Some, None, Result, Ok, Err}
use Rattle.lisp_base.specs.declared.base_symbols.TheConstants as at
use Rattle.lisp_base.specs.declared.primitives.Primitive.{Primitive as Operation}
use Rattle.lisp_base.specs.declared.types.TypeName.TheVariants as name
use Rattle.lisp_base.specs.declared.values.Place.{Place}
use Rattle.lisp_base.specs.declared.values.Place.TheVariants.{File}
use Rattle.lisp_base.specs.declared.values.SymId.{SymId}
use Rattle.lisp_base.specs.declared.values.SymKind.TheVariants as kind
use Rattle.lisp_base.specs.declared.values.Val.{Val}
use Rattle.lisp_base.specs.declared.values.Val.TheVariants.{Int, Sym}
use Rattle.lisp_base.specs.Sort.{nil, symbol}
use Rattle.lisp_base.specs.Spec.{Spec, Named}
use Rattle.lisp_base.specs.Tables.{Table, Symbol, Object, Cons, Vector, Str, Fun, Cell, make_symbol, make_table, base_symbols, base_symbol}
use Rattle.lisp_forms.specs.Trees.{Tree, form, list}
use Rattle.lisp_forms.specs.Building.{built}
use Rattle.declarations.specs.declared.policy.Policy.{Policy}
use Rattle.declarations.specs.Declarations.{Typed}
use Rattle.core_form.specs.declared.tree.Variable.TheVariants.{Lexical, Special}
use Rattle.core_form.specs.Tree.{Core, Cores, no_core, core, Quote, Local, SetLocal, Global, SetGlobal, If, Progn, Let, Function, Labels, CallLocal, CallGlobal, Funcall, MvCall, Primitive, Is, The, Block, ReturnFrom, Tagbody, Go, no_binding, binding, no_optional, Lambda, lambda, Definitions, define, Items, Parameter}
use Rattle.expansion.specs.declared.kind.ExpandKind.{ExpandKind}
use Rattle.expansion.specs.Scopes.{empty_scope}
use Rattle.expansion.specs.Steps.{World, Answer, gives, refused, most_chain}
use Rattle.expansion.specs.Expanding.{most_fuel, expand, tree_of}

-- ---- symbols after those that every table begins with

abbrev pub further_symbols : List Symbol
further_symbols =
    make_symbol (codes "X") kind.Plain ∷ make_symbol (codes "Y") kind.Plain ∷ make_symbol (codes "F") kind.Plain ∷ make_symbol (codes "G") kind.Plain ∷ make_symbol (codes "R") kind.Plain ∷ make_symbol (codes "S") kind.Plain ∷ make_symbol (codes "K") kind.Plain ∷ make_symbol (codes "*V*") kind.Plain ∷ make_symbol (codes "FOO") kind.Plain ∷ make_symbol (codes "K") kind.Keyword ∷ []

abbrev pub x : SymId
x = symbol 314

abbrev pub y : SymId
y = symbol 315

abbrev pub f : SymId
f = symbol 316

abbrev pub g : SymId
g = symbol 317

abbrev pub r : SymId
r = symbol 318

abbrev pub s : SymId
s = symbol 319

abbrev pub k : SymId
k = symbol 320

abbrev pub v : SymId
v = symbol 321

abbrev pub foo : SymId
foo = symbol 322

abbrev pub keyword_k : SymId
keyword_k = symbol 323

-- the first uninterned symbols
abbrev pub fresh_1 : SymId
fresh_1 = symbol 324

abbrev pub fresh_2 : SymId
fresh_2 = symbol 325

abbrev pub fresh_3 : SymId
fresh_3 = symbol 326

abbrev pub table : Table
table = make_table (base_symbols ++ further_symbols) 0

abbrev pub fixnum_symbol : SymId
fixnum_symbol = base_symbol (codes "FIXNUM")

-- the numbers above are those of the table
abbrev pub FurtherSymbolsFollow : Type 0
FurtherSymbolsFollow = length base_symbols ≡ 314

-- ---- forms

abbrev pub word : SymId → Tree
word n = form (Sym n)

abbrev pub number : ℕ → Tree
number n = form (Int (pos n))

-- (F X*)
abbrev pub call : SymId → List Tree → Tree
call n ts = list (word n ∷ ts)

-- (X*), of symbols alone
abbrev pub words : List SymId → Tree
words ns = list (map word ns)

-- (DECLARE (FIXNUM X))
abbrev pub declare_fixnum : SymId → Tree
declare_fixnum n = call at.DECLARE (words (fixnum_symbol ∷ n ∷ []) ∷ [])

-- (LET ((X E)) T*)
abbrev pub let_form : SymId → Tree → List Tree → Tree
let_form n t ts = call at.LET (list (call n (t ∷ []) ∷ []) ∷ ts)

-- #'(LAMBDA LIST T*)
abbrev pub lambda_form : (lambda_list : Tree) → List Tree → Tree
lambda_form l ts = call at.FUNCTION (call at.LAMBDA (l ∷ ts) ∷ [])

-- 'X
abbrev pub quote_form : Tree → Tree
quote_form t = call at.QUOTE (t ∷ [])

-- ---- expansion of a form at the top of a file

abbrev pub place : ℕ → Place
place n = File n 0

abbrev pub policy : Policy
policy = record { speed = 1; safety = 1 }

-- a world before a form
abbrev pub world : List Object → World
world heap =
    record { table = table; heap = heap; specials = []; declaimed = []; policy = policy; next = 1; functions = 0; nodes = 0 }

abbrev pub tree_or_refusal : Answer Core → Result Core (ExpandKind × Place)
tree_or_refusal (gives e w) = Ok e
tree_or_refusal (refused kind p) = Err (kind, p)

abbrev pub answer_in : (is_fixed : Bool) → Place → Val × List Object → Answer Core
answer_in is_fixed p made = tree_of most_chain (empty_scope p is_fixed policy) made.0 (world made.1)

abbrev pub expanded_in : Place → Val × List Object → Result Core (ExpandKind × Place)
expanded_in p made = tree_or_refusal (answer_in false p made)

-- no cons has a place, so all nodes have that of the whole
abbrev pub Gives : Tree → Core → Type 0
Gives t e = expanded_in (place 0) (built [] nil t []) ≡ Ok e

-- a form that may hold these objects
abbrev pub GivesFrom : List Object → Tree → Core → Type 0
GivesFrom heap t e = expanded_in (place 0) (built [] nil t heap) ≡ Ok e

abbrev pub IsRefusedFrom : List Object → Tree → ExpandKind → Type 0
IsRefusedFrom heap t kind = expanded_in (place 0) (built [] nil t heap) ≡ Err (kind, place 0)

-- Here the place of a cons is its number. Conses are made in the order of their closing parentheses, and of one list the last cons first:
-- so that of a form is the number of elements of this list and of all lists closed before it, less one.
abbrev pub numbered : ℕ → List Object → List Object
numbered n [] = []
numbered n (Cons car cdr p ∷ os) = Cons car cdr (Some (place n)) ∷ numbered (suc n) os
numbered n (Vector items ∷ os) = Vector items ∷ numbered (suc n) os
numbered n (Str letters ∷ os) = Str letters ∷ numbered (suc n) os
numbered n (Fun l cells ∷ os) = Fun l cells ∷ numbered (suc n) os
numbered n (Cell c ∷ os) = Cell c ∷ numbered (suc n) os

abbrev pub with_places : Val × List Object → Val × List Object
with_places made = (made.0, numbered 0 made.1)

abbrev pub placed : Tree → Result Core (ExpandKind × Place)
placed t = expanded_in (place 1000) (with_places (built [] nil t []))

abbrev pub GivesPlaced : Tree → Core → Type 0
GivesPlaced t e = placed t ≡ Ok e

abbrev pub IsRefused : Tree → ExpandKind → ℕ → Type 0
IsRefused t kind n = placed t ≡ Err (kind, place n)

-- in a function of the prelude, where all places are one
abbrev pub GivesFixed : Tree → Core → Type 0
GivesFixed t e = tree_or_refusal (answer_in true (place 0) (with_places (built [] nil t []))) ≡ Ok e

-- the nodes of a form, the next number and the next function after it, and what it has made known
abbrev pub counters : Answer Core → Option (ℕ × ℕ × ℕ)
counters (gives e w) = Some (w.nodes, w.next, w.functions)
counters (refused kind p) = None

abbrev pub known : Answer Core → Option (List SymId × List Typed × Policy)
known (gives e w) = Some (w.specials, w.declaimed, w.policy)
known (refused kind p) = None

abbrev pub Counts : Tree → (nodes next functions : ℕ) → Type 0
Counts t nodes next functions = counters (answer_in false (place 0) (built [] nil t [])) ≡ Some (nodes, next, functions)

abbrev pub Leaves : Tree → List SymId → List Typed → Policy → Type 0
Leaves t specials declaimed p = known (answer_in false (place 0) (built [] nil t [])) ≡ Some (specials, declaimed, p)

abbrev pub make_policy : (speed safety : ℕ) → Policy
make_policy speed safety = record { speed = speed; safety = safety }

-- within limits: so many nodes so far, so many levels left, and so many forms without a node that may follow
abbrev pub limited_in : (nodes levels chain : ℕ) → Val × List Object → Result Core (ExpandKind × Place)
limited_in nodes levels chain made =
    tree_or_refusal (expand most_fuel levels chain (empty_scope (place 1000) false policy) made.0 (record (world made.1) { nodes = nodes }))

abbrev pub limited : (nodes levels chain : ℕ) → Tree → Result Core (ExpandKind × Place)
limited nodes levels chain t = limited_in nodes levels chain (with_places (built [] nil t []))

abbrev pub GivesLimited : (nodes levels chain : ℕ) → Tree → Core → Type 0
GivesLimited nodes levels chain t e = limited nodes levels chain t ≡ Ok e

abbrev pub IsLimited : (nodes levels chain : ℕ) → Tree → ExpandKind → ℕ → Type 0
IsLimited nodes levels chain t kind n = limited nodes levels chain t ≡ Err (kind, place n)

-- ---- nodes at place 0

abbrev pub quoted : Val → Core
quoted c = Quote (place 0) c

abbrev pub int : ℕ → Core
int n = quoted (Int (pos n))

abbrev pub null : Core
null = quoted nil

abbrev pub local : ℕ → Core
local n = Local (place 0) n

abbrev pub global : SymId → Core
global n = Global (place 0) n

abbrev pub fixnum : Spec
fixnum = Named name.Fixnum

abbrev pub the_fixnum : Core → Core
the_fixnum e = The (place 0) fixnum e

abbrev pub cores : List Core → Cores
cores [] = no_core
cores (e ∷ es) = core e (cores es)

abbrev pub progn : List Core → Core
progn es = Progn (place 0) (cores es)

abbrev pub if_node : (test yes no : Core) → Core
if_node a b c = If (place 0) a b c

abbrev pub primitive : Operation → List Core → Core
primitive q es = Primitive (place 0) q (cores es)

abbrev pub call_global : SymId → List Core → Core
call_global n es = CallGlobal (place 0) n (cores es)

abbrev pub variable : ℕ → SymId → Parameter
variable n name = record { variable = Lexical n name; types = [] }

abbrev pub fixnum_variable : ℕ → SymId → Parameter
fixnum_variable n name = record { variable = Lexical n name; types = fixnum ∷ [] }

abbrev pub special_variable : SymId → Parameter
special_variable name = record { variable = Special name; types = [] }

abbrev pub let_node : Parameter → Core → Core → Core
let_node p e body = Let (place 0) (binding p e no_binding) body

abbrev pub let_two : Parameter → Core → Parameter → Core → Core → Core
let_two p d q e body = Let (place 0) (binding p d (binding q e no_binding)) body

abbrev pub function : Lambda → Core
function l = Function (place 0) l

-- a function with required parameters alone
abbrev pub required : ℕ → List Parameter → Core → Lambda
required number ps body = lambda number ps no_optional None body

abbrev pub set_local : ℕ → Core → Core
set_local n e = SetLocal (place 0) n e

abbrev pub set_global : SymId → Core → Core
set_global n e = SetGlobal (place 0) n e

abbrev pub is_node : Spec → Core → Core
is_node t e = Is (place 0) t e

abbrev pub the_node : Spec → Core → Core
the_node t e = The (place 0) t e

abbrev pub labels : Definitions → Core → Core
labels ds body = Labels (place 0) ds body

abbrev pub define_function : ℕ → SymId → Lambda → Definitions → Definitions
define_function n name l ds = define (place 0) n name l ds

abbrev pub call_local : ℕ → List Core → Core
call_local n es = CallLocal (place 0) n (cores es)

abbrev pub funcall : Core → List Core → Core
funcall e es = Funcall (place 0) e (cores es)

abbrev pub call_with_values : Core → List Core → Core
call_with_values e es = MvCall (place 0) e (cores es)

abbrev pub block : ℕ → SymId → Core → Core
block n name e = Block (place 0) n name e

abbrev pub return_from : ℕ → Core → Core
return_from n e = ReturnFrom (place 0) n e

abbrev pub tagbody : Items → Core
tagbody is = Tagbody (place 0) is

abbrev pub go : ℕ → Core
go n = Go (place 0) n

-- ---- nodes at other places

abbrev pub int_at : ℕ → ℕ → Core
int_at p n = Quote (place p) (Int (pos n))

abbrev pub call_at : ℕ → SymId → List Core → Core
call_at p n es = CallGlobal (place p) n (cores es)
