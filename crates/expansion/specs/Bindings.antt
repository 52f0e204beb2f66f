-- Which declarations go with which binding, and the sketches of LET, LET*, LOCALLY and of functions (ANSI Common Lisp 3.3.4, 3.4.1).
use Rattle.std.specs.Prelude.{Bool, false, not, if◌then◌else◌, List, [], ◌∷◌, ◌++◌, map, Option, Some, None, filter}
use Rattle.std.specs.List.{list_any}
use Rattle.std.specs.Option.{option_map}
use Rattle.lisp_base.specs.declared.values.SymId.{SymId}
use Rattle.lisp_base.specs.declared.values.Val.{Val}
use Rattle.lisp_base.specs.Spec.{Spec}
use Rattle.lisp_base.specs.Tables.{Table, Object, made_fresh}
use Rattle.lisp_forms.specs.Conses.{elements}
use Rattle.declarations.specs.Bodies.{Body, body_of}
use Rattle.declarations.specs.Declarations.{Typed, Declared, Reading, declared, bad_form, bad_type, bad_policy, make_declared, read_declarations}
use Rattle.lambda_lists.specs.LambdaLists.{Default, LambdaList, lambda_list, KeyForms, key_forms}
use Rattle.expansion.specs.declared.kind.ExpandKind.TheVariants.{BadForm, BadType, BadPolicy, TooManySymbols}
use Rattle.expansion.specs.Scopes.{Scope, same_symbol}
use Rattle.expansion.specs.Steps.{World, gives, Step, ◌>>=◌, pure, refuse, expect, look}
use Rattle.expansion.specs.Sketches.{Binder, Initial, Optional', Sketch, form, choice, bind, block, within, Function, function_of, body}

-- ---- declarations and bindings

abbrev pub is_among : List SymId → SymId → Bool
is_among ss s = list_any (same_symbol s) ss

abbrev pub types_of : SymId → List Typed → List Spec
types_of s ds = map (λ d. d.spec) (filter (λ d. same_symbol s d.variable) ds)

abbrev pub binder : SymId → List Spec → Bool → Binder
binder s types special = record { variable = s; types = types; special = special }

-- a variable with what is declared of it
abbrev pub bound_by : Declared → SymId → Binder
bound_by d s = binder s (types_of s d.types) (is_among d.specials s)

-- a variable that a later one of the same name follows: the declarations go with that one
abbrev pub undeclared : SymId → Binder
undeclared s = binder s [] false

abbrev pub bound_before : List SymId → Declared → SymId → Binder
bound_before later d s = if is_among later s then undeclared s else bound_by d s

-- the declarations of variables other than these
abbrev pub others : List SymId → Declared → Declared
others bound d = make_declared (filter (λ t. not (is_among bound t.variable)) d.types) (filter (λ s. not (is_among bound s)) d.specials) d.policy

-- ---- bodies

-- a body's declarations and forms
pub record Contents : Type 0 where
  pub declared : Declared
  pub forms : List Val

abbrev pub contents : List Val → Declared → Contents
contents forms d = record { declared = d; forms = forms }

unfoldable pub declared_or : Scope → Reading → Step Declared
declared_or sc (declared d) = pure d
declared_or sc bad_form = refuse BadForm sc
declared_or sc bad_type = refuse BadType sc
declared_or sc bad_policy = refuse BadPolicy sc

unfoldable pub read_body : Scope → Body → Step Contents
read_body sc b =
    look (λ w. read_declarations w.heap w.table sc.policy b.declarations) >>= declared_or sc >>= λ d. pure (contents b.forms d)

-- the declarations of a body are read by the table and the heap as they are
unfoldable pub contents_of : Scope → List Val → Step Contents
contents_of sc vs = look (λ w. body_of w.heap vs) >>= read_body sc

-- ---- LET and LET*

abbrev pub initial : Binder → Val → Initial
initial b v = record { binder = b; value = v }

abbrev pub names : List (SymId × Val) → List SymId
names bs = map (λ (p : SymId × Val). p.0) bs

abbrev pub initials : Declared → List (SymId × Val) → List Initial
initials d bs = map (λ (p : SymId × Val). initial (bound_by d p.0) p.1) bs

-- bindings side by side, round a body within the other declarations
unfoldable pub let_sketch : Declared → List (SymId × Val) → Sketch → Sketch
let_sketch d bs x = bind (initials d bs) (within (others (names bs) d) x)

-- bindings one inside the other, each declaration with the last binding of its variable
abbrev pub nested : Declared → List (SymId × Val) → Sketch → Sketch
nested d [] x = x
nested d (p ∷ bs) x = bind (initial (bound_before (names bs) d p.0) p.1 ∷ []) (nested d bs x)

-- LET* without variables binds none
unfoldable pub let_in_order : Declared → List (SymId × Val) → Sketch → Sketch
let_in_order d [] x = bind [] x
let_in_order d (p ∷ bs) x = nested d (p ∷ bs) x

-- ---- functions

abbrev pub if_supplied : Option SymId → List SymId
if_supplied None = []
if_supplied (Some s) = s ∷ []

abbrev pub optional_names : List Default → List SymId
optional_names [] = []
optional_names (o ∷ os) = o.variable ∷ if_supplied o.supplied ++ optional_names os

-- the variables that the function itself binds
abbrev pub parameter_names : LambdaList → Option SymId → List SymId
parameter_names l rest = l.required ++ optional_names l.optional ++ if_supplied rest

abbrev pub optional_by : List SymId → Declared → Default → Optional'
optional_by later d o = record {
  binder = bound_before later d o.variable;
  default = o.value;
  supplied = option_map (bound_before later d) o.supplied;
}

-- a function of these parameters, of which later bindings in the body may take the declarations
abbrev pub parameters_round : LambdaList → Option SymId → (later : List SymId) → Declared → Sketch → Function
parameters_round l rest later d x =
    function_of (map (bound_before later d) l.required) (map (optional_by later d) l.optional) (option_map (bound_before later d) rest) x

-- the block of a function with a name
abbrev pub in_block : Option SymId → Sketch → Sketch
in_block None x = x
in_block (Some s) x = block s x

-- the body within the declarations that no binding takes
abbrev pub body_within : (bound : List SymId) → Option SymId → Contents → Sketch
body_within bound name c = within (others bound c.declared) (in_block name (body c.forms))

-- without &KEY the &AUX bindings stand round the body
unfoldable pub plain_function : LambdaList → Option SymId → Contents → Function
plain_function l name c =
    parameters_round l l.rest (names l.auxiliary) c.declared
    (nested c.declared l.auxiliary (body_within (parameter_names l l.rest ++ names l.auxiliary) name c))

-- with &KEY the bindings of the keys stand before them, where the rest of the arguments is a list of these keys; else it is refused
unfoldable pub keyed_function : LambdaList → SymId → Option SymId → Contents → KeyForms → Function
keyed_function l rest name c k =
    parameters_round l (Some rest) (names (k.bindings ++ l.auxiliary)) c.declared
    (choice
    (form k.test)
    (let_in_order c.declared (k.bindings ++ l.auxiliary) (body_within (parameter_names l (Some rest) ++ names (k.bindings ++ l.auxiliary)) name c))
    (form k.refusal))

abbrev pub with_table : Table → World → World
with_table table w = record w { table = table }

abbrev pub with_stores : Table → List Object → World → World
with_stores table heap w = record w { table = table; heap = heap }

-- a fresh symbol, where there is room
unfoldable pub fresh_by : Scope → Option (SymId × Table) → Step SymId
fresh_by sc None = refuse TooManySymbols sc
fresh_by sc (Some made) = λ w. gives made.0 (with_table made.1 w)

unfoldable pub fresh_symbol : Scope → Step SymId
fresh_symbol sc = λ w. fresh_by sc (made_fresh w.table) w

-- the variable of the rest of the arguments: its own, or a fresh one
unfoldable pub rest_or_fresh : Scope → Option SymId → Step SymId
rest_or_fresh sc None = fresh_symbol sc
rest_or_fresh sc (Some s) = pure s

unfoldable pub keys_by : Scope → Option (KeyForms × Table × List Object) → Step KeyForms
keys_by sc None = refuse TooManySymbols sc
keys_by sc (Some made) = λ w. gives made.0 (with_stores made.1 made.2 w)

unfoldable pub make_keys : Scope → SymId → List Default → Step KeyForms
make_keys sc rest ks = λ w. keys_by sc (key_forms rest ks w.table w.heap) w

unfoldable pub with_keys : Scope → LambdaList → Option SymId → Contents → Option (List Default) → Step Function
with_keys sc l name c None = pure (plain_function l name c)
with_keys sc l name c (Some ks) =
    rest_or_fresh sc l.rest >>= λ rest. make_keys sc rest ks >>= λ k. pure (keyed_function l rest name c k)

-- a lambda list and a body: the function's shape first, then its declarations, then its fresh symbols
unfoldable pub function_with : Scope → Option SymId → List Val → LambdaList → Step Function
function_with sc name vs l = contents_of sc vs >>= λ c. with_keys sc l name c l.keys

unfoldable pub function_from : Scope → Option SymId → List Val → Step Function
function_from sc name [] = refuse BadForm sc
function_from sc name (l ∷ vs) = look (λ w. lambda_list w.heap w.table l) >>= expect sc >>= function_with sc name vs

-- the function of a list that begins with its lambda list, whose body is a block of this name, if any
unfoldable pub function_sketch : Scope → Option SymId → Val → Step Function
function_sketch sc name v = look (λ w. elements w.heap v) >>= expect sc >>= function_from sc name
