-- What is to be done with a form: constants, variables, special operators, macros and calls (ANSI Common Lisp 3.1.2.1 and the entries of the
-- operators).
use Rattle.std.specs.Prelude.{ℕ, Bool, true, false, ◌&&◌, ◌||◌, not, ◌==◌, nat_lt, nat_le, if◌then◌else◌, List, [], ◌∷◌, ◌++◌, length, codes, slice_get, Option, Some, None}
use Rattle.std.specs.Option.{option_map, option_and_then}
use Rattle.std.specs.Str.{bytes_eq}
use Rattle.lisp_base.specs.declared.base_symbols.TheConstants as at
use Rattle.lisp_base.specs.declared.primitives.Primitive.TheVariants as q
use Rattle.lisp_base.specs.declared.values.SymId.{SymId}
use Rattle.lisp_base.specs.declared.values.Val.{Val}
use Rattle.lisp_base.specs.declared.values.Val.TheVariants.{Int, Char, Sym, Ref}
use Rattle.lisp_base.specs.Kinds.{symbol_kinds_of}
use Rattle.lisp_base.specs.Membership.{is_keyword, is_symbol_number}
use Rattle.lisp_base.specs.Sort.{nil, number_of, index_of}
use Rattle.lisp_base.specs.Spec.{Spec}
use Rattle.lisp_base.specs.Tables.{Table, Symbol, Object, Cons, Vector, Str, Fun, Cell}
use Rattle.lisp_forms.specs.Conses.{cons_at, elements}
use Rattle.type_spec.specs.Parsing.{specifier}
use Rattle.declarations.specs.Bodies.{is_string}
use Rattle.declarations.specs.Declarations.{Typed, Declared, read_specifiers}
use Rattle.lambda_lists.specs.LambdaLists.{Default, LambdaList, lambda_list}
use Rattle.std_macros.specs.declared.macros.Macro.{Macro}
use Rattle.std_macros.specs.Expanding.{Expanded, gives as makes_form, bad, full, expanded_form, macro_of_form}
use Rattle.core_form.specs.Primitives.{most_values}
use Rattle.expansion.specs.declared.kind.ExpandKind.TheVariants.{BadForm, BadType, UnknownOperator, TooManySymbols}
use Rattle.expansion.specs.declared.operator.Operator.{Operator}
use Rattle.expansion.specs.declared.operator.Operator.TheVariants as op
use Rattle.expansion.specs.declared.heads.Target.{Target}
use Rattle.expansion.specs.declared.heads.Target.TheVariants.{Lexical, Global}
use Rattle.expansion.specs.declared.heads.Leaf.TheVariants.{LocalVariable, GlobalVariable, LocalFunction, GlobalFunction, GoTo}
use Rattle.expansion.specs.declared.heads.Binary.TheVariants.{Catching, Throwing, Unwinding, KeepingValues}
use Rattle.expansion.specs.declared.heads.Many.TheVariants.{Sequence, GivingValues}
use Rattle.expansion.specs.declared.heads.Calling.TheVariants.{Funcalling, Applying, CallingWithValues}
use Rattle.expansion.specs.declared.heads.Reach.{Reach}
use Rattle.expansion.specs.declared.heads.Reach.TheVariants.{ForBody, ForAll}
use Rattle.expansion.specs.Operators.{operator_of, is_left_out, is_reserved}
use Rattle.expansion.specs.Scopes.{Scope, variable_at, function_at, block_at, tag_at, types_set, types_used}
use Rattle.expansion.specs.Steps.{World, gives, Step, ◌>>=◌, ◌>>◌, pure, refuse, expect, only_if, given_or, look, change}
use Rattle.expansion.specs.Sketches.{Sketch, form, leaf, one, two, choice, many, calling, assign, function, functions, recursive, block, tagbody, within, Function, sketches, forms, constant, progn, body, primitive, checked, Plan, instead, declared_around, makes, SettingLocal, SettingGlobal, SettingFunction, Testing, Checking, Returning}
use Rattle.expansion.specs.Bindings.{types_of, contents_of, let_sketch, let_in_order, others, names, function_sketch, declared_or, with_stores}
use Rattle.expansion.specs.Calls.{global_call, calls_local, few}

-- ---- values as forms

abbrev pub is_constant_symbol : Table → SymId → Bool
is_constant_symbol table s = nat_lt (number_of s) 2 || is_keyword (symbol_kinds_of table) (Sym s)

-- a variable's symbol: not T, NIL or a keyword
abbrev pub symbol_in : Val → Option SymId
symbol_in (Int z) = None
symbol_in (Char c) = None
symbol_in (Sym s) = Some s
symbol_in (Ref o) = None

abbrev pub unless_constant : Table → SymId → Option SymId
unless_constant table s = if is_constant_symbol table s then None else Some s

abbrev pub variable_in : Table → Val → Option SymId
variable_in table v = option_and_then (unless_constant table) (symbol_in v)

unfoldable pub makes_node : Sketch → Step Plan
makes_node x = pure (makes x)

-- ---- variables

abbrev pub reference : Target → Sketch
reference (Lexical n) = leaf (LocalVariable n)
reference (Global s) = leaf (GlobalVariable s)

abbrev pub use_of : Scope → Target → Sketch
use_of sc t = checked (types_used sc t) (reference t)

abbrev pub setting : Target → Sketch → Sketch
setting (Lexical n) x = one (SettingLocal n) x
setting (Global s) x = one (SettingGlobal s) x

-- the types that have been proclaimed of a variable in the file
abbrev pub proclaimed : List Typed → SymId → List Spec
proclaimed ds s = types_of s ds

-- a variable takes a value, with its checks
abbrev pub set_target : Scope → Target → SymId → Sketch → World → Sketch
set_target sc t s x w = setting t (checked (proclaimed w.declaimed s ++ types_set sc t) x)

unfoldable pub set_variable : Scope → SymId → Val → World → Sketch
set_variable sc s v w = set_target sc (variable_at sc s) s (form v) w

-- ---- operators by their arguments

unfoldable pub quote_plan : Scope → List Val → Step Plan
quote_plan sc (v ∷ []) = makes_node (constant v)
quote_plan sc _ = refuse BadForm sc

-- the list after LAMBDA
abbrev pub lambda_in : List Object → Val → Option Val
lambda_in heap v = option_and_then (λ p. if is_symbol_number (number_of at.LAMBDA) p.0 then Some p.1 else None) (cons_at heap v)

abbrev pub named_function : Option ℕ → SymId → Sketch
named_function None s = leaf (GlobalFunction s)
named_function (Some f) s = leaf (LocalFunction f)

unfoldable pub lambda_plan : Scope → Option Val → Step Plan
lambda_plan sc None = refuse BadForm sc
lambda_plan sc (Some v) = function_sketch sc None v >>= λ f. makes_node (function f)

unfoldable pub function_plan : Scope → List Val → Step Plan
function_plan sc (Sym s ∷ []) = makes_node (named_function (function_at sc s) s)
function_plan sc (Ref o ∷ []) = look (λ w. lambda_in w.heap (Ref o)) >>= lambda_plan sc
function_plan sc _ = refuse BadForm sc

-- pairs of variables and forms
abbrev pub settings : Table → List Val → Option (List Sketch)
settings table [] = Some []
settings table (v ∷ []) = None
settings table (v ∷ e ∷ others) = option_and_then (λ s. option_map (λ xs. assign s e ∷ xs) (settings table others)) (variable_in table v)

unfoldable pub setq_plan : Scope → List Val → Step Plan
setq_plan sc vs = look (λ w. settings w.table vs) >>= expect sc >>= λ xs. makes_node (progn xs)

unfoldable pub if_plan : Scope → List Val → Step Plan
if_plan sc (a ∷ b ∷ []) = makes_node (choice (form a) (form b) (constant nil))
if_plan sc (a ∷ b ∷ c ∷ []) = makes_node (choice (form a) (form b) (form c))
if_plan sc _ = refuse BadForm sc

-- one form stands for itself
unfoldable pub progn_plan : Scope → List Val → Step Plan
progn_plan sc [] = makes_node (body [])
progn_plan sc (v ∷ []) = pure (instead v)
progn_plan sc (v ∷ x ∷ xs) = makes_node (body (v ∷ x ∷ xs))

-- V, (V), (V E)
abbrev pub binding_with : Table → List Val → Option (SymId × Val)
binding_with table [] = None
binding_with table (v ∷ []) = option_map (λ s. (s, nil)) (variable_in table v)
binding_with table (v ∷ e ∷ []) = option_map (λ s. (s, e)) (variable_in table v)
binding_with table (v ∷ e ∷ x ∷ xs) = None

abbrev pub binding_at : List Object → Table → Val → Option (SymId × Val)
binding_at heap table (Int z) = None
binding_at heap table (Char c) = None
binding_at heap table (Sym s) = binding_with table (Sym s ∷ [])
binding_at heap table (Ref o) = option_and_then (binding_with table) (elements heap (Ref o))

abbrev pub bindings_among : List Object → Table → List Val → Option (List (SymId × Val))
bindings_among heap table [] = Some []
bindings_among heap table (v ∷ vs) =
    option_and_then (λ b. option_map (λ bs. b ∷ bs) (bindings_among heap table vs)) (binding_at heap table v)

unfoldable pub bindings_in : World → Val → Option (List (SymId × Val))
bindings_in w v = option_and_then (bindings_among w.heap w.table) (elements w.heap v)

unfoldable pub let_plan : Scope → List Val → Step Plan
let_plan sc [] = refuse BadForm sc
let_plan sc (bs ∷ vs) =
    look (λ w. bindings_in w bs) >>= expect sc >>= λ bs. contents_of sc vs >>= λ c. makes_node (let_sketch c.declared bs (body c.forms))

unfoldable pub let_in_order_plan : Scope → List Val → Step Plan
let_in_order_plan sc [] = refuse BadForm sc
let_in_order_plan sc (bs ∷ vs) =
    look (λ w. bindings_in w bs) >>= expect sc >>= λ bs. contents_of sc vs >>= λ c.
    makes_node (let_in_order c.declared bs (within (others (names bs) c.declared) (body c.forms)))

-- the definitions of FLET and LABELS are forms that are read when their turn comes
unfoldable pub functions_plan : Reach → Scope → List Val → Step Plan
functions_plan reach sc [] = refuse BadForm sc
functions_plan reach sc (ds ∷ vs) =
    look (λ w. elements w.heap ds) >>= expect sc >>= λ ds. contents_of sc vs >>= λ c.
    makes_node (functions reach ds (within c.declared (body c.forms)))

unfoldable pub locally_forms : Declared → List Val → Step Plan
locally_forms d [] = makes_node (within d (body []))
locally_forms d (v ∷ []) = pure (declared_around d v)
locally_forms d (v ∷ x ∷ xs) = makes_node (within d (body (v ∷ x ∷ xs)))

unfoldable pub locally_plan : Scope → List Val → Step Plan
locally_plan sc vs = contents_of sc vs >>= λ c. locally_forms c.declared c.forms

-- a type specifier
unfoldable pub type_in : Scope → Val → Step Spec
type_in sc v = look (λ w. specifier w.heap w.table v) >>= given_or BadType sc

unfoldable pub the_plan : Scope → List Val → Step Plan
the_plan sc (t ∷ v ∷ []) = type_in sc t >>= λ t. makes_node (one (Checking t) (form v))
the_plan sc _ = refuse BadForm sc

unfoldable pub block_plan : Scope → List Val → Step Plan
block_plan sc [] = refuse BadForm sc
block_plan sc (s ∷ vs) = expect sc (symbol_in s) >>= λ s. makes_node (block s (body vs))

unfoldable pub return_plan : Scope → SymId → Val → Step Plan
return_plan sc s v = expect sc (block_at sc s) >>= λ b. makes_node (one (Returning b) (form v))

unfoldable pub return_from_plan : Scope → List Val → Step Plan
return_from_plan sc (s ∷ []) = expect sc (symbol_in s) >>= λ s. return_plan sc s nil
return_from_plan sc (s ∷ v ∷ []) = expect sc (symbol_in s) >>= λ s. return_plan sc s v
return_from_plan sc _ = refuse BadForm sc

-- a tag is a symbol or an integer
abbrev pub is_tag : Val → Bool
is_tag (Int z) = true
is_tag (Char c) = false
is_tag (Sym s) = true
is_tag (Ref o) = false

abbrev pub is_cons : Option (Val × Val) → Bool
is_cons None = false
is_cons (Some p) = true

abbrev pub are_items : List Object → List Val → Bool
are_items heap [] = true
are_items heap (v ∷ vs) = (is_tag v || is_cons (cons_at heap v)) && are_items heap vs

unfoldable pub tagbody_plan : Scope → List Val → Step Plan
tagbody_plan sc vs = look (λ w. are_items w.heap vs) >>= only_if sc >> makes_node (tagbody vs)

unfoldable pub go_plan : Scope → List Val → Step Plan
go_plan sc (t ∷ []) = expect sc (tag_at sc t) >>= λ n. makes_node (leaf (GoTo n))
go_plan sc _ = refuse BadForm sc

unfoldable pub catch_plan : Scope → List Val → Step Plan
catch_plan sc [] = refuse BadForm sc
catch_plan sc (t ∷ vs) = makes_node (two Catching (form t) (body vs))

unfoldable pub throw_plan : Scope → List Val → Step Plan
throw_plan sc (t ∷ v ∷ []) = makes_node (two Throwing (form t) (form v))
throw_plan sc _ = refuse BadForm sc

unfoldable pub unwind_plan : Scope → List Val → Step Plan
unwind_plan sc [] = refuse BadForm sc
unwind_plan sc (v ∷ vs) = makes_node (two Unwinding (form v) (body vs))

unfoldable pub values_call_plan : Scope → List Val → Step Plan
values_call_plan sc [] = refuse BadForm sc
values_call_plan sc (f ∷ vs) = makes_node (calling CallingWithValues (form f) (sketches (forms vs)))

unfoldable pub keeping_plan : Scope → List Val → Step Plan
keeping_plan sc [] = refuse BadForm sc
keeping_plan sc (v ∷ vs) = makes_node (two KeepingValues (form v) (body vs))

unfoldable pub values_plan : Scope → List Val → Step Plan
values_plan sc vs = only_if sc (nat_le (length vs) most_values) >> makes_node (many GivingValues (sketches (forms vs)))

unfoldable pub funcall_plan : Scope → List Val → Step Plan
funcall_plan sc [] = refuse BadForm sc
funcall_plan sc (f ∷ vs) = few sc vs >> makes_node (calling Funcalling (form f) (sketches (forms vs)))

-- the last argument is a list of arguments, so there is one
unfoldable pub apply_plan : Scope → List Val → Step Plan
apply_plan sc (f ∷ v ∷ vs) = few sc (v ∷ vs) >> makes_node (calling Applying (form f) (sketches (forms (v ∷ vs))))
apply_plan sc _ = refuse BadForm sc

-- the form in a list of QUOTE and this form
abbrev pub quoted_in : List Object → Val → Option Val
quoted_in heap v = option_and_then only (elements heap v)
  where
    only : List Val → Option Val
    only (x ∷ y ∷ []) = if is_symbol_number (number_of at.QUOTE) x then Some y else None
    only _ = None

unfoldable pub typep_plan : Scope → List Val → Step Plan
typep_plan sc (v ∷ t ∷ []) =
    look (λ w. quoted_in w.heap t) >>= expect sc >>= type_in sc >>= λ t. makes_node (one (Testing t) (form v))
typep_plan sc _ = refuse BadForm sc

-- ---- definitions and declarations of the whole file

-- a name that a file may give to a function; the prelude defines functions of its own
abbrev pub definable : Scope → Val → Option SymId
definable sc v = option_and_then (λ s. if is_reserved s && not sc.is_fixed then None else Some s) (symbol_in v)

-- the function is given to its name, which is the value
unfoldable pub definition : SymId → Function → Sketch
definition s f = many Sequence (sketches (one (SettingFunction s) (recursive s f) ∷ constant (Sym s) ∷ []))

-- the arguments of a form as a list: all but the first
abbrev pub tail_of : List Object → Val → Val
tail_of heap v = rest_by (cons_at heap v)
  where
    rest_by : Option (Val × Val) → Val
    rest_by None = nil
    rest_by (Some p) = p.1

unfoldable pub defun_plan : Scope → (arguments : Val) → List Val → Step Plan
defun_plan sc arguments [] = refuse BadForm sc
defun_plan sc arguments (n ∷ vs) =
    expect sc (definable sc n) >>= λ s. look (λ w. tail_of w.heap arguments) >>= function_sketch sc (Some s) >>= λ f. makes_node (definition s f)

abbrev pub with_proclaimed : SymId → World → World
with_proclaimed s w = record w { specials = w.specials ++ s ∷ [] }

-- a string after the value is dropped
abbrev pub value_among : List Object → List Val → Option Val
value_among heap (v ∷ []) = Some v
value_among heap (v ∷ d ∷ []) = if is_string heap d then Some v else None
value_among heap _ = None

-- a global variable takes the value of a form
unfoldable pub global_set : Scope → SymId → Val → World → Sketch
global_set sc s v w = set_target sc (Global s) s (form v) w

abbrev pub and_name : SymId → Sketch → Sketch
and_name s x = progn (x ∷ constant (Sym s) ∷ [])

-- unless it has one
unfoldable pub unless_bound : SymId → Sketch → Sketch
unless_bound s x = choice (primitive q.Boundp (constant (Sym s) ∷ [])) (constant nil) x

unfoldable pub defvar_plan : Scope → List Val → Step Plan
defvar_plan sc [] = refuse BadForm sc
defvar_plan sc (n ∷ []) =
    look (λ w. variable_in w.table n) >>= expect sc >>= λ s. change (with_proclaimed s) >> makes_node (constant (Sym s))
defvar_plan sc (n ∷ v ∷ vs) =
    look (λ w. variable_in w.table n) >>= expect sc >>= λ s. look (λ w. value_among w.heap (v ∷ vs)) >>= expect sc >>= λ v.
    change (with_proclaimed s) >> look (global_set sc s v) >>= λ x. makes_node (and_name s (unless_bound s x))

unfoldable pub defparameter_plan : Scope → List Val → Step Plan
defparameter_plan sc [] = refuse BadForm sc
defparameter_plan sc (n ∷ vs) =
    look (λ w. variable_in w.table n) >>= expect sc >>= λ s. look (λ w. value_among w.heap vs) >>= expect sc >>= λ v.
    change (with_proclaimed s) >> look (global_set sc s v) >>= λ x. makes_node (and_name s x)

abbrev pub with_declaimed : Declared → World → World
with_declaimed d w = record w { specials = w.specials ++ d.specials; declaimed = w.declaimed ++ d.types; policy = d.policy }

unfoldable pub declaim_plan : Scope → (arguments : Val) → Step Plan
declaim_plan sc arguments =
    look (λ w. read_specifiers w.heap w.table w.policy arguments) >>= declared_or sc >>= λ d. change (with_declaimed d) >> makes_node (constant nil)

abbrev pub symbol_name : Option Symbol → List ℕ
symbol_name None = []
symbol_name (Some s) = s.name

abbrev pub string_letters : Option Object → List ℕ
string_letters None = []
string_letters (Some (Cons car cdr place)) = []
string_letters (Some (Vector items)) = []
string_letters (Some (Str letters)) = letters
string_letters (Some (Fun k cells)) = []
string_letters (Some (Cell v)) = []

-- the name that a symbol, a keyword or a string is
abbrev pub name_written : World → Val → List ℕ
name_written w (Int z) = []
name_written w (Char c) = []
name_written w (Sym s) = symbol_name (slice_get w.table.symbols (number_of s))
name_written w (Ref o) = string_letters (slice_get w.heap (index_of o))

abbrev pub names_package : List ℕ → Bool
names_package name = bytes_eq name (codes "CL-USER") || bytes_eq name (codes "COMMON-LISP-USER")

unfoldable pub in_package_plan : Scope → List Val → Step Plan
in_package_plan sc (n ∷ []) = look (λ w. names_package (name_written w n)) >>= only_if sc >> makes_node (constant nil)
in_package_plan sc _ = refuse BadForm sc

-- ---- the table of operators

unfoldable pub operator_plan : Operator → Scope → (arguments : Val) → List Val → Step Plan
operator_plan op.Quote sc v vs = quote_plan sc vs
operator_plan op.Function sc v vs = function_plan sc vs
operator_plan op.Setq sc v vs = setq_plan sc vs
operator_plan op.If sc v vs = if_plan sc vs
operator_plan op.Progn sc v vs = progn_plan sc vs
operator_plan op.Let sc v vs = let_plan sc vs
operator_plan op.LetInOrder sc v vs = let_in_order_plan sc vs
operator_plan op.Flet sc v vs = functions_plan ForBody sc vs
operator_plan op.Labels sc v vs = functions_plan ForAll sc vs
operator_plan op.Locally sc v vs = locally_plan sc vs
operator_plan op.The sc v vs = the_plan sc vs
operator_plan op.Block sc v vs = block_plan sc vs
operator_plan op.ReturnFrom sc v vs = return_from_plan sc vs
operator_plan op.Tagbody sc v vs = tagbody_plan sc vs
operator_plan op.Go sc v vs = go_plan sc vs
operator_plan op.Catch sc v vs = catch_plan sc vs
operator_plan op.Throw sc v vs = throw_plan sc vs
operator_plan op.UnwindProtect sc v vs = unwind_plan sc vs
operator_plan op.MultipleValueCall sc v vs = values_call_plan sc vs
operator_plan op.MultipleValueProg1 sc v vs = keeping_plan sc vs
operator_plan op.Values sc v vs = values_plan sc vs
operator_plan op.Funcall sc v vs = funcall_plan sc vs
operator_plan op.Apply sc v vs = apply_plan sc vs
operator_plan op.Typep sc v vs = typep_plan sc vs
operator_plan op.Defun sc v vs = defun_plan sc v vs
operator_plan op.Defvar sc v vs = defvar_plan sc vs
operator_plan op.Defparameter sc v vs = defparameter_plan sc vs
operator_plan op.Defconstant sc v vs = defparameter_plan sc vs
operator_plan op.Declaim sc v vs = declaim_plan sc v
operator_plan op.InPackage sc v vs = in_package_plan sc vs

-- an operator walks the list of its arguments
unfoldable pub operated : Operator → Scope → Val → Step Plan
operated o sc arguments = look (λ w. elements w.heap arguments) >>= expect sc >>= operator_plan o sc arguments

-- ---- macros and calls

unfoldable pub expansion_or : Scope → Expanded → Step Plan
expansion_or sc (makes_form v table heap) = λ w. gives (instead v) (with_stores table heap w)
expansion_or sc (bad place) = refuse BadForm sc
expansion_or sc full = refuse TooManySymbols sc

-- a macro form stands for the form that it gives
unfoldable pub macro_plan : Scope → Val → Step Plan
macro_plan sc v = λ w. expansion_or sc (expanded_form w.table w.heap v) w

unfoldable pub called : Scope → (List Val → Sketch) → Val → Step Plan
called sc make arguments = look (λ w. elements w.heap arguments) >>= expect sc >>= λ vs. few sc vs >> makes_node (make vs)

-- what a symbol means as an operator, where no local function has its name
unfoldable pub global_plan : Scope → Val → SymId → Val → Bool → Option Operator → Step Plan
global_plan sc v s arguments true o = macro_plan sc v
global_plan sc v s arguments false (Some o) = operated o sc arguments
global_plan sc v s arguments false None =
    if is_left_out s then refuse UnknownOperator sc
    else (if number_of s == number_of at.DECLARE then refuse BadForm sc else called sc (global_call s) arguments)

abbrev pub is_macro : Option Macro → Bool
is_macro None = false
is_macro (Some m) = true

unfoldable pub named_plan : Scope → Val → SymId → Val → Option ℕ → Step Plan
named_plan sc v s arguments (Some f) = called sc (calls_local f) arguments
named_plan sc v s arguments None = look (λ w. is_macro (macro_of_form w.heap v)) >>= λ m. global_plan sc v s arguments m (operator_of s)

-- a lambda expression on as many arguments as it requires binds them as LET does; on others it is called as a function
abbrev pub only_required : LambdaList → Option (List SymId)
only_required l = required l.required l.optional l.rest l.keys l.auxiliary
  where
    required : List SymId → List Default → Option SymId → Option (List Default) → List (SymId × Val) → Option (List SymId)
    required xs [] None None [] = Some xs
    required xs _ _ _ _ = None

abbrev pub paired : List SymId → List Val → Option (List (SymId × Val))
paired [] [] = Some []
paired [] (v ∷ vs) = None
paired (s ∷ ss) [] = None
paired (s ∷ ss) (v ∷ vs) = option_map (λ ps. (s, v) ∷ ps) (paired ss vs)

-- the bindings that a lambda expression on arguments makes, and its body
abbrev pub bindings_of_lambda : World → List Val → List Val → Option (List (SymId × Val) × List Val)
bindings_of_lambda w vs [] = None
bindings_of_lambda w vs (l ∷ forms) =
    option_map (λ bs. (bs, forms)) (option_and_then (λ xs. paired xs vs) (option_and_then only_required (lambda_list w.heap w.table l)))

unfoldable pub lambda_bindings : Val → List Val → World → Option (List (SymId × Val) × List Val)
lambda_bindings operator vs w =
    option_and_then (bindings_of_lambda w vs) (option_and_then (elements w.heap) (lambda_in w.heap operator))

unfoldable pub lambda_call : Scope → Val → List Val → Option (List (SymId × Val) × List Val) → Step Plan
lambda_call sc operator vs None = makes_node (calling Funcalling (form operator) (sketches (forms vs)))
lambda_call sc operator vs (Some p) = contents_of sc p.1 >>= λ c. makes_node (let_sketch c.declared p.0 (body c.forms))

abbrev pub is_given : Option Val → Bool
is_given None = false
is_given (Some v) = true

unfoldable pub lambda_plan_of : Scope → Val → Val → Step Plan
lambda_plan_of sc operator arguments =
    look (λ w. is_given (lambda_in w.heap operator)) >>= only_if sc >>
    look (λ w. elements w.heap arguments) >>= expect sc >>= λ vs. few sc vs >> look (lambda_bindings operator vs) >>= lambda_call sc operator vs

-- ---- all forms

unfoldable pub symbol_plan : Scope → SymId → Bool → Step Plan
symbol_plan sc s true = makes_node (constant (Sym s))
symbol_plan sc s false = makes_node (use_of sc (variable_at sc s))

unfoldable pub list_plan : Scope → Val → Option (Val × Val) → Step Plan
list_plan sc v None = makes_node (constant v)
list_plan sc v (Some (Int z, arguments)) = refuse BadForm sc
list_plan sc v (Some (Char c, arguments)) = refuse BadForm sc
list_plan sc v (Some (Sym s, arguments)) = named_plan sc v s arguments (function_at sc s)
list_plan sc v (Some (Ref o, arguments)) = lambda_plan_of sc (Ref o) arguments

-- what is to be done with a form in its scope
unfoldable pub plan_of : Scope → Val → Step Plan
plan_of sc (Int z) = makes_node (constant (Int z))
plan_of sc (Char c) = makes_node (constant (Char c))
plan_of sc (Sym s) = look (λ w. is_constant_symbol w.table s) >>= symbol_plan sc s
plan_of sc (Ref o) = look (λ w. cons_at w.heap (Ref o)) >>= list_plan sc (Ref o)
