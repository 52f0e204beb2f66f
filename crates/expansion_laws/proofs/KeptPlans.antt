-- What is to be done with a form is found without counting.
use Rattle.std.specs.Prelude.{ℕ, Bool, true, false, ◌==◌, if◌then◌else◌, List, [], ◌∷◌, Option, Some, None, refl}
use Rattle.lisp_base.specs.declared.values.SymId.{SymId}
use Rattle.lisp_base.specs.declared.values.Val.{Val}
use Rattle.lisp_base.specs.declared.values.Val.TheVariants.{Int, Char, Sym, Ref}
use Rattle.lisp_base.specs.declared.base_symbols.TheConstants as at
use Rattle.lisp_base.specs.Sort.{number_of}
use Rattle.lisp_base.specs.Tables.{Table, Object, made_fresh}
use Rattle.declarations.specs.Bodies.{Body}
use Rattle.declarations.specs.Declarations.{Declared, Reading, declared, bad_form, bad_type, bad_policy}
use Rattle.lambda_lists.specs.LambdaLists.{Default, LambdaList, KeyForms, key_forms}
use Rattle.std_macros.specs.Expanding.{Expanded, gives as makes_form, bad, full, expanded_form}
use Rattle.expansion.specs.declared.kind.ExpandKind.TheVariants.{BadForm, UnknownOperator}
use Rattle.expansion.specs.declared.operator.Operator.{Operator}
use Rattle.expansion.specs.declared.operator.Operator.TheVariants as op
use Rattle.expansion.specs.declared.heads.Reach.{Reach}
use Rattle.expansion.specs.Operators.{is_left_out}
use Rattle.expansion.specs.Scopes.{Scope}
use Rattle.expansion.specs.Steps.{Step}
use Rattle.expansion.specs.Sketches.{Sketch}
use Rattle.expansion.specs.Bindings.{Contents, declared_or, read_body, contents_of, fresh_by, fresh_symbol, rest_or_fresh, keys_by, make_keys, with_keys, function_with, function_from, function_sketch}
use Rattle.expansion.specs.Calls.{few, global_call}
use Rattle.expansion.specs.Forms.{makes_node, quote_plan, lambda_plan, function_plan, setq_plan, if_plan, progn_plan, let_plan, let_in_order_plan, functions_plan, locally_forms, locally_plan, type_in, the_plan, block_plan, return_plan, return_from_plan, tagbody_plan, go_plan, catch_plan, throw_plan, unwind_plan, values_call_plan, keeping_plan, values_plan, funcall_plan, apply_plan, typep_plan, defun_plan, defvar_plan, defparameter_plan, declaim_plan, in_package_plan, operator_plan, operated, expansion_or, macro_plan, called, global_plan, named_plan, lambda_call, lambda_plan_of, symbol_plan, list_plan, plan_of}
use Rattle.expansion_laws.proofs.KeptCounts.{KeepsCounts, keeps_pure, keeps_refuse, keeps_look, keeps_change, keeps_given, keeps_expect, keeps_only, keeps_bind, keeps_then, keeps_looked}

-- ---- bodies and functions

declared_kept : (sc : Scope) (r : Reading) → KeepsCounts (declared_or sc r)
unfolding declared_or
declared_kept sc (declared d) = keeps_pure _
declared_kept sc bad_form = keeps_refuse _ _
declared_kept sc bad_type = keeps_refuse _ _
declared_kept sc bad_policy = keeps_refuse _ _

body_kept : (sc : Scope) (b : Body) → KeepsCounts (read_body sc b)
unfolding read_body
body_kept sc b = keeps_bind (keeps_looked _ (declared_kept _)) (λ d. (keeps_pure _))

contents_kept : (sc : Scope) (vs : List Val) → KeepsCounts (contents_of sc vs)
unfolding contents_of
contents_kept sc vs = keeps_looked _ (body_kept sc)

fresh_by_kept : (sc : Scope) (o : Option (SymId × Table)) → KeepsCounts (fresh_by sc o)
unfolding fresh_by
fresh_by_kept sc None = keeps_refuse _ _
fresh_by_kept sc (Some made) = record { keeps = λ w. record { next = refl; functions = refl; nodes = refl } }

fresh_kept : (sc : Scope) → KeepsCounts (fresh_symbol sc)
unfolding fresh_symbol
fresh_kept sc = record { keeps = λ w. (fresh_by_kept sc (made_fresh w.table)).keeps w }

rest_kept : (sc : Scope) (o : Option SymId) → KeepsCounts (rest_or_fresh sc o)
unfolding rest_or_fresh
rest_kept sc None = fresh_kept sc
rest_kept sc (Some s) = keeps_pure _

keys_by_kept : (sc : Scope) (o : Option (KeyForms × Table × List Object)) → KeepsCounts (keys_by sc o)
unfolding keys_by
keys_by_kept sc None = keeps_refuse _ _
keys_by_kept sc (Some made) = record { keeps = λ w. record { next = refl; functions = refl; nodes = refl } }

keys_kept : (sc : Scope) (rest : SymId) (ks : List Default) → KeepsCounts (make_keys sc rest ks)
unfolding make_keys
keys_kept sc rest ks = record { keeps = λ w. (keys_by_kept sc (key_forms rest ks w.table w.heap)).keeps w }

with_keys_kept : (sc : Scope) (l : LambdaList) (name : Option SymId) (c : Contents) (o : Option (List Default)) → KeepsCounts (with_keys sc l name c o)
unfolding with_keys
with_keys_kept sc l name c None = keeps_pure _
with_keys_kept sc l name c (Some ks) = keeps_bind (rest_kept sc l.rest) (λ rest. keeps_bind (keys_kept sc rest ks) (λ k. (keeps_pure _)))

function_with_kept : (sc : Scope) (name : Option SymId) (vs : List Val) (l : LambdaList) → KeepsCounts (function_with sc name vs l)
unfolding function_with
function_with_kept sc name vs l = keeps_bind (contents_kept _ vs) (λ c. with_keys_kept sc l name c l.keys)

function_from_kept : (sc : Scope) (name : Option SymId) (vs : List Val) → KeepsCounts (function_from sc name vs)
unfolding function_from
function_from_kept sc name [] = keeps_refuse _ _
function_from_kept sc name (l ∷ vs) = keeps_bind (keeps_looked _ (keeps_expect _)) (function_with_kept sc name vs)

pub function_kept : (sc : Scope) (name : Option SymId) (v : Val) → KeepsCounts (function_sketch sc name v)
unfolding function_sketch
function_kept sc name v = keeps_bind (keeps_looked _ (keeps_expect _)) (function_from_kept sc name)

-- ---- the operators

node_kept : (x : Sketch) → KeepsCounts (makes_node x)
unfolding makes_node
node_kept x = keeps_pure _

few_kept : (sc : Scope) (vs : List Val) → KeepsCounts (few sc vs)
unfolding few
few_kept sc vs = keeps_only _ _

quote_kept : (sc : Scope) (vs : List Val) → KeepsCounts (quote_plan sc vs)
unfolding quote_plan
quote_kept sc (v ∷ []) = node_kept _
quote_kept sc _ = keeps_refuse _ _

lambda_kept : (sc : Scope) (o : Option Val) → KeepsCounts (lambda_plan sc o)
unfolding lambda_plan
lambda_kept sc None = keeps_refuse _ _
lambda_kept sc (Some v) = keeps_bind (function_kept _ _ v) (λ f. (node_kept _))

function_plan_kept : (sc : Scope) (vs : List Val) → KeepsCounts (function_plan sc vs)
unfolding function_plan
function_plan_kept sc (Sym s ∷ []) = node_kept _
function_plan_kept sc (Ref o ∷ []) = keeps_looked _ (lambda_kept _)
function_plan_kept sc _ = keeps_refuse _ _

setq_kept : (sc : Scope) (vs : List Val) → KeepsCounts (setq_plan sc vs)
unfolding setq_plan
setq_kept sc vs = keeps_bind (keeps_looked _ (keeps_expect _)) (λ xs. (node_kept _))

if_kept : (sc : Scope) (vs : List Val) → KeepsCounts (if_plan sc vs)
unfolding if_plan
if_kept sc (a ∷ b ∷ []) = node_kept _
if_kept sc (a ∷ b ∷ c ∷ []) = node_kept _
if_kept sc _ = keeps_refuse _ _

progn_kept : (sc : Scope) (vs : List Val) → KeepsCounts (progn_plan sc vs)
unfolding progn_plan
progn_kept sc [] = node_kept _
progn_kept sc (v ∷ []) = keeps_pure _
progn_kept sc (v ∷ x ∷ xs) = node_kept _

let_kept : (sc : Scope) (vs : List Val) → KeepsCounts (let_plan sc vs)
unfolding let_plan
let_kept sc [] = keeps_refuse _ _
let_kept sc (b ∷ vs) = keeps_bind (keeps_looked _ (keeps_expect _)) (λ bs. keeps_bind (contents_kept _ vs) (λ c. (node_kept _)))

let_in_order_kept : (sc : Scope) (vs : List Val) → KeepsCounts (let_in_order_plan sc vs)
unfolding let_in_order_plan
let_in_order_kept sc [] = keeps_refuse _ _
let_in_order_kept sc (b ∷ vs) = keeps_bind (keeps_looked _ (keeps_expect _)) (λ bs. keeps_bind (contents_kept _ vs) (λ c. (node_kept _)))

functions_kept : (reach : Reach) (sc : Scope) (vs : List Val) → KeepsCounts (functions_plan reach sc vs)
unfolding functions_plan
functions_kept reach sc [] = keeps_refuse _ _
functions_kept reach sc (d ∷ vs) = keeps_bind (keeps_looked _ (keeps_expect _)) (λ ds. keeps_bind (contents_kept _ vs) (λ c. (node_kept _)))

locally_forms_kept : (d : Declared) (vs : List Val) → KeepsCounts (locally_forms d vs)
unfolding locally_forms
locally_forms_kept d [] = node_kept _
locally_forms_kept d (v ∷ []) = keeps_pure _
locally_forms_kept d (v ∷ x ∷ xs) = node_kept _

locally_kept : (sc : Scope) (vs : List Val) → KeepsCounts (locally_plan sc vs)
unfolding locally_plan
locally_kept sc vs = keeps_bind (contents_kept _ vs) (λ c. locally_forms_kept c.declared c.forms)

type_kept : (sc : Scope) (v : Val) → KeepsCounts (type_in sc v)
unfolding type_in
type_kept sc v = keeps_looked _ (keeps_given _ _)

the_kept : (sc : Scope) (vs : List Val) → KeepsCounts (the_plan sc vs)
unfolding the_plan
the_kept sc (t ∷ v ∷ []) = keeps_bind (type_kept _ t) (λ t. (node_kept _))
the_kept sc _ = keeps_refuse _ _

block_kept : (sc : Scope) (vs : List Val) → KeepsCounts (block_plan sc vs)
unfolding block_plan
block_kept sc [] = keeps_refuse _ _
block_kept sc (s ∷ vs) = keeps_bind (keeps_expect _ _) (λ s. (node_kept _))

return_kept : (sc : Scope) (v : Val) (s : SymId) → KeepsCounts (return_plan sc s v)
unfolding return_plan
return_kept sc v s = keeps_bind (keeps_expect _ _) (λ b. (node_kept _))

return_from_kept : (sc : Scope) (vs : List Val) → KeepsCounts (return_from_plan sc vs)
unfolding return_from_plan
return_from_kept sc (s ∷ []) = keeps_bind (keeps_expect _ _) (return_kept _ _)
return_from_kept sc (s ∷ v ∷ []) = keeps_bind (keeps_expect _ _) (return_kept _ _)
return_from_kept sc _ = keeps_refuse _ _

tagbody_kept : (sc : Scope) (vs : List Val) → KeepsCounts (tagbody_plan sc vs)
unfolding tagbody_plan
tagbody_kept sc vs = keeps_then (keeps_looked _ (keeps_only _)) (node_kept _)

go_kept : (sc : Scope) (vs : List Val) → KeepsCounts (go_plan sc vs)
unfolding go_plan
go_kept sc (t ∷ []) = keeps_bind (keeps_expect _ _) (λ n. (node_kept _))
go_kept sc _ = keeps_refuse _ _

catch_kept : (sc : Scope) (vs : List Val) → KeepsCounts (catch_plan sc vs)
unfolding catch_plan
catch_kept sc [] = keeps_refuse _ _
catch_kept sc (t ∷ vs) = node_kept _

throw_kept : (sc : Scope) (vs : List Val) → KeepsCounts (throw_plan sc vs)
unfolding throw_plan
throw_kept sc (t ∷ v ∷ []) = node_kept _
throw_kept sc _ = keeps_refuse _ _

unwind_kept : (sc : Scope) (vs : List Val) → KeepsCounts (unwind_plan sc vs)
unfolding unwind_plan
unwind_kept sc [] = keeps_refuse _ _
unwind_kept sc (v ∷ vs) = node_kept _

values_call_kept : (sc : Scope) (vs : List Val) → KeepsCounts (values_call_plan sc vs)
unfolding values_call_plan
values_call_kept sc [] = keeps_refuse _ _
values_call_kept sc (f ∷ vs) = node_kept _

keeping_kept : (sc : Scope) (vs : List Val) → KeepsCounts (keeping_plan sc vs)
unfolding keeping_plan
keeping_kept sc [] = keeps_refuse _ _
keeping_kept sc (v ∷ vs) = node_kept _

values_kept : (sc : Scope) (vs : List Val) → KeepsCounts (values_plan sc vs)
unfolding values_plan
values_kept sc vs = keeps_then (keeps_only _ _) (node_kept _)

funcall_kept : (sc : Scope) (vs : List Val) → KeepsCounts (funcall_plan sc vs)
unfolding funcall_plan
funcall_kept sc [] = keeps_refuse _ _
funcall_kept sc (f ∷ vs) = keeps_then (few_kept _ vs) (node_kept _)

apply_kept : (sc : Scope) (vs : List Val) → KeepsCounts (apply_plan sc vs)
unfolding apply_plan
apply_kept sc (f ∷ v ∷ vs) = keeps_then (few_kept _ _) (node_kept _)
apply_kept sc _ = keeps_refuse _ _

typep_kept : (sc : Scope) (vs : List Val) → KeepsCounts (typep_plan sc vs)
unfolding typep_plan
typep_kept sc (v ∷ t ∷ []) = keeps_bind (keeps_bind (keeps_looked _ (keeps_expect _)) (type_kept _)) (λ t. (node_kept _))
typep_kept sc _ = keeps_refuse _ _

defun_kept : (sc : Scope) (arguments : Val) (vs : List Val) → KeepsCounts (defun_plan sc arguments vs)
unfolding defun_plan
defun_kept sc arguments [] = keeps_refuse _ _
defun_kept sc arguments (n ∷ vs) = keeps_bind (keeps_expect _ _) (λ s. keeps_bind (keeps_looked _ (function_kept _ _)) (λ f. (node_kept _)))

defvar_kept : (sc : Scope) (vs : List Val) → KeepsCounts (defvar_plan sc vs)
unfolding defvar_plan
defvar_kept sc [] = keeps_refuse _ _
defvar_kept sc (n ∷ []) =
    keeps_bind (keeps_looked _ (keeps_expect _)) (λ s. keeps_then (keeps_change (λ w. record { next = refl; functions = refl; nodes = refl })) (node_kept _))
defvar_kept sc (n ∷ v ∷ vs) =
    keeps_bind (keeps_looked _ (keeps_expect _)) (λ s. keeps_bind (keeps_looked _ (keeps_expect _)) (λ v.
    keeps_bind (keeps_then (keeps_change (λ w. record { next = refl; functions = refl; nodes = refl })) (keeps_look _)) (λ x. (node_kept _))))

defparameter_kept : (sc : Scope) (vs : List Val) → KeepsCounts (defparameter_plan sc vs)
unfolding defparameter_plan
defparameter_kept sc [] = keeps_refuse _ _
defparameter_kept sc (n ∷ vs) =
    keeps_bind (keeps_looked _ (keeps_expect _)) (λ s. keeps_bind (keeps_looked _ (keeps_expect _)) (λ v.
    keeps_bind (keeps_then (keeps_change (λ w. record { next = refl; functions = refl; nodes = refl })) (keeps_look _)) (λ x. (node_kept _))))

declaim_kept : (sc : Scope) (arguments : Val) → KeepsCounts (declaim_plan sc arguments)
unfolding declaim_plan
declaim_kept sc arguments =
    keeps_bind (keeps_looked _ (declared_kept _)) (λ d. keeps_then (keeps_change (λ w. record { next = refl; functions = refl; nodes = refl })) (node_kept _))

in_package_kept : (sc : Scope) (vs : List Val) → KeepsCounts (in_package_plan sc vs)
unfolding in_package_plan
in_package_kept sc (n ∷ []) = keeps_then (keeps_looked _ (keeps_only _)) (node_kept _)
in_package_kept sc _ = keeps_refuse _ _

operator_kept : (o : Operator) (sc : Scope) (arguments : Val) (vs : List Val) → KeepsCounts (operator_plan o sc arguments vs)
unfolding operator_plan
operator_kept op.Quote sc v vs = quote_kept sc vs
operator_kept op.Function sc v vs = function_plan_kept sc vs
operator_kept op.Setq sc v vs = setq_kept sc vs
operator_kept op.If sc v vs = if_kept sc vs
operator_kept op.Progn sc v vs = progn_kept sc vs
operator_kept op.Let sc v vs = let_kept sc vs
operator_kept op.LetInOrder sc v vs = let_in_order_kept sc vs
operator_kept op.Flet sc v vs = functions_kept _ sc vs
operator_kept op.Labels sc v vs = functions_kept _ sc vs
operator_kept op.Locally sc v vs = locally_kept sc vs
operator_kept op.The sc v vs = the_kept sc vs
operator_kept op.Block sc v vs = block_kept sc vs
operator_kept op.ReturnFrom sc v vs = return_from_kept sc vs
operator_kept op.Tagbody sc v vs = tagbody_kept sc vs
operator_kept op.Go sc v vs = go_kept sc vs
operator_kept op.Catch sc v vs = catch_kept sc vs
operator_kept op.Throw sc v vs = throw_kept sc vs
operator_kept op.UnwindProtect sc v vs = unwind_kept sc vs
operator_kept op.MultipleValueCall sc v vs = values_call_kept sc vs
operator_kept op.MultipleValueProg1 sc v vs = keeping_kept sc vs
operator_kept op.Values sc v vs = values_kept sc vs
operator_kept op.Funcall sc v vs = funcall_kept sc vs
operator_kept op.Apply sc v vs = apply_kept sc vs
operator_kept op.Typep sc v vs = typep_kept sc vs
operator_kept op.Defun sc v vs = defun_kept sc v vs
operator_kept op.Defvar sc v vs = defvar_kept sc vs
operator_kept op.Defparameter sc v vs = defparameter_kept sc vs
operator_kept op.Defconstant sc v vs = defparameter_kept sc vs
operator_kept op.Declaim sc v vs = declaim_kept sc v
operator_kept op.InPackage sc v vs = in_package_kept sc vs

operated_kept : (o : Operator) (sc : Scope) (arguments : Val) → KeepsCounts (operated o sc arguments)
unfolding operated
operated_kept o sc arguments = keeps_bind (keeps_looked _ (keeps_expect _)) (operator_kept o sc arguments)

-- ---- calls and macro forms

expansion_kept : (sc : Scope) (x : Expanded) → KeepsCounts (expansion_or sc x)
unfolding expansion_or
expansion_kept sc (makes_form v table heap) = record { keeps = λ w. record { next = refl; functions = refl; nodes = refl } }
expansion_kept sc (bad place) = keeps_refuse _ _
expansion_kept sc full = keeps_refuse _ _

macro_kept : (sc : Scope) (v : Val) → KeepsCounts (macro_plan sc v)
unfolding macro_plan
macro_kept sc v = record { keeps = λ w. (expansion_kept sc (expanded_form w.table w.heap v)).keeps w }

called_kept : (sc : Scope) (make : List Val → Sketch) (arguments : Val) → KeepsCounts (called sc make arguments)
unfolding called
called_kept sc make arguments = keeps_bind (keeps_looked _ (keeps_expect _)) (λ vs. keeps_then (few_kept _ vs) (node_kept _))

choice_kept : {A : Type 0} {m k : Step A} (b : Bool) → KeepsCounts m → KeepsCounts k → KeepsCounts (if b then m else k)
choice_kept true h k = h
choice_kept false h k = k

global_kept : (sc : Scope) (v : Val) (s : SymId) (arguments : Val) (o : Option Operator) (m : Bool) → KeepsCounts (global_plan sc v s arguments m o)
unfolding global_plan
global_kept sc v s arguments o true = macro_kept sc v
global_kept sc v s arguments (Some o) false = operated_kept o sc arguments
global_kept sc v s arguments None false =
    choice_kept (is_left_out s) (keeps_refuse UnknownOperator sc)
    (choice_kept (number_of s == number_of at.DECLARE) (keeps_refuse BadForm sc) (called_kept sc (global_call s) arguments))

named_kept : (sc : Scope) (v : Val) (s : SymId) (arguments : Val) (o : Option ℕ) → KeepsCounts (named_plan sc v s arguments o)
unfolding named_plan
named_kept sc v s arguments (Some f) = called_kept _ _ _
named_kept sc v s arguments None = keeps_looked _ (global_kept sc v s arguments _)

lambda_call_kept : (sc : Scope) (operator : Val) (vs : List Val) (o : Option (List (SymId × Val) × List Val)) → KeepsCounts (lambda_call sc operator vs o)
unfolding lambda_call
lambda_call_kept sc operator vs None = node_kept _
lambda_call_kept sc operator vs (Some p) = keeps_bind (contents_kept _ p.1) (λ c. (node_kept _))

lambda_plan_kept : (sc : Scope) (operator arguments : Val) → KeepsCounts (lambda_plan_of sc operator arguments)
unfolding lambda_plan_of
lambda_plan_kept sc operator arguments =
    keeps_bind (keeps_bind (keeps_then (keeps_looked _ (keeps_only _)) (keeps_look _)) (keeps_expect _)) (λ vs.
    keeps_bind (keeps_then (few_kept _ vs) (keeps_look _)) (lambda_call_kept sc operator vs))

-- ---- all forms

symbol_kept : (sc : Scope) (s : SymId) (b : Bool) → KeepsCounts (symbol_plan sc s b)
unfolding symbol_plan
symbol_kept sc s true = node_kept _
symbol_kept sc s false = node_kept _

list_kept : (sc : Scope) (v : Val) (o : Option (Val × Val)) → KeepsCounts (list_plan sc v o)
unfolding list_plan
list_kept sc v None = node_kept _
list_kept sc v (Some (Int z, arguments)) = keeps_refuse _ _
list_kept sc v (Some (Char c, arguments)) = keeps_refuse _ _
list_kept sc v (Some (Sym s, arguments)) = named_kept sc v s arguments _
list_kept sc v (Some (Ref o, arguments)) = lambda_plan_kept sc (Ref o) arguments

pub plan_kept : (sc : Scope) (v : Val) → KeepsCounts (plan_of sc v)
unfolding plan_of
plan_kept sc (Int z) = node_kept _
plan_kept sc (Char c) = node_kept _
plan_kept sc (Sym s) = keeps_looked _ (symbol_kept sc s)
plan_kept sc (Ref o) = keeps_looked _ (list_kept sc (Ref o))
