-- The form that refuses keys gives a call, with one argument, of a function that takes none.
use Rattle.std.specs.Prelude.{◌≡◌, refl, ℕ, Bool, true, false, List, [], ◌∷◌, Option, Some, None, if◌then◌else◌}
use Rattle.std.specs.Option.{option_and_then}
use Rattle.std.proofs.Common.{ap, sym, subst, ◌∙◌}
use Rattle.lisp_base.specs.declared.base_symbols.TheConstants as at
use Rattle.lisp_base.specs.declared.values.Place.{Place}
use Rattle.lisp_base.specs.declared.values.SymId.{SymId}
use Rattle.lisp_base.specs.declared.values.Val.{Val}
use Rattle.lisp_base.specs.declared.values.Val.TheVariants.{Int, Char, Sym, Ref}
use Rattle.lisp_base.specs.Membership.{is_symbol_number}
use Rattle.lisp_base.specs.Sort.{nil, number_of}
use Rattle.lisp_base.specs.Tables.{Table, Object}
use Rattle.lisp_forms.specs.Conses.{cons_at, place_at, elements}
use Rattle.lambda_lists.specs.LambdaLists.{LambdaList, make_list, sections, list_of_sections, lambda_list}
use Rattle.std_macros.specs.declared.macros.Macro.{Macro}
use Rattle.std_macros.specs.declared.macros.Macro.TheVariants as macros
use Rattle.std_macros.specs.Expanding.{Expanded, gives as makes_form, bad, full, row, rest_by, rest_of, fresh_symbols, built_around, expanded_by, arguments_row, expanded, expanded_as, expanded_form, macro_of_symbol, macro_of_form}
use Rattle.core_form.specs.Tree as tree
use Rattle.core_form.specs.Tree.{Core, Cores, no_core, core, no_optional, Lambda, lambda}
use Rattle.core_form.specs.Lawful.{is_refused_call}
use Rattle.expansion.specs.declared.heads.Calling.TheVariants.{Funcalling}
use Rattle.expansion.specs.declared.operator.Operator.{Operator}
use Rattle.expansion.specs.declared.operator.Operator.TheVariants as op
use Rattle.expansion.specs.Operators.{operator_of}
use Rattle.expansion.specs.Scopes.{Scope, same_symbol, last_fit, named, second, at_form, function_at}
use Rattle.expansion.specs.Steps.{World, Answer, gives, ◌>>=◌, look, refuse}
use Rattle.expansion.specs.Sketches.{Sketch, form, calling, function, no_sketch, sketch, Function, function_of, Plan, instead, declared_around, makes}
use Rattle.expansion.specs.Bindings.{Contents, plain_function}
use Rattle.expansion.specs.Forms.{lambda_in, operator_plan, operated, expansion_or, macro_plan, global_plan, named_plan, list_plan, plan_of, is_macro}
use Rattle.expansion_laws.specs.Planned.{Shaped, without_keys, with_keys, Sketched, function_read, Operated, names_local, names_global, makes_function, calls_value}
use Rattle.expansion_laws.specs.Made.{no_bounds, made_none, no_optionals, MadeForm, made_instead, made_around, made_makes, Made, made_form, made_calling, made_function, no_parts, more_parts, no_defaults, MadeLambda, made_lambda}
use Rattle.expansion_laws.proofs.Giving.{OnGives, given_has}
use Rattle.expansion_laws.proofs.Stepping.{found}
use Rattle.expansion_laws.proofs.OperatorPlans.{operator_derived}
use Rattle.expansion_laws.proofs.DefinitionReading.{AreElements, elements_found, begins, no_elements, one_element, two_elements, IsThunk, IsThunkFunction, IsRefusal, thunk_function_reads}

-- ---- the plan of a list whose first element is a symbol

module _ (sc : Scope) (w : World) (s : SymId) (arguments : Val) where
  -- a symbol that no local function has
  abbrev GlobalPlan : Val → Answer Plan
  GlobalPlan v = global_plan sc v s arguments (is_macro (macro_of_symbol (Sym s))) (operator_of s) w

  global_plan_of : (v : Val) → cons_at w.heap v ≡ Some (Sym s, arguments) → function_at sc s ≡ None → plan_of sc v w ≡ GlobalPlan v
  unfolding plan_of list_plan named_plan look ◌>>=◌
  global_plan_of (Int z) is free = absurd (cc)
  global_plan_of (Char c) is free = absurd (cc)
  global_plan_of (Sym x) is free = absurd (cc)
  global_plan_of (Ref o) is free =
      ap (λ (p : Option (Val × Val)). list_plan sc (Ref o) p w) is
      ∙ ap (λ (f : Option ℕ). named_plan sc (Ref o) s arguments f w) free
      ∙ ap (λ (p : Option (Val × Val)). global_plan sc (Ref o) s arguments (is_macro (option_and_then (λ (p : Val × Val). macro_of_symbol p.0) p)) (operator_of s) w) is

  -- an operator's form, whose arguments are these
  pub record OperatorForm (o : Operator) (p : Plan) (u : World) : Type 0 where
    pub values : List Val
    pub are : AreElements w.heap arguments values
    pub by : Operated sc w arguments o values p u

  operated_form : (o : Operator) (p : Plan) (u : World) → operated o sc arguments w ≡ gives p u → OperatorForm o p u
  unfolding operated
  operated_form o p u is =
      let f = found sc (λ w. elements w.heap arguments) (operator_plan o sc arguments) w p u is in
      record {
        values = f.value;
        are = elements_found w.heap arguments f.value f.there;
        by = given_has (Operated sc w arguments o f.value) (operator_plan o sc arguments f.value w) p u (operator_derived sc w arguments o f.value) f.second;
      }

  pub operator_form : (v : Val) (o : Operator) (p : Plan) (u : World) → cons_at w.heap v ≡ Some (Sym s, arguments) → function_at sc s ≡ None →
      is_macro (macro_of_symbol (Sym s)) ≡ false → operator_of s ≡ Some o → plan_of sc v w ≡ gives p u → OperatorForm o p u
  unfolding global_plan
  operator_form v o p u is free macro names plan =
      operated_form o p u
      (sym (ap (λ (m : Bool). global_plan sc v s arguments m (operator_of s) w) macro ∙ ap (λ (q : Option Operator). global_plan sc v s arguments false q w) names)
      ∙ sym (global_plan_of v is free) ∙ plan)

-- ---- scopes with one local function

pub record OnlyFunction (s : SymId) (sc : Scope) : Type 0 where
  pub number : ℕ
  pub are : sc.functions ≡ (s, number) ∷ []

others_free : (s x : SymId) (sc : Scope) → OnlyFunction s sc → same_symbol x s ≡ false → function_at sc x ≡ None
unfolding function_at
others_free s x sc h other =
    ap (λ (fs : List (SymId × ℕ)). second (last_fit (named x) fs)) h.are ∙ ap (λ (b : Bool). second (if b then Some (s, h.number) else None)) other

only_at : {s : SymId} {sc : Scope} (heap : List Object) (v : Val) → OnlyFunction s sc → OnlyFunction s (at_form heap v sc)
unfolding at_form
only_at heap v h = record { number = h.number; are = h.are }

-- the name takes none of the steps by which the form is read
pub record IsApart (s : SymId) : Type 0 where
  pub funcall : same_symbol at.FUNCALL s ≡ false
  pub lambda : same_symbol at.LAMBDA s ≡ false
  pub function : same_symbol at.FUNCTION s ≡ false

-- ---- functions that take nothing

data TakesNothing : Lambda → Type 0 where
  takes_nothing : {k : ℕ} {e : Core} → TakesNothing (lambda k [] no_optional None e)

data NoParameters : Function → Type 0 where
  no_parameters : (x : Sketch) → NoParameters (function_of [] [] None x)

nothing_taken : {sc : Scope} {f : Function} {w after : World} {l : Lambda} → NoParameters f → MadeLambda sc f w l after → TakesNothing l
nothing_taken (no_parameters x) (made_lambda no_bounds no_optionals made_none fits no_defaults k) = takes_nothing

abbrev no_list : LambdaList
no_list = make_list [] [] None None []

empty_list_by : (heap : List Object) (table : Table) (l : LambdaList) (found : Option (List Val)) → ((xs : List Val) → found ≡ Some xs → xs ≡ []) →
    option_and_then (λ vs. list_of_sections heap table (sections vs)) found ≡ Some l → l ≡ no_list
empty_list_by heap table l None h is = absurd (cc)
empty_list_by heap table l (Some xs) h is =
    let same : Some no_list ≡ Some l = ap (λ (vs : List Val). list_of_sections heap table (sections vs)) (sym (h xs refl)) ∙ is in cc

empty_list : (heap : List Object) (table : Table) (l : LambdaList) → lambda_list heap table nil ≡ Some l → l ≡ no_list
unfolding lambda_list
empty_list heap table l is = empty_list_by heap table l (elements heap nil) (λ xs there. no_elements (elements_found heap nil xs there)) is

shaped_as : {w u : World} {c : Contents} {f : Function} → Shaped w None no_list c f u → NoParameters f
unfolding plain_function
shaped_as (without_keys e) = no_parameters _
shaped_as (with_keys ks rest first k table heap is by forms) = absurd (cc)

-- the function of a list of NIL
nothing_sketched : {sc : Scope} {w u : World} {v : Val} {f : Function} → cons_at w.heap v ≡ Some (nil, nil) → Sketched sc None w v f u → NoParameters f
nothing_sketched {w = w} {v = v} cons (function_read l vs ll c f u is parsed read by) =
    let b = begins w.heap nil nil (l ∷ vs) v cons (elements_found w.heap v (l ∷ vs) is) in
    let first : l ≡ nil = cc b.is in
    let none : ll ≡ no_list = empty_list w.heap w.table ll (subst (λ (x : Val). lambda_list w.heap w.table x ≡ Some ll) first parsed) in
    shaped_as (subst (λ (x : LambdaList). Shaped w None x c f u) none by)

data FunctionOfNothing : Core → Type 0 where
  function_of_nothing : {p : Place} {l : Lambda} → TakesNothing l → FunctionOfNothing (tree.Function p l)

function_made : {sc : Scope} {f : Function} {w after : World} {e : Core} → NoParameters f → Made sc (function f) w e after → FunctionOfNothing e
function_made h (made_function k) = function_of_nothing (nothing_taken h k)

-- ---- FUNCTION

abbrev FunctionPlan : Plan → Type 0
FunctionPlan (instead v) = ⊥
FunctionPlan (declared_around d v) = ⊥
FunctionPlan (makes x) = (f : Function) × (x ≡ function f) × NoParameters f

lambda_tail : (heap : List Object) (v tail : Val) → cons_at heap v ≡ Some (Sym at.LAMBDA, tail) → lambda_in heap v ≡ Some tail
lambda_tail heap v tail is = ap (λ (c : Option (Val × Val)). option_and_then (λ (p : Val × Val). if is_symbol_number (number_of at.LAMBDA) p.0 then Some p.1 else None) c) is

function_operated : {sc : Scope} {w u : World} {arguments v : Val} {p : Plan} → IsThunk w.heap v → Operated sc w arguments op.Function (v ∷ []) p u → FunctionPlan p
function_operated t (names_local s f given) = absurd (let e = t.first in cc)
function_operated t (names_global s given) = absurd (let e = t.first in cc)
function_operated {w = w} t (makes_function o x f u given by) =
    let tail : t.tail ≡ x = let e = lambda_tail w.heap (Ref o) t.tail t.first in cc in
    (f, refl, nothing_sketched (subst (λ (y : Val). cons_at w.heap y ≡ Some (nil, nil)) tail t.second) by)

function_planned : (sc : Scope) (w u : World) (v : Val) (p : Plan) → function_at sc at.FUNCTION ≡ None → IsThunkFunction w.heap v → plan_of sc v w ≡ gives p u → FunctionPlan p
unfolding operator_of
function_planned sc w u v p free h is =
    let o = operator_form sc w at.FUNCTION h.arguments v op.Function p u h.first free refl refl is in
    function_operated h.is_thunk (subst (λ (vs : List Val). Operated sc w h.arguments op.Function vs p u) (one_element w.heap h.arguments h.thunk o.values h.second o.are) o.by)

-- (FUNCTION (LAMBDA ()))
function_form : {sc : Scope} {v : Val} {w after : World} {e : Core} {s : SymId} → IsApart s → OnlyFunction s sc → IsThunkFunction w.heap v → MadeForm sc v w e after → FunctionOfNothing e
function_form {sc = sc} {s = s} a only h (made_instead {v = v} {w = w} plan k) =
    absurd (function_planned (at_form w.heap v sc) w _ v _ (others_free s at.FUNCTION _ (only_at w.heap v only) a.function) h plan)
function_form {sc = sc} {s = s} a only h (made_around {v = v} {w = w} plan k) =
    absurd (function_planned (at_form w.heap v sc) w _ v _ (others_free s at.FUNCTION _ (only_at w.heap v only) a.function) h plan)
function_form {sc = sc} {s = s} a only h (made_makes {v = v} {w = w} {u = u} {after = after} {e = e} plan k) =
    let f = function_planned (at_form w.heap v sc) w u v _ (others_free s at.FUNCTION _ (only_at w.heap v only) a.function) h plan in
    function_made f.2 (subst (λ (x : Sketch). Made (at_form w.heap v sc) x u e after) f.1 k)

-- ---- LAMBDA

abbrev LambdaPlan : Plan → World → Type 0
LambdaPlan (instead v) u = IsThunkFunction u.heap v
LambdaPlan (declared_around d v) u = ⊥
LambdaPlan (makes x) u = ⊥

-- the form that the macro gives
abbrev LambdaExpanded : Expanded → Type 0
LambdaExpanded (makes_form v table heap) = IsThunkFunction heap v
LambdaExpanded (bad place) = Unit {0}
LambdaExpanded full = Unit {0}

lambda_row_by : (table : Table) (heap : List Object) (rest : Val) (place : Option Place) (found : Option (List Val)) → ((xs : List Val) → found ≡ Some xs → xs ≡ nil ∷ []) →
    LambdaExpanded (expanded_by (option_and_then (row macros.Lambda heap rest) found) place table heap)
unfolding fresh_symbols built_around
lambda_row_by table heap rest place None h = tt
lambda_row_by table heap rest place (Some xs) h =
    subst (λ (vs : List Val). LambdaExpanded (expanded_by (row macros.Lambda heap rest vs) place table heap)) (sym (h xs refl)) (thunk_function_reads heap)

lambda_expanded : (table : Table) (heap : List Object) (v : Val) → IsThunk heap v → LambdaExpanded (expanded_form table heap v)
unfolding expanded_form expanded arguments_row
lambda_expanded table heap v h =
    let macro : macro_of_form heap v ≡ Some macros.Lambda = ap (λ (c : Option (Val × Val)). option_and_then (λ (p : Val × Val). macro_of_symbol p.0) c) h.first in
    let tail : rest_of heap v ≡ h.tail = ap rest_by h.first in
    subst (λ (m : Option Macro). LambdaExpanded (expanded_as m table heap v)) (sym macro)
    (subst (λ (t : Val). LambdaExpanded (expanded_by (option_and_then (row macros.Lambda heap (rest_of heap t)) (elements heap t)) (place_at heap v) table heap)) (sym tail)
    (lambda_row_by table heap (rest_of heap h.tail) (place_at heap v) (elements heap h.tail) (λ xs there. one_element heap h.tail nil xs h.second (elements_found heap h.tail xs there))))

expansion_planned : (sc : Scope) (w : World) (x : Expanded) → LambdaExpanded x → OnGives LambdaPlan (expansion_or sc x w)
unfolding expansion_or refuse
expansion_planned sc w (makes_form v table heap) h = h
expansion_planned sc w (bad place) h = tt
expansion_planned sc w full h = tt

macro_planned : (sc : Scope) (w : World) (v : Val) → IsThunk w.heap v → OnGives LambdaPlan (macro_plan sc v w)
unfolding macro_plan
macro_planned sc w v h = expansion_planned sc w (expanded_form w.table w.heap v) (lambda_expanded w.table w.heap v h)

lambda_planned : (sc : Scope) (w u : World) (v : Val) (p : Plan) → function_at sc at.LAMBDA ≡ None → IsThunk w.heap v → plan_of sc v w ≡ gives p u → LambdaPlan p u
unfolding global_plan
lambda_planned sc w u v p free h is =
    given_has LambdaPlan (macro_plan sc v w) p u (macro_planned sc w v h) (sym (global_plan_of sc w at.LAMBDA h.tail v h.first free) ∙ is)

-- (LAMBDA ())
lambda_form : {sc : Scope} {v : Val} {w after : World} {e : Core} {s : SymId} → IsApart s → OnlyFunction s sc → IsThunk w.heap v → MadeForm sc v w e after → FunctionOfNothing e
lambda_form {sc = sc} {s = s} a only h (made_instead {v = v} {w = w} {u = u} plan k) =
    let own = only_at w.heap v only in
    function_form a own (lambda_planned (at_form w.heap v sc) w u v _ (others_free s at.LAMBDA _ own a.lambda) h plan) k
lambda_form {sc = sc} {s = s} a only h (made_around {v = v} {w = w} plan k) =
    absurd (lambda_planned (at_form w.heap v sc) w _ v _ (others_free s at.LAMBDA _ (only_at w.heap v only) a.lambda) h plan)
lambda_form {sc = sc} {s = s} a only h (made_makes {v = v} {w = w} plan k) =
    absurd (lambda_planned (at_form w.heap v sc) w _ v _ (others_free s at.LAMBDA _ (only_at w.heap v only) a.lambda) h plan)

-- ---- FUNCALL

abbrev FuncallPlan : World → (f x : Val) → Plan → World → Type 0
FuncallPlan w f x (instead v) u = ⊥
FuncallPlan w f x (declared_around d v) u = ⊥
FuncallPlan w f x (makes y) u = (y ≡ calling Funcalling (form f) (sketch (form x) no_sketch)) × (u ≡ w)

funcall_operated : {sc : Scope} {w u : World} {arguments f x : Val} {p : Plan} → Operated sc w arguments op.Funcall (f ∷ x ∷ []) p u → FuncallPlan w f x p u
funcall_operated (calls_value f vs few) = (refl, refl)

funcall_planned : (sc : Scope) (w u : World) (v : Val) (p : Plan) → function_at sc at.FUNCALL ≡ None → (h : IsRefusal w.heap v) → plan_of sc v w ≡ gives p u →
    FuncallPlan w h.thunk h.given p u
unfolding operator_of
funcall_planned sc w u v p free h is =
    let o = operator_form sc w at.FUNCALL h.arguments v op.Funcall p u h.first free refl refl is in
    funcall_operated (subst (λ (vs : List Val). Operated sc w h.arguments op.Funcall vs p u) (two_elements w.heap h.arguments h.thunk h.rest h.given o.values h.second h.third o.are) o.by)

refused_by : (p : Place) (x : Core) {e : Core} → FunctionOfNothing e → is_refused_call (tree.Funcall p e (core x no_core)) ≡ true
refused_by p x (function_of_nothing takes_nothing) = refl

call_made : {sc : Scope} {f x : Val} {w after : World} {e : Core} {s : SymId} → IsApart s → OnlyFunction s sc → IsThunk w.heap f →
    Made sc (calling Funcalling (form f) (sketch (form x) no_sketch)) w e after → is_refused_call e ≡ true
call_made {sc = sc} a only h (made_calling fits (made_form k) (more_parts {e = x} l no_parts)) = refused_by sc.place x (lambda_form a only h k)

-- (FUNCALL (LAMBDA ()) X)
pub refusal_form : {sc : Scope} {v : Val} {w after : World} {e : Core} {s : SymId} → IsApart s → OnlyFunction s sc → IsRefusal w.heap v → MadeForm sc v w e after →
    is_refused_call e ≡ true
refusal_form {sc = sc} {s = s} a only h (made_instead {v = v} {w = w} plan k) =
    absurd (funcall_planned (at_form w.heap v sc) w _ v _ (others_free s at.FUNCALL _ (only_at w.heap v only) a.funcall) h plan)
refusal_form {sc = sc} {s = s} a only h (made_around {v = v} {w = w} plan k) =
    absurd (funcall_planned (at_form w.heap v sc) w _ v _ (others_free s at.FUNCALL _ (only_at w.heap v only) a.funcall) h plan)
refusal_form {sc = sc} {s = s} a only h (made_makes {v = v} {w = w} {u = u} {after = after} {x = x} {e = e} plan k) =
    let own = only_at w.heap v only in
    let f = funcall_planned (at_form w.heap v sc) w u v (makes x) (others_free s at.FUNCALL _ own a.funcall) h plan in
    let same : w ≡ u = sym f.1 in
    call_made a own (subst (λ (t : World). IsThunk t.heap h.thunk) same h.is_thunk) (subst (λ (y : Sketch). Made (at_form w.heap v sc) y u e after) f.0 k)
