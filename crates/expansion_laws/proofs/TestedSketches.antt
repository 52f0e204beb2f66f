-- Sketches that set no lexical variable but by a form that is a variable's new value, and what is proclaimed by what is to be done with a form.
use Rattle.std.specs.Prelude.{◌≡◌, List, [], ◌∷◌, ◌++◌, Option, Some, None}
use Rattle.std.specs.Option.{option_map, option_and_then}
use Rattle.std.proofs.Common.{refl, subst, sym}
use Rattle.lisp_base.specs.declared.primitives.Primitive.{Primitive as Operation}
use Rattle.lisp_base.specs.declared.values.SymId.{SymId}
use Rattle.lisp_base.specs.declared.values.Val.{Val}
use Rattle.lisp_base.specs.Spec.{Spec}
use Rattle.lisp_base.specs.Tables.{Table}
use Rattle.declarations.specs.Declarations.{Typed, Declared}
use Rattle.lambda_lists.specs.LambdaLists.{LambdaList}
use Rattle.expansion.specs.declared.heads.Target.{Target}
use Rattle.expansion.specs.declared.heads.Target.TheVariants.{Lexical, Global}
use Rattle.expansion.specs.declared.operator.Operator.{Operator}
use Rattle.expansion.specs.Scopes.{Scope, types_set, types_used, variable_at}
use Rattle.expansion.specs.Steps.{World}
use Rattle.expansion.specs.Sketches.{Sketch, form, leaf, one, two, choice, many, calling, bind, assign, function, functions, recursive, block, tagbody, within, Sketches, no_sketch, sketch, Function, function_of, sketches, forms, progn, body, primitive, checked as tested_for, Checking, Plan, instead, declared_around, makes}
use Rattle.expansion.specs.Bindings.{Contents, let_sketch, let_in_order, nested, in_block, body_within, plain_function, keyed_function, parameter_names, names}
use Rattle.expansion.specs.Calls.{folded}
use Rattle.expansion.specs.Forms.{variable_in, reference, use_of, proclaimed, set_target, settings, definition, with_proclaimed, global_set, unless_bound, plan_of}
use Rattle.expansion_laws.specs.Planned.{Shaped, without_keys, with_keys, Sketched, function_read, WrittenOtherwise, sum_of_none, product_of_none, all_bits, itself, fold_of, negated, and_one, on_both, read_default, read_stream, read_end, read_all, signalled, tested, CalledGlobal, directly, by_primitive, as_function, Operated, quotes, names_local, names_global, makes_function, sets, chooses, chooses_either, does_nothing, does_one, does_each, binds, binds_in_order, binds_functions, binds_recursive, declares_nothing, declares_one, declares_each, checks, names_block, returns_nil, returns, has_tags, goes, catches, throws, unwinds, calls_with_values, keeps_values, gives_values, calls_value, applies, tests, defines, proclaims, proclaims_value, gives_parameter, gives_constant, declaims, uses_package, Planned, an_integer, a_character, a_constant, a_variable, an_object, local_call, macro_form, operator_form, global_call_of, lambda_let, lambda_called}
use Rattle.expansion_laws.proofs.Giving.{weaker}
use Rattle.expansion_laws.proofs.Holding.{OnFound, found_has}
use Rattle.expansion_laws.proofs.Planning.{plan_derived}
use Rattle.expansion_laws.proofs.TestedSteps.{Grown, grown_same, grown_on, grown_more, Since}
use Rattle.expansion_laws.proofs.TestedNodes.{SetsNoLocal}

abbrev mutual
  pub Plain : Sketch → Type 0
  Plain (form v) = Unit {0}
  Plain (leaf l) = Unit {0}
  Plain (one u x) = SetsNoLocal u × Plain x
  Plain (two b x y) = Plain x × Plain y
  Plain (choice x y z) = Plain x × (Plain y × Plain z)
  Plain (many m xs) = AllPlain xs
  Plain (calling c x xs) = Plain x × AllPlain xs
  Plain (bind bs x) = Plain x
  Plain (assign s v) = Unit {0}
  Plain (function f) = PlainFunction f
  Plain (functions reach vs x) = Plain x
  Plain (recursive s f) = PlainFunction f
  Plain (block s x) = Plain x
  Plain (tagbody vs) = Unit {0}
  Plain (within d x) = Plain x

  pub AllPlain : Sketches → Type 0
  AllPlain no_sketch = Unit {0}
  AllPlain (sketch x xs) = Plain x × AllPlain xs

  pub PlainFunction : Function → Type 0
  PlainFunction (function_of required optionals rest x) = Plain x

abbrev pub PlainPlan : Plan → Type 0
PlainPlan (instead v) = Unit {0}
PlainPlan (declared_around d v) = Unit {0}
PlainPlan (makes x) = Plain x

-- ---- sketches that are often needed

forms_plain : (vs : List Val) → AllPlain (sketches (forms vs))
forms_plain [] = tt
forms_plain (v ∷ vs) = (tt, forms_plain vs)

progn_plain : (xs : List Sketch) → AllPlain (sketches xs) → Plain (progn xs)
progn_plain [] h = tt
progn_plain (x ∷ []) h = h.0
progn_plain (x ∷ y ∷ xs) h = h

body_plain : (vs : List Val) → Plain (body vs)
body_plain vs = progn_plain (forms vs) (forms_plain vs)

pub tested_plain : (ts : List Spec) (x : Sketch) → Plain x → Plain (tested_for ts x)
tested_plain [] x h = h
tested_plain (t ∷ ts) x h = tested_plain ts (one (Checking t) x) (tt, h)

folded_plain : (o : Operation) (x : Sketch) (vs : List Val) → Plain x → Plain (folded o x vs)
folded_plain o x [] h = h
folded_plain o x (v ∷ vs) h = folded_plain o (primitive o (x ∷ form v ∷ [])) vs (h, (tt, tt))

nested_plain : (d : Declared) (bs : List (SymId × Val)) (x : Sketch) → Plain x → Plain (nested d bs x)
nested_plain d [] x h = h
nested_plain d (p ∷ bs) x h = nested_plain d bs x h

in_order_plain : (d : Declared) (bs : List (SymId × Val)) (x : Sketch) → Plain x → Plain (let_in_order d bs x)
unfolding let_in_order
in_order_plain d [] x h = h
in_order_plain d (p ∷ bs) x h = nested_plain d (p ∷ bs) x h

let_plain : (d : Declared) (bs : List (SymId × Val)) (x : Sketch) → Plain x → Plain (let_sketch d bs x)
unfolding let_sketch
let_plain d bs x h = h

-- ---- functions

in_block_plain : (name : Option SymId) (x : Sketch) → Plain x → Plain (in_block name x)
in_block_plain None x h = h
in_block_plain (Some s) x h = h

within_plain : (bound : List SymId) (name : Option SymId) (c : Contents) → Plain (body_within bound name c)
within_plain bound name c = in_block_plain name (body c.forms) (body_plain c.forms)

shaped_plain : (w : World) (name : Option SymId) (l : LambdaList) (c : Contents) (f : Function) (u : World) → Shaped w name l c f u → PlainFunction f × (u.declaimed ≡ w.declaimed)
unfolding plain_function keyed_function
shaped_plain w name l c f u (without_keys none) =
    (nested_plain c.declared l.auxiliary (body_within (parameter_names l l.rest ++ names l.auxiliary) name c) (within_plain (parameter_names l l.rest ++ names l.auxiliary) name c), refl)
shaped_plain w name l c f u (with_keys ks rest fresh k table heap some by made) =
    let bound : List SymId = parameter_names l (Some rest) ++ names (k.bindings ++ l.auxiliary) in
    ((tt, (in_order_plain c.declared (k.bindings ++ l.auxiliary) (body_within bound name c) (within_plain bound name c), tt)), refl)

pub sketched_plain : (sc : Scope) (name : Option SymId) (w : World) (v : Val) (f : Function) (u : World) → Sketched sc name w v f u → PlainFunction f × (u.declaimed ≡ w.declaimed)
sketched_plain sc name w v f u (function_read l vs ll c g t listed shape read by) = shaped_plain w name ll c g t by

definition_plain : (s : SymId) (f : Function) → PlainFunction f → Plain (definition s f)
unfolding definition
definition_plain s f h = ((tt, h), (tt, tt))

-- ---- variables

reference_plain : (t : Target) → Plain (reference t)
reference_plain (Lexical n) = tt
reference_plain (Global s) = tt

use_plain : (sc : Scope) (t : Target) → Plain (use_of sc t)
use_plain sc t = tested_plain (types_used sc t) (reference t) (reference_plain t)

pub set_global_plain : (sc : Scope) (g : SymId) (s : SymId) (v : Val) (w : World) → Plain (set_target sc (Global g) s (form v) w)
set_global_plain sc g s v w = (tt, tested_plain (proclaimed w.declaimed s ++ types_set sc (Global g)) (form v) tt)

global_set_plain : (sc : Scope) (s : SymId) (v : Val) (w : World) → Plain (global_set sc s v w)
unfolding global_set
global_set_plain sc s v w = set_global_plain sc s s v w

unless_bound_plain : (s : SymId) (x : Sketch) → Plain x → Plain (unless_bound s x)
unfolding unless_bound
unless_bound_plain s x h = ((tt, tt), (tt, h))

setting_more : (e : Val) (s : Option SymId) (xs : Option (List Sketch)) → OnFound (λ (ys : List Sketch). AllPlain (sketches ys)) xs → OnFound (λ (ys : List Sketch). AllPlain (sketches ys)) (option_and_then (λ (t : SymId). option_map (λ (ys : List Sketch). assign t e ∷ ys) xs) s)
setting_more e None xs h = tt
setting_more e (Some s) None h = tt
setting_more e (Some s) (Some xs) h = (tt, h)

settings_plain : (table : Table) (vs : List Val) → OnFound (λ (ys : List Sketch). AllPlain (sketches ys)) (settings table vs)
settings_plain table [] = tt
settings_plain table (v ∷ []) = tt
settings_plain table (v ∷ e ∷ vs) = setting_more e (variable_in table v) (settings table vs) (settings_plain table vs)

-- ---- what is to be done with a form

written_plain : (vs : List Val) (x : Sketch) → WrittenOtherwise vs x → Plain x
written_plain vs x sum_of_none = tt
written_plain vs x product_of_none = tt
written_plain vs x all_bits = tt
written_plain vs x (itself v) = (tt, tt)
written_plain vs x (fold_of o v y ys takes) = folded_plain o (form v) (y ∷ ys) tt
written_plain vs x (negated v) = (tt, (tt, tt))
written_plain vs x (and_one o v takes) = (tt, (tt, tt))
written_plain vs x (on_both o v y takes) = (tt, (tt, tt))
written_plain vs x read_default = (tt, (tt, (tt, tt)))
written_plain vs x (read_stream s) = (tt, (tt, (tt, tt)))
written_plain vs x (read_end s e) = (tt, (tt, (tt, tt)))
written_plain vs x (read_all s e v) = (tt, (tt, (tt, tt)))
written_plain vs x (signalled v ys) = (tt, (forms_plain ys, tt))
written_plain vs x (tested t v) = (tt, tt)

called_plain : (s : SymId) (vs : List Val) (x : Sketch) → CalledGlobal s vs x → Plain x
called_plain s vs x (directly d y of_symbol is by) = written_plain vs y by
called_plain s vs x (by_primitive o is takes) = forms_plain vs
called_plain s vs x as_function = forms_plain vs

-- a plan of a plain sketch, with what has been proclaimed still proclaimed
abbrev PlainThen : World → Plan → World → Type 0
PlainThen w p u = PlainPlan p × Grown w.declaimed u.declaimed

same : (w : World) (p : Plan) → PlainPlan p → PlainThen w p w
same w p h = (h, grown_same w.declaimed)

function_then : (w : World) (f : Function) (u : World) → PlainFunction f × (u.declaimed ≡ w.declaimed) → Grown w.declaimed u.declaimed
function_then w f u h = subst (λ (ds : List Typed). Grown w.declaimed ds) (sym h.1) (grown_same w.declaimed)

operated_plain : (sc : Scope) (w : World) (arguments : Val) (o : Operator) (vs : List Val) (p : Plan) (u : World) → Operated sc w arguments o vs p u → PlainThen w p u
operated_plain sc w arguments o vs p u (quotes v) = same w p tt
operated_plain sc w arguments o vs p u (names_local s f is) = same w p tt
operated_plain sc w arguments o vs p u (names_global s is) = same w p tt
operated_plain sc w arguments o vs p u (makes_function at v f t is by) = let h = sketched_plain sc None w v f t by in (h.0, function_then w f t h)
operated_plain sc w arguments o vs p u (sets ys xs is) = same w p (progn_plain xs (found_has (λ (zs : List Sketch). AllPlain (sketches zs)) (settings w.table ys) xs (settings_plain w.table ys) is))
operated_plain sc w arguments o vs p u (chooses a b) = same w p (tt, (tt, tt))
operated_plain sc w arguments o vs p u (chooses_either a b c) = same w p (tt, (tt, tt))
operated_plain sc w arguments o vs p u does_nothing = same w p tt
operated_plain sc w arguments o vs p u (does_one v) = same w p tt
operated_plain sc w arguments o vs p u (does_each v x xs) = same w p (body_plain (v ∷ x ∷ xs))
operated_plain sc w arguments o vs p u (binds v ys bs c is read) = same w p (let_plain c.declared bs (body c.forms) (body_plain c.forms))
operated_plain sc w arguments o vs p u (binds_in_order v ys bs c is read) = same w p (in_order_plain c.declared bs _ (body_plain c.forms))
operated_plain sc w arguments o vs p u (binds_functions v ys ds c is read) = same w p (body_plain c.forms)
operated_plain sc w arguments o vs p u (binds_recursive v ys ds c is read) = same w p (body_plain c.forms)
operated_plain sc w arguments o vs p u (declares_nothing ys c read is) = same w p (body_plain [])
operated_plain sc w arguments o vs p u (declares_one ys c v read is) = same w p tt
operated_plain sc w arguments o vs p u (declares_each ys c v x xs read is) = same w p (body_plain (v ∷ x ∷ xs))
operated_plain sc w arguments o vs p u (checks t v spec is) = same w p (tt, tt)
operated_plain sc w arguments o vs p u (names_block s ys) = same w p (body_plain ys)
operated_plain sc w arguments o vs p u (returns_nil s b is) = same w p (tt, tt)
operated_plain sc w arguments o vs p u (returns s v b is) = same w p (tt, tt)
operated_plain sc w arguments o vs p u (has_tags ys is) = same w p tt
operated_plain sc w arguments o vs p u (goes t n is) = same w p tt
operated_plain sc w arguments o vs p u (catches t ys) = same w p (tt, body_plain ys)
operated_plain sc w arguments o vs p u (throws t v) = same w p (tt, tt)
operated_plain sc w arguments o vs p u (unwinds v ys) = same w p (tt, body_plain ys)
operated_plain sc w arguments o vs p u (calls_with_values f ys) = same w p (tt, forms_plain ys)
operated_plain sc w arguments o vs p u (keeps_values v ys) = same w p (tt, body_plain ys)
operated_plain sc w arguments o vs p u (gives_values ys few) = same w p (forms_plain ys)
operated_plain sc w arguments o vs p u (calls_value f ys few) = same w p (tt, forms_plain ys)
operated_plain sc w arguments o vs p u (applies f v ys few) = same w p (tt, forms_plain (v ∷ ys))
operated_plain sc w arguments o vs p u (tests v t type spec quoted is) = same w p (tt, tt)
operated_plain sc w arguments o vs p u (defines n ys s f t named by) = let h = sketched_plain sc (Some s) w _ f t by in (definition_plain s f h.0, function_then w f t h)
operated_plain sc w arguments o vs p u (proclaims n s is) = (tt, grown_same w.declaimed)
operated_plain sc w arguments o vs p u (proclaims_value n v x ys s named is) = ((unless_bound_plain s _ (global_set_plain sc s x (with_proclaimed s w)), (tt, tt)), grown_same w.declaimed)
operated_plain sc w arguments o vs p u (gives_parameter n x ys s named is) = ((global_set_plain sc s x (with_proclaimed s w), (tt, tt)), grown_same w.declaimed)
operated_plain sc w arguments o vs p u (gives_constant n x ys s named is) = ((global_set_plain sc s x (with_proclaimed s w), (tt, tt)), grown_same w.declaimed)
operated_plain sc w arguments o vs p u (declaims ys d is) = (tt, grown_more w.declaimed d.types)
operated_plain sc w arguments o vs p u (uses_package n is) = same w p tt

planned_plain : (sc : Scope) (w : World) (v : Val) (p : Plan) (u : World) → Planned sc w v p u → PlainThen w p u
planned_plain sc w v p u (an_integer z) = same w p tt
planned_plain sc w v p u (a_character c) = same w p tt
planned_plain sc w v p u (a_constant s is) = same w p tt
planned_plain sc w v p u (a_variable s is) = same w p (use_plain sc (variable_at sc s))
planned_plain sc w v p u (an_object o is) = same w p tt
planned_plain sc w v p u (local_call o s arguments f vs is bound listed few) = same w p (forms_plain vs)
planned_plain sc w v p u (macro_form o s arguments x table heap is free macro made) = (tt, grown_same w.declaimed)
planned_plain sc w v p u (operator_form o s arguments operator vs r t is free macro named listed by) = operated_plain sc w arguments operator vs r t by
planned_plain sc w v p u (global_call_of o s arguments vs x is free macro none kept other listed few by) = same w p (called_plain s vs x by)
planned_plain sc w v p u (lambda_let o l arguments lambda vs fs bs c is given listed few bindings read) = same w p (let_plain c.declared bs (body c.forms) (body_plain c.forms))
planned_plain sc w v p u (lambda_called o l arguments lambda vs is given listed few bindings) = same w p (tt, forms_plain vs)

pub plan_plain : (ds : List Typed) (sc : Scope) (v : Val) → Since ds PlainPlan (plan_of sc v)
plan_plain ds sc v w g =
    weaker (Planned sc w v) (λ (p : Plan) (u : World). PlainPlan p × Grown ds u.declaimed) (plan_of sc v w) (plan_derived sc w v) (λ p u by.
    let h = planned_plain sc w v p u by in (h.0, grown_on ds w.declaimed u.declaimed g h.1))
