-- What is to be done with a form is derived.
use Rattle.std.specs.Prelude.{◌≡◌, ℕ, Bool, true, false, nat_le, ◌==◌, if◌then◌else◌, List, length, Option, Some, None}
use Rattle.std.proofs.Common.{refl}
use Rattle.lisp_base.specs.declared.base_symbols.TheConstants as at
use Rattle.lisp_base.specs.declared.values.ObjId.{ObjId}
use Rattle.lisp_base.specs.declared.values.SymId.{SymId}
use Rattle.lisp_base.specs.declared.values.Val.{Val}
use Rattle.lisp_base.specs.declared.values.Val.TheVariants.{Int, Char, Sym, Ref}
use Rattle.lisp_base.specs.Sort.{number_of}
use Rattle.lisp_forms.specs.Conses.{cons_at, elements}
use Rattle.core_form.specs.Primitives.{most_arguments}
use Rattle.std_macros.specs.Expanding.{Expanded, gives as makes_form, bad, full, expanded_form, macro_of_form}
use Rattle.expansion.specs.declared.kind.ExpandKind.TheVariants.{BadForm, UnknownOperator}
use Rattle.expansion.specs.declared.operator.Operator.{Operator}
use Rattle.expansion.specs.Operators.{operator_of, is_left_out}
use Rattle.expansion.specs.Scopes.{Scope, function_at}
use Rattle.expansion.specs.Steps.{World, gives, and_then, ◌>>=◌, ◌>>◌, pure, refuse, expect, given_or, only_if, look}
use Rattle.expansion.specs.Sketches.{Sketch, body, Plan, makes}
use Rattle.expansion.specs.Bindings.{let_sketch}
use Rattle.expansion.specs.Calls.{few, global_call, calls_local}
use Rattle.expansion.specs.Forms.{makes_node, is_constant_symbol, lambda_in, operator_plan, operated, expansion_or, macro_plan, called, global_plan, is_macro, named_plan, lambda_bindings, lambda_call, is_given, lambda_plan_of, symbol_plan, list_plan, plan_of}
use Rattle.expansion_laws.specs.Planned.{Planned, Operated, an_integer, a_character, a_constant, a_variable, an_object, local_call, macro_form, operator_form, global_call_of, lambda_let, lambda_called}
use Rattle.expansion_laws.proofs.Giving.{OnGives, given_has, weaker, found_gives, nested_gives, test_gives}
use Rattle.expansion_laws.proofs.FunctionPlans.{contents_give}
use Rattle.expansion_laws.proofs.OperatorPlans.{operator_derived}
use Rattle.expansion_laws.proofs.CallPlans.{called_global}

module _ (sc : Scope) (w : World) where
  abbrev Goal : Val → Plan → World → Type 0
  Goal v = Planned sc w v

  called_derived : (v : Val) (make : List Val → Sketch) (arguments : Val) → ((vs : List Val) → elements w.heap arguments ≡ Some vs → nat_le (length vs) most_arguments ≡ true → Planned sc w v (makes (make vs)) w) → OnGives (Planned sc w v) (called sc make arguments w)
  unfolding called few expect look makes_node pure ◌>>=◌ ◌>>◌
  called_derived v make arguments rule =
      found_gives (Goal v) BadForm sc (elements w.heap arguments) w (λ vs u. and_then (only_if sc (nat_le (length vs) most_arguments) u) (λ _. makes_node (make vs))) (λ vs is.
      test_gives (Goal v) sc (nat_le (length vs) most_arguments) w (makes_node (make vs)) (λ few. rule vs is few))

  module _ (o : ObjId) (s : SymId) (arguments : Val) (is : cons_at w.heap (Ref o) ≡ Some (Sym s, arguments)) where
    macro_derived : function_at sc s ≡ None → is_macro (macro_of_form w.heap (Ref o)) ≡ true → (made : Expanded) → expanded_form w.table w.heap (Ref o) ≡ made → OnGives (Planned sc w (Ref o)) (expansion_or sc made w)
    unfolding expansion_or refuse
    macro_derived free macro (makes_form v table heap) made = macro_form o s arguments v table heap is free macro made
    macro_derived free macro (bad place) made = tt
    macro_derived free macro full made = tt

    operated_derived : function_at sc s ≡ None → is_macro (macro_of_form w.heap (Ref o)) ≡ false → (op : Operator) → operator_of s ≡ Some op → OnGives (Planned sc w (Ref o)) (operated op sc arguments w)
    unfolding operated expect look ◌>>=◌
    operated_derived free no_macro op names =
        found_gives (Goal (Ref o)) BadForm sc (elements w.heap arguments) w (operator_plan op sc arguments) (λ vs listed.
        weaker (Operated sc w arguments op vs) (Planned sc w (Ref o)) (operator_plan op sc arguments vs w) (operator_derived sc w arguments op vs) (λ p u by.
        operator_form o s arguments op vs p u is free no_macro names listed by))

    global_call_derived : function_at sc s ≡ None → is_macro (macro_of_form w.heap (Ref o)) ≡ false → operator_of s ≡ None → is_left_out s ≡ false → (number_of s == number_of at.DECLARE) ≡ false → OnGives (Planned sc w (Ref o)) (called sc (global_call s) arguments w)
    global_call_derived free no_macro none kept other =
        called_derived (Ref o) (global_call s) arguments (λ vs listed few.
        global_call_of o s arguments vs (global_call s vs) is free no_macro none kept other listed few (called_global s vs))

    no_declare : function_at sc s ≡ None → is_macro (macro_of_form w.heap (Ref o)) ≡ false → operator_of s ≡ None → is_left_out s ≡ false → (b : Bool) → (number_of s == number_of at.DECLARE) ≡ b → OnGives (Planned sc w (Ref o)) ((if b then refuse BadForm sc else called sc (global_call s) arguments) w)
    unfolding refuse
    no_declare free no_macro none kept true other = tt
    no_declare free no_macro none kept false other = global_call_derived free no_macro none kept other

    not_left_out : function_at sc s ≡ None → is_macro (macro_of_form w.heap (Ref o)) ≡ false → operator_of s ≡ None → (b : Bool) → is_left_out s ≡ b → OnGives (Planned sc w (Ref o)) ((if b then refuse UnknownOperator sc else (if number_of s == number_of at.DECLARE then refuse BadForm sc else called sc (global_call s) arguments)) w)
    unfolding refuse
    not_left_out free no_macro none true kept = tt
    not_left_out free no_macro none false kept = no_declare free no_macro none kept (number_of s == number_of at.DECLARE) refl

    global_derived : function_at sc s ≡ None → (macro : Bool) → is_macro (macro_of_form w.heap (Ref o)) ≡ macro → (found : Option Operator) → operator_of s ≡ found → OnGives (Planned sc w (Ref o)) (global_plan sc (Ref o) s arguments macro found w)
    unfolding global_plan macro_plan
    global_derived free true macro found names = macro_derived free macro (expanded_form w.table w.heap (Ref o)) refl
    global_derived free false macro None names = not_left_out free macro names (is_left_out s) refl
    global_derived free false macro (Some op) names = operated_derived free macro op names

    named_derived : (found : Option ℕ) → function_at sc s ≡ found → OnGives (Planned sc w (Ref o)) (named_plan sc (Ref o) s arguments found w)
    unfolding named_plan look ◌>>=◌
    named_derived None free = global_derived free (is_macro (macro_of_form w.heap (Ref o))) refl (operator_of s) refl
    named_derived (Some f) bound = called_derived (Ref o) (calls_local f) arguments (λ vs listed few. local_call o s arguments f vs is bound listed few)

  module _ (o l : ObjId) (arguments : Val) (is : cons_at w.heap (Ref o) ≡ Some (Ref l, arguments)) where
    lambda_call_derived : (lambda : Val) (vs : List Val) → lambda_in w.heap (Ref l) ≡ Some lambda → elements w.heap arguments ≡ Some vs → nat_le (length vs) most_arguments ≡ true → (found : Option (List (SymId × Val) × List Val)) → lambda_bindings (Ref l) vs w ≡ found → OnGives (Planned sc w (Ref o)) (lambda_call sc (Ref l) vs found w)
    unfolding lambda_call makes_node pure ◌>>=◌
    lambda_call_derived lambda vs given listed few None bindings = lambda_called o l arguments lambda vs is given listed few bindings
    lambda_call_derived lambda vs given listed few (Some p) bindings =
        contents_give (Goal (Ref o)) sc p.1 w (λ c. makes_node (let_sketch c.declared p.0 (body c.forms))) (λ c read.
        lambda_let o l arguments lambda vs p.1 p.0 c is given listed few bindings read)

    lambda_derived : (found : Option Val) → lambda_in w.heap (Ref l) ≡ found → OnGives (Planned sc w (Ref o)) (and_then (and_then (and_then (only_if sc (is_given found) w) (λ _ u. gives (elements u.heap arguments) u)) (λ listed u. given_or BadForm sc listed u)) (λ vs t. and_then (and_then (few sc vs t) (λ _ r. gives (lambda_bindings (Ref l) vs r) r)) (lambda_call sc (Ref l) vs)))
    unfolding few only_if pure refuse
    lambda_derived None given = tt
    lambda_derived (Some lambda) given =
        found_gives (Goal (Ref o)) BadForm sc (elements w.heap arguments) w (λ vs t. and_then (and_then (few sc vs t) (λ _ r. gives (lambda_bindings (Ref l) vs r) r)) (lambda_call sc (Ref l) vs)) (λ vs listed.
        nested_gives (Goal (Ref o)) (few sc vs w) (λ _ r. gives (lambda_bindings (Ref l) vs r) r) (lambda_call sc (Ref l) vs)
        (test_gives (Goal (Ref o)) sc (nat_le (length vs) most_arguments) w (λ r. lambda_call sc (Ref l) vs (lambda_bindings (Ref l) vs r) r) (λ few.
        lambda_call_derived lambda vs given listed few (lambda_bindings (Ref l) vs w) refl)))

    lambda_plan_derived : OnGives (Planned sc w (Ref o)) (lambda_plan_of sc (Ref l) arguments w)
    unfolding lambda_plan_of expect look ◌>>=◌ ◌>>◌
    lambda_plan_derived = lambda_derived (lambda_in w.heap (Ref l)) refl

  symbol_derived : (s : SymId) (b : Bool) → is_constant_symbol w.table s ≡ b → OnGives (Planned sc w (Sym s)) (symbol_plan sc s b w)
  unfolding symbol_plan makes_node pure
  symbol_derived s true is = a_constant s is
  symbol_derived s false is = a_variable s is

  list_derived : (o : ObjId) (found : Option (Val × Val)) → cons_at w.heap (Ref o) ≡ found → OnGives (Planned sc w (Ref o)) (list_plan sc (Ref o) found w)
  unfolding list_plan makes_node pure refuse
  list_derived o None is = an_object o is
  list_derived o (Some (Int z, arguments)) is = tt
  list_derived o (Some (Char c, arguments)) is = tt
  list_derived o (Some (Sym s, arguments)) is = named_derived o s arguments is (function_at sc s) refl
  list_derived o (Some (Ref l, arguments)) is = lambda_plan_derived o l arguments is

  pub plan_derived : (v : Val) → OnGives (Planned sc w v) (plan_of sc v w)
  unfolding plan_of makes_node look pure ◌>>=◌
  plan_derived (Int z) = an_integer z
  plan_derived (Char c) = a_character c
  plan_derived (Sym s) = symbol_derived s (is_constant_symbol w.table s) refl
  plan_derived (Ref o) = list_derived o (cons_at w.heap (Ref o)) refl

  pub planned : (v : Val) (p : Plan) (u : World) → plan_of sc v w ≡ gives p u → Planned sc w v p u
  planned v p u is = given_has (Planned sc w v) (plan_of sc v w) p u (plan_derived v) is
