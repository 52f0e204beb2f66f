-- What is to be done with a form has a sketch whose tree is checked.
use Rattle.std.specs.Prelude.{◌≡◌, ℕ, true, nat_le, List, [], ◌∷◌, length, Option, Some, None}
use Rattle.std.proofs.Common.{refl, sym, subst}
use Rattle.lisp_base.specs.declared.values.SymId.{SymId}
use Rattle.lisp_base.specs.declared.values.Val.{Val}
use Rattle.lisp_base.specs.declared.primitives.Primitive.TheVariants as q
use Rattle.core_form.specs.Checked as checked
use Rattle.core_form.specs.Primitives.{most_values, most_arguments}
use Rattle.lambda_lists.specs.LambdaLists.{LambdaList}
use Rattle.expansion.specs.declared.heads.Target.TheVariants.{Global}
use Rattle.expansion.specs.declared.operator.Operator.{Operator}
use Rattle.expansion.specs.Scopes.{Scope, variable_at}
use Rattle.expansion.specs.Steps.{World}
use Rattle.expansion.specs.Sketches.{Sketch, form, Function, sketches, forms, body, Plan, instead, declared_around, makes}
use Rattle.expansion.specs.Bindings.{Contents}
use Rattle.expansion.specs.Forms.{definition, with_proclaimed, global_set, unless_bound, settings}
use Rattle.expansion_laws.specs.Planned.{Shaped, without_keys, with_keys, Sketched, function_read, WrittenOtherwise, sum_of_none, product_of_none, all_bits, itself, fold_of, negated, and_one, on_both, read_default, read_stream, read_end, read_all, signalled, tested, CalledGlobal, directly, by_primitive, as_function, Operated, quotes, names_local, names_global, makes_function, sets, chooses, chooses_either, does_nothing, does_one, does_each, binds, binds_in_order, binds_functions, binds_recursive, declares_nothing, declares_one, declares_each, checks, names_block, returns_nil, returns, has_tags, goes, catches, throws, unwinds, calls_with_values, keeps_values, gives_values, calls_value, applies, tests, defines, proclaims, proclaims_value, gives_parameter, gives_constant, declaims, uses_package, Planned, an_integer, a_character, a_constant, a_variable, an_object, local_call, macro_form, operator_form, global_call_of, lambda_let, lambda_called}
use Rattle.expansion_laws.specs.CheckedTrees.{Holds}
use Rattle.expansion_laws.proofs.Among.{less_one, least, and_both}
use Rattle.expansion_laws.proofs.Holding.{found_has, function_known, block_known, tag_known, variable_known}
use Rattle.expansion_laws.proofs.CheckedSketches.{sketches_length, Fine, FineAll, FineFunction, forms_length, forms_fine, progn_fine, body_fine, primitive_fine, folded_fine, in_order_fine, let_fine, plain_fine, keyed_fine, use_fine, set_fine, settings_fine}

module _ (round : checked.Scope) where
  abbrev pub FinePlan : Plan → Type 0
  FinePlan (instead v) = Unit {0}
  FinePlan (declared_around d v) = Unit {0}
  FinePlan (makes x) = Fine round x

  few_forms : (most : ℕ) (vs : List Val) → nat_le (length vs) most ≡ true → nat_le (sketches_length (sketches (forms vs))) most ≡ true
  few_forms most vs h = subst (λ (n : ℕ). nat_le n most ≡ true) (sym (forms_length vs)) h

  shaped_fine : (w : World) (name : Option SymId) (l : LambdaList) (c : Contents) (f : Function) (u : World) → Shaped w name l c f u → FineFunction round f
  shaped_fine w name l c f u (without_keys none) = plain_fine round l name c
  shaped_fine w name l c f u (with_keys ks rest fresh k table heap some by made) = keyed_fine round l rest name c k

  pub function_fine : (sc : Scope) (name : Option SymId) (w : World) (v : Val) (f : Function) (u : World) → Sketched sc name w v f u → FineFunction round f
  function_fine sc name w v f u (function_read l vs ll c g t listed shape read by) = shaped_fine w name ll c g t by

  written_fine : (vs : List Val) (x : Sketch) → nat_le (length vs) most_arguments ≡ true → WrittenOtherwise vs x → Fine round x
  unfolding most_arguments
  written_fine vs x few sum_of_none = tt
  written_fine vs x few product_of_none = tt
  written_fine vs x few all_bits = tt
  written_fine vs x few (itself v) = (tt, tt)
  written_fine vs x few (fold_of o v y ys takes) = folded_fine round o (form v) (y ∷ ys) takes tt
  written_fine vs x few (negated v) = (refl, (tt, (tt, tt)))
  written_fine vs x few (and_one o v takes) = (takes, (tt, (tt, tt)))
  written_fine vs x few (on_both o v y takes) = (takes, (tt, (tt, tt)))
  written_fine vs x few read_default = (refl, (tt, (tt, (tt, tt))))
  written_fine vs x few (read_stream s) = (refl, (tt, (tt, (tt, tt))))
  written_fine vs x few (read_end s e) = (refl, (tt, (tt, (tt, tt))))
  written_fine vs x few (read_all s e v) = (refl, (tt, (tt, (tt, tt))))
  written_fine vs x few (signalled v ys) = (refl, (tt, (primitive_fine round q.List ys (and_both (nat_le 0 (length ys)) (nat_le (length ys) most_arguments) (least (length ys)) (less_one (length ys) most_arguments few)), tt)))
  written_fine vs x few (tested t v) = (tt, tt)

  called_fine : (s : SymId) (vs : List Val) (x : Sketch) → nat_le (length vs) most_arguments ≡ true → CalledGlobal s vs x → Fine round x
  called_fine s vs x few (directly d y of_symbol is by) = written_fine vs y few by
  called_fine s vs x few (by_primitive o is takes) = primitive_fine round o vs takes
  called_fine s vs x few as_function = (few_forms most_arguments vs few, forms_fine round vs)

  definition_fine : (s : SymId) (f : Function) → FineFunction round f → Fine round (definition s f)
  unfolding definition
  definition_fine s f h = (tt, ((tt, h), (tt, tt)))

  global_set_fine : (sc : Scope) (s : SymId) (v : Val) (w : World) → Fine round (global_set sc s v w)
  unfolding global_set
  global_set_fine sc s v w = set_fine round sc (Global s) s (form v) w tt tt

  unless_bound_fine : (s : SymId) (x : Sketch) → Fine round x → Fine round (unless_bound s x)
  unfolding unless_bound most_arguments
  unless_bound_fine s x h = ((refl, (tt, tt)), (tt, h))

  module _ (sc : Scope) (holds : Holds sc round) where
    pub operated_fine : (w : World) (arguments : Val) (o : Operator) (vs : List Val) (p : Plan) (u : World) → Operated sc w arguments o vs p u → FinePlan p
    operated_fine w arguments o vs p u (quotes v) = tt
    operated_fine w arguments o vs p u (names_local s f is) = function_known sc round holds s f is
    operated_fine w arguments o vs p u (names_global s is) = tt
    operated_fine w arguments o vs p u (makes_function at v f t is by) = function_fine sc None w v f t by
    operated_fine w arguments o vs p u (sets ys xs is) = progn_fine round xs (found_has (λ (zs : List Sketch). FineAll round (sketches zs)) (settings w.table ys) xs (settings_fine round w.table ys) is)
    operated_fine w arguments o vs p u (chooses a b) = (tt, (tt, tt))
    operated_fine w arguments o vs p u (chooses_either a b c) = (tt, (tt, tt))
    operated_fine w arguments o vs p u does_nothing = tt
    operated_fine w arguments o vs p u (does_one v) = tt
    operated_fine w arguments o vs p u (does_each v x xs) = body_fine round (v ∷ x ∷ xs)
    operated_fine w arguments o vs p u (binds v ys bs c is read) = let_fine round c.declared bs (body c.forms) (body_fine round c.forms)
    operated_fine w arguments o vs p u (binds_in_order v ys bs c is read) = in_order_fine round c.declared bs _ (body_fine round c.forms)
    operated_fine w arguments o vs p u (binds_functions v ys ds c is read) = body_fine round c.forms
    operated_fine w arguments o vs p u (binds_recursive v ys ds c is read) = body_fine round c.forms
    operated_fine w arguments o vs p u (declares_nothing ys c read is) = body_fine round []
    operated_fine w arguments o vs p u (declares_one ys c v read is) = tt
    operated_fine w arguments o vs p u (declares_each ys c v x xs read is) = body_fine round (v ∷ x ∷ xs)
    operated_fine w arguments o vs p u (checks t v spec is) = (tt, tt)
    operated_fine w arguments o vs p u (names_block s ys) = body_fine round ys
    operated_fine w arguments o vs p u (returns_nil s b is) = (block_known sc round holds s b is, tt)
    operated_fine w arguments o vs p u (returns s v b is) = (block_known sc round holds s b is, tt)
    operated_fine w arguments o vs p u (has_tags ys is) = tt
    operated_fine w arguments o vs p u (goes t n is) = tag_known sc round holds t n is
    operated_fine w arguments o vs p u (catches t ys) = (tt, body_fine round ys)
    operated_fine w arguments o vs p u (throws t v) = (tt, tt)
    operated_fine w arguments o vs p u (unwinds v ys) = (tt, body_fine round ys)
    operated_fine w arguments o vs p u (calls_with_values f ys) = (tt, (tt, forms_fine round ys))
    operated_fine w arguments o vs p u (keeps_values v ys) = (tt, body_fine round ys)
    operated_fine w arguments o vs p u (gives_values ys few) = (few_forms most_values ys few, forms_fine round ys)
    operated_fine w arguments o vs p u (calls_value f ys few) = (few_forms most_arguments ys few, (tt, forms_fine round ys))
    operated_fine w arguments o vs p u (applies f v ys few) = (few_forms most_arguments (v ∷ ys) few, (tt, forms_fine round (v ∷ ys)))
    operated_fine w arguments o vs p u (tests v t type spec quoted is) = (tt, tt)
    operated_fine w arguments o vs p u (defines n ys s f t named by) = definition_fine s f (function_fine sc (Some s) w _ f t by)
    operated_fine w arguments o vs p u (proclaims n s is) = tt
    operated_fine w arguments o vs p u (proclaims_value n v x ys s named is) = (tt, (unless_bound_fine s _ (global_set_fine sc s x (with_proclaimed s w)), (tt, tt)))
    operated_fine w arguments o vs p u (gives_parameter n x ys s named is) = (tt, (global_set_fine sc s x (with_proclaimed s w), (tt, tt)))
    operated_fine w arguments o vs p u (gives_constant n x ys s named is) = (tt, (global_set_fine sc s x (with_proclaimed s w), (tt, tt)))
    operated_fine w arguments o vs p u (declaims ys d is) = tt
    operated_fine w arguments o vs p u (uses_package n is) = tt

    pub planned_fine : (w : World) (v : Val) (p : Plan) (u : World) → Planned sc w v p u → FinePlan p
    planned_fine w v p u (an_integer z) = tt
    planned_fine w v p u (a_character c) = tt
    planned_fine w v p u (a_constant s is) = tt
    planned_fine w v p u (a_variable s is) = use_fine round sc (variable_at sc s) (variable_known sc round holds s)
    planned_fine w v p u (an_object o is) = tt
    planned_fine w v p u (local_call o s arguments f vs is bound listed few) = ((function_known sc round holds s f bound, few_forms most_arguments vs few), forms_fine round vs)
    planned_fine w v p u (macro_form o s arguments x table heap is free macro made) = tt
    planned_fine w v p u (operator_form o s arguments operator vs r t is free macro named listed by) = operated_fine w arguments operator vs r t by
    planned_fine w v p u (global_call_of o s arguments vs x is free macro none kept other listed few by) = called_fine s vs x few by
    planned_fine w v p u (lambda_let o l arguments lambda vs fs bs c is given listed few bindings read) = let_fine round c.declared bs (body c.forms) (body_fine round c.forms)
    planned_fine w v p u (lambda_called o l arguments lambda vs is given listed few bindings) = (few_forms most_arguments vs few, (tt, forms_fine round vs))
