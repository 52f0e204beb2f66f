-- Forms of operators, as derivations.
use Rattle.std.specs.Prelude.{◌≡◌, ℕ, nat_le, List, [], ◌∷◌, length, Option, Some, None}
use Rattle.std.proofs.Common.{refl}
use Rattle.lisp_base.specs.declared.values.ObjId.{ObjId}
use Rattle.lisp_base.specs.declared.values.SymId.{SymId}
use Rattle.lisp_base.specs.declared.values.Val.{Val}
use Rattle.lisp_base.specs.declared.values.Val.TheVariants.{Int, Char, Sym, Ref}
use Rattle.lisp_base.specs.Sort.{nil}
use Rattle.lisp_forms.specs.Conses.{elements}
use Rattle.type_spec.specs.Parsing.{specifier}
use Rattle.core_form.specs.Primitives.{most_values, most_arguments}
use Rattle.declarations.specs.Declarations.{read_specifiers}
use Rattle.expansion.specs.declared.kind.ExpandKind.TheVariants.{BadForm, BadType}
use Rattle.expansion.specs.declared.heads.Reach.{Reach}
use Rattle.expansion.specs.declared.heads.Reach.TheVariants.{ForBody, ForAll}
use Rattle.expansion.specs.declared.heads.Calling.TheVariants.{Funcalling, Applying}
use Rattle.expansion.specs.declared.heads.Many.TheVariants.{GivingValues}
use Rattle.expansion.specs.declared.heads.Leaf.TheVariants.{GoTo}
use Rattle.expansion.specs.declared.operator.Operator.{Operator}
use Rattle.expansion.specs.declared.operator.Operator.TheVariants as op
use Rattle.expansion.specs.Scopes.{Scope, function_at, block_at, tag_at}
use Rattle.expansion.specs.Steps.{World, Answer, gives, and_then, ◌>>=◌, ◌>>◌, pure, refuse, expect, given_or, look, change}
use Rattle.expansion.specs.Sketches.{form, leaf, one, many, calling, function, functions, tagbody, within, sketches, forms, constant, progn, body, Plan, makes, Testing, Checking, Returning}
use Rattle.expansion.specs.Bindings.{Contents, contents_of, let_sketch, let_in_order, others, names, function_sketch}
use Rattle.expansion.specs.Calls.{few}
use Rattle.expansion.specs.Forms.{makes_node, quote_plan, lambda_in, named_function, lambda_plan, function_plan, settings, setq_plan, if_plan, progn_plan, bindings_in, let_plan, let_in_order_plan, functions_plan, locally_forms, locally_plan, type_in, the_plan, block_plan, return_plan, return_from_plan, are_items, tagbody_plan, go_plan, catch_plan, throw_plan, unwind_plan, values_call_plan, keeping_plan, values_plan, funcall_plan, apply_plan, quoted_in, typep_plan, definable, definition, tail_of, defun_plan, variable_in, value_among, global_set, and_name, unless_bound, with_proclaimed, defvar_plan, defparameter_plan, with_declaimed, declaim_plan, names_package, name_written, in_package_plan, operator_plan}
use Rattle.expansion_laws.specs.Planned.{ReadBody, Sketched, Operated, quotes, names_local, names_global, makes_function, sets, chooses, chooses_either, does_nothing, does_one, does_each, binds, binds_in_order, binds_functions, binds_recursive, declares_nothing, declares_one, declares_each, checks, names_block, returns_nil, returns, has_tags, goes, catches, throws, unwinds, calls_with_values, keeps_values, gives_values, calls_value, applies, tests, defines, proclaims, proclaims_value, gives_parameter, gives_constant, declaims, uses_package}
use Rattle.expansion_laws.proofs.Giving.{OnGives, then_gives, found_gives, nested_gives, test_gives}
use Rattle.expansion_laws.proofs.FunctionPlans.{reading_gives, contents_give, function_gives}

module _ (sc : Scope) (w : World) (arguments : Val) where
  -- the plan of this operator's form is derived
  abbrev Derived : Operator → List Val → Answer Plan → Type 0
  Derived o vs a = OnGives (Operated sc w arguments o vs) a

  abbrev Goal : Operator → List Val → Plan → World → Type 0
  Goal o vs = Operated sc w arguments o vs

  quote_derived : (vs : List Val) → Derived op.Quote vs (quote_plan sc vs w)
  unfolding quote_plan makes_node pure refuse
  quote_derived [] = tt
  quote_derived (v ∷ []) = quotes v
  quote_derived (v ∷ x ∷ xs) = tt

  named_derived : (s : SymId) (found : Option ℕ) → function_at sc s ≡ found → Derived op.Function (Sym s ∷ []) (makes_node (named_function found s) w)
  unfolding makes_node pure
  named_derived s None is = names_global s is
  named_derived s (Some f) is = names_local s f is

  lambda_derived : (o : ObjId) (found : Option Val) → lambda_in w.heap (Ref o) ≡ found → Derived op.Function (Ref o ∷ []) (lambda_plan sc found w)
  unfolding lambda_plan makes_node pure refuse ◌>>=◌
  lambda_derived o None is = tt
  lambda_derived o (Some v) is =
      then_gives (Goal op.Function (Ref o ∷ [])) (Sketched sc None w v) (function_sketch sc None v w) (λ f. makes_node (function f)) (function_gives sc None w v) (λ f u by. makes_function o v f u is by)

  function_derived : (vs : List Val) → Derived op.Function vs (function_plan sc vs w)
  unfolding function_plan look refuse ◌>>=◌
  function_derived [] = tt
  function_derived (Int z ∷ vs) = tt
  function_derived (Char c ∷ vs) = tt
  function_derived (Sym s ∷ []) = named_derived s (function_at sc s) refl
  function_derived (Sym s ∷ x ∷ xs) = tt
  function_derived (Ref o ∷ []) = lambda_derived o (lambda_in w.heap (Ref o)) refl
  function_derived (Ref o ∷ x ∷ xs) = tt

  setq_derived : (vs : List Val) → Derived op.Setq vs (setq_plan sc vs w)
  unfolding setq_plan expect look makes_node pure ◌>>=◌
  setq_derived vs = found_gives (Goal op.Setq vs) BadForm sc (settings w.table vs) w (λ xs. makes_node (progn xs)) (λ xs is. sets vs xs is)

  if_derived : (vs : List Val) → Derived op.If vs (if_plan sc vs w)
  unfolding if_plan makes_node pure refuse
  if_derived [] = tt
  if_derived (a ∷ []) = tt
  if_derived (a ∷ b ∷ []) = chooses a b
  if_derived (a ∷ b ∷ c ∷ []) = chooses_either a b c
  if_derived (a ∷ b ∷ c ∷ x ∷ xs) = tt

  progn_derived : (vs : List Val) → Derived op.Progn vs (progn_plan sc vs w)
  unfolding progn_plan makes_node pure
  progn_derived [] = does_nothing
  progn_derived (v ∷ []) = does_one v
  progn_derived (v ∷ x ∷ xs) = does_each v x xs

  let_derived : (vs : List Val) → Derived op.Let vs (let_plan sc vs w)
  unfolding let_plan expect look makes_node pure refuse ◌>>=◌
  let_derived [] = tt
  let_derived (v ∷ vs) =
      found_gives (Goal op.Let (v ∷ vs)) BadForm sc (bindings_in w v) w (λ bs. contents_of sc vs >>= λ c. makes_node (let_sketch c.declared bs (body c.forms))) (λ bs is.
      contents_give (Goal op.Let (v ∷ vs)) sc vs w (λ c. makes_node (let_sketch c.declared bs (body c.forms))) (λ c read. binds v vs bs c is read))

  let_in_order_derived : (vs : List Val) → Derived op.LetInOrder vs (let_in_order_plan sc vs w)
  unfolding let_in_order_plan expect look makes_node pure refuse ◌>>=◌
  let_in_order_derived [] = tt
  let_in_order_derived (v ∷ vs) =
      found_gives (Goal op.LetInOrder (v ∷ vs)) BadForm sc (bindings_in w v) w (λ bs. contents_of sc vs >>= λ c. makes_node (let_in_order c.declared bs (within (others (names bs) c.declared) (body c.forms)))) (λ bs is.
      contents_give (Goal op.LetInOrder (v ∷ vs)) sc vs w (λ c. makes_node (let_in_order c.declared bs (within (others (names bs) c.declared) (body c.forms)))) (λ c read. binds_in_order v vs bs c is read))

  functions_derived : (o : Operator) (reach : Reach) → ((v : Val) (vs ds : List Val) (c : Contents) → elements w.heap v ≡ Some ds → ReadBody sc w vs c → Operated sc w arguments o (v ∷ vs) (makes (functions reach ds (within c.declared (body c.forms)))) w) → (vs : List Val) → Derived o vs (functions_plan reach sc vs w)
  unfolding functions_plan expect look makes_node pure refuse ◌>>=◌
  functions_derived o reach rule [] = tt
  functions_derived o reach rule (v ∷ vs) =
      found_gives (Goal o (v ∷ vs)) BadForm sc (elements w.heap v) w (λ ds. contents_of sc vs >>= λ c. makes_node (functions reach ds (within c.declared (body c.forms)))) (λ ds is.
      contents_give (Goal o (v ∷ vs)) sc vs w (λ c. makes_node (functions reach ds (within c.declared (body c.forms)))) (λ c read. rule v vs ds c is read))

  locally_derived_by : (vs : List Val) (c : Contents) → ReadBody sc w vs c → (fs : List Val) → c.forms ≡ fs → Derived op.Locally vs (locally_forms c.declared fs w)
  unfolding locally_forms makes_node pure
  locally_derived_by vs c read [] is = declares_nothing vs c read is
  locally_derived_by vs c read (v ∷ []) is = declares_one vs c v read is
  locally_derived_by vs c read (v ∷ x ∷ xs) is = declares_each vs c v x xs read is

  locally_derived : (vs : List Val) → Derived op.Locally vs (locally_plan sc vs w)
  unfolding locally_plan ◌>>=◌
  locally_derived vs = contents_give (Goal op.Locally vs) sc vs w (λ c. locally_forms c.declared c.forms) (λ c read. locally_derived_by vs c read c.forms refl)

  the_derived : (vs : List Val) → Derived op.The vs (the_plan sc vs w)
  unfolding the_plan type_in look makes_node pure refuse ◌>>=◌
  the_derived [] = tt
  the_derived (t ∷ []) = tt
  the_derived (t ∷ v ∷ []) = found_gives (Goal op.The (t ∷ v ∷ [])) BadType sc (specifier w.heap w.table t) w (λ spec. makes_node (one (Checking spec) (form v))) (λ spec is. checks t v spec is)
  the_derived (t ∷ v ∷ x ∷ xs) = tt

  block_derived : (vs : List Val) → Derived op.Block vs (block_plan sc vs w)
  unfolding block_plan expect given_or makes_node pure refuse ◌>>=◌
  block_derived [] = tt
  block_derived (Int z ∷ vs) = tt
  block_derived (Char c ∷ vs) = tt
  block_derived (Sym s ∷ vs) = names_block s vs
  block_derived (Ref o ∷ vs) = tt

  return_derived : (s : SymId) (v : Val) (vs : List Val) → ((b : ℕ) → block_at sc s ≡ Some b → Operated sc w arguments op.ReturnFrom vs (makes (one (Returning b) (form v))) w) → Derived op.ReturnFrom vs (return_plan sc s v w)
  unfolding return_plan expect makes_node pure ◌>>=◌
  return_derived s v vs rule = found_gives (Goal op.ReturnFrom vs) BadForm sc (block_at sc s) w (λ b. makes_node (one (Returning b) (form v))) rule

  return_from_derived : (vs : List Val) → Derived op.ReturnFrom vs (return_from_plan sc vs w)
  unfolding return_from_plan expect given_or pure refuse ◌>>=◌
  return_from_derived [] = tt
  return_from_derived (Int z ∷ []) = tt
  return_from_derived (Char c ∷ []) = tt
  return_from_derived (Sym s ∷ []) = return_derived s nil (Sym s ∷ []) (λ b is. returns_nil s b is)
  return_from_derived (Ref o ∷ []) = tt
  return_from_derived (Int z ∷ v ∷ []) = tt
  return_from_derived (Char c ∷ v ∷ []) = tt
  return_from_derived (Sym s ∷ v ∷ []) = return_derived s v (Sym s ∷ v ∷ []) (λ b is. returns s v b is)
  return_from_derived (Ref o ∷ v ∷ []) = tt
  return_from_derived (s ∷ v ∷ x ∷ xs) = tt

  tagbody_derived : (vs : List Val) → Derived op.Tagbody vs (tagbody_plan sc vs w)
  unfolding tagbody_plan look makes_node pure ◌>>=◌ ◌>>◌
  tagbody_derived vs = test_gives (Goal op.Tagbody vs) sc (are_items w.heap vs) w (makes_node (tagbody vs)) (λ is. has_tags vs is)

  go_derived : (vs : List Val) → Derived op.Go vs (go_plan sc vs w)
  unfolding go_plan expect makes_node pure refuse ◌>>=◌
  go_derived [] = tt
  go_derived (t ∷ []) = found_gives (Goal op.Go (t ∷ [])) BadForm sc (tag_at sc t) w (λ n. makes_node (leaf (GoTo n))) (λ n is. goes t n is)
  go_derived (t ∷ x ∷ xs) = tt

  catch_derived : (vs : List Val) → Derived op.Catch vs (catch_plan sc vs w)
  unfolding catch_plan makes_node pure refuse
  catch_derived [] = tt
  catch_derived (t ∷ vs) = catches t vs

  throw_derived : (vs : List Val) → Derived op.Throw vs (throw_plan sc vs w)
  unfolding throw_plan makes_node pure refuse
  throw_derived [] = tt
  throw_derived (t ∷ []) = tt
  throw_derived (t ∷ v ∷ []) = throws t v
  throw_derived (t ∷ v ∷ x ∷ xs) = tt

  unwind_derived : (vs : List Val) → Derived op.UnwindProtect vs (unwind_plan sc vs w)
  unfolding unwind_plan makes_node pure refuse
  unwind_derived [] = tt
  unwind_derived (v ∷ vs) = unwinds v vs

  values_call_derived : (vs : List Val) → Derived op.MultipleValueCall vs (values_call_plan sc vs w)
  unfolding values_call_plan makes_node pure refuse
  values_call_derived [] = tt
  values_call_derived (f ∷ vs) = calls_with_values f vs

  keeping_derived : (vs : List Val) → Derived op.MultipleValueProg1 vs (keeping_plan sc vs w)
  unfolding keeping_plan makes_node pure refuse
  keeping_derived [] = tt
  keeping_derived (v ∷ vs) = keeps_values v vs

  values_derived : (vs : List Val) → Derived op.Values vs (values_plan sc vs w)
  unfolding values_plan makes_node pure ◌>>=◌ ◌>>◌
  values_derived vs = test_gives (Goal op.Values vs) sc (nat_le (length vs) most_values) w (makes_node (many GivingValues (sketches (forms vs)))) (λ is. gives_values vs is)

  funcall_derived : (vs : List Val) → Derived op.Funcall vs (funcall_plan sc vs w)
  unfolding funcall_plan few makes_node pure refuse ◌>>=◌ ◌>>◌
  funcall_derived [] = tt
  funcall_derived (f ∷ vs) =
      test_gives (Goal op.Funcall (f ∷ vs)) sc (nat_le (length vs) most_arguments) w (makes_node (calling Funcalling (form f) (sketches (forms vs)))) (λ is. calls_value f vs is)

  apply_derived : (vs : List Val) → Derived op.Apply vs (apply_plan sc vs w)
  unfolding apply_plan few makes_node pure refuse ◌>>=◌ ◌>>◌
  apply_derived [] = tt
  apply_derived (f ∷ []) = tt
  apply_derived (f ∷ v ∷ vs) =
      test_gives (Goal op.Apply (f ∷ v ∷ vs)) sc (nat_le (length (v ∷ vs)) most_arguments) w (makes_node (calling Applying (form f) (sketches (forms (v ∷ vs))))) (λ is. applies f v vs is)

  typep_derived : (vs : List Val) → Derived op.Typep vs (typep_plan sc vs w)
  unfolding typep_plan type_in expect look makes_node pure refuse ◌>>=◌
  typep_derived [] = tt
  typep_derived (v ∷ []) = tt
  typep_derived (v ∷ t ∷ []) =
      nested_gives (Goal op.Typep (v ∷ t ∷ [])) (given_or BadForm sc (quoted_in w.heap t) w) (type_in sc) (λ spec. makes_node (one (Testing spec) (form v)))
      (found_gives (Goal op.Typep (v ∷ t ∷ [])) BadForm sc (quoted_in w.heap t) w (λ type u. and_then (type_in sc type u) (λ spec. makes_node (one (Testing spec) (form v)))) (λ type quoted.
      found_gives (Goal op.Typep (v ∷ t ∷ [])) BadType sc (specifier w.heap w.table type) w (λ spec. makes_node (one (Testing spec) (form v))) (λ spec is. tests v t type spec quoted is)))
  typep_derived (v ∷ t ∷ x ∷ xs) = tt

  defun_derived : (vs : List Val) → Derived op.Defun vs (defun_plan sc arguments vs w)
  unfolding defun_plan expect look makes_node pure refuse ◌>>=◌
  defun_derived [] = tt
  defun_derived (n ∷ vs) =
      found_gives (Goal op.Defun (n ∷ vs)) BadForm sc (definable sc n) w (λ s u. and_then (function_sketch sc (Some s) (tail_of u.heap arguments) u) (λ f. makes_node (definition s f))) (λ s named.
      then_gives (Goal op.Defun (n ∷ vs)) (Sketched sc (Some s) w (tail_of w.heap arguments)) (function_sketch sc (Some s) (tail_of w.heap arguments) w) (λ f. makes_node (definition s f)) (function_gives sc (Some s) w (tail_of w.heap arguments)) (λ f u by. defines n vs s f u named by))

  defvar_derived : (vs : List Val) → Derived op.Defvar vs (defvar_plan sc vs w)
  unfolding defvar_plan expect look change makes_node pure refuse ◌>>=◌ ◌>>◌
  defvar_derived [] = tt
  defvar_derived (n ∷ []) = found_gives (Goal op.Defvar (n ∷ [])) BadForm sc (variable_in w.table n) w (λ s u. gives (makes (constant (Sym s))) (with_proclaimed s u)) (λ s is. proclaims n s is)
  defvar_derived (n ∷ v ∷ vs) =
      found_gives (Goal op.Defvar (n ∷ v ∷ vs)) BadForm sc (variable_in w.table n) w (λ s u. and_then (given_or BadForm sc (value_among u.heap (v ∷ vs)) u) (λ x t. gives (makes (and_name s (unless_bound s (global_set sc s x (with_proclaimed s t))))) (with_proclaimed s t))) (λ s named.
      found_gives (Goal op.Defvar (n ∷ v ∷ vs)) BadForm sc (value_among w.heap (v ∷ vs)) w (λ x t. gives (makes (and_name s (unless_bound s (global_set sc s x (with_proclaimed s t))))) (with_proclaimed s t)) (λ x is. proclaims_value n v x vs s named is))

  defparameter_derived : (o : Operator) → ((n x : Val) (vs : List Val) (s : SymId) → variable_in w.table n ≡ Some s → value_among w.heap vs ≡ Some x → Operated sc w arguments o (n ∷ vs) (makes (and_name s (global_set sc s x (with_proclaimed s w)))) (with_proclaimed s w)) → (vs : List Val) → Derived o vs (defparameter_plan sc vs w)
  unfolding defparameter_plan expect look change makes_node pure refuse ◌>>=◌ ◌>>◌
  defparameter_derived o rule [] = tt
  defparameter_derived o rule (n ∷ vs) =
      found_gives (Goal o (n ∷ vs)) BadForm sc (variable_in w.table n) w (λ s u. and_then (given_or BadForm sc (value_among u.heap vs) u) (λ x t. gives (makes (and_name s (global_set sc s x (with_proclaimed s t)))) (with_proclaimed s t))) (λ s named.
      found_gives (Goal o (n ∷ vs)) BadForm sc (value_among w.heap vs) w (λ x t. gives (makes (and_name s (global_set sc s x (with_proclaimed s t)))) (with_proclaimed s t)) (λ x is. rule n x vs s named is))

  declaim_derived : (vs : List Val) → Derived op.Declaim vs (declaim_plan sc arguments w)
  unfolding declaim_plan look change makes_node pure ◌>>=◌ ◌>>◌
  declaim_derived vs =
      reading_gives (Goal op.Declaim vs) sc (read_specifiers w.heap w.table w.policy arguments) w (λ d. change (with_declaimed d) >> makes_node (constant nil)) (λ d is. declaims vs d is)

  in_package_derived : (vs : List Val) → Derived op.InPackage vs (in_package_plan sc vs w)
  unfolding in_package_plan look makes_node pure refuse ◌>>=◌ ◌>>◌
  in_package_derived [] = tt
  in_package_derived (n ∷ []) = test_gives (Goal op.InPackage (n ∷ [])) sc (names_package (name_written w n)) w (makes_node (constant nil)) (λ is. uses_package n is)
  in_package_derived (n ∷ x ∷ xs) = tt

  pub operator_derived : (o : Operator) (vs : List Val) → OnGives (Operated sc w arguments o vs) (operator_plan o sc arguments vs w)
  unfolding operator_plan
  operator_derived op.Quote vs = quote_derived vs
  operator_derived op.Function vs = function_derived vs
  operator_derived op.Setq vs = setq_derived vs
  operator_derived op.If vs = if_derived vs
  operator_derived op.Progn vs = progn_derived vs
  operator_derived op.Let vs = let_derived vs
  operator_derived op.LetInOrder vs = let_in_order_derived vs
  operator_derived op.Flet vs = functions_derived op.Flet ForBody (λ v vs ds c is read. binds_functions v vs ds c is read) vs
  operator_derived op.Labels vs = functions_derived op.Labels ForAll (λ v vs ds c is read. binds_recursive v vs ds c is read) vs
  operator_derived op.Locally vs = locally_derived vs
  operator_derived op.The vs = the_derived vs
  operator_derived op.Block vs = block_derived vs
  operator_derived op.ReturnFrom vs = return_from_derived vs
  operator_derived op.Tagbody vs = tagbody_derived vs
  operator_derived op.Go vs = go_derived vs
  operator_derived op.Catch vs = catch_derived vs
  operator_derived op.Throw vs = throw_derived vs
  operator_derived op.UnwindProtect vs = unwind_derived vs
  operator_derived op.MultipleValueCall vs = values_call_derived vs
  operator_derived op.MultipleValueProg1 vs = keeping_derived vs
  operator_derived op.Values vs = values_derived vs
  operator_derived op.Funcall vs = funcall_derived vs
  operator_derived op.Apply vs = apply_derived vs
  operator_derived op.Typep vs = typep_derived vs
  operator_derived op.Defun vs = defun_derived vs
  operator_derived op.Defvar vs = defvar_derived vs
  operator_derived op.Defparameter vs = defparameter_derived op.Defparameter (λ n x vs s named is. gives_parameter n x vs s named is) vs
  operator_derived op.Defconstant vs = defparameter_derived op.Defconstant (λ n x vs s named is. gives_constant n x vs s named is) vs
  operator_derived op.Declaim vs = declaim_derived vs
  operator_derived op.InPackage vs = in_package_derived vs
