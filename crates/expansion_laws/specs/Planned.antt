-- What is to be done with a form, as derivations: one rule for each result that there may be, with what holds then. (This project's own.)
use Rattle.std.specs.Prelude.{◌≡◌, ℕ, ℤ, true, false, nat_le, ◌==◌, List, [], ◌∷◌, length, Option, Some, None}
use Rattle.lisp_base.specs.declared.base_symbols.TheConstants as at
use Rattle.lisp_base.specs.declared.values.ObjId.{ObjId}
use Rattle.lisp_base.specs.declared.values.SymId.{SymId}
use Rattle.lisp_base.specs.declared.values.Val.{Val}
use Rattle.lisp_base.specs.declared.values.Val.TheVariants.{Int, Char, Sym, Ref}
use Rattle.lisp_base.specs.declared.primitives.Primitive.{Primitive as Operation}
use Rattle.lisp_base.specs.declared.primitives.Primitive.TheVariants as q
use Rattle.lisp_base.specs.declared.types.TypeName.{TypeName}
use Rattle.lisp_base.specs.declared.types.TypeName.TheVariants as name
use Rattle.lisp_base.specs.PrimNames.{prim_at}
use Rattle.lisp_base.specs.Sort.{nil, truth, number_of}
use Rattle.lisp_base.specs.Spec.{Spec, Named}
use Rattle.lisp_base.specs.Tables.{Table, Object, made_fresh}
use Rattle.lisp_forms.specs.Conses.{cons_at, elements}
use Rattle.type_spec.specs.Parsing.{specifier}
use Rattle.core_form.specs.Checked.{operation_takes}
use Rattle.core_form.specs.Primitives.{most_values, most_arguments}
use Rattle.std_macros.specs.Expanding.{gives as makes_form, expanded_form, macro_of_form}
use Rattle.declarations.specs.Bodies.{body_of}
use Rattle.declarations.specs.Declarations.{Declared, declared, read_declarations, read_specifiers}
use Rattle.lambda_lists.specs.LambdaLists.{Default, LambdaList, lambda_list, KeyForms, key_forms}
use Rattle.expansion.specs.declared.heads.Leaf.TheVariants.{LocalFunction, GlobalFunction, GoTo}
use Rattle.expansion.specs.declared.heads.Binary.TheVariants.{Catching, Throwing, Unwinding, KeepingValues}
use Rattle.expansion.specs.declared.heads.Many.TheVariants.{GivingValues}
use Rattle.expansion.specs.declared.heads.Calling.TheVariants.{Funcalling, Applying, CallingWithValues}
use Rattle.expansion.specs.declared.heads.Reach.TheVariants.{ForBody, ForAll}
use Rattle.expansion.specs.declared.operator.Operator.{Operator}
use Rattle.expansion.specs.declared.operator.Operator.TheVariants as op
use Rattle.expansion.specs.declared.operator.Direct.{Direct}
use Rattle.expansion.specs.Operators.{operator_of, direct_of, is_left_out}
use Rattle.expansion.specs.Scopes.{Scope, variable_at, function_at, block_at, tag_at}
use Rattle.expansion.specs.Steps.{World, gives}
use Rattle.expansion.specs.Sketches.{Sketch, form, leaf, one, two, choice, many, calling, function, functions, block, tagbody, within, Function, sketches, forms, constant, progn, body, primitive, Plan, instead, declared_around, makes, Testing, Checking, Returning}
use Rattle.expansion.specs.Bindings.{Contents, let_sketch, let_in_order, others, names, with_table, with_stores, plain_function, keyed_function}
use Rattle.expansion.specs.Calls.{integer, minus_one, folded, direct_sketch, calls_global, calls_local}
use Rattle.expansion.specs.Forms.{is_constant_symbol, variable_in, use_of, lambda_in, settings, bindings_in, are_items, quoted_in, definable, definition, tail_of, with_proclaimed, value_among, global_set, and_name, unless_bound, with_declaimed, names_package, name_written, is_macro, lambda_bindings, plan_of}

-- ---- bodies and functions

-- the declarations and the forms of a body
pub record ReadBody (sc : Scope) (w : World) (vs : List Val) (c : Contents) : Type 0 where
  pub declarations : read_declarations w.heap w.table sc.policy (body_of w.heap vs).declarations ≡ declared c.declared
  pub forms : (body_of w.heap vs).forms ≡ c.forms

-- the variable of the rest of the arguments, with the table then
pub data RestVariable (w : World) : Option SymId → SymId → Table → Type 0 where
  own_rest : (s : SymId) → RestVariable w (Some s) s w.table
  fresh_rest : (s : SymId) (table : Table) → made_fresh w.table ≡ Some (s, table) → RestVariable w None s table

-- a function of a lambda list and the contents of its body, and what is known then
pub data Shaped (w : World) (name : Option SymId) (l : LambdaList) (c : Contents) : Function → World → Type 0 where
  without_keys : l.keys ≡ None → Shaped w name l c (plain_function l name c) w
  with_keys : (ks : List Default) (rest : SymId) (fresh : Table) (k : KeyForms) (table : Table) (heap : List Object) →
      l.keys ≡ Some ks → RestVariable w l.rest rest fresh → key_forms rest ks fresh w.heap ≡ Some (k, table, heap) →
      Shaped w name l c (keyed_function l rest name c k) (with_stores table heap (with_table fresh w))

-- the function of a list that begins with its lambda list
pub data Sketched (sc : Scope) (name : Option SymId) (w : World) (v : Val) : Function → World → Type 0 where
  function_read : (l : Val) (vs : List Val) (ll : LambdaList) (c : Contents) (f : Function) (u : World) →
      elements w.heap v ≡ Some (l ∷ vs) → lambda_list w.heap w.table l ≡ Some ll → ReadBody sc w vs c → Shaped w name ll c f u →
      Sketched sc name w v f u

-- ---- calls of global functions

-- calls that are written otherwise
pub data WrittenOtherwise : List Val → Sketch → Type 0 where
  sum_of_none : WrittenOtherwise [] (integer 0)
  product_of_none : WrittenOtherwise [] (integer 1)
  all_bits : WrittenOtherwise [] minus_one
  itself : (v : Val) → WrittenOtherwise (v ∷ []) (one (Checking (Named name.Integer)) (form v))
  fold_of : (o : Operation) (v x : Val) (xs : List Val) → operation_takes o 2 ≡ true → WrittenOtherwise (v ∷ x ∷ xs) (folded o (form v) (x ∷ xs))
  negated : (v : Val) → WrittenOtherwise (v ∷ []) (primitive q.Subtract (integer 0 ∷ form v ∷ []))
  and_one : (o : Operation) (v : Val) → operation_takes o 2 ≡ true → WrittenOtherwise (v ∷ []) (primitive o (form v ∷ integer 1 ∷ []))
  on_both : (o : Operation) (v x : Val) → operation_takes o 2 ≡ true → WrittenOtherwise (v ∷ x ∷ []) (primitive o (form v ∷ form x ∷ []))
  read_default : WrittenOtherwise [] (primitive q.ReadChar (constant nil ∷ constant truth ∷ constant nil ∷ []))
  read_stream : (s : Val) → WrittenOtherwise (s ∷ []) (primitive q.ReadChar (form s ∷ constant truth ∷ constant nil ∷ []))
  read_end : (s e : Val) → WrittenOtherwise (s ∷ e ∷ []) (primitive q.ReadChar (form s ∷ form e ∷ constant nil ∷ []))
  read_all : (s e v : Val) → WrittenOtherwise (s ∷ e ∷ v ∷ []) (primitive q.ReadChar (form s ∷ form e ∷ form v ∷ []))
  signalled : (v : Val) (vs : List Val) → WrittenOtherwise (v ∷ vs) (primitive q.Error (form v ∷ primitive q.List (forms vs) ∷ []))
  tested : (t : TypeName) (v : Val) → WrittenOtherwise (v ∷ []) (one (Testing (Named t)) (form v))

pub data CalledGlobal (s : SymId) (vs : List Val) : Sketch → Type 0 where
  directly : (d : Direct) (x : Sketch) → direct_of s ≡ Some d → direct_sketch d vs ≡ Some x → WrittenOtherwise vs x → CalledGlobal s vs x
  by_primitive : (o : Operation) → prim_at (number_of s) ≡ Some o → operation_takes o (length vs) ≡ true → CalledGlobal s vs (primitive o (forms vs))
  as_function : CalledGlobal s vs (calls_global s vs)

-- ---- operators

-- the form of an operator, by the operator and the list of its arguments
pub data Operated (sc : Scope) (w : World) (arguments : Val) : Operator → List Val → Plan → World → Type 0 where
  quotes : (v : Val) → Operated sc w arguments op.Quote (v ∷ []) (makes (constant v)) w
  names_local : (s : SymId) (f : ℕ) → function_at sc s ≡ Some f → Operated sc w arguments op.Function (Sym s ∷ []) (makes (leaf (LocalFunction f))) w
  names_global : (s : SymId) → function_at sc s ≡ None → Operated sc w arguments op.Function (Sym s ∷ []) (makes (leaf (GlobalFunction s))) w
  makes_function : (o : ObjId) (v : Val) (f : Function) (u : World) → lambda_in w.heap (Ref o) ≡ Some v → Sketched sc None w v f u →
      Operated sc w arguments op.Function (Ref o ∷ []) (makes (function f)) u
  sets : (vs : List Val) (xs : List Sketch) → settings w.table vs ≡ Some xs → Operated sc w arguments op.Setq vs (makes (progn xs)) w
  chooses : (a b : Val) → Operated sc w arguments op.If (a ∷ b ∷ []) (makes (choice (form a) (form b) (constant nil))) w
  chooses_either : (a b c : Val) → Operated sc w arguments op.If (a ∷ b ∷ c ∷ []) (makes (choice (form a) (form b) (form c))) w
  does_nothing : Operated sc w arguments op.Progn [] (makes (body [])) w
  does_one : (v : Val) → Operated sc w arguments op.Progn (v ∷ []) (instead v) w
  does_each : (v x : Val) (xs : List Val) → Operated sc w arguments op.Progn (v ∷ x ∷ xs) (makes (body (v ∷ x ∷ xs))) w
  binds : (v : Val) (vs : List Val) (bs : List (SymId × Val)) (c : Contents) → bindings_in w v ≡ Some bs → ReadBody sc w vs c →
      Operated sc w arguments op.Let (v ∷ vs) (makes (let_sketch c.declared bs (body c.forms))) w
  binds_in_order : (v : Val) (vs : List Val) (bs : List (SymId × Val)) (c : Contents) → bindings_in w v ≡ Some bs → ReadBody sc w vs c →
      Operated sc w arguments op.LetInOrder (v ∷ vs) (makes (let_in_order c.declared bs (within (others (names bs) c.declared) (body c.forms)))) w
  binds_functions : (v : Val) (vs ds : List Val) (c : Contents) → elements w.heap v ≡ Some ds → ReadBody sc w vs c →
      Operated sc w arguments op.Flet (v ∷ vs) (makes (functions ForBody ds (within c.declared (body c.forms)))) w
  binds_recursive : (v : Val) (vs ds : List Val) (c : Contents) → elements w.heap v ≡ Some ds → ReadBody sc w vs c →
      Operated sc w arguments op.Labels (v ∷ vs) (makes (functions ForAll ds (within c.declared (body c.forms)))) w
  declares_nothing : (vs : List Val) (c : Contents) → ReadBody sc w vs c → c.forms ≡ [] →
      Operated sc w arguments op.Locally vs (makes (within c.declared (body []))) w
  declares_one : (vs : List Val) (c : Contents) (v : Val) → ReadBody sc w vs c → c.forms ≡ v ∷ [] →
      Operated sc w arguments op.Locally vs (declared_around c.declared v) w
  declares_each : (vs : List Val) (c : Contents) (v x : Val) (xs : List Val) → ReadBody sc w vs c → c.forms ≡ v ∷ x ∷ xs →
      Operated sc w arguments op.Locally vs (makes (within c.declared (body (v ∷ x ∷ xs)))) w
  checks : (t v : Val) (spec : Spec) → specifier w.heap w.table t ≡ Some spec → Operated sc w arguments op.The (t ∷ v ∷ []) (makes (one (Checking spec) (form v))) w
  names_block : (s : SymId) (vs : List Val) → Operated sc w arguments op.Block (Sym s ∷ vs) (makes (block s (body vs))) w
  returns_nil : (s : SymId) (b : ℕ) → block_at sc s ≡ Some b → Operated sc w arguments op.ReturnFrom (Sym s ∷ []) (makes (one (Returning b) (form nil))) w
  returns : (s : SymId) (v : Val) (b : ℕ) → block_at sc s ≡ Some b → Operated sc w arguments op.ReturnFrom (Sym s ∷ v ∷ []) (makes (one (Returning b) (form v))) w
  has_tags : (vs : List Val) → are_items w.heap vs ≡ true → Operated sc w arguments op.Tagbody vs (makes (tagbody vs)) w
  goes : (t : Val) (n : ℕ) → tag_at sc t ≡ Some n → Operated sc w arguments op.Go (t ∷ []) (makes (leaf (GoTo n))) w
  catches : (t : Val) (vs : List Val) → Operated sc w arguments op.Catch (t ∷ vs) (makes (two Catching (form t) (body vs))) w
  throws : (t v : Val) → Operated sc w arguments op.Throw (t ∷ v ∷ []) (makes (two Throwing (form t) (form v))) w
  unwinds : (v : Val) (vs : List Val) → Operated sc w arguments op.UnwindProtect (v ∷ vs) (makes (two Unwinding (form v) (body vs))) w
  calls_with_values : (f : Val) (vs : List Val) →
      Operated sc w arguments op.MultipleValueCall (f ∷ vs) (makes (calling CallingWithValues (form f) (sketches (forms vs)))) w
  keeps_values : (v : Val) (vs : List Val) → Operated sc w arguments op.MultipleValueProg1 (v ∷ vs) (makes (two KeepingValues (form v) (body vs))) w
  gives_values : (vs : List Val) → nat_le (length vs) most_values ≡ true → Operated sc w arguments op.Values vs (makes (many GivingValues (sketches (forms vs)))) w
  calls_value : (f : Val) (vs : List Val) → nat_le (length vs) most_arguments ≡ true →
      Operated sc w arguments op.Funcall (f ∷ vs) (makes (calling Funcalling (form f) (sketches (forms vs)))) w
  applies : (f v : Val) (vs : List Val) → nat_le (length (v ∷ vs)) most_arguments ≡ true →
      Operated sc w arguments op.Apply (f ∷ v ∷ vs) (makes (calling Applying (form f) (sketches (forms (v ∷ vs))))) w
  tests : (v t type : Val) (spec : Spec) → quoted_in w.heap t ≡ Some type → specifier w.heap w.table type ≡ Some spec →
      Operated sc w arguments op.Typep (v ∷ t ∷ []) (makes (one (Testing spec) (form v))) w
  defines : (n : Val) (vs : List Val) (s : SymId) (f : Function) (u : World) → definable sc n ≡ Some s →
      Sketched sc (Some s) w (tail_of w.heap arguments) f u → Operated sc w arguments op.Defun (n ∷ vs) (makes (definition s f)) u
  proclaims : (n : Val) (s : SymId) → variable_in w.table n ≡ Some s → Operated sc w arguments op.Defvar (n ∷ []) (makes (constant (Sym s))) (with_proclaimed s w)
  proclaims_value : (n v x : Val) (vs : List Val) (s : SymId) → variable_in w.table n ≡ Some s → value_among w.heap (v ∷ vs) ≡ Some x →
      Operated sc w arguments op.Defvar (n ∷ v ∷ vs)
      (makes (and_name s (unless_bound s (global_set sc s x (with_proclaimed s w)))))
      (with_proclaimed s w)
  gives_parameter : (n x : Val) (vs : List Val) (s : SymId) → variable_in w.table n ≡ Some s → value_among w.heap vs ≡ Some x →
      Operated sc w arguments op.Defparameter (n ∷ vs) (makes (and_name s (global_set sc s x (with_proclaimed s w)))) (with_proclaimed s w)
  gives_constant : (n x : Val) (vs : List Val) (s : SymId) → variable_in w.table n ≡ Some s → value_among w.heap vs ≡ Some x →
      Operated sc w arguments op.Defconstant (n ∷ vs) (makes (and_name s (global_set sc s x (with_proclaimed s w)))) (with_proclaimed s w)
  declaims : (vs : List Val) (d : Declared) → read_specifiers w.heap w.table w.policy arguments ≡ declared d →
      Operated sc w arguments op.Declaim vs (makes (constant nil)) (with_declaimed d w)
  uses_package : (n : Val) → names_package (name_written w n) ≡ true → Operated sc w arguments op.InPackage (n ∷ []) (makes (constant nil)) w

-- ---- all forms

pub data Planned (sc : Scope) (w : World) : Val → Plan → World → Type 0 where
  an_integer : (z : ℤ) → Planned sc w (Int z) (makes (constant (Int z))) w
  a_character : (c : ℕ) → Planned sc w (Char c) (makes (constant (Char c))) w
  a_constant : (s : SymId) → is_constant_symbol w.table s ≡ true → Planned sc w (Sym s) (makes (constant (Sym s))) w
  a_variable : (s : SymId) → is_constant_symbol w.table s ≡ false → Planned sc w (Sym s) (makes (use_of sc (variable_at sc s))) w
  -- an object other than a cons
  an_object : (o : ObjId) → cons_at w.heap (Ref o) ≡ None → Planned sc w (Ref o) (makes (constant (Ref o))) w
  local_call : (o : ObjId) (s : SymId) (arguments : Val) (f : ℕ) (vs : List Val) → cons_at w.heap (Ref o) ≡ Some (Sym s, arguments) →
      function_at sc s ≡ Some f → elements w.heap arguments ≡ Some vs → nat_le (length vs) most_arguments ≡ true →
      Planned sc w (Ref o) (makes (calls_local f vs)) w
  -- a macro form stands for the form that it gives
  macro_form : (o : ObjId) (s : SymId) (arguments v : Val) (table : Table) (heap : List Object) → cons_at w.heap (Ref o) ≡ Some (Sym s, arguments) →
      function_at sc s ≡ None → is_macro (macro_of_form w.heap (Ref o)) ≡ true → expanded_form w.table w.heap (Ref o) ≡ makes_form v table heap →
      Planned sc w (Ref o) (instead v) (with_stores table heap w)
  operator_form : (o : ObjId) (s : SymId) (arguments : Val) (operator : Operator) (vs : List Val) (p : Plan) (u : World) →
      cons_at w.heap (Ref o) ≡ Some (Sym s, arguments) → function_at sc s ≡ None → is_macro (macro_of_form w.heap (Ref o)) ≡ false →
      operator_of s ≡ Some operator → elements w.heap arguments ≡ Some vs → Operated sc w arguments operator vs p u → Planned sc w (Ref o) p u
  global_call_of : (o : ObjId) (s : SymId) (arguments : Val) (vs : List Val) (x : Sketch) → cons_at w.heap (Ref o) ≡ Some (Sym s, arguments) →
      function_at sc s ≡ None → is_macro (macro_of_form w.heap (Ref o)) ≡ false → operator_of s ≡ None → is_left_out s ≡ false →
      (number_of s == number_of at.DECLARE) ≡ false → elements w.heap arguments ≡ Some vs → nat_le (length vs) most_arguments ≡ true →
      CalledGlobal s vs x → Planned sc w (Ref o) (makes x) w
  -- a lambda expression on as many arguments as it requires
  lambda_let : (o l : ObjId) (arguments lambda : Val) (vs forms : List Val) (bs : List (SymId × Val)) (c : Contents) →
      cons_at w.heap (Ref o) ≡ Some (Ref l, arguments) → lambda_in w.heap (Ref l) ≡ Some lambda → elements w.heap arguments ≡ Some vs →
      nat_le (length vs) most_arguments ≡ true → lambda_bindings (Ref l) vs w ≡ Some (bs, forms) → ReadBody sc w forms c →
      Planned sc w (Ref o) (makes (let_sketch c.declared bs (body c.forms))) w
  -- a lambda expression on other arguments
  lambda_called : (o l : ObjId) (arguments lambda : Val) (vs : List Val) → cons_at w.heap (Ref o) ≡ Some (Ref l, arguments) →
      lambda_in w.heap (Ref l) ≡ Some lambda → elements w.heap arguments ≡ Some vs → nat_le (length vs) most_arguments ≡ true →
      lambda_bindings (Ref l) vs w ≡ None →
      Planned sc w (Ref o) (makes (calling Funcalling (form (Ref l)) (sketches (forms vs)))) w

-- each plan of a form is derived
abbrev pub PlansAreDerived : Type 0
PlansAreDerived = (sc : Scope) (w : World) (v : Val) (p : Plan) (u : World) → plan_of sc v w ≡ gives p u → Planned sc w v p u
