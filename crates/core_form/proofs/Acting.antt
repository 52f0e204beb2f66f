-- Errors, checks, primitives and the effects of nodes last.
use Rattle.std.proofs.Common.{◌≡◌, refl, ap, ◌∙◌, ℕ, zero, suc, ◌+◌, Bool, true, false, ◌||◌, ◌==◌, if◌then◌else◌, List, [], ◌∷◌, arith, ℤ, Option, Some, None}
use Rattle.std.proofs.lemmas.Bool.Decides.{nat_tests}
use Rattle.std.specs.Prelude.{slice_get, pos, negsuc}
use Rattle.lisp_base.specs.declared.values.SymId.{SymId}
use Rattle.lisp_base.specs.declared.values.Val.{Val}
use Rattle.lisp_base.specs.declared.values.Val.TheVariants.{Int, Char, Sym, Ref}
use Rattle.lisp_base.specs.declared.values.Place.{Place}
use Rattle.lisp_base.specs.declared.primitives.Primitive.{Primitive}
use Rattle.lisp_base.specs.declared.primitives.Primitive.TheVariants as op
use Rattle.lisp_base.specs.Sort.{same}
use Rattle.lisp_base.specs.Spec.{Spec}
use Rattle.core_form.specs.Facts.{FunctionText, TagText, Facts}
use Rattle.core_form.specs.State.{Object, Fault, Control, Exit}
use Rattle.core_form.specs.Effect.{Effect, ◌>>◌, leave, box_all}
use Rattle.core_form.specs.Force.{Vals, Force, Catch, is_catch, in_force, make_list, Signalled, Stops, Caught, stop_at, go_to_catch, after_signal, raise, pass, expect, check, check_all, one}
use Rattle.core_form.specs.Primitives.{check_rest, check_row, fitting, one_integer, if_fitting, dividing, quotient, put_at, valid_index, valid_length, new_vector, new_string, element, letter, set_element, set_letter, set_car, set_cdr, list_end, elements, next_char, bound_value, global_value, defined_function, global_function, set_global, act, primitive}
use Rattle.core_form.specs.Step.{deliver, box_in, place_in, new_variable, change_in, set_variable, capture, make_function, make_local, named_function, function_of, designated, set_function, spread, not_too_many, enter_extent, exit_to, return_from, go_on_at, go_to, find_catch, throw_to, throw}
use Rattle.core_form.proofs.Lasting.{Leads, Lasts, bind_leads, then_leads, leave_leads, bind_lasts, then_lasts, pure_lasts, read_lasts, fail_lasts, leave_lasts, quiet_lasts, spend_lasts, allot_lasts, boxes_lasts, deliver_more_lasts, look_lasts, walk_lasts, box_lasts, add_lasts, put_lasts, bind_to_lasts, entry_lasts, write_lasts, either_lasts}

pub one_lasts : {inn : ℕ → Bool} → (v : Val) → Lasts inn (one v)
unfolding one
one_lasts v = pure_lasts _

-- ---- errors

pub or_right : (a b : Bool) → b ≡ true → (a || b) ≡ true
or_right true b h = refl
or_right false b h = h

pub or_left : (a b : Bool) → a ≡ true → (a || b) ≡ true
or_left true b h = refl
or_left false b h = absurd (cc)

pub same_number : (n : ℕ) → (n == n) ≡ true
same_number n = grind (arith, nat_tests)

-- a catch of the list is in force
pub listed : (cs : List Catch) (at : ℕ) (c : Catch) → slice_get cs at ≡ Some c → is_catch c.entry cs ≡ true
listed [] at c h = absurd (cc)
listed (d ∷ ds) zero c h = or_left _ _ (ap (λ (o : Option Catch). elim o [ None ↦ true | Some x ↦ c.entry == x.entry ]) h ∙ same_number c.entry)
listed (d ∷ ds) (suc n) c h = or_right _ _ (listed ds n c h)

pub make_list_lasts : {inn : ℕ → Bool} → (vs : Vals) → Lasts inn (make_list vs)
unfolding make_list
make_list_lasts [] = pure_lasts _
make_list_lasts (v ∷ vs) = bind_lasts (make_list_lasts vs) (λ r. then_lasts (then_lasts (allot_lasts 2) (box_lasts _)) (add_lasts _))

pub stop_lasts : {A : Type 0} {inn : ℕ → Bool} → (x : Fault) (p : Place) → Lasts inn (stop_at {A = A} x p)
unfolding stop_at
stop_lasts x p = then_lasts (box_lasts _) (fail_lasts x p)

pub go_to_catch_lasts : {A : Type 0} (f : Force) (x : Fault) (p : Place) (vs : Vals) (at : ℕ) (o : Option Catch) → slice_get f.catches at ≡ o → Lasts (in_force f) (go_to_catch {A = A} x p vs o)
unfolding go_to_catch
go_to_catch_lasts f x p vs at None e = stop_lasts x p
go_to_catch_lasts f x p vs at (Some c) e = bind_lasts (make_list_lasts vs) (λ v. leave_lasts _ refl (or_right _ _ (listed f.catches at c e)))

pub after_signal_lasts : {A : Type 0} (f : Force) (x : Fault) (p : Place) (r : Signalled) → Lasts (in_force f) (after_signal {A = A} f x p r)
unfolding after_signal
after_signal_lasts f x p Stops = stop_lasts x p
after_signal_lasts f x p (Caught at vs) = go_to_catch_lasts f x p vs at (slice_get f.catches at) refl

pub raise_lasts : {A : Type 0} (f : Force) (x : Fault) (p : Place) → Lasts (in_force f) (raise {A = A} f x p)
unfolding raise
raise_lasts f x p = bind_lasts (read_lasts _) (λ r. then_lasts (look_lasts _) (after_signal_lasts f x p r.1))

-- ---- checks

pub pass_lasts : (b : Bool) (f : Force) (t : Spec) (v : Val) (p : Place) → Lasts (in_force f) (pass b f t v p)
unfolding pass
pass_lasts true f t v p = pure_lasts tt
pass_lasts false f t v p = raise_lasts f _ p

pub expect_lasts : (f : Force) (p : Place) (t : Spec) (v : Val) → Lasts (in_force f) (expect f p t v)
unfolding expect
expect_lasts f p t v = bind_lasts (read_lasts _) (λ b. pass_lasts b f t v p)

pub check_lasts : (f : Force) (p : Place) (t : Spec) (v : Val) → Lasts (in_force f) (check f p t v)
unfolding check
check_lasts f p t v = then_lasts (spend_lasts _) (expect_lasts f p t v)

pub check_all_lasts : (f : Force) (p : Place) (ts : List Spec) (v : Val) → Lasts (in_force f) (check_all f p ts v)
unfolding check_all
check_all_lasts f p [] v = pure_lasts tt
check_all_lasts f p (t ∷ ts) v = then_lasts (check_lasts f p t v) (check_all_lasts f p ts v)

pub rest_lasts : (f : Force) (p : Place) (r : Option Spec) (vs : Vals) → Lasts (in_force f) (check_rest f p r vs)
unfolding check_rest
rest_lasts f p None [] = pure_lasts tt
rest_lasts f p (Some t) [] = pure_lasts tt
rest_lasts f p None (v ∷ vs) = pure_lasts tt
rest_lasts f p (Some t) (v ∷ vs) = then_lasts (expect_lasts f p t v) (rest_lasts f p (Some t) vs)

pub row_lasts : (f : Force) (p : Place) (ts : List Spec) (r : Option Spec) (vs : Vals) → Lasts (in_force f) (check_row f p ts r vs)
unfolding check_row
row_lasts f p [] r vs = rest_lasts f p r vs
row_lasts f p (t ∷ ts) r [] = pure_lasts tt
row_lasts f p (t ∷ ts) r (v ∷ vs) = then_lasts (expect_lasts f p t v) (row_lasts f p ts r vs)

-- ---- primitives

module _ (f : Force) (p : Place) where
  pub fitting_lasts : (q : Primitive) (vs : Vals) (z : ℤ) → Lasts (in_force f) (fitting f p q vs z)
  unfolding fitting
  fitting_lasts q vs z = either_lasts _ (pure_lasts z) (raise_lasts f _ p)

  pub if_fitting_lasts : (q : Primitive) (vs : Vals) (z : ℤ) → Lasts (in_force f) (if_fitting f p q vs z)
  unfolding if_fitting one_integer
  if_fitting_lasts q vs z = bind_lasts (fitting_lasts q vs z) (λ n. one_lasts _)

  pub dividing_lasts : {A : Type 0} (q : Primitive) (vs : Vals) {m : Effect A} → Lasts (in_force f) m → Lasts (in_force f) (dividing f p q vs m)
  unfolding dividing
  dividing_lasts q vs h = either_lasts _ (raise_lasts f _ p) h

  pub quotient_lasts : (q : Primitive) (vs : Vals) (n r : ℤ) → Lasts (in_force f) (quotient f p q vs n r)
  unfolding quotient
  quotient_lasts q vs n r = bind_lasts (fitting_lasts q vs n) (λ z. pure_lasts _)

  pub put_at_lasts : (v : Val) (x : Object) → Lasts (in_force f) (put_at v x)
  unfolding put_at
  put_at_lasts (Ref o) x = put_lasts _ x
  put_at_lasts (Int z) x = pure_lasts tt
  put_at_lasts (Char c) x = pure_lasts tt
  put_at_lasts (Sym s) x = pure_lasts tt

  pub index_lasts : (n : ℕ) (v : Val) → Lasts (in_force f) (valid_index f p n v)
  unfolding valid_index
  index_lasts n (Int (pos i)) = either_lasts _ (pure_lasts i) (raise_lasts f _ p)
  index_lasts n (Int (negsuc i)) = raise_lasts f _ p
  index_lasts n (Char c) = raise_lasts f _ p
  index_lasts n (Sym s) = raise_lasts f _ p
  index_lasts n (Ref o) = raise_lasts f _ p

  pub length_lasts : (v : Val) → Lasts (in_force f) (valid_length f p v)
  unfolding valid_length
  length_lasts (Int (pos i)) = either_lasts _ (pure_lasts i) (raise_lasts f _ p)
  length_lasts (Int (negsuc i)) = raise_lasts f _ p
  length_lasts (Char c) = raise_lasts f _ p
  length_lasts (Sym s) = raise_lasts f _ p
  length_lasts (Ref o) = raise_lasts f _ p

  pub new_vector_lasts : (v : Val) (n : ℕ) → Lasts (in_force f) (new_vector v n)
  unfolding new_vector
  new_vector_lasts v n = bind_lasts (then_lasts (then_lasts (allot_lasts _) (box_lasts _)) (add_lasts _)) (λ r. one_lasts r)

  pub new_string_lasts : (cs : List ℕ) → Lasts (in_force f) (new_string cs)
  unfolding new_string
  new_string_lasts cs = bind_lasts (then_lasts (allot_lasts _) (add_lasts _)) (λ r. one_lasts r)

  pub element_lasts : (vs : Vals) (o : Option Object) → Lasts (in_force f) (element f p vs o)
  unfolding element
  element_lasts vs o = bind_lasts (index_lasts _ _) (λ i. one_lasts _)

  pub letter_lasts : (vs : Vals) (o : Option Object) → Lasts (in_force f) (letter f p vs o)
  unfolding letter
  letter_lasts vs o = bind_lasts (index_lasts _ _) (λ i. one_lasts _)

  pub set_element_lasts : (vs : Vals) (o : Option Object) → Lasts (in_force f) (set_element f p vs o)
  unfolding set_element
  set_element_lasts vs o = bind_lasts (index_lasts _ _) (λ i. then_lasts (then_lasts (box_lasts _) (put_at_lasts _ _)) (one_lasts _))

  pub set_letter_lasts : (vs : Vals) (o : Option Object) → Lasts (in_force f) (set_letter f p vs o)
  unfolding set_letter
  set_letter_lasts vs o = bind_lasts (index_lasts _ _) (λ i. then_lasts (put_at_lasts _ _) (one_lasts _))

  pub set_car_lasts : (vs : Vals) (o : Option Object) → Lasts (in_force f) (set_car vs o)
  unfolding set_car
  set_car_lasts vs o = then_lasts (then_lasts (box_lasts _) (put_at_lasts _ _)) (one_lasts _)

  pub set_cdr_lasts : (vs : Vals) (o : Option Object) → Lasts (in_force f) (set_cdr vs o)
  unfolding set_cdr
  set_cdr_lasts vs o = then_lasts (then_lasts (box_lasts _) (put_at_lasts _ _)) (one_lasts _)

  pub list_end_lasts : (many : ℕ → Fault) (done : Vals) (v : Val) (b : Bool) (o : Option Object) → Lasts (in_force f) (list_end f p many done v b o)
  unfolding list_end
  list_end_lasts many done v true o = pure_lasts done
  list_end_lasts many done v false o = either_lasts _ (then_lasts (walk_lasts 1) (raise_lasts f _ p)) (raise_lasts f _ p)

  pub elements_lasts : (n : ℕ) (many : ℕ → Fault) (done : Vals) (v : Val) → Lasts (in_force f) (elements n f p many done v)
  unfolding elements
  elements_lasts zero many done v = bind_lasts (read_lasts _) (λ o. list_end_lasts many done v _ o)
  elements_lasts (suc n) many done v =
      bind_lasts (read_lasts _) (λ o. either_lasts _ (then_lasts (walk_lasts 1) (elements_lasts n many _ _)) (list_end_lasts many done v _ o))

  pub next_char_lasts : (e v : Val) (cs : List ℕ) → Lasts (in_force f) (next_char f p e v cs)
  unfolding next_char
  next_char_lasts e v [] = either_lasts _ (raise_lasts f _ p) (one_lasts v)
  next_char_lasts e v (c ∷ cs) = then_lasts (quiet_lasts _ (λ s. (refl, refl, refl))) (one_lasts _)

  pub bound_value_lasts : (s : SymId) (o : Option Val) → Lasts (in_force f) (bound_value f p s o)
  unfolding bound_value
  bound_value_lasts s None = raise_lasts f _ p
  bound_value_lasts s (Some v) = one_lasts v

  pub global_value_lasts : (s : SymId) → Lasts (in_force f) (global_value f p s)
  unfolding global_value
  global_value_lasts s = bind_lasts (read_lasts _) (λ o. bound_value_lasts s o)

  pub defined_lasts : (s : SymId) (o : Option Val) → Lasts (in_force f) (defined_function f p s o)
  unfolding defined_function
  defined_lasts s None = raise_lasts f _ p
  defined_lasts s (Some v) = one_lasts v

  pub global_function_lasts : (s : SymId) → Lasts (in_force f) (global_function f p s)
  unfolding global_function
  global_function_lasts s = bind_lasts (read_lasts _) (λ o. defined_lasts s o)

  pub set_global_lasts : (s : SymId) (v : Val) → Lasts (in_force f) (set_global s v)
  unfolding set_global
  set_global_lasts s v = then_lasts (then_lasts (box_lasts _) (quiet_lasts _ (λ st. (refl, refl, refl)))) (one_lasts v)

  pub act_lasts : (q : Primitive) (vs : Vals) → Lasts (in_force f) (act f p q vs)
  unfolding act one_integer
  act_lasts op.Cons vs = bind_lasts (then_lasts (then_lasts (allot_lasts 2) (box_lasts _)) (add_lasts _)) (λ r. one_lasts r)
  act_lasts op.List vs = bind_lasts (make_list_lasts vs) (λ r. one_lasts r)
  act_lasts op.Car vs = bind_lasts (read_lasts _) (λ o. one_lasts _)
  act_lasts op.Cdr vs = bind_lasts (read_lasts _) (λ o. one_lasts _)
  act_lasts op.Rplaca vs = bind_lasts (read_lasts _) (λ o. set_car_lasts vs o)
  act_lasts op.Rplacd vs = bind_lasts (read_lasts _) (λ o. set_cdr_lasts vs o)
  act_lasts op.MakeVector vs = bind_lasts (length_lasts _) (λ n. new_vector_lasts _ n)
  act_lasts op.MakeString vs = bind_lasts (length_lasts _) (λ n. new_string_lasts _)
  act_lasts op.Svref vs = bind_lasts (read_lasts _) (λ o. element_lasts vs o)
  act_lasts op.Schar vs = bind_lasts (read_lasts _) (λ o. letter_lasts vs o)
  act_lasts op.SetSvref vs = bind_lasts (read_lasts _) (λ o. set_element_lasts vs o)
  act_lasts op.SetSchar vs = bind_lasts (read_lasts _) (λ o. set_letter_lasts vs o)
  act_lasts op.VectorLength vs = bind_lasts (read_lasts _) (λ o. one_lasts _)
  act_lasts op.StringLength vs = bind_lasts (read_lasts _) (λ o. one_lasts _)
  act_lasts op.Eq vs = one_lasts _
  act_lasts op.Add vs = if_fitting_lasts _ vs _
  act_lasts op.Subtract vs = if_fitting_lasts _ vs _
  act_lasts op.Multiply vs = if_fitting_lasts _ vs _
  act_lasts op.Truncate vs = dividing_lasts _ vs (quotient_lasts _ vs _ _)
  act_lasts op.Floor vs = dividing_lasts _ vs (quotient_lasts _ vs _ _)
  act_lasts op.Rem vs = dividing_lasts _ vs (one_lasts _)
  act_lasts op.Mod vs = dividing_lasts _ vs (one_lasts _)
  act_lasts op.Equal vs = one_lasts _
  act_lasts op.NotEqual vs = one_lasts _
  act_lasts op.Less vs = one_lasts _
  act_lasts op.Greater vs = one_lasts _
  act_lasts op.LessOrEqual vs = one_lasts _
  act_lasts op.GreaterOrEqual vs = one_lasts _
  act_lasts op.LogAnd vs = one_lasts _
  act_lasts op.LogIor vs = one_lasts _
  act_lasts op.LogXor vs = one_lasts _
  act_lasts op.LogNot vs = one_lasts _
  act_lasts op.Ash vs = if_fitting_lasts _ vs _
  act_lasts op.CharCode vs = one_lasts _
  act_lasts op.CodeChar vs = one_lasts _
  act_lasts op.CharEqual vs = one_lasts _
  act_lasts op.CharLess vs = one_lasts _
  act_lasts op.ReadChar vs = bind_lasts (read_lasts _) (λ cs. next_char_lasts _ _ cs)
  act_lasts op.WriteChar vs = then_lasts (write_lasts _) (one_lasts _)
  act_lasts op.SymbolName vs = new_string_lasts _
  act_lasts op.SymbolValue vs = global_value_lasts _
  act_lasts op.SymbolFunction vs = global_function_lasts _
  act_lasts op.SetValue vs = set_global_lasts _ _
  act_lasts op.Boundp vs = bind_lasts (read_lasts _) (λ o. one_lasts _)
  act_lasts op.Fboundp vs = bind_lasts (read_lasts _) (λ o. one_lasts _)
  act_lasts op.Uninternedp vs = one_lasts _
  act_lasts op.Error vs = raise_lasts f _ p
  act_lasts op.ValuesList vs = elements_lasts _ _ _ _

  pub primitive_lasts : (q : Primitive) (vs : Vals) → Lasts (in_force f) (primitive f p q vs)
  unfolding primitive
  primitive_lasts q vs =
      then_lasts (then_lasts (either_lasts _ (pure_lasts tt) (box_lasts vs)) (row_lasts f p _ _ vs)) (act_lasts q vs)

-- ---- the effects of nodes

pub deliver_lasts : {inn : ℕ → Bool} → (word : Bool) (vs : Vals) → Lasts inn (deliver word vs)
unfolding deliver
deliver_lasts word vs = then_lasts (then_lasts (deliver_more_lasts _) (boxes_lasts _ _)) (pure_lasts vs)

pub box_in_lasts : {inn : ℕ → Bool} → (facts : Facts) (x : ℕ) (v : Val) → Lasts inn (box_in facts x v)
unfolding box_in
box_in_lasts facts x v = either_lasts _ (pure_lasts tt) (box_lasts _)

pub place_lasts : {inn : ℕ → Bool} → (b : Bool) (x : ℕ) (v : Val) → Lasts inn (place_in b x v)
unfolding place_in
place_lasts true x v = bind_lasts (then_lasts (allot_lasts 2) (add_lasts _)) (λ r. bind_to_lasts x r)
place_lasts false x v = bind_to_lasts x v

pub variable_lasts : {inn : ℕ → Bool} → (facts : Facts) (x : ℕ) (v : Val) → Lasts inn (new_variable facts x v)
unfolding new_variable
variable_lasts facts x v = then_lasts (box_in_lasts facts x v) (place_lasts _ x v)

pub put_value_lasts : {inn : ℕ → Bool} → (v : Val) (x : Object) → Lasts inn (put_at v x)
unfolding put_at
put_value_lasts (Ref o) x = put_lasts _ x
put_value_lasts (Int z) x = pure_lasts tt
put_value_lasts (Char c) x = pure_lasts tt
put_value_lasts (Sym s) x = pure_lasts tt

pub change_in_lasts : {inn : ℕ → Bool} → (b : Bool) (x : ℕ) (v : Val) → Lasts inn (change_in b x v)
unfolding change_in
change_in_lasts true x v = bind_lasts (read_lasts _) (λ c. put_value_lasts c _)
change_in_lasts false x v = bind_to_lasts x v

pub set_variable_lasts : {inn : ℕ → Bool} → (facts : Facts) (x : ℕ) (v : Val) → Lasts inn (set_variable facts x v)
unfolding set_variable
set_variable_lasts facts x v = then_lasts (then_lasts (box_in_lasts facts x v) (change_in_lasts _ x v)) (one_lasts v)

pub capture_lasts : {inn : ℕ → Bool} → (facts : Facts) (t : FunctionText) → Lasts inn (capture facts t)
unfolding capture
capture_lasts facts t = bind_lasts (read_lasts _) (λ n. then_lasts (boxes_lasts n n) (read_lasts _))

pub make_function_lasts : {inn : ℕ → Bool} → (facts : Facts) (t : FunctionText) → Lasts inn (make_function facts t)
unfolding make_function
make_function_lasts facts t = bind_lasts (capture_lasts facts t) (λ vs. bind_lasts (then_lasts (allot_lasts _) (add_lasts _)) (λ r. one_lasts r))

pub make_local_lasts : {inn : ℕ → Bool} → (facts : Facts) (o : Option FunctionText) → Lasts inn (make_local facts o)
unfolding make_local
make_local_lasts facts None = one_lasts _
make_local_lasts facts (Some t) = make_function_lasts facts t

pub named_lasts : (f : Force) (p : Place) (s : SymId) (o : Option Val) → Lasts (in_force f) (named_function f p s o)
unfolding named_function
named_lasts f p s None = raise_lasts f _ p
named_lasts f p s (Some v) = pure_lasts v

pub function_of_lasts : (f : Force) (p : Place) (v : Val) → Lasts (in_force f) (function_of f p v)
unfolding function_of
function_of_lasts f p (Sym s) = bind_lasts (read_lasts _) (λ o. named_lasts f p s o)
function_of_lasts f p (Int z) = pure_lasts _
function_of_lasts f p (Char c) = pure_lasts _
function_of_lasts f p (Ref o) = pure_lasts _

pub designated_lasts : (f : Force) (p : Place) (v : Val) → Lasts (in_force f) (designated f p v)
unfolding designated
designated_lasts f p v = then_lasts (expect_lasts f p _ v) (function_of_lasts f p v)

pub set_function_lasts : {inn : ℕ → Bool} → (s : SymId) (v : Val) → Lasts inn (set_function s v)
unfolding set_function
set_function_lasts s v = then_lasts (quiet_lasts _ (λ st. (refl, refl, refl))) (one_lasts v)

pub spread_lasts : (f : Force) (p : Place) (vs : Vals) → Lasts (in_force f) (spread f p vs)
unfolding spread
spread_lasts f p vs = bind_lasts (elements_lasts f p _ _ _ _) (λ ws. pure_lasts _)

pub not_too_many_lasts : (f : Force) (p : Place) (vs : Vals) → Lasts (in_force f) (not_too_many f p vs)
unfolding not_too_many
not_too_many_lasts f p vs = either_lasts _ (raise_lasts f _ p) (pure_lasts tt)

pub enter_extent_lasts : {inn : ℕ → Bool} → (facts : Facts) (b : ℕ) → Lasts inn (enter_extent facts b)
unfolding enter_extent
enter_extent_lasts facts b = bind_lasts entry_lasts (λ n. then_lasts (place_lasts _ b _) (pure_lasts n))

pub tested_leads : (f : Force) (p : Place) (name : Val) (e : Exit) (b : Bool) → in_force f e.entry ≡ b → Leads {A = Vals} (in_force f) (if b then box_all e.values >> leave e else raise f (Control name) p)
tested_leads f p name e true h = then_leads (box_lasts _).leads (leave_leads e h)
tested_leads f p name e false h = (raise_lasts f _ p).leads

pub tested_lasts : (f : Force) (p : Place) (name : Val) (e : Exit) (b : Bool) → e.tag ≡ None → in_force f e.entry ≡ b → Lasts {A = Vals} (in_force f) (if b then box_all e.values >> leave e else raise f (Control name) p)
tested_lasts f p name e true apart h = then_lasts (box_lasts _) (leave_lasts e apart h)
tested_lasts f p name e false apart h = raise_lasts f _ p

pub exit_leads : (f : Force) (p : Place) (name : Val) (e : Exit) → Leads (in_force f) (exit_to f p name e)
unfolding exit_to
exit_leads f p name e = tested_leads f p name e (in_force f e.entry) refl

pub exit_lasts : (f : Force) (p : Place) (name : Val) (e : Exit) → e.tag ≡ None → Lasts (in_force f) (exit_to f p name e)
unfolding exit_to
exit_lasts f p name e apart = tested_lasts f p name e (in_force f e.entry) apart refl

pub return_lasts : (facts : Facts) (f : Force) (p : Place) (b : ℕ) (vs : Vals) → Lasts (in_force f) (return_from facts f p b vs)
unfolding return_from
return_lasts facts f p b vs = bind_lasts (read_lasts _) (λ n. exit_lasts f p _ _ refl)

pub go_on_leads : (facts : Facts) (f : Force) (p : Place) (t : ℕ) (o : Option TagText) → Leads (in_force f) (go_on_at facts f p t o)
unfolding go_on_at
go_on_leads facts f p t None = (raise_lasts f _ p).leads
go_on_leads facts f p t (Some u) = bind_leads (read_lasts _).leads (λ n. exit_leads f p _ _)

pub go_leads : (facts : Facts) (f : Force) (p : Place) (t : ℕ) → Leads (in_force f) (go_to facts f p t)
unfolding go_to
go_leads facts f p t = go_on_leads facts f p t _

-- a catch that was found is in force
pub found_at : (d : Catch) (ds : List Catch) (n : ℕ) (c : Catch) (later : ℕ × Option Catch) → (later.1 ≡ Some c → is_catch c.entry ds ≡ true) → (b : Bool) →
    (if b then (n + 1, Some d) else later).1 ≡ Some c → (c.entry == d.entry || is_catch c.entry ds) ≡ true
found_at d ds n c later h true e = or_left _ _ (ap (λ (o : Option Catch). elim o [ None ↦ true | Some x ↦ c.entry == x.entry ]) e ∙ same_number c.entry)
found_at d ds n c later h false e = or_right _ _ (h e)

pub found : (v : Val) (cs : List Catch) (n : ℕ) (c : Catch) → (find_catch v cs n).1 ≡ Some c → is_catch c.entry cs ≡ true
found v [] n c h = absurd (cc)
found v (d ∷ ds) n c h = found_at d ds n c (find_catch v ds (n + 1)) (λ e. found v ds (n + 1) c e) (same v d.tag) h

pub throw_to_lasts : (f : Force) (p : Place) (v : Val) (vs : Vals) (o : Option Catch) → (find_catch v f.catches 0).1 ≡ o → Lasts (in_force f) (throw_to f p v vs o)
unfolding throw_to
throw_to_lasts f p v vs None e = raise_lasts f _ p
throw_to_lasts f p v vs (Some c) e = then_lasts (box_lasts vs) (leave_lasts _ refl (or_right _ _ (found v f.catches 0 c e)))

pub throw_lasts : (f : Force) (p : Place) (v : Val) (vs : Vals) → Lasts (in_force f) (throw f p v vs)
unfolding throw
throw_lasts f p v vs = then_lasts (look_lasts _) (throw_to_lasts f p v vs _ refl)
