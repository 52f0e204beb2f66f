-- Sketches of calls, whose arguments are there.
use Rattle.std.specs.Prelude.{refl, ℕ, ◌<◌, negsuc, List, [], ◌∷◌, length, Option, Some, None}
use Rattle.std.specs.Option.{option_and_then}
use Rattle.std.proofs.Common.{arith}
use Rattle.lisp_base.specs.declared.values.SymId.{SymId}
use Rattle.lisp_base.specs.declared.values.Val.{Val}
use Rattle.lisp_base.specs.declared.primitives.Primitive.{Primitive as Operation}
use Rattle.lisp_base.specs.declared.primitives.Primitive.TheVariants as q
use Rattle.lisp_base.specs.declared.types.TypeName.{TypeName}
use Rattle.lisp_base.specs.declared.types.TypeName.TheVariants as name
use Rattle.lisp_base.specs.PrimNames.{prim_at}
use Rattle.lisp_base.specs.Sort.{number_of, nil, truth}
use Rattle.lisp_base.specs.Spec.{Named}
use Rattle.lisp_base.specs.Lawful.{most_parts}
use Rattle.core_form.specs.Checked.{operation_takes}
use Rattle.expansion.specs.declared.operator.Direct.{Direct}
use Rattle.expansion.specs.declared.operator.Direct.TheVariants as direct
use Rattle.expansion.specs.Operators.{direct_of}
use Rattle.expansion.specs.Scopes.{Scope, value_or}
use Rattle.expansion.specs.Steps.{World}
use Rattle.expansion.specs.Sketches.{Sketch, constant}
use Rattle.expansion.specs.Calls.{integer, minus_one, folded, fold_call, subtraction, with_one, on_two, reading, signalling, type_test, direct_sketch, first_of, primitive_on, global_call, calls_local, few}
use Rattle.expansion_laws.specs.There.{Stores, SymbolIsThere, TypeIsThere, AreSound}
use Rattle.expansion_laws.proofs.ThereLists.{Each, no_more, one_more, Where, nothing_there, found_there, where_if}
use Rattle.expansion_laws.proofs.ThereStores.{ValuesAreThere, nil_there, truth_there, number_there, integer_there}
use Rattle.expansion_laws.proofs.ThereSteps.{IsInOrder, Safe, Nothing, only_safe}
use Rattle.expansion_laws.proofs.ThereSketches.{SketchIsThere, a_form, a_unary, a_many, the_sketches, the_forms, a_constant, a_primitive}

pub named_type_there : (s : Stores) (t : TypeName) → TypeIsThere s (Named t)
unfolding most_parts
named_type_there s t = record { parts = refl; size = omega arith }

module _ {s : Stores} (sound : AreSound s) where
  an_integer : (n : ℕ) → n < 2 → SketchIsThere s (integer n)
  an_integer n lt = a_constant (number_there n lt)

  two_parts : {x y : Sketch} → SketchIsThere s x → SketchIsThere s y → Each (SketchIsThere s) (x ∷ y ∷ [])
  two_parts h k = one_more h (one_more k no_more)

  three_parts : {x y z : Sketch} → SketchIsThere s x → SketchIsThere s y → SketchIsThere s z → Each (SketchIsThere s) (x ∷ y ∷ z ∷ [])
  three_parts h k l = one_more h (two_parts k l)

  a_folded : (o : Operation) (x : Sketch) (vs : List Val) → SketchIsThere s x → ValuesAreThere s vs → SketchIsThere s (folded o x vs)
  a_folded o x [] h no_more = h
  a_folded o x (v ∷ vs) h (one_more k ks) = a_folded o _ vs (a_primitive o (two_parts h (a_form k))) ks

  a_fold : (o : Operation) (identity : Sketch) (vs : List Val) → SketchIsThere s identity → ValuesAreThere s vs → Where (SketchIsThere s) (fold_call o identity vs)
  a_fold o identity [] h k = found_there h
  a_fold o identity (v ∷ []) h (one_more k ks) = found_there (a_unary (named_type_there s name.Integer) (a_form k))
  a_fold o identity (v ∷ x ∷ xs) h (one_more k ks) = found_there (a_folded o _ (x ∷ xs) (a_form k) ks)

  a_subtraction : (vs : List Val) → ValuesAreThere s vs → Where (SketchIsThere s) (subtraction vs)
  a_subtraction [] h = nothing_there
  a_subtraction (v ∷ []) (one_more h hs) = found_there (a_primitive q.Subtract (two_parts (an_integer 0 (omega arith)) (a_form h)))
  a_subtraction (v ∷ x ∷ xs) (one_more h hs) = found_there (a_folded q.Subtract _ (x ∷ xs) (a_form h) hs)

  by_one : (o : Operation) (vs : List Val) → ValuesAreThere s vs → Where (SketchIsThere s) (with_one o vs)
  by_one o [] h = nothing_there
  by_one o (v ∷ []) (one_more h hs) = found_there (a_primitive o (two_parts (a_form h) (an_integer 1 (omega arith))))
  by_one o (v ∷ x ∷ xs) h = nothing_there

  of_two : (o : Operation) (vs : List Val) → ValuesAreThere s vs → Where (SketchIsThere s) (on_two o vs)
  of_two o [] h = nothing_there
  of_two o (v ∷ []) h = nothing_there
  of_two o (v ∷ x ∷ []) (one_more h (one_more k ks)) = found_there (a_primitive o (two_parts (a_form h) (a_form k)))
  of_two o (v ∷ x ∷ y ∷ ys) h = nothing_there

  nil_constant : SketchIsThere s (constant nil)
  nil_constant = a_constant (nil_there sound)

  truth_constant : SketchIsThere s (constant truth)
  truth_constant = a_constant (truth_there sound)

  a_reading : (vs : List Val) → ValuesAreThere s vs → Where (SketchIsThere s) (reading vs)
  a_reading [] h = found_there (a_primitive q.ReadChar (three_parts nil_constant truth_constant nil_constant))
  a_reading (v ∷ []) (one_more h hs) = found_there (a_primitive q.ReadChar (three_parts (a_form h) truth_constant nil_constant))
  a_reading (v ∷ e ∷ []) (one_more h (one_more k ks)) = found_there (a_primitive q.ReadChar (three_parts (a_form h) (a_form k) nil_constant))
  a_reading (v ∷ e ∷ x ∷ []) (one_more h (one_more k (one_more l ls))) = found_there (a_primitive q.ReadChar (three_parts (a_form h) (a_form k) (a_form l)))
  a_reading (v ∷ e ∷ x ∷ y ∷ ys) h = nothing_there

  a_signal : (vs : List Val) → ValuesAreThere s vs → Where (SketchIsThere s) (signalling vs)
  a_signal [] h = nothing_there
  a_signal (v ∷ vs) (one_more h hs) = found_there (a_primitive q.Error (two_parts (a_form h) (a_primitive q.List (the_forms hs))))

  a_type_test : (t : TypeName) (vs : List Val) → ValuesAreThere s vs → Where (SketchIsThere s) (type_test t vs)
  a_type_test t [] h = nothing_there
  a_type_test t (v ∷ []) (one_more h hs) = found_there (a_unary (named_type_there s t) (a_form h))
  a_type_test t (v ∷ x ∷ xs) h = nothing_there

  minus_one_there : SketchIsThere s minus_one
  minus_one_there = a_constant (integer_there (negsuc 0) refl)

  a_direct : (d : Direct) (vs : List Val) → ValuesAreThere s vs → Where (SketchIsThere s) (direct_sketch d vs)
  unfolding direct_sketch
  a_direct direct.Add vs h = a_fold q.Add _ vs (an_integer 0 (omega arith)) h
  a_direct direct.Subtract vs h = a_subtraction vs h
  a_direct direct.Multiply vs h = a_fold q.Multiply _ vs (an_integer 1 (omega arith)) h
  a_direct direct.LogAnd vs h = a_fold q.LogAnd _ vs minus_one_there h
  a_direct direct.LogIor vs h = a_fold q.LogIor _ vs (an_integer 0 (omega arith)) h
  a_direct direct.LogXor vs h = a_fold q.LogXor _ vs (an_integer 0 (omega arith)) h
  a_direct direct.Increment vs h = by_one q.Add vs h
  a_direct direct.Decrement vs h = by_one q.Subtract vs h
  a_direct direct.Truncate vs h = by_one q.Truncate vs h
  a_direct direct.Floor vs h = by_one q.Floor vs h
  a_direct direct.ReadChar vs h = a_reading vs h
  a_direct direct.Error vs h = a_signal vs h
  a_direct direct.Eql vs h = of_two q.Eq vs h
  a_direct direct.Char vs h = of_two q.Schar vs h
  a_direct direct.Not vs h = a_type_test name.Null vs h
  a_direct direct.Null vs h = a_type_test name.Null vs h
  a_direct direct.Consp vs h = a_type_test name.Cons vs h
  a_direct direct.Listp vs h = a_type_test name.List vs h
  a_direct direct.Atom vs h = a_type_test name.Atom vs h
  a_direct direct.Symbolp vs h = a_type_test name.Symbol vs h
  a_direct direct.Keywordp vs h = a_type_test name.Keyword vs h
  a_direct direct.Integerp vs h = a_type_test name.Integer vs h
  a_direct direct.Numberp vs h = a_type_test name.Number vs h
  a_direct direct.Characterp vs h = a_type_test name.Character vs h
  a_direct direct.Functionp vs h = a_type_test name.Function vs h
  a_direct direct.Stringp vs h = a_type_test name.String vs h
  a_direct direct.SimpleStringP vs h = a_type_test name.SimpleString vs h
  a_direct direct.Vectorp vs h = a_type_test name.Vector vs h
  a_direct direct.SimpleVectorP vs h = a_type_test name.SimpleVector vs h

  a_primitive_on : (vs : List Val) (o : Operation) → ValuesAreThere s vs → Where (SketchIsThere s) (primitive_on vs o)
  a_primitive_on vs o h = where_if (operation_takes o (length vs)) _ _ (found_there (a_primitive o (the_forms h))) nothing_there

  -- what is found of several
  found_of : (o : Option Direct) (vs : List Val) → ValuesAreThere s vs → Where (SketchIsThere s) (option_and_then (λ d. direct_sketch d vs) o)
  found_of None vs h = nothing_there
  found_of (Some d) vs h = a_direct d vs h

  primitive_of : (o : Option Operation) (vs : List Val) → ValuesAreThere s vs → Where (SketchIsThere s) (option_and_then (primitive_on vs) o)
  primitive_of None vs h = nothing_there
  primitive_of (Some o) vs h = a_primitive_on vs o h

  the_first : (a b : Option Sketch) (x : Sketch) → Where (SketchIsThere s) a → Where (SketchIsThere s) b → SketchIsThere s x → SketchIsThere s (value_or (first_of a b) x)
  the_first (Some y) b x (found_there h) k l = h
  the_first None (Some y) x h (found_there k) l = k
  the_first None None x h k l = l

  pub a_global_call : (x : SymId) (vs : List Val) → SymbolIsThere s x → ValuesAreThere s vs → SketchIsThere s (global_call x vs)
  unfolding global_call
  a_global_call x vs h k = the_first _ _ _ (found_of (direct_of x) vs k) (primitive_of (prim_at (number_of x)) vs k) (a_many h (the_sketches (the_forms k)))

  pub a_local_call : (f : ℕ) (vs : List Val) → ValuesAreThere s vs → SketchIsThere s (calls_local f vs)
  a_local_call f vs h = a_many tt (the_sketches (the_forms h))

pub few_safe : (sc : Scope) (vs : List Val) {w : World} → IsInOrder w → Safe w Nothing (few sc vs w)
unfolding few
few_safe sc vs o = only_safe sc _ o
