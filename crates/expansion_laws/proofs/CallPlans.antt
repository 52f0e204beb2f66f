-- Calls of global functions, as derivations.
use Rattle.std.specs.Prelude.{◌≡◌, Bool, true, false, if◌then◌else◌, List, [], ◌∷◌, length, Option, Some, None}
use Rattle.std.specs.Option.{option_and_then}
use Rattle.std.proofs.Common.{refl}
use Rattle.lisp_base.specs.declared.values.SymId.{SymId}
use Rattle.lisp_base.specs.declared.values.Val.{Val}
use Rattle.lisp_base.specs.declared.primitives.Primitive.{Primitive as Operation}
use Rattle.lisp_base.specs.declared.primitives.Primitive.TheVariants as q
use Rattle.lisp_base.specs.declared.types.TypeName.{TypeName}
use Rattle.lisp_base.specs.declared.types.TypeName.TheVariants as name
use Rattle.lisp_base.specs.PrimNames.{prim_at}
use Rattle.lisp_base.specs.Sort.{number_of}
use Rattle.core_form.specs.Checked.{operation_takes}
use Rattle.core_form.specs.Primitives.{most_arguments}
use Rattle.expansion.specs.declared.operator.Direct.{Direct}
use Rattle.expansion.specs.declared.operator.Direct.TheVariants as direct
use Rattle.expansion.specs.Operators.{direct_of}
use Rattle.expansion.specs.Scopes.{value_or}
use Rattle.expansion.specs.Sketches.{Sketch, forms, primitive}
use Rattle.expansion.specs.Calls.{integer, minus_one, fold_call, subtraction, with_one, on_two, reading, signalling, type_test, direct_sketch, first_of, primitive_on, primitive_sketch, calls_global, global_call}
use Rattle.expansion_laws.specs.Planned.{WrittenOtherwise, sum_of_none, product_of_none, all_bits, itself, fold_of, negated, and_one, on_both, read_default, read_stream, read_end, read_all, signalled, tested, CalledGlobal, directly, by_primitive, as_function}

abbrev pub OnSketch : (Sketch → Type 0) → Option Sketch → Type 0
OnSketch P None = Unit {0}
OnSketch P (Some x) = P x

folds : (o : Operation) (identity : Sketch) → WrittenOtherwise [] identity → operation_takes o 2 ≡ true → (vs : List Val) → OnSketch (WrittenOtherwise vs) (fold_call o identity vs)
folds o identity none takes [] = none
folds o identity none takes (v ∷ []) = itself v
folds o identity none takes (v ∷ x ∷ xs) = fold_of o v x xs takes

subtracts : operation_takes q.Subtract 2 ≡ true → (vs : List Val) → OnSketch (WrittenOtherwise vs) (subtraction vs)
subtracts takes [] = tt
subtracts takes (v ∷ []) = negated v
subtracts takes (v ∷ x ∷ xs) = fold_of q.Subtract v x xs takes

adds_one : (o : Operation) → operation_takes o 2 ≡ true → (vs : List Val) → OnSketch (WrittenOtherwise vs) (with_one o vs)
adds_one o takes [] = tt
adds_one o takes (v ∷ []) = and_one o v takes
adds_one o takes (v ∷ x ∷ xs) = tt

takes_two : (o : Operation) → operation_takes o 2 ≡ true → (vs : List Val) → OnSketch (WrittenOtherwise vs) (on_two o vs)
takes_two o takes [] = tt
takes_two o takes (v ∷ []) = tt
takes_two o takes (v ∷ x ∷ []) = on_both o v x takes
takes_two o takes (v ∷ x ∷ y ∷ ys) = tt

reads : (vs : List Val) → OnSketch (WrittenOtherwise vs) (reading vs)
reads [] = read_default
reads (s ∷ []) = read_stream s
reads (s ∷ e ∷ []) = read_end s e
reads (s ∷ e ∷ v ∷ []) = read_all s e v
reads (s ∷ e ∷ v ∷ x ∷ xs) = tt

signals : (vs : List Val) → OnSketch (WrittenOtherwise vs) (signalling vs)
signals [] = tt
signals (v ∷ vs) = signalled v vs

tests_type : (t : TypeName) (vs : List Val) → OnSketch (WrittenOtherwise vs) (type_test t vs)
tests_type t [] = tt
tests_type t (v ∷ []) = tested t v
tests_type t (v ∷ x ∷ xs) = tt

pub written : (d : Direct) (vs : List Val) → OnSketch (WrittenOtherwise vs) (direct_sketch d vs)
unfolding direct_sketch most_arguments
written direct.Add vs = folds q.Add (integer 0) sum_of_none refl vs
written direct.Subtract vs = subtracts refl vs
written direct.Multiply vs = folds q.Multiply (integer 1) product_of_none refl vs
written direct.LogAnd vs = folds q.LogAnd minus_one all_bits refl vs
written direct.LogIor vs = folds q.LogIor (integer 0) sum_of_none refl vs
written direct.LogXor vs = folds q.LogXor (integer 0) sum_of_none refl vs
written direct.Increment vs = adds_one q.Add refl vs
written direct.Decrement vs = adds_one q.Subtract refl vs
written direct.Truncate vs = adds_one q.Truncate refl vs
written direct.Floor vs = adds_one q.Floor refl vs
written direct.ReadChar vs = reads vs
written direct.Error vs = signals vs
written direct.Eql vs = takes_two q.Eq refl vs
written direct.Char vs = takes_two q.Schar refl vs
written direct.Not vs = tests_type name.Null vs
written direct.Null vs = tests_type name.Null vs
written direct.Consp vs = tests_type name.Cons vs
written direct.Listp vs = tests_type name.List vs
written direct.Atom vs = tests_type name.Atom vs
written direct.Symbolp vs = tests_type name.Symbol vs
written direct.Keywordp vs = tests_type name.Keyword vs
written direct.Integerp vs = tests_type name.Integer vs
written direct.Numberp vs = tests_type name.Number vs
written direct.Characterp vs = tests_type name.Character vs
written direct.Functionp vs = tests_type name.Function vs
written direct.Stringp vs = tests_type name.String vs
written direct.SimpleStringP vs = tests_type name.SimpleString vs
written direct.Vectorp vs = tests_type name.Vector vs
written direct.SimpleVectorP vs = tests_type name.SimpleVector vs

taken_by : (s : SymId) (vs : List Val) (o : Operation) → prim_at (number_of s) ≡ Some o → (b : Bool) → operation_takes o (length vs) ≡ b → CalledGlobal s vs (value_or (if b then Some (primitive o (forms vs)) else None) (calls_global s vs))
taken_by s vs o is true takes = by_primitive o is takes
taken_by s vs o is false takes = as_function

operated_by : (s : SymId) (vs : List Val) (found : Option Operation) → prim_at (number_of s) ≡ found → CalledGlobal s vs (value_or (option_and_then (primitive_on vs) found) (calls_global s vs))
operated_by s vs None is = as_function
operated_by s vs (Some o) is = taken_by s vs o is (operation_takes o (length vs)) refl

written_by : (s : SymId) (vs : List Val) (d : Direct) → direct_of s ≡ Some d → (x : Option Sketch) → direct_sketch d vs ≡ x → OnSketch (WrittenOtherwise vs) x → CalledGlobal s vs (value_or (first_of x (primitive_sketch s vs)) (calls_global s vs))
written_by s vs d is None made h = operated_by s vs (prim_at (number_of s)) refl
written_by s vs d is (Some x) made h = directly d x is made h

direct_by : (s : SymId) (vs : List Val) (found : Option Direct) → direct_of s ≡ found → CalledGlobal s vs (value_or (first_of (option_and_then (λ d. direct_sketch d vs) found) (primitive_sketch s vs)) (calls_global s vs))
direct_by s vs None is = operated_by s vs (prim_at (number_of s)) refl
direct_by s vs (Some d) is = written_by s vs d is (direct_sketch d vs) refl (written d vs)

pub called_global : (s : SymId) (vs : List Val) → CalledGlobal s vs (global_call s vs)
unfolding global_call
called_global s vs = direct_by s vs (direct_of s) refl
