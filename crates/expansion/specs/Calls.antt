-- Calls: of local functions, of primitives, of functions whose calls are written otherwise, and of global functions (ANSI Common Lisp
-- 3.1.2.1.2.3 and the entries of the functions; which calls are primitives is this project's own).
use Rattle.std.specs.Prelude.{ℕ, pos, negsuc, if◌then◌else◌, List, [], ◌∷◌, length, nat_le, Option, Some, None}
use Rattle.std.specs.Option.{option_and_then}
use Rattle.lisp_base.specs.declared.values.SymId.{SymId}
use Rattle.lisp_base.specs.declared.values.Val.{Val}
use Rattle.lisp_base.specs.declared.values.Val.TheVariants.{Int}
use Rattle.lisp_base.specs.declared.primitives.Primitive.{Primitive as Operation}
use Rattle.lisp_base.specs.declared.primitives.Primitive.TheVariants as q
use Rattle.lisp_base.specs.declared.types.TypeName.{TypeName}
use Rattle.lisp_base.specs.declared.types.TypeName.TheVariants as name
use Rattle.lisp_base.specs.PrimNames.{prim_at}
use Rattle.lisp_base.specs.Sort.{number_of, nil, truth}
use Rattle.lisp_base.specs.Spec.{Named}
use Rattle.core_form.specs.Checked.{operation_takes}
use Rattle.core_form.specs.Primitives.{most_arguments}
use Rattle.expansion.specs.declared.operator.Direct.{Direct}
use Rattle.expansion.specs.declared.operator.Direct.TheVariants as direct
use Rattle.expansion.specs.Operators.{direct_of}
use Rattle.expansion.specs.declared.heads.Many.TheVariants.{CallingLocal, CallingGlobal}
use Rattle.expansion.specs.Scopes.{Scope, value_or}
use Rattle.expansion.specs.Steps.{Step, only_if}
use Rattle.expansion.specs.Sketches.{Sketch, form, one, many, Checking, Testing, sketches, forms, constant, primitive}

abbrev pub integer : ℕ → Sketch
integer n = constant (Int (pos n))

abbrev pub minus_one : Sketch
minus_one = constant (Int (negsuc 0))

-- an operation on the first two of several, then on what that gives and the next, and so on
abbrev pub folded : Operation → Sketch → List Val → Sketch
folded o x [] = x
folded o x (v ∷ vs) = folded o (primitive o (x ∷ form v ∷ [])) vs

-- of no argument the identity, of one that argument, which must be an integer
abbrev pub fold_call : Operation → Sketch → List Val → Option Sketch
fold_call o identity [] = Some identity
fold_call o identity (v ∷ []) = Some (one (Checking (Named name.Integer)) (form v))
fold_call o identity (v ∷ x ∷ xs) = Some (folded o (form v) (x ∷ xs))

abbrev pub subtraction : List Val → Option Sketch
subtraction [] = None
subtraction (v ∷ []) = Some (primitive q.Subtract (integer 0 ∷ form v ∷ []))
subtraction (v ∷ x ∷ xs) = Some (folded q.Subtract (form v) (x ∷ xs))

-- an operation on the one argument and 1
abbrev pub with_one : Operation → List Val → Option Sketch
with_one o [] = None
with_one o (v ∷ []) = Some (primitive o (form v ∷ integer 1 ∷ []))
with_one o (v ∷ x ∷ xs) = None

abbrev pub on_two : Operation → List Val → Option Sketch
on_two o [] = None
on_two o (v ∷ []) = None
on_two o (v ∷ x ∷ []) = Some (primitive o (form v ∷ form x ∷ []))
on_two o (v ∷ x ∷ y ∷ ys) = None

-- the stream, whether the end of the input is an error, and what is given there else: by default NIL, T and NIL
abbrev pub reading : List Val → Option Sketch
reading [] = Some (primitive q.ReadChar (constant nil ∷ constant truth ∷ constant nil ∷ []))
reading (s ∷ []) = Some (primitive q.ReadChar (form s ∷ constant truth ∷ constant nil ∷ []))
reading (s ∷ e ∷ []) = Some (primitive q.ReadChar (form s ∷ form e ∷ constant nil ∷ []))
reading (s ∷ e ∷ v ∷ []) = Some (primitive q.ReadChar (form s ∷ form e ∷ form v ∷ []))
reading (s ∷ e ∷ v ∷ x ∷ xs) = None

-- the first argument, and the list of the others
abbrev pub signalling : List Val → Option Sketch
signalling [] = None
signalling (v ∷ vs) = Some (primitive q.Error (form v ∷ primitive q.List (forms vs) ∷ []))

abbrev pub type_test : TypeName → List Val → Option Sketch
type_test t [] = None
type_test t (v ∷ []) = Some (one (Testing (Named t)) (form v))
type_test t (v ∷ x ∷ xs) = None

unfoldable pub direct_sketch : Direct → List Val → Option Sketch
direct_sketch direct.Add vs = fold_call q.Add (integer 0) vs
direct_sketch direct.Subtract vs = subtraction vs
direct_sketch direct.Multiply vs = fold_call q.Multiply (integer 1) vs
direct_sketch direct.LogAnd vs = fold_call q.LogAnd minus_one vs
direct_sketch direct.LogIor vs = fold_call q.LogIor (integer 0) vs
direct_sketch direct.LogXor vs = fold_call q.LogXor (integer 0) vs
direct_sketch direct.Increment vs = with_one q.Add vs
direct_sketch direct.Decrement vs = with_one q.Subtract vs
direct_sketch direct.Truncate vs = with_one q.Truncate vs
direct_sketch direct.Floor vs = with_one q.Floor vs
direct_sketch direct.ReadChar vs = reading vs
direct_sketch direct.Error vs = signalling vs
direct_sketch direct.Eql vs = on_two q.Eq vs
direct_sketch direct.Char vs = on_two q.Schar vs
direct_sketch direct.Not vs = type_test name.Null vs
direct_sketch direct.Null vs = type_test name.Null vs
direct_sketch direct.Consp vs = type_test name.Cons vs
direct_sketch direct.Listp vs = type_test name.List vs
direct_sketch direct.Atom vs = type_test name.Atom vs
direct_sketch direct.Symbolp vs = type_test name.Symbol vs
direct_sketch direct.Keywordp vs = type_test name.Keyword vs
direct_sketch direct.Integerp vs = type_test name.Integer vs
direct_sketch direct.Numberp vs = type_test name.Number vs
direct_sketch direct.Characterp vs = type_test name.Character vs
direct_sketch direct.Functionp vs = type_test name.Function vs
direct_sketch direct.Stringp vs = type_test name.String vs
direct_sketch direct.SimpleStringP vs = type_test name.SimpleString vs
direct_sketch direct.Vectorp vs = type_test name.Vector vs
direct_sketch direct.SimpleVectorP vs = type_test name.SimpleVector vs

abbrev pub first_of : Option Sketch → Option Sketch → Option Sketch
first_of None other = other
first_of (Some x) other = Some x

-- a primitive with as many arguments as it takes
abbrev pub primitive_on : List Val → Operation → Option Sketch
primitive_on vs o = if operation_takes o (length vs) then Some (primitive o (forms vs)) else None

abbrev pub primitive_sketch : SymId → List Val → Option Sketch
primitive_sketch s vs = option_and_then (primitive_on vs) (prim_at (number_of s))

abbrev pub calls_global : SymId → List Val → Sketch
calls_global s vs = many (CallingGlobal s) (sketches (forms vs))

-- a call of the global function of a symbol
unfoldable pub global_call : SymId → List Val → Sketch
global_call s vs =
    value_or (first_of (option_and_then (λ d. direct_sketch d vs) (direct_of s)) (primitive_sketch s vs)) (calls_global s vs)

abbrev pub calls_local : ℕ → List Val → Sketch
calls_local f vs = many (CallingLocal f) (sketches (forms vs))

-- not more arguments than a source call may have
unfoldable pub few : Scope → List Val → Step (Unit {0})
few sc vs = only_if sc (nat_le (length vs) most_arguments)
