-- What small programs do, computed.
use Rattle.std.specs.Prelude.{◌≡◌, refl, ℕ, ◌+◌, ◌^◌, ◌*◌, ◌-◌, pos, negsuc, List, [], ◌∷◌, map, codes, Some, None}
use Rattle.lisp_base.specs.declared.values.SymKind.TheVariants.{Plain}
use Rattle.lisp_base.specs.declared.values.Val.{Val}
use Rattle.lisp_base.specs.declared.values.Val.TheVariants.{Int, Char, Sym, Ref}
use Rattle.lisp_base.specs.declared.values.Place.{Place}
use Rattle.lisp_base.specs.declared.values.Place.TheVariants.{File}
use Rattle.lisp_base.specs.declared.primitives.Primitive.{Primitive as Operation}
use Rattle.lisp_base.specs.declared.primitives.Primitive.TheVariants as op
use Rattle.lisp_base.specs.declared.types.Bound.TheVariants.{At}
use Rattle.lisp_base.specs.declared.types.TypeName.TheVariants as name
use Rattle.lisp_base.specs.Sort.{nil, truth, symbol, object}
use Rattle.lisp_base.specs.Spec.{Spec, Named, Integer}
use Rattle.lisp_base.specs.Seen.{Tree, Bad, Number, Both, Name}
use Rattle.core_form.specs.declared.tree.Variable.TheVariants.{Lexical}
use Rattle.core_form.specs.Tree.{Parameter, Core, Quote, Local, SetLocal, Global, If, Progn, Let, Function, Labels, CallLocal, CallGlobal, Funcall, MvCall, FunLocal, SetFun, Primitive, The, Block, ReturnFrom, Tagbody, Go, Catch, Throw, Unwind, no_core, core, no_binding, binding, no_optional, lambda, no_definition, define, no_item, tag, step, node_count, Top}
use Rattle.core_form.specs.State.{Symbol, Object, TypeError, Index, Overflow, ZeroDivide, Unbound, Undefined, Arguments, Control, EndOfFile, Simple, work, heap_need, stack_need}
use Rattle.core_form.specs.Run.{Outcome}
use Rattle.core_form.specs.Eval.{Program, evaluate, Ending, Value, Failed, Unfinished, Astray, ending_of, output_of, counts_of, state_of, taken_of}
use Rattle.core_form.specs.Seen.{tree_of}
use Rattle.core_form.specs.Everything.{everything}

-- ---- programs

abbrev pub plain : List ℕ → Symbol
plain letters = record { name = letters; kind = Plain }

abbrev pub names : List Symbol
names =
    plain (codes "NIL") ∷ plain (codes "T") ∷ plain (codes "+") ∷ plain (codes "TRUNCATE") ∷ plain (codes "FLOOR") ∷ plain (codes "X") ∷ plain (codes "B") ∷ plain (codes "K") ∷ plain (codes "G") ∷ plain (codes "F") ∷ []

abbrev pub top : Core → Top
top c = record { place = File 0 0; core = c; nodes = node_count c }

abbrev pub program : List Core → Program
program forms = record { prelude = []; forms = map top forms; heap = []; symbols = names }

-- the program of one form, with this input and a fuel of 9
abbrev pub run_on : List ℕ → Core → Outcome Val
run_on input c = evaluate (program (c ∷ [])) input 9

abbrev pub run : Core → Outcome Val
run c = run_on [] c

abbrev pub ends : Core → Ending
ends c = ending_of (run c)

abbrev pub at : ℕ → Place
at n = File n 0

abbrev pub int : ℕ → ℕ → Core
int p n = Quote (at p) (Int (pos n))

abbrev pub letter : ℕ → ℕ → Core
letter p c = Quote (at p) (Char c)

abbrev pub null : ℕ → Core
null p = Quote (at p) nil

abbrev pub on_one : Operation → ℕ → Core → Core
on_one q p e = Primitive (at p) q (core e no_core)

abbrev pub on_two : Operation → ℕ → Core → Core → Core
on_two q p d e = Primitive (at p) q (core d (core e no_core))

abbrev pub variable : ℕ → List Spec → Parameter
variable n types = record { variable = Lexical n (symbol 5); types = types }

-- (write-char e)
abbrev pub writing : ℕ → Core → Core
writing p e = on_one op.WriteChar p e

-- (read-char nil nil)
abbrev reading : ℕ → Core
reading p = Primitive (at p) op.ReadChar (core (null p) (core (null p) (core (null p) no_core)))

-- ---- reading and writing a character

abbrev pub echo : Core
echo = writing 0 (reading 12)

echo-value : ending_of (run_on (233 ∷ []) echo) ≡ Value (Char 233)
unfolding everything
echo-value = refl

echo-output : output_of (run_on (233 ∷ []) echo) ≡ 233 ∷ []
unfolding everything
echo-output = refl

echo-work : work (counts_of (run_on (233 ∷ []) echo)) ≡ 40
unfolding everything
echo-work = refl

echo-stack : stack_need (counts_of (run_on (233 ∷ []) echo)) ≡ 832
unfolding everything
echo-stack = refl

echo-empty : ends echo ≡ Failed (TypeError nil (Named name.Character)) (at 0)
unfolding everything
echo-empty = refl

-- a type is tested before anything is written
echo-empty-output : output_of (run echo) ≡ []
unfolding everything
echo-empty-output = refl

-- ---- integers

-- (+ 2305843009213693951 1)
past_fixnum : ends (on_two op.Add 0 (int 0 (2 ^ 61 - 1)) (int 0 1)) ≡ Value (Int (pos 2305843009213693952))
unfolding everything
past_fixnum = refl

-- its result is delivered and returned: a box of 2 words each time
past_fixnum-heap : heap_need (counts_of (run (on_two op.Add 0 (int 0 (2 ^ 61 - 1)) (int 0 1)))) ≡ 32
unfolding everything
past_fixnum-heap = refl

-- (+ 9223372036854775807 1)
overflow : ends (on_two op.Add 0 (int 0 (2 ^ 63 - 1)) (int 0 1)) ≡ Failed (Overflow (symbol 2) (Int (pos 9223372036854775807)) (Int (pos 1))) (at 0)
unfolding everything
overflow = refl

-- (truncate -9223372036854775808 -1)
abbrev least : Core
least = Quote (at 0) (Int (negsuc (2 ^ 63 - 1)))

truncated : ends (on_two op.Truncate 0 least (Quote (at 0) (Int (negsuc 0)))) ≡ Failed (Overflow (symbol 3) (Int (negsuc (2 ^ 63 - 1))) (Int (negsuc 0))) (at 0)
unfolding everything
truncated = refl

-- all values of a form, as a list: a function of &REST on them
abbrev pub listing : Core → Core
listing e = MvCall (at 0) (Function (at 0) (lambda 0 [] no_optional (Some (variable 1 [])) (Local (at 0) 1))) (core e no_core)

abbrev seven : Core
seven = Quote (at 0) (Int (negsuc 6))

-- the tree of the value with which a form ends
abbrev seen_value : Ending → List Object → Tree
seen_value (Value v) store = tree_of names store 4 v
seen_value (Failed x p) store = Bad
seen_value Unfinished store = Bad
seen_value Astray store = Bad

abbrev pub seen : Core → Tree
seen c = seen_value (ends c) (state_of (run c)).store

-- (multiple-value-list (floor -7 2)) and (multiple-value-list (truncate -7 2))
floored : seen (listing (on_two op.Floor 0 seven (int 0 2))) ≡ Both (Number (negsuc 3)) (Both (Number (pos 1)) (Name (codes "NIL") Plain))
unfolding everything
floored = refl

truncated-list : seen (listing (on_two op.Truncate 0 seven (int 0 2))) ≡ Both (Number (negsuc 2)) (Both (Number (negsuc 0)) (Name (codes "NIL") Plain))
unfolding everything
truncated-list = refl

-- (let ((x 2305843009213693952)) (eq x (+ 2305843009213693951 1)))
same_big : ends (Let (at 0) (binding (variable 1 []) (int 0 (2 ^ 61)) no_binding) (on_two op.Eq 32 (Local (at 32) 1) (on_two op.Add 38 (int 38 (2 ^ 61 - 1)) (int 38 1)))) ≡ Value truth
unfolding everything
same_big = refl

-- ---- checks

abbrev zero_to_four : Spec
zero_to_four = Integer (At (pos 0)) (At (pos 4))

-- (let ((x 5)) (declare (type (integer 0 4) x)) x)
checked : ends (Let (at 0) (binding (variable 1 (zero_to_four ∷ [])) (The (at 0) zero_to_four (int 0 5)) no_binding) (Local (at 0) 1)) ≡ Failed (TypeError (Int (pos 5)) zero_to_four) (at 0)
unfolding everything
checked = refl

-- (let ((x 0)) (declare (type (integer 0 4) x)) (loop (setq x (+ x 1)) (write-char (code-char (+ 48 x)))))
abbrev counting : Core
counting =
    let set = SetLocal (at 52) 1 (The (at 52) zero_to_four (on_two op.Add 60 (Local (at 60) 1) (int 60 1))) in
    let write = writing 69 (on_one op.CodeChar 81 (on_two op.Add 92 (int 92 48) (Local (at 92) 1))) in
    Let (at 0) (binding (variable 1 (zero_to_four ∷ [])) (The (at 0) zero_to_four (int 0 0)) no_binding)
    (Block (at 46) 2 (symbol 0) (Tagbody (at 46) (tag 3 (Sym (symbol 8)) (step set (step write (step (Go (at 46) 3) no_item))))))

counting-ending : ends counting ≡ Failed (TypeError (Int (pos 5)) zero_to_four) (at 52)
unfolding everything
counting-ending = refl

counting-output : output_of (run counting) ≡ codes "1234"
unfolding everything
counting-output = refl

-- one unit of fuel for each GO
counting-taken : taken_of (run counting) ≡ 4
unfolding everything
counting-taken = refl

counting-short : ending_of (evaluate (program (counting ∷ [])) [] 3) ≡ Unfinished
unfolding everything
counting-short = refl

-- (progn (write-char #\a) (car 5) (write-char #\b))
abbrev stopped : Core
stopped = Progn (at 0) (core (writing 7 (letter 7 97)) (core (on_one op.Car 24 (int 24 5)) (core (writing 32 (letter 32 98)) no_core)))

stopped-ending : ends stopped ≡ Failed (TypeError (Int (pos 5)) (Named name.List)) (at 24)
unfolding everything
stopped-ending = refl

stopped-output : output_of (run stopped) ≡ codes "a"
unfolding everything
stopped-output = refl

-- ---- exits

-- (funcall (block b (lambda () (return-from b 1))))
left_behind : ends (Funcall (at 0) (Block (at 9) 1 (symbol 6) (Function (at 18) (lambda 0 [] no_optional None (ReturnFrom (at 29) 1 (int 29 1))))) no_core) ≡ Failed (Control (Sym (symbol 6))) (at 29)
unfolding everything
left_behind = refl

-- (catch 'k (unwind-protect (unwind-protect (throw 'k 7) (write-char #\i)) (write-char #\o)))
abbrev unwound : Core
unwound =
    let k = Quote (at 0) (Sym (symbol 7)) in
    Catch (at 0) k (Unwind (at 10) (Unwind (at 26) (Throw (at 42) k (int 42 7)) (writing 55 (letter 55 105))) (writing 73 (letter 73 111)))

unwound-ending : ends unwound ≡ Value (Int (pos 7))
unfolding everything
unwound-ending = refl

unwound-output : output_of (run unwound) ≡ codes "io"
unfolding everything
unwound-output = refl

-- (throw 'k 1)
no_catch : ends (Throw (at 0) (Quote (at 0) (Sym (symbol 7))) (int 0 1)) ≡ Failed (Control (Sym (symbol 7))) (at 0)
unfolding everything
no_catch = refl

-- ---- calls

-- (defun f (n) (if (= n 0) 0 (f (- n 1)))) and then (f 3): the calls are in tail position, and the stack stays as it is
abbrev tail_calls : Core
tail_calls =
    let body = If (at 0) (on_two op.Equal 0 (Local (at 0) 2) (int 0 0)) (int 0 0) (CallLocal (at 0) 1 (core (on_two op.Subtract 0 (Local (at 0) 2) (int 0 1)) no_core)) in
    SetFun (at 0) (symbol 9) (Labels (at 0) (define (at 0) 1 (symbol 9) (lambda 0 (variable 2 [] ∷ []) no_optional None body) no_definition) (FunLocal (at 0) 1))

abbrev tail_run : ℕ → Outcome Val
tail_run n = evaluate (program (tail_calls ∷ CallGlobal (at 41) (symbol 9) (core (int 41 3) no_core) ∷ [])) [] n

tail-value : ending_of (tail_run 4) ≡ Value (Int (pos 0))
unfolding everything
tail-value = refl

tail-short : ending_of (tail_run 3) ≡ Unfinished
unfolding everything
tail-short = refl

-- 14 nodes and one argument
tail-stack : stack_need (counts_of (tail_run 4)) ≡ 8 * (64 + 8 * 14 + 1)
unfolding everything
tail-stack = refl

-- ((lambda (x) x))
wrong_number : ends (Funcall (at 0) (Function (at 1) (lambda 0 (variable 1 [] ∷ []) no_optional None (Local (at 1) 1))) no_core) ≡ Failed (Arguments None 0) (at 1)
unfolding everything
wrong_number = refl

-- (foo) and x, without a function and without a value
undefined : ends (CallGlobal (at 0) (symbol 9) no_core) ≡ Failed (Undefined (symbol 9)) (at 0)
unfolding everything
undefined = refl

unbound : ends (Global (at 0) (symbol 5)) ≡ Failed (Unbound (symbol 5)) (at 0)
unfolding everything
unbound = refl

-- ---- further errors of primitives

-- (svref (make-array 0) 0) and (svref (make-array 3) 3)
abbrev vector_of : ℕ → Core
vector_of n = on_two op.MakeVector 0 (int 0 n) (int 0 0)

no_element : ends (on_two op.Svref 0 (vector_of 0) (int 0 0)) ≡ Failed (Index (Int (pos 0)) 0) (at 0)
unfolding everything
no_element = refl

past_end : ends (on_two op.Svref 0 (vector_of 3) (int 0 3)) ≡ Failed (Index (Int (pos 3)) 3) (at 0)
unfolding everything
past_end = refl

-- (floor 1 0)
by_zero : ends (on_two op.Floor 0 (int 0 1) (int 0 0)) ≡ Failed (ZeroDivide (symbol 4) (Int (pos 1)) (Int (pos 0))) (at 0)
unfolding everything
by_zero = refl

-- (read-char)
end_of_file : ends (Primitive (at 0) op.ReadChar (core (null 0) (core (Quote (at 0) truth) (core (null 0) no_core)))) ≡ Failed EndOfFile (at 0)
unfolding everything
end_of_file = refl

-- (error 'x 1), of which the others are a list
stated : ends (on_two op.Error 0 (Quote (at 0) (Sym (symbol 5))) (on_one op.List 0 (int 0 1))) ≡ Failed (Simple (Sym (symbol 5)) (Ref (object 0))) (at 0)
unfolding everything
stated = refl
