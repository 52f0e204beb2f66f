-- What further small programs do, computed: order, special variables, pending calls, and what is seen of an end.
use Rattle.std.specs.Prelude.{◌≡◌, refl, ◌+◌, ◌*◌, pos, [], ◌∷◌, codes, Some, None}
use Rattle.lisp_base.specs.declared.values.SymKind.TheVariants.{Plain}
use Rattle.lisp_base.specs.declared.values.Val.{Val}
use Rattle.lisp_base.specs.declared.values.Val.TheVariants.{Int, Sym, Ref}
use Rattle.lisp_base.specs.declared.primitives.Primitive.TheVariants as op
use Rattle.lisp_base.specs.Sort.{nil, symbol, object}
use Rattle.lisp_base.specs.Seen.{Number, Both, Name, Text}
use Rattle.layers.specs.Input.{Input}
use Rattle.layers.specs.Shown.{Ended, Error, TypeError, InFile}
use Rattle.core_form.specs.declared.tree.Variable.TheVariants.{Special}
use Rattle.core_form.specs.Tree.{Core, Quote, Local, Global, SetGlobal, If, Progn, Let, Function, Labels, CallLocal, CallGlobal, Funcall, FunLocal, SetFun, Catch, Throw, Values, MvProg1, no_core, core, no_binding, binding, no_optional, lambda, no_definition, define}
use Rattle.core_form.specs.State.{Str, Simple, stack_need}
use Rattle.core_form.specs.Run.{Outcome}
use Rattle.core_form.specs.Eval.{Program, evaluate, Value, Failed, ending_of, output_of, counts_of, state_of, taken_of}
use Rattle.core_form.specs.Seen.{tree_of}
use Rattle.core_form.specs.AsLayer.{program_layer, look_of}
use Rattle.core_form.specs.Everything.{everything}
use Rattle.core_form.proofs.Examples.{names, top, program, run, ends, seen, at, int, letter, on_one, on_two, variable, writing, listing, echo}

-- ---- no form at all

abbrev nothing : Outcome Val
nothing = evaluate (program []) [] 0

nothing-value : ending_of nothing ≡ Value nil
unfolding everything
nothing-value = refl

nothing-output : output_of nothing ≡ []
unfolding everything
nothing-output = refl

-- ---- order

-- (list (write-char #\a) (write-char #\b))
in_order : output_of (run (on_two op.List 0 (writing 6 (letter 6 97)) (writing 23 (letter 23 98)))) ≡ codes "ab"
unfolding everything
in_order = refl

-- ((lambda (x y) x) (write-char #\a) (write-char #\b))
in_place : output_of (run (Funcall (at 0) (Function (at 1) (lambda 0 (variable 1 [] ∷ variable 2 [] ∷ []) no_optional None (Local (at 1) 1))) (core (writing 18 (letter 18 97)) (core (writing 35 (letter 35 98)) no_core)))) ≡ codes "ab"
unfolding everything
in_place = refl

-- (multiple-value-list (multiple-value-prog1 (values 1 2) (write-char #\a)))
abbrev first_values : Core
first_values = listing (MvProg1 (at 0) (Values (at 0) (core (int 0 1) (core (int 0 2) no_core))) (writing 0 (letter 0 97)))

first_values-seen : seen first_values ≡ Both (Number (pos 1)) (Both (Number (pos 2)) (Name (codes "NIL") Plain))
unfolding everything
first_values-seen = refl

-- ---- special variables

-- (progn (setq x 1) form x), where X is special
abbrev around : Core → Core
around e = Progn (at 0) (core (SetGlobal (at 7) (symbol 5) (int 7 1)) (core e (core (Global (at 0) (symbol 5)) no_core)))

-- (let ((x 2)) form)
abbrev with_two : Core → Core
with_two e = Let (at 0) (binding (record { variable = Special (symbol 5); types = [] }) (int 0 2) no_binding) e

in_force : ends (with_two (Global (at 0) (symbol 5))) ≡ Value (Int (pos 2))
unfolding everything
in_force = refl

restored : ends (around (with_two (int 0 3))) ≡ Value (Int (pos 1))
unfolding everything
restored = refl

-- (catch 'k (let ((x 2)) (throw 'k 0)))
restored_on_the_way : ends (around (Catch (at 0) (Quote (at 0) (Sym (symbol 7))) (with_two (Throw (at 0) (Quote (at 0) (Sym (symbol 7))) (int 0 0))))) ≡ Value (Int (pos 1))
unfolding everything
restored_on_the_way = refl

-- ---- pending calls

-- (defun g (n) (if (= n 0) 0 (+ 1 (g (- n 1))))) and then (g 2): no call but the first is in tail position
abbrev pending_calls : Core
pending_calls =
    let body = If (at 0) (on_two op.Equal 0 (Local (at 0) 2) (int 0 0)) (int 0 0) (on_two op.Add 0 (int 0 1) (CallLocal (at 0) 1 (core (on_two op.Subtract 0 (Local (at 0) 2) (int 0 1)) no_core))) in
    SetFun (at 0) (symbol 8) (Labels (at 0) (define (at 0) 1 (symbol 8) (lambda 0 (variable 2 [] ∷ []) no_optional None body) no_definition) (FunLocal (at 0) 1))

abbrev pending : Outcome Val
pending = evaluate (program (pending_calls ∷ CallGlobal (at 47) (symbol 8) (core (int 47 2) no_core) ∷ [])) [] 9

pending-value : ending_of pending ≡ Value (Int (pos 2))
unfolding everything
pending-value = refl

pending-taken : taken_of pending ≡ 3
unfolding everything
pending-taken = refl

-- three calls, of a form of 16 nodes and with one argument each
pending-stack : stack_need (counts_of pending) ≡ 8 * (3 * (64 + 8 * 16 + 1))
unfolding everything
pending-stack = refl

-- ---- what is seen

-- (error "no" 1)
abbrev stated : Outcome Val
stated =
    let p : Program = record { prelude = []; forms = top (on_two op.Error 0 (Quote (at 0) (Ref (object 0))) (on_one op.List 0 (int 0 1))) ∷ []; heap = Str (codes "no") ∷ []; symbols = names } in
    evaluate p [] 0

stated-ending : ending_of stated ≡ Failed (Simple (Ref (object 0)) (Ref (object 1))) (at 0)
unfolding everything
stated-ending = refl

stated-text : tree_of names (state_of stated).store 3 (Ref (object 0)) ≡ Text (codes "no")
unfolding everything
stated-text = refl

stated-list : tree_of names (state_of stated).store 3 (Ref (object 1)) ≡ Both (Number (pos 1)) (Name (codes "NIL") Plain)
unfolding everything
stated-list = refl

-- (write-char (read-char nil nil)) on no input, as a layer
abbrev no_input : Input
no_input = record { letters = []; are_characters = tt }

echo-seen : (program_layer (program (echo ∷ [])) no_input 5).status ≡ Ended (Error TypeError (look_of names [] nil ∷ []) (Some (codes "CHARACTER")) (InFile 0 0))
unfolding everything
echo-seen = refl
