-- What a form defines. (This project's own.)
use Rattle.std.proofs.Common.{◌≡◌, [], refl}
use Rattle.lisp_base.specs.declared.values.Place.{Place}
use Rattle.core_form.specs.Tree.{Core, Quote, Local, SetLocal, Global, SetGlobal, If, Progn, Let, Function, Labels, CallLocal, CallGlobal, Funcall, Apply, MvCall, FunLocal, FunGlobal, SetFun, Primitive, Is, The, Block, ReturnFrom, Tagbody, Go, Catch, Throw, Unwind, Values, MvProg1, Cores, no_core, core}
use Rattle.core_form.specs.Facts.{function_given}
use Rattle.graph_meaning.specs.Reading.{defined_by}
use Rattle.icr_convert.specs.Whole.{given_alone, set_by, set_in, defined_with}

first_given : (q : Place) (e : Core) (rest : Cores) → defined_by 0 (defined_with (set_by e)) [] ≡ given_alone (function_given (Progn q (core e rest)))
first_given q (Quote p v) rest = refl
first_given q (Local p x) rest = refl
first_given q (SetLocal p x e) rest = refl
first_given q (Global p s) rest = refl
first_given q (SetGlobal p s e) rest = refl
first_given q (If p a b c) rest = refl
first_given q (Progn p es) rest = refl
first_given q (Let p bs e) rest = refl
first_given q (Function p l) rest = refl
first_given q (Labels p ds e) rest = refl
first_given q (CallLocal p f es) rest = refl
first_given q (CallGlobal p s es) rest = refl
first_given q (Funcall p e es) rest = refl
first_given q (Apply p e es) rest = refl
first_given q (MvCall p e es) rest = refl
first_given q (FunLocal p f) rest = refl
first_given q (FunGlobal p s) rest = refl
first_given q (SetFun p s e) rest = refl
first_given q (Primitive p o es) rest = refl
first_given q (Is p t e) rest = refl
first_given q (The p t e) rest = refl
first_given q (Block p b n e) rest = refl
first_given q (ReturnFrom p b e) rest = refl
first_given q (Tagbody p is) rest = refl
first_given q (Go p t) rest = refl
first_given q (Catch p a b) rest = refl
first_given q (Throw p a b) rest = refl
first_given q (Unwind p a b) rest = refl
first_given q (Values p es) rest = refl
first_given q (MvProg1 p a b) rest = refl

-- what is defined is what the form gives a function to
pub given_is : (e : Core) → defined_by 0 (defined_with (set_in e)) [] ≡ given_alone (function_given e)
given_is (Progn p no_core) = refl
given_is (Progn p (core e es)) = first_given p e es
given_is (Quote p v) = refl
given_is (Local p x) = refl
given_is (SetLocal p x e) = refl
given_is (Global p s) = refl
given_is (SetGlobal p s e) = refl
given_is (If p a b c) = refl
given_is (Let p bs e) = refl
given_is (Function p l) = refl
given_is (Labels p ds e) = refl
given_is (CallLocal p f es) = refl
given_is (CallGlobal p s es) = refl
given_is (Funcall p e es) = refl
given_is (Apply p e es) = refl
given_is (MvCall p e es) = refl
given_is (FunLocal p f) = refl
given_is (FunGlobal p s) = refl
given_is (SetFun p s e) = refl
given_is (Primitive p o es) = refl
given_is (Is p t e) = refl
given_is (The p t e) = refl
given_is (Block p b n e) = refl
given_is (ReturnFrom p b e) = refl
given_is (Tagbody p is) = refl
given_is (Go p t) = refl
given_is (Catch p a b) = refl
given_is (Throw p a b) = refl
given_is (Unwind p a b) = refl
given_is (Values p es) = refl
given_is (MvProg1 p a b) = refl
