-- What a tree mentions, added to a list node by node. (This project's own.)
use Rattle.std.specs.Prelude.{List, [], ◌∷◌, ◌++◌}
use Rattle.lisp_base.specs.declared.values.Val.{Val}
use Rattle.lisp_base.specs.declared.values.Val.TheVariants.{Sym}
use Rattle.core_form.specs.Tree.{Core, Quote, Local, SetLocal, Global, SetGlobal, If, Progn, Let, Function, Labels, CallLocal, CallGlobal, Funcall, Apply, MvCall, FunLocal, FunGlobal, SetFun, Primitive, Is, The, Block, ReturnFrom, Tagbody, Go, Catch, Throw, Unwind, Values, MvProg1, Cores, no_core, core, Bindings, no_binding, binding, Optionals, no_optional, optional, Lambda, lambda, Definitions, no_definition, define, Items, no_item, tag, step}

abbrev mutual
  pub with_core : List Val → Core → List Val
  with_core vs (Quote p v) = vs ++ v ∷ []
  with_core vs (Local p x) = vs
  with_core vs (SetLocal p x e) = with_core vs e
  with_core vs (Global p s) = vs
  with_core vs (SetGlobal p s e) = with_core vs e
  with_core vs (If p a b c) = with_core (with_core (with_core vs a) b) c
  with_core vs (Progn p es) = with_cores vs es
  with_core vs (Let p bs e) = with_core (with_bindings vs bs) e
  with_core vs (Function p l) = with_lambda vs l
  with_core vs (Labels p ds e) = with_core (with_definitions vs ds) e
  with_core vs (CallLocal p f es) = with_cores vs es
  with_core vs (CallGlobal p s es) = with_cores (vs ++ Sym s ∷ []) es
  with_core vs (Funcall p e es) = with_cores (with_core vs e) es
  with_core vs (Apply p e es) = with_cores (with_core vs e) es
  with_core vs (MvCall p e es) = with_cores (with_core vs e) es
  with_core vs (FunLocal p f) = vs
  with_core vs (FunGlobal p s) = vs ++ Sym s ∷ []
  with_core vs (SetFun p s e) = with_core vs e
  with_core vs (Primitive p q es) = with_cores vs es
  with_core vs (Is p t e) = with_core vs e
  with_core vs (The p t e) = with_core vs e
  with_core vs (Block p b n e) = with_core vs e
  with_core vs (ReturnFrom p b e) = with_core vs e
  with_core vs (Tagbody p is) = with_items vs is
  with_core vs (Go p t) = vs
  with_core vs (Catch p t e) = with_core (with_core vs t) e
  with_core vs (Throw p t e) = with_core (with_core vs t) e
  with_core vs (Unwind p e c) = with_core (with_core vs e) c
  with_core vs (Values p es) = with_cores vs es
  with_core vs (MvProg1 p e c) = with_core (with_core vs e) c

  pub with_cores : List Val → Cores → List Val
  with_cores vs no_core = vs
  with_cores vs (core e es) = with_cores (with_core vs e) es

  pub with_bindings : List Val → Bindings → List Val
  with_bindings vs no_binding = vs
  with_bindings vs (binding x e bs) = with_bindings (with_core vs e) bs

  pub with_optionals : List Val → Optionals → List Val
  with_optionals vs no_optional = vs
  with_optionals vs (optional x e s os) = with_optionals (with_core vs e) os

  pub with_lambda : List Val → Lambda → List Val
  with_lambda vs (lambda k xs os r e) = with_core (with_optionals vs os) e

  pub with_definitions : List Val → Definitions → List Val
  with_definitions vs no_definition = vs
  with_definitions vs (define p f n l ds) = with_definitions (with_lambda vs l) ds

  pub with_items : List Val → Items → List Val
  with_items vs no_item = vs
  with_items vs (tag t n is) = with_items vs is
  with_items vs (step e is) = with_items (with_core vs e) is
