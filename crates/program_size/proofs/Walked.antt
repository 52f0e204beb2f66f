-- Adding what a tree mentions node by node gives what it mentions.
use Rattle.std.specs.Prelude.{◌≡◌, List, [], ◌∷◌, ◌++◌, refl}
use Rattle.std.proofs.Common.{append_assoc, append-nil, sym, ap, ◌∙◌}
use Rattle.lisp_base.specs.declared.values.Val.{Val}
use Rattle.lisp_base.specs.declared.values.Val.TheVariants.{Sym}
use Rattle.core_form.specs.Tree.{Core, Quote, Local, SetLocal, Global, SetGlobal, If, Progn, Let, Function, Labels, CallLocal, CallGlobal, Funcall, Apply, MvCall, FunLocal, FunGlobal, SetFun, Primitive, Is, The, Block, ReturnFrom, Tagbody, Go, Catch, Throw, Unwind, Values, MvProg1, Cores, no_core, core, Bindings, no_binding, binding, Optionals, no_optional, optional, Lambda, lambda, Definitions, no_definition, define, Items, no_item, tag, step}
use Rattle.core_form.specs.Facts.{gather, gather_all, gather_bindings, gather_optionals, gather_lambda, gather_definitions, gather_items, no_function}
use Rattle.lisp_base.specs.declared.values.SymId.{SymId}
use Rattle.lisp_base.specs.declared.values.Place.{Place}
use Rattle.std.specs.Prelude.{Option, Some, None}
use Rattle.program_size.specs.Mentions.{mentioned_here, mentioned}
use Rattle.program_size.specs.Walk.{with_core, with_cores, with_bindings, with_optionals, with_lambda, with_definitions, with_items}

-- one part after another
two : (vs x y a b : List Val) → x ≡ vs ++ a → y ≡ x ++ b → y ≡ vs ++ (a ++ b)
two vs x y a b e h = h ∙ (ap (λ (z : List Val). z ++ b) e ∙ append_assoc vs a b)

nothing : (vs : List Val) → vs ≡ vs ++ []
nothing vs = sym (append-nil vs)

mutual
  unfolding gather

  walked : (vs : List Val) (e : Core) → with_core vs e ≡ vs ++ gather mentioned_here no_function e
  walked vs (Quote p v) = refl
  walked vs (Local p x) = nothing vs
  walked vs (SetLocal p x e) = (walked vs e)
  walked vs (Global p s) = nothing vs
  walked vs (SetGlobal p s e) = (walked vs e)
  walked vs (If p a b c) = (two vs (with_core (with_core vs a) b) (with_core (with_core (with_core vs a) b) c) ((gather mentioned_here no_function a) ++ (gather mentioned_here no_function b)) (gather mentioned_here no_function c) (two vs (with_core vs a) (with_core (with_core vs a) b) (gather mentioned_here no_function a) (gather mentioned_here no_function b) (walked vs a) (walked (with_core vs a) b)) (walked (with_core (with_core vs a) b) c))
  walked vs (Progn p es) = (walked_all vs es)
  walked vs (Let p bs e) = (two vs (with_bindings vs bs) (with_core (with_bindings vs bs) e) (gather_bindings mentioned_here no_function bs) (gather mentioned_here no_function e) (walked_bindings vs bs) (walked (with_bindings vs bs) e))
  walked vs (Function p l) = (walked_lambda vs None p l)
  walked vs (Labels p ds e) = (two vs (with_definitions vs ds) (with_core (with_definitions vs ds) e) (gather_definitions mentioned_here no_function ds) (gather mentioned_here no_function e) (walked_definitions vs ds) (walked (with_definitions vs ds) e))
  walked vs (CallLocal p f es) = (walked_all vs es)
  walked vs (CallGlobal p s es) = (two vs (vs ++ Sym s ∷ []) (with_cores (vs ++ Sym s ∷ []) es) (Sym s ∷ []) (gather_all mentioned_here no_function es) refl (walked_all (vs ++ Sym s ∷ []) es))
  walked vs (Funcall p e es) = (two vs (with_core vs e) (with_cores (with_core vs e) es) (gather mentioned_here no_function e) (gather_all mentioned_here no_function es) (walked vs e) (walked_all (with_core vs e) es))
  walked vs (Apply p e es) = (two vs (with_core vs e) (with_cores (with_core vs e) es) (gather mentioned_here no_function e) (gather_all mentioned_here no_function es) (walked vs e) (walked_all (with_core vs e) es))
  walked vs (MvCall p e es) = (two vs (with_core vs e) (with_cores (with_core vs e) es) (gather mentioned_here no_function e) (gather_all mentioned_here no_function es) (walked vs e) (walked_all (with_core vs e) es))
  walked vs (FunLocal p f) = nothing vs
  walked vs (FunGlobal p s) = refl
  walked vs (SetFun p s e) = (walked vs e)
  walked vs (Primitive p q es) = (walked_all vs es)
  walked vs (Is p t e) = (walked vs e)
  walked vs (The p t e) = (walked vs e)
  walked vs (Block p b n e) = (walked vs e)
  walked vs (ReturnFrom p b e) = (walked vs e)
  walked vs (Tagbody p is) = (walked_items vs is)
  walked vs (Go p t) = nothing vs
  walked vs (Catch p t e) = (two vs (with_core vs t) (with_core (with_core vs t) e) (gather mentioned_here no_function t) (gather mentioned_here no_function e) (walked vs t) (walked (with_core vs t) e))
  walked vs (Throw p t e) = (two vs (with_core vs t) (with_core (with_core vs t) e) (gather mentioned_here no_function t) (gather mentioned_here no_function e) (walked vs t) (walked (with_core vs t) e))
  walked vs (Unwind p e c) = (two vs (with_core vs e) (with_core (with_core vs e) c) (gather mentioned_here no_function e) (gather mentioned_here no_function c) (walked vs e) (walked (with_core vs e) c))
  walked vs (Values p es) = (walked_all vs es)
  walked vs (MvProg1 p e c) = (two vs (with_core vs e) (with_core (with_core vs e) c) (gather mentioned_here no_function e) (gather mentioned_here no_function c) (walked vs e) (walked (with_core vs e) c))

  walked_all : (vs : List Val) (es : Cores) → with_cores vs es ≡ vs ++ gather_all mentioned_here no_function es
  walked_all vs no_core = nothing vs
  walked_all vs (core e es) = (two vs (with_core vs e) (with_cores (with_core vs e) es) (gather mentioned_here no_function e) (gather_all mentioned_here no_function es) (walked vs e) (walked_all (with_core vs e) es))

  walked_bindings : (vs : List Val) (bs : Bindings) → with_bindings vs bs ≡ vs ++ gather_bindings mentioned_here no_function bs
  walked_bindings vs no_binding = nothing vs
  walked_bindings vs (binding x e bs) = (two vs (with_core vs e) (with_bindings (with_core vs e) bs) (gather mentioned_here no_function e) (gather_bindings mentioned_here no_function bs) (walked vs e) (walked_bindings (with_core vs e) bs))

  walked_optionals : (vs : List Val) (os : Optionals) → with_optionals vs os ≡ vs ++ gather_optionals mentioned_here no_function os
  walked_optionals vs no_optional = nothing vs
  walked_optionals vs (optional x e s os) = (two vs (with_core vs e) (with_optionals (with_core vs e) os) (gather mentioned_here no_function e) (gather_optionals mentioned_here no_function os) (walked vs e) (walked_optionals (with_core vs e) os))

  walked_lambda : (vs : List Val) (name : Option SymId) (p : Place) (l : Lambda) → with_lambda vs l ≡ vs ++ gather_lambda mentioned_here no_function name p l
  walked_lambda vs name p (lambda k xs os r e) = (two vs (with_optionals vs os) (with_core (with_optionals vs os) e) (gather_optionals mentioned_here no_function os) (gather mentioned_here no_function e) (walked_optionals vs os) (walked (with_optionals vs os) e))

  walked_definitions : (vs : List Val) (ds : Definitions) → with_definitions vs ds ≡ vs ++ gather_definitions mentioned_here no_function ds
  walked_definitions vs no_definition = nothing vs
  walked_definitions vs (define p f n l ds) = (two vs (with_lambda vs l) (with_definitions (with_lambda vs l) ds) (gather_lambda mentioned_here no_function (Some n) p l) (gather_definitions mentioned_here no_function ds) (walked_lambda vs (Some n) p l) (walked_definitions (with_lambda vs l) ds))

  walked_items : (vs : List Val) (is : Items) → with_items vs is ≡ vs ++ gather_items mentioned_here no_function is
  walked_items vs no_item = nothing vs
  walked_items vs (tag t n is) = (walked_items vs is)
  walked_items vs (step e is) = (two vs (with_core vs e) (with_items (with_core vs e) is) (gather mentioned_here no_function e) (gather_items mentioned_here no_function is) (walked vs e) (walked_items (with_core vs e) is))

pub mentioned_is : (e : Core) → with_core [] e ≡ mentioned e
mentioned_is e = walked [] e
