-- That the functions of a tree are those that its form numbers. (This project's own.)
use Rattle.std.specs.Prelude.{◌≡◌, List, slice_get, Some, None}
use Rattle.core_form.specs.Tree.{Core, Quote, Local, SetLocal, Global, SetGlobal, If, Progn, Let, Function, Labels, CallLocal, CallGlobal, Funcall, Apply, MvCall, FunLocal, FunGlobal, SetFun, Primitive, Is, The, Block, ReturnFrom, Tagbody, Go, Catch, Throw, Unwind, Values, MvProg1, Cores, no_core, core, Bindings, no_binding, binding, Optionals, no_optional, optional, Lambda, lambda, Items, no_item, tag, step}
use Rattle.core_form.specs.Facts.{FunctionText}
use Rattle.form_graphs.specs.Standing.{lambda_number}

-- Each function that is made in a tree, outside the functions that it makes, stands under its number in a list. What the
-- functions of a Labels do stands apart.
module _ (texts : List FunctionText) where
  abbrev mutual
    pub Named : Core → Type 0
    Named (Quote p v) = Unit {0}
    Named (Local p x) = Unit {0}
    Named (SetLocal p x e) = Named e
    Named (Global p s) = Unit {0}
    Named (SetGlobal p s e) = Named e
    Named (If p a b c) = Named a × Named b × Named c
    Named (Progn p es) = AllNamed es
    Named (Let p bs e) = BindingsNamed bs × Named e
    Named (Function p l) = slice_get texts (lambda_number l) ≡ Some (record { name = None; place = p; lambda = l })
    Named (Labels p ds e) = Named e
    Named (CallLocal p f es) = AllNamed es
    Named (CallGlobal p s es) = AllNamed es
    Named (Funcall p e es) = Named e × AllNamed es
    Named (Apply p e es) = Named e × AllNamed es
    Named (MvCall p e es) = Named e × AllNamed es
    Named (FunLocal p f) = Unit {0}
    Named (FunGlobal p s) = Unit {0}
    Named (SetFun p s e) = Named e
    Named (Primitive p o es) = AllNamed es
    Named (Is p t e) = Named e
    Named (The p t e) = Named e
    Named (Block p b n e) = Named e
    Named (ReturnFrom p b e) = Named e
    Named (Tagbody p is) = ItemsNamed is
    Named (Go p t) = Unit {0}
    Named (Catch p a b) = Named a × Named b
    Named (Throw p a b) = Named a × Named b
    Named (Unwind p a b) = Named a × Named b
    Named (Values p es) = AllNamed es
    Named (MvProg1 p a b) = Named a × Named b

    pub AllNamed : Cores → Type 0
    AllNamed no_core = Unit {0}
    AllNamed (core e es) = Named e × AllNamed es

    pub BindingsNamed : Bindings → Type 0
    BindingsNamed no_binding = Unit {0}
    BindingsNamed (binding x e bs) = Named e × BindingsNamed bs

    pub ItemsNamed : Items → Type 0
    ItemsNamed no_item = Unit {0}
    ItemsNamed (tag t n is) = ItemsNamed is
    ItemsNamed (step e is) = Named e × ItemsNamed is

  abbrev pub OptionalsNamed : Optionals → Type 0
  OptionalsNamed no_optional = Unit {0}
  OptionalsNamed (optional x e s os) = Named e × OptionalsNamed os

  -- the same of what a function does
  abbrev pub CodeNamed : Lambda → Type 0
  CodeNamed (lambda k xs os r e) = OptionalsNamed os × Named e
