-- The nodes of a tree counted on from a number, up to the greatest number of 64 bits. (This project's own.)
use Rattle.std.specs.Prelude.{ℕ, ◌+◌, ◌-◌, ◌^◌, min, List, [], ◌∷◌, length, Option, Some, None}
use Rattle.lisp_base.specs.Spec.{Spec, Named, Integer, Signed, Unsigned, Mod, Member, Eql, And, Or, Not, Specs, no_spec, spec}
use Rattle.core_form.specs.Tree.{Parameter, Core, Quote, Local, SetLocal, Global, SetGlobal, If, Progn, Let, Function, Labels, CallLocal, CallGlobal, Funcall, Apply, MvCall, FunLocal, FunGlobal, SetFun, Primitive, Is, The, Block, ReturnFrom, Tagbody, Go, Catch, Throw, Unwind, Values, MvProg1, Cores, no_core, core, Bindings, no_binding, binding, Optionals, no_optional, optional, Lambda, lambda, Definitions, no_definition, define, Items, no_item, tag, step}

unfoldable pub greatest_count : ℕ
greatest_count = 2 ^ 64 - 1

abbrev pub plus : ℕ → ℕ → ℕ
plus n m = min (n + m) greatest_count

-- ---- types

abbrev mutual
  pub with_size : ℕ → Spec → ℕ
  with_size n (Named name) = plus n 1
  with_size n (Integer lo hi) = plus n 1
  with_size n (Signed bits) = plus n 1
  with_size n (Unsigned bits) = plus n 1
  with_size n (Mod below) = plus n 1
  with_size n (Member items) = plus (plus n 1) (length items)
  with_size n (Eql item) = plus n 1
  with_size n (And ts) = with_sizes (plus n 1) ts
  with_size n (Or ts) = with_sizes (plus n 1) ts
  with_size n (Not t) = with_size (plus n 1) t

  pub with_sizes : ℕ → Specs → ℕ
  with_sizes n no_spec = n
  with_sizes n (spec t ts) = with_sizes (with_size n t) ts

abbrev pub with_types : ℕ → List Spec → ℕ
with_types n [] = n
with_types n (t ∷ ts) = with_types (with_size n t) ts

abbrev pub with_parameter : ℕ → Parameter → ℕ
with_parameter n x = with_types (plus n 1) x.types

abbrev pub with_parameters : ℕ → List Parameter → ℕ
with_parameters n [] = n
with_parameters n (x ∷ xs) = with_parameters (with_parameter n x) xs

abbrev pub with_given : ℕ → Option Parameter → ℕ
with_given n None = n
with_given n (Some x) = with_parameter n x

-- ---- trees

abbrev mutual
  pub with_core : ℕ → Core → ℕ
  with_core n (Quote p v) = plus n 1
  with_core n (Local p x) = plus n 1
  with_core n (SetLocal p x e) = with_core (plus n 1) e
  with_core n (Global p s) = plus n 1
  with_core n (SetGlobal p s e) = with_core (plus n 1) e
  with_core n (If p a b c) = with_core (with_core (with_core (plus n 1) a) b) c
  with_core n (Progn p es) = with_cores (plus n 1) es
  with_core n (Let p bs e) = with_core (with_bindings (plus n 1) bs) e
  with_core n (Function p l) = with_lambda n l
  with_core n (Labels p ds e) = with_core (with_definitions (plus n 1) ds) e
  with_core n (CallLocal p f es) = with_cores (plus n 1) es
  with_core n (CallGlobal p s es) = with_cores (plus n 1) es
  with_core n (Funcall p e es) = with_cores (with_core (plus n 1) e) es
  with_core n (Apply p e es) = with_cores (with_core (plus n 1) e) es
  with_core n (MvCall p e es) = with_cores (with_core (plus n 1) e) es
  with_core n (FunLocal p f) = plus n 1
  with_core n (FunGlobal p s) = plus n 1
  with_core n (SetFun p s e) = with_core (plus n 1) e
  with_core n (Primitive p q es) = with_cores (plus n 1) es
  with_core n (Is p t e) = with_core (with_size (plus n 1) t) e
  with_core n (The p t e) = with_core (with_size (plus n 1) t) e
  with_core n (Block p b s e) = with_core (plus n 1) e
  with_core n (ReturnFrom p b e) = with_core (plus n 1) e
  with_core n (Tagbody p is) = with_items (plus n 1) is
  with_core n (Go p t) = plus n 1
  with_core n (Catch p t e) = with_core (with_core (plus n 1) t) e
  with_core n (Throw p t e) = with_core (with_core (plus n 1) t) e
  with_core n (Unwind p e c) = with_core (with_core (plus n 1) e) c
  with_core n (Values p es) = with_cores (plus n 1) es
  with_core n (MvProg1 p e c) = with_core (with_core (plus n 1) e) c

  pub with_cores : ℕ → Cores → ℕ
  with_cores n no_core = n
  with_cores n (core e es) = with_cores (with_core n e) es

  pub with_bindings : ℕ → Bindings → ℕ
  with_bindings n no_binding = n
  with_bindings n (binding x e bs) = with_bindings (with_core (plus n 1) e) bs

  pub with_optionals : ℕ → Optionals → ℕ
  with_optionals n no_optional = n
  with_optionals n (optional x e s os) = with_optionals (with_given (with_core (with_parameter n x) e) s) os

  pub with_lambda : ℕ → Lambda → ℕ
  with_lambda n (lambda k xs os r e) = with_core (with_given (with_optionals (with_parameters (plus n 1) xs) os) r) e

  pub with_definitions : ℕ → Definitions → ℕ
  with_definitions n no_definition = n
  with_definitions n (define p f name l ds) = with_definitions (with_lambda n l) ds

  pub with_items : ℕ → Items → ℕ
  with_items n no_item = n
  with_items n (tag t name is) = with_items n is
  with_items n (step e is) = with_items (with_core n e) is
