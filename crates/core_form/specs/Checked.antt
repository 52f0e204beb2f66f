-- Trees that a program may have: each number used is bound round it, and operators take as many forms as they may. (This project's own.)
use Rattle.std.specs.Prelude.{◌≡◌, ℕ, Bool, true, ◌&&◌, nat_le, ◌==◌, List, [], ◌∷◌, ◌++◌, length, Option, Some, None}
use Rattle.lisp_base.specs.Spec.{Spec}
use Rattle.lisp_base.specs.declared.primitives.Primitive.{Primitive as Operation}
use Rattle.core_form.specs.Tree.{Parameter, Core, Quote, Local, SetLocal, Global, SetGlobal, If, Progn, Let, Function, Labels, CallLocal, CallGlobal, Funcall, Apply, MvCall, FunLocal, FunGlobal, SetFun, Primitive, Is, The, Block, ReturnFrom, Tagbody, Go, Catch, Throw, Unwind, Values, MvProg1, Cores, no_core, core, cores_length, Bindings, no_binding, binding, Optionals, no_optional, optional, Lambda, lambda, Definitions, no_definition, define, Items, no_item, tag, step, node_count, Top}
use Rattle.core_form.specs.Facts.{has_number, parameter_number, binding_parameters, if_given}
use Rattle.core_form.specs.Primitives.{row_of, most_values, most_arguments}

-- the numbers that are bound round a node, by what they name
pub record Scope : Type 0 where
  pub variables : List ℕ
  pub functions : List ℕ
  pub blocks : List ℕ
  pub tags : List ℕ

abbrev pub no_scope : Scope
no_scope = record { variables = []; functions = []; blocks = []; tags = [] }

abbrev pub with_variables : List ℕ → Scope → Scope
with_variables xs sc = record sc { variables = xs ++ sc.variables }

abbrev pub with_functions : List ℕ → Scope → Scope
with_functions fs sc = record sc { functions = fs ++ sc.functions }

abbrev pub with_block : ℕ → Scope → Scope
with_block b sc = record sc { blocks = b ∷ sc.blocks }

abbrev pub with_tags : List ℕ → Scope → Scope
with_tags ts sc = record sc { tags = ts ++ sc.tags }

abbrev pub parameter_numbers : List Parameter → List ℕ
parameter_numbers [] = []
parameter_numbers (x ∷ xs) = parameter_number x ++ parameter_numbers xs

abbrev pub function_numbers : Definitions → List ℕ
function_numbers no_definition = []
function_numbers (define p f n l ds) = f ∷ function_numbers ds

abbrev pub tag_numbers : Items → List ℕ
tag_numbers no_item = []
tag_numbers (tag t n is) = t ∷ tag_numbers is
tag_numbers (step e is) = tag_numbers is

-- the variables of an optional parameter
abbrev pub optional_numbers : Parameter → Option Parameter → List ℕ
optional_numbers x s = parameter_number x ++ parameter_numbers (if_given s)

abbrev pub optionals_numbers : Optionals → List ℕ
optionals_numbers no_optional = []
optionals_numbers (optional x e s os) = optional_numbers x s ++ optionals_numbers os

-- what is bound round the body of a function
abbrev pub in_body : List Parameter → Optionals → Option Parameter → Scope → Scope
in_body xs os r sc =
    with_variables (parameter_numbers (if_given r)) (with_variables (optionals_numbers os) (with_variables (parameter_numbers xs) sc))

-- whether a primitive takes so many arguments
abbrev pub row_takes : (fixed : ℕ) → (rest : Option Spec) → ℕ → Bool
row_takes k None n = n == k
row_takes k (Some t) n = nat_le k n

abbrev pub operation_takes : Operation → ℕ → Bool
operation_takes q n = row_takes (length (row_of q).types) (row_of q).rest n && nat_le n most_arguments

abbrev pub few_enough : Cores → Bool
few_enough es = nat_le (cores_length es) most_arguments

abbrev mutual
  pub is_checked : Scope → Core → Bool
  is_checked sc (Quote p v) = true
  is_checked sc (Local p x) = has_number x sc.variables
  is_checked sc (SetLocal p x e) = has_number x sc.variables && is_checked sc e
  is_checked sc (Global p s) = true
  is_checked sc (SetGlobal p s e) = is_checked sc e
  is_checked sc (If p a b c) = is_checked sc a && (is_checked sc b && is_checked sc c)
  is_checked sc (Progn p es) = are_checked sc es
  is_checked sc (Let p bs e) = values_checked sc bs && is_checked (with_variables (parameter_numbers (binding_parameters bs)) sc) e
  is_checked sc (Function p l) = lambda_checked sc l
  is_checked sc (Labels p ds e) =
      definitions_checked (with_functions (function_numbers ds) sc) ds && is_checked (with_functions (function_numbers ds) sc) e
  is_checked sc (CallLocal p f es) = has_number f sc.functions && (few_enough es && are_checked sc es)
  is_checked sc (CallGlobal p s es) = few_enough es && are_checked sc es
  is_checked sc (Funcall p e es) = is_checked sc e && (few_enough es && are_checked sc es)
  is_checked sc (Apply p e es) = is_checked sc e && (few_enough es && are_checked sc es)
  is_checked sc (MvCall p e es) = is_checked sc e && are_checked sc es
  is_checked sc (FunLocal p f) = has_number f sc.functions
  is_checked sc (FunGlobal p s) = true
  is_checked sc (SetFun p s e) = is_checked sc e
  is_checked sc (Primitive p q es) = operation_takes q (cores_length es) && are_checked sc es
  is_checked sc (Is p t e) = is_checked sc e
  is_checked sc (The p t e) = is_checked sc e
  is_checked sc (Block p b n e) = is_checked (with_block b sc) e
  is_checked sc (ReturnFrom p b e) = has_number b sc.blocks && is_checked sc e
  is_checked sc (Tagbody p is) = items_checked (with_tags (tag_numbers is) sc) is
  is_checked sc (Go p t) = has_number t sc.tags
  is_checked sc (Catch p t e) = is_checked sc t && is_checked sc e
  is_checked sc (Throw p t e) = is_checked sc t && is_checked sc e
  is_checked sc (Unwind p e c) = is_checked sc e && is_checked sc c
  is_checked sc (Values p es) = nat_le (cores_length es) most_values && are_checked sc es
  is_checked sc (MvProg1 p e c) = is_checked sc e && is_checked sc c

  pub are_checked : Scope → Cores → Bool
  are_checked sc no_core = true
  are_checked sc (core e es) = is_checked sc e && are_checked sc es

  pub values_checked : Scope → Bindings → Bool
  values_checked sc no_binding = true
  values_checked sc (binding x e bs) = is_checked sc e && values_checked sc bs

  pub lambda_checked : Scope → Lambda → Bool
  lambda_checked sc (lambda k xs os r e) =
      optionals_checked (with_variables (parameter_numbers xs) sc) [] os && is_checked (in_body xs os r sc) e

  -- the form for an optional parameter stands behind the variables of the parameters before it
  pub optionals_checked : Scope → (before : List ℕ) → Optionals → Bool
  optionals_checked sc before no_optional = true
  optionals_checked sc before (optional x e s os) =
      is_checked (with_variables before sc) e && optionals_checked sc (before ++ optional_numbers x s) os

  pub definitions_checked : Scope → Definitions → Bool
  definitions_checked sc no_definition = true
  definitions_checked sc (define p f n l ds) = lambda_checked sc l && definitions_checked sc ds

  pub items_checked : Scope → Items → Bool
  items_checked sc no_item = true
  items_checked sc (tag t n is) = items_checked sc is
  items_checked sc (step e is) = is_checked sc e && items_checked sc is

-- a top-level form of such a tree, with its true number of nodes
pub record TopIsBuilt (t : Top) : Type 0 where
  pub checked : is_checked no_scope t.core ≡ true
  pub counted : t.nodes ≡ node_count t.core

abbrev pub TopsAreBuilt : List Top → Type 0
TopsAreBuilt [] = Unit {0}
TopsAreBuilt (t ∷ ts) = TopIsBuilt t × TopsAreBuilt ts
