-- Counting on from a number gives its sum with the number of nodes, up to the greatest number.
use Rattle.std.specs.Prelude.{◌≡◌, ℕ, ◌+◌, ◌<◌, ◌^◌, min, ◌==◌, List, [], ◌∷◌, length, Option, Some, None}
use Rattle.std.proofs.Common.{arith}
use Rattle.std.proofs.lemmas.Bool.Decides.{nat_tests}
use Rattle.lisp_base.specs.Spec.{Spec, Named, Integer, Signed, Unsigned, Mod, Member, Eql, And, Or, Not, Specs, no_spec, spec, spec_size, specs_size}
use Rattle.core_form.specs.Tree.{Parameter, Core, Quote, Local, SetLocal, Global, SetGlobal, If, Progn, Let, Function, Labels, CallLocal, CallGlobal, Funcall, Apply, MvCall, FunLocal, FunGlobal, SetFun, Primitive, Is, The, Block, ReturnFrom, Tagbody, Go, Catch, Throw, Unwind, Values, MvProg1, Cores, no_core, core, Bindings, no_binding, binding, Optionals, no_optional, optional, Lambda, lambda, Definitions, no_definition, define, Items, no_item, tag, step, types_size, parameter_count, parameters_count, if_there, node_count, node_counts, bindings_count, optionals_count, lambda_count, definitions_count, items_count}
use Rattle.core_form.specs.Counting.{greatest_count, plus, with_size, with_sizes, with_types, with_parameter, with_parameters, with_given, with_core, with_cores, with_bindings, with_optionals, with_lambda, with_definitions, with_items}

-- m is counted on from n by a
record Counts (n a m : ℕ) : Type 0 where
  same : min m greatest_count ≡ min (n + a) greatest_count

none : (n : ℕ) → Counts n 0 n
none n = record { same = omega arith }

one : (n : ℕ) → Counts n 1 (plus n 1)
one n = record { same = omega arith }

some : (n a : ℕ) → Counts n a (plus n a)
some n a = record { same = omega arith }

then : (n a b m k : ℕ) → Counts n a m → Counts m b k → Counts n (a + b) k
then n a b m k h j = let p = h.same in let q = j.same in record { same = omega (arith, p, q) }

-- ---- types

mutual
  size_counted : (n : ℕ) (t : Spec) → Counts n (spec_size t) (with_size n t)
  size_counted n (Named name) = one n
  size_counted n (Integer lo hi) = one n
  size_counted n (Signed bits) = one n
  size_counted n (Unsigned bits) = one n
  size_counted n (Mod below) = one n
  size_counted n (Eql item) = one n
  size_counted n (Member items) = then n 1 (length items) (plus n 1) (plus (plus n 1) (length items)) (one n) (some (plus n 1) (length items))
  size_counted n (And ts) = then n 1 (specs_size ts) (plus n 1) (with_sizes (plus n 1) ts) (one n) (sizes_counted (plus n 1) ts)
  size_counted n (Or ts) = then n 1 (specs_size ts) (plus n 1) (with_sizes (plus n 1) ts) (one n) (sizes_counted (plus n 1) ts)
  size_counted n (Not t) = then n 1 (spec_size t) (plus n 1) (with_size (plus n 1) t) (one n) (size_counted (plus n 1) t)

  sizes_counted : (n : ℕ) (ts : Specs) → Counts n (specs_size ts) (with_sizes n ts)
  sizes_counted n no_spec = none n
  sizes_counted n (spec t ts) = then n (spec_size t) (specs_size ts) (with_size (n) t) (with_sizes (with_size (n) t) ts) (size_counted (n) t) (sizes_counted (with_size (n) t) ts)

types_counted : (n : ℕ) (ts : List Spec) → Counts n (types_size ts) (with_types n ts)
types_counted n [] = none n
types_counted n (t ∷ ts) = then n (spec_size t) (types_size ts) (with_size (n) t) (with_types (with_size (n) t) ts) (size_counted (n) t) (types_counted (with_size (n) t) ts)

parameter_counted : (n : ℕ) (x : Parameter) → Counts n (parameter_count x) (with_parameter n x)
parameter_counted n x = then n 1 (types_size x.types) (plus n 1) (with_types (plus n 1) x.types) (one n) (types_counted (plus n 1) x.types)

parameters_counted : (n : ℕ) (xs : List Parameter) → Counts n (parameters_count xs) (with_parameters n xs)
parameters_counted n [] = none n
parameters_counted n (x ∷ xs) = then n (parameter_count x) (parameters_count xs) (with_parameter (n) x) (with_parameters (with_parameter (n) x) xs) (parameter_counted (n) x) (parameters_counted (with_parameter (n) x) xs)

given_counted : (n : ℕ) (s : Option Parameter) → Counts n (if_there s) (with_given n s)
given_counted n None = none n
given_counted n (Some x) = parameter_counted n x

-- ---- trees

mutual
  counted : (n : ℕ) (e : Core) → Counts n (node_count e) (with_core n e)
  counted n (Quote p v) = one n
  counted n (Local p x) = one n
  counted n (SetLocal p x e) = then n 1 (node_count e) (plus n 1) (with_core (plus n 1) e) (one n) (counted (plus n 1) e)
  counted n (Global p s) = one n
  counted n (SetGlobal p s e) = then n 1 (node_count e) (plus n 1) (with_core (plus n 1) e) (one n) (counted (plus n 1) e)
  counted n (If p a b c) = then n (1 + node_count a + node_count b) (node_count c) (with_core (with_core (plus n 1) a) b) (with_core (with_core (with_core (plus n 1) a) b) c) (then n (1 + node_count a) (node_count b) (with_core (plus n 1) a) (with_core (with_core (plus n 1) a) b) (then n 1 (node_count a) (plus n 1) (with_core (plus n 1) a) (one n) (counted (plus n 1) a)) (counted (with_core (plus n 1) a) b)) (counted (with_core (with_core (plus n 1) a) b) c)
  counted n (Progn p es) = then n 1 (node_counts es) (plus n 1) (with_cores (plus n 1) es) (one n) (all_counted (plus n 1) es)
  counted n (Let p bs e) = then n (1 + bindings_count bs) (node_count e) (with_bindings (plus n 1) bs) (with_core (with_bindings (plus n 1) bs) e) (then n 1 (bindings_count bs) (plus n 1) (with_bindings (plus n 1) bs) (one n) (bindings_counted (plus n 1) bs)) (counted (with_bindings (plus n 1) bs) e)
  counted n (Function p l) = lambda_counted (n) l
  counted n (Labels p ds e) = then n (1 + definitions_count ds) (node_count e) (with_definitions (plus n 1) ds) (with_core (with_definitions (plus n 1) ds) e) (then n 1 (definitions_count ds) (plus n 1) (with_definitions (plus n 1) ds) (one n) (definitions_counted (plus n 1) ds)) (counted (with_definitions (plus n 1) ds) e)
  counted n (CallLocal p f es) = then n 1 (node_counts es) (plus n 1) (with_cores (plus n 1) es) (one n) (all_counted (plus n 1) es)
  counted n (CallGlobal p s es) = then n 1 (node_counts es) (plus n 1) (with_cores (plus n 1) es) (one n) (all_counted (plus n 1) es)
  counted n (Funcall p e es) = then n (1 + node_count e) (node_counts es) (with_core (plus n 1) e) (with_cores (with_core (plus n 1) e) es) (then n 1 (node_count e) (plus n 1) (with_core (plus n 1) e) (one n) (counted (plus n 1) e)) (all_counted (with_core (plus n 1) e) es)
  counted n (Apply p e es) = then n (1 + node_count e) (node_counts es) (with_core (plus n 1) e) (with_cores (with_core (plus n 1) e) es) (then n 1 (node_count e) (plus n 1) (with_core (plus n 1) e) (one n) (counted (plus n 1) e)) (all_counted (with_core (plus n 1) e) es)
  counted n (MvCall p e es) = then n (1 + node_count e) (node_counts es) (with_core (plus n 1) e) (with_cores (with_core (plus n 1) e) es) (then n 1 (node_count e) (plus n 1) (with_core (plus n 1) e) (one n) (counted (plus n 1) e)) (all_counted (with_core (plus n 1) e) es)
  counted n (FunLocal p f) = one n
  counted n (FunGlobal p s) = one n
  counted n (SetFun p s e) = then n 1 (node_count e) (plus n 1) (with_core (plus n 1) e) (one n) (counted (plus n 1) e)
  counted n (Primitive p q es) = then n 1 (node_counts es) (plus n 1) (with_cores (plus n 1) es) (one n) (all_counted (plus n 1) es)
  counted n (Is p t e) = then n (1 + spec_size t) (node_count e) (with_size (plus n 1) t) (with_core (with_size (plus n 1) t) e) (then n 1 (spec_size t) (plus n 1) (with_size (plus n 1) t) (one n) (size_counted (plus n 1) t)) (counted (with_size (plus n 1) t) e)
  counted n (The p t e) = then n (1 + spec_size t) (node_count e) (with_size (plus n 1) t) (with_core (with_size (plus n 1) t) e) (then n 1 (spec_size t) (plus n 1) (with_size (plus n 1) t) (one n) (size_counted (plus n 1) t)) (counted (with_size (plus n 1) t) e)
  counted n (Block p b s e) = then n 1 (node_count e) (plus n 1) (with_core (plus n 1) e) (one n) (counted (plus n 1) e)
  counted n (ReturnFrom p b e) = then n 1 (node_count e) (plus n 1) (with_core (plus n 1) e) (one n) (counted (plus n 1) e)
  counted n (Tagbody p is) = then n 1 (items_count is) (plus n 1) (with_items (plus n 1) is) (one n) (items_counted (plus n 1) is)
  counted n (Go p t) = one n
  counted n (Catch p t e) = then n (1 + node_count t) (node_count e) (with_core (plus n 1) t) (with_core (with_core (plus n 1) t) e) (then n 1 (node_count t) (plus n 1) (with_core (plus n 1) t) (one n) (counted (plus n 1) t)) (counted (with_core (plus n 1) t) e)
  counted n (Throw p t e) = then n (1 + node_count t) (node_count e) (with_core (plus n 1) t) (with_core (with_core (plus n 1) t) e) (then n 1 (node_count t) (plus n 1) (with_core (plus n 1) t) (one n) (counted (plus n 1) t)) (counted (with_core (plus n 1) t) e)
  counted n (Unwind p e c) = then n (1 + node_count e) (node_count c) (with_core (plus n 1) e) (with_core (with_core (plus n 1) e) c) (then n 1 (node_count e) (plus n 1) (with_core (plus n 1) e) (one n) (counted (plus n 1) e)) (counted (with_core (plus n 1) e) c)
  counted n (Values p es) = then n 1 (node_counts es) (plus n 1) (with_cores (plus n 1) es) (one n) (all_counted (plus n 1) es)
  counted n (MvProg1 p e c) = then n (1 + node_count e) (node_count c) (with_core (plus n 1) e) (with_core (with_core (plus n 1) e) c) (then n 1 (node_count e) (plus n 1) (with_core (plus n 1) e) (one n) (counted (plus n 1) e)) (counted (with_core (plus n 1) e) c)

  all_counted : (n : ℕ) (es : Cores) → Counts n (node_counts es) (with_cores n es)
  all_counted n no_core = none n
  all_counted n (core e es) = then n (node_count e) (node_counts es) (with_core (n) e) (with_cores (with_core (n) e) es) (counted (n) e) (all_counted (with_core (n) e) es)

  bindings_counted : (n : ℕ) (bs : Bindings) → Counts n (bindings_count bs) (with_bindings n bs)
  bindings_counted n no_binding = none n
  bindings_counted n (binding x e bs) = then n (1 + node_count e) (bindings_count bs) (with_core (plus n 1) e) (with_bindings (with_core (plus n 1) e) bs) (then n 1 (node_count e) (plus n 1) (with_core (plus n 1) e) (one n) (counted (plus n 1) e)) (bindings_counted (with_core (plus n 1) e) bs)

  optionals_counted : (n : ℕ) (os : Optionals) → Counts n (optionals_count os) (with_optionals n os)
  optionals_counted n no_optional = none n
  optionals_counted n (optional x e s os) = then n (parameter_count x + node_count e + if_there s) (optionals_count os) (with_given (with_core (with_parameter (n) x) e) s) (with_optionals (with_given (with_core (with_parameter (n) x) e) s) os) (then n (parameter_count x + node_count e) (if_there s) (with_core (with_parameter (n) x) e) (with_given (with_core (with_parameter (n) x) e) s) (then n (parameter_count x) (node_count e) (with_parameter (n) x) (with_core (with_parameter (n) x) e) (parameter_counted (n) x) (counted (with_parameter (n) x) e)) (given_counted (with_core (with_parameter (n) x) e) s)) (optionals_counted (with_given (with_core (with_parameter (n) x) e) s) os)

  lambda_counted : (n : ℕ) (l : Lambda) → Counts n (lambda_count l) (with_lambda n l)
  lambda_counted n (lambda k xs os r e) = then n (1 + parameters_count xs + optionals_count os + if_there r) (node_count e) (with_given (with_optionals (with_parameters (plus n 1) xs) os) r) (with_core (with_given (with_optionals (with_parameters (plus n 1) xs) os) r) e) (then n (1 + parameters_count xs + optionals_count os) (if_there r) (with_optionals (with_parameters (plus n 1) xs) os) (with_given (with_optionals (with_parameters (plus n 1) xs) os) r) (then n (1 + parameters_count xs) (optionals_count os) (with_parameters (plus n 1) xs) (with_optionals (with_parameters (plus n 1) xs) os) (then n 1 (parameters_count xs) (plus n 1) (with_parameters (plus n 1) xs) (one n) (parameters_counted (plus n 1) xs)) (optionals_counted (with_parameters (plus n 1) xs) os)) (given_counted (with_optionals (with_parameters (plus n 1) xs) os) r)) (counted (with_given (with_optionals (with_parameters (plus n 1) xs) os) r) e)

  definitions_counted : (n : ℕ) (ds : Definitions) → Counts n (definitions_count ds) (with_definitions n ds)
  definitions_counted n no_definition = none n
  definitions_counted n (define p f name l ds) = then n (lambda_count l) (definitions_count ds) (with_lambda (n) l) (with_definitions (with_lambda (n) l) ds) (lambda_counted (n) l) (definitions_counted (with_lambda (n) l) ds)

  items_counted : (n : ℕ) (is : Items) → Counts n (items_count is) (with_items n is)
  items_counted n no_item = none n
  items_counted n (tag t name is) = items_counted n is
  items_counted n (step e is) = then n (node_count e) (items_count is) (with_core (n) e) (with_items (with_core (n) e) is) (counted (n) e) (items_counted (with_core (n) e) is)

-- ---- a number of 32 bits is the count where it is the true number

same_test : (n m a g : ℕ) → n < g → min m g ≡ min (0 + a) g → (n == m) ≡ (n == a)
same_test n m a g lt h = grind (arith, nat_tests)

small : (n : ℕ) → n < 2 ^ 32 → n < greatest_count
unfolding greatest_count
small n lt = omega (arith, lt)

pub is_count : (n : ℕ) (e : Core) → n < 2 ^ 32 → (n == with_core 0 e) ≡ (n == node_count e)
is_count n e lt = same_test n (with_core 0 e) (node_count e) greatest_count (small n lt) (counted 0 e).same
