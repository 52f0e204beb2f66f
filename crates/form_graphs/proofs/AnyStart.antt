-- Where a form's functions begin among those of a program makes no difference to the graphs in which it stands.
use Rattle.std.proofs.Common.{ℕ, suc, Bool, true, false, inl, inr, List, [], ◌∷◌, Option, Some, None}
use Rattle.lisp_base.specs.declared.values.Place.{Place}
use Rattle.lisp_base.specs.Spec.{Spec}
use Rattle.core_form.specs.declared.tree.Variable.{Variable}
use Rattle.core_form.specs.declared.tree.Variable.TheVariants.{Lexical, Special}
use Rattle.core_form.specs.Tree.{Parameter, Core, Quote, Local, SetLocal, Global, SetGlobal, If, Progn, Let, Function, Labels, CallLocal, CallGlobal, Funcall, Apply, MvCall, FunLocal, FunGlobal, SetFun, Primitive, Is, The, Block, ReturnFrom, Tagbody, Go, Catch, Throw, Unwind, Values, MvProg1, Cores, no_core, core, Bindings, no_binding, binding, Optionals, no_optional, optional, Lambda, lambda, Items, no_item, tag, step, Top}
use Rattle.core_form.specs.Facts.{FunctionText, Facts}
use Rattle.icr_graph.specs.declared.nodes.Tag.{Tag}
use Rattle.icr_graph.specs.declared.parts.Variable.{Variable as GraphVariable}
use Rattle.icr_graph.specs.Plain.{FlowGraph}
use Rattle.form_graphs.specs.Spots.{Spot, Passes, IsVariable, Stands}
use Rattle.form_graphs.specs.Standing.{AllStand, IsFunction, IsLocalFunction, LeavesExtent, BoundAt, UnboundAt, BindAll, UnbindAll, ReleaseAll, StandsAt, AllStandAt, OperandsStandAt, InitialsStandAt, GatheredStandAt, ItemsStandAt}
use Rattle.form_graphs.specs.Functions.{ParameterStandsAt, RequiredStandAt, SuppliedStandsAt, OptionalsStandAt, RestStandsAt, UnboundAllAt, CodeStandsAt, FunctionStands, FunctionsStand, FormStands, StandsWhole}

abbrev from_start : ℕ → Facts → Facts
from_start k facts = record facts { start = k }

module _ (g : FlowGraph) (facts : Facts) (rank : ℕ → ℕ) (k : ℕ) where
  stands_any : {v : GraphVariable} {x : ℕ} → Stands facts v x → Stands (from_start k facts) v x
  stands_any s = record { number = s.number; cell = s.cell; word = s.word; extent = s.extent }

  variable_any : {v x : ℕ} → IsVariable g facts v x → IsVariable g (from_start k facts) v x
  variable_any (variable, there, stands) = (variable, there, stands_any stands)

  all_any : (xs : List GraphVariable) (ns : List ℕ) → AllStand facts xs ns → AllStand (from_start k facts) xs ns
  all_any [] [] s = tt
  all_any [] (n ∷ ns) s = absurd s
  all_any (x ∷ xs) [] s = absurd s
  all_any (x ∷ xs) (n ∷ ns) (s, ss) = (stands_any s, all_any xs ns ss)

  function_any : {f : ℕ} {text : FunctionText} → IsFunction g facts rank f text → IsFunction g (from_start k facts) rank f text
  function_any s = record { function = s.function; there = s.there; lambda = s.lambda; closed = all_any _ _ s.closed }

  local_any : (f n : ℕ) → IsLocalFunction g facts rank f n → IsLocalFunction g (from_start k facts) rank f n
  local_any f n (text, there, is) = (text, there, function_any is)

  extent_any : (e : Option ℕ) (b : ℕ) → LeavesExtent g facts rank e b → LeavesExtent g (from_start k facts) rank e b
  extent_any e b (variable, left, stands) = (variable, left, stands_any stands)

  bound_any : (pl : Place) (x : Variable) (c : ℕ) (p : Spot) → BoundAt g facts rank pl x c p → BoundAt g (from_start k facts) rank pl x c p
  bound_any pl (Lexical x n) c p (v, is, here) = (v, variable_any is, here)
  bound_any pl (Special s) c p b = b

  unbound_any : (pl : Place) (x : Variable) (p q : Spot) → UnboundAt g facts rank pl x p q → UnboundAt g (from_start k facts) rank pl x p q
  unbound_any pl (Lexical x n) p q u = u
  unbound_any pl (Special s) p q u = u

  bind_any : (pl : Place) (bs : Bindings) (ks : List ℕ) (p q : Spot) → BindAll g facts rank pl bs ks p q → BindAll g (from_start k facts) rank pl bs ks p q
  bind_any pl no_binding [] p q b = b
  bind_any pl no_binding (c ∷ ks) p q b = absurd b
  bind_any pl (binding x e bs) [] p q b = absurd b
  bind_any pl (binding x e bs) (c ∷ ks) p q (free, b, rest) = (free, bound_any pl x.variable c p b, bind_any pl bs ks _ q rest)

  unbind_any : (pl : Place) (bs : Bindings) (p q : Spot) → UnbindAll g facts rank pl bs p q → UnbindAll g (from_start k facts) rank pl bs p q
  unbind_any pl no_binding p q u = u
  unbind_any pl (binding x e bs) p q (r, rest, u) = (r, unbind_any pl bs p r rest, unbound_any pl x.variable r q u)

  release_any : (low : ℕ) (pl : Place) (ks : List ℕ) (p q : Spot) → ReleaseAll g facts rank low pl ks p q → ReleaseAll g (from_start k facts) rank low pl ks p q
  release_any low pl [] p q r = r
  release_any low pl (c ∷ ks) p q (r, entry, le, rest, here, end) = (r, entry, le, release_any (suc (rank c)) pl ks p r rest, here, end)

  mutual
    any : (t w : Bool) (e : Core) (n : ℕ) (l : Passes) (low : ℕ) (to : Option ℕ) (p q : Spot) → StandsAt g facts rank t w e n l low to p q → StandsAt g (from_start k facts) rank t w e n l low to p q
    any t w (Quote pl v) n l low to p q s = s
    any t w (Local pl x) n l low to p q (v, is, here, end) = (v, variable_any is, here, end)
    any t w (SetLocal pl x e) n l low to p q (v, j, r, is, free, part, here, end) = (v, j, r, variable_any is, free, any false _ e _ _ _ _ _ _ part, here, end)
    any t w (Global pl x) n l low to p q s = s
    any t w (SetGlobal pl x e) n l low to p q (j, r, free, part, here, end) = (j, r, free, any false false e _ _ _ _ _ _ part, here, end)
    any t w (If pl a b c) n l low to p q (j, r, y, z, u, v, join, free, test, here, forks, first, ends, second, ends', end) =
        (j, r, y, z, u, v, join, free, any false false a _ _ _ _ _ _ test, here, forks, any t false b _ _ _ _ _ _ first, ends, any t false c _ _ _ _ _ _ second, ends', end)
    any t w (Progn pl es) n l low to p q s = any_all t w pl es _ _ low to p q s
    any t w (Let pl bs e) n l low to p q (ks, r, x, y, initials, binds, body, unbinds) =
        (ks, r, x, y, any_initials bs _ low ks p r initials, bind_any pl bs ks r x binds, any _ w e _ _ _ _ _ _ body, unbind_any pl bs y q unbinds)
    any t w (Function pl f) n l low to p q (i, is, here, end) = (i, function_any is, here, end)
    any t w (Labels pl ds e) n l low to p q s = any t w e _ _ low to p q s
    any t w (CallLocal pl i es) n l low to p q (f, c, ks, r, is, free, parts, below, here, calls, end) =
        (f, c, ks, r, local_any _ _ is, free, any_operands false pl es _ _ _ low ks p r parts, below, here, calls, end)
    any t w (CallGlobal pl x es) n l low to p q (ks, r, parts, here, end) = (ks, r, any_operands false pl es _ _ _ low ks p r parts, here, end)
    any t w (Funcall pl e es) n l low to p q (inl (text, f, c, ks, r, is_known, is, free, here, parts, calls, end)) =
        inl (text, f, c, ks, r, is_known, function_any is, free, here, any_operands false pl es _ _ _ _ ks _ r parts, calls, end)
    any t w (Funcall pl e es) n l low to p q (inr (c, ks, r, x, is_known, free, function, parts, calls, end)) =
        inr (c, ks, r, x, is_known, free, any false false e _ _ _ _ _ _ function, any_operands false pl es _ _ _ _ ks r x parts, calls, end)
    any t w (Apply pl e es) n l low to p q (c, ks, r, x, free, function, parts, calls, end) =
        (c, ks, r, x, free, any false false e _ _ _ _ _ _ function, any_operands false pl es _ _ _ _ ks r x parts, calls, end)
    any t w (MvCall pl e es) n l low to p q (c, ks, r, x, y, free, function, parts, same, released, all, calls, end) =
        (c, ks, r, x, y, free, any false false e _ _ _ _ _ _ function, any_gathered pl es _ r x parts, same, release_any _ pl ks x y released, all, calls, end)
    any t w (FunLocal pl i) n l low to p q (f, is, here, end) = (f, local_any _ _ is, here, end)
    any t w (FunGlobal pl x) n l low to p q s = s
    any t w (SetFun pl x e) n l low to p q (j, r, free, part, here, end) = (j, r, free, any false false e _ _ _ _ _ _ part, here, end)
    any t w (Primitive pl o es) n l low to p q (ks, r, parts, here, end) = (ks, r, any_operands _ pl es _ _ _ low ks p r parts, here, end)
    any t w (Is pl type e) n l low to p q (written, j, r, same, free, part, here, end) = (written, j, r, same, free, any false false e _ _ _ _ _ _ part, here, end)
    any t w (The pl type e) n l low to p q (j, r, le, asserted, part, here, end) = (j, r, le, asserted, any false w e _ _ _ _ _ _ part, here, end)
    any t w (Block pl b name e) n l low to p q (v, exits, r, land, is, here, body, closes, ends, end) =
        (v, exits, r, land, variable_any is, here, any _ false e _ _ _ _ _ _ body, closes, ends, end)
    any t w (ReturnFrom pl b e) n l low to p q (j, r, entry, x, free, leaves, name, part, here) = (j, r, entry, x, free, extent_any _ _ leaves, name, any false false e _ _ _ _ _ _ part, here)
    any t w (Tagbody pl is) n l low to p q (v, exits, tags, r, known, here, parts, closes, gives, end) =
        (v, exits, tags, r, variable_any known, here, any_items is tags low _ r parts, closes, gives, end)
    any t w (Go pl u) n l low to p q (text, entry, named, leaves, here) = (text, entry, named, extent_any _ _ leaves, here)
    any t w (Catch pl e c) n l low to p q (j, exits, r, x, land, free, tagged, here, body, closes, ends, end) =
        (j, exits, r, x, land, free, any false false e _ _ _ _ _ _ tagged, here, any false false c _ _ _ _ _ _ body, closes, ends, end)
    any t w (Throw pl e c) n l low to p q (j, i, r, x, entry, free, free', tagged, value, here) =
        (j, i, r, x, entry, free, free', any false false e _ _ _ _ _ _ tagged, any false false c _ _ _ _ _ _ value, here)
    any t w (Unwind pl e c) n l low to p q (exits, i, r, cleanup, x, entry, here, free, part, guards, clean, gives, end) =
        (exits, i, r, cleanup, x, entry, here, free, any false false e _ _ _ _ _ _ part, guards, any false true c _ _ _ _ _ _ clean, gives, end)
    any t w (Values pl es) n l low to p q (ks, r, parts, here, end) = (ks, r, any_operands false pl es _ _ _ low ks p r parts, here, end)
    any t w (MvProg1 pl e c) n l low to p q (i, exits, r, x, entry, free, part, here, second, gives, end) =
        (i, exits, r, x, entry, free, any false false e _ _ _ _ _ _ part, here, any false true c _ _ _ _ _ _ second, gives, end)

    any_all : (t w : Bool) (pl : Place) (es : Cores) (n : ℕ) (l : Passes) (low : ℕ) (to : Option ℕ) (p q : Spot) → AllStandAt g facts rank t w pl es n l low to p q → AllStandAt g (from_start k facts) rank t w pl es n l low to p q
    any_all t w pl no_core n l low to p q s = s
    any_all t w pl (core e no_core) n l low to p q s = any t w e n l low to p q s
    any_all t w pl (core e (core f es)) n l low to p q (r, first, rest) = (r, any false true e _ _ _ _ _ _ first, any_all t w pl (core f es) _ _ _ _ _ _ rest)

    any_operands : (w : Bool) (pl : Place) (es : Cores) (ts : List Spec) (rest : Option Spec) (n low : ℕ) (ks : List ℕ) (p q : Spot) → OperandsStandAt g facts rank w pl es ts rest n low ks p q → OperandsStandAt g (from_start k facts) rank w pl es ts rest n low ks p q
    any_operands w pl no_core ts rest n low ks p q s = s
    any_operands w pl (core e es) ts rest n low [] p q s = absurd s
    any_operands w pl (core e es) ts rest n low (c ∷ ks) p q (r, le, asserted, first, others) =
        (r, le, asserted, any false w e _ _ _ _ _ _ first, any_operands w pl es _ _ _ _ ks r q others)

    any_initials : (bs : Bindings) (n low : ℕ) (ks : List ℕ) (p q : Spot) → InitialsStandAt g facts rank bs n low ks p q → InitialsStandAt g (from_start k facts) rank bs n low ks p q
    any_initials no_binding n low ks p q s = s
    any_initials (binding x e bs) n low [] p q s = absurd s
    any_initials (binding x e bs) n low (c ∷ ks) p q (r, le, first, others) = (r, le, any false _ e _ _ _ _ _ _ first, any_initials bs _ _ ks r q others)

    any_gathered : (pl : Place) (es : Cores) (low : ℕ) (p q : Spot) → GatheredStandAt g facts rank pl es low p q → GatheredStandAt g (from_start k facts) rank pl es low p q
    any_gathered pl no_core low p q s = s
    any_gathered pl (core e es) low p q (c, exits, r, free, first, here, others) = (c, exits, r, free, any false false e _ _ _ _ _ _ first, here, any_gathered pl es low _ q others)

    any_items : (is : Items) (tags : List Tag) (low : ℕ) (p q : Spot) → ItemsStandAt g facts rank is tags low p q → ItemsStandAt g (from_start k facts) rank is tags low p q
    any_items no_item tags low p q s = s
    any_items (tag t name is) [] low p q s = absurd s
    any_items (tag t name is) (u ∷ tags) low p q (b, is_tag, ends, others) = (b, is_tag, ends, any_items is tags low _ q others)
    any_items (step e is) tags low p q (r, first, others) = (r, any false true e _ _ _ _ _ _ first, any_items is tags low r q others)

  -- ---- functions

  parameter_any : (pl : Place) (x : Parameter) (c : ℕ) (p q : Spot) → ParameterStandsAt g facts rank pl x c p q → ParameterStandsAt g (from_start k facts) rank pl x c p q
  parameter_any pl x c p q (j, r, checks, bound, end) = (j, r, checks, bound_any pl x.variable j r bound, end)

  required_any : (pl : Place) (i : ℕ) (xs : List Parameter) (p q : Spot) → RequiredStandAt g facts rank pl i xs p q → RequiredStandAt g (from_start k facts) rank pl i xs p q
  required_any pl i [] p q s = s
  required_any pl i (x ∷ xs) p q (c, r, here, first, others) = (c, r, here, parameter_any pl x c _ r first, required_any pl (suc i) xs r q others)

  supplied_any : (pl : Place) (i : ℕ) (x : Option Parameter) (p q : Spot) → SuppliedStandsAt g facts rank pl i x p q → SuppliedStandsAt g (from_start k facts) rank pl i x p q
  supplied_any pl i None p q s = s
  supplied_any pl i (Some x) p q (c, here, s) = (c, here, parameter_any pl x c _ q s)

  optionals_any : (pl : Place) (i : ℕ) (os : Optionals) (p q : Spot) → OptionalsStandAt g facts rank pl i os p q → OptionalsStandAt g (from_start k facts) rank pl i os p q
  optionals_any pl i no_optional p q s = s
  optionals_any pl i (optional x e s os) p q (j, c, given, missing, y, join, r, z, tells, free, here, forks, takes, ends, default, ends', parameter, flag, others) =
      (j, c, given, missing, y, join, r, z, tells, free, here, forks, takes, ends, any false false e _ _ _ _ _ _ default, ends', parameter_any pl x c _ r parameter, supplied_any pl i s r z flag, optionals_any pl (suc i) os z q others)

  rest_any : (pl : Place) (i : ℕ) (x : Option Parameter) (p q : Spot) → RestStandsAt g facts rank pl i x p q → RestStandsAt g (from_start k facts) rank pl i x p q
  rest_any pl i None p q s = s
  rest_any pl i (Some x) p q (c, here, s) = (c, here, parameter_any pl x c _ q s)

  closed_any : (pl : Place) (xs : List Parameter) (p q : Spot) → UnboundAllAt g facts rank pl xs p q → UnboundAllAt g (from_start k facts) rank pl xs p q
  closed_any pl [] p q s = s
  closed_any pl (x ∷ xs) p q (r, others, u) = (r, closed_any pl xs p r others, unbound_any pl x.variable r q u)

  code_any : (pl : Place) (l : Lambda) (b : ℕ) → CodeStandsAt g facts rank pl l b → CodeStandsAt g (from_start k facts) rank pl l b
  code_any pl (lambda n xs os r e) b (x, y, z, u, v, c, free, required, optionals, rest, body, closes, returns) =
      (x, y, z, u, v, c, free, required_any pl 0 xs _ x required, optionals_any pl _ os x y optionals, rest_any pl _ r y z rest, any _ false e _ _ _ _ _ _ body, closed_any pl _ u v closes, returns)

  text_any : {f : ℕ} {text : FunctionText} → FunctionStands g facts rank f text → FunctionStands g (from_start k facts) rank f text
  unfolding function_any
  text_any s = record {
    is = function_any s.is;
    name = s.name;
    place = s.place;
    required = s.required;
    optional = s.optional;
    rest = s.rest;
    block = s.block;
    begins = s.begins;
    code = code_any _ _ s.block s.code;
  }

  texts_any : (fs : List (Option ℕ)) (ts : List FunctionText) → FunctionsStand g facts rank fs ts → FunctionsStand g (from_start k facts) rank fs ts
  texts_any [] [] s = tt
  texts_any [] (t ∷ ts) s = absurd s
  texts_any (f ∷ fs) [] s = absurd s
  texts_any (None ∷ fs) (t ∷ ts) s = absurd s
  texts_any (Some f ∷ fs) (t ∷ ts) (s, ss) = (text_any s, texts_any fs ts ss)

  form_any : {t : Top} → FormStands g facts rank t → FormStands g (from_start k facts) rank t
  form_any {t} s = record {
    function = s.function;
    there = s.there;
    block = s.block;
    begins = s.begins;
    cont = s.cont;
    free = s.free;
    end = s.end;
    stands = any true false t.core _ _ _ _ _ _ s.stands;
    place = s.place;
    returns = s.returns;
  }

  pub whole_any : {t : Top} → StandsWhole g facts rank t → StandsWhole g (from_start k facts) rank t
  whole_any s = record { size = s.size; defines = s.defines; functions = texts_any _ _ s.functions; form = form_any s.form }
