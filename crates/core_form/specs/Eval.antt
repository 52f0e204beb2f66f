-- What a program means. (ANSI Common Lisp, chapters 3 and 5; what is counted is this project's own.)
use Rattle.std.specs.Prelude.{ℕ, zero, suc, ◌+◌, Bool, true, false, not, if◌then◌else◌, nat_lt, ◌==◌, List, [], ◌∷◌, ◌++◌, length, map, reverse, zip, slice_get, codes, Option, Some, None}
use Rattle.lisp_base.specs.declared.values.SymId.{SymId}
use Rattle.lisp_base.specs.declared.values.SymKind.{SymKind}
use Rattle.lisp_base.specs.declared.values.SymKind.TheVariants as symbol_kinds
use Rattle.lisp_base.specs.declared.values.Val.{Val}
use Rattle.lisp_base.specs.declared.values.Val.TheVariants.{Sym, Ref}
use Rattle.lisp_base.specs.declared.values.Place.{Place}
use Rattle.lisp_base.specs.Sort.{nil, symbol, object, number_of}
use Rattle.lisp_base.specs.Spec.{spec_size}
use Rattle.core_form.specs.declared.tree.Variable.{Variable}
use Rattle.core_form.specs.declared.tree.Variable.TheVariants.{Lexical, Special}
use Rattle.core_form.specs.Arithmetic.{arithmetic}
use Rattle.core_form.specs.Tree.{Parameter, Core, Quote, Local, SetLocal, Global, SetGlobal, If, Progn, Let, Function, Labels, CallLocal, CallGlobal, Funcall, Apply, MvCall, FunLocal, FunGlobal, SetFun, Primitive, Is, The, Block, ReturnFrom, Tagbody, Go, Catch, Throw, Unwind, Values, MvProg1, Cores, no_core, core, cores_length, Bindings, no_binding, binding, Optionals, no_optional, optional, Lambda, lambda, Items, no_item, tag, step, Top}
use Rattle.core_form.specs.Facts.{FunctionText, Facts, Code, has_number, lookup, facts_of, function_table, functions_in, functions_count, prelude_functions, binding_parameters, tagbody_number, closed_of}
use Rattle.core_form.specs.State.{Symbol, Object, Fun, Fault, Arguments, Counts, State, first_of_values}
use Rattle.core_form.specs.Effect.{spend, allot, hold, stack_at, begin, box_all, change, read, new_entry}
use Rattle.core_form.specs.Force.{Vals, is_true, symbol_kinds_of, keeping, make_list, raise, object_at, check, check_all, holds, one}
use Rattle.core_form.specs.Primitives.{truth_of, primitive, global_value, global_function, set_global, value_in, give}
use Rattle.core_form.specs.Step.{Around, inside, at_word, plain, with_tail, forced, deep, held, new_variable, set_variable, capture, make_function, make_local, code_number, designated, set_function, takes, frame_words, all_lexical, entered, spread, not_too_many, enter_extent, with_entry, return_from, go_to, with_catch, throw}
use Rattle.core_form.specs.Run.{Outcome, Gives, Leaves, Fails, NotYet, Run, ◌>>=◌, ◌>>◌, perform, pure, stop, take_fuel, first, visit, block_round, catch_round, astray, tagbody_round, restoring, guarded, framed, in_frame}

-- a call of a function: the surroundings of the call, the number of the function, what it holds of the variables that it closes
-- over, and the arguments
abbrev pub Call : Type 0
Call = Around → ℕ → Vals → Vals → Run Vals

abbrev pub if_last : {A : Type 0} → Cores → A → A → A
if_last no_core a b = a
if_last (core e es) a b = b

-- ---- calls of values

-- a value that was tested is a function
unfoldable pub call_object : Call → Around → Vals → Option Object → Run Vals
call_object call cx vs (Some (Fun k closed)) = call cx k closed vs
call_object call cx vs _ = perform (one nil)

unfoldable pub call_value : Call → Around → Vals → Val → Run Vals
call_value call cx vs v = perform (read (object_at v)) >>= call_object call cx vs

unfoldable pub funcall : Call → Around → Place → Val → Vals → Run Vals
funcall call cx p v vs = perform (designated cx.force p v) >>= call_value call cx vs

-- the function of a symbol is looked up when the arguments are there
unfoldable pub call_symbol : Call → Around → Place → SymId → Vals → Run Vals
call_symbol call cx p s vs = first (perform (global_function cx.force p s)) >>= call_value call cx vs

-- the function is tested before the list is walked
unfoldable pub apply : Call → Around → Place → Val → Vals → Run Vals
apply call cx p v vs =
    perform (designated cx.force p v) >>= (λ g. perform (spread cx.force p vs) >>= (λ ws. call_value call cx ws g))

unfoldable pub call_with_values : Call → Around → Place → Val → Vals → Run Vals
call_with_values call cx p v vs = perform (not_too_many cx.force p vs) >> funcall call cx p v vs

-- a call of a local function makes no function, but takes what it closes over; a tree that is checked names no other
unfoldable pub call_local : Call → Around → Option FunctionText → Vals → Run Vals
call_local call cx None vs = perform (one nil)
call_local call cx (Some f) vs =
    perform (capture cx.text.facts f) >>= (λ ws. call cx (code_number cx.text.facts f.lambda) ws vs)

-- The function of a call that names it in place, by a Lambda or as a local function, and that it takes.
abbrev pub if_takes : ℕ → Option FunctionText → Option FunctionText
if_takes n None = None
if_takes n (Some f) = if takes f.lambda n then Some f else None

abbrev pub known : Facts → ℕ → Core → Option FunctionText
known facts n (Function p l) = if_takes n (Some (record { name = None; place = p; lambda = l }))
known facts n (FunLocal p f) = if_takes n (lookup f facts.names.functions)
known facts n _ = None

-- such a call counts the function, which nothing sees, and makes none
unfoldable pub known_or : Option FunctionText → Call → Around → Run Vals → Run Vals → Run Vals
known_or None call cx args full = full
known_or (Some f) call cx args full =
    perform (spend 1) >> perform (capture cx.text.facts f) >>= (λ ws. perform (allot (2 + length ws)) >> args >>= (λ vs. call cx (code_number cx.text.facts f.lambda) ws vs))

-- ---- variables that are bound for a stretch

-- a special variable has the value until the stretch has ended or is left
unfoldable pub with_special : SymId → Val → Run Vals → Run Vals
with_special s v r =
    perform (box_all (v ∷ [])) >> perform (read (value_in s)) >>= restoring s (perform (change (give s (Some v))) >> r)

unfoldable pub with_variable : Around → Variable → Val → (Around → Run Vals) → Run Vals
with_variable cx (Lexical x n) v k = perform (new_variable cx.text.facts x v) >> k cx
with_variable cx (Special s) v k =
    let cx' = with_tail false (forced deep cx) in perform (stack_at cx'.force.words) >> with_special s v (k cx')

-- the variables of a Let, when all its values are there
unfoldable pub with_bindings : Around → Bindings → Vals → (Around → Run Vals) → Run Vals
with_bindings cx no_binding vs k = k cx
with_bindings cx (binding x e bs) [] k = k cx
with_bindings cx (binding x e bs) (v ∷ vs) k = with_variable cx x.variable v (λ cx'. with_bindings cx' bs vs k)

-- a parameter: its checks, then the variable
unfoldable pub with_parameter : Around → Place → Parameter → Val → (Around → Run Vals) → Run Vals
with_parameter cx p x v k = perform (check_all cx.force p x.types v) >> with_variable cx x.variable v k

unfoldable pub with_required : Around → Place → List Parameter → Vals → (Around → Vals → Run Vals) → Run Vals
with_required cx p [] vs k = k cx vs
with_required cx p (x ∷ xs) [] k = k cx []
with_required cx p (x ∷ xs) (v ∷ vs) k = with_parameter cx p x v (λ cx'. with_required cx' p xs vs k)

-- the variable that tells whether an argument was given
unfoldable pub with_supplied : Around → Place → Option Parameter → Bool → (Around → Run Vals) → Run Vals
with_supplied cx p None b k = k cx
with_supplied cx p (Some x) b k = with_parameter cx p x (truth_of b) k

unfoldable pub with_rest : Around → Place → Option Parameter → Vals → (Around → Run Vals) → Run Vals
with_rest cx p None vs k = k cx
with_rest cx p (Some x) vs k = perform (make_list vs) >>= (λ v. with_parameter cx p x v k)

-- the value of a word variable stands at a word position
abbrev pub for_variable : Around → Variable → Around
for_variable cx (Lexical x n) = at_word (has_number x cx.text.facts.words) cx
for_variable cx (Special s) = inside cx

-- ---- nodes

-- what a call means and how much fuel there is are handed in
module _ (call : Call) (limit : ℕ) where
  unfoldable mutual
    -- a node in its surroundings gives values
    pub eval : Around → Core → Run Vals
    eval cx (Quote p v) = visit cx (perform (one v))
    eval cx (Local p x) = visit cx (perform (read (held cx.text.facts x)) >>= (λ v. perform (one v)))
    eval cx (SetLocal p x e) =
        visit cx (first (eval (at_word (has_number x cx.text.facts.words) cx) e) >>= (λ v. perform (set_variable cx.text.facts x v)))
    eval cx (Global p s) = visit cx (perform (global_value cx.force p s))
    eval cx (SetGlobal p s e) = visit cx (first (eval (inside cx) e) >>= (λ v. perform (set_global s v)))
    eval cx (If p a b c) =
        visit cx (first (eval (inside cx) a) >>= (λ v. if is_true v then eval (plain cx) b else eval (plain cx) c))
    eval cx (Progn p es) = visit cx (progn cx es)
    eval cx (Let p bs e) =
        visit cx (values_of cx bs >>= (λ vs. with_bindings cx bs vs (λ cx'. eval (with_tail (all_lexical (binding_parameters bs)) cx') e)))
    eval cx (Function p l) = visit cx (perform (make_function cx.text.facts (record { name = None; place = p; lambda = l })))
    eval cx (Labels p ds e) = visit cx (eval cx e)
    eval cx (CallLocal p f es) = visit cx (args (inside cx) es >>= call_local call cx (lookup f cx.text.facts.names.functions))
    eval cx (CallGlobal p s es) = visit cx (args (inside cx) es >>= call_symbol call cx p s)
    eval cx (Funcall p e es) =
        visit cx (known_or (known cx.text.facts (cores_length es) e) call cx (args (inside cx) es) (first (eval (inside cx) e) >>= (λ v. args (inside cx) es >>= funcall call cx p v)))
    eval cx (Apply p e es) = visit cx (first (eval (inside cx) e) >>= (λ v. args (inside cx) es >>= apply call cx p v))
    eval cx (MvCall p e es) =
        visit cx (first (eval (inside cx) e) >>= (λ v. gathered (inside cx) es >>= call_with_values call cx p v))
    eval cx (FunLocal p f) = visit cx (perform (make_local cx.text.facts (lookup f cx.text.facts.names.functions)))
    eval cx (FunGlobal p s) = visit cx (perform (global_function cx.force p s))
    eval cx (SetFun p s e) = visit cx (first (eval (inside cx) e) >>= (λ v. perform (set_function s v)))
    eval cx (Primitive p q es) = visit cx (args (at_word (arithmetic q) cx) es >>= (λ vs. perform (primitive cx.force p q vs)))
    eval cx (Is p t e) =
        visit cx (first (eval (inside cx) e) >>= (λ v. perform (spend (spec_size t)) >> perform (read (holds cx.force t v)) >>= (λ b. perform (one (truth_of b)))))
    eval cx (The p t e) =
        visit cx (eval (at_word cx.text.word cx) e >>= (λ vs. perform (check cx.force p t (first_of_values vs)) >> pure vs))
    eval cx (Block p b name e) =
        visit cx (perform (enter_extent cx.text.facts b) >>= (λ n. block_round n (eval (with_tail (not (has_number b cx.text.facts.cells)) (forced (with_entry n) (plain cx))) e)))
    eval cx (ReturnFrom p b e) = visit cx (eval (inside cx) e >>= (λ vs. perform (return_from cx.text.facts cx.force p b vs)))
    eval cx (Tagbody p is) =
        visit cx (perform (enter_extent cx.text.facts (tagbody_number is)) >>= (λ n. let cx' = forced (with_entry n) (inside cx) in tagbody_round limit n (λ t. steps_from cx' t is) (steps cx' is)) >> perform (one nil))
    eval cx (Go p t) = visit cx (take_fuel limit >> perform (go_to cx.text.facts cx.force p t))
    eval cx (Catch p t e) =
        visit cx (first (eval (inside cx) t) >>= (λ v. perform new_entry >>= (λ n. let cx' = forced (with_catch v n) (inside cx) in perform (stack_at cx'.force.words) >> catch_round n (eval cx' e))))
    eval cx (Throw p t e) = visit cx (first (eval (inside cx) t) >>= (λ v. eval (inside cx) e >>= (λ vs. perform (throw cx.force p v vs))))
    eval cx (Unwind p e c) =
        visit cx (let cx' = forced deep (inside cx) in perform (stack_at cx'.force.words) >> guarded (λ n. perform (hold (cx.force.kept + n)) >> eval (forced (keeping n) (at_word true cx)) c) (eval cx' e))
    eval cx (Values p es) = visit cx (args (inside cx) es)
    eval cx (MvProg1 p e c) =
        visit cx (eval (inside cx) e >>= (λ vs. perform (hold (cx.force.kept + length vs)) >> eval (forced (keeping (length vs)) (at_word true cx)) c >> pure vs))

    -- the first value of each
    pub args : Around → Cores → Run Vals
    args cx no_core = pure []
    args cx (core e es) = first (eval cx e) >>= (λ v. args cx es >>= (λ vs. pure (v ∷ vs)))

    -- all values of all, which are kept
    pub gathered : Around → Cores → Run Vals
    gathered cx no_core = pure []
    gathered cx (core e es) =
        eval cx e >>= (λ vs. perform (hold (cx.force.kept + length vs)) >> gathered (forced (keeping (length vs)) cx) es >>= (λ ws. pure (vs ++ ws)))

    -- the last gives the values; without a part the value is NIL
    pub progn : Around → Cores → Run Vals
    progn cx no_core = perform (one nil)
    progn cx (core e es) = if_last es (eval cx e) (eval (at_word true cx) e >> progn cx es)

    -- the values for the variables of a Let
    pub values_of : Around → Bindings → Run Vals
    values_of cx no_binding = pure []
    values_of cx (binding x e bs) =
        first (eval (for_variable cx x.variable) e) >>= (λ v. values_of cx bs >>= (λ vs. pure (v ∷ vs)))

    -- the forms of a tagbody, and those after a tag
    pub steps : Around → Items → Run Vals
    steps cx no_item = pure []
    steps cx (tag t n is) = steps cx is
    steps cx (step e is) = eval (at_word true cx) e >> steps cx is

    pub steps_from : Around → ℕ → Items → Run Vals
    steps_from cx t no_item = astray
    steps_from cx t (tag u n is) = if t == u then steps cx is else steps_from cx t is
    steps_from cx t (step e is) = steps_from cx t is

    -- the optional parameters, then what follows with the arguments that are left
    pub with_optionals : Around → Place → Optionals → Vals → (Around → Vals → Run Vals) → Run Vals
    with_optionals cx p no_optional vs k = k cx vs
    with_optionals cx p (optional x e s os) [] k =
        first (eval (inside cx) e) >>= (λ v. with_parameter cx p x v (λ cx1. with_supplied cx1 p s false (λ cx2. with_optionals cx2 p os [] k)))
    with_optionals cx p (optional x e s os) (v ∷ vs) k =
        with_parameter cx p x v (λ cx1. with_supplied cx1 p s true (λ cx2. with_optionals cx2 p os vs k))

    -- the parameters of a function, then its body
    pub function_body : Around → Place → Vals → Lambda → Run Vals
    function_body cx p vs (lambda k xs os r e) =
        with_required cx p xs vs (λ cx1 ws. with_optionals cx1 p os ws (λ cx2 us. with_rest cx2 p r us (λ cx3. eval cx3 e)))

-- ---- calls

-- A function is entered when its call has taken fuel: the call is pending before the number of arguments is tested.
unfoldable pub enter : Call → ℕ → Around → Vals → Vals → Code → Run Vals
enter call limit cx ws vs c =
    let cx' = entered c (length vs) cx in
    perform (stack_at cx'.force.words) >> perform (spend (length vs + c.facts.nodes)) >> perform (box_all vs) >>
    framed cx.text.tail (in_frame (zip (closed_of c.facts c.text) ws)
    (if takes c.text.lambda (length vs) then function_body call limit cx' c.text.place vs c.text.lambda else perform (raise cx'.force (Arguments c.text.name (length vs)) c.text.place)))

unfoldable pub call_code : Call → ℕ → Around → Vals → Vals → Option Code → Run Vals
call_code call limit cx ws vs None = perform (one nil)
call_code call limit cx ws vs (Some c) = take_fuel limit >> enter call limit cx ws vs c

-- a call for which no depth is left
unfoldable pub no_code : Option Code → Run Vals
no_code None = perform (one nil)
no_code (Some c) = stop

unfoldable pub no_call : List Code → Call
no_call table cx k ws vs = no_code (slice_get table k)

-- What a call means to a depth of calls. Each takes fuel, so that a depth of the limit is enough.
unfoldable pub call_to : List Code → ℕ → ℕ → Call
call_to table limit zero cx k ws vs = call_code (no_call table) limit cx ws vs (slice_get table k)
call_to table limit (suc n) cx k ws vs = call_code (call_to table limit n) limit cx ws vs (slice_get table k)

-- ---- a program

-- prelude functions, top-level forms, the objects that quoted constants reach, and all symbols by number
pub record Program : Type 0 where
  pub prelude : List Top
  pub forms : List Top
  pub heap : List Object
  pub symbols : List Symbol

-- forms alone, with the symbols NIL and T
abbrev pub plain_program : List Top → Program
plain_program forms = record {
  prelude = [];
  forms = forms;
  heap = [];
  symbols = record { name = codes "NIL"; kind = symbol_kinds.Plain } ∷ record { name = codes "T"; kind = symbol_kinds.Plain } ∷ [];
}

abbrev pub nodes_of_all : List Top → ℕ
nodes_of_all [] = 0
nodes_of_all (t ∷ ts) = t.nodes + nodes_of_all ts

-- the nodes of a program
abbrev pub program_nodes : Program → ℕ
program_nodes p = nodes_of_all p.prelude + nodes_of_all p.forms

-- a top-level form is a pending call without arguments, with nothing round it
abbrev pub at_top : List Symbol → Facts → Around
at_top symbols facts = record {
  text = record { facts = facts; tail = true; word = false };
  force = record { symbols = symbols; below = 0; words = frame_words facts.nodes 0; catches = []; entries = []; kept = 0 };
}

-- a form gives its values back, and its first value counts
unfoldable pub run_form : Call → ℕ → List Symbol → (start : ℕ) → Top → Run Val
run_form call n symbols k t =
    let cx = at_top symbols (facts_of (symbol_kinds_of symbols) k t) in
    perform (begin t.nodes) >> perform (stack_at cx.force.words) >> first (in_frame [] (eval call n cx t.core >>= (λ vs. perform (box_all vs) >> pure vs)))

-- the forms one after another, of which the first has functions from this number on; the last one's value is the run's
unfoldable pub run_forms : Call → ℕ → List Symbol → (start : ℕ) → List Top → Val → Run Val
run_forms call n symbols k [] v = pure v
run_forms call n symbols k (t ∷ ts) v =
    run_form call n symbols k t >>= run_forms call n symbols (k + length (functions_in t.core)) ts

abbrev pub no_counts : Counts
no_counts = record {
  cost = 0;
  heap_words = 0;
  boxes = 0;
  boxes_outside_words = 0;
  stack_words = 0;
  held = 0;
  begun = 0;
  extra = 0;
  looked = 0;
  walked = 0;
}

abbrev pub is_constant_symbol : ℕ → SymKind → Bool
is_constant_symbol n symbol_kinds.Plain = nat_lt n 2
is_constant_symbol n symbol_kinds.Keyword = true
is_constant_symbol n symbol_kinds.Fresh = false

-- NIL, T and the keywords have themselves as values
abbrev pub constants_from : ℕ → List Symbol → List (ℕ × Option Val)
constants_from n [] = []
constants_from n (s ∷ ss) =
    if is_constant_symbol n s.kind then (n, Some (Sym (symbol n))) ∷ constants_from (suc n) ss else constants_from (suc n) ss

-- the functions of the prelude are objects after those of the constants, one after another
abbrev pub functions_from : (index : ℕ) → List (SymId × ℕ) → List (ℕ × Val)
functions_from a [] = []
functions_from a (f ∷ fs) = (number_of f.0, Ref (object a)) ∷ functions_from (suc a) fs

abbrev pub start : Program → List ℕ → State
start p input = record {
  taken = 0;
  store = p.heap ++ map (λ f. Fun f.1 []) (prelude_functions 0 p.prelude);
  frame = [];
  next_entry = 1;
  values = constants_from 0 p.symbols;
  functions = functions_from (length p.heap) (prelude_functions 0 p.prelude);
  input = input;
  output = [];
  counts = no_counts;
}

abbrev pub table_of : Program → List Code
table_of p = function_table (symbol_kinds_of p.symbols) 0 (p.prelude ++ p.forms)

-- what a program does with an input and so much fuel
unfoldable pub evaluate : Program → List ℕ → ℕ → Outcome Val
evaluate p input n = run_forms (call_to (table_of p) n n) n p.symbols (functions_count p.prelude) p.forms nil (start p input)

-- ---- what a run shows

pub data Ending : Type 0 where
  Value : Val → Ending
  Failed : Fault → Place → Ending
  Unfinished : Ending
  -- an exit that nothing stops; no run comes to it
  Astray : Ending

abbrev pub state_of : {A : Type 0} → Outcome A → State
state_of (Gives a s) = s
state_of (Leaves e s) = s
state_of (Fails x p s) = s
state_of (NotYet s) = s

abbrev pub ending_of : Outcome Val → Ending
ending_of (Gives v s) = Value v
ending_of (Leaves e s) = Astray
ending_of (Fails x p s) = Failed x p
ending_of (NotYet s) = Unfinished

abbrev pub output_of : {A : Type 0} → Outcome A → List ℕ
output_of o = reverse (state_of o).output

abbrev pub counts_of : {A : Type 0} → Outcome A → Counts
counts_of o = (state_of o).counts

-- the fuel that was taken
abbrev pub taken_of : {A : Type 0} → Outcome A → ℕ
taken_of o = (state_of o).taken
