-- Calls do in their graphs what they mean, to any depth: a function begins with its frame, its code does what its body does, and
-- its caller goes on.
use Rattle.std.proofs.Common.{◌≡◌, ℕ, zero, suc, ◌+◌, ◌-◌, ◌*◌, refl, sym, ap, subst, ◌∙◌, Bool, true, false, if◌then◌else◌, List, [], ◌∷◌, length, map, inl, inr, Option, Some, None}
use Rattle.std.specs.Prelude.{slice_get, zip, max}
use Rattle.lisp_base.specs.declared.values.Val.{Val}
use Rattle.lisp_base.specs.declared.values.Place.{Place}
use Rattle.lisp_base.specs.Sort.{nil}
use Rattle.layers.specs.Among.{Each}
use Rattle.core_form.specs.Tree.{Lambda, lambda, Top}
use Rattle.core_form.specs.Facts.{Facts, Code, parameters_of, function_table, closed_of}
use Rattle.core_form.specs.State.{Symbol, Fault, Arguments, State, all_big}
use Rattle.core_form.specs.Effect.{Ended, Gave, Left, Failed, and_then as and_then_effect, ◌>>=◌, pure, change, counting, read, leave, fail, spend, allot, stack_at, look_at, box_all}
use Rattle.core_form.specs.Force.{Vals, Force, Catch, symbol_kinds_of, make_list, signal, Signalled, Stops, Caught, stop_at, go_to_catch, after_signal, raise, tag_of_catch, one}
use Rattle.core_form.specs.Step.{takes, all_lexical}
use Rattle.core_form.specs.Run.{Outcome, Gives, Leaves, Fails, NotYet, Run, and_then, outcome, perform, stop, take_left, take_fuel, passed, returned, framed, back_in, in_frame, ◌>>=◌ as ◌>>=ʳ◌, pure as pure_run}
use Rattle.core_form.specs.Eval.{Call, function_body, enter, call_code, no_code, no_call, call_to}
use Rattle.core_form.proofs.Lasting.{counts_same, after as state_after}
use Rattle.core_form.proofs.Acting.{raise_lasts}
use Rattle.icr_graph.specs.declared.nodes.Node.{Node}
use Rattle.icr_graph.specs.declared.parts.Function.{Function as GraphFunction}
use Rattle.icr_graph.specs.declared.parts.Variable.{Variable as GraphVariable}
use Rattle.icr_graph.specs.Plain.{FlowGraph}
use Rattle.graph_meaning.specs.Machine.{Activation, nothing, Waiting, Caller, Leaving, Machine, going, after as after_effect}
use Rattle.graph_meaning.specs.Reading.{Found, function_at, first_function, takes as graph_takes}
use Rattle.graph_meaning.specs.Extents.{take_one}
use Rattle.graph_meaning.specs.Running.{step, calling, node_of, force_within, frame_of, begins}
use Rattle.form_graphs.specs.Spots.{first_of}
use Rattle.form_graphs.specs.Standing.{AllStand}
use Rattle.form_graphs.specs.Functions.{required_of, optional_number, takes_more, CodeStandsAt, IsGraphOf}
use Rattle.form_graphs.specs.Landing.{at_spot, Reaches}
use Rattle.form_graphs.specs.Calling.{around, CallComes, CodeComes, CallsDo}
use Rattle.form_graphs.proofs.Coming.{one_step, reaches_then, stays, spent_none}
use Rattle.form_graphs.proofs.Timely.{IsTimely, calls_timely, no_calls_timely}
use Rattle.form_graphs.proofs.Tables.{NoneOrBoth, IsInBoth, function_in_both}

-- ---- errors: an error ends alike whatever was to follow it

abbrev SameDeparture : Ended Vals → Ended (Unit {0}) → Type 0
SameDeparture (Gave vs s) r = ⊥
SameDeparture (Left e s) r = r ≡ Left e s
SameDeparture (Failed x p s) r = r ≡ Failed x p s

stop_same : (x : Fault) (p : Place) (s : State) → SameDeparture (stop_at x p s) (stop_at x p s)
unfolding stop_at box_all allot counting change fail ◌>>=◌
stop_same x p s = refl

caught_same : (x : Fault) (p : Place) (vs : Vals) (c : Option Catch) (s : State) → SameDeparture (go_to_catch x p vs c s) (go_to_catch x p vs c s)
unfolding go_to_catch leave ◌>>=◌
caught_same x p vs None s = stop_same x p s
caught_same x p vs (Some c) s = more (make_list vs s)
  where
    more : (r : Ended Val) → SameDeparture (and_then_effect r (λ v. leave (record { entry = c.entry; tag = None; values = v ∷ [] }))) (and_then_effect r (λ v. leave (record { entry = c.entry; tag = None; values = v ∷ [] })))
    more (Gave v t) = refl
    more (Left e t) = refl
    more (Failed y q t) = refl

signalled_same : (f : Force) (x : Fault) (p : Place) (r : Signalled) (s : State) → SameDeparture (after_signal f x p r s) (after_signal f x p r s)
unfolding after_signal
signalled_same f x p Stops s = stop_same x p s
signalled_same f x p (Caught at vs) s = caught_same x p vs (slice_get f.catches at) s

raise_same : (f : Force) (x : Fault) (p : Place) (s : State) → SameDeparture (raise f x p s) (raise f x p s)
unfolding raise read look_at counting change ◌>>=◌
raise_same f x p s = signalled_same f x p (signal s.store x p (map tag_of_catch f.catches)).1 _

-- ---- a function of a graph and its lambda

-- the frame has the same numbers
numbers_same : (facts : Facts) (xs : List GraphVariable) (ns : List ℕ) → AllStand facts xs ns → map (λ (x : GraphVariable). x.number) xs ≡ ns
numbers_same facts [] [] stand = refl
numbers_same facts [] (n ∷ ns) stand = absurd stand
numbers_same facts (x ∷ xs) [] stand = absurd stand
numbers_same facts (x ∷ xs) (n ∷ ns) (first, stand) = rw (first.number, numbers_same facts xs ns stand) refl

takes_same : (f : GraphFunction) (l : Lambda) (n : ℕ) → f.required ≡ length (required_of l) → f.optional ≡ optional_number l → f.rest ≡ takes_more l → graph_takes f n ≡ takes l n
takes_same f (lambda k xs os r e) n required optional rest = rw (required, optional, rest) refl

-- ---- entering

-- the state when a function has been entered
abbrev entered_state : (words cost : ℕ) → Vals → State → State
entered_state words n vs s =
    record s {
      taken = suc s.taken;
      counts = record s.counts {
        stack_words = max s.counts.stack_words words;
        cost = s.counts.cost + n + 2 * all_big vs;
        heap_words = s.counts.heap_words + 2 * all_big vs;
      };
    }

-- a function that begins, in a form of so many nodes
abbrev entrant : Found → (block : ℕ) → (tail : Bool) → Vals → State → (nodes : ℕ) → Force → Activation
entrant f b t vs s nodes force = record {
  graph = f.graph;
  block = b;
  index = 0;
  delivered = nothing;
  arguments = vs;
  born = suc s.taken;
  force = force_within t nodes (length vs) force;
}

abbrev state_within : (tail : Bool) → Vals → State → (nodes : ℕ) → List (ℕ × Val) → Force → State
state_within t vs s nodes frame force = record (entered_state (force_within t nodes (length vs) force).words (length vs + nodes) vs s) { frame = frame }

abbrev beginning : Found → (block : ℕ) → (tail : Bool) → Vals → Activation → List Waiting → State → (nodes : ℕ) → List (ℕ × Val) → Machine
beginning f b t vs a ws s nodes frame =
    begins f.function (entrant f b t vs s nodes a.force) (Caller t s.frame a ∷ ws) (state_within t vs s nodes frame a.force)

-- it has taken no further fuel
begins_taken : (f : GraphFunction) (a : Activation) (ws : List Waiting) (s : State) → (begins f a ws s).state.taken ≡ s.taken
begins_taken f a ws s = by_number (graph_takes f (length a.arguments))
  where
    error : Ended (Unit {0})
    error = raise a.force (Arguments f.name (length a.arguments)) f.place s

    state_of_error : (r : Ended (Unit {0})) → (after_effect a ws (λ (u : Unit {0}). going a ws) r).state.taken ≡ (state_after r).taken
    state_of_error (Gave u t) = refl
    state_of_error (Left e t) = refl
    state_of_error (Failed x p t) = refl

    by_number : (b : Bool) → (if b then going a ws s else after_effect a ws (λ (u : Unit {0}). going a ws) error).state.taken ≡ s.taken
    by_number true = refl
    by_number false = state_of_error error ∙ (raise_lasts a.force (Arguments f.name (length a.arguments)) f.place).leads.quiet s

module _ (symbols : List Symbol) (graphs : List FlowGraph) where
  -- what a call of a function that is there does with its step
  call_step : (t : Bool) (k : ℕ) (closed vs : Vals) (a : Activation) (ws : List Waiting) (s : State) (f : Found) (b : ℕ) → function_at 0 graphs k ≡ Some f → slice_get f.function.entries 0 ≡ Some b →
      step symbols graphs (calling t k closed vs None a ws s) ≡ beginning f b t vs a ws s f.text.size (frame_of f closed)
  unfolding take_one stack_at spend box_all allot counting change ◌>>=◌
  call_step t k closed vs a ws s f b there starts = rw (there, starts) refl

  -- ---- returning

  -- how a function ends that was called in tail position or not
  abbrev ended : (tail : Bool) → Outcome Vals → Outcome Vals
  ended true o = o
  ended false o = returned o

  framed_in : (t : Bool) (new : List (ℕ × Val)) (r : Run Vals) (s : State) → framed t (in_frame new r) s ≡ ended t (back_in s.frame (r (record s { frame = new })))
  unfolding framed in_frame
  framed_in true new r s = refl
  framed_in false new r s = refl

  -- What its code comes to, the call comes to: its caller goes on in its own frame.
  code_returns : (t : Bool) (n : ℕ) (m : Machine) (old : List (ℕ × Val)) (a : Activation) (nd : Node) (ws : List Waiting) (o : Outcome Vals) → node_of (slice_get graphs a.graph) a ≡ Some nd →
      CodeComes symbols graphs n m (Caller t old a ∷ ws) o → CallComes symbols graphs m nd a ws (ended t (back_in old o))
  unfolding box_all allot counting change ◌>>=◌ pure perform ◌>>=ʳ◌ pure_run passed spend leave
  code_returns true n m old a nd ws (Gives us s) here (b, at, way) = reaches_then symbols graphs way (1, rw here refl)
  code_returns false n m old a nd ws (Gives us s) here (b, at, way) = reaches_then symbols graphs way (1, rw here refl)
  code_returns true n m old a nd ws (Leaves e s) here (b, way) =
      reaches_then symbols graphs way (1, ap (λ (u : State). record { control = Leaving e; here = a; waiting = ws; state = u }) (spent_none (record s { frame = old })))
  code_returns false n m old a nd ws (Leaves e s) here (b, way) = reaches_then symbols graphs way (1, refl)
  code_returns true n m old a nd ws (Fails x p s) here (b, waiting, way) = (b, waiting, way)
  code_returns false n m old a nd ws (Fails x p s) here (b, waiting, way) = (b, waiting, way)
  code_returns true n m old a nd ws (NotYet s) here came = came
  code_returns false n m old a nd ws (NotYet s) here came = came

  -- a run that first comes to another machine
  call_after : (m m' : Machine) (nd : Node) (a : Activation) (ws : List Waiting) (o : Outcome Vals) → Reaches symbols graphs m m' → CallComes symbols graphs m' nd a ws o → CallComes symbols graphs m nd a ws o
  call_after m m' nd a ws (Gives us s) way rest = reaches_then symbols graphs way rest
  call_after m m' nd a ws (Leaves e s) way rest = reaches_then symbols graphs way rest
  call_after m m' nd a ws (Fails x p s) way (here, waiting, rest) = (here, waiting, reaches_then symbols graphs way rest)
  call_after m m' nd a ws (NotYet s) way (m'', rest, out) = (m'', reaches_then symbols graphs way rest, out)

  -- ---- calls

  -- a call of no function gives NIL
  none_comes : (t : Bool) (k : ℕ) (closed vs : Vals) (a : Activation) (nd : Node) (ws : List Waiting) (s : State) → function_at 0 graphs k ≡ None → node_of (slice_get graphs a.graph) a ≡ Some nd →
      CallComes symbols graphs (calling t k closed vs None a ws s) nd a ws (perform (one nil) s)
  unfolding perform one pure ◌>>=◌
  none_comes t k closed vs a nd ws s nothing_there here = (1, rw (nothing_there, here) refl)

  -- the error of a wrong number of arguments
  error_comes : (n : ℕ) (f : Force) (x : Fault) (p : Place) (a : Activation) (ws : List Waiting) (s : State) →
      CodeComes symbols graphs n (after_effect a ws (λ (u : Unit {0}). going a ws) (raise f x p s)) ws (outcome (raise f x p s))
  error_comes n f x p a ws s = by (raise f x p s) (raise f x p s) (raise_same f x p s)
    where
      by : (r : Ended Vals) (q : Ended (Unit {0})) → SameDeparture r q → CodeComes symbols graphs n (after_effect a ws (λ (u : Unit {0}). going a ws) q) ws (outcome r)
      by (Gave vs t) q same = absurd same
      by (Left e t) q same = rw same (a, stays symbols graphs _)
      by (Failed y z t) q same = rw same (a, ws, stays symbols graphs _)

  module _ (limit : ℕ) where
    -- where the code of each function does what its body does with calls that do
    abbrev pub CodesDo : Type 0
    CodesDo =
        (number : ℕ) (g : FlowGraph) (facts : Facts) (rank : ℕ → ℕ) → slice_get graphs number ≡ Some g → facts.start ≡ first_function graphs number →
        (call : Call) → CallsDo symbols graphs call → IsTimely limit call →
        (pl : Place) (l : Lambda) (b : ℕ) (f : Force) (a : Activation) (ws : List Waiting) (s : State) → CodeStandsAt g facts rank pl l b →
        a.graph ≡ number → a.force ≡ f → a.delivered ≡ nothing → takes l (length a.arguments) ≡ true →
        CodeComes symbols graphs number (going (at_spot (first_of b) a) ws s) ws (function_body call limit (around facts (all_lexical (parameters_of l)) false f) pl a.arguments l s)

    module _ (code_does : CodesDo) (tops : List Top) (each : Each (IsGraphOf symbols) tops graphs) where
      -- the functions of the program
      abbrev pub table : List Code
      table = function_table (symbol_kinds_of symbols) 0 tops

      module _ (c : Code) (found : Found) (both : IsInBoth symbols tops graphs c found) (t : Bool) (k : ℕ) (closed vs : Vals) (a : Activation) (nd : Node) (ws : List Waiting) (s : State)
          (there : function_at 0 graphs k ≡ Some found) (here : node_of (slice_get graphs a.graph) a ≡ Some nd) where
        -- the frame of the function
        abbrev frame : List (ℕ × Val)
        frame = zip (closed_of c.facts c.text) closed

        starts : slice_get found.function.entries 0 ≡ Some both.stands.block
        starts = subst (λ (f : GraphFunction). slice_get f.entries 0 ≡ Some both.stands.block) both.function both.stands.begins

        same_frame : frame_of found closed ≡ frame
        same_frame =
            subst (λ (f : GraphFunction). frame_of (record found { function = f }) closed ≡ frame) both.function
            (ap (λ (ns : List ℕ). zip ns closed) (numbers_same c.facts _ _ both.stands.is.closed))

        begun : step symbols graphs (calling t k closed vs None a ws s) ≡ beginning found both.stands.block t vs a ws s c.facts.nodes frame
        begun =
            call_step t k closed vs a ws s found both.stands.block there starts
            ∙ (ap (λ (n : ℕ). beginning found both.stands.block t vs a ws s n (frame_of found closed)) (sym both.nodes)
            ∙ ap (λ (xs : List (ℕ × Val)). beginning found both.stands.block t vs a ws s c.facts.nodes xs) same_frame)

        -- without fuel that is left: the next step takes one
        runs_out : CallComes symbols graphs (calling t k closed vs None a ws s) nd a ws (NotYet s)
        runs_out = (
          calling t k closed vs None a ws s,
          stays symbols graphs _,
          record {
            output = refl;
            taken = refl;
            counts = counts_same s.counts;
            next = ap (λ (m : Machine). m.state.taken) begun ∙ begins_taken found.function _ _ _;
          },
        )

        module _ (call : Call) (calls_do : CallsDo symbols graphs call) (timely : IsTimely limit call) where
          -- what is in force in the function, where it begins, and its callers
          abbrev inner_force : Force
          inner_force = force_within t c.facts.nodes (length vs) a.force

          abbrev inner : Activation
          inner = entrant found both.stands.block t vs s c.facts.nodes a.force

          abbrev callers : List Waiting
          callers = Caller t s.frame a ∷ ws

          abbrev inner_state : State
          inner_state = state_within t vs s c.facts.nodes frame a.force

          -- the run of the function when it has its frame
          abbrev body : (right : Bool) → Run Vals
          body b =
              if b then function_body call limit (around c.facts (all_lexical (parameters_of c.text.lambda)) false inner_force) c.text.place vs c.text.lambda
              else perform (raise inner_force (Arguments c.text.name (length vs)) c.text.place)

          -- with a right number of arguments its code comes, else the error
          by_number : (b : Bool) → takes c.text.lambda (length vs) ≡ b →
              CodeComes symbols graphs found.graph (if b then going inner callers inner_state else after_effect inner callers (λ (u : Unit {0}). going inner callers) (raise inner_force (Arguments c.text.name (length vs)) c.text.place inner_state)) callers (body b inner_state)
          unfolding perform
          by_number true right =
              code_does found.graph found.text c.facts both.rank both.graph both.start call calls_do timely c.text.place c.text.lambda both.stands.block inner_force inner callers inner_state both.stands.code refl refl refl right
          by_number false wrong = error_comes found.graph inner_force (Arguments c.text.name (length vs)) c.text.place inner callers inner_state

          takes_alike : graph_takes found.function (length vs) ≡ takes c.text.lambda (length vs)
          takes_alike =
              subst (λ (f : GraphFunction). graph_takes f (length vs) ≡ takes c.text.lambda (length vs)) both.function
              (takes_same both.stands.is.function c.text.lambda (length vs) both.stands.required both.stands.optional both.stands.rest)

          same_name : found.function.name ≡ c.text.name
          same_name = ap (λ (f : GraphFunction). f.name) (sym both.function) ∙ both.stands.name

          same_place : found.function.place ≡ c.text.place
          same_place = ap (λ (f : GraphFunction). f.place) (sym both.function) ∙ both.stands.place

          begins_comes : CodeComes symbols graphs found.graph (beginning found both.stands.block t vs a ws s c.facts.nodes frame) callers (body (takes c.text.lambda (length vs)) inner_state)
          begins_comes = rw (takes_alike, same_name, same_place) (by_number (takes c.text.lambda (length vs)) refl)

          entered_comes : (facts : Facts) (w : Bool) → CallComes symbols graphs (beginning found both.stands.block t vs a ws s c.facts.nodes frame) nd a ws (enter call limit (around facts t w a.force) closed vs c (record s { taken = suc s.taken }))
          unfolding enter perform stack_at spend box_all allot counting change ◌>>=◌ ◌>>=ʳ◌
          entered_comes facts w =
              subst (CallComes symbols graphs (beginning found both.stands.block t vs a ws s c.facts.nodes frame) nd a ws)
              (sym (framed_in t frame (body (takes c.text.lambda (length vs))) (entered_state inner_force.words (length vs + c.facts.nodes) vs s)))
              (code_returns t found.graph (beginning found both.stands.block t vs a ws s c.facts.nodes frame) s.frame a nd ws (body (takes c.text.lambda (length vs)) inner_state) here begins_comes)

          -- a call with the fuel that is left
          by_fuel : (facts : Facts) (w : Bool) (left : ℕ) → CallComes symbols graphs (calling t k closed vs None a ws s) nd a ws (and_then (take_left left s) (λ u. enter call limit (around facts t w a.force) closed vs c))
          unfolding take_left stop
          by_fuel facts w zero = runs_out
          by_fuel facts w (suc left) =
              call_after (calling t k closed vs None a ws s) (step symbols graphs (calling t k closed vs None a ws s)) nd a ws (enter call limit (around facts t w a.force) closed vs c (record s { taken = suc s.taken }))
              (one_step symbols graphs (calling t k closed vs None a ws s)) (rw begun (entered_comes facts w))

      -- ---- one depth more

      -- where calls do what they mean, so do calls that take fuel and enter their function with these
      pub level_does : (call : Call) → CallsDo symbols graphs call → IsTimely limit call → CallsDo symbols graphs (λ cx k closed vs. call_code call limit cx closed vs (slice_get table k))
      unfolding call_code take_fuel ◌>>=ʳ◌
      level_does call calls_do timely facts t w f k closed vs a nd ws s force here = by (slice_get table k) (function_in_both symbols tops graphs each k)
        where
          by : (o : Option Code) → NoneOrBoth symbols tops graphs o (function_at 0 graphs k) → CallComes symbols graphs (calling t k closed vs None a ws s) nd a ws (call_code call limit (around facts t w f) closed vs o s)
          by o (inl (none_listed, nothing_there)) = rw none_listed (none_comes t k closed vs a nd ws s nothing_there here)
          by o (inr (c, found, listed, there, both)) = rw (listed, sym force) (by_fuel c found both t k closed vs a nd ws s there here call calls_do timely facts w (limit - s.taken))

      -- at the bottom
      pub no_calls_do : CallsDo symbols graphs (no_call table)
      unfolding no_call no_code stop
      no_calls_do facts t w f k closed vs a nd ws s force here = by (slice_get table k) (function_in_both symbols tops graphs each k)
        where
          by : (o : Option Code) → NoneOrBoth symbols tops graphs o (function_at 0 graphs k) → CallComes symbols graphs (calling t k closed vs None a ws s) nd a ws (no_code o s)
          by o (inl (none_listed, nothing_there)) = rw none_listed (none_comes t k closed vs a nd ws s nothing_there here)
          by o (inr (c, found, listed, there, both)) = rw listed (runs_out c found both t k closed vs a nd ws s there here)

      -- calls to any depth do what they mean
      pub calls_do : (d : ℕ) → CallsDo symbols graphs (call_to table limit d)
      unfolding call_to
      calls_do zero = level_does (no_call table) no_calls_do (no_calls_timely table limit)
      calls_do (suc d) = level_does (call_to table limit d) (calls_do d) (calls_timely table limit d)
