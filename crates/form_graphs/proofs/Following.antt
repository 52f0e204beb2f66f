-- Graphs together follow the forms together of which each is the graph, and so keep what they mean.
--
-- graphs_follow: with each amount of fuel, the graphs' layer comes to where it shows exactly what the forms' layer shows.
-- graphs_keep: the law, where every form does in its graph what it does (GraphsDo); graphs_do: it does; graphs_keep_forms: the law.
use Rattle.std.proofs.Common.{◌≡◌, ◌≢◌, ℕ, zero, suc, ◌+◌, ◌<◌, refl, sym, ap, subst, ◌∙◌, arith, reverse, List, [], ◌∷◌, ◌++◌, length, map, Option, Some, None, take-append-drop}
use Rattle.std.specs.Prelude.{take, drop}
use Rattle.lisp_base.specs.declared.values.SymId.{SymId}
use Rattle.lisp_base.specs.declared.values.Val.{Val}
use Rattle.lisp_base.specs.Sort.{nil}
use Rattle.layers.specs.Shown.{Seen, Runs, NeedsNoLess}
use Rattle.layers.proofs.SeenLemmas.{needs_itself}
use Rattle.layers.proofs.Following.{keeps_of_follows}
use Rattle.layers.specs.Layer.{after}
use Rattle.layers.specs.Among.{Each}
use Rattle.layers.specs.Fuel.{Arrives, FollowsByFuel}
use Rattle.layers.specs.Laws.{KeepsOfFollows}
use Rattle.layers.specs.Lemmas.{all_keep_of_follows}
use Rattle.core_form.specs.Tree.{Top}
use Rattle.core_form.specs.Facts.{function_table, functions_in, functions_count, function_given, prelude_functions as form_functions}
use Rattle.core_form.specs.State.{Symbol, Object, Fun, State}
use Rattle.core_form.specs.Force.{symbol_kinds_of}
use Rattle.core_form.specs.Run.{Outcome, Gives, Leaves, Fails, NotYet}
use Rattle.core_form.specs.Eval.{run_forms, call_to, start, evaluate, no_counts, constants_from, functions_from}
use Rattle.core_form.specs.Growth.{CountsGrow}
use Rattle.core_form.specs.AsLayer.{seen_of, status_of, program_of_forms, forms_together}
use Rattle.core_form.specs.Laws.{FormsAreByFuel}
use Rattle.core_form.proofs.Layered.{needs_grow, forms_are_by_fuel}
use Rattle.icr_graph.specs.declared.parts.Defined.{Defined}
use Rattle.icr_graph.specs.Plain.{FlowGraph}
use Rattle.graph_meaning.specs.Machine.{Activation, Waiting, Control, Going, Calling, Returning, Leaving, Stopped, Next, Over, Machine}
use Rattle.graph_meaning.specs.Reading.{lambdas_in, first_function, defined_by, prelude_functions}
use Rattle.graph_meaning.specs.Running.{step_by, step, form_activation}
use Rattle.graph_meaning.specs.AsLayer.{outcome_by, outcome_at, first_state, first_machine, graphs_together}
use Rattle.graph_meaning.specs.Laws.{GraphsAreLawful, GraphsAreNeverFull}
use Rattle.graph_meaning.proofs.Lawful.{seen_state, graphs_are_lawful, graphs_are_never_full}
use Rattle.form_graphs.specs.Functions.{IsGraphOf}
use Rattle.form_graphs.specs.Landing.{Reaches, RunsOut}
use Rattle.form_graphs.specs.Laws.{GraphsKeepForms}
use Rattle.form_graphs.proofs.Timely.{calls_timely}
use Rattle.form_graphs.proofs.All.{all_do}
use Rattle.form_graphs.proofs.CallDepths.{calls_do}
use Rattle.form_graphs.proofs.FunctionCode.{codes_do}
use Rattle.form_graphs.proofs.Forms.{RunComes, FormsDo, forms_do, functions_alike}

-- ---- the first states

same_first : (a b : SymId × ℕ) → a ∷ [] ≡ b ∷ [] → a ≡ b
same_first a b same = cc

one_defined : (a b : SymId) (k first : ℕ) (others : List (SymId × ℕ)) → ◌≡◌ {A = SymId × ℕ} (a, 0 + k) (b, 0) → ◌≡◌ {A = List (SymId × ℕ)} ((a, first + k) ∷ others) ((b, first) ∷ others)
one_defined a b k first others same =
    let zeroth : 0 + k ≡ 0 = ap (λ (e : SymId × ℕ). e.1) same in
    let begins : first + k ≡ first = omega (arith, zeroth) in
    rw (ap (λ (e : SymId × ℕ). e.0) same, begins) refl

-- the symbol to which a form of the prelude gives a function, wherever its functions begin and whatever follows
defined_alike : (d : Option Defined) (ss : List SymId) (first : ℕ) (others : List (SymId × ℕ)) → defined_by 0 d [] ≡ map (λ s. (s, 0)) ss → defined_by first d others ≡ map (λ s. (s, first)) ss ++ others
defined_alike None [] first others same = refl
defined_alike None (s ∷ ss) first others same = cc
defined_alike (Some d) [] first others same = cc
defined_alike (Some d) (s ∷ []) first others same =
    one_defined d.name s d.lambda first others (same_first (d.name, 0 + d.lambda) (s, 0) same)
defined_alike (Some d) (s ∷ s' ∷ ss) first others same = cc

module _ (symbols : List Symbol) where
  -- the functions of the first forms
  functions_before : (n : ℕ) (tops : List Top) (graphs : List FlowGraph) → Each (IsGraphOf symbols) tops graphs → functions_count (take n tops) ≡ first_function graphs n
  functions_before zero [] [] each = refl
  functions_before zero (t ∷ tops) (g ∷ graphs) each = refl
  functions_before (suc n) [] [] each = refl
  functions_before n [] (g ∷ graphs) each = absurd each
  functions_before n (t ∷ tops) [] each = absurd each
  functions_before (suc n) (t ∷ tops) (g ∷ graphs) (of_form, each) = omega (arith, functions_alike symbols t g of_form, functions_before n tops graphs each)

  -- and what the forms of the prelude define
  defined_same : (n : ℕ) (tops : List Top) (graphs : List FlowGraph) (first : ℕ) → Each (IsGraphOf symbols) tops graphs → prelude_functions first (take n graphs) ≡ form_functions first (take n tops)
  defined_same zero [] [] first each = refl
  defined_same zero (t ∷ tops) (g ∷ graphs) first each = refl
  defined_same (suc n) [] [] first each = refl
  defined_same n [] (g ∷ graphs) first each = absurd each
  defined_same n (t ∷ tops) [] first each = absurd each
  defined_same (suc n) (t ∷ tops) (g ∷ graphs) first (of_form, each) =
      defined_alike g.defines (function_given t.core) first (prelude_functions (first + lambdas_in g) (take n graphs)) (of_form.1 0).defines
      ∙ ap (λ (others : List (SymId × ℕ)). map (λ s. (s, first)) (function_given t.core) ++ others)
      (ap (λ (k : ℕ). prelude_functions (first + k) (take n graphs)) (functions_alike symbols t g of_form) ∙ defined_same n tops graphs (first + length (functions_in t.core)) each)

  -- both runs begin in the same state
  pub starts_same : (heap : List Object) (prelude : ℕ) (tops : List Top) (graphs : List FlowGraph) → Each (IsGraphOf symbols) tops graphs → (input : List ℕ) →
      first_state heap symbols (take prelude graphs) input ≡ start (program_of_forms heap symbols prelude tops) input
  starts_same heap prelude tops graphs each input =
      ap (λ (defined : List (SymId × ℕ)). record {
        taken = 0;
        store = heap ++ map (λ f. Fun f.1 []) defined;
        frame = [];
        next_entry = 1;
        values = constants_from 0 symbols;
        functions = functions_from (length heap) defined;
        input = input;
        output = [];
        counts = no_counts;
      }) (defined_same prelude tops graphs 0 each)

-- ---- what is seen

module _ (symbols : List Symbol) (graphs : List FlowGraph) where
  -- a machine of which the next step takes fuel still runs
  still_runs : (c : Control) (a : Activation) (ws : List Waiting) (s : State) → (step_by symbols graphs c a ws s).state.taken ≡ suc s.taken → outcome_by c ws s ≡ NotYet s
  still_runs Going a ws s takes = refl
  still_runs (Calling tail k closed vs entry) a ws s takes = refl
  still_runs (Returning vs) a ws s takes = refl
  still_runs (Leaving e) a [] s takes = absurd (omega (arith, takes))
  still_runs (Leaving e) a (w ∷ ws) s takes = refl
  still_runs (Stopped x p) a ws s takes = absurd (omega (arith, takes))
  still_runs (Next n v) a ws s takes = refl
  still_runs (Over v) a ws s takes = absurd (omega (arith, takes))

  -- the fuel that is seen is the machine's
  seen_taken : (m : Machine) → (seen_of symbols (outcome_at m)).fuel ≡ m.state.taken
  seen_taken m = ap (λ (s : State). s.taken) (seen_state m.control m.waiting m.state)

  abbrev ArrivesAt : Outcome Val → Machine → Type 0
  ArrivesAt o m = Arrives (seen_of symbols o) (seen_of symbols (outcome_at m)) (seen_of symbols (outcome_at (step symbols graphs m)))

  -- a run that has ended shows the same
  over_alike : (o : Outcome Val) (m : Machine) → seen_of symbols o ≡ seen_of symbols (outcome_at m) → status_of symbols o ≢ Runs → ArrivesAt o m
  over_alike o m same over = record {
    output = ap (λ (x : Seen). x.output) same;
    status = ap (λ (x : Seen). x.status) same;
    fuel = ap (λ (x : Seen). x.fuel) same;
    needs = subst (λ (x : Seen). NeedsNoLess (seen_of symbols o) x) same (needs_itself (seen_of symbols o));
    short = λ runs. absurd (over runs);
  }

  -- where the fuel ended
  out_alike : (s u : State) (next : Seen) → u.output ≡ s.output → u.taken ≡ s.taken → CountsGrow u.counts s.counts → s.taken < next.fuel → Arrives (seen_of symbols (NotYet s)) (seen_of symbols (NotYet u)) next
  out_alike s u next output taken counts more = record {
    output = ap (λ (cs : List ℕ). reverse cs) (sym output);
    status = refl;
    fuel = sym taken;
    needs = needs_grow symbols (NotYet u) (NotYet s) counts;
    short = λ runs. more;
  }

  runs_out : (s : State) (m : Machine) → RunsOut symbols graphs s m → ArrivesAt (NotYet s) m
  runs_out s m out =
      subst (λ (o : Outcome Val). Arrives (seen_of symbols (NotYet s)) (seen_of symbols o) (seen_of symbols (outcome_at (step symbols graphs m)))) (sym (still_runs m.control m.here m.waiting m.state out.next))
      (out_alike s m.state (seen_of symbols (outcome_at (step symbols graphs m))) out.output out.taken out.counts (omega (arith, seen_taken (step symbols graphs m), out.next, out.taken)))

  abbrev Arrived : Outcome Val → Machine → Type 0
  Arrived o m = (k : ℕ) × ArrivesAt o (after (step symbols graphs) k m)

  arrived : (o : Outcome Val) (m m' : Machine) → Reaches symbols graphs m m' → ArrivesAt o m' → Arrived o m
  arrived o m m' (k, way) alike = (k, subst (ArrivesAt o) (sym way) alike)

  -- a run that comes to what the evaluator gives shows there what that shows
  arrives : (o : Outcome Val) (m : Machine) → RunComes symbols graphs m o → Arrived o m
  arrives (Gives v s) m (here, way) =
      arrived (Gives v s) m (record { control = Over v; here = here; waiting = []; state = s }) way (over_alike (Gives v s) (record { control = Over v; here = here; waiting = []; state = s }) refl (λ runs. cc))
  arrives (Leaves e s) m (here, u, same, way) =
      arrived (Leaves e s) m (record { control = Leaving e; here = here; waiting = []; state = u }) way (over_alike (Leaves e s) (record { control = Leaving e; here = here; waiting = []; state = u }) (ap (λ (t : State). seen_of symbols (Leaves e t)) same) (λ runs. cc))
  arrives (Fails x p s) m (here, ws, way) =
      arrived (Fails x p s) m (record { control = Stopped x p; here = here; waiting = ws; state = s }) way (over_alike (Fails x p s) (record { control = Stopped x p; here = here; waiting = ws; state = s }) refl (λ runs. cc))
  arrives (NotYet s) m (m', way, out) = arrived (NotYet s) m m' way (runs_out s m' out)

-- ---- the layers

module _ (heap : List Object) (symbols : List Symbol) (prelude : ℕ) (tops : List Top) (graphs : List FlowGraph) (each : Each (IsGraphOf symbols) tops graphs) where
  -- what the evaluator gives of the forms, by the graphs' numbers and first state
  ran_same : (input : List ℕ) (n : ℕ) →
      run_forms (call_to (function_table (symbol_kinds_of symbols) 0 tops) n n) n symbols (first_function graphs prelude) (drop prelude tops) nil (first_state heap symbols (take prelude graphs) input)
      ≡ evaluate (program_of_forms heap symbols prelude tops) input n
  unfolding evaluate
  ran_same input n =
      ap (λ (s : State). run_forms (call_to (function_table (symbol_kinds_of symbols) 0 tops) n n) n symbols (first_function graphs prelude) (drop prelude tops) nil s) (starts_same symbols heap prelude tops graphs each input)
      ∙ (ap (λ (k : ℕ). run_forms (call_to (function_table (symbol_kinds_of symbols) 0 tops) n n) n symbols k (drop prelude tops) nil (start (program_of_forms heap symbols prelude tops) input)) (sym (functions_before symbols prelude tops graphs each))
      ∙ ap (λ (ts : List Top). run_forms (call_to (function_table (symbol_kinds_of symbols) 0 ts) n n) n symbols (functions_count (take prelude tops)) (drop prelude tops) nil (start (program_of_forms heap symbols prelude tops) input)) (sym (take-append-drop prelude tops)))

  -- with each amount of fuel the graphs come to where they show exactly what the forms show
  pub graphs_follow : ((limit : ℕ) → FormsDo symbols graphs tops limit) → FollowsByFuel (forms_together heap symbols prelude tops) (graphs_together heap symbols prelude graphs)
  graphs_follow all_do i n =
      arrives symbols graphs (evaluate (program_of_forms heap symbols prelude tops) i.letters n) (first_machine heap symbols prelude graphs i.letters)
      (subst (RunComes symbols graphs (first_machine heap symbols prelude graphs i.letters)) (ran_same i.letters n)
      (forms_do symbols graphs tops n (all_do n) prelude each nil (form_activation symbols prelude 0 0 0) (first_state heap symbols (take prelude graphs) i.letters) refl))

-- Every form of any forms does in its graph what it does, with any amount of fuel.
abbrev pub GraphsDo : Type 0
GraphsDo = (symbols : List Symbol) (tops : List Top) (graphs : List FlowGraph) → Each (IsGraphOf symbols) tops graphs → (limit : ℕ) → FormsDo symbols graphs tops limit

-- where this is so, graphs keep their forms
pub graphs_keep : KeepsOfFollows → FormsAreByFuel → GraphsAreLawful → GraphsAreNeverFull → GraphsDo → GraphsKeepForms
graphs_keep follows by_fuel lawful full do_all heap symbols =
    all_keep_of_follows (forms_together heap symbols) (graphs_together heap symbols) (IsGraphOf symbols) follows (by_fuel heap symbols) (lawful heap symbols) (full heap symbols)
    (λ prelude tops graphs each. graphs_follow heap symbols prelude tops graphs each (do_all symbols tops graphs each))

-- and it is so
pub graphs_do : GraphsDo
graphs_do symbols tops graphs each limit number g facts rank there begins e =
    all_do symbols graphs number g facts rank there (call_to (function_table (symbol_kinds_of symbols) 0 tops) limit limit) limit (calls_do symbols graphs limit (codes_do symbols graphs limit) tops each limit) begins
    (calls_timely (function_table (symbol_kinds_of symbols) 0 tops) limit limit) e

-- the law
pub graphs_keep_forms : GraphsKeepForms
graphs_keep_forms = graphs_keep keeps_of_follows forms_are_by_fuel graphs_are_lawful graphs_are_never_full graphs_do
