-- The forms of a program one after another do in their graphs what they do.
--
-- forms_do: where every form does what it does wherever it stands (FormsDo), a run of graphs that begins with the nth comes to
-- what the evaluator gives of the forms from the nth on: the value of the last, the exit that nothing stops, the same error, or
-- where the fuel ends (RunComes).
use Rattle.std.proofs.Common.{◌≡◌, ℕ, zero, suc, ◌+◌, ◌*◌, refl, sym, ap, subst, ◌∙◌, max, arith, true, false, List, [], ◌∷◌, length, Some, None}
use Rattle.std.specs.Prelude.{slice_get, drop}
use Rattle.std.proofs.lemmas.Option.{same_Some}
use Rattle.lisp_base.specs.declared.values.Val.{Val}
use Rattle.lisp_base.specs.declared.values.Place.{Place}
use Rattle.layers.specs.Among.{Each}
use Rattle.core_form.specs.Tree.{Core, Top}
use Rattle.core_form.specs.Facts.{Facts, facts_of, function_table, functions_in}
use Rattle.core_form.specs.State.{Symbol, State, all_big, first_of_values}
use Rattle.core_form.specs.Effect.{◌>>=◌, pure, change, counting, allot, box_all, begin, stack_at}
use Rattle.core_form.specs.Force.{Vals, symbol_kinds_of}
use Rattle.core_form.specs.Step.{frame_words}
use Rattle.core_form.specs.Run.{Outcome, Gives, Leaves, Fails, NotYet, Run, and_then, perform, first, in_frame, back_in, ◌>>=◌ as ◌>>=ʳ◌, pure as pure_run}
use Rattle.core_form.specs.Eval.{Call, eval, at_top, run_form, run_forms, call_to}
use Rattle.icr_graph.specs.declared.nodes.NodeKind.TheVariants as kind
use Rattle.icr_graph.specs.Plain.{FlowGraph}
use Rattle.graph_meaning.specs.Machine.{Delivered, Activation, taking, Waiting, Leaving, Stopped, Next, Over, Machine, going}
use Rattle.graph_meaning.specs.Reading.{lambdas_in, first_function}
use Rattle.graph_meaning.specs.Effects.{test_operands, test_all, box_before}
use Rattle.graph_meaning.specs.Running.{step, form_activation, force_at_top}
use Rattle.form_graphs.specs.Spots.{Spot, first_of, none, Here, Unasserted}
use Rattle.form_graphs.specs.Functions.{FormStands, StandsWhole, IsGraphOf}
use Rattle.form_graphs.specs.Landing.{at_spot, having, Reaches, RunsOut, Comes}
use Rattle.form_graphs.proofs.Coming.{reaches_then, passes_none, spent_none}
use Rattle.form_graphs.proofs.Leaves.{runs_there}
use Rattle.form_graphs.proofs.Operands.{AlwaysDoes}
use Rattle.form_graphs.proofs.Tables.{same_number}

-- ---- what forms come to

module _ (symbols : List Symbol) (graphs : List FlowGraph) where
  -- What a run from machine m, where the form of graph n begins, comes to where the form gives this: the next form comes; the exit
  -- has nothing more to pass; the same error; or the fuel ends.
  abbrev pub FormComes : (graph : ℕ) → Machine → Outcome Val → Type 0
  FormComes n m (Gives v s) =
      (here : Activation) × (s.frame ≡ []) × Reaches symbols graphs m (record { control = Next (suc n) v; here = here; waiting = []; state = s })
  FormComes n m (Leaves e s) =
      (here : Activation) × (u : State) × (s ≡ record u { frame = [] }) × Reaches symbols graphs m (record { control = Leaving e; here = here; waiting = []; state = u })
  FormComes n m (Fails x p s) =
      (here : Activation) × (waiting : List Waiting) × Reaches symbols graphs m (record { control = Stopped x p; here = here; waiting = waiting; state = s })
  FormComes n m (NotYet s) = (m' : Machine) × Reaches symbols graphs m m' × RunsOut symbols graphs s m'

  -- What a run from machine m comes to where all forms that are left give this.
  abbrev pub RunComes : Machine → Outcome Val → Type 0
  RunComes m (Gives v s) = (here : Activation) × Reaches symbols graphs m (record { control = Over v; here = here; waiting = []; state = s })
  RunComes m (Leaves e s) =
      (here : Activation) × (u : State) × (s ≡ record u { frame = [] }) × Reaches symbols graphs m (record { control = Leaving e; here = here; waiting = []; state = u })
  RunComes m (Fails x p s) =
      (here : Activation) × (waiting : List Waiting) × Reaches symbols graphs m (record { control = Stopped x p; here = here; waiting = waiting; state = s })
  RunComes m (NotYet s) = (m' : Machine) × Reaches symbols graphs m m' × RunsOut symbols graphs s m'

  -- a run that first comes to another machine
  pub run_after : (m m' : Machine) (o : Outcome Val) → Reaches symbols graphs m m' → RunComes m' o → RunComes m o
  run_after m m' (Gives v s) way (here, rest) = (here, reaches_then symbols graphs way rest)
  run_after m m' (Leaves e s) way (here, u, same, rest) = (here, u, same, reaches_then symbols graphs way rest)
  run_after m m' (Fails x p s) way (here, waiting, rest) = (here, waiting, reaches_then symbols graphs way rest)
  run_after m m' (NotYet s) way (m'', rest, out) = (m'', reaches_then symbols graphs way rest, out)

  pub form_after : (n : ℕ) (m m' : Machine) (o : Outcome Val) → Reaches symbols graphs m m' → FormComes n m' o → FormComes n m o
  form_after n m m' (Gives v s) way (here, empty, rest) = (here, empty, reaches_then symbols graphs way rest)
  form_after n m m' (Leaves e s) way (here, u, same, rest) = (here, u, same, reaches_then symbols graphs way rest)
  form_after n m m' (Fails x p s) way (here, waiting, rest) = (here, waiting, reaches_then symbols graphs way rest)
  form_after n m m' (NotYet s) way (m'', rest, out) = (m'', reaches_then symbols graphs way rest, out)

  -- a form and then the others
  pub form_then : (n : ℕ) (m : Machine) (o : Outcome Val) (others : Val → Run Val) → FormComes n m o →
      ((v : Val) (here : Activation) (s : State) → s.frame ≡ [] → RunComes (record { control = Next (suc n) v; here = here; waiting = []; state = s }) (others v s)) →
      RunComes m (and_then o others)
  form_then n m (Gives v s) others (here, empty, way) follows =
      run_after m (record { control = Next (suc n) v; here = here; waiting = []; state = s }) (others v s) way (follows v here s empty)
  form_then n m (Leaves e s) others came follows = came
  form_then n m (Fails x p s) others came follows = came
  form_then n m (NotYet s) others came follows = came

-- ---- lists

first_there : {A : Type 0} (n : ℕ) (xs : List A) (x : A) (ys : List A) → drop n xs ≡ x ∷ ys → slice_get xs n ≡ Some x
first_there zero [] x ys same = cc
first_there zero (y ∷ xs) x ys same = cc
first_there (suc n) [] x ys same = cc
first_there (suc n) (y ∷ xs) x ys same = first_there n xs x ys same

others_there : {A : Type 0} (n : ℕ) (xs : List A) (x : A) (ys : List A) → drop n xs ≡ x ∷ ys → drop (suc n) xs ≡ ys
others_there zero [] x ys same = cc
others_there zero (y ∷ xs) x ys same = cc
others_there (suc n) [] x ys same = cc
others_there (suc n) (y ∷ xs) x ys same = others_there n xs x ys same

gone_there : {A : Type 0} (n : ℕ) (xs : List A) → drop n xs ≡ [] → slice_get xs n ≡ None
gone_there zero [] same = refl
gone_there zero (y ∷ xs) same = cc
gone_there (suc n) [] same = refl
gone_there (suc n) (y ∷ xs) same = gone_there n xs same

module _ {C D : Type 0} (R : C → D → Type 0) where
  pub each_dropped : (n : ℕ) (cs : List C) (ds : List D) → Each R cs ds → Each R (drop n cs) (drop n ds)
  each_dropped zero cs ds each = each
  each_dropped (suc n) [] [] each = tt
  each_dropped (suc n) [] (d ∷ ds) each = absurd each
  each_dropped (suc n) (c ∷ cs) [] each = absurd each
  each_dropped (suc n) (c ∷ cs) (d ∷ ds) each = each_dropped n cs ds each.1

-- ---- the functions of forms and of their graphs

-- a graph has as many functions as its form
pub functions_alike : (symbols : List Symbol) (t : Top) (g : FlowGraph) → IsGraphOf symbols t g → lambdas_in g ≡ length (functions_in t.core)
functions_alike symbols t g of_form =
    same_number g (facts_of (symbol_kinds_of symbols) 0 t) of_form.0 g.lambdas (functions_in t.core) (of_form.1 0).functions

none_before : (graphs : List FlowGraph) → first_function graphs 0 ≡ 0
none_before [] = refl
none_before (g ∷ graphs) = refl

first_function_next : (graphs : List FlowGraph) (n : ℕ) (g : FlowGraph) → slice_get graphs n ≡ Some g → first_function graphs (suc n) ≡ first_function graphs n + lambdas_in g
first_function_next [] n g there = cc
first_function_next (h ∷ graphs) zero g there =
    let same = ap (λ (x : FlowGraph). lambdas_in x) (same_Some h g there) in
    omega (arith, same, none_before graphs)
first_function_next (h ∷ graphs) (suc n) g there = omega (arith, first_function_next graphs n g there)

next_function : (graphs : List FlowGraph) (n : ℕ) (g : FlowGraph) (t : Top) (start : ℕ) → slice_get graphs n ≡ Some g → lambdas_in g ≡ length (functions_in t.core) → start ≡ first_function graphs n →
    start + length (functions_in t.core) ≡ first_function graphs (suc n)
next_function graphs n g t start there same begins = omega (arith, same, begins, first_function_next graphs n g there)

-- ---- one form

-- the form begins: the state in which its own code runs
abbrev begun : (nodes words : ℕ) → State → State
begun nodes words s =
    record s {
      frame = [];
      counts = record s.counts { begun = s.counts.begun + nodes; stack_words = max s.counts.stack_words words };
    }

-- the state when these values are boxed and the form's variables are gone
abbrev boxed : Vals → State → State
boxed vs s =
    record s {
      frame = [];
      counts = record s.counts { cost = s.counts.cost + 2 * all_big vs; heap_words = s.counts.heap_words + 2 * all_big vs };
    }

-- the values of a form are boxed, its variables are gone for these, and the first value counts
abbrev ends_in : List (ℕ × Val) → Outcome Vals → Outcome Val
ends_in old o = and_then (back_in old (and_then o (λ vs. perform (box_all vs) >>=ʳ (λ u. pure_run vs)))) (λ vs. pure_run (first_of_values vs))

module _ (symbols : List Symbol) (graphs : List FlowGraph) (number : ℕ) (g : FlowGraph) (facts : Facts) (rank : ℕ → ℕ) (there : slice_get graphs number ≡ Some g) where
  -- at the end of the form's own code: the node that returns, and then the return
  returns_there : (cont : ℕ) (end : Spot) (pl : Place) (a : Activation) (d : Delivered) (vs : Vals) (s : State) → a.graph ≡ number → Unasserted g cont → Here g end (kind.Return cont) None pl 0 none → d cont ≡ Some vs →
      step symbols graphs (step symbols graphs (going (having d (at_spot end a)) [] s)) ≡ record { control = Next (suc number) (first_of_values vs); here = taking (cont ∷ []) (having d (at_spot end a)); waiting = []; state = boxed vs s }
  unfolding box_before test_operands test_all ◌>>=◌ pure box_all allot counting change
  returns_there cont end pl a d vs s at free (b, here) holds =
      ap (step symbols graphs) (runs_there symbols graphs number g facts rank there end _ (having d a) [] s at here)
      ∙ rw (free, holds, at) (ap (λ (u : State). record { control = Next (suc number) (first_of_values vs); here = record (taking (cont ∷ []) (having d (at_spot end a))) { graph = number }; waiting = []; state = boxed vs u }) (spent_none s))

  -- from the end of the form's own code
  form_returns : (cont : ℕ) (end : Spot) (pl : Place) (a : Activation) (m : Machine) (o : Outcome Vals) → a.graph ≡ number → Unasserted g cont → Here g end (kind.Return cont) None pl 0 none →
      Comes symbols graphs rank m 0 (Some cont) end none a [] o → FormComes symbols graphs number m (ends_in [] o)
  unfolding perform pure_run ◌>>=ʳ◌ box_all allot counting change
  form_returns cont end pl a m (Gives vs s) at free returns (d, kept, holds, way) = (
    taking (cont ∷ []) (having d (at_spot end a)),
    refl,
    reaches_then symbols graphs (subst (λ (t : State). Reaches symbols graphs m (going (having d (at_spot end a)) [] t)) (passes_none vs s) way) (2, returns_there cont end pl a d vs s at free returns holds),
  )
  form_returns cont end pl a m (Leaves e s) at free returns (d, p, f, kept, way) = (_, s, refl, way)
  form_returns cont end pl a m (Fails x p s) at free returns came = came
  form_returns cont end pl a m (NotYet s) at free returns came = came

  abbrev code_activation : (block : ℕ) → State → Activation
  code_activation block s = form_activation symbols number facts.nodes block s.taken

  form_begins : (t : Top) (stands : FormStands g facts rank t) (v : Val) (a : Activation) (s : State) → g.size ≡ t.nodes → facts.nodes ≡ t.nodes →
      step symbols graphs (record { control = Next number v; here = a; waiting = []; state = s }) ≡ going (code_activation stands.block s) [] (begun t.nodes (frame_words facts.nodes 0) s)
  unfolding begin stack_at counting change ◌>>=◌
  form_begins t stands v a s size nodes = rw (there, stands.there, stands.begins, size, nodes) refl

  -- A form does in its graph what it does, where its tree does.
  code_comes : (call : Call) (limit : ℕ) (t : Top) (stands : FormStands g facts rank t) (v : Val) (a : Activation) (s : State) →
      g.size ≡ t.nodes → facts.nodes ≡ t.nodes → AlwaysDoes symbols graphs number g facts rank there call limit t.core →
      FormComes symbols graphs number (record { control = Next number v; here = a; waiting = []; state = s }) (ends_in [] (eval call limit (at_top symbols facts) t.core (begun t.nodes (frame_words facts.nodes 0) s)))
  code_comes call limit t stands v a s size nodes does =
      form_after symbols graphs number (record { control = Next number v; here = a; waiting = []; state = s }) (going (code_activation stands.block s) [] (begun t.nodes (frame_words facts.nodes 0) s))
      (ends_in [] (eval call limit (at_top symbols facts) t.core (begun t.nodes (frame_words facts.nodes 0) s)))
      (1, form_begins t stands v a s size nodes)
      (form_returns stands.cont stands.end stands.place (code_activation stands.block s) (going (code_activation stands.block s) [] (begun t.nodes (frame_words facts.nodes 0) s))
      (eval call limit (at_top symbols facts) t.core (begun t.nodes (frame_words facts.nodes 0) s)) refl stands.free stands.returns
      (subst (λ (u : State). Comes symbols graphs rank (going (code_activation stands.block s) [] (begun t.nodes (frame_words facts.nodes 0) s)) 0 (Some stands.cont) stands.end none (code_activation stands.block s) [] (eval call limit (at_top symbols facts) t.core u))
      (spent_none (begun t.nodes (frame_words facts.nodes 0) s))
      (does true false 0 none 0 (Some stands.cont) (first_of stands.block) stands.end stands.stands (force_at_top symbols facts.nodes) (code_activation stands.block s) [] (begun t.nodes (frame_words facts.nodes 0) s) refl refl)))

module _ (symbols : List Symbol) (graphs : List FlowGraph) where
  nodes_of_facts : (start : ℕ) (t : Top) → (facts_of (symbol_kinds_of symbols) start t).nodes ≡ t.nodes
  unfolding facts_of
  nodes_of_facts start t = refl

  pub form_comes : (number : ℕ) (g : FlowGraph) (rank : ℕ → ℕ) (there : slice_get graphs number ≡ Some g) (call : Call) (limit start : ℕ) (t : Top) (v : Val) (a : Activation) (s : State) →
      StandsWhole g (facts_of (symbol_kinds_of symbols) start t) rank t → s.frame ≡ [] → AlwaysDoes symbols graphs number g (facts_of (symbol_kinds_of symbols) start t) rank there call limit t.core →
      FormComes symbols graphs number (record { control = Next number v; here = a; waiting = []; state = s }) (run_form call limit symbols start t s)
  unfolding run_form first in_frame begin stack_at counting change perform pure_run ◌>>=ʳ◌
  form_comes number g rank there call limit start t v a s stands empty does =
      subst (λ (old : List (ℕ × Val)). FormComes symbols graphs number (record { control = Next number v; here = a; waiting = []; state = s }) (ends_in old (eval call limit (at_top symbols (facts_of (symbol_kinds_of symbols) start t)) t.core (begun t.nodes (frame_words (facts_of (symbol_kinds_of symbols) start t).nodes 0) s)))) (sym empty)
      (code_comes symbols graphs number g (facts_of (symbol_kinds_of symbols) start t) rank there call limit t stands.form v a s stands.size (nodes_of_facts start t) does)

  -- ---- all forms

  -- every form in a graph does what it does, with calls to the depth of the limit
  abbrev pub FormsDo : List Top → ℕ → Type 0
  FormsDo tops limit =
      (number : ℕ) (g : FlowGraph) (facts : Facts) (rank : ℕ → ℕ) (there : slice_get graphs number ≡ Some g) → facts.start ≡ first_function graphs number → (e : Core) →
      AlwaysDoes symbols graphs number g facts rank there (call_to (function_table (symbol_kinds_of symbols) 0 tops) limit limit) limit e

  start_of_facts : (start : ℕ) (t : Top) → (facts_of (symbol_kinds_of symbols) start t).start ≡ start
  unfolding facts_of
  start_of_facts start t = refl

  module _ (tops : List Top) (limit : ℕ) (all_do : FormsDo tops limit) where
    abbrev calls : Call
    calls = call_to (function_table (symbol_kinds_of symbols) 0 tops) limit limit

    -- the forms of the graphs from the nth on
    forms_from : (ts : List Top) (gs : List FlowGraph) (n start : ℕ) → Each (IsGraphOf symbols) ts gs → drop n graphs ≡ gs → start ≡ first_function graphs n → (v : Val) (a : Activation) (s : State) → s.frame ≡ [] →
        RunComes symbols graphs (record { control = Next n v; here = a; waiting = []; state = s }) (run_forms calls limit symbols start ts v s)
    unfolding run_forms pure_run ◌>>=ʳ◌
    forms_from [] [] n start each rest same v a s empty = (a, (1, rw (gone_there n graphs rest) refl))
    forms_from [] (g ∷ gs) n start each rest same v a s empty = absurd each
    forms_from (t ∷ ts) [] n start each rest same v a s empty = absurd each
    forms_from (t ∷ ts) (g ∷ gs) n start (of_form, each) rest same v a s empty =
        form_then symbols graphs n (record { control = Next n v; here = a; waiting = []; state = s }) (run_form calls limit symbols start t s) (run_forms calls limit symbols (start + length (functions_in t.core)) ts)
        (form_comes n g of_form.0 (first_there n graphs g gs rest) calls limit start t v a s (of_form.1 start) empty
        (all_do n g (facts_of (symbol_kinds_of symbols) start t) of_form.0 (first_there n graphs g gs rest) (start_of_facts start t ∙ same) t.core))
        (λ w here u none_held. forms_from ts gs (suc n) (start + length (functions_in t.core)) each (others_there n graphs g gs rest)
        (next_function graphs n g t start (first_there n graphs g gs rest) (functions_alike symbols t g of_form) same) w here u none_held)

    -- the forms from the nth on, each in its graph
    pub forms_do : (n : ℕ) → Each (IsGraphOf symbols) tops graphs → (v : Val) (a : Activation) (s : State) → s.frame ≡ [] →
        RunComes symbols graphs (record { control = Next n v; here = a; waiting = []; state = s }) (run_forms calls limit symbols (first_function graphs n) (drop n tops) v s)
    forms_do n each v a s empty = forms_from (drop n tops) (drop n graphs) n (first_function graphs n) (each_dropped (IsGraphOf symbols) n tops graphs each) refl refl v a s empty
