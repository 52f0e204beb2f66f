-- The functions of a program in its table and in its graphs: under each number both have the same one, or both have none.
use Rattle.std.proofs.Common.{◌≡◌, ℕ, zero, suc, ◌+◌, ◌-◌, ◌<◌, ◌≤◌, ◌⊎◌, inl, inr, refl, sym, ap, subst, ◌∙◌, arith, Bool, true, false, if◌then◌else◌, List, [], ◌∷◌, ◌++◌, length, map, Option, Some, None}
use Rattle.std.proofs.lemmas.Bool.{ltb-true, ltb-false}
use Rattle.std.proofs.lemmas.Option.{same_Some}
use Rattle.std.specs.Prelude.{slice_get, nat_lt}
use Rattle.core_form.specs.Tree.{Top}
use Rattle.core_form.specs.Facts.{FunctionText, Facts, Code, facts_of, functions_in, function_table}
use Rattle.core_form.specs.State.{Symbol}
use Rattle.core_form.specs.Force.{symbol_kinds_of}
use Rattle.layers.specs.Among.{Each}
use Rattle.icr_graph.specs.Plain.{FlowGraph}
use Rattle.graph_meaning.specs.Reading.{Found, found, lambdas_in, function_of_lambda, function_at, first_function}
use Rattle.form_graphs.specs.Functions.{FunctionStands, FunctionsStand, StandsWhole, IsGraphOf}

-- ---- a form and its graph

-- the functions of a form with its facts, before others
abbrev codes_before : Facts → List FunctionText → List Code → List Code
codes_before facts fs others = map (λ f. record { facts = facts; text = f }) fs ++ others

module _ (g : FlowGraph) (facts : Facts) (rank : ℕ → ℕ) where
  -- a graph has as many functions as its form
  pub same_number : (ls : List (Option ℕ)) (fs : List FunctionText) → FunctionsStand g facts rank ls fs → length ls ≡ length fs
  same_number [] [] stand = refl
  same_number [] (t ∷ ts) stand = absurd stand
  same_number (l ∷ ls) [] stand = absurd stand
  same_number (None ∷ ls) (t ∷ ts) stand = absurd stand
  same_number (Some f ∷ ls) (t ∷ ts) (first, stand) = ap suc (same_number ls ts stand)

  -- a function of a form is that of a lambda of the graph
  record InForm (ls : List (Option ℕ)) (codes : List Code) (k : ℕ) : Type 0 where
    number : ℕ
    text : FunctionText
    named : slice_get ls k ≡ Some (Some number)
    listed : slice_get codes k ≡ Some (record { facts = facts; text = text })
    stands : FunctionStands g facts rank number text

  in_form : (ls : List (Option ℕ)) (fs : List FunctionText) (others : List Code) (k : ℕ) → FunctionsStand g facts rank ls fs → k < length ls → InForm ls (codes_before facts fs others) k
  in_form [] fs others k stand less = absurd (omega (arith, less))
  in_form (l ∷ ls) [] others k stand less = absurd stand
  in_form (None ∷ ls) (t ∷ ts) others k stand less = absurd stand
  in_form (Some f ∷ ls) (t ∷ ts) others zero (first, stand) less = record { number = f; text = t; named = refl; listed = refl; stands = first }
  in_form (Some f ∷ ls) (t ∷ ts) others (suc k) (first, stand) less =
      let more = in_form ls ts others k stand (omega (arith, less)) in
      record { number = more.number; text = more.text; named = more.named; listed = more.listed; stands = more.stands }

-- behind the functions of a form come the others
behind : (facts : Facts) (fs : List FunctionText) (others : List Code) (k : ℕ) → length fs ≤ k → slice_get (codes_before facts fs others) k ≡ slice_get others (k - length fs)
behind facts [] others k le = ap (λ (n : ℕ). slice_get others n) {x = k} (omega arith)
behind facts (f ∷ fs) others zero le = absurd (omega (arith, le))
behind facts (f ∷ fs) others (suc k) le = behind facts fs others k (omega (arith, le)) ∙ ap (λ (n : ℕ). slice_get others n) {x = k - length fs} (omega arith)

-- ---- a program

module _ (symbols : List Symbol) where
  -- A function that is there in both, where the first function has the one number and the first graph the other: its form stands
  -- where its graph does, its facts are those of its form, and its code stands in its graph.
  pub record IsThere (start n : ℕ) (tops : List Top) (graphs : List FlowGraph) (c : Code) (f : Found) : Type 0 where
    pub place : ℕ
    pub at : f.graph ≡ n + place
    pub top : Top
    pub form : slice_get tops place ≡ Some top
    pub graph : slice_get graphs place ≡ Some f.text
    pub facts : c.facts ≡ facts_of (symbol_kinds_of symbols) (start + first_function graphs place) top
    pub nodes : c.facts.nodes ≡ f.text.size
    pub rank : ℕ → ℕ
    pub number : ℕ
    pub stands : FunctionStands f.text c.facts rank number c.text
    pub function : stands.is.function ≡ f.function

  -- both have a function, the same, or both have none
  abbrev pub Alike : (start n : ℕ) → List Top → List FlowGraph → Option Code → Option Found → Type 0
  Alike start n tops graphs None None = Unit {0}
  Alike start n tops graphs None (Some f) = ⊥
  Alike start n tops graphs (Some c) None = ⊥
  Alike start n tops graphs (Some c) (Some f) = IsThere start n tops graphs c f

  -- behind one form more
  later : (start n : ℕ) (t : Top) (ts : List Top) (g : FlowGraph) (gs : List FlowGraph) (o : Option Code) (p : Option Found) → lambdas_in g ≡ length (functions_in t.core) →
      Alike (start + length (functions_in t.core)) (suc n) ts gs o p → Alike start n (t ∷ ts) (g ∷ gs) o p
  later start n t ts g gs None None same alike = tt
  later start n t ts g gs None (Some f) same alike = alike
  later start n t ts g gs (Some c) None same alike = alike
  later start n t ts g gs (Some c) (Some f) same there = record {
    place = suc there.place;
    at = (let e = there.at in omega (arith, e));
    top = there.top;
    form = there.form;
    graph = there.graph;
    facts = there.facts ∙ ap (λ (x : ℕ). facts_of (symbol_kinds_of symbols) x there.top) {x = start + length (functions_in t.core) + first_function gs there.place} (omega (arith, same));
    nodes = there.nodes;
    rank = there.rank;
    number = there.number;
    stands = there.stands;
    function = there.function;
  }

  module _ (start n : ℕ) (t : Top) (ts : List Top) (g : FlowGraph) (gs : List FlowGraph) (rank : ℕ → ℕ) (whole : StandsWhole g (facts_of (symbol_kinds_of symbols) start t) rank t) (others : List Code) where
    -- one of the functions of the first form
    first_alike : (k : ℕ) → k < lambdas_in g → Alike start n (t ∷ ts) (g ∷ gs) (slice_get (codes_before (facts_of (symbol_kinds_of symbols) start t) (functions_in t.core) others) k) (found n g (function_of_lambda g k))
    unfolding facts_of
    first_alike k less =
        let more = in_form g (facts_of (symbol_kinds_of symbols) start t) rank g.lambdas (functions_in t.core) others k whole.functions less in
        rw (more.listed, more.named, more.stands.is.there) (record {
          place = 0;
          at = omega arith;
          top = t;
          form = refl;
          graph = refl;
          facts = ap (λ (x : ℕ). facts_of (symbol_kinds_of symbols) x t) {x = start} (omega arith);
          nodes = sym whole.size;
          rank = rank;
          number = more.number;
          stands = more.stands;
          function = refl;
        })

    alike_by : (k : ℕ) (b : Bool) → nat_lt k (lambdas_in g) ≡ b → Alike (start + length (functions_in t.core)) (suc n) ts gs (slice_get others (k - lambdas_in g)) (function_at (suc n) gs (k - lambdas_in g)) →
        Alike start n (t ∷ ts) (g ∷ gs) (slice_get (codes_before (facts_of (symbol_kinds_of symbols) start t) (functions_in t.core) others) k) (if b then found n g (function_of_lambda g k) else function_at (suc n) gs (k - lambdas_in g))
    alike_by k true less rest = first_alike k (ltb-true k (lambdas_in g) less)
    alike_by k false less rest =
        let same = same_number g (facts_of (symbol_kinds_of symbols) start t) rank g.lambdas (functions_in t.core) whole.functions in
        let past = ltb-false k (lambdas_in g) less in
        rw (behind (facts_of (symbol_kinds_of symbols) start t) (functions_in t.core) others k (omega (arith, same, past)))
        (later start n t ts g gs (slice_get others (k - length (functions_in t.core))) (function_at (suc n) gs (k - lambdas_in g)) same
        (subst (λ (x : ℕ). Alike (start + length (functions_in t.core)) (suc n) ts gs (slice_get others (k - x)) (function_at (suc n) gs (k - lambdas_in g))) same rest))

  -- forms and their graphs have the same functions, number by number
  pub tables_alike : (start n : ℕ) (tops : List Top) (graphs : List FlowGraph) → Each (IsGraphOf symbols) tops graphs → (k : ℕ) →
      Alike start n tops graphs (slice_get (function_table (symbol_kinds_of symbols) start tops) k) (function_at n graphs k)
  unfolding function_table
  tables_alike start n [] [] each k = tt
  tables_alike start n [] (g ∷ gs) each k = absurd each
  tables_alike start n (t ∷ ts) [] each k = absurd each
  tables_alike start n (t ∷ ts) (g ∷ gs) ((rank, stands), each) k =
      alike_by start n t ts g gs rank (stands start) (function_table (symbol_kinds_of symbols) (start + length (functions_in t.core)) ts) k (nat_lt k (lambdas_in g)) refl
      (tables_alike (start + length (functions_in t.core)) (suc n) ts gs each (k - lambdas_in g))

  -- ---- from the first form on

  -- a function of a program under one number: in the table, and in a graph that is that of its form
  pub record IsInBoth (tops : List Top) (graphs : List FlowGraph) (c : Code) (f : Found) : Type 0 where
    pub top : Top
    pub form : slice_get tops f.graph ≡ Some top
    pub graph : slice_get graphs f.graph ≡ Some f.text
    pub facts : c.facts ≡ facts_of (symbol_kinds_of symbols) (first_function graphs f.graph) top
    pub start : c.facts.start ≡ first_function graphs f.graph
    pub nodes : c.facts.nodes ≡ f.text.size
    pub rank : ℕ → ℕ
    pub number : ℕ
    pub stands : FunctionStands f.text c.facts rank number c.text
    pub function : stands.is.function ≡ f.function

  start_of : (start : ℕ) (t : Top) → (facts_of (symbol_kinds_of symbols) start t).start ≡ start
  unfolding facts_of
  start_of start t = refl

  in_both : (tops : List Top) (graphs : List FlowGraph) (c : Code) (f : Found) → IsThere 0 0 tops graphs c f → IsInBoth tops graphs c f
  in_both tops graphs c f there =
      let same : there.place ≡ f.graph = (let e = there.at in omega (arith, e)) in
      let facts : c.facts ≡ facts_of (symbol_kinds_of symbols) (first_function graphs f.graph) there.top =
      there.facts ∙ (ap (λ (x : ℕ). facts_of (symbol_kinds_of symbols) x there.top) {x = 0 + first_function graphs there.place} (omega arith) ∙ ap (λ (x : ℕ). facts_of (symbol_kinds_of symbols) (first_function graphs x) there.top) same) in
      record {
        top = there.top;
        form = subst (λ (x : ℕ). slice_get tops x ≡ Some there.top) same there.form;
        graph = subst (λ (x : ℕ). slice_get graphs x ≡ Some f.text) same there.graph;
        facts = facts;
        start = ap (λ (x : Facts). x.start) facts ∙ start_of (first_function graphs f.graph) there.top;
        nodes = there.nodes;
        rank = there.rank;
        number = there.number;
        stands = there.stands;
        function = there.function;
      }

  -- in the table and the graphs of a program nothing has this number, or the same function has it
  abbrev pub NoneOrBoth : List Top → List FlowGraph → Option Code → Option Found → Type 0
  NoneOrBoth tops graphs o p =
      ((o ≡ None) × (p ≡ None)) ⊎ ((c : Code) × (f : Found) × (o ≡ Some c) × (p ≡ Some f) × IsInBoth tops graphs c f)

  none_or_both : (tops : List Top) (graphs : List FlowGraph) (o : Option Code) (p : Option Found) → Alike 0 0 tops graphs o p → NoneOrBoth tops graphs o p
  none_or_both tops graphs None None alike = inl (refl, refl)
  none_or_both tops graphs None (Some f) alike = absurd alike
  none_or_both tops graphs (Some c) None alike = absurd alike
  none_or_both tops graphs (Some c) (Some f) there = inr (c, f, refl, refl, in_both tops graphs c f there)

  pub function_in_both : (tops : List Top) (graphs : List FlowGraph) → Each (IsGraphOf symbols) tops graphs → (k : ℕ) →
      NoneOrBoth tops graphs (slice_get (function_table (symbol_kinds_of symbols) 0 tops) k) (function_at 0 graphs k)
  function_in_both tops graphs each k = none_or_both tops graphs _ _ (tables_alike 0 0 tops graphs each k)

  -- ---- forms by their places

  -- each graph is that of the form at its place
  pub form_of_graph : (tops : List Top) (graphs : List FlowGraph) (n : ℕ) (g : FlowGraph) → Each (IsGraphOf symbols) tops graphs → slice_get graphs n ≡ Some g →
      (t : Top) × (slice_get tops n ≡ Some t) × IsGraphOf symbols t g
  form_of_graph [] [] n g each is = absurd (cc)
  form_of_graph [] (h ∷ gs) n g each is = absurd each
  form_of_graph (t ∷ ts) [] n g each is = absurd each
  form_of_graph (t ∷ ts) (h ∷ gs) zero g (stands, each) is = (t, refl, subst (IsGraphOf symbols t) (same_Some h g is) stands)
  form_of_graph (t ∷ ts) (h ∷ gs) (suc n) g (stands, each) is = form_of_graph ts gs n g each is

  -- and each form has a graph at its place
  pub graph_of_form : (tops : List Top) (graphs : List FlowGraph) (n : ℕ) (t : Top) → Each (IsGraphOf symbols) tops graphs → slice_get tops n ≡ Some t →
      (g : FlowGraph) × (slice_get graphs n ≡ Some g) × IsGraphOf symbols t g
  graph_of_form [] [] n t each is = absurd (cc)
  graph_of_form [] (h ∷ gs) n t each is = absurd each
  graph_of_form (u ∷ ts) [] n t each is = absurd each
  graph_of_form (u ∷ ts) (h ∷ gs) zero t (stands, each) is = (h, refl, subst (λ (x : Top). IsGraphOf symbols x h) (same_Some u t is) stands)
  graph_of_form (u ∷ ts) (h ∷ gs) (suc n) t (stands, each) is = graph_of_form ts gs n t each is

  -- a graph has as many functions as its form
  pub functions_of_graph : (t : Top) (g : FlowGraph) → IsGraphOf symbols t g → lambdas_in g ≡ length (functions_in t.core)
  functions_of_graph t g (rank, stands) = same_number g (facts_of (symbol_kinds_of symbols) 0 t) rank g.lambdas (functions_in t.core) (stands 0).functions
