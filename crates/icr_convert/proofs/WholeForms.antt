-- A whole form: its own code, its functions, its graph. (This project's own.)
use Rattle.std.proofs.Common.{true, false, ◌≡◌, ◌<◌, zero, ℕ, suc, ◌+◌, List, [], ◌∷◌, ◌++◌, Option, Some, None, Result, Ok, Err, IfOk, length, map, slice_get, refl, sym, ap, subst, ◌∙◌, inl, inr, arith}
use Rattle.std.specs.Prelude.{slice_index_or}
use Rattle.std.specs.List.{Contains}
use Rattle.std.proofs.lemmas.Bool.{cases_eq}
use Rattle.std.proofs.lemmas.Option.{slice_get_within, get_or_from_slice_get}
use Rattle.std.proofs.lemmas.List.Elements.{All-contains, Contains-append_cases}
use Rattle.lisp_base.specs.declared.values.Place.{Place}
use Rattle.lisp_base.specs.Membership.{SymbolKind}
use Rattle.core_form.specs.declared.tree.TopForm.{TopForm}
use Rattle.core_form.specs.Tree.{Core, Top}
use Rattle.core_form.specs.Reading.{top_of, tops_of}
use Rattle.core_form.specs.Facts.{FunctionText, Facts, facts_of, functions_in, lookup}
use Rattle.core_form.specs.State.{Symbol}
use Rattle.core_form.specs.Force.{symbol_kinds_of}
use Rattle.core_form.specs.Eval.{Program}
use Rattle.core_form.specs.Lawful.{CountFrom, function_number, TopIsLawful, TopsAreLawful, IsLawful, Parts, meant}
use Rattle.icr_graph.specs.declared.nodes.NodeKind.TheVariants as kind
use Rattle.icr_graph.specs.declared.parts.Defined.{Defined}
use Rattle.icr_graph.specs.Plain.{Slots, FlowGraph, graph_of}
use Rattle.graph_meaning.specs.Reading.{defined_by, named}
use Rattle.form_graphs.specs.Spots.{Spot, none}
use Rattle.form_graphs.specs.Standing.{StandsAt}
use Rattle.form_graphs.specs.Functions.{FunctionStands, FunctionsStand, StandsWhole, IsGraphOf, CodeStandsAt}
use Rattle.form_names.specs.Names.{Names as FormNames', NamesOf}
use Rattle.form_names.specs.Laws.{NumberedFunctions, LocalFunctionsStand}
use Rattle.graph_building.specs.Later.{Later, Lasting}
use Rattle.graph_building.specs.Built.{Built, graph, spot, FreeCont, NewNode, own_code}
use Rattle.graph_building.specs.Orderly.{AllChecked, FewSuccessors, OneFunction}
use Rattle.icr_convert.specs.declared.names.Names.{Names}
use Rattle.icr_convert.specs.declared.names.Made.{Made}
use Rattle.icr_convert.specs.Naming.{CodeNamed}
use Rattle.icr_convert.specs.Scene.{rank, Scene, KnowsNames, MadeStands, Ready}
use Rattle.icr_convert.specs.Converting.{Converts, cost_alone}
use Rattle.icr_convert.specs.Coding.{Codes}
use Rattle.icr_convert.specs.Whole.{OwnCodeStands, OwnCodes, CodesAll, IsFormOf, GraphKeeps, IsWellMade, symbols_of, Begun, NamesMade}
use Rattle.layers.specs.Lemmas.{keeps_across}
use Rattle.core_form.specs.AsLayer.{forms_together}
use Rattle.graph_meaning.specs.AsLayer.{graphs_together}
use Rattle.form_graphs.specs.Laws.{GraphsKeepForms}
use Rattle.icr_convert.proofs.Growing.{later_refl, later_trans, lasts, grown_refl, grown_trans, ready_later}
use Rattle.icr_convert.proofs.Steps.{node_placed}
use Rattle.icr_convert.proofs.Numbering.{Found, named_of, coded}

some_same : {A : Type 0} {a b : A} → Some a ≡ Some b → a ≡ b
some_same e = cc

-- ---- a form's own code

-- a form whose values go to a new continuation and are returned
pub own_codes : {names : Names} {a b c d : Built} {k n : ℕ} {place : Place} (e : Core) → FreeCont a b k →
    Converts names (record { tail = true; word = false; cost = 0; levels = 0; boxing = 0; to = Some k }) e b c → NewNode (kind.Return k) None place (cost_alone 0) c d n → OwnCodes names e a d
own_codes {names} {a} {b} {c} {d} {k} {n} {place} e cont converts return s ready named =
    let body = converts s (ready_later ready cont.beside.grown.later) named in
    let last = node_placed (λ j is. is) return in
    record {
      grown = grown_trans cont.beside.grown (grown_trans body.grown return.grown);
      stands = λ h later.
          let after : Later (graph c) h = later_trans (graph c) (graph d) h return.grown.later later in
          record {
            cont = k;
            free = cont.lasts h (later_trans (graph b) (graph c) h body.grown.later after);
            end = spot c;
            stands = subst (λ (p : Spot). StandsAt h s.facts rank true false e 0 none 0 (Some k) p (spot c)) cont.beside.same (body.stands 0 (omega (arith)) h after);
            place = place;
            returns = (last.stands 0 (omega (arith)) h later).0;
          };
    }

-- ---- the code of all functions

pub codes_start : {names : Names} {ts : List FunctionText} (a : Built) → CodesAll names ts 0 a a
codes_start a s ready named = record { grown = grown_refl a; stand = λ i m t below made text. absurd (omega (arith, below)) }

pub codes_on : {names : Names} {ts : List FunctionText} {n : ℕ} {a b c : Built} {m : Made} (t : FunctionText) → CodesAll names ts n a b → slice_get names.functions.items n ≡ Some m → slice_get ts n ≡ Some t →
    Codes names t.place t.lambda m.block b c → CodesAll names ts (n + 1) a c
codes_on {names} {ts} {n} {a} {b} {c} {m} t before made text one s ready named =
    let first = before s ready named in
    let more = one s (ready_later ready first.grown.later) (named n t text) in
    record {
      grown = grown_trans first.grown more.grown;
      stand = λ i k u below is_made is_text.
          elim (cases_eq i n) [
            | inl same ↦
                let function : k ≡ m = some_same (sym is_made ∙ ap (slice_get names.functions.items) same ∙ made) in
                let what : u ≡ t = some_same (sym is_text ∙ ap (slice_get ts) same ∙ text) in
                subst (λ (v : FunctionText). Lasting (λ h. CodeStandsAt h s.facts rank v.place v.lambda k.block) (graph c)) (sym what)
                (subst (λ (j : Made). Lasting (λ h. CodeStandsAt h s.facts rank t.place t.lambda j.block) (graph c)) (sym function) more.stands)
            | inr other ↦ lasts {g = graph b} {h = graph c} (first.stand i k u (omega (arith, below, other)) is_made is_text) more.grown.later
          ];
    }

-- ---- the whole

-- what a form names under its numbers is what its facts say
knows_names : (kinds : SymbolKind) (start : ℕ) (t : Top) (f : FormNames') → NamesOf f t.core → KnowsNames f (facts_of kinds start t)
unfolding facts_of
knows_names kinds start t f is = record { extents = is.extents; blocks = is.blocks; tags = is.tags; locals = is.locals }

local_text : (kinds : SymbolKind) (start : ℕ) (t : Top) → LocalFunctionsStand → (x : ℕ) (u : FunctionText) → lookup x (facts_of kinds start t).names.functions ≡ Some u → Contains (functions_in t.core) u
unfolding facts_of
local_text kinds start t stand x u look = stand t.core x u look

-- functions by their places, in a list
functions_stand : (g : FlowGraph) (facts : Facts) (ms : List Made) (ts : List FunctionText) → length ms ≡ length ts →
    ((i : ℕ) (m : Made) (t : FunctionText) → slice_get ms i ≡ Some m → slice_get ts i ≡ Some t → FunctionStands g facts rank m.function t) → FunctionsStand g facts rank (map (λ m. Some m.function) ms) ts
functions_stand g facts [] [] same stand = tt
functions_stand g facts [] (t ∷ ts) same stand = absurd (omega (arith, same))
functions_stand g facts (m ∷ ms) [] same stand = absurd (omega (arith, same))
functions_stand g facts (m ∷ ms) (t ∷ ts) same stand =
    (stand 0 m t refl refl, functions_stand g facts ms ts (omega (arith, same)) (λ i. stand (suc i)))

module _ {symbols : List Symbol} {t : Top} {all : Names} {a c d e : Built}
    (numbered : NumberedFunctions) (local : LocalFunctionsStand) (counted : CountFrom 0 (map function_number (functions_in t.core)))
    (first : Begun t a) (p : NamesMade symbols t all a c) (own_codes_at : OwnCodes all t.core c d) (codes_at : CodesAll all (functions_in t.core) (length (functions_in t.core)) d e) where
  found : Found (functions_in t.core) (functions_in t.core)
  found = numbered t.core counted

  abbrev scene : ℕ → Scene
  scene start = record { facts = facts_of (symbol_kinds_of symbols) start t; form = t.core }

  ready : (start : ℕ) → Ready (scene start) all (graph c)
  unfolding facts_of
  ready start =
      let named : KnowsNames all.texts (scene start).facts = knows_names (symbol_kinds_of symbols) start t all.texts p.named in
      let variables = p.variables.stand (scene start) (p.knows start) named in
      record {
        knows = p.knows start;
        named = named;
        variables = λ x v look. lasts {g = graph p.between} {h = graph c} (variables x v look) p.functions.later;
        numbered = λ x u look. found u (local_text (symbol_kinds_of symbols) start t local x u look);
        functions = p.functions.stand (scene start) refl (p.knows start) variables;
      }

  coded_all : (i : ℕ) (u : FunctionText) → slice_get (functions_in t.core) i ≡ Some u → CodeNamed (functions_in t.core) u.lambda
  coded_all i u look =
      All-contains (λ v. CodeNamed (functions_in t.core) v.lambda) (functions_in t.core) u (coded (functions_in t.core) t.core found)
      (i, slice_get_within (functions_in t.core) i u look, get_or_from_slice_get (functions_in t.core) i u u look)

  whole : (start : ℕ) → StandsWhole (graph e) (facts_of (symbol_kinds_of symbols) start t) rank t
  whole start =
      let s = scene start in
      let ts = functions_in t.core in
      let own_done = own_codes_at s (ready start) (named_of ts t.core found) in
      let done = codes_at s (ready_later (ready start) own_done.grown.later) coded_all in
      let later_ce : Later (graph c) (graph e) = later_trans (graph c) (graph d) (graph e) own_done.grown.later done.grown.later in
      let later_ae : Later (graph a) (graph e) = later_trans (graph a) (graph p.between) (graph e) p.variables.beside.grown.later (later_trans (graph p.between) (graph c) (graph e) p.functions.later later_ce) in
      let own : OwnCodeStands (graph e) s t.core (spot c) = own_done.stands (graph e) done.grown.later in
      let lambdas : (graph e).lambdas ≡ map (λ m. Some m.function) all.functions.items =
      done.grown.form.lambdas ∙ own_done.grown.form.lambdas ∙ p.functions.lambdas
      ∙ ap (λ (fs : List (Option ℕ)). fs ++ map (λ (m : Made). Some m.function) all.functions.items) (p.variables.beside.grown.form.lambdas ∙ first.begun.lambdas) in
      let code : (graph e).code ≡ Some first.begun.code = done.grown.form.code ∙ own_done.grown.form.code ∙ p.functions.code ∙ p.variables.beside.grown.form.code ∙ first.begun.is in
      record {
        size = done.grown.form.size ∙ own_done.grown.form.size ∙ p.functions.size ∙ p.variables.beside.grown.form.size ∙ first.begun.size;
        defines = ap (λ (q : Option Defined). defined_by 0 q []) (done.grown.form.defines ∙ own_done.grown.form.defines ∙ p.functions.defines ∙ p.variables.beside.grown.form.defines ∙ first.begun.defines) ∙ first.given;
        functions = subst (λ (fs : List (Option ℕ)). FunctionsStand (graph e) s.facts rank fs ts) (sym lambdas)
            (functions_stand (graph e) s.facts all.functions.items ts p.functions.number
            (λ i m u made text.
            let is : MadeStands (graph e) s m u = ((ready start).functions i m u made text).stands (graph e) later_ce in
            record {
              is = is.is;
              name = is.name;
              place = is.place;
              required = is.required;
              optional = is.optional;
              rest = is.rest;
              block = m.block;
              begins = is.begins;
              code = done.stand i m u (slice_get_within ts i u text) made text (graph e) (later_refl (graph e));
            }));
        form = record {
          function = own_code t.place a.block;
          there = ap (named (graph e).function) code ∙ first.begun.function (graph e) later_ae;
          block = a.block;
          begins = refl;
          cont = own.cont;
          free = own.free;
          end = own.end;
          stands = subst (λ (q : Spot). StandsAt (graph e) s.facts rank true false t.core 0 none 0 (Some own.cont) q own.end) (p.functions.same ∙ p.variables.beside.same ∙ first.begun.at) own.stands;
          place = own.place;
          returns = own.returns;
        };
      }

  pub graph_of_form : IsGraphOf symbols t (graph e)
  graph_of_form = (rank, whole)

-- ---- forms of a program

lawful_at : (P : Program) (fs : List TopForm) (f : TopForm) (k : ℕ) → k < length fs → slice_index_or fs k f ≡ f → TopsAreLawful P (tops_of fs) → TopIsLawful P (top_of f)
lawful_at P [] f k below at lawful = absurd (omega (arith, below))
lawful_at P (x ∷ fs) f zero below at lawful = subst (λ (y : TopForm). TopIsLawful P (top_of y)) at lawful.0
lawful_at P (x ∷ fs) f (suc k) below at lawful = lawful_at P fs f k (omega (arith, below)) at lawful.1

-- a form of a lawful program is lawful
pub form_lawful : (p : Parts) (f : TopForm) → IsLawful (meant p) → IsFormOf p f → TopIsLawful (meant p) (top_of f)
form_lawful p f lawful is =
    elim (Contains-append_cases p.prelude p.forms f is) [
      | inl early ↦ lawful_at (meant p) p.prelude f early.0 early.1 early.2 lawful.prelude_lawful
      | inr late ↦ lawful_at (meant p) p.forms f late.0 late.1 late.2 lawful.forms_lawful
    ]

-- the graph keeps what the form means, among others
pub keeps : (p : Parts) (f : TopForm) (g : FlowGraph) → GraphsKeepForms → IsGraphOf (symbols_of p) (top_of f) g → GraphKeeps p f g
keeps p f g law is heap =
    keeps_across (forms_together heap (symbols_of p)) (graphs_together heap (symbols_of p)) (IsGraphOf (symbols_of p)) (law heap (symbols_of p)) (top_of f) g is

pub well_made : {E : Type 0} (r : Result Slots E) → IfOk r (λ g. AllChecked (graph_of g)) → IfOk r (λ g. FewSuccessors (graph_of g)) → IfOk r (λ g. OneFunction (graph_of g)) → IfOk r (λ g. IsWellMade (graph_of g))
well_made (Ok g) checked few functions = record { checked = checked; few = few; functions = functions }
well_made (Err e) checked few functions = tt
