-- The variables and functions of a form, added one after another. (This project's own.)
use Rattle.std.proofs.Common.{◌⊎◌, zero, ◌≡◌, ℕ, suc, Bool, List, [], ◌∷◌, ◌++◌, Option, Some, None, length, map, slice_get, refl, sym, ap, subst, ◌∙◌, inl, inr, arith, eq-eqb, ne_eqb, append-nil}
use Rattle.std.proofs.lemmas.Bool.{cases_eq}
use Rattle.std.proofs.lemmas.Option.{slice_get-map}
use Rattle.ir_ids.specs.Entries.{map_of, with_entry}
use Rattle.core_form.specs.Facts.{FunctionText, has_number, closed_of}
use Rattle.core_form.specs.Step.{takes, optionals_length, has_rest}
use Rattle.core_form.specs.declared.tree.Lambda.{Lambda as Lambda', out-Lambda}
use Rattle.core_form.specs.declared.tree.Optional.{Optional as Optional'}
use Rattle.core_form.specs.declared.tree.Parameter.{Parameter as Parameter'}
use Rattle.core_form.specs.Reading.{lambda_of, parameter_of}
use Rattle.core_form.specs.ListReading.{optionals_list, ReadsLambda}
use Rattle.std.proofs.lemmas.List.{length-map, length-append, map-append, append_assoc}
use Rattle.icr_graph.specs.declared.parts.Variable.{Variable}
use Rattle.icr_graph.specs.declared.parts.Function.{Function}
use Rattle.icr_graph.specs.Plain.{FlowGraph}
use Rattle.graph_meaning.specs.Reading.{is_extent, all_there, if_there}
use Rattle.form_graphs.specs.Spots.{IsVariable}
use Rattle.form_graphs.specs.Standing.{AllStand, lambda_number}
use Rattle.form_graphs.specs.Functions.{required_of, optional_number, takes_more}
use Rattle.core_form.specs.Tree.{Lambda, lambda}
use Rattle.std.specs.Prelude.{is_some, option_map, unwrap_or, not, ◌&&◌, ◌||◌, nat_lt, ◌+◌}
use Rattle.form_facts.specs.View.{View, list_at}
use Rattle.form_names.specs.Names.{Names as FormNames'}
use Rattle.graph_building.specs.Later.{Lasting}
use Rattle.graph_building.specs.Built.{Built, graph, Beside, NewVariable, NewFunction, NewLambda}
use Rattle.icr_convert.specs.declared.names.Made.{Made}
use Rattle.icr_convert.specs.Scene.{Scene, IsMade, made_takes}
use Rattle.icr_convert.specs.Whole.{VariablesMade, Declares, AreVariables, MakesFunction, FunctionsMade}
use Rattle.icr_convert.proofs.Growing.{later_refl, later_trans, lasts, beside_trans, grown_refl}

beside_refl : (a : Built) → Beside a a
beside_refl a = record { grown = grown_refl a; same = refl }

some_same : {A : Type 0} {a b : A} → Some a ≡ Some b → a ≡ b
some_same e = cc

-- ---- variables

-- a variable that was added under its number
pub declared : {facts : View} {names : FormNames'} {a b : Built} {vs vs' : List (Option ℕ)} {v : ℕ} (x : Variable) →
    NewVariable x a b v → map_of vs' ≡ with_entry (map_of vs) x.number (Some v) → x.cell ≡ has_number x.number facts.cells → x.word ≡ has_number x.number facts.words →
    is_extent x.name ≡ has_number x.number names.extents → Declares facts names a b vs vs'
declared {facts} {names} {a} {b} {vs} {vs'} {v} x new put cell word extent =
    record {
      beside = new.beside;
      stand = λ s knows named before n w look.
          let at : with_entry (map_of vs) x.number (Some v) n ≡ Some w = ap (λ (f : ℕ → Option ℕ). f n) (sym put) ∙ look in
          elim (cases_eq n x.number) [
            | inl same ↦ λ h later.
                let is : v ≡ w = grind (arith, eq-eqb) in (
                  x,
                  subst (λ (u : ℕ). h.variable u ≡ Some x) is (new.there h later),
                  record { number = sym same; cell = cell ∙ knows.cells x.number ∙ ap (λ (m : ℕ). has_number m s.facts.cells) (sym same); word = word ∙ knows.words x.number ∙ ap (λ (m : ℕ). has_number m s.facts.words) (sym same); extent = extent ∙ named.extents x.number ∙ ap (λ (m : ℕ). has_number m s.facts.extents) (sym same) },
                )
            | inr other ↦ lasts {g = graph a} {h = graph b} (before n w (grind (arith, ne_eqb))) new.beside.grown.later
          ];
    }

-- nothing was added
pub undeclared : {facts : View} {names : FormNames'} (a : Built) (vs : List (Option ℕ)) → Declares facts names a a vs vs
undeclared a vs = record { beside = beside_refl a; stand = λ s knows named before. before }

pub variables_start : {facts : View} {names : FormNames'} (a : Built) → VariablesMade facts names a a []
variables_start a = record { beside = beside_refl a; stand = λ s knows named x v look. absurd (cc) }

pub variables_on : {facts : View} {names : FormNames'} {a b c : Built} {vs vs' : List (Option ℕ)} → VariablesMade facts names a b vs → Declares facts names b c vs vs' → VariablesMade facts names a c vs'
variables_on before one =
    record { beside = beside_trans before.beside one.beside; stand = λ s knows named. one.stand s knows named (before.stand s knows named) }

-- ---- functions

-- the variables under these numbers stand for them
all_stand : (h : FlowGraph) (s : Scene) (vs : List (Option ℕ)) (ns ids : List ℕ) → ((x v : ℕ) → map_of vs x ≡ Some v → IsVariable h s.facts v x) → AreVariables vs ns ids →
    AllStand s.facts (all_there h.variable ids) ns
all_stand h s vs [] [] stand are = tt
all_stand h s vs [] (i ∷ ids) stand are = absurd (cc)
all_stand h s vs (n ∷ ns) [] stand are = absurd (cc)
all_stand h s vs (n ∷ ns) (i ∷ ids) stand are =
    let first : map_of vs n ≡ Some i = cc in
    let is = stand n i first in
    subst (λ (o : Option Variable). AllStand s.facts (if_there o (all_there h.variable ids)) (n ∷ ns)) (sym is.1) (is.2, all_stand h s vs ns ids stand cc)

-- a function that was added for a text is that of the text, in every later graph
pub made_is : {s : Scene} (vs : List (Option ℕ)) {t : FunctionText} {closed : List ℕ} {a b : Built} {m : Made} → MakesFunction t closed a b m →
    ((x v : ℕ) → map_of vs x ≡ Some v → Lasting (λ h. IsVariable h s.facts v x) (graph a)) → AreVariables vs (closed_of s.facts t) closed → IsMade (graph b) s m t
made_is {s} vs {t} {closed} {a} {b} {m} made stand are =
    record {
      takes = made.takes;
      stands = λ h later.
          let there = made.there h later in
          let variables : (x v : ℕ) → map_of vs x ≡ Some v → IsVariable h s.facts v x = λ x v look. stand x v look h (later_trans (graph a) (graph b) h made.later later) in
          let closes : AllStand s.facts (all_there h.variable there.function.closed) (closed_of s.facts t) =
          subst (λ (ids : List ℕ). AllStand s.facts (all_there h.variable ids) (closed_of s.facts t)) (sym there.closes) (all_stand h s vs (closed_of s.facts t) closed variables are) in
          record {
            is = record { function = there.function; there = there.there; lambda = there.lambda; closed = closes };
            name = there.name;
            place = there.place;
            required = there.required;
            optional = there.optional;
            rest = there.rest;
            begins = there.begins;
          };
    }

pub functions_start : {facts : View} {vs : List (Option ℕ)} {ts : List FunctionText} (a : Built) → FunctionsMade facts vs ts 0 a a []
functions_start a =
    record {
      later = later_refl (graph a);
      fresh = omega (arith);
      same = refl;
      size = refl;
      code = refl;
      defines = refl;
      lambdas = sym (append-nil (graph a).lambdas);
      number = refl;
      stand = λ s these knows before i m t look. absurd (cc);
    }

-- such a function takes what its text takes
takes_as : (l : Lambda) (m : Made) (n : ℕ) → m.required ≡ length (required_of l) → m.optional ≡ optional_number l → m.rest ≡ takes_more l → made_takes m n ≡ takes l n
takes_as (lambda k xs os r e) m n required optional rest =
    ap (λ (q : ℕ). not (nat_lt n q) && (m.rest || not (nat_lt (q + m.optional) n))) required
    ∙ ap (λ (q : ℕ). not (nat_lt n (length xs)) && (m.rest || not (nat_lt (length xs + q) n))) optional
    ∙ ap (λ (q : Bool). not (nat_lt n (length xs)) && (q || not (nat_lt (length xs + optionals_length os) n))) rest

-- a function that was added for a text
pub makes : {t : FunctionText} {a b c : Built} {f block : ℕ} (x : Function) (m : Made) → NewFunction x a b f block → NewLambda f b c → m.function ≡ f → m.block ≡ block →
    x.lambda ≡ Some (lambda_number t.lambda) → x.name ≡ t.name → x.place ≡ t.place → x.required ≡ length (required_of t.lambda) → x.optional ≡ optional_number t.lambda → x.rest ≡ takes_more t.lambda →
    x.required ≡ m.required → x.optional ≡ m.optional → x.rest ≡ m.rest → MakesFunction t x.closed a c m
makes {t} {a} {b} {c} {f} {block} x m new next mf mb number name place required optional rest mr mo mt =
    record {
      later = later_trans (graph a) (graph b) (graph c) new.beside.grown.later next.later;
      fresh = omega (arith, new.beside.grown.fresh, next.fresh);
      same = next.same ∙ new.beside.same;
      size = next.size ∙ new.beside.grown.form.size;
      code = next.code ∙ new.beside.grown.form.code;
      defines = next.defines ∙ new.beside.grown.form.defines;
      lambdas = next.lambdas ∙ ap (λ (fs : List (Option ℕ)). fs ++ Some f ∷ []) new.beside.grown.form.lambdas ∙ ap (λ (k : ℕ). (graph a).lambdas ++ Some k ∷ []) (sym mf);
      takes = λ n. takes_as t.lambda m n (sym mr ∙ required) (sym mo ∙ optional) (sym mt ∙ rest);
      there = λ h later.
          let is = new.there h (later_trans (graph b) (graph c) h next.later later) in
          record {
            function = record x { entries = block ∷ [] };
            there = subst (λ (k : ℕ). h.function k ≡ Some (record x { entries = block ∷ [] })) (sym mf) is;
            lambda = number;
            closes = refl;
            name = name;
            place = place;
            required = required;
            optional = optional;
            rest = rest;
            begins = ap Some (sym mb);
          };
    }

-- ---- texts as they are read

optionals_number : (os : List Optional') → optionals_length (optionals_list os) ≡ length os
optionals_number [] = refl
optionals_number (o ∷ os) = omega (arith, optionals_number os)

rest_there : (r : Option Parameter') → has_rest (option_map parameter_of r) ≡ is_some r
rest_there None = refl
rest_there (Some x) = refl

-- the number, and how many parameters of each sort, of a lambda that is read
pub record LambdaRead (l : Lambda') : Type 0 where
  pub number : Some (out-Lambda l).number ≡ Some (lambda_number (lambda_of l))
  pub required : length (out-Lambda l).required.items ≡ length (required_of (lambda_of l))
  pub optional : length (out-Lambda l).optional.items ≡ optional_number (lambda_of l)
  pub rest : is_some (out-Lambda l).rest ≡ takes_more (lambda_of l)

pub lambda_read : ReadsLambda → (l : Lambda') → LambdaRead l
lambda_read reads l =
    let back = sym (reads l) in
    record {
      number = ap (λ (k : Lambda). Some (lambda_number k)) back;
      required = sym (length-map (out-Lambda l).required.items parameter_of) ∙ ap (λ (k : Lambda). length (required_of k)) back;
      optional = sym (optionals_number (out-Lambda l).optional.items) ∙ ap optional_number back;
      rest = sym (rest_there (out-Lambda l).rest) ∙ ap takes_more back;
    }

-- ---- one function more

cons_case : (ms : List Made) (m : Made) (i : ℕ) (n : Made) → slice_get (ms ++ m ∷ []) i ≡ Some n → (slice_get ms i ≡ Some n) ⊎ ((i ≡ length ms) × (n ≡ m))
cons_case [] m zero n look = inr (refl, sym (some_same look))
cons_case [] m (suc i) n look = absurd (cc)
cons_case (x ∷ ms) m zero n look = inl look
cons_case (x ∷ ms) m (suc i) n look =
    elim (cons_case ms m i n look) [
      | inl before ↦ inl before
      | inr last ↦ inr (ap suc last.0, last.1)
    ]

-- a function more is made, for the text at the number of those before
pub functions_on : {facts : View} {vs : List (Option ℕ)} {ts : List FunctionText} {n : ℕ} {a b c : Built} {ms : List Made} {m : Made} {closed : List ℕ} (t : FunctionText) →
    FunctionsMade facts vs ts n a b ms → slice_get ts n ≡ Some t → MakesFunction t closed b c m → AreVariables vs (list_at facts.closed n) closed → FunctionsMade facts vs ts (n + 1) a c (ms ++ m ∷ [])
functions_on {facts} {vs} {ts} {n} {a} {b} {c} {ms} {m} {closed} t before text one are =
    record {
      later = later_trans (graph a) (graph b) (graph c) before.later one.later;
      fresh = omega (arith, before.fresh, one.fresh);
      same = one.same ∙ before.same;
      size = one.size ∙ before.size;
      code = one.code ∙ before.code;
      defines = one.defines ∙ before.defines;
      lambdas = one.lambdas ∙ ap (λ (fs : List (Option ℕ)). fs ++ Some m.function ∷ []) before.lambdas
          ∙ append_assoc (graph a).lambdas (map (λ k. Some k.function) ms) (Some m.function ∷ []) ∙ ap (λ (fs : List (Option ℕ)). (graph a).lambdas ++ fs) (sym (map-append (λ k. Some k.function) ms (m ∷ [])));
      number = length-append ms (m ∷ []) ∙ ap (λ (k : ℕ). k + 1) before.number;
      stand = λ s these knows stand i k u made is.
          elim (cons_case ms m i k made) [
            | inl earlier ↦
                let was : IsMade (graph b) s k u = before.stand s these knows stand i k u earlier is in
                record { stands = lasts {g = graph b} {h = graph c} was.stands one.later; takes = was.takes }
            | inr last ↦
                let at : i ≡ n = last.0 ∙ before.number in
                let same : t ≡ u = some_same (sym text ∙ ap (slice_get ts) (sym at) ∙ is) in
                let lists : list_at facts.closed n ≡ closed_of s.facts t =
                ap (λ (ls : List (List ℕ)). list_at ls n) knows.closed ∙ ap (λ (o : Option (List ℕ)). unwrap_or o []) (slice_get-map (closed_of s.facts) ts n ∙ ap (option_map (closed_of s.facts)) text) in
                let these_are : AreVariables vs (closed_of s.facts t) closed = subst (λ (ns : List ℕ). AreVariables vs ns closed) lists are in
                let in_b : (x v : ℕ) → map_of vs x ≡ Some v → Lasting (λ h. IsVariable h s.facts v x) (graph b) = λ x v look. lasts {g = graph a} {h = graph b} (stand x v look) before.later in
                let is_made : IsMade (graph c) s m t = made_is vs one in_b these_are in
                subst (λ (x : Made). IsMade (graph c) s x u) (sym last.1) (subst (λ (x : FunctionText). IsMade (graph c) s m x) same is_made)
          ];
    }
