-- What is known of the lexical variables that names mean in a scope: a variable with the number, all of whose types have been proclaimed of the
-- name or are declared in the scope for each value that it is set to.
use Rattle.std.specs.Prelude.{◌≡◌, ℕ, suc, Bool, true, false, ◌==◌, if◌then◌else◌, List, [], ◌∷◌, ◌++◌, map, filter, fold, All, Contains, Option, Some, None}
use Rattle.std.proofs.Common.{refl, sym, subst, arith}
use Rattle.std.proofs.lemmas.Bool.Decides.{nat_tests}
use Rattle.std.proofs.lemmas.List.Sums.{fold-append}
use Rattle.std.proofs.lemmas.List.Elements.{All-head, All-tail, All-push, All-weaker, Contains-append_left, Contains-append_right, Contains-append_cases, Contains-push}
use Rattle.lisp_base.specs.declared.values.SymId.{SymId}
use Rattle.lisp_base.specs.declared.values.Val.{Val}
use Rattle.lisp_base.specs.Sort.{number_of}
use Rattle.lisp_base.specs.Spec.{Spec}
use Rattle.lisp_base.specs.Tables.{Object}
use Rattle.declarations.specs.Declarations.{Typed, Declared}
use Rattle.core_form.specs.declared.tree.Variable.{Variable}
use Rattle.core_form.specs.declared.tree.Variable.TheVariants as variable
use Rattle.core_form.specs.Tree.{Parameter}
use Rattle.core_form.specs.Facts.{lexical_number, parameter_number, if_given}
use Rattle.expansion.specs.declared.heads.Target.{Target}
use Rattle.expansion.specs.declared.heads.Target.TheVariants.{Lexical, Global}
use Rattle.expansion.specs.Scopes.{Scope, Check, of_binding, of_uses, rebound, same_target, same_symbol, value_or, at_form, later, last_fit, second, named, and_set, variable_at, with_variable, with_tag, with_special, with_type, declared_in}
use Rattle.expansion.specs.Bindings.{types_of}
use Rattle.expansion.specs.Forms.{is_tag}
use Rattle.expansion.specs.Expanding.{Bound, target_of, new_checks, with_bound, with_all, with_some, parameters, parameter_some, definition_name, with_named, with_definitions, with_tags}
use Rattle.expansion_laws.specs.Tested.{IsGlobal}
use Rattle.expansion_laws.proofs.Among.{same_number}
use Rattle.expansion_laws.proofs.Holding.{OnFound}
use Rattle.expansion_laws.proofs.TestedOnce.{nothing_in, in_either, first_or_later}
use Rattle.expansion_laws.proofs.TestedSteps.{Grown}
use Rattle.expansion_laws.proofs.TestedNodes.{Within, within_right}

-- ---- types for each value that a variable is set to

-- the types that are declared of a lexical variable by these, after some
abbrev pub set_after : ℕ → List Spec → List Check → List Spec
set_after n found checks = fold (and_set (Lexical n)) found checks

set_pushed : (b : Bool) (found : List Spec) (spec t : Spec) → Contains found t → Contains (if b then found ++ spec ∷ [] else found) t
set_pushed true found spec t h = Contains-append_left found (spec ∷ []) t h
set_pushed false found spec t h = h

set_one : (n : ℕ) (found : List Spec) (c : Check) (t : Spec) → Contains found t → Contains (and_set (Lexical n) found c) t
set_one n found (of_binding u spec) t h = set_pushed (same_target (Lexical n) u) found spec t h
set_one n found (of_uses u spec) t h = set_pushed (same_target (Lexical n) u) found spec t h
set_one n found (rebound s) t h = h

set_kept : (n : ℕ) (found : List Spec) (checks : List Check) (t : Spec) → Contains found t → Contains (set_after n found checks) t
set_kept n found [] t h = h
set_kept n found (c ∷ checks) t h = set_kept n (and_set (Lexical n) found c) checks t (set_one n found c t h)

set_joined : (n : ℕ) (checks more : List Check) (t : Spec) → Contains (set_after n (set_after n [] checks) more) t → Contains (set_after n [] (checks ++ more)) t
set_joined n checks more t h = subst (λ (ts : List Spec). Contains ts t) (sym (fold-append (and_set (Lexical n)) [] checks more)) h

set_more : (n : ℕ) (checks more : List Check) (t : Spec) → Contains (set_after n [] checks) t → Contains (set_after n [] (checks ++ more)) t
set_more n checks more t h = set_joined n checks more t (set_kept n (set_after n [] checks) more t h)

set_here : (n : ℕ) (found : List Spec) (t : Spec) → Contains (and_set (Lexical n) found (of_binding (Lexical n) t)) t
set_here n found t = subst (λ (b : Bool). Contains (if b then found ++ t ∷ [] else found) t) (sym (same_number n)) (Contains-push found t)

-- what the form that binds a variable declares of it
set_bound : (n : ℕ) (found types : List Spec) (t : Spec) → Contains types t → Contains (set_after n found (map (of_binding (Lexical n)) types)) t
set_bound n found [] t h = absurd (nothing_in t h)
set_bound n found (u ∷ types) t h =
    let first : List Spec = and_set (Lexical n) found (of_binding (Lexical n) u) in
    let checks : List Check = map (of_binding (Lexical n)) types in
    in_either (first_or_later u types t h) (λ same. subst (λ (s : Spec). Contains (set_after n first checks) s) same (set_kept n first checks u (set_here n found u))) (λ k. set_bound n first types t k)

-- ---- variables

-- what is known of a lexical variable that a name means, where these are the variables of the tree, and these have been proclaimed
pub record Known (ps : List Parameter) (ds : List Typed) (checks : List Check) (s : SymId) (n : ℕ) : Type 0 where
  pub variable : Parameter
  pub there : Contains ps variable
  pub number : Contains (parameter_number variable) n
  pub types : (t : Spec) → Contains variable.types t → Contains (types_of s ds ++ set_after n [] checks) t

-- all types of a parameter have been proclaimed, or the form declares them
abbrev pub FineBound : List Typed → Bound → Type 0
FineBound ds b = (t : Spec) → Contains b.1.types t → Contains (types_of b.0.variable ds ++ b.0.types) t

module _ (ps : List Parameter) where
  abbrev pub Entry : List Typed → List Check → SymId → Target → Type 0
  Entry ds checks s (Lexical n) = Known ps ds checks s n
  Entry ds checks s (Global t) = Unit {0}

  abbrev pub Entries : List Typed → List Check → List (SymId × Target) → Type 0
  Entries ds checks variables = All (λ (p : SymId × Target). Entry ds checks p.0 p.1) variables

  abbrev pub Holds : List Typed → Scope → Type 0
  Holds ds sc = Entries ds sc.checks sc.variables

  -- ---- with more proclaimed or declared

  -- of another symbol, where each type is proclaimed of it or declared too
  known_too : (ds es : List Typed) (checks others : List Check) (r s : SymId) (n : ℕ) → ((t : Spec) → Contains (types_of r ds) t → Contains (types_of s es) t) → ((t : Spec) → Contains (set_after n [] checks) t → Contains (set_after n [] others) t) → Known ps ds checks r n → Known ps es others s n
  known_too ds es checks others r s n f g h = record {
    variable = h.variable;
    there = h.there;
    number = h.number;
    types = λ t k. in_either (Contains-append_cases (types_of r ds) (set_after n [] checks) t (h.types t k)) (λ l. Contains-append_left (types_of s es) (set_after n [] others) t (f t l)) (λ l.
        Contains-append_right (types_of s es) (set_after n [] others) t (g t l));
  }

  entry_grown : (ds es : List Typed) (checks : List Check) → Grown ds es → (s : SymId) (t : Target) → Entry ds checks s t → Entry es checks s t
  entry_grown ds es checks g s (Lexical n) h = known_too ds es checks checks s s n (g s) (λ t k. k) h
  entry_grown ds es checks g s (Global t) h = tt

  pub holds_grown : (ds es : List Typed) (sc : Scope) → Grown ds es → Holds ds sc → Holds es sc
  holds_grown ds es sc g h =
      All-weaker (λ (p : SymId × Target). Entry ds sc.checks p.0 p.1) (λ (p : SymId × Target). Entry es sc.checks p.0 p.1) (λ (p : SymId × Target). entry_grown ds es sc.checks g p.0 p.1) sc.variables h

  entry_more : (ds : List Typed) (checks more : List Check) (s : SymId) (t : Target) → Entry ds checks s t → Entry ds (checks ++ more) s t
  entry_more ds checks more s (Lexical n) h = known_too ds ds checks (checks ++ more) s s n (λ t k. k) (set_more n checks more) h
  entry_more ds checks more s (Global t) h = tt

  entries_more : (ds : List Typed) (checks more : List Check) (vs : List (SymId × Target)) → Entries ds checks vs → Entries ds (checks ++ more) vs
  entries_more ds checks more vs h =
      All-weaker (λ (p : SymId × Target). Entry ds checks p.0 p.1) (λ (p : SymId × Target). Entry ds (checks ++ more) p.0 p.1) (λ (p : SymId × Target). entry_more ds checks more p.0 p.1) vs h

  holds_variable : (ds : List Typed) (s : SymId) (t : Target) (checks : List Check) (sc : Scope) → Entry ds (sc.checks ++ checks) s t → Holds ds sc → Holds ds (with_variable s t checks sc)
  holds_variable ds s t checks sc e h = All-push (λ (p : SymId × Target). Entry ds (sc.checks ++ checks) p.0 p.1) sc.variables (s, t) (entries_more ds sc.checks checks sc.variables h) e

  -- ---- what a name means

  -- what is proclaimed of a symbol is so of each of the same number
  same_types : (s r : SymId) (ds : List Typed) → same_symbol s r ≡ true → (t : Spec) → Contains (types_of r ds) t → Contains (types_of s ds) t
  same_types s r ds same t h =
      subst (λ (k : ℕ). Contains (map (λ (d : Typed). d.spec) (filter (λ (d : Typed). k == number_of d.variable) ds)) t) (sym (equal (number_of s) (number_of r) same)) h
    where
      equal : (m n : ℕ) → (m == n) ≡ true → m ≡ n
      equal m n e = grind (arith, nat_tests)

  entry_named : (ds : List Typed) (checks : List Check) (s r : SymId) (t : Target) → same_symbol s r ≡ true → Entry ds checks r t → Entry ds checks s t
  entry_named ds checks s r (Lexical n) same h = known_too ds ds checks checks r s n (same_types s r ds same) (λ t k. k) h
  entry_named ds checks s r (Global t) same h = tt

  module _ (ds : List Typed) (checks : List Check) (s : SymId) where
    abbrev Meant : Option (SymId × Target) → Type 0
    Meant o = OnFound (λ (p : SymId × Target). Entry ds checks s p.1) o

    later_meant : (b : Bool) (found : Option (SymId × Target)) (p : SymId × Target) → same_symbol s p.0 ≡ b → Meant found → Entry ds checks p.0 p.1 → Meant (if b then Some p else found)
    later_meant true found p same h e = entry_named ds checks s p.0 p.1 same e
    later_meant false found p same h e = h

    last_meant : (vs : List (SymId × Target)) (found : Option (SymId × Target)) → Meant found → Entries ds checks vs → Meant (fold (later (named s)) found vs)
    last_meant [] found h all = h
    last_meant (p ∷ vs) found h all =
        last_meant vs (later (named s) found p) (later_meant (same_symbol s p.0) found p refl h (All-head (λ (q : SymId × Target). Entry ds checks q.0 q.1) p vs all)) (All-tail (λ (q : SymId × Target). Entry ds checks q.0 q.1) p vs all)

    meant_is : (o : Option (SymId × Target)) → Meant o → Entry ds checks s (value_or (second o) (Global s))
    meant_is None h = tt
    meant_is (Some p) h = h

  pub variable_known : (ds : List Typed) (sc : Scope) (s : SymId) → Holds ds sc → Entry ds sc.checks s (variable_at sc s)
  unfolding variable_at
  variable_known ds sc s h = meant_is ds sc.checks s (last_fit (named s) sc.variables) (last_meant ds sc.checks s sc.variables None tt h)

  -- ---- scopes that grow

  pub holds_at : (ds : List Typed) (heap : List Object) (v : Val) (sc : Scope) → Holds ds sc → Holds ds (at_form heap v sc)
  unfolding at_form
  holds_at ds heap v sc h = h

  holds_specials : (ds : List Typed) (ss : List SymId) (sc : Scope) → Holds ds sc → Holds ds (fold with_special sc ss)
  holds_specials ds [] sc h = h
  holds_specials ds (s ∷ ss) sc h = holds_specials ds ss (with_special sc s) (holds_variable ds s (Global s) [] sc tt h)

  holds_types : (ds : List Typed) (ts : List Typed) (sc : Scope) → Holds ds sc → Holds ds (fold with_type sc ts)
  holds_types ds [] sc h = h
  holds_types ds (d ∷ ts) sc h = holds_types ds ts (with_type sc d) (entries_more ds sc.checks _ sc.variables h)

  pub holds_declared : (ds : List Typed) (d : Declared) (sc : Scope) → Holds ds sc → Holds ds (declared_in d sc)
  unfolding declared_in
  holds_declared ds d sc h = holds_types ds d.types (fold with_special sc d.specials) (holds_specials ds d.specials sc h)

  -- ---- parameters

  entry_bound : (ds : List Typed) (b : Bound) (checks : List Check) (v : Variable) → b.1.variable ≡ v → FineBound ds b → Contains ps b.1 → Entry ds (checks ++ new_checks v b.0.types) b.0.variable (target_of v)
  entry_bound ds b checks (variable.Lexical n s) is fine there =
      let more : List Check = map (of_binding (Lexical n)) b.0.types in
      record {
        variable = b.1;
        there = there;
        number = subst (λ (v : Variable). Contains (lexical_number v) n) (sym is) (Contains-push [] n);
        types = λ t k. in_either (Contains-append_cases (types_of b.0.variable ds) b.0.types t (fine t k)) (λ l. Contains-append_left (types_of b.0.variable ds) (set_after n [] (checks ++ more)) t l) (λ l.
            Contains-append_right (types_of b.0.variable ds) (set_after n [] (checks ++ more)) t (set_joined n checks more t (set_bound n (set_after n [] checks) b.0.types t l)));
      }
  entry_bound ds b checks (variable.Special s) is fine there = tt

  pub holds_bound : (ds : List Typed) (b : Bound) (sc : Scope) → FineBound ds b → Contains ps b.1 → Holds ds sc → Holds ds (with_bound sc b)
  unfolding with_bound
  holds_bound ds b sc fine there h =
      holds_variable ds b.0.variable (target_of b.1.variable) (new_checks b.1.variable b.0.types) sc (entry_bound ds b sc.checks b.1.variable refl fine there) h

  pub holds_all : (ds : List Typed) (bs : List Bound) (sc : Scope) → All (FineBound ds) bs → Within ps (parameters bs) → Holds ds sc → Holds ds (with_all sc bs)
  holds_all ds [] sc fine within h = h
  holds_all ds (b ∷ bs) sc fine within h =
      holds_all ds bs (with_bound sc b) (All-tail (FineBound ds) b bs fine) (within_right ps (b.1 ∷ []) (parameters bs) within)
      (holds_bound ds b sc (All-head (FineBound ds) b bs fine) (within b.1 (Contains-append_left (b.1 ∷ []) (parameters bs) b.1 (Contains-push [] b.1))) h)

  pub holds_some : (ds : List Typed) (o : Option Bound) (sc : Scope) → OnFound (FineBound ds) o → Within ps (if_given (parameter_some o)) → Holds ds sc → Holds ds (with_some sc o)
  holds_some ds None sc fine within h = h
  holds_some ds (Some b) sc fine within h = holds_bound ds b sc fine (within b.1 (Contains-push [] b.1)) h

  -- ---- local functions and tags

  holds_named : (ds : List Typed) (o : Option SymId) (n : ℕ) (sc : Scope) → Holds ds sc → Holds ds (with_named o n sc)
  holds_named ds None n sc h = h
  holds_named ds (Some s) n sc h = h

  pub holds_definitions : (ds : List Typed) (heap : List Object) (n : ℕ) (vs : List Val) (sc : Scope) → Holds ds sc → Holds ds (with_definitions heap n vs sc)
  holds_definitions ds heap n [] sc h = h
  holds_definitions ds heap n (v ∷ vs) sc h = holds_definitions ds heap (suc n) vs (with_named (definition_name sc heap v) n sc) (holds_named ds (definition_name sc heap v) n sc h)

  tags_step : (ds : List Typed) (n : ℕ) (v : Val) (vs : List Val) (sc : Scope) (b : Bool) → Holds ds sc → ((m : ℕ) (own : Scope) → Holds ds own → Holds ds (with_tags m vs own)) → Holds ds (if b then with_tags (suc n) vs (with_tag v n sc) else with_tags n vs sc)
  tags_step ds n v vs sc true h rest = rest (suc n) (with_tag v n sc) h
  tags_step ds n v vs sc false h rest = rest n sc h

  pub holds_tags : (ds : List Typed) (n : ℕ) (vs : List Val) (sc : Scope) → Holds ds sc → Holds ds (with_tags n vs sc)
  holds_tags ds n [] sc h = h
  holds_tags ds n (v ∷ vs) sc h = tags_step ds n v vs sc (is_tag v) h (λ m own k. holds_tags ds m vs own k)

-- ---- scopes without lexical variables

no_lexical : (ps : List Parameter) (ds : List Typed) (checks : List Check) (s : SymId) (t : Target) → IsGlobal t → Entry ps ds checks s t
no_lexical ps ds checks s (Lexical n) h = absurd h
no_lexical ps ds checks s (Global t) h = tt

pub holds_top : (ps : List Parameter) (ds : List Typed) (sc : Scope) → All (λ (p : SymId × Target). IsGlobal p.1) sc.variables → Holds ps ds sc
holds_top ps ds sc h =
    All-weaker (λ (p : SymId × Target). IsGlobal p.1) (λ (p : SymId × Target). Entry ps ds sc.checks p.0 p.1) (λ (p : SymId × Target). no_lexical ps ds sc.checks p.0 p.1) sc.variables h

specials_global : (ss : List SymId) (sc : Scope) → All (λ (p : SymId × Target). IsGlobal p.1) sc.variables → All (λ (p : SymId × Target). IsGlobal p.1) (fold with_special sc ss).variables
specials_global [] sc h = h
specials_global (s ∷ ss) sc h = specials_global ss (with_special sc s) (All-push (λ (p : SymId × Target). IsGlobal p.1) sc.variables (s, Global s) h tt)

types_global : (ts : List Typed) (sc : Scope) → All (λ (p : SymId × Target). IsGlobal p.1) sc.variables → All (λ (p : SymId × Target). IsGlobal p.1) (fold with_type sc ts).variables
types_global [] sc h = h
types_global (d ∷ ts) sc h = types_global ts (with_type sc d) h

pub declared_global : (d : Declared) (sc : Scope) → All (λ (p : SymId × Target). IsGlobal p.1) sc.variables → All (λ (p : SymId × Target). IsGlobal p.1) (declared_in d sc).variables
unfolding declared_in
declared_global d sc h = types_global d.types (fold with_special sc d.specials) (specials_global d.specials sc h)
