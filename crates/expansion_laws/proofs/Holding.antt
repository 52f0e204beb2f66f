-- What names mean in a scope is bound round a node.
use Rattle.std.specs.Prelude.{◌≡◌, ℕ, suc, Bool, true, false, if◌then◌else◌, List, [], ◌∷◌, All, fold, Option, Some, None}
use Rattle.std.proofs.Common.{subst}
use Rattle.std.proofs.lemmas.List.Elements.{All-head, All-tail, All-push, All-weaker}
use Rattle.lisp_base.specs.declared.values.SymId.{SymId}
use Rattle.lisp_base.specs.declared.values.Val.{Val}
use Rattle.lisp_base.specs.Sort.{same}
use Rattle.lisp_base.specs.Tables.{Object}
use Rattle.declarations.specs.Declarations.{Typed, Declared}
use Rattle.core_form.specs.declared.tree.Variable.{Variable}
use Rattle.core_form.specs.declared.tree.Variable.TheVariants as variable
use Rattle.core_form.specs.Facts.{has_number, lexical_number, parameter_number, if_given}
use Rattle.core_form.specs.Checked as checked
use Rattle.core_form.specs.Checked.{parameter_numbers}
use Rattle.expansion.specs.declared.heads.Target.{Target}
use Rattle.expansion.specs.declared.heads.Target.TheVariants.{Lexical, Global}
use Rattle.expansion.specs.Scopes.{Scope, Check, value_or, at_form, later, last_fit, second, named, function_at, block_at, tag_at, variable_at, with_variable, with_function, with_block, with_tag, with_special, with_type, declared_in}
use Rattle.expansion.specs.Forms.{is_tag}
use Rattle.expansion.specs.Expanding.{Bound, target_of, new_checks, with_bound, with_all, with_some, parameters, parameter_some, definition_name, with_named, with_definitions, with_tags}
use Rattle.expansion_laws.specs.CheckedTrees.{Means, Holds}
use Rattle.expansion_laws.proofs.Among.{Among, first_there, among_left, among_right, among_tail, Wider}

-- ---- what is found

abbrev pub OnFound : {A : Type 0} → (A → Type 0) → Option A → Type 0
OnFound P None = Unit {0}
OnFound P (Some x) = P x

pub found_has : {A : Type 0} (P : A → Type 0) (o : Option A) (x : A) → OnFound P o → o ≡ Some x → P x
found_has {A = A} P o x h is = subst (λ (r : Option A). OnFound P r) is h

module _ {A : Type 0} (P : A → Type 0) (fits : A → Bool) where
  later_has : (b : Bool) (found : Option A) (a : A) → OnFound P found → P a → OnFound P (if b then Some a else found)
  later_has true found a h p = p
  later_has false found a h p = h

  last_has : (xs : List A) (found : Option A) → OnFound P found → All P xs → OnFound P (fold (later fits) found xs)
  last_has [] found h all = h
  last_has (x ∷ xs) found h all = last_has xs (later fits found x) (later_has (fits x) found x h (All-head P x xs all)) (All-tail P x xs all)

pub second_has : {A B : Type 0} (P : B → Type 0) (fits : A × B → Bool) (xs : List (A × B)) → All (λ (p : A × B). P p.1) xs → OnFound P (second (last_fit fits xs))
second_has {A = A} {B = B} P fits xs all = of_second (last_fit fits xs) (last_has (λ (p : A × B). P p.1) fits xs None tt all)
  where
    of_second : (o : Option (A × B)) → OnFound (λ (p : A × B). P p.1) o → OnFound P (second o)
    of_second None h = tt
    of_second (Some p) h = h

module _ (sc : Scope) (round : checked.Scope) (holds : Holds sc round) where
  pub function_known : (s : SymId) (f : ℕ) → function_at sc s ≡ Some f → has_number f round.functions ≡ true
  unfolding function_at
  function_known s f is = found_has (λ n. has_number n round.functions ≡ true) (second (last_fit (named s) sc.functions)) f (second_has (λ n. has_number n round.functions ≡ true) (named s) sc.functions holds.functions) is

  pub block_known : (s : SymId) (b : ℕ) → block_at sc s ≡ Some b → has_number b round.blocks ≡ true
  unfolding block_at
  block_known s b is = found_has (λ n. has_number n round.blocks ≡ true) (second (last_fit (named s) sc.blocks)) b (second_has (λ n. has_number n round.blocks ≡ true) (named s) sc.blocks holds.blocks) is

  pub tag_known : (v : Val) (t : ℕ) → tag_at sc v ≡ Some t → has_number t round.tags ≡ true
  unfolding tag_at
  tag_known v t is = found_has (λ n. has_number n round.tags ≡ true) (second (last_fit (λ (p : Val × ℕ). same v p.0) sc.tags)) t (second_has (λ n. has_number n round.tags ≡ true) (λ (p : Val × ℕ). same v p.0) sc.tags holds.tags) is

  pub variable_known : (s : SymId) → Means round.variables (variable_at sc s)
  unfolding variable_at
  variable_known s = meant (second (last_fit (named s) sc.variables)) (second_has (Means round.variables) (named s) sc.variables holds.variables)
    where
      meant : (o : Option Target) → OnFound (Means round.variables) o → Means round.variables (value_or o (Global s))
      meant None h = tt
      meant (Some t) h = h

-- ---- with more bound round it

means_wider : (xs ys : List ℕ) → Among xs ys → (t : Target) → Means xs t → Means ys t
means_wider xs ys f (Lexical n) h = f n h
means_wider xs ys f (Global s) h = tt

pub holds_wider : (sc : Scope) (a b : checked.Scope) → Wider a b → Holds sc a → Holds sc b
holds_wider sc a b wider h = record {
  variables = All-weaker (λ (p : SymId × Target). Means a.variables p.1) (λ (p : SymId × Target). Means b.variables p.1) (λ (p : SymId × Target). means_wider a.variables b.variables wider.variables p.1) sc.variables h.variables;
  functions = All-weaker (λ (p : SymId × ℕ). has_number p.1 a.functions ≡ true) (λ (p : SymId × ℕ). has_number p.1 b.functions ≡ true) (λ (p : SymId × ℕ). wider.functions p.1) sc.functions h.functions;
  blocks = All-weaker (λ (p : SymId × ℕ). has_number p.1 a.blocks ≡ true) (λ (p : SymId × ℕ). has_number p.1 b.blocks ≡ true) (λ (p : SymId × ℕ). wider.blocks p.1) sc.blocks h.blocks;
  tags = All-weaker (λ (p : Val × ℕ). has_number p.1 a.tags ≡ true) (λ (p : Val × ℕ). has_number p.1 b.tags ≡ true) (λ (p : Val × ℕ). wider.tags p.1) sc.tags h.tags;
}

-- ---- scopes that grow

pub holds_at : (heap : List Object) (v : Val) (sc : Scope) (round : checked.Scope) → Holds sc round → Holds (at_form heap v sc) round
unfolding at_form
holds_at heap v sc round h = record { variables = h.variables; functions = h.functions; blocks = h.blocks; tags = h.tags }

pub holds_variable : (s : SymId) (t : Target) (checks : List Check) (sc : Scope) (round : checked.Scope) → Means round.variables t → Holds sc round → Holds (with_variable s t checks sc) round
holds_variable s t checks sc round m h = record {
  variables = All-push (λ (p : SymId × Target). Means round.variables p.1) sc.variables (s, t) h.variables m;
  functions = h.functions;
  blocks = h.blocks;
  tags = h.tags;
}

pub holds_function : (s : SymId) (n : ℕ) (sc : Scope) (round : checked.Scope) → has_number n round.functions ≡ true → Holds sc round → Holds (with_function s n sc) round
holds_function s n sc round m h = record {
  variables = h.variables;
  functions = All-push (λ (p : SymId × ℕ). has_number p.1 round.functions ≡ true) sc.functions (s, n) h.functions m;
  blocks = h.blocks;
  tags = h.tags;
}

pub holds_block : (s : SymId) (n : ℕ) (sc : Scope) (round : checked.Scope) → has_number n round.blocks ≡ true → Holds sc round → Holds (with_block s n sc) round
holds_block s n sc round m h = record {
  variables = h.variables;
  functions = h.functions;
  blocks = All-push (λ (p : SymId × ℕ). has_number p.1 round.blocks ≡ true) sc.blocks (s, n) h.blocks m;
  tags = h.tags;
}

holds_tag : (v : Val) (n : ℕ) (sc : Scope) (round : checked.Scope) → has_number n round.tags ≡ true → Holds sc round → Holds (with_tag v n sc) round
holds_tag v n sc round m h = record {
  variables = h.variables;
  functions = h.functions;
  blocks = h.blocks;
  tags = All-push (λ (p : Val × ℕ). has_number p.1 round.tags ≡ true) sc.tags (v, n) h.tags m;
}

-- ---- declarations

holds_specials : (ss : List SymId) (sc : Scope) (round : checked.Scope) → Holds sc round → Holds (fold with_special sc ss) round
holds_specials [] sc round h = h
holds_specials (s ∷ ss) sc round h = holds_specials ss (with_special sc s) round (holds_variable s (Global s) [] sc round tt h)

holds_types : (ds : List Typed) (sc : Scope) (round : checked.Scope) → Holds sc round → Holds (fold with_type sc ds) round
holds_types [] sc round h = h
holds_types (d ∷ ds) sc round h = holds_types ds (with_type sc d) round (record { variables = h.variables; functions = h.functions; blocks = h.blocks; tags = h.tags })

pub holds_declared : (d : Declared) (sc : Scope) (round : checked.Scope) → Holds sc round → Holds (declared_in d sc) round
unfolding declared_in
holds_declared d sc round h =
    let k : Holds (fold with_type (fold with_special sc d.specials) d.types) round = holds_types d.types (fold with_special sc d.specials) round (holds_specials d.specials sc round h) in
    record { variables = k.variables; functions = k.functions; blocks = k.blocks; tags = k.tags }

-- ---- parameters

target_means : (v : Variable) (xs : List ℕ) → Among (lexical_number v) xs → Means xs (target_of v)
target_means (variable.Lexical n s) xs f = f n (first_there n [])
target_means (variable.Special s) xs f = tt

pub holds_bound : (b : Bound) (sc : Scope) (round : checked.Scope) → Among (parameter_number b.1) round.variables → Holds sc round → Holds (with_bound sc b) round
unfolding with_bound
holds_bound b sc round f h = holds_variable b.0.variable (target_of b.1.variable) (new_checks b.1.variable b.0.types) sc round (target_means b.1.variable round.variables f) h

pub holds_all : (bs : List Bound) (sc : Scope) (round : checked.Scope) → Among (parameter_numbers (parameters bs)) round.variables → Holds sc round → Holds (with_all sc bs) round
holds_all [] sc round f h = h
holds_all (b ∷ bs) sc round f h =
    holds_all bs (with_bound sc b) round
    (λ n there. f n (among_right (parameter_number b.1) (parameter_numbers (parameters bs)) n there))
    (holds_bound b sc round (λ n there. f n (among_left (parameter_number b.1) (parameter_numbers (parameters bs)) n there)) h)

pub holds_some : (o : Option Bound) (sc : Scope) (round : checked.Scope) → Among (parameter_numbers (if_given (parameter_some o))) round.variables → Holds sc round → Holds (with_some sc o) round
holds_some None sc round f h = h
holds_some (Some b) sc round f h = holds_bound b sc round (λ n there. f n (among_left (parameter_number b.1) [] n there)) h

-- ---- local functions and tags

-- the numbers of definitions
abbrev pub counted : ℕ → List Val → List ℕ
counted n [] = []
counted n (v ∷ vs) = n ∷ counted (suc n) vs

holds_named : (o : Option SymId) (n : ℕ) (sc : Scope) (round : checked.Scope) → has_number n round.functions ≡ true → Holds sc round → Holds (with_named o n sc) round
holds_named None n sc round there h = h
holds_named (Some s) n sc round there h = holds_function s n sc round there h

pub holds_definitions : (heap : List Object) (n : ℕ) (vs : List Val) (sc : Scope) (round : checked.Scope) → Among (counted n vs) round.functions → Holds sc round → Holds (with_definitions heap n vs sc) round
holds_definitions heap n [] sc round f h = h
holds_definitions heap n (v ∷ vs) sc round f h =
    holds_definitions heap (suc n) vs (with_named (definition_name sc heap v) n sc) round
    (among_tail n (counted (suc n) vs) round.functions f)
    (holds_named (definition_name sc heap v) n sc round (f n (first_there n (counted (suc n) vs))) h)

-- the numbers of tags
abbrev pub tags_counted : ℕ → List Val → List ℕ
tags_counted n [] = []
tags_counted n (v ∷ vs) = if is_tag v then n ∷ tags_counted (suc n) vs else tags_counted n vs

tags_step : (n : ℕ) (v : Val) (vs : List Val) (sc : Scope) (round : checked.Scope) (b : Bool) → Among (if b then n ∷ tags_counted (suc n) vs else tags_counted n vs) round.tags → Holds sc round → ((m : ℕ) (own : Scope) → Among (tags_counted m vs) round.tags → Holds own round → Holds (with_tags m vs own) round) → Holds (if b then with_tags (suc n) vs (with_tag v n sc) else with_tags n vs sc) round
tags_step n v vs sc round true f h rest = rest (suc n) (with_tag v n sc) (among_tail n (tags_counted (suc n) vs) round.tags f) (holds_tag v n sc round (f n (first_there n (tags_counted (suc n) vs))) h)
tags_step n v vs sc round false f h rest = rest n sc f h

pub holds_tags : (n : ℕ) (vs : List Val) (sc : Scope) (round : checked.Scope) → Among (tags_counted n vs) round.tags → Holds sc round → Holds (with_tags n vs sc) round
holds_tags n [] sc round f h = h
holds_tags n (v ∷ vs) sc round f h = tags_step n v vs sc round (is_tag v) f h (λ m own g k. holds_tags m vs own round g k)
