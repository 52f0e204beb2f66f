-- What stands around a form: its place, and what names mean there (ANSI Common Lisp 3.1.1, 3.3.1).
use Rattle.std.specs.Prelude.{ℕ, Bool, false, ◌==◌, if◌then◌else◌, List, [], ◌∷◌, ◌++◌, Option, Some, None, fold}
use Rattle.lisp_base.specs.declared.values.Place.{Place}
use Rattle.lisp_base.specs.declared.values.SymId.{SymId}
use Rattle.lisp_base.specs.declared.values.Val.{Val}
use Rattle.lisp_base.specs.Spec.{Spec}
use Rattle.lisp_base.specs.Sort.{number_of, same}
use Rattle.lisp_base.specs.Tables.{Object}
use Rattle.lisp_forms.specs.Conses.{place_at}
use Rattle.declarations.specs.declared.policy.Policy.{Policy}
use Rattle.declarations.specs.Declarations.{Typed, Declared}
use Rattle.expansion.specs.declared.heads.Target.{Target}
use Rattle.expansion.specs.declared.heads.Target.TheVariants.{Lexical, Global}

-- a value that is there, or another
abbrev pub value_or : {A : Type 0} → Option A → A → A
value_or None other = other
value_or (Some a) other = a

abbrev pub same_symbol : SymId → SymId → Bool
same_symbol s t = number_of s == number_of t

abbrev pub same_target : Target → Target → Bool
same_target (Lexical m) (Lexical n) = m == n
same_target (Lexical m) (Global s) = false
same_target (Global s) (Lexical n) = false
same_target (Global s) (Global t) = same_symbol s t

-- A type that is declared of a variable: by the form that binds it, for each value that it is set to, or by another form, for each use too. A
-- new binding of a symbol's value ends what was declared of it before.
pub data Check : Type 0 where
  of_binding : Target → Spec → Check
  of_uses : Target → Spec → Check
  rebound : SymId → Check

-- The place of a form without one of its own; whether all places are this one, as in a function of the prelude; what names mean, the later ones
-- being the inner ones; and the policy.
pub record Scope : Type 0 where
  pub place : Place
  pub is_fixed : Bool
  pub variables : List (SymId × Target)
  pub checks : List Check
  pub functions : List (SymId × ℕ)
  pub blocks : List (SymId × ℕ)
  pub tags : List (Val × ℕ)
  pub policy : Policy

abbrev pub empty_scope : Place → Bool → Policy → Scope
empty_scope place is_fixed policy = record {
  place = place;
  is_fixed = is_fixed;
  variables = [];
  checks = [];
  functions = [];
  blocks = [];
  tags = [];
  policy = policy;
}

-- ---- places

abbrev pub own_place : Scope → Option Place → Place
own_place sc found = if sc.is_fixed then sc.place else value_or found sc.place

-- the scope of a form: its own place, where it has one
unfoldable pub at_form : List Object → Val → Scope → Scope
at_form heap v sc = record sc { place = own_place sc (place_at heap v) }

-- ---- what names mean

-- the last of a list that fits
abbrev pub later : {A : Type 0} → (A → Bool) → Option A → A → Option A
later fits found a = if fits a then Some a else found

abbrev pub last_fit : {A : Type 0} → (A → Bool) → List A → Option A
last_fit fits = fold (later fits) None

abbrev pub second : {A B : Type 0} → Option (A × B) → Option B
second None = None
second (Some p) = Some p.1

abbrev pub named : {B : Type 0} → SymId → SymId × B → Bool
named s p = same_symbol s p.0

-- the number of a local function, of a block, and of a tag, which is a symbol or an integer
unfoldable pub function_at : Scope → SymId → Option ℕ
function_at sc s = second (last_fit (named s) sc.functions)

unfoldable pub block_at : Scope → SymId → Option ℕ
block_at sc s = second (last_fit (named s) sc.blocks)

unfoldable pub tag_at : Scope → Val → Option ℕ
tag_at sc v = second (last_fit (λ (p : Val × ℕ). same v p.0) sc.tags)

-- what a variable's name means: a variable that is bound nowhere is the value of its symbol
unfoldable pub variable_at : Scope → SymId → Target
variable_at sc s = value_or (second (last_fit (named s) sc.variables)) (Global s)

-- ---- declared types

abbrev pub ends : Target → SymId → Bool
ends (Lexical n) s = false
ends (Global t) s = same_symbol t s

-- the types so far, and one more declaration
abbrev pub and_set : Target → List Spec → Check → List Spec
and_set t found (of_binding u spec) = if same_target t u then found ++ spec ∷ [] else found
and_set t found (of_uses u spec) = if same_target t u then found ++ spec ∷ [] else found
and_set t found (rebound s) = if ends t s then [] else found

abbrev pub and_used : Target → List Spec → Check → List Spec
and_used t found (of_binding u spec) = found
and_used t found (of_uses u spec) = if same_target t u then found ++ spec ∷ [] else found
and_used t found (rebound s) = if ends t s then [] else found

-- the types that are declared of a variable for each value that it is set to, and for each use
unfoldable pub types_set : Scope → Target → List Spec
types_set sc t = fold (and_set t) [] sc.checks

unfoldable pub types_used : Scope → Target → List Spec
types_used sc t = fold (and_used t) [] sc.checks

-- ---- scopes that grow

abbrev pub with_variable : SymId → Target → List Check → Scope → Scope
with_variable s t checks sc = record sc { variables = sc.variables ++ (s, t) ∷ []; checks = sc.checks ++ checks }

abbrev pub with_function : SymId → ℕ → Scope → Scope
with_function s n sc = record sc { functions = sc.functions ++ (s, n) ∷ [] }

abbrev pub with_block : SymId → ℕ → Scope → Scope
with_block s n sc = record sc { blocks = sc.blocks ++ (s, n) ∷ [] }

abbrev pub with_tag : Val → ℕ → Scope → Scope
with_tag v n sc = record sc { tags = sc.tags ++ (v, n) ∷ [] }

-- a variable that is declared special means the value of its symbol
abbrev pub with_special : Scope → SymId → Scope
with_special sc s = with_variable s (Global s) [] sc

abbrev pub with_type : Scope → Typed → Scope
with_type sc d = record sc { checks = sc.checks ++ of_uses (variable_at sc d.variable) d.spec ∷ [] }

abbrev pub with_policy : Policy → Scope → Scope
with_policy policy sc = record sc { policy = policy }

-- the scope within declarations of variables that the form doesn't bind
unfoldable pub declared_in : Declared → Scope → Scope
declared_in d sc = with_policy d.policy (fold with_type (fold with_special sc d.specials) d.types)
