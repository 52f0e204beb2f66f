-- The base names are all different, so each is found at its own place.
use Rattle.std.proofs.Common.{◌≡◌, ◌<◌, ℕ, zero, suc, ◌+◌, Bool, true, false, not, ◌&&◌, cond, List, [], ◌∷◌, ◌++◌, length, map, Some, None, refl, ap, sym, ◌∙◌, slice_get, nat_lt, arith}
use Rattle.std.specs.Str.{bytes_eq}
use Rattle.std.specs.List.{list_any, position_or_len}
use Rattle.std.proofs.lemmas.Bool.{true≢false, lt-ltb}
use Rattle.std.proofs.lemmas.List.{append-nil, length-append, length-map, map-id}
use Rattle.std.proofs.lemmas.List.Folds.{list_any_at}
use Rattle.std.proofs.lemmas.Option.{slice_get_within, get_or_from_slice_get}
use Rattle.std.proofs.lemmas.Slice.Eq.{bytes_eq-Decides}
use Rattle.lisp_base.specs.declared.values.SymKind.TheVariants as kinds
use Rattle.lisp_base.specs.BaseNames.{base_names, lambda_list_names, primitive_names, special_operators, builtin_macros, defining_macros, macro_names, direct_names, left_out_names, prelude_names, helper_names}
use Rattle.lisp_base.specs.Sort.{symbol}
use Rattle.lisp_base.specs.Tables.{base_symbols, found_or_added, is_symbol, make_symbol, plain_symbol}
use Rattle.lisp_base.specs.Laws.{BaseNamesAreFound, BaseSymbolsAreFound, SortsAreBaseNames}

-- each name is none of the later ones
abbrev differ : List (List ℕ) → Bool
differ [] = true
differ (x ∷ xs) = not (list_any (λ y. bytes_eq y x) xs) && differ xs

base_names_differ : differ base_names ≡ true
unfolding base_names helper_names left_out_names lambda_list_names
base_names_differ = refl

pub sorts : SortsAreBaseNames
unfolding base_names lambda_list_names primitive_names special_operators builtin_macros defining_macros macro_names direct_names left_out_names prelude_names helper_names
sorts = record {
  primitives = refl;
  operators = refl;
  macros = refl;
  direct_calls = refl;
  left_out = refl;
  functions = refl;
  helpers = refl;
  primitives_named = refl;
}

-- a test that fails throughout a list fails at each place
absent : (p : List ℕ → Bool) (xs : List (List ℕ)) (n : ℕ) (y : List ℕ) → list_any p xs ≡ false → slice_get xs n ≡ Some y → p y ≡ false
absent p xs n y none e = by (p y) refl
  where
    by : (b : Bool) → p y ≡ b → b ≡ false
    by false h = refl
    by true h = absurd (true≢false (sym (list_any_at p xs n y (slice_get_within xs n y e) (ap p (get_or_from_slice_get xs n y y e) ∙ h)) ∙ none))

first_part : (a b : Bool) → (not a && b) ≡ true → a ≡ false
first_part false b h = refl
first_part true b h = absurd (cc)

second_part : (a b : Bool) → (a && b) ≡ true → b ≡ true
second_part true b h = h
second_part false b h = absurd (cc)

module _ {X : Type 0} (p : X → Bool) (f : List ℕ → X) (name : List ℕ) (same : (y : List ℕ) → p (f y) ≡ bytes_eq name y) (others : List X) where
  at_place : (names : List (List ℕ)) (n : ℕ) → differ names ≡ true → slice_get names n ≡ Some name → position_or_len p (map f names ++ others) ≡ n
  at_place [] n h e = absurd (cc)
  at_place (x ∷ xs) zero h e =
      let here : bytes_eq name x ≡ true = (bytes_eq-Decides name x).1 (cc) in
      ap (λ b. cond (not b) (1 + position_or_len p (map f xs ++ others)) 0) (same x ∙ here)
  at_place (x ∷ xs) (suc n) h e =
      let other : bytes_eq name x ≡ false = absent (λ y. bytes_eq y x) xs n name (first_part (list_any (λ y. bytes_eq y x) xs) (differ xs) h) e in
      let after : position_or_len p (map f xs ++ others) ≡ n = at_place xs n (second_part (not (list_any (λ y. bytes_eq y x) xs)) (differ xs) h) e in
      let next : 1 + position_or_len p (map f xs ++ others) ≡ suc n = omega arith in
      ap (λ b. cond (not b) (1 + position_or_len p (map f xs ++ others)) 0) (same x ∙ other) ∙ next

pub computed : BaseSymbolsAreFound
computed n name e =
    ap symbol (ap (position_or_len (bytes_eq name)) (sym (append-nil (map (λ (y : List ℕ). y) base_names) ∙ map-id base_names))
    ∙ at_place (bytes_eq name) (λ y. y) name (λ y. refl) [] base_names n base_names_differ e)

and_true : (b : Bool) → (b && true) ≡ b
and_true true = refl
and_true false = refl

pub found : BaseNamesAreFound
found t n name begins e =
    let place : position_or_len (is_symbol name kinds.Plain) (base_symbols ++ begins.0) ≡ n = at_place (is_symbol name kinds.Plain) plain_symbol name (λ y. and_true (bytes_eq name y)) begins.0 base_names n base_names_differ e in
    let here : position_or_len (is_symbol name kinds.Plain) t.symbols ≡ n = ap (position_or_len (is_symbol name kinds.Plain)) begins.1 ∙ place in
    let long : length t.symbols ≡ length base_names + length begins.0 = ap length begins.1 ∙ (length-append base_symbols begins.0 ∙ ap (λ m. m + length begins.0) (length-map base_names plain_symbol)) in
    let within : nat_lt n (length t.symbols) ≡ true = lt-ltb n (length t.symbols) (shorter n (length base_names) (length begins.0) (length t.symbols) (slice_get_within base_names n name e) long) in
    ap (λ o. found_or_added o (make_symbol name kinds.Plain) t)
    (ap (λ m. cond (nat_lt m (length t.symbols)) (Some m) None) here ∙ ap (λ b. cond b (Some n) None) within)
  where
    shorter : (n a b m : ℕ) → n < a → m ≡ a + b → n < m
    shorter n a b m h k = omega arith
