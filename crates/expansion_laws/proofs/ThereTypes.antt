-- Types that forms write may be written with the symbols of the table.
use Rattle.std.specs.Prelude.{◌≡◌, refl, ℕ, zero, suc, ◌*◌, ℤ, pos, negsuc, nat_le, int_le, Bool, true, false, ◌&&◌, List, codes, Option, Some, None, if◌then◌else◌}
use Rattle.std.specs.List.{list_all}
use Rattle.std.specs.Option.{option_and_then}
use Rattle.std.specs.Str.{bytes_eq}
use Rattle.std.proofs.Common.{arith}
use Rattle.std.proofs.lemmas.Bool.{and_from}
use Rattle.std.proofs.lemmas.Bool.Decides.{nat_tests}
use Rattle.lisp_base.specs.declared.values.Val.{Val}
use Rattle.lisp_base.specs.declared.values.Val.TheVariants.{Int, Char, Sym, Ref}
use Rattle.lisp_base.specs.declared.types.Bound.{Bound}
use Rattle.lisp_base.specs.declared.types.Bound.TheVariants as bound
use Rattle.lisp_base.specs.Spec.{Spec, Named, Signed, Unsigned, Mod, Member, Eql, And, Or, Not, Specs, spec, spec_size}
use Rattle.lisp_base.specs.Tables.{Table, Object}
use Rattle.lisp_base.specs.Lawful.{is_integer_value, is_item, is_bound, is_width, has_lawful_parts, all_lawful_parts, most_parts, IsLawful}
use Rattle.type_spec.specs.Forms.{cons_at, is_nil, only_of, operator_of, type_at, word_at, width_of, count_of, item_of, integer_of, open_of, bound_of, upper_of, bounds_of, first_of}
use Rattle.type_spec.specs.Parsing.{items_within, with_operands, parsed, all_parsed, if_small, specifier}
use Rattle.expansion_laws.proofs.ThereLists.{Where, nothing_there, found_there, where_then, where_map, where_if, where_passed, where_all}

abbrev Passes : {A : Type 0} → (A → Bool) → A → Type 0
Passes f a = f a ≡ true

-- of several that are found, the first
pub where_first : {A : Type 0} {P : A → Type 0} (m n : Option A) → Where P m → Where P n → Where P (first_of m n)
where_first (Some a) n h k = h
where_first None n h k = k

either : {A B : Type 0} {Q : B → Type 0} (f : A → Option B) (b : Bool) (x y : Option A) → Where Q (option_and_then f x) → Where Q (option_and_then f y) →
    Where Q (option_and_then f (if b then x else y))
either f true x y h k = h
either f false x y h k = k

abbrev is_count : ℤ → Bool
is_count z = int_le (pos 1) z && is_integer_value z

abbrev Any : {A : Type 0} → A → Type 0
Any a = Unit {0}

anything : {A : Type 0} (m : Option A) → Where Any m
anything m = where_all (λ a. tt) m

module _ (heap : List Object) (table : Table) where
  width_lawful : (v : Val) → Where (Passes is_width) (width_of v)
  width_lawful (Int (pos n)) = where_passed (is_width n) n (λ h. h)
  width_lawful (Int (negsuc n)) = nothing_there
  width_lawful (Char c) = nothing_there
  width_lawful (Sym s) = nothing_there
  width_lawful (Ref o) = nothing_there

  count_lawful : (v : Val) → Where (Passes is_count) (count_of v)
  count_lawful (Int z) = where_passed (is_count z) z (λ h. h)
  count_lawful (Char c) = nothing_there
  count_lawful (Sym s) = nothing_there
  count_lawful (Ref o) = nothing_there

  integer_lawful : (v : Val) → Where (Passes is_integer_value) (integer_of v)
  integer_lawful (Int z) = where_passed (is_integer_value z) z (λ h. h)
  integer_lawful (Char c) = nothing_there
  integer_lawful (Sym s) = nothing_there
  integer_lawful (Ref o) = nothing_there

  item_lawful : (v : Val) → Where (Passes (is_item table)) (item_of table v)
  item_lawful v = where_passed (is_item table v) v (λ h. h)

  open_lawful : (o : Option (List ℕ)) → Where (Passes is_bound) (open_of o)
  open_lawful None = nothing_there
  open_lawful (Some w) = where_if (bytes_eq w (codes "*")) _ _ (found_there refl) nothing_there

  bound_lawful : (v : Val) → Where (Passes is_bound) (bound_of heap table v)
  bound_lawful (Int z) = where_passed (is_integer_value z) (bound.At z) (λ h. h)
  bound_lawful (Char c) = nothing_there
  bound_lawful (Sym s) = open_lawful (word_at table (Sym s))
  bound_lawful (Ref o) =
      where_then _ (where_then integer_of (anything (only_of heap (Ref o))) (λ v h. integer_lawful v)) (λ z h. found_there h)

  upper_lawful : (v : Val) → Where (Passes is_bound) (upper_of heap table v)
  upper_lawful v =
      where_if (is_nil v) _ _ (found_there refl) (where_then (bound_of heap table) (anything (only_of heap v)) (λ x h. bound_lawful x))

  abbrev BoundsPass : Bound × Bound → Type 0
  BoundsPass b = (is_bound b.0 && is_bound b.1) ≡ true

  bounds_lawful : (v : Val) → Where BoundsPass (bounds_of heap table v)
  bounds_lawful v =
      where_if (is_nil v) _ _ (found_there refl)
      (where_then _ (anything (cons_at heap v)) (λ p h. where_then _ (bound_lawful p.0) (λ lo l. where_then _ (upper_lawful p.1) (λ hi u. found_there (and_from _ _ l u)))))

  abbrev ItemsPass : List Val → Type 0
  ItemsPass vs = list_all (is_item table) vs ≡ true

  items_lawful : (n : ℕ) (v : Val) → Where ItemsPass (items_within n heap table v)
  items_lawful zero v = nothing_there
  items_lawful (suc n) v =
      where_if (is_nil v) _ _ (found_there refl)
      (where_then _ (anything (cons_at heap v)) (λ p h. where_then _ (item_lawful p.0) (λ x l. where_map _ (items_lawful n p.1) (λ xs ls. and_from _ _ l ls))))

  abbrev Parts : Spec → Type 0
  Parts t = has_lawful_parts table t ≡ true

  abbrev AllParts : Specs → Type 0
  AllParts ts = all_lawful_parts table ts ≡ true

  operands_lawful :
      (word : List ℕ) (v : Val) (items : Val → Option (List Val)) (one : Val → Option Spec) (all : Val → Option Specs) →
      ((x : Val) → Where ItemsPass (items x)) → ((x : Val) → Where Parts (one x)) → ((x : Val) → Where AllParts (all x)) →
      Where Parts (option_and_then (λ o. with_operands heap table o v items one all) (operator_of word))
  unfolding operator_of
  operands_lawful word v items one all i p a =
      either _ (bytes_eq word (codes "INTEGER")) _ _ (where_map _ (bounds_lawful v) (λ b h. h))
      (either _ (bytes_eq word (codes "SIGNED-BYTE")) _ _ (where_map Signed (where_then width_of (anything (only_of heap v)) (λ x h. width_lawful x)) (λ n h. h))
      (either _ (bytes_eq word (codes "UNSIGNED-BYTE")) _ _ (where_map Unsigned (where_then width_of (anything (only_of heap v)) (λ x h. width_lawful x)) (λ n h. h))
      (either _ (bytes_eq word (codes "MOD")) _ _ (where_map Mod (where_then count_of (anything (only_of heap v)) (λ x h. count_lawful x)) (λ n h. h))
      (either _ (bytes_eq word (codes "MEMBER")) _ _ (where_map Member (i v) (λ xs h. h))
      (either _ (bytes_eq word (codes "EQL")) _ _ (where_map Eql (where_then (item_of table) (anything (only_of heap v)) (λ x h. item_lawful x)) (λ x h. h))
      (either _ (bytes_eq word (codes "AND")) _ _ (where_map And (a v) (λ ts h. h))
      (either _ (bytes_eq word (codes "OR")) _ _ (where_map Or (a v) (λ ts h. h))
      (either _ (bytes_eq word (codes "NOT")) _ _ (where_map Not (where_then one (anything (only_of heap v)) (λ x h. p x)) (λ t h. h))
      nothing_there))))))))

  operator_lawful :
      (word : Option (List ℕ)) (v : Val) (items : Val → Option (List Val)) (one : Val → Option Spec) (all : Val → Option Specs) →
      ((x : Val) → Where ItemsPass (items x)) → ((x : Val) → Where Parts (one x)) → ((x : Val) → Where AllParts (all x)) →
      Where Parts (option_and_then (λ o. with_operands heap table o v items one all) (option_and_then operator_of word))
  operator_lawful None v items one all i p a = nothing_there
  operator_lawful (Some word) v items one all i p a = operands_lawful word v items one all i p a

  mutual
    unfolding parsed all_parsed

    parsed_lawful : (n : ℕ) (v : Val) → Where Parts (parsed n heap table v)
    parsed_lawful zero v = nothing_there
    parsed_lawful (suc n) v =
        where_first _ _ (where_map Named (anything (type_at table v)) (λ t h. refl))
        (where_then _ (anything (cons_at heap v)) (λ p h. operator_lawful (word_at table p.0) p.1 _ _ _ (items_lawful n) (parsed_lawful n) (all_lawful n)))

    all_lawful : (n : ℕ) (v : Val) → Where AllParts (all_parsed n heap table v)
    all_lawful zero v = nothing_there
    all_lawful (suc n) v =
        where_if (is_nil v) _ _ (found_there refl)
        (where_then _ (anything (cons_at heap v)) (λ p h. where_then _ (parsed_lawful n p.0) (λ t l. where_map (spec t) (all_lawful n p.1) (λ ts ls. and_from _ _ l ls))))

  pub specifier_lawful : (v : Val) → Where (IsLawful table) (specifier heap table v)
  unfolding specifier
  specifier_lawful v = where_then if_small (parsed_lawful (2 * most_parts) v) (λ t h. small t h)
    where
      small : (t : Spec) → Parts t → Where (IsLawful table) (if_small t)
      small t h = where_passed (nat_le (spec_size t) most_parts) t (λ k. record { parts = h; size = grind (arith, nat_tests) })
