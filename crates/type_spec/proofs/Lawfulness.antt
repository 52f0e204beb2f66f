-- What a form writes is lawful.
use Rattle.std.proofs.Common.{◌≡◌, ℕ, ℤ, pos, negsuc, Bool, true, false, ◌&&◌, List, [], ◌∷◌, Option, Some, None, if◌then◌else◌, int_le, refl, sym, ap, ◌∙◌}
use Rattle.std.specs.List.{list_all}
use Rattle.std.specs.Option.{option_and_then}
use Rattle.std.specs.Str.{bytes_eq}
use Rattle.std.specs.Prelude.{codes}
use Rattle.std.proofs.lemmas.Bool.{and_from}
use Rattle.lisp_base.specs.declared.values.Val.{Val}
use Rattle.lisp_base.specs.declared.values.Val.TheVariants.{Int, Char, Sym, Ref}
use Rattle.lisp_base.specs.declared.types.Bound.{Bound}
use Rattle.lisp_base.specs.declared.types.Bound.TheVariants as bound
use Rattle.lisp_base.specs.Spec.{Spec, Named, Integer, Signed, Unsigned, Mod, Member, Eql, And, Or, Not, Specs, no_spec, spec}
use Rattle.lisp_base.specs.Tables.{Table, Object}
use Rattle.lisp_base.specs.Lawful.{is_integer_value, is_item, is_bound, is_width, has_lawful_parts, all_lawful_parts}
use Rattle.type_spec.specs.Forms.{cons_at, is_nil, only_of, word_at, width_of, count_of, item_of, integer_of, open_of, bound_of, upper_of, bounds_of}
use Rattle.type_spec.specs.Writing.{Lists, Writes, WritesAll}
use Rattle.type_spec.proofs.Conses.{some_is, some_not_none, chosen}

-- what a step of a chain was given
pub record Stepped {A B : Type 0} (f : A → Option B) (o : Option A) (y : B) : Type 0 where
  pub from : A
  pub given : o ≡ Some from
  pub gives : f from ≡ Some y

pub stepped : {A B : Type 0} (f : A → Option B) (o : Option A) (y : B) → option_and_then f o ≡ Some y → Stepped f o y
stepped f None y e = absurd (some_not_none y (sym e))
stepped f (Some x) y e = record { from = x; given = refl; gives = e }

lawful_width : (v : Val) (bits : ℕ) → width_of v ≡ Some bits → is_width bits ≡ true
lawful_width (Int (pos n)) bits e = let k = chosen (is_width n) n bits e in ap is_width (sym k.1) ∙ k.0
lawful_width (Int (negsuc n)) bits e = absurd (some_not_none bits (sym e))
lawful_width (Char c) bits e = absurd (some_not_none bits (sym e))
lawful_width (Sym s) bits e = absurd (some_not_none bits (sym e))
lawful_width (Ref o) bits e = absurd (some_not_none bits (sym e))

lawful_count : (v : Val) (n : ℤ) → count_of v ≡ Some n → (int_le (pos 1) n && is_integer_value n) ≡ true
lawful_count (Int z) n e = let k = chosen (int_le (pos 1) z && is_integer_value z) z n e in ap (λ (x : ℤ). int_le (pos 1) x && is_integer_value x) (sym k.1) ∙ k.0
lawful_count (Char c) n e = absurd (some_not_none n (sym e))
lawful_count (Sym s) n e = absurd (some_not_none n (sym e))
lawful_count (Ref o) n e = absurd (some_not_none n (sym e))

lawful_integer : (v : Val) (n : ℤ) → integer_of v ≡ Some n → is_integer_value n ≡ true
lawful_integer (Int z) n e = let k = chosen (is_integer_value z) z n e in ap is_integer_value (sym k.1) ∙ k.0
lawful_integer (Char c) n e = absurd (some_not_none n (sym e))
lawful_integer (Sym s) n e = absurd (some_not_none n (sym e))
lawful_integer (Ref o) n e = absurd (some_not_none n (sym e))

lawful_item : (table : Table) (v x : Val) → item_of table v ≡ Some x → is_item table x ≡ true
lawful_item table v x e = let k = chosen (is_item table v) v x e in ap (is_item table) (sym k.1) ∙ k.0

lawful_open : (o : Option (List ℕ)) (b : Bound) → open_of o ≡ Some b → is_bound b ≡ true
lawful_open None b e = absurd (some_not_none b (sym e))
lawful_open (Some w) b e = ap is_bound (sym (chosen (bytes_eq w (codes "*")) bound.Open b e).1)

lawful_bound : (heap : List Object) (table : Table) (v : Val) (b : Bound) → bound_of heap table v ≡ Some b → is_bound b ≡ true
lawful_bound heap table (Int z) b e = let k = chosen (is_integer_value z) (bound.At z) b e in ap is_bound (sym k.1) ∙ k.0
lawful_bound heap table (Char c) b e = absurd (some_not_none b (sym e))
lawful_bound heap table (Sym s) b e = lawful_open (word_at table (Sym s)) b e
lawful_bound heap table (Ref o) b e =
    let past = stepped (λ z. Some (bound.Past z)) (option_and_then integer_of (only_of heap (Ref o))) b e in
    let only = stepped integer_of (only_of heap (Ref o)) past.from past.given in
    ap is_bound (sym (some_is _ _ past.gives)) ∙ lawful_integer only.from past.from only.gives

lawful_upper : (heap : List Object) (table : Table) (v : Val) (b : Bound) → upper_of heap table v ≡ Some b → is_bound b ≡ true
lawful_upper heap table v b e = by (is_nil v) e
  where
    by : (t : Bool) → (if t then Some bound.Open else option_and_then (bound_of heap table) (only_of heap v)) ≡ Some b → is_bound b ≡ true
    by true f = ap is_bound (sym (some_is bound.Open b f))
    by false f = let k = stepped (bound_of heap table) (only_of heap v) b f in lawful_bound heap table k.from b k.gives

lawful_bounds : (heap : List Object) (table : Table) (v : Val) (lo hi : Bound) → bounds_of heap table v ≡ Some (lo, hi) → (is_bound lo && is_bound hi) ≡ true
lawful_bounds heap table v lo hi e = by (is_nil v) e
  where
    both : Bound × Bound → Bool
    both p = is_bound p.0 && is_bound p.1

    rest : Val × Val → Option (Bound × Bound)
    rest p = option_and_then (λ lo. option_and_then (λ hi. Some (lo, hi)) (upper_of heap table p.1)) (bound_of heap table p.0)

    by : (t : Bool) → (if t then Some (bound.Open, bound.Open) else option_and_then rest (cons_at heap v)) ≡ Some (lo, hi) → (is_bound lo && is_bound hi) ≡ true
    by true f = ap both (sym (some_is (bound.Open, bound.Open) (lo, hi) f))
    by false f =
        let first = stepped rest (cons_at heap v) (lo, hi) f in
        let low = stepped (λ l. option_and_then (λ h. Some (l, h)) (upper_of heap table first.from.1)) (bound_of heap table first.from.0) (lo, hi) first.gives in
        let high = stepped (λ h. Some (low.from, h)) (upper_of heap table first.from.1) (lo, hi) low.gives in
        ap both (sym (some_is (low.from, high.from) (lo, hi) high.gives)) ∙
        and_from _ _ (lawful_bound heap table first.from.0 low.from low.given) (lawful_upper heap table first.from.1 high.from high.given)

lawful_items : (heap : List Object) (table : Table) (xs : List Val) (v : Val) → Lists heap table xs v → list_all (is_item table) xs ≡ true
lawful_items heap table [] v l = refl
lawful_items heap table (x ∷ xs) v l = and_from _ _ l.2 (lawful_items heap table xs l.0 l.3)

mutual
  pub lawful : (heap : List Object) (table : Table) (t : Spec) (form : Val) → Writes heap table t form → has_lawful_parts table t ≡ true
  lawful heap table (Named n) form w = refl
  lawful heap table (Integer lo hi) form w = lawful_bounds heap table w.0 lo hi w.2
  lawful heap table (Signed bits) form w = let k = stepped width_of (only_of heap w.0) bits w.2 in lawful_width k.from bits k.gives
  lawful heap table (Unsigned bits) form w = let k = stepped width_of (only_of heap w.0) bits w.2 in lawful_width k.from bits k.gives
  lawful heap table (Mod n) form w = let k = stepped count_of (only_of heap w.0) n w.2 in lawful_count k.from n k.gives
  lawful heap table (Member items) form w = lawful_items heap table items w.0 w.2
  lawful heap table (Eql item) form w = let k = stepped (item_of table) (only_of heap w.0) item w.2 in lawful_item table k.from item k.gives
  lawful heap table (And ts) form w = lawful_all heap table ts w.0 w.2
  lawful heap table (Or ts) form w = lawful_all heap table ts w.0 w.2
  lawful heap table (Not part) form w = lawful heap table part w.2.0 w.2.2

  pub lawful_all : (heap : List Object) (table : Table) (ts : Specs) (v : Val) → WritesAll heap table ts v → all_lawful_parts table ts ≡ true
  lawful_all heap table no_spec v w = refl
  lawful_all heap table (spec t ts) v w = and_from _ _ (lawful heap table t w.0 w.3) (lawful_all heap table ts w.1 w.4)
