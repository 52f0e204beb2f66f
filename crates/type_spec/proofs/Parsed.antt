-- The specifier that a form writes is the one that the function finds.
use Rattle.std.proofs.Common.{◌≡◌, ℕ, zero, suc, ◌+◌, ◌*◌, ◌<◌, ◌≤◌, ◌⊎◌, inl, inr, Bool, true, false, nat_le, List, [], ◌∷◌, length, Option, Some, None, if◌then◌else◌, arith, refl, sym, ap, ◌∙◌, subst}
use Rattle.std.specs.Option.{option_and_then, option_map}
use Rattle.std.proofs.lemmas.Bool.{le-leb}
use Rattle.std.proofs.lemmas.Bool.Decides.{leb_tells}
use Rattle.lisp_base.specs.declared.values.Val.{Val}
use Rattle.lisp_base.specs.declared.values.Val.TheVariants.{Int, Char, Sym, Ref}
use Rattle.lisp_base.specs.declared.types.Bound.{Bound}
use Rattle.lisp_base.specs.declared.types.TypeName.{TypeName}
use Rattle.lisp_base.specs.Spec.{Spec, Named, Integer, Signed, Unsigned, Mod, Member, Eql, And, Or, Not, Specs, no_spec, spec, spec_size, specs_size}
use Rattle.lisp_base.specs.Tables.{Table, Object}
use Rattle.lisp_base.specs.Lawful.{is_item, most_parts}
use Rattle.type_spec.specs.declared.words.Operator.{Operator}
use Rattle.type_spec.specs.declared.words.Operator.TheVariants as op
use Rattle.type_spec.specs.Forms.{cons_at, is_nil, only_of, operator_at, type_at, width_of, count_of, item_of, bounds_of, first_of}
use Rattle.type_spec.specs.Writing.{IsCall, Lists, Writes, WritesAll, WritesNone}
use Rattle.type_spec.specs.Parsing.{items_within, with_operands, parsed, all_parsed, if_small, specifier}
use Rattle.type_spec.proofs.Conses.{some_is, some_not_none, chosen}
use Rattle.type_spec.proofs.Parting.{has_node}

-- ---- lists

-- a list that is a cons isn't empty
cons_no_nil : (heap : List Object) (v : Val) (p : Val × Val) → cons_at heap v ≡ Some p → is_nil v ≡ false
cons_no_nil heap (Int z) p e = absurd (some_not_none p (sym e))
cons_no_nil heap (Char c) p e = absurd (some_not_none p (sym e))
cons_no_nil heap (Sym s) p e = absurd (some_not_none p (sym e))
cons_no_nil heap (Ref o) p e = refl

-- a choice by a Boolean that is known
if_true : {A : Type 0} (b : Bool) (x y : A) → b ≡ true → (if b then x else y) ≡ x
if_true true x y e = refl
if_true false x y e = cc

if_false : {A : Type 0} (b : Bool) (x y : A) → b ≡ false → (if b then x else y) ≡ y
if_false true x y e = cc
if_false false x y e = refl

-- both where two steps have results
both : {A B C : Type 0} (f : A → Option B) (g : A → B → Option C) (o : Option A) (x : A) (y : B) → o ≡ Some x → f x ≡ Some y → option_and_then (λ a. option_and_then (g a) (f a)) o ≡ g x y
both f g o x y e d = ap (option_and_then (λ a. option_and_then (g a) (f a))) e ∙ ap (option_and_then (g x)) d

item_is : (table : Table) (x : Val) → is_item table x ≡ true → item_of table x ≡ Some x
item_is table x e = if_true (is_item table x) (Some x) None e

abbrev next_items : ℕ → List Object → Table → Val × Val → Val → Option (List Val)
next_items n heap table p x = option_map (λ xs. x ∷ xs) (items_within n heap table p.1)

abbrev more_items : ℕ → List Object → Table → Val × Val → Option (List Val)
more_items n heap table p = option_and_then (next_items n heap table p) (item_of table p.0)

pub items_found : (n : ℕ) (heap : List Object) (table : Table) (xs : List Val) (v : Val) → Lists heap table xs v → length xs < n → items_within n heap table v ≡ Some xs
items_found zero heap table xs v l h = absurd (omega arith)
items_found (suc n) heap table [] v l h = if_true (is_nil v) _ _ l
items_found (suc n) heap table (x ∷ xs) v l h =
    if_false (is_nil v) (Some []) (option_and_then (more_items n heap table) (cons_at heap v)) (cons_no_nil heap v (x, l.0) l.1)
    ∙ (both (λ (p : Val × Val). item_of table p.0) (next_items n heap table) (cons_at heap v) (x, l.0) x l.1 (item_is table x l.2)
    ∙ ap (option_map (λ (ys : List Val). x ∷ ys)) (items_found n heap table xs l.0 l.3 (omega arith)))

-- ---- a call

no_name : (heap : List Object) (table : Table) (v : Val) (p : Val × Val) → cons_at heap v ≡ Some p → type_at table v ≡ None
no_name heap table (Int z) p e = refl
no_name heap table (Char c) p e = refl
no_name heap table (Sym s) p e = absurd (some_not_none p (sym e))
no_name heap table (Ref o) p e = refl

abbrev operands_read : ℕ → List Object → Table → Val × Val → Operator → Option Spec
operands_read n heap table p o = with_operands heap table o p.1 (items_within n heap table) (parsed n heap table) (all_parsed n heap table)

abbrev call_read : ℕ → List Object → Table → Val × Val → Option Spec
call_read n heap table p = option_and_then (operands_read n heap table p) (operator_at table p.0)

pub call_parsed : (n : ℕ) (heap : List Object) (table : Table) (o : Operator) (v d : Val) → IsCall heap table o v d → parsed (suc n) heap table v ≡ operands_read n heap table (v, d) o
unfolding parsed all_parsed
call_parsed n heap table o v d c =
    ap (λ (t : Option _). first_of (option_map Named t) (option_and_then (call_read n heap table) (cons_at heap v))) (no_name heap table v (c.head, d) c.cons)
    ∙ both (λ (p : Val × Val). operator_at table p.0) (operands_read n heap table) (cons_at heap v) (c.head, d) o c.cons c.word

abbrev next_specs : ℕ → List Object → Table → Val × Val → Spec → Option Specs
next_specs n heap table p t = option_map (spec t) (all_parsed n heap table p.1)

abbrev more_specs : ℕ → List Object → Table → Val × Val → Option Specs
more_specs n heap table p = option_and_then (next_specs n heap table p) (parsed n heap table p.0)

mutual
  unfolding parsed all_parsed

  -- with so much room the specifier is found
  pub found : (n : ℕ) (heap : List Object) (table : Table) (t : Spec) (v : Val) → Writes heap table t v → 2 * spec_size t ≤ n → parsed n heap table v ≡ Some t
  found zero heap table (Named name) v w h = absurd (omega arith)
  found zero heap table (Integer lo hi) v w h = absurd (omega arith)
  found zero heap table (Signed bits) v w h = absurd (omega arith)
  found zero heap table (Unsigned bits) v w h = absurd (omega arith)
  found zero heap table (Mod k) v w h = absurd (omega arith)
  found zero heap table (Member items) v w h = absurd (omega arith)
  found zero heap table (Eql item) v w h = absurd (omega arith)
  found zero heap table (And ts) v w h = absurd (omega arith)
  found zero heap table (Or ts) v w h = absurd (omega arith)
  found zero heap table (Not t) v w h = absurd (omega arith)
  found (suc n) heap table (Named name) v w h =
      ap (λ (t : Option _). first_of (option_map Named t) (option_and_then (call_read n heap table) (cons_at heap v))) w
  found (suc n) heap table (Integer lo hi) v w h =
      call_parsed n heap table op.Integer v w.0 w.1 ∙ ap (option_map (λ (b : Bound × Bound). Integer b.0 b.1)) w.2
  found (suc n) heap table (Signed bits) v w h = call_parsed n heap table op.Signed v w.0 w.1 ∙ ap (option_map Signed) w.2
  found (suc n) heap table (Unsigned bits) v w h = call_parsed n heap table op.Unsigned v w.0 w.1 ∙ ap (option_map Unsigned) w.2
  found (suc n) heap table (Mod k) v w h = call_parsed n heap table op.Mod v w.0 w.1 ∙ ap (option_map Mod) w.2
  found (suc n) heap table (Member items) v w h =
      call_parsed n heap table op.Member v w.0 w.1 ∙ ap (option_map Member) (items_found n heap table items w.0 w.2 (omega arith))
  found (suc n) heap table (Eql item) v w h = call_parsed n heap table op.Eql v w.0 w.1 ∙ ap (option_map Eql) w.2
  found (suc n) heap table (And ts) v w h =
      call_parsed n heap table op.And v w.0 w.1 ∙ ap (option_map And) (found_all n heap table ts w.0 w.2 (omega arith))
  found (suc n) heap table (Or ts) v w h =
      call_parsed n heap table op.Or v w.0 w.1 ∙ ap (option_map Or) (found_all n heap table ts w.0 w.2 (omega arith))
  found (suc n) heap table (Not t) v w h =
      call_parsed n heap table op.Not v w.0 w.1 ∙ (ap (λ (x : Option Val). option_map Not (option_and_then (parsed n heap table) x)) w.2.1 ∙ ap (option_map Not) (found n heap table t w.2.0 w.2.2 (omega arith)))

  pub found_all : (n : ℕ) (heap : List Object) (table : Table) (ts : Specs) (v : Val) → WritesAll heap table ts v → 2 * specs_size ts + 1 ≤ n → all_parsed n heap table v ≡ Some ts
  found_all zero heap table no_spec v w h = absurd (omega arith)
  found_all zero heap table (spec t ts) v w h = absurd (omega arith)
  found_all (suc n) heap table no_spec v w h = if_true (is_nil v) _ _ w
  found_all (suc n) heap table (spec t ts) v w h =
      if_false (is_nil v) (Some no_spec) (option_and_then (more_specs n heap table) (cons_at heap v)) (cons_no_nil heap v (w.0, w.1) w.2)
      ∙ (both (λ (p : Val × Val). parsed n heap table p.0) (next_specs n heap table) (cons_at heap v) (w.0, w.1) t w.2 (found n heap table t w.0 w.3 (omega arith))
      ∙ ap (option_map (spec t)) (found_all n heap table ts w.1 w.4 (omega (arith, has_node t))))

-- ---- what is found is what the form writes

mapped : {A B : Type 0} (f : A → B) (o : Option A) (y : B) → option_map f o ≡ Some y → (x : A) × (o ≡ Some x) × (f x ≡ y)
mapped f None y e = absurd (some_not_none y (sym e))
mapped f (Some x) y e = (x, refl, some_is (f x) y e)

bound : {A B : Type 0} (f : A → Option B) (o : Option A) (y : B) → option_and_then f o ≡ Some y → (x : A) × (o ≡ Some x) × (f x ≡ Some y)
bound f None y e = absurd (some_not_none y (sym e))
bound f (Some x) y e = (x, refl, e)

-- a choice that isn't the first thing is the second
not_first : {A : Type 0} (b : Bool) (x : A) (o : Option A) → ((b ≡ true) × (Some x ≡ (if b then Some x else o))) ⊎ ((b ≡ false) × (o ≡ (if b then Some x else o)))
not_first true x o = inl (refl, refl)
not_first false x o = inr (refl, refl)

item_found : (table : Table) (v x : Val) → item_of table v ≡ Some x → (v ≡ x) × (is_item table v ≡ true)
item_found table v x e = let c = chosen (is_item table v) v x e in (c.1, c.0)

abbrev ListsAll : ℕ → List Object → Table → Type 0
ListsAll n heap table = (v : Val) (xs : List Val) → items_within n heap table v ≡ Some xs → Lists heap table xs v

items_more : (n : ℕ) (heap : List Object) (table : Table) (v : Val) (xs : List Val) → option_and_then (more_items n heap table) (cons_at heap v) ≡ Some xs → ListsAll n heap table → Lists heap table xs v
items_more n heap table v xs e below =
    let p = bound (more_items n heap table) (cons_at heap v) xs e in
    let x = bound (next_items n heap table p.0) (item_of table p.0.0) xs p.2 in
    let ys = mapped (λ (zs : List Val). x.0 ∷ zs) (items_within n heap table p.0.1) xs x.2 in
    let i = item_found table p.0.0 x.0 x.1 in
    subst (λ (zs : List Val). Lists heap table zs v) ys.2 (p.0.1, p.1 ∙ ap (λ (z : Val). Some (z, p.0.1)) i.0, subst (λ (z : Val). is_item table z ≡ true) i.0 i.1, below p.0.1 ys.0 ys.1)

items_sound : (n : ℕ) (heap : List Object) (table : Table) → ListsAll n heap table
items_sound zero heap table v xs e = absurd (some_not_none xs (sym e))
items_sound (suc n) heap table v xs e =
    elim (not_first (is_nil v) [] (option_and_then (more_items n heap table) (cons_at heap v))) [
      | inl h ↦ subst (λ (zs : List Val). Lists heap table zs v) (some_is [] xs (h.1 ∙ e)) h.0
      | inr h ↦ items_more n heap table v xs (h.1 ∙ e) (items_sound n heap table)
    ]

abbrev WritesOf : ℕ → List Object → Table → Type 0
WritesOf n heap table = (v : Val) (t : Spec) → parsed n heap table v ≡ Some t → Writes heap table t v

abbrev WritesAllOf : ℕ → List Object → Table → Type 0
WritesAllOf n heap table = (v : Val) (ts : Specs) → all_parsed n heap table v ≡ Some ts → WritesAll heap table ts v

abbrev Written : List Object → Table → Val → Spec → Type 0
Written heap table v t = Writes heap table t v

call_sound : (n : ℕ) (heap : List Object) (table : Table) (o : Operator) (v d : Val) (t : Spec) → IsCall heap table o v d → operands_read n heap table (v, d) o ≡ Some t → WritesOf n heap table → WritesAllOf n heap table → Writes heap table t v
call_sound n heap table op.Integer v d t c e one all =
    let b = mapped (λ (b : Bound × Bound). Integer b.0 b.1) (bounds_of heap table d) t e in subst (Written heap table v) b.2 (d, c, b.1)
call_sound n heap table op.Signed v d t c e one all =
    let b = mapped Signed (option_and_then width_of (only_of heap d)) t e in subst (Written heap table v) b.2 (d, c, b.1)
call_sound n heap table op.Unsigned v d t c e one all =
    let b = mapped Unsigned (option_and_then width_of (only_of heap d)) t e in subst (Written heap table v) b.2 (d, c, b.1)
call_sound n heap table op.Mod v d t c e one all =
    let b = mapped Mod (option_and_then count_of (only_of heap d)) t e in subst (Written heap table v) b.2 (d, c, b.1)
call_sound n heap table op.Member v d t c e one all =
    let b = mapped Member (items_within n heap table d) t e in subst (Written heap table v) b.2 (d, c, items_sound n heap table d b.0 b.1)
call_sound n heap table op.Eql v d t c e one all =
    let b = mapped Eql (option_and_then (item_of table) (only_of heap d)) t e in subst (Written heap table v) b.2 (d, c, b.1)
call_sound n heap table op.And v d t c e one all =
    let b = mapped And (all_parsed n heap table d) t e in subst (Written heap table v) b.2 (d, c, all d b.0 b.1)
call_sound n heap table op.Or v d t c e one all =
    let b = mapped Or (all_parsed n heap table d) t e in subst (Written heap table v) b.2 (d, c, all d b.0 b.1)
call_sound n heap table op.Not v d t c e one all =
    let b = mapped Not (option_and_then (parsed n heap table) (only_of heap d)) t e in
    let x = bound (parsed n heap table) (only_of heap d) b.0 b.1 in
    subst (Written heap table v) b.2 (d, c, (x.0, x.1, one x.0 b.0 x.2))

head_sound : (n : ℕ) (heap : List Object) (table : Table) (v : Val) (t : Spec) → option_and_then (call_read n heap table) (cons_at heap v) ≡ Some t → WritesOf n heap table → WritesAllOf n heap table → Writes heap table t v
head_sound n heap table v t e one all =
    let p = bound (call_read n heap table) (cons_at heap v) t e in
    let o = bound (operands_read n heap table p.0) (operator_at table p.0.0) t p.2 in
    call_sound n heap table o.0 v p.0.1 t (record { head = p.0.0; cons = p.1; word = o.1 }) o.2 one all

named_or : (n : ℕ) (heap : List Object) (table : Table) (v : Val) (t : Spec) (name : Option TypeName) → type_at table v ≡ name → first_of (option_map Named name) (option_and_then (call_read n heap table) (cons_at heap v)) ≡ Some t → WritesOf n heap table → WritesAllOf n heap table → Writes heap table t v
named_or n heap table v t None h e one all = head_sound n heap table v t e one all
named_or n heap table v t (Some name) h e one all = subst (Written heap table v) (some_is (Named name) t e) h

specs_more : (n : ℕ) (heap : List Object) (table : Table) (v : Val) (ts : Specs) → option_and_then (more_specs n heap table) (cons_at heap v) ≡ Some ts → WritesOf n heap table → WritesAllOf n heap table → WritesAll heap table ts v
specs_more n heap table v ts e one all =
    let p = bound (more_specs n heap table) (cons_at heap v) ts e in
    let t = bound (next_specs n heap table p.0) (parsed n heap table p.0.0) ts p.2 in
    let us = mapped (spec t.0) (all_parsed n heap table p.0.1) ts t.2 in
    subst (λ (zs : Specs). WritesAll heap table zs v) us.2 (p.0.0, p.0.1, p.1, one p.0.0 t.0 t.1, all p.0.1 us.0 us.1)

mutual
  unfolding parsed all_parsed

  pub sound : (n : ℕ) (heap : List Object) (table : Table) → WritesOf n heap table
  sound zero heap table v t e = absurd (some_not_none t (sym e))
  sound (suc n) heap table v t e = named_or n heap table v t (type_at table v) refl e (sound n heap table) (all_sound n heap table)

  pub all_sound : (n : ℕ) (heap : List Object) (table : Table) → WritesAllOf n heap table
  all_sound zero heap table v ts e = absurd (some_not_none ts (sym e))
  all_sound (suc n) heap table v ts e =
      elim (not_first (is_nil v) no_spec (option_and_then (more_specs n heap table) (cons_at heap v))) [
        | inl h ↦ subst (λ (zs : Specs). WritesAll heap table zs v) (some_is no_spec ts (h.1 ∙ e)) h.0
        | inr h ↦ specs_more n heap table v ts (h.1 ∙ e) (sound n heap table) (all_sound n heap table)
      ]

-- ---- the law

leb_false : (a b : ℕ) → b < a → nat_le a b ≡ false
leb_false a b h = grind (arith, leb_tells a b)

small_is : (t : Spec) → spec_size t ≤ most_parts → if_small t ≡ Some t
small_is t h = if_true (nat_le (spec_size t) most_parts) (Some t) None (le-leb (spec_size t) most_parts h)

pub one_found : (heap : List Object) (table : Table) (form : Val) (t : Spec) → Writes heap table t form → spec_size t ≤ most_parts → specifier heap table form ≡ Some t
unfolding specifier
one_found heap table form t w h =
    ap (option_and_then if_small) (found (2 * most_parts) heap table t form w (omega arith)) ∙ small_is t h

none_small : (heap : List Object) (table : Table) (form : Val) (o : Option Spec) → WritesNone heap table form most_parts → parsed (2 * most_parts) heap table form ≡ o → option_and_then if_small o ≡ None
none_small heap table form None w e = refl
none_small heap table form (Some t) w e =
    if_false (nat_le (spec_size t) most_parts) (Some t) None (leb_false (spec_size t) most_parts (w t (sound (2 * most_parts) heap table form t e)))

pub none_found : (heap : List Object) (table : Table) (form : Val) → WritesNone heap table form most_parts → specifier heap table form ≡ None
unfolding specifier
none_found heap table form w = none_small heap table form (parsed (2 * most_parts) heap table form) w refl
