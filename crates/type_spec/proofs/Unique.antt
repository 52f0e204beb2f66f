-- A form writes one specifier at most.
use Rattle.std.proofs.Common.{◌≡◌, ℕ, ℤ, List, [], ◌∷◌, Some, refl, sym, ap, ◌∙◌, subst}
use Rattle.lisp_base.specs.declared.values.Val.{Val}
use Rattle.lisp_base.specs.declared.values.Val.TheVariants.{Int, Char, Sym, Ref}
use Rattle.lisp_base.specs.declared.types.TypeName.{TypeName}
use Rattle.lisp_base.specs.declared.types.Bound.{Bound}
use Rattle.lisp_base.specs.Spec.{Spec, Named, Integer, Signed, Unsigned, Mod, Member, Eql, And, Or, Not, Specs, no_spec, spec}
use Rattle.lisp_base.specs.Tables.{Table, Object}
use Rattle.type_spec.specs.declared.words.Operator.{Operator}
use Rattle.type_spec.specs.declared.words.Operator.TheVariants as op
use Rattle.std.specs.Option.{option_and_then}
use Rattle.type_spec.specs.Forms.{only_of, operator_at, type_at, width_of, count_of, item_of, bounds_of}
use Rattle.type_spec.specs.Writing.{IsCall, Lists, Writes, WritesAll}
use Rattle.type_spec.proofs.Conses.{some_is, some_not_none, first_is, rest_is, nil_no_cons}

-- ---- one operator, one list of operands

pub same_operands : (heap : List Object) (table : Table) (o o' : Operator) (form d d' : Val) → IsCall heap table o form d → IsCall heap table o' form d' → d ≡ d'
same_operands heap table o o' form d d' c c' = rest_is (c.head, d) (c'.head, d') (sym c.cons ∙ c'.cons)

pub same_operator : (heap : List Object) (table : Table) (o o' : Operator) (form d d' : Val) → IsCall heap table o form d → IsCall heap table o' form d' → o ≡ o'
same_operator heap table o o' form d d' c c' =
    some_is o o' (sym c.word ∙ ap (operator_at table) (first_is (c.head, d) (c'.head, d') (sym c.cons ∙ c'.cons)) ∙ c'.word)

-- a name is no list
pub name_no_call : (heap : List Object) (table : Table) (n : TypeName) (o : Operator) (form d : Val) → type_at table form ≡ Some n → IsCall heap table o form d → ⊥
name_no_call heap table n o (Int z) d e c = some_not_none (c.head, d) (sym c.cons)
name_no_call heap table n o (Char z) d e c = some_not_none (c.head, d) (sym c.cons)
name_no_call heap table n o (Sym z) d e c = some_not_none (c.head, d) (sym c.cons)
name_no_call heap table n o (Ref z) d e c = some_not_none n (sym e)

-- ---- what a specifier of an operator with operands is

abbrev pub IsOf : List Object → Table → Operator → Spec → Val → Type 0
IsOf heap table op.Integer t d = (lo : Bound) × (hi : Bound) × (t ≡ Integer lo hi) × (bounds_of heap table d ≡ Some (lo, hi))
IsOf heap table op.Signed t d = (bits : ℕ) × (t ≡ Signed bits) × (option_and_then width_of (only_of heap d) ≡ Some bits)
IsOf heap table op.Unsigned t d = (bits : ℕ) × (t ≡ Unsigned bits) × (option_and_then width_of (only_of heap d) ≡ Some bits)
IsOf heap table op.Mod t d = (n : ℤ) × (t ≡ Mod n) × (option_and_then count_of (only_of heap d) ≡ Some n)
IsOf heap table op.Member t d = (items : List Val) × (t ≡ Member items) × Lists heap table items d
IsOf heap table op.Eql t d = (item : Val) × (t ≡ Eql item) × (option_and_then (item_of table) (only_of heap d) ≡ Some item)
IsOf heap table op.And t d = (ts : Specs) × (t ≡ And ts) × WritesAll heap table ts d
IsOf heap table op.Or t d = (ts : Specs) × (t ≡ Or ts) × WritesAll heap table ts d
IsOf heap table op.Not t d = (part : Spec) × (t ≡ Not part) × ((x : Val) × (only_of heap d ≡ Some x) × Writes heap table part x)

moved : (heap : List Object) (table : Table) (o o' : Operator) (t : Spec) (form d d' : Val) → IsCall heap table o form d → IsCall heap table o' form d' → IsOf heap table o' t d' → IsOf heap table o t d
moved heap table o o' t form d d' c c' h =
    subst (λ (x : Operator). IsOf heap table x t d) (sym (same_operator heap table o o' form d d' c c'))
    (subst (λ (x : Val). IsOf heap table o' t x) (sym (same_operands heap table o o' form d d' c c')) h)

pub is_of : (heap : List Object) (table : Table) (o : Operator) (t : Spec) (form d : Val) → IsCall heap table o form d → Writes heap table t form → IsOf heap table o t d
is_of heap table o (Named n) form d c w = absurd (name_no_call heap table n o form d w c)
is_of heap table o (Integer lo hi) form d c w = moved heap table o op.Integer _ form d w.0 c w.1 (lo, hi, refl, w.2)
is_of heap table o (Signed bits) form d c w = moved heap table o op.Signed _ form d w.0 c w.1 (bits, refl, w.2)
is_of heap table o (Unsigned bits) form d c w = moved heap table o op.Unsigned _ form d w.0 c w.1 (bits, refl, w.2)
is_of heap table o (Mod n) form d c w = moved heap table o op.Mod _ form d w.0 c w.1 (n, refl, w.2)
is_of heap table o (Member items) form d c w = moved heap table o op.Member _ form d w.0 c w.1 (items, refl, w.2)
is_of heap table o (Eql item) form d c w = moved heap table o op.Eql _ form d w.0 c w.1 (item, refl, w.2)
is_of heap table o (And ts) form d c w = moved heap table o op.And _ form d w.0 c w.1 (ts, refl, w.2)
is_of heap table o (Or ts) form d c w = moved heap table o op.Or _ form d w.0 c w.1 (ts, refl, w.2)
is_of heap table o (Not part) form d c w = moved heap table o op.Not _ form d w.0 c w.1 (part, refl, w.2)

-- ---- lists

pub same_items : (heap : List Object) (table : Table) (xs ys : List Val) (v : Val) → Lists heap table xs v → Lists heap table ys v → xs ≡ ys
same_items heap table [] [] v l m = refl
same_items heap table [] (y ∷ ys) v l m = absurd (nil_no_cons heap v (y, m.0) l m.1)
same_items heap table (x ∷ xs) [] v l m = absurd (nil_no_cons heap v (x, l.0) m l.1)
same_items heap table (x ∷ xs) (y ∷ ys) v l m =
    let e = first_is (x, l.0) (y, m.0) (sym l.1 ∙ m.1) in
    let f = rest_is (x, l.0) (y, m.0) (sym l.1 ∙ m.1) in
    let k = same_items heap table xs ys l.0 l.3 (subst (Lists heap table ys) (sym f) m.3) in
    ap (λ (z : Val). z ∷ xs) e ∙ ap (λ (zs : List Val). y ∷ zs) k

mutual
  pub unique : (heap : List Object) (table : Table) (t u : Spec) (form : Val) → Writes heap table t form → Writes heap table u form → t ≡ u
  unique heap table (Named n) (Named m) form w x = ap Named (some_is n m (sym w ∙ x))
  unique heap table (Named n) (Integer lo hi) form w x = absurd (name_no_call heap table n op.Integer form x.0 w x.1)
  unique heap table (Named n) (Signed bits) form w x = absurd (name_no_call heap table n op.Signed form x.0 w x.1)
  unique heap table (Named n) (Unsigned bits) form w x = absurd (name_no_call heap table n op.Unsigned form x.0 w x.1)
  unique heap table (Named n) (Mod k) form w x = absurd (name_no_call heap table n op.Mod form x.0 w x.1)
  unique heap table (Named n) (Member items) form w x = absurd (name_no_call heap table n op.Member form x.0 w x.1)
  unique heap table (Named n) (Eql item) form w x = absurd (name_no_call heap table n op.Eql form x.0 w x.1)
  unique heap table (Named n) (And us) form w x = absurd (name_no_call heap table n op.And form x.0 w x.1)
  unique heap table (Named n) (Or us) form w x = absurd (name_no_call heap table n op.Or form x.0 w x.1)
  unique heap table (Named n) (Not part) form w x = absurd (name_no_call heap table n op.Not form x.0 w x.1)
  unique heap table (Integer lo hi) u form w x =
      let k = is_of heap table op.Integer u form w.0 w.1 x in
      let e = some_is (lo, hi) (k.0, k.1) (sym w.2 ∙ k.3) in
      ap (λ (b : Bound). Integer b hi) (ap (λ (p : Bound × Bound). p.0) e) ∙ ap (λ (b : Bound). Integer k.0 b) (ap (λ (p : Bound × Bound). p.1) e) ∙ sym k.2
  unique heap table (Signed bits) u form w x =
      let k = is_of heap table op.Signed u form w.0 w.1 x in ap Signed (some_is bits k.0 (sym w.2 ∙ k.2)) ∙ sym k.1
  unique heap table (Unsigned bits) u form w x =
      let k = is_of heap table op.Unsigned u form w.0 w.1 x in ap Unsigned (some_is bits k.0 (sym w.2 ∙ k.2)) ∙ sym k.1
  unique heap table (Mod n) u form w x =
      let k = is_of heap table op.Mod u form w.0 w.1 x in ap Mod (some_is n k.0 (sym w.2 ∙ k.2)) ∙ sym k.1
  unique heap table (Member items) u form w x =
      let k = is_of heap table op.Member u form w.0 w.1 x in ap Member (same_items heap table items k.0 w.0 w.2 k.2) ∙ sym k.1
  unique heap table (Eql item) u form w x =
      let k = is_of heap table op.Eql u form w.0 w.1 x in ap Eql (some_is item k.0 (sym w.2 ∙ k.2)) ∙ sym k.1
  unique heap table (And ts) u form w x =
      let k = is_of heap table op.And u form w.0 w.1 x in ap And (unique_all heap table ts k.0 w.0 w.2 k.2) ∙ sym k.1
  unique heap table (Or ts) u form w x =
      let k = is_of heap table op.Or u form w.0 w.1 x in ap Or (unique_all heap table ts k.0 w.0 w.2 k.2) ∙ sym k.1
  unique heap table (Not part) u form w x =
      let k = is_of heap table op.Not u form w.0 w.1 x in
      let e = some_is w.2.0 k.2.0 (sym w.2.1 ∙ k.2.1) in
      ap Not (unique heap table part k.0 w.2.0 w.2.2 (subst (Writes heap table k.0) (sym e) k.2.2)) ∙ sym k.1

  pub unique_all : (heap : List Object) (table : Table) (ts us : Specs) (v : Val) → WritesAll heap table ts v → WritesAll heap table us v → ts ≡ us
  unique_all heap table no_spec no_spec v w x = refl
  unique_all heap table no_spec (spec u us) v w x = absurd (nil_no_cons heap v (x.0, x.1) w x.2)
  unique_all heap table (spec t ts) no_spec v w x = absurd (nil_no_cons heap v (w.0, w.1) x w.2)
  unique_all heap table (spec t ts) (spec u us) v w x =
      let e = first_is (w.0, w.1) (x.0, x.1) (sym w.2 ∙ x.2) in
      let f = rest_is (w.0, w.1) (x.0, x.1) (sym w.2 ∙ x.2) in
      let k = unique heap table t u w.0 w.3 (subst (Writes heap table u) (sym e) x.3) in
      let l = unique_all heap table ts us w.1 w.4 (subst (WritesAll heap table us) (sym f) x.4) in
      ap (λ (y : Spec). spec y ts) k ∙ ap (λ (ys : Specs). spec u ys) l
