-- Operators whose operands write nothing.
use Rattle.std.proofs.Common.{◌≡◌, ℕ, ◌+◌, ◌<◌, List, length, Some, None, arith, sym, ap, ◌∙◌, subst}
use Rattle.std.specs.Option.{option_and_then}
use Rattle.lisp_base.specs.declared.values.Val.{Val}
use Rattle.lisp_base.specs.Spec.{Spec, Named, Integer, Signed, Unsigned, Mod, Member, Eql, And, Or, Not, Specs, spec_size, specs_size}
use Rattle.lisp_base.specs.Tables.{Table, Object}
use Rattle.type_spec.specs.declared.words.Operator.{Operator}
use Rattle.type_spec.specs.declared.words.Operator.TheVariants as op
use Rattle.type_spec.specs.Forms.{cons_at, only_of, operator_at, type_at, width_of, count_of, item_of, bounds_of}
use Rattle.type_spec.specs.Writing.{IsCall, Writes, WritesNone, ListsNone, HasNoItems, WritesNoneAfter}
use Rattle.type_spec.proofs.Conses.{some_is, some_not_none, first_is}
use Rattle.type_spec.proofs.Unique.{IsOf, is_of}
use Rattle.type_spec.proofs.Parting.{has_node}

-- an operator whose operands are of no specifier
none_of : (heap : List Object) (table : Table) (o o' : Operator) (d : Val) (limit : ℕ) → o ≡ o' → ((t : Spec) → IsOf heap table o' t d → ⊥) → WritesNoneAfter heap table o d limit
none_of heap table o o' d limit e h form c t w =
    absurd (h t (subst (λ (x : Operator). IsOf heap table x t d) e (is_of heap table o t form d c w)))

pub no_bounds : (heap : List Object) (table : Table) (o : Operator) (d : Val) (limit : ℕ) → o ≡ op.Integer → bounds_of heap table d ≡ None → WritesNoneAfter heap table o d limit
no_bounds heap table o d limit e n = none_of heap table o op.Integer d limit e (λ t k. some_not_none (k.0, k.1) (sym k.3 ∙ n))

pub no_signed : (heap : List Object) (table : Table) (o : Operator) (d : Val) (limit : ℕ) → o ≡ op.Signed → option_and_then width_of (only_of heap d) ≡ None → WritesNoneAfter heap table o d limit
no_signed heap table o d limit e n = none_of heap table o op.Signed d limit e (λ t k. some_not_none k.0 (sym k.2 ∙ n))

pub no_unsigned : (heap : List Object) (table : Table) (o : Operator) (d : Val) (limit : ℕ) → o ≡ op.Unsigned → option_and_then width_of (only_of heap d) ≡ None → WritesNoneAfter heap table o d limit
no_unsigned heap table o d limit e n = none_of heap table o op.Unsigned d limit e (λ t k. some_not_none k.0 (sym k.2 ∙ n))

pub no_count : (heap : List Object) (table : Table) (o : Operator) (d : Val) (limit : ℕ) → o ≡ op.Mod → option_and_then count_of (only_of heap d) ≡ None → WritesNoneAfter heap table o d limit
no_count heap table o d limit e n = none_of heap table o op.Mod d limit e (λ t k. some_not_none k.0 (sym k.2 ∙ n))

pub no_item : (heap : List Object) (table : Table) (o : Operator) (d : Val) (limit : ℕ) → o ≡ op.Eql → option_and_then (item_of table) (only_of heap d) ≡ None → WritesNoneAfter heap table o d limit
no_item heap table o d limit e n = none_of heap table o op.Eql d limit e (λ t k. some_not_none k.0 (sym k.2 ∙ n))

pub no_part : (heap : List Object) (table : Table) (o : Operator) (d : Val) (limit : ℕ) → o ≡ op.Not → only_of heap d ≡ None → WritesNoneAfter heap table o d limit
no_part heap table o d limit e n = none_of heap table o op.Not d limit e (λ t k. some_not_none k.2.0 (sym k.2.1 ∙ n))

-- an operator whose operands want more room
more_of : (heap : List Object) (table : Table) (o o' : Operator) (d : Val) (limit : ℕ) → o ≡ o' → ((t : Spec) → IsOf heap table o' t d → limit + 1 < spec_size t) → WritesNoneAfter heap table o d limit
more_of heap table o o' d limit e h form c t w = h t (subst (λ (x : Operator). IsOf heap table x t d) e (is_of heap table o t form d c w))

pub more_items : (heap : List Object) (table : Table) (o : Operator) (d : Val) (limit : ℕ) → o ≡ op.Member → HasNoItems heap table d limit → WritesNoneAfter heap table o d limit
more_items heap table o d limit e h = more_of heap table o op.Member d limit e (λ t k. by t k.0 k.1 (h k.0 k.2))
  where
    by : (t : Spec) (items : List Val) → t ≡ Member items → limit < length items → limit + 1 < spec_size t
    by t items f g = let s = ap spec_size f in omega arith

pub more_parts : (heap : List Object) (table : Table) (o : Operator) (d : Val) (limit : ℕ) → o ≡ op.And → ListsNone heap table d limit → WritesNoneAfter heap table o d limit
more_parts heap table o d limit e h = more_of heap table o op.And d limit e (λ t k. by t k.0 k.1 (h k.0 k.2))
  where
    by : (t : Spec) (ts : Specs) → t ≡ And ts → limit < specs_size ts → limit + 1 < spec_size t
    by t ts f g = let s = ap spec_size f in omega arith

pub more_choices : (heap : List Object) (table : Table) (o : Operator) (d : Val) (limit : ℕ) → o ≡ op.Or → ListsNone heap table d limit → WritesNoneAfter heap table o d limit
more_choices heap table o d limit e h = more_of heap table o op.Or d limit e (λ t k. by t k.0 k.1 (h k.0 k.2))
  where
    by : (t : Spec) (ts : Specs) → t ≡ Or ts → limit < specs_size ts → limit + 1 < spec_size t
    by t ts f g = let s = ap spec_size f in omega arith

pub more_part : (heap : List Object) (table : Table) (o : Operator) (d x : Val) (limit : ℕ) → o ≡ op.Not → only_of heap d ≡ Some x → WritesNone heap table x limit → WritesNoneAfter heap table o d limit
more_part heap table o d x limit e n h = more_of heap table o op.Not d limit e (λ t k. by t k.0 k.1 (h k.0 (subst (Writes heap table k.0) (some_is k.2.0 x (sym k.2.1 ∙ n)) k.2.2)))
  where
    by : (t part : Spec) → t ≡ Not part → limit < spec_size part → limit + 1 < spec_size t
    by t part f g = let s = ap spec_size f in omega arith

-- ---- forms

pub no_room : (heap : List Object) (table : Table) (form : Val) (room : ℕ) → room ≡ 0 → WritesNone heap table form room
no_room heap table form room z t w = let k = has_node t in omega arith

-- neither a name nor a list
pub no_form : (heap : List Object) (table : Table) (form : Val) (limit : ℕ) → type_at table form ≡ None → cons_at heap form ≡ None → WritesNone heap table form limit
no_form heap table form limit n e t w = absurd (by t w)
  where
    call : (o : Operator) (d : Val) → IsCall heap table o form d → ⊥
    call o d c = some_not_none (c.head, d) (sym c.cons ∙ e)

    by : (u : Spec) → Writes heap table u form → ⊥
    by (Named name) x = some_not_none name (sym x ∙ n)
    by (Integer lo hi) x = call op.Integer x.0 x.1
    by (Signed bits) x = call op.Signed x.0 x.1
    by (Unsigned bits) x = call op.Unsigned x.0 x.1
    by (Mod k) x = call op.Mod x.0 x.1
    by (Member items) x = call op.Member x.0 x.1
    by (Eql item) x = call op.Eql x.0 x.1
    by (And ts) x = call op.And x.0 x.1
    by (Or ts) x = call op.Or x.0 x.1
    by (Not part) x = call op.Not x.0 x.1

-- a list that begins with no operator
pub no_operator : (heap : List Object) (table : Table) (form head d : Val) (limit : ℕ) → type_at table form ≡ None → cons_at heap form ≡ Some (head, d) → operator_at table head ≡ None → WritesNone heap table form limit
no_operator heap table form head d limit n e f t w = absurd (by t w)
  where
    call : (o : Operator) (d' : Val) → IsCall heap table o form d' → ⊥
    call o d' c = some_not_none o (sym c.word ∙ ap (operator_at table) (first_is (c.head, d') (head, d) (sym c.cons ∙ e)) ∙ f)

    by : (u : Spec) → Writes heap table u form → ⊥
    by (Named name) x = some_not_none name (sym x ∙ n)
    by (Integer lo hi) x = call op.Integer x.0 x.1
    by (Signed bits) x = call op.Signed x.0 x.1
    by (Unsigned bits) x = call op.Unsigned x.0 x.1
    by (Mod k) x = call op.Mod x.0 x.1
    by (Member items) x = call op.Member x.0 x.1
    by (Eql item) x = call op.Eql x.0 x.1
    by (And ts) x = call op.And x.0 x.1
    by (Or ts) x = call op.Or x.0 x.1
    by (Not part) x = call op.Not x.0 x.1
