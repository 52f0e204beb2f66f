-- The type specifier that a form writes, as a function (ANSI Common Lisp 4.2.3, and the entries of the specifiers).
use Rattle.std.specs.Prelude.{ℕ, zero, suc, ◌*◌, nat_le, if◌then◌else◌, List, [], ◌∷◌, Option, Some, None}
use Rattle.std.specs.Option.{option_map, option_and_then}
use Rattle.lisp_base.specs.declared.values.Val.{Val}
use Rattle.lisp_base.specs.Spec.{Spec, Named, Integer, Signed, Unsigned, Mod, Member, Eql, And, Or, Not, Specs, no_spec, spec, spec_size}
use Rattle.lisp_base.specs.Tables.{Table, Object}
use Rattle.lisp_base.specs.Lawful.{most_parts}
use Rattle.type_spec.specs.declared.words.Operator.{Operator}
use Rattle.type_spec.specs.declared.words.Operator.TheVariants as op
use Rattle.type_spec.specs.Forms.{cons_at, is_nil, only_of, operator_at, type_at, width_of, count_of, item_of, bounds_of, first_of}

-- the items of a list of at most so many conses, less one
abbrev pub items_within : ℕ → List Object → Table → Val → Option (List Val)
items_within zero heap table v = None
items_within (suc n) heap table v =
    if is_nil v
    then Some []
    else option_and_then (λ p. option_and_then (λ x. option_map (λ xs. x ∷ xs) (items_within n heap table p.1)) (item_of table p.0)) (cons_at heap v)

-- what an operator makes of its operands, where the last three arguments read items, a specifier and several specifiers
abbrev pub with_operands : List Object → Table → Operator → Val → (Val → Option (List Val)) → (Val → Option Spec) → (Val → Option Specs) → Option Spec
with_operands heap table op.Integer v items one all = option_map (λ b. Integer b.0 b.1) (bounds_of heap table v)
with_operands heap table op.Signed v items one all = option_map Signed (option_and_then width_of (only_of heap v))
with_operands heap table op.Unsigned v items one all = option_map Unsigned (option_and_then width_of (only_of heap v))
with_operands heap table op.Mod v items one all = option_map Mod (option_and_then count_of (only_of heap v))
with_operands heap table op.Member v items one all = option_map Member (items v)
with_operands heap table op.Eql v items one all = option_map Eql (option_and_then (item_of table) (only_of heap v))
with_operands heap table op.And v items one all = option_map And (all v)
with_operands heap table op.Or v items one all = option_map Or (all v)
with_operands heap table op.Not v items one all = option_map Not (option_and_then one (only_of heap v))

unfoldable mutual
  -- the specifier of a form that is neither deeper nor longer
  pub parsed : ℕ → List Object → Table → Val → Option Spec
  parsed zero heap table v = None
  parsed (suc n) heap table v =
      first_of (option_map Named (type_at table v)) (option_and_then (λ p. option_and_then (λ o. with_operands heap table o p.1 (items_within n heap table) (parsed n heap table) (all_parsed n heap table)) (operator_at table p.0)) (cons_at heap v))

  pub all_parsed : ℕ → List Object → Table → Val → Option Specs
  all_parsed zero heap table v = None
  all_parsed (suc n) heap table v =
      if is_nil v
      then Some no_spec
      else option_and_then (λ p. option_and_then (λ t. option_map (spec t) (all_parsed n heap table p.1)) (parsed n heap table p.0)) (cons_at heap v)

-- a specifier that keeps to the limit on its size
abbrev pub if_small : Spec → Option Spec
if_small t = if nat_le (spec_size t) most_parts then Some t else None

-- The specifier that a form writes. One within the limit is neither deeper nor longer than twice the limit.
unfoldable pub specifier : List Object → Table → Val → Option Spec
specifier heap table v = option_and_then if_small (parsed (2 * most_parts) heap table v)
