-- A type specifier as a plain tree, and the number of its nodes and MEMBER items.
use Rattle.std.specs.Prelude.{ℕ, ℤ, ◌+◌, List, length}
use Rattle.lisp_base.specs.declared.values.Val.{Val}
use Rattle.lisp_base.specs.declared.types.TypeName.{TypeName}
use Rattle.lisp_base.specs.declared.types.Bound.{Bound}

mutual
  pub data Spec : Type 0 where
    Named : TypeName → Spec
    Integer : (lo hi : Bound) → Spec
    Signed : (bits : ℕ) → Spec
    Unsigned : (bits : ℕ) → Spec
    Mod : (below : ℤ) → Spec
    Member : List Val → Spec
    Eql : Val → Spec
    And : Specs → Spec
    Or : Specs → Spec
    Not : Spec → Spec

  pub data Specs : Type 0 where
    no_spec : Specs
    spec : Spec → Specs → Specs

abbrev mutual
  pub spec_size : Spec → ℕ
  spec_size (Named name) = 1
  spec_size (Integer lo hi) = 1
  spec_size (Signed bits) = 1
  spec_size (Unsigned bits) = 1
  spec_size (Mod below) = 1
  spec_size (Member items) = 1 + length items
  spec_size (Eql item) = 1
  spec_size (And specs) = 1 + specs_size specs
  spec_size (Or specs) = 1 + specs_size specs
  spec_size (Not part) = 1 + spec_size part

  pub specs_size : Specs → ℕ
  specs_size no_spec = 0
  specs_size (spec t ts) = spec_size t + specs_size ts
