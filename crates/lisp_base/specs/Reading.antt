-- The plain tree that a TypeSpec is.
use Rattle.lisp_base.specs.declared.types.TypeSpec.{TypeSpec}
use Rattle.lisp_base.specs.declared.types.TypeSpec.TheBlock as t
use Rattle.lisp_base.specs.Spec.{Spec, Named, Integer, Signed, Unsigned, Mod, Member, Eql, And, Or, Not, Specs, no_spec, spec}

abbrev mutual
  pub spec_of : TypeSpec → Spec
  spec_of (t.Named name) = Named name
  spec_of (t.Integer lo hi) = Integer lo hi
  spec_of (t.Signed bits) = Signed bits
  spec_of (t.Unsigned bits) = Unsigned bits
  spec_of (t.Mod below) = Mod below
  spec_of (t.Member items) = Member items.items
  spec_of (t.Eql item) = Eql item
  spec_of (t.And' shape specs) = And (specs_of specs)
  spec_of (t.Or' shape specs) = Or (specs_of specs)
  spec_of (t.Not' pointer part) = Not (spec_of part)

  pub specs_of : {m : _} → t.Row_of-TypeSpec m → Specs
  specs_of t.end_of-TypeSpec = no_spec
  specs_of (t.more_of-TypeSpec part rest) = spec (spec_of part) (specs_of rest)
