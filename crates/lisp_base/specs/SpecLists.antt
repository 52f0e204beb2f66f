-- The types in a specifier that holds several, by the list that a clause sees.
use Rattle.std.specs.Prelude.{List, [], ◌∷◌}
use Rattle.lisp_base.specs.declared.types.TypeSpec.{TypeSpec}
use Rattle.lisp_base.specs.Spec.{Specs, no_spec, spec}
use Rattle.lisp_base.specs.Reading.{spec_of}

abbrev pub specs_list : List TypeSpec → Specs
specs_list [] = no_spec
specs_list (t ∷ ts) = spec (spec_of t) (specs_list ts)
