-- Binders with the parameters that were made of them (this project's own).
use Rattle.std.specs.Prelude.{List, [], ◌∷◌, Option, Some, None, map}
use Rattle.std.specs.Option.{option_map}
use Rattle.lisp_base.specs.declared.values.Val.{Val}
use Rattle.core_form.specs.Tree.{Parameter}
use Rattle.core_form.specs.Reading.{parameter_of}
use Rattle.expansion.specs.Sketches.{Binder, Initial, Optional'}
use Rattle.expansion.specs.Expanding.{Bound, BoundOptional, bound_optional, parameter_some}
use Rattle.form_expander.specs.declared.parameters.OptionalParameter.{OptionalParameter}

-- each of one list with the one at its place in another
abbrev pub matched : {A B C : Type 0} → (A → B → C) → List A → List B → List C
matched f [] xs = []
matched f (b ∷ bs) [] = []
matched f (b ∷ bs) (x ∷ xs) = f b x ∷ matched f bs xs

abbrev pub bound_as : Binder → Parameter → Bound
bound_as b x = (b, x)

abbrev pub beside : List Binder → List Parameter → List Bound
beside bs xs = matched bound_as bs xs

abbrev pub beside_some : Option Binder → Option Parameter → Option Bound
beside_some None x = None
beside_some (Some b) None = None
beside_some (Some b) (Some x) = Some (b, x)

abbrev pub initial_as : Initial → Parameter → Bound × Val
initial_as b x = ((b.binder, x), b.value)

abbrev pub initials_beside : List Initial → List Parameter → List (Bound × Val)
initials_beside bs xs = matched initial_as bs xs

-- an optional parameter with the one that tells whether an argument was given
abbrev pub pair_of : OptionalParameter → Parameter × Option Parameter
pair_of x = (parameter_of x.parameter, option_map parameter_of x.supplied)

abbrev pub optional_as : Optional' → Parameter × Option Parameter → BoundOptional
optional_as o x = bound_optional (o.binder, x.0) o.default (beside_some o.supplied x.1)

abbrev pub optionals_beside : List Optional' → List (Parameter × Option Parameter) → List BoundOptional
optionals_beside os xs = matched optional_as os xs

-- the parameters of these
abbrev pub initials_parameters : List (Bound × Val) → List Parameter
initials_parameters ps = map (λ (p : Bound × Val). p.0.1) ps

abbrev pub optional_pair : BoundOptional → Parameter × Option Parameter
optional_pair o = (o.bound.1, parameter_some o.supplied)

abbrev pub optionals_parameters : List BoundOptional → List (Parameter × Option Parameter)
optionals_parameters os = map optional_pair os
