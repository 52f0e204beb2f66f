-- What the node of a function counts, by the parameters that were made of its binders.
use Rattle.std.proofs.Common.{◌≡◌, ◌+◌, refl, ap, ◌∙◌, ℕ, List, [], ◌∷◌, Option, map}
use Rattle.core_form.specs.Tree.{Parameter, parameter_count, parameters_count, if_there}
use Rattle.expansion.specs.Expanding.{Bound, BoundOptional, parameters, parameter_some, optionals_size, function_size}
use Rattle.form_expander.specs.Beginnings.{pairs_count}
use Rattle.form_expander.specs.Besides.{optional_pair, optionals_parameters}

optionals_counted : (os : List BoundOptional) → optionals_size os ≡ pairs_count (map optional_pair os)
optionals_counted [] = refl
optionals_counted (o ∷ os) = ap (λ (n : ℕ). parameter_count o.bound.1 + if_there (parameter_some o.supplied) + n) (optionals_counted os)

pub function_counted : (xs : List Bound) (os : List BoundOptional) (r : Option Bound) (required : List Parameter) (optional : List (Parameter × Option Parameter)) (rest : Option Parameter)
    → parameters xs ≡ required → optionals_parameters os ≡ optional → parameter_some r ≡ rest
    → function_size xs os r ≡ 1 + parameters_count required + pairs_count optional + if_there rest
function_counted xs os r required optional rest h k l =
    ap (λ (ps : List Parameter). 1 + parameters_count ps + optionals_size os + if_there (parameter_some r)) h
    ∙ (ap (λ (n : ℕ). 1 + parameters_count required + n + if_there (parameter_some r)) (optionals_counted os ∙ ap pairs_count k)
    ∙ ap (λ (p : Option Parameter). 1 + parameters_count required + pairs_count optional + if_there p) l)
