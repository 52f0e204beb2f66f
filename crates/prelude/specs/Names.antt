-- The names of the prelude's functions (ANSI Common Lisp; those with `%` are this project's own).
use Rattle.std.specs.Prelude.{ℕ, List, [], ◌∷◌, ◌++◌, ◌==◌, Bool, false, not, filter}
use Rattle.lisp_base.specs.BaseNames.{primitive_names, direct_names, prelude_names, helper_names}

-- a name of this project's own: it begins with `%`
abbrev pub is_own : List ℕ → Bool
is_own [] = false
is_own (first ∷ rest) = first == 37

-- each primitive and each function that is called directly has a function of its name, and so have the other
-- functions of the language and the helpers
unfoldable pub function_names : List (List ℕ)
function_names = filter (λ name. not (is_own name)) primitive_names ++ direct_names ++ prelude_names ++ helper_names
