-- Laws of the functions of a form. (This project's own.)
use Rattle.std.specs.Prelude.{◌≡◌, ℕ, Some, map, slice_get}
use Rattle.std.specs.List.{Contains}
use Rattle.core_form.specs.Tree.{Core}
use Rattle.core_form.specs.Facts.{FunctionText, functions_in, lookup, at_nodes, local_functions}
use Rattle.core_form.specs.Lawful.{CountFrom, function_number}
use Rattle.form_names.specs.Names.{text_number}

-- Where the functions of a form are numbered from 0 in the order of the text, as in a lawful program, each stands at its number.
abbrev pub NumberedFunctions : Type 0
NumberedFunctions =
    (e : Core) → CountFrom 0 (map function_number (functions_in e)) → (t : FunctionText) → Contains (functions_in e) t → slice_get (functions_in e) (text_number t) ≡ Some t

-- a local function is among the functions of its form
abbrev pub LocalFunctionsStand : Type 0
LocalFunctionsStand = (e : Core) (k : ℕ) (t : FunctionText) → lookup k (at_nodes local_functions e) ≡ Some t → Contains (functions_in e) t
