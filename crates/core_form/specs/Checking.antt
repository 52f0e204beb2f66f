-- The scopes that the check of a tree hands down. (This project's own.)
use Rattle.std.specs.Prelude.{[], ◌∷◌}
use Rattle.core_form.specs.declared.scopes.Scope.{Scope as Scope'}
use Rattle.core_form.specs.declared.scopes.Scope.TheBlock as s
use Rattle.core_form.specs.Facts.{binding_parameters}
use Rattle.core_form.specs.Reading.{parameter_of}
use Rattle.core_form.specs.ListReading.{parameters_list, bindings_list, optionals_list, definitions_list, items_list}
use Rattle.core_form.specs.Checked.{Scope, no_scope, with_variables, with_functions, with_block, with_tags, parameter_numbers, optionals_numbers, function_numbers, tag_numbers}

abbrev pub scope_of : Scope' → Scope
scope_of s.Top = no_scope
scope_of (s.Bindings' bs p outer) = with_variables (parameter_numbers (binding_parameters (bindings_list bs.now))) (scope_of outer)
scope_of (s.Required' xs p outer) = with_variables (parameter_numbers (parameters_list xs.now)) (scope_of outer)
scope_of (s.Optionals' os p outer) = with_variables (optionals_numbers (optionals_list os.now)) (scope_of outer)
scope_of (s.Rest' x p outer) = with_variables (parameter_numbers (parameter_of x.now ∷ [])) (scope_of outer)
scope_of (s.Functions' ds p outer) = with_functions (function_numbers (definitions_list ds.now)) (scope_of outer)
scope_of (s.Block' n p outer) = with_block n (scope_of outer)
scope_of (s.Tags' is p outer) = with_tags (tag_numbers (items_list is.now)) (scope_of outer)
