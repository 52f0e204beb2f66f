-- How nodes begin: the steps before their parts, and the scopes of these (this project's own).
use Rattle.std.specs.Prelude.{ℕ, suc, ◌+◌, List, [], ◌∷◌, Option, Some, None, map, length}
use Rattle.std.specs.Option.{option_map, option_and_then}
use Rattle.lisp_base.specs.declared.values.SymId.{SymId}
use Rattle.lisp_base.specs.declared.values.Val.{Val}
use Rattle.lisp_base.specs.Tables.{Object}
use Rattle.lisp_forms.specs.Conses.{elements}
use Rattle.core_form.specs.Tree.{Core, Parameter, Definitions, define, parameter_count, parameters_count, if_there}
use Rattle.core_form.specs.Reading.{parameter_of, lambda_of}
use Rattle.core_form.specs.declared.tree.Definition.{Definition as Definition'}
use Rattle.core_form.specs.declared.tree.Form.TheBlock as t
use Rattle.expansion.specs.declared.heads.Leaf.{Leaf}
use Rattle.expansion.specs.Scopes.{Scope, at_form, with_function}
use Rattle.expansion.specs.Steps.{Step, ◌>>=◌, ◌>>◌, pure, look, expect, begin, take_numbers, take_function}
use Rattle.expansion.specs.Sketches.{Binder, Initial, Optional', Function, function_of, leaf_node}
use Rattle.expansion.specs.Bindings.{function_sketch}
use Rattle.expansion.specs.Forms.{tail_of}
use Rattle.expansion.specs.Expanding.{Bound, BoundOptional, bound_each, bound_optionals, bound_some, bound_initials, function_size, with_some, with_bound, tags_in, name_in, definition_name}
use Rattle.form_expander.specs.Besides.{beside, beside_some, optionals_beside, pair_of}
use Rattle.form_expander.specs.declared.beginnings.Beginning.{Beginning as Beginning'}

-- ---- nodes that only begin

unfoldable pub leaf_made : ℕ → Scope → Leaf → Step Core
leaf_made levels sc l = begin 1 levels sc >> pure (leaf_node l sc.place)

unfoldable pub begin_numbers : (count levels : ℕ) → Scope → Step ℕ
begin_numbers count levels sc = begin 1 levels sc >> take_numbers count

unfoldable pub begin_tags : ℕ → Scope → List Val → Step ℕ
begin_tags levels sc vs = begin_numbers (tags_in vs) levels sc

unfoldable pub begin_bindings : ℕ → Scope → List Initial → Step (List (Bound × Val))
begin_bindings levels sc bs = begin (1 + length bs) levels sc >> bound_initials bs

-- ---- local functions

abbrev pub named_by : Option SymId → ℕ → List (SymId × ℕ) → List (SymId × ℕ)
named_by None n names = names
named_by (Some s) n names = (s, n) ∷ names

-- the names of definitions with the numbers of their functions
abbrev pub names_of : Scope → List Object → ℕ → List Val → List (SymId × ℕ)
names_of sc heap n [] = []
names_of sc heap n (v ∷ vs) = named_by (definition_name sc heap v) n (names_of sc heap (suc n) vs)

abbrev pub with_names : List (SymId × ℕ) → Scope → Scope
with_names [] sc = sc
with_names (p ∷ ps) sc = with_names ps (with_function p.0 p.1 sc)

unfoldable pub begin_functions : ℕ → Scope → List Val → Step (ℕ × List (SymId × ℕ))
begin_functions levels sc vs = begin_numbers (length vs) levels sc >>= λ n. look (λ w. (n, names_of sc w.heap n vs))

abbrev pub name_given : Scope → List Object → Val → Option SymId
name_given sc heap v = option_and_then (name_in sc) (elements heap v)

abbrev pub definition_in : Scope → Val → SymId → Step (SymId × Function × Scope)
definition_in own v s = look (λ w. tail_of w.heap v) >>= function_sketch own (Some s) >>= λ f. pure (s, f, own)

unfoldable pub read_definition_in : Val → Scope → Step (SymId × Function × Scope)
read_definition_in v own = look (λ w. name_given own w.heap v) >>= expect own >>= definition_in own v

-- the name and the function of a definition, with its scope
unfoldable pub read_definition : Scope → Val → Step (SymId × Function × Scope)
read_definition sc v = look (λ w. at_form w.heap v sc) >>= read_definition_in v

-- a definition before others
abbrev pub definition_from : Definition' → Definitions → Definitions
definition_from (t.struct-Definition p n s l) ds = define p n s (lambda_of l) ds

-- ---- functions

-- a function that begins
pub record Beginning : Type 0 where
  pub number : ℕ
  pub required : List Bound
  pub optional : List BoundOptional
  pub rest : Option Bound

abbrev pub beginning : ℕ → List Bound → List BoundOptional → Option Bound → Beginning
beginning k xs os r = record { number = k; required = xs; optional = os; rest = r }

abbrev pub required_of : Function → List Binder
required_of (function_of xs os r x) = xs

abbrev pub optional_of' : Function → List Optional'
optional_of' (function_of xs os r x) = os

abbrev pub rest_of : Function → Option Binder
rest_of (function_of xs os r x) = r

-- the binders of a function with the parameters that were made of them
abbrev pub beginning_from : Function → Beginning' → Beginning
beginning_from f b =
    beginning b.number (beside (required_of f) (map parameter_of b.required.items)) (optionals_beside (optional_of' f) (map pair_of b.optional.items))
    (beside_some (rest_of f) (option_map parameter_of b.rest))

unfoldable pub made_parameters : Function → Step Beginning
made_parameters f =
    take_function >>= λ k. bound_each (required_of f) >>= λ xs. bound_optionals (optional_of' f) >>= λ os. bound_some (rest_of f) >>= λ r.
    pure (beginning k xs os r)

abbrev pub size_of : Beginning → ℕ
size_of b = function_size b.required b.optional b.rest

unfoldable pub begin_made : ℕ → Scope → Beginning → Step Beginning
begin_made levels sc b = begin (size_of b) levels sc >> pure b

-- a node of a function
unfoldable pub begin_function : ℕ → Scope → Function → Step Beginning
begin_function levels sc f = made_parameters f >>= begin_made levels sc

-- the scope within an optional parameter, and the variable that tells whether an argument was given
abbrev pub with_optional : Scope → Optional' → Parameter × Option Parameter → Scope
with_optional sc o x = with_some (with_bound sc (o.binder, x.0)) (beside_some o.supplied x.1)

abbrev pub pairs_count : List (Parameter × Option Parameter) → ℕ
pairs_count [] = 0
pairs_count (x ∷ xs) = parameter_count x.0 + if_there x.1 + pairs_count xs

-- what the node of a function counts
abbrev pub count_of : Beginning' → ℕ
count_of b = 1 + parameters_count (map parameter_of b.required.items) + pairs_count (map pair_of b.optional.items) + if_there (option_map parameter_of b.rest)
