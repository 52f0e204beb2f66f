-- The names of what is bound round a node, by their numbers, as the text of a program uses them. (This project's own.)
use Rattle.std.specs.Prelude.{ℕ, ◌==◌, if◌then◌else◌, List, [], ◌∷◌, ◌++◌, Option, Some, None}
use Rattle.lisp_base.specs.declared.values.Val.{Val}
use Rattle.lisp_base.specs.declared.values.Val.TheVariants.{Sym}
use Rattle.core_form.specs.declared.tree.Variable.{Variable}
use Rattle.core_form.specs.declared.tree.Variable.TheVariants.{Lexical, Special}
use Rattle.core_form.specs.declared.text_page.Known.{Known}
use Rattle.core_form.specs.Tree.{Parameter, Bindings, no_binding, binding, Optionals, no_optional, optional, Definitions, no_definition, define, Items, no_item, tag, step}

-- a number with its name: a symbol, of a tag also an integer
abbrev pub known : ℕ → Val → Known
known n name = record { number = n; name = name }

-- the last of these that has a number, else what is given
abbrev pub last_with : Option Known → List Known → ℕ → Option Known
last_with found [] n = found
last_with found (k ∷ ks) n = last_with (if k.number == n then Some k else found) ks n

-- what is bound to a number where these are bound, the innermost last
abbrev pub name_of : List Known → ℕ → Option Known
name_of names n = last_with None names n

-- ---- what a node binds, in the order of its text; special variables have no number

abbrev pub variable_names : Variable → List Known
variable_names (Lexical n s) = known n (Sym s) ∷ []
variable_names (Special s) = []

abbrev pub parameter_names : List Parameter → List Known
parameter_names [] = []
parameter_names (x ∷ xs) = variable_names x.variable ++ parameter_names xs

abbrev pub given_names : Option Parameter → List Known
given_names None = []
given_names (Some x) = variable_names x.variable

abbrev pub binding_names : Bindings → List Known
binding_names no_binding = []
binding_names (binding x e bs) = variable_names x.variable ++ binding_names bs

abbrev pub optional_names : Optionals → List Known
optional_names no_optional = []
optional_names (optional x e s os) = (variable_names x.variable ++ given_names s) ++ optional_names os

abbrev pub function_names : Definitions → List Known
function_names no_definition = []
function_names (define p f s l ds) = known f (Sym s) ∷ function_names ds

abbrev pub tag_names : Items → List Known
tag_names no_item = []
tag_names (tag t name is) = known t name ∷ tag_names is
tag_names (step e is) = tag_names is
