-- What the Rust structs of lambda lists stand for, and tables that hold what they held (this project's own).
use Rattle.std.specs.Prelude.{◌≡◌, List, ◌++◌, map}
use Rattle.std.specs.Option.{option_map}
use Rattle.lisp_base.specs.declared.values.SymId.{SymId}
use Rattle.lisp_base.specs.declared.values.Val.{Val}
use Rattle.lisp_base.specs.Tables.{Symbol, Table}
use Rattle.lambda_lists.specs.declared.lists.Binding.{Binding}
use Rattle.lambda_lists.specs.declared.lists.Defaulted.{Defaulted}
use Rattle.lambda_lists.specs.declared.lists.LambdaList as rust
use Rattle.lambda_lists.specs.declared.reading.Sections as slices
use Rattle.lambda_lists.specs.declared.key_forms.Keyed as key
use Rattle.lambda_lists.specs.declared.key_forms.KeyForms as forms
use Rattle.lambda_lists.specs.LambdaLists.{Default, make_default, LambdaList, make_list, Sections, Keyed, make_keyed, KeyForms}

abbrev pub default_of : Defaulted → Default
default_of d = make_default d.variable d.value d.supplied

abbrev pub binding_of : Binding → SymId × Val
binding_of b = (b.variable, b.value)

abbrev pub defaults_of : List Defaulted → List Default
defaults_of ds = map default_of ds

abbrev pub bindings_of : List Binding → List (SymId × Val)
bindings_of bs = map binding_of bs

abbrev pub list_of : rust.LambdaList → LambdaList
list_of l = make_list l.required.items (defaults_of l.optional.items) l.rest (option_map (λ ds. defaults_of ds.items) l.keys) (bindings_of l.auxiliary.items)

abbrev pub sections_of : slices.Sections → Sections
sections_of s = record { required = s.required.now; optional = option_map (λ vs. vs.now) s.optional; rest = option_map (λ vs. vs.now) s.rest; keys = option_map (λ vs. vs.now) s.keys; auxiliary = option_map (λ vs. vs.now) s.auxiliary }

abbrev pub keyed_of : key.Keyed → Keyed
keyed_of k = make_keyed k.keyword (default_of k.parameter)

abbrev pub forms_of : forms.KeyForms → KeyForms
forms_of f = record { test = f.test; bindings = bindings_of f.bindings.items; refusal = f.refusal }

-- a table that holds the symbols of another, unchanged, and maybe more
abbrev pub KeepsSymbols : Table → Table → Type 0
KeepsSymbols old new = (more : List Symbol) × (new.symbols ≡ old.symbols ++ more)
