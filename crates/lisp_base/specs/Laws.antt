-- Laws that other crates can call: how a specifier that holds a list is read, and where the base names are.
use Rattle.std.specs.Prelude.{◌≡◌, ℕ, List, [], ◌∷◌, map, slice_get, Some, true}
use Rattle.std.specs.List.{list_all, list_any}
use Rattle.std.specs.Str.{bytes_eq}
use Rattle.std.specs.declared.vec.Vec.{Vec}
use Rattle.std.specs.declared.alloc.Global.{Global}
use Rattle.lisp_base.specs.declared.types.TypeSpec.{TypeSpec}
use Rattle.lisp_base.specs.declared.types.TypeSpec.TheVariants as variant
use Rattle.lisp_base.specs.declared.values.SymKind.TheVariants.{Plain}
use Rattle.lisp_base.specs.BaseNames.{base_names, primitive_names, special_operators, macro_names, direct_names, left_out_names, prelude_names, helper_names}
use Rattle.lisp_base.specs.PrimNames.{prim_name, all_primitives}
use Rattle.lisp_base.specs.Sort.{symbol}
use Rattle.lisp_base.specs.Tables.{Symbol, Table, BeginsWithNames, base_symbol, interned, plain_symbol}
use Rattle.lisp_base.specs.Spec.{And, Or, Specs, no_spec, spec}
use Rattle.lisp_base.specs.Reading.{spec_of}

-- the parts of a specifier, by the list that a clause sees
abbrev pub specs_list : List TypeSpec → Specs
specs_list [] = no_spec
specs_list (t ∷ ts) = spec (spec_of t) (specs_list ts)

abbrev pub ReadsAnd : Type 0
ReadsAnd = (v : Vec TypeSpec Global) → spec_of (variant.And v) ≡ And (specs_list v.items)

abbrev pub ReadsOr : Type 0
ReadsOr = (v : Vec TypeSpec Global) → spec_of (variant.Or v) ≡ Or (specs_list v.items)

-- in a list of symbols that begins with those of the base names, each of these has its place
abbrev pub BaseNamesStand : Type 0
BaseNamesStand =
    (symbols : List Symbol) (n : ℕ) (name : List ℕ) → BeginsWithNames symbols → slice_get base_names n ≡ Some name → slice_get symbols n ≡ Some (plain_symbol name)

-- and it is found there, so that its use adds nothing to a table
abbrev pub BaseNamesAreFound : Type 0
BaseNamesAreFound =
    (t : Table) (n : ℕ) (name : List ℕ) → BeginsWithNames t.symbols → slice_get base_names n ≡ Some name → interned name Plain t ≡ Some (symbol n, t)

-- the place of a base name, as it is computed
abbrev pub BaseSymbolsAreFound : Type 0
BaseSymbolsAreFound = (n : ℕ) (name : List ℕ) → slice_get base_names n ≡ Some name → base_symbol name ≡ symbol n

-- each name of a sort is a base name
abbrev pub AreBaseNames : List (List ℕ) → Type 0
AreBaseNames names = list_all (λ name. list_any (bytes_eq name) base_names) names ≡ true

pub record SortsAreBaseNames : Type 0 where
  pub primitives : AreBaseNames primitive_names
  pub operators : AreBaseNames special_operators
  pub macros : AreBaseNames macro_names
  pub direct_calls : AreBaseNames direct_names
  pub left_out : AreBaseNames left_out_names
  pub functions : AreBaseNames prelude_names
  pub helpers : AreBaseNames helper_names
  pub primitives_named : map prim_name all_primitives ≡ primitive_names
