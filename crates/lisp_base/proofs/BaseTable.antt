-- The names of the table to begin with are all different, so each of them is added.
use Rattle.std.proofs.Common.{◌≡◌, ◌≤◌, ℕ, List, [], ◌∷◌, ◌++◌, map, fold, length, refl, ap, sym, ◌∙◌, if◌then◌else◌, Bor, lit≤}
use Rattle.std.specs.List.{list_any}
use Rattle.std.proofs.lemmas.List.Folds.{fold-map}
use Rattle.lisp_base.specs.declared.values.SymKind.TheVariants as kinds
use Rattle.lisp_base.specs.Tables.{Symbol, make_symbol, is_symbol, most_symbols, first_table}
use Rattle.lisp_base.specs.BaseNames.{base_names, helper_names, left_out_names, lambda_list_names}

-- the symbols after a name is used as that of a plain one
abbrev pub with_name : List Symbol → List ℕ → List Symbol
with_name symbols name =
    if list_any (is_symbol name kinds.Plain) symbols then symbols else symbols ++ make_symbol name kinds.Plain ∷ []

abbrev pub with_names : List Symbol → List (Bor (List ℕ)) → List Symbol
with_names symbols names = fold (λ ss name. with_name ss name.now) symbols names

all_are_used : fold with_name [] base_names ≡ first_table.symbols
unfolding base_names helper_names left_out_names lambda_list_names
all_are_used = refl

-- all names used in turn give the first table
pub first_symbols : (names : List (Bor (List ℕ))) → map (λ name. name.now) names ≡ base_names → with_names [] names ≡ first_table.symbols
first_symbols names e = sym (fold-map with_name (λ (name : Bor (List ℕ)). name.now) [] names) ∙ (ap (fold with_name []) e ∙ all_are_used)

pub few_base_names : length first_table.symbols ≤ most_symbols
unfolding most_symbols base_names helper_names left_out_names lambda_list_names
few_base_names = lit≤ tt
