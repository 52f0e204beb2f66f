-- How many bytes the tables have, as they are written.
use Rattle.std.proofs.Common.{◌≡◌, ℕ, ◌+◌, ◌*◌, ◌≤◌, Bool, true, ◌↔◌, List, [], ◌∷◌, ◌++◌, length, None, refl, sym, subst, arith, length-append}
use Rattle.std.specs.Prelude.{IsTrue, String}
use Rattle.std.specs.Global.{Global}
use Rattle.std.specs.String.{string_bytes}
use Rattle.std.specs.List.{flat_map, list_all}
use Rattle.std.proofs.lemmas.List.{length-map}
use Rattle.debug_info.specs.declared.rows.SiteRow.{SiteRow}
use Rattle.debug_info.specs.declared.rows.FunRow.{FunRow}
use Rattle.debug_info.specs.declared.rows.VarRow.{VarRow}
use Rattle.debug_info.specs.Spelling.{text_bytes, site_bytes, function_bytes, variable_bytes, table_bytes, tables_bytes, size_of}
use Rattle.debug_info.specs.Tables.{IsTables, is_text, are_sites, are_functions, is_variable}
use Rattle.debug_info.specs.Texts.{bytes_of, tables_of}

rows_size : {X : Type 0} (f : X → List ℕ) (n : ℕ) → ((x : X) → length (f x) ≡ n) → (xs : List X) → length (flat_map f xs) ≡ n * length xs
rows_size f n each [] = omega arith
rows_size f n each (x ∷ xs) = omega (arith, each x, rows_size f n each xs, length-append (f x) (flat_map f xs))

pub size-is : (texts : List (List ℕ)) (sites : List SiteRow) (functions : List FunRow) (variables : List VarRow)
    → length (tables_bytes texts sites functions variables) ≡ size_of texts sites functions variables
unfolding tables_bytes
size-is texts sites functions variables =
    let a = table_bytes text_bytes texts in
    let b = table_bytes site_bytes sites in
    let d = table_bytes function_bytes functions in
    let e = table_bytes variable_bytes variables in
    let whole : length (a ++ (b ++ (d ++ e))) ≡ length a + (length b + (length d + length e))
    = omega (arith, length-append a (b ++ (d ++ e)), length-append b (d ++ e), length-append d e) in
    let sb : length b ≡ 4 + 24 * length sites = omega (arith, rows_size site_bytes 24 (λ _. refl) sites) in
    let sd : length d ≡ 4 + 16 * length functions = omega (arith, rows_size function_bytes 16 (λ _. refl) functions) in
    let se : length e ≡ 4 + 24 * length variables = omega (arith, rows_size variable_bytes 24 (λ _. refl) variables) in
    let sa : length a ≡ 4 + length (flat_map text_bytes texts) = omega arith in
    omega (arith, whole, sa, sb, sd, se)

-- the rules, where the tests of the rows went well
pub are_tables_by_size : (texts : List (String Global)) (sites : List SiteRow) (functions : List FunRow) (variables : List VarRow) (small : Bool)
    → list_all is_text (bytes_of texts) ≡ true → are_sites (length texts) None sites ≡ true → are_functions (length texts) None functions ≡ true
    → list_all (is_variable (length texts)) variables ≡ true → (IsTrue small ↔ (size_of (bytes_of texts) sites functions variables ≤ 268435456))
    → IsTrue small ↔ IsTables (tables_of texts sites functions variables)
are_tables_by_size texts sites functions variables small ts ss fs vs size =
    let count : length texts ≡ length (bytes_of texts) = sym (length-map texts string_bytes) in
    let bytes-is = size-is (bytes_of texts) sites functions variables in
    let first : IsTrue small → IsTables (tables_of texts sites functions variables) = λ h. (let le = size.0 h in record {
      texts = ts;
      sites = subst (λ (n : ℕ). are_sites n None sites ≡ true) count ss;
      functions = subst (λ (n : ℕ). are_functions n None functions ≡ true) count fs;
      variables = subst (λ (n : ℕ). list_all (is_variable n) variables ≡ true) count vs;
      size = omega (arith, le, bytes-is);
    }) in
    let second : IsTables (tables_of texts sites functions variables) → IsTrue small = λ t. size.1 (let le = t.size in omega (arith, le, bytes-is)) in
    (first, second)
