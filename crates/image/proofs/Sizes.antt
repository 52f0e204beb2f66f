-- How many rows fit the section of the debug tables.
use Rattle.std.proofs.Common.{ℕ, ◌+◌, ◌^◌, ◌<◌, ◌≤◌, List, [], ◌∷◌, ◌++◌, length, arith, length-append}
use Rattle.std.specs.List.{flat_map}
use Rattle.debug_info.specs.Spelling.{text_bytes, site_bytes, function_bytes, variable_bytes, table_bytes, tables_bytes}
use Rattle.debug_info.specs.Tables.{Tables}

count_fits : {X : Type 0} (f : X → List ℕ) → ((x : X) → 1 ≤ length (f x)) → (xs : List X) → length xs ≤ length (flat_map f xs)
count_fits f some [] = omega arith
count_fits f some (x ∷ xs) = omega (arith, some x, count_fits f some xs, length-append (f x) (flat_map f xs))

-- the counts of the four tables
pub record Counts (t : Tables) : Type 0 where
  pub texts : length t.texts < 2 ^ 28
  pub sites : length t.sites < 2 ^ 28
  pub functions : length t.functions < 2 ^ 28
  pub variables : length t.variables < 2 ^ 28

pub counts : (t : Tables) → length (tables_bytes t.texts t.sites t.functions t.variables) ≤ 268435456 → Counts t
unfolding tables_bytes
counts t size =
    let texts = table_bytes text_bytes t.texts in
    let sites = table_bytes site_bytes t.sites in
    let functions = table_bytes function_bytes t.functions in
    let variables = table_bytes variable_bytes t.variables in
    let whole : length (texts ++ (sites ++ (functions ++ variables))) ≤ 268435456 = size in
    let l1 : length texts + (length sites + (length functions + length variables)) ≤ 268435456
    = omega (arith, whole, length-append texts (sites ++ (functions ++ variables)), length-append sites (functions ++ variables), length-append functions variables) in
    let a : length t.texts + 4 ≤ length texts = omega (arith, count_fits text_bytes (λ _. omega arith) t.texts) in
    let b : length t.sites + 4 ≤ length sites = omega (arith, count_fits site_bytes (λ _. omega arith) t.sites) in
    let d : length t.functions + 4 ≤ length functions = omega (arith, count_fits function_bytes (λ _. omega arith) t.functions) in
    let e : length t.variables + 4 ≤ length variables = omega (arith, count_fits variable_bytes (λ _. omega arith) t.variables) in
    record { texts = omega (arith, l1, a); sites = omega (arith, l1, b); functions = omega (arith, l1, d); variables = omega (arith, l1, e) }
