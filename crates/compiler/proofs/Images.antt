-- The image of a code keeps the rules of images, and so do its debug tables.
use Rattle.std.proofs.Common.{refl, ap, ◌∙◌, arith, length-append}
use Rattle.std.proofs.lemmas.Bool.Decides.{nat_tests}
use Rattle.std.proofs.lemmas.Str.{IsUtf8-from_ascii, is_utf8-from_IsUtf8}
use Rattle.std.specs.Prelude.{◌≡◌, ℕ, zero, suc, nat_le, slice_index, ◌+◌, ◌*◌, ◌%◌, ◌^◌, ◌<◌, ◌≤◌, Bool, true, ◌&&◌, nat_lt, List, [], ◌∷◌, ◌++◌, length, Option, Some, None}
use Rattle.std.specs.List.{flat_map, list_all}
use Rattle.std.specs.Int.{w32, to_le_bytes}
use Rattle.lisp_base.specs.declared.values.Place.{Place}
use Rattle.lisp_base.specs.declared.values.Place.TheVariants as places
use Rattle.debug_info.specs.declared.rows.SiteRow.{SiteRow}
use Rattle.debug_info.specs.declared.rows.SitePlace.TheVariants as site
use Rattle.debug_info.specs.Spelling.{site_bytes, text_bytes, table_bytes, tables_bytes, function_bytes, variable_bytes}
use Rattle.std.specs.Str.{is_utf8}
use Rattle.debug_info.specs.declared.rows.FunRow.{FunRow}
use Rattle.debug_info.specs.declared.rows.VarRow.{VarRow}
use Rattle.debug_info.specs.Tables.{Tables, IsTables, is_text, is_above, is_site, are_sites}
use Rattle.image.specs.Content.{content, IsImage}
use Rattle.compiler.specs.declared.slot.Slot.{Slot}
use Rattle.compiler.specs.Parts.{slot_bytes, code_bytes, slot_rows, site_rows, character_text, statics_bytes}
use Rattle.compiler.specs.Emitted.{tables_of_code, image_of_code}
use Rattle.compiler.proofs.Nodes.{and_left, and_right}

-- ---- addresses rise

both : (a b : Bool) → a ≡ true → b ≡ true → (a && b) ≡ true
both a b h k = ap (λ (x : Bool). x && b) h ∙ k

less : (a b : ℕ) → a < b → nat_lt a b ≡ true
less a b h = grind (arith, nat_tests)

-- every address from here on may follow
abbrev Above : Option ℕ → ℕ → Type 0
Above before pc = (n : ℕ) → pc ≤ n → is_above before n ≡ true

above_none : (pc : ℕ) → Above None pc
above_none pc n h = refl

above_some : (pc : ℕ) → Above (Some pc) (pc + 4)
above_some pc n h = less pc n (omega arith)

above_later : (before : Option ℕ) (pc : ℕ) → Above before pc → Above before (pc + 4)
above_later before pc h n k = h n (omega arith)

abbrev Rises : ℕ → List Slot → Type 0
Rises pc xs = (before : Option ℕ) → Above before pc → list_all (is_site 1) (site_rows pc xs) ≡ true → are_sites 1 before (site_rows pc xs) ≡ true

row_rises : (pc : ℕ) (o : Option Place) (xs : List Slot) → Rises (pc + 4) xs → (before : Option ℕ) → Above before pc →
    list_all (is_site 1) (slot_rows pc o ++ site_rows (pc + 4) xs) ≡ true → are_sites 1 before (slot_rows pc o ++ site_rows (pc + 4) xs) ≡ true
row_rises pc None xs ih before above h = ih before (above_later before pc above) h
row_rises pc (Some (places.Prelude name)) xs ih before above h = ih before (above_later before pc above) h
row_rises pc (Some (places.File offset tail)) xs ih before above h =
    let r : SiteRow = record { pc = pc; place = site.File offset tail; text = Some 0 } in
    let rest = site_rows (pc + 4) xs in
    both (is_above before pc && is_site 1 r) (are_sites 1 (Some pc) rest)
    (both (is_above before pc) (is_site 1 r) (above pc (omega arith)) (and_left (is_site 1 r) (list_all (is_site 1) rest) h))
    (ih (Some pc) (above_some pc) (and_right (is_site 1 r) (list_all (is_site 1) rest) h))

rises : (pc : ℕ) (xs : List Slot) → Rises pc xs
rises pc [] before above h = refl
rises pc (x ∷ xs) before above h = row_rises pc x.site xs (rises (pc + 4) xs) before above h

-- ---- sizes

rows_length : (pc : ℕ) (o : Option Place) → length (slot_rows pc o) ≤ 1
rows_length pc None = omega arith
rows_length pc (Some (places.File offset tail)) = omega arith
rows_length pc (Some (places.Prelude name)) = omega arith

sites_length : (pc : ℕ) (xs : List Slot) → length (site_rows pc xs) ≤ length xs
sites_length pc [] = omega arith
sites_length pc (x ∷ xs) = omega (arith, rows_length pc x.site, sites_length (pc + 4) xs, length-append (slot_rows pc x.site) (site_rows (pc + 4) xs))

sites_size : (rs : List SiteRow) → length (flat_map site_bytes rs) ≡ 24 * length rs
sites_size [] = refl
sites_size (r ∷ rs) =
    let one : length (site_bytes r) ≡ 24 = refl in
    omega (arith, one, sites_size rs, length-append (site_bytes r) (flat_map site_bytes rs))

code_length : (xs : List Slot) → length (code_bytes xs) ≡ 4 * length xs
code_length [] = refl
code_length (x ∷ xs) =
    let one : length (slot_bytes x) ≡ 4 = refl in
    omega (arith, one, code_length xs, length-append (slot_bytes x) (code_bytes xs))

tables_size : (xs : List Slot) → length xs < 2 ^ 22 → length (tables_bytes (character_text ∷ []) (site_rows 65536 xs) [] []) ≤ 268435456
unfolding tables_bytes
tables_size xs near =
    let rows = site_rows 65536 xs in
    let texts = table_bytes text_bytes (character_text ∷ []) in
    let sites = table_bytes site_bytes rows in
    let others = table_bytes function_bytes [] ++ table_bytes variable_bytes [] in
    let n1 : length texts ≡ 17 = refl in
    let n2 : length sites ≡ 4 + length (flat_map site_bytes rows) = length-append (to_le_bytes w32 (length rows)) (flat_map site_bytes rows) in
    let n3 : length others ≡ 8 = refl in
    omega (arith, n1, n2, n3, near, sites_size rows, sites_length 65536 xs, length-append texts (sites ++ others), length-append sites others)

-- ---- the text

ascii : (cs : List ℕ) → list_all (λ c. nat_lt c 128) cs ≡ true → (i : ℕ) → slice_index cs i < 128
ascii [] h i = omega arith
ascii (c ∷ cs) h zero = let k : nat_lt c 128 ≡ true = and_left (nat_lt c 128) (list_all (λ x. nat_lt x 128) cs) h in grind (arith, nat_tests)
ascii (c ∷ cs) h (suc i) = ascii cs (and_right (nat_lt c 128) (list_all (λ x. nat_lt x 128) cs) h) i

text_right : list_all is_text (character_text ∷ []) ≡ true
text_right =
    let u : is_utf8 character_text ≡ true = is_utf8-from_IsUtf8 character_text (IsUtf8-from_ascii character_text (ascii character_text refl)) in
    both (nat_le (length character_text) 1048576 && is_utf8 character_text) true (both (nat_le (length character_text) 1048576) (is_utf8 character_text) refl u) refl

-- ---- the rules

pub are_tables : (xs : List Slot) → length xs < 2 ^ 22 → list_all (is_site 1) (site_rows 65536 xs) ≡ true → IsTables (tables_of_code xs)
are_tables xs near right = record {
  texts = text_right;
  sites = rises 65536 xs None (above_none 65536) right;
  functions = refl;
  variables = refl;
  size = tables_size xs near;
}

-- the tables and the image that are made of these parts
pub tables_made : (xs : List Slot) (texts : List (List ℕ)) (sites : List SiteRow) (functions : List FunRow) (variables : List VarRow) →
    texts ≡ character_text ∷ [] → sites ≡ site_rows 65536 xs → functions ≡ [] → variables ≡ [] →
    record { texts = texts; sites = sites; functions = functions; variables = variables } ≡ tables_of_code xs
tables_made xs texts sites functions variables a b c d = rw (a, b, c, d) refl

pub image_made : (xs : List Slot) (code statics : List ℕ) (tables : Tables) → code ≡ code_bytes xs → statics ≡ statics_bytes → tables ≡ tables_of_code xs →
    content code statics tables 65536 ≡ image_of_code xs
image_made xs code statics tables a b c = rw (a, b, c) refl

whole : (n : ℕ) → (4 * n) % 4 ≡ 0
whole n = omega arith

pub is_image : (xs : List Slot) → 0 < length xs → length xs < 2 ^ 22 → IsTables (tables_of_code xs) → IsImage (image_of_code xs)
is_image xs some near tables =
    let n = code_length xs in
    record {
      code_whole = ap (λ (x : ℕ). x % 4) n ∙ whole (length xs);
      code_some = omega (arith, n, some);
      code_limit = omega (arith, n, near);
      statics_whole = refl;
      statics_limit = omega arith;
      debug = tables;
      entry_whole = refl;
      entry_low = omega arith;
      entry_high = omega (arith, n, some);
    }
