-- The instructions of a program stand in its image, with their places in the table of sites.
use Rattle.std.proofs.Common.{refl, sym, ap, subst, ◌∙◌, arith}
use Rattle.std.proofs.lemmas.Bool.Decides.{nat_tests}
use Rattle.std.proofs.lemmas.Nat.{from_le_bytes-to_le_bytes_4}
use Rattle.std.specs.Prelude.{◌≡◌, ℕ, zero, suc, ◌+◌, ◌-◌, ◌*◌, ◌/◌, ◌%◌, ◌<◌, ◌≤◌, Bool, true, false, ◌&&◌, ◌==◌, nat_le, if◌then◌else◌, List, [], ◌∷◌, ◌++◌, length, map, slice_index_or, Option, Some, None}
use Rattle.std.specs.Int.{w32, to_le_bytes, from_le_bytes}
use Rattle.std.specs.Option.{option_or}
use Rattle.lisp_base.specs.declared.values.Place.{Place}
use Rattle.lisp_base.specs.declared.values.Place.TheVariants as places
use Rattle.debug_info.specs.declared.rows.SitePlace.{SitePlace}
use Rattle.debug_info.specs.declared.rows.SitePlace.TheVariants as site
use Rattle.debug_info.specs.declared.rows.SiteRow.{SiteRow}
use Rattle.debug_info.specs.Places.{last_not_above}
use Rattle.rv_isa.specs.declared.instr.Instr.{Instr}
use Rattle.rv_isa.specs.Encoding.{encoding, decoded}
use Rattle.rv_isa.specs.Machine.{Space, fetched, code_word, in_code}
use Rattle.rv_isa.specs.Start.{words32}
use Rattle.compiler.specs.declared.slot.Slot.{Slot}
use Rattle.compiler.specs.Parts.{code_bytes, slot_rows, site_rows}
use Rattle.compiler.proofs.Paths.{Stand, Sited}
use Rattle.compiler.proofs.Encodes.{Encodes, EncodeAll}
use Rattle.compiler.proofs.Sited.{InFile, AllInFile}

abbrev pub word_of_slot : Slot → ℕ
word_of_slot x = encoding x.instr

four_bytes : (n : ℕ) (rest : List ℕ) → words32 (to_le_bytes w32 n ++ rest) ≡ from_le_bytes w32 (to_le_bytes w32 n) ∷ words32 rest
four_bytes n rest = refl

-- the words of the code
pub words_of_code : (xs : List Slot) → EncodeAll xs → words32 (code_bytes xs) ≡ map word_of_slot xs
words_of_code [] h = refl
words_of_code (x ∷ xs) h =
    four_bytes (encoding x.instr) (code_bytes xs) ∙
    (ap (λ (n : ℕ). n ∷ words32 (code_bytes xs)) (from_le_bytes-to_le_bytes_4 (encoding x.instr) h.0.small) ∙ ap (λ (ws : List ℕ). encoding x.instr ∷ ws) (words_of_code xs h.1))

fetch_at : (space : Space) (n : ℕ) (x : Instr) → n < length space.code → slice_index_or space.code n 0 ≡ encoding x → Encodes x →
    fetched space (65536 + 4 * n) ≡ Some x
fetch_at space n x low is e =
    let inside : in_code space (65536 + 4 * n) 4 ≡ true = grind (arith, nat_tests) in
    let whole : ((65536 + 4 * n) % 4 == 0) ≡ true = grind (arith, nat_tests) in
    let at : (65536 + 4 * n) / 4 - 0x4000 ≡ n = omega arith in
    (ap (λ (b : Bool). if b && in_code space (65536 + 4 * n) 4 then decoded (code_word space ((65536 + 4 * n) / 4 - 0x4000)) else None) whole ∙
    ap (λ (b : Bool). if b then decoded (code_word space ((65536 + 4 * n) / 4 - 0x4000)) else None) inside) ∙
    (ap (λ (k : ℕ). decoded (code_word space k)) at ∙ (ap decoded is ∙ e.decodes))

-- ---- the table of sites

abbrev pub row_place : SitePlace → Option ℕ → Option Place
row_place (site.File offset tail) None = None
row_place (site.File offset tail) (Some zero) = Some (places.File offset tail)
row_place (site.File offset tail) (Some (suc n)) = None
row_place (site.Prelude text) n = None

abbrev pub found_row : Option SiteRow → Option Place
found_row None = None
found_row (Some r) = row_place r.place r.text

-- the place that the table gives for an address, with text 0
abbrev pub found_place : List SiteRow → ℕ → Option Place
found_place rows pc = found_row (last_not_above pc rows)

-- what the rows of these instructions tell of an address from pc on, the whole table tells
abbrev Tells : List SiteRow → ℕ → List SiteRow → Type 0
Tells whole pc rows = (q : ℕ) → (r : SiteRow) → pc ≤ q → last_not_above q rows ≡ Some r → last_not_above q whole ≡ Some r

abbrev row_at : ℕ → (offset tail : ℕ) → SiteRow
row_at pc offset tail = record { pc = pc; place = site.File offset tail; text = Some 0 }

one_more_above : (q pc : ℕ) (o : Option Place) (rest : List SiteRow) → q < pc → last_not_above q rest ≡ None → last_not_above q (slot_rows pc o ++ rest) ≡ None
one_more_above q pc None rest h is = is
one_more_above q pc (Some (places.File offset tail)) rest h is =
    let no : nat_le pc q ≡ false = grind (arith, nat_tests) in
    ap (λ (x : Option SiteRow). option_or x (if nat_le pc q then Some (row_at pc offset tail) else None)) is ∙
    ap (λ (b : Bool). option_or {T = SiteRow} None (if b then Some (row_at pc offset tail) else None)) no
one_more_above q pc (Some (places.Prelude name)) rest h is = is

nothing_above : (q pc : ℕ) (xs : List Slot) → q < pc → last_not_above q (site_rows pc xs) ≡ None
nothing_above q pc [] h = refl
nothing_above q pc (x ∷ xs) h =
    one_more_above q pc x.site (site_rows (pc + 4) xs) h (nothing_above q (pc + 4) xs (omega arith))

-- the row of an instruction is the last that isn't above it
first_told : (pc : ℕ) (o : Option Place) (rest : List SiteRow) (whole : List SiteRow) → InFile o → last_not_above pc rest ≡ None →
    Tells whole pc (slot_rows pc o ++ rest) → Sited o (found_place whole pc)
first_told pc None rest whole f none tells = tt
first_told pc (Some (places.File offset tail)) rest whole f none tells =
    let yes : nat_le pc pc ≡ true = grind (arith, nat_tests) in
    let row = row_at pc offset tail in
    let is : last_not_above pc (row ∷ rest) ≡ Some row =
    ap (λ (x : Option SiteRow). option_or x (if nat_le pc pc then Some row else None)) none ∙
    ap (λ (b : Bool). option_or {T = SiteRow} None (if b then Some row else None)) yes in
    ap found_row (tells pc row (omega arith) is)
first_told pc (Some (places.Prelude name)) rest whole f none tells = absurd (cc)

later_tells : (pc : ℕ) (o : Option Place) (rest : List SiteRow) (whole : List SiteRow) → Tells whole pc (slot_rows pc o ++ rest) → Tells whole (pc + 4) rest
later_tells pc None rest whole tells = λ q r h is. tells q r (omega arith) is
later_tells pc (Some (places.File offset tail)) rest whole tells =
    λ q r h is. tells q r (omega arith) (ap (λ (x : Option SiteRow). option_or x (if nat_le pc q then Some (row_at pc offset tail) else None)) is)
later_tells pc (Some (places.Prelude name)) rest whole tells = λ q r h is. tells q r (omega arith) is

-- the words of these instructions are those of the code from the n-th on
abbrev Words : List ℕ → ℕ → List Slot → Type 0
Words code n xs = (k : ℕ) → k < length xs → slice_index_or code (n + k) 0 ≡ slice_index_or (map word_of_slot xs) k 0

stand_from : (space : Space) (whole : List SiteRow) (n : ℕ) (xs : List Slot) → EncodeAll xs → AllInFile xs → Words space.code n xs → n + length xs ≤ length space.code →
    Tells whole (65536 + 4 * n) (site_rows (65536 + 4 * n) xs) → Stand space (found_place whole) (65536 + 4 * n) xs
stand_from space whole n [] e f words long tells = tt
stand_from space whole n (x ∷ xs) e f words long tells =
    let pc = 65536 + 4 * n in
    let at : 65536 + 4 * (n + 1) ≡ pc + 4 = omega arith in
    let here : slice_index_or space.code n 0 ≡ encoding x.instr =
    (let k : n + 0 ≡ n = omega arith in ap (λ (m : ℕ). slice_index_or space.code m 0) (sym k) ∙ words 0 (omega arith)) in
    let words' : Words space.code (n + 1) xs =
    λ (k : ℕ) (h : k < length xs). (let m : n + 1 + k ≡ n + suc k = omega arith in ap (λ (i : ℕ). slice_index_or space.code i 0) m ∙ words (suc k) (omega arith)) in
    let tells' : Tells whole (65536 + 4 * (n + 1)) (site_rows (65536 + 4 * (n + 1)) xs) =
    subst (λ (m : ℕ). Tells whole m (site_rows m xs)) (sym at) (later_tells pc x.site (site_rows (pc + 4) xs) whole tells) in (
      fetch_at space n x.instr (omega arith) here e.0,
      first_told pc x.site (site_rows (pc + 4) xs) whole f.0 (nothing_above pc (pc + 4) xs (omega arith)) tells,
      subst (λ (m : ℕ). Stand space (found_place whole) m xs) at (stand_from space whole (n + 1) xs e.1 f.1 words' (omega arith) tells'),
    )

pub length_map : (xs : List Slot) → length (map word_of_slot xs) ≡ length xs
length_map [] = refl
length_map (x ∷ xs) = ap suc (length_map xs)

-- all of a code stands in its image
pub code_stands : (space : Space) (xs : List Slot) → space.code ≡ words32 (code_bytes xs) → EncodeAll xs → AllInFile xs →
    Stand space (found_place (site_rows 65536 xs)) 65536 xs
code_stands space xs is e f =
    let words : space.code ≡ map word_of_slot xs = is ∙ words_of_code xs e in
    let long : length space.code ≡ length xs = ap length words ∙ length_map xs in
    stand_from space (site_rows 65536 xs) 0 xs e f
    (λ (k : ℕ) (h : k < length xs). (let z : 0 + k ≡ k = omega arith in ap (λ (m : ℕ). slice_index_or space.code m 0) z ∙ ap (λ (ws : List ℕ). slice_index_or ws k 0) words))
    (omega (arith, long)) (λ q r h told. told)
