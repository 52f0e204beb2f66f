-- The parts of the image of a program of the first path: code, statics and sites.
use Rattle.std.specs.Prelude.{◌≡◌, ℕ, ◌+◌, ◌*◌, ◌^◌, List, [], ◌∷◌, ◌++◌, slice_get, Option, Some, None}
use Rattle.std.specs.List.{flat_map}
use Rattle.std.specs.Int.{w32, w64, to_le_bytes}
use Rattle.lisp_base.specs.declared.values.Place.{Place}
use Rattle.lisp_base.specs.declared.values.Place.TheVariants as places
use Rattle.lisp_base.specs.declared.values.SymKind.TheVariants as symbol_kinds
use Rattle.core_form.specs.Tree.{Top}
use Rattle.core_form.specs.State.{Symbol}
use Rattle.debug_info.specs.declared.rows.SitePlace.TheVariants as site
use Rattle.debug_info.specs.declared.rows.SiteRow.{SiteRow}
use Rattle.image.specs.Content.{Content}
use Rattle.object_model.specs.declared.ObjKind.TheVariants as kinds
use Rattle.object_model.specs.Words.{header_word, no_function_word}
use Rattle.rv_isa.specs.Encoding.{encoding}
use Rattle.compiler.specs.declared.slot.Slot.{Slot}
use Rattle.compiler.specs.Words.{nil_word, truth_word}
use Rattle.compiler.specs.Code.{program_code}

-- the words of the instructions, one after another
abbrev pub slot_bytes : Slot → List ℕ
slot_bytes x = to_le_bytes w32 (encoding x.instr)

abbrev pub code_bytes : List Slot → List ℕ
code_bytes xs = flat_map slot_bytes xs

-- the text of the one type that is expected
abbrev pub character_text : List ℕ
character_text = 67 ∷ 72 ∷ 65 ∷ 82 ∷ 65 ∷ 67 ∷ 84 ∷ 69 ∷ 82 ∷ []

-- The row of an instruction that signals the error of a form of the file, with text 0. A form of the prelude has no row:
-- no code of the first path has one.
abbrev pub place_rows : ℕ → Place → List SiteRow
place_rows pc (places.File offset tail) = record { pc = pc; place = site.File offset tail; text = Some 0 } ∷ []
place_rows pc (places.Prelude name) = []

abbrev pub slot_rows : ℕ → Option Place → List SiteRow
slot_rows pc None = []
slot_rows pc (Some p) = place_rows pc p

-- the rows of instructions that stand from an address on
abbrev pub site_rows : ℕ → List Slot → List SiteRow
site_rows pc [] = []
site_rows pc (x ∷ xs) = slot_rows pc x.site ++ site_rows (pc + 4) xs

-- The first objects: the cons of NIL; the symbols NIL and T, each with itself as its value, without a function, with
-- its name and the kind of a plain symbol; the two names.
abbrev pub symbol_words : ℕ → ℕ → List ℕ
symbol_words value name = header_word kinds.Symbol 4 ∷ value ∷ no_function_word ∷ name ∷ 0 ∷ []

abbrev pub statics_words : List ℕ
statics_words =
    nil_word ∷ nil_word ∷ (symbol_words nil_word 0x20000067 ++ (symbol_words truth_word 0x2000007F ++ (
    header_word kinds.String 3 ∷ (78 + 73 * 2 ^ 32) ∷ 76 ∷ header_word kinds.String 1 ∷ 84 ∷ [])))

abbrev pub statics_bytes : List ℕ
statics_bytes = flat_map (λ w. to_le_bytes w64 w) statics_words

-- the image of these top-level forms
abbrev pub image_of_forms : List Top → Content
image_of_forms forms = record {
  code = code_bytes (program_code forms);
  statics = statics_bytes;
  debug = record { texts = character_text ∷ []; sites = site_rows 65536 (program_code forms); functions = []; variables = [] };
  entry = 65536;
}

-- The symbols of a program begin with NIL and T.
abbrev pub plain_symbol : List ℕ → Symbol
plain_symbol letters = record { name = letters; kind = symbol_kinds.Plain }

pub record BeginsWithNames (symbols : List Symbol) : Type 0 where
  pub nil : slice_get symbols 0 ≡ Some (plain_symbol (78 ∷ 73 ∷ 76 ∷ []))
  pub truth : slice_get symbols 1 ≡ Some (plain_symbol (84 ∷ []))
