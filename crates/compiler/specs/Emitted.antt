-- The image of a code, and why a source isn't compiled.
use Rattle.std.specs.Prelude.{◌≡◌, ℕ, List, [], ◌∷◌, Some}
use Rattle.lisp_base.specs.declared.values.Place.{Place}
use Rattle.core_form.specs.Lawful.{Parts, meant}
use Rattle.debug_info.specs.Tables.{Tables}
use Rattle.image.specs.Content.{Content}
use Rattle.lisp_reader.specs.Reading.{refusal}
use Rattle.lisp_reader.specs.Answers.{IsRefusedAt}
use Rattle.source_programs.specs.Programs.{first_stock, IsProgramOf, IsUnexpanded}
use Rattle.compiler.specs.declared.slot.Slot.{Slot}
use Rattle.compiler.specs.declared.fault.CompileFault.{CompileFault}
use Rattle.compiler.specs.declared.fault.CompileFault.TheVariants.{Read, Expand, NotYet, Memory}
use Rattle.compiler.specs.Parts.{code_bytes, statics_bytes, character_text, site_rows}
use Rattle.compiler.specs.BuiltNodes.{first_unbuilt}

-- the debug tables of a code
abbrev pub tables_of_code : List Slot → Tables
tables_of_code code = record { texts = character_text ∷ []; sites = site_rows 65536 code; functions = []; variables = [] }

-- the image of a code that begins with its entry
abbrev pub image_of_code : List Slot → Content
image_of_code code = record { code = code_bytes code; statics = statics_bytes; debug = tables_of_code code; entry = 65536 }

-- the source is this program, and the first of its nodes that isn't built has this place
pub record IsUnbuilt (source : List ℕ) (place : Place) (program : Parts) : Type 0 where
  pub is_program : IsProgramOf source program
  pub unbuilt : first_unbuilt (meant program) ≡ Some place

-- A source can't be read, is no program, or is one with a node that isn't built; want of memory tells nothing.
abbrev pub IsRefused : List ℕ → CompileFault → Type 0
IsRefused source (Read kind offset) = IsRefusedAt source first_stock (refusal kind offset)
IsRefused source (Expand kind place symbols) = IsUnexpanded source kind place symbols
IsRefused source (NotYet place program) = IsUnbuilt source place program
IsRefused source Memory = Unit {0}
