-- The program that a source is, or why it is none.
use Rattle.std.specs.Prelude.{ℕ, List, []}
use Rattle.lisp_base.specs.declared.values.Place.{Place}
use Rattle.lisp_base.specs.Tables.{Table, first_table}
use Rattle.lisp_reader.specs.declared.forms.TopRead.{TopRead}
use Rattle.lisp_reader.specs.Building.{Stock, stock}
use Rattle.lisp_reader.specs.Reading.{refusal}
use Rattle.lisp_reader.specs.Answers.{Reads, IsRefusedAt}
use Rattle.core_form.specs.Lawful.{Parts}
use Rattle.expansion.specs.declared.kind.ExpandKind.{ExpandKind}
use Rattle.file_expansion.specs.Files.{IsProgram}
use Rattle.macroexpand.specs.Given.{IsRefused}
use Rattle.source_programs.specs.declared.fault.ProgramFault.{ProgramFault}
use Rattle.source_programs.specs.declared.fault.ProgramFault.TheVariants as fault

-- a source is read with the symbols that every table begins with, and no object
abbrev pub first_stock : Stock
first_stock = stock first_table []

-- a source is a program: what is read of it expands to that
pub record IsProgramOf (source : List ℕ) (p : Parts) : Type 0 where
  pub read : List TopRead × Stock
  pub reads : Reads source first_stock read
  pub expands : IsProgram read.0 read.1 p

-- a source can be read, but what is read of it is refused
pub record IsUnexpanded (source : List ℕ) (k : ExpandKind) (place : Place) (symbols : Table) : Type 0 where
  pub read : List TopRead × Stock
  pub reads : Reads source first_stock read
  pub refused : IsRefused read.0 read.1 k place symbols

-- want of memory tells nothing of the source
abbrev pub IsRefusedFor : List ℕ → ProgramFault → Type 0
IsRefusedFor source (fault.Read kind offset) = IsRefusedAt source first_stock (refusal kind offset)
IsRefusedFor source (fault.Expand kind place symbols) = IsUnexpanded source kind place symbols
IsRefusedFor source fault.Memory = Unit {0}
