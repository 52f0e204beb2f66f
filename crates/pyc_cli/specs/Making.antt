-- What a source is expanded and compiled to, or why it isn't.
use Rattle.std.specs.Prelude.{ℕ, List, ◌++◌, codes, ◌==◌, if◌then◌else◌, slice_get}
use Rattle.std.specs.Fmt.{decimal}
use Rattle.lisp_base.specs.Sort.{number_of}
use Rattle.lisp_base.specs.Tables.{Symbol, Table}
use Rattle.lisp_base.specs.declared.values.Place.{Place}
use Rattle.lisp_base.specs.declared.values.Place.TheVariants.{File, Prelude}
use Rattle.core_form.specs.Lawful.{Parts}
use Rattle.core_form.specs.Text.{bare_name}
use Rattle.lisp_reader.specs.declared.fault.ReadKind.{ReadKind}
use Rattle.lisp_reader.specs.declared.fault.ReadKind.TheVariants as read
use Rattle.lisp_reader.specs.Reading.{refusal}
use Rattle.lisp_reader.specs.Answers.{IsRefusedAt}
use Rattle.expansion.specs.declared.kind.ExpandKind.{ExpandKind}
use Rattle.expansion.specs.declared.kind.ExpandKind.TheVariants as expand
use Rattle.source_programs.specs.Programs.{first_stock, IsUnexpanded}
use Rattle.compiler.specs.Compiled.{IsCompiled}
use Rattle.compiler.specs.Emitted.{IsUnbuilt}

abbrev pub read_kind_text : ReadKind → List ℕ
read_kind_text read.TooLong = codes "TooLong"
read_kind_text read.NotText = codes "NotText"
read_kind_text read.Unbalanced = codes "Unbalanced"
read_kind_text read.BadToken = codes "BadToken"
read_kind_text read.Unsupported = codes "Unsupported"
read_kind_text read.TooDeep = codes "TooDeep"
read_kind_text read.TooManySymbols = codes "TooManySymbols"
read_kind_text read.Eof = codes "Eof"

abbrev pub expand_kind_text : ExpandKind → List ℕ
expand_kind_text expand.BadForm = codes "BadForm"
expand_kind_text expand.BadType = codes "BadType"
expand_kind_text expand.UnknownOperator = codes "UnknownOperator"
expand_kind_text expand.TooManyNodes = codes "TooManyNodes"
expand_kind_text expand.TooNested = codes "TooNested"
expand_kind_text expand.TooManyClosed = codes "TooManyClosed"
expand_kind_text expand.ProgramTooLarge = codes "ProgramTooLarge"
expand_kind_text expand.TooManySymbols = codes "TooManySymbols"
expand_kind_text expand.BadPolicy = codes "BadPolicy"

-- the kind of what isn't built yet
abbrev pub not_yet_text : List ℕ
not_yet_text = codes "NotYet"

-- a place of the file, or a function of the prelude, whose name is one of these symbols
abbrev pub place_text : List Symbol → Place → List ℕ
place_text symbols (File offset tail) = if tail == 0 then decimal offset else decimal offset ++ (codes "+" ++ decimal tail)
place_text symbols (Prelude name) = codes "prelude:" ++ bare_name (slice_get symbols (number_of name))

-- a refusal's kind and place
abbrev pub refusal_text : (kind place : List ℕ) → List ℕ
refusal_text kind place = kind ++ (codes " at " ++ place)

-- why a source is no program: it can't be read, or what is read expands to none
pub data IsNoProgram (source : List ℕ) : List ℕ → Type 0 where
  unread : (kind : ReadKind) (offset : ℕ) → IsRefusedAt source first_stock (refusal kind offset)
      → IsNoProgram source (refusal_text (read_kind_text kind) (decimal offset))
  unexpanded : (kind : ExpandKind) (place : Place) (symbols : Table) → IsUnexpanded source kind place symbols
      → IsNoProgram source (refusal_text (expand_kind_text kind) (place_text symbols.symbols place))

-- why a source isn't compiled: it is no program, or its program has a node that isn't built
pub data IsRefused (source : List ℕ) : List ℕ → Type 0 where
  no_program : (text : List ℕ) → IsNoProgram source text → IsRefused source text
  not_yet : (place : Place) (program : Parts) → IsUnbuilt source place program
      → IsRefused source (refusal_text not_yet_text (place_text program.symbols place))

-- the source is a program, and the bytes are an image that does what the program does
abbrev pub IsImageOf : List ℕ → List ℕ → Type 0
IsImageOf source image = IsCompiled source image
