-- What `expand_file` is given and what it returns (this project's own).
use Rattle.std.specs.Prelude.{List, [], All}
use Rattle.lisp_base.specs.declared.values.Place.{Place}
use Rattle.lisp_base.specs.Tables.{Table}
use Rattle.lisp_reader.specs.declared.forms.TopRead.{TopRead}
use Rattle.lisp_reader.specs.Building.{Stock}
use Rattle.lambda_lists.specs.Readings.{KeepsSymbols}
use Rattle.expansion.specs.declared.kind.ExpandKind.{ExpandKind}
use Rattle.expansion.specs.Steps.{World, gives, refused}
use Rattle.form_expander.specs.declared.fault.Fault.{Fault}
use Rattle.form_expander.specs.declared.fault.Fault.TheVariants as fault
use Rattle.macroexpand.specs.declared.fault.ExpandFault.{ExpandFault}
use Rattle.macroexpand.specs.declared.fault.ExpandFault.TheVariants as expand_fault
use Rattle.macroexpand.specs.declared.tops.Growing.{Growing}
use Rattle.file_expansion.specs.Files.{Answers, first_world}
use Rattle.file_expansion.specs.Laws.{IsThere}
use Rattle.macroexpand.specs.Going.{helpers_from, trees_of}

-- all that the forms reach is there
abbrev pub AreGiven : List TopRead → Stock → Type 0
AreGiven forms before = All (λ f. IsThere (first_world before) f.form) forms

-- the file is refused so, and the symbols are those that were given, maybe with more
pub record IsRefused (forms : List TopRead) (before : Stock) (k : ExpandKind) (place : Place) (symbols : Table) : Type 0 where
  pub answers : Answers forms before (refused k place)
  pub keeps : KeepsSymbols before.symbols symbols

abbrev pub Refuses : List TopRead → Stock → ExpandFault → Type 0
Refuses forms before (expand_fault.Refused k place symbols) = IsRefused forms before k place symbols
Refuses forms before expand_fault.Memory = Unit {0}

abbrev pub RefusesFile : List TopRead → Stock → Fault → Type 0
RefusesFile forms before (fault.Refused k place) = Answers forms before (refused k place)
RefusesFile forms before fault.Memory = Unit {0}

-- the trees of a whole file, in the world after it
abbrev pub Answered : List TopRead → Stock → Growing → World → Type 0
Answered forms before g w = Answers forms before (gives (helpers_from g.prelude.items, trees_of g) w)
