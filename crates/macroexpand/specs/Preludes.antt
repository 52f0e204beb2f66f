-- The functions of the prelude as the code makes them (this project's own).
use Rattle.std.specs.Prelude.{◌≡◌, Bool, true, false, List, [], All, ◌⊎◌}
use Rattle.lisp_base.specs.declared.values.Place.{Place}
use Rattle.lisp_base.specs.declared.values.SymId.{SymId}
use Rattle.lisp_reader.specs.declared.forms.TopRead.{TopRead}
use Rattle.lisp_reader.specs.Building.{Stock, stock}
use Rattle.lisp_reader.specs.Reading.{Refusal}
use Rattle.lisp_reader.specs.Answers.{Reads, IsRefusedAt}
use Rattle.prelude.specs.Text.{prelude_text}
use Rattle.core_form.specs.Reading.{top_of}
use Rattle.program_size.specs.declared.prelude_functions.PreludeFunction.{PreludeFunction}
use Rattle.program_size.specs.Mentions.{functions_of as counted_functions}
use Rattle.expansion.specs.declared.kind.ExpandKind.{ExpandKind}
use Rattle.expansion.specs.declared.kind.ExpandKind.TheVariants as kind
use Rattle.expansion.specs.Steps.{World, gives, refused}
use Rattle.expansion.specs.Bindings.{is_among}
use Rattle.form_expander.specs.declared.fault.Fault.{Fault}
use Rattle.form_expander.specs.declared.fault.Fault.TheVariants as fault
use Rattle.form_expander.specs.declared.world.World.{World as World'}
use Rattle.form_expander.specs.Reading.{world_of}
use Rattle.file_expansion.specs.Files.{functions_of, helpers, first_world, file_place, is_unread, is_full}
use Rattle.file_expansion.specs.Laws.{IsSoundWorld, IsLawfulTree, IsThere, Grows}
use Rattle.macroexpand.specs.Going.{DefinesName, AreFunctions, helpers_from}

-- ---- functions of the prelude

-- a function, beside those with these names
pub record IsSoundHelper (names : List SymId) (before after : World) (f : PreludeFunction) : Type 0 where
  pub grows : Grows before after
  pub world : IsSoundWorld after
  pub tree : IsLawfulTree after (top_of f.form)
  pub defines : DefinesName f
  pub new : is_among names f.name ≡ false

pub record IsSoundPrelude (before after : World) (fs : List PreludeFunction) : Type 0 where
  pub grows : Grows before after
  pub world : IsSoundWorld after
  pub same : counted_functions fs ≡ functions_of (helpers_from fs)
  pub functions : AreFunctions after fs

-- ---- the prelude of a file

abbrev pub stock_of : World' → Stock
stock_of w = stock w.symbols w.heap

-- nothing has been proclaimed or counted yet
abbrev pub IsFirst : World' → Type 0
IsFirst w = world_of w ≡ first_world (stock_of w)

pub record ReadsPrelude (before after : World') (forms : List TopRead) : Type 0 where
  pub reads : Reads prelude_text (stock_of before) (forms, stock_of after)
  pub first : IsFirst after
  pub grows : Grows (world_of before) (world_of after)
  pub world : IsSoundWorld (world_of after)
  pub there : All (λ f. IsThere (world_of after) f.form) forms

-- the functions that a file begins with
pub record MakesPrelude (before after : World') (fs : List PreludeFunction) : Type 0 where
  pub read : List TopRead × Stock
  pub reads : Reads prelude_text (stock_of before) read
  pub helpers : helpers [] read.0 (first_world read.1) ≡ gives (helpers_from fs) (world_of after)
  pub sound : IsSoundPrelude (world_of before) (world_of after) fs

-- why a file is refused whose prelude is refused, its first form having this place
abbrev pub refused_prelude : Bool → Place → Fault
refused_prelude true first = fault.Refused kind.TooManySymbols first
refused_prelude false first = fault.Refused kind.BadForm (file_place 0)

pub record IsUnread (before : Stock) (first : Place) (k : ExpandKind) (place : Place) : Type 0 where
  pub refusal : Refusal
  pub is_refused : IsRefusedAt prelude_text before refusal
  pub is : refused_prelude (is_unread refusal.kind) first ≡ fault.Refused k place

pub record IsUnexpanded (before : Stock) (first : Place) (k : ExpandKind) (place : Place) : Type 0 where
  pub read : List TopRead × Stock
  pub reads : Reads prelude_text before read
  pub kind : ExpandKind
  pub at : Place
  pub is_refused : helpers [] read.0 (first_world read.1) ≡ refused kind at
  pub is : refused_prelude (is_full kind) first ≡ fault.Refused k place

abbrev pub RefusesReading : Stock → Place → Fault → Type 0
RefusesReading before first (fault.Refused k place) = IsUnread before first k place
RefusesReading before first fault.Memory = Unit {0}

abbrev pub RefusesPrelude : Stock → Place → Fault → Type 0
RefusesPrelude before first (fault.Refused k place) = IsUnread before first k place ⊎ IsUnexpanded before first k place
RefusesPrelude before first fault.Memory = Unit {0}
