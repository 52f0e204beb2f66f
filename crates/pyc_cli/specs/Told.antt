-- What a call comes to where no fault and no want of memory is met.
use Rattle.std.specs.Prelude.{◌≡◌, ℕ, ◌+◌, List, [], length, drop, Option, Some, None, IfSome, nat_lt, if◌then◌else◌, Bool, true, false, ◌⊎◌, Result, Ok, Err}
use Rattle.std.specs.Str.{is_utf8, chars}
use Rattle.std.specs.Str.Lossy.{utf8_valid_len}
use Rattle.core_form.specs.Lawful.{Parts}
use Rattle.core_form.specs.Text.{program_text}
use Rattle.image.specs.Content.{Content}
use Rattle.image.specs.Fields.{Fault}
use Rattle.image.specs.Format.{image_of}
use Rattle.listing.specs.Text.{listing_of}
use Rattle.outside_io.specs.Views.{Names}
use Rattle.outside_io.specs.Names.{cut, ChangesTold}
use Rattle.pyc_cli.specs.Ending.{Ending, refused, absent, bad_image, not_text, too_long, written}
use Rattle.pyc_cli.specs.Order.{Order, Limits}
use Rattle.pyc_cli.specs.Making.{IsNoProgram, IsRefused, IsImageOf}
use Rattle.pyc_cli.specs.Running.{shown, end_of}
use Rattle.source_programs.specs.Programs.{IsProgramOf}

pub record Told : Type 0 where
  pub ending : Ending
  -- all that goes to out
  pub out : List ℕ
  -- the name that is set, and to what
  pub set : Option (List ℕ × List ℕ)
  -- what is left of the input, and whether any of it is taken
  pub left : List ℕ
  pub takes : Bool

-- the store as the call leaves it
abbrev pub IsSet : Option (List ℕ × List ℕ) → Option Names → Option Names → Type 0
IsSet None old new = new ≡ old
IsSet (Some set) old new = ChangesTold old new set.0 (λ held. held ≡ Some set.1)

-- it stops with nothing set or written, and this much input left
abbrev pub stops : Ending → List ℕ → Told
stops ending left = record { ending = ending; out = []; set = None; left = left; takes = false }

-- The image is run on these characters.
abbrev pub told_run : Limits → Content → List ℕ → Told
told_run limits image characters =
    record { ending = end_of limits image characters; out = shown limits image characters; set = None; left = []; takes = true }

-- The whole input is taken: it is to be text, within its limit.
abbrev pub told_text : Limits → Content → List ℕ → Told
told_text limits image input =
    if is_utf8 input then told_run limits image (chars input)
    else record (stops (not_text (utf8_valid_len input)) []) { takes = true }

abbrev pub told_input : Limits → Content → List ℕ → Told
told_input limits image input =
    if nat_lt 16777216 (length input) then record (stops too_long (drop 16777217 input)) { takes = true }
    else told_text limits image input

-- The bytes are to be an image.
abbrev pub told_image : Limits → Result Content Fault → List ℕ → Told
told_image limits (Err fault) input = stops (bad_image fault.kind fault.offset) input
told_image limits (Ok image) input = told_input limits image input

-- the bytes of the input, where the source tells them
abbrev pub TellsInput : (List ℕ → Told) → Option (List ℕ) → Told → Type 0
TellsInput told left t = (input : List ℕ) × IfSome left (λ l. l ≡ input) × (t ≡ told input)

abbrev pub TellsBytes : Limits → List ℕ → Option (List ℕ) → Told → Type 0
TellsBytes limits bytes left t = TellsInput (told_image limits (image_of bytes)) left t

-- how many bytes of a source are asked for: one more than it may have
abbrev pub source_asked : ℕ
source_asked = 1048577

-- how many bytes of an image are asked for: one more than the longest has
unfoldable pub image_asked : ℕ
image_asked = 40 + 134217728 + 67108864 + 268435456 + 1

-- a name isn't there, or it is gone on with its bytes
abbrev pub TellsFound : (List ℕ → Told → Type 0) → List ℕ → Option (List ℕ) → Option (List ℕ) → Told → Type 0
TellsFound Next name None left t = TellsInput (stops (absent name)) left t
TellsFound Next name (Some bytes) left t = Next bytes t

-- The first bytes of what the store holds at a name are gotten, at most so many.
pub record TellsName (Next : List ℕ → Option Names → Option (List ℕ) → Told → Type 0) (limit : ℕ) (name : List ℕ) (names : Option Names) (left : Option (List ℕ)) (t : Told) : Type 0 where
  pub held : Option (List ℕ)
  pub held_is : IfSome names (λ n. cut limit (n name) ≡ held)
  pub next : TellsFound (λ bytes u. Next bytes names left u) name held left t

-- exec IMAGE: what the store holds at IMAGE is run.
abbrev pub TellsExec : Limits → List ℕ → Option Names → Option (List ℕ) → Told → Type 0
TellsExec limits name names left t = TellsName (λ bytes n l u. TellsBytes limits bytes l u) image_asked name names left t

-- The image that was made is set, and then it is gone on as exec, with what a get of it gives: where the store tells its names, that is what was set.
pub record TellsSet (order : Order) (image : List ℕ) (names : Option Names) (left : Option (List ℕ)) (t : Told) : Type 0 where
  pub held : Option (List ℕ)
  pub held_is : IfSome names (λ n. held ≡ Some image)
  pub rest : Told
  pub next : TellsFound (λ bytes u. TellsBytes order.limits bytes left u) order.second held left rest
  pub is : t ≡ record rest { set = Some (order.second, image) }

-- The source is compiled, if it is a program.
abbrev pub TellsSource : Order → List ℕ → Option Names → Option (List ℕ) → Told → Type 0
TellsSource order source names left t =
    ((text : List ℕ) × IsRefused source text × TellsInput (stops (refused text)) left t)
    ⊎ ((image : List ℕ) × IsImageOf source image × TellsSet order image names left t)

-- run IN OUT: what the store holds at IN is the source.
abbrev pub TellsRun : Order → Option Names → Option (List ℕ) → Told → Type 0
TellsRun order names left t = TellsName (λ source n l u. TellsSource order source n l u) source_asked order.first names left t

-- A text is written, and the input stays.
abbrev pub told_written : List ℕ → List ℕ → Told
told_written text input = record (stops written input) { out = text }

-- The text of the program that a source is is written.
abbrev pub TellsProgram : List ℕ → Option (List ℕ) → Told → Type 0
TellsProgram source left t =
    ((text : List ℕ) × IsNoProgram source text × TellsInput (stops (refused text)) left t)
    ⊎ ((program : Parts) × IsProgramOf source program × TellsInput (told_written (program_text program)) left t)

-- expand IN: what the store holds at IN is the source.
abbrev pub TellsExpand : List ℕ → Option Names → Option (List ℕ) → Told → Type 0
TellsExpand name names left t = TellsName (λ source n l u. TellsProgram source l u) source_asked name names left t

-- The listing of code is written.
abbrev pub told_code : List ℕ → List ℕ → Told
told_code code input = told_written (listing_of code) input

abbrev pub told_listing : Result Content Fault → List ℕ → Told
told_listing (Err fault) input = stops (bad_image fault.kind fault.offset) input
told_listing (Ok image) input = told_code image.code input

-- disasm IMAGE: what the store holds at IMAGE is listed.
abbrev pub TellsDisasm : List ℕ → Option Names → Option (List ℕ) → Told → Type 0
TellsDisasm name names left t = TellsName (λ bytes n l u. TellsInput (told_listing (image_of bytes)) l u) image_asked name names left t
