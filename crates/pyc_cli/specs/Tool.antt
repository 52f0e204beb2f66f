-- What a call of the tool is told, and what it leaves.
use Rattle.std.specs.Prelude.{◌≡◌, ℕ, List, Option, Some, None, ◌⊎◌, Bool, true, false}
use Rattle.outside_io.specs.Causes.{Rose}
use Rattle.outside_io.specs.Names.{ChangesTold}
use Rattle.outside_io.specs.Views.{Names, Sunk}
use Rattle.pyc_cli.specs.Ending.{Close, told, usage, status_told, line_of}
use Rattle.pyc_cli.specs.Making.{IsImageOf}
use Rattle.pyc_cli.specs.Moved.{PutsAll}
use Rattle.pyc_cli.specs.Order.{Order}
use Rattle.pyc_cli.specs.Told.{Told, stops, TellsInput, TellsExec, TellsRun, TellsExpand, TellsDisasm}
use Rattle.pyc_cli.specs.Work.{Outside, Whole, Does}
use Rattle.pyc_cli.specs.Line.{Finishes}
use Rattle.pyc_cli.specs.declared.status.Status.{Status}
use Rattle.pyc_cli.specs.declared.status.Status.TheVariants as status
use Rattle.pyc_cli.specs.declared.command.Verb.{Verb}
use Rattle.pyc_cli.specs.declared.command.Verb.TheVariants as verbs
use Rattle.pyc_cli.specs.declared.moving.Wrote.{Wrote}

abbrev pub TellsVerb : Verb → Order → Option Names → Option (List ℕ) → Told → Type 0
TellsVerb verbs.Exec order names left t = TellsExec order.limits order.first names left t
TellsVerb verbs.Run order names left t = TellsRun order names left t
TellsVerb verbs.Expand order names left t = TellsExpand order.first names left t
TellsVerb verbs.Disasm order names left t = TellsDisasm order.first names left t

abbrev pub Tells : Option Order → Option Names → Option (List ℕ) → Told → Type 0
Tells None names left t = TellsInput (stops usage) left t
Tells (Some order) names left t = TellsVerb order.verb order names left t

-- a get of the first operand comes before all else
abbrev pub verb_gets_first : Verb → Bool
verb_gets_first verbs.Exec = true
verb_gets_first verbs.Run = true
verb_gets_first verbs.Expand = true
verb_gets_first verbs.Disasm = true

abbrev pub gets_first : Option Order → Bool
gets_first None = false
gets_first (Some order) = verb_gets_first order.verb

-- The work is done up to an ending, and the ending's line is put.
pub record Ends (asked : Option Order) (s : Status) (old new : Outside) (err_old err_new : Sunk) : Type 0 where
  pub close : Close
  pub work : Does (gets_first asked) (Tells asked) close old new
  pub line : Finishes close s err_old err_new

-- Why a read or a write fault is answered.
abbrev pub RoseInRead : Outside → Outside → Type 0
RoseInRead old new = Rose old.files.gets new.files.gets ⊎ Rose old.input.faults new.input.faults

abbrev pub RoseInWrite : Outside → Outside → Sunk → Sunk → Type 0
RoseInWrite old new err_old err_new = Rose old.files.sets new.files.sets ⊎ (Rose old.out.faults new.out.faults ⊎ Rose err_old.faults err_new.faults)

-- All is as told, but that the line may be cut short where a put of it answered otherwise.
pub record AsTold (asked : Option Order) (s : Status) (old new : Outside) (err_old err_new : Sunk) : Type 0 where
  pub all : Told
  pub tells : Tells asked old.files.names old.input.left all
  pub status : s ≡ status_told all.ending
  pub work : Whole all all.ending old new
  pub wrote : Wrote
  pub line : PutsAll err_old err_new wrote (line_of (told all.ending))

-- the name that a command may set
abbrev pub verb_sets : Verb → List ℕ → Option (List ℕ)
verb_sets verbs.Exec second = None
verb_sets verbs.Run second = Some second
verb_sets verbs.Expand second = None
verb_sets verbs.Disasm second = None

abbrev pub name_set : Option Order → Option (List ℕ)
name_set None = None
name_set (Some order) = verb_sets order.verb order.second

-- the store changes at this name alone
abbrev pub ChangesOnly : Option (List ℕ) → Option Names → Option Names → Type 0
ChangesOnly None old new = new ≡ old
ChangesOnly (Some name) old new = ChangesTold old new name (λ held. Unit {0})

-- ---- the image that a run leaves

-- a status that comes only after the image was set
abbrev pub is_after_set : Status → Bool
is_after_set status.Done = true
is_after_set status.LispError = true
is_after_set status.Usage = false
is_after_set status.Refused = false
is_after_set status.Absent = false
is_after_set status.ReadFault = false
is_after_set status.WriteFault = false
is_after_set status.Heap = true
is_after_set status.Stack = true
is_after_set status.StepLimit = true
is_after_set status.BadImage = true
is_after_set status.Trap = true
is_after_set status.InputNotText = true
is_after_set status.InputTooLong = true
is_after_set status.Memory = false

-- the call got as far as the set, and the set answered that the name holds the bytes
abbrev pub WasSet : Status → Outside → Outside → Type 0
WasSet s old new =
    (is_after_set s ≡ true)
    ⊎ (((s ≡ status.ReadFault) × (Rose old.files.gets new.files.gets → ⊥))
    ⊎ ((s ≡ status.WriteFault) × (Rose old.files.sets new.files.sets → ⊥)))

-- what a name held is the source of a program, and what another name holds is an image that does what the program does
pub record IsMade (held set : Option (List ℕ)) : Type 0 where
  pub source : List ℕ
  pub image : List ℕ
  pub held_is : held ≡ Some source
  pub set_is : set ≡ Some image
  pub is_image : IsImageOf source image

abbrev pub MadeOf : List ℕ → List ℕ → Option Names → Option Names → Type 0
MadeOf first second None new = Unit {0}
MadeOf first second (Some old) None = ⊥
MadeOf first second (Some old) (Some new) = IsMade (old first) (new second)

-- what a command makes of the names, where it sets one
abbrev pub verb_makes : Verb → Order → Option Names → Option Names → Type 0
verb_makes verbs.Exec order old new = Unit {0}
verb_makes verbs.Run order old new = MadeOf order.first order.second old new
verb_makes verbs.Expand order old new = Unit {0}
verb_makes verbs.Disasm order old new = Unit {0}

-- where the store tells its names
abbrev pub Makes : Option Order → Option Names → Option Names → Type 0
Makes None old new = ⊥
Makes (Some order) old new = verb_makes order.verb order old new
