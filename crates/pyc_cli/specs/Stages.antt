-- What the stages of a command leave, before they are taken together.
use Rattle.std.specs.Prelude.{◌≡◌, ◌<◌, ◌≤◌, ℕ, List, [], ◌++◌, length, Option, None, true, IfSome, string_bytes}
use Rattle.outside_io.specs.Causes.{Rose}
use Rattle.outside_io.specs.Names.{cut}
use Rattle.outside_io.specs.Views.{Kept, Fed, Sunk, gained, untaken}
use Rattle.pyc_cli.specs.Ending.{Ending, Close, told, value, error, usage, absent, heap, stack, step_limit, bad_image, trap, read_fault, write_fault, memory}
use Rattle.ending_texts.specs.Errors.{fault_text}
use Rattle.ending_texts.specs.Values.{word_text}
use Rattle.ending_texts.specs.Words.{words_of}
use Rattle.image.specs.Content.{Content}
use Rattle.image.specs.declared.fault.ImageFault.{ImageFault}
use Rattle.image.specs.declared.fault.ImageFault.TheVariants as faults
use Rattle.rv_machine.specs.declared.events.Event.{Event}
use Rattle.rv_machine.specs.declared.events.Event.TheVariants as event
use Rattle.rv_machine.specs.declared.machine.Machine.{Machine}
use Rattle.pyc_cli.specs.declared.words.WordFault.{WordFault}
use Rattle.pyc_cli.specs.declared.words.WordFault.TheVariants as words
use Rattle.pyc_cli.specs.Making.{IsNoProgram, IsRefused, IsImageOf}
use Rattle.pyc_cli.specs.Moved.{Left, GainsFront, TakesFront, IsCut}
use Rattle.pyc_cli.specs.Told.{Told}
use Rattle.pyc_cli.specs.declared.moving.Step.{Step}
use Rattle.pyc_cli.specs.declared.moving.Step.TheVariants as step
use Rattle.pyc_cli.specs.declared.making.Compiled.{Compiled}
use Rattle.pyc_cli.specs.declared.making.Compiled.TheVariants as compiled
use Rattle.pyc_cli.specs.declared.making.Expanded.{Expanded}
use Rattle.pyc_cli.specs.declared.making.Expanded.TheVariants as expanded
use Rattle.source_programs.specs.Programs.{IsProgramOf}

-- some more of a source is added to bytes, at most so much
pub record Adds (old new : Fed) (before after : List ℕ) (most : ℕ) : Type 0 where
  pub piece : List ℕ
  pub added : after ≡ before ++ piece
  pub some : 0 < length piece
  pub bounded : length piece ≤ most
  pub taken : old.left ≡ untaken piece new.left

abbrev pub TakesMore : Fed → Fed → Step → List ℕ → List ℕ → ℕ → Type 0
TakesMore old new step.More before after most = Adds old new before after most
TakesMore old new step.End before after most = (after ≡ before) × IfSome old.left (λ left. left ≡ []) × (new.left ≡ old.left)
TakesMore old new step.Failed before after most = Rose old.faults new.faults × (new.left ≡ old.left)
TakesMore old new step.Memory before after most = (piece : List ℕ) × (length piece ≤ most) × (old.left ≡ untaken piece new.left)

-- a get changes no name and counts no set
pub record GetKeeps (old new : Kept) : Type 0 where
  pub names : new.names ≡ old.names
  pub gets : old.gets ≤ new.gets
  pub sets : new.sets ≡ old.sets

-- what a call comes to that gets no bytes of a name
abbrev pub Misses : ℕ → List ℕ → Kept → Kept → Close → Type 0
Misses limit name old new (told e) = (e ≡ absent name) × IfSome old.names (λ n. cut limit (n name) ≡ None)
Misses limit name old new read_fault = Rose old.gets new.gets
Misses limit name old new write_fault = ⊥
Misses limit name old new memory = Unit {0}

-- what a source is expanded to
abbrev pub Expands : List ℕ → Expanded → Type 0
Expands source (expanded.Program program) = IsProgramOf source program
Expands source (expanded.Refused text) = IsNoProgram source (string_bytes text)
Expands source expanded.Memory = Unit {0}

-- what a source is compiled to
abbrev pub Compiles : List ℕ → Compiled → Type 0
Compiles source (compiled.Image image) = IsImageOf source image.items
Compiles source (compiled.Refused text) = IsRefused source (string_bytes text)
Compiles source compiled.Memory = Unit {0}

-- what a run leaves of the input and of out
abbrev pub RunLeaves : Told → Close → Fed → Fed → Sunk → Sunk → Type 0
RunLeaves t (told e) old new out_old out_new =
    (e ≡ t.ending) × Left old.left new.left t.left × (out_new.held ≡ gained out_old.held t.out)
RunLeaves t read_fault old new out_old out_new =
    (t.takes ≡ true) × Rose old.faults new.faults × TakesFront old.left new.left × (out_new.held ≡ out_old.held)
RunLeaves t write_fault old new out_old out_new =
    (0 < length t.out) × Rose out_old.faults out_new.faults × Left old.left new.left t.left × GainsFront out_old.held out_new.held t.out
RunLeaves t memory old new out_old out_new = IsCut t.takes old.left new.left × GainsFront out_old.held out_new.held t.out

-- a run, of which Tells says what is told
pub record Runs (Tells : Option (List ℕ) → Told → Type 0) (c : Close) (old new : Fed) (out_old out_new : Sunk) : Type 0 where
  pub all : Told
  pub tells : Tells old.left all
  pub leaves : RunLeaves all c old new out_old out_new

-- what a call comes to whose words, or whose image, isn't read
abbrev pub word_close : WordFault → Close
word_close words.Usage = told usage
word_close words.Memory = memory

abbrev pub image_close : ImageFault → Close
image_close (faults.Bad offset kind) = told (bad_image kind offset)
image_close faults.Memory = memory

-- how a run ends whose last event this is; an event that doesn't end it leaves it to the limit
abbrev pub event_told : Content → Machine → Event → Ending
event_told image m (event.Value word) = value (word_text (words_of m) word)
event_told image m (event.Error kind a b c pc) = error (fault_text (words_of m) image.debug kind a b c pc)
event_told image m event.Heap = heap
event_told image m event.Stack = stack
event_told image m (event.Trap pc) = trap pc
event_told image m event.Went = step_limit
event_told image m (event.Wrote c) = step_limit

-- this ending, or want of memory
abbrev pub IsToldBy : Close → Ending → Type 0
IsToldBy (told e) ending = e ≡ ending
IsToldBy read_fault ending = ⊥
IsToldBy write_fault ending = ⊥
IsToldBy memory ending = Unit {0}
