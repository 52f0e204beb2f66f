-- What a command comes to, its status and its line.
use Rattle.std.specs.Prelude.{ℕ, List, [], ◌++◌, codes, Bool, true, false}
use Rattle.std.specs.Fmt.{decimal}
use Rattle.image.specs.declared.fault.ImageKind.{ImageKind}
use Rattle.image.specs.declared.fault.ImageKind.TheVariants as kinds
use Rattle.pyc_cli.specs.declared.status.Status.{Status}
use Rattle.pyc_cli.specs.declared.status.Status.TheVariants as status

-- what can be told before the call
pub data Ending : Type 0 where
  -- a run ended with a value of this text
  value : List ℕ → Ending
  -- a run ended with an error: its kind, its data and its place
  error : List ℕ → Ending
  -- the words ask for nothing
  usage : Ending
  -- the source is no program: the kind of the refusal and its place
  refused : List ℕ → Ending
  -- a name isn't there
  absent : List ℕ → Ending
  -- a run ended since the heap, or a stack, is full
  heap : Ending
  stack : Ending
  -- a run didn't end within its instructions
  step_limit : Ending
  -- bytes are no image
  bad_image : ImageKind → ℕ → Ending
  -- a run ended at an address whose instruction can't be executed
  trap : ℕ → Ending
  -- the input isn't UTF-8 from this offset on
  not_text : ℕ → Ending
  -- the input is longer than its limit
  too_long : Ending
  -- the text of a command was written whole
  written : Ending

-- what a call comes to: what is told, a fault, or want of memory
pub data Close : Type 0 where
  told : Ending → Close
  read_fault : Close
  write_fault : Close
  memory : Close

abbrev pub status_told : Ending → Status
status_told (value text) = status.Done
status_told (error text) = status.LispError
status_told usage = status.Usage
status_told (refused text) = status.Refused
status_told (absent name) = status.Absent
status_told heap = status.Heap
status_told stack = status.Stack
status_told step_limit = status.StepLimit
status_told (bad_image kind offset) = status.BadImage
status_told (trap pc) = status.Trap
status_told (not_text offset) = status.InputNotText
status_told too_long = status.InputTooLong
status_told written = status.Done

abbrev pub status_of : Close → Status
status_of (told e) = status_told e
status_of read_fault = status.ReadFault
status_of write_fault = status.WriteFault
status_of memory = status.Memory

abbrev pub kind_text : ImageKind → List ℕ
kind_text kinds.Magic = codes "Magic"
kind_text kinds.Version = codes "Version"
kind_text kinds.CodeLength = codes "CodeLength"
kind_text kinds.StaticsLength = codes "StaticsLength"
kind_text kinds.DebugLength = codes "DebugLength"
kind_text kinds.Entry = codes "Entry"
kind_text kinds.Short = codes "Short"
kind_text kinds.Debug = codes "Debug"
kind_text kinds.Trailing = codes "Trailing"

-- the line on err; none after a text that was written, or that couldn't be
unfoldable pub line_of : Close → List ℕ
line_of (told (value text)) = codes "value " ++ text ++ codes "\n"
line_of (told (error text)) = codes "error " ++ text ++ codes "\n"
line_of (told usage) = codes "usage: pyc compile IN OUT | exec IMAGE | run IN OUT | expand IN | disasm IMAGE | bench N OUT\n"
line_of (told (refused text)) = codes "refused " ++ text ++ codes "\n"
line_of (told (absent name)) = codes "absent " ++ name ++ codes "\n"
line_of (told heap) = codes "heap\n"
line_of (told stack) = codes "stack\n"
line_of (told step_limit) = codes "step limit\n"
line_of (told (bad_image kind offset)) = codes "bad image " ++ kind_text kind ++ codes " at " ++ decimal offset ++ codes "\n"
line_of (told (trap pc)) = codes "trap at " ++ decimal pc ++ codes "\n"
line_of (told (not_text offset)) = codes "input not text at " ++ decimal offset ++ codes "\n"
line_of (told too_long) = codes "input too long\n"
line_of (told written) = []
line_of read_fault = codes "read fault\n"
line_of write_fault = []
line_of memory = codes "memory\n"

-- the line shows something of the call, and takes memory
abbrev pub is_made : Close → Bool
is_made (told (value text)) = true
is_made (told (error text)) = true
is_made (told usage) = false
is_made (told (refused text)) = true
is_made (told (absent name)) = true
is_made (told heap) = false
is_made (told stack) = false
is_made (told step_limit) = false
is_made (told (bad_image kind offset)) = true
is_made (told (trap pc)) = true
is_made (told (not_text offset)) = true
is_made (told too_long) = false
is_made (told written) = false
is_made read_fault = false
is_made write_fault = false
is_made memory = false
