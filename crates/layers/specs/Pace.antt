-- What a machine owes a program whose meaning is a layer by fuel: it shows nothing else, and shows it in time (this project's own).
use Rattle.std.specs.Prelude.{◌≡◌, ℕ, ◌+◌, ◌*◌, ◌<◌, ◌⊎◌}
use Rattle.layers.specs.Input.{Input}
use Rattle.layers.specs.Shown.{Seen, Runs, HeapFull, StackFull, IsFull, Shows}
use Rattle.layers.specs.Layer.{Layer}

-- a run that goes on has taken fewer instructions than 64 for each unit of work, and 1,000
abbrev pub IsPaced : Layer → Type 0
IsPaced machine = (i : Input) (k : ℕ) → (machine i k).status ≡ Runs → k < 64 * (machine i k).work + 1000

-- what a machine with a heap and stacks of so many bytes has shown, the program shows; the machine is full only where the
-- program needs more
pub record IsShownBy (heap stack : ℕ) (program machine : Seen) : Type 0 where
  pub shows : Shows program machine
  pub heap_full : machine.status ≡ HeapFull → heap < program.heap
  pub stack_full : machine.status ≡ StackFull → stack < program.stack

-- One instruction may stand for as many calls as the program has nodes: k instructions show nothing but what the program
-- shows with (k + 1) * (nodes + 1) of fuel.
abbrev pub ShowsNothingElse : (nodes heap stack : ℕ) → (program machine : Layer) → Type 0
ShowsNothingElse nodes heap stack program machine =
    (i : Input) (k : ℕ) → IsShownBy heap stack (program i ((k + 1) * (nodes + 1))) (machine i k)

-- after 64 instructions for each unit of work, and 1,000, the machine is full or shows what the program shows
abbrev pub KeepsPace : (program machine : Layer) → Type 0
KeepsPace program machine =
    (i : Input) (n : ℕ) → Shows (machine i (64 * (program i n).work + 1000)) (program i n) ⊎ IsFull (machine i (64 * (program i n).work + 1000))
