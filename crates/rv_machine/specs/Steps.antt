-- What a step and a run of the emulator are, by the machine that rv_isa defines.
use Rattle.std.specs.Prelude.{ℕ, ◌≡◌, ◌+◌, ◌-◌, ◌*◌, ◌/◌, ◌^◌, if◌then◌else◌, List, [], ◌∷◌, ◌++◌, length, drop, Option, Some, None}
use Rattle.std.specs.Char.{InScalarRange}
use Rattle.rv_isa.specs.declared.ending.Ending.{Ending}
use Rattle.rv_isa.specs.declared.ending.Ending.TheVariants as ending
use Rattle.rv_isa.specs.Machine.{Space, State, in_code, is_readable, bytes_of, word_at, code_word}
use Rattle.rv_machine.specs.declared.events.Event.{Event}
use Rattle.rv_machine.specs.declared.events.Event.TheVariants as event
use Rattle.rv_machine.specs.declared.machine.Machine.{Machine}
use Rattle.rv_machine.specs.View.{space, state, taken}

-- the event that tells an ending
abbrev pub event_of : Ending → Event
event_of (ending.Value v) = event.Value v
event_of (ending.Error kind a b c pc) = event.Error kind a b c pc
event_of ending.Heap = event.Heap
event_of ending.Stack = event.Stack
event_of (ending.Trap pc) = event.Trap pc

-- what an event says was written
abbrev pub written : Event → List ℕ
written (event.Wrote c) = c ∷ []
written event.Went = []
written (event.Value v) = []
written (event.Error kind a b c pc) = []
written event.Heap = []
written event.Stack = []
written (event.Trap pc) = []

-- the event tells the ending, or that there is none
abbrev pub Tells : Event → Option Ending → Type 0
Tells e (Some x) = e ≡ event_of x
Tells event.Went None = Unit {0}
Tells (event.Wrote c) None = Unit {0}
Tells (event.Value v) None = ⊥
Tells (event.Error kind a b c pc) None = ⊥
Tells event.Heap None = ⊥
Tells event.Stack None = ⊥
Tells (event.Trap pc) None = ⊥

-- what an event says was written is a character
abbrev pub IsText : Event → Type 0
IsText (event.Wrote c) = InScalarRange c
IsText event.Went = Unit {0}
IsText (event.Value v) = Unit {0}
IsText (event.Error kind a b c pc) = Unit {0}
IsText event.Heap = Unit {0}
IsText event.Stack = Unit {0}
IsText (event.Trap pc) = Unit {0}

-- what of the input a machine has read is counted: the count rises by the characters that are gone from what is left
abbrev pub counts : List ℕ → ℕ → ℕ → ℕ
counts input old new = old + (length (drop old input) - length (drop new input))

-- the n bytes from an address, where they may be read
abbrev pub bytes_at : Space → (ℕ → ℕ) → ℕ → ℕ → Option ℕ
bytes_at space memory address n =
    if is_readable space address n then Some (bytes_of (word_at space memory address) address n) else None

-- the word that has the n bytes from an address, where they are the code's
abbrev pub code_at : Space → ℕ → ℕ → Option ℕ
code_at space address n =
    if in_code space address n
    then (let k = address / 8 * 2 - 0x4000 in Some (code_word space k + code_word space (k + 1) * 2 ^ 32))
    else None

-- The machine goes from one state to another as f says, whatever was written before, and the event tells what it did.
pub record Does (f : State → State) (input : List ℕ) (old : Machine) (event : Event) (new : Machine) : Type 0 where
  pub made : (output : List ℕ) → state (output ++ written event) input new ≡ f (state output input old)
  pub told : Tells event new.ending
  pub text : IsText event
  pub counted : taken new ≡ counts input (taken old) (taken new)
  pub stays : space new ≡ space old
