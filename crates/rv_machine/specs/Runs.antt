-- What a run of the emulator is, by the machine that rv_isa defines.
use Rattle.std.specs.Prelude.{ℕ, ◌≡◌, ◌<◌, ◌≤◌, List, ◌++◌, None}
use Rattle.rv_isa.specs.Machine.{Space, State, steps}
use Rattle.rv_machine.specs.declared.events.Event.TheVariants as event
use Rattle.rv_machine.specs.declared.events.Stop.{Stop}
use Rattle.rv_machine.specs.declared.machine.Machine.{Machine}
use Rattle.rv_machine.specs.View.{space, state, taken}
use Rattle.rv_machine.specs.Steps.{written, Tells, IsText, counts}

-- behind each of these steps the machine goes on, and nothing was written
abbrev pub IsQuiet : Space → State → ℕ → Type 0
IsQuiet space m n = (k : ℕ) → 0 < k → k < n → ((steps space k m).ending ≡ None) × ((steps space k m).output ≡ m.output)

-- A run of at most n steps, which ends at the first event other than that the machine went on, and else after n steps.
pub record IsRun (input : List ℕ) (old : Machine) (n : ℕ) (stop : Stop) (new : Machine) : Type 0 where
  pub made : (output : List ℕ) → state (output ++ written stop.event) input new ≡ steps (space old) stop.steps (state output input old)
  pub quiet : (output : List ℕ) → IsQuiet (space old) (state output input old) stop.steps
  pub most : stop.steps ≤ n
  pub some : 0 < n → 0 < stop.steps
  pub all : stop.event ≡ event.Went → stop.steps ≡ n
  pub none : n ≡ 0 → stop.event ≡ event.Went
  pub told : 0 < n → Tells stop.event new.ending
  pub text : IsText stop.event
  pub counted : taken new ≡ counts input (taken old) (taken new)
  pub stays : space new ≡ space old
