-- What the last line leaves.
use Rattle.std.specs.Prelude.{◌≡◌, ℕ, List, ◌⊎◌, true}
use Rattle.outside_io.specs.Views.{Sunk}
use Rattle.pyc_cli.specs.Ending.{Close, memory, status_of, line_of, is_made}
use Rattle.pyc_cli.specs.Moved.{PutsAll}
use Rattle.pyc_cli.specs.declared.moving.Wrote.{Wrote}
use Rattle.pyc_cli.specs.declared.moving.Wrote.TheVariants as wrote
use Rattle.pyc_cli.specs.declared.status.Status.{Status}
use Rattle.pyc_cli.specs.declared.status.Status.TheVariants as status

-- a put that fails turns Done alone
abbrev pub turned : Wrote → Status → Status
turned wrote.All s = s
turned wrote.Failed status.Done = status.WriteFault
turned wrote.Failed s = s
turned wrote.Memory status.Done = status.Memory
turned wrote.Memory s = s

-- a line is put, all of it unless a put of it answered otherwise
pub record PutsLine (line : List ℕ) (ends s : Status) (old new : Sunk) : Type 0 where
  pub wrote : Wrote
  pub puts : PutsAll old new wrote line
  pub status : s ≡ turned wrote ends

abbrev pub Shows : Close → Status → Sunk → Sunk → Type 0
Shows c s old new = PutsLine (line_of c) (status_of c) s old new

-- where there is no memory for a line that takes some, it is that of memory
abbrev pub Finishes : Close → Status → Sunk → Sunk → Type 0
Finishes c s old new = Shows c s old new ⊎ ((is_made c ≡ true) × Shows memory s old new)
