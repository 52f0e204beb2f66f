-- Bytes moved by several calls.
use Rattle.std.specs.Prelude.{◌≡◌, ℕ, ◌<◌, ◌≤◌, List, [], ◌++◌, length, Bool, true, false, Option, Some, None, IfSome}
use Rattle.outside_io.specs.Causes.{HasCause, Rose}
use Rattle.outside_io.specs.Views.{Fed, Sunk, gained, untaken}
use Rattle.pyc_cli.specs.declared.moving.Wrote.{Wrote}
use Rattle.pyc_cli.specs.declared.moving.Wrote.TheVariants as wrote
use Rattle.pyc_cli.specs.declared.moving.Input.{Input}
use Rattle.pyc_cli.specs.declared.moving.Input.TheVariants as input

abbrev pub is_failed : Wrote → Bool
is_failed wrote.All = false
is_failed wrote.Failed = true
is_failed wrote.Memory = false

abbrev pub is_memory : Wrote → Bool
is_memory wrote.All = false
is_memory wrote.Failed = false
is_memory wrote.Memory = true

-- a front of the piece was gained, all of it unless a put answered otherwise
pub record PutsAll (old new : Sunk) (w : Wrote) (piece : List ℕ) : Type 0 where
  pub front : List ℕ
  pub rest : List ℕ
  pub piece_is : piece ≡ front ++ rest
  pub held : new.held ≡ gained old.held front
  pub whole : w ≡ wrote.All → rest ≡ []
  pub some : is_failed w ≡ true → 0 < length piece
  pub cause : HasCause old.faults new.faults (is_failed w)
  pub memory : HasCause old.wants new.wants (is_memory w)

-- a source that tells what is left has this left
abbrev pub Left : Option (List ℕ) → Option (List ℕ) → List ℕ → Type 0
Left None new left = Unit {0}
Left (Some old) new left = new ≡ Some left

-- a front of the input was taken, of at most one byte more than its limit
pub record TakesFront (old new : Option (List ℕ)) : Type 0 where
  pub bytes : List ℕ
  pub few : length bytes ≤ 16777217
  pub taken : old ≡ untaken bytes new

-- The whole input, or one byte more than its limit. A take that fails is the last one.
abbrev pub TakesInput : Fed → Fed → Input → Type 0
TakesInput old new (input.All bytes) = (length bytes.items ≤ 16777216) × (old.left ≡ untaken bytes.items new.left) × IfSome new.left (λ left. left ≡ [])
TakesInput old new input.TooLong = (bytes : List ℕ) × (length bytes ≡ 16777217) × (old.left ≡ untaken bytes new.left)
TakesInput old new input.Failed = Rose old.faults new.faults × TakesFront old.left new.left
TakesInput old new input.Memory = TakesFront old.left new.left

-- a front of the input was taken, and none of it where none is to be taken
pub record IsCut (takes : Bool) (old new : Option (List ℕ)) : Type 0 where
  pub front : TakesFront old new
  pub none : takes ≡ false → new ≡ old

-- a front of the text was gained
pub record GainsFront (old new : Option (List ℕ)) (text : List ℕ) : Type 0 where
  pub front : List ℕ
  pub rest : List ℕ
  pub text_is : text ≡ front ++ rest
  pub held : new ≡ gained old front
