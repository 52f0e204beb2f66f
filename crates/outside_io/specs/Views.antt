-- What an object of the outside tells to a clause: its bytes or its names, where it tells them, and its counts.
use Rattle.std.specs.Prelude.{ℕ, List, ◌++◌, Option, Some, None}

-- what each name holds
abbrev pub Names : Type 0
Names = List ℕ → Option (List ℕ)

-- a source: the bytes left, where it tells them, and how often it has failed
pub record Fed : Type 0 where
  pub left : Option (List ℕ)
  pub faults : ℕ

-- a sink: the bytes held, where it tells them, how often it has failed, and how often it had no memory
pub record Sunk : Type 0 where
  pub held : Option (List ℕ)
  pub faults : ℕ
  pub wants : ℕ

-- a store: its names, where it tells them, and how often a get and a set have failed
pub record Kept : Type 0 where
  pub names : Option Names
  pub gets : ℕ
  pub sets : ℕ

-- what is held after a piece was added
abbrev pub gained : Option (List ℕ) → List ℕ → Option (List ℕ)
gained None piece = None
gained (Some held) piece = Some (held ++ piece)

-- what was left before some bytes were taken from its front
abbrev pub untaken : List ℕ → Option (List ℕ) → Option (List ℕ)
untaken taken None = None
untaken taken (Some left) = Some (taken ++ left)
