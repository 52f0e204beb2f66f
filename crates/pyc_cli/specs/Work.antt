-- What the work of a call leaves, before its last line.
use Rattle.std.specs.Prelude.{◌<◌, length, ◌≡◌, ℕ, ◌≤◌, List, Option, Some, None, is_some, ◌⊎◌, Bool, true}
use Rattle.outside_io.specs.Causes.{Rose}
use Rattle.outside_io.specs.Views.{Names, Kept, Fed, Sunk, gained}
use Rattle.outside_io.specs.Names.{ChangesTold}
use Rattle.pyc_cli.specs.Ending.{Ending, Close, told, read_fault, write_fault, memory}
use Rattle.pyc_cli.specs.Moved.{Left, GainsFront, TakesFront, IsCut}
use Rattle.pyc_cli.specs.Told.{Told, IsSet}

-- the store, the input and out
pub record Outside : Type 0 where
  pub files : Kept
  pub input : Fed
  pub out : Sunk

abbrev pub outside : Kept → Fed → Sunk → Outside
outside files input out = record { files = files; input = input; out = out }

-- no count of faults fell
pub record Later (old new : Outside) : Type 0 where
  pub gets : old.files.gets ≤ new.files.gets
  pub sets : old.files.sets ≤ new.files.sets
  pub takes : old.input.faults ≤ new.input.faults
  pub puts : old.out.faults ≤ new.out.faults

-- no fault: all is as told
pub record Whole (t : Told) (e : Ending) (old new : Outside) : Type 0 where
  pub ending : e ≡ t.ending
  pub files : IsSet t.set old.files.names new.files.names
  pub input : Left old.input.left new.input.left t.left
  pub out : new.out.held ≡ gained old.out.held t.out

-- the get of what was set failed, before anything is taken
pub record GetFault (t : Told) (old new : Outside) : Type 0 where
  pub sets : is_some t.set ≡ true
  pub rose : Rose old.files.gets new.files.gets
  pub input : new.input.left ≡ old.input.left

-- a take failed
pub record TakeFault (t : Told) (old new : Outside) : Type 0 where
  pub takes : t.takes ≡ true
  pub rose : Rose old.input.faults new.input.faults
  pub input : TakesFront old.input.left new.input.left

-- a get or a take failed, where there is one, with nothing written
pub record ReadFault (t : Told) (old new : Outside) : Type 0 where
  pub cause : GetFault t old new ⊎ TakeFault t old new
  pub files : IsSet t.set old.files.names new.files.names
  pub out : new.out.held ≡ old.out.held

-- a set failed, which leaves anything at its name
abbrev pub IsTorn : Option (List ℕ × List ℕ) → Option Names → Option Names → Type 0
IsTorn None old new = ⊥
IsTorn (Some set) old new = ChangesTold old new set.0 (λ held. Unit {0})

pub record SetFault (t : Told) (old new : Outside) : Type 0 where
  pub rose : Rose old.files.sets new.files.sets
  pub files : IsTorn t.set old.files.names new.files.names
  pub input : new.input.left ≡ old.input.left
  pub out : new.out.held ≡ old.out.held

-- a put failed, with a front of what is told written, after all was taken that is to be
pub record PutFault (t : Told) (old new : Outside) : Type 0 where
  pub some : 0 < length t.out
  pub rose : Rose old.out.faults new.out.faults
  pub files : IsSet t.set old.files.names new.files.names
  pub input : Left old.input.left new.input.left t.left
  pub out : GainsFront old.out.held new.out.held t.out

-- there was no memory, once what is set was set
pub record NoMemory (t : Told) (old new : Outside) : Type 0 where
  pub files : IsSet t.set old.files.names new.files.names
  pub input : IsCut t.takes old.input.left new.input.left
  pub out : GainsFront old.out.held new.out.held t.out

abbrev pub Works : Told → Close → Outside → Outside → Type 0
Works t (told e) old new = Whole t e old new
Works t read_fault old new = ReadFault t old new
Works t write_fault old new = SetFault t old new ⊎ PutFault t old new
Works t memory old new = NoMemory t old new

-- the first get failed, where there is one, or there was no memory, with nothing set, taken or written yet
pub record Early (gets : Bool) (c : Close) (old new : Outside) : Type 0 where
  pub cause : ((gets ≡ true) × (c ≡ read_fault) × Rose old.files.gets new.files.gets) ⊎ (c ≡ memory)
  pub files : new.files.names ≡ old.files.names
  pub input : new.input.left ≡ old.input.left
  pub out : new.out.held ≡ old.out.held

pub record Late (Tells : Option Names → Option (List ℕ) → Told → Type 0) (c : Close) (old new : Outside) : Type 0 where
  pub told : Told
  pub tells : Tells old.files.names old.input.left told
  pub works : Works told c old new

-- the work of a command, of which gets says whether a get comes first, and Tells what is told
pub record Does (gets : Bool) (Tells : Option Names → Option (List ℕ) → Told → Type 0) (c : Close) (old new : Outside) : Type 0 where
  pub work : Early gets c old new ⊎ Late Tells c old new
  pub later : Later old new

-- what a run writes
abbrev pub Writes : Told → Close → Sunk → Sunk → Type 0
Writes t (told e) old new = (e ≡ t.ending) × (new.held ≡ gained old.held t.out)
Writes t read_fault old new = ⊥
Writes t write_fault old new = Rose old.faults new.faults × GainsFront old.held new.held t.out × (0 < length t.out)
Writes t memory old new = GainsFront old.held new.held t.out
