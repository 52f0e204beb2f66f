-- How the search for a label that stands twice goes on (this project's).
use Rattle.std.specs.Prelude.{◌≡◌, ◌++◌, List, Some}
use Rattle.rv_asm.specs.declared.assembled.Mark.{Mark}
use Rattle.rv_asm.specs.declared.fault.AsmFault.{AsmFault}
use Rattle.rv_asm.specs.declared.fault.AsmFault.TheVariants as fault
use Rattle.rv_asm.specs.Places.{doubled_after}

-- none of these marks stands twice, so that the search goes on after them
abbrev pub Adds : List Mark → List Mark → List Mark → Type 0
Adds before marks after = (rest : List Mark) → doubled_after before (marks ++ rest) ≡ doubled_after after rest

-- the first of these marks stands twice
abbrev pub IsDoubleNext : List Mark → List Mark → AsmFault → Type 0
IsDoubleNext before marks (fault.DoubleLabel l) = (rest : List Mark) → doubled_after before (marks ++ rest) ≡ Some l
IsDoubleNext before marks (fault.UnknownLabel l) = ⊥
IsDoubleNext before marks (fault.FarBranch from to) = ⊥
IsDoubleNext before marks fault.Memory = ⊥
