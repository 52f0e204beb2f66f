-- How many bytes an instruction loads or stores (RISC-V Instruction Set Manual, Volume I, "Load and Store Instructions").
use Rattle.std.specs.Prelude.{ℕ, ◌≡◌, ◌⊎◌}

abbrev pub IsWidth : ℕ → Type 0
IsWidth n = (n ≡ 1) ⊎ ((n ≡ 2) ⊎ ((n ≡ 4) ⊎ (n ≡ 8)))
