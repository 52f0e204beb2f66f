-- What a machine is that has just been loaded, by the first state that rv_isa defines.
use Rattle.std.specs.Prelude.{ℕ, ◌≡◌, List, []}
use Rattle.rv_isa.specs.Start.{Setup, setup_space, first_state}
use Rattle.rv_machine.specs.declared.machine.Machine.{Machine}
use Rattle.rv_machine.specs.View.{space, state, taken}

-- it stands in the first state, whatever the input, and has read nothing
pub record IsLoaded (u : Setup) (m : Machine) : Type 0 where
  pub first : (input : List ℕ) → state [] input m ≡ first_state u input
  pub stays : space m ≡ setup_space u
  pub fresh : taken m ≡ 0
