use Rattle.rv_machine.proofs.Zeros.{zeros_are}
use Rattle.rv_machine.proofs.registers.Registers.zero.Goals as goal

pub returns : goal.returns
returns c = zeros_are 32
