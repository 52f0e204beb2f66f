use Rattle.std.proofs.Common.{◌≡◌, take}
use Rattle.compiler.specs.Parts.{code_bytes}
use Rattle.compiler.proofs.bytes.code_bytes.Given as goal

abbrev pub invariant-loop-slot : goal.invariant-loop-slot
invariant-loop-slot l = l.bytes.items ≡ code_bytes (take l.slot-index l.code)
