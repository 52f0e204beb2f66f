use Rattle.std.proofs.Common.{◌≡◌, ◌≤◌, ◌-◌, length}
use Rattle.outside_io.specs.Views.{untaken}
use Rattle.pyc_cli.proofs.moving.take_input.Given as goal

-- what was taken so far, and that it isn't past the limit by more than one byte
abbrev pub invariant-loop-bytes : goal.invariant-loop-bytes
invariant-loop-bytes g l =
    ((g.I.Source.fed l.initial.input).left ≡ untaken l.bytes.items (g.I.Source.fed l.input).left)
    × ((g.I.Source.fed l.initial.input).faults ≤ (g.I.Source.fed l.input).faults)
    × (length l.bytes.items ≤ 16777217)

abbrev pub decreases-loop-bytes : goal.decreases-loop-bytes
decreases-loop-bytes g l = 16777217 - length l.bytes.items
