use Rattle.std.proofs.Common.{◌≡◌, ◌-◌, None}
use Rattle.image.specs.Rows.{variable_row, rows}
use Rattle.image.proofs.Loop.{with_front}
use Rattle.image.proofs.tables.variable_rows.Given as goal

abbrev pub invariant-loop : goal.invariant-loop
invariant-loop l =
    with_front l.variables.items (rows (λ _ rest. variable_row l.texts rest) (λ _. None) l.end (l.count - l.counter) None l.rest)
    ≡ rows (λ _ rest. variable_row l.texts rest) (λ _. None) l.end l.count None l.bytes
