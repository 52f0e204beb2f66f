use Rattle.std.proofs.Common.{◌≡◌, ◌-◌, Some, None}
use Rattle.image.specs.Rows.{function_row, rows}
use Rattle.image.proofs.Loop.{with_front}
use Rattle.image.proofs.tables.function_rows.Given as goal

abbrev pub invariant-loop : goal.invariant-loop
invariant-loop l =
    with_front l.functions.items (rows (function_row l.texts) (λ r. Some r.start) l.end (l.count - l.counter) l.before l.rest)
    ≡ rows (function_row l.texts) (λ r. Some r.start) l.end l.count None l.bytes
