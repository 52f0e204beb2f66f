use Rattle.std.proofs.Common.{◌≡◌, ◌-◌, Some, None}
use Rattle.image.specs.Rows.{site_row, rows}
use Rattle.image.proofs.Loop.{with_front}
use Rattle.image.proofs.tables.site_rows.Given as goal

abbrev pub invariant-loop : goal.invariant-loop
invariant-loop l =
    with_front l.sites.items (rows (site_row l.texts) (λ r. Some r.pc) l.end (l.count - l.counter) l.before l.rest)
    ≡ rows (site_row l.texts) (λ r. Some r.pc) l.end l.count None l.bytes
