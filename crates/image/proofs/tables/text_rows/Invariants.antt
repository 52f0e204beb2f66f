use Rattle.std.proofs.Common.{◌≡◌, ◌-◌, None}
use Rattle.debug_info.specs.Texts.{bytes_of}
use Rattle.image.specs.Rows.{text_row, rows}
use Rattle.image.proofs.Loop.{with_front}
use Rattle.image.proofs.tables.text_rows.Given as goal

abbrev pub invariant-loop : goal.invariant-loop
invariant-loop l =
    with_front (bytes_of l.texts.items) (rows (λ _ rest. text_row rest) (λ _. None) l.end (l.count - l.counter) None l.rest)
    ≡ rows (λ _ rest. text_row rest) (λ _. None) l.end l.count None l.bytes
