use Rattle.std.proofs.Common.{ℕ, List, Result, sym, subst}
use Rattle.image.specs.Content.{Content}
use Rattle.image.specs.Fields.{Fault}
use Rattle.pyc_cli.specs.Told.{told_code, told_listing}
use Rattle.pyc_cli.specs.View.{close_of}
use Rattle.pyc_cli.specs.Work.{Writes}
use Rattle.pyc_cli.proofs.listed.list_bytes.Goals as goal

pub returns-in-Ok-clause-writes : goal.returns-in-Ok-clause-writes
returns-in-Ok-clause-writes g c =
    let old = g.O.Sink.sunk c.args.out.now in
    let new = g.O.Sink.sunk c.list_code.new.out in
    λ input.
    let Read : Result Content Fault → Type 0 = λ r. Writes (told_listing r input) (close_of c.list_code.result) old new in
    let Code : List ℕ → Type 0 = λ code. Writes (told_code code input) (close_of c.list_code.result) old new in
    subst Read (sym c.in-Ok.ensures.exact) (subst Code c.deref.ensures.value (c.list_code.ensures.writes input))
