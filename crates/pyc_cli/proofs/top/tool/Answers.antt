use Rattle.pyc_cli.specs.View.{order}
use Rattle.pyc_cli.proofs.Calls.{ends_order, ends_outside, ends_read, ends_write, ends_only, ends_complete}
use Rattle.pyc_cli.proofs.Headline.{ends_makes}
use Rattle.pyc_cli.proofs.top.tool.Goals as goal

pub returns-in-Ok : goal.returns-in-Ok
returns-in-Ok g c =
    let ends = ends_order (order c.in-Ok.command) _ _ _ _ _ _ _ c.in-Ok.ensures c.perform-outcome.ensures c.put_line.ensures in
    record { ends = ends; makes = ends_makes _ _ _ _ _ _ ends; read = ends_read _ _ _ _ _ _ ends; write = ends_write _ _ _ _ _ _ ends; only = ends_only _ _ _ _ _ _ ends; complete = ends_complete _ _ _ _ _ _ ends }

pub returns-in-Err : goal.returns-in-Err
returns-in-Err g c =
    let ends = ends_outside _ c.in-Err.fault _ _ _ _ _ _ _ c.in-Err.ensures c.no_command.ensures c.put_line-in-Err.ensures in
    record { ends = ends; makes = ends_makes _ _ _ _ _ _ ends; read = ends_read _ _ _ _ _ _ ends; write = ends_write _ _ _ _ _ _ ends; only = ends_only _ _ _ _ _ _ ends; complete = ends_complete _ _ _ _ _ _ ends }
