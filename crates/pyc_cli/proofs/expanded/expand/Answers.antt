use Rattle.std.specs.Prelude.{string_bytes}
use Rattle.pyc_cli.specs.Told.{TellsProgram, source_asked}
use Rattle.pyc_cli.proofs.Works.{does_found, does_missed}
use Rattle.pyc_cli.proofs.expanded.expand.Goals as goal

pub returns-in-Ok : goal.returns-in-Ok
returns-in-Ok g c =
    let f = c.in-Ok.ensures in
    λ input. does_found (λ source names left t. TellsProgram source left t) source_asked c.as_str.result.now (string_bytes c.args.command.now.first) c.in-Ok.source.items c.deref.result.now _ _ _ _ _ _ c.as_str.ensures.value c.deref.ensures.value f.found f.keeps (c.write_source.ensures _ _)

pub returns-in-Err : goal.returns-in-Err
returns-in-Err g c =
    let f = c.in-Err.ensures in
    λ input. does_missed (λ source names left t. TellsProgram source left t) source_asked c.as_str.result.now (string_bytes c.args.command.now.first) _ _ _ _ _ c.as_str.ensures.value f.found f.keeps
