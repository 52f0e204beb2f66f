use Rattle.std.proofs.Common.{refl}
use Rattle.pyc_cli.specs.View.{limits}
use Rattle.pyc_cli.specs.Told.{TellsBytes, image_asked}
use Rattle.pyc_cli.proofs.Works.{does_bytes, does_found, does_missed}
use Rattle.pyc_cli.proofs.commands.run_name.Goals as goal

pub returns-in-Ok : goal.returns-in-Ok
returns-in-Ok g c =
    let r = c.run_bytes.ensures in
    let f = c.in-Ok.ensures in
    does_found (λ bytes names left t. TellsBytes (limits c.args.command.now) bytes left t) image_asked c.args.name.now c.args.name.now c.in-Ok.bytes.items c.deref.result.now _ _ _ _ _ _ refl c.deref.ensures.value f.found f.keeps (does_bytes (limits c.args.command.now) c.deref.result.now _ _ _ _ _ _ r.takes r.puts r.runs)

pub returns-in-Err : goal.returns-in-Err
returns-in-Err g c =
    let f = c.in-Err.ensures in
    does_missed (λ bytes names left t. TellsBytes (limits c.args.command.now) bytes left t) image_asked c.args.name.now c.args.name.now _ _ _ _ _ refl f.found f.keeps
