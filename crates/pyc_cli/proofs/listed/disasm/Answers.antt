use Rattle.std.specs.Prelude.{string_bytes}
use Rattle.image.specs.Format.{image_of}
use Rattle.pyc_cli.specs.Told.{TellsInput, told_listing, image_asked}
use Rattle.pyc_cli.proofs.Works.{does_listed, does_found, does_missed}
use Rattle.pyc_cli.proofs.listed.disasm.Goals as goal

pub returns-in-Ok : goal.returns-in-Ok
returns-in-Ok g c =
    let f = c.in-Ok.ensures in
    let w = c.list_bytes.ensures in
    λ input. does_found (λ bytes names left t. TellsInput (told_listing (image_of bytes)) left t) image_asked c.as_str.result.now (string_bytes c.args.command.now.first) c.in-Ok.bytes.items c.deref.result.now _ _ _ _ _ _ c.as_str.ensures.value c.deref.ensures.value f.found f.keeps (does_listed c.deref.result.now _ _ _ _ _ w.later w.writes)

pub returns-in-Err : goal.returns-in-Err
returns-in-Err g c =
    let f = c.in-Err.ensures in
    λ input. does_missed (λ bytes names left t. TellsInput (told_listing (image_of bytes)) left t) image_asked c.as_str.result.now (string_bytes c.args.command.now.first) _ _ _ _ _ c.as_str.ensures.value f.found f.keeps
