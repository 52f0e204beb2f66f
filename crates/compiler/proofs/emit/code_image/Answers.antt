use Rattle.std.proofs.Common.{refl, sym, subst}
use Rattle.image.specs.Content.{IsImage}
use Rattle.compiler.proofs.Images.{is_image, image_made}
use Rattle.compiler.proofs.emit.code_image.Goals as goal

pub invariant_of-result : goal.invariant_of-result
invariant_of-result c =
    let e = image_made c.args.code.now c.in_ok-code.code.items c.in_ok-statics.statics.items c.in_ok-debug.debug c.in_ok-code.ensures c.in_ok-statics.ensures c.in_ok-debug.ensures.tables in
    record {
      first_version = refl;
      rules = subst IsImage (sym e) (is_image c.args.code.now c.requires.some c.requires.near c.in_ok-debug.ensures.rules);
    }
