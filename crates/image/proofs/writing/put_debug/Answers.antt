use Rattle.std.proofs.Common.{ap, arith, length}
use Rattle.std.proofs.lemmas.List.{length-map}
use Rattle.std.specs.String.{string_bytes}
use Rattle.image.proofs.Sizes.{counts}
use Rattle.image.proofs.writing.put_debug.Goals as goal

pub put_texts-requires-clause-count : goal.put_texts-requires-clause-count
put_texts-requires-clause-count c =
    let fits = counts c.args.debug.now c.texts-texts.ensures.rules.size in
    omega (arith, fits.texts, ap length c.texts-texts.ensures.texts, length-map c.texts-texts.result.now string_bytes)

pub put_sites-requires : goal.put_sites-requires
put_sites-requires c = rw c.sites.ensures (omega (arith, (counts c.args.debug.now c.texts-texts.ensures.rules.size).sites))

pub put_functions-requires : goal.put_functions-requires
put_functions-requires c = rw c.functions.ensures (omega (arith, (counts c.args.debug.now c.texts-texts.ensures.rules.size).functions))

pub put_variables-requires-clause-count : goal.put_variables-requires-clause-count
put_variables-requires-clause-count c = rw c.variables.ensures (omega (arith, (counts c.args.debug.now c.texts-texts.ensures.rules.size).variables))
