use Rattle.std.proofs.Common.{◌∙◌, sym}
use Rattle.program_size.proofs.Final.{mentions_is}
use Rattle.program_size.proofs.sizes.Sizes.mentions.Goals as goal

pub returns : goal.returns
returns c = λ prelude heap forms counts.
    let k = mentions_is c.args.self.now prelude heap forms counts c.args.name in
    (λ e. k.0 (sym c.has_symbol.ensures ∙ e), λ m. c.has_symbol.ensures ∙ k.1 m)
