use Rattle.program_size.specs.Mentions.{functions_of, sized}
use Rattle.program_size.proofs.Added.{added_on}
use Rattle.program_size.proofs.sizes.Sizes.add.Goals as goal

pub returns : goal.returns
returns c =
    let k = c.hold_mentioned.ensures in
    added_on c.args.heap.now (functions_of c.args.prelude.now) (sized c.args.form.now c.args.copies) c.args.self.now c.include.new.self c.hold_mentioned.new.self
    c.hold_mentioned.result c.in_ok-include.ensures k.keeps k.complete k.quiet
