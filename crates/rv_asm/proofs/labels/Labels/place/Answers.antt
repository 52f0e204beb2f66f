-- No place is above the greatest length of code.
use Rattle.std.proofs.Common.{◌∙◌}
use Rattle.rv_asm.proofs.Tables.{IfSome-place_in}
use Rattle.rv_asm.proofs.labels.Labels.place.Goals as goal

pub returns-clause-short : goal.returns-clause-short
returns-clause-short c =
    rw (c.copied.ensures ∙ c.get.ensures.value ∙ c.self.invariant.same c.args.label)
    (IfSome-place_in c.self.inside.marks.items c.args.label c.self.invariant.short)
