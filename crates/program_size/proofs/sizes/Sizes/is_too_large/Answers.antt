use Rattle.std.proofs.Common.{◌*◌, ℕ, ◌∙◌, ap}
use Rattle.core_form.specs.Counting.{plus}
use Rattle.program_size.specs.Sizes.{is_past_limits}
use Rattle.program_size.proofs.Final.{too_large}
use Rattle.program_size.proofs.sizes.Sizes.is_too_large.Goals as goal

pub returns : goal.returns
returns c = λ prelude heap forms counts.
    let s = c.args.self.now in
    too_large s prelude heap forms counts c.len.ensures.unique c.is_past_limits.result
    (c.is_past_limits.ensures
    ∙ ap (λ (w : ℕ). is_past_limits (record { nodes = s.nodes; copies = s.copies; words = w })) (c.plus.ensures ∙ ap (λ (k : ℕ). plus s.marks.words (2 * k)) c.len.ensures.len))
