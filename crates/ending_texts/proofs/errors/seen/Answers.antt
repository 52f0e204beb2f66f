use Rattle.std.proofs.Common.{◌∙◌, ap}
use Rattle.object_model.specs.Memory.{word_shape}
use Rattle.rv_machine.specs.declared.machine.Machine.{Machine}
use Rattle.ending_texts.specs.Words.{words_of}
use Rattle.ending_texts.proofs.errors.seen.Goals as goal

pub returns : goal.returns
returns c = c.shape.ensures ∙ ap (λ (m : Machine). word_shape (words_of m) c.args.word) c.new.ensures
