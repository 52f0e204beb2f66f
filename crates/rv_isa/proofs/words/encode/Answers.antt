-- A valid instruction is read back from its word.
use Rattle.std.proofs.Common.{ap, ◌∙◌}
use Rattle.rv_isa.specs.Word.{word_of}
use Rattle.rv_isa.specs.Encoding.{decoded}
use Rattle.rv_isa.proofs.Laws.{decoded-encoding}
use Rattle.rv_isa.proofs.words.encode.Goals as goal

pub returns-clause-back : goal.returns-clause-back
returns-clause-back c =
    ap decoded (c.word.ensures ∙ ap word_of c.fields.ensures.row) ∙ decoded-encoding c.args.instr c.fields.ensures.valid
