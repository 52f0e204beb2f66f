use Rattle.std.proofs.Common.{◌∙◌, sym, subst, Option, string_bytes}
use Rattle.pyc_cli.specs.Asked.{Parses}
use Rattle.pyc_cli.specs.Order.{Order}
use Rattle.pyc_cli.proofs.WordLaws.{command_in_front}
use Rattle.pyc_cli.proofs.words.parse_words.Goals as goal

pub returns-in_ok-shape-in-len1-up : goal.returns-in_ok-shape-in-len1-up
returns-in_ok-shape-in-len1-up c =
    let Answers : Option Order → Type 0 = λ asked. Parses asked c.shaped.result in
    subst Answers
    (command_in_front string_bytes c.args.words.now c.word-item.result c.as_str.result.now c.in_ok-shape-in-len1-up.shape
    c.in-len1-up.len_at_least c.word-item.is c.as_str.ensures.value (sym c.in_ok-shape-in-len1-up.ensures.ok_part ∙ c.shape_of.ensures))
    c.shaped.ensures
