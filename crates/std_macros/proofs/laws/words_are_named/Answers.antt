use Rattle.std_macros.proofs.Named.{each_word}
use Rattle.std_macros.proofs.laws.words_are_named.Goals as goal

pub returns : goal.returns
returns c = each_word
