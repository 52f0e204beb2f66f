use Rattle.std.proofs.Common.{◌≡◌, ◌++◌, drop}
use Rattle.form_facts.specs.Words.{kept_words}
use Rattle.form_facts.proofs.words.kept.Given as goal

abbrev pub invariant-loop-word : goal.invariant-loop-word
invariant-loop-word l =
    l.next.items ++ kept_words l.reads l.taken (drop l.word-index l.words) ≡ kept_words l.reads l.taken l.words
