use Rattle.std.proofs.Common.{List, ℕ}
use Rattle.form_facts.specs.Read.{parts_list}
use Rattle.form_facts.specs.Words.{next_words}
use Rattle.form_facts.specs.Given.{LosesFirst}
use Rattle.form_facts.proofs.LostWords.{AfterRounds}
use Rattle.form_facts.proofs.words.lose_further.Given as goal

abbrev pub invariant-loop-round : goal.invariant-loop-round
invariant-loop-round l =
    (reads : List ℕ) → LosesFirst reads (parts_list l.parts) l.declared l.first → AfterRounds (next_words reads (parts_list l.parts)) l.declared l.lost l.just l._round
