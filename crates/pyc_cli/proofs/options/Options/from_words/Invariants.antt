use Rattle.std.proofs.Common.{◌≡◌, length, map, string_bytes}
use Rattle.pyc_cli.specs.Order.{with_options, nothing_given}
use Rattle.pyc_cli.specs.Asked.{given}
use Rattle.pyc_cli.proofs.options.Options.from_words.Given as goal

-- What is given so far, and the options that are left, make what all options give.
abbrev pub invariant-loop-rest : goal.invariant-loop-rest
invariant-loop-rest l = with_options (map string_bytes l.rest) (given l.options) ≡ with_options (map string_bytes l.words) nothing_given

abbrev pub decreases-loop-rest : goal.decreases-loop-rest
decreases-loop-rest l = length l.rest
