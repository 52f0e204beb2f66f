use Rattle.std.proofs.Common.{◌≡◌, ◌+◌, drop, map}
use Rattle.form_expander.specs.Beginnings.{pairs_count}
use Rattle.form_expander.specs.Besides.{pair_of}
use Rattle.form_expander.proofs.sizes.add_optionals.Given as goal

abbrev pub invariant-loop-optional : goal.invariant-loop-optional
invariant-loop-optional l = l.total + pairs_count (map pair_of (drop l.optional-index l.optionals)) ≡ l.fn.total + pairs_count (map pair_of l.optionals)
