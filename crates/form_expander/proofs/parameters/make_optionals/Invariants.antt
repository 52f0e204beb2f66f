use Rattle.std.proofs.Common.{◌≡◌, drop, length, map}
use Rattle.form_expander.specs.Besides.{optional_pair, optionals_beside, pair_of}
use Rattle.form_expander.specs.Reading.{optional_of, world_of}
use Rattle.form_expander.proofs.Rows.{after, each_of}
use Rattle.form_expander.proofs.Bound.{bound_optional_by}
use Rattle.form_expander.proofs.parameters.make_optionals.Given as goal

abbrev pub invariant-loop-optional : goal.invariant-loop-optional
invariant-loop-optional l = record {
  follows : after (optionals_beside (map optional_of l.optionals) (map pair_of l.made.items)) (each_of bound_optional_by (map optional_of (drop l.optional-index l.optionals)) (world_of l.world)) ≡ each_of bound_optional_by (map optional_of l.optionals) (world_of l.initial.world);
  all : map optional_pair (optionals_beside (map optional_of l.optionals) (map pair_of l.made.items)) ≡ map pair_of l.made.items;
  count : length l.made.items ≡ l.optional-index;
  symbols : l.world.symbols ≡ l.initial.world.symbols;
}
