use Rattle.std.proofs.Common.{◌≡◌, drop, length, map}
use Rattle.core_form.specs.Reading.{parameter_of}
use Rattle.expansion.specs.Expanding.{Bound, bound}
use Rattle.form_expander.specs.Besides.{beside}
use Rattle.form_expander.specs.Reading.{binder_of, world_of}
use Rattle.form_expander.proofs.Rows.{after, each_of}
use Rattle.form_expander.proofs.parameters.make_parameters.Given as goal

abbrev pub invariant-loop-binder : goal.invariant-loop-binder
invariant-loop-binder l = record {
  follows : after (beside (map binder_of l.binders) (map parameter_of l.made.items)) (each_of bound (map binder_of (drop l.binder-index l.binders)) (world_of l.world)) ≡ each_of bound (map binder_of l.binders) (world_of l.initial.world);
  all : map (λ (b : Bound). b.1) (beside (map binder_of l.binders) (map parameter_of l.made.items)) ≡ map parameter_of l.made.items;
  count : length l.made.items ≡ l.binder-index;
  symbols : l.world.symbols ≡ l.initial.world.symbols;
}
