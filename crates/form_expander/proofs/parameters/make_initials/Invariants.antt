use Rattle.std.proofs.Common.{◌≡◌, drop, length, map}
use Rattle.core_form.specs.Reading.{parameter_of}
use Rattle.lisp_base.specs.declared.values.Val.{Val}
use Rattle.expansion.specs.Expanding.{Bound}
use Rattle.form_expander.specs.Besides.{initials_beside}
use Rattle.form_expander.specs.Reading.{initial_of, world_of}
use Rattle.form_expander.proofs.Rows.{after, each_of}
use Rattle.form_expander.proofs.Bound.{bound_initial}
use Rattle.form_expander.proofs.parameters.make_initials.Given as goal

abbrev pub invariant-loop-binding : goal.invariant-loop-binding
invariant-loop-binding l = record {
  follows : after (initials_beside (map initial_of l.initials) (map parameter_of l.made.items)) (each_of bound_initial (map initial_of (drop l.binding-index l.initials)) (world_of l.world)) ≡ each_of bound_initial (map initial_of l.initials) (world_of l.initial.world);
  all : map (λ (p : Bound × Val). p.0.1) (initials_beside (map initial_of l.initials) (map parameter_of l.made.items)) ≡ map parameter_of l.made.items;
  count : length l.made.items ≡ l.binding-index;
  symbols : l.world.symbols ≡ l.initial.world.symbols;
}
