use Rattle.std.proofs.Common.{◌≡◌, ◌+◌, ◌*◌, drop, map, length}
use Rattle.core_form.specs.Reading.{parameter_of}
use Rattle.expansion.specs.Expanding.{make, each, values_bound, defaults, definitions, items}
use Rattle.form_expander.specs.Besides.{initials_beside, optionals_beside, pair_of}
use Rattle.form_expander.specs.Extending.{Extends}
use Rattle.form_expander.specs.Keeping.{Keeps}
use Rattle.form_expander.specs.Reading.{initial_of, optional_of, scope_of, sketches_list, world_of}
use Rattle.form_expander.proofs.PartLists.{before_cores, before_bindings, before_optionals, before_definitions, before_items}
use Rattle.form_expander.proofs.expander.Expander.+expanding.Given as goal

abbrev pub decreases-make : goal.decreases-make
decreases-make l = 7 * l.fuel + 0

abbrev pub decreases-make_each : goal.decreases-make_each
decreases-make_each l = 7 * l.fuel + 1

abbrev pub decreases-make_values : goal.decreases-make_values
decreases-make_values l = 7 * l.fuel + 1

abbrev pub decreases-make_defaults : goal.decreases-make_defaults
decreases-make_defaults l = 7 * l.fuel + 1

abbrev pub decreases-make_items : goal.decreases-make_items
decreases-make_items l = 7 * l.fuel + 1

abbrev pub decreases-make_function : goal.decreases-make_function
decreases-make_function l = 7 * l.fuel + 2

abbrev pub decreases-make_definition : goal.decreases-make_definition
decreases-make_definition l = 7 * l.fuel + 3

abbrev pub decreases-make_definitions : goal.decreases-make_definitions
decreases-make_definitions l = 7 * l.fuel + 4

abbrev pub decreases-make_one : goal.decreases-make_one
decreases-make_one l = 7 * l.fuel + 5

abbrev pub decreases-make_two : goal.decreases-make_two
decreases-make_two l = 7 * l.fuel + 5

abbrev pub decreases-make_choice : goal.decreases-make_choice
decreases-make_choice l = 7 * l.fuel + 5

abbrev pub decreases-make_many : goal.decreases-make_many
decreases-make_many l = 7 * l.fuel + 5

abbrev pub decreases-make_calling : goal.decreases-make_calling
decreases-make_calling l = 7 * l.fuel + 5

abbrev pub decreases-make_bind : goal.decreases-make_bind
decreases-make_bind l = 7 * l.fuel + 5

abbrev pub decreases-make_functions : goal.decreases-make_functions
decreases-make_functions l = 7 * l.fuel + 5

abbrev pub decreases-make_recursive : goal.decreases-make_recursive
decreases-make_recursive l = 7 * l.fuel + 5

abbrev pub decreases-make_block : goal.decreases-make_block
decreases-make_block l = 7 * l.fuel + 5

abbrev pub decreases-make_tagbody : goal.decreases-make_tagbody
decreases-make_tagbody l = 7 * l.fuel + 5

abbrev pub decreases-make_form : goal.decreases-make_form
decreases-make_form l = 7 * l.fuel + 5

abbrev pub decreases-make_assigned : goal.decreases-make_assigned
decreases-make_assigned l = 7 * l.fuel + 5

abbrev pub decreases-make_value : goal.decreases-make_value
decreases-make_value l = 7 * l.fuel + 5

abbrev pub decreases-make_sketch : goal.decreases-make_sketch
decreases-make_sketch l = 7 * l.fuel + 6

-- ---- what all parts give is what the first ones gave, and behind it what those behind give

abbrev pub invariant-make_each-loop-part : goal.invariant-make_each-loop-part
invariant-make_each-loop-part l = record {
  follows : before_cores l.made.items (each (make l.fuel l.levels (scope_of l.fn.self.scope)) (sketches_list (drop l.part-index l.parts)) (world_of l.self.world))
      ≡ each (make l.fuel l.levels (scope_of l.fn.self.scope)) (sketches_list l.parts) (world_of l.fn.self.world);
  scope : scope_of l.self.scope ≡ scope_of l.fn.self.scope;
  keeps : Keeps l.fn.self.world l.self.world;
}

abbrev pub invariant-make_values-loop-binding : goal.invariant-make_values-loop-binding
invariant-make_values-loop-binding l = record {
  follows : before_bindings l.made.items (values_bound (make l.fuel l.levels (scope_of l.fn.self.scope)) (initials_beside (map initial_of (drop (length l.yielded) l.bindings)) (map parameter_of (drop (length l.yielded) l.parameters))) (world_of l.self.world))
      ≡ values_bound (make l.fuel l.levels (scope_of l.fn.self.scope)) (initials_beside (map initial_of l.bindings) (map parameter_of l.parameters)) (world_of l.fn.self.world);
  scope : scope_of l.self.scope ≡ scope_of l.fn.self.scope;
  keeps : Keeps l.fn.self.world l.self.world;
}

abbrev pub invariant-make_defaults-loop-optional : goal.invariant-make_defaults-loop-optional
invariant-make_defaults-loop-optional l = record {
  follows : before_optionals l.made.items (defaults (make l.fuel l.levels) (scope_of l.self.scope) (optionals_beside (map optional_of (drop (length l.yielded) l.optionals)) (map pair_of (drop (length l.yielded) l.parameters))) (world_of l.self.world))
      ≡ defaults (make l.fuel l.levels) (scope_of l.fn.self.scope) (optionals_beside (map optional_of l.optionals) (map pair_of l.parameters)) (world_of l.fn.self.world);
  extends : Extends (scope_of l.fn.self.scope) (scope_of l.self.scope);
  keeps : Keeps l.fn.self.world l.self.world;
}

abbrev pub invariant-make_definitions-loop-value : goal.invariant-make_definitions-loop-value
invariant-make_definitions-loop-value l = record {
  follows : before_definitions l.made.items (definitions l.levels (make l.fuel) (scope_of l.fn.self.scope) l.number (drop l.value-index l.values) (world_of l.self.world))
      ≡ definitions l.levels (make l.fuel) (scope_of l.fn.self.scope) l.fn.number l.values (world_of l.fn.self.world);
  scope : scope_of l.self.scope ≡ scope_of l.fn.self.scope;
  keeps : Keeps l.fn.self.world l.self.world;
}

abbrev pub invariant-make_items-loop-value : goal.invariant-make_items-loop-value
invariant-make_items-loop-value l = record {
  follows : before_items l.made.items (items (make l.fuel l.levels (scope_of l.fn.self.scope)) l.number (drop l.value-index l.values) (world_of l.self.world))
      ≡ items (make l.fuel l.levels (scope_of l.fn.self.scope)) l.fn.number l.values (world_of l.fn.self.world);
  scope : scope_of l.self.scope ≡ scope_of l.fn.self.scope;
  keeps : Keeps l.fn.self.world l.self.world;
}
