use Rattle.std.proofs.Common.{◌≡◌, ◌≤◌}
use Rattle.form_expander.specs.Chains.{leads}
use Rattle.form_expander.specs.Extending.{Extends}
use Rattle.form_expander.specs.Keeping.{Keeps}
use Rattle.form_expander.specs.Reading.{scope_of, world_of}
use Rattle.form_expander.proofs.expander.Expander.lead.Given as goal

abbrev pub invariant-loop-fuel : goal.invariant-loop-fuel
invariant-loop-fuel l = record {
  follows : leads l.fuel l.chain (scope_of l.self.scope) l.form (world_of l.self.world) ≡ leads l.fn.fuel l.fn.chain (scope_of l.fn.self.scope) l.fn.form (world_of l.fn.self.world);
  extends : Extends (scope_of l.fn.self.scope) (scope_of l.self.scope);
  within : l.fuel ≤ l.fn.fuel;
  keeps : Keeps l.fn.self.world l.self.world;
}

abbrev pub decreases-loop-fuel : goal.decreases-loop-fuel
decreases-loop-fuel l = l.fuel
