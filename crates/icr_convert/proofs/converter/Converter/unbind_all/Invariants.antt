use Rattle.std.proofs.Common.{◌≤◌, drop, length}
use Rattle.core_form.specs.ListReading.{bindings_list}
use Rattle.icr_convert.specs.Converting.{UnbindsAll}
use Rattle.icr_convert.proofs.converter.Converter.unbind_all.Given as goal

abbrev pub invariant-loop-number : goal.invariant-loop-number
invariant-loop-number l = record {
  so_far : UnbindsAll l.place (bindings_list (drop l.number l.bindings)) l.fn.self.built l.self.built;
  within : l.number ≤ length l.bindings;
}
