use Rattle.std.proofs.Common.{drop}
use Rattle.core_form.specs.ListReading.{bindings_list}
use Rattle.graph_building.specs.Built.{Built}
use Rattle.icr_convert.specs.Converting.{BindsAll}
use Rattle.icr_convert.proofs.converter.Converter.bind_all.Given as goal

abbrev pub invariant-loop-binding : goal.invariant-loop-binding
invariant-loop-binding l =
    (c : Built) → BindsAll l.names l.place (bindings_list (drop l.binding-index l.bindings)) l.rest l.self.built c →
    BindsAll l.names l.place (bindings_list l.bindings) l.values l.fn.self.built c
