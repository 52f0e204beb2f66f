use Rattle.std.proofs.Common.{take}
use Rattle.icr_convert.specs.Programs.{AddsGraphs}
use Rattle.icr_convert.proofs.programs.add_graphs.Given as goal

abbrev pub invariant-loop-form : goal.invariant-loop-form
invariant-loop-form l = AddsGraphs l.program (take l.form-index l.forms) l.initial.graphs.items l.graphs.items
