use Rattle.std.proofs.Common.{◌≡◌, length}
use Rattle.lisp_base.specs.Tables.{Table}
use Rattle.lisp_reader.specs.Building.{stock}
use Rattle.lisp_reader.specs.Machine.{delivered}
use Rattle.lisp_reader.specs.Held.{Grows, levels_of}
use Rattle.lisp_reader.proofs.progress.deliver.Given as goal

abbrev pub invariant-loop-level : goal.invariant-loop-level
invariant-loop-level l = record {
  same : (t : Table) → delivered (levels_of l.fn.levels) l.fn.forms.items l.fn.at (l.fn.value, stock t l.fn.heap) ≡ delivered (levels_of l.levels) l.forms.items l.at (l.value, stock t l.heap);
  grown : Grows l.fn.heap l.heap;
}

abbrev pub decreases-loop-level : goal.decreases-loop-level
decreases-loop-level l = length l.levels
