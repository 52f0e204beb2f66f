use Rattle.std.proofs.Common.{◌≡◌, ◌≤◌, take, length}
use Rattle.lisp_reader.specs.Building.{chain}
use Rattle.lisp_reader.specs.Held.{Grows}
use Rattle.lisp_reader.proofs.building.chain.Given as goal

abbrev pub invariant-loop-index : goal.invariant-loop-index
invariant-loop-index l = record {
  rest : chain l.at 0 l.items l.fn.tail l.fn.heap ≡ chain l.at 0 (take l.index l.items) l.value l.heap;
  grown : Grows l.fn.heap l.heap;
  within : l.index ≤ length l.items;
}
