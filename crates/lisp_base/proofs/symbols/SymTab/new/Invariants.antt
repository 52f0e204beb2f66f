use Rattle.std.proofs.Common.{◌≡◌, [], take}
use Rattle.lisp_base.specs.Kept.{symbols_of, AllNumberedBelow}
use Rattle.lisp_base.proofs.BaseTable.{with_names}
use Rattle.lisp_base.proofs.symbols.SymTab.new.Given as goal

abbrev pub invariant-loop-name : goal.invariant-loop-name
invariant-loop-name l = record {
  used : symbols_of l.entries.keys ≡ with_names [] (take l.name-index l.name-items);
  numbered : AllNumberedBelow 0 l.entries.keys;
}
