use Rattle.std.proofs.Common.{◌≡◌, ◌++◌, drop}
use Rattle.lisp_base.specs.Laws.{specs_list}
use Rattle.icr_convert.proofs.copies.+copies.Given as goal

abbrev pub invariant-copies_of-loop-spec : goal.invariant-copies_of-loop-spec
invariant-copies_of-loop-spec l = specs_list (l.copies.items ++ drop l.spec-index l.specs) ≡ specs_list l.specs
