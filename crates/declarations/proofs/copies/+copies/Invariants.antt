use Rattle.std.proofs.Common.{◌≡◌, ◌++◌, drop}
use Rattle.lisp_base.specs.Laws.{specs_list}
use Rattle.declarations.proofs.copies.+copies.Given as goal

abbrev pub invariant-copy_types-loop-spec : goal.invariant-copy_types-loop-spec
invariant-copy_types-loop-spec l = specs_list (l.copies.items ++ drop l.spec-index l.specs) ≡ specs_list l.specs
