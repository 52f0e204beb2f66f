use Rattle.std.proofs.Common.{◌≡◌, drop}
use Rattle.lisp_base.specs.Membership.{has_all, has_some}
use Rattle.lisp_base.specs.Kinds.{kinds_of, symbol_kinds_of}
use Rattle.lisp_base.specs.Laws.{specs_list}
use Rattle.type_spec.proofs.membership.+has.Given as goal

abbrev pub invariant-all_have-loop-part : goal.invariant-all_have-loop-part
invariant-all_have-loop-part l =
    has_all (kinds_of l.heap) (symbol_kinds_of l.symbols) (specs_list (drop l.part-index l.parts)) l.v ≡ has_all (kinds_of l.heap) (symbol_kinds_of l.symbols) (specs_list l.parts) l.v

abbrev pub invariant-some_has-loop-part : goal.invariant-some_has-loop-part
invariant-some_has-loop-part l =
    has_some (kinds_of l.heap) (symbol_kinds_of l.symbols) (specs_list (drop l.part-index l.parts)) l.v ≡ has_some (kinds_of l.heap) (symbol_kinds_of l.symbols) (specs_list l.parts) l.v
