use Rattle.core_form.specs.ListReading.{bindings_list, items_list}
use Rattle.core_form.specs.Reading.{cores_list}
use Rattle.graph_building.specs.Built.{Built}
use Rattle.icr_convert.proofs.Operands.{TakesOperands}
use Rattle.icr_convert.proofs.Tagging.{Rest}
use Rattle.icr_convert.specs.Converting.{Gathers, GoesBefore, TakesInitials, rest_of, types_of}
use Rattle.std.proofs.Common.{take, List, drop, ℕ, ◌++◌}
use Rattle.icr_convert.proofs.converter.Converter.+convert.Given as goal

-- effects
abbrev pub invariant-effects-loop-number : goal.invariant-effects-loop-number
invariant-effects-loop-number l =
    (b : Built) (left : ℕ) → GoesBefore l.names (cores_list (drop l.number (take l.count l.parts))) l.left l.self.built b left → GoesBefore l.names (cores_list (take l.count l.parts)) l.initial.left l.initial.self.built b left

-- gather
abbrev pub invariant-gather-loop-part : goal.invariant-gather-loop-part
invariant-gather-loop-part l = (b : Built) → Gathers l.names l.place (cores_list (drop l.part-index l.parts)) l.self.built b → Gathers l.names l.place (cores_list l.parts) l.initial.self.built b

-- initials
abbrev pub invariant-initials-loop-binding : goal.invariant-initials-loop-binding
invariant-initials-loop-binding l =
    (c : Built) (ks : List ℕ) → TakesInitials l.names (bindings_list (drop l.binding-index l.bindings)) l.cost l.self.built c ks →
    TakesInitials l.names (bindings_list l.bindings) l.fn.cost l.fn.self.built c (l.values ++ ks)

-- items
abbrev pub invariant-items-loop-item : goal.invariant-items-loop-item
invariant-items-loop-item l = Rest l.names (items_list l.items) (items_list (drop l.item-index l.items)) l.tags l.rest l.fn.self.built l.self.built

-- operands
abbrev pub invariant-operands-loop-number : goal.invariant-operands-loop-number
invariant-operands-loop-number l =
    (b : Built) (ks : List ℕ) → TakesOperands l.names l.word l.place (cores_list (drop l.number l.parts)) (drop l.number (types_of l.primitive)) (rest_of l.primitive) l.left l.self.built b ks →
    TakesOperands l.names l.word l.place (cores_list l.parts) (types_of l.primitive) (rest_of l.primitive) l.initial.left l.initial.self.built b (l.operands ++ ks)
