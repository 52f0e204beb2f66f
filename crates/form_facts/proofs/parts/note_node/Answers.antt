use Rattle.std.specs.Prelude.{[], ◌∷◌}
use Rattle.core_form.specs.Reading.{core_of, cores_list}
use Rattle.core_form.specs.ListReading.{bindings_list}
use Rattle.form_facts.specs.Parts.{binds, operand_parts, node_parts}
use Rattle.form_facts.specs.Read.{parts_list}
use Rattle.form_facts.proofs.NodeParts.{carry, at_same, as_read, by_node}
use Rattle.form_facts.proofs.parts.note_node.Goals as goal

pub returns-in-Let : goal.returns-in-Let
returns-in-Let c =
    let old = parts_list c.args.parts.now.items in
    let new = parts_list c.note-in-Let.new.parts.items in
    let read = as_read c.args.core.now _ _ c.in-Let.is (c.reads_nodes.ensures.bindings _ c.in-Let.bindings c.in-Let.field-1) in
    carry c.note-in-Let.result new old old (binds (bindings_list c.deref-in-Let.result.now) ∷ []) (node_parts (core_of c.args.core.now))
    (λ h. by_node old new c.args.core.now _ read (at_same (λ bs. binds (bindings_list bs) ∷ []) new old _ _ c.deref-in-Let.ensures.value h)) c.note-in-Let.ensures

pub returns-in-Primitive : goal.returns-in-Primitive
returns-in-Primitive c =
    let old = parts_list c.args.parts.now.items in
    let new = parts_list c.note_operands.new.parts.items in
    let read = as_read c.args.core.now _ _ c.in-Primitive.is (c.reads_lists.ensures.call _ c.in-Primitive.operation c.in-Primitive.operands) in
    carry c.note_operands.result new old old (operand_parts c.in-Primitive.operation (cores_list c.deref-in-Primitive.result.now)) (node_parts (core_of c.args.core.now))
    (λ h. by_node old new c.args.core.now _ read (at_same (λ es. operand_parts c.in-Primitive.operation (cores_list es)) new old _ _ c.deref-in-Primitive.ensures.value h)) c.note_operands.ensures
