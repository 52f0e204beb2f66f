use Rattle.core_form.specs.Reading.{core_of}
use Rattle.form_names.specs.Read.{parts_list}
use Rattle.core_form.specs.ListReading.{definitions_list, items_list}
use Rattle.form_names.specs.Parts.{definition_parts, tagbody_parts, node_parts}
use Rattle.form_names.proofs.NodeParts.{carry, at_same, as_read, by_node}
use Rattle.form_names.proofs.parts.note_node.Goals as goal

pub returns-in-Labels : goal.returns-in-Labels
returns-in-Labels c =
    let old = parts_list c.args.noted.now.items in
    let new = parts_list c.note_definitions.new.noted.items in
    let read = as_read c.args.core.now _ _ c.in-Labels.is (c.reads_nodes.ensures.functions _ c.in-Labels.definitions c.in-Labels.field-1) in
    carry c.note_definitions.result new old old (definition_parts (definitions_list c.deref.result.now)) (node_parts (core_of c.args.core.now))
    (λ h. by_node old new c.args.core.now _ read (at_same (λ ds. definition_parts (definitions_list ds)) new old _ _ c.deref.ensures.value h)) c.note_definitions.ensures

pub returns-in-Tagbody : goal.returns-in-Tagbody
returns-in-Tagbody c =
    let old = parts_list c.args.noted.now.items in
    let new = parts_list c.note_tagbody.new.noted.items in
    let read = as_read c.args.core.now _ _ c.in-Tagbody.is (c.reads_nodes.ensures.items _ c.in-Tagbody.items) in
    carry c.note_tagbody.result new old old (tagbody_parts (items_list c.deref-in-Tagbody.result.now)) (node_parts (core_of c.args.core.now))
    (λ h. by_node old new c.args.core.now _ read (at_same (λ is. tagbody_parts (items_list is)) new old _ _ c.deref-in-Tagbody.ensures.value h)) c.note_tagbody.ensures
