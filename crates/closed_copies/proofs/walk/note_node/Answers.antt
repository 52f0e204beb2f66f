use Rattle.core_form.specs.Reading.{core_of}
use Rattle.closed_copies.specs.Walked.{events_list}
use Rattle.core_form.specs.ListReading.{bindings_list, definitions_list, items_list}
use Rattle.core_form.specs.Facts.{binding_parameters}
use Rattle.closed_copies.specs.Events.{parameter_events, definition_events, tagbody_events, node_events}
use Rattle.closed_copies.proofs.NodeEvents.{carry, at_same, as_read, by_node}
use Rattle.closed_copies.proofs.walk.note_node.Goals as goal

pub returns-in-Let : goal.returns-in-Let
returns-in-Let c =
    let old = events_list c.args.events.now.items in
    let new = events_list c.note_bindings.new.events.items in
    let read = as_read c.args.core.now _ _ c.in-Let.is (c.reads_nodes.ensures.bindings _ c.in-Let.bindings c.in-Let.field-1) in
    carry c.note_bindings.result new old old (parameter_events (binding_parameters (bindings_list c.deref.result.now))) (node_events (core_of c.args.core.now))
    (λ h. by_node old new c.args.core.now _ read (at_same (λ bs. parameter_events (binding_parameters (bindings_list bs))) new old _ _ c.deref.ensures.value h)) c.note_bindings.ensures

pub returns-in-Labels : goal.returns-in-Labels
returns-in-Labels c =
    let old = events_list c.args.events.now.items in
    let new = events_list c.note_definitions.new.events.items in
    let read = as_read c.args.core.now _ _ c.in-Labels.is (c.reads_nodes.ensures.functions _ c.in-Labels.definitions c.in-Labels.field-1) in
    carry c.note_definitions.result new old old (definition_events (definitions_list c.deref-in-Labels.result.now)) (node_events (core_of c.args.core.now))
    (λ h. by_node old new c.args.core.now _ read (at_same (λ ds. definition_events (definitions_list ds)) new old _ _ c.deref-in-Labels.ensures.value h)) c.note_definitions.ensures

pub returns-in-Tagbody : goal.returns-in-Tagbody
returns-in-Tagbody c =
    let old = events_list c.args.events.now.items in
    let new = events_list c.note_tagbody.new.events.items in
    let read = as_read c.args.core.now _ _ c.in-Tagbody.is (c.reads_nodes.ensures.items _ c.in-Tagbody.items) in
    carry c.note_tagbody.result new old old (tagbody_events (items_list c.deref-in-Tagbody.result.now)) (node_events (core_of c.args.core.now))
    (λ h. by_node old new c.args.core.now _ read (at_same (λ is. tagbody_events (items_list is)) new old _ _ c.deref-in-Tagbody.ensures.value h)) c.note_tagbody.ensures
