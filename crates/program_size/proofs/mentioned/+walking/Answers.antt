use Rattle.std.proofs.Common.{◌∙◌}
use Rattle.core_form.specs.Reading.{core_of, cores_list}
use Rattle.core_form.specs.ListReading.{bindings_list, definitions_list, items_list}
use Rattle.program_size.specs.Walk.{with_core, with_cores, with_bindings, with_definitions, with_items}
use Rattle.program_size.proofs.Nodes.{node_is, on_ok, both, of_parts, of_call}
use Rattle.program_size.proofs.mentioned.+walking.Goals as goal

pub note-returns-in_ok-push-in-CallGlobal : goal.note-returns-in_ok-push-in-CallGlobal
note-returns-in_ok-push-in-CallGlobal t c =
    let at = c.in-CallGlobal in
    let read = node_is c.args.found.now.items c.args.core.now _ _ at.is (c.reads_nodes.ensures.global _ at.symbol at.parts) in
    let parts = both (λ m es. with_cores m (cores_list es)) _ _ _ _ c.in_ok-push-in-CallGlobal.ensures.items c.deref.ensures.value in
    on_ok _ _ _ _ (parts ∙ read) c.note_all.ensures

pub note-returns-in_ok-note_bindings-in-Let : goal.note-returns-in_ok-note_bindings-in-Let
note-returns-in_ok-note_bindings-in-Let t c =
    let at = c.in-Let in
    let read = node_is c.args.found.now.items c.args.core.now _ _ at.is (c.reads_nodes.ensures.bindings _ at.bindings at.body) in
    let values = c.in_ok-note_bindings-in-Let.ensures ∙ both (λ m bs. with_bindings m (bindings_list bs)) c.args.found.now.items _ _ _ (λ _. c.args.found.now.items) c.deref-in-Let.ensures.value in
    on_ok _ _ _ _ (both (λ m e. with_core m (core_of e)) _ _ _ _ values c.deref-in-Let-2.ensures ∙ read) c.note-in-Let.ensures

pub note-returns-in_ok-note_definitions-in-Labels :
    goal.note-returns-in_ok-note_definitions-in-Labels
note-returns-in_ok-note_definitions-in-Labels t c =
    let at = c.in-Labels in
    let read = node_is c.args.found.now.items c.args.core.now _ _ at.is (c.reads_nodes.ensures.functions _ at.definitions at.body) in
    let functions = c.in_ok-note_definitions-in-Labels.ensures ∙ both (λ m ds. with_definitions m (definitions_list ds)) c.args.found.now.items _ _ _ (λ _. c.args.found.now.items) c.deref-in-Labels.ensures.value in
    on_ok _ _ _ _ (both (λ m e. with_core m (core_of e)) _ _ _ _ functions c.deref-in-Labels-2.ensures ∙ read) c.note-in-Labels.ensures

pub note-returns-in-Tagbody : goal.note-returns-in-Tagbody
note-returns-in-Tagbody t c =
    let at = c.in-Tagbody in
    let read = node_is c.args.found.now.items c.args.core.now _ _ at.is (c.reads_nodes.ensures.items _ at.items) in
    on_ok _ _ _ _ (both (λ m is. with_items m (items_list is)) c.args.found.now.items _ _ _ (λ _. c.args.found.now.items) c.deref-in-Tagbody.ensures.value ∙ read) c.note_items.ensures

pub note-returns-in_ok-note-in-Funcall : goal.note-returns-in_ok-note-in-Funcall
note-returns-in_ok-note-in-Funcall t c =
    let at = c.in-Funcall in
    let laws = c.reads_nodes.ensures in
    let read = of_call laws.funcall laws.apply laws.with_values c.args.found.now.items c.args.core.now at.function at.parts at.is in
    let called = c.in_ok-note-in-Funcall.ensures ∙ both (λ m e. with_core m (core_of e)) c.args.found.now.items _ _ _ (λ _. c.args.found.now.items) c.deref-in-Funcall.ensures in
    on_ok _ _ _ _ (both (λ m es. with_cores m (cores_list es)) _ _ _ _ called c.deref-in-Funcall-2.ensures.value ∙ read) c.note_all-in-Funcall.ensures

pub note-returns-in-Progn : goal.note-returns-in-Progn
note-returns-in-Progn t c =
    let at = c.in-Progn in
    let laws = c.reads_nodes.ensures in
    let read = of_parts c.reads_lists.ensures.sequence laws.values laws.local c.reads_lists.ensures.call c.args.found.now.items c.args.core.now at.parts at.is in
    on_ok _ _ _ _ (both (λ m es. with_cores m (cores_list es)) c.args.found.now.items _ _ _ (λ _. c.args.found.now.items) c.deref-in-Progn.ensures.value ∙ read) c.note_all-in-Progn.ensures
