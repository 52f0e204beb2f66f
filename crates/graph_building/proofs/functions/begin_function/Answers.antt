-- A function and a block are added, and no edge.
use Rattle.std.proofs.Common.{◌≡◌, None, refl, sym, ap, ◌∙◌, rules}
use Rattle.icr_graph.specs.Plain.{FlowGraph, graph_of}
use Rattle.icr_graph.specs.Building.{with_block, with_function, entered_at}
use Rattle.graph_building.specs.Steps.{with_code_at}
use Rattle.graph_building.proofs.Orderly.{sound_at, sound_kept, others_kept, block_kept, code_kept}
use Rattle.graph_building.proofs.Ownership.{owned_at, owned_kept, owned_more, function_owned, block_and_function_owned, code_owned}
use Rattle.graph_building.proofs.functions.begin_function.Goals as goal

pub returns-in_err-block-clause-sound : goal.returns-in_err-block-clause-sound
returns-in_err-block-clause-sound c =
    let function_is : graph_of c.add_function.new.self ≡ with_function c.in_ok-function.function c.args.function (graph_of c.args.graph.now) = search rules in
    λ half_forked block sound.
    sound_at half_forked (with_function c.in_ok-function.function c.args.function (graph_of c.args.graph.now)) _ block (ap graph_of c.in_err-block.ensures.err ∙ function_is)
    (sound_kept half_forked (graph_of c.args.graph.now) _ block (others_kept block (graph_of c.args.graph.now) _ refl refl refl) sound)

pub returns-in_err-block-clause-owned : goal.returns-in_err-block-clause-owned
returns-in_err-block-clause-owned c =
    let function_is : graph_of c.add_function.new.self ≡ with_function c.in_ok-function.function c.args.function (graph_of c.args.graph.now) = search rules in
    let vacant : (graph_of c.args.graph.now).function c.in_ok-function.function ≡ None = search rules in
    λ owned.
    owned_at c.args.owners.now (with_function c.in_ok-function.function c.args.function (graph_of c.args.graph.now)) _ (ap graph_of c.in_err-block.ensures.err ∙ function_is)
    (owned_kept c.args.owners.now (graph_of c.args.graph.now) _ (function_owned (graph_of c.args.graph.now) c.in_ok-function.function c.args.function vacant c.requires) owned)

pub returns-in_err-note_owner-clause-sound : goal.returns-in_err-note_owner-clause-sound
returns-in_err-note_owner-clause-sound c =
    let function_is : graph_of c.add_function.new.self ≡ with_function c.in_ok-function.function c.args.function (graph_of c.args.graph.now) = search rules in
    λ half_forked block sound.
    sound_at half_forked (with_block c.in_ok-block.block (graph_of c.add_function.new.self)) _ block c.in_ok-block.ensures.ok
    (sound_kept half_forked (graph_of c.add_function.new.self) _ block (block_kept block (graph_of c.add_function.new.self) c.in_ok-block.block c.in_ok-block.ensures.vacant)
    (sound_at half_forked (with_function c.in_ok-function.function c.args.function (graph_of c.args.graph.now)) _ block function_is
    (sound_kept half_forked (graph_of c.args.graph.now) _ block (others_kept block (graph_of c.args.graph.now) _ refl refl refl) sound)))

pub returns-in_err-note_owner-clause-owned : goal.returns-in_err-note_owner-clause-owned
returns-in_err-note_owner-clause-owned c =
    let function_is : graph_of c.add_function.new.self ≡ with_function c.in_ok-function.function c.args.function (graph_of c.args.graph.now) = search rules in
    let vacant : (graph_of c.args.graph.now).function c.in_ok-function.function ≡ None = search rules in
    λ owned.
    owned_more c.args.owners.now _ _ c.note_owner.ensures.more
    (block_and_function_owned c.args.owners.now (graph_of c.args.graph.now) (graph_of c.add_function.new.self) (graph_of c.add_block.new.self) c.in_ok-function.function c.in_ok-block.block c.args.function
    vacant c.requires function_is c.in_ok-block.ensures.vacant c.in_ok-block.ensures.ok owned)

pub returns-in_err-map_err-clause-sound : goal.returns-in_err-map_err-clause-sound
returns-in_err-map_err-clause-sound c =
    let function_is : graph_of c.add_function.new.self ≡ with_function c.in_ok-function.function c.args.function (graph_of c.args.graph.now) = search rules in
    let same : graph_of c.add_entry.new.self ≡ graph_of c.add_block.new.self = search rules in
    λ half_forked block sound.
    sound_at half_forked (with_block c.in_ok-block.block (graph_of c.add_function.new.self)) _ block (same ∙ c.in_ok-block.ensures.ok)
    (sound_kept half_forked (graph_of c.add_function.new.self) _ block (block_kept block (graph_of c.add_function.new.self) c.in_ok-block.block c.in_ok-block.ensures.vacant)
    (sound_at half_forked (with_function c.in_ok-function.function c.args.function (graph_of c.args.graph.now)) _ block function_is
    (sound_kept half_forked (graph_of c.args.graph.now) _ block (others_kept block (graph_of c.args.graph.now) _ refl refl refl) sound)))

pub returns-in_err-map_err-clause-owned : goal.returns-in_err-map_err-clause-owned
returns-in_err-map_err-clause-owned c =
    let function_is : graph_of c.add_function.new.self ≡ with_function c.in_ok-function.function c.args.function (graph_of c.args.graph.now) = search rules in
    let vacant : (graph_of c.args.graph.now).function c.in_ok-function.function ≡ None = search rules in
    let same : graph_of c.add_entry.new.self ≡ graph_of c.add_block.new.self = search rules in
    λ owned.
    owned_more c.args.owners.now _ _ c.note_owner.ensures.more
    (block_and_function_owned c.args.owners.now (graph_of c.args.graph.now) (graph_of c.add_function.new.self) (graph_of c.add_entry.new.self) c.in_ok-function.function c.in_ok-block.block c.args.function
    vacant c.requires function_is c.in_ok-block.ensures.vacant (same ∙ c.in_ok-block.ensures.ok) owned)

pub returns-clause-added : goal.returns-clause-added
returns-clause-added c =
    let function_is : graph_of c.add_function.new.self ≡ with_function c.in_ok-function.function c.args.function (graph_of c.args.graph.now) = search rules in
    let vacant : (graph_of c.args.graph.now).function c.in_ok-function.function ≡ None = search rules in
    let is : graph_of c.add_entry.new.self ≡ entered_at c.in_ok-function.function c.in_ok-block.block (graph_of c.add_block.new.self) = search rules in
    record {
      vacant = vacant;
      no_block = ap (λ (g : FlowGraph). g.block c.in_ok-block.block) (sym function_is) ∙ c.in_ok-block.ensures.vacant;
      is = is ∙ ap (entered_at c.in_ok-function.function c.in_ok-block.block) (c.in_ok-block.ensures.ok ∙ ap (with_block c.in_ok-block.block) function_is);
    }

pub returns-clause-sound : goal.returns-clause-sound
returns-clause-sound c =
    let function_is : graph_of c.add_function.new.self ≡ with_function c.in_ok-function.function c.args.function (graph_of c.args.graph.now) = search rules in
    let is : graph_of c.add_entry.new.self ≡ entered_at c.in_ok-function.function c.in_ok-block.block (graph_of c.add_block.new.self) = search rules in
    λ half_forked block sound.
    sound_at half_forked (with_code_at c.in_ok-function.function c.in_ok-block.block c.args.function (graph_of c.args.graph.now)) _ block
    (is ∙ ap (entered_at c.in_ok-function.function c.in_ok-block.block) (c.in_ok-block.ensures.ok ∙ ap (with_block c.in_ok-block.block) function_is))
    (sound_kept half_forked (graph_of c.args.graph.now) _ block
    (code_kept block (graph_of c.args.graph.now) c.in_ok-function.function c.in_ok-block.block c.args.function (ap (λ (g : FlowGraph). g.block c.in_ok-block.block) (sym function_is) ∙ c.in_ok-block.ensures.vacant)) sound)

pub returns-clause-owned : goal.returns-clause-owned
returns-clause-owned c =
    let function_is : graph_of c.add_function.new.self ≡ with_function c.in_ok-function.function c.args.function (graph_of c.args.graph.now) = search rules in
    let vacant : (graph_of c.args.graph.now).function c.in_ok-function.function ≡ None = search rules in
    let is : graph_of c.add_entry.new.self ≡ entered_at c.in_ok-function.function c.in_ok-block.block (graph_of c.add_block.new.self) = search rules in
    λ owned.
    owned_at c.note_owner.new.owners (with_code_at c.in_ok-function.function c.in_ok-block.block c.args.function (graph_of c.args.graph.now)) _
    (is ∙ ap (entered_at c.in_ok-function.function c.in_ok-block.block) (c.in_ok-block.ensures.ok ∙ ap (with_block c.in_ok-block.block) function_is))
    (code_owned c.note_owner.new.owners (graph_of c.args.graph.now) c.in_ok-function.function c.in_ok-block.block c.args.function
    (ap (λ (g : FlowGraph). g.block c.in_ok-block.block) (sym function_is) ∙ c.in_ok-block.ensures.vacant) vacant c.requires c.in_ok-note_owner.ensures.noted
    (owned_more c.args.owners.now _ _ c.note_owner.ensures.more owned))
