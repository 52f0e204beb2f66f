-- A new block has no nodes, and no block follows it.
use Rattle.std.proofs.Common.{refl, ap}
use Rattle.icr_graph.specs.Plain.{graph_of}
use Rattle.icr_graph.specs.Building.{with_block}
use Rattle.graph_building.proofs.Parts.{block_beside}
use Rattle.graph_building.proofs.Orderly.{sound_at, sound_kept, block_kept}
use Rattle.graph_building.proofs.Ownership.{owned_at, owned_kept, owned_more, block_owned}
use Rattle.graph_building.proofs.builder.Builder.block.Goals as goal

pub invariant_of-self : goal.invariant_of-self
invariant_of-self c =
    record {
      sound = sound_at c.self.inside.half_forked (graph_of c.self.inside.graph) _ c.self.inside.block (ap graph_of c.in_err-block.ensures.err) c.self.invariant.sound;
      owned = owned_at c.self.inside.owners (graph_of c.self.inside.graph) _ (ap graph_of c.in_err-block.ensures.err) c.self.invariant.owned;
    }

pub invariant_of-self-in_err-note_owner : goal.invariant_of-self-in_err-note_owner
invariant_of-self-in_err-note_owner c =
    let g = graph_of c.self.inside.graph in
    let n = c.in_ok-block.block in
    record {
      sound = sound_at c.self.inside.half_forked (with_block n g) _ c.self.inside.block c.in_ok-block.ensures.ok (sound_kept c.self.inside.half_forked g _ c.self.inside.block (block_kept c.self.inside.block g n c.in_ok-block.ensures.vacant) c.self.invariant.sound);
      owned = owned_more c.self.inside.owners _ _ c.note_owner.ensures.more (owned_at c.self.inside.owners (with_block n g) _ c.in_ok-block.ensures.ok (owned_kept c.self.inside.owners g _ (block_owned g n c.in_ok-block.ensures.vacant) c.self.invariant.owned));
    }

pub invariant_of-self-2 : goal.invariant_of-self-2
invariant_of-self-2 c =
    let g = graph_of c.self.inside.graph in
    let n = c.in_ok-block.block in
    record {
      sound = sound_at c.self.inside.half_forked (with_block n g) _ c.self.inside.block c.in_ok-block.ensures.ok (sound_kept c.self.inside.half_forked g _ c.self.inside.block (block_kept c.self.inside.block g n c.in_ok-block.ensures.vacant) c.self.invariant.sound);
      owned = owned_more c.self.inside.owners _ _ c.note_owner.ensures.more (owned_at c.self.inside.owners (with_block n g) _ c.in_ok-block.ensures.ok (owned_kept c.self.inside.owners g _ (block_owned g n c.in_ok-block.ensures.vacant) c.self.invariant.owned));
    }

pub returns : goal.returns
returns c =
    rw (← c.self.view_is) (block_beside _ _ refl c.in_ok-block.block refl c.in_ok-block.ensures.vacant c.in_ok-block.ensures.ok)
