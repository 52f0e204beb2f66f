-- The block that ends had no block after it, and no If as its last node.
use Rattle.std.proofs.Common.{◌≡◌, ◌≢◌, None, refl, false, rules}
use Rattle.icr_graph.specs.Plain.{graph_of}
use Rattle.icr_graph.specs.Edits.{linked}
use Rattle.icr_graph.specs.Faults.{link_fault}
use Rattle.graph_building.specs.Steps.{IsOpen}
use Rattle.graph_building.specs.Orderly.{SameOwner, EndsWith}
use Rattle.graph_building.proofs.Parts.{goes_on}
use Rattle.graph_building.proofs.Orderly.{sound_at, goes_on_sound}
use Rattle.graph_building.proofs.Ownership.{owned_at, linked_owned}
use Rattle.graph_building.proofs.builder.Builder.go_on.Goals as goal

pub invariant_of-self : goal.invariant_of-self
invariant_of-self c =
    let same : graph_of c.link.new.self ≡ graph_of c.self.inside.graph = search rules in
    record {
      sound =
          sound_at c.self.inside.half_forked (graph_of c.self.inside.graph) _ c.self.inside.block same c.self.invariant.sound;
      owned =
          owned_at c.self.inside.owners (graph_of c.self.inside.graph) _ same c.self.invariant.owned;
    }

pub invariant_of-self-2 : goal.invariant_of-self-2
invariant_of-self-2 c =
    let is : graph_of c.link.new.self ≡ linked c.self.inside.block c.args.next (graph_of c.self.inside.graph) = search rules in
    let found : IsOpen (graph_of c.self.inside.graph) c.args.then = search rules in
    let other : c.args.then ≢ c.self.inside.block = search rules in
    let ends : EndsWith false (graph_of c.self.inside.graph) c.self.inside.block = search rules in
    let allowed : link_fault (graph_of c.self.inside.graph) c.self.inside.block c.args.next ≡ None = search rules in
    let owner : SameOwner c.self.inside.owners c.self.inside.block c.args.next = search rules in
    record {
      sound =
          sound_at c.self.inside.half_forked (linked c.self.inside.block c.args.next (graph_of c.self.inside.graph)) _ c.args.then is
          (goes_on_sound c.self.inside.half_forked (graph_of c.self.inside.graph) c.self.inside.block c.self.invariant.sound c.args.next c.args.then ends allowed found.after other);
      owned =
          owned_at c.self.inside.owners (linked c.self.inside.block c.args.next (graph_of c.self.inside.graph)) _ is (linked_owned c.self.inside.owners (graph_of c.self.inside.graph) c.self.inside.block c.args.next allowed owner c.self.invariant.owned);
    }

pub returns : goal.returns
returns c =
    let is : graph_of c.link.new.self ≡ linked c.self.inside.block c.args.next (graph_of c.self.inside.graph) = search rules in
    let found : IsOpen (graph_of c.self.inside.graph) c.args.then = search rules in
    let allowed : link_fault (graph_of c.self.inside.graph) c.self.inside.block c.args.next ≡ None = search rules in
    rw (← c.self.view_is) (goes_on _ _ c.args.next c.args.then refl refl c.self.invariant.sound.none found allowed is)
