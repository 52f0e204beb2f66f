-- The block that ends had no block after it, and an If as its last node; that to which nodes are added stays without one after it.
use Rattle.std.proofs.Common.{◌≡◌, ◌≢◌, None, refl, sym, ap, ◌∙◌, true, false, rules}
use Rattle.icr_graph.specs.Plain.{FlowGraph, graph_of}
use Rattle.icr_graph.specs.Edits.{linked}
use Rattle.icr_graph.specs.Faults.{link_fault}
use Rattle.graph_building.specs.Steps.{IsOpen}
use Rattle.graph_building.specs.Orderly.{SameOwner, EndsWith}
use Rattle.graph_building.proofs.Parts.{forks_to}
use Rattle.graph_building.proofs.Orderly.{sound_at, half_sound, forks_sound}
use Rattle.graph_building.proofs.Ownership.{owned_at, linked_owned}
use Rattle.graph_building.proofs.builder.Builder.fork.Goals as goal

pub invariant_of-self : goal.invariant_of-self
invariant_of-self c =
    let same : graph_of c.link.new.self ≡ graph_of c.self.inside.graph = search rules in
    record {
      sound =
          sound_at c.self.inside.half_forked (graph_of c.self.inside.graph) _ c.self.inside.block same c.self.invariant.sound;
      owned =
          owned_at c.self.inside.owners (graph_of c.self.inside.graph) _ same c.self.invariant.owned;
    }

pub invariant_of-self-in_err-map_err-2 : goal.invariant_of-self-in_err-map_err-2
invariant_of-self-in_err-map_err-2 c =
    let once : graph_of c.link.new.self ≡ linked c.self.inside.block c.args.yes (graph_of c.self.inside.graph) = search rules in
    let same : graph_of c.link-2.new.self ≡ graph_of c.link.new.self = search rules in
    let found : IsOpen (graph_of c.self.inside.graph) c.args.yes = search rules in
    let other : c.args.yes ≢ c.self.inside.block = search rules in
    let allowed : link_fault (graph_of c.self.inside.graph) c.self.inside.block c.args.yes ≡ None = search rules in
    let owner : SameOwner c.self.inside.owners c.self.inside.block c.args.yes = search rules in
    record {
      sound =
          sound_at true (linked c.self.inside.block c.args.yes (graph_of c.self.inside.graph)) _ c.args.yes (same ∙ once)
          (half_sound c.self.inside.half_forked (graph_of c.self.inside.graph) c.self.inside.block c.self.invariant.sound c.args.yes found.after other);
      owned =
          owned_at c.self.inside.owners (linked c.self.inside.block c.args.yes (graph_of c.self.inside.graph)) _ (same ∙ once) (linked_owned c.self.inside.owners (graph_of c.self.inside.graph) c.self.inside.block c.args.yes allowed owner c.self.invariant.owned);
    }

pub invariant_of-self-2 : goal.invariant_of-self-2
invariant_of-self-2 c =
    let once : graph_of c.link.new.self ≡ linked c.self.inside.block c.args.yes (graph_of c.self.inside.graph) = search rules in
    let twice : graph_of c.link-2.new.self ≡ linked c.self.inside.block c.args.no (graph_of c.link.new.self) = search rules in
    let found : IsOpen (graph_of c.self.inside.graph) c.args.yes = search rules in
    let other : c.args.yes ≢ c.self.inside.block = search rules in
    let ends : EndsWith true (graph_of c.self.inside.graph) c.self.inside.block = search rules in
    let whole : c.self.inside.half_forked ≡ false = search rules in
    let allowed : link_fault (graph_of c.self.inside.graph) c.self.inside.block c.args.yes ≡ None = search rules in
    let allowed_too : link_fault (graph_of c.link.new.self) c.self.inside.block c.args.no ≡ None = search rules in
    let owner : SameOwner c.self.inside.owners c.self.inside.block c.args.yes = search rules in
    let owner_too : SameOwner c.self.inside.owners c.self.inside.block c.args.no = search rules in
    record {
      sound =
          sound_at false (linked c.self.inside.block c.args.no (linked c.self.inside.block c.args.yes (graph_of c.self.inside.graph))) _ c.args.yes (twice ∙ ap (linked c.self.inside.block c.args.no) once)
          (forks_sound (graph_of c.self.inside.graph) c.self.inside.block c.args.yes c.args.no (rw whole at c.self.invariant.sound) ends allowed
          (ap (λ (g : FlowGraph). link_fault g c.self.inside.block c.args.no) (sym once) ∙ allowed_too) found.after other);
      owned =
          owned_at c.self.inside.owners (linked c.self.inside.block c.args.no (graph_of c.link.new.self)) _ twice
          (linked_owned c.self.inside.owners (graph_of c.link.new.self) c.self.inside.block c.args.no allowed_too owner_too
          (owned_at c.self.inside.owners (linked c.self.inside.block c.args.yes (graph_of c.self.inside.graph)) _ once (linked_owned c.self.inside.owners (graph_of c.self.inside.graph) c.self.inside.block c.args.yes allowed owner c.self.invariant.owned)));
    }

pub returns : goal.returns
returns c =
    let once : graph_of c.link.new.self ≡ linked c.self.inside.block c.args.yes (graph_of c.self.inside.graph) = search rules in
    let twice : graph_of c.link-2.new.self ≡ linked c.self.inside.block c.args.no (graph_of c.link.new.self) = search rules in
    let found : IsOpen (graph_of c.self.inside.graph) c.args.yes = search rules in
    let allowed : link_fault (graph_of c.self.inside.graph) c.self.inside.block c.args.yes ≡ None = search rules in
    let allowed_too : link_fault (graph_of c.link.new.self) c.self.inside.block c.args.no ≡ None = search rules in
    rw (← c.self.view_is) (forks_to _ _ c.args.yes c.args.no refl refl c.self.invariant.sound.none found allowed
    (ap (λ (g : FlowGraph). link_fault g c.self.inside.block c.args.no) (sym once) ∙ allowed_too) (twice ∙ ap (linked c.self.inside.block c.args.no) once))
