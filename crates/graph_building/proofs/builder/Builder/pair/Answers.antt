-- An exit that gets its entry keeps the graph well made.
use Rattle.icr_graph.specs.Plain.{graph_of}
use Rattle.icr_graph.specs.Building.{paired}
use Rattle.graph_building.proofs.Orderly.{sound_stays, pair_kept}
use Rattle.graph_building.proofs.Ownership.{owned_stays, owned_kept, pair_owned}
use Rattle.graph_building.proofs.builder.Builder.pair.Goals as goal

pub invariant_of-self : goal.invariant_of-self
invariant_of-self c =
    record {
      sound =
          sound_stays c.self.inside.half_forked (graph_of c.self.inside.graph) (graph_of c.pair.new.self) c.self.inside.block (λ u. paired c.args.exit c.in-Some.entry (graph_of c.self.inside.graph))
          c.pair.result (λ u. pair_kept c.self.inside.block (graph_of c.self.inside.graph) c.args.exit c.in-Some.entry) c.pair.ensures.ok c.pair.ensures.err c.self.invariant.sound;
      owned =
          owned_stays c.pair.result c.self.inside.owners (graph_of c.self.inside.graph) (graph_of c.pair.new.self) (λ u. paired c.args.exit c.in-Some.entry (graph_of c.self.inside.graph))
          (λ u. owned_kept c.self.inside.owners (graph_of c.self.inside.graph) _ (pair_owned (graph_of c.self.inside.graph) c.args.exit c.in-Some.entry) c.self.invariant.owned) c.pair.ensures.ok c.pair.ensures.err c.self.invariant.owned;
    }
