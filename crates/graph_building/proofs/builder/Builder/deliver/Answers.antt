-- A delivery keeps the graph well made.
use Rattle.icr_graph.specs.Plain.{graph_of}
use Rattle.icr_graph.specs.Building.{delivered}
use Rattle.graph_building.proofs.Orderly.{sound_stays, delivery_kept}
use Rattle.graph_building.proofs.Ownership.{owned_stays, owned_kept, delivery_owned}
use Rattle.graph_building.proofs.builder.Builder.deliver.Goals as goal

pub invariant_of-self : goal.invariant_of-self
invariant_of-self c =
    record {
      sound =
          sound_stays c.self.inside.half_forked (graph_of c.self.inside.graph) (graph_of c.deliver.new.self) c.self.inside.block (λ u. delivered c.args.node c.in-Some.cont (graph_of c.self.inside.graph))
          c.deliver.result (λ u. delivery_kept c.self.inside.block (graph_of c.self.inside.graph) c.args.node c.in-Some.cont) c.deliver.ensures.ok c.deliver.ensures.err c.self.invariant.sound;
      owned =
          owned_stays c.deliver.result c.self.inside.owners (graph_of c.self.inside.graph) (graph_of c.deliver.new.self) (λ u. delivered c.args.node c.in-Some.cont (graph_of c.self.inside.graph))
          (λ u. owned_kept c.self.inside.owners (graph_of c.self.inside.graph) _ (delivery_owned (graph_of c.self.inside.graph) c.args.node c.in-Some.cont) c.self.invariant.owned) c.deliver.ensures.ok c.deliver.ensures.err c.self.invariant.owned;
    }
