-- A node more, in the block to which nodes are added, keeps the graph well made.
use Rattle.std.proofs.Common.{rules}
use Rattle.std.specs.Prelude.{◌≡◌, None}
use Rattle.icr_graph.specs.Kinds.{arrivals_of}
use Rattle.icr_graph.specs.Plain.{graph_of}
use Rattle.icr_graph.specs.Building.{with_node}
use Rattle.graph_building.specs.Orderly.{AllOwned}
use Rattle.graph_building.proofs.NewNodes.{bare_node}
use Rattle.graph_building.proofs.Orderly.{sound_where, node_kept}
use Rattle.graph_building.proofs.Ownership.{owned_stays, node_owned}
use Rattle.graph_building.proofs.builder.Builder.add.Goals as goal

pub invariant_of-self : goal.invariant_of-self
invariant_of-self c =
    let arrive : AllOwned c.self.inside.owners c.self.inside.block (arrivals_of c.args.kind) = search rules in
    record {
      sound =
          sound_where c.self.inside.half_forked (graph_of c.self.inside.graph) (graph_of c.add_node.new.self) c.self.inside.block (λ n. with_node n (bare_node c.args.kind c.self.inside.block c.args.place c.args.charges) (graph_of c.self.inside.graph))
          c.add_node.result (λ n. (graph_of c.self.inside.graph).node n ≡ None) (λ n vacant. node_kept (graph_of c.self.inside.graph) n (bare_node c.args.kind c.self.inside.block c.args.place c.args.charges) vacant)
          c.add_node.ensures.vacant c.add_node.ensures.ok c.add_node.ensures.err c.self.invariant.sound;
      owned =
          owned_stays c.add_node.result c.self.inside.owners (graph_of c.self.inside.graph) (graph_of c.add_node.new.self) (λ n. with_node n (bare_node c.args.kind c.self.inside.block c.args.place c.args.charges) (graph_of c.self.inside.graph))
          (λ n. node_owned c.self.inside.owners (graph_of c.self.inside.graph) n (bare_node c.args.kind c.self.inside.block c.args.place c.args.charges) arrive c.self.invariant.owned) c.add_node.ensures.ok c.add_node.ensures.err c.self.invariant.owned;
    }
