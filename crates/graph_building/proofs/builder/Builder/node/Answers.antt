-- The node stands where it was added.
use Rattle.graph_building.proofs.NewNodes.{new_node}
use Rattle.graph_building.proofs.builder.Builder.node.Goals as goal

pub returns : goal.returns
returns c = new_node c.args.self.now c.add.new.self c.deliver.new.self c.in_ok-node.node c.args.kind c.args.to c.args.place c.args.charges c.in_ok-node.ensures c.in_ok-deliver.ensures
