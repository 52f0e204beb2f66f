-- The exit stands where it was added, with its entry.
use Rattle.graph_building.proofs.NewNodes.{exit_told}
use Rattle.graph_building.proofs.builder.Builder.exit.Goals as goal

pub returns : goal.returns
returns c =
    exit_told c.args.self.now c.add.new.self c.pair.new.self c.deliver.new.self c.deliver.result c.in_ok-node.node c.args.leaving c.args.entry c.args.to c.args.place c.args.charges
    c.in_ok-node.ensures c.in_ok-pair.ensures c.deliver.ensures
