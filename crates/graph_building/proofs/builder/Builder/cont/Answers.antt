-- Nothing is asserted of a new continuation.
use Rattle.graph_building.proofs.Parts.{cont_told}
use Rattle.graph_building.proofs.builder.Builder.cont.Goals as goal

pub returns : goal.returns
returns c = cont_told c.args.self.now c.add_cont.new.self c.add_cont.result c.add_cont.ensures
