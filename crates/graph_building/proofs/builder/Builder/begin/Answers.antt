-- The block has no nodes, and no block follows it.
use Rattle.std.proofs.Common.{refl, false, rules}
use Rattle.icr_graph.specs.Plain.{graph_of}
use Rattle.graph_building.specs.Steps.{IsOpen}
use Rattle.graph_building.specs.Orderly.{EndsWith}
use Rattle.graph_building.proofs.Parts.{begins}
use Rattle.graph_building.proofs.Orderly.{begins_sound}
use Rattle.graph_building.proofs.builder.Builder.begin.Goals as goal

pub invariant_of-self : goal.invariant_of-self
invariant_of-self c =
    let found : IsOpen (graph_of c.self.inside.graph) c.args.block = search rules in
    let ends : EndsWith false (graph_of c.self.inside.graph) c.self.inside.block = search rules in
    record {
      sound =
          begins_sound c.self.inside.half_forked (graph_of c.self.inside.graph) c.self.inside.block c.self.invariant.sound c.args.block ends found.after;
      owned =
          c.self.invariant.owned;
    }

pub returns : goal.returns
returns c =
    let found : IsOpen (graph_of c.self.inside.graph) c.args.block = search rules in
    rw (← c.self.view_is) (begins _ _ c.args.block refl refl refl found)
