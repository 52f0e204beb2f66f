-- A new continuation has no assertions.
use Rattle.std.proofs.Common.{refl}
use Rattle.icr_graph.specs.Plain.{graph_of}
use Rattle.icr_graph.specs.Building.{with_cont}
use Rattle.graph_building.proofs.Orderly.{sound_at, sound_kept, cont_kept}
use Rattle.graph_building.proofs.Ownership.{owned_at, owned_kept, others_owned}
use Rattle.graph_building.proofs.builder.Builder.add_cont.Goals as goal

pub invariant_of-self-in_err-self-inside : goal.invariant_of-self-in_err-self-inside
invariant_of-self-in_err-self-inside c =
    record {
      sound =
          sound_at c.self.inside.half_forked (with_cont c.in_ok-cont.cont (graph_of c.self.inside.graph)) _ c.self.inside.block c.in_ok-cont.ensures.ok
          (sound_kept c.self.inside.half_forked (graph_of c.self.inside.graph) _ c.self.inside.block (cont_kept c.self.inside.block (graph_of c.self.inside.graph) c.in_ok-cont.cont) c.self.invariant.sound);
      owned =
          owned_at c.self.inside.owners (with_cont c.in_ok-cont.cont (graph_of c.self.inside.graph)) _ c.in_ok-cont.ensures.ok (owned_kept c.self.inside.owners (graph_of c.self.inside.graph) _ (others_owned (graph_of c.self.inside.graph) _ refl refl refl) c.self.invariant.owned);
    }

pub invariant_of-self-2 : goal.invariant_of-self-2
invariant_of-self-2 c =
    record {
      sound =
          sound_at c.self.inside.half_forked (with_cont c.in_ok-cont.cont (graph_of c.self.inside.graph)) _ c.self.inside.block c.in_ok-cont.ensures.ok
          (sound_kept c.self.inside.half_forked (graph_of c.self.inside.graph) _ c.self.inside.block (cont_kept c.self.inside.block (graph_of c.self.inside.graph) c.in_ok-cont.cont) c.self.invariant.sound);
      owned =
          owned_at c.self.inside.owners (with_cont c.in_ok-cont.cont (graph_of c.self.inside.graph)) _ c.in_ok-cont.ensures.ok (owned_kept c.self.inside.owners (graph_of c.self.inside.graph) _ (others_owned (graph_of c.self.inside.graph) _ refl refl refl) c.self.invariant.owned);
    }
