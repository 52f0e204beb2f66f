-- A new variable keeps the graph well made.
use Rattle.std.proofs.Common.{refl, ap}
use Rattle.std.proofs.lemmas.Result.{on_err_weaker}
use Rattle.icr_graph.specs.Plain.{graph_of}
use Rattle.icr_graph.specs.Building.{with_variable}
use Rattle.graph_building.proofs.Parts.{variable_told}
use Rattle.graph_building.proofs.Orderly.{sound_stays, others_kept}
use Rattle.graph_building.proofs.Ownership.{owned_stays, owned_kept, others_owned}
use Rattle.graph_building.proofs.builder.Builder.variable.Goals as goal

pub invariant_of-self : goal.invariant_of-self
invariant_of-self c =
    record {
      sound =
          sound_stays c.self.inside.half_forked (graph_of c.self.inside.graph) (graph_of c.add_variable.new.self) c.self.inside.block (λ v. with_variable v c.args.variable (graph_of c.self.inside.graph))
          c.add_variable.result (λ v. others_kept c.self.inside.block (graph_of c.self.inside.graph) (with_variable v c.args.variable (graph_of c.self.inside.graph)) refl refl refl)
          c.add_variable.ensures.ok (on_err_weaker c.add_variable.result (ap graph_of) c.add_variable.ensures.err) c.self.invariant.sound;
      owned =
          owned_stays c.add_variable.result c.self.inside.owners (graph_of c.self.inside.graph) (graph_of c.add_variable.new.self) (λ v. with_variable v c.args.variable (graph_of c.self.inside.graph))
          (λ v. owned_kept c.self.inside.owners (graph_of c.self.inside.graph) _ (others_owned (graph_of c.self.inside.graph) _ refl refl refl) c.self.invariant.owned) c.add_variable.ensures.ok (on_err_weaker c.add_variable.result (ap graph_of) c.add_variable.ensures.err) c.self.invariant.owned;
    }

pub returns : goal.returns
returns c =
    rw (← c.self.view_is) (variable_told _ _ refl refl c.add_variable.result c.args.variable c.add_variable.ensures.vacant c.add_variable.ensures.ok)
