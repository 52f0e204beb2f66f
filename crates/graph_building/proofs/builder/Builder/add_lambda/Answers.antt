-- A lambda more keeps the graph well made.
use Rattle.std.proofs.Common.{◌≡◌, refl, ap, rules}
use Rattle.std.specs.Prelude.{OnOk}
use Rattle.std.proofs.lemmas.Result.{on_err_weaker}
use Rattle.icr_graph.specs.Plain.{graph_of}
use Rattle.icr_graph.specs.Building.{with_lambda}
use Rattle.graph_building.proofs.Parts.{lambda_told}
use Rattle.graph_building.proofs.Orderly.{sound_stays, others_kept}
use Rattle.graph_building.proofs.Ownership.{owned_stays, owned_kept, others_owned}
use Rattle.graph_building.proofs.builder.Builder.add_lambda.Goals as goal

pub invariant_of-self : goal.invariant_of-self
invariant_of-self c =
    record {
      sound =
          sound_stays c.self.inside.half_forked (graph_of c.self.inside.graph) (graph_of c.add_lambda.new.self) c.self.inside.block (λ u. with_lambda c.args.function (graph_of c.self.inside.graph))
          c.add_lambda.result (λ u. others_kept c.self.inside.block (graph_of c.self.inside.graph) (with_lambda c.args.function (graph_of c.self.inside.graph)) refl refl refl)
          c.add_lambda.ensures.ok (on_err_weaker c.add_lambda.result (ap graph_of) c.add_lambda.ensures.err) c.self.invariant.sound;
      owned =
          owned_stays c.add_lambda.result c.self.inside.owners (graph_of c.self.inside.graph) (graph_of c.add_lambda.new.self) (λ u. with_lambda c.args.function (graph_of c.self.inside.graph))
          (λ u. owned_kept c.self.inside.owners (graph_of c.self.inside.graph) _ (others_owned (graph_of c.self.inside.graph) _ refl refl refl) c.self.invariant.owned) c.add_lambda.ensures.ok (on_err_weaker c.add_lambda.result (ap graph_of) c.add_lambda.ensures.err) c.self.invariant.owned;
    }

pub returns : goal.returns
returns c =
    let is : OnOk c.map_err.result (graph_of c.add_lambda.new.self ≡ with_lambda c.args.function (graph_of c.self.inside.graph)) = search rules in
    rw (← c.self.view_is) (lambda_told _ _ refl refl c.map_err.result c.args.function is)
