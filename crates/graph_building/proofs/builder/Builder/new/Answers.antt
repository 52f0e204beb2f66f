-- Nothing stands in the graph but the function of the form's own code.
use Rattle.std.proofs.Common.{◌≡◌, false, refl, rules}
use Rattle.icr_graph.specs.Plain.{graph_of}
use Rattle.icr_graph.specs.Building.{with_code}
use Rattle.graph_building.proofs.Parts.{is_begun}
use Rattle.graph_building.proofs.Orderly.{sound_at, sound_kept, others_kept, nothing_sound}
use Rattle.graph_building.proofs.Ownership.{owned_at, owned_kept, others_owned, nothing_owned}
use Rattle.graph_building.proofs.builder.Builder.new.Goals as goal

pub invariant_of-result : goal.invariant_of-result
invariant_of-result c =
    let is : graph_of c.set_code.new.self ≡ with_code c.in_ok-code.code.function (graph_of c.begin_function.new.graph) = search rules in
    let block = c.in_ok-code.code.block in
    record {
      sound =
          sound_at false (with_code c.in_ok-code.code.function (graph_of c.begin_function.new.graph)) _ block is
          (sound_kept false (graph_of c.begin_function.new.graph) _ block (others_kept block (graph_of c.begin_function.new.graph) _ refl refl refl)
          ((rw c.new-graph.ensures at c.in_ok-code.ensures.sound) false block (nothing_sound c.args.size c.args.copies c.args.defines block)));
      owned =
          owned_at c.begin_function.new.owners (with_code c.in_ok-code.code.function (graph_of c.begin_function.new.graph)) _ is
          (owned_kept c.begin_function.new.owners (graph_of c.begin_function.new.graph) _ (others_owned (graph_of c.begin_function.new.graph) _ refl refl refl)
          ((rw (c.new-graph.ensures, c.new-owners.ensures) at c.in_ok-code.ensures.owned) (nothing_owned c.args.size c.args.copies c.args.defines)));
    }

pub returns : goal.returns
returns c =
    let is : graph_of c.set_code.new.self ≡ with_code c.in_ok-code.code.function (graph_of c.begin_function.new.graph) = search rules in
    is_begun _ c.args.size c.args.copies c.args.defines c.args.place c.own_code.result (graph_of c.begin_function.new.graph) c.in_ok-code.code.function c.in_ok-code.code.block refl c.own_code.ensures (rw c.new-graph.ensures at c.in_ok-code.ensures.added) is
