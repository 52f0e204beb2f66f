-- The assertion that is added is checked.
use Rattle.std.proofs.Common.{◌≡◌, refl, ap, ◌∙◌, true, rules}
use Rattle.icr_graph.specs.Plain.{graph_of}
use Rattle.icr_graph.specs.Building.{with_assertion}
use Rattle.graph_building.specs.Built.{Built, graph}
use Rattle.graph_building.proofs.Parts.{new_asserted}
use Rattle.graph_building.proofs.Orderly.{sound_at, sound_kept, assertion_kept}
use Rattle.graph_building.proofs.Ownership.{owned_at, owned_kept, others_owned}
use Rattle.graph_building.proofs.builder.Builder.asserted_cont.Goals as goal

pub invariant_of-self : goal.invariant_of-self
invariant_of-self c =
    let same : graph_of c.assert_on.new.self ≡ graph_of c.self.inside.graph = search rules in
    record {
      sound =
          sound_at c.self.inside.half_forked (graph_of c.self.inside.graph) _ c.self.inside.block same c.self.invariant.sound;
      owned =
          owned_at c.self.inside.owners (graph_of c.self.inside.graph) _ same c.self.invariant.owned;
    }

pub invariant_of-self-2 : goal.invariant_of-self-2
invariant_of-self-2 c =
    let is : graph_of c.assert_on.new.self ≡ with_assertion c.in_ok-cont.cont (record { spec = c.args.spec; place = c.args.place; checked = true }) (graph_of c.self.inside.graph) = search rules in
    record {
      sound =
          sound_at c.self.inside.half_forked (with_assertion c.in_ok-cont.cont (record { spec = c.args.spec; place = c.args.place; checked = true }) (graph_of c.self.inside.graph)) _ c.self.inside.block is
          (sound_kept c.self.inside.half_forked (graph_of c.self.inside.graph) _ c.self.inside.block (assertion_kept c.self.inside.block (graph_of c.self.inside.graph) c.in_ok-cont.cont (record { spec = c.args.spec; place = c.args.place; checked = true }) refl) c.self.invariant.sound);
      owned =
          owned_at c.self.inside.owners (with_assertion c.in_ok-cont.cont (record { spec = c.args.spec; place = c.args.place; checked = true }) (graph_of c.self.inside.graph)) _ is (owned_kept c.self.inside.owners (graph_of c.self.inside.graph) _ (others_owned (graph_of c.self.inside.graph) _ refl refl refl) c.self.invariant.owned);
    }

pub returns : goal.returns
returns c =
    let is : graph_of c.assert_on.new.self ≡ with_assertion c.in_ok-cont.cont (record { spec = c.args.spec; place = c.args.place; checked = true }) (graph_of c.self.inside.graph) = search rules in
    new_asserted c.args.self.now c.add_cont.new.self _ c.in_ok-cont.cont c.args.spec c.args.place c.in_ok-cont.ensures
    (ap (λ (m : Built). m.block) c.self.view_is) (ap (λ (m : Built). m.fresh) c.self.view_is) (is ∙ ap (λ (m : Built). with_assertion c.in_ok-cont.cont (record { spec = c.args.spec; place = c.args.place; checked = true }) (graph m)) c.self.view_is)
