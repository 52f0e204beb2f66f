-- What is so of a graph that is being built stays so in all that it becomes. (This project's own.)
use Rattle.std.proofs.Common.{◌≡◌, ◌≢◌, ℕ, List, [], ◌++◌, refl, sym, ap, subst, ◌∙◌, append_assoc, append-nil, arith}
use Rattle.icr_graph.specs.declared.nodes.Node.{Node}
use Rattle.icr_graph.specs.declared.nodes.NodeKind.{NodeKind}
use Rattle.icr_graph.specs.declared.nodes.NodeKind.TheVariants as kind
use Rattle.icr_graph.specs.declared.parts.Block.{Block}
use Rattle.icr_graph.specs.Plain.{FlowGraph}
use Rattle.graph_building.specs.Later.{SameKind, SameNode, SameBlock, Later, SameForm, Lasting}
use Rattle.graph_building.specs.Built.{Built, graph, Grown, Beside}
use Rattle.icr_convert.specs.declared.names.Names.{Names}
use Rattle.icr_convert.specs.Scene.{Scene, IsMade, Ready}

-- ---- graphs

same_kind_refl : (k : NodeKind) → SameKind k k
same_kind_refl (kind.Entry x exits) = (exits, refl)
same_kind_refl k = refl

same_kind_trans : (k k' k'' : NodeKind) → SameKind k k' → SameKind k' k'' → SameKind k k''
same_kind_trans (kind.Entry x exits) k' k'' first next = subst (λ (j : NodeKind). SameKind j k'') first.1 next
same_kind_trans k k' k'' first next = subst (λ (j : NodeKind). SameKind j k'') first next

same_node_trans : (x y z : Node) → SameNode x y → SameNode y z → SameNode x z
same_node_trans x y z first next =
    record {
      kind = same_kind_trans x.kind y.kind z.kind first.kind next.kind;
      cont = next.cont ∙ first.cont;
      block = next.block ∙ first.block;
      place = next.place ∙ first.place;
      charges = next.charges ∙ first.charges;
    }

same_block_trans : (x y z : Block) → SameBlock x y → SameBlock y z → SameBlock x z
same_block_trans x y z first next =
    record {
      more = first.more ++ next.more;
      nodes = next.nodes ∙ ap (λ (ns : List ℕ). ns ++ next.more) first.nodes ∙ append_assoc x.nodes first.more next.more;
      ended = λ (h : x.after ≢ []).
          let old : (y.nodes ≡ x.nodes) × (y.after ≡ x.after) = first.ended h in
          let new : (z.nodes ≡ y.nodes) × (z.after ≡ y.after) = next.ended (λ e. h (sym old.1 ∙ e)) in
          (new.0 ∙ old.0, new.1 ∙ old.1);
    }

pub later_refl : (g : FlowGraph) → Later g g
later_refl g =
    record {
      nodes = λ n x e. (x, e, record { kind = same_kind_refl x.kind; cont = refl; block = refl; place = refl; charges = refl });
      conts = λ k x e. (x, e, refl);
      blocks = λ b x e. (x, e, record { more = []; nodes = sym (append-nil x.nodes); ended = λ h. (refl, refl) });
      functions = λ f x e. e;
      variables = λ v x e. e;
    }

pub later_trans : (g h i : FlowGraph) → Later g h → Later h i → Later g i
later_trans g h i first next =
    record {
      nodes = λ n x e.
          let y = first.nodes n x e in
          let z = next.nodes n y.0 y.1 in
          (z.0, z.1, same_node_trans x y.0 z.0 y.2 z.2);
      conts = λ k x e.
          let y = first.conts k x e in
          let z = next.conts k y.0 y.1 in
          (z.0, z.1, z.2 ∙ y.2);
      blocks = λ b x e.
          let y = first.blocks b x e in
          let z = next.blocks b y.0 y.1 in
          (z.0, z.1, same_block_trans x y.0 z.0 y.2 z.2);
      functions = λ f x e. next.functions f x (first.functions f x e);
      variables = λ v x e. next.variables v x (first.variables v x e);
    }

same_form_trans : (g h i : FlowGraph) → SameForm g h → SameForm h i → SameForm g i
same_form_trans g h i first next =
    record {
      size = next.size ∙ first.size;
      copies = next.copies ∙ first.copies;
      lambdas = next.lambdas ∙ first.lambdas;
      code = next.code ∙ first.code;
      defines = next.defines ∙ first.defines;
    }

-- ---- moments of building

pub grown_refl : (a : Built) → Grown a a
grown_refl a =
    record { later = later_refl (graph a); form = record { size = refl; copies = refl; lambdas = refl; code = refl; defines = refl }; fresh = omega arith }

pub grown_trans : {a b c : Built} → Grown a b → Grown b c → Grown a c
grown_trans {a} {b} {c} first next =
    record {
      later = later_trans (graph a) (graph b) (graph c) first.later next.later;
      form = same_form_trans (graph a) (graph b) (graph c) first.form next.form;
      fresh = omega arith;
    }

pub beside_trans : {a b c : Built} → Beside a b → Beside b c → Beside a c
beside_trans first next = record { grown = grown_trans first.grown next.grown; same = next.same ∙ first.same }

-- ---- what lasts

-- what lasts from a graph on lasts from each that it becomes
pub lasts : {P : FlowGraph → Type 0} {g h : FlowGraph} → Lasting P g → Later g h → Lasting P h
lasts {g = g} {h = h} lasting later i next = lasting i (later_trans g h i later next)

-- and it is so of that graph
pub lasts_now : {P : FlowGraph → Type 0} {g : FlowGraph} → Lasting P g → P g
lasts_now {g = g} lasting = lasting g (later_refl g)

-- names that go by a form's facts go by them in all that the graph becomes
pub ready_later : {s : Scene} {names : Names} {g h : FlowGraph} → Ready s names g → Later g h → Ready s names h
ready_later {s} {names} {g} {h} ready later =
    record {
      knows = ready.knows;
      named = ready.named;
      variables = λ x v e. lasts {g = g} {h = h} (ready.variables x v e) later;
      numbered = ready.numbered;
      functions = λ i m t made text.
          let is : IsMade g s m t = ready.functions i m t made text in
          record { stands = lasts {g = g} {h = h} is.stands later; takes = is.takes };
    }
