-- What stands in a graph stands in all that it becomes. (This project's own.)
use Rattle.std.proofs.Common.{◌≡◌, ◌≢◌, ℕ, zero, suc, Bool, true, false, ◌==◌, ◌||◌, List, [], ◌∷◌, ◌++◌, Option, Some, None, refl, sym, ap, subst, ◌∙◌, append-nil, append_assoc, eq-eqb, arith}
use Rattle.std.specs.Prelude.{slice_get}
use Rattle.std.proofs.lemmas.Option.{same_Some}
use Rattle.lisp_base.specs.declared.values.Place.{Place}
use Rattle.lisp_base.specs.Spec.{Spec}
use Rattle.core_form.specs.Facts.{Facts}
use Rattle.icr_graph.specs.declared.nodes.Node.{Node}
use Rattle.icr_graph.specs.declared.nodes.Charges.{Charges}
use Rattle.icr_graph.specs.declared.nodes.NodeKind.{NodeKind}
use Rattle.icr_graph.specs.declared.nodes.NodeKind.TheVariants as kind
use Rattle.icr_graph.specs.declared.parts.Block.{Block}
use Rattle.icr_graph.specs.declared.parts.Cont.{Cont}
use Rattle.icr_graph.specs.Lists.{has_number, numbers_of}
use Rattle.icr_graph.specs.Plain.{FlowGraph, nodes_in, blocks_after, block_of}
use Rattle.icr_graph.specs.Whole.{IsWhole}
use Rattle.graph_meaning.specs.Reading.{node_at, named, assertions_on}
use Rattle.form_graphs.specs.Spots.{Spot, next, Passes, Here, Ends, Forks, Unasserted, Asserted, IsVariable}
use Rattle.graph_building.specs.Later.{SameKind, SameNode, SameBlock, Later, SameForm, Lasting}
use Rattle.graph_building.specs.Built.{Built, Grown}

-- ---- nodes and blocks

pub same_kind_refl : (k : NodeKind) → SameKind k k
same_kind_refl (kind.Entry x exits) = (exits, refl)
same_kind_refl k = refl

pub same_kind_trans : (k k' k'' : NodeKind) → SameKind k k' → SameKind k' k'' → SameKind k k''
same_kind_trans (kind.Entry x exits) k' k'' first then = subst (λ (j : NodeKind). SameKind j k'') first.1 then
same_kind_trans k k' k'' first then = subst (λ (j : NodeKind). SameKind j k'') first then

pub same_node_refl : (x : Node) → SameNode x x
same_node_refl x = record { kind = same_kind_refl x.kind; cont = refl; block = refl; place = refl; charges = refl }

pub same_node_trans : (x y z : Node) → SameNode x y → SameNode y z → SameNode x z
same_node_trans x y z first then =
    record {
      kind = same_kind_trans x.kind y.kind z.kind first.kind then.kind;
      cont = then.cont ∙ first.cont;
      block = then.block ∙ first.block;
      place = then.place ∙ first.place;
      charges = then.charges ∙ first.charges;
    }

pub same_block_refl : (x : Block) → SameBlock x x
same_block_refl x = record { more = []; nodes = sym (append-nil x.nodes); ended = λ h. (refl, refl) }

pub same_block_trans : (x y z : Block) → SameBlock x y → SameBlock y z → SameBlock x z
same_block_trans x y z first then =
    record {
      more = first.more ++ then.more;
      nodes = then.nodes ∙ ap (λ (ns : List ℕ). ns ++ then.more) first.nodes ∙ append_assoc x.nodes first.more then.more;
      ended = λ (h : x.after ≢ []).
          let old : (y.nodes ≡ x.nodes) × (y.after ≡ x.after) = first.ended h in
          let new : (z.nodes ≡ y.nodes) × (z.after ≡ y.after) = then.ended (λ e. h (sym old.1 ∙ e)) in
          (new.0 ∙ old.0, new.1 ∙ old.1);
    }

-- ---- graphs

pub later_refl : (g : FlowGraph) → Later g g
later_refl g =
    record {
      nodes = λ n x e. (x, e, same_node_refl x);
      conts = λ k x e. (x, e, refl);
      blocks = λ b x e. (x, e, same_block_refl x);
      functions = λ f x e. e;
      variables = λ v x e. e;
    }

pub later_trans : (g h i : FlowGraph) → Later g h → Later h i → Later g i
later_trans g h i first then =
    record {
      nodes = λ n x e.
          let y = first.nodes n x e in
          let z = then.nodes n y.0 y.1 in
          (z.0, z.1, same_node_trans x y.0 z.0 y.2 z.2);
      conts = λ k x e.
          let y = first.conts k x e in
          let z = then.conts k y.0 y.1 in
          (z.0, z.1, z.2 ∙ y.2);
      blocks = λ b x e.
          let y = first.blocks b x e in
          let z = then.blocks b y.0 y.1 in
          (z.0, z.1, same_block_trans x y.0 z.0 y.2 z.2);
      functions = λ f x e. then.functions f x (first.functions f x e);
      variables = λ v x e. then.variables v x (first.variables v x e);
    }

pub same_form_refl : (g : FlowGraph) → SameForm g g
same_form_refl g = record { size = refl; copies = refl; lambdas = refl; code = refl; defines = refl }

pub same_form_trans : (g h i : FlowGraph) → SameForm g h → SameForm h i → SameForm g i
same_form_trans g h i first then =
    record {
      size = then.size ∙ first.size;
      copies = then.copies ∙ first.copies;
      lambdas = then.lambdas ∙ first.lambdas;
      code = then.code ∙ first.code;
      defines = then.defines ∙ first.defines;
    }

pub grown_refl : (a : Built) → Grown a a
grown_refl a = record { later = later_refl _; form = same_form_refl _; fresh = omega arith }

pub grown_trans : (a b c : Built) → Grown a b → Grown b c → Grown a c
grown_trans a b c first then =
    record {
      later = later_trans _ _ _ first.later then.later;
      form = same_form_trans _ _ _ first.form then.form;
      fresh = omega arith;
    }

-- what lasts from a graph on lasts from each that it becomes
pub lasts : (P : FlowGraph → Type 0) (g h : FlowGraph) → Lasting P g → Later g h → Lasting P h
lasts P g h lasting later i then = lasting i (later_trans g h i later then)

-- and it is so of that graph
pub lasts_now : (P : FlowGraph → Type 0) (g : FlowGraph) → Lasting P g → P g
lasts_now P g lasting = lasting g (later_refl g)

-- ---- what stands at a place

-- what a list gives, a longer one gives
get_longer : (xs more : List ℕ) (i n : ℕ) → slice_get xs i ≡ Some n → slice_get (xs ++ more) i ≡ Some n
get_longer [] more i n e = cc
get_longer (x ∷ xs) more zero n e = e
get_longer (x ∷ xs) more (suc i) n e = get_longer xs more i n e

-- the number under which something was found
found_under : {A : Type 0} → (entries : ℕ → Option A) (o : Option ℕ) (a : A) → named entries o ≡ Some a → (n : ℕ) × (o ≡ Some n) × (entries n ≡ Some a)
found_under entries None a e = cc
found_under entries (Some n) a e = (n, refl, e)

not_empty : (x : ℕ) (xs : List ℕ) → x ∷ xs ≢ []
not_empty x xs e = cc

-- a block has the nodes that it had, and maybe more
pub nodes_later : (g h : FlowGraph) → Later g h → (b : ℕ) → (more : List ℕ) × (nodes_in h b ≡ nodes_in g b ++ more)
nodes_later g h later b = by_case (g.block b) refl
  where
    by_case : (o : Option Block) → g.block b ≡ o → (more : List ℕ) × (nodes_in h b ≡ numbers_of (λ (x : Block). x.nodes) o ++ more)
    by_case None e = (nodes_in h b, refl)
    by_case (Some x) e =
        let y = later.blocks b x e in
        (y.2.more, ap (numbers_of (λ (z : Block). z.nodes)) y.1 ∙ y.2.nodes)

-- a block that has a block after it stays
pub ended_later : (g h : FlowGraph) → Later g h → (b : ℕ) → blocks_after g b ≢ [] → (nodes_in h b ≡ nodes_in g b) × (blocks_after h b ≡ blocks_after g b)
ended_later g h later b = by_case (g.block b) refl
  where
    by_case : (o : Option Block) → g.block b ≡ o → numbers_of (λ (x : Block). x.after) o ≢ [] → (nodes_in h b ≡ numbers_of (λ (x : Block). x.nodes) o) × (blocks_after h b ≡ numbers_of (λ (x : Block). x.after) o)
    by_case None e some = absurd (some refl)
    by_case (Some x) e some =
        let y = later.blocks b x e in
        let same : (y.0.nodes ≡ x.nodes) × (y.0.after ≡ x.after) = y.2.ended some in
        (ap (numbers_of (λ (z : Block). z.nodes)) y.1 ∙ same.0, ap (numbers_of (λ (z : Block). z.after)) y.1 ∙ same.1)

node_of_parts : (y : Node) (to : Option ℕ) (b : ℕ) (place : Place) (c : Charges) → y.cont ≡ to → y.block ≡ b → y.place ≡ place → y.charges ≡ c → y ≡ record { kind = y.kind; cont = to; block = b; place = place; charges = c }
node_of_parts y to b place c to_is b_is place_is c_is = rw (← to_is, ← b_is, ← place_is, ← c_is) refl

pub here_lasts : (g : FlowGraph) (p : Spot) (k : NodeKind) (to : Option ℕ) (place : Place) (cost : ℕ) (passes : Passes) → Here g p k to place cost passes → Lasting (λ h. (k' : NodeKind) × SameKind k k' × Here h p k' to place cost passes) g
here_lasts g p k to place cost passes here h later =
    let found = found_under g.node (slice_get (nodes_in g p.block) p.index) _ here.1 in
    let more = nodes_later g h later p.block in
    let y = later.nodes found.0 _ found.2 in
    let at : slice_get (nodes_in h p.block) p.index ≡ Some found.0 = ap (λ (ns : List ℕ). slice_get ns p.index) more.1 ∙ get_longer (nodes_in g p.block) more.0 p.index found.0 found.1 in
    (y.0.kind, y.2.kind, (here.0, ap (named h.node) at ∙ y.1 ∙ ap Some (node_of_parts y.0 _ _ _ _ y.2.cont y.2.block y.2.place y.2.charges)))

-- the same of a node that is no entry
pub here_stays : (g : FlowGraph) (p : Spot) (k : NodeKind) (to : Option ℕ) (place : Place) (cost : ℕ) (passes : Passes) → ((k' : NodeKind) → SameKind k k' → k' ≡ k) → Here g p k to place cost passes → Lasting (λ h. Here h p k to place cost passes) g
here_stays g p k to place cost passes same here h later =
    let x = here_lasts g p k to place cost passes here h later in
    subst (λ (k' : NodeKind). Here h p k' to place cost passes) (same x.0 x.1) x.2

-- where the nodes of a block end that has a block after it
pub end_lasts : (g : FlowGraph) (p : Spot) (c : ℕ) (cs : List ℕ) → slice_get (nodes_in g p.block) p.index ≡ None → blocks_after g p.block ≡ c ∷ cs → Lasting (λ h. (slice_get (nodes_in h p.block) p.index ≡ None) × (blocks_after h p.block ≡ c ∷ cs)) g
end_lasts g p c cs none after h later =
    let same = ended_later g h later p.block (λ e. not_empty c cs (sym after ∙ e)) in
    (ap (λ (ns : List ℕ). slice_get ns p.index) same.0 ∙ none, same.1 ∙ after)

-- a block that ends, as its list of nodes says
pub ends_by_length : (g : FlowGraph) (p : Spot) (b : ℕ) → slice_get (nodes_in g p.block) p.index ≡ None → blocks_after g p.block ≡ b ∷ [] → Lasting (λ h. Ends h p b) g
ends_by_length g p b none after h later =
    let end = end_lasts g p b [] none after h later in
    (ap (named h.node) end.0, end.1)

pub forks_lasts : (g : FlowGraph) (p : Spot) (y n : ℕ) → Forks g p y n → Lasting (λ h. Forks h p y n) g
forks_lasts g p y n forks = end_lasts g (next p) y (n ∷ []) forks.0 forks.1

-- ---- a block that ends in a graph that hangs together

has_at : (xs : List ℕ) (i n : ℕ) → slice_get xs i ≡ Some n → has_number n xs ≡ true
has_at [] i n e = cc
has_at (x ∷ xs) zero n e = rw (same_Some x n e, eq-eqb n n refl) refl
has_at (x ∷ xs) (suc i) n e = rw (has_at xs i n e) (or_true (x == n))
  where
    or_true : (b : Bool) → (b || true) ≡ true
    or_true true = refl
    or_true false = refl

-- the nodes of a block are there
no_node_listed : (g : FlowGraph) (b i : ℕ) → IsWhole g → node_at g b i ≡ None → slice_get (nodes_in g b) i ≡ None
no_node_listed g b i whole none = by_case (slice_get (nodes_in g b) i) refl none
  where
    by_case : (o : Option ℕ) → slice_get (nodes_in g b) i ≡ o → named g.node o ≡ None → o ≡ None
    by_case None e gone = refl
    by_case (Some n) e gone =
        let listed : has_number b (block_of g n) ≡ true = whole.places n b ∙ has_at (nodes_in g b) i n e in
        let unlisted : has_number b (block_of g n) ≡ false = ap (λ (o : Option Node). has_number b (numbers_of (λ (x : Node). x.block ∷ []) o)) gone in
        cc

pub ends_lasts : (g : FlowGraph) (p : Spot) (b : ℕ) → IsWhole g → Ends g p b → Lasting (λ h. Ends h p b) g
ends_lasts g p b whole ends = ends_by_length g p b (no_node_listed g p.block p.index whole ends.0) ends.1

-- ---- continuations and variables

pub asserts_later : (g h : FlowGraph) → Later g h → (k : ℕ) (x : Cont) → g.cont k ≡ Some x → assertions_on (h.cont k) ≡ assertions_on (g.cont k)
asserts_later g h later k x there =
    let y = later.conts k x there in
    ap assertions_on y.1 ∙ y.2 ∙ sym (ap assertions_on there)

pub unasserted_lasts : (g : FlowGraph) (k : ℕ) (x : Cont) → g.cont k ≡ Some x → Unasserted g k → Lasting (λ h. Unasserted h k) g
unasserted_lasts g k x there none h later = asserts_later g h later k x there ∙ none

pub asserted_lasts : (g : FlowGraph) (k : ℕ) (place : Place) (t : Spec) → Asserted g k place t → Lasting (λ h. Asserted h k place t) g
asserted_lasts g k place t asserted h later = by_case (g.cont k) refl asserted.1
  where
    by_case : (o : Option Cont) → g.cont k ≡ o → assertions_on o ≡ asserted.0 ∷ [] → Asserted h k place t
    by_case None there is = cc
    by_case (Some x) there is = (asserted.0, asserts_later g h later k x there ∙ asserted.1, asserted.2, asserted.3, asserted.4)

pub is_variable_lasts : (g : FlowGraph) (facts : Facts) (v x : ℕ) → IsVariable g facts v x → Lasting (λ h. IsVariable h facts v x) g
is_variable_lasts g facts v x is h later = (is.0, later.variables v is.0 is.1, is.2)
