-- A node that was added, joined to its entry and its continuation, stands where nodes are added. (This project's own.)
use Rattle.std.proofs.Common.{◌≡◌, ℕ, suc, Bool, true, false, ◌==◌, List, [], ◌∷◌, ◌++◌, length, if◌then◌else◌, Option, Some, None, option_map, is_some, refl, sym, ap, ◌∙◌, arith}
use Rattle.std.specs.Prelude.{slice_get, Result, Ok, Err, OnOk}
use Rattle.lisp_base.specs.declared.values.Place.{Place}
use Rattle.icr_graph.specs.declared.nodes.Charges.{Charges}
use Rattle.icr_graph.specs.declared.nodes.Leaving.{Leaving as Way}
use Rattle.icr_graph.specs.declared.nodes.Node.{Node}
use Rattle.icr_graph.specs.declared.nodes.NodeKind.{NodeKind}
use Rattle.icr_graph.specs.declared.nodes.NodeKind.TheVariants as kind
use Rattle.icr_graph.specs.declared.parts.Block.{Block}
use Rattle.icr_graph.specs.Lists.{has_number, numbers_of, changed, touched}
use Rattle.icr_graph.specs.Kinds.{arrivals_of}
use Rattle.icr_graph.specs.Building.{holding, arriving_from, with_node, delivering_to, naming_entry, naming_exit, leaving_entry, left_by_exit}
use Rattle.icr_graph.specs.Plain.{FlowGraph, nodes_in, blocks_after}
use Rattle.graph_meaning.specs.Reading.{named}
use Rattle.form_graphs.specs.Spots.{next, Here}
use Rattle.graph_building.specs.Built.{Built, graph, spot, Grown, passes_of, NewNode, NewExit}
use Rattle.graph_building.specs.Steps.{Becomes, AddsNode, delivering, pairing}
use Rattle.graph_building.proofs.Entries.{entry_now, changed_now, changed_reads, touched_reads}
use Rattle.graph_building.proofs.Later.{here_lasts, here_stays}
use Rattle.graph_building.proofs.Edits.{SameRest, joined_rest, node_later}
use Rattle.graph_building.proofs.Parts.{spot_is, later_at, form_at}

-- ---- the block

-- the blocks after a block stay
pub node_after : (g : FlowGraph) (n : ℕ) (x : Node) (b : ℕ) → blocks_after (with_node n x g) b ≡ blocks_after g b
node_after g n x b =
    changed_reads (λ (y : Block). y.after) (holding n) x.block (touched (arrivals_of x.kind) (arriving_from n) g.block) b (λ y. refl)
    ∙ touched_reads (λ (y : Block). y.after) (arriving_from n) (arrivals_of x.kind) g.block b (λ y. refl)

-- the node is the last of its block
node_last : (g : FlowGraph) (n : ℕ) (x : Node) → is_some (g.block x.block) ≡ true → nodes_in (with_node n x g) x.block ≡ nodes_in g x.block ++ n ∷ []
node_last g n x live =
    ap (numbers_of (λ (y : Block). y.nodes)) (changed_now (holding n) x.block (touched (arrivals_of x.kind) (arriving_from n) g.block))
    ∙ held (touched (arrivals_of x.kind) (arriving_from n) g.block x.block) (is_touched (has_number x.block (arrivals_of x.kind)) (g.block x.block) live)
    ∙ ap (λ (ns : List ℕ). ns ++ n ∷ []) (touched_reads (λ (y : Block). y.nodes) (arriving_from n) (arrivals_of x.kind) g.block x.block (λ y. refl))
  where
    held : (o : Option Block) → is_some o ≡ true → numbers_of (λ (y : Block). y.nodes) (option_map (holding n) o) ≡ numbers_of (λ (y : Block). y.nodes) o ++ n ∷ []
    held None e = cc
    held (Some y) e = refl

    is_touched : (b : Bool) (o : Option Block) → is_some o ≡ true → is_some (if b then option_map (arriving_from n) o else o) ≡ true
    is_touched b None e = cc
    is_touched true (Some y) e = refl
    is_touched false (Some y) e = refl

-- ---- the node

-- an exit that is given its entry
exit_there : (h : FlowGraph) (n : ℕ) (way : Way) (entry : Option ℕ) (x : Node) → h.node n ≡ Some x → x.kind ≡ kind.Exit way None → (pairing n entry h).node n ≡ Some (record x { kind = kind.Exit way entry })
exit_there h n way None x there exit = there ∙ ap (λ (k : NodeKind). Some (record x { kind = k })) exit
exit_there h n way (Some t) x there exit =
    changed_now (leaving_entry t) n (changed (left_by_exit n) t h.node)
    ∙ ap (option_map (leaving_entry t)) (itself (n == t))
    ∙ ap (λ (k : NodeKind). Some (record x { kind = naming_entry t k })) exit
  where
    itself : (b : Bool) → (if b then option_map (left_by_exit n) (h.node n) else h.node n) ≡ Some x
    itself true =
        ap (option_map (left_by_exit n)) there
        ∙ ap (λ (k : NodeKind). Some (record x { kind = naming_exit n k })) exit
        ∙ ap (λ (k : NodeKind). Some (record x { kind = k })) (sym exit)
    itself false = there

delivered_there : (h : FlowGraph) (n : ℕ) (to : Option ℕ) (x : Node) → h.node n ≡ Some x → x.cont ≡ None → (delivering n to h).node n ≡ Some (record x { cont = to })
delivered_there h n None x there none = there ∙ ap (λ (k : Option ℕ). Some (record x { cont = k })) none
delivered_there h n (Some k) x there none = changed_now (delivering_to k) n h.node ∙ ap (option_map (delivering_to k)) there

-- ---- its place

last_of : (xs : List ℕ) (n : ℕ) → slice_get (xs ++ n ∷ []) (length xs) ≡ Some n
last_of [] n = refl
last_of (x ∷ xs) n = last_of xs n

length_more : (xs : List ℕ) (n : ℕ) → length (xs ++ n ∷ []) ≡ suc (length xs)
length_more [] n = refl
length_more (x ∷ xs) n = ap suc (length_more xs n)

-- a node that was added
abbrev pub bare_node : NodeKind → ℕ → Place → Charges → Node
bare_node k block place c = record { kind = k; cont = None; block = block; place = place; charges = c }

-- it was added to graph a, and in graph b is joined to its entry and to its continuation, and of kind j
module _ (a b : Built) (n : ℕ) (k j : NodeKind) (place : Place) (c : Charges) (entry to : Option ℕ)
    (vacant : (graph a).node n ≡ None) (live : is_some ((graph a).block a.block) ≡ true) (none : blocks_after (graph a) a.block ≡ [])
    (block_is : b.block ≡ a.block) (fresh_is : b.fresh ≡ a.fresh)
    (is : graph b ≡ delivering n to (pairing n entry (with_node n (bare_node k a.block place c) (graph a))))
    (there : (graph b).node n ≡ Some (record { kind = j; cont = to; block = a.block; place = place; charges = c })) where
  rest : SameRest (with_node n (bare_node k a.block place c) (graph a)) (delivering n to (pairing n entry (with_node n (bare_node k a.block place c) (graph a))))
  rest = joined_rest n entry to (with_node n (bare_node k a.block place c) (graph a))

  pub joined_grown : Grown a b
  joined_grown =
      record {
        later = later_at _ _ _ is (node_later (graph a) n (bare_node k a.block place c) vacant none entry to);
        form = form_at _ _ _ is rest.form.size rest.form.copies rest.form.lambdas rest.form.code rest.form.defines;
        fresh = omega arith;
      }

  nodes_are : nodes_in (graph b) a.block ≡ nodes_in (graph a) a.block ++ n ∷ []
  nodes_are =
      ap (λ (g : FlowGraph). nodes_in g a.block) is
      ∙ ap (λ (m : ℕ → Option Block). numbers_of (λ (y : Block). y.nodes) (m a.block)) rest.block
      ∙ node_last (graph a) n (bare_node k a.block place c) live

  pub joined_next : spot b ≡ next (spot a)
  joined_next = spot_is b a.block _ block_is nodes_are ∙ ap (λ (i : ℕ). record { block = a.block; index = i }) (length_more (nodes_in (graph a) a.block) n)

  pub joined_here : Here (graph b) (spot a) j to place c.cost (passes_of c)
  joined_here = (
    a.block,
    ap (λ (ns : List ℕ). named (graph b).node (slice_get ns (length (nodes_in (graph a) a.block)))) nodes_are
        ∙ ap (named (graph b).node) (last_of (nodes_in (graph a) a.block) n)
        ∙ there,
  )

-- ---- nodes and exits

pub new_node : (a m b : Built) (n : ℕ) (k : NodeKind) (to : Option ℕ) (place : Place) (c : Charges) → AddsNode (bare_node k a.block place c) a m n → Becomes (delivering n to) m b → NewNode k to place c a b n
new_node a m b n k to place c adds joined =
    let block_is : b.block ≡ a.block = joined.block ∙ adds.becomes.block in
    let fresh_is : b.fresh ≡ a.fresh = joined.fresh ∙ adds.becomes.fresh in
    let is : graph b ≡ delivering n to (with_node n (bare_node k a.block place c) (graph a)) = joined.is ∙ ap (delivering n to) adds.becomes.is in
    let there : (graph b).node n ≡ Some (record { kind = k; cont = to; block = a.block; place = place; charges = c }) =
    ap (λ (g : FlowGraph). g.node n) is ∙ delivered_there _ n to (bare_node k a.block place c) (entry_now (graph a).node n _) refl in
    record {
      grown = joined_grown a b n k k place c None to adds.vacant adds.live adds.after block_is fresh_is is there;
      next = joined_next a b n k k place c None to adds.vacant adds.live adds.after block_is fresh_is is there;
      stands = here_lasts (graph b) (spot a) k to place c.cost (passes_of c) (joined_here a b n k k place c None to adds.vacant adds.live adds.after block_is fresh_is is there);
      under = λ h later. let y = later.nodes n _ there in (y.0, y.1, y.2.kind);
    }

pub new_exit : (a m l b : Built) (n : ℕ) (way : Way) (entry to : Option ℕ) (place : Place) (c : Charges) → AddsNode (bare_node (kind.Exit way None) a.block place c) a m n → Becomes (pairing n entry) m l → Becomes (delivering n to) l b → NewExit way entry to place c a b
new_exit a m l b n way entry to place c adds paired_too joined =
    let block_is : b.block ≡ a.block = joined.block ∙ paired_too.block ∙ adds.becomes.block in
    let fresh_is : b.fresh ≡ a.fresh = joined.fresh ∙ paired_too.fresh ∙ adds.becomes.fresh in
    let is : graph b ≡ delivering n to (pairing n entry (with_node n (bare_node (kind.Exit way None) a.block place c) (graph a))) =
    joined.is ∙ ap (delivering n to) (paired_too.is ∙ ap (pairing n entry) adds.becomes.is) in
    let there : (graph b).node n ≡ Some (record { kind = kind.Exit way entry; cont = to; block = a.block; place = place; charges = c }) =
    ap (λ (g : FlowGraph). g.node n) is
    ∙ delivered_there _ n to (bare_node (kind.Exit way entry) a.block place c) (exit_there _ n way entry (bare_node (kind.Exit way None) a.block place c) (entry_now (graph a).node n _) refl) refl in
    record {
      grown = joined_grown a b n (kind.Exit way None) (kind.Exit way entry) place c entry to adds.vacant adds.live adds.after block_is fresh_is is there;
      next = joined_next a b n (kind.Exit way None) (kind.Exit way entry) place c entry to adds.vacant adds.live adds.after block_is fresh_is is there;
      stands = here_stays (graph b) (spot a) (kind.Exit way entry) to place c.cost (passes_of c) (λ j same. same)
          (joined_here a b n (kind.Exit way None) (kind.Exit way entry) place c entry to adds.vacant adds.live adds.after block_is fresh_is is there);
    }

-- ---- as the calls tell it

pub exit_told : {E : Type 0} (a m l b : Built) (r : Result (Unit {0}) E) (n : ℕ) (way : Way) (entry to : Option ℕ) (place : Place) (c : Charges) → AddsNode (bare_node (kind.Exit way None) a.block place c) a m n → Becomes (pairing n entry) m l → OnOk r (Becomes (delivering n to) l b) → OnOk r (NewExit way entry to place c a b)
exit_told a m l b (Ok u) n way entry to place c adds paired_too joined = new_exit a m l b n way entry to place c adds paired_too joined
exit_told a m l b (Err e) n way entry to place c adds paired_too joined = tt
