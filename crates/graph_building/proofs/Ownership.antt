-- Each edit keeps it that each block belongs to one function. (This project's own.)
use Rattle.std.proofs.Common.{◌≡◌, ◌≢◌, ◌⊎◌, ℕ, Bool, true, false, ◌==◌, ◌||◌, List, [], ◌∷◌, ◌++◌, Option, Some, None, zero, suc, ne_eqb, option_map, refl, sym, ap, subst, ◌∙◌, inl, inr}
use Rattle.std.specs.Prelude.{slice_get, Result, Ok, Err, IfOk, OnErr}
use Rattle.std.proofs.lemmas.Bool.{cases_eq, false≢true}
use Rattle.ir_ids.specs.Entries.{with_entry}
use Rattle.icr_graph.specs.declared.nodes.Node.{Node}
use Rattle.icr_graph.specs.declared.nodes.NodeKind.{NodeKind}
use Rattle.icr_graph.specs.declared.nodes.NodeKind.TheVariants as kind
use Rattle.icr_graph.specs.declared.parts.Block.{Block}
use Rattle.icr_graph.specs.declared.parts.Defined.{Defined}
use Rattle.icr_graph.specs.declared.parts.Function.{Function}
use Rattle.icr_graph.specs.Lists.{has_number, numbers_of, changed}
use Rattle.icr_graph.specs.Kinds.{arrivals_of}
use Rattle.icr_graph.specs.Faults.{link_fault}
use Rattle.icr_graph.specs.Edits.{linked}
use Rattle.icr_graph.specs.Building.{with_block, with_function, with_node, delivering_to, delivered, beginning_at, naming_entry, naming_exit, leaving_entry, left_by_exit, paired}
use Rattle.icr_graph.specs.Plain.{FlowGraph, graph_of, blocks_after, block_of, entries_of, arrivals_at}
use Rattle.graph_building.specs.Steps.{with_code_at}
use Rattle.graph_building.specs.Orderly.{OneFunction, SameOwner, AllOwned, Owned, MoreOwners}
use Rattle.graph_building.proofs.Entries.{entry_now, entry_other, changed_now, changed_other, changed_reads, entry_reads}
use Rattle.graph_building.proofs.Parts.{nothing, block_after, code_after, linked_after, linked_after_other}
use Rattle.graph_building.proofs.NewNodes.{node_after}

-- ---- what an edit keeps

-- entries, edges and arrivals are the same
pub record SameOwned (g h : FlowGraph) : Type 0 where
  pub entries : (f : ℕ) → entries_of h f ≡ entries_of g f
  pub edges : (b : ℕ) → blocks_after h b ≡ blocks_after g b
  pub places : (n : ℕ) → block_of h n ≡ block_of g n
  pub arrivals : (n : ℕ) → arrivals_at h n ≡ arrivals_at g n

-- a number in one list is in another that equals it
moved_in : (b : ℕ) (xs ys : List ℕ) → xs ≡ ys → has_number b xs ≡ true → has_number b ys ≡ true
moved_in b xs ys same has = ap (has_number b) (sym same) ∙ has

pub owned_kept : (owners : List ℕ) (g h : FlowGraph) → SameOwned g h → Owned owners g → Owned owners h
owned_kept owners g h same owned =
    record {
      entries = λ f b has. owned.entries f b (moved_in b _ _ (same.entries f) has);
      edges = λ b c has. owned.edges b c (moved_in c _ _ (same.edges b) has);
      arrivals = λ n b c at has. owned.arrivals n b c (moved_in b _ _ (same.places n) at) (moved_in c _ _ (same.arrivals n) has);
    }

pub owned_at : (owners : List ℕ) (g h : FlowGraph) → h ≡ g → Owned owners g → Owned owners h
owned_at owners g h same owned = subst (Owned owners) (sym same) owned

pub owned_stays : {T E : Type 0} (r : Result T E) (owners : List ℕ) (g h : FlowGraph) (edited : T → FlowGraph) → ((x : T) → Owned owners (edited x)) → IfOk r (λ x. h ≡ edited x) → OnErr r (h ≡ g) → Owned owners g → Owned owners h
owned_stays (Ok x) owners g h edited kept is same owned = owned_at owners (edited x) h is (kept x)
owned_stays (Err e) owners g h edited kept is same owned = owned_at owners g h same owned

-- ---- owners

same_owner_more : (old new : List ℕ) → MoreOwners old new → (b c : ℕ) → SameOwner old b c → SameOwner new b c
same_owner_more old new more b c same = (same.0, more b same.0 same.1, more c same.0 same.2)

pub owned_more : (old new : List ℕ) (g : FlowGraph) → MoreOwners old new → Owned old g → Owned new g
owned_more old new g more owned =
    record {
      entries = λ f b has. more b f (owned.entries f b has);
      edges = λ b c has. same_owner_more old new more b c (owned.edges b c has);
      arrivals = λ n b c at has. same_owner_more old new more b c (owned.arrivals n b c at has);
    }

pub one_owner_more : (owners : List ℕ) (n : ℕ) → MoreOwners owners (owners ++ n ∷ [])
one_owner_more [] n b f e = cc
one_owner_more (x ∷ xs) n zero f e = e
one_owner_more (x ∷ xs) n (suc b) f e = one_owner_more xs n b f e

-- ---- numbers in lists

one_number : (b n : ℕ) → has_number b (n ∷ []) ≡ true → b ≡ n
one_number b n has = by_case (cases_eq n b)
  where
    by_case : (n ≡ b) ⊎ (n ≢ b) → b ≡ n
    by_case (inl same) = sym same
    by_case (inr other) = absurd (false≢true (sym (ap (λ (x : Bool). x || false) (ne_eqb n b other)) ∙ has))

old_or_new : (c to : ℕ) (xs : List ℕ) → has_number c (xs ++ to ∷ []) ≡ true → (has_number c xs ≡ true) ⊎ (c ≡ to)
old_or_new c to [] has = inr (one_number c to has)
old_or_new c to (x ∷ xs) has = by_case (x == c) has (old_or_new c to xs)
  where
    by_case : (b : Bool) → (b || has_number c (xs ++ to ∷ [])) ≡ true → (has_number c (xs ++ to ∷ []) ≡ true → (has_number c xs ≡ true) ⊎ (c ≡ to)) → ((b || has_number c xs) ≡ true) ⊎ (c ≡ to)
    by_case true e rest = inl refl
    by_case false e rest = rest e

-- ---- each edit

pub others_owned : (g h : FlowGraph) → h.function ≡ g.function → h.block ≡ g.block → h.node ≡ g.node → SameOwned g h
others_owned g h functions blocks nodes =
    record {
      entries = λ f. ap (λ (m : ℕ → Option Function). numbers_of (λ (x : Function). x.entries) (m f)) functions;
      edges = λ b. ap (λ (m : ℕ → Option Block). numbers_of (λ (x : Block). x.after) (m b)) blocks;
      places = λ n. ap (λ (m : ℕ → Option Node). numbers_of (λ (x : Node). x.block ∷ []) (m n)) nodes;
      arrivals = λ n. ap (λ (m : ℕ → Option Node). numbers_of (λ (x : Node). arrivals_of x.kind) (m n)) nodes;
    }

pub block_owned : (g : FlowGraph) (n : ℕ) → g.block n ≡ None → SameOwned g (with_block n g)
block_owned g n vacant = record { entries = λ f. refl; edges = λ b. block_after g n b vacant; places = λ m. refl; arrivals = λ m. refl }

pub function_owned : (g : FlowGraph) (f : ℕ) (function : Function) → g.function f ≡ None → function.entries ≡ [] → SameOwned g (with_function f function g)
function_owned g f function vacant none =
    record { entries = λ h. entry_reads (λ (x : Function). x.entries) g.function f function h vacant none; edges = λ b. refl; places = λ n. refl; arrivals = λ n. refl }

-- a function whose code doesn't begin yet, and a block
pub block_and_function_owned : (owners : List ℕ) (g m h : FlowGraph) (f n : ℕ) (function : Function) → g.function f ≡ None → function.entries ≡ [] → m ≡ with_function f function g → m.block n ≡ None → h ≡ with_block n m → Owned owners g → Owned owners h
block_and_function_owned owners g m h f n function vacant none function_is no_block is owned =
    owned_at owners (with_block n m) h is (owned_kept owners m (with_block n m) (block_owned m n no_block)
    (owned_at owners (with_function f function g) m function_is (owned_kept owners g (with_function f function g) (function_owned g f function vacant none) owned)))

pub delivery_owned : (g : FlowGraph) (n k : ℕ) → SameOwned g (delivered n k g)
delivery_owned g n k =
    record {
      entries = λ f. refl;
      edges = λ b. refl;
      places = λ m. changed_reads (λ (x : Node). x.block ∷ []) (delivering_to k) n g.node m (λ x. refl);
      arrivals = λ m. changed_reads (λ (x : Node). arrivals_of x.kind) (delivering_to k) n g.node m (λ x. refl);
    }

pub pair_owned : (g : FlowGraph) (exit entry : ℕ) → SameOwned g (paired exit entry g)
pair_owned g exit entry =
    record {
      entries = λ f. refl;
      edges = λ b. refl;
      places = λ m.
          changed_reads (λ (x : Node). x.block ∷ []) (leaving_entry entry) exit (changed (left_by_exit exit) entry g.node) m (λ x. refl)
          ∙ changed_reads (λ (x : Node). x.block ∷ []) (left_by_exit exit) entry g.node m (λ x. refl);
      arrivals = λ m.
          changed_reads (λ (x : Node). arrivals_of x.kind) (leaving_entry entry) exit (changed (left_by_exit exit) entry g.node) m (λ x. with_entry_named x.kind)
          ∙ changed_reads (λ (x : Node). arrivals_of x.kind) (left_by_exit exit) entry g.node m (λ x. with_exit_named x.kind);
    }
  where
    with_entry_named : (k : NodeKind) → arrivals_of (naming_entry entry k) ≡ arrivals_of k
    with_entry_named (kind.Exit way e) = refl
    with_entry_named k = refl

    with_exit_named : (k : NodeKind) → arrivals_of (naming_exit exit k) ≡ arrivals_of k
    with_exit_named (kind.Entry x exits) = refl
    with_exit_named k = refl

-- a function whose code begins at a new block, which belongs to it
pub code_owned : (owners : List ℕ) (g : FlowGraph) (f n : ℕ) (function : Function) → g.block n ≡ None → g.function f ≡ None → function.entries ≡ [] → slice_get owners n ≡ Some f → Owned owners g → Owned owners (with_code_at f n function g)
code_owned owners g f n function vacant no_function none owner owned =
    record {
      entries = λ h b. by_case h b (cases_eq h f);
      edges = λ b c has. owned.edges b c (moved_in c _ _ (code_after g f n function b vacant) has);
      arrivals = owned.arrivals;
    }
  where
    entered : entries_of (with_code_at f n function g) f ≡ n ∷ []
    entered =
        ap (numbers_of (λ (x : Function). x.entries)) (changed_now (beginning_at n) f (with_entry g.function f (Some function)) ∙ ap (option_map (beginning_at n)) (entry_now g.function f (Some function)))
        ∙ ap (λ (entries : List ℕ). entries ++ n ∷ []) none

    by_case : (h b : ℕ) → (h ≡ f) ⊎ (h ≢ f) → has_number b (entries_of (with_code_at f n function g) h) ≡ true → slice_get owners b ≡ Some h
    by_case h b (inl same) has =
        let at : b ≡ n = one_number b n (moved_in b _ _ (ap (entries_of (with_code_at f n function g)) same ∙ entered) has) in
        ap (slice_get owners) at ∙ owner ∙ ap Some (sym same)
    by_case h b (inr other) has =
        owned.entries h b (moved_in b _ _ (ap (numbers_of (λ (x : Function). x.entries)) (changed_other (beginning_at n) f (with_entry g.function f (Some function)) h other ∙ entry_other g.function f h (Some function) other)) has)

-- a node, of whose block the owner is that of each at which exits arrive
pub node_owned : (owners : List ℕ) (g : FlowGraph) (n : ℕ) (nd : Node) → AllOwned owners nd.block (arrivals_of nd.kind) → Owned owners g → Owned owners (with_node n nd g)
node_owned owners g n nd arrive owned =
    record {
      entries = owned.entries;
      edges = λ b c has. owned.edges b c (moved_in c _ _ (node_after g n nd b) has);
      arrivals = λ m b c. by_case m b c (cases_eq m n);
    }
  where
    h : FlowGraph
    h = with_node n nd g

    by_case : (m b c : ℕ) → (m ≡ n) ⊎ (m ≢ n) → has_number b (block_of h m) ≡ true → has_number c (arrivals_at h m) ≡ true → SameOwner owners b c
    by_case m b c (inl same) at has =
        let there : h.node m ≡ Some nd = ap h.node same ∙ entry_now g.node n (Some nd) in
        let block : b ≡ nd.block = one_number b nd.block (moved_in b _ _ (ap (numbers_of (λ (x : Node). x.block ∷ [])) there) at) in
        subst (λ (d : ℕ). SameOwner owners d c) (sym block) (arrive c (moved_in c _ _ (ap (numbers_of (λ (x : Node). arrivals_of x.kind)) there) has))
    by_case m b c (inr other) at has =
        let there : h.node m ≡ g.node m = entry_other g.node n m (Some nd) other in
        owned.arrivals m b c (moved_in b _ _ (ap (numbers_of (λ (x : Node). x.block ∷ [])) there) at) (moved_in c _ _ (ap (numbers_of (λ (x : Node). arrivals_of x.kind)) there) has)

-- an edge from a block between two that belong to one function
pub linked_owned : (owners : List ℕ) (g : FlowGraph) (from to : ℕ) → link_fault g from to ≡ None → SameOwner owners from to → Owned owners g → Owned owners (linked from to g)
linked_owned owners g from to allowed same_owner owned =
    record {
      entries = owned.entries;
      edges = λ b c. by_case b c (cases_eq b from);
      arrivals = owned.arrivals;
    }
  where
    h : FlowGraph
    h = linked from to g

    of_from : (c : ℕ) → (has_number c (blocks_after g from) ≡ true) ⊎ (c ≡ to) → SameOwner owners from c
    of_from c (inl old) = owned.edges from c old
    of_from c (inr new) = subst (SameOwner owners from) (sym new) same_owner

    by_case : (b c : ℕ) → (b ≡ from) ⊎ (b ≢ from) → has_number c (blocks_after h b) ≡ true → SameOwner owners b c
    by_case b c (inl same) has =
        subst (λ (d : ℕ). SameOwner owners d c) (sym same) (of_from c (old_or_new c to (blocks_after g from) (moved_in c _ _ (ap (blocks_after h) same ∙ linked_after g from to allowed) has)))
    by_case b c (inr other) has = owned.edges b c (moved_in c _ _ (linked_after_other g from to b other) has)

-- ---- lists of blocks

pub no_block_owned : (owners : List ℕ) (b : ℕ) → AllOwned owners b []
no_block_owned owners b c has = cc

pub one_more_owned : (owners : List ℕ) (b d : ℕ) (cs : List ℕ) → SameOwner owners b d → AllOwned owners b cs → AllOwned owners b (d ∷ cs)
one_more_owned owners b d cs same all c = by_case (cases_eq d c)
  where
    by_case : (d ≡ c) ⊎ (d ≢ c) → has_number c (d ∷ cs) ≡ true → SameOwner owners b c
    by_case (inl at) has = subst (SameOwner owners b) at same
    by_case (inr other) has = all c (sym (ap (λ (x : Bool). x || has_number c cs) (ne_eqb d c other)) ∙ has)

-- ---- a graph that is begun, and one that is built

pub nothing_owned : (size copies : ℕ) (defines : Option Defined) → Owned [] (graph_of (nothing size copies defines))
nothing_owned size copies defines = record { entries = λ f b has. cc; edges = λ b c has. cc; arrivals = λ n b c at has. cc }

-- the function that is listed for a block, where there is one
abbrev owner_or : Option ℕ → ℕ
owner_or None = 0
owner_or (Some f) = f

pub one_function : (owners : List ℕ) (g : FlowGraph) → Owned owners g → OneFunction g
one_function owners g owned =
    record {
      owner = λ b. owner_or (slice_get owners b);
      entries = λ f b has. ap owner_or (owned.entries f b has);
      edges = λ b c has. let same = owned.edges b c has in ap owner_or (same.2 ∙ sym same.1);
      arrivals = λ n b c at has. let same = owned.arrivals n b c at has in ap owner_or (same.2 ∙ sym same.1);
    }
