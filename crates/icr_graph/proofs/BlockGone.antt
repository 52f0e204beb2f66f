-- A block is gone, with its nodes and every link to them.
use Rattle.std.proofs.Common.{◌≡◌, ◌≢◌, ◌⊎◌, ℕ, Bool, true, false, not, ◌&&◌, ◌||◌, ◌==◌, ◌+◌, ◌<◌, List, [], ◌∷◌, ◌++◌, take, length, get_or, Option, Some, None, option_map, is_some, if◌then◌else◌, refl, sym, ap, ◌∙◌, subst, inl, inr, eq-eqb, ne_eqb}
use Rattle.std.specs.List.{list_any, list_all}
use Rattle.std.proofs.Math.Path.{fun_ext}
use Rattle.std.proofs.lemmas.Bool.{cases_eq}
use Rattle.std.proofs.lemmas.List.{take_more}
use Rattle.ir_ids.specs.Entries.{with_entry}
use Rattle.icr_graph.specs.declared.parts.Block.{Block}
use Rattle.icr_graph.specs.Lists.{has_number, are_distinct, without, listed, numbers_of, changed, touched, each}
use Rattle.icr_graph.specs.Plain.{FlowGraph, nodes_in, arriving_at, entered_by, blocks_before, blocks_after}
use Rattle.icr_graph.specs.Whole.{Mutual, IsWhole}
use Rattle.icr_graph.specs.Edits.{not_preceded_by, not_beside, not_holding, no_arrival_of, without_node, without_nodes, without_block}
use Rattle.icr_graph.specs.Faults.{has_other_before, is_entered, is_empty, is_block, delete_fault}
use Rattle.icr_graph.specs.Removal.{IsFree}
use Rattle.icr_graph.proofs.Maps.{same_number, swapped, or_false, and_false, and_true, has_without}
use Rattle.icr_graph.proofs.Touched.{touched_all, without_none}
use Rattle.icr_graph.proofs.NodeGone.{and_swap}
use Rattle.icr_graph.proofs.Allowed.{passed}

-- ---- nodes one after another

pub without_last : (ns : List ℕ) (n : ℕ) (g : FlowGraph) → without_nodes (ns ++ n ∷ []) g ≡ without_node n (without_nodes ns g)
without_last [] n g = refl
without_last (m ∷ ms) n g = without_last ms n (without_node m g)

pub without_step : (ns : List ℕ) (i n : ℕ) (g : FlowGraph) → i < length ns → n ≡ get_or ns i n → without_node n (without_nodes (take i ns) g) ≡ without_nodes (take (i + 1) ns) g
without_step ns i n g within is =
    sym (without_last (take i ns) n g) ∙ ap (λ (xs : List ℕ). without_nodes xs g) (sym (take_more ns i n within ∙ ap (λ (x : ℕ). take i ns ++ x ∷ []) (sym is)))

-- ---- what is left in the block

withouts : List ℕ → List ℕ → List ℕ
withouts [] xs = xs
withouts (n ∷ ns) xs = withouts ns (without n xs)

nodes_less : (n : ℕ) (g : FlowGraph) (b : ℕ) → nodes_in (without_node n g) b ≡ without n (nodes_in g b)
nodes_less n g b = by_case (g.block b)
  where
    by_case : (o : Option Block) → numbers_of (λ x. x.nodes) (option_map (not_holding n) (option_map (no_arrival_of n) o)) ≡ without n (numbers_of (λ x. x.nodes) o)
    by_case None = refl
    by_case (Some v) = refl

nodes_left : (ns : List ℕ) (g : FlowGraph) (b : ℕ) → nodes_in (without_nodes ns g) b ≡ withouts ns (nodes_in g b)
unfolding withouts
nodes_left [] g b = refl
nodes_left (n ∷ ns) g b = nodes_left ns (without_node n g) b ∙ ap (withouts ns) (nodes_less n g b)

has_withouts : (ns xs : List ℕ) (c : ℕ) → has_number c (withouts ns xs) ≡ (has_number c xs && not (has_number c ns))
unfolding withouts
has_withouts [] xs c = sym (and_true (has_number c xs))
has_withouts (n ∷ ns) xs c = has_withouts ns (without n xs) c ∙ (rw (has_without c n xs, swapped c n) (alike (has_number c xs) (n == c) (has_number c ns)))
  where
    alike : (h t r : Bool) → ((h && not t) && not r) ≡ (h && not (t || r))
    alike true true r = refl
    alike true false r = refl
    alike false t r = refl

nothing_in : (xs : List ℕ) → ((c : ℕ) → has_number c xs ≡ false) → xs ≡ []
nothing_in [] h = refl
nothing_in (x ∷ xs) h = absurd_of (sym (ap (λ (t : Bool). t || has_number x xs) (same_number x)) ∙ h x)
  where
    absurd_of : true ≡ false → x ∷ xs ≡ []
    absurd_of e = cc

pub none_left : (g : FlowGraph) (b : ℕ) → nodes_in (without_nodes (nodes_in g b) g) b ≡ []
none_left g b = nodes_left (nodes_in g b) g b ∙ nothing_in (withouts (nodes_in g b) (nodes_in g b)) (λ c. has_withouts (nodes_in g b) (nodes_in g b) c ∙ never (has_number c (nodes_in g b)))
  where
    never : (h : Bool) → (h && not h) ≡ false
    never true = refl
    never false = refl

-- what the nodes don't touch
same_block : (p : Block → List ℕ) → ((n : ℕ) (v : Block) → p (not_holding n (no_arrival_of n v)) ≡ p v) → (ns : List ℕ) (g : FlowGraph) (b : ℕ) → numbers_of p ((without_nodes ns g).block b) ≡ numbers_of p (g.block b)
same_block p same [] g b = refl
same_block p same (n ∷ ns) g b = same_block p same ns (without_node n g) b ∙ by_case (g.block b)
  where
    by_case : (o : Option Block) → numbers_of p (option_map (not_holding n) (option_map (no_arrival_of n) o)) ≡ numbers_of p o
    by_case None = refl
    by_case (Some v) = same n v

still_unreached : (ns : List ℕ) (g : FlowGraph) (b : ℕ) → arriving_at g b ≡ [] → arriving_at (without_nodes ns g) b ≡ []
still_unreached [] g b h = h
still_unreached (n ∷ ns) g b h = still_unreached ns (without_node n g) b (by_case (g.block b) h)
  where
    by_case : (o : Option Block) → numbers_of (λ x. x.arriving) o ≡ [] → numbers_of (λ x. x.arriving) (option_map (not_holding n) (option_map (no_arrival_of n) o)) ≡ []
    by_case None e = refl
    by_case (Some v) e = ap (without n) e

-- ---- the block alone

gone_kept : (p : Block → List ℕ) (F : Block → Block) (m : ℕ → Option Block) (b : ℕ) → ((v : Block) → p (F v) ≡ p v) → numbers_of p (m b) ≡ [] → (c : ℕ) → numbers_of p (with_entry (each F m) b None c) ≡ numbers_of p (m c)
gone_kept p F m b same none c = by_case (cases_eq c b)
  where
    other : (o : Option Block) → numbers_of p (option_map F o) ≡ numbers_of p o
    other None = refl
    other (Some v) = same v

    by_case : (c ≡ b) ⊎ (c ≢ b) → numbers_of p (with_entry (each F m) b None c) ≡ numbers_of p (m c)
    by_case (inl is) = rw (is, same_number b) (sym none)
    by_case (inr is_not) = rw (ne_eqb c b is_not) (other (m c))

between_blocks : (p : Block → List ℕ) (F : Block → Block) (m : ℕ → Option Block) (n : ℕ) → ((v : Block) → p (F v) ≡ without n (p v)) → (a c : ℕ) → has_number c (numbers_of p (with_entry (each F m) n None a)) ≡ ((has_number c (numbers_of p (m a)) && not (c == n)) && not (a == n))
between_blocks p F m n less a c = by_case (a == n) (m a)
  where
    by_case : (b : Bool) (o : Option Block) → has_number c (numbers_of p (if b then None else option_map F o)) ≡ ((has_number c (numbers_of p o) && not (c == n)) && not b)
    by_case true o = sym (and_false (has_number c (numbers_of p o) && not (c == n)))
    by_case false None = refl
    by_case false (Some v) = ap (has_number c) (less v) ∙ (has_without c n (p v) ∙ sym (and_true (has_number c (p v) && not (c == n))))

module _ (g : FlowGraph) (b : ℕ) (free : IsFree g b) (w : IsWhole g) where
  pub without_block_whole : IsWhole (without_block b g)
  without_block_whole =
      record {
        edges = λ a c. between_blocks (λ x. x.after) (not_beside b) g.block b (λ v. refl) a c ∙ (ap (λ (t : Bool). (t && not (c == b)) && not (a == b)) (w.edges a c) ∙ (and_swap (has_number a (blocks_before g c)) (not (c == b)) (not (a == b)) ∙ sym (between_blocks (λ x. x.before) (not_beside b) g.block b (λ v. refl) c a)));
        places = λ a c. w.places a c ∙ ap (has_number a) (sym (gone_kept (λ x. x.nodes) (not_beside b) g.block b (λ v. refl) free.nodes c));
        distinct = λ c. ap are_distinct (gone_kept (λ x. x.nodes) (not_beside b) g.block b (λ v. refl) free.nodes c) ∙ w.distinct c;
        uses = w.uses;
        operands = w.operands;
        arrivals = λ a c. w.arrivals a c ∙ ap (has_number a) (sym (gone_kept (λ x. x.arriving) (not_beside b) g.block b (λ v. refl) free.arriving c));
        exits = w.exits;
        entries = λ a c. w.entries a c ∙ ap (has_number a) (sym (gone_kept (λ x. listed x.entry_of) (not_beside b) g.block b (λ v. refl) free.entered c));
        variables = w.variables;
        functions = w.functions;
        parameters = w.parameters;
        closed = w.closed;
        lambdas = w.lambdas;
        code = w.code;
      }

  -- a block that is not this one doesn't come before it
  not_before : (x : ℕ) → x ≢ b → has_number x (blocks_before g b) ≡ false
  not_before x other = search_in (blocks_before g b) free.before
    where
      search_in : (xs : List ℕ) → list_any (λ c. not (c == b)) xs ≡ false → has_number x xs ≡ false
      search_in [] h = refl
      search_in (y ∷ ys) h = by_case (cases_eq y b) h (search_in ys)
        where
          by_case : (y ≡ b) ⊎ (y ≢ b) → (not (y == b) || list_any (λ c. not (c == b)) ys) ≡ false → (list_any (λ c. not (c == b)) ys ≡ false → has_number x ys ≡ false) → ((y == x) || has_number x ys) ≡ false
          by_case (inl is) e ih = rw (is, ne_eqb b x (λ q. other (sym q))) (ih (rw (is, same_number b) at e))
          by_case (inr is_not) e ih = absurd_of (rw (ne_eqb y b is_not) at e)
            where
              absurd_of : true ≡ false → ((y == x) || has_number x ys) ≡ false
              absurd_of q = cc

  pub block_out : touched (blocks_after g b) (not_preceded_by b) (with_entry g.block b None) ≡ with_entry (each (not_beside b) g.block) b None
  block_out = touched_all (not_preceded_by b) (with_entry g.block b None) (blocks_after g b) same ∙ fun_ext (λ x. by_case x (cases_eq x b) (g.block x) refl)
    where
      was_there : (x : ℕ) (v : Block) → with_entry g.block b None x ≡ Some v → g.block x ≡ Some v
      was_there x v h = there (x == b) (g.block x) h
        where
          there : (t : Bool) (o : Option Block) → (if t then None else o) ≡ Some v → o ≡ Some v
          there true o e = cc
          there false o e = e

      same : (x : ℕ) (v : Block) → with_entry g.block b None x ≡ Some v → has_number x (blocks_after g b) ≡ false → not_preceded_by b v ≡ v
      same x v there none =
          let before : has_number b v.before ≡ false =
          ap (λ (o : Option Block). has_number b (numbers_of (λ (y : Block). y.before) o)) (sym (was_there x v there)) ∙ (sym (w.edges b x) ∙ none) in
          ap (λ (xs : List ℕ). record v { before = xs }) (without_none b v.before before)

      by_case : (x : ℕ) → (x ≡ b) ⊎ (x ≢ b) → (o : Option Block) → g.block x ≡ o → each (not_preceded_by b) (with_entry g.block b None) x ≡ with_entry (each (not_beside b) g.block) b None x
      by_case x (inl is) o at = rw (is, same_number b) refl
      by_case x (inr is_not) None at = rw (ne_eqb x b is_not, at) refl
      by_case x (inr is_not) (Some v) at =
          let after : has_number b v.after ≡ false =
          ap (λ (p : Option Block). has_number b (numbers_of (λ (y : Block). y.after) p)) (sym at) ∙ (w.edges x b ∙ not_before x is_not) in
          rw (ne_eqb x b is_not, at) (ap (λ (xs : List ℕ). Some (record v { before = without b v.before; after = xs })) (sym (without_none b v.after after)))

-- ---- where a block may be deleted

still_block : (ns : List ℕ) (g : FlowGraph) (b : ℕ) → is_block (without_nodes ns g) b ≡ is_block g b
still_block [] g b = refl
still_block (n ∷ ns) g b = still_block ns (without_node n g) b ∙ by_case (g.block b)
  where
    by_case : (o : Option Block) → is_some (option_map (not_holding n) (option_map (no_arrival_of n) o)) ≡ is_some o
    by_case None = refl
    by_case (Some v) = refl

pub delete_allowed : (g : FlowGraph) (b : ℕ) → delete_fault g b ≡ None → (is_block (without_nodes (nodes_in g b) g) b ≡ true) × IsFree (without_nodes (nodes_in g b) g) b
delete_allowed g b h =
    let first = passed (not (is_block g b)) _ _ h in
    let second = passed (has_other_before g b || is_entered g b) _ _ first.1 in
    let parts = neither (has_other_before g b) (is_entered g b) second.0 in
    let entered = neither (not (is_empty (entered_by g b))) (not (is_empty (arriving_at g b))) parts.1 in (
      still_block (nodes_in g b) g b ∙ live (is_block g b) first.0,
      record {
        nodes = none_left g b;
        before = ap (list_any (λ c. not (c == b))) (same_block (λ x. x.before) (λ n v. refl) (nodes_in g b) g b) ∙ parts.0;
        arriving = still_unreached (nodes_in g b) g b (empty (arriving_at g b) entered.1);
        entered = same_block (λ x. listed x.entry_of) (λ n v. refl) (nodes_in g b) g b ∙ empty (entered_by g b) entered.0;
      },
    )
  where
    neither : (x y : Bool) → (x || y) ≡ false → (x ≡ false) × (y ≡ false)
    neither true y e = cc
    neither false y e = (refl, e)

    live : (x : Bool) → not x ≡ false → x ≡ true
    live true e = refl
    live false e = cc

    empty : (xs : List ℕ) → not (is_empty xs) ≡ false → xs ≡ []
    empty [] e = refl
    empty (x ∷ xs) e = cc

-- the block's own edges are all its edges
pub block_gone_is : (g : FlowGraph) (b : ℕ) → IsFree g b → IsWhole g → (x : Block) → g.block b ≡ Some x → record g { block = touched x.after (not_preceded_by b) (with_entry g.block b None) } ≡ without_block b g
block_gone_is g b free w x live =
    ap (λ (m : ℕ → Option Block). record g { block = m })
    (ap (λ (o : Option Block). touched (numbers_of (λ (y : Block). y.after) o) (not_preceded_by b) (with_entry g.block b None)) (sym live) ∙ block_out g b free w)

pub block_gone_whole : (g : FlowGraph) (b : ℕ) → IsFree g b → IsWhole g → (x : Block) → g.block b ≡ Some x → IsWhole (record g { block = touched x.after (not_preceded_by b) (with_entry g.block b None) })
block_gone_whole g b free w x live = subst IsWhole (sym (block_gone_is g b free w x live)) (without_block_whole g b free w)
