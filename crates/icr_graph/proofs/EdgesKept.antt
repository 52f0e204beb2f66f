-- A graph in which the edges alone change hangs together where they are mutual again.
use Rattle.std.proofs.Common.{◌≡◌, ℕ, Bool, true, false, not, ◌&&◌, ◌||◌, ◌==◌, ◌-◌, List, [], ◌∷◌, ◌++◌, length, take, Option, Some, None, is_some, refl, sym, ap, ◌∙◌, arith, length-append}
use Rattle.std.proofs.Math.Seq.{take-append_seam}
use Rattle.icr_graph.specs.declared.parts.Block.{Block}
use Rattle.icr_graph.specs.Lists.{has_number, are_distinct, without, listed, numbers_of, changed, but_last}
use Rattle.icr_graph.specs.Plain.{FlowGraph, nodes_in, arriving_at, entered_by}
use Rattle.icr_graph.specs.Whole.{Mutual, IsWhole}
use Rattle.icr_graph.specs.Edits.{followed_by, preceded_by, not_followed_by, not_preceded_by, but_last_after, linked, unlinked}
use Rattle.icr_graph.specs.Faults.{is_block, link_fault}
use Rattle.icr_graph.proofs.Allowed.{link_allowed}
use Rattle.icr_graph.proofs.Maps.{swapped, and_comm, kept, pushed, dropped, still_there, taken_back}

pub with_edges : (g : FlowGraph) (block : ℕ → Option Block) → IsWhole g
    → ((b : ℕ) → numbers_of (λ x. x.nodes) (block b) ≡ nodes_in g b)
    → ((b : ℕ) → numbers_of (λ x. x.arriving) (block b) ≡ arriving_at g b)
    → ((b : ℕ) → numbers_of (λ x. listed x.entry_of) (block b) ≡ entered_by g b)
    → Mutual (λ b. numbers_of (λ x. x.after) (block b)) (λ b. numbers_of (λ x. x.before) (block b))
    → IsWhole (record g { block = block })
with_edges g block w nodes arriving entered edges =
    record {
      edges = edges;
      places = λ a b. w.places a b ∙ ap (has_number a) (sym (nodes b));
      distinct = λ b. ap are_distinct (nodes b) ∙ w.distinct b;
      uses = w.uses;
      operands = w.operands;
      arrivals = λ a b. w.arrivals a b ∙ ap (has_number a) (sym (arriving b));
      exits = w.exits;
      entries = λ a b. w.entries a b ∙ ap (has_number a) (sym (entered b));
      variables = w.variables;
      functions = w.functions;
      parameters = w.parameters;
      closed = w.closed;
      lambdas = w.lambdas;
      code = w.code;
    }

module _ (g : FlowGraph) (from to : ℕ) (F G : Block → Block) where
  -- what neither change touches
  both_kept : (p : Block → List ℕ) → ((v : Block) → p (F v) ≡ p v) → ((v : Block) → p (G v) ≡ p v) → (b : ℕ) → numbers_of p (changed G to (changed F from g.block) b) ≡ numbers_of p (g.block b)
  both_kept p f h b = kept p G to (changed F from g.block) h b ∙ kept p F from g.block f b

pub linked_whole : (g : FlowGraph) (from to : ℕ) → is_block g from ≡ true → is_block g to ≡ true → IsWhole g → IsWhole (linked from to g)
linked_whole g from to live_from live_to w =
    with_edges g _ w
    (both_kept g from to F G (λ x. x.nodes) (λ v. refl) (λ v. refl))
    (both_kept g from to F G (λ x. x.arriving) (λ v. refl) (λ v. refl))
    (both_kept g from to F G (λ x. listed x.entry_of) (λ v. refl) (λ v. refl))
    edges
  where
    F : Block → Block
    F = followed_by to

    G : Block → Block
    G = preceded_by from

    edges : (a b : ℕ) → has_number b (numbers_of (λ x. x.after) (changed (preceded_by from) to (changed (followed_by to) from g.block) a)) ≡ has_number a (numbers_of (λ x. x.before) (changed (preceded_by from) to (changed (followed_by to) from g.block) b))
    edges a b =
        let after_a : has_number b (numbers_of (λ x. x.after) (changed (preceded_by from) to (changed (followed_by to) from g.block) a)) ≡ (has_number b (numbers_of (λ (x : Block). x.after) (g.block a)) || ((a == from) && (to == b))) =
        ap (has_number b) (kept (λ (x : Block). x.after) (preceded_by from) to (changed (followed_by to) from g.block) (λ v. refl) a)
        ∙ pushed (λ (x : Block). x.after) (followed_by to) from g.block to (λ v. refl) live_from a b in
        let before_b : has_number a (numbers_of (λ x. x.before) (changed (preceded_by from) to (changed (followed_by to) from g.block) b)) ≡ (has_number a (numbers_of (λ (x : Block). x.before) (g.block b)) || ((b == to) && (from == a))) =
        pushed (λ (x : Block). x.before) (preceded_by from) to (changed (followed_by to) from g.block) from (λ v. refl) (still_there (λ (x : Block). x.after) (followed_by to) from g.block to ∙ live_to) b a
        ∙ ap (λ xs. has_number a xs || ((b == to) && (from == a))) (kept (λ (x : Block). x.before) (followed_by to) from g.block (λ v. refl) b) in
        after_a ∙ (rw (w.edges a b, swapped a from, swapped to b, and_comm (from == a) (b == to)) (sym before_b))

pub unlinked_whole : (g : FlowGraph) (from to : ℕ) → IsWhole g → IsWhole (unlinked from to g)
unlinked_whole g from to w =
    with_edges g _ w
    (both_kept g from to F G (λ x. x.nodes) (λ v. refl) (λ v. refl))
    (both_kept g from to F G (λ x. x.arriving) (λ v. refl) (λ v. refl))
    (both_kept g from to F G (λ x. listed x.entry_of) (λ v. refl) (λ v. refl))
    edges
  where
    F : Block → Block
    F = not_followed_by to

    G : Block → Block
    G = not_preceded_by from

    edges : (a b : ℕ) → has_number b (numbers_of (λ x. x.after) (changed (not_preceded_by from) to (changed (not_followed_by to) from g.block) a)) ≡ has_number a (numbers_of (λ x. x.before) (changed (not_preceded_by from) to (changed (not_followed_by to) from g.block) b))
    edges a b =
        let after_a : has_number b (numbers_of (λ x. x.after) (changed (not_preceded_by from) to (changed (not_followed_by to) from g.block) a)) ≡ (has_number b (numbers_of (λ (x : Block). x.after) (g.block a)) && not ((a == from) && (b == to))) =
        ap (has_number b) (kept (λ (x : Block). x.after) (not_preceded_by from) to (changed (not_followed_by to) from g.block) (λ v. refl) a)
        ∙ dropped (λ (x : Block). x.after) (not_followed_by to) from g.block to (λ v. refl) a b in
        let before_b : has_number a (numbers_of (λ x. x.before) (changed (not_preceded_by from) to (changed (not_followed_by to) from g.block) b)) ≡ (has_number a (numbers_of (λ (x : Block). x.before) (g.block b)) && not ((b == to) && (a == from))) =
        dropped (λ (x : Block). x.before) (not_preceded_by from) to (changed (not_followed_by to) from g.block) from (λ v. refl) b a
        ∙ ap (λ xs. has_number a xs && not ((b == to) && (a == from))) (kept (λ (x : Block). x.before) (not_followed_by to) from g.block (λ v. refl) b) in
        after_a ∙ (rw (w.edges a b, and_comm (a == from) (b == to)) (sym before_b))

-- what is pushed is the last
pub but_last_pushed : (xs : List ℕ) (y : ℕ) → but_last (xs ++ y ∷ []) ≡ xs
but_last_pushed xs y =
    let e : length (xs ++ y ∷ []) - 1 ≡ length xs = omega (arith, length-append xs (y ∷ [])) in
    rw e (take-append_seam xs (y ∷ []))

pub edge_taken_back : (to from : ℕ) (m : ℕ → Option Block) → changed but_last_after from (changed (followed_by to) from m) ≡ m
edge_taken_back to from m = taken_back (followed_by to) but_last_after from m (λ v. ap (λ (xs : List ℕ). record v { after = xs }) (but_last_pushed v.after to))

-- an edge that may be added
pub link_kept : (g : FlowGraph) (from to : ℕ) → link_fault g from to ≡ None → IsWhole g → IsWhole (linked from to g)
link_kept g from to allowed w =
    let live = link_allowed g from to allowed in
    linked_whole g from to live.0 live.1 w
