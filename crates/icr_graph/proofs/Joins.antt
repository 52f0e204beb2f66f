-- Two blocks are joined.
use Rattle.std.proofs.Common.{◌≡◌, ◌≢◌, ◌⊎◌, ℕ, Bool, true, false, not, ◌&&◌, ◌||◌, ◌==◌, List, [], ◌∷◌, ◌++◌, Option, Some, None, option_map, is_some, if◌then◌else◌, refl, sym, ap, ◌∙◌, subst, inl, inr, eq-eqb, ne_eqb}
use Rattle.std.specs.List.{list_any, list_all}
use Rattle.std.proofs.Math.Path.{fun_ext}
use Rattle.std.proofs.lemmas.Bool.{cases_eq}
use Rattle.std.proofs.lemmas.List.Folds.{list_any-append}
use Rattle.ir_ids.specs.Entries.{with_entry}
use Rattle.icr_graph.specs.declared.nodes.Node.{Node}
use Rattle.icr_graph.specs.declared.parts.Block.{Block}
use Rattle.icr_graph.specs.Lists.{has_number, renumbered, listed, numbers_of, changed, touched, each, behind, up_to, are_distinct}
use Rattle.icr_graph.specs.Kinds.{operands_of, arrivals_of, entry_left, exits_of, variables_of, functions_of}
use Rattle.icr_graph.specs.Plain.{FlowGraph, nodes_in, blocks_before, blocks_after, arriving_at, entered_by, block_of}
use Rattle.icr_graph.specs.Whole.{IsWhole}
use Rattle.icr_graph.specs.Edits.{behind_block, in_block, ending_at, going_on, split, joined}
use Rattle.icr_graph.specs.Faults.{is_block, is_node, is_edge, is_entered, is_empty, is_last_in}
use Rattle.icr_graph.proofs.Maps.{same_number, and_true, and_false, or_false}
use Rattle.icr_graph.proofs.Allowed.{passed, both_true}
use Rattle.icr_graph.proofs.Substituted.{renamed_other, renamed_old, renamed_new}
use Rattle.icr_graph.proofs.Distinct.{has_up_to, behind_distinct, up_to_distinct, append_distinct}
use Rattle.icr_graph.proofs.Regrouped.{has_one, has_another, one_block, renumbered_none, still_read, read_moved}
use Rattle.icr_graph.specs.Splitting.{have_other, are_not_alone, ends_with_if, join_fault}
use Rattle.icr_graph.specs.Joining.{with_links}

-- two blocks that nothing but the edge between them joins to others there
pub record AreJoinable (g : FlowGraph) (first second : ℕ) : Type 0 where
  pub live_first : is_block g first ≡ true
  pub live_second : is_block g second ≡ true
  pub after : (c : ℕ) → c ≢ second → has_number c (blocks_after g first) ≡ false
  pub before : (c : ℕ) → c ≢ first → has_number c (blocks_before g second) ≡ false
  pub arriving : arriving_at g second ≡ []
  pub entered : entered_by g second ≡ []
  pub apart : first ≢ second

none_but : (b : ℕ) (xs : List ℕ) → have_other b xs ≡ false → (c : ℕ) → c ≢ b → has_number c xs ≡ false
none_but b [] h c other = refl
none_but b (x ∷ xs) h c other = by_case (cases_eq x b) h (λ e. none_but b xs e c other)
  where
    by_case : (x ≡ b) ⊎ (x ≢ b) → (not (x == b) || have_other b xs) ≡ false → (have_other b xs ≡ false → has_number c xs ≡ false) → ((x == c) || has_number c xs) ≡ false
    by_case (inl is) e ih = rw (is, ne_eqb b c (λ q. other (sym q))) (ih (rw (is, same_number b) at e))
    by_case (inr is_not) e ih = absurd_of (rw (ne_eqb x b is_not) at e)
      where
        absurd_of : true ≡ false → ((x == c) || has_number c xs) ≡ false
        absurd_of q = cc

pub join_allowed : (g : FlowGraph) (first second : ℕ) → join_fault g first second ≡ None → AreJoinable g first second
join_allowed g first second h =
    let one = passed (not (is_block g first && is_block g second)) _ _ h in
    let two = passed (not (is_edge g first second)) _ _ one.1 in
    let three = passed (are_not_alone g first second) _ _ two.1 in
    let live = both_true (is_block g first) (is_block g second) one.0 in
    let halves = neither (have_other second (blocks_after g first) || ends_with_if g first) ((have_other first (blocks_before g second) || is_entered g second) || (first == second)) three.0 in
    let leaves = neither (have_other second (blocks_after g first)) (ends_with_if g first) halves.0 in
    let arrives = neither (have_other first (blocks_before g second) || is_entered g second) (first == second) halves.1 in
    let reached = neither (have_other first (blocks_before g second)) (is_entered g second) arrives.0 in
    let entered = neither (not (is_empty (entered_by g second))) (not (is_empty (arriving_at g second))) reached.1 in
    record {
      live_first = live.0;
      live_second = live.1;
      after = none_but second (blocks_after g first) leaves.0;
      before = none_but first (blocks_before g second) reached.0;
      arriving = empty (arriving_at g second) entered.1;
      entered = empty (entered_by g second) entered.0;
      apart = λ e. differ e arrives.1;
    }
  where
    neither : (x y : Bool) → (x || y) ≡ false → (x ≡ false) × (y ≡ false)
    neither true y e = cc
    neither false y e = (refl, e)

    empty : (xs : List ℕ) → not (is_empty xs) ≡ false → xs ≡ []
    empty [] e = refl
    empty (x ∷ xs) e = cc

    differ : first ≡ second → (first == second) ≡ false → ⊥
    differ e q = absurd_of (sym (eq-eqb first second e) ∙ q)
      where
        absurd_of : true ≡ false → ⊥
        absurd_of r = cc

module _ (g : FlowGraph) (first second : ℕ) (j : AreJoinable g first second) (w : IsWhole g) where
  apart_too : second ≢ first
  apart_too e = j.apart (sym e)

  -- ---- what is read of the new graph

  read_gone : (p : Block → List ℕ) → numbers_of p ((joined first second g).block second) ≡ []
  read_gone p = rw (same_number second) refl

  read_kept : (p : Block → List ℕ) → ((v : Block) → p (going_on (nodes_in g second) (blocks_after g second) v) ≡ p v) → ((v : Block) → p (behind_block second first v) ≡ p v) → (x : ℕ) → x ≢ second → numbers_of p ((joined first second g).block x) ≡ numbers_of p (g.block x)
  read_kept p go turn x other = rw (ne_eqb x second other) (by_case (x == first) (g.block x))
    where
      by_case : (t : Bool) (o : Option Block) → numbers_of p (if t then option_map (going_on (nodes_in g second) (blocks_after g second)) (option_map (behind_block second first) o) else option_map (behind_block second first) o) ≡ numbers_of p o
      by_case true None = refl
      by_case true (Some v) = go (behind_block second first v) ∙ turn v
      by_case false None = refl
      by_case false (Some v) = turn v

  read_other : (p : Block → List ℕ) → ((v : Block) → p (behind_block second first v) ≡ p v) → (x : ℕ) → x ≢ second → x ≢ first → numbers_of p ((joined first second g).block x) ≡ numbers_of p (g.block x)
  read_other p turn x not_second not_first = rw (ne_eqb x second not_second, ne_eqb x first not_first) (by_case (g.block x))
    where
      by_case : (o : Option Block) → numbers_of p (option_map (behind_block second first) o) ≡ numbers_of p o
      by_case None = refl
      by_case (Some v) = turn v

  after_first : blocks_after (joined first second g) first ≡ blocks_after g second
  after_first = rw (ne_eqb first second j.apart, same_number first) (by_case (g.block first) j.live_first)
    where
      by_case : (o : Option Block) → is_some o ≡ true → numbers_of (λ x. x.after) (option_map (going_on (nodes_in g second) (blocks_after g second)) (option_map (behind_block second first) o)) ≡ blocks_after g second
      by_case None h = cc
      by_case (Some v) h = refl

  nodes_first : nodes_in (joined first second g) first ≡ nodes_in g first ++ nodes_in g second
  nodes_first = rw (ne_eqb first second j.apart, same_number first) (by_case (g.block first) j.live_first)
    where
      by_case : (o : Option Block) → is_some o ≡ true → numbers_of (λ x. x.nodes) (option_map (going_on (nodes_in g second) (blocks_after g second)) (option_map (behind_block second first) o)) ≡ numbers_of (λ x. x.nodes) o ++ nodes_in g second
      by_case None h = cc
      by_case (Some v) h = refl

  before_other : (c : ℕ) → c ≢ second → blocks_before (joined first second g) c ≡ renumbered second first (blocks_before g c)
  before_other c other = rw (ne_eqb c second other) (by_case (c == first) (g.block c))
    where
      by_case : (t : Bool) (o : Option Block) → numbers_of (λ x. x.before) (if t then option_map (going_on (nodes_in g second) (blocks_after g second)) (option_map (behind_block second first) o) else option_map (behind_block second first) o) ≡ renumbered second first (numbers_of (λ x. x.before) o)
      by_case true None = refl
      by_case true (Some v) = refl
      by_case false None = refl
      by_case false (Some v) = refl

  -- what a join leaves
  same_kept : (p : Block → List ℕ) → numbers_of p (g.block second) ≡ [] → ((v : Block) → p (going_on (nodes_in g second) (blocks_after g second) v) ≡ p v) → ((v : Block) → p (behind_block second first v) ≡ p v) → (x : ℕ) → numbers_of p ((joined first second g).block x) ≡ numbers_of p (g.block x)
  same_kept p none go turn x = by_case (cases_eq x second)
    where
      by_case : (x ≡ second) ⊎ (x ≢ second) → numbers_of p ((joined first second g).block x) ≡ numbers_of p (g.block x)
      by_case (inl is) = ap (λ (y : ℕ). numbers_of p ((joined first second g).block y)) is ∙ (read_gone p ∙ (sym none ∙ ap (λ (y : ℕ). numbers_of p (g.block y)) (sym is)))
      by_case (inr other) = read_kept p go turn x other

  -- ---- the links

  never_before : (c : ℕ) → c ≢ second → has_number first (blocks_before g c) ≡ false
  never_before c other = sym (w.edges first c) ∙ j.after c other

  joined_edges : (a c : ℕ) → has_number c (blocks_after (joined first second g) a) ≡ has_number a (blocks_before (joined first second g) c)
  joined_edges a c = by_case (cases_eq c second) (cases_eq a second) (cases_eq a first)
    where
      to_gone : (a : ℕ) → (a ≡ second) ⊎ (a ≢ second) → (a ≡ first) ⊎ (a ≢ first) → has_number second (blocks_after (joined first second g) a) ≡ false
      to_gone a (inl is) z = subst (λ (y : ℕ). has_number second (blocks_after (joined first second g) y) ≡ false) (sym is) (ap (has_number second) (read_gone (λ x. x.after)))
      to_gone a (inr is_not) (inl is) = subst (λ (y : ℕ). has_number second (blocks_after (joined first second g) y) ≡ false) (sym is) (ap (has_number second) after_first ∙ (w.edges second second ∙ j.before second apart_too))
      to_gone a (inr not_second) (inr not_first) = ap (has_number second) (read_other (λ x. x.after) (λ v. refl) a not_second not_first) ∙ (w.edges a second ∙ j.before a not_first)

      to_other : (a : ℕ) → c ≢ second → (a ≡ second) ⊎ (a ≢ second) → (a ≡ first) ⊎ (a ≢ first) → has_number c (blocks_after (joined first second g) a) ≡ has_number a (renumbered second first (blocks_before g c))
      to_other a other (inl is) z =
          subst (λ (y : ℕ). has_number c (blocks_after (joined first second g) y) ≡ has_number y (renumbered second first (blocks_before g c))) (sym is)
          (ap (has_number c) (read_gone (λ x. x.after)) ∙ sym (renamed_old second first apart_too (blocks_before g c)))
      to_other a other (inr is_not) (inl is) =
          subst (λ (y : ℕ). has_number c (blocks_after (joined first second g) y) ≡ has_number y (renumbered second first (blocks_before g c))) (sym is)
          (ap (has_number c) after_first ∙ (w.edges second c ∙ sym (renamed_new second first (blocks_before g c) (never_before c other))))
      to_other a other (inr not_second) (inr not_first) =
          ap (has_number c) (read_other (λ x. x.after) (λ v. refl) a not_second not_first) ∙ (w.edges a c ∙ sym (renamed_other second first a not_second not_first (blocks_before g c)))

      by_case : (c ≡ second) ⊎ (c ≢ second) → (a ≡ second) ⊎ (a ≢ second) → (a ≡ first) ⊎ (a ≢ first) → has_number c (blocks_after (joined first second g) a) ≡ has_number a (blocks_before (joined first second g) c)
      by_case (inl is) x y = subst (λ (z : ℕ). has_number z (blocks_after (joined first second g) a) ≡ has_number a (blocks_before (joined first second g) z)) (sym is) (to_gone a x y ∙ sym (ap (has_number a) (read_gone (λ z. z.before))))
      by_case (inr other) x y = to_other a other x y ∙ sym (ap (has_number a) (before_other c other))

  joined_places : (a x : ℕ) → has_number x (block_of (joined first second g) a) ≡ has_number a (nodes_in (joined first second g) x)
  joined_places a x = by_case (has_number a (nodes_in g second)) refl (cases_eq x second) (cases_eq x first)
    where
      Here : ℕ → Type 0
      Here y = has_number y (block_of (joined first second g) a) ≡ has_number a (nodes_in (joined first second g) y)

      goes : has_number a (nodes_in g second) ≡ true → block_of (joined first second g) a ≡ first ∷ []
      goes is = read_moved (nodes_in g second) second first g.node a is (w.places a second ∙ is)

      stays : has_number a (nodes_in g second) ≡ false → block_of (joined first second g) a ≡ block_of g a
      stays is = rw is refl

      both : has_number a (nodes_in (joined first second g) first) ≡ (has_number a (nodes_in g first) || has_number a (nodes_in g second))
      both = ap (has_number a) nodes_first ∙ list_any-append (λ m. m == a) (nodes_in g first) (nodes_in g second)

      always : (t : Bool) → (t || true) ≡ true
      always true = refl
      always false = refl

      by_case : (t : Bool) → has_number a (nodes_in g second) ≡ t → (x ≡ second) ⊎ (x ≢ second) → (x ≡ first) ⊎ (x ≢ first) → has_number x (block_of (joined first second g) a) ≡ has_number a (nodes_in (joined first second g) x)
      by_case true is (inl at) z =
          subst Here (sym at) (ap (has_number second) (goes is) ∙ (has_another second first apart_too ∙ sym (ap (has_number a) (read_gone (λ y. y.nodes)))))
      by_case true is (inr not_second) (inl at) =
          subst Here (sym at) (ap (has_number first) (goes is) ∙ (has_one first ∙ sym (both ∙ rw is (always (has_number a (nodes_in g first))))))
      by_case true is (inr not_second) (inr not_first) =
          ap (has_number x) (goes is) ∙ (has_another x first not_first ∙ sym (ap (has_number a) (read_other (λ y. y.nodes) (λ v. refl) x not_second not_first) ∙ (sym (w.places a x) ∙ one_block second x not_second (g.node a) (w.places a second ∙ is))))
      by_case false is (inl at) z =
          subst Here (sym at) (ap (has_number second) (stays is) ∙ (w.places a second ∙ (is ∙ sym (ap (has_number a) (read_gone (λ y. y.nodes))))))
      by_case false is (inr not_second) (inl at) =
          subst Here (sym at) (ap (has_number first) (stays is) ∙ (w.places a first ∙ sym (both ∙ rw is (or_false (has_number a (nodes_in g first))))))
      by_case false is (inr not_second) (inr not_first) =
          ap (has_number x) (stays is) ∙ (w.places a x ∙ sym (ap (has_number a) (read_other (λ y. y.nodes) (λ v. refl) x not_second not_first)))

  joined_distinct : (x : ℕ) → are_distinct (nodes_in (joined first second g) x) ≡ true
  joined_distinct x = by_case (cases_eq x second) (cases_eq x first)
    where
      in_one : (c : ℕ) → has_number c (nodes_in g first) ≡ true → has_number c (nodes_in g second) ≡ false
      in_one c h = sym (w.places c second) ∙ one_block first second apart_too (g.node c) (w.places c first ∙ h)

      by_case : (x ≡ second) ⊎ (x ≢ second) → (x ≡ first) ⊎ (x ≢ first) → are_distinct (nodes_in (joined first second g) x) ≡ true
      by_case (inl at) z = subst (λ (y : ℕ). are_distinct (nodes_in (joined first second g) y) ≡ true) (sym at) (ap are_distinct (read_gone (λ y. y.nodes)))
      by_case (inr not_second) (inl at) = subst (λ (y : ℕ). are_distinct (nodes_in (joined first second g) y) ≡ true) (sym at) (ap are_distinct nodes_first ∙ append_distinct (nodes_in g first) (nodes_in g second) (w.distinct first) (w.distinct second) in_one)
      by_case (inr not_second) (inr not_first) = ap are_distinct (read_other (λ y. y.nodes) (λ v. refl) x not_second not_first) ∙ w.distinct x

  node_kept : (p : Node → List ℕ) → ((v : Node) → p (in_block first v) ≡ p v) → (a : ℕ) → numbers_of p ((joined first second g).node a) ≡ numbers_of p (g.node a)
  node_kept p same a = still_read p (in_block first) (nodes_in g second) g.node same a

  pub joined_whole : IsWhole (joined first second g)
  joined_whole =
      record {
        edges = joined_edges;
        places = joined_places;
        distinct = joined_distinct;
        uses = λ a k. ap (has_number k) (node_kept (λ x. listed x.cont) (λ v. refl) a) ∙ w.uses a k;
        operands = λ a k. ap (has_number k) (node_kept (λ x. operands_of x.kind) (λ v. refl) a) ∙ w.operands a k;
        arrivals = λ a x. ap (has_number x) (node_kept (λ y. arrivals_of y.kind) (λ v. refl) a) ∙ (w.arrivals a x ∙ ap (has_number a) (sym (same_kept (λ y. y.arriving) j.arriving (λ v. refl) (λ v. refl) x)));
        exits = λ a c. ap (has_number c) (node_kept (λ x. entry_left x.kind) (λ v. refl) a) ∙ (w.exits a c ∙ ap (has_number a) (sym (node_kept (λ x. exits_of x.kind) (λ v. refl) c)));
        entries = λ f x. w.entries f x ∙ ap (has_number f) (sym (same_kept (λ y. listed y.entry_of) j.entered (λ v. refl) (λ v. refl) x));
        variables = λ a. ap (list_all (λ v. is_some (g.variable v))) (node_kept (λ x. variables_of x.kind) (λ v. refl) a) ∙ w.variables a;
        functions = λ a. ap (list_all (λ f. is_some (g.function f))) (node_kept (λ x. functions_of x.kind) (λ v. refl) a) ∙ w.functions a;
        parameters = w.parameters;
        closed = w.closed;
        lambdas = w.lambdas;
        code = w.code;
      }

  -- ---- what the code writes

  blocks_written : changed (with_links (nodes_in g first ++ nodes_in g second) (blocks_after g second)) first (touched (blocks_after g second) (behind_block second first) (with_entry g.block second None)) ≡ (joined first second g).block
  blocks_written = fun_ext (λ x. by_case x (cases_eq x second) (cases_eq x first))
    where
      nothing : (h : Bool) → (if h then option_map (behind_block second first) None else None) ≡ None
      nothing true = refl
      nothing false = refl

      turned : (x : ℕ) (h : Bool) (o : Option Block) → has_number x (blocks_after g second) ≡ h → g.block x ≡ o → (if h then option_map (behind_block second first) o else o) ≡ option_map (behind_block second first) o
      turned x true o is at = refl
      turned x false None is at = refl
      turned x false (Some v) is at =
          let none : has_number second v.before ≡ false = ap (λ (o : Option Block). has_number second (numbers_of (λ (y : Block). y.before) o)) (sym at) ∙ (sym (w.edges second x) ∙ is) in
          ap (λ (xs : List ℕ). Some (record v { before = xs })) (sym (renumbered_none second first v.before none))

      all_nodes : (o : Option Block) → g.block first ≡ o → option_map (with_links (nodes_in g first ++ nodes_in g second) (blocks_after g second)) (option_map (behind_block second first) o) ≡ option_map (going_on (nodes_in g second) (blocks_after g second)) (option_map (behind_block second first) o)
      all_nodes None at = refl
      all_nodes (Some v) at = ap (λ (o : Option Block). Some (with_links (numbers_of (λ (y : Block). y.nodes) o ++ nodes_in g second) (blocks_after g second) (behind_block second first v))) at

      by_case : (x : ℕ) → (x ≡ second) ⊎ (x ≢ second) → (x ≡ first) ⊎ (x ≢ first) → changed (with_links (nodes_in g first ++ nodes_in g second) (blocks_after g second)) first (touched (blocks_after g second) (behind_block second first) (with_entry g.block second None)) x ≡ (joined first second g).block x
      by_case x (inl is) z = rw (is, ne_eqb second first apart_too, same_number second) (nothing (has_number second (blocks_after g second)))
      by_case x (inr not_second) (inl is) =
          rw (is, same_number first, ne_eqb first second j.apart)
          (ap (option_map (with_links (nodes_in g first ++ nodes_in g second) (blocks_after g second))) (turned first (has_number first (blocks_after g second)) (g.block first) refl refl) ∙ all_nodes (g.block first) refl)
      by_case x (inr not_second) (inr not_first) =
          rw (ne_eqb x first not_first, ne_eqb x second not_second)
          (turned x (has_number x (blocks_after g second)) (g.block x) refl refl)

  pub joined_is : (x : Block) → g.block second ≡ Some x → record g { node = touched x.nodes (in_block first) g.node; block = changed (with_links (nodes_in g first ++ nodes_in g second) x.after) first (touched x.after (behind_block second first) (with_entry g.block second None)) } ≡ joined first second g
  joined_is x live =
      ap (λ (o : Option Block). record g { node = touched (numbers_of (λ (y : Block). y.nodes) o) (in_block first) g.node; block = changed (with_links (nodes_in g first ++ nodes_in g second) (numbers_of (λ (y : Block). y.after) o)) first (touched (numbers_of (λ (y : Block). y.after) o) (behind_block second first) (with_entry g.block second None)) }) (sym live)
      ∙ ap (λ (m : ℕ → Option Block). record g { node = touched (nodes_in g second) (in_block first) g.node; block = m }) blocks_written
