-- A block is split into two.
use Rattle.std.proofs.Common.{◌≡◌, ◌≢◌, ◌⊎◌, ℕ, Bool, true, false, not, ◌&&◌, ◌||◌, ◌==◌, List, [], ◌∷◌, ◌++◌, Option, Some, None, option_map, is_some, if◌then◌else◌, refl, sym, ap, ◌∙◌, subst, inl, inr, eq-eqb, ne_eqb}
use Rattle.std.specs.List.{list_any, list_all}
use Rattle.std.proofs.Math.Path.{fun_ext}
use Rattle.std.proofs.lemmas.Bool.{cases_eq}
use Rattle.std.proofs.lemmas.List.Folds.{list_any-append}
use Rattle.ir_ids.specs.Entries.{with_entry}
use Rattle.icr_graph.specs.declared.nodes.Node.{Node}
use Rattle.icr_graph.specs.declared.parts.Block.{Block}
use Rattle.icr_graph.specs.Lists.{has_number, renumbered, listed, numbers_of, changed, touched, each, behind, up_to, are_distinct}
use Rattle.icr_graph.specs.Kinds.{operands_of, arrivals_of, entry_left, exits_of, variables_of, functions_of}
use Rattle.icr_graph.specs.Plain.{FlowGraph, nodes_in, blocks_before, blocks_after, arriving_at, entered_by, block_of}
use Rattle.icr_graph.specs.Whole.{IsWhole}
use Rattle.icr_graph.specs.Edits.{behind_block, in_block, ending_at, going_on, split, joined}
use Rattle.icr_graph.specs.Faults.{is_block, is_node, is_edge, is_entered, is_empty, is_last_in}
use Rattle.icr_graph.proofs.Maps.{same_number, and_true, and_false, or_false}
use Rattle.icr_graph.proofs.Allowed.{passed, both_true}
use Rattle.icr_graph.proofs.Substituted.{renamed_other, renamed_old, renamed_new}
use Rattle.icr_graph.proofs.Distinct.{within_behind, has_up_to, behind_distinct, up_to_distinct, append_distinct}
use Rattle.icr_graph.proofs.Regrouped.{has_one, has_another, one_block, renumbered_none, still_read, read_moved}
use Rattle.icr_graph.specs.Splitting.{split_fault, split_behind}

-- a node lies in a block that is there
pub placed_live : (g : FlowGraph) (n b : ℕ) → IsWhole g → block_of g n ≡ b ∷ [] → is_block g b ≡ true
placed_live g n b w at = by_case (g.block b) (sym (w.places n b) ∙ (ap (has_number b) at ∙ has_one b))
  where
    by_case : (o : Option Block) → has_number n (numbers_of (λ x. x.nodes) o) ≡ true → is_some o ≡ true
    by_case None h = cc
    by_case (Some v) h = refl

-- the new block
abbrev pub rest_of : ℕ → ℕ → FlowGraph → Block
rest_of n b g = record { nodes = behind n (nodes_in g b); before = b ∷ []; after = blocks_after g b; arriving = []; entry_of = None }

module _ (g : FlowGraph) (n b new : ℕ) (vacant : g.block new ≡ None) (live : is_block g b ≡ true) (w : IsWhole g) where
  apart : b ≢ new
  apart e = absurd_of (sym (ap is_some vacant) ∙ (ap (is_block g) (sym e) ∙ live))
    where
      absurd_of : false ≡ true → ⊥
      absurd_of q = cc

  -- nothing names the new block
  unreached : (a : ℕ) → has_number new (blocks_after g a) ≡ false
  unreached a = w.edges a new ∙ ap (λ (o : Option Block). has_number a (numbers_of (λ (x : Block). x.before) o)) vacant

  never_before : (c : ℕ) → has_number new (blocks_before g c) ≡ false
  never_before c = sym (w.edges new c) ∙ ap (λ (o : Option Block). has_number c (numbers_of (λ (x : Block). x.after) o)) vacant

  unplaced : (a : ℕ) → has_number new (block_of g a) ≡ false
  unplaced a = w.places a new ∙ ap (λ (o : Option Block). has_number a (numbers_of (λ (x : Block). x.nodes) o)) vacant

  -- ---- what is read of the new graph

  read_new : (p : Block → List ℕ) → numbers_of p ((split n b new g).block new) ≡ p (rest_of n b g)
  read_new p = rw (same_number new) refl

  read_kept : (p : Block → List ℕ) → ((v : Block) → p (ending_at n new v) ≡ p v) → ((v : Block) → p (behind_block b new v) ≡ p v) → (x : ℕ) → x ≢ new → numbers_of p ((split n b new g).block x) ≡ numbers_of p (g.block x)
  read_kept p end turn x other = rw (ne_eqb x new other) (by_case (x == b) (g.block x))
    where
      by_case : (t : Bool) (o : Option Block) → numbers_of p (if t then option_map (ending_at n new) (option_map (behind_block b new) o) else option_map (behind_block b new) o) ≡ numbers_of p o
      by_case true None = refl
      by_case true (Some v) = end (behind_block b new v) ∙ turn v
      by_case false None = refl
      by_case false (Some v) = turn v

  read_other : (p : Block → List ℕ) → ((v : Block) → p (behind_block b new v) ≡ p v) → (x : ℕ) → x ≢ new → x ≢ b → numbers_of p ((split n b new g).block x) ≡ numbers_of p (g.block x)
  read_other p turn x not_new not_b = rw (ne_eqb x new not_new, ne_eqb x b not_b) (by_case (g.block x))
    where
      by_case : (o : Option Block) → numbers_of p (option_map (behind_block b new) o) ≡ numbers_of p o
      by_case None = refl
      by_case (Some v) = turn v

  after_b : blocks_after (split n b new g) b ≡ new ∷ []
  after_b = rw (ne_eqb b new apart, same_number b) (by_case (g.block b) live)
    where
      by_case : (o : Option Block) → is_some o ≡ true → numbers_of (λ x. x.after) (option_map (ending_at n new) (option_map (behind_block b new) o)) ≡ new ∷ []
      by_case None h = cc
      by_case (Some v) h = refl

  nodes_b : nodes_in (split n b new g) b ≡ up_to n (nodes_in g b)
  nodes_b = rw (ne_eqb b new apart, same_number b) (by_case (g.block b))
    where
      by_case : (o : Option Block) → numbers_of (λ x. x.nodes) (option_map (ending_at n new) (option_map (behind_block b new) o)) ≡ up_to n (numbers_of (λ x. x.nodes) o)
      by_case None = refl
      by_case (Some v) = refl

  before_other : (c : ℕ) → c ≢ new → blocks_before (split n b new g) c ≡ renumbered b new (blocks_before g c)
  before_other c other = rw (ne_eqb c new other) (by_case (c == b) (g.block c))
    where
      by_case : (t : Bool) (o : Option Block) → numbers_of (λ x. x.before) (if t then option_map (ending_at n new) (option_map (behind_block b new) o) else option_map (behind_block b new) o) ≡ renumbered b new (numbers_of (λ x. x.before) o)
      by_case true None = refl
      by_case true (Some v) = refl
      by_case false None = refl
      by_case false (Some v) = refl

  -- what a split leaves
  same_kept : (p : Block → List ℕ) → p (rest_of n b g) ≡ [] → ((v : Block) → p (ending_at n new v) ≡ p v) → ((v : Block) → p (behind_block b new v) ≡ p v) → (x : ℕ) → numbers_of p ((split n b new g).block x) ≡ numbers_of p (g.block x)
  same_kept p none end turn x = by_case (cases_eq x new)
    where
      by_case : (x ≡ new) ⊎ (x ≢ new) → numbers_of p ((split n b new g).block x) ≡ numbers_of p (g.block x)
      by_case (inl is) = ap (λ (y : ℕ). numbers_of p ((split n b new g).block y)) is ∙ (read_new p ∙ (none ∙ (sym (ap (numbers_of p) vacant) ∙ ap (λ (y : ℕ). numbers_of p (g.block y)) (sym is))))
      by_case (inr other) = read_kept p end turn x other

  -- ---- the links

  split_edges : (a c : ℕ) → has_number c (blocks_after (split n b new g) a) ≡ has_number a (blocks_before (split n b new g) c)
  split_edges a c = by_case (cases_eq c new) (cases_eq a new) (cases_eq a b)
    where
      to_new : (a : ℕ) → (a ≡ new) ⊎ (a ≢ new) → (a ≡ b) ⊎ (a ≢ b) → has_number new (blocks_after (split n b new g) a) ≡ has_number a (blocks_before (split n b new g) new)
      to_new a (inl is) z =
          subst (λ (y : ℕ). has_number new (blocks_after (split n b new g) y) ≡ has_number y (blocks_before (split n b new g) new)) (sym is)
          (ap (has_number new) (read_new (λ x. x.after)) ∙ (unreached b ∙ sym (ap (has_number new) (read_new (λ x. x.before)) ∙ has_another new b (λ e. apart (sym e)))))
      to_new a (inr is_not) (inl is) =
          subst (λ (y : ℕ). has_number new (blocks_after (split n b new g) y) ≡ has_number y (blocks_before (split n b new g) new)) (sym is)
          (ap (has_number new) after_b ∙ (has_one new ∙ sym (ap (has_number b) (read_new (λ x. x.before)) ∙ has_one b)))
      to_new a (inr not_new) (inr not_b) =
          ap (has_number new) (read_other (λ x. x.after) (λ v. refl) a not_new not_b) ∙ (unreached a ∙ sym (ap (has_number a) (read_new (λ x. x.before)) ∙ has_another a b not_b))

      to_other : (a : ℕ) → c ≢ new → (a ≡ new) ⊎ (a ≢ new) → (a ≡ b) ⊎ (a ≢ b) → has_number c (blocks_after (split n b new g) a) ≡ has_number a (blocks_before (split n b new g) c)
      to_other a other (inl is) z =
          subst (λ (y : ℕ). has_number c (blocks_after (split n b new g) y) ≡ has_number y (blocks_before (split n b new g) c)) (sym is)
          (ap (has_number c) (read_new (λ x. x.after)) ∙ (w.edges b c ∙ sym (ap (has_number new) (before_other c other) ∙ renamed_new b new (blocks_before g c) (never_before c))))
      to_other a other (inr is_not) (inl is) =
          subst (λ (y : ℕ). has_number c (blocks_after (split n b new g) y) ≡ has_number y (blocks_before (split n b new g) c)) (sym is)
          (ap (has_number c) after_b ∙ (has_another c new other ∙ sym (ap (has_number b) (before_other c other) ∙ renamed_old b new apart (blocks_before g c))))
      to_other a other (inr not_new) (inr not_b) =
          ap (has_number c) (read_other (λ x. x.after) (λ v. refl) a not_new not_b) ∙ (w.edges a c ∙ sym (ap (has_number a) (before_other c other) ∙ renamed_other b new a not_b not_new (blocks_before g c)))

      by_case : (c ≡ new) ⊎ (c ≢ new) → (a ≡ new) ⊎ (a ≢ new) → (a ≡ b) ⊎ (a ≢ b) → has_number c (blocks_after (split n b new g) a) ≡ has_number a (blocks_before (split n b new g) c)
      by_case (inl is) x y = subst (λ (z : ℕ). has_number z (blocks_after (split n b new g) a) ≡ has_number a (blocks_before (split n b new g) z)) (sym is) (to_new a x y)
      by_case (inr other) x y = to_other a other x y

  split_places : (a x : ℕ) → has_number x (block_of (split n b new g) a) ≡ has_number a (nodes_in (split n b new g) x)
  split_places a x = by_case (has_number a (behind n (nodes_in g b))) refl (cases_eq x new) (cases_eq x b)
    where
      Here : ℕ → Type 0
      Here y = has_number y (block_of (split n b new g) a) ≡ has_number a (nodes_in (split n b new g) y)

      in_b : has_number a (behind n (nodes_in g b)) ≡ true → has_number b (block_of g a) ≡ true
      in_b is = w.places a b ∙ within_behind n a (nodes_in g b) is

      goes : has_number a (behind n (nodes_in g b)) ≡ true → block_of (split n b new g) a ≡ new ∷ []
      goes is = read_moved (behind n (nodes_in g b)) b new g.node a is (in_b is)

      stays : has_number a (behind n (nodes_in g b)) ≡ false → block_of (split n b new g) a ≡ block_of g a
      stays is = rw is refl

      by_case : (t : Bool) → has_number a (behind n (nodes_in g b)) ≡ t → (x ≡ new) ⊎ (x ≢ new) → (x ≡ b) ⊎ (x ≢ b) → has_number x (block_of (split n b new g) a) ≡ has_number a (nodes_in (split n b new g) x)
      by_case true is (inl at) z =
          subst Here (sym at) (ap (has_number new) (goes is) ∙ (has_one new ∙ sym (ap (has_number a) (read_new (λ y. y.nodes)) ∙ is)))
      by_case true is (inr not_new) (inl at) =
          subst Here (sym at) (ap (has_number b) (goes is) ∙ (has_another b new apart ∙ sym (ap (has_number a) nodes_b ∙ (has_up_to n a (nodes_in g b) (w.distinct b) ∙ rw is (and_false (has_number a (nodes_in g b)))))))
      by_case true is (inr not_new) (inr not_b) =
          ap (has_number x) (goes is) ∙ (has_another x new not_new ∙ sym (ap (has_number a) (read_other (λ y. y.nodes) (λ v. refl) x not_new not_b) ∙ (sym (w.places a x) ∙ one_block b x not_b (g.node a) (in_b is))))
      by_case false is (inl at) z =
          subst Here (sym at) (ap (has_number new) (stays is) ∙ (unplaced a ∙ sym (ap (has_number a) (read_new (λ y. y.nodes)) ∙ is)))
      by_case false is (inr not_new) (inl at) =
          subst Here (sym at) (ap (has_number b) (stays is) ∙ (w.places a b ∙ sym (ap (has_number a) nodes_b ∙ (has_up_to n a (nodes_in g b) (w.distinct b) ∙ rw is (and_true (has_number a (nodes_in g b)))))))
      by_case false is (inr not_new) (inr not_b) =
          ap (has_number x) (stays is) ∙ (w.places a x ∙ sym (ap (has_number a) (read_other (λ y. y.nodes) (λ v. refl) x not_new not_b)))

  split_distinct : (x : ℕ) → are_distinct (nodes_in (split n b new g) x) ≡ true
  split_distinct x = by_case (cases_eq x new) (cases_eq x b)
    where
      by_case : (x ≡ new) ⊎ (x ≢ new) → (x ≡ b) ⊎ (x ≢ b) → are_distinct (nodes_in (split n b new g) x) ≡ true
      by_case (inl at) z = subst (λ (y : ℕ). are_distinct (nodes_in (split n b new g) y) ≡ true) (sym at) (ap are_distinct (read_new (λ y. y.nodes)) ∙ behind_distinct n (nodes_in g b) (w.distinct b))
      by_case (inr not_new) (inl at) = subst (λ (y : ℕ). are_distinct (nodes_in (split n b new g) y) ≡ true) (sym at) (ap are_distinct nodes_b ∙ up_to_distinct n (nodes_in g b) (w.distinct b))
      by_case (inr not_new) (inr not_b) = ap are_distinct (read_other (λ y. y.nodes) (λ v. refl) x not_new not_b) ∙ w.distinct x

  node_kept : (p : Node → List ℕ) → ((v : Node) → p (in_block new v) ≡ p v) → (a : ℕ) → numbers_of p ((split n b new g).node a) ≡ numbers_of p (g.node a)
  node_kept p same a = still_read p (in_block new) (behind n (nodes_in g b)) g.node same a

  pub split_whole : IsWhole (split n b new g)
  split_whole =
      record {
        edges = split_edges;
        places = split_places;
        distinct = split_distinct;
        uses = λ a k. ap (has_number k) (node_kept (λ x. listed x.cont) (λ v. refl) a) ∙ w.uses a k;
        operands = λ a k. ap (has_number k) (node_kept (λ x. operands_of x.kind) (λ v. refl) a) ∙ w.operands a k;
        arrivals = λ a x. ap (has_number x) (node_kept (λ y. arrivals_of y.kind) (λ v. refl) a) ∙ (w.arrivals a x ∙ ap (has_number a) (sym (same_kept (λ y. y.arriving) refl (λ v. refl) (λ v. refl) x)));
        exits = λ a c. ap (has_number c) (node_kept (λ x. entry_left x.kind) (λ v. refl) a) ∙ (w.exits a c ∙ ap (has_number a) (sym (node_kept (λ x. exits_of x.kind) (λ v. refl) c)));
        entries = λ f x. w.entries f x ∙ ap (has_number f) (sym (same_kept (λ y. listed y.entry_of) refl (λ v. refl) (λ v. refl) x));
        variables = λ a. ap (list_all (λ v. is_some (g.variable v))) (node_kept (λ x. variables_of x.kind) (λ v. refl) a) ∙ w.variables a;
        functions = λ a. ap (list_all (λ f. is_some (g.function f))) (node_kept (λ x. functions_of x.kind) (λ v. refl) a) ∙ w.functions a;
        parameters = w.parameters;
        closed = w.closed;
        lambdas = w.lambdas;
        code = w.code;
      }

  -- ---- what the code writes

  heirs_kept : numbers_of (λ x. x.after) (with_entry g.block new (Some (rest_of n b g)) b) ≡ blocks_after g b
  heirs_kept = rw (ne_eqb b new apart) refl

  blocks_written : touched (blocks_after g b) (behind_block b new) (changed (ending_at n new) b (with_entry g.block new (Some (rest_of n b g)))) ≡ (split n b new g).block
  blocks_written = fun_ext (λ x. by_case x (cases_eq x new))
    where
      other_block : (x : ℕ) (h t : Bool) (o : Option Block) → has_number x (blocks_after g b) ≡ h → g.block x ≡ o → (if h then option_map (behind_block b new) (if t then option_map (ending_at n new) o else o) else (if t then option_map (ending_at n new) o else o)) ≡ (if t then option_map (ending_at n new) (option_map (behind_block b new) o) else option_map (behind_block b new) o)
      other_block x true true None is at = refl
      other_block x true false None is at = refl
      other_block x true true (Some v) is at = refl
      other_block x true false (Some v) is at = refl
      other_block x false true None is at = refl
      other_block x false false None is at = refl
      other_block x false true (Some v) is at =
          let none : has_number b v.before ≡ false = ap (λ (o : Option Block). has_number b (numbers_of (λ (y : Block). y.before) o)) (sym at) ∙ (sym (w.edges b x) ∙ is) in
          ap (λ (xs : List ℕ). Some (ending_at n new (record v { before = xs }))) (sym (renumbered_none b new v.before none))
      other_block x false false (Some v) is at =
          let none : has_number b v.before ≡ false = ap (λ (o : Option Block). has_number b (numbers_of (λ (y : Block). y.before) o)) (sym at) ∙ (sym (w.edges b x) ∙ is) in
          ap (λ (xs : List ℕ). Some (record v { before = xs })) (sym (renumbered_none b new v.before none))

      by_case : (x : ℕ) → (x ≡ new) ⊎ (x ≢ new) → touched (blocks_after g b) (behind_block b new) (changed (ending_at n new) b (with_entry g.block new (Some (rest_of n b g)))) x ≡ (split n b new g).block x
      by_case x (inl is) = rw (is, unreached b, ne_eqb new b (λ e. apart (sym e)), same_number new) refl
      by_case x (inr other) = rw (ne_eqb x new other) (other_block x (has_number x (blocks_after g b)) (x == b) (g.block x) refl refl)

  nodes_written : touched (numbers_of (λ x. x.nodes) (with_entry g.block new (Some (rest_of n b g)) new)) (in_block new) g.node ≡ (split n b new g).node
  nodes_written = rw (same_number new) refl

  pub split_is : record g { node = touched (numbers_of (λ x. x.nodes) (with_entry g.block new (Some (rest_of n b g)) new)) (in_block new) g.node; block = touched (numbers_of (λ x. x.after) (with_entry g.block new (Some (rest_of n b g)) b)) (behind_block b new) (changed (ending_at n new) b (with_entry g.block new (Some (rest_of n b g)))) } ≡ split n b new g
  split_is =
      ap (λ (m : ℕ → Option Node). record g { node = m; block = touched (numbers_of (λ x. x.after) (with_entry g.block new (Some (rest_of n b g)) b)) (behind_block b new) (changed (ending_at n new) b (with_entry g.block new (Some (rest_of n b g)))) }) nodes_written
      ∙ (ap (λ (xs : List ℕ). record g { node = (split n b new g).node; block = touched xs (behind_block b new) (changed (ending_at n new) b (with_entry g.block new (Some (rest_of n b g)))) }) heirs_kept
      ∙ ap (λ (m : ℕ → Option Block). record g { node = (split n b new g).node; block = m }) blocks_written)

-- the same of graphs that are written step by step
pub split_written : (g : FlowGraph) (n b new : ℕ) (vacant : g.block new ≡ None) (live : is_block g b ≡ true) (w : IsWhole g) (nodes : ℕ → Option Node) (blocks more : ℕ → Option Block) (rest : Block)
    → rest ≡ rest_of n b g
    → more ≡ with_entry g.block new (Some rest)
    → nodes ≡ touched (numbers_of (λ x. x.nodes) (more new)) (in_block new) g.node
    → blocks ≡ touched (numbers_of (λ x. x.after) (more b)) (behind_block b new) (changed (ending_at n new) b more)
    → record g { node = nodes; block = blocks } ≡ split n b new g
split_written g n b new vacant live w nodes blocks more rest rest_is more_is nodes_are blocks_are =
    rw (blocks_are, nodes_are, more_is, rest_is) (split_is g n b new vacant live w)
