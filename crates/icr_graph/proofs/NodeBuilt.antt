-- A graph with a new node hangs together.
use Rattle.std.proofs.Common.{◌≡◌, ◌≢◌, ◌⊎◌, ℕ, Bool, true, false, not, ◌&&◌, ◌||◌, ◌==◌, List, [], ◌∷◌, Option, Some, None, option_map, is_some, if◌then◌else◌, refl, sym, ap, ◌∙◌, inl, inr, eq-eqb, ne_eqb}
use Rattle.std.specs.List.{list_any, list_all}
use Rattle.std.proofs.lemmas.Bool.{cases_eq}
use Rattle.std.proofs.Math.Path.{fun_ext}
use Rattle.ir_ids.specs.Entries.{with_entry}
use Rattle.icr_graph.specs.declared.nodes.NodeKind.{NodeKind}
use Rattle.icr_graph.specs.declared.nodes.NodeKind.TheVariants as kind
use Rattle.icr_graph.specs.declared.nodes.Node.{Node}
use Rattle.icr_graph.specs.declared.parts.Cont.{Cont}
use Rattle.icr_graph.specs.declared.parts.Block.{Block}
use Rattle.icr_graph.specs.Lists.{has_number, are_distinct, listed, numbers_of, changed, touched}
use Rattle.icr_graph.specs.Kinds.{operands_of, arrivals_of, partners_of, entry_left, exits_of, variables_of, functions_of}
use Rattle.icr_graph.specs.Plain.{FlowGraph, nodes_in, block_of, operands_at, dest_of}
use Rattle.icr_graph.specs.Whole.{IsWhole, are_variables, are_functions}
use Rattle.icr_graph.specs.Edits.{taken_by}
use Rattle.icr_graph.specs.Building.{holding, arriving_from, with_node, IsNew}
use Rattle.icr_graph.specs.Faults.{is_block, is_empty, are_blocks, are_conts, are_taken, are_named, add_fault}
use Rattle.icr_graph.proofs.Maps.{same_number, swapped, or_false, and_true, and_false, kept, pushed}
use Rattle.icr_graph.proofs.Allowed.{passed, both_true}
use Rattle.icr_graph.proofs.Built.{fresh_kept}
use Rattle.icr_graph.proofs.Distinct.{both_hold, pushed_distinct}
use Rattle.icr_graph.proofs.Arrivals.{is_new, reached_at}

touched_kept : {A : Type 0} (p : A → List ℕ) (F : A → A) (ks : List ℕ) (m : ℕ → Option A) → ((v : A) → p (F v) ≡ p v) → (k : ℕ) → numbers_of p (touched ks F m k) ≡ numbers_of p (m k)
touched_kept {A} p F ks m same k = by_case (has_number k ks) (m k)
  where
    by_case : (b : Bool) (o : Option A) → numbers_of p (if b then option_map F o else o) ≡ numbers_of p o
    by_case true None = refl
    by_case true (Some v) = same v
    by_case false o = refl

-- what holds of all holds of one
one_of_all : (test : ℕ → Bool) (ks : List ℕ) (k : ℕ) → list_all test ks ≡ true → has_number k ks ≡ true → test k ≡ true
one_of_all test [] k h is = cc
one_of_all test (x ∷ xs) k h is = by_case (cases_eq x k) (test x) refl h is (one_of_all test xs k)
  where
    by_case : (x ≡ k) ⊎ (x ≢ k) → (t : Bool) → test x ≡ t → (t && list_all test xs) ≡ true → ((x == k) || has_number k xs) ≡ true → (list_all test xs ≡ true → has_number k xs ≡ true → test k ≡ true) → test k ≡ true
    by_case z false at q r ih = cc
    by_case (inl same) true at q r ih = ap test (sym same) ∙ at
    by_case (inr other) true at q r ih = ih q (rw (ne_eqb x k other) at r)

none_of_any : (test : ℕ → Bool) (ks : List ℕ) (k : ℕ) → list_any test ks ≡ false → has_number k ks ≡ true → test k ≡ false
none_of_any test [] k h is = cc
none_of_any test (x ∷ xs) k h is = by_case (cases_eq x k) (test x) refl h is (none_of_any test xs k)
  where
    by_case : (x ≡ k) ⊎ (x ≢ k) → (t : Bool) → test x ≡ t → (t || list_any test xs) ≡ false → ((x == k) || has_number k xs) ≡ true → (list_any test xs ≡ false → has_number k xs ≡ true → test k ≡ false) → test k ≡ false
    by_case z true at q r ih = cc
    by_case (inl same) false at q r ih = ap test (sym same) ∙ at
    by_case (inr other) false at q r ih = ih q (rw (ne_eqb x k other) at r)

no_partners : (k : NodeKind) → partners_of k ≡ [] → (entry_left k ≡ []) × (exits_of k ≡ [])
no_partners (kind.Ref l) h = (refl, refl)
no_partners (kind.Set v value) h = (refl, refl)
no_partners (kind.If test) h = (refl, refl)
no_partners (kind.Combination op operands) h = (refl, refl)
no_partners (kind.MvCombination function operands tail) h = (refl, refl)
no_partners (kind.Bind v value) h = (refl, refl)
no_partners (kind.Return value) h = (refl, refl)
no_partners (kind.Entry x exits) h = (refl, h)
no_partners (kind.Exit l entry) h = (h, refl)

module _ (g : FlowGraph) (n : ℕ) (nd : Node) (vacant : g.node n ≡ None) (live : is_block g nd.block ≡ true) (conts : are_conts g (operands_of nd.kind) ≡ true) (variables : are_variables g (variables_of nd.kind) ≡ true) (functions : are_functions g (functions_of nd.kind) ≡ true) (free : are_taken g (operands_of nd.kind) ≡ false) (no_cont : nd.cont ≡ None) (reached : are_blocks g (arrivals_of nd.kind) ≡ true) (alone : partners_of nd.kind ≡ []) (w : IsWhole g) where
  -- the blocks once the exits of the node arrive at those that it names
  abbrev arrived : ℕ → Option Block
  arrived = touched (arrivals_of nd.kind) (arriving_from n) g.block

  arrived_kept : (p : Block → List ℕ) → ((v : Block) → p (arriving_from n v) ≡ p v) → (b : ℕ) → numbers_of p (arrived b) ≡ numbers_of p (g.block b)
  arrived_kept p same b = touched_kept p (arriving_from n) (arrivals_of nd.kind) g.block same b

  arrived_live : is_some (arrived nd.block) ≡ true
  arrived_live = by_case (has_number nd.block (arrivals_of nd.kind)) (g.block nd.block) live
    where
      by_case : (t : Bool) (o : Option Block) → is_some o ≡ true → is_some (if t then option_map (arriving_from n) o else o) ≡ true
      by_case true None e = cc
      by_case true (Some v) e = refl
      by_case false o e = e

  -- the node is there at its number, and the others as before
  at_node : (p : Node → List ℕ) (c : ℕ) → numbers_of p (with_entry g.node n (Some nd) n) ≡ p nd
  at_node p c = rw (same_number n) refl

  at_other : (p : Node → List ℕ) (a : ℕ) → a ≢ n → numbers_of p (with_entry g.node n (Some nd) a) ≡ numbers_of p (g.node a)
  at_other p a other = rw (ne_eqb a n other) refl

  -- nothing named the node before
  nothing_of : (p : Node → List ℕ) (c : ℕ) → has_number c (numbers_of p (g.node n)) ≡ false
  nothing_of p c = ap (λ (o : Option Node). has_number c (numbers_of p o)) vacant

  places : (a b : ℕ) → has_number b (numbers_of (λ x. x.block ∷ []) (with_entry g.node n (Some nd) a)) ≡ has_number a (numbers_of (λ x. x.nodes) (changed (holding n) nd.block arrived b))
  places a b = by_case (cases_eq a n) ∙ sym (pushed (λ (x : Block). x.nodes) (holding n) nd.block arrived n (λ v. refl) arrived_live b a ∙ ap (λ xs. has_number a xs || ((b == nd.block) && (n == a))) (arrived_kept (λ x. x.nodes) (λ v. refl) b))
    where
      by_case : (a ≡ n) ⊎ (a ≢ n) → has_number b (numbers_of (λ x. x.block ∷ []) (with_entry g.node n (Some nd) a)) ≡ (has_number a (numbers_of (λ (x : Block). x.nodes) (g.block b)) || ((b == nd.block) && (n == a)))
      by_case (inl same) =
          rw (same, same_number n, sym (w.places n b) ∙ nothing_of (λ (x : Node). x.block ∷ []) b, and_true (b == nd.block), swapped nd.block b) (or_false (b == nd.block))
      by_case (inr other) =
          ap (has_number b) (at_other (λ (x : Node). x.block ∷ []) a other)
          ∙ (w.places a b ∙ sym (rw (ne_eqb n a (λ e. other (sym e)), and_false (b == nd.block)) (or_false (has_number a (nodes_in g b)))))

  distinct : (b : ℕ) → are_distinct (numbers_of (λ x. x.nodes) (changed (holding n) nd.block arrived b)) ≡ true
  distinct b =
      let same = arrived_kept (λ x. x.nodes) (λ v. refl) b in
      by_case (b == nd.block) (arrived b) (ap are_distinct same ∙ w.distinct b) (ap (has_number n) same ∙ (sym (w.places n b) ∙ nothing_of (λ (x : Node). x.block ∷ []) b))
    where
      by_case : (t : Bool) (o : Option Block) → are_distinct (numbers_of (λ x. x.nodes) o) ≡ true → has_number n (numbers_of (λ x. x.nodes) o) ≡ false → are_distinct (numbers_of (λ x. x.nodes) (if t then option_map (holding n) o else o)) ≡ true
      by_case true None h absent = refl
      by_case true (Some v) h absent = pushed_distinct n v.nodes h absent
      by_case false o h absent = h

  -- the destinations of the operands
  dest_taken : (k : ℕ) → has_number k (operands_of nd.kind) ≡ true → numbers_of (λ x. listed x.dest) (touched (operands_of nd.kind) (taken_by (Some n)) g.cont k) ≡ n ∷ []
  dest_taken k is = rw is (by_case (g.cont k) (one_of_all (λ c. is_some (g.cont c)) (operands_of nd.kind) k conts is))
    where
      by_case : (o : Option Cont) → is_some o ≡ true → numbers_of (λ x. listed x.dest) (option_map (taken_by (Some n)) o) ≡ n ∷ []
      by_case None e = cc
      by_case (Some v) e = refl

  dest_untaken : (k : ℕ) → has_number k (operands_of nd.kind) ≡ false → numbers_of (λ x. listed x.dest) (touched (operands_of nd.kind) (taken_by (Some n)) g.cont k) ≡ dest_of g k
  dest_untaken k is = rw is refl

  was_free : (k : ℕ) → has_number k (operands_of nd.kind) ≡ true → dest_of g k ≡ []
  was_free k is = empty (dest_of g k) (none_of_any (λ c. not (is_empty (dest_of g c))) (operands_of nd.kind) k free is)
    where
      empty : (xs : List ℕ) → not (is_empty xs) ≡ false → xs ≡ []
      empty [] e = refl
      empty (x ∷ xs) e = cc

  operands : (a k : ℕ) → has_number k (numbers_of (λ x. operands_of x.kind) (with_entry g.node n (Some nd) a)) ≡ has_number a (numbers_of (λ x. listed x.dest) (touched (operands_of nd.kind) (taken_by (Some n)) g.cont k))
  operands a k = by_case (cases_eq a n) (has_number k (operands_of nd.kind)) refl
    where
      by_case : (a ≡ n) ⊎ (a ≢ n) → (h : Bool) → has_number k (operands_of nd.kind) ≡ h → has_number k (numbers_of (λ x. operands_of x.kind) (with_entry g.node n (Some nd) a)) ≡ has_number a (numbers_of (λ x. listed x.dest) (touched (operands_of nd.kind) (taken_by (Some n)) g.cont k))
      by_case (inl same) true is =
          rw same (ap (has_number k) (at_node (λ (x : Node). operands_of x.kind) k) ∙ (is ∙ sym (ap (has_number n) (dest_taken k is) ∙ ap (λ (t : Bool). t || false) (same_number n))))
      by_case (inl same) false is =
          rw same (ap (has_number k) (at_node (λ (x : Node). operands_of x.kind) k) ∙ (is ∙ sym (ap (has_number n) (dest_untaken k is) ∙ (sym (w.operands n k) ∙ nothing_of (λ (x : Node). operands_of x.kind) k))))
      by_case (inr other) true is =
          ap (has_number k) (at_other (λ (x : Node). operands_of x.kind) a other)
          ∙ (w.operands a k ∙ (ap (has_number a) (was_free k is) ∙ sym (ap (has_number a) (dest_taken k is) ∙ ap (λ (t : Bool). t || false) (ne_eqb n a (λ e. other (sym e))))))
      by_case (inr other) false is =
          ap (has_number k) (at_other (λ (x : Node). operands_of x.kind) a other)
          ∙ (w.operands a k ∙ sym (ap (has_number a) (dest_untaken k is)))

  all_named : (test : ℕ → Bool) (p : Node → List ℕ) → list_all test (p nd) ≡ true → (a : ℕ) → list_all test (numbers_of p (g.node a)) ≡ true → list_all test (numbers_of p (with_entry g.node n (Some nd) a)) ≡ true
  all_named test p new a old = by_case (cases_eq a n)
    where
      by_case : (a ≡ n) ⊎ (a ≢ n) → list_all test (numbers_of p (with_entry g.node n (Some nd) a)) ≡ true
      by_case (inl same) = rw (same, same_number n) new
      by_case (inr other) = rw (ne_eqb a n other) old

  fresh_node : (p : Node → List ℕ) → p nd ≡ [] → (a : ℕ) → numbers_of p (with_entry g.node n (Some nd) a) ≡ numbers_of p (g.node a)
  fresh_node p none a = fresh_kept p g.node n nd vacant none a

  block_kept : (p : Block → List ℕ) → ((v : Block) → p (holding n v) ≡ p v) → ((v : Block) → p (arriving_from n v) ≡ p v) → (b : ℕ) → numbers_of p (changed (holding n) nd.block arrived b) ≡ numbers_of p (g.block b)
  block_kept p same too b = kept p (holding n) nd.block arrived same b ∙ arrived_kept p too b

  arrivals : (a b : ℕ) → has_number b (numbers_of (λ x. arrivals_of x.kind) (with_entry g.node n (Some nd) a)) ≡ has_number a (numbers_of (λ x. x.arriving) (changed (holding n) nd.block arrived b))
  arrivals a b =
      by_case (cases_eq a n)
      ∙ sym (ap (has_number a) (kept (λ (x : Block). x.arriving) (holding n) nd.block arrived (λ v. refl) b)
      ∙ reached_at n (arrivals_of nd.kind) g.block b a (λ is. one_of_all (λ c. is_some (g.block c)) (arrivals_of nd.kind) b reached is) new)
    where
      new : IsNew n g.block
      new = is_new g n vacant w

      by_case : (a ≡ n) ⊎ (a ≢ n) → has_number b (numbers_of (λ x. arrivals_of x.kind) (with_entry g.node n (Some nd) a)) ≡ (has_number a (numbers_of (λ (x : Block). x.arriving) (g.block b)) || (has_number b (arrivals_of nd.kind) && (n == a)))
      by_case (inl same) =
          rw (same, same_number n, new b) (sym (and_true (has_number b (arrivals_of nd.kind))))
      by_case (inr other) =
          ap (has_number b) (at_other (λ (x : Node). arrivals_of x.kind) a other)
          ∙ (w.arrivals a b ∙ sym (rw (ne_eqb n a (λ e. other (sym e)), and_false (has_number b (arrivals_of nd.kind))) (or_false (has_number a (numbers_of (λ (x : Block). x.arriving) (g.block b))))))

  pub node_whole : IsWhole (with_node n nd g)
  node_whole =
      let none = no_partners nd.kind alone in
      record {
        edges = λ a b. ap (has_number b) (block_kept (λ x. x.after) (λ v. refl) (λ v. refl) a) ∙ (w.edges a b ∙ ap (has_number a) (sym (block_kept (λ x. x.before) (λ v. refl) (λ v. refl) b)));
        places = places;
        distinct = distinct;
        uses = λ a k. ap (has_number k) (fresh_node (λ x. listed x.cont) (ap listed no_cont) a) ∙ (w.uses a k ∙ ap (has_number a) (sym (touched_kept (λ (x : Cont). x.uses) (taken_by (Some n)) (operands_of nd.kind) g.cont (λ v. refl) k)));
        operands = operands;
        arrivals = arrivals;
        exits = λ a b. ap (has_number b) (fresh_node (λ x. entry_left x.kind) none.0 a) ∙ (w.exits a b ∙ ap (has_number a) (sym (fresh_node (λ x. exits_of x.kind) none.1 b)));
        entries = λ f b. w.entries f b ∙ ap (has_number f) (sym (block_kept (λ x. listed x.entry_of) (λ v. refl) (λ v. refl) b));
        variables = λ a. all_named (λ v. is_some (g.variable v)) (λ x. variables_of x.kind) variables a (w.variables a);
        functions = λ a. all_named (λ f. is_some (g.function f)) (λ x. functions_of x.kind) functions a (w.functions a);
        parameters = w.parameters;
        closed = w.closed;
        lambdas = w.lambdas;
        code = w.code;
      }

pub node_built : (g : FlowGraph) (n : ℕ) (nd : Node) → g.node n ≡ None → add_fault g nd.block nd.kind ≡ None → nd.cont ≡ None → partners_of nd.kind ≡ [] → IsWhole g → IsWhole (with_node n nd g)
node_built g n nd vacant allowed no_cont alone w =
    let first = passed (not ((is_block g nd.block && are_blocks g (arrivals_of nd.kind)) && are_named g nd.kind)) _ _ allowed in
    let second = passed (are_taken g (operands_of nd.kind)) _ _ first.1 in
    let there = both_true (is_block g nd.block && are_blocks g (arrivals_of nd.kind)) (are_named g nd.kind) first.0 in
    let held = both_hold (is_block g nd.block) (are_blocks g (arrivals_of nd.kind)) there.0 in
    let named = parts (are_conts g (operands_of nd.kind)) (are_variables g (variables_of nd.kind)) (are_functions g (functions_of nd.kind)) there.1 in
    node_whole g n nd vacant held.0 named.0 named.1 named.2 second.0 no_cont held.1 alone w
  where
    parts : (x y z : Bool) → ((x && y) && z) ≡ true → (x ≡ true) × (y ≡ true) × (z ≡ true)
    parts true true true e = (refl, refl, refl)
    parts true true false e = cc
    parts true false z e = cc
    parts false y z e = cc

-- a node that is added and taken away again
pub added_and_gone : {A : Type 0} (m : ℕ → Option A) (n : ℕ) (v : A) → m n ≡ None → with_entry (with_entry m n (Some v)) n None ≡ m
added_and_gone {A} m n v vacant = fun_ext (λ a. by_case a (cases_eq a n))
  where
    by_case : (a : ℕ) → (a ≡ n) ⊎ (a ≢ n) → with_entry (with_entry m n (Some v)) n None a ≡ m a
    by_case a (inl same) = rw (same, same_number n) (sym vacant)
    by_case a (inr other) = rw (ne_eqb a n other) refl
