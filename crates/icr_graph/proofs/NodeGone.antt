-- A node is gone, and every link to it.
use Rattle.std.proofs.Common.{◌≡◌, ◌≢◌, ◌⊎◌, ℕ, Bool, true, false, not, ◌&&◌, ◌||◌, ◌==◌, List, [], ◌∷◌, ◌++◌, Option, Some, None, option_map, is_some, if◌then◌else◌, refl, sym, ap, ◌∙◌, subst, inl, inr, eq-eqb, ne_eqb}
use Rattle.std.specs.List.{list_all}
use Rattle.std.proofs.Math.Path.{fun_ext}
use Rattle.std.proofs.lemmas.Bool.{cases_eq}
use Rattle.ir_ids.specs.Entries.{with_entry}
use Rattle.icr_graph.specs.declared.nodes.NodeKind.{NodeKind}
use Rattle.icr_graph.specs.declared.nodes.NodeKind.TheVariants as kind
use Rattle.icr_graph.specs.declared.nodes.Node.{Node}
use Rattle.icr_graph.specs.declared.parts.Cont.{Cont}
use Rattle.icr_graph.specs.declared.parts.Block.{Block}
use Rattle.icr_graph.specs.Lists.{has_number, are_distinct, without, other_than, listed, numbers_of, changed, touched, each}
use Rattle.icr_graph.specs.Kinds.{operands_of, arrivals_of, entry_left, exits_of, partners_of, apart_from, variables_of, functions_of}
use Rattle.icr_graph.specs.Plain.{FlowGraph, nodes_in, arriving_at, block_of, cont_of, operands_at, arrivals_at, entry_left_at, exits_at, variables_at, functions_at, uses_of, dest_of}
use Rattle.icr_graph.specs.Whole.{Mutual, IsWhole, are_variables, are_functions}
use Rattle.icr_graph.specs.Edits.{alone, not_used_by, not_taken_by, not_holding, no_arrival_of, without_node}
use Rattle.icr_graph.specs.Removal.{taken_out}
use Rattle.icr_graph.proofs.Maps.{same_number, swapped, or_false, and_false, and_true, has_without}
use Rattle.icr_graph.proofs.Distinct.{without_distinct}
use Rattle.icr_graph.proofs.Touched.{touched_all, touch_one, without_none, other_than_none, not_holding_twice}

-- ---- the numbers that are read where every entry is changed and one is gone

-- of the entry that is gone nothing is read, of the others what is read stays
numbers_gone : {A : Type 0} (p : A → List ℕ) (F : A → A) (m : ℕ → Option A) (n : ℕ) → ((v : A) → p (F v) ≡ p v) → (a c : ℕ) → has_number c (numbers_of p (with_entry (each F m) n None a)) ≡ (has_number c (numbers_of p (m a)) && not (a == n))
numbers_gone {A} p F m n same a c = by_case (a == n) (m a)
  where
    by_case : (b : Bool) (o : Option A) → has_number c (numbers_of p (if b then None else option_map F o)) ≡ (has_number c (numbers_of p o) && not b)
    by_case true o = sym (and_false (has_number c (numbers_of p o)))
    by_case false None = refl
    by_case false (Some v) = ap (has_number c) (same v) ∙ sym (and_true (has_number c (p v)))

-- every entry loses a number
numbers_less : {A : Type 0} (p : A → List ℕ) (F : A → A) (m : ℕ → Option A) (n : ℕ) → ((v : A) (c : ℕ) → has_number c (p (F v)) ≡ (has_number c (p v) && not (c == n))) → (a c : ℕ) → has_number c (numbers_of p (each F m a)) ≡ (has_number c (numbers_of p (m a)) && not (c == n))
numbers_less {A} p F m n less a c = by_case (m a)
  where
    by_case : (o : Option A) → has_number c (numbers_of p (option_map F o)) ≡ (has_number c (numbers_of p o) && not (c == n))
    by_case None = refl
    by_case (Some v) = less v c

numbers_kept : {A : Type 0} (p : A → List ℕ) (F : A → A) (m : ℕ → Option A) → ((v : A) → p (F v) ≡ p v) → (a : ℕ) → numbers_of p (each F m a) ≡ numbers_of p (m a)
numbers_kept {A} p F m same a = by_case (m a)
  where
    by_case : (o : Option A) → numbers_of p (option_map F o) ≡ numbers_of p o
    by_case None = refl
    by_case (Some v) = same v

has_other_than : (n : ℕ) (o : Option ℕ) (c : ℕ) → has_number c (listed (other_than n o)) ≡ (has_number c (listed o) && not (c == n))
has_other_than n None c = refl
has_other_than n (Some m) c = by_case (cases_eq m n)
  where
    apart : m ≢ n → (m ≡ c) ⊎ (m ≢ c) → ((m == c) || false) ≡ (((m == c) || false) && not (c == n))
    apart other (inl is) = rw (← is, same_number m, ne_eqb m n other) refl
    apart other (inr is_not) = rw (ne_eqb m c is_not) refl

    gone : (b : Bool) → false ≡ ((b || false) && not b)
    gone true = refl
    gone false = refl

    by_case : (m ≡ n) ⊎ (m ≢ n) → has_number c (listed (other_than n (Some m))) ≡ (((m == c) || false) && not (c == n))
    by_case (inl same) = rw (same, same_number n, swapped c n) (gone (n == c))
    by_case (inr other) = rw (ne_eqb m n other) (apart other (cases_eq m c))

-- ---- what a change by `apart_from` leaves

operands_apart : (n : ℕ) (k : NodeKind) → operands_of (apart_from n k) ≡ operands_of k
operands_apart n (kind.Ref l) = refl
operands_apart n (kind.Set v value) = refl
operands_apart n (kind.If test) = refl
operands_apart n (kind.Combination op operands) = refl
operands_apart n (kind.MvCombination function operands tail) = refl
operands_apart n (kind.Bind v value) = refl
operands_apart n (kind.Return value) = refl
operands_apart n (kind.Entry x exits) = refl
operands_apart n (kind.Exit l entry) = refl

arrivals_apart : (n : ℕ) (k : NodeKind) → arrivals_of (apart_from n k) ≡ arrivals_of k
arrivals_apart n (kind.Ref l) = refl
arrivals_apart n (kind.Set v value) = refl
arrivals_apart n (kind.If test) = refl
arrivals_apart n (kind.Combination op operands) = refl
arrivals_apart n (kind.MvCombination function operands tail) = refl
arrivals_apart n (kind.Bind v value) = refl
arrivals_apart n (kind.Return value) = refl
arrivals_apart n (kind.Entry x exits) = refl
arrivals_apart n (kind.Exit l entry) = refl

variables_apart : (n : ℕ) (k : NodeKind) → variables_of (apart_from n k) ≡ variables_of k
variables_apart n (kind.Ref l) = refl
variables_apart n (kind.Set v value) = refl
variables_apart n (kind.If test) = refl
variables_apart n (kind.Combination op operands) = refl
variables_apart n (kind.MvCombination function operands tail) = refl
variables_apart n (kind.Bind v value) = refl
variables_apart n (kind.Return value) = refl
variables_apart n (kind.Entry x exits) = refl
variables_apart n (kind.Exit l entry) = refl

functions_apart : (n : ℕ) (k : NodeKind) → functions_of (apart_from n k) ≡ functions_of k
functions_apart n (kind.Ref l) = refl
functions_apart n (kind.Set v value) = refl
functions_apart n (kind.If test) = refl
functions_apart n (kind.Combination op operands) = refl
functions_apart n (kind.MvCombination function operands tail) = refl
functions_apart n (kind.Bind v value) = refl
functions_apart n (kind.Return value) = refl
functions_apart n (kind.Entry x exits) = refl
functions_apart n (kind.Exit l entry) = refl

entry_apart : (n : ℕ) (k : NodeKind) (c : ℕ) → has_number c (entry_left (apart_from n k)) ≡ (has_number c (entry_left k) && not (c == n))
entry_apart n (kind.Ref l) c = refl
entry_apart n (kind.Set v value) c = refl
entry_apart n (kind.If test) c = refl
entry_apart n (kind.Combination op operands) c = refl
entry_apart n (kind.MvCombination function operands tail) c = refl
entry_apart n (kind.Bind v value) c = refl
entry_apart n (kind.Return value) c = refl
entry_apart n (kind.Entry x exits) c = refl
entry_apart n (kind.Exit l entry) c = has_other_than n entry c

exits_apart : (n : ℕ) (k : NodeKind) (c : ℕ) → has_number c (exits_of (apart_from n k)) ≡ (has_number c (exits_of k) && not (c == n))
exits_apart n (kind.Ref l) c = refl
exits_apart n (kind.Set v value) c = refl
exits_apart n (kind.If test) c = refl
exits_apart n (kind.Combination op operands) c = refl
exits_apart n (kind.MvCombination function operands tail) c = refl
exits_apart n (kind.Bind v value) c = refl
exits_apart n (kind.Return value) c = refl
exits_apart n (kind.Entry x exits) c = has_without c n exits
exits_apart n (kind.Exit l entry) c = refl

-- both ends of a link lose the node, or the node is gone and what it names loses it
module _ (g : FlowGraph) (n : ℕ) where
  -- links from nodes to parts of another kind
  from_node : {A : Type 0} (p : Node → List ℕ) (q : A → List ℕ) (F : A → A) (m : ℕ → Option A) → ((v : Node) → p (alone n v) ≡ p v) → ((v : A) (c : ℕ) → has_number c (q (F v)) ≡ (has_number c (q v) && not (c == n))) → Mutual (λ a. numbers_of p (g.node a)) (λ b. numbers_of q (m b)) → Mutual (λ a. numbers_of p (with_entry (each (alone n) g.node) n None a)) (λ b. numbers_of q (each F m b))
  from_node p q F m same less both a b =
      numbers_gone p (alone n) g.node n same a b
      ∙ (ap (λ (t : Bool). t && not (a == n)) (both a b)
      ∙ sym (numbers_less q F m n less b a))

  -- both ends are nodes: the link stays where neither end is the node
  between : (p : Node → List ℕ) → ((v : Node) (c : ℕ) → has_number c (p (alone n v)) ≡ (has_number c (p v) && not (c == n))) → (a c : ℕ) → has_number c (numbers_of p (with_entry (each (alone n) g.node) n None a)) ≡ ((has_number c (numbers_of p (g.node a)) && not (c == n)) && not (a == n))
  between p less a c = by_case (a == n) (g.node a)
    where
      by_case : (b : Bool) (o : Option Node) → has_number c (numbers_of p (if b then None else option_map (alone n) o)) ≡ ((has_number c (numbers_of p o) && not (c == n)) && not b)
      by_case true o = sym (and_false (has_number c (numbers_of p o) && not (c == n)))
      by_case false None = refl
      by_case false (Some v) = less v c ∙ sym (and_true (has_number c (p v) && not (c == n)))

pub and_swap : (x y z : Bool) → ((x && y) && z) ≡ ((x && z) && y)
and_swap true true true = refl
and_swap true true false = refl
and_swap true false true = refl
and_swap true false false = refl
and_swap false y z = refl

-- what held of all numbers that are read still does
still_all : (test : ℕ → Bool) (p : Node → List ℕ) (n : ℕ) (m : ℕ → Option Node) → ((v : Node) → p (alone n v) ≡ p v) → (a : ℕ) → list_all test (numbers_of p (m a)) ≡ true → list_all test (numbers_of p (with_entry (each (alone n) m) n None a)) ≡ true
still_all test p n m same a = by_case (a == n) (m a)
  where
    by_case : (b : Bool) (o : Option Node) → list_all test (numbers_of p o) ≡ true → list_all test (numbers_of p (if b then None else option_map (alone n) o)) ≡ true
    by_case true o h = refl
    by_case false None h = refl
    by_case false (Some v) h = ap (list_all test) (same v) ∙ h

pub without_node_whole : (g : FlowGraph) (n : ℕ) → IsWhole g → IsWhole (without_node n g)
without_node_whole g n w =
    record {
      edges = λ a b. ap (has_number b) (block_kept (λ x. x.after) (λ v. refl) (λ v. refl) a) ∙ (w.edges a b ∙ ap (has_number a) (sym (block_kept (λ x. x.before) (λ v. refl) (λ v. refl) b)));
      places = from_node g n (λ x. x.block ∷ []) (λ x. x.nodes) (not_holding n) (each (no_arrival_of n) g.block) (λ v. refl) (λ v c. has_without c n v.nodes) (λ a b. w.places a b ∙ ap (has_number a) (sym (numbers_kept (λ (x : Block). x.nodes) (no_arrival_of n) g.block (λ v. refl) b)));
      distinct = still_distinct;
      uses = from_node g n (λ x. listed x.cont) (λ x. x.uses) (not_used_by n) (each (not_taken_by n) g.cont) (λ v. refl) (λ v c. has_without c n v.uses) (λ a b. w.uses a b ∙ ap (has_number a) (sym (numbers_kept (λ (x : Cont). x.uses) (not_taken_by n) g.cont (λ v. refl) b)));
      operands = λ a b. from_node g n (λ x. operands_of x.kind) (λ x. listed x.dest) (not_taken_by n) g.cont (λ v. operands_apart n v.kind) (λ v c. has_other_than n v.dest c) w.operands a b ∙ ap (has_number a) (sym (numbers_kept (λ (x : Cont). listed x.dest) (not_used_by n) (each (not_taken_by n) g.cont) (λ v. refl) b));
      arrivals = λ a b. from_node g n (λ x. arrivals_of x.kind) (λ x. x.arriving) (no_arrival_of n) g.block (λ v. arrivals_apart n v.kind) (λ v c. has_without c n v.arriving) w.arrivals a b ∙ ap (has_number a) (sym (numbers_kept (λ (x : Block). x.arriving) (not_holding n) (each (no_arrival_of n) g.block) (λ v. refl) b));
      exits = λ a b. between g n (λ x. entry_left x.kind) (λ v c. entry_apart n v.kind c) a b ∙ (ap (λ (t : Bool). (t && not (b == n)) && not (a == n)) (w.exits a b) ∙ (and_swap (has_number a (exits_at g b)) (not (b == n)) (not (a == n)) ∙ sym (between g n (λ x. exits_of x.kind) (λ v c. exits_apart n v.kind c) b a)));
      entries = λ a b. w.entries a b ∙ ap (has_number a) (sym (block_kept (λ x. listed x.entry_of) (λ v. refl) (λ v. refl) b));
      variables = λ a. still_all (λ v. is_some (g.variable v)) (λ x. variables_of x.kind) n g.node (λ v. variables_apart n v.kind) a (w.variables a);
      functions = λ a. still_all (λ f. is_some (g.function f)) (λ x. functions_of x.kind) n g.node (λ v. functions_apart n v.kind) a (w.functions a);
      parameters = w.parameters;
      closed = w.closed;
      lambdas = w.lambdas;
      code = w.code;
    }
  where
    block_kept : (p : Block → List ℕ) → ((v : Block) → p (not_holding n v) ≡ p v) → ((v : Block) → p (no_arrival_of n v) ≡ p v) → (b : ℕ) → numbers_of p (each (not_holding n) (each (no_arrival_of n) g.block) b) ≡ numbers_of p (g.block b)
    block_kept p h a b = numbers_kept p (not_holding n) (each (no_arrival_of n) g.block) h b ∙ numbers_kept p (no_arrival_of n) g.block a b

    still_distinct : (b : ℕ) → are_distinct (numbers_of (λ x. x.nodes) (each (not_holding n) (each (no_arrival_of n) g.block) b)) ≡ true
    still_distinct b = by_case (g.block b) (w.distinct b)
      where
        by_case : (o : Option Block) → are_distinct (numbers_of (λ x. x.nodes) o) ≡ true → are_distinct (numbers_of (λ x. x.nodes) (option_map (not_holding n) (option_map (no_arrival_of n) o))) ≡ true
        by_case None h = refl
        by_case (Some v) h = without_distinct n v.nodes h

-- ---- taking the named links out takes every link out

apart_none : (n : ℕ) (k : NodeKind) → has_number n (entry_left k) ≡ false → has_number n (exits_of k) ≡ false → apart_from n k ≡ k
apart_none n (kind.Ref l) e x = refl
apart_none n (kind.Set v value) e x = refl
apart_none n (kind.If test) e x = refl
apart_none n (kind.Combination op operands) e x = refl
apart_none n (kind.MvCombination function operands tail) e x = refl
apart_none n (kind.Bind v value) e x = refl
apart_none n (kind.Return value) e x = refl
apart_none n (kind.Entry y exits) e x = ap (λ (xs : List ℕ). kind.Entry y xs) (without_none n exits x)
apart_none n (kind.Exit l entry) e x = ap (λ (o : Option ℕ). kind.Exit l o) (other_than_none n entry e)

partner_none : (c : ℕ) (k : NodeKind) → has_number c (partners_of k) ≡ false → (has_number c (entry_left k) ≡ false) × (has_number c (exits_of k) ≡ false)
partner_none c (kind.Ref l) h = (refl, refl)
partner_none c (kind.Set v value) h = (refl, refl)
partner_none c (kind.If test) h = (refl, refl)
partner_none c (kind.Combination op operands) h = (refl, refl)
partner_none c (kind.MvCombination function operands tail) h = (refl, refl)
partner_none c (kind.Bind v value) h = (refl, refl)
partner_none c (kind.Return value) h = (refl, refl)
partner_none c (kind.Entry y exits) h = (refl, h)
partner_none c (kind.Exit l entry) h = (h, refl)

partner_absent : (c : ℕ) (o : Option Node) → has_number c (numbers_of (λ x. partners_of x.kind) o) ≡ false → (has_number c (numbers_of (λ x. entry_left x.kind) o) ≡ false) × (has_number c (numbers_of (λ x. exits_of x.kind) o) ≡ false)
partner_absent c None h = (refl, refl)
partner_absent c (Some nd) h = partner_none c nd.kind h

module _ (g : FlowGraph) (n : ℕ) (w : IsWhole g) where
  -- a node that is still there was there before
  was_there : (a : ℕ) (v : Node) → with_entry g.node n None a ≡ Some v → g.node a ≡ Some v
  was_there a v h = by_case (a == n) (g.node a) h
    where
      by_case : (b : Bool) (o : Option Node) → (if b then None else o) ≡ Some v → o ≡ Some v
      by_case true o e = cc
      by_case false o e = e

  nodes_out : touched (numbers_of (λ x. partners_of x.kind) (g.node n)) (alone n) (with_entry g.node n None) ≡ with_entry (each (alone n) g.node) n None
  nodes_out = touched_all (alone n) (with_entry g.node n None) (numbers_of (λ x. partners_of x.kind) (g.node n)) same ∙ fun_ext (λ a. by_case (a == n) (g.node a))
    where
      same : (a : ℕ) (v : Node) → with_entry g.node n None a ≡ Some v → has_number a (numbers_of (λ x. partners_of x.kind) (g.node n)) ≡ false → alone n v ≡ v
      same a v there none =
          let at : g.node a ≡ Some v = was_there a v there in
          let parts = partner_absent a (g.node n) none in
          let entry : has_number n (entry_left v.kind) ≡ false =
          ap (λ (o : Option Node). has_number n (numbers_of (λ (x : Node). entry_left x.kind) o)) (sym at)
          ∙ (w.exits a n ∙ parts.1) in
          let exits : has_number n (exits_of v.kind) ≡ false =
          ap (λ (o : Option Node). has_number n (numbers_of (λ (x : Node). exits_of x.kind) o)) (sym at)
          ∙ (sym (w.exits n a) ∙ parts.0) in
          ap (λ (k : NodeKind). record v { kind = k }) (apart_none n v.kind entry exits)

      by_case : (b : Bool) (o : Option Node) → option_map (alone n) (if b then None else o) ≡ (if b then None else option_map (alone n) o)
      by_case true o = refl
      by_case false o = refl

  -- where the node doesn't name a part, the part doesn't name the node
  not_named : {A : Type 0} (p : Node → List ℕ) (q : A → List ℕ) (m : ℕ → Option A) (k : ℕ) (v : A) → m k ≡ Some v → has_number k (numbers_of p (g.node n)) ≡ has_number n (numbers_of q (m k)) → has_number k (numbers_of p (g.node n)) ≡ false → has_number n (q v) ≡ false
  not_named {A} p q m k v at both none =
      ap (λ (o : Option A). has_number n (numbers_of q o)) (sym at) ∙ (sym both ∙ none)

  conts_out : touched (cont_of g n) (not_used_by n) (touched (operands_at g n) (not_taken_by n) g.cont) ≡ each (not_used_by n) (each (not_taken_by n) g.cont)
  conts_out =
      ap (touched (cont_of g n) (not_used_by n)) (touched_all (not_taken_by n) g.cont (operands_at g n) untaken)
      ∙ touched_all (not_used_by n) (each (not_taken_by n) g.cont) (cont_of g n) unused
    where
      untaken : (k : ℕ) (v : Cont) → g.cont k ≡ Some v → has_number k (operands_at g n) ≡ false → not_taken_by n v ≡ v
      untaken k v at none = ap (λ (d : Option ℕ). record v { dest = d }) (other_than_none n v.dest (not_named (λ x. operands_of x.kind) (λ x. listed x.dest) g.cont k v at (w.operands n k) none))

      unused : (k : ℕ) (v : Cont) → each (not_taken_by n) g.cont k ≡ Some v → has_number k (cont_of g n) ≡ false → not_used_by n v ≡ v
      unused k v at none = ap (λ (xs : List ℕ). record v { uses = xs }) (without_none n v.uses (not_named (λ x. listed x.cont) (λ x. x.uses) (each (not_taken_by n) g.cont) k v at (w.uses n k ∙ ap (has_number n) (sym (numbers_kept (λ (x : Cont). x.uses) (not_taken_by n) g.cont (λ u. refl) k))) none))

  blocks_out : touched (block_of g n) (not_holding n) (touched (arrivals_at g n) (no_arrival_of n) g.block) ≡ each (not_holding n) (each (no_arrival_of n) g.block)
  blocks_out =
      ap (touched (block_of g n) (not_holding n)) (touched_all (no_arrival_of n) g.block (arrivals_at g n) unreached)
      ∙ touched_all (not_holding n) (each (no_arrival_of n) g.block) (block_of g n) unheld
    where
      unreached : (k : ℕ) (v : Block) → g.block k ≡ Some v → has_number k (arrivals_at g n) ≡ false → no_arrival_of n v ≡ v
      unreached k v at none = ap (λ (xs : List ℕ). record v { arriving = xs }) (without_none n v.arriving (not_named (λ x. arrivals_of x.kind) (λ x. x.arriving) g.block k v at (w.arrivals n k) none))

      unheld : (k : ℕ) (v : Block) → each (no_arrival_of n) g.block k ≡ Some v → has_number k (block_of g n) ≡ false → not_holding n v ≡ v
      unheld k v at none = ap (λ (xs : List ℕ). record v { nodes = xs }) (without_none n v.nodes (not_named (λ x. x.block ∷ []) (λ x. x.nodes) (each (no_arrival_of n) g.block) k v at (w.places n k ∙ ap (has_number n) (sym (numbers_kept (λ (x : Block). x.nodes) (no_arrival_of n) g.block (λ u. refl) k))) none))

  -- a node that is there
  pub taken_out_is : (nd : Node) → g.node n ≡ Some nd → taken_out n nd g ≡ without_node n g
  taken_out_is nd live =
      let nodes : touched (partners_of nd.kind) (alone n) (with_entry g.node n None) ≡ with_entry (each (alone n) g.node) n None =
      ap (λ (o : Option Node). touched (numbers_of (λ (x : Node). partners_of x.kind) o) (alone n) (with_entry g.node n None)) (sym live) ∙ nodes_out in
      let conts : touched (listed nd.cont) (not_used_by n) (touched (operands_of nd.kind) (not_taken_by n) g.cont) ≡ each (not_used_by n) (each (not_taken_by n) g.cont) =
      ap (λ (o : Option Node). touched (numbers_of (λ (x : Node). listed x.cont) o) (not_used_by n) (touched (numbers_of (λ (x : Node). operands_of x.kind) o) (not_taken_by n) g.cont)) (sym live) ∙ conts_out in
      let blocks : changed (not_holding n) nd.block (touched (arrivals_of nd.kind) (no_arrival_of n) g.block) ≡ each (not_holding n) (each (no_arrival_of n) g.block) =
      touch_one (not_holding n) (not_holding_twice n) (touched (arrivals_of nd.kind) (no_arrival_of n) g.block) nd.block
      ∙ (ap (λ (o : Option Node). touched (numbers_of (λ (x : Node). x.block ∷ []) o) (not_holding n) (touched (numbers_of (λ (x : Node). arrivals_of x.kind) o) (no_arrival_of n) g.block)) (sym live) ∙ blocks_out) in
      rw (nodes, conts, blocks) refl

  -- a node that isn't there
  pub absent_is : g.node n ≡ None → g ≡ without_node n g
  absent_is absent =
      let gone : g.node ≡ with_entry g.node n None = fun_ext (λ a. by_case a (cases_eq a n)) in
      let nodes : g.node ≡ with_entry (each (alone n) g.node) n None =
      gone ∙ (ap (λ (o : Option Node). touched (numbers_of (λ (x : Node). partners_of x.kind) o) (alone n) (with_entry g.node n None)) (sym absent) ∙ nodes_out) in
      let conts : g.cont ≡ each (not_used_by n) (each (not_taken_by n) g.cont) =
      ap (λ (o : Option Node). touched (numbers_of (λ (x : Node). listed x.cont) o) (not_used_by n) (touched (numbers_of (λ (x : Node). operands_of x.kind) o) (not_taken_by n) g.cont)) (sym absent) ∙ conts_out in
      let blocks : g.block ≡ each (not_holding n) (each (no_arrival_of n) g.block) =
      ap (λ (o : Option Node). touched (numbers_of (λ (x : Node). x.block ∷ []) o) (not_holding n) (touched (numbers_of (λ (x : Node). arrivals_of x.kind) o) (no_arrival_of n) g.block)) (sym absent) ∙ blocks_out in
      ap (λ (m : ℕ → Option Node). record g { node = m }) nodes
      ∙ (ap (λ (m : ℕ → Option Cont). record g { node = with_entry (each (alone n) g.node) n None; cont = m }) conts
      ∙ ap (λ (m : ℕ → Option Block). record g { node = with_entry (each (alone n) g.node) n None; cont = each (not_used_by n) (each (not_taken_by n) g.cont); block = m }) blocks)
    where
      by_case : (a : ℕ) → (a ≡ n) ⊎ (a ≢ n) → g.node a ≡ with_entry g.node n None a
      by_case a (inl same) = rw (same, same_number n) absent
      by_case a (inr other) = rw (ne_eqb a n other) refl

pub taken_out_whole : (g : FlowGraph) (n : ℕ) → IsWhole g → (nd : Node) → g.node n ≡ Some nd → IsWhole (taken_out n nd g)
taken_out_whole g n w nd live = subst IsWhole (sym (taken_out_is g n w nd live)) (without_node_whole g n w)
