-- A graph in which two parts name each other anew hangs together.
use Rattle.std.proofs.Common.{◌≡◌, ◌≢◌, ◌⊎◌, ℕ, Bool, true, false, not, ◌&&◌, ◌||◌, ◌==◌, List, [], ◌∷◌, ◌++◌, Option, Some, None, option_map, is_some, if◌then◌else◌, refl, sym, ap, ◌∙◌, inl, inr, eq-eqb, ne_eqb}
use Rattle.std.proofs.lemmas.Bool.{cases_eq}
use Rattle.icr_graph.specs.declared.nodes.NodeKind.{NodeKind}
use Rattle.icr_graph.specs.declared.nodes.NodeKind.TheVariants as kind
use Rattle.icr_graph.specs.declared.nodes.Extent.{Extent}
use Rattle.icr_graph.specs.declared.nodes.Leaving.{Leaving}
use Rattle.icr_graph.specs.declared.nodes.Node.{Node}
use Rattle.icr_graph.specs.declared.parts.Cont.{Cont}
use Rattle.icr_graph.specs.declared.parts.Block.{Block}
use Rattle.icr_graph.specs.declared.parts.Function.{Function}
use Rattle.icr_graph.specs.declared.parts.Assertion.{Assertion}
use Rattle.icr_graph.specs.Lists.{has_number, are_distinct, listed, those_there, numbers_of, changed}
use Rattle.icr_graph.specs.Kinds.{operands_of, arrivals_of, entry_left, exits_of, variables_of, functions_of, is_entry_kind, is_exit_kind}
use Rattle.icr_graph.specs.Plain.{FlowGraph, cont_of, uses_of, entries_of, entered_by, entry_left_at, exits_at}
use Rattle.icr_graph.specs.Whole.{Mutual, IsWhole, are_variables, are_functions}
use Rattle.icr_graph.specs.Building.{delivering_to, used_by, delivered, asserting, with_assertion, beginning_at, entry_of_function, entered_at, naming_entry, naming_exit, leaving_entry, left_by_exit, paired}
use Rattle.icr_graph.specs.Faults.{is_node, is_cont, is_function, is_block, is_empty, is_exit, is_entry, kind_passes, deliver_fault, entry_fault, pair_fault}
use Rattle.icr_graph.proofs.Maps.{same_number, swapped, and_comm, or_false, has_pushed, kept, pushed}
use Rattle.icr_graph.proofs.Allowed.{passed, both_true}

-- a number more where one is changed
pub pushed_at : {A : Type 0} (p : A → List ℕ) (F : A → A) (at : ℕ) (m : ℕ → Option A) (y : ℕ) → numbers_of p (option_map F (m at)) ≡ numbers_of p (m at) ++ y ∷ [] → (n c : ℕ) → has_number c (numbers_of p (changed F at m n)) ≡ (has_number c (numbers_of p (m n)) || ((n == at) && (y == c)))
pushed_at {A} p F at m y push n c = by_case (cases_eq n at)
  where
    by_case : (n ≡ at) ⊎ (n ≢ at) → has_number c (numbers_of p (changed F at m n)) ≡ (has_number c (numbers_of p (m n)) || ((n == at) && (y == c)))
    by_case (inl same) = rw (same, same_number at) (ap (has_number c) push ∙ has_pushed c y (numbers_of p (m at)))
    by_case (inr other) = rw (ne_eqb n at other) (sym (or_false (has_number c (numbers_of p (m n)))))

-- links that are mutual stay so with one more on both sides
pub one_more : (there back new_there new_back : ℕ → List ℕ) (x y : ℕ) → Mutual there back
    → ((a b : ℕ) → has_number b (new_there a) ≡ (has_number b (there a) || ((a == x) && (y == b))))
    → ((b a : ℕ) → has_number a (new_back b) ≡ (has_number a (back b) || ((b == y) && (x == a))))
    → Mutual new_there new_back
one_more there back new_there new_back x y w t s a b = t a b ∙ (rw (w a b, swapped a x, swapped y b, and_comm (x == a) (b == y)) (sym (s b a)))

-- where nothing was, one number is a number more
first_of : (xs : List ℕ) (y : ℕ) → not (is_empty xs) ≡ false → y ∷ [] ≡ xs ++ y ∷ []
first_of [] y h = refl
first_of (x ∷ xs) y h = cc

-- ---- a delivery

pub delivered_whole : (g : FlowGraph) (n k : ℕ) → deliver_fault g n k ≡ None → IsWhole g → IsWhole (delivered n k g)
delivered_whole g n k allowed w =
    let first = passed (not (is_node g n && is_cont g k)) _ _ allowed in
    let second = passed (not (is_empty (cont_of g n))) _ _ first.1 in
    let live = both_true (is_node g n) (is_cont g k) first.0 in
    record {
      edges = w.edges;
      places = λ a b. ap (has_number b) (node_kept (λ x. x.block ∷ []) (λ v. refl) a) ∙ w.places a b;
      distinct = w.distinct;
      uses = one_more (cont_of g) (uses_of g) (λ a. numbers_of (λ x. listed x.cont) (changed (delivering_to k) n g.node a)) (λ c. numbers_of (λ x. x.uses) (changed (used_by n) k g.cont c)) n k w.uses
          (pushed_at (λ (x : Node). listed x.cont) (delivering_to k) n g.node k (push (g.node n) live.0 second.0))
          (pushed (λ (x : Cont). x.uses) (used_by n) k g.cont n (λ v. refl) live.1);
      operands = λ a c. ap (has_number c) (node_kept (λ x. operands_of x.kind) (λ v. refl) a) ∙ (w.operands a c ∙ ap (has_number a) (sym (cont_kept (λ x. listed x.dest) (λ v. refl) c)));
      arrivals = λ a b. ap (has_number b) (node_kept (λ x. arrivals_of x.kind) (λ v. refl) a) ∙ w.arrivals a b;
      exits = λ a b. ap (has_number b) (node_kept (λ x. entry_left x.kind) (λ v. refl) a) ∙ (w.exits a b ∙ ap (has_number a) (sym (node_kept (λ x. exits_of x.kind) (λ v. refl) b)));
      entries = w.entries;
      variables = λ a. ap (are_variables g) (node_kept (λ x. variables_of x.kind) (λ v. refl) a) ∙ w.variables a;
      functions = λ a. ap (are_functions g) (node_kept (λ x. functions_of x.kind) (λ v. refl) a) ∙ w.functions a;
      parameters = w.parameters;
      closed = w.closed;
      lambdas = w.lambdas;
      code = w.code;
    }
  where
    node_kept : (p : Node → List ℕ) → ((v : Node) → p (delivering_to k v) ≡ p v) → (a : ℕ) → numbers_of p (changed (delivering_to k) n g.node a) ≡ numbers_of p (g.node a)
    node_kept p same a = kept p (delivering_to k) n g.node same a

    cont_kept : (p : Cont → List ℕ) → ((v : Cont) → p (used_by n v) ≡ p v) → (a : ℕ) → numbers_of p (changed (used_by n) k g.cont a) ≡ numbers_of p (g.cont a)
    cont_kept p same a = kept p (used_by n) k g.cont same a

    push : (o : Option Node) → is_some o ≡ true → not (is_empty (numbers_of (λ x. listed x.cont) o)) ≡ false → numbers_of (λ x. listed x.cont) (option_map (delivering_to k) o) ≡ numbers_of (λ x. listed x.cont) o ++ k ∷ []
    push None live none = cc
    push (Some v) live none = first_of (listed v.cont) k none

-- ---- an assertion

pub asserted_whole : (g : FlowGraph) (k : ℕ) (assertion : Assertion) → IsWhole g → IsWhole (with_assertion k assertion g)
asserted_whole g k assertion w =
    record {
      edges = w.edges;
      places = w.places;
      distinct = w.distinct;
      uses = λ a c. w.uses a c ∙ ap (has_number a) (sym (kept (λ (x : Cont). x.uses) (asserting assertion) k g.cont (λ v. refl) c));
      operands = λ a c. w.operands a c ∙ ap (has_number a) (sym (kept (λ (x : Cont). listed x.dest) (asserting assertion) k g.cont (λ v. refl) c));
      arrivals = w.arrivals;
      exits = w.exits;
      entries = w.entries;
      variables = w.variables;
      functions = w.functions;
      parameters = w.parameters;
      closed = w.closed;
      lambdas = w.lambdas;
      code = w.code;
    }

-- ---- an entry of a function

pub entered_whole : (g : FlowGraph) (f b : ℕ) → entry_fault g f b ≡ None → IsWhole g → IsWhole (entered_at f b g)
entered_whole g f b allowed w =
    let first = passed (not (is_function g f && is_block g b)) _ _ allowed in
    let second = passed (not (is_empty (entered_by g b))) _ _ first.1 in
    let live = both_true (is_function g f) (is_block g b) first.0 in
    record {
      edges = λ a c. ap (has_number c) (block_kept (λ x. x.after) (λ v. refl) a) ∙ (w.edges a c ∙ ap (has_number a) (sym (block_kept (λ x. x.before) (λ v. refl) c)));
      places = λ a c. w.places a c ∙ ap (has_number a) (sym (block_kept (λ x. x.nodes) (λ v. refl) c));
      distinct = λ c. ap are_distinct (block_kept (λ x. x.nodes) (λ v. refl) c) ∙ w.distinct c;
      uses = w.uses;
      operands = w.operands;
      arrivals = λ a c. w.arrivals a c ∙ ap (has_number a) (sym (block_kept (λ x. x.arriving) (λ v. refl) c));
      exits = w.exits;
      entries = one_more (entries_of g) (entered_by g) (λ a. numbers_of (λ x. x.entries) (changed (beginning_at b) f g.function a)) (λ c. numbers_of (λ x. listed x.entry_of) (changed (entry_of_function f) b g.block c)) f b w.entries
          (pushed (λ (x : Function). x.entries) (beginning_at b) f g.function b (λ v. refl) live.0)
          (pushed_at (λ (x : Block). listed x.entry_of) (entry_of_function f) b g.block f (push (g.block b) live.1 second.0));
      variables = w.variables;
      functions = λ a. functions_there (numbers_of (λ x. functions_of x.kind) (g.node a)) (w.functions a);
      parameters = λ a. ap (are_variables g) (kept (λ (x : Function). x.parameters) (beginning_at b) f g.function (λ v. refl) a) ∙ w.parameters a;
      closed = λ a. ap (are_variables g) (kept (λ (x : Function). x.closed) (beginning_at b) f g.function (λ v. refl) a) ∙ w.closed a;
      lambdas = functions_there (those_there g.lambdas) w.lambdas;
      code = functions_there (listed g.code) w.code;
    }
  where
    block_kept : (p : Block → List ℕ) → ((v : Block) → p (entry_of_function f v) ≡ p v) → (a : ℕ) → numbers_of p (changed (entry_of_function f) b g.block a) ≡ numbers_of p (g.block a)
    block_kept p same a = kept p (entry_of_function f) b g.block same a

    push : (o : Option Block) → is_some o ≡ true → not (is_empty (numbers_of (λ x. listed x.entry_of) o)) ≡ false → numbers_of (λ x. listed x.entry_of) (option_map (entry_of_function f) o) ≡ numbers_of (λ x. listed x.entry_of) o ++ f ∷ []
    push None live none = cc
    push (Some v) live none = first_of (listed v.entry_of) f none

    one_there : (a : ℕ) → is_some (changed (beginning_at b) f g.function a) ≡ is_some (g.function a)
    one_there a = by_case (a == f) (g.function a)
      where
        by_case : (t : Bool) (o : Option Function) → is_some (if t then option_map (beginning_at b) o else o) ≡ is_some o
        by_case true None = refl
        by_case true (Some v) = refl
        by_case false o = refl

    functions_there : (xs : List ℕ) → are_functions g xs ≡ true → are_functions (entered_at f b g) xs ≡ true
    functions_there [] h = refl
    functions_there (x ∷ xs) h = rw (one_there x) (both (is_some (g.function x)) (are_functions g xs) (are_functions (entered_at f b g) xs) h (functions_there xs))
      where
        both : (t u v : Bool) → (t && u) ≡ true → (u ≡ true → v ≡ true) → (t && v) ≡ true
        both true u v e ih = ih e
        both false u v e ih = cc

-- ---- an exit and its entry

module _ (p : NodeKind → List ℕ) (n : ℕ) where
  entry_named : ((l : Leaving) (e : Option ℕ) → p (kind.Exit l (Some n)) ≡ p (kind.Exit l e)) → (k : NodeKind) → p (naming_entry n k) ≡ p k
  entry_named same (kind.Ref l) = refl
  entry_named same (kind.Set v value) = refl
  entry_named same (kind.If test) = refl
  entry_named same (kind.Combination op operands) = refl
  entry_named same (kind.MvCombination function operands tail) = refl
  entry_named same (kind.Bind v value) = refl
  entry_named same (kind.Return value) = refl
  entry_named same (kind.Entry x exits) = refl
  entry_named same (kind.Exit l entry) = same l entry

  exit_named : ((x : Extent) (es : List ℕ) → p (kind.Entry x (es ++ n ∷ [])) ≡ p (kind.Entry x es)) → (k : NodeKind) → p (naming_exit n k) ≡ p k
  exit_named same (kind.Ref l) = refl
  exit_named same (kind.Set v value) = refl
  exit_named same (kind.If test) = refl
  exit_named same (kind.Combination op operands) = refl
  exit_named same (kind.MvCombination function operands tail) = refl
  exit_named same (kind.Bind v value) = refl
  exit_named same (kind.Return value) = refl
  exit_named same (kind.Entry x exits) = same x exits
  exit_named same (kind.Exit l entry) = refl

entry_pushed : (n : ℕ) (k : NodeKind) → is_exit_kind k ≡ true → not (is_empty (entry_left k)) ≡ false → entry_left (naming_entry n k) ≡ entry_left k ++ n ∷ []
entry_pushed n (kind.Ref l) is none = cc
entry_pushed n (kind.Set v value) is none = cc
entry_pushed n (kind.If test) is none = cc
entry_pushed n (kind.Combination op operands) is none = cc
entry_pushed n (kind.MvCombination function operands tail) is none = cc
entry_pushed n (kind.Bind v value) is none = cc
entry_pushed n (kind.Return value) is none = cc
entry_pushed n (kind.Entry x exits) is none = cc
entry_pushed n (kind.Exit l entry) is none = first_of (listed entry) n none

exit_pushed : (n : ℕ) (k : NodeKind) → is_entry_kind k ≡ true → exits_of (naming_exit n k) ≡ exits_of k ++ n ∷ []
exit_pushed n (kind.Ref l) is = cc
exit_pushed n (kind.Set v value) is = cc
exit_pushed n (kind.If test) is = cc
exit_pushed n (kind.Combination op operands) is = cc
exit_pushed n (kind.MvCombination function operands tail) is = cc
exit_pushed n (kind.Bind v value) is = cc
exit_pushed n (kind.Return value) is = cc
exit_pushed n (kind.Entry x exits) is = refl
exit_pushed n (kind.Exit l entry) is = cc

still_exit : (n : ℕ) (k : NodeKind) → is_exit_kind (naming_exit n k) ≡ is_exit_kind k
still_exit n (kind.Ref l) = refl
still_exit n (kind.Set v value) = refl
still_exit n (kind.If test) = refl
still_exit n (kind.Combination op operands) = refl
still_exit n (kind.MvCombination function operands tail) = refl
still_exit n (kind.Bind v value) = refl
still_exit n (kind.Return value) = refl
still_exit n (kind.Entry x exits) = refl
still_exit n (kind.Exit l entry) = refl

module _ (g : FlowGraph) (exit entry : ℕ) (is_ex : is_exit g exit ≡ true) (is_en : is_entry g entry ≡ true) (free : not (is_empty (entry_left_at g exit)) ≡ false) (w : IsWhole g) where
  abbrev between : ℕ → Option Node
  between = changed (left_by_exit exit) entry g.node

  pair_kept : (p : NodeKind → List ℕ) → ((l : Leaving) (e : Option ℕ) → p (kind.Exit l (Some entry)) ≡ p (kind.Exit l e)) → ((x : Extent) (es : List ℕ) → p (kind.Entry x (es ++ exit ∷ [])) ≡ p (kind.Entry x es)) → (a : ℕ) → numbers_of (λ (x : Node). p x.kind) (changed (leaving_entry entry) exit between a) ≡ numbers_of (λ (x : Node). p x.kind) (g.node a)
  pair_kept p at_exit at_entry a =
      kept (λ (x : Node). p x.kind) (leaving_entry entry) exit between (λ v. entry_named p entry at_exit v.kind) a
      ∙ kept (λ (x : Node). p x.kind) (left_by_exit exit) entry g.node (λ v. exit_named p exit at_entry v.kind) a

  rest_kept : (p : Node → List ℕ) → ((v : Node) → p (leaving_entry entry v) ≡ p v) → ((v : Node) → p (left_by_exit exit v) ≡ p v) → (a : ℕ) → numbers_of p (changed (leaving_entry entry) exit between a) ≡ numbers_of p (g.node a)
  rest_kept p one other a = kept p (leaving_entry entry) exit between one a ∙ kept p (left_by_exit exit) entry g.node other a

  exits_pushed : (o : Option Node) → kind_passes is_entry_kind o ≡ true → numbers_of (λ x. exits_of x.kind) (option_map (left_by_exit exit) o) ≡ numbers_of (λ x. exits_of x.kind) o ++ exit ∷ []
  exits_pushed None is = cc
  exits_pushed (Some v) is = exit_pushed exit v.kind is

  left_pushed : (o : Option Node) → kind_passes is_exit_kind o ≡ true → not (is_empty (numbers_of (λ x. entry_left x.kind) o)) ≡ false → numbers_of (λ x. entry_left x.kind) (option_map (leaving_entry entry) o) ≡ numbers_of (λ x. entry_left x.kind) o ++ entry ∷ []
  left_pushed None is none = cc
  left_pushed (Some v) is none = entry_pushed entry v.kind is none

  between_exit : (b : Bool) (o : Option Node) → kind_passes is_exit_kind o ≡ true → kind_passes is_exit_kind (if b then option_map (left_by_exit exit) o else o) ≡ true
  between_exit true None is = is
  between_exit true (Some v) is = still_exit exit v.kind ∙ is
  between_exit false o is = is

  between_left : (a : ℕ) → numbers_of (λ x. entry_left x.kind) (between a) ≡ entry_left_at g a
  between_left a = kept (λ (x : Node). entry_left x.kind) (left_by_exit exit) entry g.node (λ v. exit_named entry_left exit (λ x es. refl) v.kind) a

  pair_exits : Mutual (λ a. numbers_of (λ x. entry_left x.kind) (changed (leaving_entry entry) exit between a)) (λ b. numbers_of (λ x. exits_of x.kind) (changed (leaving_entry entry) exit between b))
  pair_exits =
      one_more (entry_left_at g) (exits_at g) (λ a. numbers_of (λ x. entry_left x.kind) (changed (leaving_entry entry) exit between a)) (λ b. numbers_of (λ x. exits_of x.kind) (changed (leaving_entry entry) exit between b)) exit entry w.exits
      (λ a b. pushed_at (λ (x : Node). entry_left x.kind) (leaving_entry entry) exit between entry
      (left_pushed (between exit) (between_exit (exit == entry) (g.node exit) is_ex) (ap (λ xs. not (is_empty xs)) (between_left exit) ∙ free)) a b
      ∙ ap (λ xs. has_number b xs || ((a == exit) && (entry == b))) (between_left a))
      (λ b a. ap (has_number a) (kept (λ (x : Node). exits_of x.kind) (leaving_entry entry) exit between (λ v. entry_named exits_of entry (λ l e. refl) v.kind) b)
      ∙ pushed_at (λ (x : Node). exits_of x.kind) (left_by_exit exit) entry g.node exit (exits_pushed (g.node entry) is_en) b a)

  pair_whole : IsWhole (paired exit entry g)
  pair_whole =
      record {
        edges = w.edges;
        places = λ a b. ap (has_number b) (rest_kept (λ x. x.block ∷ []) (λ v. refl) (λ v. refl) a) ∙ w.places a b;
        distinct = w.distinct;
        uses = λ a k. ap (has_number k) (rest_kept (λ x. listed x.cont) (λ v. refl) (λ v. refl) a) ∙ w.uses a k;
        operands = λ a k. ap (has_number k) (pair_kept operands_of (λ l e. refl) (λ x es. refl) a) ∙ w.operands a k;
        arrivals = λ a b. ap (has_number b) (pair_kept arrivals_of (λ l e. refl) (λ x es. refl) a) ∙ w.arrivals a b;
        exits = pair_exits;
        entries = w.entries;
        variables = λ a. ap (are_variables g) (pair_kept variables_of (λ l e. refl) (λ x es. refl) a) ∙ w.variables a;
        functions = λ a. ap (are_functions g) (pair_kept functions_of (λ l e. refl) (λ x es. refl) a) ∙ w.functions a;
        parameters = w.parameters;
        closed = w.closed;
        lambdas = w.lambdas;
        code = w.code;
      }

pub paired_whole : (g : FlowGraph) (exit entry : ℕ) → pair_fault g exit entry ≡ None → IsWhole g → IsWhole (paired exit entry g)
paired_whole g exit entry allowed w =
    let first = passed (not (is_exit g exit && is_entry g entry)) _ _ allowed in
    let second = passed (not (is_empty (entry_left_at g exit))) _ _ first.1 in
    let both = both_true (is_exit g exit) (is_entry g entry) first.0 in
    pair_whole g exit entry both.0 both.1 second.0 w
