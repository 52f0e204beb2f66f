-- What the steps of a call add: blocks, variables, continuations and functions, and edges. (This project's own.)
use Rattle.std.proofs.Common.{◌≡◌, ◌≢◌, ◌≤◌, ℕ, Bool, true, false, not, ◌&&◌, if◌then◌else◌, List, [], ◌∷◌, ◌++◌, length, Option, Some, None, option_map, is_some, refl, sym, ap, subst, ◌∙◌, arith}
use Rattle.std.specs.Prelude.{slice_get, Result, Ok, Err, IfOk, OnOk, OnErr}
use Rattle.std.proofs.lemmas.Option.{slice_get_past}
use Rattle.lisp_base.specs.declared.values.Place.{Place}
use Rattle.lisp_base.specs.declared.types.TypeSpec.{TypeSpec}
use Rattle.lisp_base.specs.Reading.{spec_of}
use Rattle.ir_ids.specs.Entries.{with_entry}
use Rattle.icr_graph.specs.declared.faults.EditFault.{EditFault}
use Rattle.icr_graph.specs.Faults.{is_block, is_edge, link_fault}
use Rattle.icr_graph.specs.declared.parts.Assertion.{Assertion}
use Rattle.icr_graph.specs.declared.parts.Block.{Block}
use Rattle.icr_graph.specs.declared.parts.Defined.{Defined}
use Rattle.icr_graph.specs.declared.parts.Function.{Function}
use Rattle.icr_graph.specs.declared.parts.Variable.{Variable}
use Rattle.icr_graph.specs.Lists.{changed, numbers_of}
use Rattle.icr_graph.specs.Edits.{followed_by, preceded_by, linked}
use Rattle.icr_graph.specs.Building.{empty_block, empty_cont, with_block, with_cont, with_variable, with_assertion, with_lambda, with_code, asserting, entry_of_function, beginning_at}
use Rattle.icr_graph.specs.Plain.{Slots, FlowGraph, graph_of, nodes_in, blocks_after}
use Rattle.graph_meaning.specs.Reading.{assertions_on}
use Rattle.form_graphs.specs.Spots.{Spot, first_of}
use Rattle.graph_building.specs.declared.builder.NewFunction.{NewFunction as Added}
use Rattle.graph_building.specs.Later.{Later, SameForm, Lasting}
use Rattle.graph_building.specs.Built.{Built, graph, spot, own_code, IsBegun, Beside, Begins, FreeCont, AssertedCont, GoesOn, ForksTo, NewVariable, NewFunction, NewLambda}
use Rattle.graph_building.specs.Steps.{AddsCont, AddsFunction, IsOpen, with_code_at}
use Rattle.graph_building.proofs.Entries.{entry_now, changed_now, changed_other, changed_reads, entry_reads}
use Rattle.graph_building.proofs.Later.{same_node_refl, same_block_refl, later_refl, end_lasts, ends_by_length, unasserted_lasts, asserted_lasts}
use Rattle.graph_building.proofs.Edits.{block_later, cont_later, asserted_later, variable_later, function_later, linked_later, forked_later}

-- ---- outcomes

-- what is so where it succeeds and where it fails
pub either_way : {T E : Type 0} (r : Result T E) (P : Type 0) → OnOk r P → OnErr r P → P
either_way (Ok x) P ok err = ok
either_way (Err e) P ok err = err

pub both_ok : {T E : Type 0} (r : Result T E) (P Q R : T → Type 0) → ((x : T) → P x → Q x → R x) → IfOk r P → IfOk r Q → IfOk r R
both_ok (Ok x) P Q R step p q = step x p q
both_ok (Err e) P Q R step p q = tt

-- ---- places

pub spot_is : (b : Built) (block : ℕ) (ns : List ℕ) → b.block ≡ block → nodes_in (graph b) block ≡ ns → spot b ≡ record { block = block; index = length ns }
spot_is b block ns block_is nodes_are = rw (block_is, nodes_are) refl

-- it is later, of the same form, and nothing was added where nodes are added
pub beside_of : (a b : Built) → Later (graph a) (graph b) → SameForm (graph a) (graph b) → a.fresh ≤ b.fresh → b.block ≡ a.block → nodes_in (graph b) a.block ≡ nodes_in (graph a) a.block → Beside a b
beside_of a b later form fresh block nodes = record { grown = record { later = later; form = form; fresh = fresh }; same = spot_is b a.block _ block nodes }

-- what is so of a graph is so of one that equals it
pub later_at : (g h i : FlowGraph) → h ≡ i → Later g i → Later g h
later_at g h i same later = subst (λ (j : FlowGraph). Later g j) (sym same) later

-- what is kept of the form, as the edits say
pub form_at : (g h i : FlowGraph) → h ≡ i → i.size ≡ g.size → i.copies ≡ g.copies → i.lambdas ≡ g.lambdas → i.code ≡ g.code → i.defines ≡ g.defines → SameForm g h
form_at g h i same size copies lambdas code defines =
    record {
      size = ap (λ (j : FlowGraph). j.size) same ∙ size;
      copies = ap (λ (j : FlowGraph). j.copies) same ∙ copies;
      lambdas = ap (λ (j : FlowGraph). j.lambdas) same ∙ lambdas;
      code = ap (λ (j : FlowGraph). j.code) same ∙ code;
      defines = ap (λ (j : FlowGraph). j.defines) same ∙ defines;
    }

-- ---- a function

pub function_there : (g h : FlowGraph) (f n : ℕ) (function : Function) → function.entries ≡ [] → h ≡ with_code_at f n function g → h.function f ≡ Some (record function { entries = n ∷ [] })
function_there g h f n function none is =
    ap (λ (j : FlowGraph). j.function f) is
    ∙ changed_now (beginning_at n) f (with_entry g.function f (Some function))
    ∙ ap (option_map (beginning_at n)) (entry_now g.function f (Some function))
    ∙ ap (λ (entries : List ℕ). Some (record function { entries = entries ++ n ∷ [] })) none

-- ---- edges

-- a fault where it is tested whether both are there
both_there : (x y linked_already : Bool) (f g : EditFault) → (if not (x && y) then Some f else if linked_already then Some g else None) ≡ None → x ≡ true
both_there true y l f g e = refl
both_there false y l f g e = cc

pub linked_after : (g : FlowGraph) (from to : ℕ) → link_fault g from to ≡ None → blocks_after (linked from to g) from ≡ blocks_after g from ++ to ∷ []
linked_after g from to allowed =
    changed_reads (λ (x : Block). x.after) (preceded_by from) to (changed (followed_by to) from g.block) from (λ x. refl)
    ∙ ap (numbers_of (λ (x : Block). x.after)) (changed_now (followed_by to) from g.block)
    ∙ one_more (g.block from) (both_there (is_block g from) (is_block g to) (is_edge g from to) _ _ allowed)
  where
    one_more : (o : Option Block) → is_some o ≡ true → numbers_of (λ (x : Block). x.after) (option_map (followed_by to) o) ≡ numbers_of (λ (x : Block). x.after) o ++ to ∷ []
    one_more None e = cc
    one_more (Some x) e = refl

pub linked_after_other : (g : FlowGraph) (from to n : ℕ) → n ≢ from → blocks_after (linked from to g) n ≡ blocks_after g n
linked_after_other g from to n other =
    changed_reads (λ (x : Block). x.after) (preceded_by from) to (changed (followed_by to) from g.block) n (λ x. refl)
    ∙ ap (numbers_of (λ (x : Block). x.after)) (changed_other (followed_by to) from g.block n other)

pub linked_nodes : (g : FlowGraph) (from to n : ℕ) → nodes_in (linked from to g) n ≡ nodes_in g n
linked_nodes g from to n =
    changed_reads (λ (x : Block). x.nodes) (preceded_by from) to (changed (followed_by to) from g.block) n (λ x. refl)
    ∙ changed_reads (λ (x : Block). x.nodes) (followed_by to) from g.block n (λ x. refl)

past_the_end : (xs ys : List ℕ) → ys ≡ xs → slice_get ys (length xs) ≡ None
past_the_end xs ys same = ap (λ (zs : List ℕ). slice_get zs (length xs)) same ∙ slice_get_past xs (length xs) (omega arith)

pub lambda_later : (g : FlowGraph) (f : ℕ) → Later g (with_lambda f g)
lambda_later g f =
    record {
      nodes = λ n x e. (x, e, same_node_refl x);
      conts = λ k x e. (x, e, refl);
      blocks = λ b x e. (x, e, same_block_refl x);
      functions = λ h x e. e;
      variables = λ v x e. e;
    }

module _ (a b : Built) (block_is : b.block ≡ a.block) where
  -- ---- blocks and variables

  pub block_beside : (n : ℕ) → b.fresh ≡ a.fresh → (graph a).block n ≡ None → graph b ≡ with_block n (graph a) → Beside a b
  block_beside n fresh vacant is =
      beside_of a b (later_at _ _ _ is (block_later (graph a) n vacant)) (form_at _ _ _ is refl refl refl refl refl) (omega arith) block_is
      (ap (λ (g : FlowGraph). nodes_in g a.block) is ∙ entry_reads (λ (x : Block). x.nodes) (graph a).block n empty_block a.block vacant refl)

  pub new_variable : (v : ℕ) (variable : Variable) → b.fresh ≡ a.fresh → (graph a).variable v ≡ None → graph b ≡ with_variable v variable (graph a) → NewVariable variable a b v
  new_variable v variable fresh vacant is =
      record {
        beside = beside_of a b (later_at _ _ _ is (variable_later (graph a) v variable vacant)) (form_at _ _ _ is refl refl refl refl refl) (omega arith) block_is (ap (λ (g : FlowGraph). nodes_in g a.block) is);
        there = λ h later. later.variables v variable (ap (λ (g : FlowGraph). g.variable v) is ∙ entry_now (graph a).variable v (Some variable));
      }

  -- ---- continuations

  pub new_cont : (k : ℕ) → AddsCont a b k → FreeCont a b k
  new_cont k adds =
      let there : (graph b).cont k ≡ Some empty_cont = ap (λ (g : FlowGraph). g.cont k) adds.is ∙ entry_now (graph a).cont k (Some empty_cont) in
      record {
        beside = beside_of a b (later_at _ _ _ adds.is (cont_later (graph a) k adds.vacant)) (form_at _ _ _ adds.is refl refl refl refl refl) (omega (arith, adds.above, adds.fresh)) block_is (ap (λ (g : FlowGraph). nodes_in g a.block) adds.is);
        above = adds.above;
        below = omega (arith, adds.fresh);
        lasts = unasserted_lasts (graph b) k empty_cont there (ap assertions_on there);
      }

  -- ---- functions

  pub new_function : (f n : ℕ) (function : Function) → function.entries ≡ [] → b.fresh ≡ a.fresh → AddsFunction function (graph a) (graph b) f n → NewFunction function a b f n
  new_function f n function none fresh adds =
      record {
        beside = beside_of a b (later_at _ _ _ adds.is (function_later (graph a) f n function adds.vacant adds.no_block)) (form_at _ _ _ adds.is refl refl refl refl refl) (omega arith) block_is
            (ap (λ (g : FlowGraph). nodes_in g a.block) adds.is ∙ same_nodes);
        there = λ h later. later.functions f _ (function_there (graph a) (graph b) f n function none adds.is);
      }
    where
      same_nodes : nodes_in (with_code_at f n function (graph a)) a.block ≡ nodes_in (graph a) a.block
      same_nodes =
          changed_reads (λ (x : Block). x.nodes) (entry_of_function f) n (with_entry (graph a).block n (Some empty_block)) a.block (λ x. refl)
          ∙ entry_reads (λ (x : Block). x.nodes) (graph a).block n empty_block a.block adds.no_block refl

  -- ---- the form

  pub new_lambda : (f : ℕ) → b.fresh ≡ a.fresh → graph b ≡ with_lambda f (graph a) → NewLambda f a b
  new_lambda f fresh is =
      record {
        later = later_at _ _ _ is (lambda_later (graph a) f);
        same = spot_is b a.block _ block_is (ap (λ (g : FlowGraph). nodes_in g a.block) is);
        fresh = fresh;
        size = ap (λ (g : FlowGraph). g.size) is;
        copies = ap (λ (g : FlowGraph). g.copies) is;
        lambdas = ap (λ (g : FlowGraph). g.lambdas) is;
        code = ap (λ (g : FlowGraph). g.code) is;
        defines = ap (λ (g : FlowGraph). g.defines) is;
      }

-- ---- a continuation with an assertion

pub new_asserted : (a m b : Built) (k : ℕ) (spec : TypeSpec) (place : Place) → AddsCont a m k → b.block ≡ m.block → b.fresh ≡ m.fresh →
    graph b ≡ with_assertion k (record { spec = spec; place = place; checked = true }) (graph m) → AssertedCont place (spec_of spec) a b k
new_asserted a m b k spec place adds block_is fresh_is is =
    let assertion : Assertion = record { spec = spec; place = place; checked = true } in
    let all : graph b ≡ with_assertion k assertion (with_cont k (graph a)) = is ∙ ap (with_assertion k assertion) adds.is in
    let there : (graph b).cont k ≡ Some (asserting assertion empty_cont) = ap (λ (g : FlowGraph). g.cont k) all ∙ changed_now (asserting assertion) k (with_entry (graph a).cont k (Some empty_cont)) ∙ ap (option_map (asserting assertion)) (entry_now (graph a).cont k (Some empty_cont)) in
    record {
      beside = beside_of a b (later_at _ _ _ all (asserted_later (graph a) k assertion adds.vacant)) (form_at _ _ _ all refl refl refl refl refl) (omega (arith, adds.above, adds.fresh, fresh_is)) (block_is ∙ adds.block) (ap (λ (g : FlowGraph). nodes_in g a.block) all);
      above = adds.above;
      below = omega (arith, adds.fresh, fresh_is);
      lasts = asserted_lasts (graph b) k place (spec_of spec) (assertion, ap assertions_on there, refl, refl, refl);
    }

-- ---- where nodes are added

pub begins : (a b : Built) (n : ℕ) → b.block ≡ n → b.fresh ≡ a.fresh → graph b ≡ graph a → IsOpen (graph a) n → Begins n a b
begins a b n block_is fresh is found =
    record {
      grown = record { later = later_at _ _ _ is (later_refl (graph a)); form = form_at _ _ _ is refl refl refl refl refl; fresh = omega arith };
      at = spot_is b n [] block_is (ap (λ (g : FlowGraph). nodes_in g n) is ∙ found.nodes);
    }

pub goes_on : (a b : Built) (to start : ℕ) → b.block ≡ start → b.fresh ≡ a.fresh → blocks_after (graph a) a.block ≡ [] → IsOpen (graph a) start → link_fault (graph a) a.block to ≡ None → graph b ≡ linked a.block to (graph a) → GoesOn to start a b
goes_on a b to start block_is fresh none found allowed is =
    record {
      grown = record { later = later_at _ _ _ is (linked_later (graph a) a.block none to); form = form_at _ _ _ is refl refl refl refl refl; fresh = omega arith };
      at = spot_is b start [] block_is (nodes_are start ∙ found.nodes);
      ends = ends_by_length (graph b) (spot a) to (past_the_end (nodes_in (graph a) a.block) _ (nodes_are a.block))
          (ap (λ (g : FlowGraph). blocks_after g a.block) is ∙ linked_after (graph a) a.block to allowed ∙ ap (λ (bs : List ℕ). bs ++ to ∷ []) none);
    }
  where
    nodes_are : (n : ℕ) → nodes_in (graph b) n ≡ nodes_in (graph a) n
    nodes_are n = ap (λ (g : FlowGraph). nodes_in g n) is ∙ linked_nodes (graph a) a.block to n

pub forks_to : (a b : Built) (yes_block no_block : ℕ) → b.block ≡ yes_block → b.fresh ≡ a.fresh → blocks_after (graph a) a.block ≡ [] → IsOpen (graph a) yes_block →
    link_fault (graph a) a.block yes_block ≡ None → link_fault (linked a.block yes_block (graph a)) a.block no_block ≡ None →
    graph b ≡ linked a.block no_block (linked a.block yes_block (graph a)) → ForksTo yes_block no_block a b
forks_to a b yes_block no_block block_is fresh none found allowed allowed_too is =
    record {
      grown = record { later = later_at _ _ _ is (forked_later (graph a) a.block none yes_block no_block); form = form_at _ _ _ is refl refl refl refl refl; fresh = omega arith };
      at = spot_is b yes_block [] block_is (nodes_are yes_block ∙ found.nodes);
      forks = λ p behind. subst (λ (q : Spot). Lasting (λ h. (slice_get (nodes_in h q.block) q.index ≡ None) × (blocks_after h q.block ≡ yes_block ∷ no_block ∷ [])) (graph b)) (sym behind)
          (end_lasts (graph b) (spot a) yes_block (no_block ∷ []) (past_the_end (nodes_in (graph a) a.block) _ (nodes_are a.block)) after_is);
    }
  where
    nodes_are : (n : ℕ) → nodes_in (graph b) n ≡ nodes_in (graph a) n
    nodes_are n = ap (λ (g : FlowGraph). nodes_in g n) is ∙ linked_nodes (linked a.block yes_block (graph a)) a.block no_block n ∙ linked_nodes (graph a) a.block yes_block n

    after_is : blocks_after (graph b) a.block ≡ yes_block ∷ no_block ∷ []
    after_is =
        ap (λ (g : FlowGraph). blocks_after g a.block) is
        ∙ linked_after (linked a.block yes_block (graph a)) a.block no_block allowed_too
        ∙ ap (λ (bs : List ℕ). bs ++ no_block ∷ []) (linked_after (graph a) a.block yes_block allowed ∙ ap (λ (bs : List ℕ). bs ++ yes_block ∷ []) none)

-- ---- as the calls tell it

-- a new block is not after another, and no block is after it
pub block_after : (g : FlowGraph) (n b : ℕ) → g.block n ≡ None → blocks_after (with_block n g) b ≡ blocks_after g b
block_after g n b vacant = entry_reads (λ (x : Block). x.after) g.block n empty_block b vacant refl

module _ {E : Type 0} (a b : Built) (block_is : b.block ≡ a.block) (fresh_is : b.fresh ≡ a.fresh) where
  pub variable_told : (r : Result ℕ E) (variable : Variable) → IfOk r (λ v. (graph a).variable v ≡ None) → IfOk r (λ v. graph b ≡ with_variable v variable (graph a)) → IfOk r (λ v. NewVariable variable a b v)
  variable_told (Ok v) variable vacant is = new_variable a b block_is v variable fresh_is vacant is
  variable_told (Err e) variable vacant is = tt

pub cont_told : {E : Type 0} (a b : Built) (r : Result ℕ E) → IfOk r (AddsCont a b) → IfOk r (FreeCont a b)
cont_told a b (Ok k) adds = new_cont a b adds.block k adds
cont_told a b (Err e) adds = tt

pub lambda_told : {E : Type 0} (a b : Built) → b.block ≡ a.block → b.fresh ≡ a.fresh → (r : Result (Unit {0}) E) (f : ℕ) → OnOk r (graph b ≡ with_lambda f (graph a)) → OnOk r (NewLambda f a b)
lambda_told a b block_is fresh_is (Ok u) f is = new_lambda a b block_is f fresh_is is
lambda_told a b block_is fresh_is (Err e) f is = tt

pub function_told : {E : Type 0} (a b : Built) → b.block ≡ a.block → b.fresh ≡ a.fresh → (r : Result Added E) (function : Function) → function.entries ≡ [] →
    IfOk r (λ f. AddsFunction function (graph a) (graph b) f.function f.block) → IfOk r (λ f. NewFunction function a b f.function f.block)
function_told a b block_is fresh_is (Ok f) function none adds = new_function a b block_is f.function f.block function none fresh_is adds
function_told a b block_is fresh_is (Err e) function none adds = tt

-- ---- a graph that is begun

pub code_after : (g : FlowGraph) (f n : ℕ) (function : Function) (b : ℕ) → g.block n ≡ None → blocks_after (with_code_at f n function g) b ≡ blocks_after g b
code_after g f n function b vacant =
    changed_reads (λ (x : Block). x.after) (entry_of_function f) n (with_entry g.block n (Some empty_block)) b (λ x. refl)
    ∙ entry_reads (λ (x : Block). x.after) g.block n empty_block b vacant refl

code_begins : (g : FlowGraph) (f n : ℕ) (function : Function) → nodes_in (with_code_at f n function g) n ≡ []
code_begins g f n function =
    changed_reads (λ (x : Block). x.nodes) (entry_of_function f) n (with_entry g.block n (Some empty_block)) n (λ x. refl)
    ∙ ap (numbers_of (λ (x : Block). x.nodes)) (entry_now g.block n (Some empty_block))

-- a graph with nothing in it
abbrev pub nothing : (size copies : ℕ) → Option Defined → Slots
nothing size copies defines =
    record { nodes = []; conts = []; blocks = []; functions = []; variables = []; size = size; copies = copies; lambdas = []; code = None; defines = defines }

pub is_begun : (b : Built) (size copies : ℕ) (defines : Option Defined) (place : Place) (function : Function) (m : FlowGraph) (f n : ℕ) → b.block ≡ n → function ≡ record (own_code place 0) { entries = [] } →
    AddsFunction function (graph_of (nothing size copies defines)) m f n → graph b ≡ with_code f m → IsBegun size copies defines place b
is_begun b size copies defines place function m f n block_is function_is adds is =
    record {
      size = ap (λ (g : FlowGraph). g.size) all;
      copies = ap (λ (g : FlowGraph). g.copies) all;
      lambdas = ap (λ (g : FlowGraph). g.lambdas) all;
      defines = ap (λ (g : FlowGraph). g.defines) all;
      code = f;
      is = ap (λ (g : FlowGraph). g.code) all;
      function = λ h later. later.functions f _ there;
      at = spot_is b n [] block_is (ap (λ (g : FlowGraph). nodes_in g n) all ∙ code_begins (graph_of (nothing size copies defines)) f n function) ∙ ap first_of (sym block_is);
    }
  where
    all : graph b ≡ with_code f (with_code_at f n function (graph_of (nothing size copies defines)))
    all = is ∙ ap (with_code f) adds.is

    there : (graph b).function f ≡ Some (own_code place b.block)
    there =
        ap (λ (g : FlowGraph). g.function f) is
        ∙ function_there (graph_of (nothing size copies defines)) m f n function (ap (λ (x : Function). x.entries) function_is) adds.is
        ∙ ap (λ (x : Function). Some (record x { entries = n ∷ [] })) function_is
        ∙ ap (λ (block : ℕ). Some (own_code place block)) (sym block_is)
