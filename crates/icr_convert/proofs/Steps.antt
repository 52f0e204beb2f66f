-- What stands between two moments of building, put together step by step. (This project's own.)
use Rattle.std.proofs.Common.{◌≡◌, ◌≤◌, ℕ, suc, List, [], Option, sym, subst, ◌∙◌, arith}
use Rattle.lisp_base.specs.declared.values.Place.{Place}
use Rattle.icr_graph.specs.declared.nodes.NodeKind.{NodeKind}
use Rattle.icr_graph.specs.declared.nodes.NodeKind.TheVariants as kind
use Rattle.icr_graph.specs.declared.nodes.Extent.{Extent}
use Rattle.icr_graph.specs.declared.nodes.Leaving.{Leaving as Way}
use Rattle.icr_graph.specs.declared.nodes.Charges.{Charges}
use Rattle.icr_graph.specs.Plain.{FlowGraph}
use Rattle.form_graphs.specs.Spots.{Spot, next, first_of, Here, Ends, Forks}
use Rattle.graph_building.specs.Later.{SameKind, Lasting}
use Rattle.graph_building.specs.Built.{Built, graph, spot, Beside, Begins, NewCont, NewNode, NewExit, GoesOn, ForksTo, passes_of}
use Rattle.icr_convert.specs.Converting.{Placed, Taken}
use Rattle.icr_convert.proofs.Growing.{later_trans, grown_refl, grown_trans, lasts}

-- ---- what stands, in turn

-- what stands is also something else
pub seen : {P Q : FlowGraph → ℕ → Spot → Spot → Type 0} {a b : Built} → ((h : FlowGraph) (low : ℕ) (p q : Spot) → P h low p q → Q h low p q) → Placed P a b → Placed Q a b
seen {a = a} {b = b} see first =
    record { grown = first.grown; stands = λ low above h later. see h low (spot a) (spot b) (first.stands low above h later) }

-- what lasts from before on is so beside it
pub held : {R : FlowGraph → Type 0} {P : FlowGraph → ℕ → Spot → Spot → Type 0} {a b : Built} → Lasting R (graph a) → Placed P a b → Placed (λ h low p q. R h × P h low p q) a b
held {a = a} {b = b} lasting first =
    record {
      grown = first.grown;
      stands = λ low above h later. (lasting h (later_trans (graph a) (graph b) h first.grown.later later), first.stands low above h later);
    }

-- nothing is added
pub nothing : {P : FlowGraph → ℕ → Spot → Spot → Type 0} (a : Built) → ((h : FlowGraph) (low : ℕ) (p : Spot) → P h low p p) → Placed P a a
nothing a is = record { grown = grown_refl a; stands = λ low above h later. is h low (spot a) }

-- one thing after another
pub in_turn : {P Q : FlowGraph → ℕ → Spot → Spot → Type 0} {a b c : Built} → Placed P a b → Placed Q b c → Placed (λ h low p q. (r : Spot) × P h low p r × Q h low r q) a c
in_turn {a = a} {b = b} {c = c} first second =
    record {
      grown = grown_trans first.grown second.grown;
      stands = λ low above h later.
          (spot b, first.stands low above h (later_trans (graph b) (graph c) h second.grown.later later), second.stands low (omega (arith, first.grown.fresh)) h later);
    }

-- something, before and after which nothing is added there
pub after_beside : {P : FlowGraph → ℕ → Spot → Spot → Type 0} {a b c : Built} → Beside a b → Placed P b c → Placed P a c
after_beside {P} {a} {b} {c} beside second =
    record {
      grown = grown_trans beside.grown second.grown;
      stands = λ low above h later.
          subst (λ (p : Spot). P h low p (spot c)) beside.same (second.stands low (omega (arith, beside.grown.fresh)) h later);
    }

pub before_beside : {P : FlowGraph → ℕ → Spot → Spot → Type 0} {a b c : Built} → Placed P a b → Beside b c → Placed P a c
before_beside {P} {a} {b} {c} first beside =
    record {
      grown = grown_trans first.grown beside.grown;
      stands = λ low above h later.
          subst (λ (q : Spot). P h low (spot a) q) (sym beside.same) (first.stands low above h (later_trans (graph b) (graph c) h beside.grown.later later));
    }

-- ---- nodes

-- a node that is no entry: where the premise is asked for, give (λ k e. e)
pub node_placed : {k : NodeKind} {to : Option ℕ} {pl : Place} {c : Charges} {a b : Built} {n : ℕ} → ((k' : NodeKind) → SameKind k k' → k' ≡ k) → NewNode k to pl c a b n →
    Placed (λ h low p q. Here h p k to pl c.cost (passes_of c) × (q ≡ next p)) a b
node_placed {to = to} {pl = pl} {c = c} {a = a} same node =
    record {
      grown = node.grown;
      stands = λ low above h later.
          let there = node.stands h later in
          (subst (λ (j : NodeKind). Here h (spot a) j to pl c.cost (passes_of c)) (same there.0 there.1) there.2, node.next);
    }

-- an entry, which may have got exits
pub entry_placed : {x : Extent} {to : Option ℕ} {pl : Place} {c : Charges} {a b : Built} {n : ℕ} → NewNode (kind.Entry x []) to pl c a b n →
    Placed (λ h low p q. (exits : List ℕ) × Here h p (kind.Entry x exits) to pl c.cost (passes_of c) × (q ≡ next p)) a b
entry_placed {to = to} {pl = pl} {c = c} {a = a} node =
    record {
      grown = node.grown;
      stands = λ low above h later.
          let there = node.stands h later in
          (there.1.0, subst (λ (j : NodeKind). Here h (spot a) j to pl c.cost (passes_of c)) there.1.1 there.2, node.next);
    }

pub exit_placed : {way : Way} {entry to : Option ℕ} {pl : Place} {c : Charges} {a b : Built} → NewExit way entry to pl c a b →
    Placed (λ h low p q. Here h p (kind.Exit way entry) to pl c.cost (passes_of c) × (q ≡ next p)) a b
exit_placed exit = record { grown = exit.grown; stands = λ low above h later. (exit.stands h later, exit.next) }

-- ---- blocks

pub goes_on : {after then : ℕ} {a b : Built} → GoesOn after then a b → Placed (λ h low p q. Ends h p after × (q ≡ first_of then)) a b
goes_on on = record { grown = on.grown; stands = λ low above h later. (on.ends h later, on.at) }

pub begun : {block : ℕ} {a b : Built} → Begins block a b → Placed (λ h low p q. q ≡ first_of block) a b
begun begins = record { grown = begins.grown; stands = λ low above h later. begins.at }

-- a node behind which a block goes on at one of two, other things having been added beside
pub forked : {k : NodeKind} {to : Option ℕ} {pl : Place} {c : Charges} {a b d e : Built} {n yes_block no_block : ℕ} → ((k' : NodeKind) → SameKind k k' → k' ≡ k) → NewNode k to pl c a b n →
    Beside b d → ForksTo yes_block no_block d e → Placed (λ h low p q. Here h p k to pl c.cost (passes_of c) × Forks h p yes_block no_block × (q ≡ first_of yes_block)) a e
forked {a = a} {b = b} {d = d} {e = e} same node beside fork =
    record {
      grown = grown_trans (grown_trans node.grown beside.grown) fork.grown;
      stands = λ low above h later.
          let first = node_placed same node in
          let then_later = later_trans (graph b) (graph d) h beside.grown.later (later_trans (graph d) (graph e) h fork.grown.later later) in
          ((first.stands low above h then_later).0, fork.forks (spot a) (sym node.next ∙ sym beside.same) h later, fork.at);
    }

-- ---- values that are taken

-- something that delivers to a new continuation
pub taken : {P : ℕ → FlowGraph → Type 0} (S : ℕ → FlowGraph → ℕ → Spot → Spot → Type 0) {a b c : Built} {k : ℕ} → NewCont P a b k → Placed (S k) b c → Taken P S a c k
taken S {b = b} {c = c} cont value =
    record {
      placed = after_beside cont.beside value;
      above = cont.above;
      below = omega (arith, cont.below, value.grown.fresh);
      lasts = lasts {g = graph b} {h = graph c} cont.lasts value.grown.later;
    }

-- a value that is taken, and what follows
pub take_then : {P : ℕ → FlowGraph → Type 0} {S : ℕ → FlowGraph → ℕ → Spot → Spot → Type 0} {Q : FlowGraph → ℕ → Spot → Spot → Type 0} {a b c : Built} {k : ℕ} → Taken P S a b k → Placed Q b c →
    Placed (λ h low p q. (r : Spot) × (low ≤ k) × P k h × S k h low p r × Q h low r q) a c
take_then {b = b} {c = c} value second =
    record {
      grown = grown_trans value.placed.grown second.grown;
      stands = λ low above h later.
          let then_later = later_trans (graph b) (graph c) h second.grown.later later in
          (spot b, omega (arith, value.above), value.lasts h then_later, value.placed.stands low above h then_later, second.stands low (omega (arith, value.placed.grown.fresh)) h later);
    }

-- the same, where what follows has continuations above that of the value
pub take_below : {P : ℕ → FlowGraph → Type 0} {S : ℕ → FlowGraph → ℕ → Spot → Spot → Type 0} {Q : FlowGraph → ℕ → Spot → Spot → Type 0} {a b c : Built} {k : ℕ} → Taken P S a b k → Placed Q b c →
    Placed (λ h low p q. (r : Spot) × (low ≤ k) × P k h × S k h low p r × Q h (suc k) r q) a c
take_below {b = b} {c = c} {k = k} value second =
    record {
      grown = grown_trans value.placed.grown second.grown;
      stands = λ low above h later.
          let then_later = later_trans (graph b) (graph c) h second.grown.later later in
          (spot b, omega (arith, value.above), value.lasts h then_later, value.placed.stands low above h then_later, second.stands (suc k) value.below h later);
    }
