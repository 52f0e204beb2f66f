-- What holds for codes of any type, and for any relation between states. No contract can range over these: so they stand
-- here with their proofs, over the laws that `Laws` states.
use Rattle.std.proofs.Common.{◌≡◌, ◌≢◌, ℕ, zero, suc, ◌+◌, ◌-◌, ◌<◌, ◌≤◌, ◌⊎◌, inl, inr, refl, ap, sym, subst, ◌∙◌, List, [], ◌∷◌, ◌++◌, append_assoc, arith}
use Rattle.layers.specs.Input.{Input}
use Rattle.layers.specs.Shown.{Seen, Runs, IsFull, NeedsNoLess, Covers, ComesTo}
use Rattle.layers.specs.Layer.{IsLawful, Steps, after, layer_of, IsLawfulCode}
use Rattle.layers.specs.Keeping.{Keeps}
use Rattle.layers.specs.Simulation.{Simulates, LeadsOn, IsSimulation}
use Rattle.layers.specs.Among.{Together, KeepsAmong, Each, AllKeep, KeepsAcross, Then, AreNeverFull}
use Rattle.layers.specs.Fuel.{IsByFuel, FollowsByFuel}
use Rattle.layers.specs.Laws.{KeepsItself, KeepsComposes, KeepsOfFollows, KeepsOfSimulation}

-- ---- codes among others

pub keeps_among_composes : {C : Type 0} (together : Together C) (c d e : C) → KeepsComposes → AreNeverFull together → KeepsAmong together c d → KeepsAmong together d e → KeepsAmong together c e
keeps_among_composes together c d e composes free p q prelude before after heap stack =
    composes heap stack
    (together prelude (before ++ c ∷ after)) (together prelude (before ++ d ∷ after)) (together prelude (before ++ e ∷ after))
    (free prelude (before ++ d ∷ after)) (p prelude before after heap stack) (q prelude before after heap stack)

module _ {C : Type 0} (together : Together C) (itself : KeepsItself) (composes : KeepsComposes) (free : AreNeverFull together) (prelude heap stack : ℕ) where
  -- the codes before are the same
  keeps_rest : (cs ds : List C) → Each (KeepsAmong together) cs ds → (before : List C) → Keeps heap stack (together prelude (before ++ cs)) (together prelude (before ++ ds))
  keeps_rest [] [] each before = itself heap stack (together prelude (before ++ [])) (free prelude (before ++ []))
  keeps_rest [] (d ∷ ds) each before = absurd each
  keeps_rest (c ∷ cs) [] each before = absurd each
  keeps_rest (c ∷ cs) (d ∷ ds) each before =
      let rest = keeps_rest cs ds each.1 (before ++ d ∷ []) in
      let moved = subst (λ (xs : List C). Keeps heap stack (together prelude xs) (together prelude ((before ++ d ∷ []) ++ ds))) (append_assoc before (d ∷ []) cs) rest in
      let placed = subst (λ (xs : List C). Keeps heap stack (together prelude (before ++ d ∷ cs)) (together prelude xs)) (append_assoc before (d ∷ []) ds) moved in
      composes heap stack
      (together prelude (before ++ c ∷ cs)) (together prelude (before ++ d ∷ cs)) (together prelude (before ++ d ∷ ds))
      (free prelude (before ++ d ∷ cs)) (each.0 prelude before cs heap stack) placed

-- lists of codes keep their meaning where each code does
pub all_keep_among : {C : Type 0} (together : Together C) → KeepsItself → KeepsComposes → AreNeverFull together → AllKeep together together (KeepsAmong together)
all_keep_among together itself composes free prelude cs ds each heap stack =
    keeps_rest together itself composes free prelude heap stack cs ds each []

module _ {C D : Type 0} (above : Together C) (below : Together D) (R : C → D → Type 0) where
  each_after : (before : List C) (before' : List D) (cs : List C) (ds : List D) → Each R before before' → Each R cs ds → Each R (before ++ cs) (before' ++ ds)
  each_after [] [] cs ds e f = f
  each_after [] (y ∷ ys) cs ds e f = absurd e
  each_after (x ∷ xs) [] cs ds e f = absurd e
  each_after (x ∷ xs) (y ∷ ys) cs ds e f = (e.0, each_after xs ys cs ds e.1 f)

  -- where all lists keep their meaning, each code does among others
  pub keeps_across : AllKeep above below R → (c : C) (d : D) → R c d → KeepsAcross above below R c d
  keeps_across all c d made prelude before after before' after' e f heap stack =
      all prelude (before ++ c ∷ after) (before' ++ d ∷ after') (each_after before before' (c ∷ after) (d ∷ after') e (made, f)) heap stack

module _ {C D E : Type 0} (R : C → D → Type 0) (Q : D → E → Type 0) where
  -- the codes between, each made of the upper one, and of which the lower one is made
  between : (cs : List C) (es : List E) → Each (Then R Q) cs es → (ds : List D) × Each R cs ds × Each Q ds es
  between [] [] each = ([], tt, tt)
  between [] (e ∷ es) each = absurd each
  between (c ∷ cs) [] each = absurd each
  between (c ∷ cs) (e ∷ es) each =
      let rest = between cs es each.1 in
      (each.0.0 ∷ rest.0, (each.0.1, rest.1), (each.0.2, rest.2))

  pub all_keep_composes : (above : Together C) (middle : Together D) (below : Together E) → KeepsComposes → AreNeverFull middle → AllKeep above middle R → AllKeep middle below Q → AllKeep above below (Then R Q)
  all_keep_composes above middle below composes free p q prelude cs es each heap stack =
      let ds = between cs es each in
      composes heap stack (above prelude cs) (middle prelude ds.0) (below prelude es) (free prelude ds.0)
      (p prelude cs ds.0 ds.1 heap stack) (q prelude ds.0 es ds.2 heap stack)

-- lists of codes by fuel, each of which the list made of it comes to show
pub all_keep_of_follows : {C D : Type 0} (above : Together C) (below : Together D) (R : C → D → Type 0) → KeepsOfFollows →
    ((prelude : ℕ) (cs : List C) → IsByFuel (above prelude cs)) → ((prelude : ℕ) (ds : List D) → IsLawful (below prelude ds)) → AreNeverFull below →
    ((prelude : ℕ) (cs : List C) (ds : List D) → Each R cs ds → FollowsByFuel (above prelude cs) (below prelude ds)) → AllKeep above below R
all_keep_of_follows above below R law fueled lawful free follows prelude cs ds each heap stack =
    law heap stack (above prelude cs) (below prelude ds) (fueled prelude cs) (lawful prelude ds) (free prelude ds) (follows prelude cs ds each)

-- ---- codes of steps

-- the layer of a lawful code is lawful
pub lawful_layer : {S : Type 0} (code : Steps S) → IsLawfulCode code → IsLawful (layer_of code)
lawful_layer code lawful = record {
  later = λ i k. lawful.later (after code.step k (code.first i));
  stays = λ i k over. ap code.seen (lawful.stays (after code.step k (code.first i)) over);
}

full_runs : (s : Seen) → IsFull s → s.status ≢ Runs
full_runs s (inl h) r = cc
full_runs s (inr h) r = cc

after_sum : {S : Type 0} (step : S → S) (n k : ℕ) (s : S) → after step (n + k) s ≡ after step n (after step k s)
after_sum step zero k s = let e : zero + k ≡ k = omega arith in ap (λ (m : ℕ). after step m s) e
after_sum step (suc n) k s =
    let e : suc n + k ≡ suc (n + k) = omega arith in
    ap (λ (m : ℕ). after step m s) e ∙ ap step (after_sum step n k s)

-- a relation between states makes a simulation on each input
module _ {S T : Type 0} (a : Steps S) (b : Steps T) (measure : S → ℕ) (R : S → T → Type 0) (heap stack : ℕ) (lawful : IsLawfulCode a) (simulation : IsSimulation heap stack a b measure R) (i : Input) where
  -- a's state after so many steps, and b's
  abbrev left : ℕ → S
  left j = after a.step j (a.first i)

  abbrev right : ℕ → T
  right k = after b.step k (b.first i)

  -- b is in the relation, or full
  abbrev Stands : ℕ → ℕ → Type 0
  Stands j k = R (left j) (right k) ⊎ (IsFull (b.seen (right k)) × NeedsNoLess (a.seen (left j)) (b.seen (right k)))

  -- from there, one step of a
  pub record Turn (j k : ℕ) : Type 0 where
    pub steps : ℕ
    pub stands : Stands (suc j) (steps + k)
    pub goes : (b.seen (right k)).status ≡ Runs → (k < steps + k) ⊎ (measure (left (suc j)) < measure (left j))
    pub covers : (b.seen (right k)).status ≡ Runs → (x : ℕ) → k ≤ x → x ≤ steps + k →
        Covers heap stack (layer_of a i j) (layer_of b i x) ⊎ Covers heap stack (layer_of a i (suc j)) (layer_of b i x)

  rises : (n k : ℕ) {P : Type 0} → (0 < n) ⊎ P → (k < n + k) ⊎ P
  rises n k (inl h) = inl (omega (arith, h))
  rises n k (inr h) = inr h

  led_to : (j k n : ℕ) → LeadsOn heap stack a b measure R (left j) (right k) n → Turn j k
  led_to j k n on = record {
    steps = n;
    stands = subst (λ (t : T). R (left (suc j)) t ⊎ (IsFull (b.seen t) × NeedsNoLess (a.seen (left (suc j))) (b.seen t))) (sym (after_sum b.step n k (b.first i))) on.holds;
    goes = λ runs. rises n k (on.goes runs);
    covers = λ runs x le ge.
        let e : (x - k) + k ≡ x = omega arith in
        let same = sym (after_sum b.step (x - k) k (b.first i)) ∙ ap (λ (m : ℕ). right m) e in
        subst (λ (t : T). Covers heap stack (layer_of a i j) (b.seen t) ⊎ Covers heap stack (layer_of a i (suc j)) (b.seen t)) same
        (on.covers runs (x - k) (omega arith));
  }

  -- a full b waits
  full_stays : (j k : ℕ) → IsFull (b.seen (right k)) → NeedsNoLess (a.seen (left j)) (b.seen (right k)) → Turn j k
  full_stays j k full needs =
      let e : 0 + k ≡ k = omega arith in
      let grown = (lawful.later (left j)).needs in
      record {
        steps = 0;
        stands = subst (λ (m : ℕ). Stands (suc j) m) (sym e) (inr (
          full,
          record {
            work = omega (arith, grown.work, needs.work);
            heap = omega (arith, grown.heap, needs.heap);
            stack = omega (arith, grown.stack, needs.stack);
          },
        ));
        goes = λ runs. absurd (full_runs (b.seen (right k)) full runs);
        covers = λ runs. absurd (full_runs (b.seen (right k)) full runs);
      }

  turn : (j k : ℕ) → Stands j k → Turn j k
  turn j k (inl r) = let on = simulation.goes (left j) (right k) r in led_to j k on.0 on.1
  turn j k (inr f) = full_stays j k f.0 f.1

  abbrev next : (j : ℕ) → (k : ℕ) × Stands j k → (k : ℕ) × Stands (suc j) k
  next j p = let t = turn j p.0 p.1 in (t.steps + p.0, t.stands)

  -- where b is after each number of steps of a
  abbrev along : (j : ℕ) → (k : ℕ) × Stands j k
  along zero = (0, inl (simulation.starts i))
  along (suc j) = next j (along j)

  comes_by : (j k : ℕ) → Stands j k → ComesTo (layer_of a i j) (layer_of b i k)
  comes_by j k (inl r) = simulation.comes (left j) (right k) r
  comes_by j k (inr f) = record { comes = inr f.0; needs = f.1 }

  pub simulates_of : Simulates heap stack (layer_of a i) (layer_of b i)
  simulates_of = record {
    at = λ j. (along j).0;
    measure = λ j. measure (left j);
    starts = refl;
    first = simulation.first i;
    onward = λ j. omega arith;
    comes = λ j. comes_by j (along j).0 (along j).1;
    goes = λ j. (turn j (along j).0 (along j).1).goes;
    covers = λ j. (turn j (along j).0 (along j).1).covers;
  }

-- a code keeps the meaning of another where a relation between their states is a simulation
pub keeps_of_relation : {S T : Type 0} (a : Steps S) (b : Steps T) (measure : S → ℕ) (R : S → T → Type 0) (heap stack : ℕ) →
    KeepsOfSimulation → IsLawfulCode a → IsLawfulCode b → IsSimulation heap stack a b measure R → Keeps heap stack (layer_of a) (layer_of b)
keeps_of_relation a b measure R heap stack law lawful lawful' simulation =
    law heap stack (layer_of a) (layer_of b) (lawful_layer b lawful') (λ i. simulates_of a b measure R heap stack lawful simulation i)
