-- A layer of steps that simulates another keeps its meaning.
use Rattle.std.proofs.Common.{◌≡◌, ◌≢◌, ℕ, zero, suc, ◌+◌, ◌<◌, ◌≤◌, ◌⊎◌, inl, inr, refl, sym, subst, arith}
use Rattle.layers.specs.Input.{Input}
use Rattle.std.proofs.lemmas.Bool.{cases_lt}
use Rattle.layers.specs.Shown.{Seen, Runs, Covers}
use Rattle.layers.specs.Layer.{Layer, IsLawful}
use Rattle.layers.specs.Simulation.{Simulates}
use Rattle.layers.specs.Laws.{KeepsOfSimulation}
use Rattle.layers.proofs.SeenLemmas.{runs_or_not}
use Rattle.layers.proofs.Moments.{stays_to}

module _ (heap stack : ℕ) (a b : Layer) (lawful : IsLawful b) (i : Input) (s : Simulates heap stack (a i) (b i)) (k : ℕ) where
  abbrev Found : Type 0
  Found = (j : ℕ) × Covers heap stack (a i j) (b i k)

  -- found by a state of b that is the one at k
  found_by : (j x : ℕ) → b i x ≡ b i k → Covers heap stack (a i j) (b i x) ⊎ Covers heap stack (a i (suc j)) (b i x) → Found
  found_by j x same (inl c) = (j, subst (λ (t : Seen). Covers heap stack (a i j) t) same c)
  found_by j x same (inr c) = (suc j, subst (λ (t : Seen). Covers heap stack (a i (suc j)) t) same c)

  -- b's state after j steps of a is covered
  abbrev IsCovered : ℕ → Type 0
  IsCovered j = (x : ℕ) × Covers heap stack (a i x) (b i (s.at j))

  covered_by : (j : ℕ) → Covers heap stack (a i j) (b i (s.at (suc j))) ⊎ Covers heap stack (a i (suc j)) (b i (s.at (suc j))) → IsCovered (suc j)
  covered_by j (inl c) = (j, c)
  covered_by j (inr c) = (suc j, c)

  -- what is known once b is at most at k after j steps of a, less than n steps before it
  abbrev Goal : (n j : ℕ) → Type 0
  Goal n j = IsCovered j → s.at j ≤ k → k < n + s.at j → Found

  -- one step of a while b runs: k lies in it, or b goes on, or the measure falls
  turn : (n j : ℕ) → ((x : ℕ) → Goal n x) → (s.measure (suc j) < s.measure j → IsCovered (suc j) → s.at (suc j) ≤ k → Found) →
      s.at j ≤ k → k < suc n + s.at j → (b i (s.at j)).status ≡ Runs → (s.at (suc j) < k) ⊎ (k ≤ s.at (suc j)) →
      (s.at j < s.at (suc j)) ⊎ (s.measure (suc j) < s.measure j) → Found
  turn n j up fall le lt runs (inr within) way = found_by j k refl (s.covers j runs k le within)
  turn n j up fall le lt runs (inl past) (inl goes) =
      up (suc j) (covered_by j (s.covers j runs (s.at (suc j)) (s.onward j) (omega arith))) (omega arith) (omega arith)
  turn n j up fall le lt runs (inl past) (inr falls) =
      fall falls (covered_by j (s.covers j runs (s.at (suc j)) (s.onward j) (omega arith))) (omega arith)

  -- b was over before k, or runs
  stand : (n j : ℕ) → ((x : ℕ) → Goal n x) → (s.measure (suc j) < s.measure j → IsCovered (suc j) → s.at (suc j) ≤ k → Found) →
      IsCovered j → s.at j ≤ k → k < suc n + s.at j → ((b i (s.at j)).status ≡ Runs) ⊎ ((b i (s.at j)).status ≢ Runs) → Found
  stand n j up fall c le lt (inl runs) = turn n j up fall le lt runs (cases_lt (s.at (suc j)) k) (s.goes j runs)
  stand n j up fall c le lt (inr over) =
      (c.0, subst (λ (t : Seen). Covers heap stack (a i c.0) t) (sym (stays_to b lawful i (s.at j) k le over)) c.1)

  climb : (n : ℕ) → ((x : ℕ) → Goal n x) → (m j : ℕ) → s.measure j ≤ m → Goal (suc n) j
  climb n up zero j small c le lt =
      stand n j up (λ falls d there. absurd (omega (arith, falls, small))) c le lt (runs_or_not _)
  climb n up (suc m) j small c le lt =
      let on = s.onward j in
      stand n j up (λ falls d there. climb n up m (suc j) (omega (arith, falls, small)) d there (omega (arith, on))) c le lt (runs_or_not _)

  find : (n j : ℕ) → Goal n j
  find zero j c le lt = absurd (omega (arith, le, lt))
  find (suc n) j c le lt = climb n (λ x. find n x) (s.measure j) j (omega arith) c le lt

  pub found : Found
  found =
      let z = s.starts in
      let c : IsCovered 0 = (0, subst (λ (m : ℕ). Covers heap stack (a i 0) (b i m)) (sym z) s.first) in
      find (suc k) 0 c (omega (arith, z)) (omega arith)

pub keeps_of_simulation : KeepsOfSimulation
keeps_of_simulation heap stack a b lawful simulates = record {
  back = λ i k. found heap stack a b lawful i (simulates i) k;
  forth = λ i j. ((simulates i).at j, (simulates i).comes j);
}
