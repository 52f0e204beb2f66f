-- A layer of steps that comes to what a layer by fuel shows with each amount keeps its meaning.
use Rattle.std.proofs.Common.{◌≡◌, ◌≢◌, ℕ, suc, ◌<◌, ◌≤◌, ◌⊎◌, inl, inr, ap, sym, subst, ◌∙◌, arith}
use Rattle.layers.specs.Input.{Input}
use Rattle.std.proofs.lemmas.Bool.{cases_lt}
use Rattle.layers.specs.Shown.{Seen, Runs, IsFull, Shows, Covers, ComesTo}
use Rattle.layers.specs.Layer.{Layer, IsLawful, IsNeverFull}
use Rattle.layers.specs.Fuel.{IsByFuel, Arrives}
use Rattle.layers.specs.Laws.{KeepsOfFollows}
use Rattle.layers.proofs.SeenLemmas.{begins_itself, needs_on, runs_or_not, ended_stands}
use Rattle.layers.proofs.Moments.{later_to, stays_to}

shows_there : {a b next : Seen} → Arrives a b next → Shows a b
shows_there {a} {b} r = record {
  output = (_, r.output ∙ (begins_itself b.output).1);
  ending = λ e h. (r.status ∙ h, r.output);
}

comes_there : {a b next : Seen} → Arrives a b next → ComesTo a b
comes_there {a} {b} r = record {
  comes = inl (record {
    shows = record { output = (_, sym r.output ∙ (begins_itself a.output).1); ending = λ e h. (sym r.status ∙ h, sym r.output) };
    fuel = r.fuel;
  });
  needs = r.needs;
}

covers_there : (heap stack : ℕ) → {a b next : Seen} → Arrives a b next → ¬ IsFull b → Covers heap stack a b
covers_there heap stack r free = record {
  shows = shows_there r;
  fuel = r.fuel;
  needs = r.needs;
  heap_full = λ h. absurd (free (inl h));
  stack_full = λ h. absurd (free (inr h));
}

module _ (heap stack : ℕ) (a b : Layer) (fueled : IsByFuel a) (lawful : IsLawful b) (free : IsNeverFull b) (i : Input) (k : ℕ) where
  -- b shows no more at k than later at m, where it has arrived at what a shows with the fuel taken at k
  covers_before : (m : ℕ) → k ≤ m → Arrives (a i (b i k).fuel) (b i m) (b i (suc m)) → Covers heap stack (a i (b i k).fuel) (b i k)
  covers_before m le r =
      let on = later_to b lawful i k m le in
      let within = fueled.within i (b i k).fuel in
      record {
        shows = record {
          output = (on.output.0, r.output ∙ on.output.1);
          ending = λ e h. let same = stays_to b lawful i k m le (ended_stands h) in (
            r.status ∙ ap (λ (s : Seen). s.status) same ∙ h,
            r.output ∙ ap (λ (s : Seen). s.output) same,
          );
        };
        fuel = omega (arith, on.fuel, within, r.fuel);
        needs = needs_on r.needs on.needs;
        heap_full = λ h. absurd (free i k (inl h));
        stack_full = λ h. absurd (free i k (inr h));
      }

  -- b had arrived before k: it took no more fuel, so it was over
  covers_after : (m : ℕ) → m < k → Arrives (a i (b i k).fuel) (b i m) (b i (suc m)) →
      ((a i (b i k).fuel).status ≡ Runs) ⊎ ((a i (b i k).fuel).status ≢ Runs) → Covers heap stack (a i (b i k).fuel) (b i k)
  covers_after m lt r (inl on) =
      let more = r.short on in
      let all = fueled.spent i (b i k).fuel on in
      let rest = (later_to b lawful i (suc m) k (omega arith)).fuel in
      absurd (omega (arith, more, all, rest))
  covers_after m lt r (inr over) =
      let same = stays_to b lawful i m k (omega arith) (λ h. over (r.status ∙ h)) in
      subst (λ (s : Seen). Covers heap stack (a i (b i k).fuel) s) (sym same) (covers_there heap stack r (free i m))

  covers_at : (m : ℕ) → Arrives (a i (b i k).fuel) (b i m) (b i (suc m)) → (m < k) ⊎ (k ≤ m) → Covers heap stack (a i (b i k).fuel) (b i k)
  covers_at m r (inl lt) = covers_after m lt r (runs_or_not _)
  covers_at m r (inr le) = covers_before m le r

pub keeps_of_follows : KeepsOfFollows
keeps_of_follows heap stack a b fueled lawful free follows = record {
  back = λ i k.
      let m = follows i (b i k).fuel in
      ((b i k).fuel, covers_at heap stack a b fueled lawful free i k m.0 m.1 (cases_lt m.0 k));
  forth = λ i j. let m = follows i j in (m.0, comes_there m.1);
}
