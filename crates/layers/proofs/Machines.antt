-- What a machine that keeps a program shows, and when.
use Rattle.std.proofs.Common.{◌≡◌, ◌≢◌, ℕ, zero, suc, ◌+◌, ◌*◌, ◌<◌, ◌≤◌, ◌⊎◌, inl, inr, ap, sym, subst, ◌∙◌, arith}
use Rattle.layers.specs.Input.{Input}
use Rattle.std.proofs.lemmas.Bool.{cases_lt}
use Rattle.layers.specs.Shown.{Seen, Runs, IsFull, Shows, IsLater, Covers, Repeats, ComesTo}
use Rattle.layers.specs.Layer.{Layer, IsLawful}
use Rattle.layers.specs.Fuel.{IsByFuel, RisesBy}
use Rattle.layers.specs.Pace.{IsPaced, IsShownBy}
use Rattle.layers.specs.Laws.{ShowsNothingElseOfKeeps, KeepsPaceOfKeeps}
use Rattle.layers.proofs.SeenLemmas.{begins_on, runs_or_not, ended_stands, full_stands}
use Rattle.layers.proofs.Moments.{later_to, stays_to}

-- ---- the fuel that so many instructions stand for

risen : (nodes : ℕ) (b : Layer) → RisesBy nodes b → (i : Input) (k : ℕ) → (b i k).fuel ≤ (k + 1) * nodes
risen nodes b rises i zero = let h = rises.first i in omega (arith, h)
risen nodes b rises i (suc k) = let h = rises.next i k in let g = risen nodes b rises i k in omega (arith, h, g)

-- with more fuel than was taken, the program has shown at least as much
module _ (a : Layer) (fueled : IsByFuel a) (i : Input) (j n : ℕ) (le : (a i j).fuel ≤ n) where
  later_with : IsLater (a i j) (a i n)
  later_with = subst (λ (s : Seen). IsLater s (a i n)) (fueled.enough i j) (later_to a fueled.lawful i (a i j).fuel n le)

  same_with : (a i j).status ≢ Runs → a i n ≡ a i j
  same_with over =
      let e = fueled.enough i j in
      stays_to a fueled.lawful i (a i j).fuel n le (λ h. over (ap (λ (s : Seen). s.status) (sym e) ∙ h)) ∙ e

  shown_with : (heap stack : ℕ) (m : Seen) → Covers heap stack (a i j) m → IsShownBy heap stack (a i n) m
  shown_with heap stack m c = let on = later_with in record {
    shows = record {
      output = begins_on m.output (a i j).output (a i n).output c.shows.output on.output;
      ending = λ e h.
          let x = c.shows.ending e h in
          let same = same_with (ended_stands x.0) in
          (ap (λ (s : Seen). s.status) same ∙ x.0, ap (λ (s : Seen). s.output) same ∙ x.1);
    };
    heap_full = λ h. omega (arith, c.heap_full h, on.needs.heap);
    stack_full = λ h. omega (arith, c.stack_full h, on.needs.stack);
  }

pub shows_nothing_else_of_keeps : ShowsNothingElseOfKeeps
shows_nothing_else_of_keeps nodes heap stack program machine fueled rises keeps i k =
    let c = keeps.back i k in
    let most = risen nodes machine rises i k in
    let same = c.1.fuel in
    let enough : (program i c.0).fuel ≤ (k + 1) * (nodes + 1) = omega (arith, most, same) in
    shown_with program fueled i c.0 ((k + 1) * (nodes + 1)) enough heap stack (machine i k) c.1

-- ---- in time

carried : {e m later : Seen} → Repeats e m → IsLater m later → (m.status ≢ Runs → later ≡ m) → Shows later e
carried {e} {m} {later} r on stays = record {
  output = begins_on e.output m.output later.output r.shows.output on.output;
  ending = λ end h.
      let x = r.shows.ending end h in
      let same = stays (ended_stands x.0) in
      (ap (λ (s : Seen). s.status) same ∙ x.0, ap (λ (s : Seen). s.output) same ∙ x.1);
}

module _ (machine : Layer) (lawful : IsLawful machine) (i : Input) (e : Seen) where
  -- what was shown at k is shown later
  in_time : (k time : ℕ) → k ≤ time → Repeats e (machine i k) ⊎ IsFull (machine i k) → Shows (machine i time) e ⊎ IsFull (machine i time)
  in_time k time le (inl r) = inl (carried r (later_to machine lawful i k time le) (stays_to machine lawful i k time le))
  in_time k time le (inr f) =
      inr (subst (λ (s : Seen). IsFull s) (sym (stays_to machine lawful i k time le (full_stands (machine i k) f))) f)

  -- a machine that would come to it only after the time is over before, by its pace
  too_late : IsPaced machine → (k : ℕ) → 64 * e.work + 1000 < k → ComesTo e (machine i k) →
      ((machine i (64 * e.work + 1000)).status ≡ Runs) ⊎ ((machine i (64 * e.work + 1000)).status ≢ Runs) →
      Shows (machine i (64 * e.work + 1000)) e ⊎ IsFull (machine i (64 * e.work + 1000))
  too_late paced k lt c (inl on) =
      let pace = paced i (64 * e.work + 1000) on in
      let grows = (later_to machine lawful i (64 * e.work + 1000) k (omega arith)).needs.work in
      let need = c.needs.work in
      absurd (omega (arith, pace, grows, need))
  too_late paced k lt c (inr over) =
      let same = stays_to machine lawful i (64 * e.work + 1000) k (omega arith) over in
      in_time (64 * e.work + 1000) (64 * e.work + 1000) (omega arith)
      (subst (λ (s : Seen). Repeats e s ⊎ IsFull s) same c.comes)

  paced_to : IsPaced machine → (k : ℕ) → ComesTo e (machine i k) → (64 * e.work + 1000 < k) ⊎ (k ≤ 64 * e.work + 1000) →
      Shows (machine i (64 * e.work + 1000)) e ⊎ IsFull (machine i (64 * e.work + 1000))
  paced_to paced k c (inl lt) = too_late paced k lt c (runs_or_not _)
  paced_to paced k c (inr le) = in_time k (64 * e.work + 1000) le c.comes

pub keeps_pace_of_keeps : KeepsPaceOfKeeps
keeps_pace_of_keeps heap stack program machine lawful paced keeps i n =
    let c = keeps.forth i n in
    paced_to machine lawful i (program i n) paced c.0 c.1 (cases_lt (64 * (program i n).work + 1000) c.0)
