-- Showing, needing and covering compose.
use Rattle.std.proofs.Common.{◌≡◌, ◌≢◌, ℕ, ◌⊎◌, inl, inr, refl, ap, sym, ◌∙◌, List, ◌++◌, append_assoc, append-nil, arith}
use Rattle.layers.specs.Shown.{Seen, Status, Runs, HeapFull, StackFull, End, Ended, Begins, IsFull, Shows, NeedsNoLess, IsLater, Covers, Repeats, ComesTo}

pub begins_itself : (a : List ℕ) → Begins a a
begins_itself a = (_, sym (append-nil a))

pub begins_on : (a b c : List ℕ) → Begins a b → Begins b c → Begins a c
begins_on a b c p q = (p.0 ++ q.0, q.1 ∙ ap (λ (l : List ℕ). l ++ q.0) p.1 ∙ append_assoc a p.0 q.0)

pub shows_itself : (a : Seen) → Shows a a
shows_itself a = record { output = begins_itself a.output; ending = λ e h. (h, refl) }

pub shows_on : {a b c : Seen} → Shows a b → Shows b c → Shows a c
shows_on {a} {b} {c} p q = record {
  output = begins_on c.output b.output a.output q.output p.output;
  ending = λ e h. let r = q.ending e h in let l = p.ending e r.0 in (l.0, l.1 ∙ r.1);
}

pub needs_itself : (a : Seen) → NeedsNoLess a a
needs_itself a = record { work = omega arith; heap = omega arith; stack = omega arith }

pub needs_on : {a b c : Seen} → NeedsNoLess a b → NeedsNoLess b c → NeedsNoLess a c
needs_on p q = record {
  work = omega (arith, p.work, q.work);
  heap = omega (arith, p.heap, q.heap);
  stack = omega (arith, p.stack, q.stack);
}

pub later_itself : (a : Seen) → IsLater a a
later_itself a = record { output = begins_itself a.output; fuel = omega arith; needs = needs_itself a }

pub later_on : {a b c : Seen} → IsLater a b → IsLater b c → IsLater a c
later_on {a} {b} {c} p q = record {
  output = begins_on a.output b.output c.output p.output q.output;
  fuel = omega (arith, p.fuel, q.fuel);
  needs = needs_on q.needs p.needs;
}

pub covers_on : {heap stack : ℕ} {a b c : Seen} → Covers heap stack a b → Covers heap stack b c → Covers heap stack a c
covers_on p q = record {
  shows = shows_on p.shows q.shows;
  fuel = p.fuel ∙ q.fuel;
  needs = needs_on p.needs q.needs;
  heap_full = λ h. omega (arith, q.heap_full h, p.needs.heap);
  stack_full = λ h. omega (arith, q.stack_full h, p.needs.stack);
}

-- one that isn't full covers itself
pub covers_itself : (heap stack : ℕ) (a : Seen) → ¬ IsFull a → Covers heap stack a a
covers_itself heap stack a free = record {
  shows = shows_itself a;
  fuel = refl;
  needs = needs_itself a;
  heap_full = λ h. absurd (free (inl h));
  stack_full = λ h. absurd (free (inr h));
}

pub repeats_on : {a b c : Seen} → Repeats a b → Repeats b c → Repeats a c
repeats_on p q = record { shows = shows_on q.shows p.shows; fuel = p.fuel ∙ q.fuel }

both_come : (a b c : Seen) → ¬ IsFull b → Repeats a b ⊎ IsFull b → Repeats b c ⊎ IsFull c → Repeats a c ⊎ IsFull c
both_come a b c free (inr f) q = absurd (free f)
both_come a b c free (inl p) (inl q) = inl (repeats_on p q)
both_come a b c free (inl p) (inr f) = inr f

pub comes_on : {a b c : Seen} → ¬ IsFull b → ComesTo a b → ComesTo b c → ComesTo a c
comes_on {a} {b} {c} free p q = record { comes = both_come a b c free p.comes q.comes; needs = needs_on p.needs q.needs }

pub comes_to_itself : (a : Seen) → ComesTo a a
comes_to_itself a = record { comes = inl (record { shows = shows_itself a; fuel = refl }); needs = needs_itself a }

-- a run goes on or doesn't
pub runs_or_not : (s : Status) → (s ≡ Runs) ⊎ (s ≢ Runs)
runs_or_not Runs = inl refl
runs_or_not HeapFull = inr (λ h. cc)
runs_or_not StackFull = inr (λ h. cc)
runs_or_not (Ended e) = inr (λ h. cc)

pub ended_stands : {s : Status} {e : End} → s ≡ Ended e → s ≢ Runs
ended_stands h r = cc

pub full_stands : (a : Seen) → IsFull a → a.status ≢ Runs
full_stands a (inl h) r = cc
full_stands a (inr h) r = cc
