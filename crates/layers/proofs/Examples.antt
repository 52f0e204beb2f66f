-- An example: a code that writes a letter and needs 8 more bytes at each step, and one with a bounded heap that takes two
-- steps for each letter, and is full where the next letter needs more than there is.
use Rattle.std.proofs.Common.{◌≡◌, ◌≢◌, ℕ, zero, suc, ◌*◌, ◌<◌, ◌≤◌, ◌⊎◌, inl, inr, Bool, true, false, nat_lt, refl, subst, List, [], ◌∷◌, ◌++◌, arith}
use Rattle.std.proofs.lemmas.Bool.{ltb-true}
use Rattle.layers.specs.Shown.{Seen, Status, Runs, HeapFull, IsFull, NeedsNoLess, IsLater, Covers, ComesTo}
use Rattle.layers.specs.Layer.{Steps, after, layer_of, IsLawfulCode}
use Rattle.layers.specs.Keeping.{Keeps}
use Rattle.layers.specs.Simulation.{LeadsOn}
use Rattle.layers.specs.Lemmas.{keeps_of_relation}
use Rattle.layers.proofs.SeenLemmas.{begins_itself, later_itself, covers_itself, comes_to_itself}
use Rattle.layers.proofs.Simulating.{keeps_of_simulation}

abbrev letters : ℕ → List ℕ
letters zero = []
letters (suc n) = letters n ++ 97 ∷ []

abbrev shown : ℕ → Status → Seen
shown n status = record { output = letters n; status = status; fuel = 0; work = n; heap = 8 * n; stack = 0 }

abbrev writer : Steps ℕ
writer = record { first = λ input. 0; step = λ n. suc n; seen = λ n. shown n Runs }

data State : Type 0 where
  Whole Half Full : ℕ → State

abbrev next : Bool → ℕ → State
next true n = Full n
next false n = Whole (suc n)

abbrev step : (heap : ℕ) → State → State
step heap (Whole n) = Half n
step heap (Half n) = next (nat_lt heap (8 * suc n)) n
step heap (Full n) = Full n

abbrev seen : State → Seen
seen (Whole n) = shown n Runs
seen (Half n) = shown n Runs
seen (Full n) = shown n HeapFull

abbrev bounded : (heap : ℕ) → Steps State
bounded heap = record { first = λ input. Whole 0; step = step heap; seen = seen }

needs_more : (n : ℕ) (s t : Status) → NeedsNoLess (shown (suc n) s) (shown n t)
needs_more n s t = record { work = omega arith; heap = omega arith; stack = omega arith }

more : (n : ℕ) (s : Status) → IsLater (shown n Runs) (shown (suc n) s)
more n s = record { output = (97 ∷ [], refl); fuel = omega arith; needs = needs_more n s Runs }

writer_lawful : IsLawfulCode writer
writer_lawful = record { later = λ n. more n Runs; stays = λ n over. absurd (over refl) }

full_later : (n : ℕ) (s : Status) → IsLater (shown n Runs) (shown n s)
full_later n s = record { output = begins_itself (letters n); fuel = omega arith; needs = record { work = omega arith; heap = omega arith; stack = omega arith } }

next_later : (b : Bool) (n : ℕ) → IsLater (shown n Runs) (seen (next b n))
next_later true n = full_later n HeapFull
next_later false n = more n Runs

bounded_later : (heap : ℕ) (s : State) → IsLater (seen s) (seen (step heap s))
bounded_later heap (Whole n) = later_itself _
bounded_later heap (Half n) = next_later (nat_lt heap (8 * suc n)) n
bounded_later heap (Full n) = later_itself _

bounded_stays : (heap : ℕ) (s : State) → (seen s).status ≢ Runs → step heap s ≡ s
bounded_stays heap (Whole n) over = absurd (over refl)
bounded_stays heap (Half n) over = absurd (over refl)
bounded_stays heap (Full n) over = refl

-- the same number of letters, at the beginning of one
abbrev AtLetter : ℕ → State → Type 0
AtLetter n (Whole m) = n ≡ m
AtLetter n (Half m) = ⊥
AtLetter n (Full m) = ⊥

running : (heap n : ℕ) → Covers heap 0 (shown n Runs) (shown n Runs)
running heap n = covers_itself heap 0 (shown n Runs) (λ f. elim f [ inl h ↦ cc | inr h ↦ cc ])

-- the writer's next state covers a full one
covers_full : (heap n : ℕ) → heap < 8 * suc n → Covers heap 0 (shown (suc n) Runs) (shown n HeapFull)
covers_full heap n lt = record {
  shows = record { output = (97 ∷ [], refl); ending = λ e h. cc };
  fuel = refl;
  needs = needs_more n Runs HeapFull;
  heap_full = λ h. omega (arith, lt);
  stack_full = λ h. cc;
}

covers_next : (heap n : ℕ) (b : Bool) → nat_lt heap (8 * suc n) ≡ b → Covers heap 0 (shown (suc n) Runs) (seen (next b n))
covers_next heap n true e = covers_full heap n (ltb-true heap (8 * suc n) e)
covers_next heap n false e = running heap (suc n)

holds_next : (n : ℕ) (b : Bool) → AtLetter (suc n) (next b n) ⊎ (IsFull (seen (next b n)) × NeedsNoLess (shown (suc n) Runs) (seen (next b n)))
holds_next n true = inr (inl refl, needs_more n Runs HeapFull)
holds_next n false = inl refl

leads : (heap n : ℕ) → LeadsOn heap 0 writer (bounded heap) (λ _. 0) AtLetter n (Whole n) 2
leads heap n = record {
  holds = holds_next n (nat_lt heap (8 * suc n));
  goes = λ runs. inl (omega arith);
  covers = λ runs x le. covered heap n x le;
}
  where
    covered : (heap n x : ℕ) → x ≤ 2 → Covers heap 0 (shown n Runs) (seen (after (step heap) x (Whole n))) ⊎ Covers heap 0 (shown (suc n) Runs) (seen (after (step heap) x (Whole n)))
    covered heap n zero le = inl (running heap n)
    covered heap n (suc zero) le = inl (running heap n)
    covered heap n (suc (suc zero)) le = inr (covers_next heap n (nat_lt heap (8 * suc n)) refl)
    covered heap n (suc (suc (suc x))) le = absurd (omega arith)

comes : (n : ℕ) (s : State) → AtLetter n s → ComesTo (shown n Runs) (seen s)
comes n (Whole m) e = subst (λ (k : ℕ). ComesTo (shown n Runs) (shown k Runs)) e (comes_to_itself (shown n Runs))
comes n (Half m) e = absurd e
comes n (Full m) e = absurd e

goes : (heap n : ℕ) (s : State) → AtLetter n s → (k : ℕ) × LeadsOn heap 0 writer (bounded heap) (λ _. 0) AtLetter n s k
goes heap n (Whole m) e = (2, subst (λ (k : ℕ). LeadsOn heap 0 writer (bounded heap) (λ _. 0) AtLetter n (Whole k) 2) e (leads heap n))
goes heap n (Half m) e = absurd e
goes heap n (Full m) e = absurd e

bounded_keeps : (heap : ℕ) → Keeps heap 0 (layer_of writer) (layer_of (bounded heap))
bounded_keeps heap =
    keeps_of_relation writer (bounded heap) (λ _. 0) AtLetter heap 0 keeps_of_simulation writer_lawful
    (record { later = bounded_later heap; stays = bounded_stays heap })
    (record { starts = λ i. refl; first = λ i. running heap 0; comes = comes; goes = goes heap })
