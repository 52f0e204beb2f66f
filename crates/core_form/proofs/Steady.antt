-- Two limits of fuel on one stretch of a run, the second at least the first: no counter falls, no output is taken back, an exit
-- goes to an entry in force, what the first shows the second shows; and no more fuel is taken than the limit, which is taken whole before
-- a stretch ends for want of it.
use Rattle.std.proofs.Common.{◌≡◌, refl, ap, sym, subst, ℕ, zero, suc, ◌+◌, ◌-◌, ◌≤◌, ◌<◌, Bool, true, false, ◌||◌, ◌==◌, if◌then◌else◌, List, [], length, arith, Option, Some, None}
use Rattle.lisp_base.specs.declared.values.SymId.{SymId}
use Rattle.lisp_base.specs.declared.values.Val.{Val}
use Rattle.lisp_base.specs.declared.values.Place.{Place}
use Rattle.core_form.specs.State.{Fault, State, Exit}
use Rattle.core_form.specs.Effect.{Ended, Gave, Left, Failed, Effect, change, leave, fail}
use Rattle.core_form.specs.Force.{Vals, Force, is_entry, is_catch, in_force}
use Rattle.core_form.specs.Primitives.{give}
use Rattle.core_form.specs.Step.{Around, with_entry, with_catch}
use Rattle.core_form.specs.Run.{Outcome, Gives, Leaves, Fails, NotYet, Run, and_then, ◌>>=◌, ◌>>◌, outcome, perform, pure, stop, take_left, take_fuel, first, visit, passed, land, arrive, block_round, catch_round, astray, jump, jumps, tagbody_round, restore, restoring, cleaned, guarded, returned, framed, back_in, in_frame}
use Rattle.core_form.specs.Eval.{state_of}
use Rattle.core_form.specs.Growth.{Grows, Reaches}
use Rattle.core_form.proofs.Lasting.{grows_same, grows_on, shown_same, shown_on, counts_same, after, Goes, IsApart, Leads, Lasts, spend_lasts, quiet_lasts, box_lasts}
use Rattle.core_form.proofs.Acting.{deliver_lasts}

-- ---- two limits

-- The limits of the first and of the second; how much is taken at least when a stretch begins; and how much the second has
-- taken where the first ends for want of fuel: one more than the first, or all.
pub record Limits : Type 0 where
  pub lower : ℕ
  pub upper : ℕ
  pub low : ℕ
  pub bound : ℕ
  pub ordered : lower ≤ upper
  pub past : bound ≤ suc lower
  pub most : bound ≤ upper

-- a call has taken one more
abbrev pub raised : Limits → Limits
raised w = record { lower = w.lower; upper = w.upper; low = suc w.low; bound = w.bound; ordered = w.ordered; past = w.past; most = w.most }

-- the second alone, of which nothing is compared
abbrev pub alone : Limits → Limits
alone w = record { lower = 0; upper = w.upper; low = 0; bound = 0; ordered = omega arith; past = omega arith; most = omega arith }

-- ---- what is owed of one end of a stretch: o with the first limit, p with the second

-- an exit goes to one of these entries
abbrev pub GoesTo : {A : Type 0} → (ℕ → Bool) → Outcome A → Type 0
GoesTo inn (Gives a s) = Unit {0}
GoesTo inn (Leaves e s) = inn e.entry ≡ true
GoesTo inn (Fails x p s) = Unit {0}
GoesTo inn (NotYet s) = Unit {0}

abbrev pub IsJump : Option ℕ → Type 0
IsJump None = ⊥
IsJump (Some t) = Unit {0}

-- a jump has taken fuel since so much was taken
abbrev pub Jumps : {A : Type 0} → ℕ → Outcome A → Type 0
Jumps base (Gives a s) = Unit {0}
Jumps base (Leaves e s) = IsJump e.tag → base < s.taken
Jumps base (Fails x p s) = Unit {0}
Jumps base (NotYet s) = Unit {0}

-- where the first ends for want of fuel, the second has taken so much
abbrev pub Passes : {A : Type 0} → ℕ → (o p : Outcome A) → Type 0
Passes bound (Gives a s) p = Unit {0}
Passes bound (Leaves e s) p = Unit {0}
Passes bound (Fails x q s) p = Unit {0}
Passes bound (NotYet s) p = bound ≤ (state_of p).taken

pub record Later {A : Type 0} (upper : ℕ) (inn : ℕ → Bool) (base : ℕ) (s : State) (p : Outcome A) : Type 0 where
  pub grows : Grows s (state_of p)
  pub goes : GoesTo inn p
  pub within : (n : ℕ) → upper ≤ n → s.taken ≤ n → (state_of p).taken ≤ n
  pub jumps : Jumps base p

pub record Ends {A : Type 0} (w : Limits) (inn : ℕ → Bool) (base : ℕ) (s : State) (o p : Outcome A) : Type 0 where
  pub later : Later w.upper inn base s p
  pub reaches : Reaches o p
  pub passes : w.low ≤ s.taken → Passes w.bound o p

pub record Steady {A : Type 0} (w : Limits) (inn : ℕ → Bool) (m k : Run A) : Type 0 where
  pub ends : (s : State) → Ends w inn s.taken s (m s) (k s)

pub reaches_itself : {A : Type 0} → (o : Outcome A) → Reaches o o
reaches_itself (Gives a s) = refl
reaches_itself (Leaves e s) = refl
reaches_itself (Fails x p s) = refl
reaches_itself (NotYet s) = shown_same s

pub passes_nothing : {A : Type 0} → (o p : Outcome A) → Passes 0 o p
passes_nothing (Gives a s) p = tt
passes_nothing (Leaves e s) p = tt
passes_nothing (Fails x q s) p = tt
passes_nothing (NotYet s) p = omega arith

-- the second alone
pub again : {A : Type 0} {w : Limits} {inn : ℕ → Bool} {r k : Run A} → Steady w inn r k → Steady (alone w) inn k k
again {k = k} h = record { ends = λ s. record { later = (h.ends s).later; reaches = reaches_itself (k s); passes = λ le. passes_nothing (k s) (k s) } }

-- with less taken before
pub jumps_below : {A : Type 0} {base low : ℕ} → base ≤ low → (p : Outcome A) → Jumps low p → Jumps base p
jumps_below le (Gives a s) j = tt
jumps_below le (Leaves e s) j = λ is. (let h = j is in omega (arith, le, h))
jumps_below le (Fails x p s) j = tt
jumps_below le (NotYet s) j = tt

pub later_below : {A : Type 0} {upper base low : ℕ} {inn : ℕ → Bool} {s : State} {p : Outcome A} → base ≤ low → Later upper inn low s p → Later upper inn base s p
later_below {p = p} le h = record { grows = h.grows; goes = h.goes; within = h.within; jumps = jumps_below le p h.jumps }

pub ends_below : {A : Type 0} {w : Limits} {inn : ℕ → Bool} {base low : ℕ} {s : State} {o p : Outcome A} → base ≤ low → Ends w inn low s o p → Ends w inn base s o p
ends_below le h = record { later = later_below le h.later; reaches = h.reaches; passes = h.passes }

-- seen from a state before
pub later_from : {A : Type 0} {upper base : ℕ} {inn : ℕ → Bool} {s t : State} {p : Outcome A} → Grows s t → ((n : ℕ) → upper ≤ n → s.taken ≤ n → t.taken ≤ n) → Later upper inn base t p → Later upper inn base s p
later_from g u h = record { grows = grows_on g h.grows; goes = h.goes; within = λ n up le. h.within n up (u n up le); jumps = h.jumps }

pub ends_from : {A : Type 0} {w : Limits} {inn : ℕ → Bool} {base : ℕ} {s t : State} {o p : Outcome A} → Grows s t → ((n : ℕ) → w.upper ≤ n → s.taken ≤ n → t.taken ≤ n) → Ends w inn base t o p → Ends w inn base s o p
ends_from g u h = record {
  later = later_from g u h.later;
  reaches = h.reaches;
  passes = λ le. h.passes (let more = g.taken in omega (arith, le, more));
}

-- ---- ends that are there at once

pub given : {A : Type 0} {w : Limits} {inn : ℕ → Bool} {base : ℕ} (a : A) (s : State) → Ends w inn base s (Gives a s) (Gives a s)
given a s = record { later = record { grows = grows_same s; goes = tt; within = λ n up le. le; jumps = tt }; reaches = refl; passes = λ le. tt }

pub gone : {A : Type 0} {w : Limits} {inn : ℕ → Bool} {base : ℕ} (e : Exit) (s : State) → inn e.entry ≡ true → (IsJump e.tag → base < s.taken) → Ends {A = A} w inn base s (Leaves e s) (Leaves e s)
gone e s i j = record { later = record { grows = grows_same s; goes = i; within = λ n up le. le; jumps = j }; reaches = refl; passes = λ le. tt }

pub failed : {A : Type 0} {w : Limits} {inn : ℕ → Bool} {base : ℕ} (x : Fault) (p : Place) (s : State) → Ends {A = A} w inn base s (Fails x p s) (Fails x p s)
failed x p s = record { later = record { grows = grows_same s; goes = tt; within = λ n up le. le; jumps = tt }; reaches = refl; passes = λ le. tt }

-- ---- effects

pub effect_grows : {A : Type 0} → (s : State) (o : Ended A) → Grows s (after o) → Grows s (state_of (outcome o))
effect_grows s (Gave a t) g = g
effect_grows s (Left e t) g = g
effect_grows s (Failed x p t) g = g

pub effect_goes : {A : Type 0} (inn : ℕ → Bool) → (o : Ended A) → Goes inn o → GoesTo inn (outcome o)
effect_goes inn (Gave a t) g = g
effect_goes inn (Left e t) g = g
effect_goes inn (Failed x p t) g = g

pub effect_taken : {A : Type 0} (n : ℕ) → (o : Ended A) → (after o).taken ≡ n → (state_of (outcome o)).taken ≡ n
effect_taken n (Gave a t) q = q
effect_taken n (Left e t) q = q
effect_taken n (Failed x p t) q = q

pub no_jump : (tag : Option ℕ) → tag ≡ None → IsJump tag → ⊥
no_jump None h j = j
no_jump (Some t) h j = absurd (cc)

pub effect_apart : {A : Type 0} (base : ℕ) → (o : Ended A) → IsApart o → Jumps base (outcome o)
effect_apart base (Gave a t) i = tt
effect_apart base (Left e t) i = λ j. absurd (no_jump e.tag i j)
effect_apart base (Failed x p t) i = tt

pub effect_jumps : {A : Type 0} (base n : ℕ) → (o : Ended A) → (after o).taken ≡ n → base < n → Jumps base (outcome o)
effect_jumps base n (Gave a t) q lt = tt
effect_jumps base n (Left e t) q lt = λ j. omega (arith, q, lt)
effect_jumps base n (Failed x p t) q lt = tt

pub effect_passes : {A : Type 0} (bound : ℕ) → (o : Ended A) (p : Outcome A) → Passes bound (outcome o) p
effect_passes bound (Gave a t) p = tt
effect_passes bound (Left e t) p = tt
effect_passes bound (Failed x q t) p = tt

pub effect_ends : {A : Type 0} {w : Limits} {inn : ℕ → Bool} (base : ℕ) {m : Effect A} → Leads inn m → (s : State) → Jumps base (outcome (m s)) → Ends w inn base s (outcome (m s)) (outcome (m s))
effect_ends {inn = inn} base {m = m} h s j = record {
  later = record {
    grows = effect_grows s (m s) (h.grows s);
    goes = effect_goes inn (m s) (h.goes s);
    within = λ n up le. (let q = effect_taken s.taken (m s) (h.quiet s) in omega (arith, q, le));
    jumps = j;
  };
  reaches = reaches_itself (outcome (m s));
  passes = λ le. effect_passes _ (m s) (outcome (m s));
}

pub perform_steady : {A : Type 0} {w : Limits} {inn : ℕ → Bool} {m : Effect A} → Lasts inn m → Steady w inn (perform m) (perform m)
unfolding perform
perform_steady {m = m} h = record { ends = λ s. effect_ends s.taken h.leads s (effect_apart s.taken (m s) (h.apart s)) }

-- ---- what is done with how a stretch ends

-- A round of a stretch that began when so much was taken, seen from when base was: what stands round it sees its end.
pub record Rounds {A B : Type 0} (w : Limits) (inn out : ℕ → Bool) (base at : ℕ) (f g : Outcome A → Outcome B) : Type 0 where
  pub gives : (a : A) (s : State) → at ≤ s.taken → Ends w out base s (f (Gives a s)) (g (Gives a s))
  pub leaves : (e : Exit) (s : State) → inn e.entry ≡ true → at ≤ s.taken → (IsJump e.tag → base < s.taken) → Ends w out base s (f (Leaves e s)) (g (Leaves e s))
  pub fails : (x : Fault) (p : Place) (s : State) → Ends w out base s (f (Fails x p s)) (g (Fails x p s))
  pub waits : (s : State) → (f (NotYet s) ≡ NotYet s) × (g (NotYet s) ≡ NotYet s)

pub waiting : {B : Type 0} {upper base : ℕ} {out : ℕ → Bool} (s : State) (q : Outcome B) → q ≡ NotYet s → Later upper out base s q
waiting {upper = upper} {base = base} {out = out} s q e =
    subst (λ v. Later upper out base s v) (sym e) (record { grows = grows_same s; goes = tt; within = λ n up le. le; jumps = tt })

module _ {A B : Type 0} {w : Limits} {inn out : ℕ → Bool} {base at : ℕ} {f g : Outcome A → Outcome B} (r : Rounds w inn out base at f g) where
  -- the second, from where its stretch ended
  pub round_later : (s : State) → at ≤ s.taken → (p : Outcome A) → Later w.upper inn base s p → Later w.upper out base (state_of p) (g p)
  round_later s le (Gives a t) h = (r.gives a t (let more = h.grows.taken in omega (arith, le, more))).later
  round_later s le (Leaves e t) h = (r.leaves e t h.goes (let more = h.grows.taken in omega (arith, le, more)) h.jumps).later
  round_later s le (Fails x p t) h = (r.fails x p t).later
  round_later s le (NotYet t) h = waiting t (g (NotYet t)) (r.waits t).1

  pub round_ended : (s : State) → (o p : Outcome A) → Later w.upper inn base s o → p ≡ o → Ends w out base (state_of o) (f o) (g o) → Ends w out base s (f o) (g p)
  round_ended s o p h e ends = subst (λ v. Ends w out base s (f o) (g v)) (sym e) (ends_from h.grows h.within ends)

  -- the first where the second has ended alike
  pub met : (s : State) → (o p : Outcome A) → Later w.upper inn base s p → p ≡ o → Later w.upper inn base s o
  met s o p h e = subst (λ v. Later w.upper inn base s v) e h

  pub round_ends : (s : State) → at ≤ s.taken → (o p : Outcome A) → Ends w inn base s o p → Ends w out base s (f o) (g p)
  round_ends s le (Gives a t) p h =
      let l = met s (Gives a t) p h.later h.reaches in
      round_ended s (Gives a t) p l h.reaches (r.gives a t (let more = l.grows.taken in omega (arith, le, more)))
  round_ends s le (Leaves e t) p h =
      let l = met s (Leaves e t) p h.later h.reaches in
      round_ended s (Leaves e t) p l h.reaches (r.leaves e t l.goes (let more = l.grows.taken in omega (arith, le, more)) l.jumps)
  round_ends s le (Fails x q t) p h =
      let l = met s (Fails x q t) p h.later h.reaches in round_ended s (Fails x q t) p l h.reaches (r.fails x q t)
  round_ends s le (NotYet t) p h =
      let on = round_later s le p h.later in
      subst (λ v. Ends w out base s v (g p)) (sym (r.waits t).0) (record {
        later = later_from h.later.grows h.later.within on;
        reaches = shown_on h.reaches on.grows;
        passes = λ low. (let more = h.passes low in let further = on.grows.taken in omega (arith, more, further));
      })

pub round_steady : {A B : Type 0} {w : Limits} {inn out : ℕ → Bool} {f g : Outcome A → Outcome B} {m k : Run A} → ((n : ℕ) → Rounds w inn out n n f g) → Steady w inn m k → Steady w out (λ s. f (m s)) (λ s. g (k s))
round_steady {m = m} {k = k} r h = record { ends = λ s. round_ends (r s.taken) s (omega arith) (m s) (k s) (h.ends s) }

-- ---- one stretch and then another

pub bind_rounds : {A B : Type 0} {w : Limits} {inn : ℕ → Bool} (f g : A → Run B) → ((a : A) → Steady w inn (f a) (g a)) → (n : ℕ) → Rounds w inn inn n n (λ o. and_then o f) (λ o. and_then o g)
bind_rounds f g h n = record {
  gives = λ a s le. ends_below le ((h a).ends s);
  leaves = λ e s i le j. gone e s i j;
  fails = λ x p s. failed x p s;
  waits = λ s. (refl, refl);
}

pub bind_steady : {A B : Type 0} {w : Limits} {inn : ℕ → Bool} {m k : Run A} {f g : A → Run B} → Steady w inn m k → ((a : A) → Steady w inn (f a) (g a)) → Steady w inn (m >>= f) (k >>= g)
unfolding ◌>>=◌
bind_steady {f = f} {g = g} h i = round_steady (bind_rounds f g i) h

pub then_steady : {A B : Type 0} {w : Limits} {inn : ℕ → Bool} {m k : Run A} {f g : Run B} → Steady w inn m k → Steady w inn f g → Steady w inn (m >> f) (k >> g)
then_steady h i = bind_steady h (λ a. i)

pub pure_steady : {A : Type 0} {w : Limits} {inn : ℕ → Bool} → (a : A) → Steady w inn (pure a) (pure a)
unfolding pure
pure_steady a = record { ends = λ s. given a s }

-- where the first stops, and so much was taken already
pub stop_steady : {A : Type 0} {w : Limits} {inn : ℕ → Bool} {k : Run A} → suc w.lower ≤ w.low → ((s : State) → Later w.upper inn s.taken s (k s)) → Steady w inn stop k
unfolding stop
stop_steady {w = w} much h = record {
  ends = λ s. record {
    later = h s;
    reaches = shown_on (shown_same s) (h s).grows;
    passes = λ le. (let past = w.past in let more = (h s).grows.taken in omega (arith, much, le, past, more));
  };
}

pub stopped : {A : Type 0} {upper : ℕ} {inn : ℕ → Bool} (s : State) → Later {A = A} upper inn s.taken s (stop s)
unfolding stop
stopped s = record { grows = grows_same s; goes = tt; within = λ n up le. le; jumps = tt }

pub either_steady : {A : Type 0} {w : Limits} {inn : ℕ → Bool} {m k r s : Run A} → (b : Bool) → Steady w inn m k → Steady w inn r s → Steady w inn (if b then m else r) (if b then k else s)
either_steady true h i = h
either_steady false h i = i

pub first_steady : {w : Limits} {inn : ℕ → Bool} {m k : Run Vals} → Steady w inn m k → Steady w inn (first m) (first k)
unfolding first
first_steady h = bind_steady h (λ vs. pure_steady _)

pub visit_steady : {w : Limits} {inn : ℕ → Bool} (cx : Around) {m k : Run Vals} → Steady w inn m k → Steady w inn (visit cx m) (visit cx k)
unfolding visit
visit_steady cx h = bind_steady (then_steady (perform_steady (spend_lasts 1)) h) (λ vs. perform_steady (deliver_lasts _ vs))

-- ---- fuel

pub taken_grows : (s : State) → Grows s (record s { taken = suc s.taken })
taken_grows s = record { output = ([], refl); counts = counts_same s.counts; taken = omega arith }

-- what follows, once one more was taken than base
abbrev pub Onwards : {A : Type 0} → Limits → (ℕ → Bool) → (f g : Run A) → Type 0
Onwards w inn f g = (base : ℕ) (t : State) → base < t.taken → Ends (raised w) inn base t (f t) (g t)

module _ {A : Type 0} (w : Limits) (inn : ℕ → Bool) (f g : Run A) (on : Onwards w inn f g) (s : State) where
  -- r and q are left
  pub fuel_ends : (r q : ℕ) → w.lower - s.taken ≡ r → w.upper - s.taken ≡ q → Ends w inn s.taken s (and_then (take_left r s) (λ _. f)) (and_then (take_left q s) (λ _. g))
  unfolding take_left stop
  fuel_ends zero zero e d = record {
    later = stopped s;
    reaches = shown_same s;
    passes = λ le. (let most = w.most in omega (arith, d, most));
  }
  fuel_ends zero (suc q) e d =
      let h = (on s.taken (record s { taken = suc s.taken }) (omega arith)).later in
      let there : (n : ℕ) → w.upper ≤ n → s.taken ≤ n → suc s.taken ≤ n = λ n up le. omega (arith, d, up) in
      let l = later_from (taken_grows s) there h in
      record {
        later = l;
        reaches = shown_on (shown_same s) l.grows;
        passes = λ le. (let past = w.past in let more = h.grows.taken in omega (arith, e, past, more));
      }
  fuel_ends (suc r) zero e d = absurd (let o = w.ordered in omega (arith, e, d, o))
  fuel_ends (suc r) (suc q) e d =
      let h = on s.taken (record s { taken = suc s.taken }) (omega arith) in
      let there : (n : ℕ) → w.upper ≤ n → s.taken ≤ n → suc s.taken ≤ n = λ n up le. omega (arith, d, up) in
      record {
        later = later_from (taken_grows s) there h.later;
        reaches = h.reaches;
        passes = λ le. h.passes (omega (arith, le));
      }

pub fuel_steady : {A : Type 0} {w : Limits} {inn : ℕ → Bool} {f g : Run A} → Onwards w inn f g → Steady w inn (take_fuel w.lower >> f) (take_fuel w.upper >> g)
unfolding ◌>>=◌ take_fuel
fuel_steady {w = w} {inn = inn} {f = f} {g = g} on = record { ends = λ s. fuel_ends w inn f g on s (w.lower - s.taken) (w.upper - s.taken) refl refl }

pub call_steady : {A : Type 0} {w : Limits} {inn : ℕ → Bool} {f g : Run A} → Steady (raised w) inn f g → Steady w inn (take_fuel w.lower >> f) (take_fuel w.upper >> g)
call_steady h = fuel_steady (λ base t lt. ends_below (omega (arith, lt)) (h.ends t))

pub effect_onwards : {A : Type 0} {w : Limits} {inn : ℕ → Bool} {m : Effect A} → Leads inn m → Onwards w inn (perform m) (perform m)
unfolding perform
effect_onwards {m = m} h base t lt = effect_ends base h t (effect_jumps base t.taken (m t) (h.quiet t) lt)

pub jump_steady : {A : Type 0} {w : Limits} {inn : ℕ → Bool} {m : Effect A} → Leads inn m → Steady w inn (take_fuel w.lower >> perform m) (take_fuel w.upper >> perform m)
jump_steady h = fuel_steady (effect_onwards h)

-- ---- exits that arrive

pub leave_ends : {A : Type 0} {w : Limits} {inn : ℕ → Bool} {base : ℕ} (e : Exit) (s : State) → inn e.entry ≡ true → (IsJump e.tag → base < s.taken) → Ends w inn base s (perform (leave {A = A} e) s) (perform (leave e) s)
unfolding perform leave
leave_ends e s i j = gone e s i j

-- a stretch, and then the exit goes on
pub onwards_rounds : {A B : Type 0} {w : Limits} {inn : ℕ → Bool} (base at : ℕ) (e : Exit) → inn e.entry ≡ true → (IsJump e.tag → base < at) →
    Rounds {A = A} {B = B} w inn inn base at (λ o. and_then o (λ _. perform (leave e))) (λ o. and_then o (λ _. perform (leave e)))
onwards_rounds base at e i j = record {
  gives = λ a s le. leave_ends e s i (λ is. (let lt = j is in omega (arith, le, lt)));
  leaves = λ x s h le k. gone x s h k;
  fails = λ x p s. failed x p s;
  waits = λ s. (refl, refl);
}

pub leaving_ends : {A B : Type 0} {w : Limits} {inn : ℕ → Bool} {m k : Run A} {base : ℕ} → Steady w inn m k → (e : Exit) (s : State) → inn e.entry ≡ true → base ≤ s.taken → (IsJump e.tag → base < s.taken) →
    Ends {A = B} w inn base s ((m >> perform (leave e)) s) ((k >> perform (leave e)) s)
unfolding ◌>>=◌
leaving_ends {m = m} {k = k} {base = base} h e s i le j =
    round_ends (onwards_rounds base s.taken e i j) s (omega arith) (m s) (k s) (ends_below le (h.ends s))

pub passed_ends : {A : Type 0} {w : Limits} {inn : ℕ → Bool} {base : ℕ} (e : Exit) (s : State) → inn e.entry ≡ true → base ≤ s.taken → (IsJump e.tag → base < s.taken) → Ends {A = A} w inn base s (passed e s) (passed e s)
unfolding passed
passed_ends e s i le j = leaving_ends (perform_steady (spend_lasts 1)) e s i le j

-- an entry in force is this one, or was so before
abbrev pub OrOuter : ℕ → (inn out : ℕ → Bool) → Type 0
OrOuter n inn out = (e : ℕ) → inn e ≡ true → (e == n) ≡ false → out e ≡ true

pub land_ends : {w : Limits} {out : ℕ → Bool} {base : ℕ} (here catches : Bool) (e : Exit) (s : State) → (here ≡ false → out e.entry ≡ true) → base ≤ s.taken → (IsJump e.tag → base < s.taken) →
    Ends w out base s (land here catches e s) (land here catches e s)
unfolding land pure
land_ends true catches e s h le j = given e.values s
land_ends false true e s h le j = passed_ends e s (h refl) le j
land_ends false false e s h le j = leave_ends e s (h refl) j

pub arrive_rounds : {w : Limits} {inn out : ℕ → Bool} (n : ℕ) (catches : Bool) → OrOuter n inn out → (b : ℕ) → Rounds w inn out b b (arrive n catches) (arrive n catches)
arrive_rounds n catches outer b = record {
  gives = λ vs s le. given vs s;
  leaves = λ e s i le j. land_ends (e.entry == n) catches e s (outer e.entry i) le j;
  fails = λ x p s. failed x p s;
  waits = λ s. (refl, refl);
}

pub entry_outer : (f : Force) (n : ℕ) → OrOuter n (in_force (with_entry n f)) (in_force f)
entry_outer f n e h other = subst (λ (b : Bool). ((b || is_entry e f.entries) || is_catch e f.catches) ≡ true) other h

pub or_end : (a b c : Bool) → (a || (b || c)) ≡ true → b ≡ false → (a || c) ≡ true
or_end true b c h e = refl
or_end false true c h e = absurd (cc)
or_end false false c h e = h

pub catch_outer : (f : Force) (v : Val) (n : ℕ) → OrOuter n (in_force (with_catch v n f)) (in_force f)
catch_outer f v n e h other = or_end _ (e == n) _ h other

pub block_steady : {w : Limits} (f : Force) (n : ℕ) {m k : Run Vals} → Steady w (in_force (with_entry n f)) m k → Steady w (in_force f) (block_round n m) (block_round n k)
unfolding block_round
block_steady f n h = round_steady (arrive_rounds n false (entry_outer f n)) h

pub catch_steady : {w : Limits} (f : Force) (v : Val) (n : ℕ) {m k : Run Vals} → Steady w (in_force (with_catch v n f)) m k → Steady w (in_force f) (catch_round n m) (catch_round n k)
unfolding catch_round
catch_steady f v n h = round_steady (arrive_rounds n true (catch_outer f v n)) h

-- ---- jumps

pub astray_ends : {w : Limits} {out : ℕ → Bool} {base : ℕ} (s : State) → Ends w out base s (astray s) (astray s)
unfolding astray perform fail
astray_ends s = failed _ _ s

pub astray_steady : {w : Limits} {inn : ℕ → Bool} → Steady w inn astray astray
astray_steady = record { ends = λ s. astray_ends s }

-- an exit that is a jump here goes on by r and by k
pub jump_ends : {w : Limits} {out : ℕ → Bool} {base : ℕ} (here : Bool) (tag : Option ℕ) (r k : ℕ → Run Vals) (e : Exit) (s : State) → (here ≡ false → out e.entry ≡ true) → (IsJump e.tag → base < s.taken) →
    ((t : ℕ) → IsJump tag → Ends w out base s (r t s) (k t s)) → Ends w out base s (jump here tag r e s) (jump here tag k e s)
unfolding jump pure
jump_ends true (Some t) r k e s h j on = on t tt
jump_ends true None r k e s h j on = astray_ends s
jump_ends false tag r k e s h j on = leave_ends e s (h refl) j

pub stop_ends : {A : Type 0} {w : Limits} {out : ℕ → Bool} {base : ℕ} (k : Run A) (s : State) → suc w.lower ≤ s.taken → Later w.upper out base s (k s) → Ends w out base s (stop s) (k s)
unfolding stop
stop_ends {w = w} k s much h = record {
  later = h;
  reaches = shown_on (shown_same s) h.grows;
  passes = λ le. (let past = w.past in let more = h.grows.taken in omega (arith, much, past, more));
}

module _ {inn out : ℕ → Bool} (entry : ℕ) (outer : OrOuter entry inn out) where
  -- the jumps that are left make up for the fuel that is left
  pub last_rounds : {w : Limits} (from later : ℕ → Run Vals) (base : ℕ) → w.lower ≤ base + 0 → Rounds w inn out base base (jumps 0 entry from) (jumps 0 entry later)
  last_rounds from later base few = record {
    gives = λ vs s le. given vs s;
    leaves = λ e s i le j. jump_ends (e.entry == entry) e.tag (λ t. stop) (λ t. stop) e s (outer e.entry i) j
        (λ t is. stop_ends stop s (let lt = j is in omega (arith, lt, few)) (later_below le (stopped s)));
    fails = λ x p s. failed x p s;
    waits = λ s. (refl, refl);
  }

  -- one jump more
  pub onward : {w : Limits} (n m : ℕ) (from later : ℕ → Run Vals) → ((t : ℕ) → Steady w inn (from t) (later t)) → ((base : ℕ) → w.lower ≤ base + n → Rounds w inn out base base (jumps n entry from) (jumps m entry later)) →
      (base : ℕ) → w.lower ≤ base + suc n → (t : ℕ) (s : State) → base < s.taken → Ends w out base s (jumps n entry from (from t s)) (jumps m entry later (later t s))
  onward n m from later each r base few t s lt =
      ends_below (omega (arith, lt)) (round_ends (r s.taken (omega (arith, few, lt))) s (omega arith) (from t s) (later t s) ((each t).ends s))

  pub more_rounds : {w : Limits} (n m : ℕ) (from later : ℕ → Run Vals) → ((t : ℕ) → Steady w inn (from t) (later t)) → ((base : ℕ) → w.lower ≤ base + n → Rounds w inn out base base (jumps n entry from) (jumps m entry later)) →
      (base : ℕ) → w.lower ≤ base + suc n → Rounds w inn out base base (jumps (suc n) entry from) (jumps (suc m) entry later)
  more_rounds n m from later each r base few = record {
    gives = λ vs s le. given vs s;
    leaves = λ e s i le j. jump_ends (e.entry == entry) e.tag (λ t u. jumps n entry from (from t u)) (λ t u. jumps m entry later (later t u)) e s (outer e.entry i) j
        (λ t is. onward n m from later each r base few t s (j is));
    fails = λ x p s. failed x p s;
    waits = λ s. (refl, refl);
  }

  -- the second alone
  pub itself_rounds : (w : Limits) (m : ℕ) (later : ℕ → Run Vals) → ((t : ℕ) → Steady (alone w) inn (later t) (later t)) → (base : ℕ) → Rounds (alone w) inn out base base (jumps m entry later) (jumps m entry later)
  itself_rounds w zero later each base = last_rounds later later base (omega arith)
  itself_rounds w (suc m) later each base = more_rounds m m later later each (λ b few. itself_rounds w m later each b) base (omega arith)

  pub zero_rounds : {w : Limits} (m : ℕ) (from later : ℕ → Run Vals) → ((t : ℕ) → Steady w inn (from t) (later t)) →
      (base : ℕ) → w.lower ≤ base + 0 → Rounds w inn out base base (jumps 0 entry from) (jumps (suc m) entry later)
  zero_rounds {w = w} m from later each base few = record {
    gives = λ vs s le. given vs s;
    leaves = λ e s i le j. jump_ends (e.entry == entry) e.tag (λ t. stop) (λ t u. jumps m entry later (later t u)) e s (outer e.entry i) j
        (λ t is. stop_ends (λ u. jumps m entry later (later t u)) s (let lt = j is in omega (arith, lt, few))
        (onward {w = alone w} m m later later (λ x. again (each x)) (λ b less. itself_rounds w m later (λ x. again (each x)) b) base (omega arith) t s (j is)).later);
    fails = λ x p s. failed x p s;
    waits = λ s. (refl, refl);
  }

  pub jumps_rounds : {w : Limits} (n m : ℕ) → n ≤ m → (from later : ℕ → Run Vals) → ((t : ℕ) → Steady w inn (from t) (later t)) → (base : ℕ) → w.lower ≤ base + n → Rounds w inn out base base (jumps n entry from) (jumps m entry later)
  jumps_rounds zero zero le from later each base few = last_rounds from later base few
  jumps_rounds zero (suc m) le from later each base few = zero_rounds m from later each base few
  jumps_rounds (suc n) zero le from later each base few = absurd (omega (arith, le))
  jumps_rounds (suc n) (suc m) le from later each base few =
      more_rounds n m from later each (λ b less. jumps_rounds n m (omega (arith, le)) from later each b less) base few

pub tagbody_steady : {w : Limits} (f : Force) (e : ℕ) (from later : ℕ → Run Vals) → ((t : ℕ) → Steady w (in_force (with_entry e f)) (from t) (later t)) →
    {r k : Run Vals} → Steady w (in_force (with_entry e f)) r k → Steady w (in_force f) (tagbody_round w.lower e from r) (tagbody_round w.upper e later k)
unfolding tagbody_round
tagbody_steady {w = w} f e from later each h =
    round_steady (λ b. jumps_rounds e (entry_outer f e) w.lower w.upper w.ordered from later each b (omega arith)) h

-- ---- special variables, cleanups, frames

pub change_value_steady : {w : Limits} {inn : ℕ → Bool} (x : SymId) (old : Option Val) → Steady w inn (perform (change (give x old))) (perform (change (give x old)))
change_value_steady x old = perform_steady (quiet_lasts _ (λ s. (refl, refl, refl)))

pub restore_rounds : {A : Type 0} {w : Limits} {inn : ℕ → Bool} (x : SymId) (old : Option Val) (b : ℕ) → Rounds {A = A} w inn inn b b (restore x old) (restore x old)
restore_rounds x old b = record {
  gives = λ a s le. ends_below le ((then_steady (change_value_steady x old) (pure_steady a)).ends s);
  leaves = λ e s i le j. leaving_ends (then_steady (perform_steady (spend_lasts 1)) (change_value_steady x old)) e s i le j;
  fails = λ f p s. failed f p s;
  waits = λ s. (refl, refl);
}

pub restoring_steady : {A : Type 0} {w : Limits} {inn : ℕ → Bool} (x : SymId) {m k : Run A} → Steady w inn m k → (old : Option Val) → Steady w inn (restoring x m old) (restoring x k old)
unfolding restoring
restoring_steady x h old = round_steady (restore_rounds x old) h

pub cleaned_rounds : {w : Limits} {inn : ℕ → Bool} (c d : ℕ → Run Vals) → ((n : ℕ) → Steady w inn (c n) (d n)) → (b : ℕ) → Rounds w inn inn b b (cleaned c) (cleaned d)
cleaned_rounds c d h b = record {
  gives = λ vs s le. ends_below le ((then_steady (h (length vs)) (pure_steady vs)).ends s);
  leaves = λ e s i le j. leaving_ends (then_steady (perform_steady (spend_lasts 1)) (h (length e.values))) e s i le j;
  fails = λ x p s. failed x p s;
  waits = λ s. (refl, refl);
}

pub guarded_steady : {w : Limits} {inn : ℕ → Bool} (c d : ℕ → Run Vals) → ((n : ℕ) → Steady w inn (c n) (d n)) → {m k : Run Vals} → Steady w inn m k → Steady w inn (guarded c m) (guarded d k)
unfolding guarded
guarded_steady c d i h = round_steady (cleaned_rounds c d i) h

pub returned_rounds : {w : Limits} {inn : ℕ → Bool} (b : ℕ) → Rounds w inn inn b b returned returned
returned_rounds b = record {
  gives = λ vs s le. ends_below le ((then_steady (perform_steady (box_lasts vs)) (pure_steady vs)).ends s);
  leaves = λ e s i le j. passed_ends e s i le j;
  fails = λ x p s. failed x p s;
  waits = λ s. (refl, refl);
}

pub framed_steady : {w : Limits} {inn : ℕ → Bool} (tail : Bool) {m k : Run Vals} → Steady w inn m k → Steady w inn (framed tail m) (framed tail k)
unfolding framed
framed_steady true h = h
framed_steady false h = round_steady returned_rounds h

-- a state whose frame alone is another
pub frame_grows : (s : State) (old : List (ℕ × Val)) → Grows s (record s { frame = old })
frame_grows s old = record { output = ([], refl); counts = counts_same s.counts; taken = omega arith }

pub framed_later : {A : Type 0} {upper base : ℕ} {inn : ℕ → Bool} (old : List (ℕ × Val)) (s : State) (p : Outcome A) → Later upper inn base s p → Later upper inn base s (back_in old p)
framed_later old s (Gives a t) h = record { grows = grows_on h.grows (frame_grows t old); goes = tt; within = h.within; jumps = tt }
framed_later old s (Leaves e t) h = record { grows = grows_on h.grows (frame_grows t old); goes = h.goes; within = h.within; jumps = h.jumps }
framed_later old s (Fails x p t) h = h
framed_later old s (NotYet t) h = h

pub framed_reaches : {A : Type 0} (old : List (ℕ × Val)) (o p : Outcome A) → Reaches o p → Reaches (back_in old o) (back_in old p)
framed_reaches old (Gives a s) p e = ap (λ v. back_in old v) e
framed_reaches old (Leaves x s) p e = ap (λ v. back_in old v) e
framed_reaches old (Fails x q s) p e = ap (λ v. back_in old v) e
framed_reaches old (NotYet s) p e = shown_on e (framed_growth old p)
  where
    framed_growth : {A : Type 0} (old : List (ℕ × Val)) (p : Outcome A) → Grows (state_of p) (state_of (back_in old p))
    framed_growth old (Gives a t) = frame_grows t old
    framed_growth old (Leaves e t) = frame_grows t old
    framed_growth old (Fails x q t) = grows_same t
    framed_growth old (NotYet t) = grows_same t

pub framed_taken : {A : Type 0} (old : List (ℕ × Val)) (p : Outcome A) → (state_of (back_in old p)).taken ≡ (state_of p).taken
framed_taken old (Gives a t) = refl
framed_taken old (Leaves e t) = refl
framed_taken old (Fails x q t) = refl
framed_taken old (NotYet t) = refl

pub framed_passes : {A : Type 0} (bound : ℕ) (old : List (ℕ × Val)) (o p : Outcome A) → Passes bound o p → Passes bound (back_in old o) (back_in old p)
framed_passes bound old (Gives a s) p h = tt
framed_passes bound old (Leaves e s) p h = tt
framed_passes bound old (Fails x q s) p h = tt
framed_passes bound old (NotYet s) p h = let e = framed_taken old p in omega (arith, e, h)

pub framed_ends : {A : Type 0} {w : Limits} {inn : ℕ → Bool} (new : List (ℕ × Val)) {m k : Run A} → Steady w inn m k → (s : State) →
    Ends w inn s.taken s (back_in s.frame (m (record s { frame = new }))) (back_in s.frame (k (record s { frame = new })))
framed_ends new {m = m} {k = k} h s =
    let t = record s { frame = new } in
    let e = h.ends t in
    let from = later_from (frame_grows s new) (λ n up le. le) e.later in
    record {
      later = framed_later s.frame s (k t) from;
      reaches = framed_reaches s.frame (m t) (k t) e.reaches;
      passes = λ le. framed_passes _ s.frame (m t) (k t) (e.passes le);
    }

pub frame_steady : {A : Type 0} {w : Limits} {inn : ℕ → Bool} (new : List (ℕ × Val)) {m k : Run A} → Steady w inn m k → Steady w inn (in_frame new m) (in_frame new k)
unfolding in_frame
frame_steady new h = record { ends = λ s. framed_ends new h s }
