-- How much fuel a run takes.
use Rattle.std.proofs.Common.{◌≡◌, refl, ap, sym, subst, ℕ, suc, ◌<◌, ◌≤◌, ◌⊎◌, inl, inr, List, arith}
use Rattle.std.proofs.lemmas.Bool.{cases_lt}
use Rattle.lisp_base.specs.declared.values.Val.{Val}
use Rattle.core_form.specs.Run.{Outcome, Gives, Leaves, Fails, NotYet}
use Rattle.core_form.specs.Eval.{Program, evaluate, ending_of, Unfinished, taken_of}
use Rattle.core_form.specs.Growth.{Reaches}
use Rattle.core_form.specs.Laws.{TakesWithin, UnfinishedTookAll, EnoughWasTaken, TakenStays}
use Rattle.core_form.proofs.Steady.{Passes}
use Rattle.core_form.proofs.Fuel.{evaluate_ends}

pub takes_within : TakesWithin
takes_within p input n =
    (evaluate_ends p input n n 0 (omega arith) (omega arith) (omega arith)).later.within n (omega arith) (omega arith)

-- what is taken with m where n is short
passes : (p : Program) (input : List ℕ) (n m bound : ℕ) → n ≤ m → bound ≤ suc n → bound ≤ m → Passes bound (evaluate p input n) (evaluate p input m)
passes p input n m bound le past most = (evaluate_ends p input n m bound le past most).passes (omega arith)

short_took : (bound : ℕ) (o p : Outcome Val) → Passes bound o p → ending_of o ≡ Unfinished → bound ≤ taken_of p
short_took bound (Gives v s) p h e = absurd (cc)
short_took bound (Leaves x s) p h e = absurd (cc)
short_took bound (Fails x q s) p h e = absurd (cc)
short_took bound (NotYet s) p h e = h

pub unfinished_took_all : UnfinishedTookAll
unfinished_took_all p input n e =
    let o = evaluate p input n in
    let least = short_took n o o (passes p input n n n (omega arith) (omega arith) (omega arith)) e in
    let most = takes_within p input n in
    omega (arith, least, most)

-- a run that isn't short with what another took is the same
same_run : (o w : Outcome Val) → Reaches o w → Passes (suc (taken_of w)) o w → o ≡ w
same_run (Gives v s) w r h = sym r
same_run (Leaves x s) w r h = sym r
same_run (Fails x q s) w r h = sym r
same_run (NotYet s) w r h = absurd (omega (arith, h))

module _ (p : Program) (input : List ℕ) (n : ℕ) where
  taken : ℕ
  taken = taken_of (evaluate p input n)

  enough_by : (t : ℕ) → t ≡ taken_of (evaluate p input n) → (t < n) ⊎ (n ≤ t) → evaluate p input t ≡ evaluate p input n
  enough_by t e (inl lt) =
      let reaches = (evaluate_ends p input t n (suc t) (omega (arith, lt)) (omega arith) (omega (arith, lt))).reaches in
      let h = passes p input t n (suc t) (omega (arith, lt)) (omega arith) (omega (arith, lt)) in
      same_run (evaluate p input t) (evaluate p input n) reaches
      (subst (λ (k : ℕ). Passes (suc k) (evaluate p input t) (evaluate p input n)) e h)
  enough_by t e (inr le) =
      let most = takes_within p input n in
      let same : t ≡ n = omega (arith, e, le, most) in ap (λ (k : ℕ). evaluate p input k) same

pub enough_was_taken : EnoughWasTaken
enough_was_taken p input n =
    let t = taken_of (evaluate p input n) in enough_by p input n t refl (cases_lt t n)

taken_reaches : (n : ℕ) (o w : Outcome Val) → taken_of o ≤ n → Reaches o w → Passes n o w → taken_of o ≤ taken_of w
taken_reaches n (Gives v s) w le r h = let e = ap (λ (u : Outcome Val). taken_of u) r in omega (arith, e)
taken_reaches n (Leaves x s) w le r h = let e = ap (λ (u : Outcome Val). taken_of u) r in omega (arith, e)
taken_reaches n (Fails x q s) w le r h = let e = ap (λ (u : Outcome Val). taken_of u) r in omega (arith, e)
taken_reaches n (NotYet s) w le r h = omega (arith, le, h)

pub taken_stays : TakenStays
taken_stays p input n m le =
    taken_reaches n (evaluate p input n) (evaluate p input m) (takes_within p input n)
    (evaluate_ends p input n m n le (omega arith) le).reaches (passes p input n m n le (omega arith) le)
