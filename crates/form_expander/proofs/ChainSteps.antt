-- A chain of forms, one more at a time.
use Rattle.std.proofs.Common.{◌≡◌, ◌<◌, ◌≤◌, ◌-◌, refl, ap, sym, ◌∙◌, subst, ℕ, zero, suc, arith}
use Rattle.lisp_base.specs.declared.values.Val.{Val}
use Rattle.expansion.specs.declared.kind.ExpandKind.TheVariants.{TooNested}
use Rattle.expansion.specs.Scopes.{Scope, at_form}
use Rattle.expansion.specs.Steps.{World, Answer, gives, refused, and_then}
use Rattle.expansion.specs.Sketches.{Sketch, Plan, instead, declared_around, makes}
use Rattle.expansion.specs.Forms.{plan_of}
use Rattle.form_expander.specs.declared.fault.Fault.{Fault}
use Rattle.form_expander.specs.declared.fault.Fault.TheVariants as fault
use Rattle.form_expander.specs.Chains.{Next, on, there, led, next_of, stepped, stepped_in, leads, go_on}
use Rattle.form_expander.specs.Extending.{Extends}
use Rattle.form_expander.specs.Outcomes.{Refuses}
use Rattle.form_expander.proofs.Within.{stays, further, at_form_extends, declared_extends}

pub no_fuel : (fuel chain : ℕ) (sc : Scope) (v : Val) (w : World) → fuel ≤ 0 → leads fuel chain sc v w ≡ refused TooNested sc.place
unfolding leads
no_fuel zero chain sc v w h = refl
no_fuel (suc fuel) chain sc v w h = absurd (omega (arith, h))

pub led_there : (fuel chain : ℕ) (sc own : Scope) (v : Val) (x : Sketch) (w u : World) → 0 < fuel → stepped sc v w ≡ gives (there own x) u → leads fuel chain sc v w ≡ gives (led (fuel - 1) own x) u
unfolding leads
led_there zero chain sc own v x w u h e = absurd (omega (arith, h))
led_there (suc fuel) chain sc own v x w u h e =
    let k : suc fuel - 1 ≡ fuel = omega arith in
    ap (λ (a : Answer Next). and_then a (go_on (leads fuel) fuel chain)) e ∙ ap (λ (n : ℕ). gives (led n own x) u) (sym k)

pub led_on : (fuel chain : ℕ) (sc own : Scope) (v x : Val) (w u : World) → 0 < fuel → 0 < chain → stepped sc v w ≡ gives (on own x) u → leads fuel chain sc v w ≡ leads (fuel - 1) (chain - 1) own x u
unfolding leads
led_on zero chain sc own v x w u h k e = absurd (omega (arith, h))
led_on (suc fuel) zero sc own v x w u h k e = absurd (omega (arith, k))
led_on (suc fuel) (suc chain) sc own v x w u h k e =
    let f : suc fuel - 1 ≡ fuel = omega arith in
    let c : suc chain - 1 ≡ chain = omega arith in
    ap (λ (a : Answer Next). and_then a (go_on (leads fuel) fuel (suc chain))) e
    ∙ (ap (λ (n : ℕ). leads n chain own x u) (sym f) ∙ ap (λ (n : ℕ). leads (suc fuel - 1) n own x u) (sym c))

pub led_past : (fuel chain : ℕ) (sc own : Scope) (v x : Val) (w u : World) → 0 < fuel → chain ≡ 0 → stepped sc v w ≡ gives (on own x) u → leads fuel chain sc v w ≡ refused TooNested own.place
unfolding leads
led_past zero chain sc own v x w u h k e = absurd (omega (arith, h))
led_past (suc fuel) zero sc own v x w u h k e = ap (λ (a : Answer Next). and_then a (go_on (leads fuel) fuel zero)) e
led_past (suc fuel) (suc chain) sc own v x w u h k e = absurd (omega (arith, k))

pub led_refused : (fuel chain : ℕ) (sc : Scope) (v : Val) (w : World) (e : Fault) → 0 < fuel → Refuses (stepped sc v w) e → Refuses (leads fuel chain sc v w) e
unfolding leads
led_refused zero chain sc v w e h k = absurd (omega (arith, h))
led_refused (suc fuel) chain sc v w fault.Memory h k = k
led_refused (suc fuel) chain sc v w (fault.Refused kind place) h k = ap (λ (a : Answer Next). and_then a (go_on (leads fuel) fuel chain)) k

-- ---- scopes

abbrev pub scope_in : Next → Scope
scope_in (on sc v) = sc
scope_in (there sc x) = sc

next_extends : (sc : Scope) (p : Plan) → Extends sc (scope_in (next_of sc p))
next_extends sc (instead v) = stays sc
next_extends sc (declared_around d v) = declared_extends d sc
next_extends sc (makes x) = stays sc

by_answer : (sc : Scope) (a : Answer Plan) (n : Next) (u : World) → and_then a (λ p. λ after. gives (next_of sc p) after) ≡ gives n u → Extends sc (scope_in n)
by_answer sc (gives p w) n u e = subst (λ (m : Next). Extends sc (scope_in m)) (given e) (next_extends sc p)
  where
    given : {m n : Next} {w u : World} → gives m w ≡ gives n u → m ≡ n
    given e = cc
by_answer sc (refused kind place) n u e = absurd (cc)

pub step_extends : (sc : Scope) (v : Val) (n : Next) (w u : World) → stepped sc v w ≡ gives n u → Extends sc (scope_in n)
unfolding stepped stepped_in
step_extends sc v n w u e =
    further sc (at_form w.heap v sc) (scope_in n) (at_form_extends w.heap v sc) (by_answer (at_form w.heap v sc) (plan_of (at_form w.heap v sc) v w) n u e)

-- ---- what stands for a form

pub step_gives : (sc own : Scope) (v : Val) (p : Plan) (w u : World) → own ≡ at_form w.heap v sc → plan_of (at_form w.heap v sc) v w ≡ gives p u → stepped sc v w ≡ gives (next_of own p) u
unfolding stepped stepped_in
step_gives sc own v p w u same h =
    ap (λ (a : Answer Plan). and_then a (λ p. λ after. gives (next_of (at_form w.heap v sc) p) after)) h ∙ ap (λ (s : Scope). gives (next_of s p) u) (sym same)

pub step_refused : (sc : Scope) (v : Val) (w : World) (e : Fault) → Refuses (plan_of (at_form w.heap v sc) v w) e → Refuses (stepped sc v w) e
unfolding stepped stepped_in
step_refused sc v w fault.Memory h = h
step_refused sc v w (fault.Refused kind place) h = ap (λ (a : Answer Plan). and_then a (λ p. λ after. gives (next_of (at_form w.heap v sc) p) after)) h
