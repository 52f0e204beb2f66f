-- A run, step by step.
use Rattle.std.proofs.Common.{◌≡◌, ◌≢◌, ℕ, ◌+◌, ◌<◌, ◌≤◌, List, ◌++◌, Option, Some, None, refl, sym, ap, subst, ◌∙◌, inl, inr, arith, add-one, length-drop}
use Rattle.std.proofs.lemmas.List.{append-nil}
use Rattle.std.proofs.lemmas.Bool.{cases_lt}
use Rattle.rv_isa.specs.declared.ending.Ending.{Ending}
use Rattle.rv_isa.specs.declared.ending.Ending.TheVariants as ending
use Rattle.rv_isa.specs.Machine.{Space, State, step, steps}
use Rattle.rv_machine.specs.declared.events.Event.{Event}
use Rattle.rv_machine.specs.declared.events.Event.TheVariants as event
use Rattle.rv_machine.specs.declared.machine.Machine.{Machine}
use Rattle.rv_machine.specs.View.{state, space, taken}
use Rattle.rv_machine.specs.Steps.{Does, Tells, written, counts}
use Rattle.rv_machine.specs.Runs.{IsRun}

-- after n steps each of which went
pub record IsGoing (input : List ℕ) (old : Machine) (n : ℕ) (now : Machine) : Type 0 where
  pub made : (output : List ℕ) → state output input now ≡ steps (space old) n (state output input old)
  pub quiet : (output : List ℕ) (k : ℕ) → 0 < k → k ≤ n → ((steps (space old) k (state output input old)).ending ≡ None) × ((steps (space old) k (state output input old)).output ≡ output)
  pub on : 0 < n → now.ending ≡ None
  pub counted : taken now ≡ counts input (taken old) (taken now)
  pub stays : space now ≡ space old

pub going_first : (input : List ℕ) (m : Machine) → IsGoing input m 0 m
going_first input m = record {
  made = λ output. refl;
  quiet = λ output k above below. absurd (omega arith);
  on = λ h. absurd (omega arith);
  counted = omega arith;
  stays = refl;
}

told_went : (o : Option Ending) → Tells event.Went o → o ≡ None
told_went None h = refl
told_went (Some (ending.Value v)) h = cc
told_went (Some (ending.Error kind a b c pc)) h = cc
told_went (Some ending.Heap) h = cc
told_went (Some ending.Stack) h = cc
told_went (Some (ending.Trap pc)) h = cc

-- a count of a count
counts_on : (input : List ℕ) (a b c : ℕ) → b ≡ counts input a b → c ≡ counts input b c → c ≡ counts input a c
counts_on input a b c first second =
    omega (arith, first, second, length-drop a input, length-drop b input, length-drop c input)

-- one more step
made_more : (input : List ℕ) (old : Machine) (n : ℕ) (now : Machine) (e : Event) (new : Machine) → IsGoing input old n now → Does (step (space now)) input now e new → (output : List ℕ) → state (output ++ written e) input new ≡ steps (space old) (n + 1) (state output input old)
made_more input old n now e new going does output =
    rw add-one (does.made output ∙ ap (λ (s : Space). step s (state output input now)) going.stays ∙ ap (step (space old)) (going.made output))

pub going_more : (input : List ℕ) (old : Machine) (n : ℕ) (now : Machine) (e : Event) (new : Machine) → IsGoing input old n now → Does (step (space now)) input now e new → e ≡ event.Went → IsGoing input old (n + 1) new
going_more input old n now e new going does went =
    let on : new.ending ≡ None = told_went new.ending (subst (λ (x : Event). Tells x new.ending) went does.told) in
    let made : (output : List ℕ) → state output input new ≡ steps (space old) (n + 1) (state output input old) = λ output.
    ap (λ (o : List ℕ). state o input new) (sym (append-nil output) ∙ ap (λ (x : Event). output ++ written x) (sym went)) ∙ made_more input old n now e new going does output in
    record {
      made = made;
      quiet = λ output k above below.
          elim (cases_lt n k) [
            | inl h ↦
                let last : n + 1 ≡ k = omega arith in
                subst (λ (j : ℕ). ((steps (space old) j (state output input old)).ending ≡ None) × ((steps (space old) j (state output input old)).output ≡ output)) last
                (ap (λ (m : State). m.ending) (sym (made output)) ∙ on, ap (λ (m : State). m.output) (sym (made output)))
            | inr h ↦ going.quiet output k above h
          ];
      on = λ h. on;
      counted = counts_on input (taken old) (taken now) (taken new) going.counted does.counted;
      stays = does.stays ∙ going.stays;
    }

-- a run ends at a step that does something else
pub run_ends : (input : List ℕ) (old : Machine) (limit n : ℕ) (now : Machine) (e : Event) (new : Machine) → IsGoing input old n now → n < limit → Does (step (space now)) input now e new → e ≢ event.Went → IsRun input old limit (record { steps = n + 1; event = e }) new
run_ends input old limit n now e new going below does other = record {
  made = made_more input old n now e new going does;
  quiet = λ output k above most. going.quiet output k above (omega arith);
  most = omega arith;
  some = λ h. omega arith;
  all = λ went. absurd (other went);
  none = λ h. absurd (omega arith);
  told = λ h. does.told;
  text = does.text;
  counted = counts_on input (taken old) (taken now) (taken new) going.counted does.counted;
  stays = does.stays ∙ going.stays;
}

-- or after all its steps
pub run_over : (input : List ℕ) (old : Machine) (limit n : ℕ) (now : Machine) → IsGoing input old n now → limit ≤ n → n ≤ limit → IsRun input old limit (record { steps = n; event = event.Went }) now
run_over input old limit n now going least most = record {
  made = λ output. ap (λ (o : List ℕ). state o input now) (append-nil output) ∙ going.made output;
  quiet = λ output k above below. going.quiet output k above (omega arith);
  most = most;
  some = λ h. omega arith;
  all = λ h. omega arith;
  none = λ h. refl;
  told = λ h. subst (λ (o : Option Ending). Tells event.Went o) (sym (going.on (omega arith))) tt;
  text = tt;
  counted = going.counted;
  stays = going.stays;
}
