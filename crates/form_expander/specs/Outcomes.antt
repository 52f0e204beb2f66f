-- What a call returns where the definition has an answer (this project's own).
use Rattle.std.specs.Prelude.{◌≡◌, Result, Ok, Err}
use Rattle.expansion.specs.Steps.{World, Answer, gives, refused}
use Rattle.form_expander.specs.declared.fault.Fault.{Fault}
use Rattle.form_expander.specs.declared.fault.Fault.TheVariants as fault

-- the fault is the definition's; want of memory is none
abbrev pub Refuses : {A : Type 0} → Answer A → Fault → Type 0
Refuses answer (fault.Refused kind place) = answer ≡ refused kind place
Refuses answer fault.Memory = Unit {0}

-- What was returned, seen by view, and the world after it are what the definition gives, or the fault is the definition's.
abbrev pub Follows : {X A : Type 0} → (X → A) → Answer A → Result X Fault → World → Type 0
Follows view answer (Ok x) w = answer ≡ gives (view x) w
Follows view answer (Err e) w = Refuses answer e
