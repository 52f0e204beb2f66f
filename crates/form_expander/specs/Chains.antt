-- Chains of forms: each stands for the one before it, until one gives a node (this project's own).
use Rattle.std.specs.Prelude.{ℕ, zero, suc}
use Rattle.lisp_base.specs.declared.values.Val.{Val}
use Rattle.expansion.specs.declared.kind.ExpandKind.TheVariants.{TooNested}
use Rattle.expansion.specs.Scopes.{Scope, at_form, declared_in}
use Rattle.expansion.specs.Steps.{gives, refused, Step, and_then}
use Rattle.expansion.specs.Sketches.{Sketch, Plan, instead, declared_around, makes}
use Rattle.expansion.specs.Forms.{plan_of}
use Rattle.form_expander.specs.declared.chains.Next.{Next as Next'}
use Rattle.form_expander.specs.declared.chains.Next.TheVariants as next
use Rattle.form_expander.specs.declared.chains.Led.{Led as Led'}
use Rattle.form_expander.specs.Reading.{sketch_of}

-- what stands for a form, with its scope
pub data Next : Type 0 where
  on : Scope → Val → Next
  there : Scope → Sketch → Next

-- where a chain has led to, and the fuel that is left
pub data Led : Type 0 where
  led : (fuel : ℕ) → Scope → Sketch → Led

abbrev pub next_from : Scope → Next' → Next
next_from sc (next.Form v) = on sc v
next_from sc (next.Sketch x) = there sc (sketch_of x)

abbrev pub led_to : Scope → Led' → Led
led_to sc l = led l.fuel sc (sketch_of l.sketch)

abbrev pub next_of : Scope → Plan → Next
next_of sc (instead v) = on sc v
next_of sc (declared_around d v) = on (declared_in d sc) v
next_of sc (makes x) = there sc x

unfoldable pub stepped_in : Scope → Val → Step Next
stepped_in own v = λ w. and_then (plan_of own v w) (λ p. λ after. gives (next_of own p) after)

unfoldable pub stepped : Scope → Val → Step Next
stepped sc v = λ w. stepped_in (at_form w.heap v sc) v w

-- a form follows, where the chain is not too long
abbrev pub go_on : (ℕ → Scope → Val → Step Led) → (fuel chain : ℕ) → Next → Step Led
go_on leads fuel chain (there sc x) = λ w. gives (led fuel sc x) w
go_on leads fuel zero (on sc v) = λ w. refused TooNested sc.place
go_on leads fuel (suc chain) (on sc v) = leads chain sc v

unfoldable pub leads : (fuel chain : ℕ) → Scope → Val → Step Led
leads zero chain sc v = λ w. refused TooNested sc.place
leads (suc fuel) chain sc v = λ w. and_then (stepped sc v w) (go_on (leads fuel) fuel chain)
