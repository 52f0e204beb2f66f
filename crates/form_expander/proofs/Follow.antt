-- What follows a step that gave a result, and one that was refused.
use Rattle.std.specs.Prelude.{◌≡◌, Result}
use Rattle.std.proofs.Common.{ap, sym, subst}
use Rattle.expansion.specs.Steps.{World, Answer, gives, Step, and_then}
use Rattle.form_expander.specs.declared.fault.Fault.{Fault}
use Rattle.form_expander.specs.declared.fault.Fault.TheVariants as fault
use Rattle.form_expander.specs.Outcomes.{Refuses, Follows}

module _ {A B : Type 0} (a : Answer A) (f : A → Step B) where
  pub given_on : (x : A) (w : World) → a ≡ gives x w → and_then a f ≡ f x w
  given_on x w is = ap (λ (y : Answer A). and_then y f) is

  pub refused_on : (e : Fault) → Refuses a e → Refuses (and_then a f) e
  refused_on (fault.Refused kind place) is = ap (λ (y : Answer A). and_then y f) is
  refused_on fault.Memory is = tt

-- an answer that is the same as one that is followed
pub follows_at : {X A : Type 0} (view : X → A) (a b : Answer A) (r : Result X Fault) (w : World) → a ≡ b → Follows view b r w → Follows view a r w
follows_at {A = A} view a b r w is follows = subst (λ (x : Answer A). Follows view x r w) (sym is) follows
