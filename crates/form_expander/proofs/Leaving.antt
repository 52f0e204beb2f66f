-- RETURN-FROM, by how many arguments it has.
use Rattle.std.specs.Prelude.{◌<◌, ◌≤◌, List, [], ◌∷◌, length, Result}
use Rattle.std.proofs.Common.{get_or, arith}
use Rattle.lisp_base.specs.declared.values.Val.{Val}
use Rattle.lisp_base.specs.Sort.{nil}
use Rattle.expansion.specs.Scopes.{Scope}
use Rattle.expansion.specs.Steps.{World, and_then, expect}
use Rattle.expansion.specs.Forms.{symbol_in, return_plan, return_from_plan}
use Rattle.form_expander.specs.declared.sketch.Plan.{Plan as Plan'}
use Rattle.form_expander.specs.declared.fault.Fault.{Fault}
use Rattle.form_expander.specs.Outcomes.{Follows}
use Rattle.form_expander.specs.Reading.{plan_from}
use Rattle.form_expander.specs.Stepping.{steps}

-- the block of a name is left with a value
abbrev pub Leaves : Scope → Val → Val → Result Plan' Fault → World → Type 0
Leaves sc name value r w = Follows plan_from (and_then (expect sc (symbol_in name) w) (λ s. return_plan sc s value)) r w

module _ (sc : Scope) (r : Result Plan' Fault) (w : World) where
  pub leaves_one : (d : Val) (vs : List Val) → 1 ≤ length vs → length vs < 2 → Leaves sc (get_or vs 0 d) nil r w → Follows plan_from (return_from_plan sc vs w) r w
  unfolding return_from_plan steps
  leaves_one d [] some few left = absurd (omega arith)
  leaves_one d (v ∷ []) some few left = left
  leaves_one d (v ∷ x ∷ xs) some few left = absurd (omega arith)

  pub leaves_two : (d e : Val) (vs : List Val) → 2 ≤ length vs → length vs < 3 → Leaves sc (get_or vs 0 d) (get_or vs 1 e) r w → Follows plan_from (return_from_plan sc vs w) r w
  unfolding return_from_plan steps
  leaves_two d e [] some few left = absurd (omega arith)
  leaves_two d e (v ∷ []) some few left = absurd (omega arith)
  leaves_two d e (v ∷ x ∷ []) some few left = left
  leaves_two d e (v ∷ x ∷ y ∷ ys) some few left = absurd (omega arith)
