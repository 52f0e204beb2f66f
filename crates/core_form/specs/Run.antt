-- Stretches of a run that may take fuel, and what stands round one and sees it end. (This project's own.)
use Rattle.std.specs.Prelude.{ℕ, zero, suc, ◌-◌, Bool, true, false, ◌==◌, List, length, Option, Some, None}
use Rattle.lisp_base.specs.declared.values.SymId.{SymId}
use Rattle.lisp_base.specs.declared.values.Val.{Val}
use Rattle.lisp_base.specs.declared.values.Place.{Place}
use Rattle.lisp_base.specs.declared.values.Place.TheVariants.{File}
use Rattle.lisp_base.specs.Sort.{nil}
use Rattle.core_form.specs.State.{Fault, Control, State, Exit, first_of_values}
use Rattle.core_form.specs.Effect.{Ended, Gave, Left, Failed, Effect, change, leave, fail, spend, box_all}
use Rattle.core_form.specs.Force.{Vals}
use Rattle.core_form.specs.Primitives.{give}
use Rattle.core_form.specs.Step.{Around, deliver}

-- How a stretch of a run ends: with a result; by an exit; by an error that nothing catches; or for want of fuel.
pub data Outcome (A : Type 0) : Type 0 where
  Gives : A → State → Outcome A
  Leaves : Exit → State → Outcome A
  Fails : Fault → Place → State → Outcome A
  NotYet : State → Outcome A

abbrev pub Run : Type 0 → Type 0
Run A = State → Outcome A

abbrev pub and_then : {A B : Type 0} → Outcome A → (A → Run B) → Outcome B
and_then (Gives a s) f = f a s
and_then (Leaves e s) f = Leaves e s
and_then (Fails x p s) f = Fails x p s
and_then (NotYet s) f = NotYet s

infixl 10 ◌>>=◌
unfoldable pub ◌>>=◌ : {A B : Type 0} → Run A → (A → Run B) → Run B
m >>= f = λ s. and_then (m s) f

infixl 10 ◌>>◌
abbrev pub ◌>>◌ : {A B : Type 0} → Run A → Run B → Run B
m >> k = m >>= (λ _. k)

-- an effect as a stretch of a run
abbrev pub outcome : {A : Type 0} → Ended A → Outcome A
outcome (Gave a s) = Gives a s
outcome (Left e s) = Leaves e s
outcome (Failed x p s) = Fails x p s

unfoldable pub perform : {A : Type 0} → Effect A → Run A
perform m = λ s. outcome (m s)

unfoldable pub pure : {A : Type 0} → A → Run A
pure a = λ s. Gives a s

unfoldable pub stop : {A : Type 0} → Run A
stop = λ s. NotYet s

unfoldable pub take_left : ℕ → Run (Unit {0})
take_left zero = stop
take_left (suc n) = λ s. Gives tt (record s { taken = suc s.taken })

-- one of the fuel, or the end of what can be shown within the limit
unfoldable pub take_fuel : ℕ → Run (Unit {0})
take_fuel limit = λ s. take_left (limit - s.taken) s

-- the first value of a stretch that gives values
unfoldable pub first : Run Vals → Run Val
first m = m >>= (λ vs. pure (first_of_values vs))

-- a node is visited, and delivers
unfoldable pub visit : Around → Run Vals → Run Vals
visit cx m = perform (spend 1) >> m >>= (λ vs. perform (deliver cx.text.word vs))

-- ---- what stands round a stretch and sees it end

-- one thing that an exit passes
unfoldable pub passed : {A : Type 0} → Exit → Run A
passed e = perform (spend 1) >> perform (leave e)

-- An exit to this entry arrives with its values. Another one passes a catch, which counts; a block is no such thing.
unfoldable pub land : (arrives catches : Bool) → Exit → Run Vals
land true catches e = pure e.values
land false true e = passed e
land false false e = perform (leave e)

abbrev pub arrive : (entry : ℕ) → (catches : Bool) → Outcome Vals → Outcome Vals
arrive n catches (Gives vs s) = Gives vs s
arrive n catches (Leaves e s) = land (e.entry == n) catches e s
arrive n catches (Fails x p s) = Fails x p s
arrive n catches (NotYet s) = NotYet s

unfoldable pub block_round : (entry : ℕ) → Run Vals → Run Vals
block_round n r = λ s. arrive n false (r s)

unfoldable pub catch_round : (entry : ℕ) → Run Vals → Run Vals
catch_round n r = λ s. arrive n true (r s)

-- a jump to a tag that its tagbody doesn't have, as of no checked tree
unfoldable pub astray : Run Vals
astray = perform (fail (Control nil) (File 0 0))

-- an exit to this tagbody goes on at its tag
unfoldable pub jump : (here : Bool) → (tag : Option ℕ) → (ℕ → Run Vals) → Exit → Run Vals
jump true (Some t) r e = r t
jump true None r e = astray
jump false tag r e = perform (leave e)

-- at most so many jumps to the tags of one tagbody; each takes fuel before
abbrev pub jumps : ℕ → (entry : ℕ) → (ℕ → Run Vals) → Outcome Vals → Outcome Vals
jumps n m from (Gives vs s) = Gives vs s
jumps zero m from (Leaves e s) = jump (e.entry == m) e.tag (λ t. stop) e s
jumps (suc n) m from (Leaves e s) = jump (e.entry == m) e.tag (λ t u. jumps n m from (from t u)) e s
jumps n m from (Fails x p s) = Fails x p s
jumps n m from (NotYet s) = NotYet s

unfoldable pub tagbody_round : ℕ → (entry : ℕ) → (ℕ → Run Vals) → Run Vals → Run Vals
tagbody_round n m from r = λ s. jumps n m from (r s)

-- a special variable has its old value again
abbrev pub restore : {A : Type 0} → SymId → Option Val → Outcome A → Outcome A
restore x old (Gives a s) = (perform (change (give x old)) >> pure a) s
restore x old (Leaves e s) = (perform (spend 1) >> perform (change (give x old)) >> perform (leave e)) s
restore x old (Fails f p s) = Fails f p s
restore x old (NotYet s) = NotYet s

unfoldable pub restoring : {A : Type 0} → SymId → Run A → Option Val → Run A
restoring x r old = λ s. restore x old (r s)

-- A cleanup runs when the guarded stretch has given values or is left; it is told how many values are kept meanwhile.
abbrev pub cleaned : (ℕ → Run Vals) → Outcome Vals → Outcome Vals
cleaned cleanup (Gives vs s) = (cleanup (length vs) >> pure vs) s
cleaned cleanup (Leaves e s) = (perform (spend 1) >> cleanup (length e.values) >> perform (leave e)) s
cleaned cleanup (Fails x p s) = Fails x p s
cleaned cleanup (NotYet s) = NotYet s

unfoldable pub guarded : (ℕ → Run Vals) → Run Vals → Run Vals
guarded cleanup r = λ s. cleaned cleanup (r s)

-- a call that isn't in tail position gives its values back, and an exit passes its frame
abbrev pub returned : Outcome Vals → Outcome Vals
returned (Gives vs s) = (perform (box_all vs) >> pure vs) s
returned (Leaves e s) = passed e s
returned (Fails x p s) = Fails x p s
returned (NotYet s) = NotYet s

unfoldable pub framed : (tail : Bool) → Run Vals → Run Vals
framed true r = r
framed false r = λ s. returned (r s)

abbrev pub back_in : {A : Type 0} → List (ℕ × Val) → Outcome A → Outcome A
back_in old (Gives a s) = Gives a (record s { frame = old })
back_in old (Leaves e s) = Leaves e (record s { frame = old })
back_in old (Fails x p s) = Fails x p s
back_in old (NotYet s) = NotYet s

-- a stretch with variables of its own
unfoldable pub in_frame : {A : Type 0} → List (ℕ × Val) → Run A → Run A
in_frame new r = λ s. back_in s.frame (r (record s { frame = new }))
