-- The tree of a form is that of the sketch which its chain leads to.
use Rattle.std.proofs.Common.{◌≡◌, refl, ap, sym, ℕ, zero, suc}
use Rattle.lisp_base.specs.declared.values.Val.{Val}
use Rattle.core_form.specs.Tree.{Core}
use Rattle.expansion.specs.Scopes.{Scope, at_form, declared_in}
use Rattle.expansion.specs.Steps.{World, Answer, gives, refused, and_then, ◌>>=◌, look, refuse}
use Rattle.expansion.specs.Sketches.{Plan, instead, declared_around, makes}
use Rattle.expansion.specs.Expanding.{expand, make, planned, followed, go_on as goes_on}
use Rattle.expansion.specs.Forms.{plan_of}
use Rattle.form_expander.specs.Chains.{Led, led, next_of, stepped, stepped_in, leads, go_on}
use Rattle.form_expander.proofs.Within.{declared_place}

-- the tree of what a chain has led to
abbrev pub tree_led : ℕ → Answer Led → Answer Core
tree_led levels (gives (led fuel sc x) w) = make fuel levels sc x w
tree_led levels (refused kind place) = refused kind place

go_by : (fuel levels chain : ℕ) (own : Scope) (p : Plan) (w : World) → ((chain : ℕ) (sc : Scope) (v : Val) (w : World) → expand fuel levels chain sc v w ≡ tree_led levels (leads fuel chain sc v w))
    → followed (expand fuel levels) (make fuel levels) chain own p w ≡ tree_led levels (go_on (leads fuel) fuel chain (next_of own p) w)
unfolding followed goes_on refuse
go_by fuel levels zero own (instead v) w h = refl
go_by fuel levels (suc chain) own (instead v) w h = h chain own v w
go_by fuel levels zero own (declared_around d v) w h = ap (λ p. refused _ p) (sym (declared_place d own))
go_by fuel levels (suc chain) own (declared_around d v) w h = h chain (declared_in d own) v w
go_by fuel levels chain own (makes x) w h = refl

by_plan : (fuel levels chain : ℕ) (own : Scope) (a : Answer Plan) → ((chain : ℕ) (sc : Scope) (v : Val) (w : World) → expand fuel levels chain sc v w ≡ tree_led levels (leads fuel chain sc v w))
    → and_then a (followed (expand fuel levels) (make fuel levels) chain own) ≡ tree_led levels (and_then (and_then a (λ p. λ after. gives (next_of own p) after)) (go_on (leads fuel) fuel chain))
by_plan fuel levels chain own (gives p w) h = go_by fuel levels chain own p w h
by_plan fuel levels chain own (refused kind place) h = refl

pub expand_leads : (fuel levels chain : ℕ) (sc : Scope) (v : Val) (w : World) → expand fuel levels chain sc v w ≡ tree_led levels (leads fuel chain sc v w)
unfolding expand leads stepped stepped_in planned ◌>>=◌ look refuse
expand_leads zero levels chain sc v w = refl
expand_leads (suc fuel) levels chain sc v w =
    by_plan fuel levels chain (at_form w.heap v sc) (plan_of (at_form w.heap v sc) v w) (λ c s x u. expand_leads fuel levels c s x u)
