use Rattle.std.proofs.Common.{sym, subst, List, []}
use Rattle.core_form.specs.declared.tree.TopForm.{TopForm}
use Rattle.macroexpand.specs.Going.{HoldsMentioned}
use Rattle.macroexpand.proofs.Holding.{none_held, held_next}
use Rattle.macroexpand.proofs.files.hold_mentioned.Goals as goal

pub loop-function-init : goal.loop-function-init
loop-function-init c =
    subst (λ (l : List TopForm). HoldsMentioned c.args.sizes.now [] l) (sym c.new-held.ensures.items) (none_held c.args.sizes.now)

pub loop-function-preserved : goal.loop-function-preserved
loop-function-preserved c =
    held_next c.args.sizes.now c.loop-function.yielded c.loop-function.held.items c.hold.new.held.items c.in-Some.function c.mentions-is_mentioned.result c.mentions-is_mentioned.ensures c.in_ok-hold.ensures c.loop-function.invariant
