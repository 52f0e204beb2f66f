use Rattle.macroexpand.specs.Going.{HoldsMentioned}
use Rattle.macroexpand.proofs.files.hold_mentioned.Given as goal

abbrev pub invariant-loop-function : goal.invariant-loop-function
invariant-loop-function l = HoldsMentioned l.sizes l.yielded l.held.items
