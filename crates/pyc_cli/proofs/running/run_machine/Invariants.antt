use Rattle.image.specs.View.{view}
use Rattle.pyc_cli.specs.View.{limits}
use Rattle.pyc_cli.proofs.RunSteps.{Begun}
use Rattle.pyc_cli.proofs.running.run_machine.Given as goal

-- the run is under way, and what it has written is put
abbrev pub invariant-loop-code : goal.invariant-loop-code
invariant-loop-code g l =
    Begun (limits l.command) (view l.image) l.input l.machine l.left (g.O.Sink.sunk l.initial.out) (g.O.Sink.sunk l.out)

abbrev pub decreases-loop-code : goal.decreases-loop-code
decreases-loop-code g l = l.left
