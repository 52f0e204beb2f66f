use Rattle.std.proofs.Common.{refl, arith}
use Rattle.pyc_cli.proofs.RunSteps.{begins, goes_on, put_short, stopped}
use Rattle.pyc_cli.proofs.running.run_machine.Goals as goal

pub loop-code-init : goal.loop-code-init
loop-code-init g c = begins _ _ _ _ _ c.requires

pub loop-code-preserved : goal.loop-code-preserved
loop-code-preserved g c =
    goes_on _ _ _ c.loop-code.machine c.run-stop.new.self c.loop-code.left _ c.run-stop.result c.in-Wrote.code (g.O.Sink.sunk c.args.out.now) (g.O.Sink.sunk c.loop-code.out) (g.O.Sink.sunk c.put_char.new.out) c.loop-code.invariant c.run-stop.ensures c.in-Wrote.is refl c.in-All.ensures

pub returns-in-Failed-clause-writes : goal.returns-in-Failed-clause-writes
returns-in-Failed-clause-writes g c =
    let short = put_short _ _ _ c.loop-code.machine c.run-stop.new.self c.loop-code.left c.run-stop.result c.in-Wrote.code _ (g.O.Sink.sunk c.args.out.now) (g.O.Sink.sunk c.loop-code.out) (g.O.Sink.sunk c.put_char.new.out) c.loop-code.invariant c.run-stop.ensures c.in-Wrote.is c.in-Failed.ensures in
    let before = c.loop-code.invariant.faults in
    let rose = c.in-Failed.ensures.cause.rose refl in
    (omega arith, short.0, short.1 (c.in-Failed.ensures.some refl))

pub returns-in-Memory-clause-writes : goal.returns-in-Memory-clause-writes
returns-in-Memory-clause-writes g c =
    (put_short _ _ _ c.loop-code.machine c.run-stop.new.self c.loop-code.left c.run-stop.result c.in-Wrote.code _ (g.O.Sink.sunk c.args.out.now) (g.O.Sink.sunk c.loop-code.out) (g.O.Sink.sunk c.put_char.new.out) c.loop-code.invariant c.run-stop.ensures c.in-Wrote.is c.in-Memory.ensures).0

pub returns-in_default : goal.returns-in_default
returns-in_default g c =
    let e = c.in_default in
    record {
      writes = stopped _ _ _ c.loop-code.machine c.run-stop.new.self c.loop-code.left c.run-stop.result _ _ (g.O.Sink.sunk c.args.out.now) (g.O.Sink.sunk c.loop-code.out) c.loop-code.invariant c.run-stop.ensures refl e.not-Wrote c.outcome_of.ensures;
      later = c.loop-code.invariant.faults;
    }
