use Rattle.std.proofs.Common.{ℕ, List, true, subst}
use Rattle.pyc_cli.specs.Told.{TellsExec}
use Rattle.pyc_cli.specs.View.{close_of, limits}
use Rattle.pyc_cli.specs.Work.{Does, outside}
use Rattle.pyc_cli.proofs.commands.exec.Goals as goal

pub returns : goal.returns
returns g c =
    let P : List ℕ → Type 0 = λ n. Does true (λ names left t. TellsExec (limits c.args.command.now) n names left t) (close_of c.run_name.result) (outside (g.F.Store.kept c.args.files.now) (g.I.Source.fed c.args.input.now) (g.O.Sink.sunk c.args.out.now)) (outside (g.F.Store.kept c.run_name.new.files) (g.I.Source.fed c.run_name.new.input) (g.O.Sink.sunk c.run_name.new.out)) in
    subst P c.as_str.ensures.value c.run_name.ensures
