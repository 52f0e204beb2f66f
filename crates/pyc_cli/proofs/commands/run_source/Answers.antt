use Rattle.pyc_cli.specs.View.{order, close_of}
use Rattle.pyc_cli.specs.Work.{outside}
use Rattle.pyc_cli.proofs.Lengths.{set_fits}
use Rattle.pyc_cli.proofs.Works.{does_refused, does_compiled}
use Rattle.pyc_cli.proofs.commands.run_source.Goals as goal

pub returns-in-Refused : goal.returns-in-Refused
returns-in-Refused g c = does_refused (order c.args.command.now) _ _ _ _ _ c.in-Refused.ensures

pub returns-in-Image : goal.returns-in-Image
returns-in-Image g c =
    does_compiled (order c.args.command.now) c.args.source.now c.in-Image.image.items c.deref.result.now (close_of c.run_set.result)
    (outside (g.F.Store.kept c.args.files.now) (g.I.Source.fed c.args.input.now) (g.O.Sink.sunk c.args.out.now))
    (outside (g.F.Store.kept c.run_set.new.files) (g.I.Source.fed c.run_set.new.input) (g.O.Sink.sunk c.run_set.new.out))
    c.deref.ensures.value c.in-Image.ensures c.run_set.ensures

pub run_set-requires : goal.run_set-requires
run_set-requires g c = set_fits _ _ _ c.deref.ensures.value c.in-Image.ensures
