use Rattle.std.proofs.Common.{sym, subst}
use Rattle.pyc_cli.specs.declared.command.Verb.{Verb}
use Rattle.pyc_cli.specs.Tool.{TellsVerb, verb_gets_first}
use Rattle.pyc_cli.specs.View.{close_of, order}
use Rattle.pyc_cli.specs.Work.{Does, outside}
use Rattle.pyc_cli.proofs.top.perform.Goals as goal

pub returns-in-Expand : goal.returns-in-Expand
returns-in-Expand g c =
    let For : Verb → Type 0 = λ v. Does (verb_gets_first v) (λ names left t. TellsVerb v (order c.args.command.now) names left t) (close_of c.expand.result) (outside (g.F.Store.kept c.args.files.now) (g.I.Source.fed c.args.input.now) (g.O.Sink.sunk c.args.out.now)) (outside (g.F.Store.kept c.expand.new.files) (g.I.Source.fed c.args.input.now) (g.O.Sink.sunk c.expand.new.out)) in
    subst For (sym c.in-Expand.is) (c.expand.ensures (g.I.Source.fed c.args.input.now))

pub returns-in-Disasm : goal.returns-in-Disasm
returns-in-Disasm g c =
    let For : Verb → Type 0 = λ v. Does (verb_gets_first v) (λ names left t. TellsVerb v (order c.args.command.now) names left t) (close_of c.disasm.result) (outside (g.F.Store.kept c.args.files.now) (g.I.Source.fed c.args.input.now) (g.O.Sink.sunk c.args.out.now)) (outside (g.F.Store.kept c.disasm.new.files) (g.I.Source.fed c.args.input.now) (g.O.Sink.sunk c.disasm.new.out)) in
    subst For (sym c.in-Disasm.is) (c.disasm.ensures (g.I.Source.fed c.args.input.now))
