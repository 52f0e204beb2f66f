use Rattle.pyc_cli.proofs.Works.{does_expanded, does_no_program}
use Rattle.pyc_cli.proofs.expanded.write_source.Goals as goal

pub returns-in-Program : goal.returns-in-Program
returns-in-Program g c =
    let w = c.write_program.ensures in
    λ files input. does_expanded _ _ _ files input _ _ c.in-Program.ensures w.later w.writes

pub returns-in-Refused : goal.returns-in-Refused
returns-in-Refused g c = λ files input. does_no_program _ _ files input _ c.in-Refused.ensures
