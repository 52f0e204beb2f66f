-- The law is the theorem.
use Rattle.compiler.proofs.laws.built_programs_meet.Goals as goal
use Rattle.compiler.proofs.BuiltPrograms.{built_programs_meet}

pub returns : goal.returns
returns c = built_programs_meet
