use Rattle.lisp_reader.proofs.OneAnswer.{one_answer}
use Rattle.lisp_reader.proofs.laws.one_answer.Goals as goal

pub returns : goal.returns
returns c = one_answer
