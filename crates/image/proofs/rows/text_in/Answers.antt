use Rattle.image.proofs.Texts.{text_yes, text_no}
use Rattle.image.proofs.rows.text_in.Goals as goal

pub returns-in-Ok : goal.returns-in-Ok
returns-in-Ok c = text_yes c.args.bytes.now c.in-Ok.text.now c.if-bytes-gt-TEXT_LIMIT.false c.in-Ok.ensures.cases.0 c.in-Ok.ensures.cases.1

pub returns-in-Err : goal.returns-in-Err
returns-in-Err c = text_no c.args.bytes.now c.in-Err.ensures.cases.0
