use Rattle.lambda_lists.proofs.WholeLists.{list_read}
use Rattle.lambda_lists.proofs.reading.read_lambda_list.Goals as goal

pub returns-in-Some : goal.returns-in-Some
returns-in-Some c = list_read _ _ _ c.in_ok-values.field-0 c.in-Some.values _ _ c.list_of_sections.result c.in_ok-values.ensures c.in-Some.is c.deref.ensures.value c.cut_all.ensures c.list_of_sections.ensures
