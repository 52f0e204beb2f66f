use Rattle.core_form.specs.TextPage.{page_of}
use Rattle.core_form.proofs.TextLines.{lines_more}
use Rattle.core_form.proofs.text.write_lines.Goals as goal

pub loop-form-preserved : goal.loop-form-preserved
loop-form-preserved c =
    lines_more c.args.source.now c.args.forms.now c.loop-form.form-index c.form-item.result (page_of c.loop-form.page) (page_of c.write_node.new.page) (page_of c.end_line.new.self) _ c.loop-form-test.true c.form-item.is c.in_ok-write_node.ensures c.in_ok-end_line.ensures c.loop-form.invariant
