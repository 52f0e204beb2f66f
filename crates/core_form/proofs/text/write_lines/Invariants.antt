use Rattle.std.proofs.Common.{◌≡◌, [], false, drop}
use Rattle.core_form.specs.Reading.{tops_of}
use Rattle.core_form.specs.Text.{lines}
use Rattle.core_form.specs.TextPage.{page_of, make_page}
use Rattle.core_form.proofs.TextLines.{lines_on}
use Rattle.core_form.proofs.text.write_lines.Given as goal

abbrev pub invariant-loop-form : goal.invariant-loop-form
invariant-loop-form l = lines_on l.source (page_of l.page) (drop l.form-index l.forms) ≡ make_page (lines l.source (tops_of l.forms)) false []
