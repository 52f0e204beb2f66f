use Rattle.std.proofs.Common.{length}
use Rattle.core_form.proofs.text_variables.+write_checked.Given as goal

abbrev pub decreases-write_checked : goal.decreases-write_checked
decreases-write_checked l = length l.types.now
