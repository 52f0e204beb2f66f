use Rattle.std.proofs.Common.{◌≡◌, ◌++◌, drop}
use Rattle.core_form.specs.Reading.{tops_of}
use Rattle.compiler.specs.Code.{forms_code}
use Rattle.compiler.proofs.code.forms_code.Given as goal

abbrev pub invariant-loop-form : goal.invariant-loop-form
invariant-loop-form l =
    l.code.items ++ forms_code (tops_of (drop l.form-index l.forms)) ≡ forms_code (tops_of l.forms)
