use Rattle.std.proofs.Common.{◌≡◌, drop}
use Rattle.core_form.specs.Reading.{tops_of}
use Rattle.compiler.specs.BuiltNodes.{first_of_forms}
use Rattle.compiler.proofs.built.first_of_forms.Given as goal

abbrev pub invariant-loop-form : goal.invariant-loop-form
invariant-loop-form l = first_of_forms (tops_of (drop l.form-index l.forms)) ≡ first_of_forms (tops_of l.forms)
