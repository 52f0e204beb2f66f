use Rattle.std.specs.Prelude.{◌≡◌, map}
use Rattle.lisp_base.specs.Reading.{spec_of}
use Rattle.expansion.specs.Sketches.{checked}
use Rattle.form_expander.specs.Reading.{sketch_of}
use Rattle.form_expander.proofs.making.checked.Given as goal

abbrev pub invariant-loop-expected : goal.invariant-loop-expected
invariant-loop-expected l = sketch_of l.made ≡ checked (map spec_of l.yielded) (sketch_of l.fn.part)
