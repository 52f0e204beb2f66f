use Rattle.std.specs.Prelude.{◌≡◌, map, take}
use Rattle.form_expander.specs.declared.sketch.Sketch.TheVariants as variant
use Rattle.form_expander.proofs.making.forms.Given as goal

abbrev pub invariant-loop-value : goal.invariant-loop-value
invariant-loop-value l = l.parts.items ≡ map (λ v. variant.Form v) (take l.value-index l.values)
