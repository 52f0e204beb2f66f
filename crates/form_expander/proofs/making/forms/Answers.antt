use Rattle.std.proofs.Common.{List, ap, ◌∙◌, map}
use Rattle.std.proofs.lemmas.List.{take_all}
use Rattle.lisp_base.specs.declared.values.Val.{Val}
use Rattle.form_expander.specs.declared.sketch.Sketch.TheVariants as variant
use Rattle.form_expander.specs.Reading.{sketches_list}
use Rattle.form_expander.proofs.SketchLists.{forms_are}
use Rattle.form_expander.proofs.making.forms.Goals as goal

pub returns : goal.returns
returns c =
    let all = take_all c.loop-value.value-index c.args.values.now c.loop-value-test.false in
    ap sketches_list c.loop-value.invariant
    ∙ ap (λ (vs : List Val). sketches_list (map (λ v. variant.Form v) vs)) all
    ∙ forms_are c.args.values.now
