use Rattle.std.proofs.Common.{◌≡◌, sym, subst, List}
use Rattle.core_form.specs.declared.tree.TopForm.{TopForm}
use Rattle.core_form.specs.Reading.{tops_of}
use Rattle.image.specs.View.{view}
use Rattle.compiler.specs.Parts.{image_of_forms}
use Rattle.compiler.specs.Compiled.{AreServed}
use Rattle.compiler.proofs.Compilation.{forms_served, compiled}
use Rattle.compiler.proofs.source.compile.Goals as goal

pub program_image-requires : goal.program_image-requires
program_image-requires c =
    subst (λ (fs : List TopForm). AreServed (tops_of fs)) (sym c.forms.ensures.forms)
    (forms_served c.built_programs_meet.ensures c.in-Ok.program c.forms.ensures.lawful c.in-Ok.ensures.small (sym c.in-None.ensures))

pub returns-in_ok-write-in-None-clause-compiled : goal.returns-in_ok-write-in-None-clause-compiled
returns-in_ok-write-in-None-clause-compiled c =
    compiled c.built_programs_meet.ensures c.what_is_spelled_is_read.ensures c.args.source.now c.in_ok-write-in-None.field-0.items c.in-Ok.program (view c.in_ok-image-in-None.image)
    c.in-Ok.ensures.program c.forms.ensures.lawful c.in-Ok.ensures.small (sym c.in-None.ensures)
    (subst (λ (fs : List TopForm). view c.in_ok-image-in-None.image ≡ image_of_forms (tops_of fs)) c.forms.ensures.forms c.in_ok-image-in-None.ensures.content)
    c.in_ok-image-in-None.ensures.rules c.in_ok-write-in-None.ensures
