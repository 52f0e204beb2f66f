use Rattle.std.proofs.Common.{List, ap, map, sym, ◌∙◌}
use Rattle.core_form.specs.Reading.{parameter_of}
use Rattle.expansion.specs.Expanding.{parameters}
use Rattle.form_expander.specs.declared.sketch.Binder.{Binder as Binder'}
use Rattle.form_expander.specs.declared.sketch.Optional.{Optional as Optional'}
use Rattle.form_expander.specs.Besides.{beside, optionals_beside, optionals_parameters, pair_of}
use Rattle.form_expander.specs.Reading.{binder_of, optional_of}
use Rattle.form_expander.proofs.Counted.{function_counted}
use Rattle.form_expander.proofs.world.World.parameters.Goals as goal

pub returns-clause-count : goal.returns-clause-count
returns-clause-count c =
    let made = map parameter_of c.in_ok-required.required.items in
    let pairs = map pair_of c.in_ok-optional.optional.items in
    function_counted _ _ _ _ _ _
    (ap (λ (bs : List Binder'). parameters (beside (map binder_of bs) made)) (sym c.deref.ensures.value) ∙ c.in_ok-required.ensures.all)
    (ap (λ (os : List Optional'). optionals_parameters (optionals_beside (map optional_of os) pairs)) (sym c.deref-2.ensures.value) ∙ c.in_ok-optional.ensures.all)
    c.in_ok-rest.ensures.all
