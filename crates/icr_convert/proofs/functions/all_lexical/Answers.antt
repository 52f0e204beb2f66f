use Rattle.std.proofs.Common.{◌+◌, List, ◌∷◌, drop, sym, ap, ◌∙◌}
use Rattle.std.proofs.lemmas.List.{drop_all}
use Rattle.core_form.specs.declared.tree.Variable.{Variable}
use Rattle.icr_convert.specs.declared.parameters.Bound.{Bound}
use Rattle.icr_convert.specs.Coding.{are_lexical}
use Rattle.icr_convert.proofs.ParameterLists.{bound_in, lexical_next}
use Rattle.icr_convert.proofs.functions.all_lexical.Goals as goal

pub loop-one-preserved : goal.loop-one-preserved
loop-one-preserved c =
    let bs = c.args.bound.now in
    let i = c.loop-one.one-index in
    ap (λ (v : Variable). are_lexical (v ∷ bound_in (drop (i + 1) bs))) (sym c.in_default.is)
    ∙ (sym (lexical_next bs i c.one-item.result c.loop-one-test.true c.one-item.is) ∙ c.loop-one.invariant)

pub returns-in-Special : goal.returns-in-Special
returns-in-Special c =
    let bs = c.args.bound.now in
    let i = c.loop-one.one-index in
    ap (λ (v : Variable). are_lexical (v ∷ bound_in (drop (i + 1) bs))) (sym c.in-Special.is)
    ∙ (sym (lexical_next bs i c.one-item.result c.loop-one-test.true c.one-item.is) ∙ c.loop-one.invariant)

pub returns : goal.returns
returns c =
    ap (λ (xs : List Bound). are_lexical (bound_in xs)) (sym (drop_all c.loop-one.one-index c.args.bound.now c.loop-one-test.false)) ∙ c.loop-one.invariant
