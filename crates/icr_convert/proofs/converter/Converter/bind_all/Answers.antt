use Rattle.std.proofs.Common.{sym, ◌∙◌}
use Rattle.std.proofs.lemmas.Bool.{eqb-true}
use Rattle.icr_convert.proofs.Letting.{first_and, is_none, more_bound, all_bound}
use Rattle.icr_convert.proofs.converter.Converter.bind_all.Goals as goal

pub loop-binding-preserved : goal.loop-binding-preserved
loop-binding-preserved c =
    more_bound c.args.place c.args.bindings.now c.loop-binding.binding-index c.binding-item.result c.args.values.now c.loop-binding-test.true c.binding-item.is
    (first_and c.loop-binding.rest.now c.value-item.result c.in-len1-up.len_at_least c.value-item.is) c.in_ok-bind.ensures c.loop-binding.invariant

pub returns-then-is_empty : goal.returns-then-is_empty
returns-then-is_empty c =
    let rest = c.loop-binding.rest.now in
    all_bound c.args.place c.args.bindings.now c.loop-binding.binding-index c.args.values.now rest c.loop-binding-test.false (is_none rest (eqb-true _ 0 (sym c.is_empty.ensures ∙ c.if-is_empty.true))) c.loop-binding.invariant
