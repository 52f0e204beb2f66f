use Rattle.std.proofs.Common.{Err, ap, ◌∙◌}
use Rattle.std_macros.proofs.Outcomes.{bad_from, full_from, given_from}
use Rattle.std_macros.proofs.expand.expand.Goals as goal

pub returns-in_default-clause-bad : goal.returns-in_default-clause-bad
returns-in_default-clause-bad c = λ place e.
    bad_from c.args.name c.args.symbols.now c.args.heap.now c.args.form c.rest_of-arguments.result c.in_ok-rule.field-0 c.rest_of-arguments.ensures c.in_ok-rule.ensures c.place_of_form-place.result place c.in_default.is c.place_of_form-place.ensures e

pub returns-in-Err-TooMany-clause-full : goal.returns-in-Err-TooMany-clause-full
returns-in-Err-TooMany-clause-full c = λ e.
    full_from c.args.name c.args.symbols.now c.args.heap.now c.args.form c.rest_of-arguments.result c.in_ok-rule.field-0 c.rest_of-arguments.ensures c.in_ok-rule.ensures c.in-Some.rule c.in-Some.is
    (c.fresh_symbols.ensures.too_many (c.in-Err-TooMany.is ∙ ap Err c.in-Err-TooMany.field-0-is))

pub returns-in-Ok-build_rule-clause-ok : goal.returns-in-Ok-build_rule-clause-ok
returns-in-Ok-build_rule-clause-ok c =
    given_from c.args.name c.args.symbols.now c.args.heap.now c.args.form c.rest_of-arguments.result c.in_ok-rule.field-0 c.rest_of-arguments.ensures c.in_ok-rule.ensures c.in-Some.rule _ _ _ _ _ c.in-Some.is c.in-Ok.ensures.ok c.deref.ensures.value c.in-Ok-build_rule.ensures.ok
