use Rattle.std.proofs.Common.{◌∙◌, sym, ap, Some, None, cond}
use Rattle.pyc_cli.specs.Order.{value_of}
use Rattle.pyc_cli.proofs.WordLaws.{parsed}
use Rattle.pyc_cli.proofs.options.decimal.Goals as goal

pub returns-then-is_decimal : goal.returns-then-is_decimal
returns-then-is_decimal c =
    let word = c.args.word.now in
    let is = sym c.is_decimal.ensures ∙ c.if-is_decimal.true in
    c.ok.ensures.value ∙ (parsed word c.parse.result c.parse.ensures.value.0 is ∙ sym (ap (λ b. cond b (Some (value_of word)) None) is))
