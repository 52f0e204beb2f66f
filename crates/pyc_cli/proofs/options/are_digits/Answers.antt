use Rattle.std.proofs.Common.{◌∙◌, rules, tests}
use Rattle.std.proofs.lemmas.Iterator.{YieldsList-from_slice}
use Rattle.std.proofs.lemmas.Iterator.Search.{all_from_yields_List}
use Rattle.std.specs.Char.{is_ascii_digit}
use Rattle.pyc_cli.proofs.WordLaws.{digits_all}
use Rattle.pyc_cli.proofs.options.are_digits.Goals as goal

pub returns : goal.returns
returns c =
    all_from_yields_List (λ byte. is_ascii_digit byte) _ _ _ c.all.ensures.ran (YieldsList-from_slice c.args.bytes.now cc) (λ x b q k. search (rules, tests))
    ∙ digits_all c.args.bytes.now
