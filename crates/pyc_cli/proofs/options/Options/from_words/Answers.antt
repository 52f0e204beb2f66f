use Rattle.std.proofs.Common.{◌∙◌, sym, string_bytes}
use Rattle.std.proofs.lemmas.Bool.{eqb-false}
use Rattle.pyc_cli.specs.Asked.{given}
use Rattle.pyc_cli.proofs.WordLaws.{options_go_on, options_end}
use Rattle.pyc_cli.proofs.options.Options.from_words.Goals as goal

pub loop-rest-preserved : goal.loop-rest-preserved
loop-rest-preserved c =
    options_go_on string_bytes c.loop-rest.rest.now c.name-item.result c.number-item.result c.as_str.result.now c.as_str-in-len2-up.result.now
    (given c.loop-rest.options) (given c.in_ok-options.options) c.in-len2-up.len_at_least c.name-item.is c.number-item.is
    c.as_str.ensures.value c.as_str-in-len2-up.ensures.value c.in_ok-options.ensures
    ∙ c.loop-rest.invariant

pub returns-else-is_empty : goal.returns-else-is_empty
returns-else-is_empty c =
    options_end string_bytes c.loop-rest.rest.now (given c.loop-rest.options) c.in_default.len_below (eqb-false _ _ (sym c.is_empty.ensures ∙ c.if-is_empty.false))
    ∙ c.loop-rest.invariant
