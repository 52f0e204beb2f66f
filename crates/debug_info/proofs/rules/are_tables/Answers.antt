use Rattle.std.proofs.Common.{sym, ◌∙◌}
use Rattle.debug_info.proofs.Sizes.{are_tables_by_size}
use Rattle.debug_info.proofs.rules.are_tables.Goals as goal

pub returns-then-are_variables : goal.returns-then-are_variables
returns-then-are_variables c =
    are_tables_by_size c.args.texts.now c.args.sites.now c.args.functions.now c.args.variables.now c.are_small.result
    (sym c.are_texts.ensures ∙ c.if-are_texts.true) (sym c.are_rising_sites.ensures ∙ c.if-are_rising_sites.true)
    (sym c.are_rising_functions.ensures ∙ c.if-are_rising_functions.true) (sym c.are_variables.ensures ∙ c.if-are_variables.true)
    c.are_small.ensures
