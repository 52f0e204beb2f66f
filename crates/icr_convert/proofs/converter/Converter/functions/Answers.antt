use Rattle.std.proofs.Common.{sym, ap, ◌∙◌, subst, ◌+◌, map, Some, arith}
use Rattle.std.specs.Prelude.{option_map}
use Rattle.std.proofs.lemmas.Option.{slice_get-map, slice_get-get_or}
use Rattle.form_facts.specs.View.{list_at}
use Rattle.form_names.specs.Read.{text_of}
use Rattle.icr_convert.specs.Whole.{AreVariables, FunctionsMade}
use Rattle.icr_convert.proofs.Tables.{functions_on}
use Rattle.icr_convert.proofs.converter.Converter.functions.Goals as goal

pub loop-number-preserved : goal.loop-number-preserved
loop-number-preserved c =
    subst (λ ms. FunctionsMade c.args.facts.now c.args.variables.now (map text_of c.args.texts.now) (c.loop-number.number + 1) c.args.self.now.built c.declare_function.new.self.built ms) (sym c.in_ok-push.ensures.items)
    (functions_on (text_of c.index-texts-number.result) c.loop-number.invariant (slice_get-map text_of c.args.texts.now c.loop-number.number ∙ ap (option_map text_of) (slice_get-get_or c.args.texts.now c.loop-number.number c.index-texts-number.result (omega (arith, c.loop-number-test.true, c.loop-number.auto.number-end)) ∙ ap Some (sym c.index-texts-number.is))) c.in_ok-declare_function.ensures
    (subst (λ ns. AreVariables c.args.variables.now ns c.in_ok-closed.closed) (c.closed_of.ensures ∙ ap (list_at c.args.facts.now.closed) c.in_ok-count.ensures) c.in_ok-closed.ensures))
