use Rattle.std.proofs.Common.{sym, ap, ◌∙◌, Some, arith, slice_get}
use Rattle.form_names.specs.Read.{text_of}
use Rattle.std.proofs.lemmas.Option.{slice_get-map, slice_get-get_or}
use Rattle.std.specs.Prelude.{option_map}
use Rattle.icr_convert.proofs.WholeForms.{codes_start, codes_on}
use Rattle.icr_convert.proofs.converter.Converter.codes.Goals as goal

pub loop-number-init : goal.loop-number-init
loop-number-init c = codes_start c.args.self.now.built

pub loop-number-preserved : goal.loop-number-preserved
loop-number-preserved c =
    codes_on {m = c.in_ok-made.made} (text_of c.index-texts-number.result) c.loop-number.invariant (ap (slice_get c.args.names.now.functions.items) (sym c.in_ok-count.ensures) ∙ c.in_ok-made.ensures)
    (slice_get-map text_of c.args.texts.now c.loop-number.number ∙ ap (option_map text_of) (slice_get-get_or c.args.texts.now c.loop-number.number c.index-texts-number.result (omega (arith, c.loop-number-test.true, c.loop-number.auto.number-end)) ∙ ap Some (sym c.index-texts-number.is)))
    c.in_ok-code.ensures
