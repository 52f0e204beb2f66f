use Rattle.std.proofs.Common.{◌≡◌, ◌++◌, map, flat_map, ap, ◌∙◌}
use Rattle.std.proofs.lemmas.Result.{IfOk-weaker}
use Rattle.core_form.specs.Reading.{core_of}
use Rattle.core_form.specs.Facts.{functions_in as functions_of}
use Rattle.form_names.specs.Parts.{parts, function_of}
use Rattle.form_names.specs.Read.{text_of, parts_list}
use Rattle.form_names.proofs.Told.{functions_told}
use Rattle.form_names.proofs.names.functions_in.Goals as goal

pub returns : goal.returns
returns c =
    let e = core_of c.args.form.now in
    let noted = c.walk.new.noted.items in
    let whole : parts_list noted ≡ parts e = c.in_ok-walk.ensures ∙ ap (λ xs. parts_list xs ++ parts e) c.new-parts.ensures.items in
    let read = ap (λ xs. flat_map function_of (parts_list xs)) c.deref.ensures.value ∙ ap (λ ps. flat_map function_of ps) whole ∙ functions_told e in
    IfOk-weaker c.texts_in.result (λ texts. map text_of texts.items ≡ flat_map function_of (parts_list c.deref.result.now)) (λ texts. map text_of texts.items ≡ functions_of e)
    (λ texts h. h ∙ read) c.texts_in.ensures
