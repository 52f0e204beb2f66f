use Rattle.std.proofs.Common.{◌≡◌, ◌++◌, flat_map, ap, ◌∙◌}
use Rattle.core_form.specs.Reading.{core_of}
use Rattle.core_form.specs.Facts.{has_number, lookup}
use Rattle.form_names.specs.Names.{make_names}
use Rattle.form_names.specs.Parts.{parts, extent_of, block_of}
use Rattle.form_names.specs.Read.{parts_list, tag_texts_of, local_number_of}
use Rattle.form_names.proofs.NamesTold.{named}
use Rattle.form_names.proofs.names.form_names.Goals as goal

pub returns : goal.returns
returns c =
    let e = core_of c.args.form.now in
    let ps = parts_list c.walk.new.noted.items in
    let whole : ps ≡ parts e = c.in_ok-walk.ensures ∙ ap (λ xs. parts_list xs ++ parts e) c.new-parts.ensures.items in
    let extents = c.deref-2.ensures.value ∙ c.in_ok-extents_in.ensures ∙ ap (λ xs. flat_map extent_of (parts_list xs)) c.deref.ensures.value in
    let blocks = c.deref-4.ensures.value ∙ c.in_ok-blocks_in.ensures ∙ ap (λ xs. flat_map block_of (parts_list xs)) c.deref-3.ensures.value in
    let tags = c.in_ok-tags_in.ensures ∙ ap (λ xs. tag_texts_of (parts_list xs)) c.deref-5.ensures.value in
    let locals = c.deref-8.ensures.value ∙ c.in_ok-locals_in.ensures ∙ ap (λ xs. flat_map local_number_of (parts_list xs)) c.deref-7.ensures.value in
    named e ps (make_names c.in_ok-extents.extents.keys c.in_ok-blocks.blocks.entries c.in_ok-tags.tags.entries c.in_ok-locals.locals.entries) c.in_ok-tags_in.field-0.items whole
    (λ q. c.in_ok-extents.ensures q ∙ ap (λ ns. has_number q ns) extents)
    (λ q. c.in_ok-blocks.ensures q ∙ ap (λ ds. lookup q ds) blocks)
    tags
    (λ q. c.in_ok-tags.ensures q ∙ ap (λ ds. lookup q ds) c.deref-6.ensures.value)
    (λ q. c.in_ok-locals.ensures q ∙ ap (λ ds. lookup q ds) locals)
