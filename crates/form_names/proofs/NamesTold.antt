-- Sets and maps made of the parts of a form are the names of the form.
use Rattle.std.specs.Prelude.{◌≡◌, ℕ, List, flat_map, option_map}
use Rattle.std.proofs.Common.{ap, sym, ◌∙◌}
use Rattle.lisp_base.specs.declared.values.Val.TheVariants.{Sym}
use Rattle.core_form.specs.Tree.{Core}
use Rattle.core_form.specs.Facts.{has_number, lookup}
use Rattle.form_names.specs.declared.parts.TagName.{TagName}
use Rattle.form_names.specs.Names.{Names, NamesOf, tag_text, text_number}
use Rattle.form_names.specs.Parts.{Part, parts, extent_of, block_of, local_of}
use Rattle.form_names.specs.Read.{tags_list, tag_texts_of, local_number_of}
use Rattle.form_names.proofs.Looked.{lookup_with, with_values, with_values_flat}
use Rattle.form_names.proofs.Told.{extents_told, blocks_told, tags_told, locals_told}

local_numbers : (ps : List Part) → flat_map local_number_of ps ≡ with_values text_number (flat_map local_of ps)
local_numbers ps = sym (with_values_flat text_number local_of ps)

pub named : (e : Core) (ps : List Part) (f : Names) (ts : List (ℕ × TagName)) → ps ≡ parts e → ((q : ℕ) → has_number q f.extents ≡ has_number q (flat_map extent_of ps)) →
    ((q : ℕ) → lookup q f.blocks ≡ lookup q (flat_map block_of ps)) → tags_list ts ≡ tag_texts_of ps → ((q : ℕ) → lookup q f.tags ≡ lookup q ts) →
    ((q : ℕ) → lookup q f.locals ≡ lookup q (flat_map local_number_of ps)) → NamesOf f e
named e ps f ts whole extents blocks texts tags locals = record {
  extents = λ n. extents n ∙ ap (λ (qs : List Part). has_number n (flat_map extent_of qs)) whole ∙ ap (λ ns. has_number n ns) (extents_told e);
  blocks = λ n.
      ap (λ o. option_map (λ s. Sym s) o) (blocks n) ∙ lookup_with (λ s. Sym s) n (flat_map block_of ps)
      ∙ ap (λ (qs : List Part). lookup n (with_values (λ s. Sym s) (flat_map block_of qs))) whole ∙ ap (λ ds. lookup n ds) (blocks_told e);
  tags = λ n.
      ap (λ o. option_map tag_text o) (tags n) ∙ lookup_with tag_text n ts
      ∙ ap (λ ds. lookup n ds) texts ∙ ap (λ (qs : List Part). lookup n (tag_texts_of qs)) whole ∙ ap (λ ds. lookup n ds) (tags_told e);
  locals = λ n.
      locals n ∙ ap (λ ds. lookup n ds) (local_numbers ps) ∙ sym (lookup_with text_number n (flat_map local_of ps))
      ∙ ap (λ (qs : List Part). option_map text_number (lookup n (flat_map local_of qs))) whole ∙ ap (λ ds. option_map text_number (lookup n ds)) (locals_told e);
}
