-- A list of specifiers in which one stands in the place of its copy.
use Rattle.std.proofs.Common.{◌≡◌, ◌<◌, ◌+◌, ℕ, List, [], ◌∷◌, ◌++◌, append_assoc, length, drop, get_or, sym, ap, ◌∙◌}
use Rattle.std.proofs.lemmas.List.{drop_more}
use Rattle.lisp_base.specs.declared.types.TypeSpec.{TypeSpec}
use Rattle.lisp_base.specs.Reading.{spec_of}
use Rattle.lisp_base.specs.Spec.{Spec, spec}
use Rattle.lisp_base.specs.Laws.{specs_list}

instead : (front back : List TypeSpec) (copy item : TypeSpec) → spec_of copy ≡ spec_of item → specs_list (front ++ copy ∷ back) ≡ specs_list (front ++ item ∷ back)
instead [] back copy item is = ap (λ (t : Spec). spec t (specs_list back)) is
instead (t ∷ ts) back copy item is = ap (spec (spec_of t)) (instead ts back copy item is)

pub copied_more : (specs copies : List TypeSpec) (i : ℕ) (copy item : TypeSpec) (more : List TypeSpec) → i < length specs → item ≡ get_or specs i item → spec_of copy ≡ spec_of item → more ≡ copies ++ copy ∷ [] → specs_list (copies ++ drop i specs) ≡ specs_list specs → specs_list (more ++ drop (i + 1) specs) ≡ specs_list specs
copied_more specs copies i copy item more inside is same added so_far =
    ap (λ (ts : List TypeSpec). specs_list (ts ++ drop (i + 1) specs)) added
    ∙ (ap specs_list (append_assoc copies (copy ∷ []) (drop (i + 1) specs))
    ∙ (instead copies (drop (i + 1) specs) copy item same
    ∙ (ap (λ (ts : List TypeSpec). specs_list (copies ++ ts)) (sym (drop_more specs i item inside ∙ ap (λ (x : TypeSpec). x ∷ drop (i + 1) specs) (sym is))) ∙ so_far)))
