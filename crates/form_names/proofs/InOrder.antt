-- Functions that are numbered as they stand are found by their numbers.
use Rattle.std.specs.Prelude.{◌≡◌, refl, ℕ, zero, suc, ◌+◌, ◌<◌, List, [], ◌∷◌, length, Option, Some, map, slice_get, slice_index_or}
use Rattle.std.specs.List.{Contains}
use Rattle.std.proofs.Common.{ap, sym, ◌∙◌, arith, zero-add}
use Rattle.std.proofs.lemmas.Option.{slice_get-get_or}
use Rattle.lisp_base.specs.declared.values.Place.{Place}
use Rattle.lisp_base.specs.declared.values.SymId.{SymId}
use Rattle.core_form.specs.Tree.{Lambda, lambda}
use Rattle.core_form.specs.Facts.{FunctionText}
use Rattle.core_form.specs.Lawful.{CountFrom, function_number}
use Rattle.form_names.specs.Names.{text_number}

at_number : (n : ℕ) (xs : List FunctionText) → CountFrom n (map function_number xs) → (i : ℕ) (d : FunctionText) → i < length xs → function_number (slice_index_or xs i d) ≡ n + i
at_number n [] c i d h = absurd (omega (arith, h))
at_number n (x ∷ xs) c zero d h = c.0 ∙ omega arith
at_number n (x ∷ xs) c (suc i) d h = at_number (suc n) xs c.1 i d (omega (arith, h)) ∙ omega arith

number_is : (name : Option SymId) (p : Place) (l : Lambda) → text_number (record { name = name; place = p; lambda = l }) ≡ function_number (record { name = name; place = p; lambda = l })
number_is name p (lambda k xs os r e) = refl

-- a function that is numbered as it stands is found by its number
pub in_order : (xs : List FunctionText) → CountFrom 0 (map function_number xs) → (t : FunctionText) → Contains xs t → slice_get xs (text_number t) ≡ Some t
in_order xs c t h =
    let at : function_number (slice_index_or xs h.0 t) ≡ 0 + h.0 = at_number 0 xs c h.0 t h.1 in
    let is : text_number t ≡ h.0 = number_is t.name t.place t.lambda ∙ sym (ap function_number h.2) ∙ at ∙ zero-add h.0 in
    ap (λ (i : ℕ). slice_get xs i) is ∙ slice_get-get_or xs h.0 t h.1 ∙ ap (λ (x : FunctionText). Some x) h.2
