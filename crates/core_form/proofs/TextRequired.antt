-- The required parameters of a function, one more at a time.
use Rattle.std.proofs.Common.{◌≡◌, ℕ, ◌+◌, ◌<◌, List, ◌∷◌, length, map, drop, sym, ap, ◌∙◌}
use Rattle.std.proofs.Common.{get_or}
use Rattle.std.proofs.lemmas.List.{at_drop_more}
use Rattle.lisp_base.specs.InStore.{Store}
use Rattle.core_form.specs.declared.tree.Parameter.{Parameter as Parameter'}
use Rattle.core_form.specs.Reading.{parameter_of}
use Rattle.core_form.specs.TextNames.{variable_names, parameter_names}
use Rattle.core_form.specs.Text.{parameter_text, parameter_texts}
use Rattle.core_form.specs.TextPage.{Page, put, puts, bound}
use Rattle.core_form.proofs.TextPages.{names_beside, more_names}

abbrev pub required : Store → Page → List Parameter' → Page
required st pg xs = bound (puts pg (parameter_texts st (map parameter_of xs))) (parameter_names (map parameter_of xs))

pub required_more : (st : Store) (xs : List Parameter') (i : ℕ) (x : Parameter') (p q r total : Page) → i < length xs → x ≡ get_or xs i x →
    q ≡ put p (parameter_text st (parameter_of x)) → r ≡ bound q (variable_names x.variable) →
    required st p (drop i xs) ≡ total → required st r (drop (i + 1) xs) ≡ total
required_more st xs i x p q r total lt is written bound_too so_far =
    let rest = drop (i + 1) xs in
    let whole = map parameter_of rest in
    let w = parameter_text st (parameter_of x) in
    let ns = variable_names x.variable in
    let opened : required st p (drop i xs) ≡ required st p (x ∷ rest) =
    at_drop_more (required st p) xs i x lt ∙ ap (λ (y : Parameter'). required st p (y ∷ rest)) (sym is) in
    let here : r ≡ bound (put p w) ns = bound_too ∙ ap (λ (g : Page). bound g ns) written in
    let apart : required st (bound (put p w) ns) rest ≡ required st p (x ∷ rest) =
    ap (λ (g : Page). bound g (parameter_names whole)) (names_beside (put p w) ns (parameter_texts st whole))
    ∙ more_names (puts (put p w) (parameter_texts st whole)) ns (parameter_names whole) in
    ((ap (λ (g : Page). required st g rest) here ∙ apart) ∙ sym opened) ∙ so_far
