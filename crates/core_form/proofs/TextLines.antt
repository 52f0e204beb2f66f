-- The lines of a program's text, one more at a time.
use Rattle.std.proofs.Common.{◌≡◌, ℕ, ◌+◌, ◌<◌, ◌≤◌, List, [], ◌∷◌, ◌++◌, Bool, false, length, drop, get_or, sym, ap, ◌∙◌, codes, append_assoc, arith}
use Rattle.std.proofs.lemmas.Grind.{common_steps}
use Rattle.std.proofs.lemmas.List.{at_drop_more, at_drop_all}
use Rattle.lisp_base.specs.InStore.{Store}
use Rattle.core_form.specs.declared.tree.TopForm.{TopForm}
use Rattle.core_form.specs.declared.text_page.Known.{Known}
use Rattle.core_form.specs.Reading.{core_of, tops_of}
use Rattle.core_form.specs.Text.{core_text, lines}
use Rattle.core_form.specs.TextPage.{Page, make_page, gap_text, put}

-- further lines behind a text
abbrev pub lines_on : Store → Page → List TopForm → Page
lines_on st pg fs = make_page (pg.text ++ lines st (tops_of fs)) pg.gap pg.names

pub lines_more : (st : Store) (fs : List TopForm) (i : ℕ) (x : TopForm) (p q r : Page) (total : List ℕ) → i < length fs → x ≡ get_or fs i x →
    q ≡ put p (core_text st p.names (core_of x.core)) → r ≡ make_page (q.text ++ codes "\n") false q.names →
    lines_on st p (drop i fs) ≡ make_page total false [] → lines_on st r (drop (i + 1) fs) ≡ make_page total false []
lines_more st fs i x p q r total lt is written ended so_far =
    let rest = drop (i + 1) fs in
    let c = core_of x.core in
    let line = core_text st [] c in
    let behind = lines st (tops_of rest) in
    let begun : lines_on st p (drop i fs) ≡ lines_on st p (x ∷ rest) =
    at_drop_more (lines_on st p) fs i x lt ∙ ap (λ (y : TopForm). lines_on st p (y ∷ rest)) (sym is) in
    let names : p.names ≡ [] = ap (λ (k : Page). k.names) so_far in
    let gap : p.gap ≡ false = ap (λ (k : Page). k.gap) so_far in
    let unfolded : (lines_on st p (x ∷ rest)).text ≡ p.text ++ (line ++ (codes "\n" ++ behind)) = grind (arith, common_steps) in
    let text : p.text ++ (line ++ (codes "\n" ++ behind)) ≡ total = sym unfolded ∙ ap (λ (k : Page). k.text) (sym begun ∙ so_far) in
    let here : q.text ≡ p.text ++ line =
    (ap (λ (k : Page). k.text) written ∙ ap (λ (g : Bool). p.text ++ (gap_text g ++ core_text st p.names c)) gap)
    ∙ ap (λ (ns : List Known). p.text ++ core_text st ns c) names in
    let regrouped : ((p.text ++ line) ++ codes "\n") ++ behind ≡ p.text ++ (line ++ (codes "\n" ++ behind)) = simp append_assoc in
    let all : (q.text ++ codes "\n") ++ behind ≡ total =
    (ap (λ (t : List ℕ). (t ++ codes "\n") ++ behind) here ∙ regrouped) ∙ text in
    let none : q.names ≡ [] = ap (λ (k : Page). k.names) written ∙ names in
    (ap (λ (k : Page). lines_on st k rest) ended ∙ ap (λ (t : List ℕ). make_page t false q.names) all) ∙ ap (make_page total false) none

pub lines_all : (st : Store) (fs : List TopForm) (i : ℕ) (p total : Page) → length fs ≤ i → lines_on st p (drop i fs) ≡ total → p ≡ total
lines_all st fs i p total le so_far =
    let e : p.text ++ [] ≡ p.text = grind (arith, common_steps) in
    sym (at_drop_all (lines_on st p) fs i le ∙ ap (λ (t : List ℕ). make_page t p.gap p.names) e) ∙ so_far
