-- A text that grows word by word: what several words make of it.
use Rattle.std.proofs.Common.{◌≡◌, ℕ, true, Bool, List, [], ◌∷◌, ◌++◌, length, take, refl, sym, ap, ◌∙◌, arith, append_assoc}
use Rattle.std.proofs.lemmas.Grind.{common_steps}
use Rattle.core_form.specs.declared.text_page.Known.{Known}
use Rattle.core_form.specs.Text.{spaced, group}
use Rattle.core_form.specs.TextPage.{Page, make_page, gap_text, put, puts, opened, closed, bound, left_with}

-- whether a space goes before what follows
abbrev pub gap_after : Bool → List (List ℕ) → Bool
gap_after gap [] = gap
gap_after gap (w ∷ ws) = gap_after true ws

pub words_are : (pg : Page) (ws : List (List ℕ)) → puts pg ws ≡ make_page (pg.text ++ spaced (gap_text pg.gap) ws) (gap_after pg.gap ws) pg.names
words_are pg [] = grind (arith, common_steps)
words_are pg (w ∷ ws) =
    let e = words_are (put pg w) ws in
    e ∙ ap (λ (t : List ℕ). make_page t (gap_after true ws) pg.names) (grind (arith, common_steps))

-- a list
pub list_written : (pg : Page) (ws : List (List ℕ)) → closed (puts (opened pg) ws) ≡ put pg (group ws)
list_written pg ws =
    ap closed (words_are (opened pg) ws) ∙ ap (λ (t : List ℕ). make_page t true pg.names) (grind (arith, common_steps))

pub more_words : (pg : Page) (vs ws : List (List ℕ)) → puts (puts pg vs) ws ≡ puts pg (vs ++ ws)
more_words pg [] ws = refl
more_words pg (v ∷ vs) ws = more_words (put pg v) vs ws

-- names beside words
pub names_beside : (pg : Page) (ns : List Known) (ws : List (List ℕ)) → puts (bound pg ns) ws ≡ bound (puts pg ws) ns
names_beside pg ns [] = refl
names_beside pg ns (w ∷ ws) = names_beside (put pg w) ns ws

pub more_names : (pg : Page) (ms ns : List Known) → bound (bound pg ms) ns ≡ bound pg (ms ++ ns)
more_names pg ms ns = ap (make_page pg.text pg.gap) (append_assoc pg.names ms ns)

pub no_names : (pg : Page) → bound pg [] ≡ pg
no_names pg =
    let e : pg.names ++ [] ≡ pg.names = grind (arith, common_steps) in
    ap (make_page pg.text pg.gap) e

pub same_names : (pg : Page) (ws : List (List ℕ)) → (puts pg ws).names ≡ pg.names
same_names pg [] = refl
same_names pg (w ∷ ws) = same_names (put pg w) ws

take_front : {A : Type 0} (a b : List A) → take (length a) (a ++ b) ≡ a
take_front a b = grind (arith, common_steps)

-- words that are written where names are bound, which are forgotten behind
pub left_behind : (pg : Page) (ns : List Known) (ws : List (List ℕ)) (behind : Page) → behind ≡ puts (bound pg ns) ws → left_with behind (take (length pg.names) behind.names) ≡ puts pg ws
left_behind pg ns ws behind is =
    let beside : behind ≡ bound (puts pg ws) ns = is ∙ names_beside pg ns ws in
    let same = same_names pg ws in
    let taken : take (length pg.names) ((puts pg ws).names ++ ns) ≡ (puts pg ws).names =
    ap (λ (ks : List Known). take (length ks) ((puts pg ws).names ++ ns)) (sym same) ∙ take_front (puts pg ws).names ns in
    ap (λ (g : Page). left_with g (take (length pg.names) g.names)) beside ∙ ap (make_page (puts pg ws).text (puts pg ws).gap) taken

-- a list that was opened here, with the words in it
pub list_closed : (p : Page) (ws : List (List ℕ)) (opening inside shut : Page) → opening ≡ opened p → inside ≡ puts opening ws → shut ≡ closed inside → shut ≡ put p (group ws)
list_closed p ws opening inside shut e f g =
    ((g ∙ ap closed f) ∙ ap (λ (q : Page). closed (puts q ws)) e) ∙ list_written p ws
