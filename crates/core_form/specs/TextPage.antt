-- A text that grows word by word, with the names that are bound where it stands. (This project's own.)
use Rattle.std.specs.Prelude.{ℕ, Bool, true, false, if◌then◌else◌, List, [], ◌∷◌, ◌++◌, codes}
use Rattle.std.specs.String.{string_bytes}
use Rattle.core_form.specs.declared.text_page.Known.{Known}
use Rattle.core_form.specs.declared.text_page.Page.{Page as Page'}

-- the text, whether a space goes before the next word, and the names, the innermost last
pub record Page : Type 0 where
  pub text : List ℕ
  pub gap : Bool
  pub names : List Known

abbrev pub make_page : List ℕ → Bool → List Known → Page
make_page text gap names = record { text = text; gap = gap; names = names }

abbrev pub page_of : Page' → Page
page_of p = make_page (string_bytes p.text) p.gap p.names.items

abbrev pub gap_text : Bool → List ℕ
gap_text gap = if gap then codes " " else []

-- one word more; and several
abbrev pub put : Page → List ℕ → Page
put pg w = make_page (pg.text ++ (gap_text pg.gap ++ w)) true pg.names

abbrev pub puts : Page → List (List ℕ) → Page
puts pg [] = pg
puts pg (w ∷ ws) = puts (put pg w) ws

-- a list begins; and ends
abbrev pub opened : Page → Page
opened pg = make_page (pg.text ++ (gap_text pg.gap ++ codes "(")) false pg.names

abbrev pub closed : Page → Page
closed pg = make_page (pg.text ++ codes ")") true pg.names

-- further names are bound; and only these
abbrev pub bound : Page → List Known → Page
bound pg ns = make_page pg.text pg.gap (pg.names ++ ns)

abbrev pub left_with : Page → List Known → Page
left_with pg ns = make_page pg.text pg.gap ns
