-- The word variables of a form, round by round. (This project's own.)
use Rattle.std.specs.Prelude.{ℕ, ◌==◌, List, flat_map, filter, map, length}
use Rattle.lisp_base.specs.Tables.{Table}
use Rattle.lisp_base.specs.Membership.{SymbolKind}
use Rattle.core_form.specs.Tree.{Parameter}
use Rattle.core_form.specs.Facts.{times_in, declared_integer, without, repeat}
use Rattle.core_form.specs.Force.{symbol_kinds_of}
use Rattle.core_form.specs.Lawful.{symbol_of}
use Rattle.form_facts.specs.Parts.{Part, read_by, bound_by, taken_by}

-- the kinds of the symbols of a table
abbrev pub kinds_of : Table → SymbolKind
kinds_of table = symbol_kinds_of (map symbol_of table.symbols)

-- the references that are taken as words, where these are the word variables
abbrev pub taken_in : (words : List ℕ) → List Part → List ℕ
taken_in words ps = flat_map (taken_by words) ps

-- the words that stand as often among the first numbers as among the second
abbrev pub kept_words : (reads taken words : List ℕ) → List ℕ
kept_words reads taken words = filter (λ x. times_in x reads == times_in x taken) words

abbrev pub next_words : (reads : List ℕ) → List Part → List ℕ → List ℕ
next_words reads ps words = kept_words reads (taken_in words ps) words

abbrev pub declared_of : SymbolKind → List Parameter → List ℕ
declared_of kinds xs = flat_map (declared_integer kinds) xs

-- those variables of a form of these parts that are declared integers and that no function closes over, narrowed
abbrev pub open_words : SymbolKind → (closed : List ℕ) → List Part → List ℕ
open_words kinds closed ps = without (declared_of kinds (flat_map bound_by ps)) closed

abbrev pub settled_words : SymbolKind → (closed : List ℕ) → List Part → List ℕ
settled_words kinds closed ps =
    repeat (length (open_words kinds closed ps)) (next_words (flat_map read_by ps) ps) (open_words kinds closed ps)
