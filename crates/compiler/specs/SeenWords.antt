-- What is seen of a word in a machine's memory: the tree of the value that it stands for, to a depth.
use Rattle.std.specs.Prelude.{ℕ, zero, suc, ◌+◌, ◌-◌, ◌/◌, ◌%◌, ◌==◌, if◌then◌else◌, List, [], ◌∷◌}
use Rattle.std.specs.Int.{int_shr}
use Rattle.lisp_base.specs.declared.values.SymKind.TheVariants as kinds
use Rattle.lisp_base.specs.Seen.{Tree, Deep, Bad, Number, Letter, Name, Text, Function, Both, Row, Trees, no_tree, tree}
use Rattle.object_model.specs.Tags.{word_at, letter_at, is_character}
use Rattle.rv_isa.specs.Operations.{signed}
use Rattle.compiler.specs.Words.{nil_word}

-- n letters of the string at an address, from the i-th on
abbrev pub letters_at : (ℕ → ℕ) → ℕ → ℕ → ℕ → List ℕ
letters_at memory a i zero = []
letters_at memory a i (suc n) = letter_at memory a i ∷ letters_at memory a (suc i) n

abbrev pub symbol_tree : List ℕ → ℕ → Tree
symbol_tree name zero = Name name kinds.Plain
symbol_tree name (suc zero) = Name name kinds.Keyword
symbol_tree name (suc (suc zero)) = Name name kinds.Fresh
symbol_tree name (suc (suc (suc n))) = Bad

-- the symbol object at an address: its name string is its third word after the header, its kind the fourth
abbrev pub symbol_at : (ℕ → ℕ) → ℕ → Tree
symbol_at memory a =
    let name = word_at memory (a + 24) - 7 in
    symbol_tree (letters_at memory name 0 (word_at memory name / 256)) (word_at memory (a + 32) / 4)

-- the trees of n words from an address on
abbrev pub trees_at : (ℕ → Tree) → (ℕ → ℕ) → ℕ → ℕ → Trees
trees_at part memory a zero = no_tree
trees_at part memory a (suc n) = tree (part (word_at memory a)) (trees_at part memory (a + 8) n)

-- an object with a header, by its kind
abbrev pub headed_tree : (ℕ → Tree) → (ℕ → ℕ) → ℕ → Tree
headed_tree part memory a =
    let header = word_at memory a in
    if header % 256 == 6 then Row (trees_at part memory (a + 8) (header / 256)) else (
    if header % 256 == 14 then Text (letters_at memory a 0 (header / 256)) else (
    if header % 256 == 22 then Number (signed (word_at memory (a + 8))) else (
    if header % 256 == 54 then symbol_at memory a else Bad)))

-- the cons at an address
abbrev pub cons_tree : (ℕ → Tree) → (ℕ → ℕ) → ℕ → Tree
cons_tree part memory a = Both (part (word_at memory a)) (part (word_at memory (a + 8)))

-- By the low bits: a small integer times 4; a character; a list pointer, of which the first one is NIL, whose symbol
-- object stands behind it; another object; a function.
abbrev pub tree_of_word : (ℕ → ℕ) → ℕ → ℕ → Tree
tree_of_word memory zero w = Deep
tree_of_word memory (suc j) w =
    if w % 4 == 0 then Number (int_shr (signed w) 2) else (
    if w % 256 == 2 then (if is_character (w / 256) then Letter (w / 256) else Bad) else (
    if w == nil_word then symbol_at memory 0x20000010 else (
    if w % 8 == 3 then cons_tree (tree_of_word memory j) memory (w - 3) else (
    if w % 8 == 7 then headed_tree (tree_of_word memory j) memory (w - 7) else (
    if w % 8 == 1 then Function else Bad)))))
