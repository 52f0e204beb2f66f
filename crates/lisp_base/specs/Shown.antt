-- What a view shows of its words, and the tree that a word unfolds to, to a depth (this project's own).
use Rattle.std.specs.Prelude.{◌≡◌, ℕ, zero, suc, nat_lt, if◌then◌else◌, List, [], ◌∷◌, map, Option, Some, None}
use Rattle.lisp_base.specs.declared.shapes.Shape.{Shape}
use Rattle.lisp_base.specs.declared.shapes.Shape.TheVariants.{Int, Char, Sym, Cons, Vector, Str, Fun}
use Rattle.lisp_base.specs.declared.shapes.Shape.TheVariants as shape
use Rattle.lisp_base.specs.Seen.{Tree, Deep, Bad, Number, Letter, Name, Text, Function, Both, Row, trees}

-- the shape of each word; the element of a vector, and the letter of a string or of a symbol's name, at each index below
-- its length
pub record Shown (W : Type 0) : Type 0 where
  pub shape : W → Shape W
  pub element : W → ℕ → W
  pub letter : W → ℕ → ℕ

-- how many elements a vector, a string and a name can have
unfoldable pub most_elements : ℕ
most_elements = 16777215

-- the number of elements of a vector
abbrev pub item_count : {W : Type 0} → Shape W → ℕ
item_count (Int z) = 0
item_count (Char c) = 0
item_count (Sym kind n) = 0
item_count (Cons car cdr) = 0
item_count (Vector n) = n
item_count (Str n) = 0
item_count Fun = 0
item_count shape.Bad = 0

-- the number of characters of a string or of a symbol's name
abbrev pub letter_count : {W : Type 0} → Shape W → ℕ
letter_count (Int z) = 0
letter_count (Char c) = 0
letter_count (Sym kind n) = n
letter_count (Cons car cdr) = 0
letter_count (Vector n) = 0
letter_count (Str n) = n
letter_count Fun = 0
letter_count shape.Bad = 0

-- what stands at an index, if this is below the count
abbrev pub below : {A : Type 0} → (count index : ℕ) → A → Option A
below count index a = if nat_lt index count then Some a else None

-- what stands at so many indices from one on
abbrev pub in_order : {A : Type 0} → (ℕ → A) → (index count : ℕ) → List A
in_order at index zero = []
in_order at index (suc n) = at index ∷ in_order at (suc index) n

-- the tree of a shape, by the trees of the words right below it
abbrev pub shape_tree : {W : Type 0} → (W → Tree) → Shown W → W → Shape W → Tree
shape_tree part shown w (Int z) = Number z
shape_tree part shown w (Char c) = Letter c
shape_tree part shown w (Sym kind n) = Name (in_order (shown.letter w) 0 n) kind
shape_tree part shown w (Cons car cdr) = Both (part car) (part cdr)
shape_tree part shown w (Vector n) = Row (trees (map part (in_order (shown.element w) 0 n)))
shape_tree part shown w (Str n) = Text (in_order (shown.letter w) 0 n)
shape_tree part shown w Fun = Function
shape_tree part shown w shape.Bad = Bad

-- what is seen of a word, to a depth
abbrev pub tree_of : {W : Type 0} → ℕ → Shown W → W → Tree
tree_of zero shown w = Deep
tree_of (suc depth) shown w = shape_tree (tree_of depth shown) shown w (shown.shape w)

-- two words, each seen by a view of its own, are the same value: their trees are equal at every depth
abbrev pub SameValue : {V W : Type 0} → Shown V → V → Shown W → W → Type 0
SameValue a v b w = (depth : ℕ) → tree_of depth a v ≡ tree_of depth b w
