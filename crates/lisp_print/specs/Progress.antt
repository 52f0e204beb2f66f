-- What is still to be printed while lists and vectors are open, by the words of a view (this project's own).
use Rattle.std.specs.Prelude.{ℕ, suc, ◌+◌, ◌-◌, ◌*◌, ◌++◌, nat_le, if◌then◌else◌, Bool, false, List, [], ◌∷◌, length, map, codes}
use Rattle.std.specs.Fmt.{signed_decimal}
use Rattle.lisp_base.specs.declared.shapes.Shape.{Shape}
use Rattle.lisp_base.specs.declared.shapes.Shape.TheVariants.{Int, Char, Sym, Cons, Vector, Str, Fun}
use Rattle.lisp_base.specs.declared.shapes.Shape.TheVariants as shape
use Rattle.lisp_base.specs.Seen.{trees}
use Rattle.lisp_base.specs.Shown.{Shown, in_order, item_count, tree_of}
use Rattle.lisp_print.specs.declared.page.Open.{Open}
use Rattle.lisp_print.specs.declared.page.Open.TheVariants as open_part
use Rattle.lisp_print.specs.declared.printing.Limits.{Limits}
use Rattle.lisp_print.specs.Texts.{character_text, name_text, string_text, is_nil}
use Rattle.lisp_print.specs.Printing.{Written, written, dotted, object, list, elements, depth_of}

-- a shape without parts
abbrev pub atom_text : {W : Type 0} → Shown W → W → Shape W → List ℕ
atom_text shown w (Int z) = signed_decimal z
atom_text shown w (Char c) = character_text c
atom_text shown w (Sym kind n) = name_text (in_order (shown.letter w) 0 n) kind
atom_text shown w (Cons car cdr) = []
atom_text shown w (Vector n) = []
atom_text shown w (Str n) = string_text (in_order (shown.letter w) 0 n)
atom_text shown w Fun = codes "#<FUNCTION>"
atom_text shown w shape.Bad = codes "#<BAD>"

-- whether a shape is NIL, the end of lists
abbrev pub ends_list : {W : Type 0} → Shown W → W → Shape W → Bool
ends_list shown w (Int z) = false
ends_list shown w (Char c) = false
ends_list shown w (Sym kind n) = is_nil (in_order (shown.letter w) 0 n) kind
ends_list shown w (Cons car cdr) = false
ends_list shown w (Vector n) = false
ends_list shown w (Str n) = false
ends_list shown w Fun = false
ends_list shown w shape.Bad = false

-- the text of a word's tree
unfoldable pub object_at : {W : Type 0} → Limits → Shown W → (inside left : ℕ) → W → Written
object_at limits shown inside left w = object limits inside left (tree_of (depth_of limits) shown w)

-- what follows so many elements of a list, by the word of the CDR there
unfoldable pub list_at : {W : Type 0} → Limits → Shown W → (inside done left : ℕ) → W → Written
list_at limits shown inside done left w = list limits inside done left (tree_of (depth_of limits) shown w)

-- what follows so many elements of a vector
unfoldable pub elements_at : {W : Type 0} → Limits → Shown W → (inside done left : ℕ) → W → Written
elements_at limits shown inside done left w =
    elements limits inside done left
    (trees (map (tree_of (depth_of limits) shown) (in_order (shown.element w) done (item_count (shown.shape w) - done))))

-- what follows the elements of a list, by its last CDR
abbrev pub last_text : {W : Type 0} → Limits → Shown W → (inside left : ℕ) → W → Shape W → Written
last_text limits shown inside left w s =
    if ends_list shown w s then written [] left else dotted (object_at limits shown inside left w)

-- the rest of what is open, up to its parenthesis
abbrev pub open_text : {W : Type 0} → Limits → Shown W → (inside left : ℕ) → Open W → Written
open_text limits shown inside left (open_part.List rest done) = list_at limits shown inside done left rest
open_text limits shown inside left (open_part.Vector vector done) = elements_at limits shown inside done left vector
open_text limits shown inside left open_part.Ended = written [] left

-- the rest of all that is open, the innermost first
abbrev pub unfinished : {W : Type 0} → Limits → Shown W → (left : ℕ) → List (Open W) → List ℕ
unfinished limits shown left [] = []
unfinished limits shown left (o ∷ os) =
    (open_text limits shown (suc (length os)) left o).text ++ codes ")" ++ unfinished limits shown (open_text limits shown (suc (length os)) left o).left os

-- a text and the rest of what is open behind it; and with the parenthesis of what it was inside
abbrev pub finish : {W : Type 0} → Limits → Shown W → Written → List (Open W) → List ℕ
finish limits shown p os = p.text ++ unfinished limits shown p.left os

abbrev pub closed : {W : Type 0} → Limits → Shown W → Written → List (Open W) → List ℕ
closed limits shown p os = p.text ++ codes ")" ++ unfinished limits shown p.left os

-- what is begun where a list or vector opens
abbrev pub begun : {W : Type 0} → Limits → Shown W → (left : ℕ) → List ℕ → Open W → List (Open W) → List ℕ
begun limits shown left opening o os =
    if nat_le limits.level (length os) then codes "#" ++ unfinished limits shown left os else
    (opening ++ unfinished limits shown left (o ∷ os))

-- how many steps what is open takes at most, and all with the objects that are left
abbrev pub open_cost : {W : Type 0} → Limits → Open W → ℕ
open_cost limits (open_part.List rest done) = limits.length - done + 2
open_cost limits (open_part.Vector vector done) = limits.length - done + 2
open_cost limits open_part.Ended = 1

abbrev pub opens_cost : {W : Type 0} → Limits → List (Open W) → ℕ
opens_cost limits [] = 0
opens_cost limits (o ∷ os) = open_cost limits o + opens_cost limits os

abbrev pub cost : {W : Type 0} → Limits → (left : ℕ) → List (Open W) → ℕ
cost limits left os = left * (limits.length + 3) + opens_cost limits os
