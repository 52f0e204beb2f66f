-- Where the items stand: their sizes, and the places of labels and sites (this project's).
use Rattle.std.specs.Prelude.{ℕ, ◌+◌, ◌==◌, if◌then◌else◌, List, [], ◌∷◌, ◌++◌, Option, Some, None, is_some}
use Rattle.rv_asm.specs.declared.item.Item.{Item}
use Rattle.rv_asm.specs.declared.item.Item.TheVariants as item
use Rattle.rv_asm.specs.declared.assembled.Mark.{Mark}

-- how many bytes an item gives, and all of them
abbrev pub item_size : Item → ℕ
item_size (item.Plain x) = 4
item_size (item.Label l) = 0
item_size (item.BranchTo t a b l) = 4
item_size (item.JumpTo r l) = 4
item_size (item.AddressOf r l) = 8
item_size (item.Site n) = 0

abbrev pub code_size : List Item → ℕ
code_size [] = 0
code_size (x ∷ xs) = item_size x + code_size xs

abbrev pub mark : ℕ → ℕ → Mark
mark id at = record { id = id; at = at }

-- the mark of a label at this place, and of a site
abbrev pub label_marks : ℕ → Item → List Mark
label_marks at (item.Label l) = mark l at ∷ []
label_marks at (item.Plain x) = []
label_marks at (item.BranchTo t a b l) = []
label_marks at (item.JumpTo r l) = []
label_marks at (item.AddressOf r l) = []
label_marks at (item.Site n) = []

abbrev pub site_marks : ℕ → Item → List Mark
site_marks at (item.Site n) = mark n at ∷ []
site_marks at (item.Plain x) = []
site_marks at (item.Label l) = []
site_marks at (item.BranchTo t a b l) = []
site_marks at (item.JumpTo r l) = []
site_marks at (item.AddressOf r l) = []

-- the marks of one kind, in the order of the items, the first item at this place
abbrev pub marks_from : (ℕ → Item → List Mark) → ℕ → List Item → List Mark
marks_from marks at [] = []
marks_from marks at (x ∷ xs) = marks at x ++ marks_from marks (at + item_size x) xs

abbrev pub labels_of : List Item → List Mark
labels_of items = marks_from label_marks 0 items

abbrev pub sites_of : List Item → List Mark
sites_of items = marks_from site_marks 0 items

-- the place of the first mark with this number
abbrev pub place_in : List Mark → ℕ → Option ℕ
place_in [] l = None
place_in (m ∷ ms) l = if m.id == l then Some m.at else place_in ms l

-- the first number that stands twice, the second time after these marks
abbrev pub doubled_after : List Mark → List Mark → Option ℕ
doubled_after before [] = None
doubled_after before (m ∷ ms) =
    if is_some (place_in before m.id) then Some m.id else doubled_after (before ++ m ∷ []) ms

abbrev pub first_double : List Mark → Option ℕ
first_double marks = doubled_after [] marks
