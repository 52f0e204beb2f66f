-- The closed variables of functions as lists, round by round. (This project's own.)
use Rattle.std.specs.Prelude.{ℕ, zero, suc, List, [], flat_map, map, length}
use Rattle.core_form.specs.Tree.{Core, Lambda}
use Rattle.core_form.specs.Facts.{union, without}
use Rattle.closed_copies.specs.Events.{events}
use Rattle.closed_copies.specs.Table.{Entry, entry, tag_of, number_of, local_entry}
use Rattle.form_facts.specs.View.{list_at}
use Rattle.form_facts.specs.Parts.{Part, made_by}

-- the closed variables of the functions at these places, together
abbrev pub lists_at : List (List ℕ) → (places : List ℕ) → List ℕ
lists_at lists places = flat_map (list_at lists) places

-- those of a function, from those of the local functions one round before
abbrev pub closed_from : List (List ℕ) → Entry → List ℕ
closed_from lists f = without (union (union [] f.refers) (lists_at lists f.calls)) f.inner

abbrev pub one_round : List Entry → List (List ℕ) → List (List ℕ)
one_round fs lists = map (closed_from lists) fs

abbrev pub rounds : (n : ℕ) → List Entry → List (List ℕ) → List (List ℕ)
rounds zero fs lists = lists
rounds (suc n) fs lists = rounds n fs (one_round fs lists)

abbrev pub none_closed : List Entry → List (List ℕ)
none_closed fs = map (λ f. []) fs

-- ---- of a form

abbrev pub tags_in : Core → List (ℕ × ℕ)
tags_in e = flat_map tag_of (events e)

abbrev pub locals_in : Core → List ℕ
locals_in e = flat_map number_of (events e)

abbrev pub local_table : Core → List Entry
local_table e = flat_map (local_entry (tags_in e) (locals_in e)) (events e)

-- the closed variables of the local functions, after as many rounds as there are of them
abbrev pub local_lists : Core → List (List ℕ)
local_lists e = rounds (length (locals_in e)) (local_table e) (none_closed (local_table e))

-- those of the functions among these parts
abbrev pub closed_of_lambda : (tags : List (ℕ × ℕ)) (locals : List ℕ) → List (List ℕ) → Lambda → List ℕ
closed_of_lambda tags locals lists l = closed_from lists (entry tags locals l)

abbrev pub closed_of_part : (tags : List (ℕ × ℕ)) (locals : List ℕ) → List (List ℕ) → Part → List (List ℕ)
closed_of_part tags locals lists p = map (closed_of_lambda tags locals lists) (made_by p)

abbrev pub closed_of_parts : (tags : List (ℕ × ℕ)) (locals : List ℕ) → List (List ℕ) → List Part → List (List ℕ)
closed_of_parts tags locals lists ps = flat_map (closed_of_part tags locals lists) ps

abbrev pub joined : List (List ℕ) → List ℕ
joined lists = flat_map (λ xs. xs) lists
