-- One more binding round those inside it.
use Rattle.std.proofs.Common.{◌≡◌, ◌<◌, ◌+◌, ◌-◌, ℕ, List, [], ◌∷◌, length, take, drop, get_or, sym, ap, ◌∙◌, arith, length-drop}
use Rattle.std.proofs.lemmas.List.{drop_more, drop-map, take_all}
use Rattle.lisp_base.specs.declared.values.SymId.{SymId}
use Rattle.lisp_base.specs.declared.values.Val.{Val}
use Rattle.declarations.specs.Declarations.{Declared}
use Rattle.expansion.specs.Sketches.{Sketch, bind}
use Rattle.expansion.specs.Bindings.{bound_before, initial, names, nested}

abbrev pub around : List SymId → Declared → SymId × Val → Sketch → Sketch
around later d p x = bind (initial (bound_before later d p.0) p.1 ∷ []) x

to_the_end : (k : ℕ) (ss : List SymId) → take (length ss - k) (drop k ss) ≡ drop k ss
to_the_end k ss = take_all (length ss - k) (drop k ss) (omega (arith, length-drop k ss))

pub nested_more : (d : Declared) (bs : List (SymId × Val)) (j : ℕ) (other : SymId × Val) (ss : List SymId) (x inner outer : Sketch) → j < length bs → ss ≡ names bs → inner ≡ nested d (drop (j + 1) bs) x → outer ≡ around (take (length ss - (j + 1)) (drop (j + 1) ss)) d (get_or bs j other) inner → outer ≡ nested d (drop j bs) x
nested_more d bs j other ss x inner outer inside are so_far is =
    is
    ∙ (ap (λ (later : List SymId). around later d (get_or bs j other) inner)
    (to_the_end (j + 1) ss ∙ (ap (drop (j + 1)) are ∙ drop-map (λ (q : SymId × Val). q.0) (j + 1) bs))
    ∙ (ap (around (names (drop (j + 1) bs)) d (get_or bs j other)) so_far
    ∙ sym (ap (λ (qs : List (SymId × Val)). nested d qs x) (drop_more bs j other inside))))
