-- Steps on the elements of a list, one after another.
use Rattle.std.proofs.Common.{◌≡◌, ◌<◌, ◌≤◌, ◌+◌, ℕ, List, [], ◌∷◌, ◌++◌, append_assoc, length, map, drop, get_or, refl, ap, sym, ◌∙◌}
use Rattle.std.proofs.lemmas.List.{append-nil, drop_more, at_drop_all}
use Rattle.expansion.specs.Steps.{World, Answer, gives, refused, Step, and_then}
use Rattle.form_expander.specs.declared.fault.Fault.{Fault}
use Rattle.form_expander.specs.declared.fault.Fault.TheVariants as fault
use Rattle.form_expander.specs.Outcomes.{Refuses}

-- one element after another
abbrev pub each_of : {B X : Type 0} → (B → Step X) → List B → Step (List X)
each_of f [] w = gives [] w
each_of f (b ∷ bs) w = and_then (f b w) (λ x v. and_then (each_of f bs v) (λ xs u. gives (x ∷ xs) u))

-- what comes after these
abbrev pub after : {X : Type 0} → List X → Answer (List X) → Answer (List X)
after done (gives xs w) = gives (done ++ xs) w
after done (refused kind place) = refused kind place

after_one : {X : Type 0} (done : List X) (x : X) (a : Answer (List X)) → after done (and_then a (λ xs u. gives (x ∷ xs) u)) ≡ after (done ++ x ∷ []) a
after_one {X = X} done x (gives xs w) = ap (λ (l : List X). gives l w) (sym (append_assoc done (x ∷ []) xs))
after_one done x (refused kind place) = refl

next : {B X : Type 0} (f : B → Step X) (b : B) (bs : List B) (done : List X) (x : X) (w v : World) → f b w ≡ gives x v → after done (each_of f (b ∷ bs) w) ≡ after (done ++ x ∷ []) (each_of f bs v)
next {X = X} f b bs done x w v h =
    ap (λ (a : Answer X). after done (and_then a (λ x v. and_then (each_of f bs v) (λ xs u. gives (x ∷ xs) u)))) h ∙ after_one done x (each_of f bs v)

-- ---- along the elements of a list of values, seen by a view

pub front : {R : Type 0} (items : List R) (i : ℕ) (item : R) → i < length items → item ≡ get_or items i item → drop i items ≡ item ∷ drop (i + 1) items
front {R = R} items i item inside is = drop_more items i item inside ∙ ap (λ (r : R). r ∷ drop (i + 1) items) (sym is)

pub step_on : {R B X : Type 0} (view : R → B) (f : B → Step X) (items : List R) (i : ℕ) (item : R) (done : List X) (x : X) (w v : World) (all : Answer (List X)) → i < length items → item ≡ get_or items i item → f (view item) w ≡ gives x v → after done (each_of f (map view (drop i items)) w) ≡ all → after (done ++ x ∷ []) (each_of f (map view (drop (i + 1) items)) v) ≡ all
step_on {R = R} view f items i item done x w v all inside is given so_far =
    sym (next f (view item) (map view (drop (i + 1) items)) done x w v given)
    ∙ (sym (ap (λ (l : List R). after done (each_of f (map view l) w)) (front items i item inside is)) ∙ so_far)

pub at_end : {R B X : Type 0} (view : R → B) (f : B → Step X) (items : List R) (i : ℕ) (done : List X) (w : World) (all : Answer (List X)) → length items ≤ i → after done (each_of f (map view (drop i items)) w) ≡ all → all ≡ gives done w
at_end {R = R} {X = X} view f items i done w all past so_far =
    sym so_far
    ∙ (at_drop_all (λ (l : List R). after done (each_of f (map view l) w)) items i past ∙ ap (λ (l : List X). gives l w) (append-nil done))

refusal : {B X : Type 0} (f : B → Step X) (b : B) (bs : List B) (done : List X) (w : World) (e : Fault) → Refuses (f b w) e → Refuses (after done (each_of f (b ∷ bs) w)) e
refusal {X = X} f b bs done w (fault.Refused kind place) h =
    ap (λ (a : Answer X). after done (and_then a (λ x v. and_then (each_of f bs v) (λ xs u. gives (x ∷ xs) u)))) h
refusal f b bs done w fault.Memory h = h

pub refused_there : {R B X : Type 0} (view : R → B) (f : B → Step X) (items : List R) (i : ℕ) (item : R) (done : List X) (w : World) (all : Answer (List X)) (e : Fault) → i < length items → item ≡ get_or items i item → Refuses (f (view item) w) e → after done (each_of f (map view (drop i items)) w) ≡ all → Refuses all e
refused_there view f items i item done w all fault.Memory inside is h so_far = h
refused_there {R = R} view f items i item done w all (fault.Refused kind place) inside is h so_far =
    sym so_far
    ∙ (ap (λ (l : List R). after done (each_of f (map view l) w)) (front items i item inside is)
    ∙ refusal f (view item) (map view (drop (i + 1) items)) done w (fault.Refused kind place) h)

pub refuses_along : {X : Type 0} (a b : Answer X) (e : Fault) → a ≡ b → Refuses b e → Refuses a e
refuses_along a b fault.Memory same h = h
refuses_along a b (fault.Refused kind place) same h = same ∙ h
