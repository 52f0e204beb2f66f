-- Lists that are made beside others, one element after another.
use Rattle.std.proofs.Common.{◌≡◌, ◌<◌, ◌+◌, ℕ, List, [], ◌∷◌, ◌++◌, length, map, drop, get_or, refl, ap, sym, ◌∙◌}
use Rattle.std.proofs.lemmas.List.{length-map, length_push, map-append, drop-map}
use Rattle.expansion.specs.Steps.{World, Answer, gives, refused, Step}
use Rattle.form_expander.specs.Besides.{matched}
use Rattle.form_expander.proofs.Rows.{each_of, after, front, step_on}

pub none_matched : {A B C : Type 0} (f : A → B → C) (bs : List A) → matched f bs [] ≡ []
none_matched f [] = refl
none_matched f (b ∷ bs) = refl

matched_next : {A B C : Type 0} (f : A → B → C) (bs : List A) (xs : List B) (b : A) (rest : List A) (x : B) → drop (length xs) bs ≡ b ∷ rest → matched f bs (xs ++ x ∷ []) ≡ matched f bs xs ++ f b x ∷ []
matched_next f [] [] b rest x h = cc
matched_next f [] (y ∷ ys) b rest x h = cc
matched_next f (c ∷ cs) [] b rest x h = cc (none_matched f cs)
matched_next {C = C} f (c ∷ cs) (y ∷ ys) b rest x h = ap (λ (l : List C). f c y ∷ l) (matched_next f cs ys b rest x h)

-- ---- a loop along the elements of a list, which makes another beside it

matched_grown : {R Q A B C : Type 0} (view : R → A) (seen : Q → B) (f : A → B → C) (items : List R) (i : ℕ) (item : R) (made grown : List Q) (q : Q) → i < length items → item ≡ get_or items i item → length made ≡ i → grown ≡ made ++ q ∷ [] → matched f (map view items) (map seen grown) ≡ matched f (map view items) (map seen made) ++ f (view item) (seen q) ∷ []
matched_grown {Q = Q} view seen f items i item made grown q inside is count added =
    let placed : drop (length (map seen made)) (map view items) ≡ view item ∷ map view (drop (i + 1) items) =
    ap (λ (n : ℕ). drop n (map view items)) (length-map made seen ∙ count) ∙ (drop-map view i items ∙ ap (map view) (front items i item inside is)) in
    ap (λ (l : List Q). matched f (map view items) (map seen l)) added
    ∙ (ap (matched f (map view items)) (map-append seen made (q ∷ []))
    ∙ matched_next f (map view items) (map seen made) (view item) (map view (drop (i + 1) items)) (seen q) placed)

pub made_more : {R Q A B C : Type 0} (view : R → A) (seen : Q → B) (f : A → B → C) (one : A → Step C) (items : List R) (i : ℕ) (item : R) (made grown : List Q) (q : Q) (w v : World) (all : Answer (List C)) → i < length items → item ≡ get_or items i item → length made ≡ i → grown ≡ made ++ q ∷ [] → one (view item) w ≡ gives (f (view item) (seen q)) v → after (matched f (map view items) (map seen made)) (each_of one (map view (drop i items)) w) ≡ all → after (matched f (map view items) (map seen grown)) (each_of one (map view (drop (i + 1) items)) v) ≡ all
made_more {C = C} view seen f one items i item made grown q w v all inside is count added given so_far =
    ap (λ (l : List C). after l (each_of one (map view (drop (i + 1) items)) v)) (matched_grown view seen f items i item made grown q inside is count added)
    ∙ step_on view one items i item (matched f (map view items) (map seen made)) (f (view item) (seen q)) w v all inside is given so_far

-- what is made is seen in what is made of both
pub seen_more : {R Q A B C : Type 0} (view : R → A) (seen : Q → B) (f : A → B → C) (g : C → B) (items : List R) (i : ℕ) (item : R) (made grown : List Q) (q : Q) → i < length items → item ≡ get_or items i item → length made ≡ i → grown ≡ made ++ q ∷ [] → g (f (view item) (seen q)) ≡ seen q → map g (matched f (map view items) (map seen made)) ≡ map seen made → map g (matched f (map view items) (map seen grown)) ≡ map seen grown
seen_more {Q = Q} {B = B} view seen f g items i item made grown q inside is count added one so_far =
    ap (map g) (matched_grown view seen f items i item made grown q inside is count added)
    ∙ (map-append g (matched f (map view items) (map seen made)) (f (view item) (seen q) ∷ [])
    ∙ (ap (λ (l : List B). l ++ g (f (view item) (seen q)) ∷ []) so_far
    ∙ (ap (λ (b : B). map seen made ++ b ∷ []) one
    ∙ (sym (map-append seen made (q ∷ [])) ∙ ap (map seen) (sym added)))))

pub seen_none : {R Q A B C : Type 0} (view : R → A) (seen : Q → B) (f : A → B → C) (g : C → B) (items : List R) (made : List Q) → made ≡ [] → map g (matched f (map view items) (map seen made)) ≡ map seen made
seen_none {Q = Q} {B = B} {C = C} view seen f g items made empty =
    ap (λ (l : List Q). map g (matched f (map view items) (map seen l))) empty
    ∙ (ap (map g) (none_matched f (map view items)) ∙ ap (map seen) (sym empty))

pub counted : {Q : Type 0} (made grown : List Q) (q : Q) (i : ℕ) → length made ≡ i → grown ≡ made ++ q ∷ [] → length grown ≡ i + 1
counted {Q = Q} made grown q i count added = ap length added ∙ (length_push made q ∙ ap (λ (n : ℕ). n + 1) count)

pub made_none : {R Q A B C : Type 0} (view : R → A) (seen : Q → B) (f : A → B → C) (one : A → Step C) (items : List R) (made : List Q) (w : World) → made ≡ [] → after (matched f (map view items) (map seen made)) (each_of one (map view items) w) ≡ each_of one (map view items) w
made_none {Q = Q} {C = C} view seen f one items made w empty =
    ap (λ (l : List Q). after (matched f (map view items) (map seen l)) (each_of one (map view items) w)) empty
    ∙ (ap (λ (l : List C). after l (each_of one (map view items) w)) (none_matched f (map view items)) ∙ after_none (each_of one (map view items) w))
  where
    after_none : {X : Type 0} (a : Answer (List X)) → after [] a ≡ a
    after_none (gives xs w) = refl
    after_none (refused kind place) = refl
