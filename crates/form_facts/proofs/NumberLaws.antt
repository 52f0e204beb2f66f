-- What is said of numbers in unions and of what is filtered by them.
use Rattle.std.specs.Prelude.{◌≡◌, refl, ℕ, ◌+◌, ◌<◌, Bool, true, false, not, ◌||◌, if◌then◌else◌, List, [], ◌∷◌, ◌++◌, length, flat_map}
use Rattle.std.proofs.Common.{ap, sym, ◌∙◌, get_or, drop}
use Rattle.std.proofs.lemmas.List.{at_drop_more}
use Rattle.core_form.specs.Tree.{Core}
use Rattle.core_form.specs.Facts.{TagText, has_number, union, without, at_nodes, variables_set, extents_left, changed_somewhere, tag_texts}
use Rattle.closed_copies.proofs.Sets.{has_append, has_union}
use Rattle.closed_copies.proofs.Told.{pairs}
use Rattle.form_facts.specs.Parts.{parts, set_by, left_by}
use Rattle.form_facts.proofs.NumberSets.{filter_same}
use Rattle.form_facts.proofs.Gathered.{sets_are, left_are}

-- ---- unions one after another

united_or : (b : Bool) (xs : List ℕ) (y : ℕ) (ys zs : List ℕ) → union (union xs ys) zs ≡ union xs (ys ++ zs) → union (union (xs ++ y ∷ []) ys) zs ≡ union (xs ++ y ∷ []) (ys ++ zs) →
    union (if b then union xs ys else union (xs ++ y ∷ []) ys) zs ≡ (if b then union xs (ys ++ zs) else union (xs ++ y ∷ []) (ys ++ zs))
united_or true xs y ys zs h k = h
united_or false xs y ys zs h k = k

pub union_append : (xs ys zs : List ℕ) → union (union xs ys) zs ≡ union xs (ys ++ zs)
union_append xs [] zs = refl
union_append xs (y ∷ ys) zs = united_or (has_number y xs) xs y ys zs (union_append xs ys zs) (union_append (xs ++ y ∷ []) ys zs)

-- the loop's step, where what each element gives is united
pub unite_next : {A : Type 0} (f : A → List ℕ) (F : List A → List ℕ) → ((x : A) (xs : List A) → F (x ∷ xs) ≡ f x ++ F xs) → (all new goal : List ℕ) (xs : List A) (i : ℕ) (d x : A) → i < length xs → x ≡ get_or xs i d →
    new ≡ union all (f x) → union all (F (drop i xs)) ≡ goal → union new (F (drop (i + 1) xs)) ≡ goal
unite_next {A} f F cons all new goal xs i d x lt e h so_far =
    let rest : List ℕ = F (drop (i + 1) xs) in
    ap (λ (ys : List ℕ). union ys rest) h ∙ union_append all (f x) rest ∙ ap (λ (y : A). union all (f y ++ rest)) e
    ∙ sym (ap (union all) (at_drop_more F xs i d lt ∙ cons (get_or xs i d) (drop (i + 1) xs))) ∙ so_far

-- ---- numbers once are the same numbers

pub has_once : (n : ℕ) (xs : List ℕ) → has_number n (union [] xs) ≡ has_number n xs
has_once n xs = has_union n [] xs

pub without_once : (xs ys : List ℕ) → without xs (union [] ys) ≡ without xs ys
without_once xs ys = filter_same (λ x. not (has_number x (union [] ys))) (λ x. not (has_number x ys)) (λ x. ap not (has_once x ys)) xs

-- ---- what is changed

pub has_changed : (n : ℕ) (e : Core) (tags : List (ℕ × TagText)) → tags ≡ at_nodes tag_texts e →
    has_number n (union (union [] (flat_map set_by (parts e))) (flat_map (left_by (pairs tags)) (parts e))) ≡ has_number n (changed_somewhere e)
has_changed n e tags h =
    has_union n (union [] (flat_map set_by (parts e))) (flat_map (left_by (pairs tags)) (parts e))
    ∙ ap (λ (b : Bool). b || has_number n (flat_map (left_by (pairs tags)) (parts e))) (has_once n (flat_map set_by (parts e)) ∙ ap (has_number n) (sets_are e))
    ∙ ap (λ (xs : List ℕ). has_number n (at_nodes variables_set e) || has_number n xs) (left_are tags e)
    ∙ ap (λ ts. has_number n (at_nodes variables_set e) || has_number n (at_nodes (extents_left ts) e)) h
    ∙ sym (has_append n (at_nodes variables_set e) (at_nodes (extents_left (at_nodes tag_texts e)) e))
