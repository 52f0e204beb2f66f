-- Elements that are added to lists of templates.
use Rattle.std.proofs.Common.{◌≡◌, ◌+◌, ◌-◌, ◌<◌, ◌≤◌, ℕ, zero, suc, List, [], ◌∷◌, ◌++◌, map, reverse, refl, sym, ap, ◌∙◌, arith, append_assoc}
use Rattle.std.proofs.lemmas.List.{map-append, append-nil, reverse-append}
use Rattle.lisp_forms.specs.declared.template.Template.{Template}
use Rattle.lisp_forms.specs.Trees.{Tree, fresh, tree_of}
use Rattle.std_macros.specs.Rules.{fresh_from}

pub pushed : (old new : List Template) (x : Template) (rest : List Tree) → new ≡ old ++ x ∷ [] → map tree_of new ++ rest ≡ map tree_of old ++ tree_of x ∷ rest
pushed old new x rest is =
    ap (λ (ts : List Template). map tree_of ts ++ rest) is
    ∙ (ap (λ (ts : List Tree). ts ++ rest) (map-append tree_of old (x ∷ [])) ∙ append_assoc (map tree_of old) (tree_of x ∷ []) rest)

fresh_more : (k next n m : ℕ) → n ≡ suc m → next ≡ k + 1 → fresh_from k n ≡ fresh k ∷ fresh_from next m
fresh_more k next n m is on = ap (fresh_from k) is ∙ ap (λ (j : ℕ). fresh k ∷ fresh_from j m) (sym on)

-- one more fresh symbol of so many
pub fresh_added : (first offset count : ℕ) (old new : List Template) (x : Template) (whole : List Tree) → offset < count → tree_of x ≡ fresh (first + offset) → new ≡ old ++ x ∷ [] → map tree_of old ++ fresh_from (first + offset) (count - offset) ≡ whole → map tree_of new ++ fresh_from (first + (offset + 1)) (count - (offset + 1)) ≡ whole
fresh_added first offset count old new x whole inside is added so_far =
    let left : count - offset ≡ suc (count - (offset + 1)) = omega arith in
    let next : first + (offset + 1) ≡ first + offset + 1 = omega arith in
    pushed old new x _ added
    ∙ (ap (λ (t : Tree). map tree_of old ++ t ∷ fresh_from (first + (offset + 1)) (count - (offset + 1))) is
    ∙ (ap (λ (ts : List Tree). map tree_of old ++ ts) (sym (fresh_more (first + offset) (first + (offset + 1)) (count - offset) (count - (offset + 1)) left next)) ∙ so_far))

pub fresh_first : (first count : ℕ) (old : List Template) → map tree_of old ++ fresh_from (first + 0) (count - 0) ≡ map tree_of old ++ fresh_from first count
fresh_first first count old =
    let a : first + 0 ≡ first = omega arith in
    let b : count - 0 ≡ count = omega arith in
    ap (λ (n : ℕ). map tree_of old ++ fresh_from n (count - 0)) a ∙ ap (λ (n : ℕ). map tree_of old ++ fresh_from first n) b

pub fresh_ended : (first offset count : ℕ) (new : List Template) (whole : List Tree) → count ≤ offset → map tree_of new ++ fresh_from (first + offset) (count - offset) ≡ whole → map tree_of new ≡ whole
fresh_ended first offset count new whole past so_far =
    let none : count - offset ≡ zero = omega arith in
    sym (append-nil (map tree_of new)) ∙ (ap (λ (n : ℕ). map tree_of new ++ fresh_from (first + offset) n) (sym none) ∙ so_far)

pub mapped_reverse : (xs : List Template) → map tree_of (reverse xs) ≡ reverse (map tree_of xs)
mapped_reverse [] = refl
mapped_reverse (x ∷ xs) =
    ap (map tree_of) (reverse-append (x ∷ []) xs)
    ∙ (map-append tree_of (reverse xs) (x ∷ [])
    ∙ (ap (λ (ts : List Tree). ts ++ tree_of x ∷ []) (mapped_reverse xs) ∙ sym (reverse-append (tree_of x ∷ []) (map tree_of xs))))

-- a row of clause forms, the last first, and one more form
pub around_made : (xs rev new : List Template) (k : Template) (ts : List Tree) (t : Tree) → map tree_of xs ≡ ts → rev ≡ reverse xs → new ≡ rev ++ k ∷ [] → tree_of k ≡ t → map tree_of new ≡ reverse ts ++ t ∷ []
around_made xs rev new k ts t made turned added is =
    ap (map tree_of) added
    ∙ (map-append tree_of rev (k ∷ [])
    ∙ (ap (λ (x : Tree). map tree_of rev ++ x ∷ []) is
    ∙ ap (λ (l : List Tree). l ++ t ∷ []) (ap (map tree_of) turned ∙ (mapped_reverse xs ∙ ap reverse made))))
