-- A last clause for all that is left.
use Rattle.std.proofs.Common.{◌≡◌, ◌<◌, ◌≤◌, ◌+◌, ◌-◌, ℕ, Bool, true, false, List, [], ◌∷◌, ◌++◌, length, map, take, drop, get_or, if◌then◌else◌, refl, sym, ap, ◌∙◌, arith}
use Rattle.std.proofs.lemmas.List.{map-append, take_all, take_more, drop_more}
use Rattle.lisp_forms.specs.declared.template.Template.{Template}
use Rattle.lisp_forms.specs.Trees.{Tree, tree_of}
use Rattle.std_macros.proofs.Added.{pushed}
use Rattle.std_macros.specs.declared.cases.Clause as rust
use Rattle.std_macros.specs.declared.words.Word.TheVariants as w
use Rattle.std_macros.specs.Rules.{nil_form, call}
use Rattle.std_macros.specs.Cases.{Clause, clause_of, is_default, before_default}

abbrev after_one : Clause → List Clause × Tree → List Clause × Tree
after_one d r = (d ∷ r.0, r.1)

shared : (b : Bool) (d : Clause) (x y : List Clause × Tree) → after_one d (if b then x else y) ≡ if b then after_one d x else after_one d y
shared true d x y = refl
shared false d x y = refl

split_last : (front : List Clause) (c : Clause) → before_default (front ++ c ∷ []) ≡ if is_default c.head then (front, call w.Progn c.body) else (front ++ c ∷ [], nil_form)
split_last [] c = refl
split_last (d ∷ []) c = shared (is_default c.head) d ([], call w.Progn c.body) (c ∷ [], nil_form)
split_last (d ∷ e ∷ es) c = ap (after_one d) (split_last (e ∷ es) c) ∙ shared (is_default c.head) d (e ∷ es, call w.Progn c.body) (e ∷ es ++ c ∷ [], nil_form)

module _ (whole front : List rust.Clause) (last : rust.Clause) (is : whole ≡ front ++ last ∷ []) where
  split_whole : before_default (map clause_of whole) ≡ if is_default last.head then (map clause_of front, call w.Progn last.body.items) else (map clause_of whole, nil_form)
  split_whole =
      let mapped : map clause_of whole ≡ map clause_of front ++ clause_of last ∷ [] = ap (map clause_of) is ∙ map-append clause_of front (last ∷ []) in
      ap before_default mapped ∙ (split_last (map clause_of front) (clause_of last)
      ∙ ap (λ (cs : List Clause). if is_default last.head then (map clause_of front, call w.Progn last.body.items) else (cs, nil_form)) (sym mapped))

  pub last_default : is_default last.head ≡ true → before_default (map clause_of whole) ≡ (map clause_of front, call w.Progn last.body.items)
  last_default h = split_whole ∙ ap (λ (b : Bool). if b then (map clause_of front, call w.Progn last.body.items) else (map clause_of whole, nil_form)) h

  pub last_ordinary : is_default last.head ≡ false → before_default (map clause_of whole) ≡ (map clause_of whole, nil_form)
  last_ordinary h = split_whole ∙ ap (λ (b : Bool). if b then (map clause_of front, call w.Progn last.body.items) else (map clause_of whole, nil_form)) h

-- one more form of a clause
pub form_added : (f : Clause → Tree) (cs : List rust.Clause) (i : ℕ) (item : rust.Clause) (old new : List Template) (x : Template) (whole : List Tree) → i < length cs → item ≡ get_or cs i item → tree_of x ≡ f (clause_of item) → new ≡ old ++ x ∷ [] → map tree_of old ++ map f (map clause_of (drop i cs)) ≡ whole → map tree_of new ++ map f (map clause_of (drop (i + 1) cs)) ≡ whole
form_added f cs i item old new x whole inside is made added so_far =
    let split : drop i cs ≡ item ∷ drop (i + 1) cs = drop_more cs i item inside ∙ ap (λ (c : rust.Clause). c ∷ drop (i + 1) cs) (sym is) in
    pushed old new x _ added
    ∙ (ap (λ (t : Tree). map tree_of old ++ t ∷ map f (map clause_of (drop (i + 1) cs))) made
    ∙ (ap (λ (ds : List rust.Clause). map tree_of old ++ map f (map clause_of ds)) (sym split) ∙ so_far))

-- a list of clauses is all but the last, and the last
pub ends_with : (cs : List rust.Clause) (last : rust.Clause) → 1 ≤ length cs → last ≡ get_or cs (length cs - 1) last → cs ≡ take (length cs - 1) cs ++ last ∷ []
ends_with cs last some is =
    let next : length cs ≡ length cs - 1 + 1 = omega arith in
    sym (take_all (length cs) cs (omega arith))
    ∙ (ap (λ (n : ℕ). take n cs) next
    ∙ (take_more cs (length cs - 1) last (omega arith) ∙ ap (λ (c : rust.Clause). take (length cs - 1) cs ++ c ∷ []) (sym is)))
