-- The elements of a list, found from the first on.
use Rattle.std.proofs.Common.{◌≡◌, ◌<◌, ◌≤◌, ◌+◌, ◌-◌, ℕ, zero, suc, Bool, true, false, List, [], ◌∷◌, ◌++◌, Option, Some, None, length, refl, sym, ap, ◌∙◌, arith, append_assoc, if◌then◌else◌}
use Rattle.std.proofs.lemmas.List.{append-nil, length-append}
use Rattle.std.specs.Option.{option_map, option_and_then}
use Rattle.lisp_base.specs.declared.values.Val.{Val}
use Rattle.lisp_base.specs.Tables.{Object}
use Rattle.lisp_forms.specs.Conses.{is_nil, cons_at, elements_within}

-- what is known when some conses are taken
pub record IsWalk (heap : List Object) (start : Val) (items : List Val) (rest : Val) : Type 0 where
  pub so_far : elements_within (length heap) heap start ≡ option_map (λ xs. items ++ xs) (elements_within (length heap - length items) heap rest)
  pub within : length items ≤ length heap

map_same : (o : Option (List Val)) → o ≡ option_map (λ xs. [] ++ xs) o
map_same None = refl
map_same (Some xs) = refl

pub walk_first : (heap : List Object) (start : Val) → IsWalk heap start [] start
walk_first heap start =
    let whole : length heap ≡ length heap - 0 = omega arith in
    record {
      so_far = map_same _ ∙ ap (λ (n : ℕ). option_map (λ xs. [] ++ xs) (elements_within n heap start)) whole;
      within = omega arith;
    }

map_on : (items new : List Val) (x : Val) (o : Option (List Val)) → new ≡ items ++ x ∷ [] → option_map (λ xs. items ++ xs) (option_map (λ xs. x ∷ xs) o) ≡ option_map (λ xs. new ++ xs) o
map_on items new x None is = refl
map_on items new x (Some xs) is = ap Some (sym (append_assoc items (x ∷ []) xs) ∙ ap (λ (l : List Val). l ++ xs) (sym is))

pub at_nil : (n : ℕ) (heap : List Object) (v : Val) → is_nil v ≡ true → elements_within n heap v ≡ Some []
at_nil zero heap v e = ap (λ (b : Bool). if b then Some [] else None) e
at_nil (suc n) heap v e = ap (λ (b : Bool). if b then Some [] else option_and_then (λ p. option_map (λ xs. p.0 ∷ xs) (elements_within n heap p.1)) (cons_at heap v)) e

at_end : (heap : List Object) (v : Val) → is_nil v ≡ false → elements_within zero heap v ≡ None
at_end heap v e = ap (λ (b : Bool). if b then Some [] else None) e

pub at_more : (n : ℕ) (heap : List Object) (v : Val) (found : Option (Val × Val)) → is_nil v ≡ false → cons_at heap v ≡ found → elements_within (suc n) heap v ≡ option_and_then (λ p. option_map (λ xs. p.0 ∷ xs) (elements_within n heap p.1)) found
at_more n heap v found e is =
    ap (λ (b : Bool). if b then Some [] else option_and_then (λ p. option_map (λ xs. p.0 ∷ xs) (elements_within n heap p.1)) (cons_at heap v)) e
    ∙ ap (option_and_then (λ p. option_map (λ xs. p.0 ∷ xs) (elements_within n heap p.1))) is

at_other : (n : ℕ) (heap : List Object) (v : Val) → is_nil v ≡ false → cons_at heap v ≡ None → elements_within n heap v ≡ None
at_other zero heap v e is = at_end heap v e
at_other (suc n) heap v e is = at_more n heap v None e is

pub walk_more : (heap : List Object) (start : Val) (items : List Val) (rest first others : Val) (new : List Val) → IsWalk heap start items rest → is_nil rest ≡ false → cons_at heap rest ≡ Some (first, others) → length items < length heap → new ≡ items ++ first ∷ [] → IsWalk heap start new others
walk_more heap start items rest first others new walk e is room added =
    let longer : length new ≡ length items + 1 = ap length added ∙ simp length-append in
    let left : length heap - length items ≡ suc (length heap - length new) = omega arith in
    record {
      so_far = walk.so_far ∙ (ap (λ (n : ℕ). option_map (λ xs. items ++ xs) (elements_within n heap rest)) left
          ∙ (ap (option_map (λ xs. items ++ xs)) (at_more (length heap - length new) heap rest (Some (first, others)) e is)
          ∙ map_on items new first (elements_within (length heap - length new) heap others) added));
      within = omega arith;
    }

pub walk_ends : (heap : List Object) (start : Val) (items : List Val) (rest : Val) → IsWalk heap start items rest → is_nil rest ≡ true → Some items ≡ elements_within (length heap) heap start
walk_ends heap start items rest walk e =
    ap Some (sym (append-nil items)) ∙ sym (walk.so_far ∙ ap (option_map (λ xs. items ++ xs)) (at_nil (length heap - length items) heap rest e))

pub walk_stops : (heap : List Object) (start : Val) (items : List Val) (rest : Val) → IsWalk heap start items rest → is_nil rest ≡ false → cons_at heap rest ≡ None → None ≡ elements_within (length heap) heap start
walk_stops heap start items rest walk e is =
    sym (walk.so_far ∙ ap (option_map (λ xs. items ++ xs)) (at_other (length heap - length items) heap rest e is))

pub walk_turns : (heap : List Object) (start : Val) (items : List Val) (rest : Val) → IsWalk heap start items rest → is_nil rest ≡ false → length heap ≤ length items → None ≡ elements_within (length heap) heap start
walk_turns heap start items rest walk e full =
    let none : length heap - length items ≡ zero = omega arith in
    sym (walk.so_far ∙ ap (option_map (λ xs. items ++ xs)) (ap (λ (n : ℕ). elements_within n heap rest) none ∙ at_end heap rest e))
