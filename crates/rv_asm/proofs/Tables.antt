-- A mark more, in the list and in the map.
use Rattle.std.proofs.Common.{ℕ, ◌≡◌, ◌≤◌, ◌^◌, List, [], ◌∷◌, ◌++◌, Option, Some, None, IfSome, false, cond, eqb, refl, rules, arith, All, sym, ◌∙◌, ap, ⊎_elim, is_some}
use Rattle.std.proofs.lemmas.Bool.{cases_eq}
use Rattle.std.proofs.lemmas.Bool.Decides.{nat_tests}
use Rattle.std.proofs.lemmas.Grind.{common_steps}
use Rattle.std.proofs.lemmas.List.Elements.{All-head, All-tail, All-push}
use Rattle.std.specs.Ordering.{nat_cmp, is_eq}
use Rattle.std.specs.BTreeMap.{get, BTreeMap}
use Rattle.rv_asm.specs.declared.assembled.Mark.{Mark}
use Rattle.rv_asm.specs.Places.{mark, place_in}
use Rattle.rv_asm.specs.Table.{Agrees}

is_eq-nat_cmp : (k q : ℕ) → is_eq (nat_cmp k q) ≡ eqb k q
is_eq-nat_cmp k q = grind (arith, common_steps, nat_tests)

place_in-here : (m : Mark) (ms : List Mark) (l : ℕ) → m.id ≡ l → place_in (m ∷ ms) l ≡ Some m.at
place_in-here m ms l e = grind (arith, nat_tests)

place_in-there : (m : Mark) (ms : List Mark) (l : ℕ) → (m.id ≡ l → ⊥) → place_in (m ∷ ms) l ≡ place_in ms l
place_in-there m ms l ne = grind (arith, nat_tests)

place_in-push : (marks : List Mark) (l at q : ℕ) → place_in marks l ≡ None → place_in (marks ++ mark l at ∷ []) q ≡ cond (eqb l q) (Some at) (place_in marks q)
place_in-push [] l at q absent = refl
place_in-push (m ∷ ms) l at q absent =
    ⊎_elim (λ (e : m.id ≡ l). let here : Some m.at ≡ None = sym (place_in-here m ms l e) ∙ absent in cc)
    (λ (ne : m.id ≡ l → ⊥).
    let rest : place_in (ms ++ mark l at ∷ []) q ≡ cond (eqb l q) (Some at) (place_in ms q) = place_in-push ms l at q (sym (place_in-there m ms l ne) ∙ absent) in
    ⊎_elim (λ (same : m.id ≡ q). grind (arith, nat_tests))
    (λ (other : m.id ≡ q → ⊥). place_in-there m (ms ++ mark l at ∷ []) q other ∙ rest ∙ ap (λ p. cond (eqb l q) (Some at) p) (sym (place_in-there m ms q other)))
    (cases_eq m.id q))
    (cases_eq m.id l)

pub IfSome-place_in : (marks : List Mark) (l : ℕ) → All (λ m. m.at ≤ 2 ^ 30) marks → IfSome (place_in marks l) (λ at. at ≤ 2 ^ 30)
IfSome-place_in [] l short = search rules
IfSome-place_in (m ∷ ms) l short =
    ⊎_elim (λ (e : m.id ≡ l). let h : m.at ≤ 2 ^ 30 = All-head (λ (x : Mark). x.at ≤ 2 ^ 30) m ms short in rw (place_in-here m ms l e) h)
    (λ (ne : m.id ≡ l → ⊥). rw (place_in-there m ms l ne) (IfSome-place_in ms l (All-tail (λ (x : Mark). x.at ≤ 2 ^ 30) m ms short)))
    (cases_eq m.id l)

pub Agrees-push : (marks : List Mark) (m n : BTreeMap ℕ ℕ) (l at : ℕ) → Agrees marks m → place_in marks l ≡ None → at ≤ 2 ^ 30 → ((q : ℕ) → get nat_cmp n q ≡ cond (is_eq (nat_cmp l q)) (Some at) (get nat_cmp m q)) → Agrees (marks ++ mark l at ∷ []) n
Agrees-push marks m n l at agrees absent short changed = record {
  same = λ q. changed q ∙ ap (λ b. cond b (Some at) (get nat_cmp m q)) (is_eq-nat_cmp l q) ∙ ap (λ p. cond (eqb l q) (Some at) p) (agrees.same q) ∙ sym (place_in-push marks l at q absent);
  short = All-push (λ (x : Mark). x.at ≤ 2 ^ 30) marks (mark l at) agrees.short short;
}

pub None-from_is_some : (o : Option ℕ) → is_some o ≡ false → o ≡ None
None-from_is_some None e = refl
None-from_is_some (Some x) e = cc
