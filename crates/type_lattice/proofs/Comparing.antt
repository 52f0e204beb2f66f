-- Two walks that compare two sets: what holds at each border.
use Rattle.std.proofs.Common.{◌≡◌, ℤ, Bool, true, false, not, ◌&&◌, int_lt, int_le, List, ◌∷◌, Some, None, refl, sym, ap, ◌∙◌, subst, ◌⊎◌, inl, inr}
use Rattle.std.specs.List.{list_all}
use Rattle.std.proofs.lemmas.Bool.{cond-true, cond-false, and_from, true≢false, false≢true}
use Rattle.type_lattice.specs.Borders.{is_within, is_before, is_rising}
use Rattle.type_lattice.specs.Walks.{next_border, inside_from, left_from, Escapes, at_once, at_border}
use Rattle.type_lattice.proofs.Order.{le_refl, not_below, le_trans_lt}
use Rattle.type_lattice.proofs.Passing.{Next, next_is, is_from, before_left, rising_left, all_left, within_at, passes}
use Rattle.type_lattice.proofs.Merging.{no_next, passes_test}

abbrev pub Implies : Bool → List ℤ → Bool → List ℤ → Type 0
Implies p ps q qs = (z : ℤ) → is_within p ps z ≡ true → is_within q qs z ≡ true

pub record Compares (a : Bool) (us : List ℤ) (b : Bool) (vs : List ℤ) (p : Bool) (ps : List ℤ) (q : Bool) (qs : List ℤ) : Type 0 where
  pub rising_a : is_rising ps ≡ true
  pub rising_b : is_rising qs ≡ true
  pub here : p ≡ true → q ≡ true
  pub carries : Implies p ps q qs → Implies a us b vs
  pub beyond : (c z : ℤ) → next_border ps qs ≡ Some c → int_le c z ≡ true → (is_within a us z ≡ is_within p ps z) × (is_within b vs z ≡ is_within q qs z)
  pub tests : (t : ℤ → Bool) → list_all t us ≡ true → list_all t vs ≡ true → (list_all t ps ≡ true) × (list_all t qs ≡ true)

-- in the first and not in the second
pub not_out : (p q : Bool) → (p && not q) ≡ false → p ≡ true → q ≡ true
not_out true true h e = refl
not_out true false h e = absurd (true≢false h)
not_out false q h e = absurd (false≢true e)

pub is_out : (p q : Bool) → (p && not q) ≡ true → (p ≡ true) × (q ≡ false)
is_out true true h = absurd (false≢true h)
is_out true false h = (refl, refl)
is_out false q h = absurd (false≢true h)

pub compares : (a : Bool) (us : List ℤ) (b : Bool) (vs : List ℤ) → is_rising us ≡ true → is_rising vs ≡ true → (a ≡ true → b ≡ true) → Compares a us b vs a us b vs
compares a us b vs r s h =
    record { rising_a = r; rising_b = s; here = h; carries = λ k. k; beyond = λ c z e k. (refl, refl); tests = λ t u v. (u, v) }

next_above : (ps qs : List ℤ) (c d : ℤ) → next_border ps qs ≡ Some d → is_before c ps ≡ true → is_before c qs ≡ true → int_lt c d ≡ true
next_above ps qs c d e f g = source (next_is ps qs d e).source f g
  where
    source : (s : (ps ≡ d ∷ left_from ps d) ⊎ (qs ≡ d ∷ left_from qs d)) → is_before c ps ≡ true → is_before c qs ≡ true → int_lt c d ≡ true
    source (inl h) f g = subst (λ (x : List ℤ). is_before c x ≡ true) h f
    source (inr h) f g = subst (λ (x : List ℤ). is_before c x ≡ true) h g

-- above a border that is reached
above : (p : Bool) (ps : List ℤ) (c z : ℤ) → int_le c z ≡ true → is_from c ps ≡ true → is_within p ps z ≡ is_within (inside_from p ps c) (left_from ps c) z
above p ps c z h f = passes p ps c z f ∙ cond-false (int_lt z c) _ _ (not_below c z h)

pub goes_on : (a : Bool) (us : List ℤ) (b : Bool) (vs : List ℤ) (p : Bool) (ps : List ℤ) (q : Bool) (qs : List ℤ) (c : ℤ) →
    Compares a us b vs p ps q qs → next_border ps qs ≡ Some c → (inside_from p ps c ≡ true → inside_from q qs c ≡ true) →
    Compares a us b vs (inside_from p ps c) (left_from ps c) (inside_from q qs c) (left_from qs c)
goes_on a us b vs p ps q qs c m e h = record {
  rising_a = rising_left ps c m.rising_a;
  rising_b = rising_left qs c m.rising_b;
  here = h;
  carries = λ k. m.carries (λ z w. by z w k (int_lt z c) refl);
  beyond = λ d z f k. later d z k (next_above (left_from ps c) (left_from qs c) c d f (before_left ps c n.first m.rising_a) (before_left qs c n.second m.rising_b));
  tests = λ t u v. let w = m.tests t u v in (all_left t ps c w.0, all_left t qs c w.1);
}
  where
    n : Next c ps qs
    n = next_is ps qs c e

    by : (z : ℤ) → is_within p ps z ≡ true → Implies (inside_from p ps c) (left_from ps c) (inside_from q qs c) (left_from qs c) → (t : Bool) → int_lt z c ≡ t → is_within q qs z ≡ true
    by z w k true f =
        passes q qs c z n.second ∙ cond-true (int_lt z c) _ _ f ∙
        m.here (sym (passes p ps c z n.first ∙ cond-true (int_lt z c) _ _ f) ∙ w)
    by z w k false f =
        passes q qs c z n.second ∙ cond-false (int_lt z c) _ _ f ∙
        k z (sym (passes p ps c z n.first ∙ cond-false (int_lt z c) _ _ f) ∙ w)

    later : (d z : ℤ) → int_le d z ≡ true → int_lt c d ≡ true →
        (is_within a us z ≡ is_within (inside_from p ps c) (left_from ps c) z) × (is_within b vs z ≡ is_within (inside_from q qs c) (left_from qs c) z)
    later d z k f =
        let g : int_le c z ≡ true = le_trans_lt c d z f k in
        let w = m.beyond c z e g in
        (w.0 ∙ above p ps c z g n.first, w.1 ∙ above q qs c z g n.second)

-- the walks differ from the border that they have reached on
pub escapes : (a : Bool) (us : List ℤ) (b : Bool) (vs : List ℤ) (p : Bool) (ps : List ℤ) (q : Bool) (qs : List ℤ) (c : ℤ) →
    Compares a us b vs p ps q qs → next_border ps qs ≡ Some c → (inside_from p ps c && not (inside_from q qs c)) ≡ true → Escapes a us b vs
escapes a us b vs p ps q qs c m e h =
    at_border c (λ t u v. let w = m.tests t u v in passes_test t ps qs c n.source w.0 w.1)
    (record {
      within = (m.beyond c c e (le_refl c)).0 ∙ above p ps c c (le_refl c) n.first ∙ within_at (inside_from p ps c) (left_from ps c) c (before_left ps c n.first m.rising_a) ∙ (is_out _ _ h).0;
      without = (m.beyond c c e (le_refl c)).1 ∙ above q qs c c (le_refl c) n.second ∙ within_at (inside_from q qs c) (left_from qs c) c (before_left qs c n.second m.rising_b) ∙ (is_out _ _ h).1;
    })
  where
    n : Next c ps qs
    n = next_is ps qs c e

pub escapes_at_once : (a : Bool) (us : List ℤ) (b : Bool) (vs : List ℤ) → (a && not b) ≡ true → Escapes a us b vs
escapes_at_once a us b vs h =
    at_once (λ z f g. record { within = within_at a us z f ∙ (is_out a b h).0; without = within_at b vs z g ∙ (is_out a b h).1 })

-- at the end of both walks
pub implied : (a : Bool) (us : List ℤ) (b : Bool) (vs : List ℤ) (p : Bool) (ps : List ℤ) (q : Bool) (qs : List ℤ) →
    Compares a us b vs p ps q qs → next_border ps qs ≡ None → Implies a us b vs
implied a us b vs p ps q qs m e =
    let k = no_next ps qs e in
    m.carries (λ z w. subst (λ (x : List ℤ). is_within q x z ≡ true) (sym k.1) (m.here (subst (λ (x : List ℤ). is_within p x z ≡ true) k.0 w)))

-- the same with names for what each step made
pub goes_on_by : (a : Bool) (us : List ℤ) (b : Bool) (vs : List ℤ) (p : Bool) (ps : List ℤ) (q : Bool) (qs : List ℤ) (c : ℤ) (p' : Bool) (ps' : List ℤ) (q' : Bool) (qs' : List ℤ) →
    Compares a us b vs p ps q qs → next_border ps qs ≡ Some c →
    p' ≡ inside_from p ps c → ps' ≡ left_from ps c → q' ≡ inside_from q qs c → qs' ≡ left_from qs c → (p' ≡ true → q' ≡ true) →
    Compares a us b vs p' ps' q' qs'
goes_on_by a us b vs p ps q qs c p' ps' q' qs' m e ep es eq et h =
    subst (λ (x : Bool). Compares a us b vs x ps' q' qs') (sym ep)
    (subst (λ (x : List ℤ). Compares a us b vs (inside_from p ps c) x q' qs') (sym es)
    (subst (λ (x : Bool). Compares a us b vs (inside_from p ps c) (left_from ps c) x qs') (sym eq)
    (subst (λ (x : List ℤ). Compares a us b vs (inside_from p ps c) (left_from ps c) (inside_from q qs c) x) (sym et)
    (goes_on a us b vs p ps q qs c m e (λ k. sym eq ∙ h (ep ∙ k))))))

pub out_by : (p q p' q' : Bool) → p' ≡ p → q' ≡ q → p' ≡ true → q' ≡ false → (p && not q) ≡ true
out_by p q p' q' e f h k = and_from p (not q) (sym e ∙ h) (ap not (sym f ∙ k))

pub in_by : (p' q' : Bool) → (p' ≡ false) ⊎ (q' ≡ true) → p' ≡ true → q' ≡ true
in_by p' q' (inl h) e = absurd (false≢true (sym h ∙ e))
in_by p' q' (inr h) e = h
