-- Two walks that make one set: what holds at each border.
use Rattle.std.proofs.Common.{◌≡◌, ◌≢◌, ◌⊎◌, inl, inr, ℤ, Bool, true, false, not, cond, int_lt, List, [], ◌∷◌, ◌++◌, Some, None, refl, sym, ap, ◌∙◌, subst, append_assoc}
use Rattle.std.proofs.lemmas.List.{append-nil}
use Rattle.std.specs.List.{list_all}
use Rattle.std.specs.Bool.{beq}
use Rattle.std.proofs.lemmas.List.Folds.{list_all-append}
use Rattle.std.proofs.lemmas.Bool.{and_parts, and_from, true≢false, false≢true}
use Rattle.type_lattice.specs.declared.walk.Combination.{Combination}
use Rattle.type_lattice.specs.Borders.{is_within, is_before, is_rising}
use Rattle.type_lattice.specs.Walks.{next_border, inside_from, left_from, combined}
use Rattle.type_lattice.proofs.Rising.{rising_first, rising_longer, rising_rest}
use Rattle.type_lattice.proofs.Passing.{Next, next_is, before_left, rising_left, rising_behind, all_left, within_before, passes}

-- the borders that were found, and then what is known of the rest
abbrev pub is_within_then : Bool → List ℤ → Bool → ℤ → Bool
is_within_then below [] rest z = rest
is_within_then below (b ∷ bs) rest z = cond (int_lt z b) below (is_within_then (not below) bs rest z)

-- whether the numbers above all of these borders are in
abbrev pub inside_after : Bool → List ℤ → Bool
inside_after below [] = below
inside_after below (b ∷ bs) = inside_after (not below) bs

pub then_push : (below : Bool) (out : List ℤ) (c : ℤ) (rest : Bool) (z : ℤ) →
    is_within_then below (out ++ c ∷ []) rest z ≡ is_within_then below out (cond (int_lt z c) (inside_after below out) rest) z
then_push below [] c rest z = refl
then_push below (b ∷ bs) c rest z = ap (λ (x : Bool). cond (int_lt z b) below x) (then_push (not below) bs c rest z)

pub then_all : (below : Bool) (out : List ℤ) (z : ℤ) → is_within_then below out (inside_after below out) z ≡ is_within below out z
then_all below [] z = refl
then_all below (b ∷ bs) z = ap (λ (x : Bool). cond (int_lt z b) below x) (then_all (not below) bs z)

pub after_push : (below : Bool) (out : List ℤ) (c : ℤ) → inside_after below (out ++ c ∷ []) ≡ not (inside_after below out)
after_push below [] c = refl
after_push below (b ∷ bs) c = after_push (not below) bs c

-- a walk: the side it is on, and the borders left
pub record Merges (how : Combination) (a : Bool) (us : List ℤ) (b : Bool) (bs : List ℤ) (below inside : Bool) (out : List ℤ) (p : Bool) (ps : List ℤ) (q : Bool) (qs : List ℤ) : Type 0 where
  pub set : (z : ℤ) → combined how (is_within a us z) (is_within b bs z) ≡ is_within_then below out (combined how (is_within p ps z) (is_within q qs z)) z
  pub here : inside ≡ combined how p q
  pub turned : inside ≡ inside_after below out
  pub rising_a : is_rising (out ++ ps) ≡ true
  pub rising_b : is_rising (out ++ qs) ≡ true
  pub tests : (t : ℤ → Bool) → list_all t us ≡ true → list_all t bs ≡ true → (list_all t out ≡ true) × (list_all t ps ≡ true) × (list_all t qs ≡ true)

pub begins : (how : Combination) (a : Bool) (us : List ℤ) (b : Bool) (bs : List ℤ) (below : Bool) → below ≡ combined how a b →
    is_rising us ≡ true → is_rising bs ≡ true → Merges how a us b bs below below [] a us b bs
begins how a us b bs below e r s =
    record { set = λ z. refl; here = e; turned = refl; rising_a = r; rising_b = s; tests = λ t u v. (refl, u, v) }

-- both walks, told from the next border
pub both_pass : (how : Combination) (p : Bool) (ps : List ℤ) (q : Bool) (qs : List ℤ) (c z : ℤ) → Next c ps qs →
    combined how (is_within p ps z) (is_within q qs z) ≡
    cond (int_lt z c) (combined how p q) (combined how (is_within (inside_from p ps c) (left_from ps c) z) (is_within (inside_from q qs c) (left_from qs c) z))
both_pass how p ps q qs c z n =
    ap (λ (x : Bool). combined how x (is_within q qs z)) (passes p ps c z n.first) ∙
    ap (λ (x : Bool). combined how (cond (int_lt z c) p (is_within (inside_from p ps c) (left_from ps c) z)) x) (passes q qs c z n.second) ∙
    spread (int_lt z c)
  where
    spread : (t : Bool) → combined how (cond t p (is_within (inside_from p ps c) (left_from ps c) z)) (cond t q (is_within (inside_from q qs c) (left_from qs c) z)) ≡
        cond t (combined how p q) (combined how (is_within (inside_from p ps c) (left_from ps c) z) (is_within (inside_from q qs c) (left_from qs c) z))
    spread true = refl
    spread false = refl

-- no border: the combined set stays on its side
pub stays : (how : Combination) (a : Bool) (us : List ℤ) (b : Bool) (bs : List ℤ) (below inside : Bool) (out : List ℤ) (p : Bool) (ps : List ℤ) (q : Bool) (qs : List ℤ) (c : ℤ) →
    Merges how a us b bs below inside out p ps q qs → next_border ps qs ≡ Some c →
    combined how (inside_from p ps c) (inside_from q qs c) ≡ inside →
    Merges how a us b bs below inside out (inside_from p ps c) (left_from ps c) (inside_from q qs c) (left_from qs c)
stays how a us b bs below inside out p ps q qs c m e k = record {
  set = λ z. m.set z ∙ ap (λ (x : Bool). is_within_then below out x z) (both_pass how p ps q qs c z n ∙ same z (int_lt z c) refl);
  here = sym k;
  turned = m.turned;
  rising_a = rising_behind out ps c m.rising_a;
  rising_b = rising_behind out qs c m.rising_b;
  tests = λ t u v. let w = m.tests t u v in (w.0, all_left t ps c w.1, all_left t qs c w.2);
}
  where
    n : Next c ps qs
    n = next_is ps qs c e

    same : (z : ℤ) (t : Bool) → int_lt z c ≡ t →
        cond t (combined how p q) (combined how (is_within (inside_from p ps c) (left_from ps c) z) (is_within (inside_from q qs c) (left_from qs c) z)) ≡
        combined how (is_within (inside_from p ps c) (left_from ps c) z) (is_within (inside_from q qs c) (left_from qs c) z)
    same z true h =
        sym (
        ap (λ (x : Bool). combined how x (is_within (inside_from q qs c) (left_from qs c) z)) (within_before (inside_from p ps c) (left_from ps c) c z (before_left ps c n.first (rising_rest out ps m.rising_a)) h) ∙
        ap (λ (x : Bool). combined how (inside_from p ps c) x) (within_before (inside_from q qs c) (left_from qs c) c z (before_left qs c n.second (rising_rest out qs m.rising_b)) h) ∙
        k ∙ m.here)
    same z false h = refl

first_of_source : (out ps qs : List ℤ) (c : ℤ) → (ps ≡ c ∷ left_from ps c) ⊎ (qs ≡ c ∷ left_from qs c) → is_rising (out ++ ps) ≡ true → is_rising (out ++ qs) ≡ true → is_rising (out ++ c ∷ []) ≡ true
first_of_source out ps qs c s r t =
    elim s [
      | inl e ↦ rising_first out c (left_from ps c) (subst (λ (x : List ℤ). is_rising (out ++ x) ≡ true) e r)
      | inr e ↦ rising_first out c (left_from qs c) (subst (λ (x : List ℤ). is_rising (out ++ x) ≡ true) e t)
    ]

pub passes_test : (t : ℤ → Bool) (ps qs : List ℤ) (c : ℤ) → (ps ≡ c ∷ left_from ps c) ⊎ (qs ≡ c ∷ left_from qs c) → list_all t ps ≡ true → list_all t qs ≡ true → t c ≡ true
passes_test t ps qs c s u v =
    elim s [
      | inl e ↦ (and_parts (t c) (list_all t (left_from ps c)) (subst (λ (x : List ℤ). list_all t x ≡ true) e u)).0
      | inr e ↦ (and_parts (t c) (list_all t (left_from qs c)) (subst (λ (x : List ℤ). list_all t x ≡ true) e v)).0
    ]

-- a border: the combined set changes sides
pub turns : (how : Combination) (a : Bool) (us : List ℤ) (b : Bool) (bs : List ℤ) (below inside : Bool) (out : List ℤ) (p : Bool) (ps : List ℤ) (q : Bool) (qs : List ℤ) (c : ℤ) →
    Merges how a us b bs below inside out p ps q qs → next_border ps qs ≡ Some c →
    combined how (inside_from p ps c) (inside_from q qs c) ≡ not inside →
    Merges how a us b bs below (combined how (inside_from p ps c) (inside_from q qs c)) (out ++ c ∷ []) (inside_from p ps c) (left_from ps c) (inside_from q qs c) (left_from qs c)
turns how a us b bs below inside out p ps q qs c m e k = record {
  set = λ z. m.set z ∙ ap (λ (x : Bool). is_within_then below out x z) (both_pass how p ps q qs c z n ∙ ap (λ (x : Bool). cond (int_lt z c) x (rest z)) (sym m.here ∙ m.turned)) ∙ sym (then_push below out c (rest z) z);
  here = refl;
  turned = k ∙ ap not m.turned ∙ sym (after_push below out c);
  rising_a = grows ps (before_left ps c n.first (rising_rest out ps m.rising_a)) (rising_left ps c (rising_rest out ps m.rising_a));
  rising_b = grows qs (before_left qs c n.second (rising_rest out qs m.rising_b)) (rising_left qs c (rising_rest out qs m.rising_b));
  tests = λ t u v. let w = m.tests t u v in (list_all-append t out (c ∷ []) ∙ and_from _ _ w.0 (and_from _ _ (passes_test t ps qs c n.source w.1 w.2) refl), all_left t ps c w.1, all_left t qs c w.2);
}
  where
    n : Next c ps qs
    n = next_is ps qs c e

    rest : ℤ → Bool
    rest z = combined how (is_within (inside_from p ps c) (left_from ps c) z) (is_within (inside_from q qs c) (left_from qs c) z)

    grows : (xs : List ℤ) → is_before c (left_from xs c) ≡ true → is_rising (left_from xs c) ≡ true → is_rising ((out ++ c ∷ []) ++ left_from xs c) ≡ true
    grows xs f r =
        subst (λ (x : List ℤ). is_rising x ≡ true) (sym (append_assoc out (c ∷ []) (left_from xs c)))
        (rising_longer out c (left_from xs c) (first_of_source out ps qs c n.source m.rising_a m.rising_b) f r)

-- at the end of both walks the set is the combined one
pub record Made (how : Combination) (a : Bool) (us : List ℤ) (b : Bool) (bs : List ℤ) (below : Bool) (out : List ℤ) : Type 0 where
  pub set : (z : ℤ) → is_within below out z ≡ combined how (is_within a us z) (is_within b bs z)
  pub rising : is_rising out ≡ true
  pub tests : (t : ℤ → Bool) → list_all t us ≡ true → list_all t bs ≡ true → list_all t out ≡ true

pub no_next : (ps qs : List ℤ) → next_border ps qs ≡ None → (ps ≡ []) × (qs ≡ [])
no_next [] [] e = (refl, refl)
no_next [] (c ∷ cs) e = cc
no_next (b ∷ bs) [] e = cc
no_next (b ∷ bs) (c ∷ cs) e = cc

rising_alone : (out ps : List ℤ) → is_rising (out ++ ps) ≡ true → ps ≡ [] → is_rising out ≡ true
rising_alone out ps r e = subst (λ (x : List ℤ). is_rising x ≡ true) (append-nil out) (subst (λ (x : List ℤ). is_rising (out ++ x) ≡ true) e r)

pub made : (how : Combination) (a : Bool) (us : List ℤ) (b : Bool) (bs : List ℤ) (below inside : Bool) (out : List ℤ) (p : Bool) (ps : List ℤ) (q : Bool) (qs : List ℤ) →
    Merges how a us b bs below inside out p ps q qs → next_border ps qs ≡ None → Made how a us b bs below out
made how a us b bs below inside out p ps q qs m e = record {
  set = λ z. sym (m.set z ∙ ap (λ (x : Bool). is_within_then below out x z) (last z (no_next ps qs e)) ∙ then_all below out z);
  rising = rising_alone out ps m.rising_a (no_next ps qs e).0;
  tests = λ t u v. (m.tests t u v).0;
}
  where
    last : (z : ℤ) → (ps ≡ []) × (qs ≡ []) → combined how (is_within p ps z) (is_within q qs z) ≡ inside_after below out
    last z h =
        ap (λ (x : List ℤ). combined how (is_within p x z) (is_within q qs z)) h.0 ∙
        ap (λ (x : List ℤ). combined how p (is_within q x z)) h.1 ∙ sym m.here ∙ m.turned

-- the same with names for what each step made
pub stays_by : (how : Combination) (a : Bool) (us : List ℤ) (b : Bool) (bs : List ℤ) (below inside : Bool) (out : List ℤ) (p : Bool) (ps : List ℤ) (q : Bool) (qs : List ℤ) (c : ℤ) (p' : Bool) (ps' : List ℤ) (q' : Bool) (qs' : List ℤ) (after : Bool) →
    Merges how a us b bs below inside out p ps q qs → next_border ps qs ≡ Some c →
    p' ≡ inside_from p ps c → ps' ≡ left_from ps c → q' ≡ inside_from q qs c → qs' ≡ left_from qs c →
    after ≡ combined how p' q' → after ≡ inside →
    Merges how a us b bs below inside out p' ps' q' qs'
stays_by how a us b bs below inside out p ps q qs c p' ps' q' qs' after m e ep es eq et f k =
    subst (λ (x : Bool). Merges how a us b bs below inside out x ps' q' qs') (sym ep)
    (subst (λ (x : List ℤ). Merges how a us b bs below inside out (inside_from p ps c) x q' qs') (sym es)
    (subst (λ (x : Bool). Merges how a us b bs below inside out (inside_from p ps c) (left_from ps c) x qs') (sym eq)
    (subst (λ (x : List ℤ). Merges how a us b bs below inside out (inside_from p ps c) (left_from ps c) (inside_from q qs c) x) (sym et)
    (stays how a us b bs below inside out p ps q qs c m e (ap (λ (x : Bool). combined how x (inside_from q qs c)) (sym ep) ∙ ap (λ (x : Bool). combined how p' x) (sym eq) ∙ sym f ∙ k)))))

other_side : (x y : Bool) → x ≢ y → x ≡ not y
other_side true true h = absurd (h refl)
other_side true false h = refl
other_side false true h = refl
other_side false false h = absurd (h refl)

pub turns_by : (how : Combination) (a : Bool) (us : List ℤ) (b : Bool) (bs : List ℤ) (below inside : Bool) (out : List ℤ) (p : Bool) (ps : List ℤ) (q : Bool) (qs : List ℤ) (c : ℤ) (p' : Bool) (ps' : List ℤ) (q' : Bool) (qs' : List ℤ) (after : Bool) (out' : List ℤ) →
    Merges how a us b bs below inside out p ps q qs → next_border ps qs ≡ Some c →
    p' ≡ inside_from p ps c → ps' ≡ left_from ps c → q' ≡ inside_from q qs c → qs' ≡ left_from qs c →
    after ≡ combined how p' q' → after ≢ inside → out' ≡ out ++ c ∷ [] →
    Merges how a us b bs below after out' p' ps' q' qs'
turns_by how a us b bs below inside out p ps q qs c p' ps' q' qs' after out' m e ep es eq et f k o =
    let g : after ≡ combined how (inside_from p ps c) (inside_from q qs c) = f ∙ ap (λ (x : Bool). combined how x q') ep ∙ ap (λ (x : Bool). combined how (inside_from p ps c) x) eq in
    subst (λ (x : Bool). Merges how a us b bs below x out' p' ps' q' qs') (sym g)
    (subst (λ (x : List ℤ). Merges how a us b bs below (combined how (inside_from p ps c) (inside_from q qs c)) x p' ps' q' qs') (sym o)
    (subst (λ (x : Bool). Merges how a us b bs below (combined how (inside_from p ps c) (inside_from q qs c)) (out ++ c ∷ []) x ps' q' qs') (sym ep)
    (subst (λ (x : List ℤ). Merges how a us b bs below (combined how (inside_from p ps c) (inside_from q qs c)) (out ++ c ∷ []) (inside_from p ps c) x q' qs') (sym es)
    (subst (λ (x : Bool). Merges how a us b bs below (combined how (inside_from p ps c) (inside_from q qs c)) (out ++ c ∷ []) (inside_from p ps c) (left_from ps c) x qs') (sym eq)
    (subst (λ (x : List ℤ). Merges how a us b bs below (combined how (inside_from p ps c) (inside_from q qs c)) (out ++ c ∷ []) (inside_from p ps c) (left_from ps c) (inside_from q qs c) x) (sym et)
    (turns how a us b bs below inside out p ps q qs c m e (sym g ∙ other_side after inside k)))))))

pub same_side : (x y : Bool) → not (beq x y) ≡ false → x ≡ y
same_side true true h = refl
same_side true false h = cc
same_side false true h = cc
same_side false false h = refl

pub not_same_side : (x y : Bool) → not (beq x y) ≡ true → x ≢ y
not_same_side true true h = λ e. absurd (false≢true h)
not_same_side true false h = λ e. absurd (true≢false e)
not_same_side false true h = λ e. absurd (false≢true e)
not_same_side false false h = λ e. absurd (false≢true h)
