-- Maps of which entries are changed. (This project's own.)
use Rattle.std.proofs.Common.{◌≡◌, ◌≢◌, ◌⊎◌, ℕ, Bool, true, false, ◌==◌, List, [], if◌then◌else◌, Option, Some, None, option_map, refl, ap, ◌∙◌, sym, inl, inr, eq-eqb, ne_eqb}
use Rattle.std.proofs.lemmas.Bool.{cases_eq}
use Rattle.ir_ids.specs.Entries.{with_entry}
use Rattle.icr_graph.specs.Lists.{has_number, numbers_of, changed, touched}

-- there is something, of which this is so
abbrev pub There : {A : Type 0} → (A → Type 0) → Option A → Type 0
There {A} P o = (x : A) × (o ≡ Some x) × P x

-- what is there is not where nothing is
pub other_number : {A : Type 0} (m : ℕ → Option A) (at n : ℕ) (x : A) → m at ≡ None → m n ≡ Some x → n ≢ at
other_number m at n x vacant there same = absurd_of (sym vacant ∙ ap m (sym same) ∙ there)
  where
    absurd_of : None ≡ Some x → ⊥
    absurd_of e = cc

pub entry_now : {A : Type 0} (m : ℕ → Option A) (at : ℕ) (entry : Option A) → with_entry m at entry at ≡ entry
entry_now m at entry = rw (eq-eqb at at refl) refl

pub entry_other : {A : Type 0} (m : ℕ → Option A) (at n : ℕ) (entry : Option A) → n ≢ at → with_entry m at entry n ≡ m n
entry_other m at n entry other = rw (ne_eqb n at other) refl

pub changed_now : {A : Type 0} (f : A → A) (at : ℕ) (m : ℕ → Option A) → changed f at m at ≡ option_map f (m at)
changed_now f at m = rw (eq-eqb at at refl) refl

pub changed_other : {A : Type 0} (f : A → A) (at : ℕ) (m : ℕ → Option A) (n : ℕ) → n ≢ at → changed f at m n ≡ m n
changed_other f at m n other = rw (ne_eqb n at other) refl

module _ {A : Type 0} (P : A → Type 0) where
  mapped_has : (f : A → A) (o : Option A) → ((x : A) → P x → P (f x)) → There P o → There P (option_map f o)
  mapped_has f o step has = (f has.0, ap (option_map f) has.1, step has.0 has.2)

  -- it stays so where the change keeps it
  pub changed_has : (f : A → A) (at : ℕ) (m : ℕ → Option A) (n : ℕ) → (n ≡ at → (x : A) → P x → P (f x)) → There P (m n) → There P (changed f at m n)
  changed_has f at m n step has = by_case (cases_eq n at)
    where
      by_case : (n ≡ at) ⊎ (n ≢ at) → There P (changed f at m n)
      by_case (inl same) = rw (eq-eqb n at same) (mapped_has f (m n) (step same) has)
      by_case (inr other) = rw (ne_eqb n at other) has

  pub touched_has : (f : A → A) (ks : List ℕ) (m : ℕ → Option A) (n : ℕ) → ((x : A) → P x → P (f x)) → There P (m n) → There P (touched ks f m n)
  touched_has f ks m n step has = by_case (has_number n ks)
    where
      by_case : (b : Bool) → There P (if b then option_map f (m n) else m n)
      by_case true = mapped_has f (m n) step has
      by_case false = has

  pub entry_has : (m : ℕ → Option A) (at n : ℕ) (entry : Option A) → n ≢ at → There P (m n) → There P (with_entry m at entry n)
  entry_has m at n entry other has = rw (ne_eqb n at other) has

module _ {A : Type 0} (p : A → List ℕ) where
  -- what is read stays where the change keeps it
  mapped_reads : (f : A → A) (o : Option A) → ((x : A) → p (f x) ≡ p x) → numbers_of p (option_map f o) ≡ numbers_of p o
  mapped_reads f None same = refl
  mapped_reads f (Some x) same = same x

  pub changed_reads : (f : A → A) (at : ℕ) (m : ℕ → Option A) (n : ℕ) → ((x : A) → p (f x) ≡ p x) → numbers_of p (changed f at m n) ≡ numbers_of p (m n)
  changed_reads f at m n same = by_case (n == at)
    where
      by_case : (b : Bool) → numbers_of p (if b then option_map f (m n) else m n) ≡ numbers_of p (m n)
      by_case true = mapped_reads f (m n) same
      by_case false = refl

  pub touched_reads : (f : A → A) (ks : List ℕ) (m : ℕ → Option A) (n : ℕ) → ((x : A) → p (f x) ≡ p x) → numbers_of p (touched ks f m n) ≡ numbers_of p (m n)
  touched_reads f ks m n same = by_case (has_number n ks)
    where
      by_case : (b : Bool) → numbers_of p (if b then option_map f (m n) else m n) ≡ numbers_of p (m n)
      by_case true = mapped_reads f (m n) same
      by_case false = refl

  -- a new entry of which nothing is read
  pub entry_reads : (m : ℕ → Option A) (at : ℕ) (x : A) (n : ℕ) → m at ≡ None → p x ≡ [] → numbers_of p (with_entry m at (Some x) n) ≡ numbers_of p (m n)
  entry_reads m at x n vacant none = by_case (cases_eq n at)
    where
      by_case : (n ≡ at) ⊎ (n ≢ at) → numbers_of p (with_entry m at (Some x) n) ≡ numbers_of p (m n)
      by_case (inl same) = rw (eq-eqb n at same) (none ∙ sym (ap (numbers_of p) (ap m same ∙ vacant)))
      by_case (inr other) = rw (ne_eqb n at other) refl

module _ {A : Type 0} (P : Option A → Type 0) where
  -- what is so of an entry, be something there or not, stays so where the change keeps it
  mapped_holds : (f : A → A) (o : Option A) → ((x : A) → P (Some x) → P (Some (f x))) → P o → P (option_map f o)
  mapped_holds f None step holds = holds
  mapped_holds f (Some x) step holds = step x holds

  pub changed_holds : (f : A → A) (at : ℕ) (m : ℕ → Option A) (n : ℕ) → ((x : A) → P (Some x) → P (Some (f x))) → P (m n) → P (changed f at m n)
  changed_holds f at m n step holds = by_case (n == at)
    where
      by_case : (b : Bool) → P (if b then option_map f (m n) else m n)
      by_case true = mapped_holds f (m n) step holds
      by_case false = holds

  pub touched_holds : (f : A → A) (ks : List ℕ) (m : ℕ → Option A) (n : ℕ) → ((x : A) → P (Some x) → P (Some (f x))) → P (m n) → P (touched ks f m n)
  touched_holds f ks m n step holds = by_case (has_number n ks)
    where
      by_case : (b : Bool) → P (if b then option_map f (m n) else m n)
      by_case true = mapped_holds f (m n) step holds
      by_case false = holds

  pub entry_holds : (m : ℕ → Option A) (at n : ℕ) (entry : Option A) → P entry → P (m n) → P (with_entry m at entry n)
  entry_holds m at n entry new holds = by_case (n == at)
    where
      by_case : (b : Bool) → P (if b then entry else m n)
      by_case true = new
      by_case false = holds
