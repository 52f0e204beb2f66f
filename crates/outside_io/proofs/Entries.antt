-- What a list of entries holds under a name, by the place of its first entry.
use Rattle.std.proofs.Common.{◌≡◌, ◌≢◌, ℕ, zero, suc, ◌<◌, List, [], ◌∷◌, ◌++◌, length, set, get_or, Option, Some, None, IfSome, Bool, true, false, cond, refl, sym, ap, arith}
use Rattle.std.specs.Prelude.{slice_get, if◌then◌else◌}
use Rattle.std.specs.Str.{bytes_eq}
use Rattle.std.proofs.lemmas.Slice.Eq.{bytes_eq-Decides}
use Rattle.std.proofs.lemmas.Bool.{false_from_ne_true}
use Rattle.outside_io.specs.Memory.{found, IsFirst}
use Rattle.outside_io.specs.Names.{Changes}

abbrev pub Entries : Type 0
Entries = List (List ℕ × List ℕ)

-- the place of a first entry, seen behind another entry
behind : (e : List ℕ × List ℕ) (es : Entries) (name : List ℕ) (i : ℕ) → IsFirst (e ∷ es) name (suc i) → IsFirst es name i
behind e es name i h = record {
  within = let w = h.within in omega arith;
  there = h.there;
  before = λ k lt. h.before (suc k) (omega arith);
}

pub found_first : (es : Entries) (name : List ℕ) (i : ℕ) (e : List ℕ × List ℕ) → IsFirst es name i → e ≡ get_or es i e → found es name ≡ Some e.1
found_first [] name i e h is = absurd (let w = h.within in omega arith)
found_first (x ∷ es) name zero e h is = rw h.there (ap (λ (p : List ℕ × List ℕ). Some p.1) (sym is))
found_first (x ∷ es) name (suc i) e h is =
    let differs : bytes_eq name x.0 ≡ false = h.before 0 (omega arith) in
    rw differs (found_first es name i e (behind x es name i h) is)

pub found_none : (es : Entries) (name : List ℕ) → ((k : ℕ) → k < length es → IfSome (slice_get es k) (λ e. bytes_eq name e.0 ≡ false)) → found es name ≡ None
found_none [] name h = refl
found_none (e ∷ es) name h =
    let differs : bytes_eq name e.0 ≡ false = h 0 (omega arith) in
    rw differs (found_none es name (λ k lt. h (suc k) (omega arith)))

differs_false : (name other : List ℕ) → other ≢ name → bytes_eq other name ≡ false
differs_false name other ne = false_from_ne_true (bytes_eq other name) (λ same. ne ((bytes_eq-Decides other name).0 same))

pub found_set : (es : Entries) (name bytes : List ℕ) (i : ℕ) (old : List ℕ × List ℕ) → IsFirst es name i → old ≡ get_or es i old → Changes (found es) (found (set es i (old.0, bytes))) name (λ held. held ≡ Some bytes)
found_set [] name bytes i old h is = absurd (let w = h.within in omega arith)
found_set (e ∷ es) name bytes zero old h is =
    let named : old.0 ≡ e.0 = ap (λ (p : List ℕ × List ℕ). p.0) is in
    let same : e.0 ≡ name = sym ((bytes_eq-Decides name e.0).0 h.there) in
    record {
      there = rw (named, same, (bytes_eq-Decides name name).1 refl) refl;
      others = λ other ne. rw (named, same, differs_false name other ne) refl;
    }
found_set (e ∷ es) name bytes (suc i) old h is =
    let differs : bytes_eq name e.0 ≡ false = h.before 0 (omega arith) in
    let rest = found_set es name bytes i old (behind e es name i h) is in
    record {
      there = rw differs rest.there;
      others = λ other ne. ap (λ (x : Option (List ℕ)). if bytes_eq other e.0 then Some e.1 else x) (rest.others other ne);
    }

-- where a choice is None, the second was chosen
second_chosen : (b : Bool) (x : List ℕ) (r : Option (List ℕ)) → cond b (Some x) r ≡ None → (b ≡ false) × (r ≡ None)
second_chosen true x r h = cc
second_chosen false x r h = (refl, h)

pub found_push : (es : Entries) (name bytes : List ℕ) → found es name ≡ None → Changes (found es) (found (es ++ (name, bytes) ∷ [])) name (λ held. held ≡ Some bytes)
found_push [] name bytes h = record {
  there = rw ((bytes_eq-Decides name name).1 refl) refl;
  others = λ other ne. rw (differs_false name other ne) refl;
}
found_push (e ∷ es) name bytes h =
    let chosen = second_chosen (bytes_eq name e.0) e.1 (found es name) h in
    let rest = found_push es name bytes chosen.1 in
    record {
      there = rw (chosen.0) rest.there;
      others = λ other ne. ap (λ (x : Option (List ℕ)). if bytes_eq other e.0 then Some e.1 else x) (rest.others other ne);
    }
