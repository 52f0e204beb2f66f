-- A round that changes nothing is the last.
use Rattle.std.specs.Prelude.{◌≡◌, refl, ℕ, zero, suc, ◌+◌, ◌-◌, ◌<◌, Bool, false, List, length}
use Rattle.std.proofs.Common.{ap, sym, ◌∙◌, arith}
use Rattle.std.proofs.lemmas.List.{length-map}
use Rattle.closed_copies.specs.Table.{Entry}
use Rattle.closed_copies.specs.Marks.{closes_over, one_round, rounds, unmarked, marks_of}

pub settled : (n x : ℕ) (fs : List Entry) (marks : List Bool) → one_round x fs marks ≡ marks → rounds n x fs marks ≡ marks
settled zero x fs marks h = refl
settled (suc n) x fs marks h = ap (rounds n x fs) h ∙ settled n x fs marks h

-- the loop's step, and its end
pub round_passed : (n i x : ℕ) (fs : List Entry) (marks next all : List Bool) → i < n → rounds (n - i) x fs marks ≡ all → next ≡ one_round x fs marks → rounds (n - (i + 1)) x fs next ≡ all
round_passed n i x fs marks next all lt so_far h =
    let e : n - i ≡ suc (n - (i + 1)) = omega arith in
    ap (rounds (n - (i + 1)) x fs) h ∙ sym (ap (λ (k : ℕ). rounds k x fs marks) e) ∙ so_far

pub rounds_over : (n i x : ℕ) (fs : List Entry) (marks all : List Bool) → n - i ≡ 0 → rounds (n - i) x fs marks ≡ all → marks ≡ all
rounds_over n i x fs marks all e so_far = sym (ap (λ (k : ℕ). rounds k x fs marks) e) ∙ so_far

pub no_change : (n i x : ℕ) (fs : List Entry) (marks next all : List Bool) → rounds (n - i) x fs marks ≡ all → next ≡ one_round x fs marks → next ≡ marks → marks ≡ all
no_change n i x fs marks next all so_far h same = sym (settled (n - i) x fs marks (sym h ∙ same)) ∙ so_far

-- each function has a mark
rounds_length : (n x : ℕ) (fs : List Entry) (marks : List Bool) → length marks ≡ length fs → length (rounds n x fs marks) ≡ length fs
rounds_length zero x fs marks h = h
rounds_length (suc n) x fs marks h = rounds_length n x fs (one_round x fs marks) (length-map fs (closes_over x marks))

pub marks_length : (locals x : ℕ) (fs : List Entry) → length (marks_of locals x fs) ≡ length fs
marks_length locals x fs = rounds_length (locals + 1) x fs (unmarked fs) (length-map fs (λ f. false))
