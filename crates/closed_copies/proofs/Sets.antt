-- Numbers among others, in unions and differences, and how often each stands there.
use Rattle.std.specs.Prelude.{◌≡◌, refl, ℕ, zero, ◌+◌, Bool, true, false, not, ◌&&◌, ◌||◌, ◌==◌, if◌then◌else◌, List, [], ◌∷◌, ◌++◌, length, filter}
use Rattle.std.proofs.Common.{ap, sym, ◌∙◌, arith, cond, zero-add}
use Rattle.std.proofs.lemmas.Bool.{eqb-true, eq-eqb, false≢true}
use Rattle.core_form.specs.Facts.{has_number, union, without}
use Rattle.closed_copies.specs.Marks.{one_if, tally}

-- ---- tests

pub or_assoc : (a b c : Bool) → (a || (b || c)) ≡ ((a || b) || c)
or_assoc true b c = refl
or_assoc false b c = refl

either_same : (c : Bool) → zero ≡ (if c then zero else zero)
either_same true = refl
either_same false = refl

and_none : (a : Bool) → (a && false) ≡ false
and_none true = refl
and_none false = refl

pub or_none : (a : Bool) → (a || false) ≡ a
or_none true = refl
or_none false = refl

-- ---- among

pub has_append : (n : ℕ) (xs ys : List ℕ) → has_number n (xs ++ ys) ≡ (has_number n xs || has_number n ys)
has_append n [] ys = refl
has_append n (x ∷ xs) ys = ap (λ (b : Bool). n == x || b) (has_append n xs ys) ∙ or_assoc (n == x) (has_number n xs) (has_number n ys)

-- where one is known to be another
moved : (n m : ℕ) (xs : List ℕ) (b : Bool) → (n == m) ≡ b → has_number m xs ≡ true → ((n == m) || has_number n xs) ≡ has_number n xs
moved n m xs true e h = ap (λ (c : Bool). c || has_number n xs) e ∙ sym (ap (λ (k : ℕ). has_number k xs) (eqb-true n m e) ∙ h)
moved n m xs false e h = ap (λ (c : Bool). c || has_number n xs) e

or_swap : (a b c : Bool) → (b || a) ≡ a → (a || (b || c)) ≡ (a || c)
or_swap true b c h = refl
or_swap false true c h = absurd (false≢true (sym h))
or_swap false false c h = refl

-- one step of a union
united : (n : ℕ) (xs : List ℕ) (y : ℕ) (ys : List ℕ) (b : Bool) → has_number y xs ≡ b → has_number n (union xs ys) ≡ (has_number n xs || has_number n ys) →
    has_number n (union (xs ++ y ∷ []) ys) ≡ (has_number n (xs ++ y ∷ []) || has_number n ys) →
    has_number n (if b then union xs ys else union (xs ++ y ∷ []) ys) ≡ (has_number n xs || (n == y || has_number n ys))
united n xs y ys true h same more = same ∙ sym (or_swap (has_number n xs) (n == y) (has_number n ys) (moved n y xs (n == y) refl h))
united n xs y ys false h same more =
    more ∙ ap (λ (b : Bool). b || has_number n ys) (has_append n xs (y ∷ []) ∙ ap (λ (b : Bool). has_number n xs || b) (or_none (n == y)))
    ∙ sym (or_assoc (has_number n xs) (n == y) (has_number n ys))

pub has_union : (n : ℕ) (xs ys : List ℕ) → has_number n (union xs ys) ≡ (has_number n xs || has_number n ys)
has_union n xs [] = sym (or_none (has_number n xs))
has_union n xs (y ∷ ys) = united n xs y ys (has_number y xs) refl (has_union n xs ys) (has_union n (xs ++ y ∷ []) ys)

-- a part of a list by a test of numbers
by_tie : (n : ℕ) (test : ℕ → Bool) (x : ℕ) (xs : List ℕ) (b c : Bool) → (n == x) ≡ c → test x ≡ b → has_number n (filter test xs) ≡ (has_number n xs && test n) →
    has_number n (cond b (x ∷ filter test xs) (filter test xs)) ≡ ((n == x || has_number n xs) && test n)
by_tie n test x xs true true t h rest =
    ap (λ (c : Bool). c || has_number n (filter test xs)) t ∙ sym (ap (λ (c : Bool). (c || has_number n xs) && test n) t ∙ ap test (eqb-true n x t) ∙ h)
by_tie n test x xs true false t h rest =
    ap (λ (c : Bool). c || has_number n (filter test xs)) t ∙ rest ∙ sym (ap (λ (c : Bool). (c || has_number n xs) && test n) t)
by_tie n test x xs false true t h rest =
    rest ∙ ap (λ (c : Bool). has_number n xs && c) (ap test (eqb-true n x t) ∙ h) ∙ and_none (has_number n xs) ∙ sym (ap (λ (c : Bool). (c || has_number n xs) && test n) t ∙ ap test (eqb-true n x t) ∙ h)
by_tie n test x xs false false t h rest = rest ∙ sym (ap (λ (c : Bool). (c || has_number n xs) && test n) t)

has_kept : (n : ℕ) (test : ℕ → Bool) (x : ℕ) (xs : List ℕ) (b : Bool) → test x ≡ b → has_number n (filter test xs) ≡ (has_number n xs && test n) →
    has_number n (cond b (x ∷ filter test xs) (filter test xs)) ≡ ((n == x || has_number n xs) && test n)
has_kept n test x xs b h rest = by_tie n test x xs b (n == x) refl h rest

pub has_filter : (n : ℕ) (test : ℕ → Bool) (xs : List ℕ) → has_number n (filter test xs) ≡ (has_number n xs && test n)
has_filter n test [] = refl
has_filter n test (x ∷ xs) = has_kept n test x xs (test x) refl (has_filter n test xs)

pub has_without : (n : ℕ) (xs ys : List ℕ) → has_number n (without xs ys) ≡ (has_number n xs && not (has_number n ys))
has_without n xs ys = has_filter n (λ x. not (has_number x ys)) xs

-- ---- how often

abbrev pub times : ℕ → List ℕ → ℕ
times n [] = 0
times n (x ∷ xs) = one_if (n == x) + times n xs

times_append : (n : ℕ) (xs ys : List ℕ) → times n (xs ++ ys) ≡ times n xs + times n ys
times_append n [] ys = sym (zero-add (times n ys))
times_append n (x ∷ xs) ys = let h = times_append n xs ys in omega arith

-- each number stands at most once
abbrev pub EachOnce : List ℕ → Type 0
EachOnce xs = (n : ℕ) → times n xs ≡ one_if (has_number n xs)

one_of_either : (a b : Bool) → (b ≡ true → a ≡ false) → one_if a + (one_if b + 0) ≡ one_if (a || (b || false))
one_of_either true true h = absurd (false≢true (sym (h refl)))
one_of_either true false h = refl
one_of_either false true h = refl
one_of_either false false h = refl

one_more : (xs : List ℕ) (y : ℕ) → has_number y xs ≡ false → EachOnce xs → EachOnce (xs ++ y ∷ [])
one_more xs y new once n =
    times_append n xs (y ∷ []) ∙ ap (λ (k : ℕ). k + (one_if (n == y) + 0)) (once n)
    ∙ one_of_either (has_number n xs) (n == y) (λ e. ap (λ (k : ℕ). has_number k xs) (eqb-true n y e) ∙ new)
    ∙ sym (ap one_if (has_append n xs (y ∷ [])))

once_united : (xs : List ℕ) (y : ℕ) (ys : List ℕ) (b : Bool) → has_number y xs ≡ b → EachOnce xs →
    (EachOnce xs → EachOnce (union xs ys)) → (EachOnce (xs ++ y ∷ []) → EachOnce (union (xs ++ y ∷ []) ys)) →
    EachOnce (if b then union xs ys else union (xs ++ y ∷ []) ys)
once_united xs y ys true h once same more = same once
once_united xs y ys false h once same more = more (one_more xs y h once)

pub once_union : (xs ys : List ℕ) → EachOnce xs → EachOnce (union xs ys)
once_union xs [] once = once
once_union xs (y ∷ ys) once = once_united xs y ys (has_number y xs) refl once (once_union xs ys) (once_union (xs ++ y ∷ []) ys)

either_zero : (a b : ℕ) (c : Bool) → a ≡ 0 → (if c then b else 0) ≡ (if c then a + b else 0)
either_zero a b true h = omega (arith, h)
either_zero a b false h = refl

kept_times : (n : ℕ) (test : ℕ → Bool) (x : ℕ) (xs : List ℕ) (b c : Bool) → (n == x) ≡ c → test x ≡ b → times n (filter test xs) ≡ (if test n then times n xs else 0) →
    times n (cond b (x ∷ filter test xs) (filter test xs)) ≡ (if test n then one_if (n == x) + times n xs else 0)
kept_times n test x xs true true t h rest =
    let here : test n ≡ true = ap test (eqb-true n x t) ∙ h in
    ap (λ (k : ℕ). one_if (n == x) + k) (rest ∙ ap (λ (c : Bool). if c then times n xs else 0) here) ∙ sym (ap (λ (c : Bool). if c then one_if (n == x) + times n xs else 0) here)
kept_times n test x xs false true t h rest =
    let here : test n ≡ false = ap test (eqb-true n x t) ∙ h in
    rest ∙ ap (λ (c : Bool). if c then times n xs else 0) here ∙ sym (ap (λ (c : Bool). if c then one_if (n == x) + times n xs else 0) here)
kept_times n test x xs true false t h rest =
    ap (λ (c : Bool). one_if c + times n (filter test xs)) t ∙ zero-add (times n (filter test xs)) ∙ rest ∙ either_zero (one_if (n == x)) (times n xs) (test n) (ap one_if t)
kept_times n test x xs false false t h rest = rest ∙ either_zero (one_if (n == x)) (times n xs) (test n) (ap one_if t)

times_filter : (n : ℕ) (test : ℕ → Bool) (xs : List ℕ) → times n (filter test xs) ≡ (if test n then times n xs else 0)
times_filter n test [] = either_same (test n)
times_filter n test (x ∷ xs) = kept_times n test x xs (test x) (n == x) refl refl (times_filter n test xs)

of_both : (a b : Bool) (k : ℕ) → k ≡ one_if a → (if b then k else 0) ≡ one_if (a && b)
of_both true true k h = h
of_both true false k h = refl
of_both false true k h = h
of_both false false k h = refl

pub once_without : (xs ys : List ℕ) → EachOnce xs → EachOnce (without xs ys)
once_without xs ys once n =
    times_filter n (λ x. not (has_number x ys)) xs ∙ of_both (has_number n xs) (not (has_number n ys)) (times n xs) (once n) ∙ sym (ap one_if (has_without n xs ys))

-- ---- a list counted by the numbers among which its own are

pub tally_same : (f g : ℕ → ℕ) (xs : List ℕ) → ((x : ℕ) → f x ≡ g x) → tally f xs ≡ tally g xs
tally_same f g [] h = refl
tally_same f g (x ∷ xs) h = let e = h x in let k = tally_same f g xs h in omega arith

pub tally_sum : (f g : ℕ → ℕ) (xs : List ℕ) → tally (λ x. f x + g x) xs ≡ tally f xs + tally g xs
tally_sum f g [] = refl
tally_sum f g (x ∷ xs) = let k = tally_sum f g xs in omega arith

pub tally_none : (xs : List ℕ) → tally (λ x. 0) xs ≡ 0
tally_none [] = refl
tally_none (x ∷ xs) = zero-add (tally (λ y. 0) xs) ∙ tally_none xs

same_test : (a b : ℕ) (c d : Bool) → (a == b) ≡ c → (b == a) ≡ d → c ≡ d
same_test a b true true p q = refl
same_test a b true false p q = sym (eq-eqb b a (sym (eqb-true a b p))) ∙ q
same_test a b false true p q = sym p ∙ eq-eqb a b (sym (eqb-true b a q))
same_test a b false false p q = refl

eqb_swap : (a b : ℕ) → (a == b) ≡ (b == a)
eqb_swap a b = same_test a b (a == b) (b == a) refl refl

tally_ties : (y : ℕ) (xs : List ℕ) → tally (λ x. one_if (x == y)) xs ≡ times y xs
tally_ties y [] = refl
tally_ties y (x ∷ xs) = let e = ap one_if (eqb_swap x y) in let k = tally_ties y xs in omega arith

-- all numbers of the one list are in the other
abbrev pub IsPart : (ys xs : List ℕ) → Type 0
IsPart ys xs = (n : ℕ) → has_number n xs ≡ false → has_number n ys ≡ false

pub or_false_left : (a b : Bool) → (a || b) ≡ false → a ≡ false
or_false_left true b h = h
or_false_left false b h = refl

pub or_false_right : (a b : Bool) → (a || b) ≡ false → b ≡ false
or_false_right true b h = absurd (false≢true (sym h))
or_false_right false b h = h

is_there : (n : ℕ) (b : Bool) (xs ys : List ℕ) → has_number n xs ≡ b → IsPart (n ∷ ys) xs → b ≡ true
is_there n true xs ys e h = refl
is_there n false xs ys e h = absurd (false≢true (sym (or_false_left (n == n) (has_number n ys) (h n e)) ∙ eq-eqb n n refl))

counted : (xs ys : List ℕ) → EachOnce xs → IsPart ys xs → length ys ≡ tally (λ x. times x ys) xs
counted xs [] once part = sym (tally_none xs)
counted xs (y ∷ ys) once part =
    let one : times y xs ≡ 1 = once y ∙ ap one_if (is_there y (has_number y xs) xs ys refl part) in
    let rest = counted xs ys once (λ n h. or_false_right (n == y) (has_number n ys) (part n h)) in
    let here = tally_ties y xs in
    let both = tally_sum (λ x. one_if (x == y)) (λ x. times x ys) xs in
    omega arith

pub counted_once : (xs ys : List ℕ) → EachOnce xs → EachOnce ys → IsPart ys xs → length ys ≡ tally (λ x. one_if (has_number x ys)) xs
counted_once xs ys once each part = counted xs ys once part ∙ tally_same (λ x. times x ys) (λ x. one_if (has_number x ys)) xs each
