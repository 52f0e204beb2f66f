-- What one round takes away is given to what the round before took away.
use Rattle.std.specs.Prelude.{◌≡◌, refl, ℕ, zero, suc, ◌+◌, ◌==◌, Bool, true, false, not, ◌&&◌, ◌||◌, if◌then◌else◌, List, [], ◌∷◌, ◌++◌, length, flat_map, filter}
use Rattle.std.proofs.Common.{ap, sym, ◌∙◌, arith, cond, true≢false, ◌<◌}
use Rattle.std.proofs.lemmas.Bool.{eqb-true, eq-eqb}
use Rattle.core_form.specs.Facts.{has_number, union, without, times_in, repeat, variable_under}
use Rattle.closed_copies.proofs.Sets.{has_append, has_union, has_filter, has_without}
use Rattle.form_facts.specs.Parts.{Part, reads, sets, leaves, goes, binds, computes, makes, taken_by}
use Rattle.form_facts.specs.Words.{taken_in, next_words}
use Rattle.form_facts.specs.Given.{given_by, given_to, given_to_all, lost_next}
use Rattle.form_facts.proofs.NumberSets.{filter_or, swapped}
use Rattle.form_facts.proofs.NumberLaws.{has_once}

-- ---- truth values

or_four : (a b c d : Bool) → ((a || b) || (c || d)) ≡ ((a || c) || (b || d))
or_four true b c d = refl
or_four false true true d = refl
or_four false true false d = refl
or_four false false c d = refl

or_right : (a b : Bool) → b ≡ true → (a || b) ≡ true
or_right true b e = refl
or_right false b e = e

not_not : (b : Bool) → not (not b) ≡ b
not_not true = refl
not_not false = refl

both : (a b : Bool) → (a && b) ≡ true → (a ≡ true) × (b ≡ true)
both true true e = (refl, refl)
both true false e = absurd (true≢false (sym e))
both false b e = absurd (true≢false (sym e))

first_kept : (a t k : Bool) → a ≡ true → k ≡ (a && t) → not (a && not k) ≡ t
first_kept true true k e h = ap (λ (b : Bool). not (true && not b)) h
first_kept true false k e h = ap (λ (b : Bool). not (true && not b)) h
first_kept false t k e h = absurd (true≢false (sym e))

lost_more : (g w l : Bool) → w ≡ true → not (l || ((g && w) && not l)) ≡ (not l && not g)
lost_more g w true e = refl
lost_more true true false e = refl
lost_more true false false e = absurd (true≢false (sym e))
lost_more false w false e = refl

taken_here : (g w l h : Bool) → h ≡ (w && not l) → ((g && w) && not l) ≡ (h && not (h && not g))
taken_here g w l true e = of_true g w l (sym e)
  where
    of_true : (g w l : Bool) → (w && not l) ≡ true → ((g && w) && not l) ≡ (true && not (true && not g))
    of_true true true false e = refl
    of_true false w l e = refl
    of_true true true true e = absurd (true≢false (sym e))
    of_true true false l e = absurd (true≢false (sym e))
taken_here g w l false e = of_false g w l (sym e)
  where
    of_false : (g w l : Bool) → (w && not l) ≡ false → ((g && w) && not l) ≡ false
    of_false true w l e = e
    of_false false w l e = refl

-- ---- filters

same_on : (p q : ℕ → Bool) (xs : List ℕ) → ((x : ℕ) → has_number x xs ≡ true → p x ≡ q x) → filter p xs ≡ filter q xs
same_on p q [] h = refl
same_on p q (x ∷ xs) h =
    filter_or (p x) (q x) x (filter p xs) (filter q xs) (h x (ap (λ (b : Bool). b || has_number x xs) (eq-eqb x x refl)))
    (same_on p q xs (λ y there. h y (or_right (y == x) (has_number y xs) there)))

filter_if : (p q : ℕ → Bool) (b c : Bool) (x : ℕ) (ys : List ℕ) → p x ≡ b → q x ≡ c → filter q (cond b (x ∷ ys) ys) ≡ cond (b && c) (x ∷ filter q ys) (filter q ys)
filter_if p q true c x ys e h = ap (λ (d : Bool). cond d (x ∷ filter q ys) (filter q ys)) h
filter_if p q false c x ys e h = refl

filter_twice : (p q : ℕ → Bool) (xs : List ℕ) → filter q (filter p xs) ≡ filter (λ x. p x && q x) xs
filter_twice p q [] = refl
filter_twice p q (x ∷ xs) =
    filter_if p q (p x) (q x) x (filter p xs) refl refl ∙ ap (λ (ys : List ℕ). cond (p x && q x) (x ∷ ys) ys) (filter_twice p q xs)

-- ---- how often numbers stand in lists

abbrev one : Bool → ℕ
one b = cond b 1 0

length_one : (b : Bool) (m : ℕ) (ys : List ℕ) → length (cond b (m ∷ ys) ys) ≡ one b + length ys
length_one true m ys = omega arith
length_one false m ys = omega arith

times_cons : (n m : ℕ) (xs : List ℕ) → times_in n (m ∷ xs) ≡ one (n == m) + times_in n xs
times_cons n m xs = length_one (n == m) m (filter (λ m. n == m) xs)

times_append : (n : ℕ) (xs ys : List ℕ) → times_in n (xs ++ ys) ≡ times_in n xs + times_in n ys
times_append n [] ys = omega arith
times_append n (m ∷ xs) ys = omega (arith, times_cons n m (xs ++ ys), times_append n xs ys, times_cons n m xs)

is_zero : (t : ℕ) (b : Bool) → (t == 0) ≡ b → (0 < t) → b ≡ false
is_zero t true e lt = absurd (omega (arith, eqb-true t 0 e, lt))
is_zero t false e lt = refl

has_of_one : (b h : Bool) (k t : ℕ) → t ≡ one b + k → h ≡ not (k == 0) → (b || h) ≡ not (t == 0)
has_of_one true h k t e is = ap not (sym (is_zero t (t == 0) refl (omega (arith, e))))
has_of_one false h k t e is = is ∙ ap (λ (j : ℕ). not (j == 0)) (omega (arith, e))

has_of_times : (n : ℕ) (xs : List ℕ) → has_number n xs ≡ not (times_in n xs == 0)
has_of_times n [] = refl
has_of_times n (m ∷ xs) = has_of_one (n == m) (has_number n xs) (times_in n xs) (times_in n (m ∷ xs)) (times_cons n m xs) (has_of_times n xs)

no_more : (r a t : ℕ) (b c : Bool) → r ≡ a + t → (r == a) ≡ b → (t == 0) ≡ c → b ≡ c
no_more r a t true true e h k = refl
no_more r a t true false e h k = absurd (true≢false (sym (eq-eqb t 0 (omega (arith, e, eqb-true r a h))) ∙ k))
no_more r a t false true e h k = absurd (true≢false (sym (eq-eqb r a (omega (arith, e, eqb-true t 0 k))) ∙ h))
no_more r a t false false e h k = refl

-- ---- what is given to some variables

-- the variables that a part gives to one of these
abbrev given_if : (to : List ℕ) → Part → List ℕ
given_if ys (sets x e) = if has_number x ys then variable_under e else []
given_if ys _ = []

nothing : (n : ℕ) (ys : List ℕ) → has_number n (flat_map (λ (y : ℕ). []) ys) ≡ false
nothing n [] = refl
nothing n (y ∷ ys) = nothing n ys

has_both : (n : ℕ) (f g : ℕ → List ℕ) (ys : List ℕ) → has_number n (flat_map (λ y. f y ++ g y) ys) ≡ (has_number n (flat_map f ys) || has_number n (flat_map g ys))
has_both n f g [] = refl
has_both n f g (y ∷ ys) =
    has_append n (f y ++ g y) (flat_map (λ y. f y ++ g y) ys)
    ∙ ap (λ (b : Bool). b || has_number n (flat_map (λ y. f y ++ g y) ys)) (has_append n (f y) (g y))
    ∙ ap (λ (b : Bool). (has_number n (f y) || has_number n (g y)) || b) (has_both n f g ys)
    ∙ or_four (has_number n (f y)) (has_number n (g y)) (has_number n (flat_map f ys)) (has_number n (flat_map g ys))
    ∙ sym (ap (λ (b : Bool). b || has_number n (flat_map g (y ∷ ys))) (has_append n (f y) (flat_map f ys))
    ∙ ap (λ (b : Bool). (has_number n (f y) || has_number n (flat_map f ys)) || b) (has_append n (g y) (flat_map g ys)))

or_false : (b : Bool) → (b || false) ≡ b
or_false true = refl
or_false false = refl

or_same : (b : Bool) → (b || b) ≡ b
or_same true = refl
or_same false = refl

either_given : (n : ℕ) (b c : Bool) (vs : List ℕ) → (has_number n (if b then vs else []) || has_number n (if c then vs else [])) ≡ has_number n (if b || c then vs else [])
either_given n true true vs = or_same (has_number n vs)
either_given n true false vs = or_false (has_number n vs)
either_given n false c vs = refl

by_part : (n : ℕ) (p : Part) (ys : List ℕ) → has_number n (flat_map (λ y. given_by y p) ys) ≡ has_number n (given_if ys p)
by_part n (sets x e) [] = refl
by_part n (sets x e) (y ∷ ys) =
    has_append n (if y == x then variable_under e else []) (flat_map (λ y. given_by y (sets x e)) ys)
    ∙ ap (λ (b : Bool). has_number n (if y == x then variable_under e else []) || b) (by_part n (sets x e) ys)
    ∙ ap (λ (b : Bool). has_number n (if b then variable_under e else []) || has_number n (given_if ys (sets x e))) (swapped y x)
    ∙ either_given n (x == y) (has_number x ys) (variable_under e)
by_part n (reads x) ys = nothing n ys
by_part n (leaves b) ys = nothing n ys
by_part n (goes t) ys = nothing n ys
by_part n (binds bs) ys = nothing n ys
by_part n (computes es) ys = nothing n ys
by_part n (makes l) ys = nothing n ys

has_given : (n : ℕ) (ps : List Part) (ys : List ℕ) → has_number n (given_to_all ps ys) ≡ has_number n (flat_map (given_if ys) ps)
has_given n [] ys = nothing n ys
has_given n (p ∷ ps) ys =
    has_both n (λ y. given_by y p) (given_to ps) ys ∙ ap (λ (b : Bool). b || has_number n (given_to_all ps ys)) (by_part n p ys)
    ∙ ap (λ (b : Bool). has_number n (given_if ys p) || b) (has_given n ps ys) ∙ sym (has_append n (given_if ys p) (flat_map (given_if ys) ps))

given_if_same : (xs ys : List ℕ) → ((n : ℕ) → has_number n xs ≡ has_number n ys) → (ps : List Part) → flat_map (given_if xs) ps ≡ flat_map (given_if ys) ps
given_if_same xs ys h [] = refl
given_if_same xs ys h (sets x e ∷ ps) =
    ap (λ (b : Bool). (if b then variable_under e else []) ++ flat_map (given_if xs) ps) (h x) ∙ ap (λ (zs : List ℕ). given_if ys (sets x e) ++ zs) (given_if_same xs ys h ps)
given_if_same xs ys h (reads x ∷ ps) = given_if_same xs ys h ps
given_if_same xs ys h (leaves b ∷ ps) = given_if_same xs ys h ps
given_if_same xs ys h (goes t ∷ ps) = given_if_same xs ys h ps
given_if_same xs ys h (binds bs ∷ ps) = given_if_same xs ys h ps
given_if_same xs ys h (computes es ∷ ps) = given_if_same xs ys h ps
given_if_same xs ys h (makes l ∷ ps) = given_if_same xs ys h ps

-- what is given to the same variables is the same
pub given_same : (n : ℕ) (ps : List Part) (xs ys : List ℕ) → ((n : ℕ) → has_number n xs ≡ has_number n ys) → has_number n (given_to_all ps xs) ≡ has_number n (given_to_all ps ys)
given_same n ps xs ys h = has_given n ps xs ∙ ap (has_number n) (given_if_same xs ys h ps) ∙ sym (has_given n ps ys)

-- ---- what is taken before a round and after it

times_if : (n : ℕ) (b c : Bool) (vs : List ℕ) → (c ≡ true → b ≡ true) → times_in n (if b then vs else []) ≡ times_in n (if c then vs else []) + times_in n (if b && not c then vs else [])
times_if n true true vs h = omega arith
times_if n true false vs h = omega arith
times_if n false true vs h = absurd (true≢false (sym (h refl)))
times_if n false false vs h = omega arith

lost_if : (words next : List ℕ) (x : ℕ) (vs : List ℕ) → (if has_number x (without words next) then vs else []) ≡ (if has_number x words && not (has_number x next) then vs else [])
lost_if words next x vs = ap (λ (b : Bool). if b then vs else []) (has_without x words next)

module _ (words next : List ℕ) (fewer : (n : ℕ) → has_number n next ≡ true → has_number n words ≡ true) where
  part_taken : (n : ℕ) (p : Part) → times_in n (taken_by words p) ≡ times_in n (taken_by next p) + times_in n (given_if (without words next) p)
  part_taken n (sets x e) =
      times_if n (has_number x words) (has_number x next) (variable_under e) (fewer x)
      ∙ ap (λ (vs : List ℕ). times_in n (taken_by next (sets x e)) + times_in n vs) (sym (lost_if words next x (variable_under e)))
  part_taken n (reads x) = omega arith
  part_taken n (leaves b) = omega arith
  part_taken n (goes t) = omega arith
  part_taken n (binds bs) = omega arith
  part_taken n (computes es) = omega arith
  part_taken n (makes l) = omega arith

  taken_more : (n : ℕ) (ps : List Part) → times_in n (taken_in words ps) ≡ times_in n (taken_in next ps) + times_in n (flat_map (given_if (without words next)) ps)
  taken_more n [] = omega arith
  taken_more n (p ∷ ps) =
      omega (
        arith,
        times_append n (taken_by words p) (taken_in words ps),
        times_append n (taken_by next p) (taken_in next ps),
        times_append n (given_if (without words next) p) (flat_map (given_if (without words next)) ps),
        part_taken n p,
        taken_more n ps,
      )

-- ---- the next round

kept_when : (n : ℕ) (test : ℕ → Bool) (xs : List ℕ) → has_number n (filter test xs) ≡ true → (has_number n xs ≡ true) × (test n ≡ true)
kept_when n test xs h = both (has_number n xs) (test n) (sym (has_filter n test xs) ∙ h)

-- where words are what a round left, the next round takes away what is given to those that this one took away
pub round_after : (rs words : List ℕ) (ps : List Part) →
    next_words rs ps (next_words rs ps words) ≡ without (next_words rs ps words) (given_to_all ps (without words (next_words rs ps words)))
round_after rs words ps =
    let next : List ℕ = next_words rs ps words in
    let lost : List ℕ = without words next in
    let fewer : (n : ℕ) → has_number n next ≡ true → has_number n words ≡ true = λ n h. (kept_when n (λ x. times_in x rs == times_in x (taken_in words ps)) words h).0 in
    same_on (λ x. times_in x rs == times_in x (taken_in next ps)) (λ x. not (has_number x (given_to_all ps lost))) next (λ x there.
    let all : times_in x rs ≡ times_in x (taken_in words ps) = eqb-true (times_in x rs) (times_in x (taken_in words ps)) (kept_when x (λ x. times_in x rs == times_in x (taken_in words ps)) words there).1 in
    no_more (times_in x rs) (times_in x (taken_in next ps)) (times_in x (flat_map (given_if lost) ps)) (times_in x rs == times_in x (taken_in next ps)) (times_in x (flat_map (given_if lost) ps) == 0)
    (all ∙ taken_more words next fewer x ps) refl refl
    ∙ sym (not_not (times_in x (flat_map (given_if lost) ps) == 0)) ∙ ap not (sym (has_of_times x (flat_map (given_if lost) ps))) ∙ ap not (sym (has_given x ps lost)))

-- ---- the loop

-- after so many rounds, one at least: what is lost of all words, and what the last round took away
pub record AfterRounds (f : List ℕ → List ℕ) (words lost just : List ℕ) (n : ℕ) : Type 0 where
  pub before : ℕ
  pub number : n ≡ suc before
  pub left : without words lost ≡ repeat n f words
  pub taken : (x : ℕ) → has_number x just ≡ has_number x (without (repeat before f words) (repeat n f words))

pub first_round : (test : ℕ → Bool) (words first just lost : List ℕ) (f : List ℕ → List ℕ) → f words ≡ filter test words → ((x : ℕ) → has_number x first ≡ has_number x (without words (f words))) → just ≡ union [] first → lost ≡ union [] first →
    AfterRounds f words lost just 1
first_round test words first just lost f is taken j l =
    record {
      before = 0;
      number = refl;
      left =
          same_on (λ x. not (has_number x lost)) test words (λ x there.
          ap not (ap (has_number x) l ∙ has_once x first ∙ taken x ∙ ap (λ (ws : List ℕ). has_number x (without words ws)) is ∙ has_without x words (filter test words))
          ∙ first_kept (has_number x words) (test x) (has_number x (filter test words)) there (has_filter x test words))
          ∙ sym is;
      taken = λ x. ap (has_number x) j ∙ has_once x first ∙ taken x;
    }

repeat_last : (n : ℕ) (f : List ℕ → List ℕ) (xs : List ℕ) → repeat (suc n) f xs ≡ f (repeat n f xs)
repeat_last zero f xs = refl
repeat_last (suc n) f xs = repeat_last n f (f xs)

pub next_round : (rs words lost just next lost' : List ℕ) (ps : List Part) (n : ℕ) → AfterRounds (next_words rs ps) words lost just n → next ≡ lost_next (given_to_all ps just) (union [] words) lost → lost' ≡ union lost next →
    AfterRounds (next_words rs ps) words lost' next (n + 1)
next_round rs words lost just next lost' ps n so_far is noted =
    let f : List ℕ → List ℕ = next_words rs ps in
    let m : ℕ = so_far.before in
    let old : List ℕ = repeat m f words in
    let here : List ℕ = repeat n f words in
    let here_is : here ≡ f old = ap (λ (k : ℕ). repeat k f words) so_far.number ∙ repeat_last m f words in
    let given : List ℕ = given_to_all ps just in
    let given_is : (x : ℕ) → has_number x given ≡ has_number x (given_to_all ps (without old here)) = λ x. given_same x ps just (without old here) so_far.taken in
    let one_on : n + 1 ≡ suc n = omega arith in
    let after : repeat (n + 1) f words ≡ without here given =
    ap (λ (k : ℕ). repeat k f words) one_on ∙ repeat_last n f words ∙ ap f here_is ∙ round_after rs old ps
    ∙ sym (ap (λ (ws : List ℕ). without ws (given_to_all ps (without old ws))) here_is)
    ∙ same_on (λ x. not (has_number x (given_to_all ps (without old here)))) (λ x. not (has_number x given)) here (λ x there. ap not (sym (given_is x))) in
    let has_next : (x : ℕ) → has_number x next ≡ ((has_number x given && has_number x words) && not (has_number x lost)) =
    λ x. ap (has_number x) is ∙ has_once x (without (filter (λ x. has_number x (union [] words)) given) lost) ∙ has_without x (filter (λ x. has_number x (union [] words)) given) lost
    ∙ ap (λ (b : Bool). b && not (has_number x lost)) (has_filter x (λ x. has_number x (union [] words)) given ∙ ap (λ (b : Bool). has_number x given && b) (has_once x words)) in
    record {
      before = n;
      number = omega arith;
      left =
          same_on (λ x. not (has_number x lost')) (λ x. not (has_number x lost) && not (has_number x given)) words (λ x there.
          ap not (ap (has_number x) noted ∙ has_union x lost next ∙ ap (λ (b : Bool). has_number x lost || b) (has_next x))
          ∙ lost_more (has_number x given) (has_number x words) (has_number x lost) there)
          ∙ sym (filter_twice (λ x. not (has_number x lost)) (λ x. not (has_number x given)) words)
          ∙ ap (λ (ws : List ℕ). without ws given) so_far.left ∙ sym after;
      taken = λ x.
          has_next x
          ∙ taken_here (has_number x given) (has_number x words) (has_number x lost) (has_number x here) (ap (has_number x) (sym so_far.left) ∙ has_without x words lost)
          ∙ sym (has_without x here (repeat (n + 1) f words) ∙ ap (λ (b : Bool). has_number x here && not b) (ap (has_number x) after ∙ has_without x here given));
    }

pub all_rounds : {f : List ℕ → List ℕ} {words lost just : List ℕ} {n m : ℕ} → AfterRounds f words lost just n → n ≡ m → without words lost ≡ repeat m f words
all_rounds {f} {words} so_far all = so_far.left ∙ ap (λ (k : ℕ). repeat k f words) all

-- ---- the table of what is given

given_each : (f g : ℕ → List ℕ) → ((y : ℕ) → f y ≡ g y) → (ys : List ℕ) → flat_map f ys ≡ flat_map g ys
given_each f g h [] = refl
given_each f g h (y ∷ ys) = ap (λ (xs : List ℕ). xs ++ flat_map f ys) (h y) ∙ ap (λ (xs : List ℕ). g y ++ xs) (given_each f g h ys)

pub told : (ps : List Part) (at : ℕ → List ℕ) (ys : List ℕ) → ((y : ℕ) → at y ≡ given_to ps y) → flat_map at ys ≡ given_to_all ps ys
told ps at ys h = given_each at (given_to ps) h ys

pub some_there : (xs : List ℕ) (b : Bool) → b ≡ (length xs == 0) → b ≡ false → 0 < length xs
some_there [] b e h = absurd (true≢false (sym e ∙ h))
some_there (x ∷ xs) b e h = omega arith
