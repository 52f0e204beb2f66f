-- A program that isn't too large has few nodes.
use Rattle.std.specs.Prelude.{◌≡◌, ◌≢◌, ◌↔◌, refl, ℕ, zero, suc, ◌+◌, ◌*◌, ◌<◌, ◌≤◌, nat_lt, nat_le, ℤ, Bool, true, false, not, ◌||◌, List, [], ◌∷◌, ◌++◌, length, map, sum_by, Contains, All, AllPairs, Option, Some, None, is_some, slice_get, slice_index_or}
use Rattle.std.specs.List.{enumerate_from}
use Rattle.std.proofs.Common.{arith, ap, subst, ◌∙◌, ◌⊎◌, inl, inr}
use Rattle.std.proofs.lemmas.Bool.Decides.{Decides-int_eq, nat_tests}
use Rattle.std.proofs.lemmas.Map.Made.{is_member-Decides}
use Rattle.std.proofs.lemmas.List.Kept.{AllPairs-cons}
use Rattle.lisp_base.specs.declared.values.Val.{Val}
use Rattle.lisp_base.specs.declared.values.Val.TheVariants.{Int, Char, Sym, Ref}
use Rattle.lisp_base.specs.declared.values.ObjId.{ObjId}
use Rattle.lisp_base.specs.Sort.{object, index_of}
use Rattle.lisp_base.specs.Tables.{Object}
use Rattle.core_form.specs.State as state
use Rattle.core_form.specs.State.{is_fixnum}
use Rattle.core_form.specs.Lawful.{object_of, values_in, values_within}
use Rattle.std.specs.Option.{option_map}
use Rattle.std.proofs.lemmas.Option.{slice_get-map}
use Rattle.program_size.specs.declared.sizes.Sizes.{Sizes}
use Rattle.program_size.specs.Mentions.{Sized, Function, Mentions, in_form, in_function, inside, data_of}
use Rattle.program_size.specs.Sizes.{object_words, Chosen, none, taken, passed, Size, HasSize, is_past_limits, IsTooLarge, most_nodes, most_copies, most_words}
use Rattle.program_size.specs.Marking.{is_kept, has}
use Rattle.program_size.specs.Counting.{Counts}

-- what cannot be refuted
abbrev pub Nearly : Type 0 → Type 0
Nearly A = (A → ⊥) → ⊥

-- ---- lists

nothing_in : {A : Type 0} (x : A) → Contains [] x → ⊥
nothing_in x h = let l : h.0 < 0 = h.1 in absurd (omega (arith, l))

get_at : {A : Type 0} (xs : List A) (k : ℕ) (x : A) → k < length xs → slice_index_or xs k x ≡ x → slice_get xs k ≡ Some x
get_at [] k x l e = absurd (omega (arith, l))
get_at (y ∷ ys) zero x l e = cc
get_at (y ∷ ys) (suc k) x l e = get_at ys k x (omega (arith, l)) e

later : {A : Type 0} (x z : A) (xs : List A) → Contains xs z → Contains (x ∷ xs) z
later x z xs h = (suc h.0, omega (arith, h.1), h.2)

here : {A : Type 0} (x : A) (xs : List A) → Contains (x ∷ xs) x
here x xs = (0, omega arith, refl)

at_first : {A : Type 0} (x z : A) (xs : List A) (k : ℕ) → k < length (x ∷ xs) → slice_index_or (x ∷ xs) k z ≡ z → (x ≡ z) ⊎ Contains xs z
at_first x z xs zero l e = inl e
at_first x z xs (suc k) l e = inr (k, omega (arith, l), e)

first_or : {A : Type 0} (x z : A) (xs : List A) → Contains (x ∷ xs) z → (x ≡ z) ⊎ Contains xs z
first_or x z xs h = at_first x z xs h.0 h.1 h.2

some_chosen : {A : Type 0} (P : A → Type 0) (xs : List A) → Nearly ((ys : List A) × Chosen P xs ys)
some_chosen P [] n = n ([], none)
some_chosen P (x ∷ xs) n =
    some_chosen P xs (λ r.
    let refuted : P x → ⊥ = λ p. n (x ∷ r.0, taken x xs r.0 p r.1) in
    n (r.0, passed x xs r.0 refuted r.1))

pub same_chosen : {A : Type 0} (P : A → Type 0) (xs ys zs : List A) → Chosen P xs ys → Chosen P xs zs → ys ≡ zs
same_chosen P _ _ _ none none = refl
same_chosen P _ _ _ (taken x xs ys p c) (taken _ _ zs q d) = ap (λ l. x ∷ l) (same_chosen P xs ys zs c d)
same_chosen P _ _ _ (taken x xs ys p c) (passed _ _ zs q d) = absurd (q p)
same_chosen P _ _ _ (passed x xs ys p c) (taken _ _ zs q d) = absurd (p q)
same_chosen P _ _ _ (passed x xs ys p c) (passed _ _ zs q d) = same_chosen P xs ys zs c d

pub chosen_along : {A B : Type 0} (make : A → B) (P : B → Type 0) (xs ys : List A) → Chosen (λ x. P (make x)) xs ys → Chosen P (map make xs) (map make ys)
chosen_along make P _ _ none = none
chosen_along make P _ _ (taken x xs ys p c) = taken (make x) (map make xs) (map make ys) p (chosen_along make P xs ys c)
chosen_along make P _ _ (passed x xs ys n c) = passed (make x) (map make xs) (map make ys) n (chosen_along make P xs ys c)

-- a list without repetitions of the same integers
record Spread (xs ys : List ℤ) : Type 0 where
  pub once : AllPairs (λ x y. x ≢ y) ys
  pub back : (z : ℤ) → Contains ys z → Contains xs z
  pub on : (z : ℤ) → Contains xs z → Contains ys z

apart_at : (x y : ℤ) (ys : List ℤ) → (x ≢ y) → All (λ z. x ≢ z) ys → (k : ℕ) (d : ℤ) → k < length (y ∷ ys) → x ≢ slice_index_or (y ∷ ys) k d
apart_at x y ys n rest zero d l = n
apart_at x y ys n rest (suc k) d l = rest k d (omega (arith, l))

apart_from : (x : ℤ) (ys : List ℤ) → (Contains ys x → ⊥) → All (λ y. x ≢ y) ys
apart_from x [] n = λ k d l. absurd (omega (arith, l))
apart_from x (y ∷ ys) n =
    apart_at x y ys (λ e. n (subst (λ z. Contains (z ∷ ys) x) e (here x ys))) (apart_from x ys (λ h. n (later y x ys h)))

spread : (xs : List ℤ) → Nearly ((ys : List ℤ) × Spread xs ys)
spread [] n = n ([], record { once = λ i j d l m. absurd (omega (arith, m)); back = λ z h. h; on = λ z h. h })
spread (x ∷ xs) n =
    spread xs (λ r.
    let new : Contains r.0 x → ⊥ = λ k. n (r.0, record { once = r.1.once; back = λ z h. later x z xs (r.1.back z h); on = λ z h. known r.0 r.1 k z (first_or x z xs h) }) in
    n (x ∷ r.0, record { once = AllPairs-cons (λ (a b : ℤ). a ≢ b) x r.0 (apart_from x r.0 new) r.1.once; back = λ z h. behind r.0 r.1 z (first_or x z r.0 h); on = λ z h. before r.0 r.1 z (first_or x z xs h) }))
  where
    known : (ys : List ℤ) → Spread xs ys → Contains ys x → (z : ℤ) → (x ≡ z) ⊎ Contains xs z → Contains ys z
    known ys s k z (inl e) = subst (Contains ys) e k
    known ys s k z (inr h) = s.on z h

    behind : (ys : List ℤ) → Spread xs ys → (z : ℤ) → (x ≡ z) ⊎ Contains ys z → Contains (x ∷ xs) z
    behind ys s z (inl e) = subst (Contains (x ∷ xs)) e (here x xs)
    behind ys s z (inr h) = later x z xs (s.back z h)

    before : (ys : List ℤ) → Spread xs ys → (z : ℤ) → (x ≡ z) ⊎ Contains xs z → Contains (x ∷ ys) z
    before ys s z (inl e) = subst (Contains (x ∷ ys)) e (here x ys)
    before ys s z (inr h) = later x z ys (s.on z h)

-- ---- values

not_false : (b : Bool) → not b ≡ true → b ≡ false
not_false true e = cc
not_false false e = refl

within_some : (o : ObjId) (x : Option Object) (w : Val) → Contains (values_within (option_map object_of x)) w → is_some x ≡ true
within_some o None w h = absurd (nothing_in w h)
within_some o (Some x) w h = refl

inside_kept : (heap : List Object) (u w : Val) → Contains (values_in (data_of heap) u) w → is_kept heap u ≡ true
inside_kept heap (Int z) w h = absurd (nothing_in w h)
inside_kept heap (Char c) w h = absurd (nothing_in w h)
inside_kept heap (Sym s) w h = refl
inside_kept heap (Ref o) w h =
    within_some o (slice_get heap (index_of o)) w (subst (λ (x : Option state.Object). Contains (values_within x) w) (slice_get-map object_of heap (index_of o)) h)

-- ---- the size of a program

module _ (s : Sizes) (prelude : List Function) (heap : List Object) (forms : List Sized) (c : Counts s prelude heap forms) where
  all_seen : (w : Val) → Mentions heap prelude forms w → is_kept heap w ≡ true → has s.marks w ≡ true
  all_seen _ (in_form f v h k) kept = c.agrees.seen f v h k kept
  all_seen _ (in_function f v h m k) kept =
      let at : slice_get prelude h.0 ≡ Some f = get_at prelude h.0 f h.1 h.2 in
      c.agrees.held_seen h.0 f v at (c.complete c.quiet h.0 f at (all_seen (Sym f.name) m refl)) k kept
  all_seen _ (inside u v m k) kept = c.agrees.closed u v (all_seen u m (inside_kept heap u v k)) k kept

  boxed : (zs : List ℤ) → Spread s.marks.integers.keys zs → (z : ℤ) → Contains zs z ↔ ((is_fixnum z ≡ false) × Mentions heap prelude forms (Int z))
  boxed zs spread z = (to, from)
    where
      to : Contains zs z → (is_fixnum z ≡ false) × Mentions heap prelude forms (Int z)
      to h =
          let seen : has s.marks (Int z) ≡ true = (is_member-Decides Decides-int_eq s.marks.integers.keys z).1 (spread.back z h) in
          (not_false (is_fixnum z) (c.agrees.kept (Int z) seen), c.agrees.sound (Int z) seen)

      from : (is_fixnum z ≡ false) × Mentions heap prelude forms (Int z) → Contains zs z
      from h = spread.on z ((is_member-Decides Decides-int_eq s.marks.integers.keys z).0 (all_seen (Int z) h.1 (ap not h.0)))

  abbrev IsNamed : Function → Type 0
  IsNamed f = Mentions heap prelude forms (Sym f.name)

  abbrev IsHeld : ℕ × Object → Type 0
  IsHeld o = Mentions heap prelude forms (Ref (object o.0))

  -- with these functions of the prelude
  abbrev total : List Function → ℕ
  total functions = sum_by (λ f. f.nodes) (forms ++ map (λ f. f.form) functions)

  size_of : (functions : List Function) (objects : List (ℕ × Object)) (integers : List ℤ) → Chosen IsNamed prelude functions → Chosen IsHeld (enumerate_from 0 heap) objects →
      Spread s.marks.integers.keys integers → (size : Size) × HasSize heap prelude forms size × (size.nodes ≡ total functions)
  size_of functions objects integers held reached spread = (
    record {
      nodes = total functions;
      copies = sum_by (λ f. f.copies) (forms ++ map (λ f. f.form) functions);
      words = sum_by (λ o. object_words o.1) objects + 2 * length integers;
    },
    record {
      functions = functions;
      objects = objects;
      integers = integers;
      held = held;
      reached = reached;
      boxed = boxed integers spread;
      once = spread.once;
      nodes = refl;
      copies = refl;
      words = refl;
    },
    refl,
  )

  few_by : (b : Bool) (size : Size) (n : ℕ) → is_past_limits size ≡ b → (b ≡ true → ⊥) → size.nodes ≡ n → n ≤ 400000
  unfolding most_nodes
  few_by true size n e small is = absurd (small refl)
  few_by false size n e small is =
      let within : nat_lt 400000 size.nodes ≡ false = first_false (nat_lt 400000 size.nodes) _ e in
      grind (arith, nat_tests, within, is)
    where
      first_false : (a b : Bool) → (a || b) ≡ false → a ≡ false
      first_false true b h = h
      first_false false b h = refl

  stable : (n m : ℕ) → Nearly (n ≤ m) → n ≤ m
  stable n m h = by (nat_le n m) refl
    where
      by : (b : Bool) → nat_le n m ≡ b → n ≤ m
      by true e = grind (arith, nat_tests, e)
      by false e = absurd (h (λ l. grind (arith, nat_tests, e, l)))

  pub few_nodes : (IsTooLarge heap prelude forms → ⊥) → (functions : List Function) → Chosen IsNamed prelude functions → total functions ≤ 400000
  few_nodes small functions chosen =
      stable (total functions) 400000
      (λ refuted. some_chosen IsHeld (enumerate_from 0 heap)
      (λ objects. spread s.marks.integers.keys
      (λ integers.
      let made : (size : Size) × HasSize heap prelude forms size × (size.nodes ≡ total functions) = size_of functions objects.0 integers.0 chosen objects.1 integers.1 in
      refuted (few_by (is_past_limits made.0) made.0 (total functions) refl (λ past. small (made.0, made.1, past)) made.2))))

-- ---- a program without forms

module _ (heap : List Object) (prelude : List Function) where
  no_mention : (v : Val) → Mentions heap prelude [] v → ⊥
  no_mention _ (in_form f v h k) = nothing_in f h
  no_mention _ (in_function f v h m k) = no_mention (Sym f.name) m
  no_mention _ (inside u v m k) = no_mention u m

  none_chosen : {A : Type 0} (P : A → Type 0) (xs ys : List A) → ((x : A) → P x → ⊥) → Chosen P xs ys → ys ≡ []
  none_chosen P _ _ n none = refl
  none_chosen P _ _ n (taken x xs ys p c) = absurd (n x p)
  none_chosen P _ _ n (passed x xs ys q c) = none_chosen P xs ys n c

  no_integers : (zs : List ℤ) → ((z : ℤ) → Contains zs z → ⊥) → zs ≡ []
  no_integers [] n = refl
  no_integers (z ∷ zs) n = absurd (n z (here z zs))

  pub none_large : IsTooLarge heap prelude [] → ⊥
  unfolding most_nodes most_copies most_words
  none_large large =
      let h = large.1 in
      let functions = none_chosen (λ (f : Function). Mentions heap prelude [] (Sym f.name)) prelude h.functions (λ f m. no_mention (Sym f.name) m) h.held in
      let objects = none_chosen (λ (o : ℕ × Object). Mentions heap prelude [] (Ref (object o.0))) (enumerate_from 0 heap) h.objects (λ o m. no_mention (Ref (object o.0)) m) h.reached in
      let integers = no_integers h.integers (λ z k. no_mention (Int z) ((h.boxed z).0 k).1) in
      let nodes : large.0.nodes ≡ 0 = h.nodes ∙ ap (λ (fs : List Function). sum_by (λ f. f.nodes) (map (λ f. f.form) fs)) functions in
      let copies : large.0.copies ≡ 0 = h.copies ∙ ap (λ (fs : List Function). sum_by (λ f. f.copies) (map (λ f. f.form) fs)) functions in
      let words : large.0.words ≡ 0 = h.words ∙ (ap (λ (os : List (ℕ × Object)). sum_by (λ o. object_words o.1) os + 2 * length h.integers) objects ∙ ap (λ (zs : List ℤ). sum_by (λ (o : ℕ × Object). object_words o.1) [] + 2 * length zs) integers) in
      not_past (nodes, copies, words) large.2
    where
      not_past : (large.0.nodes ≡ 0) × (large.0.copies ≡ 0) × (large.0.words ≡ 0) → is_past_limits large.0 ≡ true → ⊥
      not_past z past =
          let q : false ≡ true = rw (z.0, z.1, z.2) at past in
          absurd (cc)
