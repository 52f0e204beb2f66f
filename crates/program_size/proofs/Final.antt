-- What is known of the forms that were added is the size of their program.
use Rattle.std.specs.Prelude.{◌≡◌, ◌↔◌, refl, ℕ, ◌+◌, ◌*◌, ◌<◌, min, nat_lt, nat_eq, ℤ, Bool, true, false, not, List, [], ◌∷◌, ◌++◌, length, map, filter, sum_by, Contains, IsTrue}
use Rattle.std.specs.Ordering.{int_eq}
use Rattle.std.specs.Cmp.{int_eq_equiv}
use Rattle.std.specs.HashSet as set
use Rattle.std.specs.Set.{is_member}
use Rattle.std.specs.List.{enumerate_from, IsDistinct}
use Rattle.std.proofs.Common.{arith, ap, sym, ◌∙◌}
use Rattle.std.proofs.lemmas.Bool.Decides.{Decides-int_eq, nat_tests}
use Rattle.std.proofs.lemmas.Map.Made.{is_member-Decides, AllPairs-from_IsDistinct, IsDistinct-from_AllPairs, length-from_same_keys}
use Rattle.std.proofs.lemmas.List.Sums.{sum_by-append, sum_by-cons}
use Rattle.lisp_base.specs.declared.values.Val.{Val}
use Rattle.lisp_base.specs.declared.values.Val.TheVariants.{Int, Char, Sym, Ref}
use Rattle.lisp_base.specs.Sort.{object}
use Rattle.lisp_base.specs.Tables.{Object}
use Rattle.core_form.specs.State.{is_fixnum}
use Rattle.core_form.specs.Counting.{plus, greatest_count}
use Rattle.core_form.specs.Lawful.{values_in}
use Rattle.program_size.specs.declared.sizes.Sizes.{Sizes}
use Rattle.program_size.specs.Mentions.{Sized, Function, Mentions, in_form, in_function, inside, data_of}
use Rattle.program_size.specs.Sizes.{object_words, Size, HasSize, is_past_limits, IsTooLarge, most_nodes, most_copies, most_words}
use Rattle.program_size.specs.Marking.{is_kept, has, words_seen}
use Rattle.program_size.specs.Counting.{holds, held_sum, Counts}
use Rattle.program_size.proofs.Sums.{total_by}
use Rattle.program_size.proofs.Places.{at_contains}
use Rattle.program_size.proofs.Chosen.{Tells, chosen, chosen_is}
use Rattle.program_size.proofs.Grown.{inside_there, mentioned_there}

inside_kept : (heap : List Object) (u w : Val) → Contains (values_in (data_of heap) u) w → is_kept heap u ≡ true
inside_kept heap (Int z) w h = absurd (let l : h.0 < 0 = h.1 in omega (arith, l))
inside_kept heap (Char c) w h = absurd (let l : h.0 < 0 = h.1 in omega (arith, l))
inside_kept heap (Sym s) w h = refl
inside_kept heap (Ref o) w h = inside_there heap (Ref o) w h

same_bool : (a b : Bool) → (a ≡ true → b ≡ true) → (b ≡ true → a ≡ true) → a ≡ b
same_bool true b f g = sym (f refl)
same_bool false true f g = g refl
same_bool false false f g = refl

not_false : (b : Bool) → not b ≡ true → b ≡ false
not_false true e = cc
not_false false e = refl

sum_by-map : {A B : Type 0} (f : B → ℕ) (g : A → B) (xs : List A) → sum_by f (map g xs) ≡ sum_by (λ x. f (g x)) xs
sum_by-map f g [] = refl
sum_by-map f g (x ∷ xs) = sum_by-cons f (g x) (map g xs) ∙ (ap (λ k. f (g x) + k) (sum_by-map f g xs) ∙ sym (sum_by-cons (λ y. f (g y)) x xs))

past : (limit a n g : ℕ) → limit < g → a ≡ min n g → nat_lt limit a ≡ nat_lt limit n
past limit a n g l e = grind (arith, nat_tests)

words_sum : (a w k n g : ℕ) → a ≡ min (0 + w) g → n ≡ w + k → min (a + k) g ≡ min n g
words_sum a w k n g e h = omega (arith, e, h)

module _ (s : Sizes) (prelude : List Function) (heap : List Object) (forms : List Sized) (c : Counts s prelude heap forms) where
  all_seen : (w : Val) → Mentions heap prelude forms w → is_kept heap w ≡ true → has s.marks w ≡ true
  all_seen _ (in_form f v h k) kept = c.agrees.seen f v h k kept
  all_seen _ (in_function f v h m k) kept =
      let at = at_contains prelude f h in
      c.agrees.held_seen at.0 f v at.1 (c.complete c.quiet at.0 f at.1 (all_seen (Sym f.name) m refl)) k kept
  all_seen _ (inside u v m k) kept = c.agrees.closed u v (all_seen u m (inside_kept heap u v k)) k kept

  abbrev named : Function → Bool
  named f = has s.marks (Sym f.name)

  tells_functions : Tells (λ (f : Function). Mentions heap prelude forms (Sym f.name)) (λ (f : Function). has s.marks (Sym f.name))
  tells_functions = record { yes = λ f h. c.agrees.sound (Sym f.name) h; all = λ f m. all_seen (Sym f.name) m refl }

  tells_objects : Tells (λ (e : ℕ × Object). Mentions heap prelude forms (Ref (object e.0))) (λ (e : ℕ × Object). set.contains nat_eq s.marks.objects e.0)
  tells_objects = record {
    yes = λ e h. c.agrees.sound (Ref (object e.0)) h;
    all = λ e m. all_seen (Ref (object e.0)) m (mentioned_there heap [] prelude forms c.forms_there c.prelude_there (Ref (object e.0)) m);
  }

  pub mentions_is : (name : _) → IsTrue (has s.marks (Sym name)) ↔ Mentions heap prelude forms (Sym name)
  mentions_is name = (λ h. c.agrees.sound (Sym name) h, λ m. all_seen (Sym name) m refl)

  boxed : (z : ℤ) → Contains s.marks.integers.keys z ↔ ((is_fixnum z ≡ false) × Mentions heap prelude forms (Int z))
  boxed z = (to, from)
    where
      to : Contains s.marks.integers.keys z → (is_fixnum z ≡ false) × Mentions heap prelude forms (Int z)
      to h =
          let seen : has s.marks (Int z) ≡ true = (is_member-Decides Decides-int_eq s.marks.integers.keys z).1 h in
          (not_false (is_fixnum z) (c.agrees.kept (Int z) seen), c.agrees.sound (Int z) seen)

      from : (is_fixnum z ≡ false) × Mentions heap prelude forms (Int z) → Contains s.marks.integers.keys z
      from h = (is_member-Decides Decides-int_eq s.marks.integers.keys z).0 (all_seen (Int z) h.1 (ap not h.0))

  held_is : (count : Sized → ℕ) → held_sum count s prelude ≡ sum_by (λ f. count f.form) (filter (λ (f : Function). has s.marks (Sym f.name)) prelude)
  held_is count =
      total_by (holds s) (λ (f : Function). has s.marks (Sym f.name)) (λ f. count f.form) 0 prelude
      (λ k f is. ap (holds s) (let e : 0 + k ≡ k = omega arith in e) ∙ same_bool (holds s k) (has s.marks (Sym f.name)) (c.agrees.held_named k f is) (c.complete c.quiet k f is))

  counted : (count : Sized → ℕ) (functions : List Function) → functions ≡ filter (λ (f : Function). has s.marks (Sym f.name)) prelude →
      sum_by count (forms ++ map (λ f. f.form) functions) ≡ sum_by count forms + held_sum count s prelude
  counted count functions e =
      sum_by-append count forms (map (λ f. f.form) functions)
      ∙ ap (λ k. sum_by count forms + k)
      (sum_by-map count (λ (f : Function). f.form) functions ∙ (ap (λ fs. sum_by (λ (f : Function). count f.form) fs) e ∙ sym (held_is count)))

  module _ (unique : IsDistinct int_eq s.marks.integers.keys) where
    has_size : (size : Size) × HasSize heap prelude forms size
    has_size =
        let functions = filter (λ (f : Function). has s.marks (Sym f.name)) prelude in
        let objects = filter (λ (e : ℕ × Object). set.contains nat_eq s.marks.objects e.0) (enumerate_from 0 heap) in (
          record {
            nodes = sum_by (λ f. f.nodes) (forms ++ map (λ f. f.form) functions);
            copies = sum_by (λ f. f.copies) (forms ++ map (λ f. f.form) functions);
            words = sum_by (λ o. object_words o.1) objects + 2 * length s.marks.integers.keys;
          },
          record {
            functions = functions;
            objects = objects;
            integers = s.marks.integers.keys;
            held = chosen (λ (f : Function). Mentions heap prelude forms (Sym f.name)) (λ (f : Function). has s.marks (Sym f.name)) tells_functions prelude;
            reached = chosen (λ (e : ℕ × Object). Mentions heap prelude forms (Ref (object e.0))) (λ (e : ℕ × Object). set.contains nat_eq s.marks.objects e.0) tells_objects (enumerate_from 0 heap);
            boxed = boxed;
            once = AllPairs-from_IsDistinct Decides-int_eq s.marks.integers.keys unique;
            nodes = refl;
            copies = refl;
            words = refl;
          },
        )

    module _ (size : Size) (h : HasSize heap prelude forms size) where
      functions_are : h.functions ≡ filter (λ (f : Function). has s.marks (Sym f.name)) prelude
      functions_are = chosen_is (λ (f : Function). Mentions heap prelude forms (Sym f.name)) (λ (f : Function). has s.marks (Sym f.name)) tells_functions prelude h.functions h.held

      objects_are : h.objects ≡ filter (λ (e : ℕ × Object). set.contains nat_eq s.marks.objects e.0) (enumerate_from 0 heap)
      objects_are =
          chosen_is (λ (e : ℕ × Object). Mentions heap prelude forms (Ref (object e.0))) (λ (e : ℕ × Object). set.contains nat_eq s.marks.objects e.0) tells_objects (enumerate_from 0 heap) h.objects h.reached

      members : (z : ℤ) → is_member int_eq h.integers z ≡ is_member int_eq s.marks.integers.keys z
      members z =
          let a = is_member-Decides Decides-int_eq h.integers z in
          let b = is_member-Decides Decides-int_eq s.marks.integers.keys z in
          same_bool (is_member int_eq h.integers z) (is_member int_eq s.marks.integers.keys z) (λ e. b.1 ((boxed z).1 ((h.boxed z).0 (a.0 e)))) (λ e. a.1 ((h.boxed z).1 ((boxed z).0 (b.0 e))))

      as_many : length h.integers ≡ length s.marks.integers.keys
      as_many = length-from_same_keys int_eq_equiv h.integers s.marks.integers.keys (IsDistinct-from_AllPairs Decides-int_eq h.integers h.once) unique members

      words_are : size.words ≡ words_seen heap s.marks + 2 * length s.marks.integers.keys
      words_are =
          h.words ∙ (ap (λ os. sum_by (λ (o : ℕ × Object). object_words o.1) os + 2 * length h.integers) objects_are ∙ ap (λ k. words_seen heap s.marks + 2 * k) as_many)

      pub limits : is_past_limits (record { nodes = s.nodes; copies = s.copies; words = plus s.marks.words (2 * length s.marks.integers.keys) }) ≡ is_past_limits size
      unfolding most_nodes most_copies most_words greatest_count
      limits =
          let nodes = past 400000 s.nodes size.nodes greatest_count (omega arith) (c.agrees.nodes ∙ ap (λ k. min k greatest_count) (sym (h.nodes ∙ counted (λ f. f.nodes) h.functions functions_are))) in
          let copies = past 400000 s.copies size.copies greatest_count (omega arith) (c.agrees.copies ∙ ap (λ k. min k greatest_count) (sym (h.copies ∙ counted (λ f. f.copies) h.functions functions_are))) in
          let words =
          past 4194304 (plus s.marks.words (2 * length s.marks.integers.keys)) size.words greatest_count (omega arith)
          (words_sum s.marks.words (words_seen heap s.marks) (2 * length s.marks.integers.keys) size.words greatest_count c.agrees.words words_are) in
          cc

    pub too_large : (result : Bool) → result ≡ is_past_limits (record { nodes = s.nodes; copies = s.copies; words = plus s.marks.words (2 * length s.marks.integers.keys) }) →
        IsTrue result ↔ IsTooLarge heap prelude forms
    too_large result e = (
      λ t. (has_size.0, has_size.1, sym (limits has_size.0 has_size.1) ∙ (sym e ∙ t)),
      λ h. e ∙ (limits h.0 h.1 ∙ h.2),
    )
