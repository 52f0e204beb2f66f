-- What is counted to begin with, and after one form more.
use Rattle.std.specs.Prelude.{◌≡◌, refl, ℕ, ◌+◌, min, nat_eq, ◌<◌, true, false, List, [], ◌∷◌, ◌++◌, Contains}
use Rattle.std.specs.Prelude.{Result, Ok, Err, OnOk}
use Rattle.std.specs.Ordering.{int_eq}
use Rattle.std.specs.HashSet as set
use Rattle.std.specs.List.{list_any}
use Rattle.std.proofs.Common.{arith, ap, sym, subst, ◌∙◌, ◌⊎◌, inl, inr}
use Rattle.std.proofs.lemmas.List.Elements.{Contains-push_cases}
use Rattle.lisp_base.specs.declared.values.Val.{Val}
use Rattle.lisp_base.specs.declared.values.Val.TheVariants.{Int, Char, Sym, Ref}
use Rattle.lisp_base.specs.Tables.{Object}
use Rattle.core_form.specs.Counting.{greatest_count}
use Rattle.program_size.specs.declared.sizes.Sizes.{Sizes}
use Rattle.program_size.specs.Sizes.{object_words}
use Rattle.program_size.specs.Mentions.{Sized, Function, mentioned}
use Rattle.program_size.specs.Marking.{has, IsEmpty, words_seen}
use Rattle.program_size.specs.Counting.{AreThere, PreludeIsThere, holds, held_sum, Agrees, IsComplete, Counts, Includes, Keeps, Adds}
use Rattle.program_size.proofs.Sums.{total_none}
use Rattle.program_size.proofs.Quoted.{quoted_there}
use Rattle.program_size.proofs.Agreed.{form_added}
use Rattle.program_size.proofs.Grown.{agrees_on, are_there_on}

-- ---- to begin with

module _ (s : Sizes) (empty : IsEmpty s.marks) (none : s.held.keys ≡ []) where
  has_none : (w : Val) → has s.marks w ≡ false
  has_none (Int z) = ap (λ ks. list_any (int_eq z) ks) empty.integers
  has_none (Char c) = refl
  has_none (Sym x) = ap (λ ks. list_any (nat_eq x.0) ks) empty.symbols
  has_none (Ref o) = ap (λ ks. list_any (nat_eq o.0) ks) empty.objects

  holds_none : (q : ℕ) → holds s q ≡ false
  holds_none q = ap (λ ks. list_any (nat_eq q) ks) none

  never : {A : Type 0} (w : Val) → has s.marks w ≡ true → A
  never w h = let e = has_none w in cc

  never_held : {A : Type 0} (q : ℕ) → holds s q ≡ true → A
  never_held q h = let e = holds_none q in cc

  no_sum : (a n m g : ℕ) → a ≡ 0 → n ≡ 0 → m ≡ 0 → a ≡ min (n + m) g
  no_sum a n m g e h k = omega (arith, e, h, k)

  no_held : (count : Sized → ℕ) (prelude : List Function) → held_sum count s prelude ≡ 0
  no_held count prelude = total_none (holds s) (λ f. count f.form) 0 prelude (λ q le. holds_none q)

  pub begun : s.nodes ≡ 0 → s.copies ≡ 0 → (prelude : List Function) (heap : List Object) →
      PreludeIsThere heap prelude → Counts s prelude heap []
  begun nodes copies prelude heap there = record {
    agrees = record {
      sound = λ w h. never w h;
      kept = λ w h. never w h;
      seen = λ f v h k. absurd (let l : h.0 < 0 = h.1 in omega (arith, l));
      held_named = λ i f is h. never_held i h;
      held_seen = λ i f v is h k. never_held i h;
      closed = λ u w h k. never u h;
      words = no_sum s.marks.words 0 (words_seen heap s.marks) greatest_count empty.words refl (total_none (set.contains nat_eq s.marks.objects) object_words 0 heap (λ q le. ap (λ ks. list_any (nat_eq q) ks) empty.objects));
      nodes = no_sum s.nodes 0 (held_sum (λ f. f.nodes) s prelude) greatest_count nodes refl (no_held (λ f. f.nodes) prelude);
      copies = no_sum s.copies 0 (held_sum (λ f. f.copies) s prelude) greatest_count copies refl (no_held (λ f. f.copies) prelude);
    };
    complete = λ e i f is h. never (Sym f.name) h;
    quiet = empty.news;
    forms_there = λ f h. absurd (let l : h.0 < 0 = h.1 in omega (arith, l));
    prelude_there = λ f h. quoted_there heap f.form.core (there f h);
  }

-- ---- one form more

module _ (heap : List Object) (prelude : List Function) (x : Sized) (s m n : Sizes) (included : Includes heap x s m) (keeps : Keeps heap prelude m n)
    (completes : IsComplete prelude m → IsComplete prelude n) (quiet : n.marks.news ≡ false) where
  complete_still : IsComplete prelude s → IsComplete prelude m
  complete_still c e i f is h =
      ap (λ k. set.contains nat_eq k i) included.held ∙ c (included.sees.quiet e) i f is (included.sees.no_news e (Sym f.name) refl h)

  pub added : Adds heap prelude x s n
  added old more forms e there counts = record {
    agrees = keeps (forms ++ x ∷ []) (form_added heap prelude forms x s m (subst (λ (h : List Object). Agrees h prelude forms s) (sym e) (agrees_on old more s prelude forms counts)) included);
    complete = completes (complete_still counts.complete);
    quiet = quiet;
    forms_there = λ f h. by f (Contains-push_cases forms x f h);
    prelude_there = λ f h. onward (mentioned f.form.core) (counts.prelude_there f h);
  }
    where
      onward : (vs : List Val) → AreThere old vs → AreThere heap vs
      onward vs h = subst (λ (k : List Object). AreThere k vs) (sym e) (are_there_on old more vs h)

      by : (f : Sized) → Contains forms f ⊎ (x ≡ f) → AreThere heap (mentioned f.core)
      by f (inl h) = onward (mentioned f.core) (counts.forms_there f h)
      by f (inr h) = subst (λ (y : Sized). AreThere heap (mentioned y.core)) h (quoted_there heap x.core there)

pub added_on : {A E : Type 0} (heap : List Object) (prelude : List Function) (x : Sized) (s m n : Sizes) (r : Result A E) → Includes heap x s m →
    OnOk r (Keeps heap prelude m n) → OnOk r (IsComplete prelude m → IsComplete prelude n) → OnOk r (n.marks.news ≡ false) → OnOk r (Adds heap prelude x s n)
added_on heap prelude x s m n (Ok a) i keeps completes quiet = added heap prelude x s m n i keeps completes quiet
added_on heap prelude x s m n (Err e) i keeps completes quiet = tt
