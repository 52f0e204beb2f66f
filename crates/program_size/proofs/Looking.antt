-- One look through the prelude, and looks until no name is news.
use Rattle.std.specs.Prelude.{◌≡◌, refl, ℕ, ◌+◌, ◌<◌, ◌≤◌, nat_eq, ◌≢◌, is_some, length, sum_by, Bool, true, false, not, cond, if◌then◌else◌, List, Some, slice_get}
use Rattle.std.specs.HashSet as set
use Rattle.std.specs.Option.{option_map}
use Rattle.std.proofs.Common.{get_or}
use Rattle.std.proofs.lemmas.Option.{slice_get-map}
use Rattle.program_size.specs.declared.prelude_functions.PreludeFunction.{PreludeFunction}
use Rattle.std.proofs.Common.{arith, ap, sym, ◌∙◌, ◌⊎◌, inl, inr}
use Rattle.std.proofs.lemmas.Bool.Decides.{eqb_tells, Decides-eqb}
use Rattle.lisp_base.specs.declared.values.Val.{Val}
use Rattle.lisp_base.specs.declared.values.Val.TheVariants.{Sym}
use Rattle.lisp_base.specs.Tables.{Object}
use Rattle.core_form.specs.Counting.{plus}
use Rattle.program_size.specs.declared.sizes.Sizes.{Sizes}
use Rattle.program_size.specs.Sizes.{object_words}
use Rattle.program_size.specs.Mentions.{Sized, Function, function_of, functions_of}
use Rattle.program_size.specs.Marking.{has, IsSettled, IsWeighed}
use Rattle.program_size.specs.Counting.{holds, held_sum, unheld, news_count, IsComplete, Keeps}
use Rattle.program_size.proofs.Sums.{total_same, total_more}
use Rattle.program_size.proofs.Agreed.{AddsFunction, function_added, now_held, others}
use Rattle.program_size.proofs.Places.{get_below, get_at}

-- nothing that counts is other
pub record IsLike (s n : Sizes) : Type 0 where
  pub marks : (w : Val) → has n.marks w ≡ has s.marks w
  pub objects : n.marks.objects ≡ s.marks.objects
  pub words : n.marks.words ≡ s.marks.words
  pub held : (q : ℕ) → holds n q ≡ holds s q
  pub nodes : n.nodes ≡ s.nodes
  pub copies : n.copies ≡ s.copies

module _ (heap : List Object) (prelude : List Function) (s n : Sizes) (k : IsLike s n) where
  like_settled : (w : Val) → IsSettled heap s.marks w → IsSettled heap n.marks w
  like_settled w h e = k.marks w ∙ h e

  like_sum : (count : Sized → ℕ) → held_sum count n prelude ≡ held_sum count s prelude
  like_sum count = total_same (holds n) (holds s) (λ f. count f.form) 0 prelude (λ q le. k.held q)

  like_weighed : IsWeighed heap s.marks → IsWeighed heap n.marks
  like_weighed h =
      k.words ∙ (h ∙ ap (plus 0) (total_same (set.contains nat_eq s.marks.objects) (set.contains nat_eq n.marks.objects) object_words 0 heap
      (λ q le. ap (λ x. set.contains nat_eq x q) (sym k.objects))))

  pub like_keeps : Keeps heap prelude s n
  like_keeps forms a = record {
    sound = λ w h. a.sound w (sym (k.marks w) ∙ h);
    kept = λ w h. a.kept w (sym (k.marks w) ∙ h);
    seen = λ f v h j. like_settled v (a.seen f v h j);
    held_named = λ i f is h. k.marks (Sym f.name) ∙ a.held_named i f is (sym (k.held i) ∙ h);
    held_seen = λ i f v is h j. like_settled v (a.held_seen i f v is (sym (k.held i) ∙ h) j);
    closed = λ u w h j. like_settled w (a.closed u w (sym (k.marks u) ∙ h) j);
    words = like_weighed a.words;
    nodes = k.nodes ∙ (a.nodes ∙ ap (plus (sum_by (λ f. f.nodes) forms)) (sym (like_sum (λ f. f.nodes))));
    copies = k.copies ∙ (a.copies ∙ ap (plus (sum_by (λ f. f.copies) forms)) (sym (like_sum (λ f. f.copies))));
  }

  pub like_unheld : unheld n prelude ≡ unheld s prelude
  like_unheld = total_same (λ q. not (holds n q)) (λ q. not (holds s q)) (λ f. 1) 0 prelude (λ q le. ap not (k.held q))

-- the first i functions of the prelude were looked at
pub record Looking (heap : List Object) (prelude : List Function) (s0 s : Sizes) (i : ℕ) : Type 0 where
  pub keeps : Keeps heap prelude s0 s
  pub looked : s.marks.news ≡ false → (k : ℕ) (f : Function) → k < i → slice_get prelude k ≡ Some f → has s.marks (Sym f.name) ≡ true → holds s k ≡ true
  pub progress : unheld s prelude + news_count s ≤ unheld s0 prelude

below_cases : (k i : ℕ) → k < i + 1 → (k < i) ⊎ (k ≡ i)
below_cases k i l = by (eqb_tells k i)
  where
    by : ((nat_eq k i ≡ true) × (k ≡ i)) ⊎ ((nat_eq k i ≡ false) × (k ≢ i)) → (k < i) ⊎ (k ≡ i)
    by (inl e) = inr e.1
    by (inr e) = let ne = e.1 in inl (omega (arith, l, ne))

-- the function at i is held, or its name was not seen
pub step_same : (heap : List Object) (prelude : List Function) (s0 s n : Sizes) (i : ℕ) → IsLike s n → n.marks.news ≡ s.marks.news →
    ((f : Function) → slice_get prelude i ≡ Some f → has n.marks (Sym f.name) ≡ true → holds n i ≡ true) → Looking heap prelude s0 s i → Looking heap prelude s0 n (i + 1)
step_same heap prelude s0 s n i k news here l = record {
  keeps = λ forms a. like_keeps heap prelude s n k forms (l.keeps forms a);
  looked = λ e q f lt is h. by (sym news ∙ e) q f is h (below_cases q i lt);
  progress = stays (unheld n prelude) (unheld s prelude) (unheld s0 prelude) (news_count n) (news_count s) (like_unheld heap prelude s n k) (ap (λ (b : Bool). if b then 1 else 0) news) l.progress;
}
  where
    by : s.marks.news ≡ false → (q : ℕ) (f : Function) → slice_get prelude q ≡ Some f → has n.marks (Sym f.name) ≡ true → (q < i) ⊎ (q ≡ i) → holds n q ≡ true
    by e q f is h (inl lt) = k.held q ∙ l.looked e q f lt is (sym (k.marks (Sym f.name)) ∙ h)
    by e q f is h (inr same) = ap (holds n) same ∙ here f (ap (slice_get prelude) (sym same) ∙ is) h

    stays : (a b c x y : ℕ) → a ≡ b → x ≡ y → b + y ≤ c → a + x ≤ c
    stays a b c x y e h le = omega (arith, e, h, le)

-- the function at i was added
pub step_added : (heap : List Object) (prelude : List Function) (s0 s n : Sizes) (i : ℕ) (f : Function) → AddsFunction heap prelude i f s n →
    Looking heap prelude s0 s i → Looking heap prelude s0 n (i + 1)
step_added heap prelude s0 s n i f d l = record {
  keeps = λ forms a. function_added heap prelude forms i f s n (l.keeps forms a) d;
  looked = λ e q g lt is h. by (d.sees.quiet e) q g is (d.sees.no_news e (Sym g.name) refl h) (below_cases q i lt);
  progress = falls (unheld n prelude) (unheld s prelude) (unheld s0 prelude) n.marks.news (news_count s)
      (total_more (λ q. not (holds n q)) (λ q. not (holds s q)) (λ g. 1) i 0 i f prelude (omega arith) d.is (ap not (now_held heap prelude i f s n d)) (ap not d.before)
      (λ q ne. ap not (sym (others heap prelude i f s n d q ne))))
      l.progress;
}
  where
    held_on : (b h : Bool) → h ≡ true → cond b true h ≡ true
    held_on true h e = refl
    held_on false h e = e

    by : s.marks.news ≡ false → (q : ℕ) (g : Function) → slice_get prelude q ≡ Some g → has s.marks (Sym g.name) ≡ true → (q < i) ⊎ (q ≡ i) → holds n q ≡ true
    by e q g is h (inl lt) = d.held q ∙ held_on (nat_eq i q) (holds s q) (l.looked e q g lt is h)
    by e q g is h (inr same) = ap (holds n) same ∙ now_held heap prelude i f s n d

    falls : (a b c : ℕ) (news : Bool) (y : ℕ) → b ≡ a + 1 → b + y ≤ c → a + (if news then 1 else 0) ≤ c
    falls a b c true y e le = omega (arith, e, le)
    falls a b c false y e le = omega (arith, e, le)

-- all functions were looked at
pub ends : (heap : List Object) (prelude : List Function) (s0 s : Sizes) (i : ℕ) → length prelude ≤ i → Looking heap prelude s0 s i → IsComplete prelude s
ends heap prelude s0 s i le l e k f is h =
    let lt = get_below prelude k (ap is_some is) in
    l.looked e k f (omega (arith, lt, le)) is h

-- ---- until no name is news

pub record Holding (heap : List Object) (prelude : List Function) (s0 s : Sizes) : Type 0 where
  pub keeps : Keeps heap prelude s0 s
  pub complete : IsComplete prelude s0 → IsComplete prelude s

-- ---- the three ways through the loop

-- the function of a number, as the loop reads it
pub element : (fs : List PreludeFunction) (i : ℕ) (x : PreludeFunction) → i < length fs → x ≡ get_or fs i x → slice_get (functions_of fs) i ≡ Some (function_of x)
element fs i x lt is = slice_get-map function_of fs i ∙ ap (option_map function_of) (get_at fs i x lt (sym is))

not_true : (b : Bool) → not b ≡ true → b ≡ false
not_true false e = refl
not_true true e = cc

not_false : (b : Bool) → not b ≡ false → b ≡ true
not_false true e = refl
not_false false e = cc

pub not_before : (new h : Bool) → new ≡ not h → new ≡ true → h ≡ false
not_before new h e k = not_true h (sym e ∙ k)

-- it was held before
pub step_held : (heap : List Object) (prelude : List Function) (s0 s n : Sizes) (i : ℕ) (new : Bool) → n.marks ≡ s.marks → n.nodes ≡ s.nodes → n.copies ≡ s.copies →
    new ≡ not (holds s i) → new ≡ false → ((q : ℕ) → holds n q ≡ cond (nat_eq i q) true (holds s q)) → Looking heap prelude s0 s i → Looking heap prelude s0 n (i + 1)
step_held heap prelude s0 s n i new marks nodes copies is_new old held l =
    step_same heap prelude s0 s n i
    (record {
      marks = λ w. ap (λ m. has m w) marks;
      objects = ap (λ m. m.objects) marks;
      words = ap (λ m. m.words) marks;
      held = same;
      nodes = nodes;
      copies = copies;
    })
    (ap (λ m. m.news) marks) (λ f is h. same i ∙ was) l
  where
    was : holds s i ≡ true
    was = not_false (holds s i) (sym is_new ∙ old)

    at : (q : ℕ) (b : Bool) → (b ≡ true → i ≡ q) → cond b true (holds s q) ≡ holds s q
    at q true e = sym (ap (holds s) (sym (e refl)) ∙ was)
    at q false e = refl

    same : (q : ℕ) → holds n q ≡ holds s q
    same q = held q ∙ at q (nat_eq i q) (λ e. (Decides-eqb i q).0 e)

-- its name was not seen
pub step_unnamed : (heap : List Object) (prelude : List Function) (s0 s : Sizes) (i : ℕ) (f : Function) → slice_get prelude i ≡ Some f →
    has s.marks (Sym f.name) ≡ false → Looking heap prelude s0 s i → Looking heap prelude s0 s (i + 1)
step_unnamed heap prelude s0 s i f is none l =
    step_same heap prelude s0 s s i (record { marks = λ w. refl; objects = refl; words = refl; held = λ q. refl; nodes = refl; copies = refl }) refl
    (λ g at h. let same : g ≡ f = cc in let k = ap (λ (x : Function). has s.marks (Sym x.name)) same in cc) l
