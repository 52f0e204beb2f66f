-- What a form or a function of the prelude that is added leaves so.
use Rattle.std.specs.Prelude.{◌≡◌, refl, ℕ, ◌+◌, nat_eq, Bool, true, false, cond, List, [], ◌∷◌, ◌++◌, Contains, Some, slice_get, sum_by}
use Rattle.std.specs.HashSet as set
use Rattle.std.proofs.Common.{arith, ap, sym, subst, ◌∙◌, ◌⊎◌, inl, inr}
use Rattle.std.proofs.lemmas.Bool.Decides.{Decides-eqb}
use Rattle.std.proofs.lemmas.List.Sums.{sum_by_push}
use Rattle.std.proofs.lemmas.List.Elements.{Contains-append_left, Contains-push, Contains-push_cases}
use Rattle.lisp_base.specs.declared.values.Val.{Val}
use Rattle.lisp_base.specs.declared.values.Val.TheVariants.{Sym}
use Rattle.lisp_base.specs.Tables.{Object}
use Rattle.core_form.specs.Counting.{plus}
use Rattle.core_form.specs.Lawful.{Reaches, itself, within, values_in}
use Rattle.program_size.specs.declared.marks.Marks.{Marks}
use Rattle.program_size.specs.declared.sizes.Sizes.{Sizes}
use Rattle.program_size.specs.Mentions.{Sized, Function, Mentions, in_form, in_function, inside, data_of, mentioned}
use Rattle.program_size.specs.Marking.{is_kept, has, IsSettled, IsReached, Sees}
use Rattle.program_size.specs.Counting.{holds, held_sum, Agrees, Includes}
use Rattle.program_size.proofs.Sums.{total_same, total_more}
use Rattle.program_size.proofs.Places.{contains_at}

-- what is mentioned reaches only what is mentioned
reach_mentions : (heap : List Object) (prelude : List Function) (forms : List Sized) (v w : Val) → Mentions heap prelude forms v →
    Reaches (data_of heap) v w → Mentions heap prelude forms w
reach_mentions heap prelude forms v _ m itself = m
reach_mentions heap prelude forms v _ m (within u w r h) = inside u w (reach_mentions heap prelude forms v u m r) h

more_forms : (heap : List Object) (prelude : List Function) (forms : List Sized) (x : Sized) (w : Val) → Mentions heap prelude forms w → Mentions heap prelude (forms ++ x ∷ []) w
more_forms heap prelude forms x _ (in_form f v h k) = in_form f v (Contains-append_left forms (x ∷ []) f h) k
more_forms heap prelude forms x _ (in_function f v h m k) = in_function f v h (more_forms heap prelude forms x (Sym f.name) m) k
more_forms heap prelude forms x _ (inside u v m k) = inside u v (more_forms heap prelude forms x u m) k

settled_on : (heap : List Object) (vs : List Val) (m n : Marks) → Sees heap vs m n → (w : Val) → IsSettled heap m w → IsSettled heap n w
settled_on heap vs m n s w h k = s.grows w (h k)

closed_on : (heap : List Object) (vs : List Val) (m n : Marks) → Sees heap vs m n → ((u w : Val) → has m u ≡ true → Contains (values_in (data_of heap) u) w → IsSettled heap m w) →
    (u w : Val) → Contains (values_in (data_of heap) u) w → (has m u ≡ true) ⊎ IsSettled heap n w → IsSettled heap n w
closed_on heap vs m n s closed u w k (inl h) = settled_on heap vs m n s w (closed u w h k)
closed_on heap vs m n s closed u w k (inr h) = h

kept_on : (heap : List Object) (vs : List Val) (m : Marks) (w : Val) → ((w : Val) → has m w ≡ true → is_kept heap w ≡ true) →
    (has m w ≡ true) ⊎ (IsReached heap vs w × (is_kept heap w ≡ true)) → is_kept heap w ≡ true
kept_on heap vs m w kept (inl h) = kept w h
kept_on heap vs m w kept (inr h) = h.1

plus_forms : (a b f h n g : ℕ) → a ≡ plus b n → b ≡ plus f h → g ≡ f + n → a ≡ plus g h
plus_forms a b f h n g e k l = omega (arith, e, k, l)

plus_held : (a b f h n g : ℕ) → a ≡ plus b n → b ≡ plus f h → g ≡ h + n → a ≡ plus f g
plus_held a b f h n g e k l = omega (arith, e, k, l)

-- ---- a form

module _ (heap : List Object) (prelude : List Function) (forms : List Sized) (x : Sized) (s n : Sizes)
    (a : Agrees heap prelude forms s) (i : Includes heap x s n) where
  form_sound : (w : Val) → (has s.marks w ≡ true) ⊎ (IsReached heap (mentioned x.core) w × (is_kept heap w ≡ true)) → Mentions heap prelude (forms ++ x ∷ []) w
  form_sound w (inl h) = more_forms heap prelude forms x w (a.sound w h)
  form_sound w (inr h) =
      reach_mentions heap prelude (forms ++ x ∷ []) h.0.0 w (in_form x h.0.0 (Contains-push forms x) h.0.1) h.0.2

  form_seen : (f : Sized) (v : Val) → Contains (mentioned f.core) v → Contains forms f ⊎ (x ≡ f) → IsSettled heap n.marks v
  form_seen f v k (inl h) = settled_on heap (mentioned x.core) s.marks n.marks i.sees v (a.seen f v h k)
  form_seen f v k (inr e) = i.sees.seen v (subst (λ (y : Sized). Contains (mentioned y.core) v) (sym e) k)

  same_holds : (q : ℕ) → holds n q ≡ holds s q
  same_holds q = ap (λ h. set.contains nat_eq h q) i.held

  same_sum : (count : Sized → ℕ) → held_sum count n prelude ≡ held_sum count s prelude
  same_sum count = total_same (holds n) (holds s) (λ f. count f.form) 0 prelude (λ q le. same_holds q)

  form_count : (count : Sized → ℕ) (c d : ℕ) → d ≡ plus c (count x) → c ≡ plus (sum_by count forms) (held_sum count s prelude) →
      d ≡ plus (sum_by count (forms ++ x ∷ [])) (held_sum count n prelude)
  form_count count c d e k =
      plus_forms d c (sum_by count forms) (held_sum count s prelude) (count x) (sum_by count (forms ++ x ∷ [])) e k (sum_by_push count forms x)
      ∙ ap (λ h. plus (sum_by count (forms ++ x ∷ [])) h) (sym (same_sum count))

  pub form_added : Agrees heap prelude (forms ++ x ∷ []) n
  form_added = record {
    sound = λ w h. form_sound w (i.sees.sound w h);
    kept = λ w h. kept_on heap (mentioned x.core) s.marks w a.kept (i.sees.sound w h);
    seen = λ f v h k. form_seen f v k (Contains-push_cases forms x f h);
    held_named = λ q f is h. i.sees.grows (Sym f.name) (a.held_named q f is (sym (same_holds q) ∙ h));
    held_seen = λ q f v is h k. settled_on heap (mentioned x.core) s.marks n.marks i.sees v (a.held_seen q f v is (sym (same_holds q) ∙ h) k);
    closed = λ u w h k. closed_on heap (mentioned x.core) s.marks n.marks i.sees a.closed u w k (i.sees.closed u w h k);
    words = i.sees.words a.words;
    nodes = form_count (λ f. f.nodes) s.nodes n.nodes i.nodes a.nodes;
    copies = form_count (λ f. f.copies) s.copies n.copies i.copies a.copies;
  }

-- ---- a function of the prelude

-- the function of this number was added
pub record AddsFunction (heap : List Object) (prelude : List Function) (i : ℕ) (f : Function) (s n : Sizes) : Type 0 where
  pub is : slice_get prelude i ≡ Some f
  pub named : has s.marks (Sym f.name) ≡ true
  pub before : holds s i ≡ false
  pub held : (q : ℕ) → holds n q ≡ cond (nat_eq i q) true (holds s q)
  pub sees : Sees heap (mentioned f.form.core) s.marks n.marks
  pub nodes : n.nodes ≡ plus s.nodes f.form.nodes
  pub copies : n.copies ≡ plus s.copies f.form.copies

held_cases : (i q : ℕ) (h : Bool) → cond (nat_eq i q) true h ≡ true → (i ≡ q) ⊎ (h ≡ true)
held_cases i q h e = by (nat_eq i q) (λ k. (Decides-eqb i q).0 k) e
  where
    by : (b : Bool) → (b ≡ true → i ≡ q) → cond b true h ≡ true → (i ≡ q) ⊎ (h ≡ true)
    by true k e = inl (k refl)
    by false k e = inr e

module _ (heap : List Object) (prelude : List Function) (i : ℕ) (f : Function) (s n : Sizes) (d : AddsFunction heap prelude i f s n) where
  pub others : (q : ℕ) → (q ≡ i → ⊥) → holds n q ≡ holds s q
  others q ne = d.held q ∙ by (nat_eq i q) (λ e. ne (sym ((Decides-eqb i q).0 e)))
    where
      by : (b : Bool) → (b ≡ true → ⊥) → cond b true (holds s q) ≡ holds s q
      by true h = absurd (h refl)
      by false h = refl

  pub now_held : holds n i ≡ true
  now_held = d.held i ∙ ap (λ b. cond b true (holds s i)) ((Decides-eqb i i).1 refl)

module _ (heap : List Object) (prelude : List Function) (forms : List Sized) (i : ℕ) (f : Function) (s n : Sizes)
    (a : Agrees heap prelude forms s) (d : AddsFunction heap prelude i f s n) where
  function_sound : (w : Val) → (has s.marks w ≡ true) ⊎ (IsReached heap (mentioned f.form.core) w × (is_kept heap w ≡ true)) → Mentions heap prelude forms w
  function_sound w (inl h) = a.sound w h
  function_sound w (inr h) =
      reach_mentions heap prelude forms h.0.0 w
      (in_function f h.0.0 (contains_at prelude i f d.is) (a.sound (Sym f.name) d.named) h.0.1) h.0.2

  same_function : (g : Function) → slice_get prelude i ≡ Some g → f ≡ g
  same_function g is = let k = d.is in cc

  function_named : (q : ℕ) (g : Function) → slice_get prelude q ≡ Some g → (i ≡ q) ⊎ (holds s q ≡ true) → has n.marks (Sym g.name) ≡ true
  function_named q g is (inl e) =
      let same : f ≡ g = same_function g (ap (slice_get prelude) e ∙ is) in
      d.sees.grows (Sym g.name) (ap (λ x. has s.marks (Sym x.name)) (sym same) ∙ d.named)
  function_named q g is (inr h) = d.sees.grows (Sym g.name) (a.held_named q g is h)

  function_seen : (q : ℕ) (g : Function) (v : Val) → slice_get prelude q ≡ Some g → Contains (mentioned g.form.core) v → (i ≡ q) ⊎ (holds s q ≡ true) → IsSettled heap n.marks v
  function_seen q g v is k (inl e) =
      let same : f ≡ g = same_function g (ap (slice_get prelude) e ∙ is) in
      d.sees.seen v (subst (λ (x : Function). Contains (mentioned x.form.core) v) (sym same) k)
  function_seen q g v is k (inr h) = settled_on heap (mentioned f.form.core) s.marks n.marks d.sees v (a.held_seen q g v is h k)

  function_count : (count : Sized → ℕ) (c e : ℕ) → e ≡ plus c (count f.form) → c ≡ plus (sum_by count forms) (held_sum count s prelude) →
      e ≡ plus (sum_by count forms) (held_sum count n prelude)
  function_count count c e h k =
      plus_held e c (sum_by count forms) (held_sum count s prelude) (count f.form) (held_sum count n prelude) h k
      (total_more (holds s) (holds n) (λ g. count g.form) i 0 i f prelude (omega arith) d.is d.before (now_held heap prelude i f s n d) (others heap prelude i f s n d))

  pub function_added : Agrees heap prelude forms n
  function_added = record {
    sound = λ w h. function_sound w (d.sees.sound w h);
    kept = λ w h. kept_on heap (mentioned f.form.core) s.marks w a.kept (d.sees.sound w h);
    seen = λ x v h k. settled_on heap (mentioned f.form.core) s.marks n.marks d.sees v (a.seen x v h k);
    held_named = λ q g is h. function_named q g is (held_cases i q (holds s q) (sym (d.held q) ∙ h));
    held_seen = λ q g v is h k. function_seen q g v is k (held_cases i q (holds s q) (sym (d.held q) ∙ h));
    closed = λ u w h k. closed_on heap (mentioned f.form.core) s.marks n.marks d.sees a.closed u w k (d.sees.closed u w h k);
    words = d.sees.words a.words;
    nodes = function_count (λ x. x.nodes) s.nodes n.nodes d.nodes a.nodes;
    copies = function_count (λ x. x.copies) s.copies n.copies d.copies a.copies;
  }
