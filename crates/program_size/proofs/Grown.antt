-- What was so of a heap is so of one that holds it and more.
use Rattle.std.specs.Prelude.{◌≡◌, refl, ℕ, ◌+◌, ◌≤◌, ◌<◌, nat_eq, Bool, true, false, List, [], ◌++◌, length, Contains, Option, Some, None, is_some, slice_get}
use Rattle.std.specs.HashSet as set
use Rattle.std.proofs.Common.{arith, ap, sym, subst, ◌∙◌, ◌⊎◌, inl, inr}
use Rattle.lisp_base.specs.declared.values.ObjId.{ObjId}
use Rattle.lisp_base.specs.declared.values.Val.{Val}
use Rattle.lisp_base.specs.declared.values.Val.TheVariants.{Int, Char, Sym, Ref}
use Rattle.lisp_base.specs.Sort.{object}
use Rattle.lisp_base.specs.Tables.{Object}
use Rattle.core_form.specs.Counting.{plus}
use Rattle.core_form.specs.Lawful.{Reaches, itself, within, values_in}
use Rattle.program_size.specs.declared.sizes.Sizes.{Sizes}
use Rattle.program_size.specs.Sizes.{object_words}
use Rattle.program_size.specs.Mentions.{Sized, Function, Mentions, in_form, in_function, inside, data_of, mentioned}
use Rattle.program_size.specs.Marking.{is_kept, has, IsSettled, IsReached}
use Rattle.program_size.specs.Counting.{AreThere, Agrees, Counts}
use Rattle.program_size.proofs.Sums.{total_append}
use Rattle.program_size.proofs.Places.{get_below, get_append, contains_at}
use Rattle.program_size.proofs.Inside.{parts_of, no_parts}

-- an object that a value is, is in the heap
abbrev pub There : List Object → Val → Type 0
There heap (Int z) = Unit {0}
There heap (Char c) = Unit {0}
There heap (Sym s) = Unit {0}
There heap (Ref o) = is_some (slice_get heap o.0) ≡ true

nothing_in : {A : Type 0} (x : A) → Contains [] x → ⊥
nothing_in x h = let l : h.0 < 0 = h.1 in absurd (omega (arith, l))

by_object : {C : Type 0} (heap : List Object) (o : ObjId) (x : Option Object) → slice_get heap o.0 ≡ x → (is_some (slice_get heap o.0) ≡ true → C) → (slice_get heap o.0 ≡ None → C) → C
by_object heap o None e some none = none e
by_object heap o (Some x) e some none = some (ap is_some e)

pub inside_there : (heap : List Object) (u w : Val) → Contains (values_in (data_of heap) u) w → There heap u
inside_there heap (Int z) w h = absurd (nothing_in w h)
inside_there heap (Char c) w h = absurd (nothing_in w h)
inside_there heap (Sym s) w h = absurd (nothing_in w h)
inside_there heap (Ref o) w h =
    by_object heap o (slice_get heap o.0) refl (λ e. e) (λ e. absurd (nothing_in w (subst (λ (k : List Val). Contains k w) (no_parts heap o e) h)))

module _ (old more : List Object) where
  same_parts : (o : ObjId) (x : Option Object) → slice_get old o.0 ≡ x → is_some (slice_get old o.0) ≡ true → values_in (data_of old) (Ref o) ≡ values_in (data_of (old ++ more)) (Ref o)
  same_parts o None e k = cc
  same_parts o (Some x) e k = parts_of old o x e ∙ sym (parts_of (old ++ more) o x (get_append old more o.0 k ∙ e))

  pub same_values : (u : Val) → There old u → values_in (data_of old) u ≡ values_in (data_of (old ++ more)) u
  same_values (Int z) h = refl
  same_values (Char c) h = refl
  same_values (Sym s) h = refl
  same_values (Ref o) h = same_parts o (slice_get old o.0) refl h

  there_on : (w : Val) → There old w → There (old ++ more) w
  there_on (Int z) h = h
  there_on (Char c) h = h
  there_on (Sym s) h = h
  there_on (Ref o) h = ap is_some (get_append old more o.0 h) ∙ h

  kept_there : (w : Val) → is_kept old w ≡ true → There old w
  kept_there (Int z) h = tt
  kept_there (Char c) h = tt
  kept_there (Sym s) h = tt
  kept_there (Ref o) h = h

  pub kept_on : (w : Val) → is_kept old w ≡ true → is_kept (old ++ more) w ≡ true
  kept_on (Int z) h = h
  kept_on (Char c) h = h
  kept_on (Sym s) h = h
  kept_on (Ref o) h = ap is_some (get_append old more o.0 h) ∙ h

  settled_on : (s : Sizes) (w : Val) → There old w → IsSettled old s.marks w → IsSettled (old ++ more) s.marks w
  settled_on s (Int z) t h = h
  settled_on s (Char c) t h = h
  settled_on s (Sym x) t h = h
  settled_on s (Ref o) t h = λ k. h t

  -- ---- what is reached

  there_of : (vs : List Val) → AreThere old vs → (w : Val) → IsReached old vs w → There old w
  there_of vs there (Int z) h = tt
  there_of vs there (Char c) h = tt
  there_of vs there (Sym s) h = tt
  there_of vs there (Ref o) h = there o h

  back : (vs : List Val) → AreThere old vs → (v w : Val) → Contains vs v → Reaches (data_of (old ++ more)) v w → Reaches (data_of old) v w
  back vs there v _ c itself = itself
  back vs there v _ c (within u w r h) =
      let b = back vs there v u c r in
      within u w b (subst (λ (k : List Val). Contains k w) (sym (same_values u (there_of vs there u (v, c, b)))) h)

  pub are_there_on : (vs : List Val) → AreThere old vs → AreThere (old ++ more) vs
  are_there_on vs there o h = there_on (Ref o) (there o (h.0, h.1, back vs there h.0 (Ref o) h.1 h.2))

  inside_on : (u w : Val) → Contains (values_in (data_of old) u) w → Contains (values_in (data_of (old ++ more)) u) w
  inside_on u w h = subst (λ (k : List Val). Contains k w) (same_values u (inside_there old u w h)) h

  mentions_on : (prelude : List Function) (forms : List Sized) (w : Val) → Mentions old prelude forms w → Mentions (old ++ more) prelude forms w
  mentions_on prelude forms _ (in_form f v h k) = in_form f v h k
  mentions_on prelude forms _ (in_function f v h m k) = in_function f v h (mentions_on prelude forms (Sym f.name) m) k
  mentions_on prelude forms _ (inside u v m k) = inside u v (mentions_on prelude forms u m) (inside_on u v k)

  -- ---- what is mentioned is there

  -- the forms or functions that mention a value, through what it is in
  abbrev IsRooted : List Function → List Sized → Val → Type 0
  IsRooted prelude forms w =
      ((f : Sized) × Contains forms f × IsReached old (mentioned f.core) w) ⊎ ((f : Function) × Contains prelude f × IsReached old (mentioned f.form.core) w)

  rooted : (prelude : List Function) (forms : List Sized) (w : Val) → Mentions old prelude forms w → IsRooted prelude forms w
  rooted prelude forms _ (in_form f v h k) = inl (f, h, (v, k, itself))
  rooted prelude forms _ (in_function f v h m k) = inr (f, h, (v, k, itself))
  rooted prelude forms _ (inside u w m k) = onward (rooted prelude forms u m)
    where
      onward : IsRooted prelude forms u → IsRooted prelude forms w
      onward (inl r) = inl (r.0, r.1, (r.2.0, r.2.1, within u w r.2.2 k))
      onward (inr r) = inr (r.0, r.1, (r.2.0, r.2.1, within u w r.2.2 k))

  pub mentioned_there : (prelude : List Function) (forms : List Sized) → ((f : Sized) → Contains forms f → AreThere old (mentioned f.core)) →
      ((f : Function) → Contains prelude f → AreThere old (mentioned f.form.core)) → (w : Val) → Mentions old prelude forms w → There old w
  mentioned_there prelude forms in_forms in_prelude w m = by (rooted prelude forms w m)
    where
      by : IsRooted prelude forms w → There old w
      by (inl r) = there_of (mentioned r.0.core) (in_forms r.0 r.1) w r.2
      by (inr r) = there_of (mentioned r.0.form.core) (in_prelude r.0 r.1) w r.2

  -- ---- the counts

  module _ (s : Sizes) (prelude : List Function) (forms : List Sized) (c : Counts s prelude old forms) where
    has_there : (w : Val) → has s.marks w ≡ true → There old w
    has_there w h = kept_there w (c.agrees.kept w h)

    past_none : (q : ℕ) → 0 + length old ≤ q → set.contains nat_eq s.marks.objects q ≡ false
    past_none q le = by (set.contains nat_eq s.marks.objects q) (λ e. has_there (Ref (object q)) e)
      where
        by : (b : Bool) → (b ≡ true → is_some (slice_get old q) ≡ true) → b ≡ false
        by true h = let l = get_below old q (h refl) in absurd (omega (arith, l, le))
        by false h = refl

    first_there : (vs : List Val) → AreThere old vs → (v : Val) → Contains vs v → There old v
    first_there vs there v h = there_of vs there v (v, h, itself)

    closed_there : (u w : Val) → has s.marks u ≡ true → Contains (values_in (data_of (old ++ more)) u) w → IsSettled (old ++ more) s.marks w
    closed_there u w h k =
        let j = subst (λ (x : List Val). Contains x w) (sym (same_values u (has_there u h))) k in
        settled_on s w (mentioned_there prelude forms c.forms_there c.prelude_there w (inside u w (c.agrees.sound u h) j)) (c.agrees.closed u w h j)

    pub agrees_on : Agrees (old ++ more) prelude forms s
    agrees_on = record {
      sound = λ w h. mentions_on prelude forms w (c.agrees.sound w h);
      kept = λ w h. kept_on w (c.agrees.kept w h);
      seen = λ f v h k. settled_on s v (first_there (mentioned f.core) (c.forms_there f h) v k) (c.agrees.seen f v h k);
      held_named = c.agrees.held_named;
      held_seen = λ i f v is h k.
          settled_on s v (first_there (mentioned f.form.core) (c.prelude_there f (contains_at prelude i f is)) v k) (c.agrees.held_seen i f v is h k);
      closed = closed_there;
      words = c.agrees.words ∙ ap (plus 0) (sym (total_append (set.contains nat_eq s.marks.objects) object_words 0 old more past_none));
      nodes = c.agrees.nodes;
      copies = c.agrees.copies;
    }
