-- The walk through all that some values reach.
use Rattle.std.specs.Prelude.{◌≡◌, refl, ℕ, ◌+◌, ◌≤◌, nat_eq, Bool, true, false, not, ◌&&◌, List, [], ◌∷◌, ◌++◌, length, Contains, Option, Some, None, is_some, slice_get}
use Rattle.std.specs.HashSet as set
use Rattle.std.proofs.Common.{arith, ap, sym, subst, ◌∙◌, ◌⊎◌, inl, inr, ◌<◌}
use Rattle.std.proofs.lemmas.Bool.Decides.{Decides-eqb}
use Rattle.std.proofs.lemmas.List.Elements.{Contains-append_left, Contains-append_right, Contains-append_cases, Contains-push, Contains-push_cases}
use Rattle.lisp_base.specs.declared.values.Val.{Val}
use Rattle.lisp_base.specs.declared.values.ObjId.{ObjId}
use Rattle.lisp_base.specs.declared.values.Val.TheVariants.{Int, Char, Sym, Ref}
use Rattle.lisp_base.specs.Sort.{object}
use Rattle.lisp_base.specs.Tables.{Object}
use Rattle.core_form.specs.Counting.{plus}
use Rattle.core_form.specs.Lawful.{itself, within, values_in}
use Rattle.program_size.specs.declared.marks.Marks.{Marks}
use Rattle.program_size.specs.Mentions.{data_of}
use Rattle.program_size.specs.Sizes.{object_words}
use Rattle.program_size.specs.Inside.{inside_object}
use Rattle.program_size.specs.Marking.{is_kept, is_symbol, is_same, has, words_of, words_seen, IsWeighed, Notes, IsSettled, IsReached, Sees}
use Rattle.program_size.proofs.Sums.{total, total_same, total_more}
use Rattle.program_size.proofs.Inside.{parts_of}
use Rattle.program_size.proofs.Noted.{kept, only, here, settled, quiet, no_news, unless, and_first, and_second}

-- where one value more is waiting: what was seen before (m0) and what by now (m)
pub record Seeing (heap : List Object) (vs : List Val) (m0 m : Marks) (work : List Val) : Type 0 where
  pub waiting : (w : Val) → Contains work w → IsReached heap vs w
  pub sound : (w : Val) → has m w ≡ true → (has m0 w ≡ true) ⊎ (IsReached heap vs w × (is_kept heap w ≡ true))
  pub grows : (w : Val) → has m0 w ≡ true → has m w ≡ true
  pub seen : (v : Val) → Contains vs v → IsSettled heap m v ⊎ Contains work v
  pub closed : (u w : Val) → has m u ≡ true → Contains (values_in (data_of heap) u) w → (has m0 u ≡ true) ⊎ (IsSettled heap m w ⊎ Contains work w)
  pub words : IsWeighed heap m0 → IsWeighed heap m
  pub quiet : m.news ≡ false → m0.news ≡ false
  pub no_news : m.news ≡ false → (w : Val) → is_symbol w ≡ true → has m w ≡ true → has m0 w ≡ true

pub begins : (heap : List Object) (vs : List Val) (m : Marks) → Seeing heap vs m m vs
begins heap vs m = record {
  waiting = λ w h. (w, h, itself);
  sound = λ w h. inl h;
  grows = λ w h. h;
  seen = λ v h. inr h;
  closed = λ u w h k. inl h;
  words = λ h. h;
  quiet = λ h. h;
  no_news = λ e w s h. h;
}

none_in : {A : Type 0} (xs : List A) (x : A) → xs ≡ [] → Contains xs x → ⊥
none_in xs x e h = let l : h.0 < length xs = h.1 in let k = ap length e in absurd (omega (arith, l, k))

settled_of : {A : Type 0} (work : List Val) (w : Val) → work ≡ [] → A ⊎ Contains work w → A
settled_of work w e (inl h) = h
settled_of work w e (inr h) = absurd (none_in work w e h)

closed_of : {A B : Type 0} (work : List Val) (w : Val) → work ≡ [] → A ⊎ (B ⊎ Contains work w) → A ⊎ B
closed_of work w e (inl h) = inl h
closed_of work w e (inr h) = inr (settled_of work w e h)

pub ends : (heap : List Object) (vs : List Val) (m0 m : Marks) (work : List Val) → work ≡ [] → Seeing heap vs m0 m work → Sees heap vs m0 m
ends heap vs m0 m work e s = record {
  grows = s.grows;
  sound = s.sound;
  seen = λ v h. settled_of work v e (s.seen v h);
  closed = λ u w h k. closed_of work w e (s.closed u w h k);
  words = s.words;
  quiet = s.quiet;
  no_news = s.no_news;
}

-- ---- words

-- the objects seen are the same where none is new
objects_same : (heap : List Object) (m n : Marks) (v : Val) (new : Bool) → Notes heap m v new n → ((q : ℕ) → (is_same v (Ref (object q)) && new) ≡ false) →
    (q : ℕ) → set.contains nat_eq m.objects q ≡ set.contains nat_eq n.objects q
objects_same heap m n v new noted other q =
    sym (noted.marks (Ref (object q)) ∙ unless (is_same v (Ref (object q)) && new) (has m (Ref (object q))) (other q))

weighs_same : (heap : List Object) (m n : Marks) → n.words ≡ m.words → ((q : ℕ) → set.contains nat_eq m.objects q ≡ set.contains nat_eq n.objects q) → IsWeighed heap m → IsWeighed heap n
weighs_same heap m n words objects h =
    words ∙ (h ∙ ap (plus 0) (total_same (set.contains nat_eq m.objects) (set.contains nat_eq n.objects) object_words 0 heap (λ q le. objects q)))

weighs_more : (a b s t w : ℕ) → a ≡ plus 0 s → b ≡ plus a w → t ≡ s + w → b ≡ plus 0 t
weighs_more a b s t w e h k = omega (arith, e, h, k)

-- an object that is new, with what it is
record IsNew (heap : List Object) (m n : Marks) (o : ObjId) : Type 0 where
  what : Object
  is : slice_get heap o.0 ≡ Some what
  before : set.contains nat_eq m.objects o.0 ≡ false
  now : set.contains nat_eq n.objects o.0 ≡ true
  others : (q : ℕ) → (q ≡ o.0 → ⊥) → set.contains nat_eq n.objects q ≡ set.contains nat_eq m.objects q
  words : n.words ≡ plus m.words (object_words what)

some_is : {A : Type 0} (x : Option A) → is_some x ≡ true → (y : A) × (x ≡ Some y)
some_is (Some y) e = (y, refl)
some_is None e = cc

not_true : (b : Bool) → not b ≡ true → b ≡ false
not_true false e = refl
not_true true e = cc

and_no : (b : Bool) → (b && false) ≡ false
and_no true = refl
and_no false = refl

is_new : (heap : List Object) (m n : Marks) (o : ObjId) → Notes heap m (Ref o) true n → IsNew heap m n o
is_new heap m n o noted =
    let there : is_some (slice_get heap o.0) ≡ true = and_first (is_some (slice_get heap o.0)) (not (has m (Ref o))) (sym noted.is_new) in
    let x = some_is (slice_get heap o.0) there in
    record {
      what = x.0;
      is = x.1;
      before = not_true (has m (Ref o)) (and_second (is_some (slice_get heap o.0)) (not (has m (Ref o))) (sym noted.is_new));
      now = here heap m n (Ref o) true noted there;
      others = λ q ne. noted.marks (Ref (object q))
          ∙ unless (nat_eq o.0 q && true) (set.contains nat_eq m.objects q) (differs o.0 q ne);
      words = noted.words ∙ ap (λ k. plus m.words (words_of k)) x.1;
    }
  where
    differs : (a q : ℕ) → (q ≡ a → ⊥) → (nat_eq a q && true) ≡ false
    differs a q ne = by (nat_eq a q) (λ e. ne (sym ((Decides-eqb a q).0 e)))
      where
        by : (b : Bool) → (b ≡ true → ⊥) → (b && true) ≡ false
        by true h = absurd (h refl)
        by false h = refl

pub weighed : (heap : List Object) (m n : Marks) (v : Val) (new : Bool) → Notes heap m v new n → IsWeighed heap m → IsWeighed heap n
weighed heap m n (Int z) new noted = weighs_same heap m n noted.words (objects_same heap m n (Int z) new noted (λ q. refl))
weighed heap m n (Char c) new noted = weighs_same heap m n noted.words (objects_same heap m n (Char c) new noted (λ q. refl))
weighed heap m n (Sym s) new noted = weighs_same heap m n noted.words (objects_same heap m n (Sym s) new noted (λ q. refl))
weighed heap m n (Ref o) false noted = weighs_same heap m n noted.words (objects_same heap m n (Ref o) false noted (λ q. and_no (nat_eq o.0 q)))
weighed heap m n (Ref o) true noted =
    let k = is_new heap m n o noted in
    λ h. weighs_more m.words n.words (words_seen heap m) (words_seen heap n) (object_words k.what) h k.words
    (total_more (set.contains nat_eq m.objects) (set.contains nat_eq n.objects) object_words o.0 0 o.0 k.what heap (omega arith) k.is k.before k.now k.others)

-- ---- what is left to be seen falls

abbrev pub unseen : Marks → ℕ → Bool
unseen m q = not (set.contains nat_eq m.objects q)

-- the objects that were not seen, each with what is inside
abbrev pub left : List Object → Marks → ℕ
left heap m = total (unseen m) (λ o. 1 + length (inside_object o)) 0 heap

left_same : (heap : List Object) (m n : Marks) → ((q : ℕ) → set.contains nat_eq m.objects q ≡ set.contains nat_eq n.objects q) → left heap n ≡ left heap m
left_same heap m n h = total_same (unseen n) (unseen m) (λ o. 1 + length (inside_object o)) 0 heap (λ q le. ap not (sym (h q)))

fewer : (a b k : ℕ) → a ≡ b → k ≡ 0 → a + k ≤ b
fewer a b k e h = omega (arith, e, h)

pub left_falls : (heap : List Object) (m n : Marks) (v : Val) → Notes heap m v true n → left heap n + length (values_in (data_of heap) v) ≤ left heap m
left_falls heap m n (Int z) noted = fewer (left heap n) (left heap m) 0 (left_same heap m n (objects_same heap m n (Int z) true noted (λ q. refl))) refl
left_falls heap m n (Char c) noted = fewer (left heap n) (left heap m) 0 (left_same heap m n (objects_same heap m n (Char c) true noted (λ q. refl))) refl
left_falls heap m n (Sym s) noted = fewer (left heap n) (left heap m) 0 (left_same heap m n (objects_same heap m n (Sym s) true noted (λ q. refl))) refl
left_falls heap m n (Ref o) noted =
    let k = is_new heap m n o noted in
    let e = total_more (unseen n) (unseen m) (λ x. 1 + length (inside_object x)) o.0 0 o.0 k.what heap (omega arith) k.is (ap not k.now) (ap not k.before) (λ q ne. ap not (sym (k.others q ne))) in
    let l = ap length (parts_of heap o k.what k.is) in
    fall (left heap n) (left heap m) (length (inside_object k.what)) (length (values_in (data_of heap) (Ref o))) e l
  where
    fall : (a b w k : ℕ) → b ≡ a + (1 + w) → k ≡ w → a + k ≤ b
    fall a b w k e h = omega (arith, e, h)

pub left_stays : (heap : List Object) (m n : Marks) (v : Val) → Notes heap m v false n → left heap n ≡ left heap m
left_stays heap m n v noted = left_same heap m n (objects_same heap m n v false noted (λ q. and_no (is_same v (Ref (object q)))))

-- ---- one value more

module _ (heap : List Object) (vs : List Val) (m0 m n : Marks) (v : Val) (new : Bool) (work rest next : List Val)
    (is : work ≡ rest ++ v ∷ []) (noted : Notes heap m v new n) (s : Seeing heap vs m0 m work)
    (stay : (w : Val) → Contains rest w → Contains next w)
    (come : new ≡ true → (w : Val) → Contains (values_in (data_of heap) v) w → Contains next w)
    (waits : (w : Val) → Contains next w → IsReached heap vs w) where
  taken : IsReached heap vs v
  taken = s.waiting v (subst (λ (k : List Val). Contains k v) (sym is) (Contains-push rest v))

  still : (w : Val) → Contains work w → IsSettled heap n w ⊎ Contains next w
  still w h = by (Contains-push_cases rest v w (subst (λ (k : List Val). Contains k w) is h))
    where
      by : Contains rest w ⊎ (v ≡ w) → IsSettled heap n w ⊎ Contains next w
      by (inl k) = inr (stay w k)
      by (inr e) = inl (subst (λ (x : Val). IsSettled heap n x) e (here heap m n v new noted))

  settles : (w : Val) → IsSettled heap m w ⊎ Contains work w → IsSettled heap n w ⊎ Contains next w
  settles w (inl h) = inl (settled heap m n v new noted w h)
  settles w (inr h) = still w h

  sounds : (w : Val) → (has m w ≡ true) ⊎ ((v ≡ w) × (new ≡ true)) → (has m0 w ≡ true) ⊎ (IsReached heap vs w × (is_kept heap w ≡ true))
  sounds w (inl h) = s.sound w h
  sounds w (inr h) =
      let there = and_first (is_kept heap v) (not (has m v)) (sym noted.is_new ∙ h.1) in
      inr (subst (λ (x : Val). IsReached heap vs x × (is_kept heap x ≡ true)) h.0 (taken, there))

  closes : (u w : Val) → Contains (values_in (data_of heap) u) w → (has m u ≡ true) ⊎ ((v ≡ u) × (new ≡ true)) → (has m0 u ≡ true) ⊎ (IsSettled heap n w ⊎ Contains next w)
  closes u w inside (inl h) = by (s.closed u w h inside)
    where
      by : (has m0 u ≡ true) ⊎ (IsSettled heap m w ⊎ Contains work w) → (has m0 u ≡ true) ⊎ (IsSettled heap n w ⊎ Contains next w)
      by (inl k) = inl k
      by (inr k) = inr (settles w k)
  closes u w inside (inr h) = inr (inr (come h.1 w (subst (λ (x : Val). Contains (values_in (data_of heap) x) w) (sym h.0) inside)))

  stepped : Seeing heap vs m0 n next
  stepped = record {
    waiting = waits;
    sound = λ w h. sounds w (only heap m n v new noted w h);
    grows = λ w h. kept heap m n v new noted w (s.grows w h);
    seen = λ x h. settles x (s.seen x h);
    closed = λ u w h k. closes u w k (only heap m n v new noted u h);
    words = λ h. weighed heap m n v new noted (s.words h);
    quiet = λ e. s.quiet (quiet heap m n v new noted e);
    no_news = λ e w y h. s.no_news (quiet heap m n v new noted e) w y (no_news heap m n v new noted e w y h);
  }

pub step_old : (heap : List Object) (vs : List Val) (m0 m n : Marks) (v : Val) (work rest : List Val) → work ≡ rest ++ v ∷ [] →
    Notes heap m v false n → Seeing heap vs m0 m work → Seeing heap vs m0 n rest
step_old heap vs m0 m n v work rest is noted s =
    stepped heap vs m0 m n v false work rest rest is noted s (λ w h. h) (λ e w h. cc)
    (λ w h. s.waiting w (subst (λ (k : List Val). Contains k w) (sym is) (Contains-append_left rest (v ∷ []) w h)))

pub step_new : (heap : List Object) (vs : List Val) (m0 m n : Marks) (v : Val) (work rest : List Val) → work ≡ rest ++ v ∷ [] →
    Notes heap m v true n → Seeing heap vs m0 m work → Seeing heap vs m0 n (rest ++ values_in (data_of heap) v)
step_new heap vs m0 m n v work rest is noted s =
    stepped heap vs m0 m n v true work rest (rest ++ values_in (data_of heap) v) is noted s
    (λ w h. Contains-append_left rest (values_in (data_of heap) v) w h)
    (λ e w h. Contains-append_right rest (values_in (data_of heap) v) w h)
    (λ w h. by w (Contains-append_cases rest (values_in (data_of heap) v) w h))
  where
    by : (w : Val) → Contains rest w ⊎ Contains (values_in (data_of heap) v) w → IsReached heap vs w
    by w (inl h) = s.waiting w (subst (λ (k : List Val). Contains k w) (sym is) (Contains-append_left rest (v ∷ []) w h))
    by w (inr h) =
        let r = s.waiting v (subst (λ (k : List Val). Contains k v) (sym is) (Contains-push rest v)) in
        (r.0, r.1, within v w r.2 h)

pub nil_of : {A : Type 0} (xs : List A) → length xs ≡ 0 → xs ≡ []
nil_of [] e = refl
nil_of (x ∷ xs) e = absurd (omega (arith, e))

-- ---- the measure

pub measure_new : (a b w k l r : ℕ) → a + k ≤ b → l ≡ r + 1 → w ≡ r + k → a + w < b + l
measure_new a b w k l r le e h = omega (arith, le, e, h)

pub measure_old : (a b l r : ℕ) → a ≡ b → l ≡ r + 1 → a + r < b + l
measure_old a b l r e h = omega (arith, e, h)
