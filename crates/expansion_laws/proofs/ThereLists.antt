-- Facts of all elements of a list, and of what is found where something is found.
use Rattle.std.specs.Prelude.{◌≡◌, refl, ℕ, zero, suc, Bool, true, false, List, [], ◌∷◌, ◌++◌, map, flat_map, reverse, slice_index_or, filter, take, drop, All, Contains, Option, Some, None, if◌then◌else◌}
use Rattle.std.specs.Option.{option_map, option_and_then}
use Rattle.std.proofs.Common.{sym, subst}
use Rattle.std.proofs.lemmas.List.{reverse-append}
use Rattle.std.proofs.lemmas.List.Elements.{All-nil, All-cons, All-head, All-tail}

-- P holds of each element
pub data Each {X : Type 0} (P : X → Type 0) : List X → Type 0 where
  no_more : Each P []
  one_more : {x : X} {xs : List X} → P x → Each P xs → Each P (x ∷ xs)

pub some_is_not_none : {A : Type 0} (a : A) → Some a ≡ None → ⊥
some_is_not_none a e = cc

-- ---- where something is found, P holds of it
pub data Where {A : Type 0} (P : A → Type 0) : Option A → Type 0 where
  nothing_there : Where P None
  found_there : {a : A} → P a → Where P (Some a)

pub where_then : {A B : Type 0} {P : A → Type 0} {Q : B → Type 0} {m : Option A} (f : A → Option B) → Where P m → ((a : A) → P a → Where Q (f a)) → Where Q (option_and_then f m)
where_then f nothing_there k = nothing_there
where_then f (found_there h) k = k _ h

pub where_map : {A B : Type 0} {P : A → Type 0} {Q : B → Type 0} {m : Option A} (f : A → B) → Where P m → ((a : A) → P a → Q (f a)) → Where Q (option_map f m)
where_map f nothing_there k = nothing_there
where_map f (found_there h) k = found_there (k _ h)

pub where_if : {A : Type 0} {P : A → Type 0} (b : Bool) (m n : Option A) → Where P m → Where P n → Where P (if b then m else n)
where_if true m n h k = h
where_if false m n h k = k

-- under a test that is passed
pub where_passed : {A : Type 0} {P : A → Type 0} (b : Bool) (a : A) → (b ≡ true → P a) → Where P (if b then Some a else None)
where_passed true a h = found_there (h refl)
where_passed false a h = nothing_there

pub where_only : {A : Type 0} {P : A → Type 0} (a : A) → Where P (Some a) → P a
where_only a (found_there h) = h

pub where_is : {A : Type 0} {P : A → Type 0} (m : Option A) (a : A) → m ≡ Some a → Where P m → P a
where_is {P = P} m a e h = where_only a (subst (λ (o : Option _). Where P o) e h)

pub where_each : {A : Type 0} {P Q : A → Type 0} {m : Option A} → Where P m → ((a : A) → P a → Q a) → Where Q m
where_each nothing_there k = nothing_there
where_each (found_there h) k = found_there (k _ h)

pub where_all : {A : Type 0} {P : A → Type 0} (k : (a : A) → P a) (m : Option A) → Where P m
where_all k None = nothing_there
where_all k (Some a) = found_there (k a)

-- ---- each element

module _ {A : Type 0} where
  pub each_map : {P Q : A → Type 0} {xs : List A} → ((a : A) → P a → Q a) → Each P xs → Each Q xs
  each_map k no_more = no_more
  each_map k (one_more h hs) = one_more (k _ h) (each_map k hs)

  pub each_append : {P : A → Type 0} {xs ys : List A} → Each P xs → Each P ys → Each P (xs ++ ys)
  each_append no_more ks = ks
  each_append (one_more h hs) ks = one_more h (each_append hs ks)

  pub each_last : {P : A → Type 0} {xs : List A} (a : A) → Each P xs → P a → Each P (xs ++ a ∷ [])
  each_last a hs h = each_append hs (one_more h no_more)

  pub each_reversed : {P : A → Type 0} {xs : List A} → Each P xs → Each P (reverse xs)
  each_reversed no_more = no_more
  each_reversed {P = P} (one_more {x = x} {xs = xs} h hs) = subst (Each P) (sym (reverse-append (x ∷ []) xs)) (each_last x (each_reversed hs) h)

  pub each_head : {P : A → Type 0} {a : A} {xs : List A} → Each P (a ∷ xs) → P a
  each_head (one_more h hs) = h

  pub each_tail : {P : A → Type 0} {a : A} {xs : List A} → Each P (a ∷ xs) → Each P xs
  each_tail (one_more h hs) = hs

  pub each_all : {P : A → Type 0} {xs : List A} → Each P xs → All P xs
  each_all {P = P} no_more = All-nil P
  each_all {P = P} (one_more h hs) = All-cons P _ _ h (each_all hs)

  pub all_each : {P : A → Type 0} (xs : List A) → All P xs → Each P xs
  all_each [] h = no_more
  all_each {P = P} (x ∷ xs) h = one_more (All-head P x xs h) (all_each xs (All-tail P x xs h))

  pub each_filter : {P : A → Type 0} {xs : List A} (f : A → Bool) → Each P xs → Each P (filter f xs)
  each_filter f no_more = no_more
  each_filter {P = P} f (one_more {x = x} {xs = xs} h hs) = kept (f x) (each_filter f hs)
    where
      kept : (b : Bool) → Each P (filter f xs) → Each P (if b then x ∷ filter f xs else filter f xs)
      kept true ks = one_more h ks
      kept false ks = ks

  pub each_index : {P : A → Type 0} {xs : List A} (n : ℕ) (d : A) → P d → Each P xs → P (slice_index_or xs n d)
  each_index n d p no_more = p
  each_index zero d p (one_more h hs) = h
  each_index (suc n) d p (one_more h hs) = each_index n d p hs

  pub each_take : {P : A → Type 0} (n : ℕ) (xs : List A) → Each P xs → Each P (take n xs)
  each_take zero xs hs = no_more
  each_take (suc n) [] hs = no_more
  each_take (suc n) (x ∷ xs) (one_more h hs) = one_more h (each_take n xs hs)

  pub each_drop : {P : A → Type 0} (n : ℕ) (xs : List A) → Each P xs → Each P (drop n xs)
  each_drop zero xs hs = hs
  each_drop (suc n) [] hs = no_more
  each_drop (suc n) (x ∷ xs) (one_more h hs) = each_drop n xs hs

pub each_mapped : {A B : Type 0} {P : A → Type 0} {Q : B → Type 0} {xs : List A} (f : A → B) → ((a : A) → P a → Q (f a)) → Each P xs → Each Q (map f xs)
each_mapped f k no_more = no_more
each_mapped f k (one_more h hs) = one_more (k _ h) (each_mapped f k hs)

pub each_flat : {A B : Type 0} {P : A → Type 0} {Q : B → Type 0} {xs : List A} (f : A → List B) → ((a : A) → P a → Each Q (f a)) → Each P xs → Each Q (flat_map f xs)
each_flat f k no_more = no_more
each_flat f k (one_more h hs) = each_append (k _ h) (each_flat f k hs)

-- ---- all elements

pub all_map : {A : Type 0} {P Q : A → Type 0} (xs : List A) → ((a : A) → P a → Q a) → All P xs → All Q xs
all_map xs k h n d lt = k _ (h n d lt)

pub all_contained : {A : Type 0} (P : A → Type 0) (xs : List A) (x : A) → All P xs → Contains xs x → P x
all_contained P xs x h c = subst P c.2 (h c.0 x c.1)
