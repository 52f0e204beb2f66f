-- The items of a list, one more at a time.
use Rattle.std.proofs.Common.{◌≡◌, ℕ, ◌+◌, ◌<◌, true, false, List, [], ◌∷◌, ◌++◌, length, Some, None, arith, refl, sym, ap, ◌∙◌, subst, length-append}
use Rattle.lisp_base.specs.declared.values.Val.{Val}
use Rattle.lisp_base.specs.Tables.{Table, Object}
use Rattle.lisp_base.specs.Lawful.{is_item}
use Rattle.type_spec.specs.Forms.{cons_at, is_nil, item_of}
use Rattle.type_spec.specs.Writing.{Lists, AreListed, HasNoItems}
use Rattle.type_spec.proofs.Conses.{some_not_none, first_is, rest_is, nil_no_cons, chosen, not_chosen}

-- a list begins with these items, and then goes on
abbrev pub ListsFirst : List Object → Table → List Val → Val → Val → Type 0
ListsFirst heap table [] v rest = v ≡ rest
ListsFirst heap table (x ∷ xs) v rest =
    (d : Val) × (cons_at heap v ≡ Some (x, d)) × (is_item table x ≡ true) × ListsFirst heap table xs d rest

pub record IsListing (heap : List Object) (table : Table) (list : Val) (items : List Val) (rest : Val) (before now : ℕ) : Type 0 where
  pub front : ListsFirst heap table items list rest
  pub counted : before ≡ now + length items

pub one_item_more : (heap : List Object) (table : Table) (xs : List Val) (v r x d : Val) → ListsFirst heap table xs v r → cons_at heap r ≡ Some (x, d) → is_item table x ≡ true →
    ListsFirst heap table (xs ++ x ∷ []) v d
one_item_more heap table [] v r x d f e i = (d, ap (cons_at heap) f ∙ e, i, refl)
one_item_more heap table (y ∷ xs) v r x d f e i = (f.0, f.1, f.2, one_item_more heap table xs f.0 r x d f.3 e i)

pub all_listed : (heap : List Object) (table : Table) (xs : List Val) (v r : Val) → ListsFirst heap table xs v r → is_nil r ≡ true → Lists heap table xs v
all_listed heap table [] v r f n = ap is_nil f ∙ n
all_listed heap table (x ∷ xs) v r f n = (f.0, f.1, f.2, all_listed heap table xs f.0 r f.3 n)

-- what is left of another list of the same items
pub record ListsRest (heap : List Object) (table : Table) (r : Val) (zs xs : List Val) : Type 0 where
  pub left : List Val
  pub lists : Lists heap table left r
  pub length_is : length zs ≡ length xs + length left

pub rest_listed : (heap : List Object) (table : Table) (xs : List Val) (v r : Val) (zs : List Val) → ListsFirst heap table xs v r → Lists heap table zs v → ListsRest heap table r zs xs
rest_listed heap table [] v r zs f l = record { left = zs; lists = subst (Lists heap table zs) f l; length_is = omega arith }
rest_listed heap table (x ∷ xs) v r [] f l = absurd (nil_no_cons heap v (x, f.0) l f.1)
rest_listed heap table (x ∷ xs) v r (z ∷ zs) f l =
    let e : f.0 ≡ l.0 = rest_is (x, f.0) (z, l.0) (sym f.1 ∙ l.1) in
    let k = rest_listed heap table xs f.0 r zs f.3 (subst (Lists heap table zs) (sym e) l.3) in
    record { left = k.left; lists = k.lists; length_is = omega (arith, k.length_is) }

-- no room for one more
pub no_room : (heap : List Object) (table : Table) (list : Val) (xs : List Val) (r : Val) (before now : ℕ) → IsListing heap table list xs r before now → is_nil r ≡ false → now ≡ 0 → HasNoItems heap table list before
no_room heap table list xs r before now m n z zs l = by (rest_listed heap table xs list r zs m.front l)
  where
    by : ListsRest heap table r zs xs → before < length zs
    by k = some k.left k.lists k.length_is
      where
        some : (us : List Val) → Lists heap table us r → length zs ≡ length xs + length us → before < length zs
        some [] h e = absurd (differ (sym h ∙ n))
          where
            differ : true ≡ false → ⊥
            differ q = cc
        some (u ∷ us) h e = omega (arith, m.counted)

-- what is left is no list
pub no_cons : (heap : List Object) (table : Table) (list : Val) (xs : List Val) (r : Val) (before now limit : ℕ) → IsListing heap table list xs r before now → is_nil r ≡ false → cons_at heap r ≡ None → HasNoItems heap table list limit
no_cons heap table list xs r before now limit m n e zs l = by (rest_listed heap table xs list r zs m.front l)
  where
    none : (us : List Val) → Lists heap table us r → ⊥
    none [] h = differ (sym h ∙ n)
      where
        differ : true ≡ false → ⊥
        differ q = cc
    none (u ∷ us) h = some_not_none (u, h.0) (sym h.1 ∙ e)

    by : ListsRest heap table r zs xs → limit < length zs
    by k = absurd (none k.left k.lists)

-- the next element is no item
pub no_item : (heap : List Object) (table : Table) (list : Val) (xs : List Val) (r x d : Val) (before now limit : ℕ) → IsListing heap table list xs r before now → is_nil r ≡ false → cons_at heap r ≡ Some (x, d) → item_of table x ≡ None → HasNoItems heap table list limit
no_item heap table list xs r x d before now limit m n e i zs l = by (rest_listed heap table xs list r zs m.front l)
  where
    none : (us : List Val) → Lists heap table us r → ⊥
    none [] h = nil_no_cons heap r (x, d) h e
    none (u ∷ us) h = not_chosen (is_item table x) x i (ap (is_item table) (first_is (x, d) (u, h.0) (sym e ∙ h.1)) ∙ h.2)

    by : ListsRest heap table r zs xs → limit < length zs
    by k = absurd (none k.left k.lists)

pub lists_more : (heap : List Object) (table : Table) (list : Val) (xs : List Val) (r x d y : Val) (before now after : ℕ) (xs' : List Val) → IsListing heap table list xs r before now → cons_at heap r ≡ Some (x, d) → item_of table x ≡ Some y → now ≡ after + 1 → xs' ≡ xs ++ y ∷ [] →
    IsListing heap table list xs' d before after
lists_more heap table list xs r x d y before now after xs' m e i n o =
    let k = chosen (is_item table x) x y i in
    let o' : xs' ≡ xs ++ x ∷ [] = o ∙ ap (λ (z : Val). xs ++ z ∷ []) (sym k.1) in
    record {
      front = subst (λ (z : List Val). ListsFirst heap table z list d) (sym o') (one_item_more heap table xs list r x d m.front e k.0);
      counted = omega (arith, m.counted, n, ap length o', length-append xs (x ∷ []));
    }

pub listed : (heap : List Object) (table : Table) (list : Val) (xs : List Val) (r : Val) (before now : ℕ) → IsListing heap table list xs r before now → is_nil r ≡ true → AreListed heap table list xs before now
listed heap table list xs r before now m n = record { lists = all_listed heap table xs list r m.front n; counted = m.counted }
