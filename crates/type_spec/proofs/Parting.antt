-- The parts of a list, one more at a time.
use Rattle.std.proofs.Common.{◌≡◌, ℕ, ◌+◌, ◌<◌, true, false, List, [], ◌∷◌, ◌++◌, Some, None, arith, refl, sym, ap, ◌∙◌, subst}
use Rattle.lisp_base.specs.declared.values.Val.{Val}
use Rattle.lisp_base.specs.declared.types.TypeSpec.{TypeSpec}
use Rattle.lisp_base.specs.Spec.{Spec, Named, Integer, Signed, Unsigned, Mod, Member, Eql, And, Or, Not, Specs, no_spec, spec, spec_size, specs_size}
use Rattle.lisp_base.specs.Reading.{spec_of}
use Rattle.lisp_base.specs.Laws.{specs_list}
use Rattle.lisp_base.specs.Tables.{Table, Object}
use Rattle.type_spec.specs.Forms.{cons_at, is_nil}
use Rattle.type_spec.specs.Writing.{Writes, WritesAll, IsRead, AreRead, WritesNone, ListsNone}
use Rattle.type_spec.proofs.Conses.{some_not_none, first_is, rest_is, nil_no_cons}
use Rattle.type_spec.proofs.Unique.{unique}

-- a list begins with forms that write these, and then goes on
abbrev pub WritesFirst : List Object → Table → List TypeSpec → Val → Val → Type 0
WritesFirst heap table [] v rest = v ≡ rest
WritesFirst heap table (p ∷ ps) v rest =
    (x : Val) × (d : Val) × (cons_at heap v ≡ Some (x, d)) × Writes heap table (spec_of p) x × WritesFirst heap table ps d rest

pub record IsParting (heap : List Object) (table : Table) (list : Val) (parts : List TypeSpec) (rest : Val) (before now : ℕ) : Type 0 where
  pub front : WritesFirst heap table parts list rest
  pub counted : before ≡ now + specs_size (specs_list parts)

one_part_more : (heap : List Object) (table : Table) (ps : List TypeSpec) (v r x d : Val) (p : TypeSpec) → WritesFirst heap table ps v r → cons_at heap r ≡ Some (x, d) → Writes heap table (spec_of p) x →
    WritesFirst heap table (ps ++ p ∷ []) v d
one_part_more heap table [] v r x d p f e w = (x, d, ap (cons_at heap) f ∙ e, w, refl)
one_part_more heap table (q ∷ ps) v r x d p f e w = (f.0, f.1, f.2, f.3, one_part_more heap table ps f.1 r x d p f.4 e w)

all_written : (heap : List Object) (table : Table) (ps : List TypeSpec) (v r : Val) → WritesFirst heap table ps v r → is_nil r ≡ true → WritesAll heap table (specs_list ps) v
all_written heap table [] v r f n = ap is_nil f ∙ n
all_written heap table (p ∷ ps) v r f n = (f.0, f.1, f.2, f.3, all_written heap table ps f.1 r f.4 n)

size_more : (ps : List TypeSpec) (p : TypeSpec) → specs_size (specs_list (ps ++ p ∷ [])) ≡ specs_size (specs_list ps) + spec_size (spec_of p)
size_more [] p = omega arith
size_more (q ∷ ps) p = omega (arith, size_more ps p)

-- what is left of another list of specifiers that the same list writes
pub record WritesRest (heap : List Object) (table : Table) (r : Val) (ts : Specs) (ps : List TypeSpec) : Type 0 where
  pub left : Specs
  pub write : WritesAll heap table left r
  pub size_is : specs_size ts ≡ specs_size (specs_list ps) + specs_size left

rest_written : (heap : List Object) (table : Table) (ps : List TypeSpec) (v r : Val) (ts : Specs) → WritesFirst heap table ps v r → WritesAll heap table ts v → WritesRest heap table r ts ps
rest_written heap table [] v r ts f w = record { left = ts; write = subst (WritesAll heap table ts) f w; size_is = omega arith }
rest_written heap table (p ∷ ps) v r no_spec f w = absurd (nil_no_cons heap v (f.0, f.1) w f.2)
rest_written heap table (p ∷ ps) v r (spec t ts) f w =
    let e = first_is (f.0, f.1) (w.0, w.1) (sym f.2 ∙ w.2) in
    let d = rest_is (f.0, f.1) (w.0, w.1) (sym f.2 ∙ w.2) in
    let same = unique heap table (spec_of p) t f.0 f.3 (subst (Writes heap table t) (sym e) w.3) in
    let k = rest_written heap table ps f.1 r ts f.4 (subst (WritesAll heap table ts) (sym d) w.4) in
    record { left = k.left; write = k.write; size_is = omega (arith, k.size_is, ap spec_size same) }

-- what is left is no list
pub no_cons : (heap : List Object) (table : Table) (list : Val) (ps : List TypeSpec) (r : Val) (before now limit : ℕ) → IsParting heap table list ps r before now → is_nil r ≡ false → cons_at heap r ≡ None → ListsNone heap table list limit
no_cons heap table list ps r before now limit m n e ts l = by (rest_written heap table ps list r ts m.front l)
  where
    none : (us : Specs) → WritesAll heap table us r → ⊥
    none no_spec h = differ (sym h ∙ n)
      where
        differ : true ≡ false → ⊥
        differ q = cc
    none (spec u us) h = some_not_none (h.0, h.1) (sym h.2 ∙ e)

    by : WritesRest heap table r ts ps → limit < specs_size ts
    by k = absurd (none k.left k.write)

-- the next element writes nothing in the room that is left
pub no_part : (heap : List Object) (table : Table) (list : Val) (ps : List TypeSpec) (r x d : Val) (before now : ℕ) → IsParting heap table list ps r before now → cons_at heap r ≡ Some (x, d) → WritesNone heap table x now → ListsNone heap table list before
no_part heap table list ps r x d before now m e h ts l = by (rest_written heap table ps list r ts m.front l)
  where
    next : (us : Specs) → WritesAll heap table us r → now < specs_size us
    next no_spec w = absurd (nil_no_cons heap r (x, d) w e)
    next (spec u us) w =
        let same = first_is (x, d) (w.0, w.1) (sym e ∙ w.2) in
        omega (arith, h u (subst (Writes heap table u) (sym same) w.3))

    by : WritesRest heap table r ts ps → before < specs_size ts
    by k = omega (arith, next k.left k.write, m.counted, k.size_is)

pub parts_more : (heap : List Object) (table : Table) (list : Val) (ps : List TypeSpec) (r x d : Val) (p : TypeSpec) (before now after : ℕ) (ps' : List TypeSpec) → IsParting heap table list ps r before now → cons_at heap r ≡ Some (x, d) → IsRead heap table x (spec_of p) now after → ps' ≡ ps ++ p ∷ [] →
    IsParting heap table list ps' d before after
parts_more heap table list ps r x d p before now after ps' m e w o = record {
  front = subst (λ (z : List TypeSpec). WritesFirst heap table z list d) (sym o) (one_part_more heap table ps list r x d p m.front e w.writes);
  counted = omega (arith, m.counted, w.counted, size_more ps p, ap (λ (z : List TypeSpec). specs_size (specs_list z)) o);
}

pub parted : (heap : List Object) (table : Table) (list : Val) (ps : List TypeSpec) (r : Val) (before now : ℕ) → IsParting heap table list ps r before now → is_nil r ≡ true → AreRead heap table list (specs_list ps) before now
parted heap table list ps r before now m n = record { write = all_written heap table ps list r m.front n; counted = m.counted }

-- each specifier has a node
pub has_node : (t : Spec) → 0 < spec_size t
has_node (Named n) = omega arith
has_node (Integer lo hi) = omega arith
has_node (Signed bits) = omega arith
has_node (Unsigned bits) = omega arith
has_node (Mod n) = omega arith
has_node (Member items) = omega arith
has_node (Eql item) = omega arith
has_node (And ts) = omega arith
has_node (Or ts) = omega arith
has_node (Not part) = omega arith
