-- The text of a type, by the symbols alone; and checks on a parameter, one more outside.
use Rattle.std.proofs.Common.{◌≡◌, ℕ, List, [], ◌∷◌, ◌++◌, map, codes, refl, ap, ◌∙◌}
use Rattle.lisp_base.specs.declared.values.Val.{Val}
use Rattle.lisp_base.specs.declared.types.TypeSpec.{TypeSpec}
use Rattle.lisp_base.specs.Reading.{spec_of}
use Rattle.lisp_base.specs.Spec.{Spec, Named, Integer, Signed, Unsigned, Mod, Member, Eql, And, Or, Not, Specs, no_spec, spec}
use Rattle.lisp_base.specs.Tables.{Table, Symbol}
use Rattle.lisp_base.specs.InStore.{Store, make_store, store_shown}
use Rattle.lisp_print.specs.Printing.{word_text}
use Rattle.type_spec.specs.Texts.{spec_text, specs_text, item_text, items_text, item_limits}
use Rattle.core_form.specs.Text.{group, type_text, checked_text}

item_alike : (a b : Table) → a.symbols ≡ b.symbols → (v : Val) → item_text a v ≡ item_text b v
item_alike a b e v = ap (λ (s : List Symbol). word_text item_limits (store_shown (make_store [] s)) v) e

items_alike : (a b : Table) → a.symbols ≡ b.symbols → (vs : List Val) → items_text a vs ≡ items_text b vs
items_alike a b e [] = refl
items_alike a b e (v ∷ vs) = cc (item_alike a b e v, items_alike a b e vs)

mutual
  pub types_alike : (a b : Table) → a.symbols ≡ b.symbols → (t : Spec) → spec_text a t ≡ spec_text b t
  types_alike a b e (Named name) = refl
  types_alike a b e (Integer lo hi) = refl
  types_alike a b e (Signed bits) = refl
  types_alike a b e (Unsigned bits) = refl
  types_alike a b e (Mod n) = refl
  types_alike a b e (Member items) = cc (items_alike a b e items)
  types_alike a b e (Eql item) = cc (item_alike a b e item)
  types_alike a b e (And specs) = cc (all_alike a b e specs)
  types_alike a b e (Or specs) = cc (all_alike a b e specs)
  types_alike a b e (Not part) = cc (types_alike a b e part)

  all_alike : (a b : Table) → a.symbols ≡ b.symbols → (ts : Specs) → specs_text a ts ≡ specs_text b ts
  all_alike a b e no_spec = refl
  all_alike a b e (spec t ts) = cc (types_alike a b e t, all_alike a b e ts)

check_at : (st : Store) (x : List ℕ) (ts : List TypeSpec) (t : TypeSpec) → checked_text st x (map spec_of (ts ++ t ∷ [])) ≡ group (codes "check" ∷ type_text st (spec_of t) ∷ checked_text st x (map spec_of ts) ∷ [])
check_at st x [] t = refl
check_at st x (u ∷ us) t = check_at st (group (codes "check" ∷ type_text st (spec_of u) ∷ x ∷ [])) us t

pub check_outside : (st : Store) (x : List ℕ) (all ts : List TypeSpec) (t : TypeSpec) → all ≡ ts ++ t ∷ [] →
    checked_text st x (map spec_of all) ≡ group (codes "check" ∷ type_text st (spec_of t) ∷ checked_text st x (map spec_of ts) ∷ [])
check_outside st x all ts t e = ap (λ (us : List TypeSpec). checked_text st x (map spec_of us)) e ∙ check_at st x ts t
