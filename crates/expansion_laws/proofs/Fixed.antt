-- Where all places are one, they stay that one in each scope inside.
use Rattle.std.specs.Prelude.{◌≡◌, ℕ, suc, Bool, true, false, if◌then◌else◌, List, [], ◌∷◌, Option, Some, None, fold}
use Rattle.lisp_base.specs.declared.values.Place.{Place}
use Rattle.lisp_base.specs.declared.values.SymId.{SymId}
use Rattle.lisp_base.specs.declared.values.Val.{Val}
use Rattle.lisp_base.specs.Tables.{Object}
use Rattle.lisp_forms.specs.Conses.{place_at}
use Rattle.declarations.specs.Declarations.{Typed, Declared}
use Rattle.expansion.specs.declared.heads.Reach.{Reach}
use Rattle.expansion.specs.declared.heads.Reach.TheVariants.{ForBody, ForAll}
use Rattle.expansion.specs.Scopes.{Scope, value_or, at_form, with_special, with_type, declared_in, with_tag}
use Rattle.expansion.specs.Forms.{is_tag}
use Rattle.expansion.specs.Expanding.{Bound, with_bound, with_all, with_some, definition_name, with_named, with_definitions, around_definitions, with_tags}

-- all places in the scope are p
pub record IsFixed (p : Place) (sc : Scope) : Type 0 where
  pub fixed : sc.is_fixed ≡ true
  pub at : sc.place ≡ p

pub fixed_at : {p : Place} {sc : Scope} (heap : List Object) (v : Val) → IsFixed p sc → IsFixed p (at_form heap v sc)
unfolding at_form
fixed_at {p = p} {sc = sc} heap v h = record { fixed = h.fixed; at = by_test sc.is_fixed h.fixed }
  where
    by_test : (b : Bool) → b ≡ true → (if b then sc.place else value_or (place_at heap v) sc.place) ≡ p
    by_test true is = h.at
    by_test false is = absurd (cc)

fixed_specials : {p : Place} (ss : List SymId) (sc : Scope) → IsFixed p sc → IsFixed p (fold with_special sc ss)
fixed_specials [] sc h = h
fixed_specials (s ∷ ss) sc h = fixed_specials ss (with_special sc s) (record { fixed = h.fixed; at = h.at })

fixed_types : {p : Place} (ds : List Typed) (sc : Scope) → IsFixed p sc → IsFixed p (fold with_type sc ds)
fixed_types [] sc h = h
fixed_types (d ∷ ds) sc h = fixed_types ds (with_type sc d) (record { fixed = h.fixed; at = h.at })

pub fixed_declared : {p : Place} {sc : Scope} (d : Declared) → IsFixed p sc → IsFixed p (declared_in d sc)
unfolding declared_in
fixed_declared {sc = sc} d h =
    let k = fixed_types d.types (fold with_special sc d.specials) (fixed_specials d.specials sc h) in record { fixed = k.fixed; at = k.at }

pub fixed_bound : {p : Place} {sc : Scope} (b : Bound) → IsFixed p sc → IsFixed p (with_bound sc b)
unfolding with_bound
fixed_bound b h = record { fixed = h.fixed; at = h.at }

pub fixed_all : {p : Place} {sc : Scope} (bs : List Bound) → IsFixed p sc → IsFixed p (with_all sc bs)
fixed_all [] h = h
fixed_all {sc = sc} (b ∷ bs) h = fixed_all {sc = with_bound sc b} bs (fixed_bound b h)

pub fixed_some : {p : Place} {sc : Scope} (b : Option Bound) → IsFixed p sc → IsFixed p (with_some sc b)
fixed_some None h = h
fixed_some (Some b) h = fixed_bound b h

fixed_named : {p : Place} {sc : Scope} (n : ℕ) (s : Option SymId) → IsFixed p sc → IsFixed p (with_named s n sc)
fixed_named n None h = h
fixed_named n (Some s) h = record { fixed = h.fixed; at = h.at }

pub fixed_definitions : {p : Place} {sc : Scope} (heap : List Object) (n : ℕ) (vs : List Val) → IsFixed p sc → IsFixed p (with_definitions heap n vs sc)
fixed_definitions heap n [] h = h
fixed_definitions {sc = sc} heap n (v ∷ vs) h = fixed_definitions {sc = with_named (definition_name sc heap v) n sc} heap (suc n) vs (fixed_named n (definition_name sc heap v) h)

pub fixed_around : {p : Place} {outer inner : Scope} (reach : Reach) → IsFixed p outer → IsFixed p inner → IsFixed p (around_definitions reach outer inner)
fixed_around ForBody h k = h
fixed_around ForAll h k = k

fixed_if : {p : Place} {sc other : Scope} (b : Bool) → IsFixed p sc → IsFixed p other → IsFixed p (if b then sc else other)
fixed_if true h k = h
fixed_if false h k = k

pub fixed_tags : {p : Place} {sc : Scope} (n : ℕ) (vs : List Val) → IsFixed p sc → IsFixed p (with_tags n vs sc)
fixed_tags n [] h = h
fixed_tags {sc = sc} n (v ∷ vs) h = fixed_if (is_tag v) (fixed_tags {sc = with_tag v n sc} (suc n) vs (record { fixed = h.fixed; at = h.at })) (fixed_tags n vs h)
