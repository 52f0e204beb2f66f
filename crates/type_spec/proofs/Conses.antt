-- Conses, the empty list, and choices.
use Rattle.std.proofs.Common.{◌≡◌, Bool, true, false, List, Some, None, if◌then◌else◌, refl, sym, ap}
use Rattle.lisp_base.specs.declared.values.Val.{Val}
use Rattle.lisp_base.specs.declared.values.Val.TheVariants.{Int, Char, Sym, Ref}
use Rattle.lisp_base.specs.Tables.{Object}
use Rattle.type_spec.specs.Forms.{cons_at, is_nil}

pub some_is : {A : Type 0} (x y : A) → Some x ≡ Some y → x ≡ y
some_is x y e = cc

pub some_not_none : {A : Type 0} (x : A) → Some x ≡ None → ⊥
some_not_none x e = cc

pub first_is : {A B : Type 0} (p q : A × B) → Some p ≡ Some q → p.0 ≡ q.0
first_is p q e = ap (λ (r : _ × _). r.0) (some_is p q e)

pub rest_is : {A B : Type 0} (p q : A × B) → Some p ≡ Some q → p.1 ≡ q.1
rest_is p q e = ap (λ (r : _ × _). r.1) (some_is p q e)

-- the empty list is no cons
pub nil_no_cons : (heap : List Object) (v : Val) (p : Val × Val) → is_nil v ≡ true → cons_at heap v ≡ Some p → ⊥
nil_no_cons heap (Int z) p n e = some_not_none p (sym e)
nil_no_cons heap (Char c) p n e = some_not_none p (sym e)
nil_no_cons heap (Sym s) p n e = some_not_none p (sym e)
nil_no_cons heap (Ref o) p n e = differ n
  where
    differ : false ≡ true → ⊥
    differ h = cc

-- a choice with a result was made
pub chosen : {A : Type 0} (b : Bool) (x y : A) → (if b then Some x else None) ≡ Some y → (b ≡ true) × (x ≡ y)
chosen true x y e = (refl, some_is x y e)
chosen false x y e = absurd (some_not_none y (sym e))

pub not_chosen : {A : Type 0} (b : Bool) (x : A) → (if b then Some x else None) ≡ None → b ≡ true → ⊥
not_chosen true x e h = some_not_none x e
not_chosen false x e h = differ h
  where
    differ : false ≡ true → ⊥
    differ k = cc
