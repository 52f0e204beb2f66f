-- Forms in a heap: conses, proper lists and the places of forms (ANSI Common Lisp 14.1.2; places are this project's own).
use Rattle.std.specs.Prelude.{ℕ, zero, suc, Bool, List, [], ◌∷◌, Option, Some, None, length, if◌then◌else◌, slice_get}
use Rattle.std.specs.Option.{option_map, option_and_then}
use Rattle.lisp_base.specs.declared.values.Val.{Val}
use Rattle.lisp_base.specs.declared.values.Val.TheVariants.{Int, Char, Sym, Ref}
use Rattle.lisp_base.specs.declared.values.Place.{Place}
use Rattle.lisp_base.specs.Sort.{index_of}
use Rattle.lisp_base.specs.Membership.{is_symbol_number}
use Rattle.lisp_base.specs.Tables.{Object, Cons, Vector, Str, Fun, Cell}

abbrev pub is_nil : Val → Bool
is_nil v = is_symbol_number 0 v

abbrev pub cons_parts : Option Object → Option (Val × Val)
cons_parts None = None
cons_parts (Some (Cons car cdr place)) = Some (car, cdr)
cons_parts (Some (Vector items)) = None
cons_parts (Some (Str letters)) = None
cons_parts (Some (Fun lambda cells)) = None
cons_parts (Some (Cell v)) = None

-- the CAR and the CDR of a cons
abbrev pub cons_at : List Object → Val → Option (Val × Val)
cons_at heap (Int z) = None
cons_at heap (Char c) = None
cons_at heap (Sym s) = None
cons_at heap (Ref o) = cons_parts (slice_get heap (index_of o))

abbrev pub cons_place : Option Object → Option Place
cons_place None = None
cons_place (Some (Cons car cdr place)) = place
cons_place (Some (Vector items)) = None
cons_place (Some (Str letters)) = None
cons_place (Some (Fun lambda cells)) = None
cons_place (Some (Cell v)) = None

-- where a form stands: the place kept with its cons; an atom has none
abbrev pub place_at : List Object → Val → Option Place
place_at heap (Int z) = None
place_at heap (Char c) = None
place_at heap (Sym s) = None
place_at heap (Ref o) = cons_place (slice_get heap (index_of o))

-- the elements of a proper list of at most so many conses
abbrev pub elements_within : ℕ → List Object → Val → Option (List Val)
elements_within zero heap v = if is_nil v then Some [] else None
elements_within (suc n) heap v =
    if is_nil v
    then Some []
    else option_and_then (λ p. option_map (λ xs. p.0 ∷ xs) (elements_within n heap p.1)) (cons_at heap v)

-- the elements of a proper list; none for an improper one and for a circular one, which would have more conses than there are objects
unfoldable pub elements : List Object → Val → Option (List Val)
elements heap v = elements_within (length heap) heap v
