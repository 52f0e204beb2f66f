-- Binders with their parameters: lists that grow by one, and the steps that make them.
use Rattle.std.proofs.Common.{◌≡◌, List, [], ◌∷◌, Option, refl, ap, ◌∙◌}
use Rattle.lisp_base.specs.declared.values.Val.{Val}
use Rattle.core_form.specs.Tree.{Parameter}
use Rattle.expansion.specs.Steps.{World, Answer, gives, refused, Step, and_then, ◌>>=◌, pure}
use Rattle.expansion.specs.Sketches.{Binder, Initial, Optional'}
use Rattle.expansion.specs.Expanding.{Bound, BoundOptional, bound_optional, parameter, bound, bound_each, bound_some, bound_initials, bound_optionals}
use Rattle.form_expander.specs.declared.fault.Fault.{Fault}
use Rattle.form_expander.specs.declared.fault.Fault.TheVariants as fault
use Rattle.form_expander.specs.Outcomes.{Refuses}
use Rattle.form_expander.proofs.Rows.{each_of}

-- ---- one binder

abbrev pub bound_initial : Initial → Step (Bound × Val)
bound_initial b w = and_then (bound b.binder w) (λ x v. gives (x, b.value) v)

abbrev pub bound_optional_by : Optional' → Step BoundOptional
bound_optional_by o w = and_then (bound o.binder w) (λ x v. and_then (bound_some o.supplied v) (λ s u. gives (bound_optional x o.default s) u))

pub bound_gives : (b : Binder) (w v : World) (x : Parameter) → parameter b w ≡ gives x v → bound b w ≡ gives (b, x) v
unfolding bound ◌>>=◌ pure
bound_gives b w v x h = ap (λ (a : Answer Parameter). and_then a (λ x v. gives (b, x) v)) h

pub bound_refused : (b : Binder) (w : World) (e : Fault) → Refuses (parameter b w) e → Refuses (bound b w) e
unfolding bound ◌>>=◌ pure
bound_refused b w fault.Memory h = h
bound_refused b w (fault.Refused kind place) h = ap (λ (a : Answer Parameter). and_then a (λ x v. gives (b, x) v)) h

pub initial_gives : (b : Initial) (w v : World) (x : Parameter) → parameter b.binder w ≡ gives x v → bound_initial b w ≡ gives ((b.binder, x), b.value) v
initial_gives b w v x h = ap (λ (a : Answer Bound). and_then a (λ x v. gives (x, b.value) v)) (bound_gives b.binder w v x h)

pub initial_refused : (b : Initial) (w : World) (e : Fault) → Refuses (parameter b.binder w) e → Refuses (bound_initial b w) e
initial_refused b w fault.Memory h = h
initial_refused b w (fault.Refused kind place) h =
    ap (λ (a : Answer Bound). and_then a (λ x v. gives (x, b.value) v)) (bound_refused b.binder w (fault.Refused kind place) h)

abbrev with_supplied : Optional' → Answer Bound → Answer BoundOptional
with_supplied o a = and_then a (λ x v. and_then (bound_some o.supplied v) (λ s u. gives (bound_optional x o.default s) u))

abbrev with_default : Optional' → Bound → Answer (Option Bound) → Answer BoundOptional
with_default o x a = and_then a (λ s u. gives (bound_optional x o.default s) u)

pub optional_gives : (o : Optional') (w v u : World) (x : Parameter) (s : Option Bound) → parameter o.binder w ≡ gives x v → bound_some o.supplied v ≡ gives s u → bound_optional_by o w ≡ gives (bound_optional (o.binder, x) o.default s) u
optional_gives o w v u x s h k =
    ap (with_supplied o) (bound_gives o.binder w v x h) ∙ ap (with_default o (o.binder, x)) k

pub optional_refused : (o : Optional') (w : World) (e : Fault) → Refuses (parameter o.binder w) e → Refuses (bound_optional_by o w) e
optional_refused o w fault.Memory h = h
optional_refused o w (fault.Refused kind place) h = ap (with_supplied o) (bound_refused o.binder w (fault.Refused kind place) h)

pub supplied_refused : (o : Optional') (w v : World) (x : Parameter) (e : Fault) → parameter o.binder w ≡ gives x v → Refuses (bound_some o.supplied v) e → Refuses (bound_optional_by o w) e
supplied_refused o w v x fault.Memory h k = k
supplied_refused o w v x (fault.Refused kind place) h k =
    ap (with_supplied o) (bound_gives o.binder w v x h) ∙ ap (with_default o (o.binder, x)) k

-- ---- the definition's lists, each as one element after another

along : {X : Type 0} (x : X) (a b : Answer (List X)) → a ≡ b → and_then a (λ xs u. gives (x ∷ xs) u) ≡ and_then b (λ xs u. gives (x ∷ xs) u)
along {X = X} x a b h = ap (λ (c : Answer (List X)). and_then c (λ xs u. gives (x ∷ xs) u)) h

follow : {X : Type 0} (f g : Step (List X)) → ((v : World) → f v ≡ g v) → (a : Answer X) → and_then a (λ x v. and_then (f v) (λ xs u. gives (x ∷ xs) u)) ≡ and_then a (λ x v. and_then (g v) (λ xs u. gives (x ∷ xs) u))
follow f g same (gives x v) = along x (f v) (g v) (same v)
follow f g same (refused kind place) = refl

pub each_bound : (bs : List Binder) (w : World) → bound_each bs w ≡ each_of bound bs w
unfolding bound_each ◌>>=◌ pure
each_bound [] w = refl
each_bound (b ∷ bs) w = follow (bound_each bs) (each_of bound bs) (each_bound bs) (bound b w)

initial_then : (b : Initial) (f g : Step (List (Bound × Val))) → ((v : World) → f v ≡ g v) → (a : Answer Bound) → and_then a (λ x v. and_then (f v) (λ xs u. gives ((x, b.value) ∷ xs) u)) ≡ and_then (and_then a (λ x v. gives (x, b.value) v)) (λ x v. and_then (g v) (λ xs u. gives (x ∷ xs) u))
initial_then b f g same (gives x v) = along (x, b.value) (f v) (g v) (same v)
initial_then b f g same (refused kind place) = refl

pub each_initial : (bs : List Initial) (w : World) → bound_initials bs w ≡ each_of bound_initial bs w
unfolding bound_initials ◌>>=◌ pure
each_initial [] w = refl
each_initial (b ∷ bs) w = initial_then b (bound_initials bs) (each_of bound_initial bs) (each_initial bs) (bound b.binder w)

supplied_then : (o : Optional') (x : Bound) (f g : Step (List BoundOptional)) → ((v : World) → f v ≡ g v) → (a : Answer (Option Bound)) → and_then a (λ s v. and_then (f v) (λ xs u. gives (bound_optional x o.default s ∷ xs) u)) ≡ and_then (and_then a (λ s v. gives (bound_optional x o.default s) v)) (λ x v. and_then (g v) (λ xs u. gives (x ∷ xs) u))
supplied_then o x f g same (gives s v) = along (bound_optional x o.default s) (f v) (g v) (same v)
supplied_then o x f g same (refused kind place) = refl

optional_then : (o : Optional') (f g : Step (List BoundOptional)) → ((v : World) → f v ≡ g v) → (a : Answer Bound) → and_then a (λ x v. and_then (bound_some o.supplied v) (λ s v. and_then (f v) (λ xs u. gives (bound_optional x o.default s ∷ xs) u))) ≡ and_then (with_supplied o a) (λ x v. and_then (g v) (λ xs u. gives (x ∷ xs) u))
optional_then o f g same (gives x v) = supplied_then o x f g same (bound_some o.supplied v)
optional_then o f g same (refused kind place) = refl

pub each_optional : (os : List Optional') (w : World) → bound_optionals os w ≡ each_of bound_optional_by os w
unfolding bound_optionals ◌>>=◌ pure
each_optional [] w = refl
each_optional (o ∷ os) w = optional_then o (bound_optionals os) (each_of bound_optional_by os) (each_optional os) (bound o.binder w)
