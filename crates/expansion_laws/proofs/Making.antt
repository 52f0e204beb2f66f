-- Whatever tree a form expands to is made step by step.
use Rattle.std.specs.Prelude.{◌≡◌, ℕ, zero, suc, Bool, true, false, if◌then◌else◌, List, [], ◌∷◌, length, Option, Some, None, refl}
use Rattle.std.specs.Option.{option_and_then}
use Rattle.lisp_base.specs.declared.values.SymId.{SymId}
use Rattle.lisp_base.specs.declared.values.Val.{Val}
use Rattle.lisp_forms.specs.Conses.{elements}
use Rattle.core_form.specs.Tree.{Core, Cores, Bindings, Optionals, Lambda, Definitions, Items, tag, step, define}
use Rattle.expansion.specs.declared.heads.Reach.{Reach}
use Rattle.expansion.specs.Scopes.{Scope, at_form, declared_in}
use Rattle.expansion.specs.Steps.{World, gives, Step, ◌>>=◌, pure, look, inside, most_chain, take_numbers}
use Rattle.expansion.specs.Sketches.{Binder, Initial, Optional', Sketch, form, leaf, one, two, choice, many, calling, bind, assign, function, functions, recursive, block, tagbody, within, Sketches, no_sketch, sketch, Function, function_of, Plan, instead, declared_around, makes}
use Rattle.expansion.specs.Bindings.{function_sketch}
use Rattle.expansion.specs.Forms.{plan_of, tail_of, is_tag}
use Rattle.expansion.specs.Expanding.{parameter, Bound, bound, bound_each, bound_some, Inner, each, bound_initials, values_bound, binding_node, BoundOptional, bound_optional, bound_optionals, defaults, function_size, function_tree, name_in, definition_at, definitions, functions_tree, functions_node, recursive_node, block_node, tags_in, with_tags, items, tagbody_node, go_on, followed, planned, expand, make, with_all, with_some, with_bound}
use Rattle.expansion_laws.specs.Made.{counted, one_function, MadeBound, made_bound, MadeBounds, no_bounds, more_bounds, MadeSome, made_none, made_some, MadeInitials, no_initials, more_initials, MadeOptionals, no_optionals, more_optionals, MadeForm, made_instead, made_around, made_makes, Made, made_form, made_leaf, made_one, made_two, made_choice, made_many, made_calling, made_bind, made_assign, made_function, made_functions, made_recursive, made_block, made_tagbody, made_within, MadeEach, no_parts, more_parts, MadeValues, no_values, more_values, MadeDefaults, no_defaults, more_defaults, MadeLambda, made_lambda, MadeDefinitions, no_definitions, more_definitions, MadeItems, no_items, one_tag, one_step, TreesAreMade}
use Rattle.expansion_laws.proofs.Stepping.{over, ends, never_refused, both, looked, found, began, began_numbers, took_function}

-- ---- variables

bound_is_made : (b : Binder) (w : World) (x : Bound) (after : World) → bound b w ≡ gives x after → MadeBound b w x after
unfolding bound parameter ◌>>=◌ look pure take_numbers
bound_is_made b w x after is = over (λ (x : Bound) (after : World). MadeBound b w x after) _ x _ after is made_bound

bounds_are_made : (bs : List Binder) (w : World) (xs : List Bound) (after : World) → bound_each bs w ≡ gives xs after → MadeBounds bs w xs after
unfolding bound_each
bounds_are_made [] w xs after is = ends (λ (xs : List Bound) (after : World). MadeBounds [] w xs after) [] xs w after is no_bounds
bounds_are_made (b ∷ bs) w xs after is =
    let s = both _ _ w xs after is in
    let t = both _ _ s.between xs after s.second in
    ends (λ (xs : List Bound) (after : World). MadeBounds (b ∷ bs) w xs after) (s.value ∷ t.value) xs t.between after t.second
    (more_bounds (bound_is_made b w s.value s.between s.first) (bounds_are_made bs s.between t.value t.between t.first))

some_is_made : (b : Option Binder) (w : World) (x : Option Bound) (after : World) → bound_some b w ≡ gives x after → MadeSome b w x after
unfolding bound_some
some_is_made None w x after is = ends (λ (x : Option Bound) (after : World). MadeSome None w x after) None x w after is made_none
some_is_made (Some b) w x after is =
    let s = both _ _ w x after is in
    ends (λ (x : Option Bound) (after : World). MadeSome (Some b) w x after) (Some s.value) x s.between after s.second
    (made_some (bound_is_made b w s.value s.between s.first))

initials_are_made : (bs : List Initial) (w : World) (xs : List (Bound × Val)) (after : World) → bound_initials bs w ≡ gives xs after →
    MadeInitials bs w xs after
unfolding bound_initials
initials_are_made [] w xs after is = ends (λ (xs : List (Bound × Val)) (after : World). MadeInitials [] w xs after) [] xs w after is no_initials
initials_are_made (b ∷ bs) w xs after is =
    let s = both _ _ w xs after is in
    let t = both _ _ s.between xs after s.second in
    ends (λ (xs : List (Bound × Val)) (after : World). MadeInitials (b ∷ bs) w xs after) ((s.value, b.value) ∷ t.value) xs t.between after t.second
    (more_initials (bound_is_made b.binder w s.value s.between s.first) (initials_are_made bs s.between t.value t.between t.first))

optionals_are_made : (os : List Optional') (w : World) (xs : List BoundOptional) (after : World) → bound_optionals os w ≡ gives xs after →
    MadeOptionals os w xs after
unfolding bound_optionals
optionals_are_made [] w xs after is = ends (λ (xs : List BoundOptional) (after : World). MadeOptionals [] w xs after) [] xs w after is no_optionals
optionals_are_made (o ∷ os) w xs after is =
    let s = both _ _ w xs after is in
    let r = both _ _ s.between xs after s.second in
    let t = both _ _ r.between xs after r.second in
    ends (λ (xs : List BoundOptional) (after : World). MadeOptionals (o ∷ os) w xs after) (bound_optional s.value o.default r.value ∷ t.value) xs t.between after t.second
    (more_optionals (bound_is_made o.binder w s.value s.between s.first) (some_is_made o.supplied s.between r.value r.between r.first) (optionals_are_made os r.between t.value t.between t.first))

-- ---- parts

-- whatever tree this makes is made so
abbrev AreMade : Scope → (Sketch → Step Core) → Type 0
AreMade sc inner = (x : Sketch) (w : World) (e : Core) (after : World) → inner x w ≡ gives e after → Made sc x w e after

abbrev AllAreMade : Inner → Type 0
AllAreMade inner = (levels : ℕ) (sc : Scope) → AreMade sc (inner levels sc)

each_is_made : (inner : Sketch → Step Core) (sc : Scope) → AreMade sc inner → (xs : Sketches) (w : World) (es : Cores) (after : World) →
    each inner xs w ≡ gives es after → MadeEach sc xs w es after
unfolding each
each_is_made inner sc h no_sketch w es after is = ends (λ (es : Cores) (after : World). MadeEach sc no_sketch w es after) _ es w after is no_parts
each_is_made inner sc h (sketch x xs) w es after is =
    let s = both _ _ w es after is in
    let t = both _ _ s.between es after s.second in
    ends (λ (es : Cores) (after : World). MadeEach sc (sketch x xs) w es after) _ es t.between after t.second
    (more_parts (h x w s.value s.between s.first) (each_is_made inner sc h xs s.between t.value t.between t.first))

values_are_made : (inner : Sketch → Step Core) (sc : Scope) → AreMade sc inner → (ps : List (Bound × Val)) (w : World) (bs : Bindings) (after : World) →
    values_bound inner ps w ≡ gives bs after → MadeValues sc ps w bs after
unfolding values_bound
values_are_made inner sc h [] w bs after is = ends (λ (bs : Bindings) (after : World). MadeValues sc [] w bs after) _ bs w after is no_values
values_are_made inner sc h (p ∷ ps) w bs after is =
    let s = both _ _ w bs after is in
    let t = both _ _ s.between bs after s.second in
    ends (λ (bs : Bindings) (after : World). MadeValues sc (p ∷ ps) w bs after) _ bs t.between after t.second
    (more_values (h _ w s.value s.between s.first) (values_are_made inner sc h ps s.between t.value t.between t.first))

defaults_are_made : (inner : Scope → Sketch → Step Core) → ((sc : Scope) → AreMade sc (inner sc)) → (sc : Scope) (os : List BoundOptional) (w : World) (made : Optionals × Scope) (after : World) →
    defaults inner sc os w ≡ gives made after → MadeDefaults sc os w made.0 made.1 after
unfolding defaults
defaults_are_made inner h sc [] w made after is =
    ends (λ (made : Optionals × Scope) (after : World). MadeDefaults sc [] w made.0 made.1 after) _ made w after is no_defaults
defaults_are_made inner h sc (o ∷ os) w made after is =
    let s = both _ _ w made after is in
    let t = both _ _ s.between made after s.second in
    ends (λ (made : Optionals × Scope) (after : World). MadeDefaults sc (o ∷ os) w made.0 made.1 after) _ made t.between after t.second
    (more_defaults (h sc _ w s.value s.between s.first) (defaults_are_made inner h (with_some (with_bound sc o.bound) o.supplied) os s.between t.value t.between t.first))

items_are_made : (inner : Sketch → Step Core) (sc : Scope) → AreMade sc inner → (n : ℕ) (vs : List Val) (w : World) (is : Items) (after : World) →
    items inner n vs w ≡ gives is after → MadeItems sc n vs w is after
unfolding items
items_are_made inner sc h n [] w is after made = ends (λ (is : Items) (after : World). MadeItems sc n [] w is after) _ is w after made no_items
items_are_made inner sc h n (v ∷ vs) w is after made =
    by_test (items_are_made inner sc h (suc n) vs) (items_are_made inner sc h n vs) (is_tag v) refl made
  where
    by_test : ((w : World) (is : Items) (after : World) → items inner (suc n) vs w ≡ gives is after → MadeItems sc (suc n) vs w is after) →
        ((w : World) (is : Items) (after : World) → items inner n vs w ≡ gives is after → MadeItems sc n vs w is after) →
        (b : Bool) → is_tag v ≡ b →
        (if b then (items inner (suc n) vs >>= λ is. pure (tag n v is)) else (inner (form v) >>= λ e. items inner n vs >>= λ is. pure (step e is))) w ≡ gives is after →
        MadeItems sc n (v ∷ vs) w is after
    by_test tags steps true test made =
        let s = both _ _ w is after made in
        ends (λ (is : Items) (after : World). MadeItems sc n (v ∷ vs) w is after) _ is s.between after s.second
        (one_tag test (tags w s.value s.between s.first))
    by_test tags steps false test made =
        let s = both _ _ w is after made in
        let t = both _ _ s.between is after s.second in
        ends (λ (is : Items) (after : World). MadeItems sc n (v ∷ vs) w is after) _ is t.between after t.second
        (one_step test (h _ w s.value s.between s.first) (steps s.between t.value t.between t.first))

-- ---- functions

lambda_is_made : (levels : ℕ) (inner : Inner) → AllAreMade inner → (sc : Scope) (f : Function) (w : World) (l : Lambda) (after : World) →
    function_tree levels inner sc f w ≡ gives l after → MadeLambda sc f w l after
unfolding function_tree
lambda_is_made levels inner h sc (function_of required optionals rest x) w l after is =
    let bs = both _ _ (one_function w) l after (took_function _ w l after is) in
    let os = both _ _ bs.between l after bs.second in
    let r = both _ _ os.between l after os.second in
    let ds = both _ _ r.between l after r.second in
    let begun = began _ levels sc _ r.between ds.value ds.between ds.first in
    let e = both _ _ ds.between l after ds.second in
    ends (λ (l : Lambda) (after : World). MadeLambda sc (function_of required optionals rest x) w l after) _ l e.between after e.second
    (made_lambda (bounds_are_made required (one_function w) bs.value bs.between bs.first) (optionals_are_made optionals bs.between os.value os.between os.first) (some_is_made rest os.between r.value r.between r.first) begun.fits (defaults_are_made (inner (inside levels)) (h (inside levels)) (with_all sc bs.value) os.value (counted (function_size bs.value os.value r.value) r.between) ds.value ds.between begun.rest) (h (inside levels) _ _ ds.between e.value e.between e.first))

-- a definition of a local function, as what stands before others
data MadeDefinition : Scope → (n : ℕ) → Val → World → (Definitions → Definitions) → World → Type 0 where
  made_definition : {sc : Scope} {n : ℕ} {v : Val} {w t u : World} {s : SymId} {f : Function} {l : Lambda} →
      option_and_then (name_in (at_form w.heap v sc)) (elements w.heap v) ≡ Some s →
      function_sketch (at_form w.heap v sc) (Some s) (tail_of w.heap v) w ≡ gives f t →
      MadeLambda (at_form w.heap v sc) f t l u → MadeDefinition sc n v w (define (at_form w.heap v sc).place n s l) u

then_definitions : {sc : Scope} {n : ℕ} {v : Val} {vs : List Val} {w u after : World} {d : Definitions → Definitions} {ds : Definitions} →
    MadeDefinition sc n v w d u → MadeDefinitions sc (suc n) vs u ds after → MadeDefinitions sc n (v ∷ vs) w (d ds) after
then_definitions (made_definition name given made) rest = more_definitions name given made rest

definition_is_made : (levels : ℕ) (inner : Inner) → AllAreMade inner → (sc : Scope) (n : ℕ) (v : Val) (w : World) (d : Definitions → Definitions) (after : World) →
    definition_at levels inner sc n v w ≡ gives d after → MadeDefinition sc n v w d after
unfolding definition_at
definition_is_made levels inner h sc n v w d after is =
    let name = found _ _ _ w d after (looked _ _ w d after is) in
    let l = both _ _ w d after name.second in
    let f = both _ _ w l.value l.between l.first in
    ends (λ (d : Definitions → Definitions) (after : World). MadeDefinition sc n v w d after) _ d l.between after l.second
    (made_definition name.there (looked _ _ w f.value f.between f.first) (lambda_is_made levels inner h _ f.value f.between l.value l.between f.second))

definitions_are_made : (levels : ℕ) (inner : Inner) → AllAreMade inner → (sc : Scope) (n : ℕ) (vs : List Val) (w : World) (ds : Definitions) (after : World) →
    definitions levels inner sc n vs w ≡ gives ds after → MadeDefinitions sc n vs w ds after
unfolding definitions
definitions_are_made levels inner h sc n [] w ds after is =
    ends (λ (ds : Definitions) (after : World). MadeDefinitions sc n [] w ds after) _ ds w after is no_definitions
definitions_are_made levels inner h sc n (v ∷ vs) w ds after is =
    let s = both _ _ w ds after is in
    let t = both _ _ s.between ds after s.second in
    ends (λ (ds : Definitions) (after : World). MadeDefinitions sc n (v ∷ vs) w ds after) _ ds t.between after t.second
    (then_definitions (definition_is_made levels inner h sc n v w s.value s.between s.first) (definitions_are_made levels inner h sc (suc n) vs s.between t.value t.between t.first))

-- ---- nodes

bind_is_made : (levels : ℕ) (inner : Inner) → AllAreMade inner → (sc : Scope) (bs : List Initial) (x : Sketch) (w : World) (e : Core) (after : World) →
    binding_node levels inner sc bs x w ≡ gives e after → Made sc (bind bs x) w e after
unfolding binding_node
bind_is_made levels inner h sc bs x w e after is =
    let ps = both _ _ w e after is in
    let begun = began _ levels sc _ w ps.value ps.between ps.first in
    let vs = both _ _ ps.between e after ps.second in
    let b = both _ _ vs.between e after vs.second in
    ends (λ (e : Core) (after : World). Made sc (bind bs x) w e after) _ e b.between after b.second
    (made_bind begun.fits (initials_are_made bs _ ps.value ps.between begun.rest) (values_are_made (inner (inside levels) sc) sc (h (inside levels) sc) ps.value ps.between vs.value vs.between vs.first) (h (inside levels) _ x vs.between b.value b.between b.first))

functions_are_made : (levels : ℕ) (inner : Inner) → AllAreMade inner → (sc : Scope) (reach : Reach) (vs : List Val) (x : Sketch) (w : World) (e : Core) (after : World) →
    functions_node levels inner sc reach vs x w ≡ gives e after → Made sc (functions reach vs x) w e after
unfolding functions_node functions_tree
functions_are_made levels inner h sc reach vs x w e after is =
    let begun = began_numbers 1 levels sc (length vs) _ w e after is in
    let ds = both _ _ _ e after (looked _ _ _ e after begun.rest) in
    let b = both _ _ ds.between e after ds.second in
    ends (λ (e : Core) (after : World). Made sc (functions reach vs x) w e after) _ e b.between after b.second
    (made_functions begun.fits (definitions_are_made (inside levels) inner h _ w.next vs _ ds.value ds.between ds.first) (h (inside levels) _ x ds.between b.value b.between b.first))

recursive_is_made : (levels : ℕ) (inner : Inner) → AllAreMade inner → (sc : Scope) (s : SymId) (f : Function) (w : World) (e : Core) (after : World) →
    recursive_node levels inner sc s f w ≡ gives e after → Made sc (recursive s f) w e after
unfolding recursive_node
recursive_is_made levels inner h sc s f w e after is =
    let begun = began_numbers 1 levels sc 1 _ w e after is in
    let l = both _ _ _ e after begun.rest in
    let last = began 1 (inside levels) sc _ l.between e after l.second in
    ends (λ (e : Core) (after : World). Made sc (recursive s f) w e after) _ e _ after last.rest
    (made_recursive begun.fits (lambda_is_made (inside levels) inner h _ f _ l.value l.between l.first) last.fits)

block_is_made : (levels : ℕ) (inner : Inner) → AllAreMade inner → (sc : Scope) (s : SymId) (x : Sketch) (w : World) (e : Core) (after : World) →
    block_node levels inner sc s x w ≡ gives e after → Made sc (block s x) w e after
unfolding block_node
block_is_made levels inner h sc s x w e after is =
    let begun = began_numbers 1 levels sc 1 _ w e after is in
    let b = both _ _ _ e after begun.rest in
    ends (λ (e : Core) (after : World). Made sc (block s x) w e after) _ e b.between after b.second
    (made_block begun.fits (h (inside levels) _ x _ b.value b.between b.first))

tagbody_is_made : (levels : ℕ) (inner : Inner) → AllAreMade inner → (sc : Scope) (vs : List Val) (w : World) (e : Core) (after : World) →
    tagbody_node levels inner sc vs w ≡ gives e after → Made sc (tagbody vs) w e after
unfolding tagbody_node
tagbody_is_made levels inner h sc vs w e after is =
    let begun = began_numbers 1 levels sc (tags_in vs) _ w e after is in
    let is = both _ _ _ e after begun.rest in
    ends (λ (e : Core) (after : World). Made sc (tagbody vs) w e after) _ e is.between after is.second
    (made_tagbody begun.fits (items_are_made (inner (inside levels) (with_tags w.next vs sc)) _ (h (inside levels) _) w.next vs _ is.value is.between is.first))

-- ---- sketches and forms

-- whatever tree this makes of a form is made so
abbrev FormsAreMade : (ℕ → Scope → Val → Step Core) → Type 0
FormsAreMade expanded =
    (chain : ℕ) (sc : Scope) (v : Val) (w : World) (e : Core) (after : World) → expanded chain sc v w ≡ gives e after → MadeForm sc v w e after

goes_on : (expanded : ℕ → Scope → Val → Step Core) → FormsAreMade expanded → (chain : ℕ) (sc own : Scope) (v : Val) (w : World) (e : Core) (after : World) →
    go_on expanded chain sc own v w ≡ gives e after → MadeForm own v w e after
unfolding go_on
goes_on expanded h zero sc own v w e after is = absurd (never_refused _ sc w e after is)
goes_on expanded h (suc chain) sc own v w e after is = h chain own v w e after is

form_is_made : (expanded : ℕ → Scope → Val → Step Core) (made : Scope → Sketch → Step Core) → FormsAreMade expanded → ((sc : Scope) → AreMade sc (made sc)) →
    (chain : ℕ) (sc : Scope) (v : Val) (w : World) (e : Core) (after : World) →
    planned expanded made chain (at_form w.heap v sc) v w ≡ gives e after → MadeForm sc v w e after
unfolding planned followed
form_is_made expanded made h k chain sc v w e after is =
    let p = both _ _ w e after is in by_plan p.value p.between p.first p.second
  where
    by_plan : (p : Plan) (u : World) → plan_of (at_form w.heap v sc) v w ≡ gives p u →
        followed expanded made chain (at_form w.heap v sc) p u ≡ gives e after → MadeForm sc v w e after
    by_plan (instead other) u plan is = made_instead plan (goes_on expanded h chain _ _ other u e after is)
    by_plan (declared_around d other) u plan is = made_around plan (goes_on expanded h chain _ _ other u e after is)
    by_plan (makes x) u plan is = made_makes plan (k _ x u e after is)

-- what is so of a fuel
record IsMadeBy (fuel : ℕ) : Type 0 where
  forms_made : (levels : ℕ) → FormsAreMade (expand fuel levels)
  sketches_made : (levels : ℕ) (sc : Scope) → AreMade sc (make fuel levels sc)

sketch_is_made : (fuel : ℕ) → IsMadeBy fuel → (levels : ℕ) (sc : Scope) → AreMade sc (make (suc fuel) levels sc)
unfolding expand make
sketch_is_made fuel h levels sc (form v) w e after is = made_form (h.forms_made levels most_chain sc v w e after is)
sketch_is_made fuel h levels sc (leaf l) w e after is =
    let begun = began 1 levels sc _ w e after is in
    ends (λ (e : Core) (after : World). Made sc (leaf l) w e after) _ e _ after begun.rest (made_leaf begun.fits)
sketch_is_made fuel h levels sc (one n x) w e after is =
    let a = both _ _ w e after is in
    let begun = began _ levels sc _ w a.value a.between a.first in
    ends (λ (e : Core) (after : World). Made sc (one n x) w e after) _ e a.between after a.second
    (made_one begun.fits (h.sketches_made (inside levels) sc x _ a.value a.between begun.rest))
sketch_is_made fuel h levels sc (two n x y) w e after is =
    let a = both _ _ w e after is in
    let begun = began _ levels sc _ w a.value a.between a.first in
    let b = both _ _ a.between e after a.second in
    ends (λ (e : Core) (after : World). Made sc (two n x y) w e after) _ e b.between after b.second
    (made_two begun.fits (h.sketches_made (inside levels) sc x _ a.value a.between begun.rest) (h.sketches_made (inside levels) sc y a.between b.value b.between b.first))
sketch_is_made fuel h levels sc (choice x y z) w e after is =
    let a = both _ _ w e after is in
    let begun = began _ levels sc _ w a.value a.between a.first in
    let b = both _ _ a.between e after a.second in
    let c = both _ _ b.between e after b.second in
    ends (λ (e : Core) (after : World). Made sc (choice x y z) w e after) _ e c.between after c.second
    (made_choice begun.fits (h.sketches_made (inside levels) sc x _ a.value a.between begun.rest) (h.sketches_made (inside levels) sc y a.between b.value b.between b.first) (h.sketches_made (inside levels) sc z b.between c.value c.between c.first))
sketch_is_made fuel h levels sc (many m xs) w e after is =
    let a = both _ _ w e after is in
    let begun = began _ levels sc _ w a.value a.between a.first in
    ends (λ (e : Core) (after : World). Made sc (many m xs) w e after) _ e a.between after a.second
    (made_many begun.fits (each_is_made (make fuel (inside levels) sc) sc (h.sketches_made (inside levels) sc) xs _ a.value a.between begun.rest))
sketch_is_made fuel h levels sc (calling c x xs) w e after is =
    let a = both _ _ w e after is in
    let begun = began _ levels sc _ w a.value a.between a.first in
    let b = both _ _ a.between e after a.second in
    ends (λ (e : Core) (after : World). Made sc (calling c x xs) w e after) _ e b.between after b.second
    (made_calling begun.fits (h.sketches_made (inside levels) sc x _ a.value a.between begun.rest) (each_is_made (make fuel (inside levels) sc) sc (h.sketches_made (inside levels) sc) xs a.between b.value b.between b.first))
sketch_is_made fuel h levels sc (bind bs x) w e after is = bind_is_made levels (make fuel) h.sketches_made sc bs x w e after is
sketch_is_made fuel h levels sc (assign s v) w e after is =
    made_assign (h.sketches_made levels sc _ w e after (looked _ _ w e after is))
sketch_is_made fuel h levels sc (function f) w e after is =
    let a = both _ _ w e after is in
    ends (λ (e : Core) (after : World). Made sc (function f) w e after) _ e a.between after a.second
    (made_function (lambda_is_made levels (make fuel) h.sketches_made sc f w a.value a.between a.first))
sketch_is_made fuel h levels sc (functions reach vs x) w e after is = functions_are_made levels (make fuel) h.sketches_made sc reach vs x w e after is
sketch_is_made fuel h levels sc (recursive s f) w e after is = recursive_is_made levels (make fuel) h.sketches_made sc s f w e after is
sketch_is_made fuel h levels sc (block s x) w e after is = block_is_made levels (make fuel) h.sketches_made sc s x w e after is
sketch_is_made fuel h levels sc (tagbody vs) w e after is = tagbody_is_made levels (make fuel) h.sketches_made sc vs w e after is
sketch_is_made fuel h levels sc (within d x) w e after is = made_within (h.sketches_made levels (declared_in d sc) x w e after is)

all_are_made : (fuel : ℕ) → IsMadeBy fuel
unfolding expand make
all_are_made zero = record {
  forms_made = λ levels chain sc v w e after is. absurd (never_refused _ sc w e after is);
  sketches_made = λ levels sc x w e after is. absurd (never_refused _ sc w e after is);
}
all_are_made (suc fuel) = record {
  forms_made = λ levels chain sc v w e after is.
      form_is_made (expand fuel levels) (make fuel levels) ((all_are_made fuel).forms_made levels) ((all_are_made fuel).sketches_made levels) chain sc v w e after (looked _ _ w e after is);
  sketches_made = sketch_is_made fuel (all_are_made fuel);
}

pub trees_are_made : TreesAreMade
trees_are_made fuel levels chain sc v w e after is = (all_are_made fuel).forms_made levels chain sc v w e after is
