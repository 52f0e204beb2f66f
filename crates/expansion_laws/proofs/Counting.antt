-- A tree has as many nodes, binders and functions as were counted while it was made.
use Rattle.std.specs.Prelude.{◌≡◌, ℕ, suc, ◌+◌, ◌<◌, ◌≤◌, Bool, true, false, List, [], ◌∷◌, ◌++◌, length, map, flat_map, Option, Some, None, refl}
use Rattle.std.proofs.Common.{◌∙◌, ap, sym, arith, append-nil}
use Rattle.std.proofs.lemmas.List.Concat.{flat_map-append}
use Rattle.lisp_base.specs.declared.values.Place.{Place}
use Rattle.lisp_base.specs.declared.values.SymId.{SymId}
use Rattle.lisp_base.specs.declared.values.Val.{Val}
use Rattle.core_form.specs.Tree.{Parameter, Core, Quote, Function, Cores, Bindings, no_binding, binding, Optionals, no_optional, optional, Lambda, lambda, Definitions, Items, node_count, node_counts, bindings_count, optionals_count, lambda_count, definitions_count, items_count}
use Rattle.core_form.specs.Facts.{FunctionText, gather, gather_all, gather_bindings, gather_optionals, gather_lambda, gather_definitions, gather_items, no_node, one_function as one_text, functions_in, parameter_number, if_given, binding_parameters, optional_parameters}
use Rattle.core_form.specs.Lawful.{CountFrom, function_number, bound_here, bound_by, bound_in}
use Rattle.core_form.specs.Checked.{function_numbers, tag_numbers}
use Rattle.expansion.specs.declared.heads.Leaf.{Leaf}
use Rattle.expansion.specs.declared.heads.Leaf.TheVariants.{Constant, LocalVariable, GlobalVariable, LocalFunction, GlobalFunction, GoTo}
use Rattle.expansion.specs.declared.heads.Binary.{Binary}
use Rattle.expansion.specs.declared.heads.Binary.TheVariants.{Catching, Throwing, Unwinding, KeepingValues}
use Rattle.expansion.specs.declared.heads.Many.{Many}
use Rattle.expansion.specs.declared.heads.Many.TheVariants.{Sequence, CallingLocal, CallingGlobal, Operating, GivingValues}
use Rattle.expansion.specs.declared.heads.Calling.{Calling}
use Rattle.expansion.specs.declared.heads.Calling.TheVariants.{Funcalling, Applying, CallingWithValues}
use Rattle.expansion.specs.Scopes.{Scope}
use Rattle.expansion.specs.Steps.{World, most_nodes}
use Rattle.expansion.specs.Sketches.{leaf_node, Unary, SettingLocal, SettingGlobal, SettingFunction, Testing, Checking, Returning, unary_node, unary_count, binary_node, many_node, calling_node, Binder, Initial, Optional', Sketch, Sketches}
use Rattle.expansion.specs.Sketches as sketches
use Rattle.expansion.specs.Expanding.{Bound, is_special, numbers_for, variable_for, parameter_for, parameters, parameter_some, BoundOptional, optionals_size, function_size, tags_in}
use Rattle.expansion_laws.specs.Made.{counted, numbered, one_function, MadeBound, made_bound, MadeBounds, no_bounds, more_bounds, MadeSome, made_none, made_some, MadeInitials, no_initials, more_initials, MadeOptionals, no_optionals, more_optionals, MadeForm, made_instead, made_around, made_makes, Made, made_form, made_leaf, made_one, made_two, made_choice, made_many, made_calling, made_bind, made_assign, made_function, made_functions, made_recursive, made_block, made_tagbody, made_within, MadeEach, no_parts, more_parts, MadeValues, no_values, more_values, MadeDefaults, no_defaults, more_defaults, MadeLambda, made_lambda, MadeDefinitions, no_definitions, more_definitions, MadeItems, no_items, one_tag, one_step}
use Rattle.expansion_laws.specs.Counts.{TreesAreCounted}
use Rattle.expansion_laws.proofs.Making.{trees_are_made}
use Rattle.expansion_laws.proofs.KeptCounts.{kept}
use Rattle.expansion_laws.proofs.KeptPlans.{function_kept, plan_kept}
use Rattle.expansion_laws.proofs.Counted.{Counted, none_counted, after_same, begins, then, recount, rebind, refunction}

-- a whole tree is counted
abbrev TreeCounted : World → Core → World → Type 0
TreeCounted w e after = Counted w (node_count e) (bound_in e) (functions_in e) after

-- only numbers of variables are taken
abbrev Numbered : World → List Parameter → World → Type 0
Numbered w xs after = Counted w 0 (flat_map parameter_number xs) [] after

-- ---- variables

bound_numbered : {b : Binder} {w after : World} {x : Bound} → MadeBound b w x after → Counted w 0 (parameter_number x.1) [] after
bound_numbered (made_bound {b = b} {w = w}) = by_kind (is_special w b)
  where
    by_kind : (special : Bool) → Counted w 0 (parameter_number (record { variable = variable_for special w.next b.variable; types = (parameter_for w b w.next).types })) [] (numbered (numbers_for special) w)
    by_kind true = record { nodes = omega arith; binders = tt; next = omega arith; numbers = tt; functions = omega arith; few = λ h. absurd (omega arith) }
    by_kind false = record { nodes = omega arith; binders = (refl, tt); next = refl; numbers = tt; functions = omega arith; few = λ h. absurd (omega arith) }

bounds_numbered : {bs : List Binder} {w after : World} {xs : List Bound} → MadeBounds bs w xs after → Numbered w (parameters xs) after
bounds_numbered no_bounds = none_counted
bounds_numbered (more_bounds h k) = then (bound_numbered h) (bounds_numbered k)

some_numbered : {b : Option Binder} {w after : World} {x : Option Bound} → MadeSome b w x after → Numbered w (if_given (parameter_some x)) after
some_numbered made_none = none_counted
some_numbered (made_some {x = x} h) = rebind (sym (append-nil (parameter_number x.1))) (bound_numbered h)

abbrev initial_parameters : List (Bound × Val) → List Parameter
initial_parameters ps = map (λ (p : Bound × Val). p.0.1) ps

initials_numbered : {bs : List Initial} {w after : World} {ps : List (Bound × Val)} → MadeInitials bs w ps after → Numbered w (initial_parameters ps) after
initials_numbered no_initials = none_counted
initials_numbered (more_initials h k) = then (bound_numbered h) (initials_numbered k)

as_many_initials : {bs : List Initial} {w after : World} {ps : List (Bound × Val)} → MadeInitials bs w ps after → length ps ≡ length bs
as_many_initials no_initials = refl
as_many_initials (more_initials h k) = ap suc (as_many_initials k)

abbrev bound_parameters : List BoundOptional → List Parameter
bound_parameters [] = []
bound_parameters (o ∷ os) = o.bound.1 ∷ (if_given (parameter_some o.supplied) ++ bound_parameters os)

optionals_numbered : {os : List Optional'} {w after : World} {xs : List BoundOptional} → MadeOptionals os w xs after → Numbered w (bound_parameters xs) after
optionals_numbered no_optionals = none_counted
optionals_numbered (more_optionals {x = x} {s = s} {xs = xs} h k l) =
    rebind (ap (λ (bs : List ℕ). parameter_number x.1 ++ bs) (sym (flat_map-append parameter_number (if_given (parameter_some s)) (bound_parameters xs))))
    (then (bound_numbered h) (then (some_numbered k) (optionals_numbered l)))

-- ---- nodes by their parts

leaf_counted : {w : World} (l : Leaf) (p : Place) → w.nodes + 1 ≤ most_nodes → TreeCounted w (leaf_node l p) (counted 1 w)
unfolding gather
leaf_counted (Constant v) p h = begins 1 h
leaf_counted (LocalVariable n) p h = begins 1 h
leaf_counted (GlobalVariable s) p h = begins 1 h
leaf_counted (LocalFunction f) p h = begins 1 h
leaf_counted (GlobalFunction s) p h = begins 1 h
leaf_counted (GoTo t) p h = begins 1 h

one_counted : {w after : World} (u : Unary) (p : Place) (e : Core) → Counted w (unary_count u + node_count e) (bound_in e) (functions_in e) after →
    TreeCounted w (unary_node u p e) after
unfolding gather
one_counted (SettingLocal n) p e h = h
one_counted (SettingGlobal s) p e h = h
one_counted (SettingFunction s) p e h = h
one_counted (Testing t) p e h = h
one_counted (Checking t) p e h = h
one_counted (Returning b) p e h = h

two_counted : {w after : World} (b : Binary) (p : Place) (e f : Core) →
    Counted w (1 + node_count e + node_count f) (bound_in e ++ bound_in f) (functions_in e ++ functions_in f) after → TreeCounted w (binary_node b p e f) after
unfolding gather
two_counted Catching p e f h = h
two_counted Throwing p e f h = h
two_counted Unwinding p e f h = h
two_counted KeepingValues p e f h = h

abbrev AllCounted : World → Cores → World → Type 0
AllCounted w es after = Counted w (node_counts es) (gather_all bound_here bound_by es) (gather_all no_node one_text es) after

many_counted : {w after : World} (m : Many) (p : Place) (es : Cores) →
    Counted w (1 + node_counts es) (gather_all bound_here bound_by es) (gather_all no_node one_text es) after → TreeCounted w (many_node m p es) after
unfolding gather
many_counted Sequence p es h = h
many_counted (CallingLocal f) p es h = h
many_counted (CallingGlobal s) p es h = h
many_counted (Operating q) p es h = h
many_counted GivingValues p es h = h

calling_counted : {w after : World} (c : Calling) (p : Place) (e : Core) (es : Cores) →
    Counted w (1 + node_count e + node_counts es) (bound_in e ++ gather_all bound_here bound_by es) (functions_in e ++ gather_all no_node one_text es) after →
    TreeCounted w (calling_node c p e es) after
unfolding gather
calling_counted Funcalling p e es h = h
calling_counted Applying p e es h = h
calling_counted CallingWithValues p e es h = h

-- ---- parts that hold variables

abbrev value_nodes : Bindings → ℕ
value_nodes no_binding = 0
value_nodes (binding x e bs) = node_count e + value_nodes bs

values_nodes : {sc : Scope} {ps : List (Bound × Val)} {w after : World} {bs : Bindings} → MadeValues sc ps w bs after →
    bindings_count bs ≡ length ps + value_nodes bs
values_nodes no_values = omega arith
values_nodes (more_values {e = e} {bs = bs} h k) = let is = values_nodes k in omega (arith, is)

values_parameters : {sc : Scope} {ps : List (Bound × Val)} {w after : World} {bs : Bindings} → MadeValues sc ps w bs after →
    binding_parameters bs ≡ initial_parameters ps
values_parameters no_values = refl
values_parameters (more_values {p = p} h k) = ap (λ (xs : List Parameter). p.0.1 ∷ xs) (values_parameters k)

abbrev default_nodes : Optionals → ℕ
default_nodes no_optional = 0
default_nodes (optional x e s os) = node_count e + default_nodes os

defaults_nodes : {sc last : Scope} {os : List BoundOptional} {w after : World} {es : Optionals} → MadeDefaults sc os w es last after →
    optionals_count es ≡ optionals_size os + default_nodes es
defaults_nodes no_defaults = omega arith
defaults_nodes (more_defaults {o = o} {os = os} {e = e} {es = es} h k) = let is = defaults_nodes k in omega (arith, is)

defaults_parameters : {sc last : Scope} {os : List BoundOptional} {w after : World} {es : Optionals} → MadeDefaults sc os w es last after →
    optional_parameters es ≡ bound_parameters os
defaults_parameters no_defaults = refl
defaults_parameters (more_defaults {o = o} h k) =
    ap (λ (xs : List Parameter). o.bound.1 ∷ (if_given (parameter_some o.supplied) ++ xs)) (defaults_parameters k)

-- ---- parts that hold numbers

numbered_definitions : {sc : Scope} {n : ℕ} {vs : List Val} {w after : World} {ds : Definitions} → MadeDefinitions sc n vs w ds after →
    CountFrom n (function_numbers ds) × (length (function_numbers ds) ≡ length vs)
numbered_definitions no_definitions = (tt, refl)
numbered_definitions (more_definitions name given h k) = let rest = numbered_definitions k in ((refl, rest.0), ap suc rest.1)

numbered_tags : {sc : Scope} {n : ℕ} {vs : List Val} {w after : World} {is : Items} → MadeItems sc n vs w is after →
    CountFrom n (tag_numbers is) × (length (tag_numbers is) ≡ tags_in vs)
numbered_tags no_items = (tt, refl)
numbered_tags (one_tag test k) = let rest = numbered_tags k in ((refl, rest.0), rw test (ap suc rest.1))
numbered_tags (one_step test h k) = let rest = numbered_tags k in (rest.0, rw test rest.1)

-- so many numbers are taken
takes : {w : World} (ns : List ℕ) (count : ℕ) → CountFrom w.next ns → length ns ≡ count → Counted w 0 ns [] (numbered count w)
takes {w = w} ns count h is =
    record { nodes = omega arith; binders = h; next = ap (λ (n : ℕ). w.next + n) (sym is); numbers = tt; functions = omega arith; few = λ h. absurd (omega arith) }

-- the number of a function is taken
takes_function : {w : World} (f : FunctionText) → (CountFrom w.functions (map function_number (f ∷ []))) → Counted w 0 [] (f ∷ []) (one_function w)
takes_function f h = record { nodes = omega arith; binders = tt; next = omega arith; numbers = h; functions = omega arith; few = λ h. absurd (omega arith) }

-- ---- trees

-- the numbers of a function's variables, one part after another
parameter_numbers : (xs os rs : List Parameter) →
    (flat_map parameter_number xs ++ flat_map parameter_number os) ++ flat_map parameter_number rs ≡ flat_map parameter_number ((xs ++ os) ++ rs)
parameter_numbers xs os rs =
    ap (λ (ns : List ℕ). ns ++ flat_map parameter_number rs) (sym (flat_map-append parameter_number xs os)) ∙ sym (flat_map-append parameter_number (xs ++ os) rs)

nothing_more : {A : Type 0} (xs : List A) → xs ++ [] ≡ xs
nothing_more xs = append-nil xs

lambda_numbers : (xs : List Bound) (os : List BoundOptional) (r : Option Bound) (es : Optionals) (inside : List ℕ) → optional_parameters es ≡ bound_parameters os →
    ((flat_map parameter_number (parameters xs) ++ flat_map parameter_number (bound_parameters os)) ++ flat_map parameter_number (if_given (parameter_some r))) ++ inside
    ≡ flat_map parameter_number ((parameters xs ++ optional_parameters es) ++ if_given (parameter_some r)) ++ inside
lambda_numbers xs os r es inside is =
    ap (λ (ns : List ℕ). ns ++ inside) (parameter_numbers (parameters xs) (bound_parameters os) (if_given (parameter_some r)))
    ∙ ap (λ (ys : List Parameter). flat_map parameter_number ((parameters xs ++ ys) ++ if_given (parameter_some r)) ++ inside) (sym is)

mutual
  unfolding gather

  pub form_counted : {sc : Scope} {v : Val} {w after : World} {e : Core} → MadeForm sc v w e after → TreeCounted w e after
  form_counted (made_instead {sc = sc} {v = v} plan h) = after_same (kept (plan_kept _ v) _ _ _ plan) (form_counted h)
  form_counted (made_around {sc = sc} {v = v} plan h) = after_same (kept (plan_kept _ v) _ _ _ plan) (form_counted h)
  form_counted (made_makes {sc = sc} {v = v} plan h) = after_same (kept (plan_kept _ v) _ _ _ plan) (sketch_counted h)

  sketch_counted : {sc : Scope} {x : Sketch} {w after : World} {e : Core} → Made sc x w e after → TreeCounted w e after
  sketch_counted (made_form h) = form_counted h
  sketch_counted (made_leaf {sc = sc} {l = l} fits) = leaf_counted l sc.place fits
  sketch_counted (made_one {sc = sc} {u = u} {e = e} fits h) = one_counted u sc.place e (then (begins (unary_count u) fits) (sketch_counted h))
  sketch_counted (made_two {sc = sc} {b = b} {e = e} {f = f} fits h k) =
      two_counted b sc.place e f (then (then (begins 1 fits) (sketch_counted h)) (sketch_counted k))
  sketch_counted (made_choice fits h k l) =
      then (then (then (begins 1 fits) (sketch_counted h)) (sketch_counted k)) (sketch_counted l)
  sketch_counted (made_many {sc = sc} {m = m} {es = es} fits h) = many_counted m sc.place es (then (begins 1 fits) (each_counted h))
  sketch_counted (made_calling {sc = sc} {c = c} {e = e} {es = es} fits h k) =
      calling_counted c sc.place e es (then (then (begins 1 fits) (sketch_counted h)) (each_counted k))
  sketch_counted (made_bind {bs = bs} {ps = ps} {values = values} {e = e} fits h k l) =
      let as_many = as_many_initials h in
      let nodes = values_nodes k in
      recount (omega (arith, as_many, nodes))
      (rebind (ap (λ (xs : List Parameter). (flat_map parameter_number xs ++ gather_bindings bound_here bound_by values) ++ bound_in e) (sym (values_parameters k)))
      (then (then (then (begins (1 + length bs) fits) (initials_numbered h)) (values_counted k)) (sketch_counted l)))
  sketch_counted (made_assign h) = sketch_counted h
  sketch_counted (made_function {sc = sc} h) = lambda_counted None sc.place h
  sketch_counted (made_functions {vs = vs} {ds = ds} fits h k) =
      let numbers = numbered_definitions h in
      recount (omega arith) (then (then (then (begins 1 fits) (takes (function_numbers ds) (length vs) numbers.0 numbers.1)) (definitions_counted h)) (sketch_counted k))
  sketch_counted (made_recursive {sc = sc} {s = s} {w = w} {l = l} fits h again) =
      recount (omega arith) (rebind (ap (λ (ns : List ℕ). w.next ∷ ns) (sym (nothing_more (gather_lambda bound_here bound_by (Some s) sc.place l ++ [])))) (refunction (sym (nothing_more (gather_lambda no_node one_text (Some s) sc.place l ++ []))) (then (then (then (begins 1 fits) (takes (w.next ∷ []) 1 (refl, tt) refl)) (lambda_counted (Some s) sc.place h)) (begins 1 again))))
  sketch_counted (made_block {w = w} fits h) =
      recount (omega arith) (then (then (begins 1 fits) (takes (w.next ∷ []) 1 (refl, tt) refl)) (sketch_counted h))
  sketch_counted (made_tagbody {vs = vs} {is = is} fits h) =
      let numbers = numbered_tags h in
      recount (omega arith) (then (then (begins 1 fits) (takes (tag_numbers is) (tags_in vs) numbers.0 numbers.1)) (items_counted h))
  sketch_counted (made_within h) = sketch_counted h

  each_counted : {sc : Scope} {xs : Sketches} {w after : World} {es : Cores} → MadeEach sc xs w es after → AllCounted w es after
  each_counted no_parts = none_counted
  each_counted (more_parts h k) = then (sketch_counted h) (each_counted k)

  values_counted : {sc : Scope} {ps : List (Bound × Val)} {w after : World} {bs : Bindings} → MadeValues sc ps w bs after →
      Counted w (value_nodes bs) (gather_bindings bound_here bound_by bs) (gather_bindings no_node one_text bs) after
  values_counted no_values = none_counted
  values_counted (more_values h k) = then (sketch_counted h) (values_counted k)

  defaults_counted : {sc : Scope} {os : List BoundOptional} {w after : World} {es : Optionals} {last : Scope} → MadeDefaults sc os w es last after →
      Counted w (default_nodes es) (gather_optionals bound_here bound_by es) (gather_optionals no_node one_text es) after
  defaults_counted no_defaults = none_counted
  defaults_counted (more_defaults h k) = then (sketch_counted h) (defaults_counted k)

  lambda_counted : {sc : Scope} {f : sketches.Function} {w after : World} {l : Lambda} (name : Option SymId) (p : Place) → MadeLambda sc f w l after →
      Counted w (lambda_count l) (gather_lambda bound_here bound_by name p l) (gather_lambda no_node one_text name p l) after
  lambda_counted name p (made_lambda {w = w} {xs = xs} {os = os} {r = r} {es = es} {e = e} first second third fits h k) =
      let nodes = defaults_nodes h in
      let l = lambda w.functions (parameters xs) es (parameter_some r) e in
      recount (omega (arith, nodes))
      (rebind (ap (λ (ns : List ℕ). ns ++ bound_in e) (lambda_numbers xs os r es (gather_optionals bound_here bound_by es) (defaults_parameters h)))
      (then (then (then (then (then (takes_function (record { name = name; place = p; lambda = l }) (refl, tt)) (bounds_numbered first)) (optionals_numbered second)) (some_numbered third)) (then (begins (function_size xs os r) fits) (defaults_counted h))) (sketch_counted k)))

  definitions_counted : {sc : Scope} {n : ℕ} {vs : List Val} {w after : World} {ds : Definitions} → MadeDefinitions sc n vs w ds after →
      Counted w (definitions_count ds) (gather_definitions bound_here bound_by ds) (gather_definitions no_node one_text ds) after
  definitions_counted no_definitions = none_counted
  definitions_counted (more_definitions {sc = sc} {v = v} {w = w} {s = s} name given h k) =
      after_same (kept (function_kept _ _ _) _ _ _ given) (then (lambda_counted (Some s) _ h) (definitions_counted k))

  items_counted : {sc : Scope} {n : ℕ} {vs : List Val} {w after : World} {is : Items} → MadeItems sc n vs w is after →
      Counted w (items_count is) (gather_items bound_here bound_by is) (gather_items no_node one_text is) after
  items_counted no_items = none_counted
  items_counted (one_tag test k) = items_counted k
  items_counted (one_step test h k) = then (sketch_counted h) (items_counted k)

-- ---- the law

some_node : (e : Core) → 0 < node_count e
some_node (Function p (lambda k xs os r e)) = omega arith
some_node (Quote p v) = omega arith
some_node _ = omega arith

pub trees_are_counted : TreesAreCounted
trees_are_counted fuel levels chain sc v w e after is =
    let h = form_counted (trees_are_made fuel levels chain sc v w e after is) in
    record { nodes = h.nodes; binders = h.binders; next = h.next; numbers = h.numbers; functions = h.functions; few = h.few (some_node e) }
