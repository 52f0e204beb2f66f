-- Where all places are one, all nodes and functions of a tree stand there.
use Rattle.std.specs.Prelude.{◌≡◌, ℕ, zero, suc, ◌<◌, List, [], ◌∷◌, ◌++◌, All, Option, Some, None, slice_index_or, refl}
use Rattle.std.proofs.Common.{arith}
use Rattle.std.proofs.lemmas.List.Elements.{All-append}
use Rattle.lisp_base.specs.declared.values.Place.{Place}
use Rattle.lisp_base.specs.declared.values.SymId.{SymId}
use Rattle.lisp_base.specs.declared.values.Val.{Val}
use Rattle.core_form.specs.Tree.{Core, Cores, Bindings, Optionals, Lambda, Definitions, Items, place_of}
use Rattle.core_form.specs.Facts.{FunctionText, gather, gather_all, gather_bindings, gather_optionals, gather_lambda, gather_definitions, gather_items}
use Rattle.core_form.specs.Lawful.{places_in}
use Rattle.expansion.specs.declared.heads.Leaf.{Leaf}
use Rattle.expansion.specs.declared.heads.Leaf.TheVariants.{Constant, LocalVariable, GlobalVariable, LocalFunction, GlobalFunction, GoTo}
use Rattle.expansion.specs.declared.heads.Binary.{Binary}
use Rattle.expansion.specs.declared.heads.Binary.TheVariants.{Catching, Throwing, Unwinding, KeepingValues}
use Rattle.expansion.specs.declared.heads.Many.{Many}
use Rattle.expansion.specs.declared.heads.Many.TheVariants.{Sequence, CallingLocal, CallingGlobal, Operating, GivingValues}
use Rattle.expansion.specs.declared.heads.Calling.{Calling}
use Rattle.expansion.specs.declared.heads.Calling.TheVariants.{Funcalling, Applying, CallingWithValues}
use Rattle.expansion.specs.Scopes.{Scope}
use Rattle.expansion.specs.Steps.{World}
use Rattle.expansion.specs.Sketches.{leaf_node, Unary, SettingLocal, SettingGlobal, SettingFunction, Testing, Checking, Returning, unary_node, binary_node, many_node, calling_node, Sketch, Sketches}
use Rattle.expansion.specs.Sketches as sketches
use Rattle.expansion.specs.Expanding.{Bound, BoundOptional, bounds_of}
use Rattle.expansion_laws.specs.Made.{MadeForm, made_instead, made_around, made_makes, Made, made_form, made_leaf, made_one, made_two, made_choice, made_many, made_calling, made_bind, made_assign, made_function, made_functions, made_recursive, made_block, made_tagbody, made_within, MadeEach, no_parts, more_parts, MadeValues, no_values, more_values, MadeDefaults, no_defaults, more_defaults, MadeLambda, made_lambda, MadeDefinitions, no_definitions, more_definitions, MadeItems, no_items, one_tag, one_step}
use Rattle.expansion_laws.specs.Places.{TreesStayInPlace}
use Rattle.expansion_laws.proofs.Making.{trees_are_made}
use Rattle.expansion_laws.proofs.Fixed.{IsFixed, fixed_at, fixed_declared, fixed_all, fixed_some, fixed_bound, fixed_definitions, fixed_around, fixed_tags}

-- all of these places are p
pub record At (p : Place) (ps : List Place) : Type 0 where
  pub all : All (λ q. q ≡ p) ps

none_at : {p : Place} → At p []
none_at = record { all = λ k d h. absurd (omega arith) }

one_at : {p q : Place} → q ≡ p → At p (q ∷ [])
one_at {p = p} {q = q} is = record { all = λ k d h. by_number k d h }
  where
    by_number : (k : ℕ) (d : Place) → k < 1 → slice_index_or (q ∷ []) k d ≡ p
    by_number zero d h = is
    by_number (suc k) d h = absurd (omega arith)

both_at : {p : Place} {ps qs : List Place} → At p ps → At p qs → At p (ps ++ qs)
both_at {p = p} {ps = ps} {qs = qs} h k = record { all = All-append (λ q. q ≡ p) ps qs h.all k.all }

-- one place more
then_at : {p q : Place} {qs : List Place} → q ≡ p → At p qs → At p (q ∷ qs)
then_at is h = both_at (one_at is) h

abbrev node_place : Core → List Place
node_place e = place_of e ∷ []

abbrev function_place : FunctionText → List Place
function_place f = f.place ∷ []

-- ---- nodes by their parts

leaf_at : {p : Place} (l : Leaf) (q : Place) → q ≡ p → At p (places_in (leaf_node l q))
unfolding gather
leaf_at (Constant v) q h = one_at h
leaf_at (LocalVariable n) q h = one_at h
leaf_at (GlobalVariable s) q h = one_at h
leaf_at (LocalFunction f) q h = one_at h
leaf_at (GlobalFunction s) q h = one_at h
leaf_at (GoTo t) q h = one_at h

one_node_at : {p : Place} (u : Unary) (q : Place) (e : Core) → q ≡ p → At p (places_in e) → At p (places_in (unary_node u q e))
unfolding gather
one_node_at (SettingLocal n) q e h k = then_at h k
one_node_at (SettingGlobal s) q e h k = then_at h k
one_node_at (SettingFunction s) q e h k = then_at h k
one_node_at (Testing t) q e h k = then_at h k
one_node_at (Checking t) q e h k = then_at h k
one_node_at (Returning b) q e h k = then_at h k

two_node_at : {p : Place} (b : Binary) (q : Place) (e f : Core) → q ≡ p → At p (places_in e) → At p (places_in f) → At p (places_in (binary_node b q e f))
unfolding gather
two_node_at Catching q e f h k l = then_at h (both_at k l)
two_node_at Throwing q e f h k l = then_at h (both_at k l)
two_node_at Unwinding q e f h k l = then_at h (both_at k l)
two_node_at KeepingValues q e f h k l = then_at h (both_at k l)

many_node_at : {p : Place} (m : Many) (q : Place) (es : Cores) → q ≡ p → At p (gather_all node_place function_place es) → At p (places_in (many_node m q es))
unfolding gather
many_node_at Sequence q es h k = then_at h k
many_node_at (CallingLocal f) q es h k = then_at h k
many_node_at (CallingGlobal s) q es h k = then_at h k
many_node_at (Operating o) q es h k = then_at h k
many_node_at GivingValues q es h k = then_at h k

calling_node_at : {p : Place} (c : Calling) (q : Place) (e : Core) (es : Cores) → q ≡ p → At p (places_in e) → At p (gather_all node_place function_place es) →
    At p (places_in (calling_node c q e es))
unfolding gather
calling_node_at Funcalling q e es h k l = then_at h (both_at k l)
calling_node_at Applying q e es h k l = then_at h (both_at k l)
calling_node_at CallingWithValues q e es h k l = then_at h (both_at k l)

-- ---- trees

mutual
  unfolding gather

  pub form_at : {sc : Scope} {v : Val} {w after : World} {e : Core} {p : Place} → MadeForm sc v w e after → IsFixed p sc → At p (places_in e)
  form_at (made_instead {v = v} {w = w} plan h) f = form_at h (fixed_at w.heap v f)
  form_at (made_around {v = v} {w = w} {d = d} plan h) f = form_at h (fixed_declared d (fixed_at w.heap v f))
  form_at (made_makes {v = v} {w = w} plan h) f = sketch_at h (fixed_at w.heap v f)

  pub sketch_at : {sc : Scope} {x : Sketch} {w after : World} {e : Core} {p : Place} → Made sc x w e after → IsFixed p sc → At p (places_in e)
  sketch_at (made_form h) f = form_at h f
  sketch_at (made_leaf {sc = sc} {l = l} fits) f = leaf_at l sc.place f.at
  sketch_at (made_one {sc = sc} {u = u} {e = e} fits h) f = one_node_at u sc.place e f.at (sketch_at h f)
  sketch_at (made_two {sc = sc} {b = b} {e = e} {f = g} fits h k) f = two_node_at b sc.place e g f.at (sketch_at h f) (sketch_at k f)
  sketch_at (made_choice fits h k l) f = then_at f.at (both_at (both_at (sketch_at h f) (sketch_at k f)) (sketch_at l f))
  sketch_at (made_many {sc = sc} {m = m} {es = es} fits h) f = many_node_at m sc.place es f.at (each_at h f)
  sketch_at (made_calling {sc = sc} {c = c} {e = e} {es = es} fits h k) f = calling_node_at c sc.place e es f.at (sketch_at h f) (each_at k f)
  sketch_at (made_bind {ps = ps} fits h k l) f = then_at f.at (both_at (values_at k f) (sketch_at l (fixed_all (bounds_of ps) f)))
  sketch_at (made_assign h) f = sketch_at h f
  sketch_at (made_function {sc = sc} h) f = then_at f.at (lambda_at None sc.place f.at h f)
  sketch_at (made_functions {reach = reach} {vs = vs} {w = w} fits h k) f =
      then_at f.at (both_at (definitions_at h (fixed_around reach f (fixed_definitions w.heap w.next vs f))) (sketch_at k (fixed_definitions w.heap w.next vs f)))
  sketch_at (made_recursive {sc = sc} {s = s} fits h again) f =
      then_at f.at (both_at (both_at (lambda_at (Some s) sc.place f.at h (record { fixed = f.fixed; at = f.at })) none_at) (one_at f.at))
  sketch_at (made_block fits h) f = then_at f.at (sketch_at h (record { fixed = f.fixed; at = f.at }))
  sketch_at (made_tagbody {vs = vs} {w = w} fits h) f = then_at f.at (items_at h (fixed_tags w.next vs f))
  sketch_at (made_within {d = d} h) f = sketch_at h (fixed_declared d f)

  each_at : {sc : Scope} {xs : Sketches} {w after : World} {es : Cores} {p : Place} → MadeEach sc xs w es after → IsFixed p sc →
      At p (gather_all node_place function_place es)
  each_at no_parts f = none_at
  each_at (more_parts h k) f = both_at (sketch_at h f) (each_at k f)

  values_at : {sc : Scope} {ps : List (Bound × Val)} {w after : World} {bs : Bindings} {p : Place} → MadeValues sc ps w bs after → IsFixed p sc →
      At p (gather_bindings node_place function_place bs)
  values_at no_values f = none_at
  values_at (more_values h k) f = both_at (sketch_at h f) (values_at k f)

  defaults_at : {sc : Scope} {os : List BoundOptional} {w after : World} {es : Optionals} {last : Scope} {p : Place} → MadeDefaults sc os w es last after → IsFixed p sc →
      At p (gather_optionals node_place function_place es) × IsFixed p last
  defaults_at no_defaults f = (none_at, f)
  defaults_at (more_defaults {o = o} h k) f =
      let rest = defaults_at k (fixed_some o.supplied (fixed_bound o.bound f)) in (both_at (sketch_at h f) rest.0, rest.1)

  lambda_at : {sc : Scope} {x : sketches.Function} {w after : World} {l : Lambda} {p : Place} (name : Option SymId) (q : Place) → q ≡ p → MadeLambda sc x w l after → IsFixed p sc →
      At p (gather_lambda node_place function_place name q l)
  lambda_at name q is (made_lambda {xs = xs} {r = r} _ _ _ _ h k) f =
      let d = defaults_at h (fixed_all xs f) in then_at is (both_at d.0 (sketch_at k (fixed_some r d.1)))

  definitions_at : {sc : Scope} {n : ℕ} {vs : List Val} {w after : World} {ds : Definitions} {p : Place} → MadeDefinitions sc n vs w ds after → IsFixed p sc →
      At p (gather_definitions node_place function_place ds)
  definitions_at no_definitions f = none_at
  definitions_at (more_definitions {v = v} {w = w} {s = s} name given h k) f =
      let own = fixed_at w.heap v f in both_at (lambda_at (Some s) _ own.at h own) (definitions_at k f)

  items_at : {sc : Scope} {n : ℕ} {vs : List Val} {w after : World} {is : Items} {p : Place} → MadeItems sc n vs w is after → IsFixed p sc →
      At p (gather_items node_place function_place is)
  items_at no_items f = none_at
  items_at (one_tag test k) f = items_at k f
  items_at (one_step test h k) f = both_at (sketch_at h f) (items_at k f)

-- ---- the law

pub trees_stay_in_place : TreesStayInPlace
trees_stay_in_place fuel levels chain sc v w e after fixed is =
    (form_at (trees_are_made fuel levels chain sc v w e after is) (record { fixed = fixed; at = refl })).all
