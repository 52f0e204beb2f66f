-- Heaps only grow while a tree is made.
use Rattle.std.specs.Prelude.{◌≡◌, refl, ℕ, zero, suc, List, [], ◌∷◌, ◌++◌, map, slice_get, Option, Some, None}
use Rattle.std.specs.Option.{option_map}
use Rattle.std.proofs.Common.{ap, sym, subst, ◌∙◌, append_assoc}
use Rattle.std.proofs.lemmas.List.{append-nil}
use Rattle.lisp_base.specs.declared.values.SymId.{SymId}
use Rattle.lisp_base.specs.declared.values.Val.{Val}
use Rattle.lisp_base.specs.declared.values.Val.TheVariants.{Int, Char, Sym, Ref}
use Rattle.lisp_base.specs.Sort.{nil, index_of}
use Rattle.lisp_base.specs.Tables.{Table, Object}
use Rattle.lisp_forms.specs.Conses.{cons_parts, cons_at}
use Rattle.lisp_forms.specs.Trees.{Tree, form, fresh, inner, listed, Trees, none, also}
use Rattle.lisp_forms.specs.Building.{made_list, built, built_each}
use Rattle.lambda_lists.specs.Trees.{test_tree, value_tree, supplied_tree, refusal_tree}
use Rattle.lambda_lists.specs.LambdaLists.{Default, LambdaList, KeyForms, Keyed, made, bound, bound_supplied, bound_key, bound_keys, keyed, keyword_in, made_forms, key_forms, with_table}
use Rattle.std_macros.specs.declared.macros.Macro.{Macro}
use Rattle.std_macros.specs.Rules.{Expansion}
use Rattle.std_macros.specs.Expanding.{gives as makes_form, fresh_symbols, built_around, with_symbols, expanded_by, arguments_row, arguments_of, expanded, expanded_as, expanded_form, macro_of_form}
use Rattle.lisp_forms.specs.Conses.{place_at}
use Rattle.lisp_base.specs.declared.values.Place.{Place}
use Rattle.core_form.specs.Tree.{Core, Cores, Bindings, Optionals, Lambda, Definitions, Items}
use Rattle.expansion.specs.declared.operator.Operator.{Operator}
use Rattle.expansion.specs.Scopes.{Scope, at_form}
use Rattle.expansion.specs.Steps.{World, gives}
use Rattle.expansion.specs.Sketches.{Binder, Initial, Optional', Sketch, Sketches, Function, Plan}
use Rattle.expansion.specs.Bindings.{Contents, function_sketch}
use Rattle.expansion.specs.Forms.{plan_of}
use Rattle.expansion.specs.Expanding.{Bound, BoundOptional}
use Rattle.expansion_laws.specs.Planned.{Shaped, without_keys, with_keys, Sketched, function_read, Operated, makes_function, defines, Planned, macro_form, operator_form}
use Rattle.expansion_laws.specs.Made.{made_bound, MadeBounds, no_bounds, more_bounds, MadeSome, made_none, made_some, MadeInitials, no_initials, more_initials, MadeOptionals, no_optionals, more_optionals, MadeForm, made_instead, made_around, made_makes, Made, made_form, made_leaf, made_one, made_two, made_choice, made_many, made_calling, made_bind, made_assign, made_function, made_functions, made_recursive, made_block, made_tagbody, made_within, MadeEach, no_parts, more_parts, MadeValues, no_values, more_values, MadeDefaults, no_defaults, more_defaults, MadeLambda, made_lambda, MadeDefinitions, no_definitions, more_definitions, MadeItems, no_items, one_tag, one_step}
use Rattle.expansion_laws.proofs.Giving.{given_has}
use Rattle.expansion_laws.proofs.FunctionPlans.{function_gives}
use Rattle.expansion_laws.proofs.Planning.{planned}

-- ---- heaps that hold what others hold

-- a heap that begins with another
pub record Longer (old new : List Object) : Type 0 where
  pub more : List Object
  pub is : new ≡ old ++ more

as_long : {heap : List Object} → Longer heap heap
as_long {heap = heap} = record { more = []; is = sym (append-nil heap) }

pub longer_by : {heap : List Object} (more : List Object) → Longer heap (heap ++ more)
longer_by more = record { more = more; is = refl }

pub longer_on : {a b c : List Object} → Longer a b → Longer b c → Longer a c
longer_on {a = a} h k = record { more = h.more ++ k.more; is = k.is ∙ ap (λ (xs : List Object). xs ++ k.more) h.is ∙ append_assoc a h.more k.more }

get_kept : (xs ys : List Object) (n : ℕ) (p : Val × Val) → cons_parts (slice_get xs n) ≡ Some p → cons_parts (slice_get (xs ++ ys) n) ≡ Some p
get_kept [] ys n p e = absurd (cc)
get_kept (y ∷ xs) ys zero p e = e
get_kept (y ∷ xs) ys (suc n) p e = get_kept xs ys n p e

-- a cons stays what it is
pub cons_kept : {old new : List Object} (v : Val) (p : Val × Val) → Longer old new → cons_at old v ≡ Some p → cons_at new v ≡ Some p
cons_kept (Int z) p l e = absurd (cc)
cons_kept (Char c) p l e = absurd (cc)
cons_kept (Sym s) p l e = absurd (cc)
cons_kept {old = old} (Ref o) p l e = ap (λ (xs : List Object). cons_parts (slice_get xs (index_of o))) l.is ∙ get_kept old l.more (index_of o) p e

-- ---- what is built

pub list_longer : (vs : List Val) (tail : Val) (heap : List Object) → Longer heap (made_list vs tail heap).1
list_longer [] tail heap = as_long
list_longer (v ∷ vs) tail heap = longer_on (list_longer vs tail heap) (longer_by _)

module _ (symbols : List Val) (before : Val) where
  mutual
    unfolding built built_each

    built_longer : (x : Tree) (heap : List Object) → Longer heap (built symbols before x heap).1
    built_longer (form v) heap = as_long
    built_longer (fresh n) heap = as_long
    built_longer inner heap = as_long
    built_longer (listed xs tail) heap = longer_on (each_longer xs heap) (list_longer (built_each symbols before xs heap).0 tail (built_each symbols before xs heap).1)

    each_longer : (xs : Trees) (heap : List Object) → Longer heap (built_each symbols before xs heap).1
    each_longer none heap = as_long
    each_longer (also x xs) heap = longer_on (built_longer x heap) (each_longer xs (built symbols before x heap).1)

around_longer : (symbols : List Val) (xs : List Tree) (v : Val) (heap : List Object) → Longer heap (built_around symbols xs (v, heap)).1
unfolding built_around
around_longer symbols [] v heap = as_long
around_longer symbols (x ∷ xs) v heap =
    longer_on (built_longer symbols v x heap) (around_longer symbols xs (built symbols v x heap).0 (built symbols v x heap).1)

-- ---- macro forms

module _ (v : Val) (table : Table) (heap old : List Object) where
  with_symbols_longer : (x : Expansion) (found : Option (List Val × Table)) → with_symbols x old found ≡ makes_form v table heap → Longer old heap
  with_symbols_longer x None e = absurd (cc)
  with_symbols_longer x (Some found) e =
      let is : (built_around found.0 x.around (built found.0 nil x.first old)).1 ≡ heap = cc in
      subst (λ (h : List Object). Longer old h) is (longer_on (built_longer found.0 nil x.first old) (around_longer found.0 x.around (built found.0 nil x.first old).0 (built found.0 nil x.first old).1))

  expanded_by_longer : (x : Option Expansion) (place : Option Place) (before : Table) → expanded_by x place before old ≡ makes_form v table heap → Longer old heap
  expanded_by_longer None place before e = absurd (cc)
  expanded_by_longer (Some x) place before e = with_symbols_longer x (fresh_symbols x.count before) e

  expanded_as_longer : (m : Option Macro) (before : Table) (f : Val) → expanded_as m before old f ≡ makes_form v table heap → Longer old heap
  unfolding expanded
  expanded_as_longer None before f e = absurd (cc)
  expanded_as_longer (Some m) before f e = expanded_by_longer (arguments_row m old (arguments_of old f)) (place_at old f) before e

  expanded_longer : (before : Table) (f : Val) → expanded_form before old f ≡ makes_form v table heap → Longer old heap
  unfolding expanded_form
  expanded_longer before f e = expanded_as_longer (macro_of_form old f) before f e

-- ---- the forms of keys

abbrev Pairs : Type 0
Pairs = List (SymId × Val) × List Object

supplied_longer : (s : Option SymId) (x : Tree) (before : Pairs) → Longer before.1 (bound_supplied s x before).1
supplied_longer None x before = as_long
supplied_longer (Some s) x before = built_longer [] nil x before.1

keys_longer : (g : SymId) (ks : List Keyed) (before : Pairs) → Longer before.1 (bound_keys g ks before).1
keys_longer g [] before = as_long
keys_longer g (k ∷ ks) before =
    longer_on (longer_on (built_longer [] nil (value_tree g k.keyword k.parameter.value) before.1)
    (supplied_longer k.parameter.supplied (supplied_tree g k.keyword) (bound k.parameter.variable (value_tree g k.keyword k.parameter.value) before)))
    (keys_longer g ks (bound_key g k before))

-- The form that refuses is built last. What the others take up does not matter.
pub record RefusalBuilt (g : SymId) (old : List Object) (k : KeyForms) (new : List Object) : Type 0 where
  pub before : List Object
  pub grows : Longer old before
  pub refusal : k.refusal ≡ (made (refusal_tree g) before).0
  pub heap : new ≡ (made (refusal_tree g) before).1

refusal_made : (g : SymId) (ks : List Keyed) (heap : List Object) → RefusalBuilt g heap (made_forms g ks heap).0 (made_forms g ks heap).1
unfolding made_forms
refusal_made g ks heap = record {
  before = (bound_keys g ks ([], (made (test_tree g (map keyword_in ks)) heap).1)).1;
  grows = longer_on (built_longer [] nil (test_tree g (map keyword_in ks)) heap) (keys_longer g ks ([], (made (test_tree g (map keyword_in ks)) heap).1));
  refusal = refl;
  heap = refl;
}

pub refusal_built : (g : SymId) (ds : List Default) (before table : Table) (old new : List Object) (k : KeyForms) → key_forms g ds before old ≡ Some (k, table, new) →
    RefusalBuilt g old k new
unfolding key_forms
refusal_built g ds before table old new k is = by (keyed ds before) is
  where
    parted : (a b : KeyForms × Table × List Object) → RefusalBuilt g old a.0 a.2 → Some a ≡ Some b → RefusalBuilt g old b.0 b.2
    parted a b h e = let same : a ≡ b = cc in subst (λ (x : KeyForms × Table × List Object). RefusalBuilt g old x.0 x.2) same h

    by : (found : Option (List Keyed × Table)) → option_map (λ p. with_table p.1 (made_forms g p.0 old)) found ≡ Some (k, table, new) → RefusalBuilt g old k new
    by None e = absurd (cc)
    by (Some p) e = parted (with_table p.1 (made_forms g p.0 old)) (k, table, new) (refusal_made g p.0 old) e

key_forms_longer : (g : SymId) (ds : List Default) (before table : Table) (old new : List Object) (k : KeyForms) → key_forms g ds before old ≡ Some (k, table, new) →
    Longer old new
key_forms_longer g ds before table old new k is =
    let r = refusal_built g ds before table old new k is in
    longer_on r.grows (subst (λ (h : List Object). Longer r.before h) (sym r.heap) (built_longer [] nil (refusal_tree g) r.before))

-- ---- plans

shaped_longer : {w u : World} {name : Option SymId} {l : LambdaList} {c : Contents} {f : Function} → Shaped w name l c f u → Longer w.heap u.heap
shaped_longer (without_keys absent) = as_long
shaped_longer {w = w} (with_keys ks rest first k table heap is by forms) = key_forms_longer rest ks first table w.heap heap k forms

sketched_longer : {sc : Scope} {name : Option SymId} {w u : World} {v : Val} {f : Function} → Sketched sc name w v f u → Longer w.heap u.heap
sketched_longer (function_read l vs ll c f u is lambda read by) = shaped_longer by

operated_longer : {sc : Scope} {w u : World} {arguments : Val} {o : Operator} {vs : List Val} {p : Plan} → Operated sc w arguments o vs p u → Longer w.heap u.heap
operated_longer (makes_function o v f u given by) = sketched_longer by
operated_longer (defines n vs s f u given by) = sketched_longer by
operated_longer _ = as_long

planned_longer : {sc : Scope} {w u : World} {v : Val} {p : Plan} → Planned sc w v p u → Longer w.heap u.heap
planned_longer {w = w} (macro_form o s arguments v table heap is free macro gave) = expanded_longer v table heap w.heap w.table (Ref o) gave
planned_longer (operator_form o s arguments operator vs p u is free no_macro names elements by) = operated_longer by
planned_longer _ = as_long

plan_longer : (sc : Scope) (v : Val) (w u : World) (p : Plan) → plan_of sc v w ≡ gives p u → Longer w.heap u.heap
plan_longer sc v w u p is = planned_longer (planned sc w v p u is)

function_longer : (sc : Scope) (name : Option SymId) (v : Val) (w u : World) (f : Function) → function_sketch sc name v w ≡ gives f u → Longer w.heap u.heap
function_longer sc name v w u f is = sketched_longer (given_has (Sketched sc name w v) (function_sketch sc name v w) f u (function_gives sc name w v) is)

-- ---- variables

pub bounds_longer : {bs : List Binder} {w after : World} {xs : List Bound} → MadeBounds bs w xs after → Longer w.heap after.heap
bounds_longer no_bounds = as_long
bounds_longer (more_bounds made_bound k) = bounds_longer k

pub some_longer : {b : Option Binder} {w after : World} {x : Option Bound} → MadeSome b w x after → Longer w.heap after.heap
some_longer made_none = as_long
some_longer (made_some made_bound) = as_long

initials_longer : {bs : List Initial} {w after : World} {ps : List (Bound × Val)} → MadeInitials bs w ps after → Longer w.heap after.heap
initials_longer no_initials = as_long
initials_longer (more_initials made_bound k) = initials_longer k

pub optionals_longer : {os : List Optional'} {w after : World} {xs : List BoundOptional} → MadeOptionals os w xs after → Longer w.heap after.heap
optionals_longer no_optionals = as_long
optionals_longer (more_optionals made_bound k l) = longer_on (some_longer k) (optionals_longer l)

-- ---- trees

mutual
  form_longer : {sc : Scope} {v : Val} {w after : World} {e : Core} → MadeForm sc v w e after → Longer w.heap after.heap
  form_longer (made_instead {sc = sc} {v = v} {w = w} plan h) = longer_on (plan_longer (at_form w.heap v sc) v w _ _ plan) (form_longer h)
  form_longer (made_around {sc = sc} {v = v} {w = w} plan h) = longer_on (plan_longer (at_form w.heap v sc) v w _ _ plan) (form_longer h)
  form_longer (made_makes {sc = sc} {v = v} {w = w} plan h) = longer_on (plan_longer (at_form w.heap v sc) v w _ _ plan) (sketch_longer h)

  pub sketch_longer : {sc : Scope} {x : Sketch} {w after : World} {e : Core} → Made sc x w e after → Longer w.heap after.heap
  sketch_longer (made_form h) = form_longer h
  sketch_longer (made_leaf fits) = as_long
  sketch_longer (made_one fits h) = sketch_longer h
  sketch_longer (made_two fits h k) = longer_on (sketch_longer h) (sketch_longer k)
  sketch_longer (made_choice fits h k l) = longer_on (longer_on (sketch_longer h) (sketch_longer k)) (sketch_longer l)
  sketch_longer (made_many fits h) = each_part_longer h
  sketch_longer (made_calling fits h k) = longer_on (sketch_longer h) (each_part_longer k)
  sketch_longer (made_bind fits h k l) = longer_on (longer_on (initials_longer h) (values_longer k)) (sketch_longer l)
  sketch_longer (made_assign h) = sketch_longer h
  sketch_longer (made_function h) = lambda_longer h
  sketch_longer (made_functions fits h k) = longer_on (definitions_longer h) (sketch_longer k)
  sketch_longer (made_recursive fits h again) = lambda_longer h
  sketch_longer (made_block fits h) = sketch_longer h
  sketch_longer (made_tagbody fits h) = items_longer h
  sketch_longer (made_within h) = sketch_longer h

  each_part_longer : {sc : Scope} {xs : Sketches} {w after : World} {es : Cores} → MadeEach sc xs w es after → Longer w.heap after.heap
  each_part_longer no_parts = as_long
  each_part_longer (more_parts h k) = longer_on (sketch_longer h) (each_part_longer k)

  values_longer : {sc : Scope} {ps : List (Bound × Val)} {w after : World} {bs : Bindings} → MadeValues sc ps w bs after → Longer w.heap after.heap
  values_longer no_values = as_long
  values_longer (more_values h k) = longer_on (sketch_longer h) (values_longer k)

  pub defaults_longer : {sc last : Scope} {os : List BoundOptional} {w after : World} {es : Optionals} → MadeDefaults sc os w es last after → Longer w.heap after.heap
  defaults_longer no_defaults = as_long
  defaults_longer (more_defaults h k) = longer_on (sketch_longer h) (defaults_longer k)

  lambda_longer : {sc : Scope} {f : Function} {w after : World} {l : Lambda} → MadeLambda sc f w l after → Longer w.heap after.heap
  lambda_longer (made_lambda first second third fits h k) =
      longer_on (longer_on (longer_on (longer_on (bounds_longer first) (optionals_longer second)) (some_longer third)) (defaults_longer h)) (sketch_longer k)

  definitions_longer : {sc : Scope} {n : ℕ} {vs : List Val} {w after : World} {ds : Definitions} → MadeDefinitions sc n vs w ds after → Longer w.heap after.heap
  definitions_longer no_definitions = as_long
  definitions_longer (more_definitions {sc = sc} {v = v} {w = w} {s = s} name given h k) =
      longer_on (longer_on (function_longer _ _ _ w _ _ given) (lambda_longer h)) (definitions_longer k)

  items_longer : {sc : Scope} {n : ℕ} {vs : List Val} {w after : World} {is : Items} → MadeItems sc n vs w is after → Longer w.heap after.heap
  items_longer no_items = as_long
  items_longer (one_tag test k) = items_longer k
  items_longer (one_step test h k) = longer_on (sketch_longer h) (items_longer k)
