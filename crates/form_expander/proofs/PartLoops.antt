-- Loops that make parts, one part more, in the scope that is as it was.
use Rattle.std.proofs.Common.{◌≡◌, ◌<◌, ◌≤◌, refl, ap, sym, ◌∙◌, ℕ, suc, ◌+◌, List, [], ◌∷◌, ◌++◌, length, drop, get_or, map, option_map, true, false, Option, arith}
use Rattle.std.specs.Prelude.{min}
use Rattle.std.proofs.lemmas.List.{at_drop_all}
use Rattle.lisp_base.specs.declared.values.Val.{Val}
use Rattle.core_form.specs.declared.tree.Core.{Core as Core'}
use Rattle.core_form.specs.declared.tree.Binding.{Binding as Binding'}
use Rattle.core_form.specs.declared.tree.Optional.{Optional as Optional'}
use Rattle.core_form.specs.declared.tree.Definition.{Definition as Definition'}
use Rattle.core_form.specs.declared.tree.Item.{Item as Item'}
use Rattle.core_form.specs.declared.tree.Parameter.{Parameter as Parameter'}
use Rattle.core_form.specs.declared.tree.Form.TheBlock as t
use Rattle.core_form.specs.Tree.{Core, Parameter, Cores, Bindings, Optionals, Definitions, Items, step}
use Rattle.core_form.specs.Reading.{parameter_of, core_of}
use Rattle.core_form.specs.ListReading.{bindings_list, optionals_list, items_list}
use Rattle.expansion.specs.Scopes.{Scope}
use Rattle.expansion.specs.Steps.{World, Answer, gives, refused}
use Rattle.expansion.specs.Sketches.{Optional' as Optional'', Sketch, checked, form}
use Rattle.expansion.specs.Forms.{is_tag}
use Rattle.expansion.specs.Expanding.{Bound, BoundOptional, make, each, values_bound, defaults, definition_at, definitions, items, parameter_some, with_bound}
use Rattle.form_expander.specs.declared.fault.Fault.{Fault}
use Rattle.form_expander.specs.declared.parameters.OptionalParameter.{OptionalParameter}
use Rattle.form_expander.specs.declared.sketch.Initial.{Initial as Initial'}
use Rattle.form_expander.specs.declared.sketch.Optional.{Optional as OptionalBinder'}
use Rattle.form_expander.specs.declared.sketch.Sketch.{Sketch as Sketch'}
use Rattle.form_expander.specs.Beginnings.{definition_from, with_optional}
use Rattle.form_expander.specs.Besides.{initial_as, initials_beside, optional_as, optionals_beside, pair_of, beside_some}
use Rattle.form_expander.specs.Extending.{Extends}
use Rattle.form_expander.specs.Outcomes.{Refuses}
use Rattle.form_expander.specs.Reading.{sketch_of, sketches_list, initial_of, optional_of}
use Rattle.form_expander.proofs.Following.{refused_same}
use Rattle.form_expander.proofs.Rows.{front}
use Rattle.form_expander.proofs.Within.{further, with_bound_extends, with_some_extends}
use Rattle.form_expander.proofs.Zipped.{matched_front, matched_end}
use Rattle.form_expander.proofs.PartLists.{before_cores, before_bindings, before_optionals, before_definitions, before_items, item_then, cores_go_on, cores_fail, values_more, values_fail, values_end, defaults_more, defaults_fail, defaults_end, definitions_go_on, definitions_fail, items_tag, items_step, items_fail, items_end}

-- ---- before any part is made

cores_none : (a : Answer Cores) → before_cores [] a ≡ a
cores_none (gives es w) = refl
cores_none (refused kind place) = refl

bindings_none : (a : Answer Bindings) → before_bindings [] a ≡ a
bindings_none (gives bs w) = refl
bindings_none (refused kind place) = refl

optionals_none : (a : Answer (Optionals × Scope)) → before_optionals [] a ≡ a
optionals_none (gives found w) = refl
optionals_none (refused kind place) = refl

definitions_none : (a : Answer Definitions) → before_definitions [] a ≡ a
definitions_none (gives ds w) = refl
definitions_none (refused kind place) = refl

items_none : (a : Answer Items) → before_items [] a ≡ a
items_none (gives is w) = refl
items_none (refused kind place) = refl

pub cores_start : (cs : List Core') (a : Answer Cores) → cs ≡ [] → before_cores cs a ≡ a
cores_start cs a empty = ap (λ (l : List Core'). before_cores l a) empty ∙ cores_none a

pub bindings_start : (bs : List Binding') (a : Answer Bindings) → bs ≡ [] → before_bindings bs a ≡ a
bindings_start bs a empty = ap (λ (l : List Binding'). before_bindings l a) empty ∙ bindings_none a

pub optionals_start : (os : List Optional') (a : Answer (Optionals × Scope)) → os ≡ [] → before_optionals os a ≡ a
optionals_start os a empty = ap (λ (l : List Optional'). before_optionals l a) empty ∙ optionals_none a

pub definitions_start : (ds : List Definition') (a : Answer Definitions) → ds ≡ [] → before_definitions ds a ≡ a
definitions_start ds a empty = ap (λ (l : List Definition'). before_definitions l a) empty ∙ definitions_none a

pub items_start : (is : List Item') (a : Answer Items) → is ≡ [] → before_items is a ≡ a
items_start is a empty = ap (λ (l : List Item'). before_items l a) empty ∙ items_none a

-- ---- a scope that is the same

made_there : (fuel levels : ℕ) (sc own : Scope) (x : Sketch) (w u : World) (c : Core) → own ≡ sc → make fuel levels own x w ≡ gives c u → make fuel levels sc x w ≡ gives c u
made_there fuel levels sc own x w u c same h = ap (λ (s : Scope). make fuel levels s x w) (sym same) ∙ h

refused_there : (fuel levels : ℕ) (sc own : Scope) (x : Sketch) (w : World) (e : Fault) → own ≡ sc → Refuses (make fuel levels own x w) e → Refuses (make fuel levels sc x w) e
refused_there fuel levels sc own x w e same h =
    refused_same (make fuel levels own x w) (make fuel levels sc x w) e (ap (λ (s : Scope). make fuel levels s x w) (sym same)) h

-- ---- parts

module _ (fuel levels : ℕ) (sc own : Scope) (same : own ≡ sc) (parts : List Sketch') (i : ℕ) (item : Sketch') (cs : List Core') (w : World) (total : Answer Cores) (inside : i < length parts) (is : item ≡ get_or parts i item) (so_far : before_cores cs (each (make fuel levels sc) (sketches_list (drop i parts)) w) ≡ total) where
  pub each_on : (grown : List Core') (c : Core') (u : World) → grown ≡ cs ++ c ∷ [] → make fuel levels own (sketch_of item) w ≡ gives (core_of c) u
      → before_cores grown (each (make fuel levels sc) (sketches_list (drop (i + 1) parts)) u) ≡ total
  each_on grown c u added h =
      ap (λ (l : List Core'). before_cores l (each (make fuel levels sc) (sketches_list (drop (i + 1) parts)) u)) added
      ∙ cores_go_on (make fuel levels sc) parts i item cs c w u total inside is (made_there fuel levels sc own (sketch_of item) w u (core_of c) same h) so_far

  pub each_fails : (e : Fault) → Refuses (make fuel levels own (sketch_of item) w) e → Refuses total e
  each_fails e h = cores_fail (make fuel levels sc) parts i item cs w total e inside is (refused_there fuel levels sc own (sketch_of item) w e same h) so_far

-- ---- values of bindings

module _ (fuel levels : ℕ) (sc own : Scope) (same : own ≡ sc) (bindings : List Initial') (parameters : List Parameter') (i : ℕ) (b : Initial') (x : Parameter') (bs : List Binding') (w : World) (total : Answer Bindings) (first_inside : i < length bindings) (second_inside : i < length parameters) (first : b ≡ get_or bindings i b) (second : x ≡ get_or parameters i x) (so_far : before_bindings bs (values_bound (make fuel levels sc) (initials_beside (map initial_of (drop i bindings)) (map parameter_of (drop i parameters))) w) ≡ total) where
  abbrev pair : Bound × Val
  pair = initial_as (initial_of b) (parameter_of x)

  abbrev others : List (Bound × Val)
  others = initials_beside (map initial_of (drop (i + 1) bindings)) (map parameter_of (drop (i + 1) parameters))

  placed : before_bindings bs (values_bound (make fuel levels sc) (pair ∷ others) w) ≡ total
  placed =
      sym (ap (λ (ps : List (Bound × Val)). before_bindings bs (values_bound (make fuel levels sc) ps w)) (matched_front initial_as initial_of parameter_of bindings parameters i b x (front bindings i b first_inside first) (front parameters i x second_inside second)))
      ∙ so_far

  pub values_on : (grown : List Binding') (d : Binding') (y : Sketch) (u : World) → grown ≡ bs ++ d ∷ [] → parameter_of d.parameter ≡ parameter_of x → y ≡ checked (parameter_of x).types (form b.value) → make fuel levels own y w ≡ gives (core_of d.value) u
      → before_bindings grown (values_bound (make fuel levels sc) others u) ≡ total
  values_on grown d y u added kept checks h =
      let k : make fuel levels sc (checked (parameter_of x).types (form b.value)) w ≡ gives (core_of d.value) u = ap (λ (z : Sketch). make fuel levels sc z w) (sym checks) ∙ made_there fuel levels sc own y w u (core_of d.value) same h in
      ap (λ (l : List Binding'). before_bindings l (values_bound (make fuel levels sc) others u)) added
      ∙ (sym (values_more (make fuel levels sc) pair others bs d w u kept k) ∙ placed)

  pub values_fails : (y : Sketch) (e : Fault) → y ≡ checked (parameter_of x).types (form b.value) → Refuses (make fuel levels own y w) e → Refuses total e
  values_fails y e checks h =
      let k : Refuses (make fuel levels sc (checked (parameter_of x).types (form b.value)) w) e =
      refused_same (make fuel levels sc y w) (make fuel levels sc (checked (parameter_of x).types (form b.value)) w) e (ap (λ (z : Sketch). make fuel levels sc z w) (sym checks)) (refused_there fuel levels sc own y w e same h) in
      refused_same (before_bindings bs (values_bound (make fuel levels sc) (pair ∷ others) w)) total e (sym placed) (values_fail (make fuel levels sc) pair others bs w e k)

pub values_done : (fuel levels : ℕ) (sc : Scope) (bindings : List Initial') (parameters : List Parameter') (i : ℕ) (bs : List Binding') (w : World) (total : Answer Bindings) → i ≡ min (length bindings) (length parameters)
    → before_bindings bs (values_bound (make fuel levels sc) (initials_beside (map initial_of (drop i bindings)) (map parameter_of (drop i parameters))) w) ≡ total → total ≡ gives (bindings_list bs) w
values_done fuel levels sc bindings parameters i bs w total count so_far =
    sym so_far
    ∙ (ap (λ (ps : List (Bound × Val)). before_bindings bs (values_bound (make fuel levels sc) ps w)) (matched_end initial_as initial_of parameter_of bindings parameters i count)
    ∙ values_end (make fuel levels sc) bs w)

-- ---- optional parameters

module _ (fuel levels : ℕ) (own : Scope) (optionals : List OptionalBinder') (parameters : List OptionalParameter) (i : ℕ) (o : OptionalBinder') (x : OptionalParameter) (os : List Optional') (w : World) (total : Answer (Optionals × Scope)) (first_inside : i < length optionals) (second_inside : i < length parameters) (first : o ≡ get_or optionals i o) (second : x ≡ get_or parameters i x) (so_far : before_optionals os (defaults (make fuel levels) own (optionals_beside (map optional_of (drop i optionals)) (map pair_of (drop i parameters))) w) ≡ total) where
  abbrev that : BoundOptional
  that = optional_as (optional_of o) (pair_of x)

  abbrev later : List BoundOptional
  later = optionals_beside (map optional_of (drop (i + 1) optionals)) (map pair_of (drop (i + 1) parameters))

  stood : before_optionals os (defaults (make fuel levels) own (that ∷ later) w) ≡ total
  stood =
      sym (ap (λ (ps : List BoundOptional). before_optionals os (defaults (make fuel levels) own ps w)) (matched_front optional_as optional_of pair_of optionals parameters i o x (front optionals i o first_inside first) (front parameters i x second_inside second)))
      ∙ so_far

  pub defaults_on : (grown : List Optional') (d : Optional') (u : World) (next : Scope) → grown ≡ os ++ d ∷ [] → parameter_of d.parameter ≡ (pair_of x).0 → option_map parameter_of d.supplied ≡ parameter_some (beside_some (optional_of o).supplied (pair_of x).1)
      → make fuel levels own (form o.default) w ≡ gives (core_of d.default) u → next ≡ with_optional own (optional_of o) (pair_of x)
      → before_optionals grown (defaults (make fuel levels) next later u) ≡ total
  defaults_on grown d u next added kept some h goes =
      ap (λ (l : List Optional'). before_optionals l (defaults (make fuel levels) next later u)) added
      ∙ (ap (λ (s : Scope). before_optionals (os ++ d ∷ []) (defaults (make fuel levels) s later u)) goes
      ∙ (sym (defaults_more (make fuel levels) own that later os d w u kept some h) ∙ stood))

  pub defaults_fails : (e : Fault) → Refuses (make fuel levels own (form o.default) w) e → Refuses total e
  defaults_fails e h = refused_same (before_optionals os (defaults (make fuel levels) own (that ∷ later) w)) total e (sym stood) (defaults_fail (make fuel levels) own that later os w e h)

pub defaults_done : (fuel levels : ℕ) (own : Scope) (optionals : List OptionalBinder') (parameters : List OptionalParameter) (i : ℕ) (os : List Optional') (w : World) (total : Answer (Optionals × Scope)) → i ≡ min (length optionals) (length parameters)
    → before_optionals os (defaults (make fuel levels) own (optionals_beside (map optional_of (drop i optionals)) (map pair_of (drop i parameters))) w) ≡ total → total ≡ gives (optionals_list os, own) w
defaults_done fuel levels own optionals parameters i os w total count so_far =
    sym so_far
    ∙ (ap (λ (ps : List BoundOptional). before_optionals os (defaults (make fuel levels) own ps w)) (matched_end optional_as optional_of pair_of optionals parameters i count)
    ∙ defaults_end (make fuel levels) own os w)

pub with_optional_extends : (sc : Scope) (o : Optional'') (x : Parameter × Option Parameter) → Extends sc (with_optional sc o x)
with_optional_extends sc o x =
    further sc (with_bound sc (o.binder, x.0)) (with_optional sc o x) (with_bound_extends sc (o.binder, x.0)) (with_some_extends (with_bound sc (o.binder, x.0)) (beside_some o.supplied x.1))

-- ---- definitions

module _ (fuel levels : ℕ) (sc own : Scope) (same : own ≡ sc) (vs : List Val) (i : ℕ) (v : Val) (n : ℕ) (ds : List Definition') (w : World) (total : Answer Definitions) (inside : i < length vs) (is : v ≡ get_or vs i v) (so_far : before_definitions ds (definitions levels (make fuel) sc n (drop i vs) w) ≡ total) where
  pub definitions_on : (grown : List Definition') (d : Definition') (u : World) (m : ℕ) → grown ≡ ds ++ d ∷ [] → m ≡ n + 1 → definition_at levels (make fuel) own n v w ≡ gives (definition_from d) u
      → before_definitions grown (definitions levels (make fuel) sc m (drop (i + 1) vs) u) ≡ total
  definitions_on grown d u m added next h =
      let one : m ≡ suc n = omega (arith, next) in
      ap (λ (l : List Definition'). before_definitions l (definitions levels (make fuel) sc m (drop (i + 1) vs) u)) added
      ∙ (ap (λ (k : ℕ). before_definitions (ds ++ d ∷ []) (definitions levels (make fuel) sc k (drop (i + 1) vs) u)) one
      ∙ definitions_go_on levels (make fuel) sc n vs i v ds d w u total (front vs i v inside is) (ap (λ (s : Scope). definition_at levels (make fuel) s n v w) (sym same) ∙ h) so_far)

  pub definitions_fails : (e : Fault) → Refuses (definition_at levels (make fuel) own n v w) e → Refuses total e
  definitions_fails e h =
      definitions_fail levels (make fuel) sc n vs i v ds w total e (front vs i v inside is)
      (refused_same (definition_at levels (make fuel) own n v w) (definition_at levels (make fuel) sc n v w) e (ap (λ (s : Scope). definition_at levels (make fuel) s n v w) (sym same)) h) so_far

-- ---- tags and forms

module _ (fuel levels : ℕ) (sc own : Scope) (same : own ≡ sc) (vs : List Val) (i : ℕ) (v : Val) (n : ℕ) (is : List Item') (w : World) (total : Answer Items) (there : drop i vs ≡ v ∷ drop (i + 1) vs) (so_far : before_items is (items (make fuel levels sc) n (drop i vs) w) ≡ total) where
  items_stood : before_items is (items (make fuel levels sc) n (v ∷ drop (i + 1) vs) w) ≡ total
  items_stood = sym (ap (λ (l : List Val). before_items is (items (make fuel levels sc) n l w)) there) ∙ so_far

  pub items_tagged : (grown : List Item') (m : ℕ) → is_tag v ≡ true → grown ≡ is ++ t.Tag n v ∷ [] → m ≡ n + 1 → before_items grown (items (make fuel levels sc) m (drop (i + 1) vs) w) ≡ total
  items_tagged grown m tagged added next =
      let one : m ≡ suc n = omega (arith, next) in
      ap (λ (l : List Item'). before_items l (items (make fuel levels sc) m (drop (i + 1) vs) w)) added
      ∙ (ap (λ (k : ℕ). before_items (is ++ t.Tag n v ∷ []) (items (make fuel levels sc) k (drop (i + 1) vs) w)) one
      ∙ (items_tag (make fuel levels sc) n v (drop (i + 1) vs) is w tagged ∙ items_stood))

  pub items_stepped : (grown : List Item') (d : Item') (c : Core') (u : World) → is_tag v ≡ false → grown ≡ is ++ d ∷ [] → ((rest : Items) → item_then d rest ≡ step (core_of c) rest) → make fuel levels own (form v) w ≡ gives (core_of c) u
      → before_items grown (items (make fuel levels sc) n (drop (i + 1) vs) u) ≡ total
  items_stepped grown d c u other added reads h =
      ap (λ (l : List Item'). before_items l (items (make fuel levels sc) n (drop (i + 1) vs) u)) added
      ∙ (items_step (make fuel levels sc) n v (drop (i + 1) vs) is d (core_of c) w u other reads (made_there fuel levels sc own (form v) w u (core_of c) same h) ∙ items_stood)

  pub items_fails : (e : Fault) → is_tag v ≡ false → Refuses (make fuel levels own (form v) w) e → Refuses total e
  items_fails e other h =
      refused_same (before_items is (items (make fuel levels sc) n (v ∷ drop (i + 1) vs) w)) total e (sym items_stood)
      (items_fail (make fuel levels sc) n v (drop (i + 1) vs) is w e other (refused_there fuel levels sc own (form v) w e same h))

pub items_done : (fuel levels : ℕ) (sc : Scope) (vs : List Val) (i n : ℕ) (is : List Item') (w : World) (total : Answer Items) → length vs ≤ i → before_items is (items (make fuel levels sc) n (drop i vs) w) ≡ total → total ≡ gives (items_list is) w
items_done fuel levels sc vs i n is w total past so_far =
    sym so_far ∙ (at_drop_all (λ (l : List Val). before_items is (items (make fuel levels sc) n l w)) vs i past ∙ items_end (make fuel levels sc) n is w)
