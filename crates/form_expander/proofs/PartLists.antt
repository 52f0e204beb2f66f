-- Lists of parts that have been made, before those that are made still.
use Rattle.std.proofs.Common.{◌≡◌, ◌<◌, ◌≤◌, refl, ap, sym, ◌∙◌, ℕ, suc, ◌+◌, List, [], ◌∷◌, ◌++◌, length, drop, get_or, option_map, true, false, Option}
use Rattle.std.proofs.lemmas.List.{at_drop_all}
use Rattle.lisp_base.specs.declared.values.Val.{Val}
use Rattle.core_form.specs.declared.tree.Core.{Core as Core'}
use Rattle.core_form.specs.declared.tree.Binding.{Binding as Binding'}
use Rattle.core_form.specs.declared.tree.Optional.{Optional as Optional'}
use Rattle.core_form.specs.declared.tree.Definition.{Definition as Definition'}
use Rattle.core_form.specs.declared.tree.Item.{Item as Item'}
use Rattle.core_form.specs.declared.tree.Form.TheBlock as t
use Rattle.core_form.specs.Tree.{Core, Parameter, Cores, no_core, core, Bindings, no_binding, binding, Optionals, no_optional, optional, Definitions, no_definition, define, Items, no_item, tag, step}
use Rattle.core_form.specs.Reading.{parameter_of, core_of, cores_list, lambda_of, form_of}
use Rattle.core_form.specs.ListReading.{bindings_list, optionals_list, definitions_list, items_list}
use Rattle.expansion.specs.Scopes.{Scope}
use Rattle.expansion.specs.Steps.{World, Answer, gives, refused, Step, and_then, ◌>>=◌, pure}
use Rattle.expansion.specs.Sketches.{Sketch, checked, form}
use Rattle.expansion.specs.Forms.{is_tag}
use Rattle.expansion.specs.Expanding.{Inner, Bound, each, values_bound, BoundOptional, defaults, definition_at, definitions, items, parameter_some, with_bound, with_some}
use Rattle.form_expander.specs.declared.fault.Fault.{Fault}
use Rattle.form_expander.specs.declared.fault.Fault.TheVariants as fault
use Rattle.form_expander.specs.declared.sketch.Sketch.{Sketch as Sketch'}
use Rattle.form_expander.specs.Outcomes.{Refuses}
use Rattle.form_expander.specs.Reading.{sketch_of, sketches_list}
use Rattle.form_expander.proofs.Rows.{front}
use Rattle.form_expander.specs.Beginnings.{definition_from}

-- ---- after a part, the others

abbrev pub mapped : {A B : Type 0} → (A → B) → Answer A → Answer B
mapped f (gives a w) = gives (f a) w
mapped f (refused kind place) = refused kind place

abbrev pub cores_then : List Core' → Cores → Cores
cores_then [] es = es
cores_then (c ∷ cs) es = core (core_of c) (cores_then cs es)

abbrev pub bindings_then : List Binding' → Bindings → Bindings
bindings_then [] bs = bs
bindings_then (b ∷ more) bs = binding (parameter_of b.parameter) (core_of b.value) (bindings_then more bs)

abbrev pub optionals_then : List Optional' → Optionals → Optionals
optionals_then [] os = os
optionals_then (o ∷ more) os = optional (parameter_of o.parameter) (core_of o.default) (option_map parameter_of o.supplied) (optionals_then more os)

abbrev pub definitions_then : List Definition' → Definitions → Definitions
definitions_then [] ds = ds
definitions_then (d ∷ more) ds = definition_from d (definitions_then more ds)

abbrev pub item_then : Item' → Items → Items
item_then (t.Tag n v) is = tag n v is
item_then (t.Step' p e) is = step (form_of p e) is

abbrev pub items_then : List Item' → Items → Items
items_then [] is = is
items_then (i ∷ more) is = item_then i (items_then more is)

abbrev pub before_cores : List Core' → Answer Cores → Answer Cores
before_cores cs a = mapped (cores_then cs) a

abbrev pub before_bindings : List Binding' → Answer Bindings → Answer Bindings
before_bindings bs a = mapped (bindings_then bs) a

abbrev pub before_optionals : List Optional' → Answer (Optionals × Scope) → Answer (Optionals × Scope)
before_optionals os a = mapped (λ (found : Optionals × Scope). (optionals_then os found.0, found.1)) a

abbrev pub before_definitions : List Definition' → Answer Definitions → Answer Definitions
before_definitions ds a = mapped (definitions_then ds) a

abbrev pub before_items : List Item' → Answer Items → Answer Items
before_items is a = mapped (items_then is) a

-- ---- one more

cores_push : (cs : List Core') (c : Core') (es : Cores) → cores_then (cs ++ c ∷ []) es ≡ cores_then cs (core (core_of c) es)
cores_push [] c es = refl
cores_push (d ∷ cs) c es = ap (λ (x : Cores). core (core_of d) x) (cores_push cs c es)

cores_whole : (cs : List Core') → cores_then cs no_core ≡ cores_list cs
cores_whole [] = refl
cores_whole (d ∷ cs) = ap (λ (x : Cores). core (core_of d) x) (cores_whole cs)

bindings_push : (bs : List Binding') (b : Binding') (rest : Bindings) → bindings_then (bs ++ b ∷ []) rest ≡ bindings_then bs (binding (parameter_of b.parameter) (core_of b.value) rest)
bindings_push [] b rest = refl
bindings_push (d ∷ bs) b rest = ap (λ (x : Bindings). binding (parameter_of d.parameter) (core_of d.value) x) (bindings_push bs b rest)

bindings_whole : (bs : List Binding') → bindings_then bs no_binding ≡ bindings_list bs
bindings_whole [] = refl
bindings_whole (d ∷ bs) = ap (λ (x : Bindings). binding (parameter_of d.parameter) (core_of d.value) x) (bindings_whole bs)

definitions_push : (ds : List Definition') (d : Definition') (rest : Definitions) → definitions_then (ds ++ d ∷ []) rest ≡ definitions_then ds (definition_from d rest)
definitions_push [] d rest = refl
definitions_push (e ∷ ds) d rest = ap (λ (x : Definitions). definition_from e x) (definitions_push ds d rest)

definitions_whole : (ds : List Definition') → definitions_then ds no_definition ≡ definitions_list ds
definitions_whole [] = refl
definitions_whole (t.struct-Definition p n s l ∷ ds) = ap (λ (x : Definitions). define p n s (lambda_of l) x) (definitions_whole ds)

items_push : (is : List Item') (i : Item') (rest : Items) → items_then (is ++ i ∷ []) rest ≡ items_then is (item_then i rest)
items_push [] i rest = refl
items_push (e ∷ is) i rest = ap (λ (x : Items). item_then e x) (items_push is i rest)

items_whole : (is : List Item') → items_then is no_item ≡ items_list is
items_whole [] = refl
items_whole (t.Tag n v ∷ is) = ap (λ (x : Items). tag n v x) (items_whole is)
items_whole (t.Step' p e ∷ is) = ap (λ (x : Items). step (form_of p e) x) (items_whole is)

-- ---- the loops

cores_regroup : (cs : List Core') (c : Core') (a : Answer Cores) → before_cores cs (and_then a (λ es. pure (core (core_of c) es))) ≡ before_cores (cs ++ c ∷ []) a
unfolding pure
cores_regroup cs c (gives es w) = ap (λ (x : Cores). gives x w) (sym (cores_push cs c es))
cores_regroup cs c (refused kind place) = refl

pub cores_go_on : (inner : Sketch → Step Core) (parts : List Sketch') (i : ℕ) (item : Sketch') (cs : List Core') (c : Core') (w u : World) (total : Answer Cores)
    → i < length parts → item ≡ get_or parts i item → inner (sketch_of item) w ≡ gives (core_of c) u
    → before_cores cs (each inner (sketches_list (drop i parts)) w) ≡ total → before_cores (cs ++ c ∷ []) (each inner (sketches_list (drop (i + 1) parts)) u) ≡ total
unfolding each ◌>>=◌
cores_go_on inner parts i item cs c w u total inside is h so_far =
    sym
    (ap (λ (ps : List Sketch'). before_cores cs (each inner (sketches_list ps) w)) (front parts i item inside is)
    ∙ (ap (λ (a : Answer Core). before_cores cs (and_then a (λ e. λ v. and_then (each inner (sketches_list (drop (i + 1) parts)) v) (λ es. pure (core e es))))) h
    ∙ cores_regroup cs c (each inner (sketches_list (drop (i + 1) parts)) u)))
    ∙ so_far

pub cores_fail : (inner : Sketch → Step Core) (parts : List Sketch') (i : ℕ) (item : Sketch') (cs : List Core') (w : World) (total : Answer Cores) (e : Fault)
    → i < length parts → item ≡ get_or parts i item → Refuses (inner (sketch_of item) w) e
    → before_cores cs (each inner (sketches_list (drop i parts)) w) ≡ total → Refuses total e
unfolding each ◌>>=◌
cores_fail inner parts i item cs w total fault.Memory inside is h so_far = h
cores_fail inner parts i item cs w total (fault.Refused kind place) inside is h so_far =
    sym so_far
    ∙ (ap (λ (ps : List Sketch'). before_cores cs (each inner (sketches_list ps) w)) (front parts i item inside is)
    ∙ ap (λ (a : Answer Core). before_cores cs (and_then a (λ e. λ v. and_then (each inner (sketches_list (drop (i + 1) parts)) v) (λ es. pure (core e es))))) h)

pub cores_end : (inner : Sketch → Step Core) (parts : List Sketch') (i : ℕ) (cs : List Core') (w : World) (total : Answer Cores)
    → length parts ≤ i → before_cores cs (each inner (sketches_list (drop i parts)) w) ≡ total → total ≡ gives (cores_list cs) w
unfolding each pure
cores_end inner parts i cs w total past so_far =
    sym so_far ∙ (at_drop_all (λ (ps : List Sketch'). before_cores cs (each inner (sketches_list ps) w)) parts i past ∙ ap (λ (x : Cores). gives x w) (cores_whole cs))

values_regroup : (bs : List Binding') (b : Binding') (x : Parameter) (a : Answer Bindings) → parameter_of b.parameter ≡ x → before_bindings bs (and_then a (λ rest. pure (binding x (core_of b.value) rest))) ≡ before_bindings (bs ++ b ∷ []) a
unfolding pure
values_regroup bs b x (gives rest w) e =
    ap (λ (y : Parameter). gives (bindings_then bs (binding y (core_of b.value) rest)) w) (sym e) ∙ ap (λ (x : Bindings). gives x w) (sym (bindings_push bs b rest))
values_regroup bs b x (refused kind place) e = refl

definitions_regroup : (ds : List Definition') (d : Definition') (a : Answer Definitions) → before_definitions ds (and_then a (λ rest. pure (definition_from d rest))) ≡ before_definitions (ds ++ d ∷ []) a
unfolding pure
definitions_regroup ds d (gives rest w) = ap (λ (x : Definitions). gives x w) (sym (definitions_push ds d rest))
definitions_regroup ds d (refused kind place) = refl

pub definitions_go_on : (levels : ℕ) (inner : Inner) (sc : Scope) (n : ℕ) (vs : List Val) (i : ℕ) (v : Val) (ds : List Definition') (d : Definition') (w u : World) (total : Answer Definitions)
    → drop i vs ≡ v ∷ drop (i + 1) vs → definition_at levels inner sc n v w ≡ gives (definition_from d) u
    → before_definitions ds (definitions levels inner sc n (drop i vs) w) ≡ total → before_definitions (ds ++ d ∷ []) (definitions levels inner sc (suc n) (drop (i + 1) vs) u) ≡ total
unfolding definitions ◌>>=◌
definitions_go_on levels inner sc n vs i v ds d w u total is h so_far =
    sym
    (ap (λ (ps : List Val). before_definitions ds (definitions levels inner sc n ps w)) is
    ∙ (ap (λ (a : Answer (Definitions → Definitions)). before_definitions ds (and_then a (λ f. λ x. and_then (definitions levels inner sc (suc n) (drop (i + 1) vs) x) (λ rest. pure (f rest))))) h
    ∙ definitions_regroup ds d (definitions levels inner sc (suc n) (drop (i + 1) vs) u)))
    ∙ so_far

pub definitions_fail : (levels : ℕ) (inner : Inner) (sc : Scope) (n : ℕ) (vs : List Val) (i : ℕ) (v : Val) (ds : List Definition') (w : World) (total : Answer Definitions) (e : Fault)
    → drop i vs ≡ v ∷ drop (i + 1) vs → Refuses (definition_at levels inner sc n v w) e → before_definitions ds (definitions levels inner sc n (drop i vs) w) ≡ total → Refuses total e
unfolding definitions ◌>>=◌
definitions_fail levels inner sc n vs i v ds w total fault.Memory is h so_far = h
definitions_fail levels inner sc n vs i v ds w total (fault.Refused kind place) is h so_far =
    sym so_far
    ∙ (ap (λ (ps : List Val). before_definitions ds (definitions levels inner sc n ps w)) is
    ∙ ap (λ (a : Answer (Definitions → Definitions)). before_definitions ds (and_then a (λ f. λ x. and_then (definitions levels inner sc (suc n) (drop (i + 1) vs) x) (λ rest. pure (f rest))))) h)

pub definitions_end : (levels : ℕ) (inner : Inner) (sc : Scope) (n : ℕ) (vs : List Val) (i : ℕ) (ds : List Definition') (w : World) (total : Answer Definitions)
    → length vs ≤ i → before_definitions ds (definitions levels inner sc n (drop i vs) w) ≡ total → total ≡ gives (definitions_list ds) w
unfolding definitions pure
definitions_end levels inner sc n vs i ds w total past so_far =
    sym so_far
    ∙ (at_drop_all (λ (ps : List Val). before_definitions ds (definitions levels inner sc n ps w)) vs i past ∙ ap (λ (x : Definitions). gives x w) (definitions_whole ds))

items_regroup : (is : List Item') (i : Item') (a : Answer Items) → before_items is (and_then a (λ rest. pure (item_then i rest))) ≡ before_items (is ++ i ∷ []) a
unfolding pure
items_regroup is i (gives rest w) = ap (λ (x : Items). gives x w) (sym (items_push is i rest))
items_regroup is i (refused kind place) = refl

pub items_tag : (inner : Sketch → Step Core) (n : ℕ) (v : Val) (vs : List Val) (is : List Item') (w : World) → is_tag v ≡ true
    → before_items (is ++ t.Tag n v ∷ []) (items inner (suc n) vs w) ≡ before_items is (items inner n (v ∷ vs) w)
unfolding items ◌>>=◌
items_tag inner n v vs is w e = rw e (sym (items_regroup is (t.Tag n v) (items inner (suc n) vs w)))

pub values_more : (inner : Sketch → Step Core) (p : Bound × Val) (ps : List (Bound × Val)) (bs : List Binding') (b : Binding') (w u : World)
    → parameter_of b.parameter ≡ p.0.1 → inner (checked p.0.1.types (form p.1)) w ≡ gives (core_of b.value) u
    → before_bindings bs (values_bound inner (p ∷ ps) w) ≡ before_bindings (bs ++ b ∷ []) (values_bound inner ps u)
unfolding values_bound ◌>>=◌
values_more inner p ps bs b w u same h =
    ap (λ (a : Answer Core). before_bindings bs (and_then a (λ e. λ x. and_then (values_bound inner ps x) (λ rest. pure (binding p.0.1 e rest))))) h
    ∙ values_regroup bs b p.0.1 (values_bound inner ps u) same

pub values_fail : (inner : Sketch → Step Core) (p : Bound × Val) (ps : List (Bound × Val)) (bs : List Binding') (w : World) (e : Fault)
    → Refuses (inner (checked p.0.1.types (form p.1)) w) e → Refuses (before_bindings bs (values_bound inner (p ∷ ps) w)) e
unfolding values_bound ◌>>=◌
values_fail inner p ps bs w fault.Memory h = h
values_fail inner p ps bs w (fault.Refused kind place) h =
    ap (λ (a : Answer Core). before_bindings bs (and_then a (λ e. λ x. and_then (values_bound inner ps x) (λ rest. pure (binding p.0.1 e rest))))) h

pub values_end : (inner : Sketch → Step Core) (bs : List Binding') (w : World) → before_bindings bs (values_bound inner [] w) ≡ gives (bindings_list bs) w
unfolding values_bound pure
values_end inner bs w = ap (λ (x : Bindings). gives x w) (bindings_whole bs)

-- ---- optional parameters

optionals_push : (os : List Optional') (o : Optional') (rest : Optionals)
    → optionals_then (os ++ o ∷ []) rest ≡ optionals_then os (optional (parameter_of o.parameter) (core_of o.default) (option_map parameter_of o.supplied) rest)
optionals_push [] o rest = refl
optionals_push (d ∷ os) o rest =
    ap (λ (x : Optionals). optional (parameter_of d.parameter) (core_of d.default) (option_map parameter_of d.supplied) x) (optionals_push os o rest)

optionals_whole : (os : List Optional') → optionals_then os no_optional ≡ optionals_list os
optionals_whole [] = refl
optionals_whole (d ∷ os) =
    ap (λ (x : Optionals). optional (parameter_of d.parameter) (core_of d.default) (option_map parameter_of d.supplied) x) (optionals_whole os)

optionals_regroup : (os : List Optional') (o : Optional') (x : Parameter) (s : Option Parameter) (a : Answer (Optionals × Scope)) → parameter_of o.parameter ≡ x → option_map parameter_of o.supplied ≡ s
    → before_optionals os (and_then a (λ found. pure (optional x (core_of o.default) s found.0, found.1))) ≡ before_optionals (os ++ o ∷ []) a
unfolding pure
optionals_regroup os o x s (gives found w) e k =
    ap (λ (y : Parameter). gives (optionals_then os (optional y (core_of o.default) s found.0), found.1) w) (sym e)
    ∙ (ap (λ (y : Option Parameter). gives (optionals_then os (optional (parameter_of o.parameter) (core_of o.default) y found.0), found.1) w) (sym k)
    ∙ ap (λ (y : Optionals). gives (y, found.1) w) (sym (optionals_push os o found.0)))
optionals_regroup os o x s (refused kind place) e k = refl

pub defaults_more : (inner : Scope → Sketch → Step Core) (sc : Scope) (b : BoundOptional) (bs : List BoundOptional) (os : List Optional') (o : Optional') (w u : World)
    → parameter_of o.parameter ≡ b.bound.1 → option_map parameter_of o.supplied ≡ parameter_some b.supplied → inner sc (form b.default) w ≡ gives (core_of o.default) u
    → before_optionals os (defaults inner sc (b ∷ bs) w) ≡ before_optionals (os ++ o ∷ []) (defaults inner (with_some (with_bound sc b.bound) b.supplied) bs u)
unfolding defaults ◌>>=◌
defaults_more inner sc b bs os o w u same some h =
    let next = with_some (with_bound sc b.bound) b.supplied in
    ap (λ (a : Answer Core). before_optionals os (and_then a (λ e. λ x. and_then (defaults inner next bs x) (λ found. pure (optional b.bound.1 e (parameter_some b.supplied) found.0, found.1))))) h
    ∙ optionals_regroup os o b.bound.1 (parameter_some b.supplied) (defaults inner next bs u) same some

pub defaults_fail : (inner : Scope → Sketch → Step Core) (sc : Scope) (b : BoundOptional) (bs : List BoundOptional) (os : List Optional') (w : World) (e : Fault)
    → Refuses (inner sc (form b.default) w) e → Refuses (before_optionals os (defaults inner sc (b ∷ bs) w)) e
unfolding defaults ◌>>=◌
defaults_fail inner sc b bs os w fault.Memory h = h
defaults_fail inner sc b bs os w (fault.Refused kind place) h =
    let next = with_some (with_bound sc b.bound) b.supplied in
    ap (λ (a : Answer Core). before_optionals os (and_then a (λ e. λ x. and_then (defaults inner next bs x) (λ found. pure (optional b.bound.1 e (parameter_some b.supplied) found.0, found.1))))) h

pub defaults_end : (inner : Scope → Sketch → Step Core) (sc : Scope) (os : List Optional') (w : World) → before_optionals os (defaults inner sc [] w) ≡ gives (optionals_list os, sc) w
unfolding defaults pure
defaults_end inner sc os w = ap (λ (x : Optionals). gives (x, sc) w) (optionals_whole os)

-- ---- tags and forms

steps_regroup : (is : List Item') (i : Item') (e : Core) (a : Answer Items) → ((rest : Items) → item_then i rest ≡ step e rest)
    → before_items is (and_then a (λ rest. pure (step e rest))) ≡ before_items (is ++ i ∷ []) a
unfolding pure
steps_regroup is i e (gives rest w) same =
    ap (λ (x : Items). gives (items_then is x) w) (sym (same rest)) ∙ ap (λ (x : Items). gives x w) (sym (items_push is i rest))
steps_regroup is i e (refused kind place) same = refl

pub items_step : (inner : Sketch → Step Core) (n : ℕ) (v : Val) (vs : List Val) (is : List Item') (i : Item') (e : Core) (w u : World) → is_tag v ≡ false → ((rest : Items) → item_then i rest ≡ step e rest)
    → inner (form v) w ≡ gives e u → before_items (is ++ i ∷ []) (items inner n vs u) ≡ before_items is (items inner n (v ∷ vs) w)
unfolding items ◌>>=◌
items_step inner n v vs is i e w u other same h =
    rw other
    (sym
    (ap (λ (a : Answer Core). before_items is (and_then a (λ e. λ x. and_then (items inner n vs x) (λ rest. pure (step e rest))))) h
    ∙ (steps_regroup is i e (items inner n vs u) same)))

pub items_fail : (inner : Sketch → Step Core) (n : ℕ) (v : Val) (vs : List Val) (is : List Item') (w : World) (e : Fault) → is_tag v ≡ false
    → Refuses (inner (form v) w) e → Refuses (before_items is (items inner n (v ∷ vs) w)) e
unfolding items ◌>>=◌
items_fail inner n v vs is w fault.Memory other h = h
items_fail inner n v vs is w (fault.Refused kind place) other h =
    rw other (ap (λ (a : Answer Core). before_items is (and_then a (λ e. λ x. and_then (items inner n vs x) (λ rest. pure (step e rest))))) h)

pub items_end : (inner : Sketch → Step Core) (n : ℕ) (is : List Item') (w : World) → before_items is (items inner n [] w) ≡ gives (items_list is) w
unfolding items pure
items_end inner n is w = ap (λ (x : Items). gives x w) (items_whole is)
