-- From the parts of the parts of a node to those of the node.
use Rattle.std.specs.Prelude.{◌≡◌, refl, ℕ, List, [], ◌∷◌, ◌++◌, Option, Result, OnOk}
use Rattle.std.proofs.lemmas.Result.{on_ok_weaker}
use Rattle.std.proofs.Common.{ap, sym, ◌∙◌, append_assoc, ◌⊎◌, inl, inr}
use Rattle.std.specs.declared.vec.Vec.{Vec}
use Rattle.std.specs.declared.alloc.Global.{Global}
use Rattle.std.specs.declared.boxed.Box.{Box}
use Rattle.lisp_base.specs.declared.values.Place.{Place}
use Rattle.lisp_base.specs.declared.values.SymId.{SymId}
use Rattle.lisp_base.specs.declared.primitives.Primitive.{Primitive as Operation}
use Rattle.core_form.specs.declared.tree.Form.TheVariants as variant
use Rattle.core_form.specs.declared.tree.Core.{Core as Core'}
use Rattle.core_form.specs.declared.tree.Form.{Form as Form'}
use Rattle.core_form.specs.Tree.{Core, Progn, Let, Labels, CallLocal, CallGlobal, Funcall, Apply, MvCall, Primitive, Values, Tagbody, Cores, Bindings, Definitions, Items, Optionals, lambda, Parameter}
use Rattle.core_form.specs.Reading.{form_of, core_of, cores_list}
use Rattle.core_form.specs.ListReading.{ReadsFuncall, ReadsApply, ReadsMvCall, ReadsCallLocal, ReadsCallGlobal, ReadsValues}
use Rattle.core_form.specs.Laws.{ReadsProgn, ReadsPrimitive}
use Rattle.core_form.specs.Facts.{gather, gather_all, gather_bindings, gather_optionals, gather_definitions, gather_items}
use Rattle.form_facts.specs.Parts.{Part, makes, node_parts, function_parts, lambda_parts, parts}

abbrev all_parts : Cores → List Part
all_parts es = gather_all node_parts function_parts es

-- what is so of one, so of the same
pub at_same : {A : Type 0} (f : A → List Part) (new mid : List Part) (x y : A) → x ≡ y → new ≡ mid ++ f x → new ≡ mid ++ f y
at_same f new mid x y e h = h ∙ ap (λ z. mid ++ f z) e

-- what is so of the outcome of a call, so of what it gives
pub carry : {T E : Type 0} (r : Result T E) (new mid old a b : List Part) → (new ≡ mid ++ a → new ≡ old ++ b) → OnOk r (new ≡ mid ++ a) → OnOk r (new ≡ old ++ b)
carry r new mid old a b f h = on_ok_weaker {P = new ≡ mid ++ a} {Q = new ≡ old ++ b} r f h

-- what comes behind what came
pub further : (old mid new a b : List Part) → mid ≡ old ++ a → new ≡ mid ++ b → new ≡ old ++ (a ++ b)
further old mid new a b h k = k ∙ ap (λ (xs : List Part). xs ++ b) h ∙ append_assoc old a b

pub as_read : (c : Core') (f : Form') (k : Core) → c.form ≡ f → form_of c.place f ≡ k → core_of c ≡ k
as_read c f k e r = ap (λ (g : Form'). form_of c.place g) e ∙ r

-- the parts of a node itself
pub by_node : (old new : List Part) (c : Core') (k : Core) → core_of c ≡ k → new ≡ old ++ node_parts k → new ≡ old ++ node_parts (core_of c)
by_node old new c k e h = h ∙ ap (λ (x : Core). old ++ node_parts x) (sym e)

-- a node by its own parts and those of its parts
pub by_parts : (old mid new rest : List Part) (c : Core') (k : Core) → core_of c ≡ k → parts k ≡ node_parts k ++ rest → mid ≡ old ++ node_parts (core_of c) → new ≡ mid ++ rest → new ≡ old ++ parts (core_of c)
by_parts old mid new rest c k e row node h =
    further old mid new (node_parts (core_of c)) rest node h
    ∙ ap (λ (x : Core). old ++ (node_parts x ++ rest)) e ∙ ap (λ (xs : List Part). old ++ xs) (sym row) ∙ ap (λ (x : Core). old ++ parts x) (sym e)

-- ---- the rows of the walk

pub row_let : (p : Place) (bs : Bindings) (e : Core) → parts (Let p bs e) ≡ node_parts (Let p bs e) ++ (gather_bindings node_parts function_parts bs ++ parts e)
unfolding gather
row_let p bs e = append_assoc (node_parts (Let p bs e)) (gather_bindings node_parts function_parts bs) (parts e)

pub row_labels : (p : Place) (ds : Definitions) (e : Core) → parts (Labels p ds e) ≡ node_parts (Labels p ds e) ++ (gather_definitions node_parts function_parts ds ++ parts e)
unfolding gather
row_labels p ds e = append_assoc (node_parts (Labels p ds e)) (gather_definitions node_parts function_parts ds) (parts e)

pub row_tagbody : (p : Place) (is : Items) → parts (Tagbody p is) ≡ node_parts (Tagbody p is) ++ gather_items node_parts function_parts is
unfolding gather
row_tagbody p is = refl

row_funcall : (p : Place) (e : Core) (es : Cores) → parts (Funcall p e es) ≡ node_parts (Funcall p e es) ++ (parts e ++ all_parts es)
unfolding gather
row_funcall p e es = append_assoc (node_parts (Funcall p e es)) (parts e) (all_parts es)

row_apply : (p : Place) (e : Core) (es : Cores) → parts (Apply p e es) ≡ node_parts (Apply p e es) ++ (parts e ++ all_parts es)
unfolding gather
row_apply p e es = append_assoc (node_parts (Apply p e es)) (parts e) (all_parts es)

row_mv_call : (p : Place) (e : Core) (es : Cores) → parts (MvCall p e es) ≡ node_parts (MvCall p e es) ++ (parts e ++ all_parts es)
unfolding gather
row_mv_call p e es = append_assoc (node_parts (MvCall p e es)) (parts e) (all_parts es)

row_progn : (p : Place) (es : Cores) → parts (Progn p es) ≡ node_parts (Progn p es) ++ all_parts es
unfolding gather
row_progn p es = refl

row_values : (p : Place) (es : Cores) → parts (Values p es) ≡ node_parts (Values p es) ++ all_parts es
unfolding gather
row_values p es = refl

row_global : (p : Place) (s : SymId) (es : Cores) → parts (CallGlobal p s es) ≡ node_parts (CallGlobal p s es) ++ all_parts es
unfolding gather
row_global p s es = refl

row_local : (p : Place) (f : ℕ) (es : Cores) → parts (CallLocal p f es) ≡ node_parts (CallLocal p f es) ++ all_parts es
unfolding gather
row_local p f es = refl

row_primitive : (p : Place) (q : Operation) (es : Cores) → parts (Primitive p q es) ≡ node_parts (Primitive p q es) ++ all_parts es
unfolding gather
row_primitive p q es = refl

-- ---- nodes of several forms

abbrev OfParts : Core' → Vec Core' Global → Type 0
OfParts c v =
    (c.form ≡ variant.Progn v) ⊎ ((c.form ≡ variant.Values v) ⊎ (((s : SymId) × (c.form ≡ variant.CallGlobal s v))
    ⊎ (((f : ℕ) × (c.form ≡ variant.CallLocal f v)) ⊎ ((q : Operation) × (c.form ≡ variant.Primitive q v)))))

pub of_parts : (sequence : ReadsProgn) (values : ReadsValues) (global : ReadsCallGlobal) (local : ReadsCallLocal) (call : ReadsPrimitive)
    (old mid new : List Part) (c : Core') (v : Vec Core' Global) → OfParts c v → mid ≡ old ++ node_parts (core_of c) → new ≡ mid ++ all_parts (cores_list v.items) → new ≡ old ++ parts (core_of c)
of_parts sequence values global local call old mid new c v (inl e) node h =
    by_parts old mid new _ c _ (as_read c _ _ e (sequence c.place v)) (row_progn c.place (cores_list v.items)) node h
of_parts sequence values global local call old mid new c v (inr (inl e)) node h =
    by_parts old mid new _ c _ (as_read c _ _ e (values c.place v)) (row_values c.place (cores_list v.items)) node h
of_parts sequence values global local call old mid new c v (inr (inr (inl e))) node h =
    by_parts old mid new _ c _ (as_read c _ _ e.1 (global c.place e.0 v)) (row_global c.place e.0 (cores_list v.items)) node h
of_parts sequence values global local call old mid new c v (inr (inr (inr (inl e)))) node h =
    by_parts old mid new _ c _ (as_read c _ _ e.1 (local c.place e.0 v)) (row_local c.place e.0 (cores_list v.items)) node h
of_parts sequence values global local call old mid new c v (inr (inr (inr (inr e)))) node h =
    by_parts old mid new _ c _ (as_read c _ _ e.1 (call c.place e.0 v)) (row_primitive c.place e.0 (cores_list v.items)) node h

-- a call of the function that a form gives
abbrev OfCall : Core' → Box Core' Global → Vec Core' Global → Type 0
OfCall c f v = (c.form ≡ variant.Funcall f v) ⊎ ((c.form ≡ variant.Apply f v) ⊎ (c.form ≡ variant.MvCall f v))

pub of_call : (funcall : ReadsFuncall) (apply : ReadsApply) (with_values : ReadsMvCall) (old mid new : List Part) (c : Core') (f : Box Core' Global) (v : Vec Core' Global) → OfCall c f v →
    mid ≡ old ++ node_parts (core_of c) → new ≡ mid ++ (parts (core_of f.value) ++ all_parts (cores_list v.items)) → new ≡ old ++ parts (core_of c)
of_call funcall apply with_values old mid new c f v (inl e) node h =
    by_parts old mid new _ c _ (as_read c _ _ e (funcall c.place f v)) (row_funcall c.place (core_of f.value) (cores_list v.items)) node h
of_call funcall apply with_values old mid new c f v (inr (inl e)) node h =
    by_parts old mid new _ c _ (as_read c _ _ e (apply c.place f v)) (row_apply c.place (core_of f.value) (cores_list v.items)) node h
of_call funcall apply with_values old mid new c f v (inr (inr e)) node h =
    by_parts old mid new _ c _ (as_read c _ _ e (with_values c.place f v)) (row_mv_call c.place (core_of f.value) (cores_list v.items)) node h

-- ---- functions

pub of_lambda : (old one two new : List Part) (k : ℕ) (xs : List Parameter) (os : Optionals) (r : Option Parameter) (e : Core) →
    one ≡ old ++ makes (lambda k xs os r e) ∷ [] → two ≡ one ++ gather_optionals node_parts function_parts os → new ≡ two ++ parts e → new ≡ old ++ lambda_parts (lambda k xs os r e)
of_lambda old one two new k xs os r e h i j = further old two new _ _ (further old one two _ _ h i) j
