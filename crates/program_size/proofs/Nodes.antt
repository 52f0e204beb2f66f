-- What a node adds, by its variant.
use Rattle.std.specs.Prelude.{◌≡◌, ℕ, List, OnOk, Result}
use Rattle.std.proofs.Common.{ap, sym, subst, ◌∙◌, ◌⊎◌, inl, inr}
use Rattle.std.specs.declared.vec.Vec.{Vec}
use Rattle.std.specs.declared.alloc.Global.{Global}
use Rattle.std.specs.declared.boxed.Box.{Box}
use Rattle.lisp_base.specs.declared.values.Val.{Val}
use Rattle.lisp_base.specs.declared.primitives.Primitive.{Primitive as Operation}
use Rattle.core_form.specs.declared.tree.Form.TheVariants as variant
use Rattle.core_form.specs.declared.tree.Core.{Core as Core'}
use Rattle.core_form.specs.declared.tree.Form.{Form as Form'}
use Rattle.core_form.specs.Tree.{Core}
use Rattle.core_form.specs.Reading.{form_of, core_of, cores_list}
use Rattle.core_form.specs.ListReading.{ReadsValues, ReadsCallLocal, ReadsFuncall, ReadsApply, ReadsMvCall}
use Rattle.core_form.specs.Laws.{ReadsProgn, ReadsPrimitive}
use Rattle.program_size.specs.Walk.{with_core, with_cores}

-- a node by its variant, read as k
pub node_is : (vs : List Val) (c : Core') (f : Form') (k : Core) → c.form ≡ f → form_of c.place f ≡ k → with_core vs k ≡ with_core vs (core_of c)
node_is vs c f k is reads = sym (ap (λ (g : Form'). with_core vs (form_of c.place g)) is ∙ ap (with_core vs) reads)

pub on_ok : {A E : Type 0} (r : Result A E) (new x y : List Val) → x ≡ y → OnOk r (new ≡ x) → OnOk r (new ≡ y)
on_ok r new x y e h = subst (λ (z : List Val). OnOk r (new ≡ z)) e h

pub both : {A B C : Type 0} (f : A → B → C) (x x' : A) (y y' : B) → x ≡ x' → y ≡ y' → f x y ≡ f x' y'
both f x x' y y' e k = ap (λ z. f z y) e ∙ ap (f x') k

-- a node of a list of parts alone
abbrev OfParts : Core' → Vec Core' Global → Type 0
OfParts c v =
    (c.form ≡ variant.Progn v) ⊎ ((c.form ≡ variant.Values v) ⊎ (((f : ℕ) × (c.form ≡ variant.CallLocal f v)) ⊎ ((q : Operation) × (c.form ≡ variant.Primitive q v))))

pub of_parts : ReadsProgn → ReadsValues → ReadsCallLocal → ReadsPrimitive → (vs : List Val) (c : Core') (v : Vec Core' Global) → OfParts c v →
    with_cores vs (cores_list v.items) ≡ with_core vs (core_of c)
of_parts progn values local primitive vs c v (inl e) = node_is vs c _ _ e (progn c.place v)
of_parts progn values local primitive vs c v (inr (inl e)) = node_is vs c _ _ e (values c.place v)
of_parts progn values local primitive vs c v (inr (inr (inl e))) = node_is vs c _ _ e.1 (local c.place e.0 v)
of_parts progn values local primitive vs c v (inr (inr (inr e))) = node_is vs c _ _ e.1 (primitive c.place e.0 v)

-- a call of the function that a form gives
abbrev OfCall : Core' → Box Core' Global → Vec Core' Global → Type 0
OfCall c f v = (c.form ≡ variant.Funcall f v) ⊎ ((c.form ≡ variant.Apply f v) ⊎ (c.form ≡ variant.MvCall f v))

pub of_call : ReadsFuncall → ReadsApply → ReadsMvCall → (vs : List Val) (c : Core') (f : Box Core' Global) (v : Vec Core' Global) → OfCall c f v →
    with_cores (with_core vs (core_of f.value)) (cores_list v.items) ≡ with_core vs (core_of c)
of_call funcall apply mv_call vs c f v (inl e) = node_is vs c _ _ e (funcall c.place f v)
of_call funcall apply mv_call vs c f v (inr (inl e)) = node_is vs c _ _ e (apply c.place f v)
of_call funcall apply mv_call vs c f v (inr (inr e)) = node_is vs c _ _ e (mv_call c.place f v)
