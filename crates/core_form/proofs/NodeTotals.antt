-- From the totals of the parts of a node to its own.
use Rattle.std.specs.Prelude.{◌≡◌, ℕ}
use Rattle.std.proofs.Common.{ap, sym, ◌∙◌, ◌⊎◌, inl, inr}
use Rattle.std.specs.declared.vec.Vec.{Vec}
use Rattle.std.specs.declared.alloc.Global.{Global}
use Rattle.std.specs.declared.boxed.Box.{Box}
use Rattle.lisp_base.specs.declared.values.SymId.{SymId}
use Rattle.lisp_base.specs.declared.primitives.Primitive.{Primitive as Operation}
use Rattle.core_form.specs.declared.tree.Form.TheVariants as variant
use Rattle.core_form.specs.declared.tree.Core.{Core as Core'}
use Rattle.core_form.specs.declared.tree.Form.{Form as Form'}
use Rattle.core_form.specs.Tree.{Core}
use Rattle.core_form.specs.Reading.{form_of, core_of, cores_list}
use Rattle.core_form.specs.Counting.{plus, with_core, with_cores}
use Rattle.core_form.proofs.ReadingLemmas.{reads_progn, reads_primitive}
use Rattle.core_form.proofs.NodeReading.{reads_call_local, reads_call_global, reads_funcall, reads_apply, reads_mv_call, reads_values}

-- a node by its form, read as k
pub by_node : (n : ℕ) (c : Core') (f : Form') (k : Core) (r : ℕ) → c.form ≡ f → form_of c.place f ≡ k → r ≡ with_core n k → r ≡ with_core n (core_of c)
by_node n c f k r e q h = h ∙ sym (ap (λ (g : Form'). with_core n (form_of c.place g)) e ∙ ap (λ (x : Core). with_core n x) q)

-- what is so of two, so of the same
pub by_parts : {A B C : Type 0} (f : A → B → C) (r : C) (x x' : A) (y y' : B) → x ≡ x' → y ≡ y' → r ≡ f x y → r ≡ f x' y'
by_parts f r x x' y y' e k h = h ∙ ap (λ z. f z y) e ∙ ap (f x') k

-- a node of a list of parts alone
abbrev OfParts : Core' → Vec Core' Global → Type 0
OfParts c v =
    (c.form ≡ variant.Progn v) ⊎ ((c.form ≡ variant.Values v) ⊎ (((s : SymId) × (c.form ≡ variant.CallGlobal s v))
    ⊎ (((f : ℕ) × (c.form ≡ variant.CallLocal f v)) ⊎ ((q : Operation) × (c.form ≡ variant.Primitive q v)))))

pub of_parts : (n : ℕ) (c : Core') (v : Vec Core' Global) (r : ℕ) → OfParts c v → r ≡ with_cores (plus n 1) (cores_list v.items) → r ≡ with_core n (core_of c)
of_parts n c v r (inl e) h = by_node n c _ _ r e (reads_progn c.place v) h
of_parts n c v r (inr (inl e)) h = by_node n c _ _ r e (reads_values c.place v) h
of_parts n c v r (inr (inr (inl e))) h = by_node n c _ _ r e.1 (reads_call_global c.place e.0 v) h
of_parts n c v r (inr (inr (inr (inl e)))) h = by_node n c _ _ r e.1 (reads_call_local c.place e.0 v) h
of_parts n c v r (inr (inr (inr (inr e)))) h = by_node n c _ _ r e.1 (reads_primitive c.place e.0 v) h

-- a call of the function that a form gives
abbrev OfCall : Core' → Box Core' Global → Vec Core' Global → Type 0
OfCall c f v = (c.form ≡ variant.Funcall f v) ⊎ ((c.form ≡ variant.Apply f v) ⊎ (c.form ≡ variant.MvCall f v))

pub of_call : (n : ℕ) (c : Core') (f : Box Core' Global) (v : Vec Core' Global) (r : ℕ) → OfCall c f v →
    r ≡ with_cores (with_core (plus n 1) (core_of f.value)) (cores_list v.items) → r ≡ with_core n (core_of c)
of_call n c f v r (inl e) h = by_node n c _ _ r e (reads_funcall c.place f v) h
of_call n c f v r (inr (inl e)) h = by_node n c _ _ r e (reads_apply c.place f v) h
of_call n c f v r (inr (inr e)) h = by_node n c _ _ r e (reads_mv_call c.place f v) h
