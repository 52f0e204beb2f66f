-- What the stack and the tables hold after a beginning.
use Rattle.std.proofs.Common.{◌≡◌, true, false, ◌&&◌, List, [], ◌∷◌, ◌++◌, refl, sym, ap, ◌∙◌, subst, Option, Some, None, append_assoc}
use Rattle.std.proofs.lemmas.Bool.{false≢true}
use Rattle.lisp_base.specs.declared.values.Val.{Val}
use Rattle.lisp_reader.specs.declared.forms.TopRead.{TopRead}
use Rattle.lisp_reader.specs.declared.level.Shape.TheVariants as sh
use Rattle.lisp_reader.specs.Tokens.{Placed, placed, opening, dot, vector}
use Rattle.lisp_reader.specs.Trees.{Tree, Trees, prefixed, none, also, writing, writings, Fits, some_tree, begins_splice}
use Rattle.lisp_reader.specs.Building.{Stock, top_form, bound, value, values, forms, start, prefix_value, pushed}
use Rattle.lisp_reader.specs.Reading.{Begun, elements, after_dot, after_tail, in_vector_of, after_prefix, written, beginning, shapes, inside, takes_form, follows_backquote, AllFit, stock_after, begun_stock}
use Rattle.lisp_reader.specs.Machine.{Level, list_level, dot_level, tail_level, vector_level, prefix_level, World, some_value, shapes_of, delivered}

pub bound_some : {A B : Type 0} (o : Option A) (f : A → Option B) (y : B) → bound o f ≡ Some y → (x : A) × (o ≡ Some x) × (f x ≡ Some y)
bound_some None f y e = absurd (cc)
bound_some (Some x) f y e = (x, refl, e)

-- the levels and tables after a beginning hold the values of its forms
abbrev pub Holds : Trees → List Begun → Stock → List Level → List TopRead → Stock → Type 0
Holds xs [] s ls ts t = (ls ≡ []) × (forms xs s ≡ Some (ts, t))
Holds xs (elements o ys ∷ bs) s ls ts t =
    (vs : List Val) × (rest : List Level) × (u : Stock) × (ls ≡ list_level o vs ∷ rest) × (values ys u ≡ Some (vs, t)) × Holds xs bs s rest ts u
Holds xs (after_dot o ys d ∷ bs) s ls ts t =
    (vs : List Val) × (rest : List Level) × (u : Stock) × (ls ≡ dot_level o vs ∷ rest) × (values ys u ≡ Some (vs, t)) × Holds xs bs s rest ts u
Holds xs (after_tail o ys d x ∷ bs) s ls ts t =
    (vs : List Val) × (v : Val) × (rest : List Level) × (u : Stock) × (m : Stock) × (ls ≡ tail_level o vs v ∷ rest) × (values ys u ≡ Some (vs, m)) × (value x m ≡ Some (v, t)) × Holds xs bs s rest ts u
Holds xs (in_vector_of o ys ∷ bs) s ls ts t =
    (vs : List Val) × (rest : List Level) × (u : Stock) × (ls ≡ vector_level o vs ∷ rest) × (values ys u ≡ Some (vs, t)) × Holds xs bs s rest ts u
Holds xs (after_prefix o f ∷ bs) s ls ts t = (rest : List Level) × (ls ≡ prefix_level o f ∷ rest) × Holds xs bs s rest ts t

-- these tokens begin lawfully, and the world is what they leave
pub record Stands (s : Stock) (ps : List Placed) (w : World) : Type 0 where
  pub forms_so_far : Trees
  pub begun : List Begun
  pub fit : AllFit forms_so_far begun
  pub spelled : ps ≡ beginning forms_so_far begun
  pub held : Holds forms_so_far begun s w.levels w.tops w.stock

-- ---- shapes

some_pushed : (vs : List Val) (v : Val) → some_value (vs ++ v ∷ []) ≡ true
some_pushed [] v = refl
some_pushed (u ∷ vs) v = refl

pub some_values : (ys : Trees) (s t : Stock) (vs : List Val) → values ys s ≡ Some (vs, t) → some_value vs ≡ some_tree ys
some_values none s t vs e = ap (λ (o : Option (List Val × Stock)). some_value (first o)) (sym e)
  where
    first : Option (List Val × Stock) → List Val
    first None = []
    first (Some p) = p.0
some_values (also ys y) s t vs e =
    let a = bound_some (values ys s) (λ us. bound (value y us.1) (λ u. Some (pushed us.0 u))) (vs, t) e in
    let b = bound_some (value y a.0.1) (λ u. Some (pushed a.0.0 u)) (vs, t) a.2 in
    ap (λ (o : Option (List Val × Stock)). some_value (first o)) (sym b.2) ∙ some_pushed a.0.0 b.0.0
  where
    first : Option (List Val × Stock) → List Val
    first None = []
    first (Some p) = p.0

pub shapes_held : (xs : Trees) (bs : List Begun) (s : Stock) (ls : List Level) (ts : List TopRead) (t : Stock) → Holds xs bs s ls ts t → shapes_of ls ≡ shapes bs
shapes_held xs [] s ls ts t (e, f) = ap shapes_of e
shapes_held xs (elements o ys ∷ bs) s ls ts t (vs, rest, u, e, q, h) =
    ap shapes_of e ∙ (λ i. sh.List (some_values ys u t vs q i) ∷ shapes_held xs bs s rest ts u h i)
shapes_held xs (after_dot o ys d ∷ bs) s ls ts t (vs, rest, u, e, q, h) =
    ap shapes_of e ∙ (λ i. sh.Dot ∷ shapes_held xs bs s rest ts u h i)
shapes_held xs (after_tail o ys d x ∷ bs) s ls ts t (vs, v, rest, u, m, e, q, r, h) =
    ap shapes_of e ∙ (λ i. sh.Tail ∷ shapes_held xs bs s rest ts u h i)
shapes_held xs (in_vector_of o ys ∷ bs) s ls ts t (vs, rest, u, e, q, h) =
    ap shapes_of e ∙ (λ i. sh.Vector ∷ shapes_held xs bs s rest ts u h i)
shapes_held xs (after_prefix o f ∷ bs) s ls ts t (rest, e, h) =
    ap shapes_of e ∙ (λ i. sh.Prefix f ∷ shapes_held xs bs s rest ts t h i)

-- ---- tables

pub stock_held : (xs : Trees) (bs : List Begun) (s : Stock) (ls : List Level) (ts : List TopRead) (t : Stock) → Holds xs bs s ls ts t → stock_after xs bs s ≡ Some t
stock_held xs [] s ls ts t (e, f) = ap (λ o. bound o (λ fs. Some fs.1)) f
stock_held xs (elements o ys ∷ bs) s ls ts t (vs, rest, u, e, q, h) =
    ap (λ m. bound m (begun_stock (elements o ys))) (stock_held xs bs s rest ts u h) ∙ ap (λ m. bound m (λ us. Some us.1)) q
stock_held xs (after_dot o ys d ∷ bs) s ls ts t (vs, rest, u, e, q, h) =
    ap (λ m. bound m (begun_stock (after_dot o ys d))) (stock_held xs bs s rest ts u h) ∙ ap (λ m. bound m (λ us. Some us.1)) q
stock_held xs (after_tail o ys d x ∷ bs) s ls ts t (vs, v, rest, u, m, e, q, r, h) =
    ap (λ k. bound k (begun_stock (after_tail o ys d x))) (stock_held xs bs s rest ts u h)
    ∙ (ap (λ k. bound k (λ us. bound (value x us.1) (λ u. Some u.1))) q ∙ ap (λ k. bound k (λ u. Some u.1)) r)
stock_held xs (in_vector_of o ys ∷ bs) s ls ts t (vs, rest, u, e, q, h) =
    ap (λ m. bound m (begun_stock (in_vector_of o ys))) (stock_held xs bs s rest ts u h) ∙ ap (λ m. bound m (λ us. Some us.1)) q
stock_held xs (after_prefix o f ∷ bs) s ls ts t (rest, e, h) =
    ap (λ m. bound m (begun_stock (after_prefix o f))) (stock_held xs bs s rest ts t h)

-- ---- a form that is whole

pub spelled_so : (s : Stock) (ps qs : List Placed) (w : World) → ps ≡ qs → Stands s ps w → Stands s qs w
spelled_so s ps qs w e h = subst (λ (rs : List Placed). Stands s rs w) e h

pub delivers : (xs : Trees) (bs : List Begun) (s : Stock) (ls : List Level) (ts : List TopRead) (t0 : Stock) (x : Tree) (v : Val × Stock)
    → AllFit xs bs → Holds xs bs s ls ts t0 → Fits (inside (shapes bs)) x → takes_form (shapes bs) ≡ true
    → (begins_splice x && follows_backquote (shapes bs)) ≡ false → value x t0 ≡ Some v
    → Stands s (beginning xs bs ++ writing x) (delivered ls ts (start x) v)
unfolding delivered
delivers xs [] s ls ts t0 x v fit (e, f) fits form splice given =
    subst (λ (ms : List Level). Stands s (writings xs ++ writing x) (delivered ms ts (start x) v)) (sym e)
    (record {
      forms_so_far = also xs x;
      begun = [];
      fit = (fit, fits);
      spelled = refl;
      held = (
        refl,
        ap (λ m. bound m (λ fs. bound (value x fs.1) (λ u. Some (fs.0 ++ top_form (start x) u.0 ∷ [], u.1)))) f
            ∙ ap (λ m. bound m (λ u. Some (ts ++ top_form (start x) u.0 ∷ [], u.1))) given,
      );
    })
delivers xs (elements o ys ∷ bs) s ls ts t0 x v (a, b, c, d) (vs, rest, u, e, q, h) fits form splice given =
    subst (λ (ms : List Level). Stands s (beginning xs (elements o ys ∷ bs) ++ writing x) (delivered ms ts (start x) v)) (sym e)
    (record {
      forms_so_far = xs;
      begun = elements o (also ys x) ∷ bs;
      fit = (a, b, (c.0, (c.1, fits)), d);
      spelled = append_assoc (beginning xs bs) (placed o opening ∷ writings ys) (writing x);
      held = (
        vs ++ v.0 ∷ [],
        rest,
        u,
        refl,
        ap (λ m. bound m (λ us. bound (value x us.1) (λ w. Some (pushed us.0 w)))) q
            ∙ ap (λ m. bound m (λ w. Some (pushed vs w))) given,
        h,
      );
    })
delivers xs (after_dot o ys d ∷ bs) s ls ts t0 x v (a, b, c, g) (vs, rest, u, e, q, h) fits form splice given =
    subst (λ (ms : List Level). Stands s (beginning xs (after_dot o ys d ∷ bs) ++ writing x) (delivered ms ts (start x) v)) (sym e)
    (record {
      forms_so_far = xs;
      begun = after_tail o ys d x ∷ bs;
      fit = (a, b, (c.0, c.1, c.2, fits), g);
      spelled = append_assoc (beginning xs bs) (written (after_dot o ys d)) (writing x)
          ∙ ap (λ (m : List Placed). beginning xs bs ++ placed o opening ∷ m) (append_assoc (writings ys) (placed d dot ∷ []) (writing x));
      held = (vs, v.0, rest, u, t0, refl, q, given, h);
    })
delivers xs (after_tail o ys d y ∷ bs) s ls ts t0 x v fit held fits form splice given = absurd (false≢true form)
delivers xs (in_vector_of o ys ∷ bs) s ls ts t0 x v (a, b, c, d) (vs, rest, u, e, q, h) fits form splice given =
    subst (λ (ms : List Level). Stands s (beginning xs (in_vector_of o ys ∷ bs) ++ writing x) (delivered ms ts (start x) v)) (sym e)
    (record {
      forms_so_far = xs;
      begun = in_vector_of o (also ys x) ∷ bs;
      fit = (a, b, (c.0, (c.1, fits)), d);
      spelled = append_assoc (beginning xs bs) (placed o vector ∷ writings ys) (writing x);
      held = (
        vs ++ v.0 ∷ [],
        rest,
        u,
        refl,
        ap (λ m. bound m (λ us. bound (value x us.1) (λ w. Some (pushed us.0 w)))) q
            ∙ ap (λ m. bound m (λ w. Some (pushed vs w))) given,
        h,
      );
    })
delivers xs (after_prefix o f ∷ bs) s ls ts t0 x v (a, b, c, d) (rest, e, h) fits form splice given =
    subst (λ (ms : List Level). Stands s (beginning xs (after_prefix o f ∷ bs) ++ writing x) (delivered ms ts (start x) v)) (sym e)
    (spelled_so s (beginning xs bs ++ writing (prefixed o f x)) (beginning xs (after_prefix o f ∷ bs) ++ writing x) (delivered rest ts o (prefix_value o f v))
    (sym (append_assoc (beginning xs bs) (written (after_prefix o f)) (writing x)))
    (delivers xs bs s rest ts t0 (prefixed o f x) (prefix_value o f v) d h (c.0, c.1, splice, fits) a b (ap (λ m. bound m (λ w. Some (prefix_value o f w))) given)))
