-- The steps of one form at the top, by the ways through them.
use Rattle.std.proofs.Common.{◌≡◌, ◌∙◌, ap, sym, refl, ℕ, zero, suc, Bool, true, false, List, [], map, Option, Some, None}
use Rattle.std.specs.Prelude.{nat_le, ◌||◌, not, if◌then◌else◌, Result, Ok, Err, OnOk}
use Rattle.lisp_base.specs.declared.base_symbols.TheConstants as at
use Rattle.lisp_base.specs.declared.values.Val.{Val}
use Rattle.lisp_base.specs.Membership.{is_symbol_number}
use Rattle.lisp_base.specs.Sort.{number_of}
use Rattle.lisp_forms.specs.Conses.{cons_at, elements}
use Rattle.core_form.specs.Tree.{Core, Top}
use Rattle.closed_copies.specs.Copies.{closed_copies, within}
use Rattle.expansion.specs.declared.kind.ExpandKind.TheVariants as kind
use Rattle.expansion.specs.Scopes.{Scope, declared_in}
use Rattle.expansion.specs.Steps.{World, Answer, gives, refused, Step, and_then, expect}
use Rattle.expansion.specs.Bindings.{Contents, contents_of}
use Rattle.expansion.specs.Expanding.{tree_of}
use Rattle.form_expander.specs.Stepping.{steps}
use Rattle.form_expander.specs.declared.fault.Fault.{Fault}
use Rattle.form_expander.specs.declared.fault.Fault.TheVariants as fault
use Rattle.form_expander.specs.Outcomes.{Refuses, Follows}
use Rattle.file_expansion.specs.Tops.{top_with, most_copies, if_few, counted_anew, top_tree, pending, own_scope, Shape, progn, locally, other, shape_by, shape_at, AtTop, tree, parts, parts_within, same_policy, shaped, at_top}

-- ---- one step after another

module _ {A B : Type 0} (a : Answer A) (f : A → Step B) where
  pub given_on : (x : A) (w : World) → a ≡ gives x w → and_then a f ≡ f x w
  given_on x w is = ap (λ (y : Answer A). and_then y f) is

  pub refused_on : (e : Fault) → Refuses a e → Refuses (and_then a f) e
  refused_on (fault.Refused kind place) is = ap (λ (y : Answer A). and_then y f) is
  refused_on fault.Memory is = tt

pub refused_along : {A : Type 0} (a b : Answer A) (e : Fault) → a ≡ b → Refuses b e → Refuses a e
refused_along a b (fault.Refused kind place) is h = is ∙ h
refused_along a b fault.Memory is h = tt

-- ---- the tree of one form

abbrev pub finish : Scope → Core → Step Top
finish sc e = λ w. if_few sc (top_with sc.place e w.nodes) w

pub tree_steps : (chain : ℕ) (sc : Scope) (v : Val) (w : World) → top_tree chain sc v w ≡ and_then (tree_of chain sc v (counted_anew w)) (finish sc)
unfolding top_tree steps
tree_steps chain sc v w = refl

few_by : (b : Bool) (sc : Scope) (t : Top) (w : World) → nat_le (closed_copies t.core) most_copies ≡ b → b ≡ true → if_few sc t w ≡ gives t w
unfolding if_few steps
few_by true sc t w is h = rw is
few_by false sc t w is h = cc

many_by : (b : Bool) (sc : Scope) (t : Top) (w : World) → nat_le (closed_copies t.core) most_copies ≡ b → b ≡ false → if_few sc t w ≡ refused kind.TooManyClosed sc.place
unfolding if_few steps
many_by false sc t w is h = rw is
many_by true sc t w is h = cc

module _ (chain : ℕ) (sc : Scope) (v : Val) (w : World) where
  pub tree_given : (e : Core) (u : World) → tree_of chain sc v (counted_anew w) ≡ gives e u → nat_le (closed_copies e) most_copies ≡ true →
      top_tree chain sc v w ≡ gives (top_with sc.place e u.nodes) u
  tree_given e u is few =
      tree_steps chain sc v w ∙ (given_on (tree_of chain sc v (counted_anew w)) (finish sc) e u is ∙ few_by true sc (top_with sc.place e u.nodes) u few refl)

  pub tree_many : (e : Core) (u : World) → tree_of chain sc v (counted_anew w) ≡ gives e u → nat_le (closed_copies e) most_copies ≡ false →
      top_tree chain sc v w ≡ refused kind.TooManyClosed sc.place
  tree_many e u is many =
      tree_steps chain sc v w ∙ (given_on (tree_of chain sc v (counted_anew w)) (finish sc) e u is ∙ many_by false sc (top_with sc.place e u.nodes) u many refl)

  pub tree_refused : (e : Fault) → Refuses (tree_of chain sc v (counted_anew w)) e → Refuses (top_tree chain sc v w) e
  tree_refused e h = refused_along (top_tree chain sc v w) _ e (tree_steps chain sc v w) (refused_on (tree_of chain sc v (counted_anew w)) (finish sc) e h)

-- ---- how a form is read

is_progn : Val → Bool
is_progn v = is_symbol_number (number_of at.PROGN) v

is_locally : Val → Bool
is_locally v = is_symbol_number (number_of at.LOCALLY) v

module _ (sc : Scope) (v : Val) (w : World) where
  shape_steps : (c : Option (Val × Val)) → cons_at w.heap v ≡ c → shape_at sc v w ≡ shape_by sc c w
  unfolding shape_at steps
  shape_steps c is = ap (λ (d : Option (Val × Val)). shape_by sc d w) is

  pub shape_atom : cons_at w.heap v ≡ None → shape_at sc v w ≡ gives other w
  unfolding shape_by steps
  shape_atom is = shape_steps None is

  pub shape_other : (c : Val × Val) → cons_at w.heap v ≡ Some c → is_symbol_number (number_of at.PROGN) c.0 ≡ false →
      is_symbol_number (number_of at.LOCALLY) c.0 ≡ false → shape_at sc v w ≡ gives other w
  unfolding shape_by steps
  shape_other c is p l = shape_steps (Some c) is ∙ by
    where
      by : shape_by sc (Some c) w ≡ gives other w
      by = rw (p, l)

  abbrev progn_then : List Val → Step Shape
  progn_then vs = λ u. gives (progn vs) u

  progn_steps : (c : Val × Val) → cons_at w.heap v ≡ Some c → is_symbol_number (number_of at.PROGN) c.0 ≡ true →
      shape_at sc v w ≡ and_then (expect sc (elements w.heap c.1) w) progn_then
  unfolding shape_by steps
  progn_steps c is p = shape_steps (Some c) is ∙ by
    where
      by : shape_by sc (Some c) w ≡ and_then (expect sc (elements w.heap c.1) w) progn_then
      by = rw p

  pub progn_given : (c : Val × Val) (vs : List Val) → cons_at w.heap v ≡ Some c → is_symbol_number (number_of at.PROGN) c.0 ≡ true →
      expect sc (elements w.heap c.1) w ≡ gives vs w → shape_at sc v w ≡ gives (progn vs) w
  progn_given c vs is p e = progn_steps c is p ∙ given_on (expect sc (elements w.heap c.1) w) progn_then vs w e

  pub progn_refused : (c : Val × Val) (e : Fault) → cons_at w.heap v ≡ Some c → is_symbol_number (number_of at.PROGN) c.0 ≡ true →
      Refuses (expect sc (elements w.heap c.1) w) e → Refuses (shape_at sc v w) e
  progn_refused c e is p h = refused_along (shape_at sc v w) _ e (progn_steps c is p) (refused_on (expect sc (elements w.heap c.1) w) progn_then e h)

  abbrev locally_then : Contents → Step Shape
  locally_then c = λ u. gives (locally c) u

  abbrev body_then : List Val → Step Shape
  body_then vs = λ u. and_then (contents_of sc vs u) locally_then

  locally_steps : (c : Val × Val) → cons_at w.heap v ≡ Some c → is_symbol_number (number_of at.PROGN) c.0 ≡ false →
      is_symbol_number (number_of at.LOCALLY) c.0 ≡ true → shape_at sc v w ≡ and_then (expect sc (elements w.heap c.1) w) body_then
  unfolding shape_by steps
  locally_steps c is p l = shape_steps (Some c) is ∙ by
    where
      assoc : (a : Answer (List Val)) → and_then (and_then a (contents_of sc)) locally_then ≡ and_then a body_then
      assoc (gives vs u) = refl
      assoc (refused k place) = refl

      by : shape_by sc (Some c) w ≡ and_then (expect sc (elements w.heap c.1) w) body_then
      by = rw (p, l) (assoc (expect sc (elements w.heap c.1) w))

  pub locally_given : (c : Val × Val) (vs : List Val) (x : Contents) → cons_at w.heap v ≡ Some c → is_symbol_number (number_of at.PROGN) c.0 ≡ false →
      is_symbol_number (number_of at.LOCALLY) c.0 ≡ true → expect sc (elements w.heap c.1) w ≡ gives vs w → contents_of sc vs w ≡ gives x w →
      shape_at sc v w ≡ gives (locally x) w
  locally_given c vs x is p l e f =
      locally_steps c is p l ∙ (given_on (expect sc (elements w.heap c.1) w) body_then vs w e ∙ given_on (contents_of sc vs w) locally_then x w f)

  pub locally_refused : (c : Val × Val) (e : Fault) → cons_at w.heap v ≡ Some c → is_symbol_number (number_of at.PROGN) c.0 ≡ false →
      is_symbol_number (number_of at.LOCALLY) c.0 ≡ true → Refuses (expect sc (elements w.heap c.1) w) e → Refuses (shape_at sc v w) e
  locally_refused c e is p l h =
      refused_along (shape_at sc v w) _ e (locally_steps c is p l) (refused_on (expect sc (elements w.heap c.1) w) body_then e h)

  pub body_refused : (c : Val × Val) (vs : List Val) (e : Fault) → cons_at w.heap v ≡ Some c → is_symbol_number (number_of at.PROGN) c.0 ≡ false →
      is_symbol_number (number_of at.LOCALLY) c.0 ≡ true → expect sc (elements w.heap c.1) w ≡ gives vs w → Refuses (contents_of sc vs w) e →
      Refuses (shape_at sc v w) e
  body_refused c vs e is p l f h =
      refused_along (shape_at sc v w) _ e (locally_steps c is p l ∙ given_on (expect sc (elements w.heap c.1) w) body_then vs w f)
      (refused_on (contents_of sc vs w) locally_then e h)

-- ---- what a form gives

module _ (sc : Scope) (own : Bool) (chain : ℕ) (v : Val) (w : World) where
  abbrev pub tree_then : Top → Step AtTop
  tree_then t = λ u. gives (tree t) u

  pub other_steps : shaped sc own chain v other w ≡ and_then (top_tree chain sc v w) tree_then
  unfolding shaped steps
  other_steps = refl

  pub other_given : (t : Top) (u : World) → top_tree chain sc v w ≡ gives t u → shaped sc own chain v other w ≡ gives (tree t) u
  other_given t u e = other_steps ∙ given_on (top_tree chain sc v w) tree_then t u e

  pub other_refused : (e : Fault) → Refuses (top_tree chain sc v w) e → Refuses (shaped sc own chain v other w) e
  other_refused e h = refused_along (shaped sc own chain v other w) _ e other_steps (refused_on (top_tree chain sc v w) tree_then e h)

  pub progn_shaped : (vs : List Val) → shaped sc own chain v (progn vs) w ≡ parts_within sc sc own chain vs w
  unfolding shaped
  progn_shaped vs = refl

  pub locally_shaped : (c : Contents) → shaped sc own chain v (locally c) w ≡ parts_within sc (declared_in c.declared sc) (own || not (same_policy c.declared.policy sc.policy)) chain c.forms w
  unfolding shaped
  locally_shaped c = refl

-- the scope of the form, as the code comes to it
pub top_steps : (sc : Scope) (own : Bool) (chain : ℕ) (v : Val) (w : World) →
    at_top (pending sc own chain v) w ≡ and_then (shape_at (own_scope (pending sc own chain v) w) v w) (shaped (own_scope (pending sc own chain v) w) own chain v)
unfolding at_top steps
top_steps sc own chain v w = refl

-- ---- closed copies that were counted up to their limit

pub few_copies : (n m : ℕ) → within 3000 n ≡ Some m → nat_le n most_copies ≡ true
unfolding most_copies
few_copies n m is = by (nat_le n 3000) is
  where
    by : (b : Bool) → (if b then Some n else None) ≡ Some m → b ≡ true
    by true e = refl
    by false e = cc

pub many_copies : (n : ℕ) → within 3000 n ≡ None → nat_le n most_copies ≡ false
unfolding most_copies
many_copies n is = by (nat_le n 3000) is
  where
    by : (b : Bool) → (if b then Some n else None) ≡ None → b ≡ false
    by true e = cc
    by false e = refl

-- ---- what is expected, and parts where the chain goes on

pub expected_some : {A : Type 0} (sc : Scope) (o : Option A) (w u : World) (a : A) → expect sc o w ≡ gives a u → o ≡ Some a
unfolding steps
expected_some sc (Some b) w u a e = cc
expected_some sc None w u a e = cc

pub expect_given : {A : Type 0} (sc : Scope) (o : Option A) (w : World) (a : A) → o ≡ Some a → expect sc o w ≡ gives a w
unfolding steps
expect_given sc o w a e = rw e

pub expect_refused : {A : Type 0} (sc : Scope) (o : Option A) (w : World) → o ≡ None → expect sc o w ≡ refused kind.BadForm sc.place
unfolding steps
expect_refused sc o w e = rw e

pub parts_next : (sc inner : Scope) (own : Bool) (chain next : ℕ) (vs : List Val) (w : World) → chain ≡ suc next →
    parts_within sc inner own chain vs w ≡ gives (parts (map (pending inner own next) vs)) w
unfolding parts_within steps
parts_next sc inner own chain next vs w e = rw e

pub parts_none : (sc inner : Scope) (own : Bool) (chain : ℕ) (vs : List Val) (w : World) → chain ≡ zero →
    parts_within sc inner own chain vs w ≡ refused kind.TooNested sc.place
unfolding parts_within steps
parts_none sc inner own chain vs w e = rw e

-- ---- a form at the top, in its own scope

module _ (sc : Scope) (own : Bool) (chain : ℕ) (v : Val) (w : World) (inner : Scope) (is : inner ≡ own_scope (pending sc own chain v) w) where
  steps_in : at_top (pending sc own chain v) w ≡ and_then (shape_at inner v w) (shaped inner own chain v)
  steps_in = top_steps sc own chain v w ∙ ap (λ (s : Scope). and_then (shape_at s v w) (shaped s own chain v)) (sym is)

  pub top_refused : (e : Fault) → Refuses (shape_at inner v w) e → Refuses (at_top (pending sc own chain v) w) e
  top_refused e h = refused_along (at_top (pending sc own chain v) w) _ e steps_in (refused_on (shape_at inner v w) (shaped inner own chain v) e h)

  pub top_follows : {X : Type 0} (view : X → AtTop) (s : Shape) (r : Result X Fault) (u : World) → shape_at inner v w ≡ gives s w →
      Follows view (shaped inner own chain v s w) r u → Follows view (at_top (pending sc own chain v) w) r u
  top_follows view s (Ok x) u e h = steps_in ∙ (given_on (shape_at inner v w) (shaped inner own chain v) s w e ∙ h)
  top_follows view s (Err f) u e h =
      refused_along (at_top (pending sc own chain v) w) _ f (steps_in ∙ given_on (shape_at inner v w) (shaped inner own chain v) s w e) h

pub on_ok : {X E P Q : Type 0} (r : Result X E) → (P → Q) → OnOk r P → OnOk r Q
on_ok (Ok x) f h = f h
on_ok (Err e) f h = tt
