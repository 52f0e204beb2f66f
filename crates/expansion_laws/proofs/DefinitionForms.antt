-- A DEFUN in the scope of its own name gives a definition.
use Rattle.std.specs.Prelude.{◌≡◌, refl, ℕ, ◌==◌, ◌&&◌, ◌||◌, not, Bool, true, false, List, [], ◌∷◌, ◌++◌, Option, Some, None, if◌then◌else◌}
use Rattle.std.specs.Option.{option_and_then}
use Rattle.std.proofs.Common.{ap, sym, subst, ◌∙◌, arith}
use Rattle.std.proofs.lemmas.Bool.Decides.{nat_tests}
use Rattle.std.proofs.lemmas.List.{append-nil}
use Rattle.lisp_base.specs.declared.base_symbols.TheConstants as at
use Rattle.lisp_base.specs.declared.values.Place.{Place}
use Rattle.lisp_base.specs.declared.values.Place.TheVariants as places
use Rattle.lisp_base.specs.declared.values.SymId.{SymId}
use Rattle.lisp_base.specs.declared.values.Val.{Val}
use Rattle.lisp_base.specs.declared.values.Val.TheVariants.{Int, Char, Sym, Ref}
use Rattle.lisp_base.specs.Sort.{number_of, symbol}
use Rattle.lisp_base.specs.Tables.{Object}
use Rattle.lisp_forms.specs.Conses.{cons_at}
use Rattle.core_form.specs.Tree.{Core, Cores, no_core, core, Lambda, no_definition, define, Progn, SetFun, Labels, FunLocal, Quote}
use Rattle.core_form.specs.Facts.{function_given}
use Rattle.core_form.specs.Lawful.{is_body_of, body_of, definition}
use Rattle.declarations.specs.declared.policy.Policy.{Policy}
use Rattle.expansion.specs.declared.operator.Operator.TheVariants as op
use Rattle.expansion.specs.Operators.{operator_of, is_reserved}
use Rattle.expansion.specs.Scopes.{Scope, same_symbol, last_fit, named, second, at_form, function_at, with_function}
use Rattle.expansion.specs.Steps.{World, gives}
use Rattle.expansion.specs.Sketches.{SettingFunction, Sketch, one, recursive, no_sketch, sketch, constant, Function, Plan, instead, declared_around, makes}
use Rattle.expansion.specs.Forms as plans
use Rattle.expansion.specs.Forms.{symbol_in, definable, plan_of}
use Rattle.expansion_laws.specs.Definitions.{name_after, name_defined, refuses_keys, scope_of, FormsDefine}
use Rattle.expansion_laws.specs.Planned.{Sketched, Operated, defines}
use Rattle.expansion_laws.specs.Made.{counted, numbered, MadeForm, made_instead, made_around, made_makes, Made, made_leaf, made_one, made_many, made_recursive, MadeEach, no_parts, more_parts, MadeLambda}
use Rattle.expansion_laws.proofs.Making.{trees_are_made}
use Rattle.expansion_laws.proofs.Placed.{trees_stay_in_place}
use Rattle.expansion_laws.proofs.DefinitionHeaps.{Longer}
use Rattle.expansion_laws.proofs.DefinitionReading.{begins}
use Rattle.expansion_laws.proofs.DefinitionRefusals.{operator_form, IsApart}
use Rattle.expansion_laws.proofs.DefinitionBodies.{sketched_body}

-- ---- the form

-- (DEFUN S ..)
record IsDefun (heap : List Object) (v : Val) (s : SymId) : Type 0 where
  pub arguments : Val
  pub rest : Val
  pub first : cons_at heap v ≡ Some (Sym at.DEFUN, arguments)
  pub second : cons_at heap arguments ≡ Some (Sym s, rest)

numbers_agree : (m n : ℕ) → (m == n) ≡ true → m ≡ n
numbers_agree m n h = grind (arith, nat_tests)

symbol_there : (x : Val) (s : SymId) → symbol_in x ≡ Some s → x ≡ Sym s
symbol_there (Int z) s e = absurd (cc)
symbol_there (Char c) s e = absurd (cc)
symbol_there (Sym y) s e = cc
symbol_there (Ref o) s e = absurd (cc)

module _ (heap : List Object) (v : Val) (s : SymId) where
  named_by : (y : SymId) (arguments : Val) → cons_at heap v ≡ Some (Sym y, arguments) → (found : Option (Val × Val)) → cons_at heap arguments ≡ found → (b : Bool) → (number_of y == number_of at.DEFUN) ≡ b →
      (if b then option_and_then (λ (r : Val × Val). symbol_in r.0) found else None) ≡ Some s → IsDefun heap v s
  named_by y arguments is found there false test e = absurd (cc)
  named_by y arguments is None there true test e = absurd (cc)
  named_by y arguments is (Some (x, rest)) there true test e =
      let same : y ≡ at.DEFUN = ap symbol (numbers_agree (number_of y) (number_of at.DEFUN) test) in
      record {
        arguments = arguments;
        rest = rest;
        first = is ∙ ap (λ (t : SymId). Some (Sym t, arguments)) same;
        second = there ∙ ap (λ (t : Val). Some (t, rest)) (symbol_there x s e);
      }

  after_first : (found : Option (Val × Val)) → cons_at heap v ≡ found → option_and_then (name_after heap) found ≡ Some s → IsDefun heap v s
  after_first None is e = absurd (cc)
  after_first (Some (Int z, arguments)) is e = absurd (cc)
  after_first (Some (Char c, arguments)) is e = absurd (cc)
  after_first (Some (Sym y, arguments)) is e = named_by y arguments is (cons_at heap arguments) refl (number_of y == number_of at.DEFUN) refl e
  after_first (Some (Ref o, arguments)) is e = absurd (cc)

  is_defun : name_defined heap v ≡ Some s → IsDefun heap v s
  is_defun e = after_first (cons_at heap v) refl e

apart_by : (a b c : Bool) → (a || (b || c)) ≡ false → (a ≡ false) × (b ≡ false) × (c ≡ false)
apart_by true b c h = absurd (cc)
apart_by false true c h = absurd (cc)
apart_by false false true h = absurd (cc)
apart_by false false false h = (refl, refl, refl)

is_apart : (s : SymId) → refuses_keys s ≡ false → IsApart s
is_apart s h =
    let all = apart_by (same_symbol at.FUNCALL s) (same_symbol at.LAMBDA s) (same_symbol at.FUNCTION s) h in
    record { funcall = all.0; lambda = all.1; function = all.2 }

-- ---- its scope and its plan

record OfPrelude (s : SymId) (sc : Scope) : Type 0 where
  pub fixed : sc.is_fixed ≡ true
  pub place : sc.place ≡ places.Prelude s
  pub functions : sc.functions ≡ []

of_prelude : (s : SymId) (policy : Policy) (heap : List Object) (v : Val) → OfPrelude s (at_form heap v (scope_of s policy))
unfolding at_form
of_prelude s policy heap v = record { fixed = refl; place = refl; functions = refl }

all_free : {s : SymId} {sc : Scope} (x : SymId) → OfPrelude s sc → function_at sc x ≡ None
unfolding function_at
all_free x h = ap (λ (fs : List (SymId × ℕ)). second (last_fit (named x) fs)) h.functions

never_kept : (a : Bool) (s : SymId) → (if a && false then None else Some s) ≡ Some s
never_kept true s = refl
never_kept false s = refl

definable_there : {s : SymId} {sc : Scope} → OfPrelude s sc → definable sc (Sym s) ≡ Some s
definable_there {s = s} h = ap (λ (f : Bool). if is_reserved s && not f then None else Some s) h.fixed ∙ never_kept (is_reserved s) s

module _ (s : SymId) (sc : Scope) (w : World) where
  -- the function, and what its list was read as
  record DefunSketch (x : Sketch) (u : World) : Type 0 where
    pub list : Val
    pub function : Function
    pub is : x ≡ plans.definition s function
    pub sketched : Sketched sc (Some s) w list function u

  abbrev DefunPlan : Plan → World → Type 0
  DefunPlan (instead v) u = ⊥
  DefunPlan (declared_around d v) u = ⊥
  DefunPlan (makes x) u = DefunSketch x u

  defun_operated : {arguments : Val} {vs : List Val} {p : Plan} {u : World} → OfPrelude s sc → Operated sc w arguments op.Defun (Sym s ∷ vs) p u → DefunPlan p u
  defun_operated {arguments = arguments} h (defines n vs t f u given by) =
      let same : t ≡ s = let e = definable_there h in cc in
      let list = plans.tail_of w.heap arguments in
      record { list = list; function = f; is = ap (λ (t : SymId). plans.definition t f) same; sketched = subst (λ (t : SymId). Sketched sc (Some t) w list f u) same by }

  defun_planned : (v : Val) (p : Plan) (u : World) → OfPrelude s sc → IsDefun w.heap v s → plan_of sc v w ≡ gives p u → DefunPlan p u
  unfolding operator_of
  defun_planned v p u h d is =
      let o = operator_form sc w at.DEFUN d.arguments v op.Defun p u d.first (all_free at.DEFUN h) refl refl is in
      let b = begins w.heap (Sym s) d.rest o.values d.arguments d.second o.are in
      defun_operated h (subst (λ (vs : List Val). Operated sc w d.arguments op.Defun vs p u) b.is o.by)

-- ---- its tree

record DefinitionMade (s : SymId) (f : Function) (sc : Scope) (w : World) (e : Core) : Type 0 where
  pub number : ℕ
  pub does : Lambda
  pub before : World
  pub after : World
  pub is : e ≡ definition sc.place s number does
  pub made : MadeLambda (with_function s number sc) f before does after
  pub grows : Longer w.heap before.heap

-- the function and the name
name_made : {sc : Scope} {s : SymId} {w after : World} {es : Cores} → MadeEach sc (sketch (constant (Sym s)) no_sketch) w es after → es ≡ core (Quote sc.place (Sym s)) no_core
name_made (more_parts (made_leaf fits) no_parts) = refl

parts_made : {s : SymId} {f : Function} {sc : Scope} {w u after : World} {es : Cores} → u.heap ≡ w.heap →
    MadeEach sc (sketch (one (SettingFunction s) (recursive s f)) (sketch (constant (Sym s)) no_sketch)) u es after → DefinitionMade s f sc w (Progn sc.place es)
parts_made {s = s} {sc = sc} same (more_parts (made_one more (made_recursive {w = w} {u = u} {l = l} third h again)) k) =
    record {
      number = w.next;
      does = l;
      before = numbered 1 (counted 1 w);
      after = u;
      is = ap (λ (es : Cores). Progn sc.place (core (SetFun sc.place s (Labels sc.place (define sc.place w.next s l no_definition) (FunLocal sc.place w.next))) es)) (name_made k);
      made = h;
      grows = record { more = []; is = same ∙ sym (append-nil _) };
    }

definition_made : {s : SymId} {f : Function} {sc : Scope} {w after : World} {e : Core} → Made sc (plans.definition s f) w e after → DefinitionMade s f sc w e
unfolding plans.definition
definition_made (made_many fits h) = parts_made refl h

-- what is to be shown of the tree, but for its places
record Defined (s : SymId) (e : Core) : Type 0 where
  pub number : ℕ
  pub does : Lambda
  pub body : is_body_of s (body_of does) ≡ true
  pub is : e ≡ definition (places.Prelude s) s number does

defined_by : {s : SymId} {sc : Scope} {w u after : World} {x : Sketch} {e : Core} → IsApart s → OfPrelude s sc → DefunSketch s sc w x u → Made sc x u e after → Defined s e
defined_by {s = s} {sc = sc} {w = w} {u = u} {after = after} {e = e} a p d h =
    let m = definition_made (subst (λ (y : Sketch). Made sc y u e after) d.is h) in
    record {
      number = m.number;
      does = m.does;
      body = sketched_body a (record { number = m.number; are = ap (λ (fs : List (SymId × ℕ)). fs ++ (s, m.number) ∷ []) p.functions }) m.grows d.sketched m.made;
      is = m.is ∙ ap (λ (q : Place). definition q s m.number m.does) p.place;
    }

defined : {s : SymId} {policy : Policy} {v : Val} {w after : World} {e : Core} → IsApart s → IsDefun w.heap v s → MadeForm (scope_of s policy) v w e after → Defined s e
defined {s = s} {policy = policy} a d (made_instead {v = v} {w = w} plan h) =
    absurd (defun_planned s (at_form w.heap v (scope_of s policy)) w v _ _ (of_prelude s policy w.heap v) d plan)
defined {s = s} {policy = policy} a d (made_around {v = v} {w = w} plan h) =
    absurd (defun_planned s (at_form w.heap v (scope_of s policy)) w v _ _ (of_prelude s policy w.heap v) d plan)
defined {s = s} {policy = policy} a d (made_makes {v = v} {w = w} plan h) =
    let p = of_prelude s policy w.heap v in
    defined_by a p (defun_planned s (at_form w.heap v (scope_of s policy)) w v _ _ p d plan) h

-- ---- the law

pub forms_define : FormsDefine
forms_define fuel levels chain s policy v w after e nodes name apart is =
    let d = defined (is_apart s apart) (is_defun w.heap v s name) (trees_are_made fuel levels chain (scope_of s policy) v w e after is) in
    record {
      definition = record {
        name = s;
        function = d.number;
        does = d.does;
        body = d.body;
        is = d.is;
        place = refl;
        everywhere = trees_stay_in_place fuel levels chain (scope_of s policy) v w e after refl is;
      };
      named = refl;
      given = ap function_given d.is;
    }
