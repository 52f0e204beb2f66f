-- What is read of what is there is there, and scopes of the top stay such.
use Rattle.std.proofs.Common.{◌≡◌, ◌∙◌, ap, sym, subst, refl, ℕ, zero, suc, ◌<◌, Bool, true, false, List, [], ◌∷◌, length, Option, Some, None, arith}
use Rattle.std.specs.Prelude.{slice_get, fold, if◌then◌else◌}
use Rattle.std.specs.List.{All, Contains}
use Rattle.std.specs.Option.{option_map, option_and_then}
use Rattle.std.proofs.lemmas.List.Elements.{All-append, All-nil, All-cons, All-head, All-tail, All-push}
use Rattle.std.proofs.lemmas.Option.{slice_get-map}
use Rattle.lisp_base.specs.declared.values.Place.{Place}
use Rattle.lisp_base.specs.declared.values.SymId.{SymId}
use Rattle.lisp_base.specs.declared.values.Val.{Val}
use Rattle.lisp_base.specs.declared.values.Val.TheVariants.{Int, Char, Sym, Ref}
use Rattle.lisp_base.specs.Sort.{index_of, number_of}
use Rattle.lisp_base.specs.Tables.{Object, Cons, Vector, Str, Fun, Cell}
use Rattle.lisp_forms.specs.Conses.{is_nil, cons_at, cons_parts, place_at, elements, elements_within}
use Rattle.core_form.specs.Eval.{Program}
use Rattle.core_form.specs.Lawful.{object_of, place_symbols, Reaches, itself, within, values_in, values_within}
use Rattle.declarations.specs.declared.policy.Policy.{Policy}
use Rattle.declarations.specs.Declarations.{Typed, Declared}
use Rattle.expansion.specs.declared.heads.Target.{Target}
use Rattle.expansion.specs.declared.heads.Target.TheVariants.{Global}
use Rattle.expansion.specs.Scopes.{Scope, of_uses, at_form, value_or, with_special, with_type, with_policy, declared_in, variable_at, last_fit, second, named, later}
use Rattle.expansion.specs.Steps.{World, gives, expect}
use Rattle.expansion.specs.Bindings.{Contents, contents_of}
use Rattle.form_expander.specs.Extending.{Extends}
use Rattle.file_expansion.specs.Tops.{pending, own_scope}
use Rattle.macroexpand.proofs.Steps.{expected_some}
use Rattle.macroexpand.proofs.Within.{further, at_form_extends, with_policy_extends}
use Rattle.file_expansion.specs.Laws.{program_at, IsThere, AreSymbols, symbols_here, IsSoundTyped, IsSoundDeclared, IsSoundTarget, IsSoundVariable, IsSoundCheck, IsTopScope, IsSoundWorld, BodiesAreSound, ReadSoundly}

-- ---- values

reaches_on : (p : Program) (v u x : Val) → Reaches p v u → Reaches p u x → Reaches p v x
reaches_on p v u _ r itself = r
reaches_on p v u _ r (within y x s c) = within y x (reaches_on p v u y r s) c

pub inner_there : (w : World) (v u : Val) → IsThere w v → Reaches (program_at w) v u → IsThere w u
inner_there w v u h r = record {
  datum = λ x s. h.datum x (reaches_on (program_at w) v u x r s);
  places = λ x s. h.places x (reaches_on (program_at w) v u x r s);
}

-- the values of a cons, by what the heap holds
cons_values : (x : Option Object) (c : Val × Val) → cons_parts x ≡ Some c → values_within (option_map object_of x) ≡ c.0 ∷ c.1 ∷ []
cons_values None c e = cc
cons_values (Some (Cons a d place)) c e = cc
cons_values (Some (Vector vs)) c e = cc
cons_values (Some (Str cs)) c e = cc
cons_values (Some (Fun k cells)) c e = cc
cons_values (Some (Cell v)) c e = cc

cons_within : (w : World) (v : Val) (c : Val × Val) → cons_at w.heap v ≡ Some c → values_in (program_at w) v ≡ c.0 ∷ c.1 ∷ []
cons_within w (Int z) c e = cc
cons_within w (Char k) c e = cc
cons_within w (Sym s) c e = cc
cons_within w (Ref o) c e =
    ap values_within (slice_get-map object_of w.heap (index_of o)) ∙ cons_values (slice_get w.heap (index_of o)) c e

first_of_two : (a b : Val) → Contains (a ∷ b ∷ []) a
first_of_two a b = (0, omega arith, refl)

second_of_two : (a b : Val) → Contains (a ∷ b ∷ []) b
second_of_two a b = (1, omega arith, refl)

pub car_there : (w : World) (v : Val) (c : Val × Val) → cons_at w.heap v ≡ Some c → IsThere w v → IsThere w c.0
car_there w v c e h =
    inner_there w v c.0 h (within v c.0 itself (subst (λ (l : List Val). Contains l c.0) (sym (cons_within w v c e)) (first_of_two c.0 c.1)))

pub cdr_there : (w : World) (v : Val) (c : Val × Val) → cons_at w.heap v ≡ Some c → IsThere w v → IsThere w c.1
cdr_there w v c e h =
    inner_there w v c.1 h (within v c.1 itself (subst (λ (l : List Val). Contains l c.1) (sym (cons_within w v c e)) (second_of_two c.0 c.1)))

the_list : {xs vs : List Val} → ◌≡◌ {A = Option (List Val)} (Some xs) (Some vs) → xs ≡ vs
the_list e = cc

-- what is known of the elements of what is there, in the rest of a list
abbrev Known : ℕ → World → Type 0
Known n w = (v : Val) (vs : List Val) → elements_within n w.heap v ≡ Some vs → IsThere w v → All (IsThere w) vs

at_end : (b : Bool) (w : World) (vs : List Val) → (if b then Some [] else None) ≡ Some vs → All (IsThere w) vs
at_end true w vs e = subst (All (IsThere w)) (the_list e) (All-nil (IsThere w))
at_end false w vs e = cc

at_rest : (n : ℕ) (w : World) → Known n w → (r : Option (List Val)) (p : Val × Val) (v : Val) (vs : List Val) → cons_at w.heap v ≡ Some p →
    elements_within n w.heap p.1 ≡ r → option_map (λ xs. p.0 ∷ xs) r ≡ Some vs → IsThere w v → All (IsThere w) vs
at_rest n w known None p v vs is f e h = cc
at_rest n w known (Some xs) p v vs is f e h =
    subst (All (IsThere w)) (the_list e) (All-cons (IsThere w) p.0 xs (car_there w v p is h) (known p.1 xs f (cdr_there w v p is h)))

at_cons : (n : ℕ) (w : World) → Known n w → (c : Option (Val × Val)) (v : Val) (vs : List Val) → cons_at w.heap v ≡ c →
    option_and_then (λ p. option_map (λ xs. p.0 ∷ xs) (elements_within n w.heap p.1)) c ≡ Some vs → IsThere w v → All (IsThere w) vs
at_cons n w known None v vs is e h = cc
at_cons n w known (Some p) v vs is e h = at_rest n w known (elements_within n w.heap p.1) p v vs is refl e h

at_more : (n : ℕ) (w : World) → Known n w → (b : Bool) (v : Val) (vs : List Val) →
    (if b then Some [] else option_and_then (λ p. option_map (λ xs. p.0 ∷ xs) (elements_within n w.heap p.1)) (cons_at w.heap v)) ≡ Some vs →
    IsThere w v → All (IsThere w) vs
at_more n w known true v vs e h = subst (All (IsThere w)) (the_list e) (All-nil (IsThere w))
at_more n w known false v vs e h = at_cons n w known (cons_at w.heap v) v vs refl e h

elements_there : (n : ℕ) (w : World) → Known n w
elements_there zero w = λ v vs e h. at_end (is_nil v) w vs e
elements_there (suc n) w = λ v vs e h. at_more n w (elements_there n w) (is_nil v) v vs e h

pub parts_there : (w : World) (v : Val) (vs : List Val) → elements w.heap v ≡ Some vs → IsThere w v → All (IsThere w) vs
unfolding elements
parts_there w v vs e h = elements_there (length w.heap) w v vs e h

-- ---- scopes

place_by : (b : Bool) (w : World) (sc : Scope) (found : Option Place) → AreSymbols w (place_symbols sc.place) → AreSymbols w (symbols_here found) →
    AreSymbols w (place_symbols (if b then sc.place else value_or found sc.place))
place_by true w sc found h k = h
place_by false w sc None h k = h
place_by false w sc (Some p) h k = k

pub form_scope : (w : World) (v : Val) (sc : Scope) → IsThere w v → IsTopScope w sc → IsTopScope w (at_form w.heap v sc)
unfolding at_form
form_scope w v sc there h = record {
  place = place_by sc.is_fixed w sc (place_at w.heap v) h.place (there.places v itself);
  variables = h.variables;
  checks = h.checks;
  functions = h.functions;
  blocks = h.blocks;
  tags = h.tags;
}

pub policy_scope : (w : World) (policy : Policy) (sc : Scope) → IsTopScope w sc → IsTopScope w (with_policy policy sc)
policy_scope w policy sc h = record {
  place = h.place;
  variables = h.variables;
  checks = h.checks;
  functions = h.functions;
  blocks = h.blocks;
  tags = h.tags;
}

special_scope : (w : World) (sc : Scope) (s : SymId) → number_of s < length w.table.symbols → IsTopScope w sc → IsTopScope w (with_special sc s)
special_scope w sc s l h = record {
  place = h.place;
  variables = All-push (IsSoundVariable w) sc.variables (s, Global s) h.variables (l, l);
  checks = All-append (IsSoundCheck w) sc.checks [] h.checks (All-nil (IsSoundCheck w));
  functions = h.functions;
  blocks = h.blocks;
  tags = h.tags;
}

specials_scope : (w : World) (sc : Scope) (ss : List SymId) → AreSymbols w ss → IsTopScope w sc → IsTopScope w (fold with_special sc ss)
specials_scope w sc [] k h = h
specials_scope w sc (s ∷ ss) k h =
    let P : SymId → Type 0 = λ t. number_of t < length w.table.symbols in
    specials_scope w (with_special sc s) ss (All-tail P s ss k) (special_scope w sc s (All-head P s ss k) h)

abbrev IsSoundFound : World → Option (SymId × Target) → Type 0
IsSoundFound w None = Unit {0}
IsSoundFound w (Some p) = IsSoundVariable w p

later_by : (b : Bool) (w : World) (found : Option (SymId × Target)) (p : SymId × Target) → IsSoundFound w found → IsSoundVariable w p → IsSoundFound w (if b then Some p else found)
later_by true w found p h k = k
later_by false w found p h k = h

last_sound : (w : World) (fits : SymId × Target → Bool) (found : Option (SymId × Target)) (ps : List (SymId × Target)) → IsSoundFound w found → All (IsSoundVariable w) ps → IsSoundFound w (fold (later fits) found ps)
last_sound w fits found [] h k = h
last_sound w fits found (p ∷ ps) h k =
    last_sound w fits (later fits found p) ps (later_by (fits p) w found p h (All-head (IsSoundVariable w) p ps k)) (All-tail (IsSoundVariable w) p ps k)

meant_sound : (w : World) (s : SymId) (found : Option (SymId × Target)) → number_of s < length w.table.symbols → IsSoundFound w found → IsSoundTarget w (value_or (second found) (Global s))
meant_sound w s None l h = l
meant_sound w s (Some p) l h = h.1

variable_sound : (w : World) (sc : Scope) (s : SymId) → number_of s < length w.table.symbols → IsTopScope w sc → IsSoundTarget w (variable_at sc s)
unfolding variable_at
variable_sound w sc s l h =
    meant_sound w s (last_fit (named s) sc.variables) l (last_sound w (named s) None sc.variables tt h.variables)

type_scope : (w : World) (sc : Scope) (d : Typed) → IsSoundTyped w d → IsTopScope w sc → IsTopScope w (with_type sc d)
type_scope w sc d k h = record {
  place = h.place;
  variables = h.variables;
  checks = All-push (IsSoundCheck w) sc.checks (of_uses (variable_at sc d.variable) d.spec) h.checks (variable_sound w sc d.variable k.0 h, k.1);
  functions = h.functions;
  blocks = h.blocks;
  tags = h.tags;
}

types_scope : (w : World) (sc : Scope) (ds : List Typed) → All (IsSoundTyped w) ds → IsTopScope w sc → IsTopScope w (fold with_type sc ds)
types_scope w sc [] k h = h
types_scope w sc (d ∷ ds) k h =
    types_scope w (with_type sc d) ds (All-tail (IsSoundTyped w) d ds k) (type_scope w sc d (All-head (IsSoundTyped w) d ds k) h)

pub declared_scope : (w : World) (d : Declared) (sc : Scope) → IsSoundDeclared w d → IsTopScope w sc → IsTopScope w (declared_in d sc)
unfolding declared_in
declared_scope w d sc k h =
    policy_scope w d.policy (fold with_type (fold with_special sc d.specials) d.types)
    (types_scope w (fold with_special sc d.specials) d.types k.types (specials_scope w sc d.specials k.specials h))

-- ---- what PROGN and LOCALLY hold

pub progn_sound : (w : World) (sc : Scope) (v : Val) (c : Val × Val) (vs : List Val) → cons_at w.heap v ≡ Some c → IsThere w v →
    expect sc (elements w.heap c.1) w ≡ gives vs w → All (IsThere w) vs
progn_sound w sc v c vs is there e = parts_there w c.1 vs (expected_some sc (elements w.heap c.1) w w vs e) (cdr_there w v c is there)

pub locally_sound : BodiesAreSound → (w : World) (sc : Scope) (v : Val) (c : Val × Val) (vs : List Val) (x : Contents) → IsSoundWorld w →
    cons_at w.heap v ≡ Some c → IsThere w v → expect sc (elements w.heap c.1) w ≡ gives vs w → contents_of sc vs w ≡ gives x w →
    IsSoundDeclared w x.declared × All (IsThere w) x.forms
locally_sound bodies w sc v c vs x sound is there e f =
    let r : ReadSoundly w w x = bodies sc vs w w x f sound (progn_sound w sc v c vs is there e) in
    (r.declared, r.forms)

-- ---- the scope of a form at the top

pub own_top : (w : World) (sc : Scope) (own : Bool) (chain : ℕ) (v : Val) → IsThere w v → IsTopScope w sc → IsTopScope w (own_scope (pending sc own chain v) w)
own_top w sc true chain v there h = form_scope w v sc there h
own_top w sc false chain v there h = form_scope w v (with_policy w.policy sc) there (policy_scope w w.policy sc h)

pub own_extends : (w : World) (sc : Scope) (own : Bool) (chain : ℕ) (v : Val) → Extends sc (own_scope (pending sc own chain v) w)
own_extends w sc true chain v = at_form_extends w.heap v sc
own_extends w sc false chain v =
    further sc (with_policy w.policy sc) (at_form w.heap v (with_policy w.policy sc)) (with_policy_extends w.policy sc) (at_form_extends w.heap v (with_policy w.policy sc))
