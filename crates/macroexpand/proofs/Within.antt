-- Scopes that continue others, and are cut back to them.
use Rattle.std.proofs.Common.{◌≡◌, refl, ap, ◌∙◌, List, [], ◌∷◌, ◌++◌}
use Rattle.std.specs.Prelude.{fold}
use Rattle.lisp_base.specs.declared.values.SymId.{SymId}
use Rattle.lisp_base.specs.declared.values.Val.{Val}
use Rattle.lisp_base.specs.Tables.{Object}
use Rattle.declarations.specs.declared.policy.Policy.{Policy}
use Rattle.declarations.specs.Declarations.{Typed, Declared}
use Rattle.expansion.specs.Scopes.{Scope, at_form, with_variable, with_special, with_type, with_policy, declared_in}
use Rattle.form_expander.specs.Extending.{Continues, Extends}
use Rattle.form_expander.specs.declared.entering.Mark.{Mark}
use Rattle.form_expander.specs.Marks.{mark_of, cut}

-- ---- lists

pub same_list : {A : Type 0} (xs : List A) → Continues xs xs
same_list [] = refl
same_list (x ∷ xs) = ap (λ ys. x ∷ ys) (same_list xs)

pub more_list : {A : Type 0} (xs ys : List A) → Continues xs (xs ++ ys)
more_list [] ys = refl
more_list (x ∷ xs) ys = ap (λ zs. x ∷ zs) (more_list xs ys)

pub on_list : {A : Type 0} (xs ys zs : List A) → Continues xs ys → Continues ys zs → Continues xs zs
on_list [] ys zs h k = refl
on_list (x ∷ xs) [] zs h k = absurd (cc)
on_list (x ∷ xs) (y ∷ ys) [] h k = absurd (cc)
on_list {A = A} (x ∷ xs) (y ∷ ys) (z ∷ zs) h k = along (heads k ∙ heads h) (on_list xs ys zs (tails h) (tails k))
  where
    heads : {a b : A} {us vs : List A} → ◌≡◌ {A = List A} (a ∷ us) (b ∷ vs) → a ≡ b
    heads e = cc

    tails : {a b : A} {us vs : List A} → ◌≡◌ {A = List A} (a ∷ us) (b ∷ vs) → us ≡ vs
    tails e = cc

    along : {us vs : List A} {a b : A} → b ≡ a → us ≡ vs → ◌≡◌ {A = List A} (b ∷ us) (a ∷ vs)
    along e h = cc

-- ---- scopes

pub stays : (sc : Scope) → Extends sc sc
stays sc = record {
  fixed = refl;
  variables = same_list sc.variables;
  checks = same_list sc.checks;
  functions = same_list sc.functions;
  blocks = same_list sc.blocks;
  tags = same_list sc.tags;
}

pub further : (a b c : Scope) → Extends a b → Extends b c → Extends a c
further a b c h k = record {
  fixed = k.fixed ∙ h.fixed;
  variables = on_list a.variables b.variables c.variables h.variables k.variables;
  checks = on_list a.checks b.checks c.checks h.checks k.checks;
  functions = on_list a.functions b.functions c.functions h.functions k.functions;
  blocks = on_list a.blocks b.blocks c.blocks h.blocks k.blocks;
  tags = on_list a.tags b.tags c.tags h.tags k.tags;
}

-- what continues a scope is cut back to it
pub cut_back : (old new : Scope) → Extends old new → cut (mark_of old) new ≡ old
cut_back old new h = λ i. record {
  place = old.place;
  is_fixed = h.fixed i;
  variables = h.variables i;
  checks = h.checks i;
  functions = h.functions i;
  blocks = h.blocks i;
  tags = h.tags i;
  policy = old.policy;
}

-- ---- what is added

pub with_variable_extends : (s : _) (t : _) (checks : _) (sc : Scope) → Extends sc (with_variable s t checks sc)
with_variable_extends s t checks sc = record {
  fixed = refl;
  variables = more_list sc.variables ((s, t) ∷ []);
  checks = more_list sc.checks checks;
  functions = same_list sc.functions;
  blocks = same_list sc.blocks;
  tags = same_list sc.tags;
}

with_type_extends : (sc : Scope) (d : Typed) → Extends sc (with_type sc d)
with_type_extends sc d = record {
  fixed = refl;
  variables = same_list sc.variables;
  checks = more_list sc.checks _;
  functions = same_list sc.functions;
  blocks = same_list sc.blocks;
  tags = same_list sc.tags;
}

pub at_form_extends : (heap : List Object) (v : Val) (sc : Scope) → Extends sc (at_form heap v sc)
unfolding at_form
at_form_extends heap v sc = record {
  fixed = refl;
  variables = same_list sc.variables;
  checks = same_list sc.checks;
  functions = same_list sc.functions;
  blocks = same_list sc.blocks;
  tags = same_list sc.tags;
}

specials_extend : (sc : Scope) (ss : List SymId) → Extends sc (fold with_special sc ss)
specials_extend sc [] = stays sc
specials_extend sc (s ∷ ss) = further _ _ _ (with_variable_extends s _ [] sc) (specials_extend (with_special sc s) ss)

types_extend : (sc : Scope) (ds : List Typed) → Extends sc (fold with_type sc ds)
types_extend sc [] = stays sc
types_extend sc (d ∷ ds) = further _ _ _ (with_type_extends sc d) (types_extend (with_type sc d) ds)

pub with_policy_extends : (policy : Policy) (sc : Scope) → Extends sc (with_policy policy sc)
with_policy_extends policy sc = record {
  fixed = refl;
  variables = same_list sc.variables;
  checks = same_list sc.checks;
  functions = same_list sc.functions;
  blocks = same_list sc.blocks;
  tags = same_list sc.tags;
}

pub declared_extends : (d : Declared) (sc : Scope) → Extends sc (declared_in d sc)
unfolding declared_in
declared_extends d sc =
    further _ _ _ (specials_extend sc d.specials)
    (further _ _ _ (types_extend (fold with_special sc d.specials) d.types) (with_policy_extends d.policy (fold with_type (fold with_special sc d.specials) d.types)))

-- a scope that was entered, within which a part leaves all as it was, is left
pub left : (old within last after : Scope) (m : Mark) → m ≡ mark_of old → Extends old within → last ≡ within → after ≡ cut m last → after ≡ old
left old within last after m marked h same cuts =
    cuts ∙ (ap (λ (k : Mark). cut k last) marked ∙ (ap (λ (sc : Scope). cut (mark_of old) sc) same ∙ cut_back old within h))
