-- The first node that isn't built, as the code finds it.
use Rattle.std.proofs.Common.{refl, sym, ap, ◌∙◌, arith}
use Rattle.std.proofs.lemmas.Bool.Decides.{nat_tests}
use Rattle.std.specs.Prelude.{◌≡◌, ℕ, suc, Bool, true, false, ◌&&◌, ◌==◌, ◌<◌, List, [], ◌∷◌, length, Option}
use Rattle.std.specs.declared.vec.Vec.{Vec}
use Rattle.std.specs.declared.alloc.Global.{Global}
use Rattle.lisp_base.specs.declared.primitives.Primitive.{Primitive as Operation}
use Rattle.lisp_base.specs.declared.values.Place.{Place}
use Rattle.core_form.specs.declared.tree.Core.{Core as Core'}
use Rattle.core_form.specs.declared.tree.Form.TheVariants as variant
use Rattle.core_form.specs.Reading.{form_of, core_of, cores_list}
use Rattle.core_form.specs.Laws.{ReadsProgn, ReadsPrimitive}
use Rattle.compiler.specs.Code.{is_nil_form, are_nil_forms, is_one}
use Rattle.compiler.specs.BuiltNodes.{is_built_call, unless_built, first_in, first_among}

-- ---- arguments

more_than_one : (n : ℕ) → false ≡ (suc (suc n) == 1)
more_than_one n = grind (arith, nat_tests)

pub one_part : (cs : List Core') → is_one (cores_list cs) ≡ (length cs == 1)
one_part [] = refl
one_part (c ∷ []) = refl
one_part (c ∷ d ∷ cs) = more_than_one (length cs)

and_false : (a : Bool) → false ≡ (a && false)
and_false true = refl
and_false false = refl

and_none : (a b : Bool) → false ≡ b → false ≡ (a && b)
and_none a b h = and_false a ∙ ap (λ (x : Bool). a && x) h

pub too_few_nils : (cs : List Core') → length cs < 3 → false ≡ are_nil_forms 3 (cores_list cs)
too_few_nils [] h = refl
too_few_nils (c ∷ []) h = and_false (is_nil_form (core_of c))
too_few_nils (c ∷ d ∷ []) h = and_none (is_nil_form (core_of c)) (is_nil_form (core_of d) && false) (and_false (is_nil_form (core_of d)))
too_few_nils (c ∷ d ∷ e ∷ cs) h = absurd (omega (arith, h))

pub too_many_nils : (cs : List Core') → 3 < length cs → false ≡ are_nil_forms 3 (cores_list cs)
too_many_nils [] h = absurd (omega (arith, h))
too_many_nils (c ∷ []) h = absurd (omega (arith, h))
too_many_nils (c ∷ d ∷ []) h = absurd (omega (arith, h))
too_many_nils (c ∷ d ∷ e ∷ []) h = absurd (omega (arith, h))
too_many_nils (c ∷ d ∷ e ∷ f ∷ cs) h =
    and_none (is_nil_form (core_of c)) (is_nil_form (core_of d) && (is_nil_form (core_of e) && false))
    (and_none (is_nil_form (core_of d)) (is_nil_form (core_of e) && false) (and_false (is_nil_form (core_of e))))

-- ---- nodes with lists of parts

pub progn_first : ReadsProgn → (c : Core') (v : Vec Core' Global) (parts : List Core') → c.form ≡ variant.Progn v → parts ≡ v.items → first_among (cores_list parts) ≡ first_in (core_of c)
progn_first reads c v parts h e = ap (λ (xs : List Core'). first_among (cores_list xs)) e ∙ sym (ap first_in (ap (form_of c.place) h ∙ reads c.place v))

pub call_first : ReadsPrimitive → (c : Core') (o : Operation) (v : Vec Core' Global) (parts : List Core') → c.form ≡ variant.Primitive o v → parts ≡ v.items →
    unless_built (is_built_call c.place o (cores_list parts)) c.place (first_among (cores_list parts)) ≡ first_in (core_of c)
call_first reads c o v parts h e =
    ap (λ (xs : List Core'). unless_built (is_built_call c.place o (cores_list xs)) c.place (first_among (cores_list xs))) e ∙ sym (ap first_in (ap (form_of c.place) h ∙ reads c.place o v))

pub call_found : ReadsPrimitive → (c : Core') (o : Operation) (v : Vec Core' Global) (parts others : List Core') (built : Bool) (inside found : Option Place) →
    c.form ≡ variant.Primitive o v → parts ≡ v.items → others ≡ v.items → built ≡ is_built_call c.place o (cores_list parts) →
    inside ≡ first_among (cores_list others) → found ≡ unless_built built c.place inside → found ≡ first_in (core_of c)
call_found reads c o v parts others built inside found h e f is within found_is =
    found_is ∙ (ap (λ (b : Bool). unless_built b c.place inside) (is ∙ ap (λ (xs : List Core'). is_built_call c.place o (cores_list xs)) (e ∙ sym f)) ∙
    (ap (λ (x : Option Place). unless_built (is_built_call c.place o (cores_list others)) c.place x) within ∙ call_first reads c o v others h f))
