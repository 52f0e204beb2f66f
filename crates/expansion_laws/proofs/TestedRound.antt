-- Checks of a value give THE nodes round it.
use Rattle.std.specs.Prelude.{ℕ, zero, suc, List, [], ◌∷◌, Contains}
use Rattle.std.proofs.Common.{subst}
use Rattle.std.proofs.lemmas.List.Elements.{Contains-append_left, Contains-append_right, Contains-push}
use Rattle.lisp_base.specs.declared.values.Val.{Val}
use Rattle.lisp_base.specs.Spec.{Spec}
use Rattle.core_form.specs.Tree.{Core}
use Rattle.core_form.specs.Lawful.{types_round}
use Rattle.expansion.specs.declared.kind.ExpandKind.TheVariants.{TooNested}
use Rattle.expansion.specs.Scopes.{Scope}
use Rattle.expansion.specs.Steps.{World, inside}
use Rattle.expansion.specs.Sketches.{Sketch, form, one, Checking, unary_node, checked as tested_for}
use Rattle.expansion.specs.Expanding.{expand, make}
use Rattle.expansion_laws.proofs.Giving.{weaker, anything, Has, then_has, skip_has, pure_has, refuse_has}
use Rattle.expansion_laws.proofs.TestedOnce.{nothing_in, in_either, first_or_later}
use Rattle.expansion_laws.proofs.TestedNodes.{Rounds}

first_in : {A : Type 0} (x : A) (xs : List A) → Contains (x ∷ xs) x
first_in x xs = Contains-append_left (x ∷ []) xs x (Contains-push [] x)

-- each tree of a sketch has THE nodes for these types round it
abbrev AlwaysRound : List Spec → Sketch → Type 0
AlwaysRound ts x = (fuel levels : ℕ) (sc : Scope) → Has (Rounds ts) (make fuel levels sc x)

one_more : (t : Spec) (ts : List Spec) (x : Sketch) → AlwaysRound ts x → AlwaysRound (t ∷ ts) (one (Checking t) x)
unfolding make expand
one_more t ts x h zero levels sc = refuse_has (Rounds (t ∷ ts)) TooNested sc
one_more t ts x h (suc fuel) levels sc =
    then_has (Rounds ts) (Rounds (t ∷ ts)) _ _ (skip_has (Rounds ts) _ _ (h fuel (inside levels) sc)) (λ e r.
    pure_has (Rounds (t ∷ ts)) (unary_node (Checking t) sc.place e) (λ s k.
    in_either (first_or_later t ts s k) (λ same. subst (λ (u : Spec). Contains (t ∷ types_round e) u) same (first_in t (types_round e))) (λ l.
    Contains-append_right (t ∷ []) (types_round e) s (r s l))))

more_round : (ts us : List Spec) (x : Sketch) → AlwaysRound us x → (fuel levels : ℕ) (sc : Scope) → Has (λ (e : Core). Rounds us e × Rounds ts e) (make fuel levels sc (tested_for ts x))
more_round [] us x h fuel levels sc w =
    weaker (λ (e : Core) (u : World). Rounds us e) (λ (e : Core) (u : World). Rounds us e × Rounds [] e) (make fuel levels sc x w) (h fuel levels sc w) (λ e u r. (r, λ t k. absurd (nothing_in t k)))
more_round (t ∷ ts) us x h fuel levels sc w =
    weaker (λ (e : Core) (u : World). Rounds (t ∷ us) e × Rounds ts e) (λ (e : Core) (u : World). Rounds us e × Rounds (t ∷ ts) e) (make fuel levels sc (tested_for ts (one (Checking t) x)) w)
    (more_round ts (t ∷ us) (one (Checking t) x) (one_more t us x h) fuel levels sc w) (λ e u r. (
      λ s k. r.0 s (Contains-append_right (t ∷ []) us s k),
      λ s k. in_either (first_or_later t ts s k) (λ same. r.0 s (subst (λ (v : Spec). Contains (t ∷ us) v) same (first_in t us))) (λ l. r.1 s l),
    ))

pub checked_round : (fuel levels : ℕ) (sc : Scope) (ts : List Spec) (v : Val) → Has (Rounds ts) (make fuel levels sc (tested_for ts (form v)))
checked_round fuel levels sc ts v w =
    weaker (λ (e : Core) (u : World). Rounds [] e × Rounds ts e) (λ (e : Core) (u : World). Rounds ts e) (make fuel levels sc (tested_for ts (form v)) w)
    (more_round ts [] (form v) none_round fuel levels sc w) (λ e u r. r.1)
  where
    none_round : AlwaysRound [] (form v)
    none_round fuel levels sc w =
        weaker (λ (e : Core) (u : World). Unit {0}) (λ (e : Core) (u : World). Rounds [] e) (make fuel levels sc (form v) w) (anything (make fuel levels sc (form v) w)) (λ e u r t k. absurd (nothing_in t k))
