-- Operands, which run from left to right, and what follows with their first values.
--
-- operands_do: for forms es of which each does what it does (AllDo) and which stand as operands from p to r (OperandsStandAt),
-- a run from p comes to what `args` of the evaluator and then `next` give, if from r on it comes to what `next` gives. There the
-- continuations ks hold the operands' first values (first_values), all of ranks below `more` hold what they held, and what is
-- left of the cost (left_after) is still to be charged. operands_from: the ranks of ks are from `more` on.
use Rattle.std.proofs.Common.{◌≡◌, ℕ, suc, ◌≤◌, ◌<◌, refl, sym, ap, subst, ◌∙◌, arith, Bool, false, List, [], ◌∷◌, Option, Some}
use Rattle.std.specs.Prelude.{slice_get}
use Rattle.lisp_base.specs.declared.values.Place.{Place}
use Rattle.lisp_base.specs.Spec.{Spec}
use Rattle.core_form.specs.Tree.{Core, Cores, no_core, core}
use Rattle.core_form.specs.Facts.{Facts}
use Rattle.core_form.specs.State.{Symbol, State, first_of_values}
use Rattle.core_form.specs.Force.{Vals, Force}
use Rattle.core_form.specs.Run.{Outcome, Gives, Leaves, Fails, NotYet, Run, and_then, first, ◌>>=◌, pure}
use Rattle.core_form.specs.Eval.{Call, eval, args}
use Rattle.icr_graph.specs.Plain.{FlowGraph}
use Rattle.graph_meaning.specs.Machine.{Delivered, Activation, Waiting, Machine, going}
use Rattle.graph_meaning.specs.Extents.{spent}
use Rattle.graph_meaning.specs.Running.{first_values}
use Rattle.form_graphs.specs.Spots.{Spot, Passes, none}
use Rattle.form_graphs.specs.Standing.{StandsAt, OperandsStandAt, AllBelow, left_after, other_types}
use Rattle.form_graphs.specs.Landing.{at_spot, having, Reaches, Keeps, Comes}
use Rattle.form_graphs.proofs.Coming.{From, comes_after, comes_having, keeps_all, keeps_fewer, is_other, passes_none, spent_none}
use Rattle.form_graphs.specs.Calling.{around}
use Rattle.form_graphs.proofs.Leaves.{Does}

module _ (rank : ℕ → ℕ) where
  -- what continuations of lower ranks held they hold
  abbrev pub KeepsBelow : (low : ℕ) → Delivered → Delivered → Type 0
  KeepsBelow low d d' = (i : ℕ) → rank i < low → d' i ≡ d i

  -- then these keep, whatever is delivered to
  pub keeps_below : (low : ℕ) (to : Option ℕ) (d d' : Delivered) → KeepsBelow low d d' → Keeps rank low to d d'
  keeps_below low to d d' kept i less other = kept i less

  -- nothing changed
  pub below_same : (low : ℕ) (d : Delivered) → KeepsBelow low d d
  below_same low d i less = refl

  -- the continuation of a part and those of what follows
  pub below_then : (low k : ℕ) (d d' d'' : Delivered) → low ≤ rank k → Keeps rank low (Some k) d d' → KeepsBelow (suc (rank k)) d' d'' → KeepsBelow low d d''
  below_then low k d d' d'' more kept later i less = later i (omega (arith, less, more)) ∙ kept i less (is_other rank low i k less more)

-- the ranks of these are from a lower one on too
pub from_fewer : (rank : ℕ → ℕ) (low more : ℕ) (ks : List ℕ) → low ≤ more → From rank more ks → From rank low ks
from_fewer rank low more [] le from = tt
from_fewer rank low more (k ∷ ks) le (first, from) = (omega (arith, le, first), from_fewer rank low more ks le from)

-- of no cost nothing is left
no_cost_left : (es : Cores) → left_after es 0 ≡ 0
no_cost_left no_core = refl
no_cost_left (core e es) = refl

module _ (symbols : List Symbol) (graphs : List FlowGraph) (number : ℕ) (g : FlowGraph) (facts : Facts) (rank : ℕ → ℕ) (there : slice_get graphs number ≡ Some g) (call : Call) (limit : ℕ) where
  -- the first values of continuations of lower ranks are the same
  pub first_values_kept : (low : ℕ) (ks : List ℕ) (d d' : Delivered) → KeepsBelow rank low d d' → AllBelow g facts rank ks low → first_values d' ks ≡ first_values d ks
  first_values_kept low [] d d' kept below = refl
  first_values_kept low (k ∷ ks) d d' kept (less, below) = rw (kept k less, first_values_kept low ks d d' kept below) refl

  -- wherever a form stands in the graph it does what it does
  abbrev pub AlwaysDoes : Core → Type 0
  AlwaysDoes e =
      (t w : Bool) (n : ℕ) (l : Passes) (low : ℕ) (to : Option ℕ) (p q : Spot) → StandsAt g facts rank t w e n l low to p q → Does symbols graphs number g facts rank there call limit t w e n l low to p q

  abbrev pub AllDo : Cores → Type 0
  AllDo no_core = Unit {0}
  AllDo (core e es) = AlwaysDoes e × AllDo es

  -- the ranks of the operands' continuations
  pub operands_from : (es : Cores) (w : Bool) (pl : Place) (ts : List Spec) (rest : Option Spec) (n low : ℕ) (ks : List ℕ) (p q : Spot) → OperandsStandAt g facts rank w pl es ts rest n low ks p q → From rank low ks
  operands_from no_core w pl ts rest n low ks p q (empty, end) = subst (From rank low) (sym empty) tt
  operands_from (core e es) w pl ts rest n low [] p q stand = absurd stand
  operands_from (core e es) w pl ts rest n low (k ∷ ks) p q (r, more, asserted, stands, stand) =
      (more, from_fewer rank low (suc (rank k)) ks (omega (arith, more)) (operands_from es w pl (other_types ts) rest 0 (suc (rank k)) ks r q stand))

  -- A part whose values go to a continuation of its own, from a rank on, and then what follows with them.
  pub comes_from : (m : Machine) (low more j : ℕ) (r q : Spot) (to : Option ℕ) (l : Passes) (a : Activation) (ws : List Waiting) (o : Outcome Vals) (next : Vals → Run Vals) →
      low ≤ more → more ≤ rank j → Comes symbols graphs rank m more (Some j) r none a ws o →
      ((vs : Vals) (s : State) (d : Delivered) → Keeps rank more (Some j) a.delivered d → d j ≡ Some vs → Comes symbols graphs rank (going (having d (at_spot r a)) ws s) low to q l (having d a) ws (next vs s)) →
      Comes symbols graphs rank m low to q l a ws (and_then o next)
  comes_from m low more j r q to l a ws (Gives vs s) next le above (d, kept, holds, way) follows =
      comes_having symbols graphs rank m low low to q l a d ws (next vs s) (omega arith) (keeps_all rank low j to a.delivered d (omega (arith, le, above)) (keeps_fewer rank low more (Some j) a.delivered d le kept))
      (comes_after symbols graphs rank m (going (having d (at_spot r a)) ws s) low to q l (having d a) ws (next vs s) (subst (λ (t : State). Reaches symbols graphs m (going (having d (at_spot r a)) ws t)) (passes_none vs s) way) (follows vs s d kept holds))
  comes_from m low more j r q to l a ws (Leaves e s) next le above (d, p, f, kept, way) follows =
      (d, p, f, keeps_all rank low j to a.delivered d (omega (arith, le, above)) (keeps_fewer rank low more (Some j) a.delivered d le kept), way)
  comes_from m low more j r q to l a ws (Fails x p s) next le above came follows = came
  comes_from m low more j r q to l a ws (NotYet s) next le above came follows = came

  -- one first value more
  first_more : (k : ℕ) (ks : List ℕ) (d d' : Delivered) (vs us : Vals) → d' k ≡ d k → d k ≡ Some vs → first_values d' ks ≡ us → first_values d' (k ∷ ks) ≡ first_of_values vs ∷ us
  first_more k ks d d' vs us kept holds same = rw (kept, holds, same) refl

  -- one operand, the others and what follows
  one_operand : (o : Outcome Vals) (others : Run Vals) (next : Vals → Run Vals) →
      and_then o (λ vs u. and_then (others u) (λ us. next (first_of_values vs ∷ us))) ≡ and_then (and_then (and_then o (λ vs. pure (first_of_values vs))) (λ v. others >>= (λ us. pure (v ∷ us)))) next
  unfolding pure ◌>>=◌
  one_operand (Gives vs s) others next = given (others s)
    where
      given : (o : Outcome Vals) → and_then o (λ us. next (first_of_values vs ∷ us)) ≡ and_then (and_then o (λ us. pure (first_of_values vs ∷ us))) next
      given (Gives us t) = refl
      given (Leaves e t) = refl
      given (Fails x p t) = refl
      given (NotYet t) = refl
  one_operand (Leaves e s) others next = refl
  one_operand (Fails x p s) others next = refl
  one_operand (NotYet s) others next = refl

  -- operands from left to right, and then what follows with their first values
  pub operands_do : (es : Cores) (w : Bool) (pl : Place) (ts : List Spec) (rest : Option Spec) (n low more : ℕ) (ks : List ℕ) (p r q : Spot) (to : Option ℕ) (l : Passes) (f : Force) (a : Activation) (ws : List Waiting) (s : State) (next : Vals → Run Vals) →
      AllDo es → OperandsStandAt g facts rank w pl es ts rest n more ks p r → a.graph ≡ number → a.force ≡ f → low ≤ more →
      ((vs : Vals) (u : State) (d : Delivered) → KeepsBelow rank more a.delivered d → first_values d ks ≡ vs → Comes symbols graphs rank (going (at_spot r (having d a)) ws u) low to q l (having d a) ws (next vs (spent (left_after es n) u))) →
      Comes symbols graphs rank (going (at_spot p a) ws s) low to q l a ws (and_then (args call limit (around facts false w f) es (spent n s)) next)
  unfolding args first pure ◌>>=◌
  operands_do no_core w pl ts rest n low more ks p r q to l f a ws s next all (empty, end) at force le follows =
      subst (λ (k : Spot). Comes symbols graphs rank (going (at_spot k a) ws s) low to q l a ws (next [] (spent n s))) (sym end)
      (follows [] s a.delivered (below_same rank more a.delivered) (ap (first_values a.delivered) empty))
  operands_do (core e es) w pl ts rest n low more [] p r q to l f a ws s next all stand at force le follows = absurd stand
  operands_do (core e es) w pl ts rest n low more (k ∷ ks) p r q to l f a ws s next (does, all) (x, above, asserted, stands, stand) at force le follows =
      subst (Comes symbols graphs rank (going (at_spot p a) ws s) low to q l a ws) (one_operand (eval call limit (around facts false w f) e (spent n s)) (args call limit (around facts false w f) es) next)
      (comes_from (going (at_spot p a) ws s) low more k x q to l a ws (eval call limit (around facts false w f) e (spent n s)) (λ vs u. and_then (args call limit (around facts false w f) es u) (λ us. next (first_of_values vs ∷ us))) le above
      (does false w n none more (Some k) p x stands f a ws s at force)
      (λ vs u d kept holds.
      subst (λ (t : State). Comes symbols graphs rank (going (at_spot x (having d a)) ws u) low to q l (having d a) ws (and_then (args call limit (around facts false w f) es t) (λ us. next (first_of_values vs ∷ us)))) (spent_none u)
      (operands_do es w pl (other_types ts) rest 0 low (suc (rank k)) ks x r q to l f (having d a) ws u (λ us. next (first_of_values vs ∷ us)) all stand at force (omega (arith, le, above))
      (λ us t d' later same.
      subst (λ (c : ℕ). Comes symbols graphs rank (going (at_spot r (having d' a)) ws t) low to q l (having d' a) ws (next (first_of_values vs ∷ us) (spent c t))) (sym (no_cost_left es))
      (follows (first_of_values vs ∷ us) t d' (below_then rank more k a.delivered d d' above kept later) (first_more k ks d d' vs us (later k (omega arith)) holds same))))))
