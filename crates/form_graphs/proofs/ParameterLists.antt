-- All parameters of a function do in its graph what they do.
use Rattle.std.proofs.Common.{◌≡◌, ℕ, suc, ◌+◌, ◌≤◌, ◌<◌, refl, sym, ap, subst, ◌∙◌, arith, Bool, true, false, ◌&&◌, List, [], ◌∷◌, ◌++◌, length, Option, Some, None}
use Rattle.std.specs.Prelude.{slice_get, drop, nat_lt}
use Rattle.lisp_base.specs.declared.values.Val.{Val}
use Rattle.lisp_base.specs.declared.values.Place.{Place}
use Rattle.lisp_base.specs.Spec.{Spec}
use Rattle.core_form.specs.declared.tree.Variable.{Variable}
use Rattle.core_form.specs.declared.tree.Variable.TheVariants.{Lexical, Special}
use Rattle.core_form.specs.Tree.{Parameter}
use Rattle.core_form.specs.Facts.{Facts, if_given}
use Rattle.core_form.specs.State.{Symbol, State, first_of_values}
use Rattle.core_form.specs.Effect.{Ended, Gave, Left, Failed, and_then as and_then_effect, ◌>>=◌, pure}
use Rattle.core_form.specs.Force.{Vals, make_list, one}
use Rattle.core_form.specs.Primitives.{argument, truth_of}
use Rattle.core_form.specs.Step.{Around, all_lexical, is_lexical}
use Rattle.core_form.specs.Run.{Run, and_then, outcome, perform, ◌>>=◌ as ◌>>=ʳ◌}
use Rattle.core_form.specs.Eval.{with_parameter, with_required, with_supplied, with_rest}
use Rattle.icr_graph.specs.declared.nodes.Leaf.TheVariants as leaf
use Rattle.icr_graph.specs.Plain.{FlowGraph}
use Rattle.graph_meaning.specs.Machine.{Activation, Waiting, going}
use Rattle.graph_meaning.specs.Reading.{first_function}
use Rattle.graph_meaning.specs.Effects.{leaf_values}
use Rattle.form_graphs.specs.Spots.{Spot, next, Passes}
use Rattle.form_graphs.specs.Standing.{UnboundAt}
use Rattle.form_graphs.specs.Functions.{ParameterStandsAt, RequiredStandAt, SuppliedStandsAt, RestStandsAt, UnboundAllAt}
use Rattle.form_graphs.specs.Landing.{at_spot, having, Comes}
use Rattle.form_graphs.specs.Calling.{around}
use Rattle.form_graphs.proofs.Bindings.{tail_in}
use Rattle.form_graphs.proofs.Parameters.{argument_there, ref_comes, value_comes, parameter_comes}

no_lies : {A : Type 0} → false ≡ true → A
no_lies lie = absurd (subst Untrue lie tt)
  where
    Untrue : Bool → Type 0
    Untrue true = ⊥
    Untrue false = Unit {0}

and_first : (a b : Bool) → (a && b) ≡ true → b ≡ true
and_first true b both = both
and_first false b both = no_lies both

module _ (symbols : List Symbol) (graphs : List FlowGraph) (number : ℕ) (g : FlowGraph) (facts : Facts) (rank : ℕ → ℕ) (there : slice_get graphs number ≡ Some g) where
  abbrev tail_of : Variable → Bool → Bool
  tail_of x t = tail_in symbols graphs number g facts rank there x t

  -- all of these are lexical if so it is said
  abbrev pub Sure : (all : Bool) → List Parameter → Type 0
  Sure all xs = all ≡ true → all_lexical xs ≡ true

  -- in tail position or not, a variable leaves it so: a special one says that not all are lexical
  tail_stays : (v : Variable) (types : List Spec) (rest all : Bool) → (all ≡ true → (is_lexical (record { variable = v; types = types }) && rest) ≡ true) → tail_of v all ≡ all
  tail_stays (Lexical x n) types rest all sure = refl
  tail_stays (Special s) types rest true sure = no_lies (sure refl)
  tail_stays (Special s) types rest false sure = refl

  pub sure_rest : (x : Parameter) (xs : List Parameter) (all : Bool) → Sure all (x ∷ xs) → Sure all xs
  sure_rest x xs all sure is = and_first (is_lexical x) (all_lexical xs) (sure is)

  -- what a run comes to from behind some parameters, whatever else is bound there
  abbrev pub Follows : (all : Bool) (args : Vals) (x y : Spot) (to : Option ℕ) (l : Passes) (body : Around → Run Vals) → Type 0
  Follows all args x y to l body =
      (b : Activation) (ws : List Waiting) (u : State) → b.graph ≡ number → b.arguments ≡ args → Comes symbols graphs rank (going (at_spot x b) ws u) 0 to y l b ws (body (around facts all false b.force) u)

  -- one parameter
  pub one_comes : (x : Parameter) (xs : List Parameter) (pl : Place) (k : ℕ) (p r y z : Spot) (to : Option ℕ) (l : Passes) (all : Bool) (args us : Vals) (body : Around → Run Vals) (a : Activation) (ws : List Waiting) (s : State) → a.graph ≡ number → a.arguments ≡ args →
      ParameterStandsAt g facts rank pl x k p r → UnboundAt g facts rank pl x.variable y z → Sure all (x ∷ xs) → a.delivered k ≡ Some us → Follows all args r y to l body →
      Comes symbols graphs rank (going (at_spot p a) ws s) 0 to z l a ws (with_parameter (around facts all false a.force) pl x (first_of_values us) body s)
  one_comes x xs pl k p r y z to l all args us body a ws s at given stands unbound sure holds follows =
      parameter_comes symbols graphs number g facts rank there x pl k p r y z to l all us body a ws s at stands unbound holds
      (λ b ws' u at' same. subst (λ (t : Bool). Comes symbols graphs rank (going (at_spot r b) ws' u) 0 to y l b ws' (body (around facts t false b.force) u)) (sym (tail_stays x.variable x.types (all_lexical xs) all sure)) (follows b ws' u at' (same ∙ given)))

  -- what the leaves of parameters give
  pub gives_argument : (i : ℕ) (pl : Place) (p : Spot) (args : Vals) (a : Activation) (s : State) → a.arguments ≡ args → leaf_values g (first_function graphs number) (at_spot p a) pl (leaf.Argument i) s ≡ Gave (argument i args ∷ []) s
  unfolding leaf_values one pure
  gives_argument i pl p args a s given = ap (λ (vs : Vals). Gave (argument i vs ∷ []) s) given

  pub tells : (i : ℕ) (has : Bool) (pl : Place) (p : Spot) (args : Vals) (a : Activation) (s : State) → a.arguments ≡ args → nat_lt i (length args) ≡ has → leaf_values g (first_function graphs number) (at_spot p a) pl (leaf.Supplied i) s ≡ Gave (truth_of has ∷ []) s
  unfolding leaf_values one pure
  tells i has pl p args a s given is = ap (λ (vs : Vals). Gave (truth_of (nat_lt i (length vs)) ∷ []) s) given ∙ ap (λ (b : Bool). Gave (truth_of b ∷ []) s) is

  below : (i n m k : ℕ) → n ≡ i + suc m → n ≤ k → i < k
  below i n m k count enough = omega (arith, count, enough)

  -- ---- those that are required

  pub required_comes : (xs others : List Parameter) (i n : ℕ) (pl : Place) (p x y z : Spot) (to : Option ℕ) (l : Passes) (all : Bool) (args : Vals) (body : Around → Vals → Run Vals) (a : Activation) (ws : List Waiting) (s : State) → a.graph ≡ number → a.arguments ≡ args →
      n ≡ i + length xs → n ≤ length args → RequiredStandAt g facts rank pl i xs p x → UnboundAllAt g facts rank pl (xs ++ others) y z → Sure all (xs ++ others) →
      ((z' : Spot) → UnboundAllAt g facts rank pl others y z' → Sure all others → Follows all args x z' to l (λ cx. body cx (drop n args))) →
      Comes symbols graphs rank (going (at_spot p a) ws s) 0 to z l a ws (with_required (around facts all false a.force) pl xs (drop i args) body s)
  unfolding with_required
  required_comes [] others i n pl p x y z to l all args body a ws s at given count enough end unbound sure follows =
      let same : n ≡ i = omega (arith, count) in
      subst (λ (m : ℕ). Comes symbols graphs rank (going (at_spot p a) ws s) 0 to z l a ws (body (around facts all false a.force) (drop m args) s)) same
      (subst (λ (q : Spot). Comes symbols graphs rank (going (at_spot q a) ws s) 0 to z l a ws (body (around facts all false a.force) (drop n args) s)) (sym end) (follows z unbound sure a ws s at given))
  required_comes (v ∷ xs) others i n pl p x y z to l all args body a ws s at given count enough (k, r, here, stands, stand) (z', unbound, ends) sure follows =
      let v0 : Val = argument i args in
      rw (argument_there i args (below i n (length xs) (length args) count enough))
      (value_comes symbols graphs number g facts rank there p z to l pl (leaf.Argument i) k v0 a ws s _ at here (gives_argument i pl p args a s given)
      (λ d holds. one_comes v (xs ++ others) pl k (next p) r z' z to l all args (v0 ∷ []) (λ cx. with_required cx pl xs (drop (suc i) args) body) (having d a) ws s at given stands ends sure holds
      (λ b ws' u at' given'. required_comes xs others (suc i) n pl r x y z' to l all args body b ws' u at' given' (omega (arith, count)) enough stand unbound (sure_rest v (xs ++ others) all sure) follows)))

  -- ---- the variable that tells whether an argument was given

  pub supplied_comes : (v : Option Parameter) (others : List Parameter) (i : ℕ) (has : Bool) (pl : Place) (p x y z : Spot) (to : Option ℕ) (l : Passes) (all : Bool) (args : Vals) (body : Around → Run Vals) (a : Activation) (ws : List Waiting) (s : State) → a.graph ≡ number → a.arguments ≡ args →
      nat_lt i (length args) ≡ has → SuppliedStandsAt g facts rank pl i v p x → UnboundAllAt g facts rank pl (if_given v ++ others) y z → Sure all (if_given v ++ others) →
      ((z' : Spot) → UnboundAllAt g facts rank pl others y z' → Sure all others → Follows all args x z' to l body) →
      Comes symbols graphs rank (going (at_spot p a) ws s) 0 to z l a ws (with_supplied (around facts all false a.force) pl v has body s)
  unfolding with_supplied
  supplied_comes None others i has pl p x y z to l all args body a ws s at given is end unbound sure follows =
      subst (λ (q : Spot). Comes symbols graphs rank (going (at_spot q a) ws s) 0 to z l a ws (body (around facts all false a.force) s)) (sym end) (follows z unbound sure a ws s at given)
  supplied_comes (Some v) others i has pl p x y z to l all args body a ws s at given is (k, here, stands) (z', unbound, ends) sure follows =
      value_comes symbols graphs number g facts rank there p z to l pl (leaf.Supplied i) k (truth_of has) a ws s _ at here (tells i has pl p args a s given is)
      (λ d holds. one_comes v others pl k (next p) x z' z to l all args (truth_of has ∷ []) body (having d a) ws s at given stands ends sure holds (follows z' unbound (sure_rest v others all sure)))

  -- ---- a list of the further arguments

  pub rest_comes : (v : Option Parameter) (i : ℕ) (pl : Place) (p x y z : Spot) (to : Option ℕ) (l : Passes) (all : Bool) (args : Vals) (body : Around → Run Vals) (a : Activation) (ws : List Waiting) (s : State) → a.graph ≡ number → a.arguments ≡ args →
      RestStandsAt g facts rank pl i v p x → UnboundAllAt g facts rank pl (if_given v) y z → Sure all (if_given v) → Follows all args x y to l body →
      Comes symbols graphs rank (going (at_spot p a) ws s) 0 to z l a ws (with_rest (around facts all false a.force) pl v (drop i args) body s)
  unfolding with_rest perform ◌>>=ʳ◌ leaf_values one pure ◌>>=◌
  rest_comes None i pl p x y z to l all args body a ws s at given end unbound sure follows =
      subst (λ (q : Spot). Comes symbols graphs rank (going (at_spot p a) ws s) 0 to q l a ws (body (around facts all false a.force) s)) unbound
      (subst (λ (q : Spot). Comes symbols graphs rank (going (at_spot q a) ws s) 0 to y l a ws (body (around facts all false a.force) s)) (sym end) (follows a ws s at given))
  rest_comes (Some v) i pl p x y z to l all args body a ws s at given (k, here, stands) (z', same, ends) sure follows =
      subst (Comes symbols graphs rank (going (at_spot p a) ws s) 0 to z l a ws) (rest_alike (make_list (drop i args) s))
      (subst (λ (vs : Vals). Comes symbols graphs rank (going (at_spot p a) ws s) 0 to z l a ws (and_then (outcome (and_then_effect (make_list (drop i vs) s) (λ w. Gave (w ∷ [])))) (λ us. with_parameter (around facts all false a.force) pl v (first_of_values us) body))) given
      (ref_comes symbols graphs number g facts rank there p z to l pl (leaf.RestFrom i) k a ws s (λ us. with_parameter (around facts all false a.force) pl v (first_of_values us) body) at here
      (λ us d u holds. one_comes v [] pl k (next p) x y z to l all args us body (having d a) ws u at given stands (subst (λ (q : Spot). UnboundAt g facts rank pl v.variable q z) (sym same) ends) sure holds follows)))
    where
      rest_alike : (r : Ended Val) → and_then (outcome (and_then_effect r (λ w. Gave (w ∷ [])))) (λ us. with_parameter (around facts all false a.force) pl v (first_of_values us) body) ≡ and_then (outcome r) (λ w. with_parameter (around facts all false a.force) pl v w body)
      rest_alike (Gave w u) = refl
      rest_alike (Left e u) = refl
      rest_alike (Failed f q u) = refl
