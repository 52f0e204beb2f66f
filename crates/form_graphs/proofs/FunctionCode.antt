-- The code of a function does in its graph what the function does.
use Rattle.std.proofs.Common.{◌≡◌, ℕ, suc, ◌+◌, ◌≤◌, refl, sym, ap, subst, ◌∙◌, arith, inl, inr, Bool, true, false, ◌&&◌, if◌then◌else◌, List, [], ◌∷◌, ◌++◌, append_assoc, length, Option, Some, None}
use Rattle.std.proofs.lemmas.Bool.{cases_lt, lt-ltb, le-ltb}
use Rattle.std.proofs.lemmas.Bool.Decides.{nat_tests}
use Rattle.std.specs.Prelude.{slice_get, drop, nat_lt, not, ◌||◌}
use Rattle.lisp_base.specs.declared.values.Place.{Place}
use Rattle.core_form.specs.Tree.{Parameter, Core, Optionals, no_optional, optional, Lambda, lambda}
use Rattle.core_form.specs.Facts.{Facts, if_given, optional_parameters, parameters_of}
use Rattle.core_form.specs.State.{Symbol, State}
use Rattle.core_form.specs.Force.{Vals, Force, is_true}
use Rattle.core_form.specs.Primitives.{argument, truth_of}
use Rattle.core_form.specs.Step.{Around, all_lexical, optionals_length, has_rest, takes}
use Rattle.core_form.specs.Run.{Outcome, Gives, Leaves, Fails, NotYet, Run, first, ◌>>=◌ as ◌>>=ʳ◌}
use Rattle.core_form.specs.Eval.{Call, eval, with_parameter, with_supplied, with_optionals, with_rest, function_body}
use Rattle.icr_graph.specs.declared.nodes.NodeKind.TheVariants as kind
use Rattle.icr_graph.specs.declared.nodes.Leaf.TheVariants as leaf
use Rattle.icr_graph.specs.Plain.{FlowGraph}
use Rattle.graph_meaning.specs.Machine.{Delivered, without_all, Activation, Waiting, Machine, going}
use Rattle.graph_meaning.specs.Effects.{box_before, test_operands, test_all}
use Rattle.core_form.specs.Effect.{◌>>=◌, pure}
use Rattle.form_graphs.specs.Spots.{Spot, next, first_of, Passes, none, Here, Ends, Unasserted}
use Rattle.form_graphs.specs.Standing.{StandsAt, UnboundAt}
use Rattle.form_graphs.specs.Functions.{ParameterStandsAt, OptionalsStandAt, UnboundAllAt, CodeStandsAt}
use Rattle.form_graphs.specs.Landing.{at_spot, having, Reaches, Comes}
use Rattle.form_graphs.specs.Calling.{around, CodeComes}
use Rattle.form_graphs.proofs.Coming.{reaches_then, comes_after, comes_having, passes_none, spent_none}
use Rattle.form_graphs.proofs.Leaves.{runs_there}
use Rattle.form_graphs.proofs.Data.{ends_there, forks_there, first_then}
use Rattle.form_graphs.proofs.Operands.{AlwaysDoes}
use Rattle.form_graphs.proofs.All.{all_do}
use Rattle.form_graphs.proofs.Parameters.{argument_there, arguments_over, keeps_nothing, value_comes}
use Rattle.form_graphs.proofs.ParameterLists.{Sure, Follows, sure_rest, gives_argument, tells, one_comes, required_comes, supplied_comes, rest_comes}
use Rattle.form_graphs.proofs.CallDepths.{CodesDo}

is_truth : (b : Bool) → is_true (truth_of b) ≡ b
is_truth true = refl
is_truth false = refl

regroup : (w : Option Parameter) (bs cs : List Parameter) → (if_given w ++ bs) ++ cs ≡ if_given w ++ (bs ++ cs)
regroup None bs cs = refl
regroup (Some v) bs cs = refl

module _ (symbols : List Symbol) (graphs : List FlowGraph) (number : ℕ) (g : FlowGraph) (facts : Facts) (rank : ℕ → ℕ) (there : slice_get graphs number ≡ Some g) (call : Call) (limit : ℕ) (does : (e : Core) → AlwaysDoes symbols graphs number g facts rank there call limit e) where
  -- an optional parameter whose argument is there, from the block of that case
  given_comes : (v : Parameter) (others : List Parameter) (i : ℕ) (pl : Place) (k b join : ℕ) (r y z : Spot) (to : Option ℕ) (l : Passes) (all : Bool) (args : Vals) (body : Around → Run Vals) (a : Activation) (ws : List Waiting) (s : State) → a.graph ≡ number → a.arguments ≡ args →
      Here g (first_of b) (kind.Ref (leaf.Argument i)) (Some k) pl 0 none → Ends g (next (first_of b)) join → ParameterStandsAt g facts rank pl v k (first_of join) r → UnboundAt g facts rank pl v.variable y z → Sure symbols graphs number g facts rank there all (v ∷ others) →
      Follows symbols graphs number g facts rank there all args r y to l body →
      Comes symbols graphs rank (going (at_spot (first_of b) a) ws s) 0 to z l a ws (with_parameter (around facts all false a.force) pl v (argument i args) body s)
  given_comes v others i pl k b join r y z to l all args body a ws s at given here ends stands unbound sure follows =
      value_comes symbols graphs number g facts rank there (first_of b) z to l pl (leaf.Argument i) k (argument i args) a ws s _ at here (gives_argument symbols graphs number g facts rank there i pl (first_of b) args a s given)
      (λ d holds. comes_after symbols graphs rank (going (at_spot (next (first_of b)) (having d a)) ws s) (going (at_spot (first_of join) (having d a)) ws s) 0 to z l (having d a) ws _ (1, ends_there symbols graphs number g facts rank there call limit (next (first_of b)) join (having d a) ws s at ends)
      (one_comes symbols graphs number g facts rank there v others pl k (first_of join) r y z to l all args (argument i args ∷ []) body (having d a) ws s at given stands unbound sure holds follows))

  -- one whose form gives the value
  missing_comes : (v : Parameter) (e : Core) (others : List Parameter) (pl : Place) (k b join : ℕ) (q r y z : Spot) (to : Option ℕ) (l : Passes) (all : Bool) (args : Vals) (body : Around → Run Vals) (a : Activation) (ws : List Waiting) (s : State) → a.graph ≡ number → a.arguments ≡ args →
      StandsAt g facts rank false false e 0 none 0 (Some k) (first_of b) q → Ends g q join → ParameterStandsAt g facts rank pl v k (first_of join) r → UnboundAt g facts rank pl v.variable y z → Sure symbols graphs number g facts rank there all (v ∷ others) →
      Follows symbols graphs number g facts rank there all args r y to l body →
      Comes symbols graphs rank (going (at_spot (first_of b) a) ws s) 0 to z l a ws ((first (eval call limit (around facts false false a.force) e) >>=ʳ (λ w. with_parameter (around facts all false a.force) pl v w body)) s)
  missing_comes v e others pl k b join q r y z to l all args body a ws s at given default ends stands unbound sure follows =
      first_then symbols graphs number g facts rank there call limit (going (at_spot (first_of b) a) ws s) 0 k q z to l a ws (eval call limit (around facts false false a.force) e) s (λ w. with_parameter (around facts all false a.force) pl v w body) (omega arith)
      (subst (λ (u : State). Comes symbols graphs rank (going (at_spot (first_of b) a) ws s) 0 (Some k) q none a ws (eval call limit (around facts false false a.force) e u)) (spent_none s) (does e false false 0 none 0 (Some k) (first_of b) q default a.force a ws s at refl))
      (λ us u d kept holds. comes_after symbols graphs rank (going (at_spot q (having d a)) ws u) (going (at_spot (first_of join) (having d a)) ws u) 0 to z l (having d a) ws _ (1, ends_there symbols graphs number g facts rank there call limit q join (having d a) ws u at ends)
      (one_comes symbols graphs number g facts rank there v others pl k (first_of join) r y z to l all args us body (having d a) ws u at given stands unbound sure holds follows))

  -- ---- optional parameters, and then what follows with the arguments that are left

  pub optionals_comes : (os : Optionals) (others : List Parameter) (i n : ℕ) (pl : Place) (p x y z : Spot) (to : Option ℕ) (l : Passes) (all : Bool) (args : Vals) (body : Around → Vals → Run Vals) (a : Activation) (ws : List Waiting) (s : State) → a.graph ≡ number → a.arguments ≡ args →
      n ≡ i + optionals_length os → OptionalsStandAt g facts rank pl i os p x → UnboundAllAt g facts rank pl (optional_parameters os ++ others) y z → Sure symbols graphs number g facts rank there all (optional_parameters os ++ others) →
      ((z' : Spot) → UnboundAllAt g facts rank pl others y z' → Sure symbols graphs number g facts rank there all others → Follows symbols graphs number g facts rank there all args x z' to l (λ cx. body cx (drop n args))) →
      Comes symbols graphs rank (going (at_spot p a) ws s) 0 to z l a ws (with_optionals call limit (around facts all false a.force) pl os (drop i args) body s)
  unfolding with_optionals
  optionals_comes no_optional others i n pl p x y z to l all args body a ws s at given count end unbound sure follows =
      let same : n ≡ i = omega (arith, count) in
      subst (λ (m : ℕ). Comes symbols graphs rank (going (at_spot p a) ws s) 0 to z l a ws (body (around facts all false a.force) (drop m args) s)) same
      (subst (λ (q : Spot). Comes symbols graphs rank (going (at_spot q a) ws s) 0 to z l a ws (body (around facts all false a.force) (drop n args) s)) (sym end) (follows z unbound sure a ws s at given))
  optionals_comes (optional v e w os) others i n pl p x y z to l all args body a ws s at given count (j, k, yes_block, no_block, q, join, r, r', tells', free, (b, here), forks, takes', ends, default, ends', stands, flag, stand) (z', unbound, closes) sure follows =
      elim (cases_lt i (length args)) [
        | inl less ↦ rw (argument_there i args less) (by_test _ true (lt-ltb i (length args) less)
            (λ d. given_comes v (if_given w ++ (optional_parameters os ++ others)) i pl k yes_block join r z' z to l all args (λ cx. with_supplied cx pl w true (λ cx'. with_optionals call limit cx' pl os (drop (suc i) args) body)) (having d a) ws s at given takes' ends stands closes sure' (rest true (drop (suc i) args) refl (lt-ltb i (length args) less) (λ t b ws' u at'' given'' unbound' sure''. optionals_comes os others (suc i) n pl r' x y t to l all args body b ws' u at'' given'' (omega (arith, count)) stand unbound' sure'' follows))))
        | inr over ↦ rw (arguments_over i args over) (by_test _ false (le-ltb i (length args) over)
            (λ d. missing_comes v e (if_given w ++ (optional_parameters os ++ others)) pl k no_block join q r z' z to l all args (λ cx. with_supplied cx pl w false (λ cx'. with_optionals call limit cx' pl os [] body)) (having d a) ws s at given default ends' stands closes sure' (rest false [] (arguments_over (suc i) args (omega (arith, over))) (le-ltb i (length args) over) (λ t b ws' u at'' given'' unbound' sure''. optionals_comes os others (suc i) n pl r' x y t to l all args body b ws' u at'' given'' (omega (arith, count)) stand unbound' sure'' follows))))
      ]
    where
      sure' : Sure symbols graphs number g facts rank there all (v ∷ (if_given w ++ (optional_parameters os ++ others)))
      sure' = subst (λ (xs : List Parameter). Sure symbols graphs number g facts rank there all (v ∷ xs)) (regroup w (optional_parameters os) others) sure

      -- the test whether the argument was given, and then the block of that case
      by_test : (o : Outcome Vals) (has : Bool) → nat_lt i (length args) ≡ has →
          ((d : Delivered) → Comes symbols graphs rank (going (at_spot (first_of (if has then yes_block else no_block)) (having d a)) ws s) 0 to z l (having d a) ws o) →
          Comes symbols graphs rank (going (at_spot p a) ws s) 0 to z l a ws o
      by_test o has is arm =
          value_comes symbols graphs number g facts rank there p z to l pl (leaf.Supplied i) j (truth_of has) a ws s o at tells' (tells symbols graphs number g facts rank there i has pl p args a s given is)
          (λ d holds. comes_having symbols graphs rank (going (at_spot (next p) (having d a)) ws s) 0 0 to z l (having d a) (without_all (j ∷ []) d) ws o (omega arith) (keeps_nothing rank to d (without_all (j ∷ []) d))
          (comes_after symbols graphs rank (going (at_spot (next p) (having d a)) ws s) (going (at_spot (first_of (if has then yes_block else no_block)) (having (without_all (j ∷ []) d) a)) ws s) 0 to z l (having (without_all (j ∷ []) d) a) ws o
          (1, forks_there symbols graphs number g facts rank there call limit (next p) j b yes_block no_block pl (truth_of has ∷ []) d a ws s at free here forks holds ∙ ap (λ (c : Bool). going (at_spot (first_of (if c then yes_block else no_block)) (having (without_all (j ∷ []) d) a)) ws s) (is_truth has))
          (arm (without_all (j ∷ []) d))))

      rest : (has : Bool) (vs : Vals) → drop (suc i) args ≡ vs → nat_lt i (length args) ≡ has →
          ((t : Spot) (b : Activation) (ws' : List Waiting) (u : State) → b.graph ≡ number → b.arguments ≡ args → UnboundAllAt g facts rank pl (optional_parameters os ++ others) y t → Sure symbols graphs number g facts rank there all (optional_parameters os ++ others) →
          Comes symbols graphs rank (going (at_spot r' b) ws' u) 0 to t l b ws' (with_optionals call limit (around facts all false b.force) pl os (drop (suc i) args) body u)) →
          Follows symbols graphs number g facts rank there all args r z' to l (λ cx. with_supplied cx pl w has (λ cx'. with_optionals call limit cx' pl os vs body))
      rest has vs same is again b' ws' u at' given' =
          supplied_comes symbols graphs number g facts rank there w (optional_parameters os ++ others) i has pl r r' y z' to l all args (λ cx'. with_optionals call limit cx' pl os vs body) b' ws' u at' given' is flag
          (subst (λ (xs : List Parameter). UnboundAllAt g facts rank pl xs y z') (regroup w (optional_parameters os) others) unbound)
          (sure_rest symbols graphs number g facts rank there v (if_given w ++ (optional_parameters os ++ others)) all sure')
          (λ t unbound' sure'' c ws'' u' at'' given''. subst (λ (xs : Vals). Comes symbols graphs rank (going (at_spot r' c) ws'' u') 0 to t l c ws'' (with_optionals call limit (around facts all false c.force) pl os xs body u')) same (again t c ws'' u' at'' given'' unbound' sure''))

  -- ---- the whole code

  -- a function takes at least those arguments that it requires
  enough_given : (a b : Bool) (n m : ℕ) → (not (nat_lt n m) && (a || b)) ≡ true → m ≤ n
  enough_given a b n m takes' = grind (arith, nat_tests)

  -- what comes to the return of a function returns
  return_comes : (m : Machine) (c b : ℕ) (pl : Place) (v : Spot) (a : Activation) (ws : List Waiting) (o : Outcome Vals) → a.graph ≡ number → Unasserted g c → Here g v (kind.Return c) None pl 0 none →
      Comes symbols graphs rank m 0 (Some c) v none a ws o → CodeComes symbols graphs number m ws o
  unfolding box_before test_operands test_all ◌>>=◌ pure
  return_comes m c b pl v a ws (Gives vs s) at free (nb, here) (d, kept, holds, way) = (
    having (without_all (c ∷ []) d) (at_spot v a),
    at,
    reaches_then symbols graphs (subst (λ (t : State). Reaches symbols graphs m (going (having d (at_spot v a)) ws t)) (passes_none vs s) way)
        (1, runs_there symbols graphs number g facts rank there v _ (having d a) ws s at here ∙ rw (free, holds, spent_none s) refl),
  )
  return_comes m c b pl v a ws (Leaves e s) at free here (d, p, f, kept, way) = (_, way)
  return_comes m c b pl v a ws (Fails x p s) at free here came = came
  return_comes m c b pl v a ws (NotYet s) at free here came = came

  pub code_does : (pl : Place) (l : Lambda) (b : ℕ) (f : Force) (a : Activation) (ws : List Waiting) (s : State) → CodeStandsAt g facts rank pl l b → a.graph ≡ number → a.force ≡ f → takes l (length a.arguments) ≡ true →
      CodeComes symbols graphs number (going (at_spot (first_of b) a) ws s) ws (function_body call limit (around facts (all_lexical (parameters_of l)) false f) pl a.arguments l s)
  unfolding function_body
  code_does pl (lambda n xs os r e) b f a ws s (x, y, z, u, v, c, free, required, optionals, rest, body, closes, returns) at force takes' =
      let all : Bool = all_lexical (parameters_of (lambda n xs os r e)) in
      subst (λ (h : Force). CodeComes symbols graphs number (going (at_spot (first_of b) a) ws s) ws (function_body call limit (around facts all false h) pl a.arguments (lambda n xs os r e) s)) force
      (return_comes (going (at_spot (first_of b) a) ws s) c b pl v a ws _ at free returns
      (required_comes symbols graphs number g facts rank there xs (optional_parameters os ++ if_given r) 0 (length xs) pl (first_of b) x u v (Some c) none all a.arguments (λ cx vs. with_optionals call limit cx pl os vs (λ cx' us. with_rest cx' pl r us (λ cx''. eval call limit cx'' e))) a ws s at refl (omega arith) (enough_given (has_rest r) (not (nat_lt (length xs + optionals_length os) (length a.arguments))) (length a.arguments) (length xs) takes') required (subst (λ (vs : List Parameter). UnboundAllAt g facts rank pl vs u v) (append_assoc xs (optional_parameters os) (if_given r)) closes) (λ is. subst (λ (vs : List Parameter). all_lexical vs ≡ true) (append_assoc xs (optional_parameters os) (if_given r)) is)
      (λ t unbound sure a1 ws1 s1 at1 given1. optionals_comes os (if_given r) (length xs) (length xs + optionals_length os) pl x y u t (Some c) none all a.arguments (λ cx us. with_rest cx pl r us (λ cx'. eval call limit cx' e)) a1 ws1 s1 at1 given1 refl optionals unbound sure
      (λ t' unbound' sure' a2 ws2 s2 at2 given2. rest_comes symbols graphs number g facts rank there r (length xs + optionals_length os) pl y z u t' (Some c) none all a.arguments (λ cx. eval call limit cx e) a2 ws2 s2 at2 given2 rest unbound' sure'
      (λ a3 ws3 s3 at3 given3. subst (λ (w : State). Comes symbols graphs rank (going (at_spot z a3) ws3 s3) 0 (Some c) u none a3 ws3 (eval call limit (around facts all false a3.force) e w)) (spent_none s3) (does e all false 0 none 0 (Some c) z u body a3.force a3 ws3 s3 at3 refl))))))

-- every function of the graphs does what it does
pub codes_do : (symbols : List Symbol) (graphs : List FlowGraph) (limit : ℕ) → CodesDo symbols graphs limit
codes_do symbols graphs limit number g facts rank there begins call calls timely pl l b f a ws s stands at force empty takes' =
    code_does symbols graphs number g facts rank there call limit (all_do symbols graphs number g facts rank there call limit calls begins timely) pl l b f a ws s stands at force takes'
