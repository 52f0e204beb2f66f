-- What is added for the parameters of functions. (This project's own.)
use Rattle.std.proofs.Common.{◌≡◌, ℕ, suc, ◌+◌, List, [], ◌∷◌, Option, Some, None, refl, sym, ap, ◌∙◌, subst, arith, ◌<◌, ◌≤◌, length, drop, get_or}
use Rattle.std.proofs.lemmas.List.{drop_more, drop_all}
use Rattle.std.specs.Prelude.{map, option_map, slice_get, Result, Ok, Err, OnOk, IfOk}
use Rattle.lisp_base.specs.declared.values.Place.{Place}
use Rattle.lisp_base.specs.declared.types.TypeSpec.{TypeSpec}
use Rattle.lisp_base.specs.Reading.{spec_of}
use Rattle.lisp_base.specs.Spec.{Spec, spec_size}
use Rattle.core_form.specs.declared.tree.Variable.{Variable}
use Rattle.core_form.specs.declared.tree.Optional.{Optional as Optional'}
use Rattle.core_form.specs.Tree.{Core, Parameter, Optionals, no_optional, optional}
use Rattle.core_form.specs.Reading.{parameter_of}
use Rattle.icr_graph.specs.declared.nodes.Leaf.{Leaf}
use Rattle.icr_graph.specs.declared.nodes.Leaf.TheVariants as leaf
use Rattle.icr_graph.specs.declared.nodes.NodeKind.TheVariants as kind
use Rattle.icr_graph.specs.declared.nodes.Operation.TheVariants as operation
use Rattle.icr_graph.specs.Plain.{FlowGraph}
use Rattle.form_graphs.specs.Spots.{Spot}
use Rattle.form_graphs.specs.Functions.{ChecksStandAt, ParameterStandsAt, RequiredStandAt, SuppliedStandsAt, OptionalsStandAt, RestStandsAt}
use Rattle.graph_building.specs.Built.{Built, graph, NewCont, AssertedCont, NewNode}
use Rattle.icr_convert.specs.declared.names.Names.{Names}
use Rattle.icr_convert.specs.declared.parameters.Bound.{Bound}
use Rattle.icr_convert.specs.Scene.{rank, Scene}
use Rattle.icr_convert.specs.Converting.{Placed, Binds, Unbinds, cost_alone}
use Rattle.icr_convert.specs.Coding.{FirstAsserted, Checks, TakesParameter, GivenStandsAt, TakesGiven, TakesLeaf, TakesRequired, TakesOptionals, TakesOptional, TakesOrDefault, UnbindsThese}
use Rattle.icr_convert.proofs.Growing.{grown_refl, lasts, ready_later}
use Rattle.icr_convert.proofs.Steps.{seen, held, nothing, in_turn, after_beside, node_placed}

-- ---- results

pub on_ok : {T E P Q : Type 0} (r : Result T E) → (P → Q) → OnOk r P → OnOk r Q
on_ok (Ok x) gives is = gives is
on_ok (Err e) gives is = tt

pub if_ok : {T E : Type 0} {P Q : T → Type 0} (r : Result T E) → ((x : T) → P x → Q x) → IfOk r P → IfOk r Q
if_ok (Ok x) gives is = gives x is
if_ok (Err e) gives is = tt

-- ---- checks

pub first_asserted : (pl : Place) (ts : List TypeSpec) (x : TypeSpec) (t : Spec) (a b : Built) (k : ℕ) → t ≡ spec_of x → Some x ≡ slice_get ts 0 → AssertedCont pl t a b k →
    NewCont (FirstAsserted pl (map spec_of ts)) a b k
first_asserted pl [] x t a b k same is cont =
    let none : Some x ≡ None = is in
    absurd (cc)
first_asserted pl (y ∷ ys) x t a b k same is cont =
    let some : Some x ≡ Some y = is in
    let one : x ≡ y = cc in
    subst (λ (u : Spec). AssertedCont pl u a b k) (same ∙ ap spec_of one) cont

pub no_check : (pl : Place) (k : ℕ) (a : Built) → Checks pl [] k a a k
no_check pl k a s first = record { grown = grown_refl a; stands = λ low above h later. (first h later, refl, refl) }

pub check_first : (pl : Place) (t : Spec) (ts : List Spec) (k i j n : ℕ) (a b c d : Built) → NewCont (FirstAsserted pl ts) a b i →
    NewNode (kind.Combination operation.Pass (k ∷ [])) (Some i) pl (cost_alone (spec_size t)) b c n → Checks pl ts i c d j → Checks pl (t ∷ ts) k a d j
check_first pl t ts k i j n a b c d cont node rest s first =
    let more : Placed (λ h low p q. ChecksStandAt h s.facts rank pl ts i j p q) c d = rest s (lasts {g = graph b} {h = graph c} cont.lasts node.grown.later) in
    seen (λ h low p q w. (i, w.0, w.1.1.0, subst (λ (r : Spot). ChecksStandAt h s.facts rank pl ts i j r q) w.1.1.1 w.1.2))
    (held {R = FirstAsserted pl (t ∷ ts) k} first (after_beside cont.beside (in_turn (node_placed (λ k' e. e) node) more)))

-- ---- a parameter

pub parameter_taken : (names : Names) (pl : Place) (x : Parameter) (k j : ℕ) (a b c : Built) → Checks pl x.types k a b j → Binds names pl x.variable j b c → TakesParameter names pl x k a c
parameter_taken names pl x k j a b c checks binds s ready first =
    let checked : Placed (λ h low p q. ChecksStandAt h s.facts rank pl x.types k j p q) a b = checks s first in
    let bound = binds s (ready_later ready checked.grown.later) in
    seen (λ h low p q w. (j, w.0, w.1, w.2.0, w.2.1)) (in_turn checked bound)

pub leaf_taken : (names : Names) (pl : Place) (l : Leaf) (x : Parameter) (k n : ℕ) (a b c d : Built) → NewCont (FirstAsserted pl x.types) a b k →
    NewNode (kind.Ref l) (Some k) pl (cost_alone 0) b c n → TakesParameter names pl x k c d → TakesLeaf names pl l x a d
leaf_taken names pl l x k n a b c d cont node takes s ready =
    let value : Placed (λ h low p q. ParameterStandsAt h s.facts rank pl x k p q) c d =
    takes s (ready_later (ready_later ready cont.beside.grown.later) node.grown.later) (lasts {g = graph b} {h = graph c} cont.lasts node.grown.later) in
    seen (λ h low p q w. (k, w.1.0, subst (λ (r : Spot). ParameterStandsAt h s.facts rank pl x k r q) w.1.1 w.2))
    (after_beside cont.beside (in_turn (node_placed (λ k' e. e) node) value))

pub not_given : (names : Names) (pl : Place) (l : Leaf) (a : Built) → TakesGiven names pl l None a a
not_given names pl l a s ready = nothing a (λ h low p. refl)

-- ---- parameters that are required

pub none_required : (names : Names) (pl : Place) (i : ℕ) (a : Built) → TakesRequired names pl i [] a a
none_required names pl i a s ready = nothing a (λ h low p. refl)

pub required_first : (names : Names) (pl : Place) (i : ℕ) (x : Parameter) (xs : List Parameter) (a b c : Built) → TakesLeaf names pl (leaf.Argument i) x a b →
    TakesRequired names pl (suc i) xs b c → TakesRequired names pl i (x ∷ xs) a c
required_first names pl i x xs a b c takes rest s ready =
    let first = takes s ready in
    let more : Placed (λ h low p q. RequiredStandAt h s.facts rank pl (suc i) xs p q) b c = rest s (ready_later ready first.grown.later) in
    seen (λ h low p q w. (w.1.0, w.0, w.1.1, w.1.2, w.2)) (in_turn first more)

-- ---- optional parameters

pub none_optional : (names : Names) (pl : Place) (i : ℕ) (a : Built) → TakesOptionals names pl i no_optional a a
none_optional names pl i a s ready need = nothing a (λ h low p. refl)

pub optional_first : (names : Names) (pl : Place) (i : ℕ) (x : Parameter) (e : Core) (r : Option Parameter) (os : Optionals) (a b c : Built) →
    TakesOptionals names pl i (optional x e r no_optional) a b → TakesOptionals names pl (suc i) os b c → TakesOptionals names pl i (optional x e r os) a c
optional_first names pl i x e r os a b c takes rest s ready need =
    let first = takes s ready (need.0, tt) in
    let more : Placed (λ h low p q. OptionalsStandAt h s.facts rank pl (suc i) os p q) b c = rest s (ready_later ready first.grown.later) need.1 in
    seen (λ h low p q w.
    let f = w.1 in (
      f.0,
      f.1,
      f.2,
      f.3,
      f.4,
      f.5,
      f.6,
      f.7,
      f.8,
      f.9,
      f.10,
      f.11,
      f.12,
      f.13,
      f.14,
      f.15,
      f.16,
      f.17,
      subst (λ (z : Spot). OptionalsStandAt h s.facts rank pl (suc i) os z q) (sym f.18) w.2,
    ))
    (in_turn first more)

supplied_given : (g : FlowGraph) (s : Scene) (pl : Place) (i : ℕ) (r : Option Parameter) (p q : Spot) → GivenStandsAt g s pl (leaf.Supplied i) r p q → SuppliedStandsAt g s.facts rank pl i r p q
supplied_given g s pl i None p q is = is
supplied_given g s pl i (Some x) p q is = is

pub rest_given : (g : FlowGraph) (s : Scene) (pl : Place) (i : ℕ) (r : Option Parameter) (p q : Spot) → GivenStandsAt g s pl (leaf.RestFrom i) r p q → RestStandsAt g s.facts rank pl i r p q
rest_given g s pl i None p q is = is
rest_given g s pl i (Some x) p q is = is

pub optional_taken : (names : Names) (pl : Place) (i : ℕ) (o : Optional') (k : ℕ) (a b c d : Built) → TakesOrDefault names pl i o a b k →
    TakesParameter names pl (parameter_of o.parameter) k b c → TakesGiven names pl (leaf.Supplied i) (option_map parameter_of o.supplied) c d → TakesOptional names pl i o a d
optional_taken names pl i o k a b c d either takes given s ready need =
    let x = parameter_of o.parameter in
    let value = either s ready need.0 in
    let later_once = ready_later ready value.placed.grown.later in
    let variable : Placed (λ h low p q. ParameterStandsAt h s.facts rank pl x k p q) b c = takes s later_once value.lasts in
    let told : Placed (λ h low p q. GivenStandsAt h s pl (leaf.Supplied i) (option_map parameter_of o.supplied) p q) c d = given s (ready_later later_once variable.grown.later) in
    seen (λ h low p q w.
    let f = w.1 in
    let z = w.2.0 in (
      f.0,
      k,
      f.1,
      f.2,
      f.3,
      f.4,
      z,
      q,
      f.5,
      f.6,
      f.7,
      f.8,
      f.9,
      f.10,
      f.11,
      f.12,
      subst (λ (r : Spot). ParameterStandsAt h s.facts rank pl x k r z) f.13 w.2.1,
      supplied_given h s pl i (option_map parameter_of o.supplied) z q w.2.2,
      refl,
    ))
    (in_turn value.placed (in_turn variable told))

-- ---- the ends of extents

unbound_one : (pl : Place) (v : Variable) (vs : List Variable) (a b c : Built) → UnbindsThese pl vs a b → Unbinds pl v b c → UnbindsThese pl (v ∷ vs) a c
unbound_one pl v vs a b c others one s = in_turn (others s) (one s)

pub none_unbound : (pl : Place) (bs : List Bound) (n : ℕ) (a : Built) → length bs ≤ n → UnbindsThese pl (map (λ x. x.variable) (drop n bs)) a a
none_unbound pl bs n a all = rw (drop_all n bs all) (λ s. nothing a (λ h low p. refl))

pub next_unbound : (pl : Place) (bs : List Bound) (n m : ℕ) (d : Bound) (a b c : Built) → n ≡ m + 1 → n ≤ length bs → UnbindsThese pl (map (λ x. x.variable) (drop n bs)) a b →
    Unbinds pl (get_or bs m d).variable b c → UnbindsThese pl (map (λ x. x.variable) (drop m bs)) a c
next_unbound pl bs n m d a b c same within others one =
    let e : drop m bs ≡ get_or bs m d ∷ drop n bs = drop_more bs m d (omega arith) ∙ ap (λ (i : ℕ). get_or bs m d ∷ drop i bs) (sym same) in
    subst (λ (xs : List Bound). UnbindsThese pl (map (λ x. x.variable) xs) a c) (sym e) (unbound_one pl (get_or bs m d).variable (map (λ x. x.variable) (drop n bs)) a b c others one)

-- ---- the checks of a value, over a list of types

pub all_checked : (pl : Place) (ts : List TypeSpec) (n k : ℕ) (a : Built) → length ts ≤ n → Checks pl (map spec_of (drop n ts)) k a a k
all_checked pl ts n k a all = rw (drop_all n ts all) (no_check pl k a)

pub next_checked : (pl : Place) (ts : List TypeSpec) (n k i j m : ℕ) (t : TypeSpec) (size : ℕ) (ks : List ℕ) (a b c d : Built) → n < length ts → t ≡ get_or ts n t → size ≡ spec_size (spec_of t) → ks ≡ k ∷ [] →
    NewCont (FirstAsserted pl (map spec_of (drop (n + 1) ts))) a b i → NewNode (kind.Combination operation.Pass ks) (Some i) pl (cost_alone size) b c m →
    Checks pl (map spec_of (drop (n + 1) ts)) i c d j → Checks pl (map spec_of (drop n ts)) k a d j
next_checked pl ts n k i j m t size ks a b c d within is sized one cont node rest =
    let e : drop n ts ≡ t ∷ drop (n + 1) ts = drop_more ts n t within ∙ ap (λ (y : TypeSpec). y ∷ drop (n + 1) ts) (sym is) in
    let charged = subst (λ (z : ℕ). NewNode (kind.Combination operation.Pass ks) (Some i) pl (cost_alone z) b c m) sized node in
    let taking = subst (λ (xs : List ℕ). NewNode (kind.Combination operation.Pass xs) (Some i) pl (cost_alone (spec_size (spec_of t))) b c m) one charged in
    subst (λ (xs : List TypeSpec). Checks pl (map spec_of xs) k a d j) (sym e) (check_first pl (spec_of t) (map spec_of (drop (n + 1) ts)) k i j m a b c d cont taking rest)
