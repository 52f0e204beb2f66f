-- What is added for the default values of optional parameters, and for a function's code. (This project's own.)
use Rattle.std.proofs.Common.{◌≡◌, ℕ, ◌+◌, Bool, false, ◌&&◌, List, [], ◌∷◌, ◌++◌, length, Option, Some, None, refl, sym, subst, ap, ◌∙◌, arith}
use Rattle.std.proofs.lemmas.List.{length-map, map-append}
use Rattle.std.specs.Prelude.{map}
use Rattle.lisp_base.specs.declared.values.Place.{Place}
use Rattle.lisp_base.specs.Reading.{spec_of}
use Rattle.core_form.specs.declared.tree.Variable.{Variable}
use Rattle.core_form.specs.declared.tree.Variable.TheVariants.{Lexical, Special}
use Rattle.core_form.specs.declared.tree.Optional.{Optional as Optional'}
use Rattle.core_form.specs.Tree.{Core, Parameter, Optionals, Lambda, lambda}
use Rattle.core_form.specs.Reading.{parameter_of, core_of}
use Rattle.core_form.specs.declared.tree.Parameter.{Parameter as Parameter'}
use Rattle.core_form.specs.ListReading.{parameters_list, optionals_list}
use Rattle.core_form.specs.Facts.{parameters_of, optional_parameters, if_given}
use Rattle.core_form.specs.Step.{all_lexical, is_lexical, optionals_length}
use Rattle.icr_graph.specs.declared.nodes.Leaf.TheVariants as leaf
use Rattle.icr_graph.specs.declared.nodes.NodeKind.TheVariants as kind
use Rattle.icr_graph.specs.Plain.{FlowGraph}
use Rattle.form_graphs.specs.Spots.{Spot, next, first_of, none, Here, Ends, Forks, Unasserted}
use Rattle.form_graphs.specs.Standing.{StandsAt}
use Rattle.form_graphs.specs.Functions.{RequiredStandAt, OptionalsStandAt, UnboundAllAt, CodeStandsAt}
use Rattle.graph_building.specs.Later.{Lasting}
use Rattle.graph_building.specs.Built.{Built, graph, spot, Beside, Begins, NewCont, FreeCont, NewNode, GoesOn, ForksTo}
use Rattle.icr_convert.specs.declared.names.Names.{Names}
use Rattle.icr_convert.specs.declared.setting.Setting.{Setting}
use Rattle.icr_convert.specs.Scene.{rank, Scene}
use Rattle.icr_convert.specs.Converting.{Placed, Converts, cost_alone}
use Rattle.icr_convert.specs.Coding.{FirstAsserted, TakesGiven, TakesRequired, TakesOptionals, DefaultStands, TakesOrDefault, ParametersStandAt, TakesParameters, TakesBody, are_lexical, VariablesUnbound, UnbindsThese, Codes}
use Rattle.icr_convert.proofs.Growing.{later_trans, grown_trans, beside_trans, lasts, ready_later}
use Rattle.icr_convert.proofs.Steps.{seen, held, in_turn, after_beside, node_placed, goes_on, forked, taken}
use Rattle.icr_convert.proofs.Entering.{rest_given}
use Rattle.icr_convert.proofs.ParameterLists.{variables_of, optionals_counted}

-- ---- an argument, or a default value

-- what stands whatever numbers its continuations have, stands from 0 on
from_zero : {P : FlowGraph → ℕ → Spot → Spot → Type 0} {a b : Built} → Placed P a b → Placed (λ h low p q. P h 0 p q) a b
from_zero first = record { grown = first.grown; stands = λ low above h later. first.stands 0 (omega arith) h later }

abbrev Tested : Place → ℕ → (j given missing : ℕ) → Built → Built → Type 0
Tested pl i j given missing =
    Placed (λ h low p q. Here h p (kind.Ref (leaf.Supplied i)) (Some j) pl 0 none × Here h (next p) (kind.If j) None pl 0 none × Forks h (next p) given missing × (q ≡ first_of given))

tested : (pl : Place) (i j given missing m n : ℕ) (a b c d e : Built) → NewNode (kind.Ref (leaf.Supplied i)) (Some j) pl (cost_alone 0) a b m →
    NewNode (kind.If j) None pl (cost_alone 0) b c n → Beside c d → ForksTo given missing d e → Tested pl i j given missing a e
tested pl i j given missing m n a b c d e leaf_node test beside fork =
    seen (λ h low p q w.
    (w.1.0, subst (λ (r : Spot). Here h r (kind.If j) None pl 0 none) w.1.1 w.2.0, subst (λ (r : Spot). Forks h r given missing) w.1.1 w.2.1, w.2.2))
    (in_turn (node_placed (λ k' e. e) leaf_node) (forked (λ k' e. e) test beside fork))

abbrev Argued : Place → ℕ → (k missing join : ℕ) → Built → Built → Type 0
Argued pl i k missing join =
    Placed (λ h low p q. Here h p (kind.Ref (leaf.Argument i)) (Some k) pl 0 none × Ends h (next p) join × (q ≡ first_of missing))

argued : (pl : Place) (i k missing join n : ℕ) (a b c : Built) → NewNode (kind.Ref (leaf.Argument i)) (Some k) pl (cost_alone 0) a b n → GoesOn join missing b c → Argued pl i k missing join a c
argued pl i k missing join n a b c leaf_node on =
    seen (λ h low p q w. (w.1.0, subst (λ (r : Spot). Ends h r join) w.1.1 w.2.0, w.2.1)) (in_turn (node_placed (λ k' e. e) leaf_node) (goes_on on))

abbrev pub plain_setting : (tail : Bool) (to : ℕ) → Setting
plain_setting t k = record { tail = t; word = false; cost = 0; levels = 0; boxing = 0; to = Some k }

abbrev Defaulted : Scene → Core → (k join : ℕ) → Built → Built → Type 0
Defaulted s e k join =
    Placed (λ h low p q. (y : Spot) × StandsAt h s.facts rank false false e 0 none 0 (Some k) p y × Ends h y join × (q ≡ first_of join))

-- where a test and its two ways stand
either_stands : (s : Scene) (pl : Place) (i j k given missing join : ℕ) (e : Core) (a b c d : Built) → Lasting (λ h. Unasserted h j) (graph a) → Tested pl i j given missing a b →
    Argued pl i k missing join b c → Defaulted s e k join c d → Placed (λ h low p q. DefaultStands h s pl i e k p q) a d
either_stands s pl i j k given missing join e a b c d free test argument default =
    seen (λ h low p q w.
    let here = w.1.1.1 in
    let way = w.1.1.2 in
    let value = w.1.2 in (
      j,
      given,
      missing,
      value.0,
      join,
      here.0,
      w.0,
      here.1,
      here.2,
      subst (λ (r : Spot). Here h r (kind.Ref (leaf.Argument i)) (Some k) pl 0 none) here.3 way.0,
      subst (λ (r : Spot). Ends h (next r) join) here.3 way.1,
      subst (λ (r : Spot). StandsAt h s.facts rank false false e 0 none 0 (Some k) r value.0) way.2 value.1,
      value.2,
      value.3,
    ))
    (held {R = λ h. Unasserted h j} free (in_turn (in_turn test argument) default))

pub default_taken : (names : Names) (pl : Place) (i : ℕ) (o : Optional') (j k given missing join l m n : ℕ) (a b c d e f g h i' j' k' l' z : Built) →
    FreeCont a b j → NewCont (FirstAsserted pl (map spec_of o.parameter.types.items)) b c k → NewNode (kind.Ref (leaf.Supplied i)) (Some j) pl (cost_alone 0) c d l →
    NewNode (kind.If j) None pl (cost_alone 0) d e m → Beside e f → Beside f g → Beside g h → ForksTo given missing h i' →
    NewNode (kind.Ref (leaf.Argument i)) (Some k) pl (cost_alone 0) i' j' n → GoesOn join missing j' k' → Converts names (plain_setting false k) (core_of o.default) k' l' →
    GoesOn join join l' z → TakesOrDefault names pl i o a z k
default_taken names pl i o j k given missing join l m n a b c d e f g h i' j' k' l' z test value supplied choice one two three fork argument on converts off s ready need =
    let ts = map spec_of o.parameter.types.items in
    let before = beside_trans test.beside value.beside in
    let choose = tested pl i j given missing l m c d e h i' supplied choice (beside_trans one (beside_trans two three)) fork in
    let take = argued pl i k missing join n i' j' k' argument on in
    let ready_there = ready_later ready (grown_trans before.grown (grown_trans choose.grown take.grown)).later in
    let default : Placed (λ h low p q. StandsAt h s.facts rank false false (core_of o.default) 0 none 0 (Some k) p q) k' l' = from_zero (converts s ready_there need) in
    let all = either_stands s pl i j k given missing join (core_of o.default) c i' k' z (lasts {g = graph b} {h = graph c} test.lasts value.beside.grown.later) choose take (seen (λ h' low p q w. (w.0, w.1, w.2.0, w.2.1)) (in_turn default (goes_on off))) in
    record { placed = after_beside before all; lasts = lasts {P = FirstAsserted pl ts k} {g = graph c} {h = graph z} value.lasts all.grown.later }

-- ---- all parameters

pub parameters_taken : (names : Names) (pl : Place) (n : ℕ) (xs : List Parameter) (os : Optionals) (r : Option Parameter) (body : Core) (a b c d : Built) → TakesRequired names pl 0 xs a b →
    TakesOptionals names pl (length xs) os b c → TakesGiven names pl (leaf.RestFrom (length xs + optionals_length os)) r c d → TakesParameters names pl (lambda n xs os r body) a d
parameters_taken names pl n xs os r body a b c d required optionals given s ready need =
    let first = required s ready in
    let ready_then = ready_later ready first.grown.later in
    let second : Placed (λ h low p q. OptionalsStandAt h s.facts rank pl (length xs) os p q) b c = optionals s ready_then need.0 in
    let third = given s (ready_later ready_then second.grown.later) in
    seen (λ h low p q w. (w.0, w.2.0, w.1, w.2.1, rest_given h s pl (length xs + optionals_length os) r (w.2.0) q w.2.2)) (in_turn first (in_turn second third))

-- ---- a body

pub body_taken : (names : Names) (t : Bool) (e : Core) (k : ℕ) (a b c : Built) → FreeCont a b k → Converts names (plain_setting t k) e b c → TakesBody names t e a c k
body_taken names t e k a b c cont converts s ready need =
    taken (λ (j : ℕ) h low p q. StandsAt h s.facts rank t false e 0 none low (Some j) p q) cont (converts s (ready_later ready cont.beside.grown.later) need)

-- ---- a function's code

lexical_one : (v : Variable) (xs : List Parameter) → are_lexical (map (λ x. x.variable) xs) ≡ all_lexical xs → are_lexical (v ∷ map (λ x. x.variable) xs) ≡ (is_lexical (record { variable = v; types = [] }) && all_lexical xs)
lexical_one (Lexical n s) xs others = others
lexical_one (Special s) xs others = refl

pub lexical_parameters : (xs : List Parameter) → are_lexical (map (λ x. x.variable) xs) ≡ all_lexical xs
lexical_parameters [] = refl
lexical_parameters (x ∷ xs) = lexical_one x.variable xs (lexical_parameters xs)

unbound_parameters : (g : FlowGraph) (s : Scene) (pl : Place) (xs : List Parameter) (p q : Spot) → VariablesUnbound g s pl (map (λ x. x.variable) xs) p q → UnboundAllAt g s.facts rank pl xs p q
unbound_parameters g s pl [] p q is = is
unbound_parameters g s pl (x ∷ xs) p q is = (is.0, unbound_parameters g s pl xs p (is.0) is.1, is.2)

abbrev BodyStands : FlowGraph → Scene → Lambda → (k : ℕ) → Spot → Spot → Type 0
BodyStands g s (lambda n xs os r e) k p q = StandsAt g s.facts rank (all_lexical (parameters_of (lambda n xs os r e))) false e 0 none 0 (Some k) p q

-- what a function's parameters, body and end are, is its code
code_of_parts : (g : FlowGraph) (s : Scene) (pl : Place) (l : Lambda) (block k : ℕ) (p z u v : Spot) → Unasserted g k → p ≡ first_of block → ParametersStandAt g s pl l p z →
    BodyStands g s l k z u → VariablesUnbound g s pl (map (λ x. x.variable) (parameters_of l)) u v → Here g v (kind.Return k) None pl 0 none → CodeStandsAt g s.facts rank pl l block
code_of_parts g s pl (lambda n xs os r e) block k p z u v free start parameters body unbound returns =
    let there = subst (λ (y : Spot). RequiredStandAt g s.facts rank pl 0 xs y (parameters.0)) start parameters.2 in
    (parameters.0, parameters.1, z, u, v, k, free, there, parameters.3, parameters.4, body, unbound_parameters g s pl (parameters_of (lambda n xs os r e)) u v unbound, returns)

pub code_placed : (names : Names) (pl : Place) (m : ℕ) (xs : List Parameter) (os : Optionals) (r : Option Parameter) (body : Core) (block k n : ℕ) (t : Bool) (vs : List Variable) (a b c d e f : Built) →
    Begins block a b → TakesParameters names pl (lambda m xs os r body) b c → TakesBody names t body c d k → t ≡ are_lexical vs → vs ≡ map (λ x. x.variable) (parameters_of (lambda m xs os r body)) →
    UnbindsThese pl vs d e → NewNode (kind.Return k) None pl (cost_alone 0) e f n → Codes names pl (lambda m xs os r body) block a f
code_placed names pl m xs os r body block k n t vs a b c d e f begins parameters bodies lexical same unbinds node s ready need =
    let l = lambda m xs os r body in
    let ready_b = ready_later ready begins.grown.later in
    let entered : Placed (λ h low p q. ParametersStandAt h s pl l p q) b c = parameters s ready_b need in
    let value = bodies s (ready_later ready_b entered.grown.later) need.1 in
    let ends : Placed (λ h low p q. VariablesUnbound h s pl vs p q) d e = unbinds s in
    let returned = node_placed (λ k' eq. eq) node in
    let tail : t ≡ all_lexical (parameters_of l) = lexical ∙ (ap are_lexical same ∙ lexical_parameters (parameters_of l)) in
    record {
      grown = grown_trans begins.grown (grown_trans entered.grown (grown_trans value.placed.grown (grown_trans ends.grown node.grown)));
      stands = λ h later.
          let later_e = later_trans (graph e) (graph f) h node.grown.later later in
          let later_d = later_trans (graph d) (graph e) h ends.grown.later later_e in
          let later_c = later_trans (graph c) (graph d) h value.placed.grown.later later_d in
          code_of_parts h s pl l block k (spot b) (spot c) (spot d) (spot e) (value.lasts h later_d) begins.at (entered.stands 0 (omega arith) h later_c)
          (subst (λ (w : Bool). StandsAt h s.facts rank w false body 0 none 0 (Some k) (spot c) (spot d)) tail (value.placed.stands 0 (omega arith) h later_d))
          (subst (λ (us : List Variable). VariablesUnbound h s pl us (spot d) (spot e)) same (ends.stands 0 (omega arith) h later_e))
          ((returned.stands 0 (omega arith) h later).0);
    }

-- ---- as the lists of a lambda are read

pub parameters_counted : (names : Names) (pl : Place) (n : ℕ) (ps : List Parameter') (os : List Optional') (r : Option Parameter) (body : Core) (i j : ℕ) (a b c d : Built) → TakesRequired names pl 0 (parameters_list ps) a b → i ≡ length ps →
    TakesOptionals names pl i (optionals_list os) b c → j ≡ length ps + length os → TakesGiven names pl (leaf.RestFrom j) r c d → TakesParameters names pl (lambda n (parameters_list ps) (optionals_list os) r body) a d
parameters_counted names pl n ps os r body i j a b c d required first optionals fixed given =
    let one : i ≡ length (parameters_list ps) = first ∙ sym (length-map ps parameter_of) in
    let two : j ≡ length (parameters_list ps) + optionals_length (optionals_list os) = omega (arith, fixed, length-map ps parameter_of, optionals_counted os) in
    parameters_taken names pl n (parameters_list ps) (optionals_list os) r body a b c d required (subst (λ (k : ℕ). TakesOptionals names pl k (optionals_list os) b c) one optionals)
    (subst (λ (k : ℕ). TakesGiven names pl (leaf.RestFrom k) r c d) two given)

-- what is bound of all parameters
pub all_bound : (new two one : List Variable) (xs : List Parameter) (os : Optionals) (r : Option Parameter) → one ≡ variables_of xs → two ≡ one ++ variables_of (optional_parameters os) → new ≡ two ++ variables_of (if_given r) →
    new ≡ variables_of (xs ++ optional_parameters os ++ if_given r)
all_bound new two one xs os r first second third =
    third ∙ (ap (λ (vs : List Variable). vs ++ variables_of (if_given r)) (second ∙ (ap (λ (vs : List Variable). vs ++ variables_of (optional_parameters os)) first ∙ sym (map-append (λ (x : Parameter). x.variable) xs (optional_parameters os))))
    ∙ sym (map-append (λ (x : Parameter). x.variable) (xs ++ optional_parameters os) (if_given r)))
