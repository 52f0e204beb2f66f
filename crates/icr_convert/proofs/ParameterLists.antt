-- Lists of parameters, gone over one by one, and what is bound of them. (This project's own.)
use Rattle.std.proofs.Common.{◌≡◌, ℕ, suc, ◌+◌, ◌<◌, ◌≤◌, List, [], ◌∷◌, ◌++◌, length, drop, get_or, refl, sym, ap, subst, ◌∙◌, append_assoc, arith}
use Rattle.std.proofs.lemmas.List.{drop_more, drop_all, map-append}
use Rattle.std.specs.Prelude.{map, option_map}
use Rattle.lisp_base.specs.declared.values.Place.{Place}
use Rattle.core_form.specs.declared.tree.Variable.{Variable}
use Rattle.core_form.specs.declared.tree.Parameter.{Parameter as Parameter'}
use Rattle.core_form.specs.declared.tree.Optional.{Optional as Optional'}
use Rattle.core_form.specs.Tree.{Parameter}
use Rattle.core_form.specs.Reading.{parameter_of, core_of}
use Rattle.core_form.specs.ListReading.{parameters_list, optionals_list}
use Rattle.core_form.specs.Facts.{if_given, optional_parameters}
use Rattle.core_form.specs.Step.{optionals_length}
use Rattle.icr_graph.specs.declared.nodes.Leaf.TheVariants as leaf
use Rattle.graph_building.specs.Built.{Built}
use Rattle.icr_convert.specs.declared.names.Names.{Names}
use Rattle.icr_convert.specs.declared.parameters.Bound.{Bound}
use Rattle.icr_convert.specs.Coding.{TakesLeaf, TakesRequired, TakesOptional, TakesOptionals, are_lexical}
use Rattle.icr_convert.proofs.Entering.{none_required, required_first, none_optional, optional_first}

-- the next of a list's elements
next_of : {T : Type 0} (xs : List T) (i : ℕ) (x : T) → i < length xs → x ≡ get_or xs i x → drop i xs ≡ x ∷ drop (i + 1) xs
next_of xs i x within is = drop_more xs i x within ∙ ap (λ y. y ∷ drop (i + 1) xs) (sym is)

-- ---- what stands

pub next_required : (names : Names) (pl : Place) (ps : List Parameter') (i n m : ℕ) (x : Parameter') (a b c : Built) → i < length ps → x ≡ get_or ps i x → m ≡ n + 1 → TakesLeaf names pl (leaf.Argument n) (parameter_of x) a b →
    TakesRequired names pl m (parameters_list (drop (i + 1) ps)) b c → TakesRequired names pl n (parameters_list (drop i ps)) a c
next_required names pl ps i n m x a b c within is more first rest =
    let after : TakesRequired names pl (suc n) (parameters_list (drop (i + 1) ps)) b c = subst (λ (j : ℕ). TakesRequired names pl j (parameters_list (drop (i + 1) ps)) b c) (omega (arith, more)) rest in
    subst (λ (xs : List Parameter'). TakesRequired names pl n (parameters_list xs) a c) (sym (next_of ps i x within is)) (required_first names pl n (parameter_of x) (parameters_list (drop (i + 1) ps)) a b c first after)

pub all_required : (names : Names) (pl : Place) (ps : List Parameter') (i n : ℕ) (a : Built) → length ps ≤ i → TakesRequired names pl n (parameters_list (drop i ps)) a a
all_required names pl ps i n a all = rw (drop_all i ps all) (none_required names pl n a)

pub next_optional : (names : Names) (pl : Place) (os : List Optional') (i n m : ℕ) (o : Optional') (a b c : Built) → i < length os → o ≡ get_or os i o → m ≡ n + 1 → TakesOptional names pl n o a b →
    TakesOptionals names pl m (optionals_list (drop (i + 1) os)) b c → TakesOptionals names pl n (optionals_list (drop i os)) a c
next_optional names pl os i n m o a b c within is more first rest =
    let after : TakesOptionals names pl (suc n) (optionals_list (drop (i + 1) os)) b c = subst (λ (j : ℕ). TakesOptionals names pl j (optionals_list (drop (i + 1) os)) b c) (omega (arith, more)) rest in
    subst (λ (xs : List Optional'). TakesOptionals names pl n (optionals_list xs) a c) (sym (next_of os i o within is))
    (optional_first names pl n (parameter_of o.parameter) (core_of o.default) (option_map parameter_of o.supplied) (optionals_list (drop (i + 1) os)) a b c first after)

pub all_optional : (names : Names) (pl : Place) (os : List Optional') (i n : ℕ) (a : Built) → length os ≤ i → TakesOptionals names pl n (optionals_list (drop i os)) a a
all_optional names pl os i n a all = rw (drop_all i os all) (none_optional names pl n a)

pub optionals_counted : (os : List Optional') → optionals_length (optionals_list os) ≡ length os
optionals_counted [] = refl
optionals_counted (o ∷ os) = omega (arith, optionals_counted os)

-- ---- what is bound

-- the variables of what was bound
abbrev pub bound_in : List Bound → List Variable
bound_in bs = map (λ x. x.variable) bs

abbrev pub variables_of : List Parameter → List Variable
variables_of xs = map (λ x. x.variable) xs

pub bound_more : (bs more : List Bound) (y : Bound) (v : Variable) → more ≡ bs ++ y ∷ [] → y.variable ≡ v → bound_in more ≡ bound_in bs ++ v ∷ []
bound_more bs more y v added same = ap bound_in added ∙ (map-append (λ (x : Bound). x.variable) bs (y ∷ []) ∙ ap (λ (w : Variable). bound_in bs ++ w ∷ []) same)

-- what is bound, and then more
pub bound_then : (new mid old first then : List Variable) → mid ≡ old ++ first → new ≡ mid ++ then → new ≡ old ++ (first ++ then)
bound_then new mid old first then one two = two ∙ (ap (λ (vs : List Variable). vs ++ then) one ∙ append_assoc old first then)

-- what was still to be bound is bound in turn
pub bound_next : (mid old start first then all : List Variable) → mid ≡ old ++ first → old ++ (first ++ then) ≡ start ++ all → mid ++ then ≡ start ++ all
bound_next mid old start first then all one so_far = ap (λ (vs : List Variable). vs ++ then) one ∙ (append_assoc old first then ∙ so_far)

pub next_parameter : (ps : List Parameter') (i : ℕ) (x : Parameter') → i < length ps → x ≡ get_or ps i x →
    variables_of (parameters_list (drop i ps)) ≡ (x.variable ∷ []) ++ variables_of (parameters_list (drop (i + 1) ps))
next_parameter ps i x within is = ap (λ (xs : List Parameter'). variables_of (parameters_list xs)) (next_of ps i x within is)

pub next_optional_bound : (os : List Optional') (i : ℕ) (o : Optional') → i < length os → o ≡ get_or os i o →
    variables_of (optional_parameters (optionals_list (drop i os))) ≡ variables_of (parameter_of o.parameter ∷ if_given (option_map parameter_of o.supplied)) ++ variables_of (optional_parameters (optionals_list (drop (i + 1) os)))
next_optional_bound os i o within is =
    ap (λ (xs : List Optional'). variables_of (optional_parameters (optionals_list xs))) (next_of os i o within is)
    ∙ ap (λ (vs : List Variable). o.parameter.variable ∷ vs) (map-append (λ (x : Parameter). x.variable) (if_given (option_map parameter_of o.supplied)) (optional_parameters (optionals_list (drop (i + 1) os))))

-- ---- lexical variables

pub lexical_next : (bs : List Bound) (i : ℕ) (x : Bound) → i < length bs → x ≡ get_or bs i x → are_lexical (bound_in (drop i bs)) ≡ are_lexical (x.variable ∷ bound_in (drop (i + 1) bs))
lexical_next bs i x within is = ap (λ (xs : List Bound). are_lexical (bound_in xs)) (next_of bs i x within is)
