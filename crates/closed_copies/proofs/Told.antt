-- What the events of a form tell is what its closed variables are read from.
use Rattle.std.specs.Prelude.{◌≡◌, refl, ℕ, zero, suc, ◌+◌, Bool, true, false, if◌then◌else◌, ◌==◌, List, [], ◌∷◌, ◌++◌, length, Option, Some, None, flat_map}
use Rattle.std.proofs.Common.{ap, sym, ◌∙◌, append-nil}
use Rattle.std.proofs.lemmas.List.Concat.{flat_map-append}
use Rattle.lisp_base.specs.declared.values.Place.{Place}
use Rattle.lisp_base.specs.declared.values.SymId.{SymId}
use Rattle.core_form.specs.Tree.{Core, Let, Function, Labels, CallLocal, FunLocal, Tagbody, Go, Lambda, lambda, Parameter, Definitions, no_definition, define, Items, no_item, tag, step}
use Rattle.core_form.specs.Facts.{FunctionText, TagText, Names, lookup, gather, gather_lambda, gather_optionals, no_function, local_functions, definitions_of, tag_texts, item_tags, tagbody_left, tagbody_number, referred, functions_used, extents, at_nodes, in_function, parameter_number, let_parameters, function_parameters, binding_parameters, closed_to, inner, on_local, union, without}
use Rattle.closed_copies.specs.Copies.{copied, closed_number, local_number}
use Rattle.closed_copies.specs.Events.{Event, binds, calls, makes, defines, stands, bind_all, one_parameter, parameter_events, definition_events, tag_events, node_events, function_events, lambda_events, events}
use Rattle.closed_copies.specs.Table.{as_list, tag_of, referred_of, bound_of, opened_of}
use Rattle.closed_copies.proofs.Carried.{Carries, carried, lambda_carried}

-- ---- where variables bound, functions defined, or tags tell nothing

unbound : {B : Type 0} (f : Event → List B) → ((n : ℕ) → f (binds n) ≡ []) → (ns : List ℕ) → flat_map f (bind_all ns) ≡ []
unbound f h [] = refl
unbound f h (n ∷ ns) = ap (λ xs. xs ++ flat_map f (bind_all ns)) (h n) ∙ unbound f h ns

unbound_all : {B : Type 0} (f : Event → List B) → ((n : ℕ) → f (binds n) ≡ []) → (xs : List Parameter) → flat_map f (parameter_events xs) ≡ []
unbound_all f h [] = refl
unbound_all f h (x ∷ xs) =
    flat_map-append f (one_parameter x) (parameter_events xs) ∙ ap (λ ys. ys ++ flat_map f (parameter_events xs)) (unbound f h (parameter_number x)) ∙ unbound_all f h xs

undefined : {B : Type 0} (f : Event → List B) → ((n : ℕ) (t : FunctionText) → f (defines n t) ≡ []) → (ds : Definitions) → flat_map f (definition_events ds) ≡ []
undefined f h no_definition = refl
undefined f h (define p n name l ds) =
    ap (λ xs. xs ++ flat_map f (definition_events ds)) (h n (record { name = Some name; place = p; lambda = l })) ∙ undefined f h ds

untagged : {B : Type 0} (f : Event → List B) → ((t b : ℕ) → f (stands t b) ≡ []) → (b : ℕ) (is : Items) → flat_map f (tag_events b is) ≡ []
untagged f h b no_item = refl
untagged f h b (tag t v is) = ap (λ xs. xs ++ flat_map f (tag_events b is)) (h t b) ∙ untagged f h b is
untagged f h b (step e is) = untagged f h b is

-- ---- the events of a function

in_parts : {B : Type 0} (f : Event → List B) (g : Core → List B) (h : FunctionText → List B) → Carries f node_events function_events g h → (name : Option SymId) (p : Place) (l : Lambda) →
    flat_map f (lambda_events l) ≡ gather_lambda g h name p l
unfolding gather gather_lambda gather_optionals
in_parts f g h k name p (lambda n xs os r e) = lambda_carried f node_events function_events g h k name p (lambda n xs os r e)

pub of_function : {B : Type 0} (f : Event → List B) (g : Core → List B) (h : FunctionText → List B) → Carries f node_events function_events g h → (t : FunctionText) →
    flat_map f (lambda_events t.lambda) ≡ gather_lambda g h t.name t.place t.lambda
of_function f g h k t = in_parts f g h k t.name t.place t.lambda

silent : {B : Type 0} (f : Event → List B) → ((n : ℕ) → f (binds n) ≡ []) → (t : FunctionText) → flat_map f (function_events t) ≡ []
silent f h t = unbound_all f h (function_parameters t)

-- ---- tags

abbrev pub pair_of : ℕ × TagText → List (ℕ × ℕ)
pair_of t = (t.0, t.1.tagbody) ∷ []

abbrev pub pairs : List (ℕ × TagText) → List (ℕ × ℕ)
pairs ts = flat_map pair_of ts

left_or : (b : Bool) (x : TagText) (o : Option ℕ) (q : Option TagText) → as_list o ≡ tagbody_left q → as_list (if b then Some x.tagbody else o) ≡ tagbody_left (if b then Some x else q)
left_or true x o q h = refl
left_or false x o q h = h

left_is : (n : ℕ) (ts : List (ℕ × TagText)) → as_list (lookup n (pairs ts)) ≡ tagbody_left (lookup n ts)
left_is n [] = refl
left_is n (t ∷ ts) = left_or (n == t.0) t.1 (lookup n (pairs ts)) (lookup n ts) (left_is n ts)

item_tags_are : (b : ℕ) (is : Items) → flat_map tag_of (tag_events b is) ≡ pairs (item_tags b is)
item_tags_are b no_item = refl
item_tags_are b (tag t v is) = ap (λ (xs : List (ℕ × ℕ)). (t, b) ∷ xs) (item_tags_are b is)
item_tags_are b (step e is) = item_tags_are b is

tags_at : (e : Core) → flat_map tag_of (node_events e) ≡ pairs (tag_texts e)
tags_at (Let p bs e) = unbound_all tag_of (λ n. refl) (binding_parameters bs)
tags_at (Labels p ds e) = undefined tag_of (λ n t. refl) ds
tags_at (Tagbody p is) = item_tags_are (tagbody_number is) is
tags_at _ = refl

pub tags_are : (e : Core) → flat_map tag_of (events e) ≡ pairs (at_nodes tag_texts e)
tags_are e =
    carried tag_of node_events function_events (λ (c : Core). pairs (tag_texts c)) no_function (record { nodes = tags_at; functions = silent tag_of (λ n. refl) }) e
    ∙ sym (carried pair_of tag_texts no_function (λ (c : Core). pairs (tag_texts c)) no_function (record { nodes = λ c. refl; functions = λ t. refl }) e)

-- ---- what a function refers to and leaves

referred_at : (ns : Names) (e : Core) → flat_map (referred_of (pairs ns.tags)) (node_events e) ≡ referred ns e
referred_at ns (Let p bs e) = unbound_all (referred_of (pairs ns.tags)) (λ n. refl) (binding_parameters bs)
referred_at ns (Labels p ds e) = undefined (referred_of (pairs ns.tags)) (λ n t. refl) ds
referred_at ns (Tagbody p is) = untagged (referred_of (pairs ns.tags)) (λ t b. refl) (tagbody_number is) is
referred_at ns (Go p t) = append-nil (as_list (lookup t (pairs ns.tags))) ∙ left_is t ns.tags
referred_at ns _ = refl

pub refers_are : (ns : Names) (t : FunctionText) → flat_map (referred_of (pairs ns.tags)) (lambda_events t.lambda) ≡ in_function (referred ns) t
refers_are ns t =
    of_function (referred_of (pairs ns.tags)) (referred ns) no_function (record { nodes = referred_at ns; functions = silent (referred_of (pairs ns.tags)) (λ n. refl) }) t

-- ---- the local functions to which it refers

abbrev pub call_of : Event → List ℕ
call_of (calls f) = f ∷ []
call_of _ = []

used_at : (e : Core) → flat_map call_of (node_events e) ≡ functions_used e
used_at (Let p bs e) = unbound_all call_of (λ n. refl) (binding_parameters bs)
used_at (Labels p ds e) = undefined call_of (λ n t. refl) ds
used_at (Tagbody p is) = untagged call_of (λ t b. refl) (tagbody_number is) is
used_at _ = refl

pub calls_are : (t : FunctionText) → flat_map call_of (lambda_events t.lambda) ≡ in_function functions_used t
calls_are t = of_function call_of functions_used no_function (record { nodes = used_at; functions = silent call_of (λ n. refl) }) t

-- ---- what is bound inside it

all_bound : (ns : List ℕ) → flat_map bound_of (bind_all ns) ≡ ns
all_bound [] = refl
all_bound (n ∷ ns) = ap (λ (ms : List ℕ). n ∷ ms) (all_bound ns)

all_bound_in : (xs : List Parameter) → flat_map bound_of (parameter_events xs) ≡ flat_map parameter_number xs
all_bound_in [] = refl
all_bound_in (x ∷ xs) =
    flat_map-append bound_of (one_parameter x) (parameter_events xs) ∙ ap (λ (ms : List ℕ). ms ++ flat_map bound_of (parameter_events xs)) (all_bound (parameter_number x))
    ∙ ap (λ (ms : List ℕ). parameter_number x ++ ms) (all_bound_in xs)

bound_at : (e : Core) → flat_map bound_of (node_events e) ≡ flat_map parameter_number (let_parameters e)
bound_at (Let p bs e) = all_bound_in (binding_parameters bs)
bound_at (Labels p ds e) = undefined bound_of (λ n t. refl) ds
bound_at (Tagbody p is) = untagged bound_of (λ t b. refl) (tagbody_number is) is
bound_at _ = refl

pub bound_are : (t : FunctionText) → flat_map bound_of (lambda_events t.lambda) ≡ flat_map parameter_number (gather_lambda let_parameters function_parameters t.name t.place t.lambda)
bound_are t =
    let at : Core → List ℕ = λ e. flat_map parameter_number (let_parameters e) in
    let here : FunctionText → List ℕ = λ u. flat_map parameter_number (function_parameters u) in
    of_function bound_of at here (record { nodes = bound_at; functions = λ u. all_bound_in (function_parameters u) }) t
    ∙ sym (lambda_carried parameter_number let_parameters function_parameters at here (record { nodes = λ e. refl; functions = λ u. refl }) t.name t.place t.lambda)

opened_at : (e : Core) → flat_map opened_of (node_events e) ≡ extents e
opened_at (Let p bs e) = unbound_all opened_of (λ n. refl) (binding_parameters bs)
opened_at (Labels p ds e) = undefined opened_of (λ n t. refl) ds
opened_at (Tagbody p is) = ap (λ (ms : List ℕ). tagbody_number is ∷ ms) (untagged opened_of (λ t b. refl) (tagbody_number is) is)
opened_at _ = refl

pub opened_are : (t : FunctionText) → flat_map opened_of (lambda_events t.lambda) ≡ in_function extents t
opened_are t = of_function opened_of extents no_function (record { nodes = opened_at; functions = silent opened_of (λ n. refl) }) t

-- ---- the local functions of a form

abbrev pub local_of : Event → List (ℕ × FunctionText)
local_of (defines n t) = (n, t) ∷ []
local_of _ = []

defined_are : (ds : Definitions) → flat_map local_of (definition_events ds) ≡ definitions_of ds
defined_are no_definition = refl
defined_are (define p n name l ds) = ap (λ (xs : List (ℕ × FunctionText)). (n, record { name = Some name; place = p; lambda = l }) ∷ xs) (defined_are ds)

locals_at : (e : Core) → flat_map local_of (node_events e) ≡ local_functions e
locals_at (Let p bs e) = unbound_all local_of (λ n. refl) (binding_parameters bs)
locals_at (Labels p ds e) = defined_are ds
locals_at (Tagbody p is) = untagged local_of (λ t b. refl) (tagbody_number is) is
locals_at _ = refl

pub locals_are : (e : Core) → flat_map local_of (events e) ≡ at_nodes local_functions e
locals_are e = carried local_of node_events function_events local_functions no_function (record { nodes = locals_at; functions = silent local_of (λ n. refl) }) e

-- ---- what is copied

-- a function made, as a text at some place
abbrev pub made_at : Place → Lambda → FunctionText
made_at p l = record { name = None; place = p; lambda = l }

-- a node's parts don't depend on the name and the place of the function in which they stand
parts_anywhere : {A : Type 0} (g : Core → List A) (h : FunctionText → List A) → ((a b : Option SymId) (p q : Place) (l : Lambda) → h (record { name = a; place = p; lambda = l }) ≡ h (record { name = b; place = q; lambda = l })) →
    (a b : Option SymId) (p q : Place) (l : Lambda) → gather_lambda g h a p l ≡ gather_lambda g h b q l
unfolding gather_lambda
parts_anywhere g h k a b p q (lambda n xs os r e) =
    ap (λ xs. xs ++ gather_optionals g h os ++ gather g h e) (k a b p q (lambda n xs os r e))

referred_anywhere : (ns : Names) (a b : Option SymId) (p q : Place) (l : Lambda) → gather_lambda (referred ns) no_function a p l ≡ gather_lambda (referred ns) no_function b q l
referred_anywhere ns a b p q l = parts_anywhere (referred ns) no_function (λ a b p q l. refl) a b p q l

used_anywhere : (a b : Option SymId) (p q : Place) (l : Lambda) → gather_lambda functions_used no_function a p l ≡ gather_lambda functions_used no_function b q l
used_anywhere a b p q l = parts_anywhere functions_used no_function (λ a b p q l. refl) a b p q l

inner_anywhere : (a b : Option SymId) (p q : Place) (l : Lambda) → inner (record { name = a; place = p; lambda = l }) ≡ inner (record { name = b; place = q; lambda = l })
inner_anywhere a b p q l =
    ap (λ xs. flat_map parameter_number xs ++ gather_lambda extents no_function a p l) (parts_anywhere let_parameters function_parameters (λ a b p q l. refl) a b p q l)
    ∙ ap (λ xs. flat_map parameter_number (gather_lambda let_parameters function_parameters b q l) ++ xs) (parts_anywhere extents no_function (λ a b p q l. refl) a b p q l)

abbrev variables_in : ℕ → Names → List ℕ → List ℕ → List ℕ → List ℕ
variables_in n ns rs fs bs = without (union (union [] rs) (flat_map (λ k. on_local (closed_to n ns) (lookup k ns.functions)) fs)) bs

-- nor do its closed variables
closed_anywhere : (n : ℕ) (ns : Names) (a b : Option SymId) (p q : Place) (l : Lambda) → closed_to n ns (record { name = a; place = p; lambda = l }) ≡ closed_to n ns (record { name = b; place = q; lambda = l })
unfolding closed_to
closed_anywhere zero ns a b p q l = refl
closed_anywhere (suc n) ns a b p q l =
    ap (λ rs. variables_in n ns rs (gather_lambda functions_used no_function a p l) (inner (record { name = a; place = p; lambda = l }))) (referred_anywhere ns a b p q l)
    ∙ ap (λ fs. variables_in n ns (gather_lambda (referred ns) no_function b q l) fs (inner (record { name = a; place = p; lambda = l }))) (used_anywhere a b p q l)
    ∙ ap (λ bs. variables_in n ns (gather_lambda (referred ns) no_function b q l) (gather_lambda functions_used no_function b q l) bs) (inner_anywhere a b p q l)

abbrev pub copies_of : Names → Place → Event → List ℕ
copies_of ns p (makes l) = closed_number ns (made_at p l) ∷ []
copies_of ns p (calls k) = local_number ns k
copies_of ns p _ = []

copies_at : (ns : Names) (q : Place) (e : Core) → flat_map (copies_of ns q) (node_events e) ≡ copied ns e
copies_at ns q (Let p bs e) = unbound_all (copies_of ns q) (λ n. refl) (binding_parameters bs)
copies_at ns q (Labels p ds e) = undefined (copies_of ns q) (λ n t. refl) ds
copies_at ns q (Tagbody p is) = untagged (copies_of ns q) (λ t b. refl) (tagbody_number is) is
copies_at ns q (Function p l) = ap (λ (xs : List ℕ). length xs ∷ []) (closed_anywhere (length ns.functions + 1) ns None None q p l)
copies_at ns q (CallLocal p k es) = append-nil (local_number ns k)
copies_at ns q (FunLocal p k) = append-nil (local_number ns k)
copies_at ns q _ = refl

pub copies_are : (ns : Names) (p : Place) (e : Core) → flat_map (copies_of ns p) (events e) ≡ at_nodes (copied ns) e
copies_are ns p e =
    carried (copies_of ns p) node_events function_events (copied ns) no_function (record { nodes = copies_at ns p; functions = silent (copies_of ns p) (λ n. refl) }) e
