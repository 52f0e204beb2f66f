-- The marks of a round are the closed variables to a depth.
use Rattle.std.specs.Prelude.{◌≡◌, refl, ℕ, zero, suc, ◌+◌, Bool, true, false, not, ◌&&◌, ◌||◌, ◌==◌, if◌then◌else◌, List, [], ◌∷◌, ◌++◌, length, Option, Some, None, flat_map, map}
use Rattle.std.specs.List.{list_any}
use Rattle.std.proofs.Common.{ap, sym, ◌∙◌, arith, append_assoc, length-append}
use Rattle.std.proofs.Math.Seq.{get_or-append_seam}
use Rattle.std.proofs.lemmas.List.{map-append}
use Rattle.core_form.specs.Facts.{FunctionText, Names, lookup, has_number, union, inner, on_local, in_function, referred, functions_used, extents, closed_to}
use Rattle.closed_copies.specs.Events.{Event, refers, calls, lambda_events}
use Rattle.closed_copies.specs.Table.{Entry, as_list, place_from, called_of, bound_of, entry}
use Rattle.closed_copies.specs.Marks.{is_marked, closes_over, one_round, rounds, unmarked}
use Rattle.closed_copies.proofs.Sets.{has_append, has_union, has_without, or_none, or_assoc}
use Rattle.closed_copies.proofs.Told.{pairs, call_of, refers_are, calls_are, bound_are, opened_are}

-- ---- the function at a place is that of a number

abbrev pub on_found : (FunctionText → Bool) → Option FunctionText → Bool
on_found b None = false
on_found b (Some f) = b f

abbrev pub values_of : (FunctionText → Bool) → List (ℕ × FunctionText) → List Bool
values_of b ds = map (λ d. b d.1) ds

abbrev pub numbers_of : List (ℕ × FunctionText) → List ℕ
numbers_of ds = map (λ d. d.0) ds

here_or_later : (c : Bool) (marks : List Bool) (i : ℕ) (o : Option ℕ) (b : FunctionText → Bool) (f : FunctionText) (q : Option FunctionText) → is_marked marks i ≡ b f →
    list_any (is_marked marks) (as_list o) ≡ on_found b q → list_any (is_marked marks) (as_list (if c then Some i else o)) ≡ on_found b (if c then Some f else q)
here_or_later true marks i o b f q h k = or_none (is_marked marks i) ∙ h
here_or_later false marks i o b f q h k = k

found : (b : FunctionText → Bool) (before : List Bool) (ds : List (ℕ × FunctionText)) (rest : List Bool) (i n : ℕ) → i ≡ length before →
    list_any (is_marked (before ++ (values_of b ds ++ rest))) (as_list (place_from i n (numbers_of ds))) ≡ on_found b (lookup n ds)
found b before [] rest i n e = refl
found b before (d ∷ ds) rest i n e =
    let marks : List Bool = before ++ (b d.1 ∷ (values_of b ds ++ rest)) in
    let here : is_marked marks i ≡ b d.1 = ap (λ (k : ℕ). is_marked marks k) e ∙ get_or-append_seam before (b d.1) (values_of b ds ++ rest) false in
    let next : (i + 1) ≡ length (before ++ b d.1 ∷ []) = ap (λ (k : ℕ). k + 1) e ∙ sym (length-append before (b d.1 ∷ [])) in
    let later = found b (before ++ b d.1 ∷ []) ds rest (i + 1) n next in
    let same : (before ++ b d.1 ∷ []) ++ (values_of b ds ++ rest) ≡ marks = append_assoc before (b d.1 ∷ []) (values_of b ds ++ rest) in
    here_or_later (n == d.0) marks i (place_from (i + 1) n (numbers_of ds)) b d.1 (lookup n ds) here
    (sym (ap (λ (ms : List Bool). list_any (is_marked ms) (as_list (place_from (i + 1) n (numbers_of ds)))) same) ∙ later)

pub found_first : (b : FunctionText → Bool) (ds : List (ℕ × FunctionText)) (rest : List Bool) (n : ℕ) →
    list_any (is_marked (values_of b ds ++ rest)) (as_list (place_from 0 n (numbers_of ds))) ≡ on_found b (lookup n ds)
found_first b ds rest n = found b [] ds rest 0 n refl

-- ---- any of those that are called

any_append : (test : ℕ → Bool) (xs ys : List ℕ) → list_any test (xs ++ ys) ≡ (list_any test xs || list_any test ys)
any_append test [] ys = refl
any_append test (x ∷ xs) ys = ap (λ (b : Bool). test x || b) (any_append test xs ys) ∙ or_assoc (test x) (list_any test xs) (list_any test ys)

-- whether a number is a closed variable of a function, to a depth
abbrev pub is_closed : ℕ → ℕ → Names → FunctionText → Bool
is_closed x n ns f = has_number x (closed_to n ns f)

on_found_is : (x n : ℕ) (ns : Names) (q : Option FunctionText) → on_found (is_closed x n ns) q ≡ has_number x (on_local (closed_to n ns) q)
on_found_is x n ns None = refl
on_found_is x n ns (Some f) = refl

abbrev pub closed_in_called : ℕ → Names → ℕ → List ℕ
closed_in_called n ns k = on_local (closed_to n ns) (lookup k ns.functions)

any_called : (x n : ℕ) (ns : Names) (rest : List Bool) (es : List Event) →
    list_any (is_marked (values_of (is_closed x n ns) ns.functions ++ rest)) (flat_map (called_of (numbers_of ns.functions)) es)
    ≡ has_number x (flat_map (closed_in_called n ns) (flat_map call_of es))
any_called x n ns rest [] = refl
any_called x n ns rest (calls k ∷ es) =
    let marks : List Bool = values_of (is_closed x n ns) ns.functions ++ rest in
    let places : List ℕ = flat_map (called_of (numbers_of ns.functions)) es in
    let others : List ℕ = flat_map (closed_in_called n ns) (flat_map call_of es) in
    any_append (is_marked marks) (as_list (place_from 0 k (numbers_of ns.functions))) places
    ∙ ap (λ (b : Bool). b || list_any (is_marked marks) places) (found_first (is_closed x n ns) ns.functions rest k ∙ on_found_is x n ns (lookup k ns.functions))
    ∙ ap (λ (b : Bool). has_number x (closed_in_called n ns k) || b) (any_called x n ns rest es)
    ∙ sym (has_append x (closed_in_called n ns k) others)
any_called x n ns rest (_ ∷ es) = any_called x n ns rest es

-- ---- one round

abbrev pub entry_in : Names → FunctionText → Entry
entry_in ns f = entry (pairs ns.tags) (numbers_of ns.functions) f.lambda

pub closed_by : (x n : ℕ) (ns : Names) (f : FunctionText) →
    is_closed x (suc n) ns f ≡ ((has_number x (entry_in ns f).refers || has_number x (flat_map (closed_in_called n ns) (flat_map call_of (lambda_events f.lambda)))) && not (has_number x (entry_in ns f).inner))
unfolding closed_to
closed_by x n ns f =
    let rs : List ℕ = in_function (referred ns) f in
    let fs : List ℕ = in_function functions_used f in
    let es : List Event = lambda_events f.lambda in
    let all : List ℕ = union (union [] rs) (flat_map (closed_in_called n ns) fs) in
    has_without x all (inner f)
    ∙ ap (λ (b : Bool). b && not (has_number x (inner f)))
    (has_union x (union [] rs) (flat_map (closed_in_called n ns) fs) ∙ ap (λ (b : Bool). b || has_number x (flat_map (closed_in_called n ns) fs)) (has_union x [] rs))
    ∙ ap (λ (ys : List ℕ). (has_number x ys || has_number x (flat_map (closed_in_called n ns) fs)) && not (has_number x (inner f))) (sym (refers_are ns f))
    ∙ ap (λ (ks : List ℕ). (has_number x (entry_in ns f).refers || has_number x (flat_map (closed_in_called n ns) ks)) && not (has_number x (inner f))) (sym (calls_are f))
    ∙ ap (λ (ys : List ℕ). (has_number x (entry_in ns f).refers || has_number x (flat_map (closed_in_called n ns) (flat_map call_of es))) && not (has_number x (ys ++ in_function extents f))) (sym (bound_are f))
    ∙ ap (λ (ys : List ℕ). (has_number x (entry_in ns f).refers || has_number x (flat_map (closed_in_called n ns) (flat_map call_of es))) && not (has_number x (flat_map bound_of es ++ ys))) (sym (opened_are f))

closes_is : (x n : ℕ) (ns : Names) (rest : List Bool) (f : FunctionText) → closes_over x (values_of (is_closed x n ns) ns.functions ++ rest) (entry_in ns f) ≡ is_closed x (suc n) ns f
closes_is x n ns rest f =
    ap (λ (b : Bool). (has_number x (entry_in ns f).refers || b) && not (has_number x (entry_in ns f).inner)) (any_called x n ns rest (lambda_events f.lambda)) ∙ sym (closed_by x n ns f)

-- ---- all rounds

-- the functions of a form: the local ones, and then the others
abbrev pub texts_of : List (ℕ × FunctionText) → List FunctionText
texts_of ds = map (λ d. d.1) ds

abbrev pub all_texts : Names → List FunctionText → List FunctionText
all_texts ns others = texts_of ns.functions ++ others

abbrev pub table_of : Names → List FunctionText → List Entry
table_of ns others = map (entry_in ns) (all_texts ns others)

abbrev pub marks_to : ℕ → ℕ → Names → List FunctionText → List Bool
marks_to x n ns others = map (is_closed x n ns) (all_texts ns others)

map_each : (u : Entry → Bool) (v : FunctionText → Bool) (g : FunctionText → Entry) → ((f : FunctionText) → u (g f) ≡ v f) → (fs : List FunctionText) → map u (map g fs) ≡ map v fs
map_each u v g h [] = refl
map_each u v g h (f ∷ fs) = ap (λ (b : Bool). b ∷ map u (map g fs)) (h f) ∙ ap (λ (bs : List Bool). v f ∷ bs) (map_each u v g h fs)

values_are : (b : FunctionText → Bool) (ds : List (ℕ × FunctionText)) → map b (texts_of ds) ≡ values_of b ds
values_are b [] = refl
values_are b (d ∷ ds) = ap (λ (bs : List Bool). b d.1 ∷ bs) (values_are b ds)

pub marks_split : (x n : ℕ) (ns : Names) (others : List FunctionText) → marks_to x n ns others ≡ values_of (is_closed x n ns) ns.functions ++ map (is_closed x n ns) others
marks_split x n ns others =
    map-append (is_closed x n ns) (texts_of ns.functions) others ∙ ap (λ (bs : List Bool). bs ++ map (is_closed x n ns) others) (values_are (is_closed x n ns) ns.functions)

round_is : (x n : ℕ) (ns : Names) (others : List FunctionText) → one_round x (table_of ns others) (marks_to x n ns others) ≡ marks_to x (suc n) ns others
round_is x n ns others =
    ap (one_round x (table_of ns others)) (marks_split x n ns others)
    ∙ map_each (closes_over x (values_of (is_closed x n ns) ns.functions ++ map (is_closed x n ns) others)) (is_closed x (suc n) ns) (entry_in ns) (closes_is x n ns (map (is_closed x n ns) others)) (all_texts ns others)

rounds_are : (x : ℕ) (ns : Names) (others : List FunctionText) (m n k : ℕ) → n + m ≡ k → rounds m x (table_of ns others) (marks_to x n ns others) ≡ marks_to x k ns others
rounds_are x ns others zero n k e = ap (λ (j : ℕ). marks_to x j ns others) (omega (arith, e))
rounds_are x ns others (suc m) n k e =
    ap (rounds m x (table_of ns others)) (round_is x n ns others) ∙ rounds_are x ns others m (suc n) k (omega (arith, e))

pub none_closed : (x : ℕ) (ns : Names) (f : FunctionText) → false ≡ is_closed x 0 ns f
unfolding closed_to
none_closed x ns f = refl

pub marks_are : (x : ℕ) (ns : Names) (others : List FunctionText) (n : ℕ) → rounds n x (table_of ns others) (unmarked (table_of ns others)) ≡ marks_to x n ns others
marks_are x ns others n =
    ap (rounds n x (table_of ns others)) (map_each (λ t. false) (is_closed x 0 ns) (entry_in ns) (none_closed x ns) (all_texts ns others)) ∙ rounds_are x ns others n 0 n (omega arith)
