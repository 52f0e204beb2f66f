-- The lists of a round are the closed variables to a depth.
use Rattle.std.specs.Prelude.{◌≡◌, refl, ℕ, zero, suc, ◌+◌, ◌-◌, ◌<◌, Bool, true, false, ◌==◌, if◌then◌else◌, List, [], ◌∷◌, ◌++◌, length, Option, Some, flat_map, map}
use Rattle.std.proofs.Common.{ap, sym, ◌∙◌, arith, append_assoc, append-nil, length-append}
use Rattle.std.proofs.Math.Seq.{get_or-append_seam}
use Rattle.std.proofs.lemmas.Option.{unwrap_or-slice_get}
use Rattle.std.proofs.lemmas.List.{length-map}
use Rattle.std.proofs.lemmas.List.Concat.{flat_map-append}
use Rattle.core_form.specs.Tree.{Core}
use Rattle.core_form.specs.Facts.{FunctionText, Names, names_in, lookup, union, without, on_local, in_function, referred, functions_used, closed_to, closed_in, functions_in, parameter_number, gather_lambda, let_parameters, function_parameters}
use Rattle.closed_copies.specs.Events.{Event, calls, defines, lambda_events, events}
use Rattle.closed_copies.specs.Table.{Entry, as_list, place_from, called_of, opened_of, local_entry, number_of}
use Rattle.closed_copies.proofs.Told.{pairs, call_of, refers_are, calls_are, bound_are, opened_are, local_of, locals_are, tags_are}
use Rattle.closed_copies.proofs.Marked.{numbers_of, texts_of, entry_in}
use Rattle.form_facts.specs.View.{list_at}
use Rattle.form_facts.specs.Parts.{parts}
use Rattle.form_facts.specs.Lists.{lists_at, closed_from, one_round, rounds, none_closed, tags_in, locals_in, local_table, local_lists, closed_of_lambda, closed_of_parts}
use Rattle.form_facts.proofs.Gathered.{made_are}
use Rattle.form_facts.proofs.NumberLaws.{without_once}

-- ---- the list at a place is that of the function of a number

here_or_later : (c : Bool) (lists : List (List ℕ)) (i : ℕ) (o : Option ℕ) (g : FunctionText → List ℕ) (f : FunctionText) (q : Option FunctionText) → list_at lists i ≡ g f →
    lists_at lists (as_list o) ≡ on_local g q → lists_at lists (as_list (if c then Some i else o)) ≡ on_local g (if c then Some f else q)
here_or_later true lists i o g f q h k = append-nil (list_at lists i) ∙ h
here_or_later false lists i o g f q h k = k

found : (g : FunctionText → List ℕ) (before : List (List ℕ)) (ds : List (ℕ × FunctionText)) (i n : ℕ) → i ≡ length before →
    lists_at (before ++ map g (texts_of ds)) (as_list (place_from i n (numbers_of ds))) ≡ on_local g (lookup n ds)
found g before [] i n e = refl
found g before (d ∷ ds) i n e =
    let lists : List (List ℕ) = before ++ (g d.1 ∷ map g (texts_of ds)) in
    let here : list_at lists i ≡ g d.1 =
    ap (list_at lists) e ∙ unwrap_or-slice_get lists (length before) [] ∙ get_or-append_seam before (g d.1) (map g (texts_of ds)) [] in
    let next : (i + 1) ≡ length (before ++ g d.1 ∷ []) = ap (λ (k : ℕ). k + 1) e ∙ sym (length-append before (g d.1 ∷ [])) in
    let later = found g (before ++ g d.1 ∷ []) ds (i + 1) n next in
    let same : (before ++ g d.1 ∷ []) ++ map g (texts_of ds) ≡ lists = append_assoc before (g d.1 ∷ []) (map g (texts_of ds)) in
    here_or_later (n == d.0) lists i (place_from (i + 1) n (numbers_of ds)) g d.1 (lookup n ds) here
    (sym (ap (λ (ls : List (List ℕ)). lists_at ls (as_list (place_from (i + 1) n (numbers_of ds)))) same) ∙ later)

abbrev local_closed : ℕ → Names → List (List ℕ)
local_closed n ns = map (closed_to n ns) (texts_of ns.functions)

abbrev closed_in_called : ℕ → Names → ℕ → List ℕ
closed_in_called n ns k = on_local (closed_to n ns) (lookup k ns.functions)

all_called : (n : ℕ) (ns : Names) (es : List Event) →
    lists_at (local_closed n ns) (flat_map (called_of (numbers_of ns.functions)) es) ≡ flat_map (closed_in_called n ns) (flat_map call_of es)
all_called n ns [] = refl
all_called n ns (calls k ∷ es) =
    let lists : List (List ℕ) = local_closed n ns in
    let places : List ℕ = flat_map (called_of (numbers_of ns.functions)) es in
    flat_map-append (list_at lists) (as_list (place_from 0 k (numbers_of ns.functions))) places
    ∙ ap (λ (xs : List ℕ). xs ++ lists_at lists places) (found (closed_to n ns) [] ns.functions 0 k refl)
    ∙ ap (λ (xs : List ℕ). closed_in_called n ns k ++ xs) (all_called n ns es)
all_called n ns (_ ∷ es) = all_called n ns es

-- ---- one round

abbrev variables_of : List ℕ → List ℕ → List ℕ → List ℕ
variables_of rs cs bs = without (union (union [] rs) cs) bs

pub closed_is : (n : ℕ) (ns : Names) (f : FunctionText) → closed_from (local_closed n ns) (entry_in ns f) ≡ closed_to (suc n) ns f
unfolding closed_to
closed_is n ns f =
    let es : List Event = lambda_events f.lambda in
    let cs : List ℕ = lists_at (local_closed n ns) (entry_in ns f).calls in
    ap (λ (rs : List ℕ). variables_of rs cs (entry_in ns f).inner) (refers_are ns f)
    ∙ ap (λ (xs : List ℕ). variables_of (in_function (referred ns) f) xs (entry_in ns f).inner) (all_called n ns es ∙ ap (flat_map (closed_in_called n ns)) (calls_are f))
    ∙ ap (λ (bs : List ℕ). variables_of (in_function (referred ns) f) (flat_map (closed_in_called n ns) (in_function functions_used f)) (bs ++ flat_map opened_of es)) (bound_are f)
    ∙ ap (λ (bs : List ℕ). variables_of (in_function (referred ns) f) (flat_map (closed_in_called n ns) (in_function functions_used f)) (flat_map parameter_number (gather_lambda let_parameters function_parameters f.name f.place f.lambda) ++ bs)) (opened_are f)

-- ---- all rounds

map_each : {A B C : Type 0} (u : B → C) (v : A → C) (g : A → B) → ((a : A) → u (g a) ≡ v a) → (xs : List A) → map u (map g xs) ≡ map v xs
map_each u v g h [] = refl
map_each {C = C} u v g h (x ∷ xs) = ap (λ (b : C). b ∷ map u (map g xs)) (h x) ∙ ap (λ (bs : List C). v x ∷ bs) (map_each u v g h xs)

abbrev table_of : Names → List Entry
table_of ns = map (entry_in ns) (texts_of ns.functions)

round_is : (n : ℕ) (ns : Names) → one_round (table_of ns) (local_closed n ns) ≡ local_closed (suc n) ns
round_is n ns = map_each (closed_from (local_closed n ns)) (closed_to (suc n) ns) (entry_in ns) (closed_is n ns) (texts_of ns.functions)

rounds_are : (ns : Names) (m n k : ℕ) → n + m ≡ k → rounds m (table_of ns) (local_closed n ns) ≡ local_closed k ns
rounds_are ns zero n k e = ap (λ (j : ℕ). local_closed j ns) (omega (arith, e))
rounds_are ns (suc m) n k e = ap (rounds m (table_of ns)) (round_is n ns) ∙ rounds_are ns m (suc n) k (omega (arith, e))

nothing_closed : (ns : Names) (f : FunctionText) → [] ≡ closed_to 0 ns f
unfolding closed_to
nothing_closed ns f = refl

pub lists_are : (ns : Names) (n : ℕ) → rounds n (table_of ns) (none_closed (table_of ns)) ≡ local_closed n ns
lists_are ns n =
    ap (rounds n (table_of ns)) (map_each (λ t. []) (closed_to 0 ns) (entry_in ns) (nothing_closed ns) (texts_of ns.functions)) ∙ rounds_are ns n 0 n (omega arith)

-- ---- the table of the local functions

local_entries : (ns : Names) (es : List Event) → flat_map (local_entry (pairs ns.tags) (numbers_of ns.functions)) es ≡ map (entry_in ns) (texts_of (flat_map local_of es))
local_entries ns [] = refl
local_entries ns (defines n t ∷ es) = ap (λ (ts : List Entry). entry_in ns t ∷ ts) (local_entries ns es)
local_entries ns (_ ∷ es) = local_entries ns es

numbers_are : (es : List Event) → flat_map number_of es ≡ numbers_of (flat_map local_of es)
numbers_are [] = refl
numbers_are (defines n t ∷ es) = ap (λ (ns : List ℕ). n ∷ ns) (numbers_are es)
numbers_are (_ ∷ es) = numbers_are es

pub locals_in_are : (e : Core) → locals_in e ≡ numbers_of (names_in e).functions
locals_in_are e = numbers_are (events e) ∙ ap numbers_of (locals_are e)

pub tags_in_are : (e : Core) → tags_in e ≡ pairs (names_in e).tags
tags_in_are e = tags_are e

table_is : (e : Core) → local_table e ≡ table_of (names_in e)
table_is e =
    ap (λ tags. flat_map (local_entry tags (locals_in e)) (events e)) (tags_in_are e)
    ∙ ap (λ ns. flat_map (local_entry (pairs (names_in e).tags) ns) (events e)) (locals_in_are e)
    ∙ local_entries (names_in e) (events e)
    ∙ ap (λ ds. map (entry_in (names_in e)) (texts_of ds)) (locals_are e)

pub local_lists_are : (e : Core) → local_lists e ≡ local_closed (length (names_in e).functions) (names_in e)
local_lists_are e =
    let ns : Names = names_in e in
    let long : length (locals_in e) ≡ length ns.functions = ap length (locals_in_are e) ∙ length-map ns.functions (λ d. d.0) in
    ap (λ (n : ℕ). rounds n (local_table e) (none_closed (local_table e))) long
    ∙ ap (λ (ts : List Entry). rounds (length ns.functions) ts (none_closed ts)) (table_is e)
    ∙ lists_are ns (length ns.functions)

-- ---- all functions

closed_at_last : (ns : Names) (f : FunctionText) → closed_of_lambda (pairs ns.tags) (numbers_of ns.functions) (local_closed (length ns.functions) ns) f.lambda ≡ closed_in ns f
closed_at_last ns f = closed_is (length ns.functions) ns f ∙ ap (λ (n : ℕ). closed_to n ns f) (omega arith)

-- what the code computes of the parts of a form is what its functions close over
pub closed_are : (e : Core) (tags : List (ℕ × ℕ)) (locals : List ℕ) (lists : List (List ℕ)) → tags ≡ tags_in e → locals ≡ locals_in e → lists ≡ local_lists e →
    closed_of_parts tags locals lists (parts e) ≡ map (closed_in (names_in e)) (functions_in e)
closed_are e tags locals lists t l h =
    let ns : Names = names_in e in
    ap (λ ts. closed_of_parts ts locals lists (parts e)) (t ∙ tags_in_are e)
    ∙ ap (λ ks. closed_of_parts (pairs ns.tags) ks lists (parts e)) (l ∙ locals_in_are e)
    ∙ ap (λ ls. closed_of_parts (pairs ns.tags) (numbers_of ns.functions) ls (parts e)) (h ∙ local_lists_are e)
    ∙ made_are (closed_of_lambda (pairs ns.tags) (numbers_of ns.functions) (local_closed (length ns.functions) ns)) (closed_in ns) (closed_at_last ns) e

-- ---- for the code

-- what comes of these lists is what a function closes over
pub closed_by : (lists : List (List ℕ)) (f : Entry) (numbers all first among rs cs bs : List ℕ) → numbers ≡ all → all ≡ union first (lists_at lists cs) → first ≡ union [] rs → among ≡ union [] bs →
    rs ≡ f.refers → cs ≡ f.calls → bs ≡ f.inner → without numbers among ≡ closed_from lists f
closed_by lists f numbers all first among rs cs bs n a h b refers called bound =
    ap (λ (xs : List ℕ). without xs among) (n ∙ a ∙ ap (λ (xs : List ℕ). union xs (lists_at lists cs)) (h ∙ ap (union []) refers) ∙ ap (λ (xs : List ℕ). union (union [] f.refers) (lists_at lists xs)) called)
    ∙ ap (without (union (union [] f.refers) (lists_at lists f.calls))) (b ∙ ap (union []) bound)
    ∙ without_once (union (union [] f.refers) (lists_at lists f.calls)) f.inner

-- ---- the loop over the rounds

pub settled : (n : ℕ) (fs : List Entry) (lists : List (List ℕ)) → one_round fs lists ≡ lists → rounds n fs lists ≡ lists
settled zero fs lists h = refl
settled (suc n) fs lists h = ap (rounds n fs) h ∙ settled n fs lists h

pub round_passed : (n i : ℕ) (fs : List Entry) (lists next all : List (List ℕ)) → i < n → rounds (n - i) fs lists ≡ all → next ≡ one_round fs lists → rounds (n - (i + 1)) fs next ≡ all
round_passed n i fs lists next all lt so_far h =
    let e : n - i ≡ suc (n - (i + 1)) = omega arith in
    ap (rounds (n - (i + 1)) fs) h ∙ sym (ap (λ (k : ℕ). rounds k fs lists) e) ∙ so_far

pub no_change : (n i : ℕ) (fs : List Entry) (lists next all : List (List ℕ)) → rounds (n - i) fs lists ≡ all → next ≡ one_round fs lists → next ≡ lists → lists ≡ all
no_change n i fs lists next all so_far h same = sym (settled (n - i) fs lists (sym h ∙ same)) ∙ so_far
