-- The sum over the nodes is the sum over the variables.
use Rattle.std.specs.Prelude.{◌≡◌, refl, ℕ, zero, suc, ◌+◌, Bool, true, false, not, ◌&&◌, ◌||◌, ◌==◌, if◌then◌else◌, List, [], ◌∷◌, ◌++◌, length, drop, Option, Some, None, flat_map, map}
use Rattle.std.specs.List.{list_any}
use Rattle.std.proofs.Common.{ap, sym, ◌∙◌, subst, arith, zero-add, ◌≤◌, length-append}
use Rattle.std.proofs.Math.Seq.{drop-append_seam}
use Rattle.std.proofs.lemmas.List.{map-append, length-map}
use Rattle.lisp_base.specs.declared.values.Place.{Place}
use Rattle.core_form.specs.Tree.{Core, place_of}
use Rattle.core_form.specs.Facts.{FunctionText, Names, lookup, has_number, union, inner, on_local, in_function, referred, functions_used, closed_to, closed_in, names_in}
use Rattle.closed_copies.specs.declared.functions.Function.{Function}
use Rattle.closed_copies.specs.Walked.{entry_of, entries_list}
use Rattle.closed_copies.specs.Copies.{total, closed_number, local_number, closed_copies}
use Rattle.closed_copies.specs.Events.{Event, refers, calls, makes, defines, lambda_events, events}
use Rattle.closed_copies.specs.Table.{Entry, as_list, place_from, tag_of, number_of, called_of, local_entry, made_entry, entries, all_referred}
use Rattle.closed_copies.specs.Marks.{is_marked, marks_of, one_if, count_true, count_marked, copies_with, tally, copies_of_all}
use Rattle.closed_copies.proofs.Sets.{has_append, has_union, or_none, or_false_left, or_false_right, EachOnce, once_union, once_without, IsPart, counted_once, tally_same, tally_sum, tally_none}
use Rattle.closed_copies.proofs.Told.{pairs, call_of, local_of, locals_are, tags_are, made_at, copies_of, copies_are}
use Rattle.closed_copies.proofs.Marked.{on_found, values_of, numbers_of, found_first, is_closed, closed_in_called, entry_in, closed_by, texts_of, table_of, marks_split, none_closed, marks_are}

-- ---- to what no function refers, that no function closes over

abbrev Outside : ℕ → List Entry → Type 0
Outside x [] = Unit {0}
Outside x (t ∷ ts) = (has_number x t.refers ≡ false) × Outside x ts

outside_of_all : (x : ℕ) (before : List ℕ) (ts : List Entry) → has_number x (all_referred before ts) ≡ false → (has_number x before ≡ false) × Outside x ts
outside_of_all x before [] h = (h, tt)
outside_of_all x before (t ∷ ts) h =
    let k = outside_of_all x (union before t.refers) ts h in
    let both : (has_number x before || has_number x t.refers) ≡ false = sym (has_union x before t.refers) ∙ k.0 in
    (or_false_left (has_number x before) (has_number x t.refers) both, (or_false_right (has_number x before) (has_number x t.refers) both, k.1))

outside_parts : (x : ℕ) (ts us : List Entry) → Outside x (ts ++ us) → Outside x ts × Outside x us
outside_parts x [] us h = (tt, h)
outside_parts x (t ∷ ts) us h = let k = outside_parts x ts us h.1 in ((h.0, k.0), k.1)

none_in : (x : ℕ) (g : ℕ → List ℕ) (ks : List ℕ) → ((k : ℕ) → has_number x (g k) ≡ false) → has_number x (flat_map g ks) ≡ false
none_in x g [] h = refl
none_in x g (k ∷ ks) h = has_append x (g k) (flat_map g ks) ∙ ap (λ (b : Bool). b || has_number x (flat_map g ks)) (h k) ∙ none_in x g ks h

neither : (c : Bool) (x n : ℕ) (ns : Names) (f : FunctionText) (q : Option FunctionText) → is_closed x n ns f ≡ false → has_number x (on_local (closed_to n ns) q) ≡ false →
    has_number x (on_local (closed_to n ns) (if c then Some f else q)) ≡ false
neither true x n ns f q h k = h
neither false x n ns f q h k = k

looked_up : (x n : ℕ) (ns : Names) → ((f : FunctionText) → has_number x (entry_in ns f).refers ≡ false → is_closed x n ns f ≡ false) → (k : ℕ) (ds : List (ℕ × FunctionText)) →
    Outside x (map (entry_in ns) (texts_of ds)) → has_number x (on_local (closed_to n ns) (lookup k ds)) ≡ false
looked_up x n ns none k [] out = refl
looked_up x n ns none k (d ∷ ds) out = neither (k == d.0) x n ns d.1 (lookup k ds) (none d.1 out.0) (looked_up x n ns none k ds out.1)

outside_closed : (x n : ℕ) (ns : Names) → Outside x (map (entry_in ns) (texts_of ns.functions)) → (f : FunctionText) → has_number x (entry_in ns f).refers ≡ false → is_closed x n ns f ≡ false
outside_closed x zero ns out f h = sym (none_closed x ns f)
outside_closed x (suc n) ns out f h =
    let called : List ℕ = flat_map (closed_in_called n ns) (flat_map call_of (lambda_events f.lambda)) in
    closed_by x n ns f ∙ ap (λ (b : Bool). (b || has_number x called) && not (has_number x (entry_in ns f).inner)) h
    ∙ ap (λ (b : Bool). b && not (has_number x (entry_in ns f).inner))
    (none_in x (closed_in_called n ns) (flat_map call_of (lambda_events f.lambda)) (λ k. looked_up x n ns (outside_closed x n ns out) k ns.functions out))

-- ---- the closed variables of one function

once_closed : (n : ℕ) (ns : Names) (f : FunctionText) → EachOnce (closed_to n ns f)
unfolding closed_to
once_closed zero ns f = λ x. refl
once_closed (suc n) ns f =
    let rs : List ℕ = in_function (referred ns) f in
    let called : List ℕ = flat_map (closed_in_called n ns) (in_function functions_used f) in
    once_without (union (union [] rs) called) (inner f) (once_union (union [] rs) called (once_union [] rs (λ x. refl)))

abbrev depth_of : Names → ℕ
depth_of ns = length ns.functions + 1

abbrev closes : ℕ → Names → FunctionText → Bool
closes x ns f = is_closed x (depth_of ns) ns f

closed_tally : (xs : List ℕ) (ns : Names) (f : FunctionText) → EachOnce xs → IsPart (closed_in ns f) xs → closed_number ns f ≡ tally (λ x. one_if (closes x ns f)) xs
closed_tally xs ns f once part = counted_once xs (closed_in ns f) once (once_closed (depth_of ns) ns f) part

-- to all numbers besides these none of these functions refers
abbrev Covers : List ℕ → List Entry → Type 0
Covers xs ts = (x : ℕ) → has_number x xs ≡ false → Outside x ts

part_of : (xs : List ℕ) (ns : Names) (f : FunctionText) → Covers xs (map (entry_in ns) (texts_of ns.functions)) → ((x : ℕ) → has_number x xs ≡ false → has_number x (entry_in ns f).refers ≡ false) → IsPart (closed_in ns f) xs
part_of xs ns f covers own = λ x h. outside_closed x (depth_of ns) ns (covers x h) f (own x h)

-- ---- the closed variables of the local function of a number

one_or : (c : Bool) (xs : List ℕ) (ns : Names) (f : FunctionText) (q : Option FunctionText) → closed_number ns f ≡ tally (λ x. one_if (closes x ns f)) xs →
    total (on_local (λ g. closed_number ns g ∷ []) q) ≡ tally (λ x. one_if (on_found (closes x ns) q)) xs →
    total (on_local (λ g. closed_number ns g ∷ []) (if c then Some f else q)) ≡ tally (λ x. one_if (on_found (closes x ns) (if c then Some f else q))) xs
one_or true xs ns f q h k = let e : closed_number ns f + 0 ≡ closed_number ns f = omega arith in e ∙ h
one_or false xs ns f q h k = k

local_tally : (xs : List ℕ) (ns : Names) (k : ℕ) → EachOnce xs → Covers xs (map (entry_in ns) (texts_of ns.functions)) → (ds : List (ℕ × FunctionText)) → Covers xs (map (entry_in ns) (texts_of ds)) →
    total (on_local (λ g. closed_number ns g ∷ []) (lookup k ds)) ≡ tally (λ x. one_if (on_found (closes x ns) (lookup k ds))) xs
local_tally xs ns k once covers [] own = sym (tally_none xs)
local_tally xs ns k once covers (d ∷ ds) own =
    one_or (k == d.0) xs ns d.1 (lookup k ds) (closed_tally xs ns d.1 once (part_of xs ns d.1 covers (λ x h. (own x h).0)))
    (local_tally xs ns k once covers ds (λ x h. (own x h).1))

-- ---- the sum over the events

total_append : (xs ys : List ℕ) → total (xs ++ ys) ≡ total xs + total ys
total_append [] ys = sym (zero-add (total ys))
total_append (x ∷ xs) ys = let h = total_append xs ys in omega arith

abbrev copies_here : ℕ → Names → Place → Event → ℕ
copies_here x ns p (makes l) = one_if (closes x ns (made_at p l))
copies_here x ns p (calls k) = one_if (on_found (closes x ns) (lookup k ns.functions))
copies_here x ns p _ = 0

abbrev copies_in : ℕ → Names → Place → List Event → ℕ
copies_in x ns p [] = 0
copies_in x ns p (v ∷ es) = copies_here x ns p v + copies_in x ns p es

abbrev made_entries : Names → List Event → List Entry
made_entries ns es = flat_map (made_entry (pairs ns.tags) (numbers_of ns.functions)) es

both_tallies : (a b : ℕ) (f g : ℕ → ℕ) (xs : List ℕ) → a ≡ tally f xs → b ≡ tally g xs → a + b ≡ tally (λ x. f x + g x) xs
both_tallies a b f g xs h k = let e = tally_sum f g xs in omega arith

summed : (xs : List ℕ) (ns : Names) (p : Place) → EachOnce xs → Covers xs (map (entry_in ns) (texts_of ns.functions)) → (es : List Event) → Covers xs (made_entries ns es) →
    total (flat_map (copies_of ns p) es) ≡ tally (λ x. copies_in x ns p es) xs
summed xs ns p once covers [] own = sym (tally_none xs)
summed xs ns p once covers (makes l ∷ es) own =
    both_tallies (closed_number ns (made_at p l)) (total (flat_map (copies_of ns p) es)) (λ x. one_if (closes x ns (made_at p l))) (λ x. copies_in x ns p es) xs
    (closed_tally xs ns (made_at p l) once (part_of xs ns (made_at p l) covers (λ x h. (own x h).0)))
    (summed xs ns p once covers es (λ x h. (own x h).1))
summed xs ns p once covers (calls k ∷ es) own =
    total_append (local_number ns k) (flat_map (copies_of ns p) es)
    ∙ both_tallies (total (local_number ns k)) (total (flat_map (copies_of ns p) es)) (λ x. one_if (on_found (closes x ns) (lookup k ns.functions))) (λ x. copies_in x ns p es) xs
    (local_tally xs ns k once covers ns.functions covers) (summed xs ns p once covers es own)
summed xs ns p once covers (_ ∷ es) own =
    summed xs ns p once covers es own ∙ tally_same (λ x. copies_in x ns p es) (λ x. 0 + copies_in x ns p es) xs (λ x. sym (zero-add (copies_in x ns p es)))

-- ---- the count from the marks

abbrev made_text : Place → Event → List FunctionText
made_text p (makes l) = made_at p l ∷ []
made_text p _ = []

abbrev others_in : Place → List Event → List FunctionText
others_in p es = flat_map (made_text p) es

marked_append : (marks : List Bool) (is js : List ℕ) → count_marked marks (is ++ js) ≡ count_marked marks is + count_marked marks js
marked_append marks [] js = sym (zero-add (count_marked marks js))
marked_append marks (i ∷ is) js = let h = marked_append marks is js in omega arith

marked_one : (marks : List Bool) (o : Option ℕ) → count_marked marks (as_list o) ≡ one_if (list_any (is_marked marks) (as_list o))
marked_one marks None = refl
marked_one marks (Some i) = let e : one_if (is_marked marks i) + 0 ≡ one_if (is_marked marks i) = omega arith in e ∙ sym (ap one_if (or_none (is_marked marks i)))

counted_events : (x : ℕ) (ns : Names) (p : Place) (rest : List Bool) (es : List Event) →
    count_marked (values_of (closes x ns) ns.functions ++ rest) (flat_map (called_of (numbers_of ns.functions)) es) + count_true (map (closes x ns) (others_in p es)) ≡ copies_in x ns p es
counted_events x ns p rest [] = refl
counted_events x ns p rest (makes l ∷ es) = let h = counted_events x ns p rest es in omega arith
counted_events x ns p rest (calls k ∷ es) =
    let marks : List Bool = values_of (closes x ns) ns.functions ++ rest in
    let place : Option ℕ = place_from 0 k (numbers_of ns.functions) in
    let h = counted_events x ns p rest es in
    let here : count_marked marks (as_list place) ≡ one_if (on_found (closes x ns) (lookup k ns.functions)) = marked_one marks place ∙ ap one_if (found_first (closes x ns) ns.functions rest k) in
    let split = marked_append marks (as_list place) (flat_map (called_of (numbers_of ns.functions)) es) in
    omega arith
counted_events x ns p rest (_ ∷ es) = counted_events x ns p rest es ∙ sym (zero-add (copies_in x ns p es))

count_is : (x : ℕ) (ns : Names) (p : Place) (es : List Event) →
    copies_with (length (numbers_of ns.functions)) (flat_map (called_of (numbers_of ns.functions)) es) (marks_of (length (numbers_of ns.functions)) x (table_of ns (others_in p es))) ≡ copies_in x ns p es
count_is x ns p es =
    let places : List ℕ = flat_map (called_of (numbers_of ns.functions)) es in
    let locals : List Bool = values_of (closes x ns) ns.functions in
    let others : List Bool = map (closes x ns) (others_in p es) in
    let long : length (numbers_of ns.functions) ≡ length ns.functions = length-map ns.functions (λ d. d.0) in
    let marks : marks_of (length ns.functions) x (table_of ns (others_in p es)) ≡ locals ++ others = marks_are x ns (others_in p es) (depth_of ns) ∙ marks_split x (depth_of ns) ns (others_in p es) in
    let behind : drop (length ns.functions) (locals ++ others) ≡ others = ap (λ (n : ℕ). drop n (locals ++ others)) (sym (length-map ns.functions (λ d. closes x ns d.1))) ∙ drop-append_seam locals others in
    ap (λ (n : ℕ). copies_with n places (marks_of n x (table_of ns (others_in p es)))) long
    ∙ ap (copies_with (length ns.functions) places) marks
    ∙ ap (λ (bs : List Bool). count_marked (locals ++ others) places + count_true bs) behind
    ∙ counted_events x ns p others es

-- ---- the table

local_entries : (ns : Names) (es : List Event) → flat_map (local_entry (pairs ns.tags) (numbers_of ns.functions)) es ≡ map (entry_in ns) (texts_of (flat_map local_of es))
local_entries ns [] = refl
local_entries ns (defines n t ∷ es) = ap (λ (ts : List Entry). entry_in ns t ∷ ts) (local_entries ns es)
local_entries ns (_ ∷ es) = local_entries ns es

other_entries : (ns : Names) (p : Place) (es : List Event) → made_entries ns es ≡ map (entry_in ns) (others_in p es)
other_entries ns p [] = refl
other_entries ns p (makes l ∷ es) = ap (λ (ts : List Entry). entry_in ns (made_at p l) ∷ ts) (other_entries ns p es)
other_entries ns p (_ ∷ es) = other_entries ns p es

numbers_are : (es : List Event) → flat_map number_of es ≡ numbers_of (flat_map local_of es)
numbers_are [] = refl
numbers_are (defines n t ∷ es) = ap (λ (ns : List ℕ). n ∷ ns) (numbers_are es)
numbers_are (_ ∷ es) = numbers_are es

once_all : (before : List ℕ) (ts : List Entry) → EachOnce before → EachOnce (all_referred before ts)
once_all before [] once = once
once_all before (t ∷ ts) once = once_all (union before t.refers) ts (once_union before t.refers once)

abbrev computed : (tags : List (ℕ × ℕ)) (numbers : List ℕ) → List Event → ℕ
computed tags numbers es =
    copies_of_all (length numbers) (flat_map (called_of numbers) es) (entries tags numbers es) (all_referred [] (entries tags numbers es))

by_names : (ns : Names) (p : Place) (es : List Event) → flat_map local_of es ≡ ns.functions → total (flat_map (copies_of ns p) es) ≡ computed (pairs ns.tags) (numbers_of ns.functions) es
by_names ns p es locals =
    let numbers : List ℕ = numbers_of ns.functions in
    let firsts : flat_map (local_entry (pairs ns.tags) numbers) es ≡ map (entry_in ns) (texts_of ns.functions) = local_entries ns es ∙ ap (λ ds. map (entry_in ns) (texts_of ds)) locals in
    let table : entries (pairs ns.tags) numbers es ≡ table_of ns (others_in p es) =
    ap (λ (ts : List Entry). ts ++ made_entries ns es) firsts ∙ ap (λ (ts : List Entry). map (entry_in ns) (texts_of ns.functions) ++ ts) (other_entries ns p es)
    ∙ sym (map-append (entry_in ns) (texts_of ns.functions) (others_in p es)) in
    let xs : List ℕ = all_referred [] (entries (pairs ns.tags) numbers es) in
    let outs : (x : ℕ) → has_number x xs ≡ false → Outside x (flat_map (local_entry (pairs ns.tags) numbers) es) × Outside x (made_entries ns es) =
    λ x h. outside_parts x (flat_map (local_entry (pairs ns.tags) numbers) es) (made_entries ns es) (outside_of_all x [] (entries (pairs ns.tags) numbers es) h).1 in
    let covers : Covers xs (map (entry_in ns) (texts_of ns.functions)) = λ x h. (let P : List Entry → Type 0 = λ ts. Outside x ts in subst P firsts (outs x h).0) in
    summed xs ns p (once_all [] (entries (pairs ns.tags) numbers es) (λ x. refl)) covers es (λ x h. (outs x h).1)
    ∙ tally_same (λ x. copies_in x ns p es) (λ x. copies_with (length numbers) (flat_map (called_of numbers) es) (marks_of (length numbers) x (entries (pairs ns.tags) numbers es))) xs
    (λ x. sym (ap (λ (ts : List Entry). copies_with (length numbers) (flat_map (called_of numbers) es) (marks_of (length numbers) x ts)) table ∙ count_is x ns p es))

-- what the code computes is the number of closed copies
computed_is : (e : Core) → computed (flat_map tag_of (events e)) (flat_map number_of (events e)) (events e) ≡ closed_copies e
unfolding closed_copies
computed_is e =
    let ns : Names = names_in e in
    let locals : flat_map local_of (events e) ≡ ns.functions = locals_are e in
    ap (λ tags. computed tags (flat_map number_of (events e)) (events e)) (tags_are e)
    ∙ ap (λ numbers. computed (pairs ns.tags) numbers (events e)) (numbers_are (events e) ∙ ap numbers_of locals)
    ∙ sym (by_names ns (place_of e) (events e) locals)
    ∙ ap total (copies_are ns (place_of e) e)

few_locals : (tags : List (ℕ × ℕ)) (numbers : List ℕ) (es : List Event) → length (flat_map number_of es) ≡ length (flat_map (local_entry tags numbers) es)
few_locals tags numbers [] = refl
few_locals tags numbers (defines n t ∷ es) = ap suc (few_locals tags numbers es)
few_locals tags numbers (_ ∷ es) = few_locals tags numbers es

-- ---- for the code

-- what comes of these lists is the number of closed copies
pub all_computed : (e : Core) (es : List Event) (tags : List (ℕ × ℕ)) (numbers places : List ℕ) (table : List Entry) (xs : List ℕ) (n : ℕ) →
    es ≡ events e → numbers ≡ flat_map number_of es → tags ≡ flat_map tag_of es → places ≡ flat_map (called_of numbers) es → table ≡ entries tags numbers es →
    xs ≡ all_referred [] table → n ≡ length numbers → copies_of_all n places table xs ≡ closed_copies e
all_computed e es tags numbers places table xs n h numbers_h tags_h places_h table_h xs_h n_h =
    ap (λ (k : ℕ). copies_of_all k places table xs) n_h
    ∙ ap (λ (ps : List ℕ). copies_of_all (length numbers) ps table xs) places_h
    ∙ ap (copies_of_all (length numbers) (flat_map (called_of numbers) es) table) xs_h
    ∙ ap (λ (ts : List Entry). copies_of_all (length numbers) (flat_map (called_of numbers) es) ts (all_referred [] ts)) table_h
    ∙ ap (λ (ts : List (ℕ × ℕ)). computed ts numbers es) tags_h
    ∙ ap (λ (ns : List ℕ). computed (flat_map tag_of es) ns es) numbers_h
    ∙ ap (λ (vs : List Event). computed (flat_map tag_of vs) (flat_map number_of vs) vs) h
    ∙ computed_is e

pub enough_entries : (es : List Event) (tags : List (ℕ × ℕ)) (numbers : List ℕ) (ts : List Function) (n : ℕ) → numbers ≡ flat_map number_of es → entries_list ts ≡ entries tags numbers es → n ≡ length numbers → n ≤ length ts
enough_entries es tags numbers ts n h k e =
    let locals : List Entry = flat_map (local_entry tags numbers) es in
    let made : List Entry = flat_map (made_entry tags numbers) es in
    let all : length ts ≡ length locals + length made = sym (length-map ts entry_of) ∙ ap length k ∙ length-append locals made in
    let few : n ≡ length locals = e ∙ ap length h ∙ few_locals tags numbers es in
    omega (arith, all, few)
