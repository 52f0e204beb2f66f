-- Each file has one answer.
use Rattle.std.proofs.Common.{◌≡◌, ◌<◌, ◌≤◌, ℕ, Bool, true, false, ◌&&◌, List, [], ◌∷◌, ◌++◌, length, refl, sym, ap, ◌∙◌, subst, arith, Some, Result, Ok, Err, append_assoc, inl, inr, ◌⊎◌, nat_lt}
use Rattle.std.proofs.lemmas.Bool.{false≢true, ltb-true, ltb-false}
use Rattle.std.proofs.lemmas.List.{append-nil, length-map}
use Rattle.std.proofs.lemmas.Str.{IsUtf8-from_is_utf8, is_utf8-from_IsUtf8}
use Rattle.std.specs.Str.{IsUtf8, is_utf8}
use Rattle.lisp_reader.specs.declared.fault.ReadKind.{ReadKind}
use Rattle.lisp_reader.specs.declared.fault.ReadKind.TheVariants.{Eof}
use Rattle.lisp_reader.specs.declared.forms.TopRead.{TopRead}
use Rattle.lisp_reader.specs.declared.level.Shape.{Shape}
use Rattle.lisp_reader.specs.Tokens.{Placed, placed, opening, dot, prefix}
use Rattle.lisp_reader.specs.Trees.{Trees, writing, writings, is_splice, begins_splice}
use Rattle.lisp_reader.specs.Building.{Stock, bound, value, values, forms}
use Rattle.lisp_reader.specs.Reading.{shape, Begun, elements, after_dot, after_tail, in_vector_of, after_prefix, written, beginning, inside, takes_form, follows_backquote, AllFit, FitsBegun, stock_after, begun_stock, Refusal, refusal, refusal_at, fault, ReadsTokens, RefusesTokens, StopsAt, EndsInside}
use Rattle.lisp_reader.specs.Machine.{shape_of, Level, list_level, dot_level, tail_level, vector_level, prefix_level, World, world, shapes_of, step, stepped, run, ended, delivered}
use Rattle.lisp_reader.specs.Answers.{Reads, IsRefusedAt, too_long, no_text, no_form, greatest_length, file_tokens}
use Rattle.lisp_reader.specs.Laws.{HasOneAnswer}
use Rattle.lisp_reader.proofs.Steps.{run_stops}
use Rattle.lisp_reader.proofs.Standing.{Holds, bound_some, shapes_held, some_values}
use Rattle.lisp_reader.proofs.Forward.{reads_forms, reads_tree, list_reads, vector_reads, opens, opens_vector, opens_prefix, dots, same_some, and_false}
use Rattle.lisp_reader.proofs.Whole.{reads_whole, refuses_whole}

-- ---- a beginning

-- what a lawful beginning leaves
record Left (xs : Trees) (bs : List Begun) (s t : Stock) : Type 0 where
  levels : List Level
  tops : List TopRead
  held : Holds xs bs s levels tops t

left : (xs : Trees) (bs : List Begun) (s t : Stock) → stock_after xs bs s ≡ Some t → Left xs bs s t
left xs [] s t e =
    let a = bound_some (forms xs s) (λ fs. Some fs.1) t e in
    record { levels = []; tops = a.0.0; held = (refl, a.1 ∙ ap (λ (u : Stock). Some (a.0.0, u)) (same_some a.0.1 t a.2)) }
left xs (elements o ys ∷ bs) s t e =
    let a = bound_some (stock_after xs bs s) (begun_stock (elements o ys)) t e in
    let l = left xs bs s a.0 a.1 in
    let b = bound_some (values ys a.0) (λ us. Some us.1) t a.2 in
    record { levels = list_level o b.0.0 ∷ l.levels; tops = l.tops; held = (b.0.0, l.levels, a.0, refl, b.1 ∙ ap (λ (u : Stock). Some (b.0.0, u)) (same_some b.0.1 t b.2), l.held) }
left xs (after_dot o ys d ∷ bs) s t e =
    let a = bound_some (stock_after xs bs s) (begun_stock (after_dot o ys d)) t e in
    let l = left xs bs s a.0 a.1 in
    let b = bound_some (values ys a.0) (λ us. Some us.1) t a.2 in
    record { levels = dot_level o b.0.0 ∷ l.levels; tops = l.tops; held = (b.0.0, l.levels, a.0, refl, b.1 ∙ ap (λ (u : Stock). Some (b.0.0, u)) (same_some b.0.1 t b.2), l.held) }
left xs (after_tail o ys d x ∷ bs) s t e =
    let a = bound_some (stock_after xs bs s) (begun_stock (after_tail o ys d x)) t e in
    let l = left xs bs s a.0 a.1 in
    let b = bound_some (values ys a.0) (λ us. bound (value x us.1) (λ v. Some v.1)) t a.2 in
    let c = bound_some (value x b.0.1) (λ v. Some v.1) t b.2 in
    record { levels = tail_level o b.0.0 c.0.0 ∷ l.levels; tops = l.tops; held = (b.0.0, c.0.0, l.levels, a.0, b.0.1, refl, b.1, c.1 ∙ ap (λ (u : Stock). Some (c.0.0, u)) (same_some c.0.1 t c.2), l.held) }
left xs (in_vector_of o ys ∷ bs) s t e =
    let a = bound_some (stock_after xs bs s) (begun_stock (in_vector_of o ys)) t e in
    let l = left xs bs s a.0 a.1 in
    let b = bound_some (values ys a.0) (λ us. Some us.1) t a.2 in
    record { levels = vector_level o b.0.0 ∷ l.levels; tops = l.tops; held = (b.0.0, l.levels, a.0, refl, b.1 ∙ ap (λ (u : Stock). Some (b.0.0, u)) (same_some b.0.1 t b.2), l.held) }
left xs (after_prefix o f ∷ bs) s t e =
    let a = bound_some (stock_after xs bs s) (begun_stock (after_prefix o f)) t e in
    let l = left xs bs s a.0 a.1 in
    record { levels = prefix_level o f ∷ l.levels; tops = l.tops; held = (l.levels, refl, subst (Holds xs bs s l.levels l.tops) (same_some a.0 t a.2) l.held) }

-- the machine comes to what a beginning leaves
begins : (xs : Trees) (bs : List Begun) (s : Stock) (ls : List Level) (ts : List TopRead) (t : Stock) (end : ℕ) (rest : List Placed) → AllFit xs bs → Holds xs bs s ls ts t
    → run (world [] [] s) end (beginning xs bs ++ rest) ≡ run (world ls ts t) end rest
unfolding delivered
begins xs [] s ls ts t end rest fit (e, f) =
    reads_forms xs s end rest ts t fit f ∙ ap (λ (ms : List Level). run (world ms ts t) end rest) (sym e)
begins xs (elements o ys ∷ bs) s ls ts t end rest (a, b, c, d) (vs, rest_levels, u, e, q, h) =
    let same = shapes_held xs bs s rest_levels ts u h in
    let form = ap takes_form same ∙ a in
    let fits = subst (λ (ss : List Shape). FitsBegun (inside ss) (elements o ys)) (sym same) c in
    ap (run (world [] [] s) end) (append_assoc (beginning xs bs) (written (elements o ys)) rest)
    ∙ (begins xs bs s rest_levels ts u end (written (elements o ys) ++ rest) d h
    ∙ (opens rest_levels ts u end o (writings ys ++ rest) form fits.0
    ∙ (list_reads ys o rest_levels ts u end rest vs t fits.1 q
    ∙ ap (λ (ms : List Level). run (world ms ts t) end rest) (sym e))))
begins xs (after_dot o ys k ∷ bs) s ls ts t end rest (a, b, c, d) (vs, rest_levels, u, e, q, h) =
    let same = shapes_held xs bs s rest_levels ts u h in
    let form = ap takes_form same ∙ a in
    let fits = subst (λ (ss : List Shape). FitsBegun (inside ss) (after_dot o ys k)) (sym same) c in
    ap (run (world [] [] s) end) (append_assoc (beginning xs bs) (written (after_dot o ys k)) rest
    ∙ ap (λ (ps : List Placed). beginning xs bs ++ placed o opening ∷ ps) (append_assoc (writings ys) (placed k dot ∷ []) rest))
    ∙ (begins xs bs s rest_levels ts u end (placed o opening ∷ (writings ys ++ placed k dot ∷ rest)) d h
    ∙ (opens rest_levels ts u end o (writings ys ++ placed k dot ∷ rest) form fits.0
    ∙ (list_reads ys o rest_levels ts u end (placed k dot ∷ rest) vs t fits.2 q
    ∙ (dots o vs rest_levels ts t end k rest (some_values ys u t vs q ∙ fits.1)
    ∙ ap (λ (ms : List Level). run (world ms ts t) end rest) (sym e)))))
begins xs (after_tail o ys k x ∷ bs) s ls ts t end rest (a, b, c, d) (vs, v, rest_levels, u, m, e, q, r, h) =
    let same = shapes_held xs bs s rest_levels ts u h in
    let form = ap takes_form same ∙ a in
    let fits = subst (λ (ss : List Shape). FitsBegun (inside ss) (after_tail o ys k x)) (sym same) c in
    ap (run (world [] [] s) end) (append_assoc (beginning xs bs) (written (after_tail o ys k x)) rest
    ∙ ap (λ (ps : List Placed). beginning xs bs ++ placed o opening ∷ ps) (append_assoc (writings ys) (placed k dot ∷ writing x) rest))
    ∙ (begins xs bs s rest_levels ts u end (placed o opening ∷ (writings ys ++ placed k dot ∷ (writing x ++ rest))) d h
    ∙ (opens rest_levels ts u end o (writings ys ++ placed k dot ∷ (writing x ++ rest)) form fits.0
    ∙ (list_reads ys o rest_levels ts u end (placed k dot ∷ (writing x ++ rest)) vs m fits.2 q
    ∙ (dots o vs rest_levels ts m end k (writing x ++ rest) (some_values ys u m vs q ∙ fits.1)
    ∙ (reads_tree x (dot_level o vs ∷ rest_levels) ts m end rest (v, t) fits.3 refl (and_false (begins_splice x)) r
    ∙ ap (λ (ms : List Level). run (world ms ts t) end rest) (sym e))))))
begins xs (in_vector_of o ys ∷ bs) s ls ts t end rest (a, b, c, d) (vs, rest_levels, u, e, q, h) =
    let same = shapes_held xs bs s rest_levels ts u h in
    let form = ap takes_form same ∙ a in
    let fits = subst (λ (ss : List Shape). FitsBegun (inside ss) (in_vector_of o ys)) (sym same) c in
    ap (run (world [] [] s) end) (append_assoc (beginning xs bs) (written (in_vector_of o ys)) rest)
    ∙ (begins xs bs s rest_levels ts u end (written (in_vector_of o ys) ++ rest) d h
    ∙ (opens_vector rest_levels ts u end o (writings ys ++ rest) form fits.0
    ∙ (vector_reads ys o rest_levels ts u end rest vs t fits.1 q
    ∙ ap (λ (ms : List Level). run (world ms ts t) end rest) (sym e))))
begins xs (after_prefix o f ∷ bs) s ls ts t end rest (a, b, c, d) (rest_levels, e, h) =
    let same = shapes_held xs bs s rest_levels ts t h in
    let form = ap takes_form same ∙ a in
    let fits = subst (λ (ss : List Shape). FitsBegun (inside ss) (after_prefix o f)) (sym same) c in
    let splice = ap (λ (ss : List Shape). is_splice f && follows_backquote ss) same ∙ b in
    ap (run (world [] [] s) end) (append_assoc (beginning xs bs) (written (after_prefix o f)) rest)
    ∙ (begins xs bs s rest_levels ts t end (placed o (prefix f) ∷ rest) d h
    ∙ (opens_prefix rest_levels ts t end o f rest form fits.0 fits.1 splice
    ∙ ap (λ (ms : List Level). run (world ms ts t) end rest) (sym e)))

-- ---- tokens

reads_runs : (ps : List Placed) (s : Stock) (a : List TopRead × Stock) (end : ℕ) → ReadsTokens ps s a → run (world [] [] s) end ps ≡ Ok (world [] a.0 a.1)
unfolding run ended
reads_runs ps s a end (xs, fit, spelled, given) =
    ap (run (world [] [] s) end) (spelled ∙ sym (append-nil (writings xs))) ∙ reads_forms xs s end [] a.0 a.1 fit given

stops : (w : World) (end : ℕ) (q : Placed) (kind : ReadKind) → fault (shapes_of w.levels) w.stock.symbols q.token ≡ Some kind → step w end q ≡ Err (refusal_at q.at end kind)
unfolding step
stops w end q kind e = ap (stepped w end q) e

open_end : (ls : List Level) (w : World) (end : ℕ) → 0 < length ls → ended ls w end ≡ Err (refusal Eof end)
unfolding ended
open_end [] w end h = absurd (omega arith)
open_end (l ∷ ls) w end h = refl

refuses_runs : (ps : List Placed) (s : Stock) (r : Refusal) (end : ℕ) → RefusesTokens ps end s r → run (world [] [] s) end ps ≡ Err r
unfolding run
refuses_runs ps s r end (xs, bs, t, fit, after, why) = by (left xs bs s t after) why
  where
    by : Left xs bs s t → StopsAt xs bs end ps t r ⊎ EndsInside xs bs end ps r → run (world [] [] s) end ps ≡ Err r
    by l (inl (q, rest, kind, spelled, is, what)) =
        let w : World = world l.levels l.tops t in
        let same = shapes_held xs bs s l.levels l.tops t l.held in
        ap (run (world [] [] s) end) spelled
        ∙ (begins xs bs s l.levels l.tops t end (q ∷ rest) fit l.held
        ∙ (run_stops w end q rest (refusal_at q.at end kind) (stops w end q kind (ap (λ (ss : List Shape). fault ss t.symbols q.token) same ∙ is))
        ∙ ap (λ (k : Refusal). Err k) (sym what)))
    by l (inr (some, spelled, what)) =
        let w : World = world l.levels l.tops t in
        let same = shapes_held xs bs s l.levels l.tops t l.held in
        let long : length l.levels ≡ length bs = sym (length-map l.levels shape_of) ∙ (ap length same ∙ length-map bs shape) in
        ap (run (world [] [] s) end) (spelled ∙ sym (append-nil (beginning xs bs)))
        ∙ (begins xs bs s l.levels l.tops t end [] fit l.held
        ∙ (open_end l.levels w end (omega arith) ∙ ap (λ (k : Refusal). Err k) (sym what)))

-- ---- files

answer_in : List TopRead × Stock → Result World Refusal → List TopRead × Stock
answer_in a (Ok w) = (w.tops, w.stock)
answer_in a (Err r) = a

refusal_in : Refusal → Result World Refusal → Refusal
refusal_in r (Ok w) = r
refusal_in r (Err q) = q

is_ok_run : Result World Refusal → Bool
is_ok_run (Ok w) = true
is_ok_run (Err r) = false

one_reading : (bytes : List ℕ) (s : Stock) (a b : List TopRead × Stock) → Reads bytes s a → Reads bytes s b → a ≡ b
unfolding answer_in
one_reading bytes s a b h k =
    ap (answer_in a) (sym (reads_runs (file_tokens bytes) s a (length bytes) h.grammar) ∙ reads_runs (file_tokens bytes) s b (length bytes) k.grammar)

one_refusal : (bytes : List ℕ) (s : Stock) (q r : Refusal) → IsRefusedAt bytes s q → IsRefusedAt bytes s r → q ≡ r
unfolding refusal_in
one_refusal bytes s q r (too_long a e) (too_long b f) = e ∙ sym f
one_refusal bytes s q r (too_long a e) (no_text b n f) = absurd (omega arith)
one_refusal bytes s q r (too_long a e) (no_form b u f) = absurd (omega arith)
one_refusal bytes s q r (no_text a n e) (too_long b f) = absurd (omega arith)
one_refusal bytes s q r (no_text a n e) (no_text b m f) = e ∙ sym f
one_refusal bytes s q r (no_text a n e) (no_form b u f) = absurd (n u)
one_refusal bytes s q r (no_form a u e) (too_long b f) = absurd (omega arith)
one_refusal bytes s q r (no_form a u e) (no_text b n f) = absurd (n u)
one_refusal bytes s q r (no_form a u e) (no_form b v f) =
    ap (refusal_in q) (sym (refuses_runs (file_tokens bytes) s q (length bytes) e) ∙ refuses_runs (file_tokens bytes) s r (length bytes) f)

not_both : (bytes : List ℕ) (s : Stock) (a : List TopRead × Stock) (r : Refusal) → Reads bytes s a → IsRefusedAt bytes s r → ⊥
unfolding is_ok_run
not_both bytes s a r h (too_long b e) = let short = h.short in absurd (omega arith)
not_both bytes s a r h (no_text b n e) = n h.text
not_both bytes s a r h (no_form b u e) =
    false≢true (ap is_ok_run (sym (refuses_runs (file_tokens bytes) s r (length bytes) e) ∙ reads_runs (file_tokens bytes) s a (length bytes) h.grammar))

some_answer : (bytes : List ℕ) (s : Stock) → ((a : List TopRead × Stock) × Reads bytes s a) ⊎ ((r : Refusal) × IsRefusedAt bytes s r)
some_answer bytes s = by_length (nat_lt greatest_length (length bytes)) refl
  where
    by_run : length bytes ≤ greatest_length → IsUtf8 bytes → (o : Result World Refusal) → run (world [] [] s) (length bytes) (file_tokens bytes) ≡ o → ((a : List TopRead × Stock) × Reads bytes s a) ⊎ ((r : Refusal) × IsRefusedAt bytes s r)
    by_run short text (Ok w) e = inl ((w.tops, w.stock), reads_whole bytes s w (length bytes) short text e)
    by_run short text (Err r) e = inr (r, refuses_whole bytes s r short text e)

    by_text : length bytes ≤ greatest_length → (b : Bool) → is_utf8 bytes ≡ b → ((a : List TopRead × Stock) × Reads bytes s a) ⊎ ((r : Refusal) × IsRefusedAt bytes s r)
    by_text short true e = by_run short (IsUtf8-from_is_utf8 bytes e) (run (world [] [] s) (length bytes) (file_tokens bytes)) refl
    by_text short false e = inr (_, no_text short (λ u. false≢true (sym e ∙ is_utf8-from_IsUtf8 bytes u)) refl)

    by_length : (b : Bool) → nat_lt greatest_length (length bytes) ≡ b → ((a : List TopRead × Stock) × Reads bytes s a) ⊎ ((r : Refusal) × IsRefusedAt bytes s r)
    by_length true e = inr (_, too_long (ltb-true greatest_length (length bytes) e) refl)
    by_length false e = by_text (ltb-false greatest_length (length bytes) e) (is_utf8 bytes) refl

pub one_answer : (bytes : List ℕ) (s : Stock) → HasOneAnswer bytes s
one_answer bytes s = record {
  some = some_answer bytes s;
  one_reading = one_reading bytes s;
  one_refusal = one_refusal bytes s;
  not_both = not_both bytes s;
}
