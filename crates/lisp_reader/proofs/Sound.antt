-- The machine reads what the grammar says, and refuses what it refuses.
use Rattle.std.proofs.Common.{◌≡◌, ◌<◌, ℕ, Bool, true, false, not, ◌&&◌, ◌||◌, ◌==◌, List, [], ◌∷◌, ◌++◌, length, refl, sym, ap, ◌∙◌, subst, arith, Option, Some, None, Result, Ok, Err, append_assoc, if◌then◌else◌, inl, inr}
use Rattle.std.proofs.lemmas.Bool.{false≢true}
use Rattle.std.proofs.lemmas.List.{append-nil}
use Rattle.lisp_base.specs.Sort.{nil}
use Rattle.lisp_base.specs.declared.values.Val.{Val}
use Rattle.lisp_base.specs.declared.values.SymKind.TheVariants.{Plain, Keyword}
use Rattle.lisp_base.specs.Tables.{interned}
use Rattle.std.specs.Str.{encode_utf8_all}
use Rattle.lisp_reader.specs.declared.around.Around.{Around}
use Rattle.lisp_reader.specs.declared.fault.ReadKind.{ReadKind}
use Rattle.lisp_reader.specs.declared.fault.ReadKind.TheVariants.{BadToken, Unsupported, TooDeep, Unbalanced}
use Rattle.lisp_reader.specs.declared.token.Prefix.{Prefix}
use Rattle.lisp_reader.specs.declared.token.Prefix.TheVariants as p
use Rattle.lisp_reader.specs.declared.forms.TopRead.{TopRead}
use Rattle.lisp_reader.specs.declared.level.Shape.{Shape}
use Rattle.lisp_reader.specs.Tokens.{Placed, placed, Token, opening, vector, closing, dot, prefix, atom, bad, Atom, integer, character, string, symbol, keyword}
use Rattle.lisp_reader.specs.Trees.{Trees, leaf, list, dotted, vector_of, none, writing, writings, some_tree, MayStand, MayComma, is_splice}
use Rattle.lisp_reader.specs.Building.{Stock, bound, value, forms, list_value, vector_value, atom_value, symbol_value}
use Rattle.lisp_reader.specs.Reading.{Begun, elements, after_dot, after_tail, in_vector_of, after_prefix, written, beginning, shapes, inside, takes_form, follows_backquote, AllFit, Refusal, fault, place_fault, symbol_fault, form_fault, in_some_list, prefix_fault, comma_fault, too_deep, or_else, full, is_closing, ReadsTokens, RefusesTokens}
use Rattle.lisp_reader.specs.Machine.{Level, World, world, shapes_of, delivered, closed, dotting, moved, delivered_if, step, stepped, run, ended, then_do}
use Rattle.lisp_reader.proofs.Standing.{Stands, Holds, delivers, shapes_held, stock_held, spelled_so}

-- ---- what no fault says

unless : (b : Bool) (k : ReadKind) (o : Option ReadKind) → (if b then Some k else o) ≡ None → (b ≡ false) × (o ≡ None)
unless true k o e = absurd (cc)
unless false k o e = (refl, e)

or_none : (a b : Option ReadKind) → or_else a b ≡ None → (a ≡ None) × (b ≡ None)
or_none None b e = (refl, e)
or_none (Some k) b e = absurd (cc)

pub place_none : (ss : List Shape) (t : Token) → place_fault ss t ≡ None → ((takes_form ss || is_closing t) ≡ true) × (form_fault ss t ≡ None)
unfolding place_fault
place_none ss t e = by (takes_form ss || is_closing t) refl e
  where
    by : (b : Bool) → (takes_form ss || is_closing t) ≡ b → (if b then form_fault ss t else Some BadToken) ≡ None → ((takes_form ss || is_closing t) ≡ true) × (form_fault ss t ≡ None)
    by true is e = (is, e)
    by false is e = absurd (cc)

pub takes : (ss : List Shape) (t : Token) → is_closing t ≡ false → (takes_form ss || is_closing t) ≡ true → takes_form ss ≡ true
takes ss t other e = by (takes_form ss) (sym (ap (λ b. takes_form ss || b) other) ∙ e)
  where
    by : (b : Bool) → (b || false) ≡ true → b ≡ true
    by true e = refl
    by false e = e

deep_none : (a : Around) → too_deep a ≡ None → 0 < a.levels
deep_none a e = let no : (a.levels == 0) ≡ false = (unless (a.levels == 0) TooDeep None e).0 in grind (arith, no)

not_false : (b : Bool) → not b ≡ false → b ≡ true
not_false true e = refl
not_false false e = sym e

neither : (a b : Bool) → (a || b) ≡ false → (a ≡ false) × (b ≡ false)
neither false b e = (refl, e)
neither true b e = absurd (false≢true (sym e))

comma_none : (a : Around) → comma_fault a ≡ None → (0 < a.levels) × MayComma a
comma_none a e =
    let one = unless (not a.quasi || a.comma) BadToken (if a.vector then Some Unsupported else too_deep a) e in
    let two = unless a.vector Unsupported (too_deep a) one.1 in
    let parts = neither (not a.quasi) a.comma one.0 in
    (deep_none a two.1, record { inside = not_false a.quasi parts.0; outside = parts.1; unvectored = two.0 })

prefix_none : (f : Prefix) (ss : List Shape) → prefix_fault f ss ≡ None → (0 < (inside ss).levels) × MayStand f (inside ss) × ((is_splice f && follows_backquote ss) ≡ false)
prefix_none p.Quote ss e = (deep_none (inside ss) e, tt, refl)
prefix_none p.Function ss e = (deep_none (inside ss) e, tt, refl)
prefix_none p.Backquote ss e =
    let one = unless (inside ss).quasi Unsupported (too_deep (inside ss)) e in
    (deep_none (inside ss) one.1, one.0, refl)
prefix_none p.Comma ss e = let c = comma_none (inside ss) e in (c.0, c.1, refl)
prefix_none p.Splice ss e =
    let one = unless (follows_backquote ss) BadToken (comma_fault (inside ss)) e in
    let c = comma_none (inside ss) one.1 in
    (c.0, c.1, one.0)

full_none : {X : Type 0} (o : Option X) → full o ≡ None → (x : X) × (o ≡ Some x)
full_none None e = absurd (cc)
full_none (Some x) e = (x, refl)

pub symbol_none : (a : Atom) (t : Stock) → symbol_fault t.symbols (atom a) ≡ None → (v : Val × Stock) × (atom_value a t ≡ Some v)
unfolding symbol_fault atom_value
symbol_none (integer n) t e = (_, refl)
symbol_none (character c) t e = (_, refl)
symbol_none (string l) t e = (_, refl)
symbol_none (symbol n) t e =
    let f = full_none (interned (encode_utf8_all n) Plain t.symbols) e in
    (symbol_value t.objects f.0, ap (λ o. bound o (λ found. Some (symbol_value t.objects found))) f.1)
symbol_none (keyword n) t e =
    let f = full_none (interned (encode_utf8_all n) Keyword t.symbols) e in
    (symbol_value t.objects f.0, ap (λ o. bound o (λ found. Some (symbol_value t.objects found))) f.1)

-- ---- a token that may come

abbrev Next : Trees → List Begun → Stock → List Level → List TopRead → Stock → ℕ → Token → Type 0
Next xs bs s ls ts t at k = Stands s (beginning xs bs ++ placed at k ∷ []) (moved (world ls ts t) at k)

goes_closing : (xs : Trees) (bs : List Begun) (s : Stock) (ls : List Level) (ts : List TopRead) (t : Stock) (at : ℕ) → AllFit xs bs → Holds xs bs s ls ts t → form_fault (shapes bs) closing ≡ None → Next xs bs s ls ts t at closing
unfolding moved closed
goes_closing xs [] s ls ts t at fit held e = absurd (cc)
goes_closing xs (elements o ys ∷ bs) s ls ts t at (a, b, c, d) (vs, rest, u, e, q, h) f =
    subst (λ (ms : List Level). Next xs (elements o ys ∷ bs) s ms ts t at closing) (sym e)
    (spelled_so s (beginning xs bs ++ writing (list o ys at)) (beginning xs (elements o ys ∷ bs) ++ placed at closing ∷ []) (delivered rest ts o (list_value o nil (vs, t)))
    (sym (append_assoc (beginning xs bs) (placed o opening ∷ writings ys) (placed at closing ∷ [])))
    (delivers xs bs s rest ts u (list o ys at) (list_value o nil (vs, t)) d h c a refl (ap (λ m. bound m (λ ws. Some (list_value o nil ws))) q)))
goes_closing xs (after_dot o ys d ∷ bs) s ls ts t at fit held e = absurd (cc)
goes_closing xs (after_tail o ys d x ∷ bs) s ls ts t at (a, b, c, g) (vs, v, rest, u, m, e, q, r, h) f =
    subst (λ (ms : List Level). Next xs (after_tail o ys d x ∷ bs) s ms ts t at closing) (sym e)
    (spelled_so s (beginning xs bs ++ writing (dotted o ys d x at)) (beginning xs (after_tail o ys d x ∷ bs) ++ placed at closing ∷ []) (delivered rest ts o (list_value o v (vs, t)))
    (sym (append_assoc (beginning xs bs) (written (after_tail o ys d x)) (placed at closing ∷ [])
    ∙ ap (λ (ps : List Placed). beginning xs bs ++ placed o opening ∷ ps) (append_assoc (writings ys) (placed d dot ∷ writing x) (placed at closing ∷ []))))
    (delivers xs bs s rest ts u (dotted o ys d x at) (list_value o v (vs, t)) g h c a refl
    (ap (λ k. bound k (λ ws. bound (value x ws.1) (λ w. Some (list_value o w.0 (ws.0, w.1))))) q ∙ ap (λ k. bound k (λ w. Some (list_value o w.0 (vs, w.1)))) r)))
goes_closing xs (in_vector_of o ys ∷ bs) s ls ts t at (a, b, c, d) (vs, rest, u, e, q, h) f =
    subst (λ (ms : List Level). Next xs (in_vector_of o ys ∷ bs) s ms ts t at closing) (sym e)
    (spelled_so s (beginning xs bs ++ writing (vector_of o ys at)) (beginning xs (in_vector_of o ys ∷ bs) ++ placed at closing ∷ []) (delivered rest ts o (vector_value (vs, t)))
    (sym (append_assoc (beginning xs bs) (placed o vector ∷ writings ys) (placed at closing ∷ [])))
    (delivers xs bs s rest ts u (vector_of o ys at) (vector_value (vs, t)) d h c a refl (ap (λ m. bound m (λ ws. Some (vector_value ws))) q)))
goes_closing xs (after_prefix o f ∷ bs) s ls ts t at fit held e =
    let no = (unless (in_some_list (shapes (after_prefix o f ∷ bs))) BadToken (Some Unbalanced) e).1 in absurd (cc)

goes_dot : (xs : Trees) (bs : List Begun) (s : Stock) (ls : List Level) (ts : List TopRead) (t : Stock) (at : ℕ) → AllFit xs bs → Holds xs bs s ls ts t → form_fault (shapes bs) dot ≡ None → Next xs bs s ls ts t at dot
unfolding moved dotting
goes_dot xs [] s ls ts t at fit held e = absurd (cc)
goes_dot xs (elements o ys ∷ bs) s ls ts t at (a, b, c, d) (vs, rest, u, e, q, h) f =
    subst (λ (ms : List Level). Next xs (elements o ys ∷ bs) s ms ts t at dot) (sym e)
    (record {
      forms_so_far = xs;
      begun = after_dot o ys at ∷ bs;
      fit = (a, b, (c.0, some (some_tree ys) f, c.1), d);
      spelled = append_assoc (beginning xs bs) (placed o opening ∷ writings ys) (placed at dot ∷ []);
      held = (vs, rest, u, refl, q, h);
    })
  where
    some : (b : Bool) → (if b then None else Some BadToken) ≡ None → b ≡ true
    some true e = refl
    some false e = absurd (cc)
goes_dot xs (after_dot o ys d ∷ bs) s ls ts t at fit held e = absurd (cc)
goes_dot xs (after_tail o ys d x ∷ bs) s ls ts t at fit held e = absurd (cc)
goes_dot xs (in_vector_of o ys ∷ bs) s ls ts t at fit held e = absurd (cc)
goes_dot xs (after_prefix o f ∷ bs) s ls ts t at fit held e = absurd (cc)

goes : (xs : Trees) (bs : List Begun) (s : Stock) (ls : List Level) (ts : List TopRead) (t : Stock) (at : ℕ) (k : Token) → AllFit xs bs → Holds xs bs s ls ts t
    → place_fault (shapes bs) k ≡ None → symbol_fault t.symbols k ≡ None → Next xs bs s ls ts t at k
unfolding moved
goes xs bs s ls ts t at opening fit held pf sf =
    let q = place_none (shapes bs) opening pf in
    record {
      forms_so_far = xs;
      begun = elements at none ∷ bs;
      fit = (takes (shapes bs) opening refl q.0, refl, (deep_none (inside (shapes bs)) q.1, tt), fit);
      spelled = refl;
      held = ([], ls, t, refl, refl, held);
    }
goes xs bs s ls ts t at vector fit held pf sf =
    let q = place_none (shapes bs) vector pf in
    record {
      forms_so_far = xs;
      begun = in_vector_of at none ∷ bs;
      fit = (takes (shapes bs) vector refl q.0, refl, (deep_none (inside (shapes bs)) q.1, tt), fit);
      spelled = refl;
      held = ([], ls, t, refl, refl, held);
    }
goes xs bs s ls ts t at closing fit held pf sf = goes_closing xs bs s ls ts t at fit held (place_none (shapes bs) closing pf).1
goes xs bs s ls ts t at dot fit held pf sf = goes_dot xs bs s ls ts t at fit held (place_none (shapes bs) dot pf).1
goes xs bs s ls ts t at (prefix f) fit held pf sf =
    let q = place_none (shapes bs) (prefix f) pf in
    let may = prefix_none f (shapes bs) q.1 in
    record {
      forms_so_far = xs;
      begun = after_prefix at f ∷ bs;
      fit = (takes (shapes bs) (prefix f) refl q.0, may.2, (may.0, may.1), fit);
      spelled = refl;
      held = (ls, refl, held);
    }
goes xs bs s ls ts t at (atom a) fit held pf sf =
    let q = place_none (shapes bs) (atom a) pf in
    let v = symbol_none a t sf in
    subst (λ (o : Option (Val × Stock)). Stands s (beginning xs bs ++ placed at (atom a) ∷ []) (delivered_if o at (world ls ts t))) (sym v.1)
    (delivers xs bs s ls ts t (leaf at a) v.0 fit held tt (takes (shapes bs) (atom a) refl q.0) refl v.1)
goes xs bs s ls ts t at (bad kind) fit held pf sf = let q = (place_none (shapes bs) (bad kind) pf).1 in absurd (cc)

-- ---- a step

shapes_so : (s : Stock) (ps : List Placed) (w : World) (h : Stands s ps w) → shapes_of w.levels ≡ shapes h.begun
shapes_so s ps w h = shapes_held h.forms_so_far h.begun s w.levels w.tops w.stock h.held

abbrev world_in : World → Result World Refusal → World
world_in w (Ok v) = v
world_in w (Err r) = w

abbrev refusal_in : Refusal → Result World Refusal → Refusal
refusal_in r (Ok v) = r
refusal_in r (Err q) = q

step_goes : (s : Stock) (ps : List Placed) (w v : World) (end : ℕ) (q : Placed) → Stands s ps w → step w end q ≡ Ok v → Stands s (ps ++ q ∷ []) v
unfolding step
step_goes s ps w v end q h e = by (fault (shapes_of w.levels) w.stock.symbols q.token) refl e
  where
    by : (o : Option ReadKind) → fault (shapes_of w.levels) w.stock.symbols q.token ≡ o → stepped w end q o ≡ Ok v → Stands s (ps ++ q ∷ []) v
    by (Some kind) is e = absurd (cc)
    by None is e =
        let parts = or_none (place_fault (shapes_of w.levels) q.token) (symbol_fault w.stock.symbols q.token) is in
        let place : place_fault (shapes h.begun) q.token ≡ None = ap (λ ss. place_fault ss q.token) (sym (shapes_so s ps w h)) ∙ parts.0 in
        let next = goes h.forms_so_far h.begun s w.levels w.tops w.stock q.at q.token h.fit h.held place parts.1 in
        subst (λ (u : World). Stands s (ps ++ q ∷ []) u) (ap (world_in w) e)
        (spelled_so s (beginning h.forms_so_far h.begun ++ q ∷ []) (ps ++ q ∷ []) (moved w q.at q.token) (ap (λ (rs : List Placed). rs ++ q ∷ []) (sym h.spelled)) next)

step_stops : (s : Stock) (ps : List Placed) (w : World) (end : ℕ) (q : Placed) (rest : List Placed) (r : Refusal) → Stands s ps w → step w end q ≡ Err r → RefusesTokens (ps ++ q ∷ rest) end s r
unfolding step
step_stops s ps w end q rest r h e = by (fault (shapes_of w.levels) w.stock.symbols q.token) refl e
  where
    by : (o : Option ReadKind) → fault (shapes_of w.levels) w.stock.symbols q.token ≡ o → stepped w end q o ≡ Err r → RefusesTokens (ps ++ q ∷ rest) end s r
    by None is e = absurd (cc)
    by (Some kind) is e = (
      h.forms_so_far,
      h.begun,
      w.stock,
      h.fit,
      stock_held h.forms_so_far h.begun s w.levels w.tops w.stock h.held,
      inl (q, rest, kind, ap (λ (ps : List Placed). ps ++ q ∷ rest) h.spelled, ap (λ ss. fault ss w.stock.symbols q.token) (sym (shapes_so s ps w h)) ∙ is, sym (ap (refusal_in r) e)),
    )

-- ---- a run

none_begun : (xs : Trees) (bs : List Begun) (s : Stock) (ts : List TopRead) (t : Stock) → Holds xs bs s [] ts t → (bs ≡ []) × (forms xs s ≡ Some (ts, t))
none_begun xs [] s ts t (e, f) = (refl, f)
none_begun xs (elements o ys ∷ bs) s ts t (vs, rest, u, e, q, h) = absurd (cc)
none_begun xs (after_dot o ys d ∷ bs) s ts t (vs, rest, u, e, q, h) = absurd (cc)
none_begun xs (after_tail o ys d x ∷ bs) s ts t (vs, v, rest, u, m, e, q, r, h) = absurd (cc)
none_begun xs (in_vector_of o ys ∷ bs) s ts t (vs, rest, u, e, q, h) = absurd (cc)
none_begun xs (after_prefix o f ∷ bs) s ts t (rest, e, h) = absurd (cc)

some_begun : (xs : Trees) (bs : List Begun) (s : Stock) (l : Level) (ls : List Level) (ts : List TopRead) (t : Stock) → Holds xs bs s (l ∷ ls) ts t → 0 < length bs
some_begun xs [] s l ls ts t (e, f) = absurd (cc)
some_begun xs (b ∷ bs) s l ls ts t h = omega arith

end_reads : (s : Stock) (ps : List Placed) (ls : List Level) (ts : List TopRead) (t : Stock) (v : World) (end : ℕ) → Stands s ps (world ls ts t) → ended ls (world ls ts t) end ≡ Ok v → (v.levels ≡ []) × ReadsTokens ps s (v.tops, v.stock)
unfolding ended
end_reads s ps [] ts t v end h e =
    let w : World = world [] ts t in
    let same : w ≡ v = ap (world_in w) e in
    let none_is = none_begun h.forms_so_far h.begun s ts t h.held in
    let spelled : ps ≡ writings h.forms_so_far = h.spelled ∙ ap (beginning h.forms_so_far) none_is.0 in
    let fit = subst (AllFit h.forms_so_far) none_is.0 h.fit in
    subst (λ (u : World). (u.levels ≡ []) × ReadsTokens ps s (u.tops, u.stock)) same (refl, (h.forms_so_far, fit, spelled, none_is.1))
end_reads s ps (l ∷ ls) ts t v end h e = absurd (cc)

end_refuses : (s : Stock) (ps : List Placed) (ls : List Level) (ts : List TopRead) (t : Stock) (r : Refusal) (end : ℕ) → Stands s ps (world ls ts t) → ended ls (world ls ts t) end ≡ Err r → RefusesTokens ps end s r
unfolding ended
end_refuses s ps [] ts t r end h e = absurd (cc)
end_refuses s ps (l ∷ ls) ts t r end h e = (
  h.forms_so_far,
  h.begun,
  t,
  h.fit,
  stock_held h.forms_so_far h.begun s (l ∷ ls) ts t h.held,
  inr (some_begun h.forms_so_far h.begun s l ls ts t h.held, h.spelled, sym (ap (refusal_in r) e)),
)

pub run_reads : (s : Stock) (ps qs : List Placed) (w v : World) (end : ℕ) → Stands s ps w → run w end qs ≡ Ok v → (v.levels ≡ []) × ReadsTokens (ps ++ qs) s (v.tops, v.stock)
unfolding run
run_reads s ps [] w v end h e =
    subst (λ (rs : List Placed). (v.levels ≡ []) × ReadsTokens rs s (v.tops, v.stock)) (sym (append-nil ps)) (end_reads s ps w.levels w.tops w.stock v end h e)
run_reads s ps (q ∷ qs) w v end h e = by (λ u g f. run_reads s (ps ++ q ∷ []) qs u v end g f) (step w end q) refl e
  where
    by : ((u : World) → Stands s (ps ++ q ∷ []) u → run u end qs ≡ Ok v → (v.levels ≡ []) × ReadsTokens ((ps ++ q ∷ []) ++ qs) s (v.tops, v.stock))
        → (o : Result World Refusal) → step w end q ≡ o → then_do o (λ u. run u end qs) ≡ Ok v → (v.levels ≡ []) × ReadsTokens (ps ++ q ∷ qs) s (v.tops, v.stock)
    by rest (Ok u) is e = subst (λ (rs : List Placed). (v.levels ≡ []) × ReadsTokens rs s (v.tops, v.stock)) (append_assoc ps (q ∷ []) qs) (rest u (step_goes s ps w u end q h is) e)
    by rest (Err r) is e = absurd (cc)

pub run_refuses : (s : Stock) (ps qs : List Placed) (w : World) (r : Refusal) (end : ℕ) → Stands s ps w → run w end qs ≡ Err r → RefusesTokens (ps ++ qs) end s r
unfolding run
run_refuses s ps [] w r end h e =
    subst (λ (rs : List Placed). RefusesTokens rs end s r) (sym (append-nil ps)) (end_refuses s ps w.levels w.tops w.stock r end h e)
run_refuses s ps (q ∷ qs) w r end h e = by (λ u g f. run_refuses s (ps ++ q ∷ []) qs u r end g f) (step w end q) refl e
  where
    by : ((u : World) → Stands s (ps ++ q ∷ []) u → run u end qs ≡ Err r → RefusesTokens ((ps ++ q ∷ []) ++ qs) end s r)
        → (o : Result World Refusal) → step w end q ≡ o → then_do o (λ u. run u end qs) ≡ Err r → RefusesTokens (ps ++ q ∷ qs) end s r
    by rest (Ok u) is e = subst (λ (rs : List Placed). RefusesTokens rs end s r) (append_assoc ps (q ∷ []) qs) (rest u (step_goes s ps w u end q h is) e)
    by rest (Err k) is e = step_stops s ps w end q qs r h (is ∙ e)
