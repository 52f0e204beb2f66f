-- What the grammar says, the machine does.
use Rattle.std.proofs.Common.{◌≡◌, ◌<◌, ℕ, Bool, true, false, not, ◌&&◌, ◌||◌, ◌==◌, List, [], ◌∷◌, ◌++◌, refl, ap, ◌∙◌, arith, Option, Some, None, append_assoc, if◌then◌else◌}
use Rattle.lisp_base.specs.Sort.{nil}
use Rattle.lisp_base.specs.declared.values.Val.{Val}
use Rattle.lisp_base.specs.declared.values.SymKind.TheVariants.{Plain, Keyword}
use Rattle.lisp_base.specs.Tables.{Table, interned}
use Rattle.std.specs.Str.{encode_utf8_all}
use Rattle.lisp_reader.specs.declared.around.Around.{Around}
use Rattle.lisp_reader.specs.declared.fault.ReadKind.TheVariants.{BadToken, Unsupported, TooDeep}
use Rattle.lisp_reader.specs.declared.token.Prefix.{Prefix}
use Rattle.lisp_reader.specs.declared.token.Prefix.TheVariants as p
use Rattle.lisp_reader.specs.declared.forms.TopRead.{TopRead}
use Rattle.lisp_reader.specs.declared.level.Shape.{Shape}
use Rattle.lisp_reader.specs.Tokens.{Placed, placed, Token, opening, vector, closing, dot, prefix, atom, Atom, integer, character, string, symbol, keyword}
use Rattle.lisp_reader.specs.Trees.{Tree, Trees, leaf, prefixed, list, dotted, vector_of, none, also, writing, writings, top, in_list, in_vector, Fits, FitAll, begins_splice, MayStand, MayComma, is_splice}
use Rattle.lisp_reader.specs.Building.{Stock, top_form, bound, value, values, forms, start, prefix_value, list_value, vector_value, pushed, atom_value, symbol_value}
use Rattle.lisp_reader.specs.Reading.{inside, takes_form, follows_backquote, place_fault, symbol_fault, form_fault, prefix_fault, comma_fault, too_deep, or_else, full, is_closing}
use Rattle.lisp_reader.specs.Machine.{Level, list_level, dot_level, tail_level, vector_level, prefix_level, World, world, some_value, shapes_of, delivered, closed, dotting, moved, delivered_if, step, stepped, run}
use Rattle.lisp_reader.proofs.Steps.{run_goes}
use Rattle.lisp_reader.proofs.Standing.{bound_some, some_values}

pub and_false : (b : Bool) → (b && false) ≡ false
and_false true = refl
and_false false = refl

-- ---- what may come has no fault

shallow : (a : Around) → 0 < a.levels → too_deep a ≡ None
shallow a h = let deep : (a.levels == 0) ≡ false = grind (arith, h) in ap (λ b. if b then Some TooDeep else None) deep

comma_fits : (a : Around) → 0 < a.levels → MayComma a → comma_fault a ≡ None
comma_fits a h m =
    ap (λ q. if not q || a.comma then Some BadToken else if a.vector then Some Unsupported else too_deep a) m.inside
    ∙ (ap (λ c. if c then Some BadToken else if a.vector then Some Unsupported else too_deep a) m.outside
    ∙ (ap (λ v. if v then Some Unsupported else too_deep a) m.unvectored ∙ shallow a h))

prefix_fits : (f : Prefix) (ss : List Shape) → 0 < (inside ss).levels → MayStand f (inside ss) → (is_splice f && follows_backquote ss) ≡ false → prefix_fault f ss ≡ None
prefix_fits p.Quote ss h m e = shallow (inside ss) h
prefix_fits p.Function ss h m e = shallow (inside ss) h
prefix_fits p.Backquote ss h m e = ap (λ b. if b then Some Unsupported else too_deep (inside ss)) m ∙ shallow (inside ss) h
prefix_fits p.Comma ss h m e = comma_fits (inside ss) h m
prefix_fits p.Splice ss h m e = ap (λ b. if b then Some BadToken else comma_fault (inside ss)) e ∙ comma_fits (inside ss) h m

place_fits : (ss : List Shape) (t : Token) → (takes_form ss || is_closing t) ≡ true → form_fault ss t ≡ None → place_fault ss t ≡ None
unfolding place_fault
place_fits ss t e f = ap (λ b. if b then form_fault ss t else Some BadToken) e ∙ f

form_fits : (ss : List Shape) (t : Token) → takes_form ss ≡ true → form_fault ss t ≡ None → place_fault ss t ≡ None
form_fits ss t e f = place_fits ss t (ap (λ b. b || is_closing t) e) f

closing_fits : (ss : List Shape) → form_fault ss closing ≡ None → place_fault ss closing ≡ None
closing_fits ss f = place_fits ss closing (by (takes_form ss)) f
  where
    by : (b : Bool) → (b || true) ≡ true
    by true = refl
    by false = refl

room : (a : Atom) (t : Stock) (v : Val × Stock) → atom_value a t ≡ Some v → symbol_fault t.symbols (atom a) ≡ None
unfolding symbol_fault atom_value
room (integer n) t v e = refl
room (character c) t v e = refl
room (string l) t v e = refl
room (symbol n) t v e =
    let f = bound_some (interned (encode_utf8_all n) Plain t.symbols) (λ found. Some (symbol_value t.objects found)) v e in ap full f.1
room (keyword n) t v e =
    let f = bound_some (interned (encode_utf8_all n) Keyword t.symbols) (λ found. Some (symbol_value t.objects found)) v e in ap full f.1

no_symbol : (s : Table) → (symbol_fault s opening ≡ None) × (symbol_fault s vector ≡ None) × (symbol_fault s closing ≡ None) × (symbol_fault s dot ≡ None) × ((f : Prefix) → symbol_fault s (prefix f) ≡ None)
unfolding symbol_fault
no_symbol s = (refl, refl, refl, refl, λ f. refl)

moves : (w : World) (end at : ℕ) (t : Token) (rest : List Placed) → place_fault (shapes_of w.levels) t ≡ None → symbol_fault w.stock.symbols t ≡ None → run w end (placed at t ∷ rest) ≡ run (moved w at t) end rest
unfolding step
moves w end at t rest a b =
    run_goes w (moved w at t) end (placed at t) rest
    (ap (stepped w end (placed at t)) (ap (λ o. or_else o (symbol_fault w.stock.symbols t)) a ∙ b))

some_in : {X : Type 0} → X → Option X → X
some_in x None = x
some_in x (Some y) = y

pub same_some : {X : Type 0} (x y : X) → Some x ≡ Some y → x ≡ y
unfolding some_in
same_some x y e = ap (some_in x) e

-- ---- the steps of each token

pub opens : (ls : List Level) (ts : List TopRead) (t : Stock) (end at : ℕ) (rest : List Placed) → takes_form (shapes_of ls) ≡ true → 0 < (inside (shapes_of ls)).levels
    → run (world ls ts t) end (placed at opening ∷ rest) ≡ run (world (list_level at [] ∷ ls) ts t) end rest
unfolding moved
opens ls ts t end at rest form h = moves (world ls ts t) end at opening rest (form_fits (shapes_of ls) opening form (shallow (inside (shapes_of ls)) h)) (no_symbol t.symbols).0

pub opens_vector : (ls : List Level) (ts : List TopRead) (t : Stock) (end at : ℕ) (rest : List Placed) → takes_form (shapes_of ls) ≡ true → 0 < (inside (shapes_of ls)).levels
    → run (world ls ts t) end (placed at vector ∷ rest) ≡ run (world (vector_level at [] ∷ ls) ts t) end rest
unfolding moved
opens_vector ls ts t end at rest form h = moves (world ls ts t) end at vector rest (form_fits (shapes_of ls) vector form (shallow (inside (shapes_of ls)) h)) (no_symbol t.symbols).1

pub opens_prefix : (ls : List Level) (ts : List TopRead) (t : Stock) (end at : ℕ) (f : Prefix) (rest : List Placed) → takes_form (shapes_of ls) ≡ true → 0 < (inside (shapes_of ls)).levels → MayStand f (inside (shapes_of ls)) → (is_splice f && follows_backquote (shapes_of ls)) ≡ false
    → run (world ls ts t) end (placed at (prefix f) ∷ rest) ≡ run (world (prefix_level at f ∷ ls) ts t) end rest
unfolding moved
opens_prefix ls ts t end at f rest form h m e = moves (world ls ts t) end at (prefix f) rest (form_fits (shapes_of ls) (prefix f) form (prefix_fits f (shapes_of ls) h m e)) ((no_symbol t.symbols).4 f)

pub dots : (o : ℕ) (vs : List Val) (ls : List Level) (ts : List TopRead) (t : Stock) (end at : ℕ) (rest : List Placed) → some_value vs ≡ true
    → run (world (list_level o vs ∷ ls) ts t) end (placed at dot ∷ rest) ≡ run (world (dot_level o vs ∷ ls) ts t) end rest
unfolding moved dotting
dots o vs ls ts t end at rest some =
    moves (world (list_level o vs ∷ ls) ts t) end at dot rest (form_fits (shapes_of (list_level o vs ∷ ls)) dot refl (ap (λ b. if b then None else Some BadToken) some)) (no_symbol t.symbols).3

closes_list : (o : ℕ) (vs : List Val) (ls : List Level) (ts : List TopRead) (t : Stock) (end at : ℕ) (rest : List Placed)
    → run (world (list_level o vs ∷ ls) ts t) end (placed at closing ∷ rest) ≡ run (delivered ls ts o (list_value o nil (vs, t))) end rest
unfolding moved closed
closes_list o vs ls ts t end at rest = moves (world (list_level o vs ∷ ls) ts t) end at closing rest (closing_fits (shapes_of (list_level o vs ∷ ls)) refl) (no_symbol t.symbols).2

closes_tail : (o : ℕ) (vs : List Val) (v : Val) (ls : List Level) (ts : List TopRead) (t : Stock) (end at : ℕ) (rest : List Placed)
    → run (world (tail_level o vs v ∷ ls) ts t) end (placed at closing ∷ rest) ≡ run (delivered ls ts o (list_value o v (vs, t))) end rest
unfolding moved closed
closes_tail o vs v ls ts t end at rest = moves (world (tail_level o vs v ∷ ls) ts t) end at closing rest (closing_fits (shapes_of (tail_level o vs v ∷ ls)) refl) (no_symbol t.symbols).2

closes_vector : (o : ℕ) (vs : List Val) (ls : List Level) (ts : List TopRead) (t : Stock) (end at : ℕ) (rest : List Placed)
    → run (world (vector_level o vs ∷ ls) ts t) end (placed at closing ∷ rest) ≡ run (delivered ls ts o (vector_value (vs, t))) end rest
unfolding moved closed
closes_vector o vs ls ts t end at rest = moves (world (vector_level o vs ∷ ls) ts t) end at closing rest (closing_fits (shapes_of (vector_level o vs ∷ ls)) refl) (no_symbol t.symbols).2

-- ---- forms

mutual
  unfolding delivered moved

  pub reads_tree : (x : Tree) (ls : List Level) (ts : List TopRead) (t : Stock) (end : ℕ) (rest : List Placed) (v : Val × Stock)
      → Fits (inside (shapes_of ls)) x → takes_form (shapes_of ls) ≡ true → (begins_splice x && follows_backquote (shapes_of ls)) ≡ false → value x t ≡ Some v
      → run (world ls ts t) end (writing x ++ rest) ≡ run (delivered ls ts (start x) v) end rest
  reads_tree (leaf o a) ls ts t end rest v fits form splice given =
      moves (world ls ts t) end o (atom a) rest (form_fits (shapes_of ls) (atom a) form refl) (room a t v given)
      ∙ ap (λ m. run (delivered_if m o (world ls ts t)) end rest) given
  reads_tree (prefixed o f x) ls ts t end rest v fits form splice given =
      let b = bound_some (value x t) (λ u. Some (prefix_value o f u)) v given in
      opens_prefix ls ts t end o f (writing x ++ rest) form fits.0 fits.1 splice
      ∙ (reads_tree x (prefix_level o f ∷ ls) ts t end rest b.0 fits.3 refl fits.2 b.1
      ∙ ap (λ (u : Val × Stock). run (delivered ls ts o u) end rest) (same_some (prefix_value o f b.0) v b.2))
  reads_tree (list o xs c) ls ts t end rest v fits form splice given =
      let b = bound_some (values xs t) (λ us. Some (list_value o nil us)) v given in
      ap (λ (ps : List Placed). run (world ls ts t) end (placed o opening ∷ ps)) (append_assoc (writings xs) (placed c closing ∷ []) rest)
      ∙ (opens ls ts t end o (writings xs ++ placed c closing ∷ rest) form fits.0
      ∙ (list_reads xs o ls ts t end (placed c closing ∷ rest) b.0.0 b.0.1 fits.1 b.1
      ∙ (closes_list o b.0.0 ls ts b.0.1 end c rest
      ∙ ap (λ (u : Val × Stock). run (delivered ls ts o u) end rest) (same_some (list_value o nil b.0) v b.2))))
  reads_tree (dotted o xs d x c) ls ts t end rest v fits form splice given =
      let a = bound_some (values xs t) (λ us. bound (value x us.1) (λ u. Some (list_value o u.0 (us.0, u.1)))) v given in
      let b = bound_some (value x a.0.1) (λ u. Some (list_value o u.0 (a.0.0, u.1))) v a.2 in
      ap (λ (ps : List Placed). run (world ls ts t) end (placed o opening ∷ ps))
      (append_assoc (writings xs) (placed d dot ∷ (writing x ++ placed c closing ∷ [])) rest
      ∙ ap (λ (ps : List Placed). writings xs ++ placed d dot ∷ ps) (append_assoc (writing x) (placed c closing ∷ []) rest))
      ∙ (opens ls ts t end o (writings xs ++ placed d dot ∷ (writing x ++ placed c closing ∷ rest)) form fits.0
      ∙ (list_reads xs o ls ts t end (placed d dot ∷ (writing x ++ placed c closing ∷ rest)) a.0.0 a.0.1 fits.2 a.1
      ∙ (dots o a.0.0 ls ts a.0.1 end d (writing x ++ placed c closing ∷ rest) (some_values xs t a.0.1 a.0.0 a.1 ∙ fits.1)
      ∙ (reads_tree x (dot_level o a.0.0 ∷ ls) ts a.0.1 end (placed c closing ∷ rest) b.0 fits.3 refl (and_false (begins_splice x)) b.1
      ∙ (closes_tail o a.0.0 b.0.0 ls ts b.0.1 end c rest
      ∙ ap (λ (u : Val × Stock). run (delivered ls ts o u) end rest) (same_some (list_value o b.0.0 (a.0.0, b.0.1)) v b.2))))))
  reads_tree (vector_of o xs c) ls ts t end rest v fits form splice given =
      let b = bound_some (values xs t) (λ us. Some (vector_value us)) v given in
      ap (λ (ps : List Placed). run (world ls ts t) end (placed o vector ∷ ps)) (append_assoc (writings xs) (placed c closing ∷ []) rest)
      ∙ (opens_vector ls ts t end o (writings xs ++ placed c closing ∷ rest) form fits.0
      ∙ (vector_reads xs o ls ts t end (placed c closing ∷ rest) b.0.0 b.0.1 fits.1 b.1
      ∙ (closes_vector o b.0.0 ls ts b.0.1 end c rest
      ∙ ap (λ (u : Val × Stock). run (delivered ls ts o u) end rest) (same_some (vector_value b.0) v b.2))))

  pub list_reads : (xs : Trees) (o : ℕ) (ls : List Level) (ts : List TopRead) (t : Stock) (end : ℕ) (rest : List Placed) (vs : List Val) (u : Stock)
      → FitAll (in_list (inside (shapes_of ls))) xs → values xs t ≡ Some (vs, u)
      → run (world (list_level o [] ∷ ls) ts t) end (writings xs ++ rest) ≡ run (world (list_level o vs ∷ ls) ts u) end rest
  list_reads none o ls ts t end rest vs u fits given =
      ap (λ (q : List Val × Stock). run (world (list_level o q.0 ∷ ls) ts q.1) end rest) (same_some ([], t) (vs, u) given)
  list_reads (also xs x) o ls ts t end rest vs u fits given =
      let a = bound_some (values xs t) (λ us. bound (value x us.1) (λ w. Some (pushed us.0 w))) (vs, u) given in
      let b = bound_some (value x a.0.1) (λ w. Some (pushed a.0.0 w)) (vs, u) a.2 in
      ap (run (world (list_level o [] ∷ ls) ts t) end) (append_assoc (writings xs) (writing x) rest)
      ∙ (list_reads xs o ls ts t end (writing x ++ rest) a.0.0 a.0.1 fits.0 a.1
      ∙ (reads_tree x (list_level o a.0.0 ∷ ls) ts a.0.1 end rest b.0 fits.1 refl (and_false (begins_splice x)) b.1
      ∙ ap (λ (q : List Val × Stock). run (world (list_level o q.0 ∷ ls) ts q.1) end rest) (same_some (pushed a.0.0 b.0) (vs, u) b.2)))

  pub vector_reads : (xs : Trees) (o : ℕ) (ls : List Level) (ts : List TopRead) (t : Stock) (end : ℕ) (rest : List Placed) (vs : List Val) (u : Stock)
      → FitAll (in_vector (inside (shapes_of ls))) xs → values xs t ≡ Some (vs, u)
      → run (world (vector_level o [] ∷ ls) ts t) end (writings xs ++ rest) ≡ run (world (vector_level o vs ∷ ls) ts u) end rest
  vector_reads none o ls ts t end rest vs u fits given =
      ap (λ (q : List Val × Stock). run (world (vector_level o q.0 ∷ ls) ts q.1) end rest) (same_some ([], t) (vs, u) given)
  vector_reads (also xs x) o ls ts t end rest vs u fits given =
      let a = bound_some (values xs t) (λ us. bound (value x us.1) (λ w. Some (pushed us.0 w))) (vs, u) given in
      let b = bound_some (value x a.0.1) (λ w. Some (pushed a.0.0 w)) (vs, u) a.2 in
      ap (run (world (vector_level o [] ∷ ls) ts t) end) (append_assoc (writings xs) (writing x) rest)
      ∙ (vector_reads xs o ls ts t end (writing x ++ rest) a.0.0 a.0.1 fits.0 a.1
      ∙ (reads_tree x (vector_level o a.0.0 ∷ ls) ts a.0.1 end rest b.0 fits.1 refl (and_false (begins_splice x)) b.1
      ∙ ap (λ (q : List Val × Stock). run (world (vector_level o q.0 ∷ ls) ts q.1) end rest) (same_some (pushed a.0.0 b.0) (vs, u) b.2)))

pub reads_forms : (xs : Trees) (s : Stock) (end : ℕ) (rest : List Placed) (ts : List TopRead) (t : Stock) → FitAll top xs → forms xs s ≡ Some (ts, t)
    → run (world [] [] s) end (writings xs ++ rest) ≡ run (world [] ts t) end rest
unfolding delivered
reads_forms none s end rest ts t fits given =
    ap (λ (q : List TopRead × Stock). run (world [] q.0 q.1) end rest) (same_some ([], s) (ts, t) given)
reads_forms (also xs x) s end rest ts t fits given =
    let a = bound_some (forms xs s) (λ fs. bound (value x fs.1) (λ v. Some (fs.0 ++ top_form (start x) v.0 ∷ [], v.1))) (ts, t) given in
    let b = bound_some (value x a.0.1) (λ v. Some (a.0.0 ++ top_form (start x) v.0 ∷ [], v.1)) (ts, t) a.2 in
    ap (run (world [] [] s) end) (append_assoc (writings xs) (writing x) rest)
    ∙ (reads_forms xs s end (writing x ++ rest) a.0.0 a.0.1 fits.0 a.1
    ∙ (reads_tree x [] a.0.0 a.0.1 end rest b.0 fits.1 refl (and_false (begins_splice x)) b.1
    ∙ ap (λ (q : List TopRead × Stock). run (world [] q.0 q.1) end rest) (same_some (a.0.0 ++ top_form (start x) b.0.0 ∷ [], b.0.1) (ts, t) b.2)))
