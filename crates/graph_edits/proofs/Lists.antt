-- Lists of graphs that differ in one graph, read by the number of a graph and by the number of a function.
use Rattle.std.proofs.Common.{◌≡◌, ◌≢◌, refl, ap, sym, subst, ◌∙◌, ℕ, zero, suc, ◌+◌, ◌-◌, ◌<◌, arith, Bool, true, false, if◌then◌else◌, nat_lt, List, [], ◌∷◌, ◌++◌, length, take, Option, Some, None}
use Rattle.std.specs.Prelude.{slice_get}
use Rattle.icr_graph.specs.declared.parts.Function.{Function}
use Rattle.icr_graph.specs.Plain.{FlowGraph}
use Rattle.graph_meaning.specs.Reading.{named, lambdas_in, function_of_lambda, Found, found, function_at, first_function, defined_by, prelude_functions}
use Rattle.graph_edits.proofs.Alike.{Edit, edited}
use Rattle.graph_edits.proofs.Steps.{FoundAlike, not_found, found_elsewhere, found_within, Differ}

-- ---- lists of anything

pub got_here : {A : Type 0} (before after : List A) (x : A) → slice_get (before ++ x ∷ after) (length before) ≡ Some x
got_here [] after x = refl
got_here (y ∷ ys) after x = got_here ys after x

pub got_elsewhere : {A : Type 0} (before after : List A) (x y : A) (c : ℕ) → c ≢ length before → slice_get (before ++ x ∷ after) c ≡ slice_get (before ++ y ∷ after) c
got_elsewhere [] after x y zero other = absurd (other refl)
got_elsewhere [] after x y (suc c) other = refl
got_elsewhere (z ∷ zs) after x y zero other = refl
got_elsewhere (z ∷ zs) after x y (suc c) other = got_elsewhere zs after x y c (λ e. other (ap suc e))

named_there : {A : Type 0} (entries : ℕ → Option A) (o : Option ℕ) (a : A) → named entries o ≡ Some a → (j : ℕ) × (entries j ≡ Some a)
named_there entries None a e = cc
named_there entries (Some j) a e = (j, e)

-- the function of a lambda is one of the graph
lambda_there : (g : FlowGraph) (k : ℕ) (f : Function) → function_of_lambda g k ≡ Some f → (j : ℕ) × (g.function j ≡ Some f)
lambda_there g k f e = by_case (slice_get g.lambdas k) refl
  where
    by_case : (o : Option (Option ℕ)) → slice_get g.lambdas k ≡ o → (j : ℕ) × (g.function j ≡ Some f)
    by_case None is = absurd_of (rw is at e)
      where
        absurd_of : None ≡ Some f → (j : ℕ) × (g.function j ≡ Some f)
        absurd_of q = cc
    by_case (Some o) is = named_there g.function o f (rw is at e)

module _ (E : Edit) (after : List FlowGraph) where
  abbrev old_list : List FlowGraph → List FlowGraph
  old_list before = before ++ E.text ∷ after

  abbrev new_list : List FlowGraph → List FlowGraph
  new_list before = before ++ edited E ∷ after

  starts_same : (before : List FlowGraph) (c : ℕ) → first_function (old_list before) c ≡ first_function (new_list before) c
  starts_same [] zero = refl
  starts_same [] (suc c) = refl
  starts_same (z ∷ zs) zero = refl
  starts_same (z ∷ zs) (suc c) = ap (λ (n : ℕ). lambdas_in z + n) (starts_same zs c)

  pub defined_same : (before : List FlowGraph) (start p : ℕ) → prelude_functions start (take p (old_list before)) ≡ prelude_functions start (take p (new_list before))
  defined_same [] start zero = refl
  defined_same [] start (suc p) = refl
  defined_same (z ∷ zs) start zero = refl
  defined_same (z ∷ zs) start (suc p) = ap (defined_by start z.defines) (defined_same zs (start + lambdas_in z) p)

  -- ---- functions by their numbers

  found_same : (m : ℕ) (g : FlowGraph) → m ≢ E.number → (o : Option Function) → FoundAlike E (found m g o) (found m g o)
  found_same m g other None = not_found
  found_same m g other (Some f) = found_elsewhere _ other

  either_found : (t : Bool) {o o' u u' : Option Found} → FoundAlike E o o' → FoundAlike E u u' → FoundAlike E (if t then o else u) (if t then o' else u')
  either_found true h l = h
  either_found false h l = l

  -- from a graph behind the edited one on
  found_later : (m : ℕ) → E.number < m → (gs : List FlowGraph) (k : ℕ) → FoundAlike E (function_at m gs k) (function_at m gs k)
  found_later m above [] k = not_found
  found_later m above (g ∷ gs) k =
      either_found (nat_lt k (lambdas_in g)) (found_same m g (λ e. omega (arith, above, e)) (function_of_lambda g k)) (found_later (suc m) (omega (arith, above)) gs (k - lambdas_in g))

  found_edited : (m : ℕ) → m ≡ E.number → (o : Option Function) → ((f : Function) → o ≡ Some f → (j : ℕ) × (E.text.function j ≡ Some f)) → FoundAlike E (found m E.text o) (found m (edited E) o)
  found_edited m is None there = not_found
  found_edited m is (Some f) there =
      let j = there f refl in
      subst (λ (n : ℕ). FoundAlike E (found n E.text (Some f)) (found n (edited E) (Some f))) (sym is) (found_within f j.0 j.1)

  found_alike : (before : List FlowGraph) (m : ℕ) → m + length before ≡ E.number → (k : ℕ) → FoundAlike E (function_at m (old_list before) k) (function_at m (new_list before) k)
  found_alike [] m is k =
      let e : m ≡ E.number = omega (arith, is) in
      either_found (nat_lt k (lambdas_in E.text)) (found_edited m e (function_of_lambda E.text k) (λ f q. lambda_there E.text k f q))
      (found_later (suc m) (omega (arith, e)) after (k - lambdas_in E.text))
  found_alike (z ∷ zs) m is k =
      either_found (nat_lt k (lambdas_in z)) (found_same m z (λ e. omega (arith, e, is)) (function_of_lambda z k))
      (found_alike zs (suc m) (omega (arith, is)) (k - lambdas_in z))

  pub differ : (before : List FlowGraph) → E.number ≡ length before → Differ E (old_list before) (new_list before)
  differ before is = record {
    before = subst (λ (n : ℕ). slice_get (old_list before) n ≡ Some E.text) (sym is) (got_here before after E.text);
    after = subst (λ (n : ℕ). slice_get (new_list before) n ≡ Some (edited E)) (sym is) (got_here before after (edited E));
    others = λ c other. got_elsewhere before after E.text (edited E) c (λ e. other (e ∙ sym is));
    starts = starts_same before;
    found = found_alike before 0 (omega (arith, is));
  }
