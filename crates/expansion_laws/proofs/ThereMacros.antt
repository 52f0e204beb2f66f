-- The form that a macro form gives is there: each row of the table of macros puts words, arguments and their parts together. Words stand here
-- by their numbers, each of which is that of a base name.
use Rattle.std.specs.Prelude.{refl, ℕ, zero, suc, ◌+◌, ◌<◌, Bool, true, false, not, List, [], ◌∷◌, ◌++◌, length, map, reverse, find, Option, Some, None, if◌then◌else◌}
use Rattle.std.specs.List.{list_all, flat_map}
use Rattle.std.specs.Option.{option_map, option_and_then, is_some}
use Rattle.std.proofs.Common.{arith}
use Rattle.lisp_base.specs.declared.values.Val.{Val}
use Rattle.lisp_base.specs.declared.values.Val.TheVariants.{Sym}
use Rattle.lisp_base.specs.Sort.{nil, symbol}
use Rattle.lisp_base.specs.Membership.{is_symbol}
use Rattle.lisp_base.specs.Tables.{Table, Object}
use Rattle.lisp_forms.specs.Conses.{cons_at, elements, is_nil}
use Rattle.lisp_forms.specs.Trees.{Tree, form, fresh, inner, list, list_before}
use Rattle.std_macros.specs.declared.macros.Macro.{Macro}
use Rattle.std_macros.specs.declared.macros.Macro.TheVariants as m
use Rattle.std_macros.specs.Words.{word_number}
use Rattle.std_macros.specs.Rules.{Expansion, expansion, plain, forms, binding, let_form, kept, nil_block, fresh_from, fresh_bindings, fresh_sets}
use Rattle.std_macros.specs.Syntax.{is_word, each, pairs, all_symbols, only_of, is_string, is_declaration, undocumented, Parts, parts, with_declaration, parted, body_parts}
use Rattle.std_macros.specs.Conditionals.{and_row, or_row, clause_row, cond_row, when_row, unless_row}
use Rattle.std_macros.specs.Cases.{Clause, clause, keys_by, is_default, before_default, tests_of}
use Rattle.std_macros.specs.Loops.{go_to, loop_row, step, step_from, step_at, step_binding, next_value, step_sets, end_test, repeat, repeat_from, number, dotimes_form, dotimes_row, the_list, dolist_form, dolist_row}
use Rattle.std_macros.specs.Bindings.{return_row, kept_form, prog1_row, prog2_row, psetq_with, psetq_row}
use Rattle.std_macros.specs.Places.{Target, variable, access, writers, writer_of, target_from, target_at, read_form, write_form, store_form, setf_target, setf_forms, setf_each, setf_row, push_target, push_row, popped_form, pop_target, pop_row}
use Rattle.std_macros.specs.ManyValues.{receive_form, bind_values_row, list_values_row, set_form, set_values, set_values_row, nth_value_row, lambda_row}
use Rattle.std_macros.specs.Quasiquotes.{under, joined, quasi_parts, quasi_form, quasiquote_row}
use Rattle.std_macros.specs.Expanding.{row, rest_by, rest_of, arguments_row, Expanded, gives, bad, full, with_symbols, expanded_by, arguments_of, expanded, macro_of_form, expanded_as, expanded_form}
use Rattle.expansion_laws.specs.There.{Stores, stores, IsThere, AreSound}
use Rattle.expansion_laws.proofs.ThereLists.{Each, no_more, one_more, Where, nothing_there, found_there, where_then, where_map, where_if, each_map, each_append, each_mapped, each_flat, each_reversed}
use Rattle.expansion_laws.proofs.ThereStores.{PairIsThere, ValuesAreThere, grown_on, values_stay, IsBase, based, symbol_there, nil_there, number_there, cons_there, elements_there}
use Rattle.expansion_laws.proofs.ThereBuilding.{Made, FormsAreThere, form_there, fresh_there, inner_there, list_there, forms_stay, all_trees_there, tree_built, around_built, fresh_symbols_made, FreshMade}

abbrev pub TreesAreThere : Stores → List Tree → Type 0
TreesAreThere s xs = Each (FormsAreThere s) xs

pub record ExpansionIsThere (s : Stores) (x : Expansion) : Type 0 where
  pub first : FormsAreThere s x.first
  pub around : TreesAreThere s x.around

pub plainly : {s : Stores} {x : Tree} (n : ℕ) → FormsAreThere s x → ExpansionIsThere s (plain n x)
plainly n h = record { first = h; around = no_more }

-- two things that are there
both : {s : Stores} {x y : Tree} → FormsAreThere s x → FormsAreThere s y → TreesAreThere s (x ∷ y ∷ [])
both h k = one_more h (one_more k no_more)

just : {s : Stores} {x : Tree} → FormsAreThere s x → TreesAreThere s (x ∷ [])
just h = one_more h no_more

-- a clause by how its first element is read
abbrev clause_by : (Val → Option (List Val)) → List Val → Option Clause
clause_by read [] = None
clause_by read (head ∷ body) = option_map (λ tests. clause head tests body) (read head)

-- (MEMBER KEY*), MEMBER being symbol 31
abbrev member_of_tests : List Val → Tree
member_of_tests tests = list (form (Sym (symbol 31)) ∷ forms tests)

-- the type of a first test, or else the symbol of this number
abbrev type_of_tests : ℕ → List Val → Tree
type_of_tests n [] = form (Sym (symbol n))
type_of_tests n (t ∷ ts) = form t

-- the clauses, by what makes their forms, none of which stands for all that is left
abbrev chosen_by : Val → (Clause → Tree) → List Clause × Tree → Option Expansion
chosen_by a to p = if list_all (λ (c : Clause). not (is_default c.head)) p.0 then Some (expansion 1 p.1 (reverse (map to p.0) ++ kept a (inner ∷ []) ∷ [])) else None

-- an end test and results that are given
abbrev ended_by : (Val → List Val → Expansion) → List Val → Option Expansion
ended_by f [] = None
ended_by f (end ∷ results) = Some (f end results)

-- a place that is changed by the function of this number; SETQ is symbol 105
abbrev changed : ℕ → Val → Target → Expansion
changed n d (variable v) = plain 0 (list (form (Sym (symbol 105)) ∷ form v ∷ list (form (Sym (symbol n)) ∷ form v ∷ form d ∷ []) ∷ []))
changed n d (access op writer args) =
    plain (length args + 2) (let_form (fresh_bindings 0 args ++ binding (fresh (length args)) (form d) ∷ [])
    (store_form writer 0 (length args) (length args + 1) (list (form (Sym (symbol n)) ∷ read_form op 0 (length args) ∷ fresh (length args) ∷ [])) ∷ []))

-- ---- trees of words and forms

module _ (s : Stores) (sound : AreSound s) where
  a_word : {n : ℕ} → IsBase n → FormsAreThere s (form (Sym (symbol n)))
  a_word {n} b = form_there (symbol_there (symbol n) (based sound n b))

  a_list : (xs : List Tree) → TreesAreThere s xs → FormsAreThere s (list xs)
  a_list xs h = list_there (all_trees_there h) (nil_there sound)

  a_list_before : (xs : List Tree) (tail : Val) → TreesAreThere s xs → IsThere s tail → FormsAreThere s (list_before xs tail)
  a_list_before xs tail h k = list_there (all_trees_there h) k

  the_forms : {vs : List Val} → ValuesAreThere s vs → TreesAreThere s (forms vs)
  the_forms h = each_mapped form (λ v k. form_there k) h

  a_call : {n : ℕ} {vs : List Val} → IsBase n → ValuesAreThere s vs → FormsAreThere s (list (form (Sym (symbol n)) ∷ forms vs))
  a_call b h = a_list _ (one_more (a_word b) (the_forms h))

  of_one : {n : ℕ} {a : Tree} → IsBase n → FormsAreThere s a → FormsAreThere s (list (form (Sym (symbol n)) ∷ a ∷ []))
  of_one b h = a_list _ (both (a_word b) h)

  of_two : {n : ℕ} {a c : Tree} → IsBase n → FormsAreThere s a → FormsAreThere s c → FormsAreThere s (list (form (Sym (symbol n)) ∷ a ∷ c ∷ []))
  of_two b h k = a_list _ (one_more (a_word b) (both h k))

  of_three : {n : ℕ} {a c d : Tree} → IsBase n → FormsAreThere s a → FormsAreThere s c → FormsAreThere s d → FormsAreThere s (list (form (Sym (symbol n)) ∷ a ∷ c ∷ d ∷ []))
  of_three b h k l = a_list _ (one_more (a_word b) (one_more h (both k l)))

  a_binding : {v e : Tree} → FormsAreThere s v → FormsAreThere s e → FormsAreThere s (binding v e)
  a_binding h k = a_list _ (both h k)

  a_let : (bindings body : List Tree) → TreesAreThere s bindings → TreesAreThere s body → FormsAreThere s (let_form bindings body)
  a_let bindings body h k = a_list _ (one_more (a_word refl) (one_more (a_list bindings h) k))

  a_kept : (a : Val) (body : List Tree) → IsThere s a → TreesAreThere s body → FormsAreThere s (kept a body)
  a_kept a body h k = a_let _ body (just (a_binding fresh_there (form_there h))) k

  a_block : {x : Tree} → FormsAreThere s x → FormsAreThere s (nil_block x)
  a_block h = of_two refl (a_word refl) h

  fresh_ones : (n count : ℕ) → TreesAreThere s (fresh_from n count)
  fresh_ones n zero = no_more
  fresh_ones n (suc count) = one_more fresh_there (fresh_ones (n + 1) count)

  bound_fresh : (n : ℕ) {es : List Val} → ValuesAreThere s es → TreesAreThere s (fresh_bindings n es)
  bound_fresh n no_more = no_more
  bound_fresh n (one_more h hs) = one_more (a_binding fresh_there (form_there h)) (bound_fresh (n + 1) hs)

  set_fresh : (n : ℕ) {vs : List Val} → ValuesAreThere s vs → TreesAreThere s (fresh_sets n vs)
  set_fresh n no_more = no_more
  set_fresh n (one_more h hs) = one_more (of_two refl (form_there h) fresh_there) (set_fresh (n + 1) hs)

  -- ---- parts of arguments

  each_there : {A : Type 0} {Q : A → Type 0} (f : Val → Option A) {vs : List Val} → ((v : Val) → IsThere s v → Where Q (f v)) → ValuesAreThere s vs → Where (Each Q) (each f vs)
  each_there f k no_more = found_there no_more
  each_there f k (one_more h hs) = where_then _ (k _ h) (λ y i. where_map _ (each_there f k hs) (λ ys j. one_more i j))

  abbrev PairsAreThere : List Val × List Val → Type 0
  PairsAreThere p = ValuesAreThere s p.0 × ValuesAreThere s p.1

  pairs_there : (vs : List Val) → ValuesAreThere s vs → Where PairsAreThere (pairs vs)
  pairs_there [] h = found_there (no_more, no_more)
  pairs_there (a ∷ []) h = nothing_there
  pairs_there (a ∷ b ∷ others) (one_more h (one_more k ks)) = where_map _ (pairs_there others ks) (λ p i. (one_more h i.0, one_more k i.1))

  only_there : (v : Val) → IsThere s v → Where (IsThere s) (only_of s.heap v)
  only_there v i = where_then _ (cons_there s v i) (λ p h. where_if (is_nil p.1) _ _ (found_there h.0) nothing_there)

  -- the form after a word, in a list of these two
  marked_there : (test : Val × Val → Bool) (v : Val) → IsThere s v → Where (IsThere s) (option_and_then (λ p. if test p then only_of s.heap p.1 else None) (cons_at s.heap v))
  marked_there test v i = where_then _ (cons_there s v i) (λ p h. where_if (test p) _ _ (only_there p.1 h.1) nothing_there)

  pub record PartsAreThere (b : Parts) : Type 0 where
    pub declarations : ValuesAreThere s b.declarations
    pub rest : ValuesAreThere s b.rest

  parted_there : {vs : List Val} → ValuesAreThere s vs → PartsAreThere (parted s.heap vs)
  parted_there no_more = record { declarations = no_more; rest = no_more }
  parted_there (one_more {x = v} {xs = vs} k ks) = by (is_declaration s.heap v) (parted_there ks)
    where
      by : (b : Bool) → PartsAreThere (parted s.heap vs) → PartsAreThere (if b then with_declaration v (parted s.heap vs) else parts [] (v ∷ vs))
      by true h = record { declarations = one_more k h.declarations; rest = h.rest }
      by false h = record { declarations = no_more; rest = one_more k ks }

  undocumented_there : {vs : List Val} → ValuesAreThere s vs → ValuesAreThere s (undocumented s.heap vs)
  undocumented_there no_more = no_more
  undocumented_there (one_more k no_more) = one_more k no_more
  undocumented_there (one_more {x = v} k (one_more {x = x} {xs = xs} i is)) = by (is_string s.heap v)
    where
      by : (b : Bool) → ValuesAreThere s (if b then x ∷ xs else v ∷ x ∷ xs)
      by true = one_more i is
      by false = one_more k (one_more i is)

  body_there : {vs : List Val} → ValuesAreThere s vs → PartsAreThere (body_parts s.heap vs)
  body_there h = parted_there (undocumented_there h)

  -- ---- AND, OR, COND, WHEN, UNLESS

  and_there : (rest : Val) (vs : List Val) → IsThere s rest → ValuesAreThere s vs → Where (ExpansionIsThere s) (and_row rest vs)
  and_there rest [] r h = found_there (plainly 0 (a_word refl))
  and_there rest (a ∷ []) r (one_more h hs) = found_there (plainly 0 (form_there h))
  and_there rest (a ∷ b ∷ others) r (one_more h hs) = found_there (plainly 0 (of_three refl (form_there h) (a_list_before _ rest (just (a_word refl)) r) (a_word refl)))

  or_there : (rest : Val) (vs : List Val) → IsThere s rest → ValuesAreThere s vs → Where (ExpansionIsThere s) (or_row rest vs)
  or_there rest [] r h = found_there (plainly 0 (a_word refl))
  or_there rest (a ∷ []) r (one_more h hs) = found_there (plainly 0 (form_there h))
  or_there rest (a ∷ b ∷ others) r (one_more h hs) =
      found_there (plainly 1 (a_kept a _ h (just (of_three refl fresh_there fresh_there (a_list_before _ rest (just (a_word refl)) r)))))

  clause_there : (rest : Val) (vs : List Val) → IsThere s rest → ValuesAreThere s vs → Where (ExpansionIsThere s) (clause_row rest vs)
  clause_there rest [] r h = nothing_there
  clause_there rest (a ∷ []) r (one_more h hs) = found_there (plainly 0 (of_two refl (form_there h) (a_list_before _ rest (just (a_word refl)) r)))
  clause_there rest (a ∷ e ∷ es) r (one_more h hs) =
      found_there (plainly 0 (of_three refl (form_there h) (a_call refl hs) (a_list_before _ rest (just (a_word refl)) r)))

  cond_there : (rest : Val) (vs : List Val) → IsThere s rest → ValuesAreThere s vs → Where (ExpansionIsThere s) (cond_row s.heap rest vs)
  cond_there rest [] r h = found_there (plainly 0 (a_word refl))
  cond_there rest (c ∷ others) r (one_more h hs) = where_then _ (elements_there s c h) (λ vs k. clause_there rest vs r k)

  when_there : (vs : List Val) → ValuesAreThere s vs → Where (ExpansionIsThere s) (when_row vs)
  when_there [] h = nothing_there
  when_there (a ∷ es) (one_more h hs) = found_there (plainly 0 (of_three refl (form_there h) (a_call refl hs) (a_word refl)))

  unless_there : (vs : List Val) → ValuesAreThere s vs → Where (ExpansionIsThere s) (unless_row vs)
  unless_there [] h = nothing_there
  unless_there (a ∷ es) (one_more h hs) = found_there (plainly 0 (of_three refl (form_there h) (a_word refl) (a_call refl hs)))

  -- ---- RETURN, PROG, PROG*, PROG1, PROG2, PSETQ

  return_there : (vs : List Val) → ValuesAreThere s vs → Where (ExpansionIsThere s) (return_row vs)
  return_there [] h = found_there (plainly 0 (of_two refl (a_word refl) (a_word refl)))
  return_there (e ∷ []) (one_more h hs) = found_there (plainly 0 (of_two refl (a_word refl) (form_there h)))
  return_there (e ∷ x ∷ xs) h = nothing_there

  -- (BLOCK NIL (LET BINDS D* (TAGBODY BODY*))), also with LET*
  a_prog : (n m : ℕ) (bindings : Val) {body : List Val} → IsBase n → IsBase m → IsThere s bindings → ValuesAreThere s body →
      FormsAreThere s (nil_block (list (form (Sym (symbol n)) ∷ form bindings ∷ forms (body_parts s.heap body).declarations ++ list (form (Sym (symbol m)) ∷ forms (body_parts s.heap body).rest) ∷ [])))
  a_prog _ _ bindings n m h hs =
      let b = body_there hs in
      a_block (a_list _ (one_more (a_word n) (one_more (form_there h) (each_append (the_forms b.declarations) (just (a_call m b.rest))))))

  prog_there : (rest : Val) (vs : List Val) → ValuesAreThere s vs → Where (ExpansionIsThere s) (row m.Prog s.heap rest vs)
  prog_there rest [] h = nothing_there
  prog_there rest (bindings ∷ body) (one_more h hs) = found_there (plainly 0 (a_prog _ _ bindings refl refl h hs))

  prog_in_order_there : (rest : Val) (vs : List Val) → ValuesAreThere s vs → Where (ExpansionIsThere s) (row m.ProgInOrder s.heap rest vs)
  prog_in_order_there rest [] h = nothing_there
  prog_in_order_there rest (bindings ∷ body) (one_more h hs) = found_there (plainly 0 (a_prog _ _ bindings refl refl h hs))

  kept_there : {a : Val} {es : List Val} → IsThere s a → ValuesAreThere s es → FormsAreThere s (kept_form a es)
  kept_there h hs = a_kept _ _ h (both (a_call refl hs) fresh_there)

  prog1_there : (vs : List Val) → ValuesAreThere s vs → Where (ExpansionIsThere s) (prog1_row vs)
  prog1_there [] h = nothing_there
  prog1_there (a ∷ es) (one_more h hs) = found_there (plainly 1 (kept_there h hs))

  prog2_there : (vs : List Val) → ValuesAreThere s vs → Where (ExpansionIsThere s) (prog2_row vs)
  prog2_there [] h = nothing_there
  prog2_there (a ∷ []) h = nothing_there
  prog2_there (a ∷ b ∷ es) (one_more h (one_more k ks)) = found_there (plainly 1 (of_two refl (form_there h) (kept_there k ks)))

  psetq_there : (vs : List Val) → ValuesAreThere s vs → Where (ExpansionIsThere s) (psetq_row vs)
  psetq_there vs h =
      where_then psetq_with (pairs_there vs h) (λ p k. where_if (all_symbols p.0) _ _ (found_there (plainly (length p.0) (a_let _ _ (bound_fresh 0 k.1) (both (a_list _ (one_more (a_word refl) (set_fresh 0 k.0))) (a_word refl))))) nothing_there)

  -- ---- CASE, ECASE, TYPECASE, ETYPECASE

  pub record ClauseIsThere (c : Clause) : Type 0 where
    pub tests : ValuesAreThere s c.tests
    pub body : ValuesAreThere s c.body

  keys_there : (o : Option (Val × Val)) (v : Val) → IsThere s v → Where (ValuesAreThere s) (keys_by o s.heap v)
  keys_there (Some p) v h = elements_there s v h
  keys_there None v h = where_if (is_nil v) _ _ (found_there no_more) (found_there (one_more h no_more))

  abbrev ClausesAreThere : List Clause → Type 0
  ClausesAreThere cs = Each ClauseIsThere cs

  -- the clauses, by what makes their forms, around what is at the end
  chosen_there : (a : Val) (end : Tree) (to : Clause → Tree) {clauses : List Clause} → ((c : Clause) → ClauseIsThere c → FormsAreThere s (to c)) → IsThere s a →
      FormsAreThere s end → ClausesAreThere clauses →
      ExpansionIsThere s (expansion 1 end (reverse (map to clauses) ++ kept a (inner ∷ []) ∷ []))
  chosen_there a end to f h k cs = record { first = k; around = each_append (each_reversed (each_mapped to f cs)) (just (a_kept a _ h (just inner_there))) }

  abbrev SplitIsThere : List Clause × Tree → Type 0
  SplitIsThere p = ClausesAreThere p.0 × FormsAreThere s p.1

  split_if : (b : Bool) (x y : List Clause × Tree) → SplitIsThere x → SplitIsThere y → SplitIsThere (if b then x else y)
  split_if true x y h k = h
  split_if false x y h k = k

  split_there : (cs : List Clause) → ClausesAreThere cs → SplitIsThere (before_default cs)
  split_there [] h = (no_more, a_word refl)
  split_there (c ∷ []) (one_more h hs) = split_if (is_default c.head) _ _ (no_more, a_call refl h.body) (one_more h no_more, a_word refl)
  split_there (c ∷ d ∷ ds) (one_more h hs) = let k = split_there (d ∷ ds) hs in (one_more h k.0, k.1)

  case_there : (a : Val) (cs : List Val) (at : Val → Option Clause) (to : Clause → Tree) → ((v : Val) → IsThere s v → Where ClauseIsThere (at v)) →
      ((c : Clause) → ClauseIsThere c → FormsAreThere s (to c)) →
      IsThere s a → ValuesAreThere s cs → Where (ExpansionIsThere s) (option_and_then (λ clauses. chosen_by a to (before_default clauses)) (each at cs))
  case_there a cs at to f g h hs =
      where_then _ (each_there at f hs) (λ clauses k. let split = split_there clauses k in where_if (list_all (λ (c : Clause). not (is_default c.head)) (before_default clauses).0) _ _ (found_there (chosen_there a _ to g h split.1 split.0)) nothing_there)

  exhausted_there : (a : Val) (cs : List Val) (at : Val → Option Clause) (to : Clause → Tree) (end : List Clause → Tree) →
      ((v : Val) → IsThere s v → Where ClauseIsThere (at v)) → ((c : Clause) → ClauseIsThere c → FormsAreThere s (to c)) →
      ((clauses : List Clause) → ClausesAreThere clauses → FormsAreThere s (end clauses)) → IsThere s a → ValuesAreThere s cs →
      Where (ExpansionIsThere s) (option_map (λ clauses. expansion 1 (end clauses) (reverse (map to clauses) ++ kept a (inner ∷ []) ∷ [])) (each at cs))
  exhausted_there a cs at to end f g e h hs = where_map _ (each_there at f hs) (λ clauses k. chosen_there a _ to g h (e clauses k) k)

  tests_of_there : {clauses : List Clause} → ClausesAreThere clauses → TreesAreThere s (tests_of clauses)
  tests_of_there no_more = no_more
  tests_of_there (one_more h hs) = each_append (the_forms h.tests) (tests_of_there hs)

  -- a clause by how its first element is read
  clause_there_by : (read : Val → Option (List Val)) (v : Val) → ((x : Val) → IsThere s x → Where (ValuesAreThere s) (read x)) → IsThere s v →
      Where ClauseIsThere (option_and_then (clause_by read) (elements s.heap v))
  clause_there_by read v f h = where_then (clause_by read) (elements_there s v h) parts_of_clause
    where
      parts_of_clause : (vs : List Val) → ValuesAreThere s vs → Where ClauseIsThere (clause_by read vs)
      parts_of_clause [] k = nothing_there
      parts_of_clause (head ∷ body) (one_more k ks) = where_map _ (f head k) (λ tests i. record { tests = i; body = ks })

  -- (IF (TYPEP G 'TYPE) (PROGN E*) REST), with the type of these tests
  clause_form_there : {i t q p : ℕ} (type : List Val → Tree) (c : Clause) → IsBase i → IsBase t → IsBase q → IsBase p →
      ((tests : List Val) → ValuesAreThere s tests → FormsAreThere s (type tests)) → ClauseIsThere c →
      FormsAreThere s (list (form (Sym (symbol i)) ∷ list (form (Sym (symbol t)) ∷ fresh 0 ∷ list (form (Sym (symbol q)) ∷ type c.tests ∷ []) ∷ []) ∷ list (form (Sym (symbol p)) ∷ forms c.body) ∷ inner ∷ []))
  clause_form_there type c i t q p f h = of_three i (of_two t fresh_there (of_one q (f c.tests h.tests))) (a_call p h.body) inner_there

  first_test : (n : ℕ) (tests : List Val) → IsBase n → ValuesAreThere s tests → FormsAreThere s (type_of_tests n tests)
  first_test n [] b h = a_word b
  first_test n (t ∷ ts) b (one_more h hs) = form_there h

  by_key_there : (rest : Val) (vs : List Val) → ValuesAreThere s vs → Where (ExpansionIsThere s) (row m.Case s.heap rest vs)
  by_key_there rest [] h = nothing_there
  by_key_there rest (a ∷ cs) (one_more h hs) =
      case_there a cs _ _ (λ v i. clause_there_by (λ x. keys_by (cons_at s.heap x) s.heap x) v (λ x k. keys_there _ x k) i) (λ c i. clause_form_there member_of_tests c refl refl refl refl (λ tests k. a_call refl k) i) h hs

  by_type_there : (rest : Val) (vs : List Val) → ValuesAreThere s vs → Where (ExpansionIsThere s) (row m.Typecase s.heap rest vs)
  by_type_there rest [] h = nothing_there
  by_type_there rest (a ∷ cs) (one_more h hs) =
      case_there a cs _ _ (λ v i. clause_there_by (λ x. Some (x ∷ [])) v (λ x k. found_there (one_more k no_more)) i) (λ c i. clause_form_there (type_of_tests 0) c refl refl refl refl (λ tests k. first_test 0 tests refl k) i) h hs

  all_keys_there : (rest : Val) (vs : List Val) → ValuesAreThere s vs → Where (ExpansionIsThere s) (row m.Ecase s.heap rest vs)
  all_keys_there rest [] h = nothing_there
  all_keys_there rest (a ∷ cs) (one_more h hs) =
      exhausted_there a cs _ _ _ (λ v i. clause_there_by (λ x. keys_by (cons_at s.heap x) s.heap x) v (λ x k. keys_there _ x k) i) (λ c i. clause_form_there member_of_tests c refl refl refl refl (λ tests k. a_call refl k) i)
      (λ clauses k. of_two refl (a_list _ (one_more (a_word refl) (tests_of_there k))) fresh_there) h hs

  all_types_there : (rest : Val) (vs : List Val) → ValuesAreThere s vs → Where (ExpansionIsThere s) (row m.Etypecase s.heap rest vs)
  all_types_there rest [] h = nothing_there
  all_types_there rest (a ∷ cs) (one_more h hs) =
      exhausted_there a cs _ _ _ (λ v i. clause_there_by (λ x. Some (x ∷ [])) v (λ x k. found_there (one_more k no_more)) i) (λ c i. clause_form_there (type_of_tests 0) c refl refl refl refl (λ tests k. first_test 0 tests refl k) i)
      (λ clauses k. of_two refl (a_list _ (one_more (a_word refl) (tests_of_there k))) fresh_there) h hs

  -- ---- LOOP, DO, DO*, DOTIMES, DOLIST

  a_jump : {g : Tree} → FormsAreThere s g → FormsAreThere s (go_to g)
  a_jump h = of_one refl h

  loop_there : (vs : List Val) → ValuesAreThere s vs → Where (ExpansionIsThere s) (loop_row s.heap vs)
  loop_there vs h =
      where_if (list_all (λ e. is_some (cons_at s.heap e)) vs) _ _
      (found_there (plainly 1 (a_block (a_list _ (one_more (a_word refl) (one_more fresh_there (each_append (the_forms h) (just (a_jump fresh_there)))))))))
      nothing_there

  next_there : (v : Val) (next : Option Val) → IsThere s v → Where (IsThere s) next → TreesAreThere s (next_value v next)
  next_there v None h k = no_more
  next_there v (Some n) h (found_there k) = both (form_there h) (form_there k)

  -- a variable with its first and its next value
  a_step : (v first : Val) (next : Option Val) → IsThere s v → IsThere s first → Where (IsThere s) next →
      Where (λ x. FormsAreThere s (step_binding x) × TreesAreThere s (step_sets x)) (step v first next)
  a_step v first next h k l = where_if (is_symbol v) _ _ (found_there (a_binding (form_there h) (form_there k), next_there v next h l)) nothing_there

  step_there : (vs : List Val) → ValuesAreThere s vs → Where (λ x. FormsAreThere s (step_binding x) × TreesAreThere s (step_sets x)) (step_from vs)
  step_there [] h = nothing_there
  step_there (v ∷ []) (one_more h hs) = a_step v nil None h (nil_there sound) nothing_there
  step_there (v ∷ e ∷ []) (one_more h (one_more k ks)) = a_step v e None h k nothing_there
  step_there (v ∷ e ∷ n ∷ []) (one_more h (one_more k (one_more l ls))) = a_step v e (Some n) h k (found_there l)
  step_there (v ∷ e ∷ n ∷ x ∷ xs) h = nothing_there

  step_at_there : (v : Val) → IsThere s v → Where (λ x. FormsAreThere s (step_binding x) × TreesAreThere s (step_sets x)) (step_at s.heap v)
  step_at_there v h = where_if (is_symbol v) _ _ (a_step v nil None h (nil_there sound) nothing_there) (where_then step_from (elements_there s v h) step_there)

  end_there : (end : Val) (results : List Val) → IsThere s end → ValuesAreThere s results → FormsAreThere s (end_test end results)
  end_there end results h hs = of_three refl (form_there h) (of_one refl (a_call refl hs)) (a_word refl)

  -- the form of DO and DO*, by the words that bind and set
  a_round : (g t : ℕ) (steps : _) (test : Tree) (body : List Val) → IsBase g → IsBase t →
      Each (λ x. FormsAreThere s (step_binding x) × TreesAreThere s (step_sets x)) steps → FormsAreThere s test → ValuesAreThere s body →
      FormsAreThere s (list (form (Sym (symbol g)) ∷ fresh 0 ∷ test ∷ forms body ++ list (form (Sym (symbol t)) ∷ flat_map step_sets steps) ∷ go_to (fresh 0) ∷ []))
  a_round _ _ steps test body g t h k l =
      a_list _ (one_more (a_word g) (one_more fresh_there (one_more k (each_append (the_forms l)
      (both (a_list _ (one_more (a_word t) (each_flat step_sets (λ x i. i.1) h))) (a_jump fresh_there))))))

  a_do : (b g t : ℕ) (steps : _) (test : Tree) (body : List Val) → IsBase b → IsBase g → IsBase t →
      Each (λ x. FormsAreThere s (step_binding x) × TreesAreThere s (step_sets x)) steps → FormsAreThere s test → ValuesAreThere s body →
      FormsAreThere s (nil_block (list (form (Sym (symbol b)) ∷ list (map step_binding steps) ∷ forms (body_parts s.heap body).declarations
      ++ list (form (Sym (symbol g)) ∷ fresh 0 ∷ test ∷ forms (body_parts s.heap body).rest ++ list (form (Sym (symbol t)) ∷ flat_map step_sets steps) ∷ go_to (fresh 0) ∷ []) ∷ [])))
  a_do _ _ _ steps test body b g t h k l =
      let parts = body_there l in
      a_block (a_list _ (one_more (a_word b) (one_more (a_list _ (each_mapped step_binding (λ x i. i.0) h)) (each_append (the_forms parts.declarations) (just (a_round _ _ steps test _ g t h k parts.rest))))))

  -- steps and an end test that are found
  do_with_there : (f : _ → Val → List Val → Expansion) (bindings ending : Val) →
      ((steps : _) (end : Val) (results : List Val) → Each (λ x. FormsAreThere s (step_binding x) × TreesAreThere s (step_sets x)) steps → IsThere s end → ValuesAreThere s results → ExpansionIsThere s (f steps end results)) →
      IsThere s bindings → IsThere s ending →
      Where (ExpansionIsThere s) (option_and_then (λ steps. option_and_then (ended_by (f steps)) (elements s.heap ending)) (option_and_then (each (step_at s.heap)) (elements s.heap bindings)))
  do_with_there f bindings ending k h i =
      where_then _ (where_then (each (step_at s.heap)) (elements_there s bindings h) (λ vs j. each_there (step_at s.heap) step_at_there j))
      (λ steps j. where_then (ended_by (f steps)) (elements_there s ending i) (λ vs l. ended_there (f steps) (λ end results a b. k steps end results j a b) vs l))
    where
      ended_there : (f : Val → List Val → Expansion) → ((end : Val) (results : List Val) → IsThere s end → ValuesAreThere s results → ExpansionIsThere s (f end results)) → (vs : List Val) → ValuesAreThere s vs → Where (ExpansionIsThere s) (ended_by f vs)
      ended_there f k [] h = nothing_there
      ended_there f k (end ∷ results) (one_more h hs) = found_there (k end results h hs)

  do_there : (rest : Val) (vs : List Val) → ValuesAreThere s vs → Where (ExpansionIsThere s) (row m.Do s.heap rest vs)
  do_there rest [] h = nothing_there
  do_there rest (bindings ∷ []) h = nothing_there
  do_there rest (bindings ∷ ending ∷ body) (one_more h (one_more k ks)) =
      do_with_there _ bindings ending (λ steps end results i a b. plainly 1 (a_do _ _ _ steps _ body refl refl refl i (end_there end results a b) ks)) h k

  do_in_order_there : (rest : Val) (vs : List Val) → ValuesAreThere s vs → Where (ExpansionIsThere s) (row m.DoInOrder s.heap rest vs)
  do_in_order_there rest [] h = nothing_there
  do_in_order_there rest (bindings ∷ []) h = nothing_there
  do_in_order_there rest (bindings ∷ ending ∷ body) (one_more h (one_more k ks)) =
      do_with_there _ bindings ending (λ steps end results i a b. plainly 1 (a_do _ _ _ steps _ body refl refl refl i (end_there end results a b) ks)) h k

  a_number : (n : ℕ) → n < 2 → FormsAreThere s (number n)
  a_number n lt = form_there (number_there n lt)

  of_list_type : {e : Tree} → FormsAreThere s e → FormsAreThere s (the_list e)
  of_list_type h = of_two refl (a_word refl) h

  -- a variable, a form and a result make these loops
  a_repeat : (v e r : Val) → IsThere s v → IsThere s e → IsThere s r →
      Where (λ x. (body : Parts) → PartsAreThere body → FormsAreThere s (dotimes_form x body) × FormsAreThere s (dolist_form x body)) (repeat v e r)
  a_repeat v e r h k l = where_if (is_symbol v) _ _ (found_there (λ body b. (
    a_block (a_let _ _
        (both (a_binding (form_there h) (a_number 0 (omega arith))) (a_binding fresh_there (of_two refl (a_word refl) (form_there k))))
        (each_append (the_forms b.declarations) (just (a_list _ (one_more (a_word refl) (one_more fresh_there (one_more
        (of_three refl (of_two refl (form_there h) fresh_there) (of_one refl (form_there l)) (a_word refl))
        (each_append (the_forms b.rest) (both (of_two refl (form_there h) (of_two refl (form_there h) (a_number 1 (omega arith)))) (a_jump fresh_there)))))))))),
    a_block (a_let _ _ (just (a_binding fresh_there (of_list_type (form_there k)))) (just (a_list _ (one_more (a_word refl) (one_more fresh_there (one_more
        (of_three refl fresh_there (a_word refl) (of_one refl (a_let _ _ (just (a_binding (form_there h) (a_word refl))) (just (form_there l)))))
        (one_more (a_let _ _ (just (a_binding (form_there h) (of_one refl fresh_there))) (each_append (the_forms b.declarations) (just (a_call refl b.rest))))
        (both (of_two refl fresh_there (of_list_type (of_one refl fresh_there))) (a_jump fresh_there))))))))),
  ))) nothing_there

  repeat_there : (vs : List Val) → ValuesAreThere s vs → Where (λ x. (body : Parts) → PartsAreThere body → FormsAreThere s (dotimes_form x body) × FormsAreThere s (dolist_form x body)) (repeat_from vs)
  repeat_there [] h = nothing_there
  repeat_there (v ∷ []) h = nothing_there
  repeat_there (v ∷ e ∷ []) (one_more h (one_more k ks)) = a_repeat v e nil h k (nil_there sound)
  repeat_there (v ∷ e ∷ r ∷ []) (one_more h (one_more k (one_more l ls))) = a_repeat v e r h k l
  repeat_there (v ∷ e ∷ r ∷ x ∷ xs) h = nothing_there

  dotimes_there : (vs : List Val) → ValuesAreThere s vs → Where (ExpansionIsThere s) (dotimes_row s.heap vs)
  dotimes_there [] h = nothing_there
  dotimes_there (head ∷ body) (one_more h hs) = where_map _ (where_then repeat_from (elements_there s head h) repeat_there) (λ r k. plainly 2 (k _ (body_there hs)).0)

  dolist_there : (vs : List Val) → ValuesAreThere s vs → Where (ExpansionIsThere s) (dolist_row s.heap vs)
  dolist_there [] h = nothing_there
  dolist_there (head ∷ body) (one_more h hs) = where_map _ (where_then repeat_from (elements_there s head h) repeat_there) (λ r k. plainly 2 (k _ (body_there hs)).1)

  -- ---- SETF, INCF, DECF, PUSH, POP

  pub data TargetIsThere : Target → Type 0 where
    a_variable : {v : Val} → IsThere s v → TargetIsThere (variable v)
    an_access : {op : Val} {writer : _} {args : List Val} → IsBase (word_number writer) → IsThere s op → ValuesAreThere s args → TargetIsThere (access op writer args)

  find_there : {A : Type 0} {P : A → Type 0} (f : A → Bool) {xs : List A} → Each P xs → Where P (find f xs)
  find_there f no_more = nothing_there
  find_there f (one_more {x = x} {xs = xs} h hs) = where_if (f x) _ _ (found_there h) (find_there f hs)

  writers_are_base : Each (λ p. IsBase (word_number p.1)) writers
  writers_are_base = one_more refl (one_more refl (one_more refl (one_more refl (one_more refl (one_more refl (one_more refl (one_more refl (one_more refl (one_more refl no_more)))))))))

  writer_there : (op : Val) → Where (λ writer. IsBase (word_number writer)) (writer_of op)
  writer_there op = where_map _ (find_there (λ (p : _ × _). is_word p.0 op) writers_are_base) (λ p h. h)

  target_there : (vs : List Val) → ValuesAreThere s vs → Where TargetIsThere (target_from vs)
  target_there [] h = nothing_there
  target_there (op ∷ args) (one_more h hs) = where_map _ (writer_there op) (λ writer b. an_access b h hs)

  target_at_there : (v : Val) → IsThere s v → Where TargetIsThere (target_at s.heap v)
  target_at_there v h = where_if (is_symbol v) _ _ (found_there (a_variable h)) (where_then target_from (elements_there s v h) target_there)

  read_there : (op : Val) (k n : ℕ) → IsThere s op → FormsAreThere s (read_form op k n)
  read_there op k n h = a_list _ (one_more (form_there h) (fresh_ones k n))

  write_there : (writer : _) (k n : ℕ) {x : Tree} → IsBase (word_number writer) → FormsAreThere s x → FormsAreThere s (write_form writer k n x)
  write_there writer k n b h = a_list _ (one_more (a_word b) (each_append (fresh_ones k n) (just h)))

  store_there : (writer : _) (k n h : ℕ) {new : Tree} → IsBase (word_number writer) → FormsAreThere s new → FormsAreThere s (store_form writer k n h new)
  store_there writer k n h b i = a_let _ _ (just (a_binding fresh_there i)) (both (write_there writer k n b fresh_there) fresh_there)

  setf_target_there : (e : Val) (x : Target) → IsThere s e → TargetIsThere x → ExpansionIsThere s (setf_target e x)
  setf_target_there e (variable v) k (a_variable h) = plainly 0 (of_two refl (form_there h) (form_there k))
  setf_target_there e (access op writer args) k (an_access b h hs) =
      plainly _ (a_let _ _ (each_append (bound_fresh 0 hs) (just (a_binding fresh_there (form_there k)))) (both (write_there writer 0 _ b fresh_there) fresh_there))

  setf_forms_there : (vs : List Val) → ValuesAreThere s vs → Where (TreesAreThere s) (setf_forms vs)
  setf_forms_there [] h = found_there no_more
  setf_forms_there (p ∷ []) h = nothing_there
  setf_forms_there (p ∷ e ∷ others) (one_more h (one_more k ks)) = where_map _ (setf_forms_there others ks) (λ xs i. one_more (of_two refl (form_there h) (form_there k)) i)

  setf_there : (vs : List Val) → ValuesAreThere s vs → Where (ExpansionIsThere s) (setf_row s.heap vs)
  setf_there [] h = found_there (plainly 0 (a_word refl))
  setf_there (p ∷ []) h = nothing_there
  setf_there (p ∷ e ∷ []) (one_more h (one_more k ks)) = where_map _ (target_at_there p h) (λ x i. setf_target_there e x k i)
  setf_there (p ∷ e ∷ x ∷ xs) h = where_map setf_each (setf_forms_there (p ∷ e ∷ x ∷ xs) h) (λ ys i. plainly 0 (a_list _ (one_more (a_word refl) i)))

  changed_there : (n : ℕ) (d : Val) (x : Target) → IsBase n → IsThere s d → TargetIsThere x → ExpansionIsThere s (changed n d x)
  changed_there n d (variable v) a k (a_variable h) = plainly 0 (of_two refl (form_there h) (of_two a (form_there h) (form_there k)))
  changed_there n d (access op writer args) a k (an_access b h hs) =
      plainly _ (a_let _ _ (each_append (bound_fresh 0 hs) (just (a_binding fresh_there (form_there k))))
      (just (store_there writer 0 _ _ b (of_two a (read_there op 0 _ h) fresh_there))))

  incf_there : (rest : Val) (vs : List Val) → ValuesAreThere s vs → Where (ExpansionIsThere s) (row m.Incf s.heap rest vs)
  incf_there rest [] h = nothing_there
  incf_there rest (p ∷ []) (one_more h hs) = where_map _ (target_at_there p h) (λ x i. changed_there _ _ x refl (number_there 1 (omega arith)) i)
  incf_there rest (p ∷ d ∷ []) (one_more h (one_more k ks)) = where_map _ (target_at_there p h) (λ x i. changed_there _ d x refl k i)
  incf_there rest (p ∷ d ∷ x ∷ xs) h = nothing_there

  decf_there : (rest : Val) (vs : List Val) → ValuesAreThere s vs → Where (ExpansionIsThere s) (row m.Decf s.heap rest vs)
  decf_there rest [] h = nothing_there
  decf_there rest (p ∷ []) (one_more h hs) = where_map _ (target_at_there p h) (λ x i. changed_there _ _ x refl (number_there 1 (omega arith)) i)
  decf_there rest (p ∷ d ∷ []) (one_more h (one_more k ks)) = where_map _ (target_at_there p h) (λ x i. changed_there _ d x refl k i)
  decf_there rest (p ∷ d ∷ x ∷ xs) h = nothing_there

  push_target_there : (v : Val) (x : Target) → IsThere s v → TargetIsThere x → ExpansionIsThere s (push_target v x)
  push_target_there v (variable u) k (a_variable h) = plainly 0 (of_two refl (form_there h) (of_two refl (form_there k) (form_there h)))
  push_target_there v (access op writer args) k (an_access b h hs) =
      plainly _ (a_let _ _ (one_more (a_binding fresh_there (form_there k)) (bound_fresh 1 hs))
      (just (store_there writer 1 _ _ b (of_two refl fresh_there (read_there op 1 _ h)))))

  push_there : (vs : List Val) → ValuesAreThere s vs → Where (ExpansionIsThere s) (push_row s.heap vs)
  push_there [] h = nothing_there
  push_there (x ∷ []) h = nothing_there
  push_there (x ∷ p ∷ []) (one_more h (one_more k ks)) = where_map _ (target_at_there p k) (λ t i. push_target_there x t h i)
  push_there (x ∷ p ∷ y ∷ ys) h = nothing_there

  popped_there : (op : Val) (writer : _) (n : ℕ) → IsBase (word_number writer) → IsThere s op → FormsAreThere s (popped_form op writer n)
  popped_there op writer n b h = a_let _ _ (just (a_binding fresh_there (read_there op 0 n h))) (both (write_there writer 0 n b (of_one refl fresh_there)) (of_one refl fresh_there))

  pop_target_there : (x : Target) → TargetIsThere x → ExpansionIsThere s (pop_target x)
  pop_target_there (variable v) (a_variable h) = plainly 1 (a_kept v _ h (both (of_two refl (form_there h) (of_one refl fresh_there)) (of_one refl fresh_there)))
  pop_target_there (access op writer args) (an_access b h hs) = plainly _ (a_let _ _ (bound_fresh 0 hs) (just (popped_there op writer _ b h)))

  pop_there : (vs : List Val) → ValuesAreThere s vs → Where (ExpansionIsThere s) (pop_row s.heap vs)
  pop_there [] h = nothing_there
  pop_there (p ∷ []) (one_more h hs) = where_map pop_target (target_at_there p h) pop_target_there
  pop_there (p ∷ x ∷ xs) h = nothing_there

  -- ---- MULTIPLE-VALUE-BIND, -LIST, -SETQ, NTH-VALUE, LAMBDA

  receive_there : (variables : List Tree) (rest : Tree) (body : List Tree) (e : Val) → TreesAreThere s variables → FormsAreThere s rest → TreesAreThere s body →
      IsThere s e → FormsAreThere s (receive_form variables rest body e)
  receive_there variables rest body e vs r b h =
      of_two refl
      (a_list _ (one_more (a_word refl) (one_more (a_list _ (one_more (a_word refl) (each_append vs (both (a_word refl) r)))) b)))
      (form_there h)

  bind_values_there : (vs : List Val) → ValuesAreThere s vs → Where (ExpansionIsThere s) (bind_values_row s.heap vs)
  bind_values_there [] h = nothing_there
  bind_values_there (vs ∷ []) h = nothing_there
  bind_values_there (vs ∷ e ∷ body) (one_more h (one_more k ks)) =
      where_then _ (elements_there s vs h) (λ xs i. where_if (all_symbols xs) _ _ (found_there (plainly 1 (receive_there _ _ _ e (the_forms i) fresh_there (the_forms ks) k))) nothing_there)

  list_values_there : (vs : List Val) → ValuesAreThere s vs → Where (ExpansionIsThere s) (list_values_row vs)
  list_values_there [] h = nothing_there
  list_values_there (e ∷ []) (one_more h hs) = found_there (plainly 0 (of_two refl (of_one refl (a_word refl)) (form_there h)))
  list_values_there (e ∷ x ∷ xs) h = nothing_there

  set_form_there : (e : Val) {vs : List Val} → IsThere s e → ValuesAreThere s vs → FormsAreThere s (set_form e vs)
  set_form_there e h hs = receive_there _ _ _ e (fresh_ones 0 _) fresh_there (both (a_list _ (one_more (a_word refl) (set_fresh 0 hs))) fresh_there) h

  set_values_there : (e : Val) (vs : List Val) → IsThere s e → ValuesAreThere s vs → Where (ExpansionIsThere s) (set_values e vs)
  set_values_there e [] h hs = found_there (plainly 0 (of_one refl (form_there h)))
  set_values_there e (v ∷ vs) h hs = where_if (all_symbols (v ∷ vs)) _ _ (found_there (plainly _ (set_form_there e h hs))) nothing_there

  set_values_row_there : (vs : List Val) → ValuesAreThere s vs → Where (ExpansionIsThere s) (set_values_row s.heap vs)
  set_values_row_there [] h = nothing_there
  set_values_row_there (vs ∷ []) h = nothing_there
  set_values_row_there (vs ∷ e ∷ []) (one_more h (one_more k ks)) = where_then _ (elements_there s vs h) (λ xs i. set_values_there e xs k i)
  set_values_row_there (vs ∷ e ∷ x ∷ xs) h = nothing_there

  nth_value_there : (vs : List Val) → ValuesAreThere s vs → Where (ExpansionIsThere s) (nth_value_row vs)
  nth_value_there [] h = nothing_there
  nth_value_there (n ∷ []) h = nothing_there
  nth_value_there (n ∷ e ∷ []) (one_more h (one_more k ks)) = found_there (plainly 0 (of_two refl (form_there h) (of_one refl (form_there k))))
  nth_value_there (n ∷ e ∷ x ∷ xs) h = nothing_there

  lambda_there : (vs : List Val) → ValuesAreThere s vs → Where (ExpansionIsThere s) (lambda_row vs)
  lambda_there [] h = nothing_there
  lambda_there (parameters ∷ body) h = found_there (plainly 0 (of_one refl (a_call refl h)))

  -- ---- QUASIQUOTE

  under_there : {x : Val} → IsThere s x → FormsAreThere s (under x)
  under_there h = of_one refl (form_there h)

  joined_there : (o : Option Val) (first rest : Val) → Where (IsThere s) o → IsThere s first → IsThere s rest → FormsAreThere s (joined o first rest)
  joined_there None first rest o h k = of_two refl (under_there h) (under_there k)
  joined_there (Some e) first rest (found_there i) h k = of_two refl (form_there i) (under_there k)

  quasi_parts_there : (x : Val) (o : Option (Val × Val)) → IsThere s x → Where (PairIsThere s) o → FormsAreThere s (quasi_parts s.heap x o)
  quasi_parts_there x None h o = of_one refl (form_there h)
  quasi_parts_there x (Some p) h (found_there k) = joined_there _ p.0 p.1 (marked_there _ p.0 k.0) k.0 k.1

  quasi_there : (x : Val) (o : Option Val) → IsThere s x → Where (IsThere s) o → FormsAreThere s (quasi_form s.heap x o)
  quasi_there x None h o = quasi_parts_there x _ h (cons_there s x h)
  quasi_there x (Some e) h (found_there k) = form_there k

  quasiquote_there : (vs : List Val) → ValuesAreThere s vs → Where (ExpansionIsThere s) (quasiquote_row s.heap vs)
  quasiquote_there [] h = nothing_there
  quasiquote_there (x ∷ []) (one_more h hs) = found_there (plainly 0 (quasi_there x _ h (marked_there _ x h)))
  quasiquote_there (x ∷ y ∷ ys) h = nothing_there

  -- ---- the table of macros

  row_there : (macro : Macro) (rest : Val) (vs : List Val) → IsThere s rest → ValuesAreThere s vs → Where (ExpansionIsThere s) (row macro s.heap rest vs)
  row_there m.And rest vs r h = and_there rest vs r h
  row_there m.Or rest vs r h = or_there rest vs r h
  row_there m.Cond rest vs r h = cond_there rest vs r h
  row_there m.When rest vs r h = when_there vs h
  row_there m.Unless rest vs r h = unless_there vs h
  row_there m.Case rest vs r h = by_key_there rest vs h
  row_there m.Ecase rest vs r h = all_keys_there rest vs h
  row_there m.Typecase rest vs r h = by_type_there rest vs h
  row_there m.Etypecase rest vs r h = all_types_there rest vs h
  row_there m.Loop rest vs r h = loop_there vs h
  row_there m.Do rest vs r h = do_there rest vs h
  row_there m.DoInOrder rest vs r h = do_in_order_there rest vs h
  row_there m.Dotimes rest vs r h = dotimes_there vs h
  row_there m.Dolist rest vs r h = dolist_there vs h
  row_there m.Return rest vs r h = return_there vs h
  row_there m.Prog rest vs r h = prog_there rest vs h
  row_there m.ProgInOrder rest vs r h = prog_in_order_there rest vs h
  row_there m.Prog1 rest vs r h = prog1_there vs h
  row_there m.Prog2 rest vs r h = prog2_there vs h
  row_there m.Psetq rest vs r h = psetq_there vs h
  row_there m.Setf rest vs r h = setf_there vs h
  row_there m.Incf rest vs r h = incf_there rest vs h
  row_there m.Decf rest vs r h = decf_there rest vs h
  row_there m.Push rest vs r h = push_there vs h
  row_there m.Pop rest vs r h = pop_there vs h
  row_there m.MultipleValueBind rest vs r h = bind_values_there vs h
  row_there m.MultipleValueList rest vs r h = list_values_there vs h
  row_there m.MultipleValueSetq rest vs r h = set_values_row_there vs h
  row_there m.NthValue rest vs r h = nth_value_there vs h
  row_there m.Lambda rest vs r h = lambda_there vs h
  row_there m.Quasiquote rest vs r h = quasiquote_there vs h

  pub rest_is_there : (v : Val) → IsThere s v → IsThere s (rest_of s.heap v)
  rest_is_there v i = by (cons_at s.heap v) (cons_there s v i)
    where
      by : (o : Option (Val × Val)) → Where (PairIsThere s) o → IsThere s (rest_by o)
      by None h = nil_there sound
      by (Some p) (found_there h) = h.1

  arguments_there : (macro : Macro) (v : Val) → IsThere s v → Where (ExpansionIsThere s) (arguments_row macro s.heap v)
  unfolding arguments_row
  arguments_there macro v i = where_then _ (elements_there s v i) (λ vs h. row_there macro _ vs (rest_is_there v i) h)

-- ---- the form that a macro form gives

-- where it gives one, it is there, and the stores are sound and begin with what there was
pub data WhereExpanded (s : Stores) : Expanded → Type 0 where
  is_expanded : {v : Val} {table : Table} {heap : List Object} → Made s IsThere v (stores table heap) → WhereExpanded s (gives v table heap)
  is_bad : {place : _} → WhereExpanded s (bad place)
  is_full : WhereExpanded s full

module _ (table : Table) (heap : List Object) (sound : AreSound (stores table heap)) where
  with_symbols_there : (x : Expansion) (o : Option (List Val × Table)) → ExpansionIsThere (stores table heap) x → Where (FreshMade table heap) o →
      WhereExpanded (stores table heap) (with_symbols x heap o)
  with_symbols_there x None h o = is_full
  with_symbols_there x (Some found) h (found_there k) =
      let first = tree_built found.1 found.0 nil x.first heap (record { sound = k.sound; symbols_there = k.there; before_there = nil_there k.sound }) (forms_stay k.grown h.first) in
      let g = grown_on k.grown first.grown in
      let whole = around_built found.1 found.0 x.around _ _ (record { sound = first.sound; symbols_there = values_stay first.grown k.there; before_there = first.there }) (each_map (λ y i. forms_stay g i) h.around) in
      is_expanded (record { sound = whole.sound; grown = grown_on g whole.grown; there = whole.there })

  expanded_by_there : (o : Option Expansion) (place : _) → Where (ExpansionIsThere (stores table heap)) o → WhereExpanded (stores table heap) (expanded_by o place table heap)
  expanded_by_there None place h = is_bad
  expanded_by_there (Some x) place (found_there h) = with_symbols_there x _ h (fresh_symbols_made x.count table heap sound)

  expanded_as_there : (o : Option Macro) (v : Val) → IsThere (stores table heap) v → WhereExpanded (stores table heap) (expanded_as o table heap v)
  unfolding expanded
  expanded_as_there None v i = is_bad
  expanded_as_there (Some macro) v i = expanded_by_there _ _ (arguments_there (stores table heap) sound macro (arguments_of heap v) (rest_is_there (stores table heap) sound v i))

  pub expanded_there : (v : Val) → IsThere (stores table heap) v → WhereExpanded (stores table heap) (expanded_form table heap v)
  unfolding expanded_form
  expanded_there v i = expanded_as_there (macro_of_form heap v) v i
