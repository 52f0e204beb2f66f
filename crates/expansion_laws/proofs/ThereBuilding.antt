-- What is built of what is there is there: forms of trees, and symbols that a table takes in. The stores stay sound and grow.
use Rattle.std.specs.Prelude.{◌≡◌, refl, ℕ, zero, suc, ◌<◌, Bool, true, false, nat_lt, List, [], ◌∷◌, ◌++◌, length, Some, None, if◌then◌else◌}
use Rattle.std.specs.List.{position_or_len}
use Rattle.std.proofs.Common.{ap, sym, ◌∙◌, arith, append_assoc}
use Rattle.std.proofs.lemmas.List.{append-nil, length-append}
use Rattle.std.proofs.lemmas.Bool.{ltb-true}
use Rattle.lisp_base.specs.declared.values.SymKind.{SymKind}
use Rattle.lisp_base.specs.declared.values.SymId.{SymId}
use Rattle.lisp_base.specs.declared.values.Val.{Val}
use Rattle.lisp_base.specs.Sort.{nil, symbol}
use Rattle.lisp_base.specs.Tables.{Symbol, make_symbol, Table, make_table, most_symbols, is_symbol, added, found_or_added, interned, made_fresh, Object, Cons, base_symbols}
use Rattle.lisp_forms.specs.Trees.{Tree, form, fresh, inner, listed, Trees, none, also, trees}
use Rattle.lisp_forms.specs.Building.{made_cons, made_list, built, built_each}
use Rattle.std_macros.specs.Expanding.{fresh_symbols, built_around}
use Rattle.expansion_laws.specs.There.{Stores, stores, SymbolIsThere, IsThere, AreSound, Grown}
use Rattle.expansion_laws.proofs.ThereLists.{Each, no_more, one_more, Where, nothing_there, found_there, where_then, where_map, where_if, each_map, each_index}
use Rattle.expansion_laws.proofs.ThereStores.{ValuesAreThere, grown_same, grown_on, value_stays, values_stay, symbol_stays, symbol_there, nil_there, get_last, cons_is_there}

-- ---- what is made

-- a result with stores that are sound and begin with others, P being so of the result
pub record Made (s : Stores) {A : Type 0} (P : Stores → A → Type 0) (a : A) (t : Stores) : Type 0 where
  pub sound : AreSound t
  pub grown : Grown s t
  pub there : P t a

pub made_as_is : {s : Stores} {A : Type 0} (P : Stores → A → Type 0) (a : A) → AreSound s → P s a → Made s P a s
made_as_is {s} P a sound h = record { sound = sound; grown = grown_same s; there = h }

pub made_from : {s t u : Stores} {A : Type 0} {P : Stores → A → Type 0} {a : A} → Grown s t → Made t P a u → Made s P a u
made_from g m = record { sound = m.sound; grown = grown_on g m.grown; there = m.there }

-- ---- conses

grown_heap : (s : Stores) (xs : List Object) → Grown s (stores s.table (s.heap ++ xs))
grown_heap s xs = record { symbols = ([], sym (append-nil s.table.symbols)); objects = (xs, refl) }

module _ (table : Table) where
  -- a value with the heap after it is made
  abbrev pub MadeIn : {A : Type 0} → (Stores → A → Type 0) → List Object → A × List Object → Type 0
  MadeIn P heap made = Made (stores table heap) P made.0 (stores table made.1)

  pub cons_made : (car cdr : Val) (heap : List Object) → AreSound (stores table heap) → IsThere (stores table heap) car → IsThere (stores table heap) cdr →
      MadeIn IsThere heap (made_cons car cdr heap)
  cons_made car cdr heap sound h k =
      let g = grown_heap (stores table heap) (Cons car cdr None ∷ []) in
      record { sound = record { begins = sound.begins }; grown = g; there = cons_is_there _ _ car cdr (get_last heap (Cons car cdr None)) (value_stays g car h) (value_stays g cdr k) }

  pub list_made : (vs : List Val) (tail : Val) (heap : List Object) → AreSound (stores table heap) → ValuesAreThere (stores table heap) vs →
      IsThere (stores table heap) tail → MadeIn IsThere heap (made_list vs tail heap)
  list_made [] tail heap sound hs k = made_as_is IsThere tail sound k
  list_made (v ∷ vs) tail heap sound (one_more h hs) k =
      let rest = list_made vs tail heap sound hs k in
      made_from rest.grown (cons_made v _ _ rest.sound (value_stays rest.grown v h) rest.there)

-- ---- trees

-- each form of a tree is there, and what stands after its lists
mutual
  pub data FormsAreThere (s : Stores) : Tree → Type 0 where
    form_there : {v : Val} → IsThere s v → FormsAreThere s (form v)
    fresh_there : {n : ℕ} → FormsAreThere s (fresh n)
    inner_there : FormsAreThere s inner
    list_there : {xs : Trees} {tail : Val} → AllFormsAreThere s xs → IsThere s tail → FormsAreThere s (listed xs tail)

  pub data AllFormsAreThere (s : Stores) : Trees → Type 0 where
    none_there : AllFormsAreThere s none
    also_there : {x : Tree} {xs : Trees} → FormsAreThere s x → AllFormsAreThere s xs → AllFormsAreThere s (also x xs)

mutual
  pub forms_stay : {s t : Stores} (g : Grown s t) {x : Tree} → FormsAreThere s x → FormsAreThere t x
  forms_stay g (form_there {v = v} h) = form_there (value_stays g v h)
  forms_stay g fresh_there = fresh_there
  forms_stay g inner_there = inner_there
  forms_stay g (list_there {tail = tail} hs h) = list_there (all_forms_stay g hs) (value_stays g tail h)

  pub all_forms_stay : {s t : Stores} (g : Grown s t) {xs : Trees} → AllFormsAreThere s xs → AllFormsAreThere t xs
  all_forms_stay g none_there = none_there
  all_forms_stay g (also_there h hs) = also_there (forms_stay g h) (all_forms_stay g hs)

pub all_trees_there : {s : Stores} {xs : List Tree} → Each (FormsAreThere s) xs → AllFormsAreThere s (trees xs)
all_trees_there no_more = none_there
all_trees_there (one_more h hs) = also_there h (all_trees_there hs)

module _ (table : Table) (symbols : List Val) (before : Val) where
  -- what is so before a form is made
  pub record Ready (heap : List Object) : Type 0 where
    pub sound : AreSound (stores table heap)
    pub symbols_there : ValuesAreThere (stores table heap) symbols
    pub before_there : IsThere (stores table heap) before

  ready_on : (heap : List Object) (new : List Object) → Ready heap → Grown (stores table heap) (stores table new) → AreSound (stores table new) → Ready new
  ready_on heap new r g sound = record { sound = sound; symbols_there = values_stay g r.symbols_there; before_there = value_stays g before r.before_there }

  mutual
    unfolding built built_each

    pub tree_built : (x : Tree) (heap : List Object) → Ready heap → FormsAreThere (stores table heap) x → MadeIn table IsThere heap (built symbols before x heap)
    tree_built (form v) heap r (form_there h) = made_as_is IsThere v r.sound h
    tree_built (fresh n) heap r h = made_as_is IsThere _ r.sound (each_index n nil (nil_there r.sound) r.symbols_there)
    tree_built inner heap r h = made_as_is IsThere before r.sound r.before_there
    tree_built (listed xs tail) heap r (list_there hs h) =
        let each = trees_built xs heap r hs in
        made_from each.grown (list_made table _ tail _ each.sound each.there (value_stays each.grown tail h))

    pub trees_built : (xs : Trees) (heap : List Object) → Ready heap → AllFormsAreThere (stores table heap) xs →
        MadeIn table ValuesAreThere heap (built_each symbols before xs heap)
    trees_built none heap r h = made_as_is ValuesAreThere [] r.sound no_more
    trees_built (also x xs) heap r (also_there h hs) =
        let first = tree_built x heap r h in
        let others = trees_built xs _ (ready_on heap _ r first.grown first.sound) (all_forms_stay first.grown hs) in
        record { sound = others.sound; grown = grown_on first.grown others.grown; there = one_more (value_stays others.grown _ first.there) others.there }

-- forms around a form
pub around_built :
    (table : Table) (symbols : List Val) (xs : List Tree) (heap : List Object) (v : Val) → Ready table symbols v heap → Each (FormsAreThere (stores table heap)) xs →
    MadeIn table IsThere heap (built_around symbols xs (v, heap))
unfolding built_around
around_built table symbols [] heap v r hs = made_as_is IsThere v r.sound r.before_there
around_built table symbols (x ∷ xs) heap v r (one_more h hs) =
    let first = tree_built table symbols v x heap r h in
    made_from first.grown (around_built table symbols xs _ _ (record { sound = first.sound; symbols_there = values_stay first.grown r.symbols_there; before_there = first.there }) (each_map (λ y k. forms_stay first.grown k) hs))

-- ---- symbols

abbrev added_stores : Symbol → ℕ → Table → List Object → Stores
added_stores x count table heap = stores (make_table (table.symbols ++ x ∷ []) count) heap

added_grown : (x : Symbol) (count : ℕ) (table : Table) (heap : List Object) → Grown (stores table heap) (added_stores x count table heap)
added_grown x count table heap = record { symbols = (x ∷ [], refl); objects = ([], sym (append-nil heap)) }

-- one more symbol
pub symbol_added : (x : Symbol) (count : ℕ) (table : Table) (heap : List Object) → AreSound (stores table heap) →
    Where (λ (found : SymId × Table). Made (stores table heap) SymbolIsThere found.0 (stores found.1 heap)) (added x count table)
symbol_added x count table heap sound =
    where_if (nat_lt (length table.symbols) most_symbols) _ _ (found_there (record {
      sound = record { begins = (sound.begins.0 ++ x ∷ [], ap (λ (xs : List Symbol). xs ++ x ∷ []) sound.begins.1 ∙ append_assoc base_symbols sound.begins.0 (x ∷ [])) };
      grown = added_grown x count table heap;
      there = simp length-append (omega arith);
    })) nothing_there

abbrev pub SymbolMade : Table → List Object → SymId × Table → Type 0
SymbolMade table heap found = Made (stores table heap) SymbolIsThere found.0 (stores found.1 heap)

pub fresh_made : (table : Table) (heap : List Object) → AreSound (stores table heap) → Where (SymbolMade table heap) (made_fresh table)
fresh_made table heap sound = symbol_added _ _ table heap sound

-- the symbol that a table takes in
pub interned_made : (name : List ℕ) (kind : SymKind) (table : Table) (heap : List Object) → AreSound (stores table heap) → Where (SymbolMade table heap) (interned name kind table)
interned_made name kind table heap sound = by (nat_lt (position_or_len (is_symbol name kind) table.symbols) (length table.symbols)) (λ e. ltb-true _ _ e)
  where
    by : (b : Bool) → (b ≡ true → position_or_len (is_symbol name kind) table.symbols < length table.symbols) →
        Where (SymbolMade table heap) (found_or_added (if b then Some (position_or_len (is_symbol name kind) table.symbols) else None) (make_symbol name kind) table)
    by false k = symbol_added _ _ table heap sound
    by true k = found_there (made_as_is SymbolIsThere (symbol (position_or_len (is_symbol name kind) table.symbols)) sound (k refl))

abbrev pub FreshMade : Table → List Object → List Val × Table → Type 0
FreshMade table heap found = Made (stores table heap) ValuesAreThere found.0 (stores found.1 heap)

pub fresh_symbols_made : (n : ℕ) (table : Table) (heap : List Object) → AreSound (stores table heap) → Where (FreshMade table heap) (fresh_symbols n table)
unfolding fresh_symbols
fresh_symbols_made zero table heap sound = found_there (made_as_is ValuesAreThere [] sound no_more)
fresh_symbols_made (suc n) table heap sound =
    where_then _ (fresh_made table heap sound) (λ made m. where_map _ (fresh_symbols_made n made.1 heap m.sound) (λ others o.
    record { sound = o.sound; grown = grown_on m.grown o.grown; there = one_more (symbol_there made.0 (symbol_stays o.grown made.0 m.there)) o.there }))
