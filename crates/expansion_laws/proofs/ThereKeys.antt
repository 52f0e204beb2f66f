-- The forms that &KEY parameters stand for are there.
use Rattle.std.specs.Prelude.{ℕ, ◌<◌, List, [], ◌∷◌, map, slice_get, Option, Some, None}
use Rattle.std.proofs.Common.{arith}
use Rattle.lisp_base.specs.declared.values.SymId.{SymId}
use Rattle.lisp_base.specs.declared.values.Val.{Val}
use Rattle.lisp_base.specs.declared.values.Val.TheVariants.{Sym}
use Rattle.lisp_base.specs.declared.values.SymKind.TheVariants as kind
use Rattle.lisp_base.specs.declared.base_symbols.TheConstants as at
use Rattle.lisp_base.specs.Sort.{nil, number_of, symbol}
use Rattle.lisp_base.specs.Tables.{Table, Object}
use Rattle.lisp_forms.specs.Trees.{Tree, form, list}
use Rattle.lambda_lists.specs.Trees.{word, quoted, found, test_tree, value_tree, supplied_tree, refusal_tree}
use Rattle.lambda_lists.specs.LambdaLists.{Default, KeyForms, Keyed, name_of, keyed, made, bound, bound_supplied, bound_key, bound_keys, keyword_in, made_forms, key_forms}
use Rattle.expansion_laws.specs.There.{Stores, stores, SymbolIsThere, IsThere, AreSound, Grown}
use Rattle.expansion_laws.proofs.ThereLists.{Each, no_more, one_more, Where, found_there, where_then, where_map, where_each, each_map, each_last, each_mapped}
use Rattle.expansion_laws.proofs.ThereStores.{grown_same, grown_on, value_stays, symbol_stays, nil_there, truth_there, symbol_there, base_there, base_symbol_there}
use Rattle.expansion_laws.proofs.ThereReading.{DefaultIsThere, NamedValueIsThere}
use Rattle.expansion_laws.proofs.ThereBuilding.{Made, FormsAreThere, form_there, list_there, all_trees_there, tree_built, interned_made, Ready}

pub default_stays : {s t : Stores} (g : Grown s t) (d : Default) → DefaultIsThere s d → DefaultIsThere t d
default_stays g d h = record { variable = symbol_stays g d.variable h.variable; value = value_stays g d.value h.value; supplied = where_each h.supplied (λ x k. symbol_stays g x k) }

pub defaults_stay : {s t : Stores} (g : Grown s t) {ds : List Default} → Each (DefaultIsThere s) ds → Each (DefaultIsThere t) ds
defaults_stay g h = each_map (default_stays g) h

pub named_value_stays : {s t : Stores} (g : Grown s t) (p : SymId × Val) → NamedValueIsThere s p → NamedValueIsThere t p
named_value_stays g p h = (symbol_stays g p.0 h.0, value_stays g p.1 h.1)

-- ---- keywords

pub record KeyedIsThere (s : Stores) (k : Keyed) : Type 0 where
  pub keyword : SymbolIsThere s k.keyword
  pub parameter : DefaultIsThere s k.parameter

keyed_stays : {s t : Stores} (g : Grown s t) (k : Keyed) → KeyedIsThere s k → KeyedIsThere t k
keyed_stays g k h = record { keyword = symbol_stays g k.keyword h.keyword; parameter = default_stays g k.parameter h.parameter }

abbrev AreKeyed : Stores → List Keyed → Type 0
AreKeyed s ks = Each (KeyedIsThere s) ks

abbrev KeyedMade : Table → List Object → List Keyed × Table → Type 0
KeyedMade table heap p = Made (stores table heap) AreKeyed p.0 (stores p.1 heap)

keyed_made : (ds : List Default) (table : Table) (heap : List Object) → AreSound (stores table heap) → Each (DefaultIsThere (stores table heap)) ds →
    Where (KeyedMade table heap) (keyed ds table)
keyed_made [] table heap sound h = found_there (record { sound = sound; grown = grown_same _; there = no_more })
keyed_made (d ∷ ds) table heap sound (one_more h hs) =
    where_then _ (interned_made (name_of (slice_get table.symbols (number_of d.variable))) kind.Keyword table heap sound) (λ k m.
    where_map _ (keyed_made ds k.1 heap m.sound (defaults_stay m.grown hs)) (λ others o. record {
      sound = o.sound;
      grown = grown_on m.grown o.grown;
      there = one_more (record { keyword = symbol_stays o.grown k.0 m.there; parameter = default_stays (grown_on m.grown o.grown) d h }) o.there;
    }))

-- ---- trees

module _ {s : Stores} (sound : AreSound s) where
  a_word : (x : SymId) → SymbolIsThere s x → FormsAreThere s (word x)
  a_word x h = form_there (symbol_there x h)

  base_word : (n : ℕ) → n < 314 → FormsAreThere s (form (Sym (symbol n)))
  base_word n lt = form_there (base_there sound n lt)

  a_list : (xs : List Tree) → Each (FormsAreThere s) xs → FormsAreThere s (list xs)
  a_list xs h = list_there (all_trees_there h) (nil_there sound)

  a_quoted : {x : Tree} → FormsAreThere s x → FormsAreThere s (quoted x)
  a_quoted h = a_list _ (one_more (base_word 2 (omega arith)) (one_more h no_more))

  found_fits : (g k : SymId) → SymbolIsThere s g → SymbolIsThere s k → FormsAreThere s (found g k)
  found_fits g k h i = a_list _ (one_more (a_word at.HELPER_KEY (base_symbol_there sound _ (omega arith))) (one_more (a_word g h) (one_more (a_quoted (a_word k i)) no_more)))

  test_fits : (g : SymId) (ks : List SymId) → SymbolIsThere s g → Each (SymbolIsThere s) ks → FormsAreThere s (test_tree g ks)
  test_fits g ks h hs =
      a_list _ (one_more (a_word at.HELPER_KEYP (base_symbol_there sound _ (omega arith))) (one_more (a_word g h) (one_more (a_quoted (a_list _ (each_mapped word (λ x k. a_word x k) hs))) no_more)))

  value_fits : (g k : SymId) (e : Val) → SymbolIsThere s g → SymbolIsThere s k → IsThere s e → FormsAreThere s (value_tree g k e)
  value_fits g k e h i j =
      a_list _ (one_more (a_word at.IF (base_symbol_there sound _ (omega arith))) (one_more (found_fits g k h i)
      (one_more (a_list _ (one_more (a_word at.CAR (base_symbol_there sound _ (omega arith))) (one_more (found_fits g k h i) no_more))) (one_more (form_there j) no_more))))

  supplied_fits : (g k : SymId) → SymbolIsThere s g → SymbolIsThere s k → FormsAreThere s (supplied_tree g k)
  supplied_fits g k h i =
      a_list _ (one_more (a_word at.IF (base_symbol_there sound _ (omega arith))) (one_more (found_fits g k h i) (one_more (form_there (truth_there sound)) (one_more (form_there (nil_there sound)) no_more))))

  refusal_fits : (g : SymId) → SymbolIsThere s g → FormsAreThere s (refusal_tree g)
  refusal_fits g h =
      a_list _ (one_more (a_word at.FUNCALL (base_symbol_there sound _ (omega arith)))
      (one_more (a_list _ (one_more (a_word at.LAMBDA (base_symbol_there sound _ (omega arith))) (one_more (form_there (nil_there sound)) no_more))) (one_more (a_word g h) no_more)))

-- ---- forms

abbrev NamedValues : Stores → List (SymId × Val) → Type 0
NamedValues s bs = Each (NamedValueIsThere s) bs

pub record KeyFormsAreThere (s : Stores) (k : KeyForms) : Type 0 where
  pub test : IsThere s k.test
  pub bindings : Each (NamedValueIsThere s) k.bindings
  pub refusal : IsThere s k.refusal

module _ (table : Table) where
  ready : (heap : List Object) → AreSound (stores table heap) → Ready table [] nil heap
  ready heap sound = record { sound = sound; symbols_there = no_more; before_there = nil_there sound }

  form_made : (x : Tree) (heap : List Object) → AreSound (stores table heap) → FormsAreThere (stores table heap) x →
      Made (stores table heap) IsThere (made x heap).0 (stores table (made x heap).1)
  form_made x heap sound h = tree_built table [] nil x heap (ready heap sound) h

  -- what is so of bindings with the heap after them
  abbrev Bound : List Object → List (SymId × Val) × List Object → Type 0
  Bound heap p = Made (stores table heap) NamedValues p.0 (stores table p.1)

  one_bound : (heap : List Object) (v : SymId) (x : Tree) (p : List (SymId × Val) × List Object) → Bound heap p → SymbolIsThere (stores table heap) v →
      ((t : Stores) → AreSound t → Grown (stores table heap) t → FormsAreThere t x) → Bound heap (bound v x p)
  one_bound heap v x p m h k =
      let last = form_made x p.1 m.sound (k _ m.sound m.grown) in
      let g = grown_on m.grown last.grown in
      record { sound = last.sound; grown = g; there = each_last _ (each_map (named_value_stays last.grown) m.there) (symbol_stays g v h, last.there) }

  some_bound : (heap : List Object) (o : Option SymId) (x : Tree) (p : List (SymId × Val) × List Object) → Bound heap p →
      Where (SymbolIsThere (stores table heap)) o → ((t : Stores) → AreSound t → Grown (stores table heap) t → FormsAreThere t x) → Bound heap (bound_supplied o x p)
  some_bound heap None x p m h k = m
  some_bound heap (Some v) x p m (found_there h) k = one_bound heap v x p m h k

  key_bound : (heap : List Object) (g : SymId) (k : Keyed) (p : List (SymId × Val) × List Object) → Bound heap p → SymbolIsThere (stores table heap) g →
      KeyedIsThere (stores table heap) k → Bound heap (bound_key g k p)
  key_bound heap g k p m h i =
      some_bound heap k.parameter.supplied _ _
      (one_bound heap k.parameter.variable _ p m i.parameter.variable (λ t sound up. value_fits sound g k.keyword _ (symbol_stays up g h) (symbol_stays up k.keyword i.keyword) (value_stays up _ i.parameter.value)))
      i.parameter.supplied (λ t sound up. supplied_fits sound g k.keyword (symbol_stays up g h) (symbol_stays up k.keyword i.keyword))

  keys_bound : (heap : List Object) (g : SymId) (ks : List Keyed) (p : List (SymId × Val) × List Object) → Bound heap p → SymbolIsThere (stores table heap) g →
      AreKeyed (stores table heap) ks → Bound heap (bound_keys g ks p)
  keys_bound heap g [] p m h i = m
  keys_bound heap g (k ∷ ks) p m h (one_more i is) = keys_bound heap g ks _ (key_bound heap g k p m h i) h is

  abbrev FormsMade : List Object → KeyForms × List Object → Type 0
  FormsMade heap p = Made (stores table heap) KeyFormsAreThere p.0 (stores table p.1)

  forms_made : (heap : List Object) (g : SymId) (ks : List Keyed) → AreSound (stores table heap) → SymbolIsThere (stores table heap) g →
      AreKeyed (stores table heap) ks → FormsMade heap (made_forms g ks heap)
  unfolding made_forms
  forms_made heap g ks sound h hs =
      let test = form_made (test_tree g (map keyword_in ks)) heap sound (test_fits sound g _ h (each_mapped keyword_in (λ k i. i.keyword) hs)) in
      let up = test.grown in
      let keys = keys_bound _ g ks ([], _) (record { sound = test.sound; grown = grown_same _; there = no_more }) (symbol_stays up g h) (each_map (keyed_stays up) hs) in
      let refusal = form_made (refusal_tree g) _ keys.sound (refusal_fits keys.sound g (symbol_stays keys.grown g (symbol_stays up g h))) in
      let g2 = grown_on keys.grown refusal.grown in
      record {
        sound = refusal.sound;
        grown = grown_on up g2;
        there = record { test = value_stays g2 _ test.there; bindings = each_map (named_value_stays refusal.grown) keys.there; refusal = refusal.there };
      }

abbrev pub KeyFormsMade : Table → List Object → KeyForms × Table × List Object → Type 0
KeyFormsMade table heap p = Made (stores table heap) KeyFormsAreThere p.0 (stores p.1 p.2)

pub key_forms_made : (rest : SymId) (ds : List Default) (table : Table) (heap : List Object) → AreSound (stores table heap) → SymbolIsThere (stores table heap) rest →
    Each (DefaultIsThere (stores table heap)) ds → Where (KeyFormsMade table heap) (key_forms rest ds table heap)
unfolding key_forms
key_forms_made rest ds table heap sound h hs =
    where_map _ (keyed_made ds table heap sound hs) (λ k m.
    let whole = forms_made k.1 heap rest k.0 m.sound (symbol_stays m.grown rest h) m.there in
    record { sound = whole.sound; grown = grown_on m.grown whole.grown; there = whole.there })
