-- The lists of a program's text, one more element at a time.
use Rattle.std.proofs.Common.{◌≡◌, ℕ, ◌+◌, ◌<◌, ◌≤◌, List, [], ◌∷◌, ◌++◌, length, drop, get_or, sym, ap, ◌∙◌, codes}
use Rattle.std.specs.Prelude.{option_map}
use Rattle.std.proofs.lemmas.List.{at_drop_more, at_drop_all}
use Rattle.lisp_base.specs.InStore.{Store}
use Rattle.lisp_base.specs.declared.values.Val.TheVariants.{Sym}
use Rattle.core_form.specs.declared.tree.Core.{Core as Core'}
use Rattle.core_form.specs.declared.tree.Binding.{Binding as Binding'}
use Rattle.core_form.specs.declared.tree.Optional.{Optional as Optional'}
use Rattle.core_form.specs.declared.tree.Definition.{Definition as Definition'}
use Rattle.core_form.specs.declared.tree.Item.{Item as Item'}
use Rattle.lisp_base.specs.declared.values.Place.{Place}
use Rattle.lisp_base.specs.declared.values.SymId.{SymId}
use Rattle.core_form.specs.Tree.{Lambda, Definitions, define}
use Rattle.core_form.specs.Reading.{core_of, cores_list, parameter_of}
use Rattle.core_form.specs.ListReading.{bindings_list, optionals_list, definitions_list, items_list}
use Rattle.core_form.specs.TextNames.{known, variable_names, given_names, optional_names}
use Rattle.core_form.specs.Text.{group, variable_text, parameter_text, flag_texts, core_text, core_texts, binding_texts, optional_texts, label_text, lambda_text, definition_texts, item_texts}
use Rattle.core_form.specs.TextPage.{Page, put, puts, opened, closed, bound}
use Rattle.core_form.proofs.TextPages.{names_beside, more_names, no_names, list_written}

-- ---- nodes

abbrev pub nodes_on : Store → Page → List Core' → Page
nodes_on st pg cs = puts pg (core_texts st pg.names (cores_list cs))

pub nodes_more : (st : Store) (cs : List Core') (i : ℕ) (x : Core') (p q total : Page) → i < length cs → x ≡ get_or cs i x →
    q ≡ put p (core_text st p.names (core_of x)) → nodes_on st p (drop i cs) ≡ total → nodes_on st q (drop (i + 1) cs) ≡ total
nodes_more st cs i x p q total lt is written so_far =
    let rest = drop (i + 1) cs in
    let begun : nodes_on st p (drop i cs) ≡ nodes_on st p (x ∷ rest) =
    at_drop_more (nodes_on st p) cs i x lt ∙ ap (λ (y : Core'). nodes_on st p (y ∷ rest)) (sym is) in
    (ap (λ (g : Page). nodes_on st g rest) written ∙ sym begun) ∙ so_far

pub nodes_all : (st : Store) (cs : List Core') (i : ℕ) (p total : Page) → length cs ≤ i → nodes_on st p (drop i cs) ≡ total → p ≡ total
nodes_all st cs i p total le so_far = sym (at_drop_all (nodes_on st p) cs i le) ∙ so_far

-- ---- variables of a Let

abbrev pub bindings_on : Store → Page → List Binding' → Page
bindings_on st pg bs = puts pg (binding_texts st pg.names (bindings_list bs))

pub bindings_more : (st : Store) (bs : List Binding') (i : ℕ) (x : Binding') (p q r s t total : Page) → i < length bs → x ≡ get_or bs i x →
    q ≡ opened p → r ≡ put q (variable_text st x.parameter.variable) → s ≡ put r (core_text st r.names (core_of x.value)) → t ≡ closed s →
    bindings_on st p (drop i bs) ≡ total → bindings_on st t (drop (i + 1) bs) ≡ total
bindings_more st bs i x p q r s t total lt is e f g h so_far =
    let rest = drop (i + 1) bs in
    let v = variable_text st x.parameter.variable in
    let n = core_text st p.names (core_of x.value) in
    let begun : bindings_on st p (drop i bs) ≡ bindings_on st p (x ∷ rest) =
    at_drop_more (bindings_on st p) bs i x lt ∙ ap (λ (y : Binding'). bindings_on st p (y ∷ rest)) (sym is) in
    let named : r ≡ put (opened p) v = f ∙ ap (λ (k : Page). put k v) e in
    let valued : s ≡ put (put (opened p) v) n = g ∙ ap (λ (k : Page). put k (core_text st k.names (core_of x.value))) named in
    let written : t ≡ put p (group (v ∷ n ∷ [])) = (h ∙ ap closed valued) ∙ list_written p (v ∷ n ∷ []) in
    (ap (λ (k : Page). bindings_on st k rest) written ∙ sym begun) ∙ so_far

pub bindings_all : (st : Store) (bs : List Binding') (i : ℕ) (p total : Page) → length bs ≤ i → bindings_on st p (drop i bs) ≡ total → p ≡ total
bindings_all st bs i p total le so_far = sym (at_drop_all (bindings_on st p) bs i le) ∙ so_far

-- ---- optional parameters

abbrev pub optionals_on : Store → Page → List Optional' → Page
optionals_on st pg os = bound (puts pg (optional_texts st pg.names (optionals_list os))) (optional_names (optionals_list os))

pub optionals_more : (st : Store) (os : List Optional') (i : ℕ) (x : Optional') (p0 p1 p2 p3 p4 p5 p6 p7 p8 total : Page) → i < length os → x ≡ get_or os i x →
    p1 ≡ opened p0 → p2 ≡ put p1 (codes "opt") → p3 ≡ put p2 (parameter_text st (parameter_of x.parameter)) → p4 ≡ put p3 (core_text st p3.names (core_of x.default)) →
    p5 ≡ puts p4 (flag_texts st (option_map parameter_of x.supplied)) → p6 ≡ closed p5 →
    p7 ≡ bound p6 (variable_names x.parameter.variable) → p8 ≡ bound p7 (given_names (option_map parameter_of x.supplied)) →
    optionals_on st p0 (drop i os) ≡ total → optionals_on st p8 (drop (i + 1) os) ≡ total
optionals_more st os i x p0 p1 p2 p3 p4 p5 p6 p7 p8 total lt is e1 e2 e3 e4 e5 e6 e7 e8 so_far =
    let rest = drop (i + 1) os in
    let os' = optionals_list rest in
    let w = parameter_text st (parameter_of x.parameter) in
    let n = core_text st p0.names (core_of x.default) in
    let flag = flag_texts st (option_map parameter_of x.supplied) in
    let ns = variable_names x.parameter.variable in
    let ms = given_names (option_map parameter_of x.supplied) in
    let text = group (codes "opt" ∷ w ∷ n ∷ flag) in
    let begun : optionals_on st p0 (drop i os) ≡ optionals_on st p0 (x ∷ rest) =
    at_drop_more (optionals_on st p0) os i x lt ∙ ap (λ (y : Optional'). optionals_on st p0 (y ∷ rest)) (sym is) in
    let f2 : p2 ≡ put (opened p0) (codes "opt") = e2 ∙ ap (λ (k : Page). put k (codes "opt")) e1 in
    let f3 : p3 ≡ put (put (opened p0) (codes "opt")) w = e3 ∙ ap (λ (k : Page). put k w) f2 in
    let f4 : p4 ≡ put (put (put (opened p0) (codes "opt")) w) n = e4 ∙ ap (λ (k : Page). put k (core_text st k.names (core_of x.default))) f3 in
    let f6 : p6 ≡ put p0 text = (e6 ∙ ap closed (e5 ∙ ap (λ (k : Page). puts k flag) f4)) ∙ list_written p0 (codes "opt" ∷ w ∷ n ∷ flag) in
    let f8 : p8 ≡ bound (put p0 text) (ns ++ ms) =
    (e8 ∙ ap (λ (k : Page). bound k ms) (e7 ∙ ap (λ (k : Page). bound k ns) f6)) ∙ more_names (put p0 text) ns ms in
    let ts = optional_texts st (p0.names ++ (ns ++ ms)) os' in
    let apart : optionals_on st (bound (put p0 text) (ns ++ ms)) rest ≡ optionals_on st p0 (x ∷ rest) =
    ap (λ (k : Page). bound k (optional_names os')) (names_beside (put p0 text) (ns ++ ms) ts)
    ∙ more_names (puts (put p0 text) ts) (ns ++ ms) (optional_names os') in
    ((ap (λ (k : Page). optionals_on st k rest) f8 ∙ apart) ∙ sym begun) ∙ so_far

pub optionals_all : (st : Store) (os : List Optional') (i : ℕ) (p total : Page) → length os ≤ i → optionals_on st p (drop i os) ≡ total → p ≡ total
optionals_all st os i p total le so_far = sym (at_drop_all (optionals_on st p) os i le ∙ no_names p) ∙ so_far

-- ---- local functions

abbrev pub definitions_on : Store → Page → List Definition' → Page
definitions_on st pg ds = puts pg (definition_texts st pg.names (definitions_list ds))

pub definitions_more : (st : Store) (ds : List Definition') (i : ℕ) (x : Definition') (place : Place) (f : ℕ) (name : SymId) (l : Lambda) (p q r s t total : Page) → i < length ds → x ≡ get_or ds i x →
    ((rest : List Definition') → definitions_list (x ∷ rest) ≡ define place f name l (definitions_list rest)) →
    q ≡ opened p → r ≡ put q (label_text st (known f (Sym name))) → s ≡ put r (lambda_text st r.names l) → t ≡ closed s →
    definitions_on st p (drop i ds) ≡ total → definitions_on st t (drop (i + 1) ds) ≡ total
definitions_more st ds i x place f name l p q r s t total lt is reads e g h k so_far =
    let rest = drop (i + 1) ds in
    let v = label_text st (known f (Sym name)) in
    let n = lambda_text st p.names l in
    let begun : definitions_on st p (drop i ds) ≡ definitions_on st p (x ∷ rest) =
    at_drop_more (definitions_on st p) ds i x lt ∙ ap (λ (y : Definition'). definitions_on st p (y ∷ rest)) (sym is) in
    let read : definitions_on st p (x ∷ rest) ≡ puts p (definition_texts st p.names (define place f name l (definitions_list rest))) =
    ap (λ (d : Definitions). puts p (definition_texts st p.names d)) (reads rest) in
    let named : r ≡ put (opened p) v = g ∙ ap (λ (o : Page). put o v) e in
    let made : s ≡ put (put (opened p) v) n = h ∙ ap (λ (o : Page). put o (lambda_text st o.names l)) named in
    let written : t ≡ put p (group (v ∷ n ∷ [])) = (k ∙ ap closed made) ∙ list_written p (v ∷ n ∷ []) in
    (ap (λ (o : Page). definitions_on st o rest) written ∙ sym (begun ∙ read)) ∙ so_far

pub definitions_all : (st : Store) (ds : List Definition') (i : ℕ) (p total : Page) → length ds ≤ i → definitions_on st p (drop i ds) ≡ total → p ≡ total
definitions_all st ds i p total le so_far = sym (at_drop_all (definitions_on st p) ds i le) ∙ so_far

-- ---- tags and forms

abbrev pub items_on : Store → Page → List Item' → Page
items_on st pg is = puts pg (item_texts st pg.names (items_list is))

pub items_more : (st : Store) (xs : List Item') (i : ℕ) (x : Item') (w : List ℕ) (p q total : Page) → i < length xs → x ≡ get_or xs i x →
    ((rest : List Item') → items_on st p (x ∷ rest) ≡ items_on st (put p w) rest) → q ≡ put p w →
    items_on st p (drop i xs) ≡ total → items_on st q (drop (i + 1) xs) ≡ total
items_more st xs i x w p q total lt is reads e so_far =
    let rest = drop (i + 1) xs in
    let begun : items_on st p (drop i xs) ≡ items_on st p (x ∷ rest) =
    at_drop_more (items_on st p) xs i x lt ∙ ap (λ (y : Item'). items_on st p (y ∷ rest)) (sym is) in
    (ap (λ (o : Page). items_on st o rest) e ∙ sym (begun ∙ reads rest)) ∙ so_far

pub items_all : (st : Store) (xs : List Item') (i : ℕ) (p total : Page) → length xs ≤ i → items_on st p (drop i xs) ≡ total → p ≡ total
items_all st xs i p total le so_far = sym (at_drop_all (items_on st p) xs i le) ∙ so_far
