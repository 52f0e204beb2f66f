-- Sketches of bindings and of functions, whose parts are there.
use Rattle.std.specs.Prelude.{Bool, true, false, List, [], ◌∷◌, Option, Some, None, if◌then◌else◌}
use Rattle.lisp_base.specs.declared.values.SymId.{SymId}
use Rattle.lisp_base.specs.declared.values.Val.{Val}
use Rattle.lisp_base.specs.Tables.{Table, Object, made_fresh}
use Rattle.declarations.specs.Bodies.{Body}
use Rattle.declarations.specs.Declarations.{Typed, Declared, Reading, declared, bad_form, bad_type, bad_policy}
use Rattle.lambda_lists.specs.LambdaLists.{Default, LambdaList, KeyForms, key_forms}
use Rattle.expansion.specs.declared.kind.ExpandKind.TheVariants.{BadForm, BadType, BadPolicy, TooManySymbols}
use Rattle.expansion.specs.Scopes.{Scope, same_symbol}
use Rattle.expansion.specs.Steps.{World, ◌>>=◌, expect, look}
use Rattle.expansion.specs.Sketches.{Sketch}
use Rattle.expansion.specs.Bindings.{is_among, types_of, bound_by, undeclared, bound_before, others, Contents, declared_or, read_body, contents_of, initial, names, let_sketch, nested, let_in_order, optional_by, parameters_round, in_block, body_within, plain_function, keyed_function, with_stores, fresh_by, fresh_symbol, rest_or_fresh, keys_by, make_keys, with_keys, function_with, function_from, function_sketch}
use Rattle.expansion_laws.specs.There.{Stores, stores, stores_of, SymbolIsThere, IsThere, TypeIsThere, AreSound, Grown, TypedIsThere}
use Rattle.expansion_laws.proofs.ThereLists.{Each, no_more, one_more, Where, found_there, where_each, where_map, each_map, each_append, each_mapped, each_filter}
use Rattle.expansion_laws.proofs.ThereStores.{ValuesAreThere, values_stay, symbol_stays, typed_stays, elements_there}
use Rattle.expansion_laws.proofs.ThereReading.{DeclaredAreThere, declared_stay, WhereDeclared, is_declared, declarations_read, BodyIsThere, body_there, DefaultIsThere, NamedValueIsThere, LambdaListIsThere, lambda_list_there}
use Rattle.expansion_laws.proofs.ThereBuilding.{fresh_made, SymbolMade}
use Rattle.expansion_laws.proofs.ThereKeys.{defaults_stay, named_value_stays, KeyFormsAreThere, key_forms_made, KeyFormsMade}
use Rattle.expansion_laws.proofs.ThereSteps.{IsInOrder, Later, Safe, goes, pure_safe, look_safe, refuse_safe, expect_safe, then_safe}
use Rattle.expansion_laws.proofs.ThereSketches.{BinderIsThere, OptionalIsThere, SketchIsThere, a_form, a_choice, a_bind, a_block, a_within, FunctionIsThere, of_parts, a_body}

-- what a test of the world finds, or a refusal
pub found_safe : {A : Type 0} (P : Stores → A → Type 0) (sc : Scope) (f : World → Option A) {w : World} → IsInOrder w → Where (P (stores_of w)) (f w) →
    Safe w P ((look f >>= expect sc) w)
found_safe {A} P sc f o h = then_safe _ _ (look_safe {P = λ (s : Stores) (m : Option A). Where (P s) m} f o h) (λ m u l k. expect_safe sc m l.order k)

-- a result of changed stores
pub later_stores : {w : World} (s : Stores) → IsInOrder w → AreSound s → Grown (stores_of w) s → Later w (with_stores s.table s.heap w)
later_stores s o sound g = record { order = record { sound = sound; specials = each_map (symbol_stays g) o.specials; types = each_map (typed_stays g) o.types }; grown = g }

-- ---- declarations and bindings

module _ (s : Stores) where
  pub types_of_there : (x : SymId) {ds : List Typed} → Each (TypedIsThere s) ds → Each (TypeIsThere s) (types_of x ds)
  types_of_there x h = each_mapped (λ (d : Typed). d.spec) (λ d k. k.1) (each_filter (λ (d : Typed). same_symbol x d.variable) h)

  bound_by_there : (d : Declared) (x : SymId) → DeclaredAreThere s d → SymbolIsThere s x → BinderIsThere s (bound_by d x)
  bound_by_there d x h k = record { variable = k; types = types_of_there x h.types }

  bound_before_there : (later : List SymId) (d : Declared) (x : SymId) → DeclaredAreThere s d → SymbolIsThere s x → BinderIsThere s (bound_before later d x)
  bound_before_there later d x h k = by (is_among later x)
    where
      by : (b : Bool) → BinderIsThere s (if b then undeclared x else bound_by d x)
      by true = record { variable = k; types = no_more }
      by false = bound_by_there d x h k

  pub others_there : (bound : List SymId) (d : Declared) → DeclaredAreThere s d → DeclaredAreThere s (others bound d)
  others_there bound d h = record { types = each_filter _ h.types; specials = each_filter _ h.specials }

  pub let_there : (d : Declared) (bs : List (SymId × Val)) (x : Sketch) → DeclaredAreThere s d → Each (NamedValueIsThere s) bs → SketchIsThere s x →
      SketchIsThere s (let_sketch d bs x)
  unfolding let_sketch
  let_there d bs x h k l =
      a_bind (each_mapped (λ (p : SymId × Val). initial (bound_by d p.0) p.1) (λ p i. record { binder = bound_by_there d p.0 h i.0; value = i.1 }) k) (a_within (others_there (names bs) d h) l)

  nested_there : (d : Declared) (bs : List (SymId × Val)) (x : Sketch) → DeclaredAreThere s d → Each (NamedValueIsThere s) bs → SketchIsThere s x → SketchIsThere s (nested d bs x)
  nested_there d [] x h no_more l = l
  nested_there d (p ∷ bs) x h (one_more k ks) l =
      a_bind (one_more (record { binder = bound_before_there (names bs) d p.0 h k.0; value = k.1 }) no_more) (nested_there d bs x h ks l)

  pub let_in_order_there : (d : Declared) (bs : List (SymId × Val)) (x : Sketch) → DeclaredAreThere s d → Each (NamedValueIsThere s) bs → SketchIsThere s x →
      SketchIsThere s (let_in_order d bs x)
  unfolding let_in_order
  let_in_order_there d [] x h k l = a_bind no_more l
  let_in_order_there d (p ∷ bs) x h k l = nested_there d (p ∷ bs) x h k l

-- ---- bodies

pub record ContentsAreThere (s : Stores) (c : Contents) : Type 0 where
  pub declared : DeclaredAreThere s c.declared
  pub forms : ValuesAreThere s c.forms

pub contents_stay : {s t : Stores} (g : Grown s t) (c : Contents) → ContentsAreThere s c → ContentsAreThere t c
contents_stay g c h = record { declared = declared_stay g c.declared h.declared; forms = values_stay g h.forms }

pub declared_safe : (sc : Scope) (r : Reading) {w : World} → IsInOrder w → WhereDeclared (stores_of w) r → Safe w DeclaredAreThere (declared_or sc r w)
unfolding declared_or
declared_safe sc (declared d) o (is_declared h) = pure_safe d o h
declared_safe sc bad_form o h = refuse_safe BadForm sc
declared_safe sc bad_type o h = refuse_safe BadType sc
declared_safe sc bad_policy o h = refuse_safe BadPolicy sc

body_safe : (sc : Scope) (b : Body) {w : World} → IsInOrder w → BodyIsThere (stores_of w) b → Safe w ContentsAreThere (read_body sc b w)
unfolding read_body
body_safe sc b {w} o h =
    then_safe _ _
    (then_safe _ _ (look_safe {P = WhereDeclared} _ o (declarations_read (stores_of w) sc.policy b.declarations h.declarations)) (λ r u l k. declared_safe sc r l.order k))
    (λ d u l k. pure_safe _ l.order (record { declared = k; forms = values_stay l.grown h.forms }))

pub contents_safe : (sc : Scope) (vs : List Val) {w : World} → IsInOrder w → ValuesAreThere (stores_of w) vs → Safe w ContentsAreThere (contents_of sc vs w)
unfolding contents_of
contents_safe sc vs {w} o h = then_safe _ _ (look_safe {P = BodyIsThere} _ o (body_there (stores_of w) vs h)) (λ b u l k. body_safe sc b l.order k)

-- ---- functions

module _ (s : Stores) where
  optional_there : (later : List SymId) (d : Declared) (o : Default) → DeclaredAreThere s d → DefaultIsThere s o → OptionalIsThere s (optional_by later d o)
  optional_there later d o h k = record {
    binder = bound_before_there s later d o.variable h k.variable;
    default = k.value;
    supplied = where_map _ k.supplied (λ x i. bound_before_there s later d x h i);
  }

  round_there : (l : LambdaList) (rest : Option SymId) (later : List SymId) (d : Declared) (x : Sketch) → DeclaredAreThere s d → LambdaListIsThere s l →
      Where (SymbolIsThere s) rest → SketchIsThere s x → FunctionIsThere s (parameters_round l rest later d x)
  round_there l rest later d x h k r i =
      of_parts (each_mapped (bound_before later d) (λ y j. bound_before_there s later d y h j) k.required)
      (each_mapped (optional_by later d) (λ y j. optional_there later d y h j) k.optional)
      (where_map _ r (λ y j. bound_before_there s later d y h j)) i

  in_block_there : (name : Option SymId) (x : Sketch) → Where (SymbolIsThere s) name → SketchIsThere s x → SketchIsThere s (in_block name x)
  in_block_there None x n h = h
  in_block_there (Some y) x (found_there k) h = a_block k h

  body_within_there : AreSound s → (bound : List SymId) (name : Option SymId) (c : Contents) → Where (SymbolIsThere s) name → ContentsAreThere s c →
      SketchIsThere s (body_within bound name c)
  body_within_there sound bound name c n h = a_within (others_there s bound c.declared h.declared) (in_block_there name _ n (a_body c.forms sound h.forms))

  plain_there : AreSound s → (l : LambdaList) (name : Option SymId) (c : Contents) → LambdaListIsThere s l → Where (SymbolIsThere s) name → ContentsAreThere s c →
      FunctionIsThere s (plain_function l name c)
  unfolding plain_function
  plain_there sound l name c k n h =
      round_there l l.rest _ c.declared _ h.declared k k.rest (nested_there s c.declared l.auxiliary _ h.declared k.auxiliary (body_within_there sound _ name c n h))

  keyed_there : AreSound s → (l : LambdaList) (rest : SymId) (name : Option SymId) (c : Contents) (f : KeyForms) → LambdaListIsThere s l → SymbolIsThere s rest →
      Where (SymbolIsThere s) name → ContentsAreThere s c → KeyFormsAreThere s f →
      FunctionIsThere s (keyed_function l rest name c f)
  unfolding keyed_function
  keyed_there sound l rest name c f k r n h i =
      round_there l (Some rest) _ c.declared _ h.declared k (found_there r)
      (a_choice (a_form i.test) (let_in_order_there s c.declared _ _ h.declared (each_append i.bindings k.auxiliary) (body_within_there sound _ name c n h)) (a_form i.refusal))

pub lambda_list_stays : {s t : Stores} (g : Grown s t) (l : LambdaList) → LambdaListIsThere s l → LambdaListIsThere t l
lambda_list_stays g l h = record {
  required = each_map (symbol_stays g) h.required;
  optional = defaults_stay g h.optional;
  rest = where_each h.rest (symbol_stays g);
  keys = where_each h.keys (λ ds k. defaults_stay g k);
  auxiliary = each_map (named_value_stays g) h.auxiliary;
}

fresh_by_safe : (sc : Scope) (m : Option (SymId × Table)) {w : World} → IsInOrder w → Where (SymbolMade w.table w.heap) m → Safe w SymbolIsThere (fresh_by sc m w)
unfolding fresh_by
fresh_by_safe sc None o h = refuse_safe TooManySymbols sc
fresh_by_safe sc (Some made) {w} o (found_there k) = goes (later_stores (stores made.1 w.heap) o k.sound k.grown) k.there

fresh_safe : (sc : Scope) {w : World} → IsInOrder w → Safe w SymbolIsThere (fresh_symbol sc w)
unfolding fresh_symbol
fresh_safe sc {w} o = fresh_by_safe sc (made_fresh w.table) o (fresh_made w.table w.heap o.sound)

rest_safe : (sc : Scope) (rest : Option SymId) {w : World} → IsInOrder w → Where (SymbolIsThere (stores_of w)) rest → Safe w SymbolIsThere (rest_or_fresh sc rest w)
unfolding rest_or_fresh
rest_safe sc None o h = fresh_safe sc o
rest_safe sc (Some x) o (found_there h) = pure_safe x o h

keys_by_safe : (sc : Scope) (m : Option (KeyForms × Table × List Object)) {w : World} → IsInOrder w → Where (KeyFormsMade w.table w.heap) m →
    Safe w KeyFormsAreThere (keys_by sc m w)
unfolding keys_by
keys_by_safe sc None o h = refuse_safe TooManySymbols sc
keys_by_safe sc (Some made) {w} o (found_there k) = goes (later_stores (stores made.1 made.2) o k.sound k.grown) k.there

keys_safe : (sc : Scope) (rest : SymId) (ds : List Default) {w : World} → IsInOrder w → SymbolIsThere (stores_of w) rest → Each (DefaultIsThere (stores_of w)) ds →
    Safe w KeyFormsAreThere (make_keys sc rest ds w)
unfolding make_keys
keys_safe sc rest ds {w} o h k = keys_by_safe sc (key_forms rest ds w.table w.heap) o (key_forms_made rest ds w.table w.heap o.sound h k)

with_keys_safe : (sc : Scope) (l : LambdaList) (name : Option SymId) (c : Contents) (keys : Option (List Default)) {w : World} → IsInOrder w →
    LambdaListIsThere (stores_of w) l → Where (SymbolIsThere (stores_of w)) name → ContentsAreThere (stores_of w) c → Where (Each (DefaultIsThere (stores_of w))) keys →
    Safe w FunctionIsThere (with_keys sc l name c keys w)
unfolding with_keys
with_keys_safe sc l name c None {w} o k n h i = pure_safe _ o (plain_there (stores_of w) o.sound l name c k n h)
with_keys_safe sc l name c (Some ds) o k n h (found_there i) =
    then_safe _ _ (rest_safe sc l.rest o k.rest) (λ rest u a r.
    then_safe _ _ (keys_safe sc rest ds a.order r (defaults_stay a.grown i)) (λ f x b j.
    pure_safe _ b.order (keyed_there (stores_of x) b.order.sound l rest name c f
    (lambda_list_stays b.grown l (lambda_list_stays a.grown l k)) (symbol_stays b.grown rest r) (where_each (where_each n (symbol_stays a.grown)) (symbol_stays b.grown)) (contents_stay b.grown c (contents_stay a.grown c h)) j)))

with_list_safe : (sc : Scope) (name : Option SymId) (vs : List Val) (l : LambdaList) {w : World} → IsInOrder w → Where (SymbolIsThere (stores_of w)) name →
    ValuesAreThere (stores_of w) vs → LambdaListIsThere (stores_of w) l → Safe w FunctionIsThere (function_with sc name vs l w)
unfolding function_with
with_list_safe sc name vs l o n h k =
    then_safe _ _ (contents_safe sc vs o h) (λ c u a i. with_keys_safe sc l name c l.keys a.order (lambda_list_stays a.grown l k) (where_each n (symbol_stays a.grown)) i (where_each k.keys (λ ds j. defaults_stay a.grown j)))

from_list_safe : (sc : Scope) (name : Option SymId) (vs : List Val) {w : World} → IsInOrder w → Where (SymbolIsThere (stores_of w)) name →
    ValuesAreThere (stores_of w) vs → Safe w FunctionIsThere (function_from sc name vs w)
unfolding function_from
from_list_safe sc name [] o n h = refuse_safe BadForm sc
from_list_safe sc name (l ∷ vs) {w} o n (one_more h hs) =
    then_safe _ _ (found_safe LambdaListIsThere sc _ o (lambda_list_there (stores_of w) o.sound l h))
    (λ x u a k. with_list_safe sc name vs x a.order (where_each n (symbol_stays a.grown)) (values_stay a.grown hs) k)

pub function_safe : (sc : Scope) (name : Option SymId) (v : Val) {w : World} → IsInOrder w → IsThere (stores_of w) v → Where (SymbolIsThere (stores_of w)) name →
    Safe w FunctionIsThere (function_sketch sc name v w)
unfolding function_sketch
function_safe sc name v {w} o i n =
    then_safe _ _ (found_safe ValuesAreThere sc _ o (elements_there (stores_of w) v i)) (λ vs u a k. from_list_safe sc name vs a.order (where_each n (symbol_stays a.grown)) k)
