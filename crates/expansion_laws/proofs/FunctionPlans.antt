-- Bodies and functions, as derivations.
use Rattle.std.specs.Prelude.{◌≡◌, List, [], ◌∷◌, Option, Some, None}
use Rattle.std.proofs.Common.{refl}
use Rattle.lisp_base.specs.declared.values.SymId.{SymId}
use Rattle.lisp_base.specs.declared.values.Val.{Val}
use Rattle.lisp_base.specs.Tables.{Table, Object, made_fresh}
use Rattle.lisp_forms.specs.Conses.{elements}
use Rattle.declarations.specs.Bodies.{body_of}
use Rattle.declarations.specs.Declarations.{Declared, Reading, declared, bad_form, bad_type, bad_policy, read_declarations}
use Rattle.lambda_lists.specs.LambdaLists.{Default, LambdaList, lambda_list, KeyForms, key_forms}
use Rattle.expansion.specs.declared.kind.ExpandKind.TheVariants.{BadForm}
use Rattle.expansion.specs.Scopes.{Scope}
use Rattle.expansion.specs.Steps.{World, Step, and_then, ◌>>=◌, pure, refuse, expect, look}
use Rattle.expansion.specs.Bindings.{Contents, contents, declared_or, read_body, contents_of, with_table, with_stores, keyed_function, fresh_by, fresh_symbol, rest_or_fresh, keys_by, make_keys, with_keys, function_with, function_from, function_sketch}
use Rattle.expansion_laws.specs.Planned.{ReadBody, RestVariable, own_rest, fresh_rest, Shaped, without_keys, with_keys as shaped_with_keys, Sketched, function_read}
use Rattle.expansion_laws.proofs.Giving.{OnGives, weaker, found_gives}

-- ---- bodies

pub reading_gives : {B : Type 0} (Q : B → World → Type 0) (sc : Scope) (r : Reading) (w : World) (k : Declared → Step B) → ((d : Declared) → r ≡ declared d → OnGives Q (k d w)) → OnGives Q (and_then (declared_or sc r w) k)
unfolding declared_or pure refuse
reading_gives Q sc (declared d) w k f = f d refl
reading_gives Q sc bad_form w k f = tt
reading_gives Q sc bad_type w k f = tt
reading_gives Q sc bad_policy w k f = tt

contents_by : {B : Type 0} (Q : B → World → Type 0) (sc : Scope) (vs : List Val) (w : World) (k : Contents → Step B) → ((c : Contents) → ReadBody sc w vs c → OnGives Q (k c w)) → (r : Reading) → read_declarations w.heap w.table sc.policy (body_of w.heap vs).declarations ≡ r → OnGives Q (and_then (and_then (declared_or sc r w) (λ d. pure (contents (body_of w.heap vs).forms d))) k)
unfolding declared_or pure refuse
contents_by Q sc vs w k f (declared d) is = f (contents (body_of w.heap vs).forms d) (record { declarations = is; forms = refl })
contents_by Q sc vs w k f bad_form is = tt
contents_by Q sc vs w k f bad_type is = tt
contents_by Q sc vs w k f bad_policy is = tt

pub contents_give : {B : Type 0} (Q : B → World → Type 0) (sc : Scope) (vs : List Val) (w : World) (k : Contents → Step B) → ((c : Contents) → ReadBody sc w vs c → OnGives Q (k c w)) → OnGives Q (and_then (contents_of sc vs w) k)
unfolding contents_of read_body look ◌>>=◌
contents_give Q sc vs w k f = contents_by Q sc vs w k f (read_declarations w.heap w.table sc.policy (body_of w.heap vs).declarations) refl

-- ---- functions

fresh_gives : {B : Type 0} (Q : B → World → Type 0) (sc : Scope) (w : World) (k : SymId → Step B) → ((rest : SymId) (table : Table) → RestVariable w None rest table → OnGives Q (k rest (with_table table w))) → (made : Option (SymId × Table)) → made_fresh w.table ≡ made → OnGives Q (and_then (fresh_by sc made w) k)
unfolding fresh_by refuse
fresh_gives Q sc w k f None is = tt
fresh_gives Q sc w k f (Some made) is = f made.0 made.1 (fresh_rest made.0 made.1 is)

rest_gives : {B : Type 0} (Q : B → World → Type 0) (sc : Scope) (o : Option SymId) (w : World) (k : SymId → Step B) → ((rest : SymId) (table : Table) → RestVariable w o rest table → OnGives Q (k rest (with_table table w))) → OnGives Q (and_then (rest_or_fresh sc o w) k)
unfolding rest_or_fresh fresh_symbol pure
rest_gives Q sc None w k f = fresh_gives Q sc w k f (made_fresh w.table) refl
rest_gives Q sc (Some s) w k f = f s w.table (own_rest s)

keys_give : {B : Type 0} (Q : B → World → Type 0) (sc : Scope) (w : World) (k : KeyForms → Step B) (made : Option (KeyForms × Table × List Object)) → ((x : KeyForms) (table : Table) (heap : List Object) → made ≡ Some (x, table, heap) → OnGives Q (k x (with_stores table heap w))) → OnGives Q (and_then (keys_by sc made w) k)
unfolding keys_by refuse
keys_give Q sc w k None f = tt
keys_give Q sc w k (Some made) f = f made.0 made.1 made.2 refl

shaped : (sc : Scope) (l : LambdaList) (name : Option SymId) (c : Contents) (w : World) (keys : Option (List Default)) → l.keys ≡ keys → OnGives (Shaped w name l c) (with_keys sc l name c keys w)
unfolding with_keys make_keys pure ◌>>=◌
shaped sc l name c w None is = without_keys is
shaped sc l name c w (Some ks) is =
    rest_gives (Shaped w name l c) sc l.rest w (λ rest. make_keys sc rest ks >>= λ k. pure (keyed_function l rest name c k)) (λ rest fresh by.
    keys_give (Shaped w name l c) sc (with_table fresh w) (λ k. pure (keyed_function l rest name c k)) (key_forms rest ks fresh w.heap) (λ k table heap made.
    shaped_with_keys ks rest fresh k table heap is by made))

function_from_gives : (sc : Scope) (name : Option SymId) (w : World) (v : Val) (vs : List Val) → elements w.heap v ≡ Some vs → OnGives (Sketched sc name w v) (function_from sc name vs w)
unfolding function_from function_with expect refuse look ◌>>=◌
function_from_gives sc name w v [] is = tt
function_from_gives sc name w v (l ∷ vs) is =
    found_gives (Sketched sc name w v) BadForm sc (lambda_list w.heap w.table l) w (function_with sc name vs) (λ ll listed.
    contents_give (Sketched sc name w v) sc vs w (λ c. with_keys sc ll name c ll.keys) (λ c read.
    weaker (Shaped w name ll c) (Sketched sc name w v) (with_keys sc ll name c ll.keys w) (shaped sc ll name c w ll.keys refl) (λ f u by.
    function_read l vs ll c f u is listed read by)))

pub function_gives : (sc : Scope) (name : Option SymId) (w : World) (v : Val) → OnGives (Sketched sc name w v) (function_sketch sc name v w)
unfolding function_sketch expect look ◌>>=◌
function_gives sc name w v =
    found_gives (Sketched sc name w v) BadForm sc (elements w.heap v) w (function_from sc name) (λ vs is. function_from_gives sc name w v vs is)
