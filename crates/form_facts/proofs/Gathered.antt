-- What the parts of a form tell is what its facts are read from.
use Rattle.std.specs.Prelude.{◌≡◌, refl, ℕ, Bool, true, false, if◌then◌else◌, ◌==◌, List, [], ◌∷◌, Option, Some, flat_map, map}
use Rattle.std.proofs.Common.{ap, sym, ◌∙◌, append-nil}
use Rattle.std.proofs.lemmas.List.Concat.{flat_map_single}
use Rattle.core_form.specs.Tree.{Core, SetLocal, Let, Primitive, Go, Cores, Lambda}
use Rattle.core_form.specs.Arithmetic.{arithmetic}
use Rattle.core_form.specs.Facts.{FunctionText, TagText, lookup, has_number, no_function, no_node, one_function, at_nodes, functions_in, parameters_in, let_parameters, function_parameters, binding_parameters, parameters_of, variables_read, variables_set, extents_left, tagbody_left, taken_as_words, variable_under, variables_under}
use Rattle.closed_copies.specs.Table.{as_list}
use Rattle.closed_copies.proofs.Carried.{carried}
use Rattle.closed_copies.proofs.Told.{pairs}
use Rattle.form_facts.specs.Parts.{Part, computes, node_parts, function_parts, parts, read_by, set_by, left_by, bound_by, made_by, taken_by}
use Rattle.form_facts.specs.Words.{taken_in}

-- what operands tell, where those of an arithmetic primitive tell this
told : {B : Type 0} (f : Part → List B) (es : Cores) (bs : List B) (b : Bool) → f (computes es) ≡ bs → flat_map f (if b then computes es ∷ [] else []) ≡ (if b then bs else [])
told f es bs true h = append-nil (f (computes es)) ∙ h
told f es bs false h = refl

untold : {B : Type 0} (f : Part → List B) (es : Cores) (b : Bool) → f (computes es) ≡ [] → flat_map f (if b then computes es ∷ [] else []) ≡ []
untold f es true h = append-nil (f (computes es)) ∙ h
untold f es false h = refl

-- ---- reads and changes

read_at : (e : Core) → flat_map read_by (node_parts e) ≡ variables_read e
read_at (Primitive p q es) = untold read_by es (arithmetic q) refl
read_at _ = refl

pub reads_are : (e : Core) → flat_map read_by (parts e) ≡ at_nodes variables_read e
reads_are e = carried read_by node_parts function_parts variables_read no_function (record { nodes = read_at; functions = λ t. refl }) e

set_at : (e : Core) → flat_map set_by (node_parts e) ≡ variables_set e
set_at (Primitive p q es) = untold set_by es (arithmetic q) refl
set_at _ = refl

pub sets_are : (e : Core) → flat_map set_by (parts e) ≡ at_nodes variables_set e
sets_are e = carried set_by node_parts function_parts variables_set no_function (record { nodes = set_at; functions = λ t. refl }) e

left_or : (b : Bool) (x : TagText) (o : Option ℕ) (q : Option TagText) → as_list o ≡ tagbody_left q → as_list (if b then Some x.tagbody else o) ≡ tagbody_left (if b then Some x else q)
left_or true x o q h = refl
left_or false x o q h = h

left_is : (n : ℕ) (ts : List (ℕ × TagText)) → as_list (lookup n (pairs ts)) ≡ tagbody_left (lookup n ts)
left_is n [] = refl
left_is n (t ∷ ts) = left_or (n == t.0) t.1 (lookup n (pairs ts)) (lookup n ts) (left_is n ts)

left_at : (tags : List (ℕ × TagText)) (e : Core) → flat_map (left_by (pairs tags)) (node_parts e) ≡ extents_left tags e
left_at tags (Primitive p q es) = untold (left_by (pairs tags)) es (arithmetic q) refl
left_at tags (Go p t) = append-nil (as_list (lookup t (pairs tags))) ∙ left_is t tags
left_at tags _ = refl

pub left_are : (tags : List (ℕ × TagText)) (e : Core) → flat_map (left_by (pairs tags)) (parts e) ≡ at_nodes (extents_left tags) e
left_are tags e = carried (left_by (pairs tags)) node_parts function_parts (extents_left tags) no_function (record { nodes = left_at tags; functions = λ t. refl }) e

-- ---- variables

bound_at : (e : Core) → flat_map bound_by (node_parts e) ≡ let_parameters e
bound_at (Primitive p q es) = untold bound_by es (arithmetic q) refl
bound_at (Let p bs e) = append-nil (binding_parameters bs)
bound_at _ = refl

pub bound_are : (e : Core) → flat_map bound_by (parts e) ≡ parameters_in e
bound_are e =
    carried bound_by node_parts function_parts let_parameters function_parameters (record { nodes = bound_at; functions = λ t. append-nil (parameters_of t.lambda) }) e

taken_at : (words : List ℕ) (e : Core) → flat_map (taken_by words) (node_parts e) ≡ taken_as_words words e
taken_at words (Primitive p q es) = told (taken_by words) es (variables_under es) (arithmetic q) refl
taken_at words (SetLocal p x e) = append-nil (if has_number x words then variable_under e else [])
taken_at words _ = refl

pub taken_are : (words : List ℕ) (e : Core) → taken_in words (parts e) ≡ at_nodes (taken_as_words words) e
taken_are words e =
    carried (taken_by words) node_parts function_parts (taken_as_words words) no_function (record { nodes = taken_at words; functions = λ t. refl }) e

-- ---- functions

abbrev pub of_made : {B : Type 0} → (Lambda → B) → Part → List B
of_made f p = map f (made_by p)

abbrev one_of : {B : Type 0} → (FunctionText → B) → FunctionText → List B
one_of g t = g t ∷ []

made_at : {B : Type 0} (f : Lambda → B) (e : Core) → flat_map (of_made f) (node_parts e) ≡ []
made_at f (Primitive p q es) = untold (of_made f) es (arithmetic q) refl
made_at f _ = refl

-- what each function gives, by its lambda alone, is what the parts give
pub made_are : {B : Type 0} (f : Lambda → B) (g : FunctionText → B) → ((t : FunctionText) → f t.lambda ≡ g t) → (e : Core) → flat_map (of_made f) (parts e) ≡ map g (functions_in e)
made_are {B} f g same e =
    carried (of_made f) node_parts function_parts no_node (one_of g) (record { nodes = made_at f; functions = λ t. ap (λ (b : B). b ∷ []) (same t) }) e
    ∙ sym (carried (one_of g) no_node one_function no_node (one_of g) (record { nodes = λ c. refl; functions = λ t. refl }) e)
    ∙ flat_map_single g (functions_in e)
