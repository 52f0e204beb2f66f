-- Lambda lists, and the forms that &KEY parameters stand for (ANSI Common Lisp 3.4.1; the forms are this project's own).
use Rattle.std.specs.Prelude.{ℕ, ◌+◌, Bool, true, false, not, ◌&&◌, nat_lt, List, [], ◌∷◌, ◌++◌, codes, Option, Some, None, if◌then◌else◌, take, drop, map, slice_get}
use Rattle.std.specs.Option.{option_map, option_and_then}
use Rattle.std.specs.List.{list_any, position}
use Rattle.std.specs.Str.{bytes_eq}
use Rattle.lisp_base.specs.declared.values.SymId.{SymId}
use Rattle.lisp_base.specs.declared.values.Val.{Val}
use Rattle.lisp_base.specs.declared.values.Val.TheVariants.{Int, Char, Sym, Ref}
use Rattle.lisp_base.specs.declared.values.SymKind.{SymKind}
use Rattle.lisp_base.specs.declared.values.SymKind.TheVariants as kind
use Rattle.lisp_base.specs.declared.base_symbols.TheConstants as at
use Rattle.lisp_base.specs.Sort.{nil, number_of}
use Rattle.lisp_base.specs.Membership.{is_symbol, is_symbol_number}
use Rattle.lisp_base.specs.Tables.{Symbol, Table, Object, interned}
use Rattle.lisp_forms.specs.Conses.{elements}
use Rattle.lisp_forms.specs.Trees.{Tree}
use Rattle.lisp_forms.specs.Building.{built}
use Rattle.lambda_lists.specs.declared.parameters.Section.{Section}
use Rattle.lambda_lists.specs.declared.parameters.Section.TheVariants.{Optional, Key}
use Rattle.lambda_lists.specs.Trees.{test_tree, value_tree, supplied_tree, refusal_tree}

-- a parameter that may be left out: its variable, the form of its value then, and the variable that tells whether it was there
pub record Default : Type 0 where
  pub variable : SymId
  pub value : Val
  pub supplied : Option SymId

abbrev pub make_default : SymId → Val → Option SymId → Default
make_default variable value supplied = record { variable = variable; value = value; supplied = supplied }

-- what a lambda list says; the keys are none where there is no &KEY
pub record LambdaList : Type 0 where
  pub required : List SymId
  pub optional : List Default
  pub rest : Option SymId
  pub keys : Option (List Default)
  pub auxiliary : List (SymId × Val)

-- ---- variables

-- the words of lambda lists, also those that this language leaves out
abbrev pub lambda_list_words : List (List ℕ)
lambda_list_words =
    codes "&OPTIONAL" ∷ codes "&REST" ∷ codes "&KEY" ∷ codes "&AUX" ∷ codes "&BODY" ∷ codes "&WHOLE" ∷ codes "&ENVIRONMENT" ∷ codes "&ALLOW-OTHER-KEYS" ∷ []

abbrev pub is_word : List ℕ → Bool
is_word name = list_any (bytes_eq name) lambda_list_words

abbrev pub is_free_name : SymKind → List ℕ → Bool
is_free_name kind.Plain name = not (is_word name)
is_free_name kind.Keyword name = false
is_free_name kind.Fresh name = true

abbrev pub is_free : Option Symbol → Bool
is_free None = false
is_free (Some s) = is_free_name s.kind s.name

-- a symbol of the table that is not NIL, not T, no keyword and no word of lambda lists
abbrev pub can_be_bound : Table → SymId → Bool
can_be_bound table s = nat_lt 1 (number_of s) && is_free (slice_get table.symbols (number_of s))

abbrev pub variable : Table → Val → Option SymId
variable table (Int z) = None
variable table (Char c) = None
variable table (Sym s) = if can_be_bound table s then Some s else None
variable table (Ref o) = None

-- ---- parameters

-- (V), (V E), (V E S)
abbrev pub default_with : Table → List Val → Option Default
default_with table [] = None
default_with table (v ∷ []) = option_map (λ x. make_default x nil None) (variable table v)
default_with table (v ∷ e ∷ []) = option_map (λ x. make_default x e None) (variable table v)
default_with table (v ∷ e ∷ s ∷ []) =
    option_and_then (λ x. option_map (λ y. make_default x e (Some y)) (variable table s)) (variable table v)
default_with table (v ∷ e ∷ s ∷ x ∷ xs) = None

-- after &KEY a list has two elements at least
abbrev pub listed_default : Section → Table → List Val → Option Default
listed_default Optional table vs = default_with table vs
listed_default Key table [] = None
listed_default Key table (v ∷ []) = None
listed_default Key table (v ∷ e ∷ vs) = default_with table (v ∷ e ∷ vs)

-- V, or such a list
abbrev pub default_at : Section → List Object → Table → Val → Option Default
default_at section heap table v =
    if is_symbol v then default_with table (v ∷ []) else option_and_then (listed_default section table) (elements heap v)

-- (V), (V E)
abbrev pub auxiliary_with : Table → List Val → Option (SymId × Val)
auxiliary_with table [] = None
auxiliary_with table (v ∷ []) = option_map (λ x. (x, nil)) (variable table v)
auxiliary_with table (v ∷ e ∷ []) = option_map (λ x. (x, e)) (variable table v)
auxiliary_with table (v ∷ e ∷ x ∷ xs) = None

-- V, or such a list
abbrev pub auxiliary_at : List Object → Table → Val → Option (SymId × Val)
auxiliary_at heap table v =
    if is_symbol v then auxiliary_with table (v ∷ []) else option_and_then (auxiliary_with table) (elements heap v)

-- ---- sections

-- what each of several gives, where each gives something
abbrev pub each : {A B : Type 0} → (A → Option B) → List A → Option (List B)
each f [] = Some []
each f (x ∷ xs) = option_and_then (λ y. option_map (λ ys. y ∷ ys) (each f xs)) (f x)

-- of a section that may be absent
abbrev pub each_in : {A B : Type 0} → (A → Option B) → Option (List A) → Option (List B)
each_in f None = Some []
each_in f (Some xs) = each f xs

-- of &KEY's, where its absence is told
abbrev pub keys_in : List Object → Table → Option (List Val) → Option (Option (List Default))
keys_in heap table None = Some None
keys_in heap table (Some vs) = option_map Some (each (default_at Key heap table) vs)

-- of &REST's, where it has one variable
abbrev pub rest_in : Table → Option (List Val) → Option (Option SymId)
rest_in table None = Some None
rest_in table (Some []) = None
rest_in table (Some (v ∷ [])) = option_map Some (variable table v)
rest_in table (Some (v ∷ x ∷ xs)) = None

-- what stands before a word and what after it, where it stands first
abbrev pub cut_at : Option ℕ → List Val → List Val × Option (List Val)
cut_at None vs = (vs, None)
cut_at (Some n) vs = (take n vs, Some (drop (n + 1) vs))

abbrev pub cut : SymId → List Val → List Val × Option (List Val)
cut word vs = cut_at (position (is_symbol_number (number_of word)) vs) vs

pub record Sections : Type 0 where
  pub required : List Val
  pub optional : Option (List Val)
  pub rest : Option (List Val)
  pub keys : Option (List Val)
  pub auxiliary : Option (List Val)

-- the words are looked for from the last on; one that stands twice or out of order is left in a section, where it is no variable
abbrev pub sections : List Val → Sections
sections vs =
    let before_auxiliary : List Val × Option (List Val) = cut at.LAMBDA_LIST_AUX vs in
    let before_keys : List Val × Option (List Val) = cut at.LAMBDA_LIST_KEY before_auxiliary.0 in
    let before_rest : List Val × Option (List Val) = cut at.LAMBDA_LIST_REST before_keys.0 in
    let before_optional : List Val × Option (List Val) = cut at.LAMBDA_LIST_OPTIONAL before_rest.0 in
    record { required = before_optional.0; optional = before_optional.1; rest = before_rest.1; keys = before_keys.1; auxiliary = before_auxiliary.1 }

-- ---- lambda lists

abbrev pub make_list : List SymId → List Default → Option SymId → Option (List Default) → List (SymId × Val) → LambdaList
make_list required optional rest keys auxiliary =
    record { required = required; optional = optional; rest = rest; keys = keys; auxiliary = auxiliary }

abbrev pub list_of_sections : List Object → Table → Sections → Option LambdaList
list_of_sections heap table s =
    option_and_then (λ required.
    option_and_then (λ optional.
    option_and_then (λ rest.
    option_and_then (λ keys.
    option_map (λ auxiliary. make_list required optional rest keys auxiliary)
    (each_in (auxiliary_at heap table) s.auxiliary))
    (keys_in heap table s.keys))
    (rest_in table s.rest))
    (each_in (default_at Optional heap table) s.optional))
    (each (variable table) s.required)

-- none exactly outside the syntax
unfoldable pub lambda_list : List Object → Table → Val → Option LambdaList
lambda_list heap table v = option_and_then (λ vs. list_of_sections heap table (sections vs)) (elements heap v)

-- ---- the forms of &KEY parameters

-- whether the list of arguments holds keys of the list alone, and an even number of elements; the bindings in their order; the form else
pub record KeyForms : Type 0 where
  pub test : Val
  pub bindings : List (SymId × Val)
  pub refusal : Val

-- a parameter and its keyword
pub record Keyed : Type 0 where
  pub keyword : SymId
  pub parameter : Default

abbrev pub make_keyed : SymId → Default → Keyed
make_keyed keyword parameter = record { keyword = keyword; parameter = parameter }

abbrev pub name_of : Option Symbol → List ℕ
name_of None = []
name_of (Some s) = s.name

-- the keyword of a variable's name
abbrev pub keyword_of : SymId → Table → Option (SymId × Table)
keyword_of s table = interned (name_of (slice_get table.symbols (number_of s))) kind.Keyword table

abbrev pub after_first : Keyed → List Keyed × Table → List Keyed × Table
after_first k others = (k ∷ others.0, others.1)

-- the keywords of all, from left to right
abbrev pub keyed : List Default → Table → Option (List Keyed × Table)
keyed [] table = Some ([], table)
keyed (d ∷ ds) table =
    option_and_then (λ k. option_map (after_first (make_keyed k.0 d)) (keyed ds k.1)) (keyword_of d.variable table)

-- the form of a tree
abbrev pub made : Tree → List Object → Val × List Object
made x heap = built [] nil x heap

-- one more binding
abbrev pub bound : SymId → Tree → List (SymId × Val) × List Object → List (SymId × Val) × List Object
bound v x before = (before.0 ++ (v, (made x before.1).0) ∷ [], (made x before.1).1)

abbrev pub bound_supplied : Option SymId → Tree → List (SymId × Val) × List Object → List (SymId × Val) × List Object
bound_supplied None x before = before
bound_supplied (Some s) x before = bound s x before

-- the binding of a parameter, and after it that of its supplied variable
abbrev pub bound_key : SymId → Keyed → List (SymId × Val) × List Object → List (SymId × Val) × List Object
bound_key g k before =
    bound_supplied k.parameter.supplied (supplied_tree g k.keyword)
    (bound k.parameter.variable (value_tree g k.keyword k.parameter.value) before)

abbrev pub bound_keys : SymId → List Keyed → List (SymId × Val) × List Object → List (SymId × Val) × List Object
bound_keys g [] before = before
bound_keys g (k ∷ ks) before = bound_keys g ks (bound_key g k before)

-- the forms in the order in which they are made
abbrev pub forms_from : SymId → Val → List (SymId × Val) × List Object → KeyForms × List Object
forms_from g test bindings =
    (record { test = test; bindings = bindings.0; refusal = (made (refusal_tree g) bindings.1).0 }, (made (refusal_tree g) bindings.1).1)

abbrev pub forms_after : SymId → List Keyed → Val × List Object → KeyForms × List Object
forms_after g ks test = forms_from g test.0 (bound_keys g ks ([], test.1))

abbrev pub keyword_in : Keyed → SymId
keyword_in k = k.keyword

unfoldable pub made_forms : SymId → List Keyed → List Object → KeyForms × List Object
made_forms g ks heap = forms_after g ks (made (test_tree g (map keyword_in ks)) heap)

abbrev pub with_table : Table → KeyForms × List Object → KeyForms × Table × List Object
with_table table forms = (forms.0, table, forms.1)

-- with the rest variable; none exactly where a keyword has no room in the table
unfoldable pub key_forms : (rest : SymId) → List Default → Table → List Object → Option (KeyForms × Table × List Object)
key_forms rest ds table heap = option_map (λ k. with_table k.1 (made_forms rest k.0 heap)) (keyed ds table)
