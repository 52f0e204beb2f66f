-- What is read of forms that are there is there: bodies, declarations and lambda lists.
use Rattle.std.specs.Prelude.{ℕ, ◌+◌, Bool, true, false, ◌||◌, List, [], ◌∷◌, Option, Some, None, if◌then◌else◌}
use Rattle.std.specs.List.{position}
use Rattle.std.specs.Option.{option_and_then}
use Rattle.lisp_base.specs.declared.values.Val.{Val}
use Rattle.lisp_base.specs.declared.values.Val.TheVariants.{Int, Char, Sym, Ref}
use Rattle.lisp_base.specs.declared.values.SymId.{SymId}
use Rattle.lisp_base.specs.declared.base_symbols.TheConstants as at
use Rattle.lisp_base.specs.Sort.{number_of}
use Rattle.lisp_base.specs.Spec.{Spec}
use Rattle.lisp_base.specs.Membership.{is_symbol, is_symbol_number}
use Rattle.lisp_forms.specs.Conses.{cons_at, elements}
use Rattle.type_spec.specs.Parsing.{specifier}
use Rattle.declarations.specs.declared.policy.Policy.{Policy}
use Rattle.declarations.specs.Bodies as bodies
use Rattle.declarations.specs.Bodies.{Body, body_of}
use Rattle.declarations.specs.Policies.{is_same, setting_of, is_refused}
use Rattle.declarations.specs.Declarations.{Declared, Reading, declared, bad_form, bad_type, bad_policy, and_then, read_each, add_type, add_types, add_special, with_setting, set_quality, subject_named, typing, by_subject, read_parts, if_list, read_specifier, read_list, read_rest, read_declaration, nothing, tested, read_declarations, read_specifiers}
use Rattle.lambda_lists.specs.LambdaLists.{Default, LambdaList, can_be_bound, variable, default_with, auxiliary_with, auxiliary_at, each, each_in, keys_in, rest_in, cut_at, cut, Sections, sections, list_of_sections, lambda_list}
use Rattle.expansion_laws.specs.There.{Stores, SymbolIsThere, IsThere, TypeIsThere, AreSound, Grown, TypedIsThere}
use Rattle.expansion_laws.proofs.ThereLists.{Each, no_more, one_more, Where, nothing_there, found_there, where_then, where_map, where_if, each_map, each_last, each_take, each_drop}
use Rattle.expansion_laws.proofs.ThereStores.{PairIsThere, ValuesAreThere, typed_stays, symbol_stays, symbol_of_there, nil_there, cons_there, elements_there}
use Rattle.expansion_laws.proofs.ThereTypes.{specifier_lawful}

-- ---- declarations

-- types and special variables that are there
pub record DeclaredAreThere (s : Stores) (d : Declared) : Type 0 where
  pub types : Each (TypedIsThere s) d.types
  pub specials : Each (SymbolIsThere s) d.specials

pub declared_stay : {s t : Stores} (g : Grown s t) (d : Declared) → DeclaredAreThere s d → DeclaredAreThere t d
declared_stay g d h = record { types = each_map (typed_stays g) h.types; specials = each_map (symbol_stays g) h.specials }

-- where something is declared, it is there
pub data WhereDeclared (s : Stores) : Reading → Type 0 where
  is_declared : {d : Declared} → DeclaredAreThere s d → WhereDeclared s (declared d)
  no_form : WhereDeclared s bad_form
  no_type : WhereDeclared s bad_type
  no_policy : WhereDeclared s bad_policy

read_then : {s : Stores} {r : Reading} (f : Declared → Reading) → WhereDeclared s r → ((d : Declared) → DeclaredAreThere s d → WhereDeclared s (f d)) →
    WhereDeclared s (and_then f r)
read_then f (is_declared h) k = k _ h
read_then f no_form k = no_form
read_then f no_type k = no_type
read_then f no_policy k = no_policy

each_read :
    {s : Stores} (f : Declared → Val → Reading) → ((d : Declared) (v : Val) → DeclaredAreThere s d → IsThere s v → WhereDeclared s (f d v)) →
    (d : Declared) (vs : List Val) → DeclaredAreThere s d → ValuesAreThere s vs → WhereDeclared s (read_each f d vs)
each_read f k d [] h no_more = is_declared h
each_read f k d (v ∷ vs) h (one_more there others) = read_then _ (k d v h there) (λ e i. each_read f k e vs i others)

module _ (s : Stores) where
  type_added : (t : Spec) → TypeIsThere s t → (d : Declared) (v : Val) → DeclaredAreThere s d → IsThere s v → WhereDeclared s (add_type t d v)
  type_added t k d (Int z) h i = no_form
  type_added t k d (Char c) h i = no_form
  type_added t k d (Sym x) h i = is_declared (record { types = each_last _ h.types (symbol_of_there x i, k); specials = h.specials })
  type_added t k d (Ref o) h i = no_form

  types_added : (d : Declared) (vs : List Val) (found : Option Spec) → DeclaredAreThere s d → ValuesAreThere s vs → Where (TypeIsThere s) found →
      WhereDeclared s (add_types d vs found)
  types_added d vs None h i w = no_type
  types_added d vs (Some t) h i (found_there k) = each_read (add_type t) (type_added t k) d vs h i

  special_added : (d : Declared) (v : Val) → DeclaredAreThere s d → IsThere s v → WhereDeclared s (add_special d v)
  special_added d (Int z) h i = no_form
  special_added d (Char c) h i = no_form
  special_added d (Sym x) h i = is_declared (record { types = h.types; specials = each_last x h.specials (symbol_of_there x i) })
  special_added d (Ref o) h i = no_form

  setting_added : (d : Declared) (o : _) → DeclaredAreThere s d → WhereDeclared s (with_setting d o)
  setting_added d None h = no_form
  setting_added d (Some x) h = is_declared (record { types = h.types; specials = h.specials })

  typing_read : (d : Declared) (vs : List Val) → DeclaredAreThere s d → ValuesAreThere s vs → WhereDeclared s (typing s.heap s.table d vs)
  typing_read d [] h no_more = no_form
  typing_read d (t ∷ vs) h (one_more k ks) = types_added d vs (specifier s.heap s.table t) h ks (specifier_lawful s.heap s.table t)

  either_read : {A : Type 0} (f : A → Reading) (b : Bool) (x y : A) → WhereDeclared s (f x) → WhereDeclared s (f y) → WhereDeclared s (f (if b then x else y))
  either_read f true x y h k = h
  either_read f false x y h k = k

  -- a specifier that begins with a symbol
  symbol_read : (d : Declared) (x : SymId) (rest : List Val) → DeclaredAreThere s d → IsThere s (Sym x) → ValuesAreThere s rest →
      WhereDeclared s (by_subject s.heap s.table d (Sym x) rest (subject_named x))
  unfolding subject_named
  symbol_read d x rest h k ks =
      either_read (by_subject s.heap s.table d (Sym x) rest) (is_same x at.TYPE) _ _ (typing_read d rest h ks)
      (either_read (by_subject s.heap s.table d (Sym x) rest) (is_same x at.SPECIAL) _ _ (each_read add_special special_added d rest h ks)
      (either_read (by_subject s.heap s.table d (Sym x) rest) (is_same x at.OPTIMIZE) _ _ (each_read (set_quality s.heap) (λ e v i j. setting_added e (setting_of s.heap v) i) d rest h ks)
      (either_read (by_subject s.heap s.table d (Sym x) rest) (is_same x at.IGNORE || (is_same x at.IGNORABLE || (is_same x at.INLINE || (is_same x at.NOTINLINE || is_same x at.DYNAMIC_EXTENT)))) _ _ (is_declared h) (typing_read d (Sym x ∷ rest) h (one_more k ks)))))

  parts_read : (d : Declared) (vs : List Val) → DeclaredAreThere s d → ValuesAreThere s vs → WhereDeclared s (read_parts s.heap s.table d vs)
  parts_read d [] h no_more = no_form
  parts_read d (Int z ∷ rest) h ks = typing_read d (Int z ∷ rest) h ks
  parts_read d (Char c ∷ rest) h ks = typing_read d (Char c ∷ rest) h ks
  parts_read d (Sym x ∷ rest) h (one_more k ks) = symbol_read d x rest h k ks
  parts_read d (Ref o ∷ rest) h ks = typing_read d (Ref o ∷ rest) h ks

  list_read : (f : List Val → Reading) (m : Option (List Val)) → Where (ValuesAreThere s) m → ((vs : List Val) → ValuesAreThere s vs → WhereDeclared s (f vs)) →
      WhereDeclared s (if_list f m)
  list_read f None w k = no_form
  list_read f (Some vs) (found_there h) k = k vs h

  specifier_read : (d : Declared) (v : Val) → DeclaredAreThere s d → IsThere s v → WhereDeclared s (read_specifier s.heap s.table d v)
  unfolding read_specifier
  specifier_read d v h i = list_read _ _ (elements_there s v i) (λ vs k. parts_read d vs h k)

  whole_list_read : (d : Declared) (v : Val) → DeclaredAreThere s d → IsThere s v → WhereDeclared s (read_list s.heap s.table d v)
  unfolding read_list
  whole_list_read d v h i = list_read _ _ (elements_there s v i) (λ vs k. each_read _ specifier_read d vs h k)

  rest_read : (d : Declared) (p : Option (Val × Val)) → DeclaredAreThere s d → Where (PairIsThere s) p → WhereDeclared s (read_rest s.heap s.table d p)
  rest_read d None h i = no_form
  rest_read d (Some p) h (found_there i) = whole_list_read d p.1 h i.1

  if_not_refused : (d : Declared) → DeclaredAreThere s d → WhereDeclared s (tested d)
  if_not_refused d h = by (is_refused d.policy)
    where
      by : (b : Bool) → WhereDeclared s (if b then bad_policy else declared d)
      by true = no_policy
      by false = is_declared h

  none_there : (p : Policy) → DeclaredAreThere s (nothing p)
  none_there p = record { types = no_more; specials = no_more }

  pub declarations_read : (p : Policy) (vs : List Val) → ValuesAreThere s vs → WhereDeclared s (read_declarations s.heap s.table p vs)
  declarations_read p vs h =
      read_then tested (each_read (read_declaration s.heap s.table) (λ d v i j. rest_read d (cons_at s.heap v) i (cons_there s v j)) (nothing p) vs (none_there p) h) if_not_refused

  pub specifiers_read : (p : Policy) (v : Val) → IsThere s v → WhereDeclared s (read_specifiers s.heap s.table p v)
  specifiers_read p v h = read_then tested (whole_list_read (nothing p) v (none_there p) h) if_not_refused

-- ---- bodies

pub record BodyIsThere (s : Stores) (b : Body) : Type 0 where
  pub declarations : ValuesAreThere s b.declarations
  pub forms : ValuesAreThere s b.forms

module _ (s : Stores) where
  undocumented_there : (vs : List Val) → ValuesAreThere s vs → ValuesAreThere s (bodies.undocumented s.heap vs)
  undocumented_there [] h = h
  undocumented_there (v ∷ []) h = h
  undocumented_there (v ∷ x ∷ xs) (one_more k ks) = by (bodies.is_string s.heap v)
    where
      by : (b : Bool) → ValuesAreThere s (if b then x ∷ xs else v ∷ x ∷ xs)
      by true = ks
      by false = one_more k ks

  parted_there : (vs : List Val) → ValuesAreThere s vs → BodyIsThere s (bodies.parted s.heap vs)
  parted_there [] h = record { declarations = no_more; forms = no_more }
  parted_there (v ∷ vs) (one_more k ks) = by (bodies.is_declaration s.heap v) (parted_there vs ks)
    where
      by : (b : Bool) → BodyIsThere s (bodies.parted s.heap vs) → BodyIsThere s (if b then bodies.with_declaration v (bodies.parted s.heap vs) else bodies.make_body [] (v ∷ vs))
      by true h = record { declarations = one_more k h.declarations; forms = h.forms }
      by false h = record { declarations = no_more; forms = one_more k ks }

  pub body_there : (vs : List Val) → ValuesAreThere s vs → BodyIsThere s (body_of s.heap vs)
  body_there vs h = parted_there _ (undocumented_there vs h)

-- ---- lambda lists

pub record DefaultIsThere (s : Stores) (d : Default) : Type 0 where
  pub variable : SymbolIsThere s d.variable
  pub value : IsThere s d.value
  pub supplied : Where (SymbolIsThere s) d.supplied

abbrev pub NamedValueIsThere : Stores → SymId × Val → Type 0
NamedValueIsThere s p = SymbolIsThere s p.0 × IsThere s p.1

pub record LambdaListIsThere (s : Stores) (l : LambdaList) : Type 0 where
  pub required : Each (SymbolIsThere s) l.required
  pub optional : Each (DefaultIsThere s) l.optional
  pub rest : Where (SymbolIsThere s) l.rest
  pub keys : Where (Each (DefaultIsThere s)) l.keys
  pub auxiliary : Each (NamedValueIsThere s) l.auxiliary

pub each_found : {A B : Type 0} {P : A → Type 0} {Q : B → Type 0} {xs : List A} (f : A → Option B) → ((a : A) → P a → Where Q (f a)) → Each P xs → Where (Each Q) (each f xs)
each_found f k no_more = found_there no_more
each_found f k (one_more h hs) = where_then _ (k _ h) (λ y i. where_map _ (each_found f k hs) (λ ys j. one_more i j))

pub record SectionsAreThere (s : Stores) (x : Sections) : Type 0 where
  pub required : ValuesAreThere s x.required
  pub optional : Where (ValuesAreThere s) x.optional
  pub rest : Where (ValuesAreThere s) x.rest
  pub keys : Where (ValuesAreThere s) x.keys
  pub auxiliary : Where (ValuesAreThere s) x.auxiliary

module _ (s : Stores) (sound : AreSound s) where
  variable_there : (v : Val) → IsThere s v → Where (SymbolIsThere s) (variable s.table v)
  variable_there (Int z) h = nothing_there
  variable_there (Char c) h = nothing_there
  variable_there (Sym x) h = where_if (can_be_bound s.table x) _ _ (found_there (symbol_of_there x h)) nothing_there
  variable_there (Ref o) h = nothing_there

  default_there : (vs : List Val) → ValuesAreThere s vs → Where (DefaultIsThere s) (default_with s.table vs)
  default_there [] h = nothing_there
  default_there (v ∷ []) (one_more h no_more) =
      where_map _ (variable_there v h) (λ x k. record { variable = k; value = nil_there sound; supplied = nothing_there })
  default_there (v ∷ e ∷ []) (one_more h (one_more i no_more)) =
      where_map _ (variable_there v h) (λ x k. record { variable = k; value = i; supplied = nothing_there })
  default_there (v ∷ e ∷ y ∷ []) (one_more h (one_more i (one_more j no_more))) =
      where_then _ (variable_there v h) (λ x k. where_map _ (variable_there y j) (λ z l. record { variable = k; value = i; supplied = found_there l }))
  default_there (v ∷ e ∷ y ∷ x ∷ xs) h = nothing_there

  -- of a section whose lists are read so
  default_at_there : (listed : List Val → Option Default) (v : Val) → ((vs : List Val) → ValuesAreThere s vs → Where (DefaultIsThere s) (listed vs)) → IsThere s v →
      Where (DefaultIsThere s) (if is_symbol v then default_with s.table (v ∷ []) else option_and_then listed (elements s.heap v))
  default_at_there listed v k h =
      where_if (is_symbol v) _ _ (default_there (v ∷ []) (one_more h no_more)) (where_then _ (elements_there s v h) k)

  auxiliary_there : (vs : List Val) → ValuesAreThere s vs → Where (NamedValueIsThere s) (auxiliary_with s.table vs)
  auxiliary_there [] h = nothing_there
  auxiliary_there (v ∷ []) (one_more h no_more) = where_map _ (variable_there v h) (λ x k. (k, nil_there sound))
  auxiliary_there (v ∷ e ∷ []) (one_more h (one_more i no_more)) = where_map _ (variable_there v h) (λ x k. (k, i))
  auxiliary_there (v ∷ e ∷ x ∷ xs) h = nothing_there

  auxiliary_at_there : (v : Val) → IsThere s v → Where (NamedValueIsThere s) (auxiliary_at s.heap s.table v)
  auxiliary_at_there v h =
      where_if (is_symbol v) _ _ (auxiliary_there (v ∷ []) (one_more h no_more)) (where_then _ (elements_there s v h) auxiliary_there)

  in_section : {A : Type 0} {Q : A → Type 0} (f : Val → Option A) (m : Option (List Val)) → ((v : Val) → IsThere s v → Where Q (f v)) → Where (ValuesAreThere s) m →
      Where (Each Q) (each_in f m)
  in_section f None k h = found_there no_more
  in_section f (Some vs) k (found_there h) = each_found f k h

  keys_there : (m : Option (List Val)) → Where (ValuesAreThere s) m → Where (Where (Each (DefaultIsThere s))) (keys_in s.heap s.table m)
  keys_there None h = found_there nothing_there
  keys_there (Some vs) (found_there h) =
      where_map Some (each_found _ (λ v i. default_at_there _ v (elim [ [] ↦ λ j. nothing_there | a ∷ [] ↦ λ j. nothing_there | a ∷ b ∷ xs ↦ λ j. default_there (a ∷ b ∷ xs) j ]) i) h) (λ ds k. found_there k)

  rest_there : (m : Option (List Val)) → Where (ValuesAreThere s) m → Where (Where (SymbolIsThere s)) (rest_in s.table m)
  rest_there None h = found_there nothing_there
  rest_there (Some []) h = nothing_there
  rest_there (Some (v ∷ [])) (found_there (one_more h no_more)) = where_map Some (variable_there v h) (λ x k. found_there k)
  rest_there (Some (v ∷ x ∷ xs)) h = nothing_there

  abbrev CutIsThere : List Val × Option (List Val) → Type 0
  CutIsThere p = ValuesAreThere s p.0 × Where (ValuesAreThere s) p.1

  cut_at_there : (n : Option ℕ) (vs : List Val) → ValuesAreThere s vs → CutIsThere (cut_at n vs)
  cut_at_there None vs h = (h, nothing_there)
  cut_at_there (Some n) vs h = (each_take n vs h, found_there (each_drop (n + 1) vs h))

  cut_there : (word : SymId) (vs : List Val) → ValuesAreThere s vs → CutIsThere (cut word vs)
  cut_there word vs h = cut_at_there (position (is_symbol_number (number_of word)) vs) vs h

  sections_there : (vs : List Val) → ValuesAreThere s vs → SectionsAreThere s (sections vs)
  sections_there vs h =
      let a = cut_there at.LAMBDA_LIST_AUX vs h in
      let k = cut_there at.LAMBDA_LIST_KEY _ a.0 in
      let r = cut_there at.LAMBDA_LIST_REST _ k.0 in
      let o = cut_there at.LAMBDA_LIST_OPTIONAL _ r.0 in
      record { required = o.0; optional = o.1; rest = r.1; keys = k.1; auxiliary = a.1 }

  of_sections_there : (x : Sections) → SectionsAreThere s x → Where (LambdaListIsThere s) (list_of_sections s.heap s.table x)
  of_sections_there x h =
      where_then _ (each_found (variable s.table) variable_there h.required) (λ required a.
      where_then _ (in_section _ x.optional (λ v i. default_at_there _ v default_there i) h.optional) (λ optional b.
      where_then _ (rest_there x.rest h.rest) (λ rest c.
      where_then _ (keys_there x.keys h.keys) (λ keys d.
      where_map _ (in_section (auxiliary_at s.heap s.table) x.auxiliary auxiliary_at_there h.auxiliary) (λ auxiliary e.
      record { required = a; optional = b; rest = c; keys = d; auxiliary = e })))))

  pub lambda_list_there : (v : Val) → IsThere s v → Where (LambdaListIsThere s) (lambda_list s.heap s.table v)
  unfolding lambda_list
  lambda_list_there v i = where_then _ (elements_there s v i) (λ vs h. of_sections_there (sections vs) (sections_there vs h))
