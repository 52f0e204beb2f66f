-- What declarations say of variables and of the policy (ANSI Common Lisp 3.3 and the entries of DECLARE, DECLAIM and the declaration identifiers).
use Rattle.std.specs.Prelude.{◌≡◌, ◌||◌, List, [], ◌∷◌, ◌++◌, Option, Some, None, Result, Ok, Err, All, if◌then◌else◌, map}
use Rattle.lisp_base.specs.declared.values.Val.{Val}
use Rattle.lisp_base.specs.declared.values.Val.TheVariants.{Int, Char, Sym, Ref}
use Rattle.lisp_base.specs.declared.values.SymId.{SymId}
use Rattle.lisp_base.specs.declared.base_symbols.TheConstants as at
use Rattle.lisp_base.specs.Spec.{Spec}
use Rattle.lisp_base.specs.Reading.{spec_of}
use Rattle.lisp_base.specs.Lawful.{IsLawful}
use Rattle.lisp_base.specs.Tables.{Table, Object}
use Rattle.lisp_forms.specs.Conses.{cons_at, elements}
use Rattle.type_spec.specs.declared.fault.TypeFault.{TypeFault}
use Rattle.type_spec.specs.declared.fault.TypeFault.TheVariants as type_fault
use Rattle.type_spec.specs.Parsing.{specifier}
use Rattle.declarations.specs.declared.policy.Policy.{Policy}
use Rattle.declarations.specs.declared.policy.Setting.{Setting}
use Rattle.declarations.specs.declared.subject.Subject.{Subject}
use Rattle.declarations.specs.declared.subject.Subject.TheVariants as about
use Rattle.declarations.specs.declared.contents.Typed as typed_value
use Rattle.declarations.specs.declared.contents.Declared as declared_value
use Rattle.declarations.specs.declared.fault.DeclarationFault.{DeclarationFault}
use Rattle.declarations.specs.declared.fault.DeclarationFault.TheVariants as fault
use Rattle.declarations.specs.Policies.{is_same, setting_of, with_quality, is_refused}

-- ---- what is declared

-- a type that is declared of a variable
pub record Typed : Type 0 where
  pub variable : SymId
  pub spec : Spec

abbrev pub typed : SymId → Spec → Typed
typed s t = record { variable = s; spec = t }

-- types and special variables in the order of their declarations, and the policy
pub record Declared : Type 0 where
  pub types : List Typed
  pub specials : List SymId
  pub policy : Policy

abbrev pub make_declared : List Typed → List SymId → Policy → Declared
make_declared types specials policy = record { types = types; specials = specials; policy = policy }

-- what is declared, or why it is refused
pub data Reading : Type 0 where
  declared : Declared → Reading
  bad_form bad_type bad_policy : Reading

-- ---- one thing after another

abbrev pub and_then : (Declared → Reading) → Reading → Reading
and_then f (declared d) = f d
and_then f bad_form = bad_form
and_then f bad_type = bad_type
and_then f bad_policy = bad_policy

-- what each of several adds, until one is refused
abbrev pub read_each : (Declared → Val → Reading) → Declared → List Val → Reading
read_each f d [] = declared d
read_each f d (v ∷ vs) = and_then (λ e. read_each f e vs) (f d v)

-- ---- one declaration specifier

abbrev pub with_type : Spec → Declared → SymId → Declared
with_type t d s = make_declared (d.types ++ typed s t ∷ []) d.specials d.policy

-- a variable of this type
abbrev pub add_type : Spec → Declared → Val → Reading
add_type t d (Int z) = bad_form
add_type t d (Char c) = bad_form
add_type t d (Sym s) = declared (with_type t d s)
add_type t d (Ref o) = bad_form

-- the variables of the type that a form writes
abbrev pub add_types : Declared → List Val → Option Spec → Reading
add_types d vs None = bad_type
add_types d vs (Some t) = read_each (add_type t) d vs

abbrev pub with_special : Declared → SymId → Declared
with_special d s = make_declared d.types (d.specials ++ s ∷ []) d.policy

-- a special variable
abbrev pub add_special : Declared → Val → Reading
add_special d (Int z) = bad_form
add_special d (Char c) = bad_form
add_special d (Sym s) = declared (with_special d s)
add_special d (Ref o) = bad_form

abbrev pub with_setting : Declared → Option Setting → Reading
with_setting d None = bad_form
with_setting d (Some s) = declared (make_declared d.types d.specials (with_quality s.quality s.level d.policy))

-- a quality of the policy
abbrev pub set_quality : List Object → Declared → Val → Reading
set_quality heap d v = with_setting d (setting_of heap v)

-- what a specifier that begins with a symbol is about
unfoldable pub subject_named : SymId → Subject
subject_named s =
    if is_same s at.TYPE then about.Type else
    (if is_same s at.SPECIAL then about.Special else
    (if is_same s at.OPTIMIZE then about.Policy else
    (if is_same s at.IGNORE || (is_same s at.IGNORABLE || (is_same s at.INLINE || (is_same s at.NOTINLINE || is_same s at.DYNAMIC_EXTENT))) then about.Nothing else about.ThatType)))

-- any other first element is a type
abbrev pub subject_of : Val → Subject
subject_of (Int z) = about.ThatType
subject_of (Char c) = about.ThatType
subject_of (Sym s) = subject_named s
subject_of (Ref o) = about.ThatType

-- the type comes before its variables
abbrev pub typing : List Object → Table → Declared → List Val → Reading
typing heap table d [] = bad_form
typing heap table d (t ∷ vs) = add_types d vs (specifier heap table t)

abbrev pub by_subject : List Object → Table → Declared → Val → List Val → Subject → Reading
by_subject heap table d first rest about.Type = typing heap table d rest
by_subject heap table d first rest about.Special = read_each add_special d rest
by_subject heap table d first rest about.Policy = read_each (set_quality heap) d rest
by_subject heap table d first rest about.Nothing = declared d
by_subject heap table d first rest about.ThatType = typing heap table d (first ∷ rest)

abbrev pub read_parts : List Object → Table → Declared → List Val → Reading
read_parts heap table d [] = bad_form
read_parts heap table d (first ∷ rest) = by_subject heap table d first rest (subject_of first)

abbrev pub if_list : (List Val → Reading) → Option (List Val) → Reading
if_list f None = bad_form
if_list f (Some vs) = f vs

-- a declaration specifier
unfoldable pub read_specifier : List Object → Table → Declared → Val → Reading
read_specifier heap table d v = if_list (read_parts heap table d) (elements heap v)

-- ---- declarations and declamations

-- a list of specifiers
unfoldable pub read_list : List Object → Table → Declared → Val → Reading
read_list heap table d v = if_list (read_each (read_specifier heap table) d) (elements heap v)

abbrev pub read_rest : List Object → Table → Declared → Option (Val × Val) → Reading
read_rest heap table d None = bad_form
read_rest heap table d (Some p) = read_list heap table d p.1

-- a list of specifiers after a first element
abbrev pub read_declaration : List Object → Table → Declared → Val → Reading
read_declaration heap table d v = read_rest heap table d (cons_at heap v)

-- nothing but the policy in force
abbrev pub nothing : Policy → Declared
nothing policy = make_declared [] [] policy

-- the policy is tested after all else
abbrev pub tested : Declared → Reading
tested d = if is_refused d.policy then bad_policy else declared d

-- the declarations of one form, each a list that begins with DECLARE
abbrev pub read_declarations : List Object → Table → Policy → List Val → Reading
read_declarations heap table policy vs = and_then tested (read_each (read_declaration heap table) (nothing policy) vs)

-- the list of specifiers of a declamation
abbrev pub read_specifiers : List Object → Table → Policy → Val → Reading
read_specifiers heap table policy v = and_then tested (read_list heap table (nothing policy) v)

-- ---- what the code gives

abbrev pub typed_of : typed_value.Typed → Typed
typed_of t = typed t.variable (spec_of t.spec)

abbrev pub declared_of : declared_value.Declared → Declared
declared_of d = make_declared (map typed_of d.types.items) d.specials.items d.policy

-- each type is one that may be written with the symbols of a table
abbrev pub AreLawful : Table → Declared → Type 0
AreLawful table d = All (λ t. IsLawful table t.spec) d.types

-- a fault is the reading's; want of memory is none
abbrev pub Refuses : DeclarationFault → Reading → Type 0
Refuses fault.BadForm r = r ≡ bad_form
Refuses fault.BadType r = r ≡ bad_type
Refuses fault.BadPolicy r = r ≡ bad_policy
Refuses fault.Memory r = Unit {0}

abbrev pub fault_of_type : TypeFault → DeclarationFault
fault_of_type type_fault.BadType = fault.BadType
fault_of_type type_fault.Memory = fault.Memory

-- What is given is what is declared, and each fault is the reading's: BadForm where that is bad_form, and so on. So what is given and
-- the faults are exactly the reading, but for want of memory.
abbrev pub Gives : {A : Type 0} → (A → Declared) → Result A DeclarationFault → Reading → Type 0
Gives view (Ok x) r = r ≡ declared (view x)
Gives view (Err f) r = Refuses f r
