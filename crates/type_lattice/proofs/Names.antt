-- A named type says the same of a value and of what a set can tell of it.
use Rattle.std.proofs.Common.{◌≡◌, ℕ, zero, suc, ◌==◌, ℤ, pos, negsuc, Bool, true, false, not, ◌&&◌, ◌||◌, nat_lt, int_lt, int_le, Option, Some, None, arith, refl, sym, ap, ◌∙◌}
use Rattle.std.proofs.lemmas.Bool.{and_parts}
use Rattle.std.proofs.lemmas.Bool.Decides.{nat_tests}
use Rattle.lisp_base.specs.declared.values.Val.{Val}
use Rattle.lisp_base.specs.declared.values.Val.TheVariants.{Int, Char, Sym, Ref}
use Rattle.lisp_base.specs.declared.values.SymId.{SymId}
use Rattle.lisp_base.specs.declared.values.SymKind.{SymKind}
use Rattle.lisp_base.specs.declared.values.SymKind.TheVariants as symbol_kinds
use Rattle.lisp_base.specs.declared.types.TypeName.{TypeName}
use Rattle.lisp_base.specs.declared.types.TypeName.TheVariants as name
use Rattle.lisp_base.specs.Sort.{ObjectKind, ConsObject, VectorObject, StringObject, FunctionObject, CellObject, number_of, index_of}
use Rattle.lisp_base.specs.Spec.{Named}
use Rattle.lisp_base.specs.Membership.{KindAt, SymbolKind, has_named, keyword_kind, of_kind}
use Rattle.lisp_base.specs.Tables.{Table}
use Rattle.lisp_base.specs.Lawful.{least_integer, greatest_integer, is_integer_value}
use Rattle.type_lattice.specs.declared.ty.Ty.{Ty}
use Rattle.type_lattice.specs.Values.{Value, Integer, Character, Symbol, Cons, Vector, Text, Function, is_value}
use Rattle.type_lattice.specs.Named.{named, fixnum_bound, HoldsWhere}
use Rattle.type_lattice.specs.Described.{symbol_value, object_value, value_of, IsOver, Describes}

-- ---- integers

below_next : (z : ℤ) (m : ℕ) → int_le z (pos m) ≡ int_lt z (pos (suc m))
below_next (pos n) m = grind (arith, nat_tests)
below_next (negsuc n) m = refl

same_and : (a b c : Bool) → b ≡ c → (a && b) ≡ (a && c)
same_and a b c h = ap (λ (x : Bool). a && x) h

within : (z : ℤ) → is_integer_value z ≡ true → int_le z greatest_integer ≡ true
within z v = (and_parts (int_le least_integer z) (int_le z greatest_integer) v).1

integer_case : (n : TypeName) (objects : KindAt) (symbols : SymbolKind) (z : ℤ) → is_integer_value z ≡ true → named n (Integer z) ≡ has_named objects symbols n (Int z)
unfolding fixnum_bound
integer_case name.Fixnum objects symbols z v = same_and (int_le (negsuc 2305843009213693951) z) _ _ (below_next z 2305843009213693951)
integer_case name.Bit objects symbols z v = same_and (int_le (pos 0) z) _ _ (below_next z 1)
integer_case name.UnsignedByte objects symbols z v = same_and (int_le (pos 0) z) _ _ (within z v)
integer_case _ objects symbols z v = refl

-- ---- characters

character_case : (n : TypeName) (objects : KindAt) (symbols : SymbolKind) (c : ℕ) → named n (Character c) ≡ has_named objects symbols n (Char c)
character_case name.T objects symbols c = refl
character_case _ objects symbols c = refl

-- ---- symbols

is_first : (n : ℕ) → nat_lt n 1 ≡ (n == 0)
is_first n = grind (arith, nat_tests)

is_second : (n : ℕ) → nat_lt n 2 ≡ ((n == 0) || (n == 1))
is_second zero = refl
is_second (suc zero) = refl
is_second (suc (suc n)) = grind (arith, nat_tests)

-- a symbol that is no keyword
plain_case : (t : TypeName) (objects : KindAt) (symbols : SymbolKind) (s : SymId) → keyword_kind (symbols (number_of s)) ≡ false →
    named t (Symbol symbol_kinds.Plain (number_of s)) ≡ has_named objects symbols t (Sym s)
plain_case name.Keyword objects symbols s h = sym h
plain_case name.Null objects symbols s h = is_first (number_of s)
plain_case name.Boolean objects symbols s h = is_second (number_of s)
plain_case name.List objects symbols s h = is_first (number_of s)
plain_case name.Sequence objects symbols s h = is_first (number_of s)
plain_case _ objects symbols s h = refl

fresh_is_plain : (t : TypeName) (n : ℕ) → named t (Symbol symbol_kinds.Fresh n) ≡ named t (Symbol symbol_kinds.Plain n)
fresh_is_plain name.T n = refl
fresh_is_plain _ n = refl

keyword_case : (t : TypeName) (objects : KindAt) (symbols : SymbolKind) (s : SymId) → keyword_kind (symbols (number_of s)) ≡ true →
    (number_of s == 0) ≡ false → (number_of s == 1) ≡ false →
    named t (Symbol symbol_kinds.Keyword (number_of s)) ≡ has_named objects symbols t (Sym s)
keyword_case name.Keyword objects symbols s h e f = sym h
keyword_case name.Null objects symbols s h e f = sym e
keyword_case name.Boolean objects symbols s h e f = sym (ap (λ (x : Bool). x || (number_of s == 1)) e ∙ f)
keyword_case name.List objects symbols s h e f = sym e
keyword_case name.Sequence objects symbols s h e f = sym e
keyword_case _ objects symbols s h e f = refl

-- a number whose symbol is a keyword is not that of a plain symbol
not_plain : (symbols : SymbolKind) (n m : ℕ) → symbols m ≡ Some symbol_kinds.Plain → symbols n ≡ Some symbol_kinds.Keyword → (b : Bool) → (n == m) ≡ b → b ≡ false
not_plain symbols n m p k true h = let e : n ≡ m = grind (arith, nat_tests) in absurd (differ (sym p ∙ ap symbols (sym e) ∙ k))
  where
    differ : Some symbol_kinds.Plain ≡ Some symbol_kinds.Keyword → ⊥
    differ e = cc
not_plain symbols n m p k false h = refl

some_is : {A : Type 0} (x y : A) → Some x ≡ Some y → x ≡ y
some_is x y e = cc

none_is_some : {A : Type 0} (x : A) → None ≡ Some x → ⊥
none_is_some x e = cc

symbol_case : (t : TypeName) (table : Table) (objects : KindAt) (symbols : SymbolKind) → IsOver table symbols → (s : SymId) (x : Value) (kind : Option SymKind) →
    symbols (number_of s) ≡ kind → symbol_value (number_of s) kind ≡ Some x → named t x ≡ has_named objects symbols t (Sym s)
symbol_case t table objects symbols over s x None h e = absurd (none_is_some x e)
symbol_case t table objects symbols over s x (Some symbol_kinds.Plain) h e =
    ap (named t) (sym (some_is _ _ e)) ∙ plain_case t objects symbols s (ap keyword_kind h)
symbol_case t table objects symbols over s x (Some symbol_kinds.Keyword) h e =
    ap (named t) (sym (some_is _ _ e)) ∙ keyword_case t objects symbols s (ap keyword_kind h) (not_plain symbols (number_of s) 0 over.nil_plain h _ refl) (not_plain symbols (number_of s) 1 over.truth_plain h _ refl)
symbol_case t table objects symbols over s x (Some symbol_kinds.Fresh) h e =
    ap (named t) (sym (some_is _ _ e)) ∙ fresh_is_plain t (number_of s) ∙ plain_case t objects symbols s (ap keyword_kind h)

-- ---- objects

abbrev object_test : TypeName → ObjectKind → Bool
object_test t k = has_named (λ n. Some k) (λ n. None) t (Ref (record { 0 = 0 }))

cons_case : (t : TypeName) → named t Cons ≡ object_test t ConsObject
cons_case name.T = refl
cons_case _ = refl

vector_case : (t : TypeName) → named t Vector ≡ object_test t VectorObject
vector_case name.T = refl
vector_case _ = refl

string_case : (t : TypeName) → named t Text ≡ object_test t StringObject
string_case name.T = refl
string_case _ = refl

function_case : (t : TypeName) → named t Function ≡ object_test t FunctionObject
function_case name.T = refl
function_case _ = refl

object_is : (t : TypeName) (objects : KindAt) (symbols : SymbolKind) (o : _) (k : ObjectKind) → objects (index_of o) ≡ Some k → has_named objects symbols t (Ref o) ≡ object_test t k
object_is name.Cons objects symbols o k h = ap (of_kind ConsObject) h
object_is name.List objects symbols o k h = ap (λ (x : Option ObjectKind). of_kind ConsObject x || false) h
object_is name.Atom objects symbols o k h = ap (λ (x : Option ObjectKind). not (of_kind ConsObject x)) h
object_is name.SimpleVector objects symbols o k h = ap (of_kind VectorObject) h
object_is name.SimpleString objects symbols o k h = ap (of_kind StringObject) h
object_is name.String objects symbols o k h = ap (of_kind StringObject) h
object_is name.Vector objects symbols o k h = ap (λ (x : Option ObjectKind). of_kind VectorObject x || of_kind StringObject x) h
object_is name.Array objects symbols o k h = ap (λ (x : Option ObjectKind). of_kind VectorObject x || of_kind StringObject x) h
object_is name.Sequence objects symbols o k h = ap (λ (x : Option ObjectKind). of_kind VectorObject x || of_kind StringObject x || (of_kind ConsObject x || false)) h
object_is name.Function objects symbols o k h = ap (of_kind FunctionObject) h
object_is _ objects symbols o k h = refl

object_case : (t : TypeName) (objects : KindAt) (symbols : SymbolKind) (o : _) (x : Value) (kind : Option ObjectKind) →
    objects (index_of o) ≡ kind → object_value kind ≡ Some x → named t x ≡ has_named objects symbols t (Ref o)
object_case t objects symbols o x None h e = absurd (none_is_some x e)
object_case t objects symbols o x (Some ConsObject) h e = ap (named t) (sym (some_is _ _ e)) ∙ cons_case t ∙ sym (object_is t objects symbols o _ h)
object_case t objects symbols o x (Some VectorObject) h e = ap (named t) (sym (some_is _ _ e)) ∙ vector_case t ∙ sym (object_is t objects symbols o _ h)
object_case t objects symbols o x (Some StringObject) h e = ap (named t) (sym (some_is _ _ e)) ∙ string_case t ∙ sym (object_is t objects symbols o _ h)
object_case t objects symbols o x (Some FunctionObject) h e = ap (named t) (sym (some_is _ _ e)) ∙ function_case t ∙ sym (object_is t objects symbols o _ h)
object_case t objects symbols o x (Some CellObject) h e = absurd (none_is_some x e)

-- ---- all

name_case : (t : TypeName) (table : Table) (objects : KindAt) (symbols : SymbolKind) → IsOver table symbols → (v : Val) (x : Value) →
    value_of objects symbols v ≡ Some x → is_value x ≡ true → named t x ≡ has_named objects symbols t v
name_case t table objects symbols over (Int z) x e l =
    let k = some_is (Integer z) x e in
    ap (named t) (sym k) ∙ integer_case t objects symbols z (ap is_value k ∙ l)
name_case t table objects symbols over (Char c) x e l = ap (named t) (sym (some_is _ _ e)) ∙ character_case t objects symbols c
name_case t table objects symbols over (Sym s) x e l = symbol_case t table objects symbols over s x _ refl e
name_case t table objects symbols over (Ref o) x e l = object_case t objects symbols o x _ refl e

pub describes_name : (t : TypeName) (set : Ty) → HoldsWhere set (named t) → (table : Table) → Describes table (Named t) set
describes_name t set h table objects symbols over v x e l = h x l ∙ name_case t table objects symbols over v x e l
