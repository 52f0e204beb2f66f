-- What the primitives do: arguments, results and errors (ANSI Common Lisp, chapters 10 to 15 and 21; names with % are this project's own).
use Rattle.std.specs.Prelude.{ℕ, zero, suc, ◌+◌, ◌-◌, ◌/◌, ◌^◌, ℤ, pos, negsuc, ◌+ℤ◌, ◌-ℤ◌, ◌*ℤ◌, Bool, true, false, not, ◌&&◌, if◌then◌else◌, nat_lt, nat_le, ◌==◌, int_le, int_lt, int_div, int_rem, List, [], ◌∷◌, ◌++◌, length, map, replicate, slice_get, slice_set, take, Option, Some, None}
use Rattle.std.specs.Option.{option_map}
use Rattle.std.specs.Int.{w64, int_bit_and, int_bit_or, int_bit_xor, int_shr}
use Rattle.lisp_base.specs.declared.values.SymId.{SymId}
use Rattle.lisp_base.specs.declared.values.SymKind.{SymKind}
use Rattle.lisp_base.specs.declared.values.SymKind.TheVariants as symbol_kinds
use Rattle.lisp_base.specs.declared.values.Val.{Val}
use Rattle.lisp_base.specs.declared.values.Val.TheVariants.{Int, Char, Sym, Ref}
use Rattle.lisp_base.specs.declared.values.Place.{Place}
use Rattle.lisp_base.specs.declared.rows.PrimType.TheVariants as types
use Rattle.lisp_base.specs.declared.primitives.Primitive.{Primitive}
use Rattle.lisp_base.specs.declared.primitives.Primitive.TheVariants as op
use Rattle.lisp_base.specs.Sort.{nil, truth, symbol, number_of, index_of, same, same_integer}
use Rattle.lisp_base.specs.PrimNames.{prim_name}
use Rattle.lisp_base.specs.Rows.{prim_row, prim_type_spec}
use Rattle.lisp_base.specs.Shown.{most_elements}
use Rattle.lisp_base.specs.Spec.{Spec}
use Rattle.core_form.specs.Arithmetic.{arithmetic}
use Rattle.core_form.specs.Facts.{lookup}
use Rattle.core_form.specs.State.{Symbol, Object, Pair, Vector, Str, Fault, TypeError, Index, Overflow, ZeroDivide, Unbound, Undefined, Arguments, EndOfFile, Simple, State}
use Rattle.core_form.specs.Effect.{Effect, ◌>>=◌, ◌>>◌, pure, change, read, allot, box_all, walk_over, add, put, write}
use Rattle.core_form.specs.Force.{Vals, Force, is_true, symbol_named, make_list, raise, object_at, expect, one}

-- ---- rows

-- the types of the arguments of a primitive, and of any further ones
pub record Row : Type 0 where
  pub types : List Spec
  pub rest : Option Spec

-- as the table of primitives has them
abbrev pub row_of : Primitive → Row
row_of q = record {
  types = map prim_type_spec (take (prim_row q).count (prim_row q).args);
  rest = option_map prim_type_spec (prim_row q).rest;
}

-- the greatest length of a vector or string
abbrev pub greatest_length : ℕ
greatest_length = most_elements

unfoldable pub check_rest : Force → Place → Option Spec → Vals → Effect (Unit {0})
check_rest f p r [] = pure tt
check_rest f p None (v ∷ vs) = pure tt
check_rest f p (Some t) (v ∷ vs) = expect f p t v >> check_rest f p (Some t) vs

-- the types of the arguments, left to right
unfoldable pub check_row : Force → Place → List Spec → Option Spec → Vals → Effect (Unit {0})
check_row f p [] r vs = check_rest f p r vs
check_row f p (t ∷ ts) r [] = pure tt
check_row f p (t ∷ ts) r (v ∷ vs) = expect f p t v >> check_row f p ts r vs

-- ---- arguments: of their types when a primitive acts, so that no other value below ever counts

abbrev pub argument : ℕ → Vals → Val
argument n [] = nil
argument zero (v ∷ vs) = v
argument (suc n) (v ∷ vs) = argument n vs

abbrev pub integer_of : Val → ℤ
integer_of (Int z) = z
integer_of _ = pos 0

abbrev pub code_of : Val → ℕ
code_of (Char c) = c
code_of _ = 0

abbrev pub symbol_of : Val → SymId
symbol_of (Sym s) = s
symbol_of _ = symbol 0

abbrev pub first_integer : Vals → ℤ
first_integer vs = integer_of (argument 0 vs)

abbrev pub second_integer : Vals → ℤ
second_integer vs = integer_of (argument 1 vs)

abbrev pub truth_of : Bool → Val
truth_of b = if b then truth else nil

-- ---- integers

abbrev pub in_range : ℤ → Bool
in_range z = int_le (negsuc (2 ^ 63 - 1)) z && int_lt z (pos (2 ^ 63))

abbrev pub operation_name : Force → Primitive → SymId
operation_name f q = symbol_named (prim_name q) f.symbols

-- an integer of the language, or INTEGER-OVERFLOW of the operation on its operands
unfoldable pub fitting : Force → Place → Primitive → Vals → ℤ → Effect ℤ
fitting f p q vs z =
    if in_range z then pure z else raise f (Overflow (operation_name f q) (argument 0 vs) (argument 1 vs)) p

unfoldable pub one_integer : ℤ → Effect Vals
one_integer z = one (Int z)

unfoldable pub if_fitting : Force → Place → Primitive → Vals → ℤ → Effect Vals
if_fitting f p q vs z = fitting f p q vs z >>= one_integer

-- the divisor must not be 0
unfoldable pub dividing : {A : Type 0} → Force → Place → Primitive → Vals → Effect A → Effect A
dividing f p q vs m =
    if same_integer (second_integer vs) (pos 0) then raise f (ZeroDivide (operation_name f q) (argument 0 vs) (argument 1 vs)) p else m

-- the greatest integer of which the product with b is not beyond a: one less than the truncated quotient where that was cut
-- toward zero from below
abbrev pub is_cut : ℤ → ℤ → Bool
is_cut a b = if same_integer (int_rem a b) (pos 0) then false else not (same_sign (int_lt a (pos 0)) (int_lt b (pos 0)))
  where
    same_sign : Bool → Bool → Bool
    same_sign true true = true
    same_sign true false = false
    same_sign false true = false
    same_sign false false = true

abbrev pub floor_of : ℤ → ℤ → ℤ
floor_of a b = if is_cut a b then int_div a b -ℤ pos 1 else int_div a b

abbrev pub modulus : ℤ → ℤ → ℤ
modulus a b = if is_cut a b then int_rem a b +ℤ b else int_rem a b

-- shifted to the left by a positive number of bits, else to the right
abbrev pub shifted : ℤ → ℤ → ℤ
shifted z (pos n) = z *ℤ pos (2 ^ n)
shifted z (negsuc n) = int_shr z (n + 1)

-- a quotient that fits, and the remainder
unfoldable pub quotient : Force → Place → Primitive → Vals → (quotient remainder : ℤ) → Effect Vals
quotient f p q vs n r = fitting f p q vs n >>= (λ z. pure (Int z ∷ Int r ∷ []))

-- ---- objects

abbrev pub car_of : Option Object → Val
car_of (Some (Pair a d)) = a
car_of _ = nil

abbrev pub cdr_of : Option Object → Val
cdr_of (Some (Pair a d)) = d
cdr_of _ = nil

abbrev pub is_pair : Option Object → Bool
is_pair (Some (Pair a d)) = true
is_pair _ = false

abbrev pub elements_in : Option Object → Vals
elements_in (Some (Vector vs)) = vs
elements_in _ = []

abbrev pub letters_in : Option Object → List ℕ
letters_in (Some (Str cs)) = cs
letters_in _ = []

unfoldable pub put_at : Val → Object → Effect (Unit {0})
put_at (Ref o) x = put (index_of o) x
put_at _ x = pure tt

-- the index where it is valid, else TYPE-ERROR
unfoldable pub valid_index : Force → Place → (length : ℕ) → Val → Effect ℕ
valid_index f p n (Int (pos i)) = if nat_lt i n then pure i else raise f (Index (Int (pos i)) n) p
valid_index f p n v = raise f (Index v n) p

-- a length must be one that a vector or string may have
unfoldable pub valid_length : Force → Place → Val → Effect ℕ
valid_length f p (Int (pos n)) =
    if nat_le n greatest_length then pure n else raise f (TypeError (Int (pos n)) (prim_type_spec types.Length)) p
valid_length f p v = raise f (TypeError v (prim_type_spec types.Length)) p

abbrev pub vector_words : ℕ → ℕ
vector_words n = 1 + n

-- two characters to a word
abbrev pub string_words : ℕ → ℕ
string_words n = 1 + (n + 1) / 2

unfoldable pub new_vector : Val → ℕ → Effect Vals
new_vector v n = allot (vector_words n) >> box_all (v ∷ []) >> add (Vector (replicate n v)) >>= one

unfoldable pub new_string : List ℕ → Effect Vals
new_string cs = allot (string_words (length cs)) >> add (Str cs) >>= one

abbrev pub or_nil : Option Val → Val
or_nil None = nil
or_nil (Some v) = v

abbrev pub letter_at : ℕ → List ℕ → ℕ
letter_at n [] = 0
letter_at zero (c ∷ cs) = c
letter_at (suc n) (c ∷ cs) = letter_at n cs

unfoldable pub element : Force → Place → Vals → Option Object → Effect Vals
element f p vs o = valid_index f p (length (elements_in o)) (argument 1 vs) >>= (λ i. one (or_nil (slice_get (elements_in o) i)))

unfoldable pub letter : Force → Place → Vals → Option Object → Effect Vals
letter f p vs o = valid_index f p (length (letters_in o)) (argument 1 vs) >>= (λ i. one (Char (letter_at i (letters_in o))))

unfoldable pub set_element : Force → Place → Vals → Option Object → Effect Vals
set_element f p vs o =
    valid_index f p (length (elements_in o)) (argument 1 vs) >>= (λ i. box_all (argument 2 vs ∷ []) >> put_at (argument 0 vs) (Vector (slice_set (elements_in o) i (argument 2 vs))) >> one (argument 2 vs))

unfoldable pub set_letter : Force → Place → Vals → Option Object → Effect Vals
set_letter f p vs o =
    valid_index f p (length (letters_in o)) (argument 1 vs) >>= (λ i. put_at (argument 0 vs) (Str (slice_set (letters_in o) i (code_of (argument 2 vs)))) >> one (argument 2 vs))

unfoldable pub set_car : Vals → Option Object → Effect Vals
set_car vs o = box_all (argument 1 vs ∷ []) >> put_at (argument 0 vs) (Pair (argument 1 vs) (cdr_of o)) >> one (argument 0 vs)

unfoldable pub set_cdr : Vals → Option Object → Effect Vals
set_cdr vs o = box_all (argument 1 vs ∷ []) >> put_at (argument 0 vs) (Pair (car_of o) (argument 1 vs)) >> one (argument 0 vs)

-- ---- the elements of a list, one at a time

-- What happens at an end: NIL; one element too many, which is looked at; or what is no list.
unfoldable pub list_end : Force → Place → (ℕ → Fault) → Vals → Val → Bool → Option Object → Effect Vals
list_end f p many done v true o = pure done
list_end f p many done v false o =
    if is_pair o then walk_over 1 >> raise f (many (length done + 1)) p else raise f (TypeError v (prim_type_spec types.List)) p

-- at most so many elements, after those that are done
unfoldable pub elements : ℕ → Force → Place → (ℕ → Fault) → Vals → Val → Effect Vals
elements zero f p many done v = read (object_at v) >>= list_end f p many done v (same v nil)
elements (suc n) f p many done v =
    read (object_at v) >>= (λ o. if is_pair o then walk_over 1 >> elements n f p many (done ++ car_of o ∷ []) (cdr_of o) else list_end f p many done v (same v nil) o)

-- the greatest number of values, and of arguments
unfoldable pub most_values : ℕ
most_values = 20

unfoldable pub most_arguments : ℕ
most_arguments = 1024

-- ---- characters, symbols, input and output

abbrev pub is_surrogate : ℕ → Bool
is_surrogate n = nat_le 55296 n && nat_le n 57343

abbrev pub character_of : ℤ → Val
character_of (pos n) = if is_surrogate n then nil else Char n
character_of (negsuc n) = nil

-- the next character, or at the end of the input an error or the value for it
unfoldable pub next_char : Force → Place → Val → Val → List ℕ → Effect Vals
next_char f p eof_error eof_value (c ∷ cs) = change (λ s. record s { input = cs }) >> one (Char c)
next_char f p eof_error eof_value [] = if is_true eof_error then raise f EndOfFile p else one eof_value

abbrev pub last_given : Option (Option Val) → Option Val
last_given None = None
last_given (Some v) = v

abbrev pub value_in : SymId → State → Option Val
value_in s st = last_given (lookup (number_of s) st.values)

abbrev pub function_in : SymId → State → Option Val
function_in s st = lookup (number_of s) st.functions

abbrev pub give : SymId → Option Val → State → State
give s v st = record st { values = (number_of s, v) ∷ st.values }

unfoldable pub bound_value : Force → Place → SymId → Option Val → Effect Vals
bound_value f p s None = raise f (Unbound s) p
bound_value f p s (Some v) = one v

unfoldable pub global_value : Force → Place → SymId → Effect Vals
global_value f p s = read (value_in s) >>= bound_value f p s

unfoldable pub defined_function : Force → Place → SymId → Option Val → Effect Vals
defined_function f p s None = raise f (Undefined s) p
defined_function f p s (Some v) = one v

unfoldable pub global_function : Force → Place → SymId → Effect Vals
global_function f p s = read (function_in s) >>= defined_function f p s

unfoldable pub set_global : SymId → Val → Effect Vals
set_global s v = box_all (v ∷ []) >> change (give s (Some v)) >> one v

abbrev pub is_given : Option Val → Bool
is_given None = false
is_given (Some v) = true

abbrev pub name_in : Option Symbol → List ℕ
name_in None = []
name_in (Some s) = s.name

abbrev pub symbol_letters : Force → SymId → List ℕ
symbol_letters f s = name_in (slice_get f.symbols (number_of s))

abbrev pub is_fresh : Option Symbol → Bool
is_fresh None = false
is_fresh (Some s) = fresh s.kind
  where
    fresh : SymKind → Bool
    fresh symbol_kinds.Plain = false
    fresh symbol_kinds.Keyword = false
    fresh symbol_kinds.Fresh = true

-- ---- the primitives

-- a primitive on arguments of its types
unfoldable pub act : Force → Place → Primitive → Vals → Effect Vals
act f p op.Cons vs = allot 2 >> box_all vs >> add (Pair (argument 0 vs) (argument 1 vs)) >>= one
act f p op.List vs = make_list vs >>= one
act f p op.Car vs = read (object_at (argument 0 vs)) >>= (λ o. one (car_of o))
act f p op.Cdr vs = read (object_at (argument 0 vs)) >>= (λ o. one (cdr_of o))
act f p op.Rplaca vs = read (object_at (argument 0 vs)) >>= set_car vs
act f p op.Rplacd vs = read (object_at (argument 0 vs)) >>= set_cdr vs
act f p op.MakeVector vs = valid_length f p (argument 0 vs) >>= new_vector (argument 1 vs)
act f p op.MakeString vs = valid_length f p (argument 0 vs) >>= (λ n. new_string (replicate n (code_of (argument 1 vs))))
act f p op.Svref vs = read (object_at (argument 0 vs)) >>= element f p vs
act f p op.Schar vs = read (object_at (argument 0 vs)) >>= letter f p vs
act f p op.SetSvref vs = read (object_at (argument 0 vs)) >>= set_element f p vs
act f p op.SetSchar vs = read (object_at (argument 0 vs)) >>= set_letter f p vs
act f p op.VectorLength vs = read (object_at (argument 0 vs)) >>= (λ o. one (Int (pos (length (elements_in o)))))
act f p op.StringLength vs = read (object_at (argument 0 vs)) >>= (λ o. one (Int (pos (length (letters_in o)))))
act f p op.Eq vs = one (truth_of (same (argument 0 vs) (argument 1 vs)))
act f p op.Add vs = if_fitting f p op.Add vs (first_integer vs +ℤ second_integer vs)
act f p op.Subtract vs = if_fitting f p op.Subtract vs (first_integer vs -ℤ second_integer vs)
act f p op.Multiply vs = if_fitting f p op.Multiply vs (first_integer vs *ℤ second_integer vs)
act f p op.Truncate vs =
    dividing f p op.Truncate vs (quotient f p op.Truncate vs (int_div (first_integer vs) (second_integer vs)) (int_rem (first_integer vs) (second_integer vs)))
act f p op.Floor vs =
    dividing f p op.Floor vs (quotient f p op.Floor vs (floor_of (first_integer vs) (second_integer vs)) (modulus (first_integer vs) (second_integer vs)))
act f p op.Rem vs = dividing f p op.Rem vs (one_integer (int_rem (first_integer vs) (second_integer vs)))
act f p op.Mod vs = dividing f p op.Mod vs (one_integer (modulus (first_integer vs) (second_integer vs)))
act f p op.Equal vs = one (truth_of (same_integer (first_integer vs) (second_integer vs)))
act f p op.NotEqual vs = one (truth_of (not (same_integer (first_integer vs) (second_integer vs))))
act f p op.Less vs = one (truth_of (int_lt (first_integer vs) (second_integer vs)))
act f p op.Greater vs = one (truth_of (int_lt (second_integer vs) (first_integer vs)))
act f p op.LessOrEqual vs = one (truth_of (int_le (first_integer vs) (second_integer vs)))
act f p op.GreaterOrEqual vs = one (truth_of (int_le (second_integer vs) (first_integer vs)))
act f p op.LogAnd vs = one_integer (int_bit_and w64 (first_integer vs) (second_integer vs))
act f p op.LogIor vs = one_integer (int_bit_or w64 (first_integer vs) (second_integer vs))
act f p op.LogXor vs = one_integer (int_bit_xor w64 (first_integer vs) (second_integer vs))
act f p op.LogNot vs = one_integer (negsuc 0 -ℤ first_integer vs)
act f p op.Ash vs = if_fitting f p op.Ash vs (shifted (first_integer vs) (second_integer vs))
act f p op.CharCode vs = one (Int (pos (code_of (argument 0 vs))))
act f p op.CodeChar vs = one (character_of (first_integer vs))
act f p op.CharEqual vs = one (truth_of (code_of (argument 0 vs) == code_of (argument 1 vs)))
act f p op.CharLess vs = one (truth_of (nat_lt (code_of (argument 0 vs)) (code_of (argument 1 vs))))
act f p op.ReadChar vs = read (λ s. s.input) >>= next_char f p (argument 1 vs) (argument 2 vs)
act f p op.WriteChar vs = write (code_of (argument 0 vs)) >> one (argument 0 vs)
act f p op.SymbolName vs = new_string (symbol_letters f (symbol_of (argument 0 vs)))
act f p op.SymbolValue vs = global_value f p (symbol_of (argument 0 vs))
act f p op.SymbolFunction vs = global_function f p (symbol_of (argument 0 vs))
act f p op.SetValue vs = set_global (symbol_of (argument 0 vs)) (argument 1 vs)
act f p op.Boundp vs = read (value_in (symbol_of (argument 0 vs))) >>= (λ v. one (truth_of (is_given v)))
act f p op.Fboundp vs = read (function_in (symbol_of (argument 0 vs))) >>= (λ v. one (truth_of (is_given v)))
act f p op.Uninternedp vs = one (truth_of (is_fresh (slice_get f.symbols (number_of (symbol_of (argument 0 vs))))))
act f p op.Error vs = raise f (Simple (argument 0 vs) (argument 1 vs)) p
act f p op.ValuesList vs = elements most_values f p (Arguments (Some (operation_name f op.ValuesList))) [] (argument 0 vs)

-- Arguments are passed, tested from left to right, and the primitive acts.
unfoldable pub primitive : Force → Place → Primitive → Vals → Effect Vals
primitive f p q vs =
    (if arithmetic q then pure tt else box_all vs) >> check_row f p (row_of q).types (row_of q).rest vs >> act f p q vs
