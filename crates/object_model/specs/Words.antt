-- The words of values and of object headers (this project's own tagging of 64-bit words).
use Rattle.std.specs.Prelude.{ℕ, ℤ, pos, negsuc, ◌+◌, ◌-◌, ◌*◌, ◌/◌, ◌%◌, ◌^◌, ◌*ℤ◌, int_div, ◌==◌, ◌&&◌, ◌||◌, nat_lt, nat_le, Bool, if◌then◌else◌, Option, Some, None}
use Rattle.std.specs.Int.{w64, cast_signed, cast_unsigned}
use Rattle.std.specs.Option.{option_map}
use Rattle.object_model.specs.declared.kinds.Header.{Header}
use Rattle.object_model.specs.declared.ObjKind.{ObjKind}
use Rattle.object_model.specs.declared.ObjKind.TheVariants as kind
use Rattle.object_model.specs.declared.kinds.WordKind.{WordKind}
use Rattle.object_model.specs.declared.kinds.WordKind.TheVariants as word

-- the low eight bits of a header
abbrev pub kind_number : ObjKind → ℕ
kind_number kind.Vector = 6
kind_number kind.String = 14
kind_number kind.Boxed = 22
kind_number kind.Cell = 30
kind_number kind.Function = 38
kind_number kind.Symbol = 54

-- the header of an object of this kind and length
abbrev pub header_word : ObjKind → ℕ → ℕ
header_word k n = n * 256 + kind_number k

-- the kind with this number, and the header that a word is
abbrev pub kind_of : ℕ → Option ObjKind
kind_of n =
    if n == 6 then Some kind.Vector else (
    if n == 14 then Some kind.String else (
    if n == 22 then Some kind.Boxed else (
    if n == 30 then Some kind.Cell else (
    if n == 38 then Some kind.Function else (
    if n == 54 then Some kind.Symbol else None)))))

abbrev pub make_header : ℕ → ObjKind → Header
make_header length k = record { kind = k; length = length }

abbrev pub header_of : ℕ → Option Header
header_of w = option_map (make_header (w / 256)) (kind_of (w % 256))

-- a character's code point
abbrev pub is_character : ℕ → Bool
is_character c = nat_lt c 0xD800 || (nat_le 0xE000 c && nat_lt c 0x110000)

-- the word of the character with this code point
abbrev pub character_word : ℕ → ℕ
character_word c = c * 256 + 2

-- the markers of a symbol without a value, and without a function
abbrev pub unbound_word : ℕ
unbound_word = 10

abbrev pub no_function_word : ℕ
no_function_word = 18

-- a fixnum is an integer from -2^61 to 2^61 - 1, and its word is 4 times the number
abbrev pub is_fixnum : ℤ → Bool
is_fixnum (pos n) = nat_lt n (2 ^ 61)
is_fixnum (negsuc n) = nat_lt n (2 ^ 61)

abbrev pub number_word : ℤ → ℕ
number_word z = cast_unsigned w64 (z *ℤ pos 4)

abbrev pub fixnum_word : ℤ → Option ℕ
fixnum_word z = if is_fixnum z then Some (number_word z) else None

-- what a word of the immediate kind is
abbrev pub immediate_kind : ℕ → WordKind
immediate_kind w =
    if w == unbound_word then word.Unbound else (
    if w == no_function_word then word.NoFunction else (
    if w % 256 == 2 && is_character (w / 256) then word.Character (w / 256) else word.Other))

-- what a word is, by its low bits
abbrev pub word_kind : ℕ → WordKind
word_kind w =
    if w % 4 == 0 then word.Fixnum (int_div (cast_signed w64 w) (pos 4)) else (
    if w % 8 == 1 then word.Function (w - 1) else (
    if w % 8 == 2 then immediate_kind w else (
    if w % 8 == 3 then word.List (w - 3) else (
    if w % 8 == 6 then word.Header else (
    if w % 8 == 7 then word.Object (w - 7) else word.Other)))))
