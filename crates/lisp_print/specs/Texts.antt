-- What characters, letters, names and strings print as (ANSI Common Lisp 22.1.3; the lengths are this project's own).
use Rattle.std.specs.Prelude.{ℕ, ◌++◌, ◌==◌, ◌||◌, nat_lt, nat_le, ◌&&◌, if◌then◌else◌, Bool, false, List, [], length, take, codes, encode_utf8, Option, Some, None, unwrap_or}
use Rattle.std.specs.List.{flat_map}
use Rattle.std.specs.Str.{bytes_eq}
use Rattle.lisp_base.specs.declared.values.SymKind.{SymKind}
use Rattle.lisp_base.specs.declared.values.SymKind.TheVariants as kinds
use Rattle.lisp_print.specs.declared.letters.Spelling.{Spelling}
use Rattle.lisp_print.specs.declared.letters.Spelling.TheVariants as spellings

-- whether a number is a character's code point
abbrev pub is_character : ℕ → Bool
is_character c = nat_lt c 0xD800 || (nat_le 0xE000 c && nat_lt c 0x110000)

-- a letter by its code point, in UTF-8; ? for a number that is no character's
abbrev pub letter_text : ℕ → List ℕ
letter_text c = if is_character c then encode_utf8 c else codes "?"

-- the characters that have a name
abbrev pub character_name : ℕ → Option (List ℕ)
character_name c =
    if c == 32 then Some (codes "Space") else (
    if c == 10 then Some (codes "Newline") else (
    if c == 9 then Some (codes "Tab") else (
    if c == 12 then Some (codes "Page") else (
    if c == 13 then Some (codes "Return") else (
    if c == 8 then Some (codes "Backspace") else (
    if c == 127 then Some (codes "Rubout") else (
    if c == 0 then Some (codes "Null") else None)))))))

-- a character by its name, or itself
abbrev pub named_text : ℕ → List ℕ
named_text c = unwrap_or (character_name c) (encode_utf8 c)

-- a character that is a value
abbrev pub character_text : ℕ → List ℕ
character_text c = codes "#\\" ++ (if is_character c then named_text c else codes "?")

-- how a letter is spelled in a name, and between quotes: there " and \ have a \ before them
abbrev pub spelled : Spelling → ℕ → List ℕ
spelled spellings.Bare c = letter_text c
spelled spellings.Quoted c = if c == 34 || c == 92 then codes "\\" ++ letter_text c else letter_text c

-- so many letters of a name or a string are written at most
unfoldable pub most_letters : ℕ
most_letters = 10000

-- the letters, up to the most, and ... for those behind
abbrev pub letters_text : Spelling → List ℕ → List ℕ
letters_text spelling letters =
    flat_map (spelled spelling) (take most_letters letters) ++ (if nat_lt most_letters (length letters) then codes "..." else [])

-- what stands before a symbol's name
abbrev pub mark_of : SymKind → List ℕ
mark_of kinds.Plain = []
mark_of kinds.Keyword = codes ":"
mark_of kinds.Fresh = codes "#:"

abbrev pub name_text : List ℕ → SymKind → List ℕ
name_text letters kind = mark_of kind ++ letters_text spellings.Bare letters

abbrev pub string_text : List ℕ → List ℕ
string_text letters = codes "\"" ++ letters_text spellings.Quoted letters ++ codes "\""

-- whether a symbol is NIL, the end of lists
abbrev pub is_nil : List ℕ → SymKind → Bool
is_nil letters kinds.Plain = bytes_eq letters (codes "NIL")
is_nil letters kinds.Keyword = false
is_nil letters kinds.Fresh = false
