-- The tokens of a text of characters, each of the greatest length, with the offset of its first byte (ANSI Common Lisp 2.2 to 2.4,
-- for the syntax of this project).
use Rattle.std.specs.Prelude.{ℕ, zero, suc, ◌+◌, ◌-◌, ◌*◌, Bool, true, false, not, ◌||◌, ◌&&◌, ◌==◌, List, [], ◌∷◌, Option, Some, None, if◌then◌else◌, length, map, take, drop, unwrap_or, nat_lt, fold, ℤ, pos, neg_ℤ, codes, sum_by}
use Rattle.std.specs.List.{position, list_all, list_any}
use Rattle.std.specs.Char.{len_utf8, to_ascii_uppercase}
use Rattle.lisp_reader.specs.declared.fault.ReadKind.{ReadKind}
use Rattle.lisp_reader.specs.declared.fault.ReadKind.TheVariants.{BadToken, Unsupported, Eof}
use Rattle.lisp_reader.specs.declared.token.Prefix.{Prefix}
use Rattle.lisp_reader.specs.declared.token.Prefix.TheVariants as p

-- a form that is no list, vector or prefix; names are upcased already
pub data Atom : Type 0 where
  integer : ℤ → Atom
  character : ℕ → Atom
  string : List ℕ → Atom
  symbol : List ℕ → Atom
  keyword : List ℕ → Atom

pub data Token : Type 0 where
  opening : Token
  -- #(
  vector : Token
  closing : Token
  dot : Token
  prefix : Prefix → Token
  atom : Atom → Token
  -- what is no token, and why; an open string or comment is `bad Eof`
  bad : ReadKind → Token

-- ---- characters

abbrev pub is_white : ℕ → Bool
is_white c = c == 9 || c == 10 || c == 12 || c == 13 || c == 32 || c == 127

-- before these a token ends: white space, and " ' ( ) , ; `
abbrev pub ends_token : ℕ → Bool
ends_token c = is_white c || c == 34 || c == 39 || c == 40 || c == 41 || c == 44 || c == 59 || c == 96

abbrev pub is_digit : ℕ → Bool
is_digit c = nat_lt 47 c && nat_lt c 58

abbrev pub upcase : ℕ → ℕ
upcase c = to_ascii_uppercase c

-- controls: below 32, and from 127 to 159
abbrev pub is_control : ℕ → Bool
is_control c = nat_lt c 32 || nat_lt 126 c && nat_lt c 160

-- how many elements there are before the first that passes a test
abbrev pub count_before : (ℕ → Bool) → List ℕ → ℕ
count_before p xs = unwrap_or (position p xs) (length xs)

-- how many characters from the front on belong to a token
abbrev pub token_length : List ℕ → ℕ
token_length text = count_before ends_token text

-- ---- integers

abbrev pub digit : ℕ → ℕ
digit c = if is_digit c then c - 48 else upcase c - 55

abbrev pub is_digit_in : ℕ → ℕ → Bool
is_digit_in base c = (is_digit c || nat_lt 64 (upcase c) && nat_lt (upcase c) 71) && nat_lt (digit c) base

-- one digit or more, and nothing else
abbrev pub all_digits : ℕ → List ℕ → Bool
all_digits base w = list_all (λ c. is_digit_in base c) w

abbrev pub is_empty : List ℕ → Bool
is_empty [] = true
is_empty (c ∷ w) = false

unfoldable pub is_number : ℕ → List ℕ → Bool
is_number base w = not (is_empty w) && all_digits base w

abbrev pub amount : ℕ → List ℕ → ℕ
amount base w = fold (λ n c. base * n + digit c) 0 w

abbrev pub is_sign : ℕ → Bool
is_sign c = c == 43 || c == 45

abbrev pub unsigned : List ℕ → List ℕ
unsigned [] = []
unsigned (c ∷ w) = if is_sign c then w else c ∷ w

abbrev pub is_negative : List ℕ → Bool
is_negative [] = false
is_negative (c ∷ w) = c == 45

-- 2^63
unfoldable pub integers_end : ℕ
integers_end = 9223372036854775808

abbrev pub signed : Bool → ℕ → Token
signed minus n =
    if minus then (if nat_lt integers_end n then bad Unsupported else atom (integer (neg_ℤ (pos n))))
    else if nat_lt n integers_end then atom (integer (pos n)) else bad Unsupported

unfoldable pub number : ℕ → List ℕ → Token
number base w = signed (is_negative w) (amount base (unsigned w))

-- ---- words: what begins with no other character of the syntax

abbrev pub is_dot : List ℕ → Bool
is_dot [] = false
is_dot (c ∷ []) = c == 46
is_dot (c ∷ d ∷ w) = false

-- without a final dot
abbrev pub undotted : List ℕ → List ℕ
undotted w = if is_dot (drop (length w - 1) w) then take (length w - 1) w else w

-- digits, a slash, digits
unfoldable pub is_ratio : List ℕ → Bool
is_ratio w =
    let slash = count_before (λ c. c == 47) w in
    is_number 10 (take slash w) && is_number 10 (drop (slash + 1) w)

abbrev pub is_marker : ℕ → Bool
is_marker c = c == 69 || c == 83 || c == 70 || c == 68 || c == 76

-- a marker (E, S, F, D or L), a sign or none, and digits; or nothing
unfoldable pub is_exponent : List ℕ → Bool
is_exponent [] = true
is_exponent (c ∷ w) = is_marker (upcase c) && is_number 10 (unsigned w)

-- what makes a float of so many digits before it: a dot and digits, an exponent, or a dot and an exponent
unfoldable pub is_fraction : ℕ → List ℕ → Bool
is_fraction whole [] = false
is_fraction whole (c ∷ rest) =
    let digits = count_before (λ d. not (is_digit d)) rest in
    if c == 46
    then (nat_lt 0 digits || nat_lt 0 whole && nat_lt 0 (length rest)) && is_exponent (drop digits rest)
    else nat_lt 0 whole && is_exponent (c ∷ rest)

unfoldable pub is_float : List ℕ → Bool
is_float w = let whole = count_before (λ c. not (is_digit c)) w in is_fraction whole (drop whole w)

-- the parts of the syntax that are left out: ratios, floats, | and \, package prefixes
abbrev pub has_bar : List ℕ → Bool
has_bar w = list_any (λ c. c == 124 || c == 92) w

abbrev pub has_colon : List ℕ → Bool
has_colon w = list_any (λ c. c == 58) w

unfoldable pub is_left_out : List ℕ → Bool
is_left_out w = is_ratio (unsigned w) || is_float (unsigned w) || has_bar w || has_colon (drop 1 w)

abbrev pub utf8_length : List ℕ → ℕ
utf8_length w = sum_by len_utf8 w

-- dots alone, a lone colon, more than 255 bytes, a control character
abbrev pub is_colon : List ℕ → Bool
is_colon [] = false
is_colon (c ∷ []) = c == 58
is_colon (c ∷ d ∷ w) = false

abbrev pub all_dots : List ℕ → Bool
all_dots w = list_all (λ c. c == 46) w

abbrev pub has_control : List ℕ → Bool
has_control w = list_any is_control w

unfoldable pub is_no_name : List ℕ → Bool
is_no_name w = all_dots w || is_colon w || nat_lt 255 (utf8_length w) || has_control w

abbrev pub name_of : List ℕ → Token
name_of [] = bad BadToken
name_of (c ∷ w) = if c == 58 then atom (keyword (map upcase w)) else atom (symbol (map upcase (c ∷ w)))

unfoldable pub word : List ℕ → Token
word w =
    if is_number 10 (unsigned (undotted w)) then number 10 (undotted w)
    else if is_left_out w then bad Unsupported
    else if is_dot w then dot
    else if is_no_name w then bad BadToken
    else name_of w

-- ---- characters by name

-- whether a word spells a name in any case
abbrev pub is_spelled : (name word : List ℕ) → Bool
is_spelled [] [] = true
is_spelled [] (c ∷ w) = false
is_spelled (n ∷ ns) [] = false
is_spelled (n ∷ ns) (c ∷ w) = upcase c == n && is_spelled ns w

unfoldable pub named_code : List ℕ → Option ℕ
named_code w =
    if is_spelled (codes "SPACE") w then Some 32
    else if is_spelled (codes "NEWLINE") w then Some 10
    else if is_spelled (codes "LINEFEED") w then Some 10
    else if is_spelled (codes "TAB") w then Some 9
    else if is_spelled (codes "PAGE") w then Some 12
    else if is_spelled (codes "RETURN") w then Some 13
    else if is_spelled (codes "BACKSPACE") w then Some 8
    else if is_spelled (codes "RUBOUT") w then Some 127
    else if is_spelled (codes "NULL") w then Some 0
    else None

abbrev pub character_or_bad : Option ℕ → Token
character_or_bad None = bad BadToken
character_or_bad (Some c) = atom (character c)

-- what follows #\: one character means itself, more are a name
abbrev pub character_of : List ℕ → Token
character_of [] = bad BadToken
character_of (c ∷ []) = atom (character c)
character_of (c ∷ d ∷ w) = character_or_bad (named_code (c ∷ d ∷ w))

-- ---- strings and comments

abbrev pub begins : ℕ → List ℕ → Bool
begins c [] = false
begins c (d ∷ text) = d == c

abbrev pub is_pair : ℕ → ℕ → List ℕ → Bool
is_pair a b text = begins a text && begins b (drop 1 text)

abbrev pub more : ℕ → Option ℕ → Option ℕ
more n None = None
more n (Some size) = Some (n + size)

-- how many characters are left of a string, its closing quote with them
abbrev pub string_size : List ℕ → Option ℕ
string_size [] = None
string_size (c ∷ []) = if c == 34 then Some 1 else None
string_size (c ∷ d ∷ text) =
    if c == 34 then Some 1
    else if c == 92 then more 2 (string_size text)
    else more 1 (string_size (d ∷ text))

-- the letters of a string, after a backslash or not: a backslash keeps the character after it
abbrev pub letters : (kept : Bool) → List ℕ → List ℕ
letters kept [] = []
letters true (c ∷ text) = c ∷ letters false text
letters false (c ∷ text) = if c == 92 then letters true text else c ∷ letters false text

-- how many characters are left of comments of which so many are open
abbrev pub comment_size : ℕ → List ℕ → Option ℕ
comment_size depth [] = None
comment_size depth (c ∷ []) = None
comment_size depth (c ∷ d ∷ text) =
    if c == 124 && d == 35 then (if depth == 1 then Some 2 else more 2 (comment_size (depth - 1) text))
    else if c == 35 && d == 124 then more 2 (comment_size (depth + 1) text)
    else more 1 (comment_size depth (d ∷ text))

-- ---- what comes first: a token or none, and how many characters it takes

pub record Piece : Type 0 where
  pub token : Option Token
  pub size : ℕ

abbrev pub gap : ℕ → Piece
gap n = record { token = None; size = n }

abbrev pub one : Token → ℕ → Piece
one t n = record { token = Some t; size = n }

abbrev pub found_string : List ℕ → Option ℕ → Piece
found_string text None = one (bad Eof) 1
found_string text (Some n) = one (atom (string (letters false (take (n - 1) text)))) (1 + n)

abbrev pub found_comment : Option ℕ → Piece
found_comment None = one (bad Eof) 1
found_comment (Some n) = gap (2 + n)

unfoldable pub in_base : ℕ → List ℕ → Piece
in_base base text =
    let w = take (token_length text) text in
    one (if is_number base (unsigned w) then number base w else bad BadToken) (2 + token_length text)

unfoldable pub after_escape : List ℕ → Piece
after_escape [] = one (bad Eof) 1
after_escape (c ∷ text) = one (character_of (take (1 + token_length text) (c ∷ text))) (3 + token_length text)

unfoldable pub after_sharp : List ℕ → Piece
after_sharp [] = one (bad Eof) 1
after_sharp (c ∷ text) =
    if c == 40 then one vector 2
    else if c == 39 then one (prefix p.Function) 2
    else if c == 124 then found_comment (comment_size 1 text)
    else if c == 92 then after_escape text
    else if c == 120 || c == 88 then in_base 16 text
    else if c == 111 || c == 79 then in_base 8 text
    else if c == 98 || c == 66 then in_base 2 text
    else one (bad Unsupported) 1

abbrev pub after_comma : List ℕ → Piece
after_comma text = if begins 64 text then one (prefix p.Splice) 2 else one (prefix p.Comma) 1

unfoldable pub word_piece : List ℕ → Piece
word_piece [] = gap 1
word_piece (c ∷ text) = one (word (take (1 + token_length text) (c ∷ text))) (1 + token_length text)

unfoldable pub first_piece : List ℕ → Piece
first_piece [] = gap 1
first_piece (c ∷ text) =
    if is_white c then gap 1
    else if c == 59 then gap (1 + count_before (λ d. d == 10) text)
    else if c == 40 then one opening 1
    else if c == 41 then one closing 1
    else if c == 39 then one (prefix p.Quote) 1
    else if c == 96 then one (prefix p.Backquote) 1
    else if c == 44 then after_comma text
    else if c == 34 then found_string text (string_size text)
    else if c == 35 then after_sharp text
    else word_piece (c ∷ text)

-- ---- the tokens of a text

pub record Placed : Type 0 where
  pub at : ℕ
  pub token : Token

abbrev pub placed : ℕ → Token → Placed
placed at token = record { at = at; token = token }

abbrev pub placed_before : ℕ → Option Token → List Placed → List Placed
placed_before at None rest = rest
placed_before at (Some t) rest = placed at t ∷ rest

-- the tokens of a text that begins at an offset, of which so many characters belong to what came before
abbrev pub tokens : (skip at : ℕ) → List ℕ → List Placed
tokens skip at [] = []
tokens zero at (c ∷ text) =
    placed_before at (first_piece (c ∷ text)).token (tokens ((first_piece (c ∷ text)).size - 1) (at + len_utf8 c) text)
tokens (suc skip) at (c ∷ text) = tokens skip (at + len_utf8 c) text
