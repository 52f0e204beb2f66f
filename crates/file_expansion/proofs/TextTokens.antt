-- The tokens of a text of scalar characters: integers in range, scalar characters, and no more tokens, nor letters of a string, than
-- the text has characters.
use Rattle.std.proofs.Common.{◌≡◌, refl, ℕ, zero, suc, ◌+◌, ◌*◌, ◌-◌, ◌≤◌, Bool, true, false, List, [], ◌∷◌, ◌++◌, length, take, Option, Some, None, arith}
use Rattle.std.specs.Prelude.{if◌then◌else◌, ◌||◌, ◌==◌, nat_eq, nat_lt, pos, neg_ℤ, codes}
use Rattle.std.specs.Char.{IsScalar, len_utf8}
use Rattle.std.specs.Str.{chars, chars_after, continuation_len, lead_bits, IsUtf8, all_scalars}
use Rattle.std.proofs.lemmas.Bool.{and_parts}
use Rattle.std.proofs.lemmas.Bool.Decides.{nat_tests}
use Rattle.std.proofs.lemmas.Str.{scalars-chars}
use Rattle.core_form.specs.Primitives.{in_range}
use Rattle.lisp_reader.specs.declared.fault.ReadKind.TheVariants.{BadToken, Unsupported}
use Rattle.lisp_reader.specs.Tokens.{Atom, integer, character, string, symbol, keyword, Token, opening, vector, closing, dot, prefix, atom, bad, is_white, token_length, unsigned, is_number, integers_end, is_negative, amount, signed, number, is_dot, undotted, is_left_out, is_no_name, name_of, word, is_spelled, named_code, character_or_bad, character_of, begins, string_size, letters, comment_size, Piece, one, found_string, found_comment, in_base, after_escape, after_sharp, after_comma, word_piece, first_piece, Placed, placed_before, tokens}
use Rattle.lisp_reader.specs.Answers.{file_tokens, text_tokens}

-- ---- each element of a list

abbrev pub Every : {A : Type 0} → (A → Type 0) → List A → Type 0
Every P [] = Unit {0}
Every P (x ∷ xs) = P x × Every P xs

pub every_append : {A : Type 0} (P : A → Type 0) (xs ys : List A) → Every P xs → Every P ys → Every P (xs ++ ys)
every_append P [] ys h k = k
every_append P (x ∷ xs) ys h k = (h.0, every_append P xs ys h.1 k)

pub every_left : {A : Type 0} (P : A → Type 0) (xs ys : List A) → Every P (xs ++ ys) → Every P xs
every_left P [] ys h = tt
every_left P (x ∷ xs) ys h = (h.0, every_left P xs ys h.1)

pub every_right : {A : Type 0} (P : A → Type 0) (xs ys : List A) → Every P (xs ++ ys) → Every P ys
every_right P [] ys h = h
every_right P (x ∷ xs) ys h = every_right P xs ys h.1

pub every_weaker : {A : Type 0} (P Q : A → Type 0) → ((x : A) → P x → Q x) → (xs : List A) → Every P xs → Every Q xs
every_weaker P Q k [] h = tt
every_weaker P Q k (x ∷ xs) h = (k x h.0, every_weaker P Q k xs h.1)

every_take : {A : Type 0} (P : A → Type 0) (n : ℕ) (xs : List A) → Every P xs → Every P (take n xs)
every_take P zero xs h = tt
every_take P (suc n) [] h = tt
every_take P (suc n) (x ∷ xs) h = (h.0, every_take P n xs h.1)

take_short : {A : Type 0} (n : ℕ) (xs : List A) → length (take n xs) ≤ length xs
take_short zero xs = omega arith
take_short (suc n) [] = omega arith
take_short (suc n) (x ∷ xs) = let k = take_short n xs in omega (arith, k)

-- ---- the characters of a text

abbrev pub AreScalar : List ℕ → Type 0
AreScalar cs = Every IsScalar cs

scalar_all : (cs : List ℕ) → all_scalars cs ≡ true → AreScalar cs
scalar_all [] h = tt
scalar_all (c ∷ cs) h = let both = and_parts _ _ h in (both.0, scalar_all cs both.1)

after_short : (n c : ℕ) (bs : List ℕ) → length (chars_after n c bs) ≤ suc (length bs)
after_short zero c [] = omega arith
after_short zero c (b ∷ bs) = let k = after_short (continuation_len b) (lead_bits b) bs in omega (arith, k)
after_short (suc n) c [] = omega arith
after_short (suc n) c (b ∷ bs) = let k = after_short n (c * 64 + (b - 128)) bs in omega (arith, k)

chars_short : (bs : List ℕ) → length (chars bs) ≤ length bs
unfolding chars
chars_short [] = omega arith
chars_short (b ∷ bs) = after_short (continuation_len b) (lead_bits b) bs

-- ---- tokens within the limits of the language, strings of at most n letters

abbrev pub FineAtom : ℕ → Atom → Type 0
FineAtom n (integer z) = in_range z ≡ true
FineAtom n (character c) = IsScalar c
FineAtom n (string cs) = AreScalar cs × (length cs ≤ n)
FineAtom n (symbol name) = Unit {0}
FineAtom n (keyword name) = Unit {0}

abbrev pub FineToken : ℕ → Token → Type 0
FineToken n opening = Unit {0}
FineToken n vector = Unit {0}
FineToken n closing = Unit {0}
FineToken n dot = Unit {0}
FineToken n (prefix f) = Unit {0}
FineToken n (atom a) = FineAtom n a
FineToken n (bad kind) = Unit {0}

abbrev pub FinePlaced : ℕ → Placed → Type 0
FinePlaced n x = FineToken n x.token

abbrev FineIfSome : ℕ → Option Token → Type 0
FineIfSome n None = Unit {0}
FineIfSome n (Some t) = FineToken n t

record IsFine (n : ℕ) (t : Token) : Type 0 where
  fine : FineToken n t

record IsFinePiece (n : ℕ) (x : Piece) : Type 0 where
  fine : FineIfSome n x.token

if_fine : (n : ℕ) (b : Bool) (s t : Token) → IsFine n s → IsFine n t → IsFine n (if b then s else t)
if_fine n true s t h k = h
if_fine n false s t h k = k

if_piece : (n : ℕ) (b : Bool) (x y : Piece) → IsFinePiece n x → IsFinePiece n y → IsFinePiece n (if b then x else y)
if_piece n true x y h k = h
if_piece n false x y h k = k

bad_fine : (n : ℕ) (kind : _) → IsFine n (bad kind)
bad_fine n kind = record { fine = tt }

one_fine : (n : ℕ) (t : Token) (size : ℕ) → IsFine n t → IsFinePiece n (one t size)
one_fine n t size h = record { fine = h.fine }

-- ---- integers

below_range : (m : ℕ) → nat_lt 9223372036854775808 m ≡ false → in_range (neg_ℤ (pos m)) ≡ true
below_range zero e = refl
below_range (suc m) e = grind (arith, nat_tests)

in_positive : (m : ℕ) → nat_lt m 9223372036854775808 ≡ true → in_range (pos m) ≡ true
in_positive m e = e

signed_fine : (n : ℕ) (minus : Bool) (m : ℕ) → IsFine n (signed minus m)
unfolding integers_end
signed_fine n true m = by (nat_lt integers_end m) refl
  where
    by : (b : Bool) → nat_lt integers_end m ≡ b → IsFine n (if b then bad Unsupported else atom (integer (neg_ℤ (pos m))))
    by true e = bad_fine n Unsupported
    by false e = record { fine = below_range m e }
signed_fine n false m = by (nat_lt m integers_end) refl
  where
    by : (b : Bool) → nat_lt m integers_end ≡ b → IsFine n (if b then atom (integer (pos m)) else bad Unsupported)
    by true e = record { fine = in_positive m e }
    by false e = bad_fine n Unsupported

number_fine : (n base : ℕ) (w : List ℕ) → IsFine n (number base w)
unfolding number
number_fine n base w = signed_fine n (is_negative w) (amount base (unsigned w))

-- ---- words

name_fine : (n : ℕ) (w : List ℕ) → IsFine n (name_of w)
name_fine n [] = bad_fine n BadToken
name_fine n (c ∷ w) = if_fine n (c == 58) _ _ (record { fine = tt }) (record { fine = tt })

word_fine : (n : ℕ) (w : List ℕ) → IsFine n (word w)
unfolding word
word_fine n w =
    if_fine n (is_number 10 (unsigned (undotted w))) _ _ (number_fine n 10 (undotted w))
    (if_fine n (is_left_out w) _ _ (bad_fine n Unsupported)
    (if_fine n (is_dot w) _ _ (record { fine = tt })
    (if_fine n (is_no_name w) _ _ (bad_fine n BadToken) (name_fine n w))))

-- ---- characters by name

abbrev ScalarIfSome : Option ℕ → Type 0
ScalarIfSome None = Unit {0}
ScalarIfSome (Some c) = IsScalar c

record MayBeScalar (o : Option ℕ) : Type 0 where
  scalar : ScalarIfSome o

if_scalar : (b : Bool) (o q : Option ℕ) → MayBeScalar o → MayBeScalar q → MayBeScalar (if b then o else q)
if_scalar true o q h k = h
if_scalar false o q h k = k

code_scalar : (w : List ℕ) → MayBeScalar (named_code w)
unfolding named_code
code_scalar w =
    if_scalar (is_spelled (codes "SPACE") w) _ _ (record { scalar = refl })
    (if_scalar (is_spelled (codes "NEWLINE") w) _ _ (record { scalar = refl })
    (if_scalar (is_spelled (codes "LINEFEED") w) _ _ (record { scalar = refl })
    (if_scalar (is_spelled (codes "TAB") w) _ _ (record { scalar = refl })
    (if_scalar (is_spelled (codes "PAGE") w) _ _ (record { scalar = refl })
    (if_scalar (is_spelled (codes "RETURN") w) _ _ (record { scalar = refl })
    (if_scalar (is_spelled (codes "BACKSPACE") w) _ _ (record { scalar = refl })
    (if_scalar (is_spelled (codes "RUBOUT") w) _ _ (record { scalar = refl })
    (if_scalar (is_spelled (codes "NULL") w) _ _ (record { scalar = refl }) (record { scalar = tt })))))))))

named_fine : (n : ℕ) (o : Option ℕ) → MayBeScalar o → IsFine n (character_or_bad o)
named_fine n None h = bad_fine n BadToken
named_fine n (Some c) h = record { fine = h.scalar }

character_fine : (n : ℕ) (w : List ℕ) → AreScalar w → IsFine n (character_of w)
character_fine n [] h = bad_fine n BadToken
character_fine n (c ∷ []) h = record { fine = h.0 }
character_fine n (c ∷ d ∷ w) h = named_fine n (named_code (c ∷ d ∷ w)) (code_scalar (c ∷ d ∷ w))

-- ---- strings

-- scalar, and no longer than another list
record IsPart (from w : List ℕ) : Type 0 where
  scalar : AreScalar w
  short : length w ≤ length from

if_part : (from : List ℕ) (b : Bool) (v w : List ℕ) → IsPart from v → IsPart from w → IsPart from (if b then v else w)
if_part from true v w h k = h
if_part from false v w h k = k

part_on : (c : ℕ) (from w : List ℕ) → IsPart from w → IsPart (c ∷ from) w
part_on c from w h = let k = h.short in record { scalar = h.scalar; short = omega (arith, k) }

part_with : (c : ℕ) (from w : List ℕ) → IsScalar c → IsPart from w → IsPart (c ∷ from) (c ∷ w)
part_with c from w s h = let k = h.short in record { scalar = (s, h.scalar); short = omega (arith, k) }

letters_part : (kept : Bool) (text : List ℕ) → AreScalar text → IsPart text (letters kept text)
letters_part true [] h = record { scalar = tt; short = omega arith }
letters_part false [] h = record { scalar = tt; short = omega arith }
letters_part true (c ∷ text) h = part_with c text _ h.0 (letters_part false text h.1)
letters_part false (c ∷ text) h =
    if_part (c ∷ text) (c == 92) _ _ (part_on c text _ (letters_part true text h.1)) (part_with c text _ h.0 (letters_part false text h.1))

string_fine : (n : ℕ) (text : List ℕ) → AreScalar text → length text ≤ n → (o : Option ℕ) → IsFinePiece n (found_string text o)
string_fine n text h le None = record { fine = tt }
string_fine n text h le (Some size) =
    let part = letters_part false (take (size - 1) text) (every_take IsScalar (size - 1) text h) in
    let short = part.short in
    let less = take_short (size - 1) text in
    record { fine = (part.scalar, omega (arith, short, less, le)) }

-- ---- pieces

comment_fine : (n : ℕ) (o : Option ℕ) → IsFinePiece n (found_comment o)
comment_fine n None = record { fine = tt }
comment_fine n (Some size) = record { fine = tt }

base_fine : (n base : ℕ) (text : List ℕ) → IsFinePiece n (in_base base text)
unfolding in_base
base_fine n base text =
    one_fine n _ _ (if_fine n (is_number base (unsigned (take (token_length text) text))) _ _ (number_fine n base (take (token_length text) text)) (bad_fine n BadToken))

escape_fine : (n : ℕ) (text : List ℕ) → AreScalar text → IsFinePiece n (after_escape text)
unfolding after_escape
escape_fine n [] h = record { fine = tt }
escape_fine n (c ∷ text) h =
    one_fine n _ _ (character_fine n (take (1 + token_length text) (c ∷ text)) (every_take IsScalar (1 + token_length text) (c ∷ text) h))

sharp_fine : (n : ℕ) (text : List ℕ) → AreScalar text → IsFinePiece n (after_sharp text)
unfolding after_sharp
sharp_fine n [] h = record { fine = tt }
sharp_fine n (c ∷ text) h =
    if_piece n (c == 40) _ _ (record { fine = tt })
    (if_piece n (c == 39) _ _ (record { fine = tt })
    (if_piece n (c == 124) _ _ (comment_fine n (comment_size 1 text))
    (if_piece n (c == 92) _ _ (escape_fine n text h.1)
    (if_piece n (c == 120 || c == 88) _ _ (base_fine n 16 text)
    (if_piece n (c == 111 || c == 79) _ _ (base_fine n 8 text)
    (if_piece n (c == 98 || c == 66) _ _ (base_fine n 2 text) (record { fine = tt })))))))

comma_fine : (n : ℕ) (text : List ℕ) → IsFinePiece n (after_comma text)
comma_fine n text = if_piece n (begins 64 text) _ _ (record { fine = tt }) (record { fine = tt })

piece_fine : (n c : ℕ) (text : List ℕ) → AreScalar (c ∷ text) → length text ≤ n → IsFinePiece n (first_piece (c ∷ text))
unfolding first_piece word_piece
piece_fine n c text h le =
    if_piece n (is_white c) _ _ (record { fine = tt })
    (if_piece n (c == 59) _ _ (record { fine = tt })
    (if_piece n (c == 40) _ _ (record { fine = tt })
    (if_piece n (c == 41) _ _ (record { fine = tt })
    (if_piece n (c == 39) _ _ (record { fine = tt })
    (if_piece n (c == 96) _ _ (record { fine = tt })
    (if_piece n (c == 44) _ _ (comma_fine n text)
    (if_piece n (c == 34) _ _ (string_fine n text h.1 le (string_size text))
    (if_piece n (c == 35) _ _ (sharp_fine n text h.1)
    (one_fine n (word (take (1 + token_length text) (c ∷ text))) _ (word_fine n (take (1 + token_length text) (c ∷ text))))))))))))

-- ---- all tokens

-- fine tokens, at most as many
pub record AreFine (n many : ℕ) (ts : List Placed) : Type 0 where
  pub fine : Every (FinePlaced n) ts
  pub short : length ts ≤ many

placed_fine : (n many at : ℕ) (t : Option Token) (rest : List Placed) → FineIfSome n t → AreFine n many rest → AreFine n (suc many) (placed_before at t rest)
placed_fine n many at None rest f h = let k = h.short in record { fine = h.fine; short = omega (arith, k) }
placed_fine n many at (Some t) rest f h = let k = h.short in record { fine = (f, h.fine); short = omega (arith, k) }

more_fine : (n many : ℕ) (ts : List Placed) → AreFine n many ts → AreFine n (suc many) ts
more_fine n many ts h = let k = h.short in record { fine = h.fine; short = omega (arith, k) }

tokens_fine : (n skip at : ℕ) (text : List ℕ) → AreScalar text → length text ≤ n → AreFine n (length text) (tokens skip at text)
tokens_fine n skip at [] h le = record { fine = tt; short = omega arith }
tokens_fine n zero at (c ∷ text) h le =
    placed_fine n (length text) at (first_piece (c ∷ text)).token (tokens ((first_piece (c ∷ text)).size - 1) (at + len_utf8 c) text)
    (piece_fine n c text h (omega (arith, le))).fine
    (tokens_fine n ((first_piece (c ∷ text)).size - 1) (at + len_utf8 c) text h.1 (omega (arith, le)))
tokens_fine n (suc skip) at (c ∷ text) h le =
    more_fine n (length text) _ (tokens_fine n skip (at + len_utf8 c) text h.1 (omega (arith, le)))

if_tokens : (n many : ℕ) (b : Bool) (xs ys : List Placed) → AreFine n many xs → AreFine n many ys → AreFine n many (if b then xs else ys)
if_tokens n many true xs ys h k = h
if_tokens n many false xs ys h k = k

text_fine : (n : ℕ) (text : List ℕ) → AreScalar text → length text ≤ n → AreFine n (length text) (text_tokens text)
text_fine n [] h le = record { fine = tt; short = omega arith }
text_fine n (c ∷ text) h le =
    if_tokens n (length (c ∷ text)) (nat_eq c 65279) (tokens 0 3 text) (tokens 0 0 (c ∷ text))
    (more_fine n (length text) _ (tokens_fine n 0 3 text h.1 (omega (arith, le)))) (tokens_fine n 0 0 (c ∷ text) h le)

-- of a file, in its bytes
pub file_fine : (bytes : List ℕ) (n : ℕ) → IsUtf8 bytes → length bytes ≤ n → AreFine n n (file_tokens bytes)
unfolding file_tokens
file_fine bytes n u le =
    let less = chars_short bytes in
    let h = text_fine n (chars bytes) (scalar_all (chars bytes) (scalars-chars bytes u)) (omega (arith, less, le)) in
    let short = h.short in
    record { fine = h.fine; short = omega (arith, short, less, le) }
