-- The forms of the bytes of a file, or its first refusal (this project's own).
use Rattle.std.specs.Prelude.{◌≡◌, ℕ, ◌<◌, ◌≤◌, List, [], ◌∷◌, if◌then◌else◌, length, nat_eq}
use Rattle.std.specs.Str.{chars, IsUtf8}
use Rattle.std.specs.Str.Lossy.{utf8_valid_len}
use Rattle.lisp_reader.specs.declared.fault.ReadKind.TheVariants.{TooLong, NotText}
use Rattle.lisp_reader.specs.Tokens.{Placed, tokens}
use Rattle.lisp_reader.specs.Building.{Stock}
use Rattle.lisp_reader.specs.declared.forms.TopRead.{TopRead}
use Rattle.lisp_reader.specs.Reading.{Refusal, refusal, ReadsTokens, RefusesTokens}

-- the greatest length of a file in bytes
unfoldable pub greatest_length : ℕ
greatest_length = 1048576

-- a byte order mark at the start is no part of the text, but its three bytes count in offsets
abbrev pub text_tokens : List ℕ → List Placed
text_tokens [] = []
text_tokens (c ∷ text) = if nat_eq c 65279 then tokens 0 3 text else tokens 0 0 (c ∷ text)

unfoldable pub file_tokens : List ℕ → List Placed
file_tokens bytes = text_tokens (chars bytes)

-- the file has these forms, with this symbol table and heap then
pub record Reads (bytes : List ℕ) (before : Stock) (answer : List TopRead × Stock) : Type 0 where
  pub short : length bytes ≤ greatest_length
  pub text : IsUtf8 bytes
  pub grammar : ReadsTokens (file_tokens bytes) before answer

-- the first cause: its length, then that it is no text, then the grammar's
pub data IsRefusedAt (bytes : List ℕ) (before : Stock) (r : Refusal) : Type 0 where
  too_long : greatest_length < length bytes → r ≡ refusal TooLong greatest_length → IsRefusedAt bytes before r
  no_text : length bytes ≤ greatest_length → (IsUtf8 bytes → ⊥) → r ≡ refusal NotText (utf8_valid_len bytes) → IsRefusedAt bytes before r
  no_form : length bytes ≤ greatest_length → IsUtf8 bytes → RefusesTokens (file_tokens bytes) (length bytes) before r → IsRefusedAt bytes before r
