-- What is shown of the words of a memory (this project's own tagging of 64-bit words).
use Rattle.std.specs.Prelude.{ℕ, zero, suc, ◌+◌, ◌-◌, ◌*◌, ◌/◌, ◌%◌, ◌^◌, ◌==◌, ◌&&◌, nat_lt, nat_le, Bool, true, if◌then◌else◌, Option, Some, None, is_some, option_and_then, unwrap_or, codes, slice_index}
use Rattle.std.specs.Int.{w64, cast_signed}
use Rattle.lisp_base.specs.declared.shapes.Shape.{Shape}
use Rattle.lisp_base.specs.declared.shapes.Shape.TheVariants as shape
use Rattle.lisp_base.specs.declared.values.SymKind.{SymKind}
use Rattle.lisp_base.specs.declared.values.SymKind.TheVariants as symbol_kinds
use Rattle.lisp_base.specs.Shown.{Shown, most_elements}
use Rattle.object_model.specs.declared.kinds.Header.{Header}
use Rattle.object_model.specs.declared.kinds.WordKind.{WordKind}
use Rattle.object_model.specs.declared.kinds.WordKind.TheVariants as word
use Rattle.object_model.specs.declared.ObjKind.{ObjKind}
use Rattle.object_model.specs.declared.ObjKind.TheVariants as kind
use Rattle.object_model.specs.Tags.{Headed, words_of}
use Rattle.object_model.specs.Words.{header_of, word_kind}

-- a memory: the word at each address, none where it can't be read
abbrev pub Memory : Type 0
Memory = ℕ → Option ℕ

-- the word at an address of 64 bits
abbrev pub reach : Memory → ℕ → Option ℕ
reach memory address = if nat_lt address (2 ^ 64) then memory address else None

-- whether so many words from an address on can be read
abbrev pub can_read : Memory → (address count : ℕ) → Bool
can_read memory address zero = true
can_read memory address (suc n) = can_read memory address n && is_some (reach memory (address + 8 * n))

-- the word of NIL, a list pointer
unfoldable pub nil_word : ℕ
nil_word = 0x20000003

-- ---- objects

-- whether a length is one of the kind's
abbrev pub has_length : ObjKind → ℕ → Bool
has_length kind.Vector n = true
has_length kind.String n = true
has_length kind.Boxed n = n == 1
has_length kind.Cell n = n == 1
has_length kind.Function n = nat_le 1 n
has_length kind.Symbol n = n == 4

-- whether the object with this header can be shown: it has a length of its kind, which isn't too great, and all its words can
-- be read
abbrev pub is_whole : Memory → (address : ℕ) → Header → Bool
is_whole memory address h =
    has_length h.kind h.length && (nat_le h.length most_elements && can_read memory address (words_of (Headed h.kind h.length)))

abbrev pub if_whole : Memory → (address : ℕ) → Header → Option Header
if_whole memory address h = if is_whole memory address h then Some h else None

-- the header of the whole object at an address
unfoldable pub object_at : Memory → ℕ → Option Header
object_at memory address = option_and_then (if_whole memory address) (option_and_then header_of (reach memory address))

-- the word at so many bytes behind an address, where it is known to be there
abbrev pub field : Memory → (address bytes : ℕ) → ℕ
field memory address bytes = unwrap_or (reach memory (address + bytes)) 0

-- ---- strings and symbols

-- the length of the string with this header
abbrev pub length_of_string : Header → Option ℕ
length_of_string h = of_kind h.kind h.length
  where
    of_kind : ObjKind → ℕ → Option ℕ
    of_kind kind.Vector n = None
    of_kind kind.String n = Some n
    of_kind kind.Boxed n = None
    of_kind kind.Cell n = None
    of_kind kind.Function n = None
    of_kind kind.Symbol n = None

-- the length of the string to which a word points
abbrev pub string_length : Memory → ℕ → Option ℕ
string_length memory w =
    if w % 8 == 7 then option_and_then length_of_string (object_at memory (w - 7)) else None

-- the kind of a symbol is the fixnum 0, 1 or 2
abbrev pub symbol_kind : ℕ → Option SymKind
symbol_kind w =
    if w == 0 then Some symbol_kinds.Plain else (
    if w == 4 then Some symbol_kinds.Keyword else (
    if w == 8 then Some symbol_kinds.Fresh else None))

abbrev pub symbol_of : Option ℕ → Option SymKind → Shape ℕ
symbol_of (Some n) (Some k) = shape.Sym k n
symbol_of (Some n) None = shape.Bad
symbol_of None k = shape.Bad

-- the symbol whose object stands at an address: its name is the third word behind the header, its kind the fourth
abbrev pub symbol_shape : Memory → ℕ → Shape ℕ
symbol_shape memory address = symbol_of (string_length memory (field memory address 24)) (symbol_kind (field memory address 32))

-- ---- the shapes of words

abbrev pub kind_shape : Memory → ℕ → ObjKind → ℕ → Shape ℕ
kind_shape memory address kind.Vector n = shape.Vector n
kind_shape memory address kind.String n = shape.Str n
kind_shape memory address kind.Boxed n = shape.Int (cast_signed w64 (field memory address 8))
kind_shape memory address kind.Cell n = shape.Bad
kind_shape memory address kind.Function n = shape.Bad
kind_shape memory address kind.Symbol n = symbol_shape memory address

-- the object of a pointer to an object other than a cons and a function
abbrev pub object_shape : Memory → ℕ → Option Header → Shape ℕ
object_shape memory address None = shape.Bad
object_shape memory address (Some h) = kind_shape memory address h.kind h.length

abbrev pub function_of : ObjKind → Shape ℕ
function_of kind.Vector = shape.Bad
function_of kind.String = shape.Bad
function_of kind.Boxed = shape.Bad
function_of kind.Cell = shape.Bad
function_of kind.Function = shape.Fun
function_of kind.Symbol = shape.Bad

abbrev pub function_shape : Option Header → Shape ℕ
function_shape None = shape.Bad
function_shape (Some h) = function_of h.kind

-- two words that can be read are a cons, unless the first one is a header
abbrev pub unless_header : Option Header → ℕ → ℕ → Shape ℕ
unless_header None car cdr = shape.Cons car cdr
unless_header (Some h) car cdr = shape.Bad

abbrev pub cons_shape : Option ℕ → Option ℕ → Shape ℕ
cons_shape (Some car) (Some cdr) = unless_header (header_of car) car cdr
cons_shape (Some car) None = shape.Bad
cons_shape None cdr = shape.Bad

abbrev pub list_shape : Memory → ℕ → Shape ℕ
list_shape memory address = cons_shape (reach memory address) (reach memory (address + 8))

-- the shape of a word of a kind other than NIL
abbrev pub shape_of : Memory → WordKind → Shape ℕ
shape_of memory (word.Fixnum z) = shape.Int z
shape_of memory (word.Function address) = function_shape (object_at memory address)
shape_of memory (word.List address) = list_shape memory address
shape_of memory (word.Object address) = object_shape memory address (object_at memory address)
shape_of memory (word.Character c) = shape.Char c
shape_of memory word.Unbound = shape.Bad
shape_of memory word.NoFunction = shape.Bad
shape_of memory word.Header = shape.Bad
shape_of memory word.Other = shape.Bad

abbrev pub word_shape : Memory → ℕ → Shape ℕ
word_shape memory w = if w == nil_word then shape.Sym symbol_kinds.Plain 3 else shape_of memory (word_kind w)

-- ---- elements and letters

-- the i-th code point of the string at an address: 32 bits each behind the header, two to a word, the first one low
abbrev pub letter_at : Memory → (address i : ℕ) → ℕ
letter_at memory address i = field memory address (8 + i / 2 * 8) / 2 ^ (i % 2 * 32) % 2 ^ 32

-- a string has its own letters, and a symbol those of its name
abbrev pub letter_of : Memory → (address : ℕ) → Option Header → ℕ → ℕ
letter_of memory address None i = 0
letter_of memory address (Some h) i = of_kind h.kind
  where
    of_kind : ObjKind → ℕ
    of_kind kind.Vector = 0
    of_kind kind.String = letter_at memory address i
    of_kind kind.Boxed = 0
    of_kind kind.Cell = 0
    of_kind kind.Function = 0
    of_kind kind.Symbol = letter_at memory (field memory address 24 - 7) i

abbrev pub word_letter : Memory → ℕ → ℕ → ℕ
word_letter memory w i =
    if w == nil_word then slice_index (codes "NIL") i else letter_of memory (w - 7) (object_at memory (w - 7)) i

-- what is shown of the words of a memory
abbrev pub memory_shown : Memory → Shown ℕ
memory_shown memory = record {
  shape = word_shape memory;
  element = λ w i. field memory (w - 7) (8 + 8 * i);
  letter = word_letter memory;
}
