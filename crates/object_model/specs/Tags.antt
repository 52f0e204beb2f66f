-- The objects that follow one another in a region of memory, which of them are lawful, and which words are values
-- (this project's own tagging of 64-bit words).
use Rattle.std.specs.Prelude.{◌≡◌, ℕ, zero, suc, ◌+◌, ◌-◌, ◌*◌, ◌/◌, ◌%◌, ◌^◌, ◌<◌, ◌≤◌, ◌⊎◌, List, [], ◌∷◌, Bool, false, ◌==◌, ◌||◌, if◌then◌else◌, IsTrue}
use Rattle.object_model.specs.declared.ObjKind.{ObjKind}
use Rattle.object_model.specs.declared.ObjKind.TheVariants as kind
use Rattle.object_model.specs.Words.{header_word, character_word, unbound_word, no_function_word}
pub use Rattle.object_model.specs.Words.{is_character}

-- The lengths of the regions in bytes. They begin at 0x00010000 (code), 0x20000000 (statics), 0x40000000 (heap)
-- and 0x60000000 (control stack).
pub record Layout : Type 0 where
  pub code : ℕ
  pub statics : ℕ
  pub heap : ℕ
  pub stack : ℕ

-- the word at an address, where the memory has a word of eight bytes at each index
abbrev pub word_at : (ℕ → ℕ) → ℕ → ℕ
word_at memory address = memory (address / 8)

-- an object: a list cell, or one with a header, of a kind and a length
pub data Object : Type 0 where
  Pair : Object
  Headed : (kind : ObjKind) (length : ℕ) → Object

-- the words that it has in all
abbrev pub words_of : Object → ℕ
words_of Pair = 2
words_of (Headed kind.Vector n) = 1 + n
words_of (Headed kind.String n) = 1 + (n + 1) / 2
words_of (Headed kind.Boxed n) = 2
words_of (Headed kind.Cell n) = 2
words_of (Headed kind.Function n) = 1 + n
words_of (Headed kind.Symbol n) = 5

-- the low bits of a pointer to it
abbrev pub tag_of : Object → ℕ
tag_of Pair = 3
tag_of (Headed kind.Vector n) = 7
tag_of (Headed kind.String n) = 7
tag_of (Headed kind.Boxed n) = 7
tag_of (Headed kind.Cell n) = 7
tag_of (Headed kind.Function n) = 1
tag_of (Headed kind.Symbol n) = 7

-- whether a word is a header: its low eight bits are a kind
abbrev pub is_header : ℕ → Bool
is_header w =
    (w % 256 == 6) || ((w % 256 == 14) || ((w % 256 == 22) || ((w % 256 == 30) || ((w % 256 == 38) || (w % 256 == 54)))))

-- the object that its first word begins
abbrev pub Begins : ℕ → Object → Type 0
Begins w Pair = is_header w ≡ false
Begins w (Headed k n) = w ≡ header_word k n

-- these objects follow one another from an address to another
abbrev pub Walk : (ℕ → ℕ) → ℕ → ℕ → List Object → Type 0
Walk memory a end [] = a ≡ end
Walk memory a end (o ∷ os) = Begins (word_at memory a) o × Walk memory (a + 8 * words_of o) end os

-- one of the objects that follow one another from a stands at p
abbrev pub Starts : List Object → ℕ → ℕ → Object → Type 0
Starts [] a p q = ⊥
Starts (o ∷ os) a p q = ((a ≡ p) × (o ≡ q)) ⊎ Starts os (a + 8 * words_of o) p q

-- A word that may stand where a value stands: a small integer, a character, a marker, or a pointer whose tag fits an
-- object that starts there.
pub data IsDescriptor (statics heap : List Object) (w : ℕ) : Type 0 where
  fixnum : w % 4 ≡ 0 → IsDescriptor statics heap w
  character : (c : ℕ) → IsTrue (is_character c) → w ≡ character_word c → IsDescriptor statics heap w
  unbound : w ≡ unbound_word → IsDescriptor statics heap w
  no_function : w ≡ no_function_word → IsDescriptor statics heap w
  in_statics : (p : ℕ) (o : Object) → Starts statics 0x20000000 p o → w ≡ p + tag_of o → IsDescriptor statics heap w
  in_heap : (p : ℕ) (o : Object) → Starts heap 0x40000000 p o → w ≡ p + tag_of o → IsDescriptor statics heap w

-- the n words from an address on
abbrev pub EachWord : (ℕ → Type 0) → (ℕ → ℕ) → ℕ → ℕ → Type 0
EachWord P memory a zero = Unit {0}
EachWord P memory a (suc n) = P (word_at memory a) × EachWord P memory (a + 8) n

-- the words of an object that hold values
abbrev pub HoldsValues : (ℕ → Type 0) → (ℕ → ℕ) → ℕ → Object → Type 0
HoldsValues P memory a Pair = EachWord P memory a 2
HoldsValues P memory a (Headed kind.Vector n) = EachWord P memory (a + 8) n
HoldsValues P memory a (Headed kind.String n) = Unit {0}
HoldsValues P memory a (Headed kind.Boxed n) = Unit {0}
HoldsValues P memory a (Headed kind.Cell n) = EachWord P memory (a + 8) 1
HoldsValues P memory a (Headed kind.Function n) = EachWord P memory (a + 16) (n - 1)
HoldsValues P memory a (Headed kind.Symbol n) = EachWord P memory (a + 8) 4

-- the i-th code point of the string at an address
abbrev pub letter_at : (ℕ → ℕ) → ℕ → ℕ → ℕ
letter_at memory a i = word_at memory (a + 8 + 8 * (i / 2)) / (if i % 2 == 0 then 1 else 2 ^ 32) % 2 ^ 32

-- An object within the laws of its kind: a fixed length; an integer in a box is too large for a tagged word; a
-- function's code address is that of an instruction; a string has characters, and 0 as padding.
abbrev pub IsObject : ℕ → (ℕ → ℕ) → ℕ → Object → Type 0
IsObject code memory a Pair = Unit {0}
IsObject code memory a (Headed kind.Vector n) = Unit {0}
IsObject code memory a (Headed kind.String n) =
    ((i : ℕ) → i < n → IsTrue (is_character (letter_at memory a i))) × (n % 2 ≡ 1 → letter_at memory a n ≡ 0)
IsObject code memory a (Headed kind.Boxed n) =
    (n ≡ 1) × (2 ^ 61 ≤ word_at memory (a + 8)) × (word_at memory (a + 8) < 2 ^ 64 - 2 ^ 61)
IsObject code memory a (Headed kind.Cell n) = n ≡ 1
IsObject code memory a (Headed kind.Function n) =
    (1 ≤ n) × (word_at memory (a + 8) % 4 ≡ 0) × (0x00010000 ≤ word_at memory (a + 8)) × (word_at memory (a + 8) < 0x00010000 + code)
IsObject code memory a (Headed kind.Symbol n) = n ≡ 4

-- each of the objects that follow one another from an address, with its address
abbrev pub EachObject : (ℕ → Object → Type 0) → ℕ → List Object → Type 0
EachObject P a [] = Unit {0}
EachObject P a (o ∷ os) = P a o × EachObject P (a + 8 * words_of o) os

abbrev pub EachOf : (ℕ → Type 0) → List ℕ → Type 0
EachOf P [] = Unit {0}
EachOf P (w ∷ ws) = P w × EachOf P ws

-- what stands in the registers that hold values: x10 to x15 and x18 to x25
abbrev pub descriptors : (ℕ → ℕ) → List ℕ
descriptors f =
    f 10 ∷ f 11 ∷ f 12 ∷ f 13 ∷ f 14 ∷ f 15 ∷ f 18 ∷ f 19 ∷ f 20 ∷ f 21 ∷ f 22 ∷ f 23 ∷ f 24 ∷ f 25 ∷ []

-- Registers and memory that hold values alone where values stand. x3 is the control stack pointer, x8 the end of the
-- objects in the heap.
pub record WellTagged (layout : Layout) (registers memory : ℕ → ℕ) : Type 0 where
  pub statics : List Object
  pub heap : List Object
  pub walk_of_statics : Walk memory 0x20000000 (0x20000000 + layout.statics) statics
  pub walk_of_heap : Walk memory 0x40000000 (registers 8) heap
  pub heap_pointer : registers 8 ≤ 0x40000000 + layout.heap
  pub stack_pointer_above : 0x60000000 ≤ registers 3
  pub stack_pointer_below : registers 3 ≤ 0x60000000 + layout.stack
  pub lawful_statics : EachObject (IsObject layout.code memory) 0x20000000 statics
  pub lawful_heap : EachObject (IsObject layout.code memory) 0x40000000 heap
  pub in_registers : EachOf (IsDescriptor statics heap) (descriptors registers)
  pub in_statics : EachObject (HoldsValues (IsDescriptor statics heap) memory) 0x20000000 statics
  pub in_heap : EachObject (HoldsValues (IsDescriptor statics heap) memory) 0x40000000 heap
  pub on_stack : (a : ℕ) → a % 8 ≡ 0 → 0x60000000 ≤ a → a < registers 3 → IsDescriptor statics heap (word_at memory a)
