-- What is seen of a run at one moment, the same for a program, its graphs, its code and its image (this project's own).
use Rattle.std.specs.Prelude.{◌≡◌, ℕ, ◌≤◌, ◌<◌, ◌⊎◌, List, ◌++◌, Option}
use Rattle.lisp_base.specs.Seen.{Tree}

-- a value as it is seen: its tree to each depth, so that values are alike where their looks are equal
abbrev pub Look : Type 0
Look = ℕ → Tree

-- the kind of an error
pub data ErrorKind : Type 0 where
  TypeError Index Overflow ZeroDivide Unbound Undefined Arguments Control EndOfFile Simple : ErrorKind

-- the form that signals: in the file by its offset and its number of CDRs, or in the prelude function of a name, in UTF-8
pub data FormPlace : Type 0 where
  InFile : (offset tail : ℕ) → FormPlace
  InPrelude : (function : List ℕ) → FormPlace

-- How a run ends: with a value; or with an error, of which are seen its kind, its data in order, the text of the
-- operation or of the expected type, in UTF-8, where its kind has one, and its place. Astray is an end without a meaning.
pub data End : Type 0 where
  Value : Look → End
  Error : (kind : ErrorKind) → (shown : List Look) → (text : Option (List ℕ)) → (place : FormPlace) → End
  Astray : End

-- how a run stands: it goes on, it has ended, or its heap or a stack is full
pub data Status : Type 0 where
  Runs HeapFull StackFull : Status
  Ended : End → Status

-- What is seen: the characters written, how the run stands, the source's fuel that was taken, and what the source needs so
-- far of work, of heap and of stack, both in bytes.
pub record Seen : Type 0 where
  pub output : List ℕ
  pub status : Status
  pub fuel : ℕ
  pub work : ℕ
  pub heap : ℕ
  pub stack : ℕ

abbrev pub Begins : (beginning whole : List ℕ) → Type 0
Begins beginning whole = (rest : List ℕ) × (whole ≡ beginning ++ rest)

abbrev pub IsFull : Seen → Type 0
IsFull s = (s.status ≡ HeapFull) ⊎ (s.status ≡ StackFull)

-- a shows all that b shows; where b has ended, a has ended alike with the same output
pub record Shows (a b : Seen) : Type 0 where
  pub output : Begins b.output a.output
  pub ending : (e : End) → b.status ≡ Ended e → (a.status ≡ Ended e) × (a.output ≡ b.output)

-- a needs at least what b needs
pub record NeedsNoLess (a b : Seen) : Type 0 where
  pub work : b.work ≤ a.work
  pub heap : b.heap ≤ a.heap
  pub stack : b.stack ≤ a.stack

-- a run that was seen as a is seen as b later
pub record IsLater (a b : Seen) : Type 0 where
  pub output : Begins a.output b.output
  pub fuel : a.fuel ≤ b.fuel
  pub needs : NeedsNoLess b a

-- What b shows, a shows with the same fuel and with needs that are no less. With a heap of so many bytes and stacks of so
-- many bytes b is full only where a needs more.
pub record Covers (heap stack : ℕ) (a b : Seen) : Type 0 where
  pub shows : Shows a b
  pub fuel : a.fuel ≡ b.fuel
  pub needs : NeedsNoLess a b
  pub heap_full : b.status ≡ HeapFull → heap < a.heap
  pub stack_full : b.status ≡ StackFull → stack < a.stack

-- b shows what a shows, with the same fuel
pub record Repeats (a b : Seen) : Type 0 where
  pub shows : Shows b a
  pub fuel : a.fuel ≡ b.fuel

-- b has come to what a shows, or was full before; until then it needs no more
pub record ComesTo (a b : Seen) : Type 0 where
  pub comes : Repeats a b ⊎ IsFull b
  pub needs : NeedsNoLess a b
