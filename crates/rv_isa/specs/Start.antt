-- The first state, from the bytes of code and statics, the entry and the sizes (this project's: docs/machine.md).
use Rattle.std.specs.Prelude.{ℕ, ◌≡◌, ◌≤◌, ◌<◌, ◌%◌, ◌+◌, ◌-◌, nat_le, if◌then◌else◌, List, [], ◌∷◌, length, slice_index_or, None}
use Rattle.std.specs.Int.{w32, w64, from_le_bytes}
use Rattle.rv_isa.specs.Machine.{Space, State, put, steps}

-- the words of four and of eight bytes, one after another
abbrev pub words32 : List ℕ → List ℕ
words32 (a ∷ b ∷ c ∷ d ∷ bytes) = from_le_bytes w32 (a ∷ b ∷ c ∷ d ∷ []) ∷ words32 bytes
words32 _ = []

abbrev pub words64 : List ℕ → List ℕ
words64 (a ∷ b ∷ c ∷ d ∷ e ∷ f ∷ g ∷ h ∷ bytes) = from_le_bytes w64 (a ∷ b ∷ c ∷ d ∷ e ∷ f ∷ g ∷ h ∷ []) ∷ words64 bytes
words64 _ = []

-- What a run begins with: the bytes of code and statics, the address of the first instruction, and the bytes of the heap and of each stack.
pub record Setup : Type 0 where
  pub code : List ℕ
  pub statics : List ℕ
  pub entry : ℕ
  pub heap : ℕ
  pub stack : ℕ

-- within the limits: code and statics of whole words, an entry in the code, sizes that keep the regions apart
pub record IsSetup (u : Setup) : Type 0 where
  pub some_code : 4 ≤ length u.code
  pub code : length u.code ≤ 0x08000000
  pub code_whole : length u.code % 4 ≡ 0
  pub statics : length u.statics ≤ 0x04000000
  pub statics_whole : length u.statics % 8 ≡ 0
  pub entry_from : 0x00010000 ≤ u.entry
  pub entry_below : u.entry < 0x00010000 + length u.code
  pub entry_whole : u.entry % 4 ≡ 0
  pub some_heap : 16 ≤ u.heap
  pub heap : u.heap ≤ 0x10000000
  pub heap_whole : u.heap % 16 ≡ 0
  pub some_stack : 1024 ≤ u.stack
  pub stack : u.stack ≤ 0x10000000
  pub stack_whole : u.stack % 16 ≡ 0

abbrev pub setup_space : Setup → Space
setup_space u = record { code = words32 u.code; statics = length u.statics; heap = u.heap; stack = u.stack }

abbrev pub first_registers : Setup → ℕ → ℕ
first_registers u =
    put 2 0x70000000 (put 3 0x60000000 (put 4 0x60000000 (
    put 8 0x40000000 (put 9 (0x40000000 + u.heap) (
    put 28 (0x60000000 + u.stack) (put 29 (0x70000000 + u.stack) (
    put 19 0x20000003 (λ r. 0))))))))

-- the words of the statics, and 0 elsewhere
abbrev pub statics_memory : List ℕ → ℕ → ℕ
statics_memory statics k = if nat_le 0x04000000 k then slice_index_or statics (k - 0x04000000) 0 else 0

abbrev pub first_state : Setup → List ℕ → State
first_state u input = record {
  registers = first_registers u;
  pc = u.entry;
  memory = statics_memory (words64 u.statics);
  output = [];
  input = input;
  ending = None;
}

-- the state after k instructions
abbrev pub machine : Setup → List ℕ → ℕ → State
machine u input k = steps (setup_space u) k (first_state u input)
