-- What a run begins with, and the limits of the sizes of heap and stacks (this project's).
use Rattle.std.specs.Prelude.{ℕ, ◌≡◌, ◌≤◌, ◌%◌, List}
use Rattle.rv_isa.specs.Start.{Setup}

-- the bytes of the heap, and of each stack
pub record AreSizes (heap stack : ℕ) : Type 0 where
  pub some_heap : 16 ≤ heap
  pub heap_limit : heap ≤ 268435456
  pub heap_whole : heap % 16 ≡ 0
  pub some_stack : 1024 ≤ stack
  pub stack_limit : stack ≤ 268435456
  pub stack_whole : stack % 16 ≡ 0

-- code, statics and entry with these sizes
abbrev pub setup : List ℕ → List ℕ → ℕ → ℕ → ℕ → Setup
setup code statics entry heap stack = record { code = code; statics = statics; entry = entry; heap = heap; stack = stack }
