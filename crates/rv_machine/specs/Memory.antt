-- The memory that may be written, as the words at eighths of their addresses.
use Rattle.std.specs.Prelude.{ℕ, ◌+◌, ◌-◌, ◌*◌, ◌/◌, ◌<◌, ◌≤◌, nat_lt, if◌then◌else◌, List, [], length, slice_index_or, Option, Some, None}
use Rattle.rv_isa.specs.Machine.{Space, put, is_writable, with_bytes}
use Rattle.rv_machine.specs.declared.regions.Regions.{Regions}
use Rattle.rv_machine.specs.declared.regions.Region.{Region}
use Rattle.rv_machine.specs.declared.regions.Region.TheVariants as region
use Rattle.rv_machine.specs.declared.regions.Slot.{Slot}

-- The word at an index, which is an eighth of its address, from the words of the regions. It is 0 outside them.
abbrev pub word_among : List ℕ → List ℕ → List ℕ → List ℕ → ℕ → ℕ
word_among statics heap control number k =
    if nat_lt k 0x04000000 then 0 else (
    if nat_lt k 0x08000000 then slice_index_or statics (k - 0x04000000) 0 else (
    if nat_lt k 0x0c000000 then slice_index_or heap (k - 0x08000000) 0 else (
    if nat_lt k 0x0e000000 then slice_index_or control (k - 0x0c000000) 0 else
    slice_index_or number (k - 0x0e000000) 0)))

abbrev pub memory_of : Regions → ℕ → ℕ
memory_of m = word_among m.statics.items m.heap.items m.control.items m.number.items

-- the lengths of the regions in bytes, around this code
abbrev pub space_around : List ℕ → Regions → Space
space_around code m = record {
  code = code;
  statics = 8 * length m.statics.items;
  heap = 8 * length m.heap.items;
  stack = 8 * length m.control.items;
}

-- these lengths alone
abbrev pub data_space : Regions → Space
data_space m = space_around [] m

abbrev pub words_of : Regions → Region → List ℕ
words_of m region.Statics = m.statics.items
words_of m region.Heap = m.heap.items
words_of m region.Control = m.control.items
words_of m region.Number = m.number.items

-- the address at which a region starts
abbrev pub region_start : Region → ℕ
region_start region.Statics = 0x20000000
region_start region.Heap = 0x40000000
region_start region.Control = 0x60000000
region_start region.Number = 0x70000000

-- the address is at or behind the start of this region, and before that of the next
abbrev pub IsRegionOf : ℕ → Option Region → Type 0
IsRegionOf a None = a < 0x20000000
IsRegionOf a (Some region.Statics) = (0x20000000 ≤ a) × (a < 0x40000000)
IsRegionOf a (Some region.Heap) = (0x40000000 ≤ a) × (a < 0x60000000)
IsRegionOf a (Some region.Control) = (0x60000000 ≤ a) × (a < 0x70000000)
IsRegionOf a (Some region.Number) = 0x70000000 ≤ a

-- the index of the word of a slot, as an eighth of its address
abbrev pub slot_word : Slot → ℕ
slot_word s = region_start s.region / 8 + s.index

-- the region has this slot
abbrev pub HasSlot : Regions → Slot → Type 0
HasSlot m s = s.index < length (words_of m s.region)

-- the memory after a store of n bytes, which changes it only where it may be written
abbrev pub stored : Space → ℕ → ℕ → ℕ → (ℕ → ℕ) → ℕ → ℕ
stored space address n v memory =
    if is_writable space address n then put (address / 8) (with_bytes (memory (address / 8)) address n v) memory else memory
