-- How bytes move out of a source and into a sink.
use Rattle.std.specs.Prelude.{◌≡◌, ℕ, ◌<◌, ◌≤◌, List, [], take, length, IfSome, Bool, true, false}
use Rattle.outside_io.specs.Views.{Fed, Sunk, gained, untaken}
use Rattle.outside_io.specs.declared.Took.{Took}
use Rattle.outside_io.specs.declared.Took.TheVariants as took
use Rattle.outside_io.specs.declared.Put.{Put}
use Rattle.outside_io.specs.declared.Put.TheVariants as puts

abbrev pub is_failed_take : Took → Bool
is_failed_take (took.Bytes n) = false
is_failed_take took.End = false
is_failed_take took.Failed = true

abbrev pub is_failed_put : Put → Bool
is_failed_put (puts.Bytes n) = false
is_failed_put puts.Failed = true
is_failed_put puts.Memory = false

abbrev pub is_memory_put : Put → Bool
is_memory_put (puts.Bytes n) = false
is_memory_put puts.Failed = false
is_memory_put puts.Memory = true

-- the bytes taken stand at the front of the buffer; End comes only where none is left
abbrev pub Moves : Fed → Fed → Took → List ℕ → Type 0
Moves old new (took.Bytes n) buffer = (0 < n) × (n ≤ length buffer) × (old.left ≡ untaken (take n buffer) new.left)
Moves old new took.End buffer = IfSome old.left (λ left. left ≡ []) × (new.left ≡ old.left)
Moves old new took.Failed buffer = new.left ≡ old.left

-- the front of the piece is gained, and nothing where the put fails
abbrev pub Puts : Sunk → Sunk → Put → List ℕ → Type 0
Puts old new (puts.Bytes n) piece = (n ≤ length piece) × (0 < length piece → 0 < n) × (new.held ≡ gained old.held (take n piece))
Puts old new puts.Failed piece = new.held ≡ old.held
Puts old new puts.Memory piece = new.held ≡ old.held
