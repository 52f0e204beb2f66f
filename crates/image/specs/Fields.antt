-- Reading a file from left to right, with its first fault. Each reader is given the end, the length of
-- the file or the end of a section in it, and what is left there; so a field begins at the end less the
-- bytes that are left.
use Rattle.std.specs.Prelude.{◌≡◌, ℕ, ◌-◌, Bool, List, length, take, drop, Option, Some, None, Result, Ok, Err, nat_lt, if◌then◌else◌}
use Rattle.std.specs.Int.{Width, byte_len, from_le_bytes}
use Rattle.image.specs.declared.fault.ImageKind.{ImageKind}
use Rattle.image.specs.declared.fault.ImageKind.TheVariants as kinds
use Rattle.image.specs.declared.fault.ImageFault.{ImageFault}
use Rattle.image.specs.declared.fault.ImageFault.TheVariants as faults

-- what is wrong, and where
pub record Fault : Type 0 where
  pub offset : ℕ
  pub kind : ImageKind

infixl 10 ◌>>=◌
abbrev pub ◌>>=◌ : {A B : Type 0} → Result A Fault → (A → Result B Fault) → Result B Fault
(Ok x) >>= f = f x
(Err e) >>= f = Err e

abbrev pub fault : {A : Type 0} → ℕ → ImageKind → Result A Fault
fault offset kind = Err (record { offset = offset; kind = kind })

-- What a function returned, seen by view, is what reading gives, unless memory ran out.
abbrev pub Fails : {Y : Type 0} → ImageFault → Result Y Fault → Type 0
Fails faults.Memory read = Unit {0}
Fails (faults.Bad offset kind) read = read ≡ fault offset kind

abbrev pub Gives : {X Y : Type 0} → (X → Y) → Result X ImageFault → Result Y Fault → Type 0
Gives view (Ok x) read = read ≡ Ok (view x)
Gives view (Err e) read = Fails e read

-- a number at the front, and the bytes behind it
abbrev pub number : Width → List ℕ → Option (ℕ × List ℕ)
number w rest = if nat_lt (length rest) (byte_len w) then None else Some (from_le_bytes w (take (byte_len w) rest), drop (byte_len w) rest)

-- a field is tested once it is whole
abbrev pub tested : (ℕ → Bool) → ImageKind → ℕ → List ℕ → Option (ℕ × List ℕ) → Result (ℕ × List ℕ) Fault
tested is_right kind end rest None = fault end kinds.Short
tested is_right kind end rest (Some n) = if is_right n.0 then Ok n else fault (end - length rest) kind

unfoldable pub field : Width → (ℕ → Bool) → ImageKind → ℕ → List ℕ → Result (ℕ × List ℕ) Fault
field w is_right kind end rest = tested is_right kind end rest (number w rest)

-- so many bytes, and those behind them
unfoldable pub part : ℕ → ℕ → List ℕ → Result (List ℕ × List ℕ) Fault
part size end rest = if nat_lt (length rest) size then fault end kinds.Short else Ok (take size rest, drop size rest)
