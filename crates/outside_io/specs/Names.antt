-- What a store gives of its names, and what it makes a name hold.
use Rattle.std.specs.Prelude.{◌≡◌, ◌≢◌, ℕ, List, take, Option, Some, None, IfSome, Bool, true, false}
use Rattle.outside_io.specs.Views.{Names}
use Rattle.outside_io.specs.declared.Got.{Got}
use Rattle.outside_io.specs.declared.Got.TheVariants as got
use Rattle.outside_io.specs.declared.SetAnswer.{SetAnswer}
use Rattle.outside_io.specs.declared.SetAnswer.TheVariants as answer

abbrev pub is_failed_get : Got → Bool
is_failed_get (got.Bytes bytes) = false
is_failed_get got.Absent = false
is_failed_get got.Failed = true
is_failed_get got.Memory = false

abbrev pub is_failed_set : SetAnswer → Bool
is_failed_set answer.Set = false
is_failed_set answer.Failed = true
is_failed_set answer.Memory = false

-- the first bytes of what a name holds
abbrev pub cut : ℕ → Option (List ℕ) → Option (List ℕ)
cut limit None = None
cut limit (Some bytes) = Some (take limit bytes)

-- what a get shows of the names
abbrev pub Gives : Option Names → Got → List ℕ → ℕ → Type 0
Gives names (got.Bytes bytes) name limit = IfSome names (λ n. cut limit (n name) ≡ Some bytes.items)
Gives names got.Absent name limit = IfSome names (λ n. cut limit (n name) ≡ None)
Gives names got.Failed name limit = Unit {0}
Gives names got.Memory name limit = Unit {0}

-- other names hold what they held, and the name is as said
pub record Changes (old new : Names) (name : List ℕ) (P : Option (List ℕ) → Type 0) : Type 0 where
  pub there : P (new name)
  pub others : (other : List ℕ) → other ≢ name → new other ≡ old other

-- a store that tells its names tells them afterwards too
abbrev pub ChangesTold : Option Names → Option Names → List ℕ → (Option (List ℕ) → Type 0) → Type 0
ChangesTold None new name P = Unit {0}
ChangesTold (Some old) None name P = ⊥
ChangesTold (Some old) (Some new) name P = Changes old new name P

-- the name holds the bytes; after a fault it holds anything, and for want of memory what it held
abbrev pub Sets : Option Names → Option Names → SetAnswer → List ℕ → List ℕ → Type 0
Sets old new answer.Set name bytes = ChangesTold old new name (λ held. held ≡ Some bytes)
Sets old new answer.Failed name bytes = ChangesTold old new name (λ held. Unit {0})
Sets old new answer.Memory name bytes = new ≡ old
