-- Scopes within others: what was added to a scope stands behind what was there (this project's own).
use Rattle.std.specs.Prelude.{◌≡◌, List, take, length}
use Rattle.expansion.specs.Scopes.{Scope}

-- a list that begins with another
abbrev pub Continues : {A : Type 0} → List A → List A → Type 0
Continues xs ys = take (length xs) ys ≡ xs

pub record Extends (old new : Scope) : Type 0 where
  pub fixed : new.is_fixed ≡ old.is_fixed
  pub variables : Continues old.variables new.variables
  pub checks : Continues old.checks new.checks
  pub functions : Continues old.functions new.functions
  pub blocks : Continues old.blocks new.blocks
  pub tags : Continues old.tags new.tags
