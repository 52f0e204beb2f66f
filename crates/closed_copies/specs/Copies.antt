-- The number of closed copies of a top-level form: what the functions that it makes and calls close over. (This project's own.)
use Rattle.std.specs.Prelude.{ℕ, ◌+◌, List, [], ◌∷◌, length, Option, Some, None, nat_le, if◌then◌else◌}
use Rattle.core_form.specs.Tree.{Core, Function, CallLocal, FunLocal}
use Rattle.core_form.specs.Facts.{lookup, FunctionText, Names, at_nodes, on_local, closed_in, names_in}

abbrev pub total : List ℕ → ℕ
total [] = 0
total (n ∷ ns) = n + total ns

-- how many closed variables a function has
abbrev pub closed_number : Names → FunctionText → ℕ
closed_number ns f = length (closed_in ns f)

-- the same of the local function of a number, if there is one
abbrev pub local_number : Names → (function : ℕ) → List ℕ
local_number ns k = on_local (λ f. closed_number ns f ∷ []) (lookup k ns.functions)

-- what a node copies: a local function is taken or called, another function is made
abbrev pub copied : Names → Core → List ℕ
copied ns (Function p l) = closed_number ns (record { name = None; place = p; lambda = l }) ∷ []
copied ns (FunLocal p k) = local_number ns k
copied ns (CallLocal p k es) = local_number ns k
copied ns _ = []

unfoldable pub closed_copies : Core → ℕ
closed_copies e = total (at_nodes (copied (names_in e)) e)

-- a number where it is not above a limit
abbrev pub within : (most n : ℕ) → Option ℕ
within most n = if nat_le n most then Some n else None
