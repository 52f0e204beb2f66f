-- Laws of layers, as the contracts of this crate state them.
use Rattle.std.specs.Prelude.{ℕ, suc, ◌<◌}
use Rattle.layers.specs.Input.{Input}
use Rattle.layers.specs.Layer.{Layer, IsLawful, IsNeverFull, IsNeverAstray}
use Rattle.layers.specs.Keeping.{Keeps}
use Rattle.layers.specs.Fuel.{IsByFuel, FollowsByFuel, RisesBy}
use Rattle.layers.specs.Simulation.{Simulates}
use Rattle.layers.specs.Pace.{IsPaced, ShowsNothingElse, KeepsPace}

-- ---- keeping

-- a layer that is never full keeps its own meaning
abbrev pub KeepsItself : Type 0
KeepsItself = (heap stack : ℕ) (a : Layer) → IsNeverFull a → Keeps heap stack a a

-- keeping composes where the layer between is never full
abbrev pub KeepsComposes : Type 0
KeepsComposes =
    (heap stack : ℕ) (a b c : Layer) → IsNeverFull b → Keeps heap stack a b → Keeps heap stack b c → Keeps heap stack a c

-- so does keeping from each layer to the next of any number
abbrev pub KeepsAlong : Type 0
KeepsAlong =
    (heap stack : ℕ) (count : ℕ) (layers : ℕ → Layer) → ((m : ℕ) → IsNeverFull (layers m)) →
    ((m : ℕ) → m < count → Keeps heap stack (layers m) (layers (suc m))) → Keeps heap stack (layers 0) (layers count)

-- a layer that is never full and keeps a meaning with one size of heap and stacks keeps it with each
abbrev pub KeepsAtEachSize : Type 0
KeepsAtEachSize =
    (heap stack heap' stack' : ℕ) (a b : Layer) → IsNeverFull b → Keeps heap stack a b → Keeps heap' stack' a b

-- where what is meant never goes astray, what keeps it doesn't
abbrev pub NeverAstrayKept : Type 0
NeverAstrayKept = (heap stack : ℕ) (a b : Layer) → IsNeverAstray a → Keeps heap stack a b → IsNeverAstray b

-- ---- ways to show it

abbrev pub KeepsOfFollows : Type 0
KeepsOfFollows =
    (heap stack : ℕ) (a b : Layer) → IsByFuel a → IsLawful b → IsNeverFull b → FollowsByFuel a b → Keeps heap stack a b

abbrev pub KeepsOfSimulation : Type 0
KeepsOfSimulation =
    (heap stack : ℕ) (a b : Layer) → IsLawful b → ((i : Input) → Simulates heap stack (a i) (b i)) → Keeps heap stack a b

-- ---- a machine that keeps a program

abbrev pub ShowsNothingElseOfKeeps : Type 0
ShowsNothingElseOfKeeps =
    (nodes heap stack : ℕ) (program machine : Layer) → IsByFuel program → RisesBy nodes machine →
    Keeps heap stack program machine → ShowsNothingElse nodes heap stack program machine

abbrev pub KeepsPaceOfKeeps : Type 0
KeepsPaceOfKeeps =
    (heap stack : ℕ) (program machine : Layer) → IsLawful machine → IsPaced machine →
    Keeps heap stack program machine → KeepsPace program machine
