-- That one code keeps what another means in every place among other codes, and so list by list (this project's own).
use Rattle.std.specs.Prelude.{ℕ, List, [], ◌∷◌, ◌++◌}
use Rattle.layers.specs.Layer.{Layer, IsNeverFull}
use Rattle.layers.specs.Keeping.{Keeps}

-- what codes of one type mean together, of which the first are those of the prelude, so many
abbrev pub Together : Type 0 → Type 0
Together C = (prelude : ℕ) → List C → Layer

-- no list of such codes is ever full
abbrev pub AreNeverFull : {C : Type 0} → Together C → Type 0
AreNeverFull together = (prelude : ℕ) (codes : List _) → IsNeverFull (together prelude codes)

-- One code keeps the meaning of another in every place among any others, with heaps and stacks of every size.
abbrev pub KeepsAmong : {C : Type 0} → Together C → C → C → Type 0
KeepsAmong together c d =
    (prelude : ℕ) (before after : List _) (heap stack : ℕ) →
    Keeps heap stack (together prelude (before ++ c ∷ after)) (together prelude (before ++ d ∷ after))

-- two lists of one length, related place by place
abbrev pub Each : {C D : Type 0} → (C → D → Type 0) → List C → List D → Type 0
Each R [] [] = Unit {0}
Each R [] (d ∷ ds) = ⊥
Each R (c ∷ cs) [] = ⊥
Each R (c ∷ cs) (d ∷ ds) = R c d × Each R cs ds

-- ---- codes of two types, of which R says which is made of which

-- all lists of codes keep the meaning of what they are made of
abbrev pub AllKeep : {C D : Type 0} → Together C → Together D → (C → D → Type 0) → Type 0
AllKeep above below R =
    (prelude : ℕ) (cs : List _) (ds : List _) → Each R cs ds → (heap stack : ℕ) → Keeps heap stack (above prelude cs) (below prelude ds)

-- one code keeps the meaning of the one that it is made of, in every place among others that are made so
abbrev pub KeepsAcross : {C D : Type 0} → Together C → Together D → (C → D → Type 0) → C → D → Type 0
KeepsAcross above below R c d =
    (prelude : ℕ) (before after : List _) (before' after' : List _) → Each R before before' → Each R after after' → (heap stack : ℕ) →
    Keeps heap stack (above prelude (before ++ c ∷ after)) (below prelude (before' ++ d ∷ after'))

-- made in two steps
abbrev pub Then : {C D E : Type 0} → (C → D → Type 0) → (D → E → Type 0) → C → E → Type 0
Then R Q c e = (d : _) × R c d × Q d e
