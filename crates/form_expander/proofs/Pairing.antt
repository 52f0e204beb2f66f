-- Variables beside forms, as many of each.
use Rattle.std.specs.Prelude.{List, suc}
use Rattle.std.proofs.Common.{◌≡◌, [], ◌∷◌, Some, None, length, refl, ap, arith}
use Rattle.std.specs.List.{zip}
use Rattle.std.specs.Option.{option_map}
use Rattle.lisp_base.specs.declared.values.SymId.{SymId}
use Rattle.lisp_base.specs.declared.values.Val.{Val}
use Rattle.expansion.specs.Forms.{paired}

pub paired_zip : (ss : List SymId) (vs : List Val) → length ss ≡ length vs → paired ss vs ≡ Some (zip ss vs)
paired_zip [] [] h = refl
paired_zip [] (v ∷ vs) h = absurd (omega arith)
paired_zip (s ∷ ss) [] h = absurd (omega arith)
paired_zip (s ∷ ss) (v ∷ vs) h = ap (option_map (λ (ps : List (SymId × Val)). (s, v) ∷ ps)) (paired_zip ss vs (omega arith))

pub unpaired : (ss : List SymId) (vs : List Val) → (length ss ≡ length vs → ⊥) → paired ss vs ≡ None
unpaired [] [] h = absurd (h refl)
unpaired [] (v ∷ vs) h = refl
unpaired (s ∷ ss) [] h = refl
unpaired (s ∷ ss) (v ∷ vs) h = ap (option_map (λ (ps : List (SymId × Val)). (s, v) ∷ ps)) (unpaired ss vs (λ e. h (ap suc e)))
