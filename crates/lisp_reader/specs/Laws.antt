-- Each file has forms, in one way, or one refusal, and never both (this project's own).
use Rattle.std.specs.Prelude.{◌≡◌, ℕ, List, ◌⊎◌}
use Rattle.lisp_reader.specs.Building.{Stock}
use Rattle.lisp_reader.specs.declared.forms.TopRead.{TopRead}
use Rattle.lisp_reader.specs.Reading.{Refusal}
use Rattle.lisp_reader.specs.Answers.{Reads, IsRefusedAt}

pub record HasOneAnswer (bytes : List ℕ) (before : Stock) : Type 0 where
  pub some : ((a : List TopRead × Stock) × Reads bytes before a) ⊎ ((r : Refusal) × IsRefusedAt bytes before r)
  pub one_reading : (a b : List TopRead × Stock) → Reads bytes before a → Reads bytes before b → a ≡ b
  pub one_refusal : (q r : Refusal) → IsRefusedAt bytes before q → IsRefusedAt bytes before r → q ≡ r
  pub not_both : (a : List TopRead × Stock) (r : Refusal) → Reads bytes before a → IsRefusedAt bytes before r → ⊥

abbrev pub EachFileHasOneAnswer : Type 0
EachFileHasOneAnswer = (bytes : List ℕ) (before : Stock) → HasOneAnswer bytes before
