-- What a later state of a run has over an earlier one, and what more fuel changes and leaves. (This project's own.)
use Rattle.std.specs.Prelude.{◌≡◌, ℕ, ◌≤◌, List, ◌++◌}
use Rattle.core_form.specs.State.{Counts, State}
use Rattle.core_form.specs.Run.{Outcome, Gives, Leaves, Fails, NotYet}
use Rattle.core_form.specs.Eval.{state_of}

-- no counter falls
pub record CountsGrow (a b : Counts) : Type 0 where
  pub cost : a.cost ≤ b.cost
  pub heap_words : a.heap_words ≤ b.heap_words
  pub boxes : a.boxes ≤ b.boxes
  pub boxes_outside_words : a.boxes_outside_words ≤ b.boxes_outside_words
  pub stack_words : a.stack_words ≤ b.stack_words
  pub held : a.held ≤ b.held
  pub begun : a.begun ≤ b.begun
  pub extra : a.extra ≤ b.extra
  pub looked : a.looked ≤ b.looked
  pub walked : a.walked ≤ b.walked

-- a later state has written more and counted more, and has taken no less fuel
pub record Grows (a b : State) : Type 0 where
  pub output : (written : List ℕ) × (b.output ≡ written ++ a.output)
  pub counts : CountsGrow a.counts b.counts
  pub taken : a.taken ≤ b.taken

-- what can be seen of that, whatever fuel was taken
pub record Shown (a b : State) : Type 0 where
  pub output : (written : List ℕ) × (b.output ≡ written ++ a.output)
  pub counts : CountsGrow a.counts b.counts

-- within a higher limit the same ending in the same state, or at least what was shown
abbrev pub Reaches : {A : Type 0} → Outcome A → Outcome A → Type 0
Reaches (Gives a s) o = o ≡ Gives a s
Reaches (Leaves e s) o = o ≡ Leaves e s
Reaches (Fails x p s) o = o ≡ Fails x p s
Reaches (NotYet s) o = Shown s (state_of o)
