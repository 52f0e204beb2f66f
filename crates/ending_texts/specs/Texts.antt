-- The texts of a value and of an error, in a state of the machine that runs an image.
use Rattle.std.specs.Prelude.{ℕ, List}
use Rattle.image.specs.Content.{Content}
use Rattle.rv_isa.specs.Machine.{Space, State}
use Rattle.ending_texts.specs.Words.{words}
use Rattle.ending_texts.specs.Values.{word_text}
use Rattle.ending_texts.specs.Errors.{fault_text}

-- what a word prints as
abbrev pub value_text : Space → State → ℕ → List ℕ
value_text space state word = word_text (words space state.memory) word

-- what an error prints as: its kind, its data, and the address of the call that ended the machine
abbrev pub error_text : Content → Space → State → ℕ → ℕ → ℕ → ℕ → ℕ → List ℕ
error_text image space state kind a b c pc = fault_text (words space state.memory) image.debug kind a b c pc
