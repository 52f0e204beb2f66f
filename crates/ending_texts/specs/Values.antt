-- What the value of a word prints as at the end of a run: the text of the tree that it unfolds to in memory, within limits (ANSI Common Lisp 22.1.3; the limits are this project's own).
use Rattle.std.specs.Prelude.{ℕ, List, Option}
use Rattle.lisp_print.specs.declared.printing.Limits.{Limits}
use Rattle.lisp_print.specs.Printing.{word_text as text_within}
use Rattle.object_model.specs.Memory.{memory_shown}

-- how deep, how long and how much in all is printed
abbrev pub limits : Limits
limits = record { level = 20; length = 1000; total = 10000 }

-- in a memory of these words
unfoldable pub word_text : (ℕ → Option ℕ) → ℕ → List ℕ
word_text words word = text_within limits (memory_shown words) word
