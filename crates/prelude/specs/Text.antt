-- The Lisp text that defines the prelude's functions. This project's own.
use Rattle.std.specs.Prelude.{ℕ, List, ◌++◌}
use Rattle.prelude.specs.PrimitivesText.{primitives_text}
use Rattle.prelude.specs.NumbersText.{numbers_text}
use Rattle.prelude.specs.CharactersText.{characters_text}
use Rattle.prelude.specs.ListsText.{lists_text}
use Rattle.prelude.specs.SequencesText.{sequences_text}
use Rattle.prelude.specs.StreamsText.{streams_text}

unfoldable pub prelude_text : List ℕ
prelude_text =
    primitives_text ++ numbers_text ++ characters_text ++ lists_text ++ sequences_text ++ streams_text
