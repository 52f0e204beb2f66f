use Rattle.std.proofs.Common.{refl}
use Rattle.prelude.specs.Text.{prelude_text}
use Rattle.prelude.specs.PrimitivesText.{primitives_text}
use Rattle.prelude.specs.NumbersText.{numbers_text}
use Rattle.prelude.specs.CharactersText.{characters_text}
use Rattle.prelude.specs.ListsText.{lists_text}
use Rattle.prelude.specs.SequencesText.{sequences_text}
use Rattle.prelude.specs.StreamsText.{streams_text}
use Rattle.prelude.proofs.text.prelude_text.Goals as goal

pub returns : goal.returns
unfolding prelude_text primitives_text numbers_text characters_text lists_text sequences_text streams_text
returns c = refl
