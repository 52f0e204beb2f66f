use Rattle.image.proofs.Wholes.{text_fits}
use Rattle.image.proofs.writing.put_texts.Goals as goal

pub put_text-requires : goal.put_text-requires
put_text-requires c = rw c.text-item.is (text_fits c.args.texts.now c.loop-text.text-index _ c.requires.texts c.loop-text-test.true)
